use Rattle.std.proofs.Common.{◌≡◌, ℕ, List, true, false, Result, Ok, Err, refl, sym, ◌∙◌, MatchResult}
use Rattle.std.specs.Result.{is_ok}
use Rattle.std.specs.Str.{is_utf8, IsUtf8}
use Rattle.std.proofs.lemmas.Str.{IsUtf8-from_is_utf8, is_utf8-from_IsUtf8}
use Rattle.bfs_tree.proofs.names.is_utf8.Goals as goal

not_utf8 : (bs : List ℕ) → (IsUtf8 bs → ⊥) → false ≡ is_utf8 bs
not_utf8 bs never = elim (is_utf8 bs) as (λ b. is_utf8 bs ≡ b → false ≡ b) [ true ↦ λ e. absurd (never (IsUtf8-from_is_utf8 bs e)) | false ↦ λ e. refl ] refl

tested : {A E : Type 0} (P : A → Type 0) (Q : E → Type 0) (bs : List ℕ) (r : Result A E) → MatchResult r (λ s. P s × IsUtf8 bs) (λ e. (IsUtf8 bs → ⊥) × Q e) → is_ok r ≡ is_utf8 bs
tested P Q bs (Ok s) h = sym (is_utf8-from_IsUtf8 bs h.1)
tested P Q bs (Err e) h = not_utf8 bs h.0

pub returns : goal.returns
returns c = c.is_ok.ensures.value ∙ tested _ _ c.args.bytes.now c.from_utf8.result c.from_utf8.ensures.cases
