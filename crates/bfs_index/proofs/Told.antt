-- What results come to.
use Rattle.std.proofs.Common.{◌≡◌, inl, inr, ◌+◌, ◌%◌, ℕ, List, length, true, Option, Some, sym, ◌∙◌, ap, subst, arith}
use Rattle.std.specs.Prelude.{Result, Ok, Err, OnOk, IfErr, IfSome, MatchResult}
use Rattle.bfs_pages.specs.Answers.{IsChild}
use Rattle.bfs_pages.specs.Trees.{is_place}
use Rattle.bfs_pages.specs.Writes.{IsGrown, Kept}
use Rattle.bfs_pages.proofs.Later.{later-twice}
use Rattle.bfs_txn.specs.Faults.{Counts}
use Rattle.bfs_txn.specs.Pages.{HasLength}

-- whole pages of a told stream
pub told_pages : (told : Option (List ℕ)) (size : ℕ) (b : List ℕ) → HasLength told size → size % 1024 ≡ 0 → told ≡ Some b → length b % 1024 ≡ 0
told_pages told size b h w e = ap (λ n. n % 1024) (subst (λ (o : Option (List ℕ)). IfSome o (λ b. length b ≡ size)) e h) ∙ w

-- a page stays one where the stream has grown
pub child_grown : (n m x : ℕ) → IsGrown n m → IsChild n x → IsChild m x
child_grown n m x (inl e) c = subst (λ z. IsChild z x) (sym e) c
child_grown n m x (inr e) c = (c.0, place n m x e c.1)
  where
    place : (n m x : ℕ) → m ≡ n + 1024 → is_place n x ≡ true → is_place m x ≡ true
    place n m x e h = grind (arith, e, h)

-- what holds of a result in two ways
pub match_both : {T F : Type 0} (P R : T → Type 0) (Q S : F → Type 0) (A : Type 0) (r : Result T F) → MatchResult r P Q → OnOk r A → ((x : T) → P x → A → R x) → ((e : F) → Q e → S e) → MatchResult r R S
match_both P R Q S A (Ok x) is also f g = f x is also
match_both P R Q S A (Err e) is also f g = g e is

pub on_ok_if : {T F : Type 0} (A B : Type 0) (r : Result T F) → (A → OnOk r B) → OnOk r (A → B)
on_ok_if A B (Ok x) f = f
on_ok_if A B (Err e) f = tt

pub same_told : (told : Option (List ℕ)) (b c : List ℕ) → told ≡ Some b → told ≡ Some c → c ≡ b
same_told told b c e f = some (sym f ∙ e)
  where
    some : Some c ≡ Some b → c ≡ b
    some e = cc

pub on_err : {T F : Type 0} (P Q : F → Type 0) (r : Result T F) → IfErr r P → ((e : F) → P e → Q e) → IfErr r Q
on_err P Q (Ok x) is f = tt
on_err P Q (Err e) is f = f e is

pub on_ok_told : {T F : Type 0} (new mid : Option (List ℕ)) (b : List ℕ) (r : Result T F) → OnOk r (new ≡ mid) → mid ≡ Some b → OnOk r (new ≡ Some b)
on_ok_told new mid b (Ok x) e f = e ∙ f
on_ok_told new mid b (Err e) h f = tt

-- what calls keep that follow one another
pub kept_twice : {a b c : Counts} {f g h : List ℕ} {on more all : Type 0} → Kept a b f g on → Kept b c g h more → (on → more → all) → Kept a c f h all
kept_twice s r both = record { counts = later-twice s.counts r.counts; frame_is = r.frame_is ∙ s.frame_is; goes_on = both s.goes_on r.goes_on }
