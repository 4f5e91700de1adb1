-- A bad line is one at which a limit is passed, or one that isn't in the grammar.
use Rattle.std.proofs.Common.{◌≡◌, ◌<◌, ◌-◌, ℕ, zero, suc, List, [], ◌∷◌, ◌++◌, get_or, length, length-take, length-drop, drop, Bool, true, false, ◌||◌, ◌==◌, nat_lt, Option, Some, None, refl, ap, ◌∙◌, arith}
use Rattle.std.specs.List.{All}
use Rattle.std.proofs.lemmas.List.Elements.{All-append}
use Rattle.bfs_command.specs.declared.command.Command.{Command}
use Rattle.bfs_command.specs.declared.spoken.LineKind.TheVariants as kinds
use Rattle.bfs_command.specs.Grammar.{said, line_kind}
use Rattle.bfs_script.specs.declared.script.Place.{Place}
use Rattle.bfs_script.specs.Scripts.{is_silent, is_bad}
use Rattle.bfs_script.specs.Places.{between, passes_limit, IsPlace, IsLineEnd}

length_between : (bytes : List ℕ) (start end : ℕ) → IsLineEnd bytes start end → length (between start end bytes) ≡ end - start
length_between bytes start end at =
    let low = at.behind in
    let high = at.inside in
    let all = length-drop start bytes in
    let some = length-take (end - start) (drop start bytes) in
    omega (arith, low, high, all, some)

or_assoc : (a b c d : Bool) → (a || (b || (c || d))) ≡ ((a || (b || c)) || d)
or_assoc true b c d = refl
or_assoc false true c d = refl
or_assoc false false c d = refl

bad_is : (far number : ℕ) (bytes : List ℕ) (start end : ℕ) → IsLineEnd bytes start end → is_bad far number (between start end bytes) ≡ (passes_limit far number (end - start) || is_silent (said (between start end bytes)))
bad_is far number bytes start end at =
    ap (λ (n : ℕ). (number == far) || (nat_lt 1048576 number || (nat_lt 4096 n || is_silent (said (between start end bytes))))) (length_between bytes start end at)
    ∙ or_assoc (number == far) (nat_lt 1048576 number) (nat_lt 4096 (end - start)) (is_silent (said (between start end bytes)))

module _ (far number : ℕ) (bytes : List ℕ) (start end : ℕ) (at : IsLineEnd bytes start end) where
  pub over_is_bad : passes_limit far number (end - start) ≡ true → is_bad far number (between start end bytes) ≡ true
  over_is_bad over = bad_is far number bytes start end at ∙ ap (λ (t : Bool). t || is_silent (said (between start end bytes))) over

  pub silent_is_bad : said (between start end bytes) ≡ None → is_bad far number (between start end bytes) ≡ true
  silent_is_bad silent = bad_is far number bytes start end at ∙ ap (λ (o : Option (Option (ℕ × Command))). passes_limit far number (end - start) || is_silent o) silent ∙ or_true (passes_limit far number (end - start))
    where
      or_true : (t : Bool) → (t || true) ≡ true
      or_true true = refl
      or_true false = refl

  pub said_is_good : (x : Option (ℕ × Command)) → passes_limit far number (end - start) ≡ false → said (between start end bytes) ≡ Some x → is_bad far number (between start end bytes) ≡ false
  said_is_good x under says =
      bad_is far number bytes start end at ∙ ap (λ (t : Bool). t || is_silent (said (between start end bytes))) under ∙ ap is_silent says

  pub place_more : (places : List Place) → line_kind (said (between start end bytes)) ≡ kinds.Command → All (IsPlace bytes) places → All (IsPlace bytes) (places ++ record { number = number; start = start; end = end } ∷ [])
  place_more places command all =
      All-append (IsPlace bytes) places (record { number = number; start = start; end = end } ∷ []) all (λ k d lt. one k d lt)
    where
      one : (k : ℕ) (d : Place) → k < 1 → IsPlace bytes (get_or (record { number = number; start = start; end = end } ∷ []) k d)
      one zero d lt = record { ordered = at.behind; inside = at.inside; command = command }
      one (suc k) d lt = absurd (omega (arith, lt))
