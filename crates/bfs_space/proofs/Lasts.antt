-- Where the last hold of a session on a node stands.
use Rattle.std.proofs.Common.{◌≡◌, ◌<◌, ℕ, zero, suc, List, [], ◌∷◌, Some, None, Bool, true, false, cond, length, get_or, drop, refl, ap, ◌∙◌, arith}
use Rattle.std.specs.Prelude.{◌||◌}
use Rattle.std.specs.List.{list_any, remove}
use Rattle.bfs_tree.specs.declared.state.Hold.{Hold}
use Rattle.bfs_tree.specs.States.{last_hold, without_last, is_hold_of}

some_is : (p : Hold → Bool) (hs : List Hold) (i : ℕ) (d : Hold) → i < length hs → p (get_or hs i d) ≡ true → list_any p hs ≡ true
some_is p [] i d short here = absurd (omega arith)
some_is p (h ∷ hs) zero d short here = ap (λ (b : Bool). b || list_any p hs) here
some_is p (h ∷ hs) (suc i) d short here = ap (λ (b : Bool). p h || b) (some_is p hs i d (omega arith) here) ∙ right (p h)
  where
    right : (b : Bool) → (b || true) ≡ true
    right true = refl
    right false = refl

-- none is the session's
pub no_last : (hs : List Hold) (session id : ℕ) → list_any (is_hold_of session id) hs ≡ false → last_hold hs session id ≡ None
no_last [] session id none = refl
no_last (h ∷ hs) session id none = by (is_hold_of session id h) (list_any (is_hold_of session id) hs) none
  where
    by : (a b : Bool) → (a || b) ≡ false → cond b (last_hold hs session id) (cond a (Some h) None) ≡ None
    by true b is = absurd (let bad : true ≡ false = is in cc)
    by false true is = absurd (let bad : true ≡ false = is in cc)
    by false false is = refl

-- one at a place is, and none behind it
pub last_is : (hs : List Hold) (session id i : ℕ) (d : Hold) → i < length hs → is_hold_of session id (get_or hs i d) ≡ true → list_any (is_hold_of session id) (drop (suc i) hs) ≡ false → last_hold hs session id ≡ Some (get_or hs i d)
last_is [] session id i d short here none = absurd (omega arith)
last_is (h ∷ hs) session id zero d short here none =
    ap (λ (b : Bool). cond b (last_hold hs session id) (cond (is_hold_of session id h) (Some h) None)) none ∙ ap (λ (b : Bool). cond b (Some h) None) here
last_is (h ∷ hs) session id (suc i) d short here none =
    let less : i < length hs = omega arith in
    ap (λ (b : Bool). cond b (last_hold hs session id) (cond (is_hold_of session id h) (Some h) None)) (some_is (is_hold_of session id) hs i d less here) ∙ last_is hs session id i d less here none

pub without_is : (hs : List Hold) (session id i : ℕ) (d : Hold) → i < length hs → is_hold_of session id (get_or hs i d) ≡ true → list_any (is_hold_of session id) (drop (suc i) hs) ≡ false → without_last hs session id ≡ remove hs i
without_is [] session id i d short here none = absurd (omega arith)
without_is (h ∷ hs) session id zero d short here none =
    ap (λ (b : Bool). cond b (h ∷ without_last hs session id) (cond (is_hold_of session id h) hs (h ∷ hs))) none ∙ ap (λ (b : Bool). cond b hs (h ∷ hs)) here
without_is (h ∷ hs) session id (suc i) d short here none =
    let less : i < length hs = omega arith in
    ap (λ (b : Bool). cond b (h ∷ without_last hs session id) (cond (is_hold_of session id h) hs (h ∷ hs))) (some_is (is_hold_of session id) hs i d less here)
    ∙ ap (λ (l : List Hold). h ∷ l) (without_is hs session id i d less here none)
