-- The last hold of a session on a node.
use Rattle.std.proofs.Common.{◌≡◌, ◌<◌, ℕ, zero, suc, List, [], ◌∷◌, Option, Some, None, Bool, true, false, cond, length, get_or, drop, refl, ap, sym, ◌∙◌, arith}
use Rattle.std.specs.Prelude.{if◌then◌else◌}
use Rattle.std.specs.Prelude.{◌||◌}
use Rattle.std.specs.List.{list_any, remove}
use Rattle.std.specs.Option.{IsSome, is_some}
use Rattle.bfs_tree.specs.declared.state.Hold.{Hold}
use Rattle.bfs_tree.specs.States.{last_hold, without_last, is_hold_of}

some_passes : (p : Hold → Bool) (hs : List Hold) (i : ℕ) (d : Hold) → i < length hs → p (get_or hs i d) ≡ true → list_any p hs ≡ true
some_passes p [] i d h e = absurd (omega arith)
some_passes p (x ∷ xs) zero d h e = ap (λ b. b || list_any p xs) e
some_passes p (x ∷ xs) (suc i) d h e = ap (λ b. p x || b) (some_passes p xs i d (omega arith) e) ∙ right (p x)
  where
    right : (b : Bool) → (b || true) ≡ true
    right true = refl
    right false = refl

pub no-last : (hs : List Hold) (session id : ℕ) → list_any (is_hold_of session id) hs ≡ false → last_hold hs session id ≡ None
no-last [] session id e = refl
no-last (x ∷ xs) session id e =
    by (is_hold_of session id x) (list_any (is_hold_of session id) xs) e
  where
    by : (a b : Bool) → (a || b) ≡ false → cond b (last_hold xs session id) (cond a (Some x) None) ≡ None
    by true b h = cc
    by false true h = cc
    by false false h = refl

pub last-at : (hs : List Hold) (session id i : ℕ) (d : Hold) → i < length hs → is_hold_of session id (get_or hs i d) ≡ true → list_any (is_hold_of session id) (drop (suc i) hs) ≡ false → last_hold hs session id ≡ Some (get_or hs i d)
last-at [] session id i d h here none = absurd (omega arith)
last-at (x ∷ xs) session id zero d h here none =
    ap (λ b. cond b (last_hold xs session id) (cond (is_hold_of session id x) (Some x) None)) none ∙ ap (λ b. cond b (Some x) None) here
last-at (x ∷ xs) session id (suc i) d h here none =
    let short : i < length xs = omega arith in
    ap (λ b. cond b (last_hold xs session id) (cond (is_hold_of session id x) (Some x) None)) (some_passes (is_hold_of session id) xs i d short here) ∙ last-at xs session id i d short here none

pub without-at : (hs : List Hold) (session id i : ℕ) (d : Hold) → i < length hs → is_hold_of session id (get_or hs i d) ≡ true → list_any (is_hold_of session id) (drop (suc i) hs) ≡ false → without_last hs session id ≡ remove hs i
without-at [] session id i d h here none = absurd (omega arith)
without-at (x ∷ xs) session id zero d h here none =
    ap (λ b. cond b (x ∷ without_last xs session id) (cond (is_hold_of session id x) xs (x ∷ xs))) none ∙ ap (λ b. cond b xs (x ∷ xs)) here
without-at (x ∷ xs) session id (suc i) d h here none =
    let short : i < length xs = omega arith in
    ap (λ b. cond b (x ∷ without_last xs session id) (cond (is_hold_of session id x) xs (x ∷ xs))) (some_passes (is_hold_of session id) xs i d short here)
    ∙ ap (λ l. x ∷ l) (without-at xs session id i d short here none)

-- where a hold is there, it is not true that none is
pub none-there : (hs : List Hold) (session id : ℕ) → IsSome (last_hold hs session id) → list_any (is_hold_of session id) hs ≡ false → ⊥
none-there hs session id there none = let gone : is_some (last_hold hs session id) ≡ false = ap is_some (no-last hs session id none) in cc

-- the last hold, looking through the list from the front
abbrev pub last_from : ℕ → ℕ → Option Hold → List Hold → Option Hold
last_from session id last [] = last
last_from session id last (h ∷ hs) = last_from session id (if is_hold_of session id h then Some h else last) hs

last-or : (session id : ℕ) (hs : List Hold) (last : Option Hold) → last_from session id last hs ≡ (if list_any (is_hold_of session id) hs then last_hold hs session id else last)
last-or session id [] last = refl
last-or session id (h ∷ hs) last =
    last-or session id hs (if is_hold_of session id h then Some h else last) ∙ by (is_hold_of session id h) (list_any (is_hold_of session id) hs)
  where
    by : (a b : Bool) → cond b (last_hold hs session id) (cond a (Some h) last) ≡ cond (a || b) (cond b (last_hold hs session id) (cond a (Some h) None)) last
    by true true = refl
    by true false = refl
    by false true = refl
    by false false = refl

pub last-found : (session id : ℕ) (hs : List Hold) → last_from session id None hs ≡ last_hold hs session id
last-found session id hs =
    last-or session id hs None
    ∙ elim (list_any (is_hold_of session id) hs) as (λ b. list_any (is_hold_of session id) hs ≡ b → cond b (last_hold hs session id) None ≡ last_hold hs session id) [
      | true ↦ λ _. refl
      | false ↦ λ e. sym (no-last hs session id e)
    ] refl
