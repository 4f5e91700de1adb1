-- Groups whose blocks ascend, and blocks found from the end of a list.
use Rattle.std.proofs.Common.{◌≡◌, ℕ, zero, suc, ◌-◌, ◌<◌, ◌≤◌, ◌==◌, List, [], ◌∷◌, ◌++◌, length, drop, refl, sym, ◌∙◌, ap, arith, Option, Some, None, cond}
use Rattle.std.proofs.lemmas.Bool.{cond-true, eq-eqb}
use Rattle.bfs_txn.specs.Changed.{or_else, newest, number_at, bytes_at, Ascends}
use Rattle.bfs_txn.specs.declared.group.Group.{Group}
use Rattle.bfs_device.specs.Orders.{IsOnce, AllAscend}

-- where they ascend each is there once
pub once_of : (ps : List (ℕ × List ℕ)) → Ascends ps → IsOnce ps
once_of ps ascends = λ i j lt inside same. let low = ascends i j lt inside in omega (arith, low, same)

pub ascend_more : (gs : List Group) (g : Group) → AllAscend gs → Ascends g.blocks → AllAscend (gs ++ g ∷ [])
ascend_more [] g all one = (one, tt)
ascend_more (x ∷ gs) g all one = (all.0, ascend_more gs g all.1 one)

pub ascend_behind : (gs : List Group) → AllAscend gs → AllAscend (drop 1 gs)
ascend_behind [] all = tt
ascend_behind (x ∷ gs) all = all.1

-- the last pair from a place on is the pair there, or one behind it
newest_from : (ps : List (ℕ × List ℕ)) (i k : ℕ) → i < length ps
    → newest (drop i ps) k ≡ or_else (newest (drop (suc i) ps) k) (cond (k == number_at ps i) (Some (bytes_at ps i)) None)
newest_from [] i k lt = absurd (omega arith)
newest_from (p ∷ ps) zero k lt = refl
newest_from (p ∷ ps) (suc i) k lt = newest_from ps i k (omega (arith, lt))

or_some : (a b : Option (List ℕ)) (x : List ℕ) → a ≡ Some x → or_else a b ≡ Some x
or_some None b x is = absurd (cc)
or_some (Some y) b x is = is

-- what is newest from a place on is newest
newest_all : (ps : List (ℕ × List ℕ)) (i k : ℕ) (x : List ℕ) → newest (drop i ps) k ≡ Some x → newest ps k ≡ Some x
newest_all [] zero k x is = is
newest_all [] (suc i) k x is = is
newest_all (p ∷ ps) zero k x is = is
newest_all (p ∷ ps) (suc i) k x is = or_some (newest ps k) (cond (k == p.0) (Some p.1) None) x (newest_all ps i k x is)

pub found_from_end : (ps : List (ℕ × List ℕ)) (i k : ℕ) (x : List ℕ) → 0 < i → i ≤ length ps → newest (drop i ps) k ≡ None → k ≡ number_at ps (i - 1) → x ≡ bytes_at ps (i - 1) → newest ps k ≡ Some x
found_from_end ps zero k x pos le none here is = absurd (omega arith)
found_from_end ps (suc i) k x pos le none here is =
    let one : suc i - 1 ≡ i = omega arith in
    newest_all ps i k x
    (newest_from ps i k (omega (arith, le))
    ∙ ap (λ (o : Option (List ℕ)). or_else o (cond (k == number_at ps i) (Some (bytes_at ps i)) None)) none
    ∙ cond-true (k == number_at ps i) (Some (bytes_at ps i)) None (eq-eqb k (number_at ps i) (here ∙ ap (number_at ps) one))
    ∙ ap Some (sym (is ∙ ap (bytes_at ps) one)))
