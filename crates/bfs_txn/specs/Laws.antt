-- What an `impl Blocks` shows of the traits' laws: what is told of a block has a block's length, and changes tell where
-- what lies below does.
use Rattle.std.proofs.Common.{◌≡◌, ◌≤◌, ◌+◌, ◌*◌, ℕ, zero, suc, List, [], ◌∷◌, length, take, drop, Option, Some, None, IfSome, Bool, true, false, cond, refl, arith, ◌==◌, nat_le, length-drop, length-take-le}
use Rattle.std.specs.Option.{option_map}
use Rattle.bfs_txn.specs.Changed.{newest, over, or_else, AreOfSize, AreLayered}
use Rattle.bfs_txn.specs.Told.{AreSized, TellsOver, blocks_of}

-- what is newest is some pair's bytes
pub newest_sized : (size : ℕ) (ps : List (ℕ × List ℕ)) (k : ℕ) → AreOfSize size ps → IfSome (newest ps k) (λ bytes. length bytes ≡ size)
newest_sized size [] k sized = tt
newest_sized size (p ∷ ps) k sized = by_rest (newest ps k) (newest_sized size ps k (λ i h. sized (suc i) (omega arith)))
  where
    here : (t : Bool) → IfSome (cond t (Some p.1) None) (λ bytes. length bytes ≡ size)
    here true = sized zero (omega arith)
    here false = tt

    by_rest : (r : Option (List ℕ)) → IfSome r (λ bytes. length bytes ≡ size) → IfSome (or_else r (cond (k == p.0) (Some p.1) None)) (λ bytes. length bytes ≡ size)
    by_rest (Some y) h = h
    by_rest None h = here (k == p.0)

either_sized : (size : ℕ) (a b : Option (List ℕ)) → IfSome a (λ bytes. length bytes ≡ size) → IfSome b (λ bytes. length bytes ≡ size) → IfSome (or_else a b) (λ bytes. length bytes ≡ size)
either_sized size None b h g = g
either_sized size (Some x) b h g = h

pub over_sized : (mark size : ℕ) (ps : List (ℕ × List ℕ)) (told : Option (ℕ → Option (List ℕ))) → AreLayered mark size ps → AreSized size told → AreSized size (option_map (over ps) told)
over_sized mark size ps None layered sized = tt
over_sized mark size ps (Some m) layered sized = λ k. either_sized size (newest ps k) (m k) (newest_sized size ps k layered.sized) (sized k)

pub memory_sized : (size : ℕ) (bytes : List ℕ) → AreSized size (Some (blocks_of size bytes))
memory_sized size bytes k = by_test (nat_le (size * k + size) (length bytes)) (λ h. grind (arith, h))
  where
    by_test : (t : Bool) → (t ≡ true → size * k + size ≤ length bytes) → IfSome (cond t (Some (take size (drop (size * k) bytes))) None) (λ b. length b ≡ size)
    by_test true h = let le : size * k + size ≤ length bytes = h refl in length-take-le size (drop (size * k) bytes) (omega (arith, length-drop (size * k) bytes))
    by_test false h = tt

pub over_tells : (ps : List (ℕ × List ℕ)) (told : Option (ℕ → Option (List ℕ))) → TellsOver (option_map (over ps) told) told
over_tells ps None = refl
over_tells ps (Some m) = refl
