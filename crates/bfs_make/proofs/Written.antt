-- A block that was written, and what stays beside it.
use Rattle.std.proofs.Common.{◌≡◌, ◌≢◌, ◌≤◌, ◌<◌, ◌-◌, ◌*◌, ℕ, List, Bool, true, false, cond, Option, Some, refl, ap, subst, arith}
use Rattle.std.specs.Prelude.{◌==◌, IsSome}
use Rattle.bfs_bitmap.specs.Runs.{Room, per_block}
use Rattle.bfs_txn.specs.Told.{with_block}
use Rattle.bfs_stream.specs.Grown.{IsOutside}
use Rattle.bfs_stream.proofs.Equal.{same_test}
use Rattle.bfs_stream_pages.proofs.Writing.{is_equal}

-- a block that was written, and the others
pub block_here : (m : ℕ → Option (List ℕ)) (id : ℕ) (block : List ℕ) → with_block id block m id ≡ Some block
block_here m id block = ap (λ (b : Bool). cond b (Some block) (m id)) (same_test id)

pub block_other : (m : ℕ → Option (List ℕ)) (id : ℕ) (block : List ℕ) (k : ℕ) → k ≢ id → with_block id block m k ≡ m k
block_other m id block k apart = by_test (k == id) refl
  where
    by_test : (b : Bool) → (k == id) ≡ b → cond b (Some block) (m k) ≡ m k
    by_test true e = absurd (apart (is_equal k id e))
    by_test false e = refl

pub block_told : (m : ℕ → Option (List ℕ)) (id : ℕ) (block : List ℕ) (k : ℕ) → IsSome (m k) → IsSome (with_block id block m k)
block_told m id block k some = by_test (k == id)
  where
    by_test : (b : Bool) → IsSome (cond b (Some block) (m k))
    by_test true = refl
    by_test false = some

module _ (v : Room) (m : ℕ → Option (List ℕ)) (id : ℕ) (block : List ℕ) (out : IsOutside v id) where
  abbrev map : ℕ → Option (List ℕ)
  map = with_block id block m

  -- no block with bits was written
  pub bits_stay : (b : ℕ) → per_block v * (b - 1) < v.blocks → map b ≡ m b
  bits_stay b low = block_other m id block b (λ e.
      let here : per_block v * (id - 1) < v.blocks = subst (λ (k : ℕ). per_block v * (k - 1) < v.blocks) e low in
      let far : v.blocks ≤ per_block v * (id - 1) = out in
      omega (arith, here, far))
