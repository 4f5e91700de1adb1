-- How many steps a name takes at most, and small facts of the loop.
use Rattle.std.proofs.Common.{◌≡◌, ◌≤◌, ◌<◌, ◌-◌, ◌∙◌, ℕ, suc, ap, sym, subst, arith}
use Rattle.bfs_bitmap.specs.Runs.{Room}
use Rattle.bfs_node.specs.declared.fault.TreeFault.{TreeFault}
use Rattle.bfs_node.specs.declared.fault.TreeFault.TheVariants.{Pages}
use Rattle.bfs_txn.specs.Faults.{Counts}
use Rattle.bfs_txn.specs.declared.fault.BlockFault.TheVariants as block
use Rattle.bfs_stream.specs.declared.fault.GrowFault.{GrowFault}
use Rattle.bfs_stream.specs.declared.fault.GrowFault.TheVariants as grow
use Rattle.bfs_attrs.specs.Stored.{HasAddCause}

pub few_below : (size n : ℕ) → 1024 ≤ size → n ≤ size - 232 → n < size
few_below size n some few = omega (arith, some, few)

pub one_left : (left : ℕ) → 0 < left → 1 ≤ left
one_left left some = omega (arith, some)

pub less_left : (left : ℕ) → 0 < left → left - 1 < left
less_left left some = omega (arith, some)

pub back_left : (left : ℕ) → 0 < left → suc (left - 1) ≡ left
back_left left some = omega (arith, some)

pub none_left_over : (n left : ℕ) → n < left → left ≤ 0 → ⊥
none_left_over n left few none = omega (arith, few, none)

-- only the tally of a bitmap has changed, in two steps
pub rest_twice : (v mid now : Room) → mid ≡ record v { tally = mid.tally } → now ≡ record mid { tally = now.tally } → now ≡ record v { tally = now.tally }
rest_twice v mid now first second = second ∙ ap (λ (x : Room). let r : Room = record x { tally = now.tally } in r) first

-- a damaged block has its cause in its bytes
pub damaged_added : (old new : Counts) (id : ℕ) (result : TreeFault GrowFault) → result ≡ Pages (grow.Block (block.Damaged id)) → (n : ℕ) → HasAddCause n old new result
damaged_added old new id result is n = subst (HasAddCause n old new) (sym is) tt
