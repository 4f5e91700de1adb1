-- A block has room for an inode; and the part of a list before the first byte that passes a test.
use Rattle.std.proofs.Common.{◌≡◌, ◌≤◌, ◌≤ℤ◌, inl, inr, ℕ, ℤ, pos, negsuc, List, Bool, length, take, Some, None, sym, subst, arith}
use Rattle.std.specs.Prelude.{position}
use Rattle.std.specs.List.{before_first}
use Rattle.std.proofs.lemmas.Int.{ints}
use Rattle.bfs_inode.specs.Block.{IsBlock}
use Rattle.bfs_inode.specs.Refusals.{IsInode, IsRefusal}
use Rattle.bfs_inode.specs.declared.fault.InodeFault.{InodeFault}
use Rattle.bfs_inode.specs.declared.fault.InodeFault.TheVariants as faults
use Rattle.bfs_super.specs.Conditions.{IsValid, natural}
use Rattle.bfs_super.specs.Geometry.{IsBlockSize}
use Rattle.bfs_super.specs.declared.sup.Super.{Super}
use Rattle.bfs_super.proofs.Names as names
use Rattle.bfs_stream.proofs.Sized.{valid_sizes}

least_of : (n : ℕ) → IsBlockSize n → 1024 ≤ n
least_of n (inl e) = omega (arith, e)
least_of n (inr (inl e)) = omega (arith, e)
least_of n (inr (inr (inl e))) = omega (arith, e)
least_of n (inr (inr (inr e))) = omega (arith, e)

pub least_bytes : (s : Super) → IsValid s → 1024 ≤ s.block_size
least_bytes s valid = least_of s.block_size (valid_sizes s valid).block_size

-- a group has at most 2^16 blocks
shift_in : (z : ℤ) → z ≤ℤ pos 16 → natural z ≤ 16
shift_in (pos n) low = omega (arith, ints, low)
shift_in (negsuc n) low = omega arith

pub small_shift : (s : Super) → IsValid s → natural s.ag_shift ≤ 16
small_shift s valid = shift_in s.ag_shift valid.groups.0.2

-- bytes that are as many as a block has
pub block_is : (s : Super) → IsValid s → (b : List ℕ) → length b ≡ s.block_size → IsBlock b
block_is s valid b long = subst IsBlockSize (sym long) (valid_sizes s valid).block_size

-- an inode is refused for nothing
pub not_refused : (b : List ℕ) (n shift : ℕ) (fault : InodeFault) → IsRefusal b n shift fault → IsInode b n shift → ⊥
not_refused b n shift (faults.Magic found) r i = r.0 i.magic
not_refused b n shift (faults.Number found) r i = r.1 i.number_is
not_refused b n shift (faults.NotInUse flags) r i = r.2 i.in_use
not_refused b n shift (faults.Size found) r i = r.3 i.size

pub cut_at : (p : ℕ → Bool) (xs : List ℕ) (end : ℕ) → position p xs ≡ Some end → take end xs ≡ before_first p xs
cut_at = names.cut_at

pub not_cut : (p : ℕ → Bool) (xs : List ℕ) → position p xs ≡ None → xs ≡ before_first p xs
not_cut = names.not_cut
