-- The blocks of a volume have room for an inode, and its groups are few.
use Rattle.std.proofs.Common.{◌≡◌, ◌≤◌, ◌≤ℤ◌, inl, inr, ℕ, ℤ, pos, negsuc, List, [], length, Option, Some, None, true, false, sym, subst, arith}
use Rattle.std.specs.Prelude.{IsSome, IfSome, unwrap_or}
use Rattle.std.proofs.lemmas.Int.{ints}
use Rattle.bfs_inode.specs.Block.{IsBlock}
use Rattle.bfs_super.specs.Conditions.{IsValid, natural}
use Rattle.bfs_super.specs.Geometry.{IsBlockSize}
use Rattle.bfs_super.specs.declared.sup.Super.{Super}
use Rattle.bfs_stream.proofs.Sized.{valid_sizes}
use Rattle.bfs_stream.specs.Told.{contents}
use Rattle.bfs_txn.specs.Told.{AreOfBlock}

least_of : (n : ℕ) → IsBlockSize n → 1024 ≤ n
least_of n (inl e) = omega (arith, e)
least_of n (inr (inl e)) = omega (arith, e)
least_of n (inr (inr (inl e))) = omega (arith, e)
least_of n (inr (inr (inr e))) = omega (arith, e)

pub least_bytes : (s : Super) → IsValid s → 1024 ≤ s.block_size
least_bytes s valid = least_of s.block_size (valid_sizes s valid).block_size

shift_in : (z : ℤ) → z ≤ℤ pos 16 → natural z ≤ 16
shift_in (pos n) low = omega (arith, ints, low)
shift_in (negsuc n) low = omega arith

-- a group has at most 2^16 blocks
pub small_shift : (s : Super) → IsValid s → natural s.ag_shift ≤ 16
small_shift s valid = shift_in s.ag_shift valid.groups.0.2

-- bytes that are as many as a block has
pub block_is : (s : Super) → IsValid s → (b : List ℕ) → length b ≡ s.block_size → IsBlock b
block_is s valid b long = subst IsBlockSize (sym long) (valid_sizes s valid).block_size

told_here : (o : Option (List ℕ)) (bytes : List ℕ) → IsSome o → IfSome o (λ b. bytes ≡ b) → bytes ≡ unwrap_or o []
told_here None bytes some h = let bad : false ≡ true = some in cc
told_here (Some b) bytes some h = h

-- the bytes that were read of a block that is told
pub contents_at : (told : Option (ℕ → Option (List ℕ))) (m : ℕ → Option (List ℕ)) (k : ℕ) (bytes : List ℕ) → told ≡ Some m → IsSome (m k) → AreOfBlock told k bytes → bytes ≡ contents m k
contents_at told m k bytes is some read = told_here (m k) bytes some (subst (λ (o : Option (ℕ → Option (List ℕ))). AreOfBlock o k bytes) is read)
