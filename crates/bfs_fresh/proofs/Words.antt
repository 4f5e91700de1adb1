-- What signed fields say of the bytes.
use Rattle.std.proofs.Common.{◌≡◌, ◌-◌, ℕ, suc, pos, negsuc, Bool, true, false, cond, List}
use Rattle.std.specs.Prelude.{nat_lt}
use Rattle.bfs_bytes.specs.Fields.{unsigned_at, signed32_at}

-- a signed field that isn't negative says which number its four bytes are
positive : (b : Bool) (n k m : ℕ) → cond b (pos n) (negsuc k) ≡ pos m → n ≡ m
positive true n k m e = cc
positive false n k m e = let bad : negsuc k ≡ pos m = e in cc

pub unsigned_of : (bytes : List ℕ) (at m : ℕ) → signed32_at bytes at ≡ pos m → unsigned_at 4 bytes at ≡ m
unfolding signed32_at
unsigned_of bytes at m is = positive (nat_lt (unsigned_at 4 bytes at) 2147483648) (unsigned_at 4 bytes at) (4294967296 - suc (unsigned_at 4 bytes at)) m is
