-- A stream without blocks has room for a few.
use Rattle.std.proofs.Common.{◌≡◌, ◌≤◌, ◌+◌, ◌-◌, ◌*◌, ◌/◌, ◌++◌, inl, inr, ℕ, List, length, length-append, sym, ap, subst, arith, max, Option}
use Rattle.std.proofs.Math.Nat.{mul-div-le}
use Rattle.bfs_super.specs.Conditions.{IsValid, ceil}
use Rattle.bfs_super.specs.Geometry.{IsBlockSize}
use Rattle.bfs_super.specs.declared.sup.Super.{Super}
use Rattle.bfs_inode.specs.Inode.{stream_at}
use Rattle.bfs_stream.specs.Grown.{room_at}
use Rattle.bfs_stream.specs.Places.{levels_at, level_blocks}
use Rattle.bfs_stream.specs.Sizes.{Sizes, sizes_of, array_length, table_length}
use Rattle.bfs_stream.specs.Told.{contents}
use Rattle.bfs_txn.specs.Faults.{Counts, IsCauseOf}
use Rattle.bfs_txn.specs.declared.fault.BlockFault.{BlockFault}
use Rattle.bfs_txn.specs.declared.fault.BlockFault.TheVariants.{Disk, Stopped, Damaged, NoMemory}
use Rattle.bfs_stream.specs.Scans.{IsDamage}
use Rattle.bfs_stream.proofs.Sized.{valid_sizes}
use Rattle.bfs_fresh.specs.Fresh.{no_stream}
use Rattle.bfs_moves.proofs.Empty.{places_empty}

-- an array of each size has room for many runs
many_runs : (n : ℕ) → IsBlockSize n → 2 ≤ max 1 (4096 / n) * ((max 1 (4096 / n) * (n / 8)) * (max 1 (4096 / n) * (n / 8)))
many_runs n (inl e) = subst (λ (k : ℕ). 2 ≤ max 1 (4096 / k) * ((max 1 (4096 / k) * (k / 8)) * (max 1 (4096 / k) * (k / 8)))) (sym e) (omega arith)
many_runs n (inr (inl e)) = subst (λ (k : ℕ). 2 ≤ max 1 (4096 / k) * ((max 1 (4096 / k) * (k / 8)) * (max 1 (4096 / k) * (k / 8)))) (sym e) (omega arith)
many_runs n (inr (inr (inl e))) = subst (λ (k : ℕ). 2 ≤ max 1 (4096 / k) * ((max 1 (4096 / k) * (k / 8)) * (max 1 (4096 / k) * (k / 8)))) (sym e) (omega arith)
many_runs n (inr (inr (inr e))) = subst (λ (k : ℕ). 2 ≤ max 1 (4096 / k) * ((max 1 (4096 / k) * (k / 8)) * (max 1 (4096 / k) * (k / 8)))) (sym e) (omega arith)

-- so many bytes stand in two blocks of any size
pub two_blocks : (n len : ℕ) → IsBlockSize n → len ≤ 2048 → ceil len n ≤ 2
two_blocks n len size few = by_size size (mul-div-le (len + (n - 1)) n)
  where
    by_size : IsBlockSize n → n * ((len + (n - 1)) / n) ≤ len + (n - 1) → ceil len n ≤ 2
    by_size (inl e) most = let m : 1024 * ceil len n ≤ len + (1024 - 1) = subst (λ (k : ℕ). k * ceil len n ≤ len + (k - 1)) e most in omega (arith, m, few)
    by_size (inr (inl e)) most = let m : 2048 * ceil len n ≤ len + (2048 - 1) = subst (λ (k : ℕ). k * ceil len n ≤ len + (k - 1)) e most in omega (arith, m, few)
    by_size (inr (inr (inl e))) most = let m : 4096 * ceil len n ≤ len + (4096 - 1) = subst (λ (k : ℕ). k * ceil len n ≤ len + (k - 1)) e most in omega (arith, m, few)
    by_size (inr (inr (inr e))) most = let m : 8192 * ceil len n ≤ len + (8192 - 1) = subst (λ (k : ℕ). k * ceil len n ≤ len + (k - 1)) e most in omega (arith, m, few)

enough : (all gone : ℕ) → gone ≡ 0 → 2 ≤ all → 2 ≤ all - gone
enough all gone none some = omega (arith, none, some)

between : (a b : ℕ) → a ≤ 2 → 2 ≤ b → a ≤ b
between a b low up = omega (arith, low, up)

-- a stream without blocks has none under double indirect
no_runs : (s : Sizes) (blocks : ℕ → List ℕ) (id : ℕ) → stream_at (blocks id) ≡ no_stream → length (level_blocks s (levels_at s blocks id).runs) ≡ 0
no_runs s blocks id stream =
    let direct = level_blocks s (levels_at s blocks id).stream.direct in
    let table = level_blocks s (levels_at s blocks id).table in
    let runs = level_blocks s (levels_at s blocks id).runs in
    let all : length (direct ++ (table ++ runs)) ≡ 0 = ap length (places_empty s blocks id stream) in
    let a = length-append direct (table ++ runs) in
    let b = length-append table runs in
    omega (arith, all, a, b)

-- so many bytes have room in a stream without blocks
pub has_room : (s : Super) (m : ℕ → Option (List ℕ)) (id : ℕ) (len : ℕ) → IsValid s → len ≤ 2048 → stream_at (contents m id) ≡ no_stream → ceil len s.block_size ≤ room_at (sizes_of s) (contents m) id
has_room s m id len valid few stream =
    let size : IsBlockSize s.block_size = (valid_sizes s valid).block_size in
    let array = array_length (sizes_of s) in
    let runs = table_length (sizes_of s) in
    let room : 2 ≤ room_at (sizes_of s) (contents m) id = enough (array * (runs * runs)) (length (level_blocks (sizes_of s) (levels_at (sizes_of s) (contents m) id).runs)) (no_runs (sizes_of s) (contents m) id stream) (many_runs s.block_size size) in
    between (ceil len s.block_size) (room_at (sizes_of s) (contents m) id) (two_blocks s.block_size len size few) room

-- a fault that has its cause calls no block damaged
pub undamaged : (old new : Counts) (fault : BlockFault) → IsCauseOf old new fault → ¬ IsDamage fault
undamaged old new (Disk before after) cause is = is
undamaged old new (Stopped durable faults) cause is = is
undamaged old new (Damaged block) cause is = cause
undamaged old new NoMemory cause is = is
