-- The parts of a sector, written one after the other.
use Rattle.std.proofs.Common.{◌≡◌, ℕ, ◌+◌, List, ◌++◌, length, ◌∙◌, ap, arith, length-append}
use Rattle.std.proofs.lemmas.List.{drop_all, append-nil}
use Rattle.bfs_bytes.specs.Fields.{Puts, unsigned_bytes, signed32_bytes, signed64_bytes, run_bytes}
use Rattle.bfs_bytes.proofs.Lengths.{length-unsigned_bytes, length-signed32_bytes, length-signed64_bytes, length-run_bytes}
use Rattle.bfs_bytes.proofs.Puts.{puts_then}
use Rattle.bfs_super.specs.declared.sup.Super.{Super}
use Rattle.bfs_super.specs.Layout.{sizes_of, groups_of, places_of}

pub length-sizes_of : (s : Super) → length (sizes_of s) ≡ 32
unfolding sizes_of
length-sizes_of s = omega (arith, length-signed32_bytes s.magic1, length-signed32_bytes s.fs_byte_order, length-unsigned_bytes 4 s.block_size, length-unsigned_bytes 4 s.block_shift, length-signed64_bytes s.num_blocks, length-signed64_bytes s.used_blocks, length-append (signed32_bytes s.magic1) (signed32_bytes s.fs_byte_order), length-append (signed32_bytes s.magic1 ++ signed32_bytes s.fs_byte_order) (unsigned_bytes 4 s.block_size), length-append (signed32_bytes s.magic1 ++ signed32_bytes s.fs_byte_order ++ unsigned_bytes 4 s.block_size) (unsigned_bytes 4 s.block_shift), length-append (signed32_bytes s.magic1 ++ signed32_bytes s.fs_byte_order ++ unsigned_bytes 4 s.block_size ++ unsigned_bytes 4 s.block_shift) (signed64_bytes s.num_blocks), length-append (signed32_bytes s.magic1 ++ signed32_bytes s.fs_byte_order ++ unsigned_bytes 4 s.block_size ++ unsigned_bytes 4 s.block_shift ++ signed64_bytes s.num_blocks) (signed64_bytes s.used_blocks))

pub length-groups_of : (s : Super) → length (groups_of s) ≡ 24
unfolding groups_of
length-groups_of s = omega (arith, length-signed32_bytes s.inode_size, length-signed32_bytes s.magic2, length-signed32_bytes s.blocks_per_ag, length-signed32_bytes s.ag_shift, length-signed32_bytes s.num_ags, length-signed32_bytes s.flags, length-append (signed32_bytes s.inode_size) (signed32_bytes s.magic2), length-append (signed32_bytes s.inode_size ++ signed32_bytes s.magic2) (signed32_bytes s.blocks_per_ag), length-append (signed32_bytes s.inode_size ++ signed32_bytes s.magic2 ++ signed32_bytes s.blocks_per_ag) (signed32_bytes s.ag_shift), length-append (signed32_bytes s.inode_size ++ signed32_bytes s.magic2 ++ signed32_bytes s.blocks_per_ag ++ signed32_bytes s.ag_shift) (signed32_bytes s.num_ags), length-append (signed32_bytes s.inode_size ++ signed32_bytes s.magic2 ++ signed32_bytes s.blocks_per_ag ++ signed32_bytes s.ag_shift ++ signed32_bytes s.num_ags) (signed32_bytes s.flags))

pub length-places_of : (s : Super) → length (places_of s) ≡ 44
unfolding places_of
length-places_of s = omega (arith, length-run_bytes s.log_blocks, length-signed64_bytes s.log_start, length-signed64_bytes s.log_end, length-signed32_bytes s.magic3, length-run_bytes s.root_dir, length-run_bytes s.indices, length-append (run_bytes s.log_blocks) (signed64_bytes s.log_start), length-append (run_bytes s.log_blocks ++ signed64_bytes s.log_start) (signed64_bytes s.log_end), length-append (run_bytes s.log_blocks ++ signed64_bytes s.log_start ++ signed64_bytes s.log_end) (signed32_bytes s.magic3), length-append (run_bytes s.log_blocks ++ signed64_bytes s.log_start ++ signed64_bytes s.log_end ++ signed32_bytes s.magic3) (run_bytes s.root_dir), length-append (run_bytes s.log_blocks ++ signed64_bytes s.log_start ++ signed64_bytes s.log_end ++ signed32_bytes s.magic3 ++ run_bytes s.root_dir) (run_bytes s.indices))

-- all bytes, one part after the other
pub all_put : (zeros name sizes groups places rest b1 b2 b3 b4 b5 : List ℕ) → length zeros ≡ 512
    → length name ≡ 32 → length sizes ≡ 32 → length groups ≡ 24 → length places ≡ 44 → length rest ≡ 380
    → Puts 0 name zeros b1 → Puts 32 sizes b1 b2 → Puts 64 groups b2 b3 → Puts 88 places b3 b4 → Puts 132 rest b4 b5
    → b5 ≡ name ++ sizes ++ groups ++ places ++ rest
all_put zeros name sizes groups places rest b1 b2 b3 b4 b5 lz l1 l2 l3 l4 l5 p1 p2 p3 p4 p5 =
    let n2 : length (name ++ sizes) ≡ 64 = length-append name sizes ∙ omega (arith, l1, l2) in
    let n3 : length (name ++ sizes ++ groups) ≡ 88 = length-append (name ++ sizes) groups ∙ omega (arith, n2, l3) in
    let n4 : length (name ++ sizes ++ groups ++ places) ≡ 132 = length-append (name ++ sizes ++ groups) places ∙ omega (arith, n3, l4) in
    let n5 : length (name ++ sizes ++ groups ++ places ++ rest) ≡ 512 = length-append (name ++ sizes ++ groups ++ places) rest ∙ omega (arith, n4, l5) in
    let q2 = puts_then 0 32 name sizes zeros b1 b2 (omega (arith, l1)) (omega (arith, l2, lz)) p1 p2 in
    let q3 = puts_then 0 64 (name ++ sizes) groups zeros b2 b3 (omega (arith, n2)) (omega (arith, l3, lz)) q2 p3 in
    let q4 = puts_then 0 88 (name ++ sizes ++ groups) places zeros b3 b4 (omega (arith, n3)) (omega (arith, l4, lz)) q3 p4 in
    let q5 = puts_then 0 132 (name ++ sizes ++ groups ++ places) rest zeros b4 b5 (omega (arith, n4)) (omega (arith, l5, lz)) q4 p5 in
    q5 ∙ ap (λ (l : List ℕ). name ++ sizes ++ groups ++ places ++ rest ++ l) (drop_all (0 + length (name ++ sizes ++ groups ++ places ++ rest)) zeros (omega (arith, n5, lz))) ∙ append-nil (name ++ sizes ++ groups ++ places ++ rest)
