use Rattle.std.proofs.Common.{◌≡◌, ◌++◌, ◌∙◌, ℤ, length, subst, rules, arith, length-append, to_z, of_z, length-append}
use Rattle.std.specs.Int.{w32, w64}
use Rattle.bfs_bytes.specs.Fields.{Puts, unsigned_bytes, signed32_bytes, signed64_bytes}
use Rattle.bfs_bytes.proofs.Lengths.{length-unsigned_bytes, length-signed32_bytes, length-signed64_bytes}
use Rattle.bfs_bytes.proofs.Puts.{puts_then}
use Rattle.bfs_super.specs.Layout.{sizes_of}
use Rattle.bfs_super.proofs.print.put_sizes.Goals as goal

pub returns : goal.returns
unfolding sizes_of
returns c =
    let s = c.args.sup.now in
    let old = c.args.sector.now in
    let z_magic1 : to_z w32 (of_z w32 s.magic1) ≡ s.magic1 = search rules in
    let p_magic1 : Puts 32 (signed32_bytes s.magic1) old c.put_i32.new.bytes = subst (λ (z : ℤ). Puts 32 (signed32_bytes z) old c.put_i32.new.bytes) z_magic1 c.put_i32.ensures in
    let l_magic1 : length (signed32_bytes s.magic1) ≡ 4 = length-signed32_bytes s.magic1 in
    let a_magic1 = signed32_bytes s.magic1 in
    let q_magic1 : Puts 32 a_magic1 old c.put_i32.new.bytes = p_magic1 in
    let n_magic1 : length a_magic1 ≡ 4 = l_magic1 in
    let z_fs_byte_order : to_z w32 (of_z w32 s.fs_byte_order) ≡ s.fs_byte_order = search rules in
    let p_fs_byte_order : Puts 36 (signed32_bytes s.fs_byte_order) c.put_i32.new.bytes c.put_i32-2.new.bytes = subst (λ (z : ℤ). Puts 36 (signed32_bytes z) c.put_i32.new.bytes c.put_i32-2.new.bytes) z_fs_byte_order c.put_i32-2.ensures in
    let l_fs_byte_order : length (signed32_bytes s.fs_byte_order) ≡ 4 = length-signed32_bytes s.fs_byte_order in
    let a_fs_byte_order = a_magic1 ++ signed32_bytes s.fs_byte_order in
    let n_fs_byte_order : length a_fs_byte_order ≡ 8 = length-append a_magic1 (signed32_bytes s.fs_byte_order) ∙ omega (arith, n_magic1, l_fs_byte_order) in
    let q_fs_byte_order : Puts 32 a_fs_byte_order old c.put_i32-2.new.bytes = puts_then 32 36 a_magic1 (signed32_bytes s.fs_byte_order) old c.put_i32.new.bytes c.put_i32-2.new.bytes (omega (arith, n_magic1)) (omega (arith, l_fs_byte_order, c.requires)) q_magic1 p_fs_byte_order in
    let p_block_size : Puts 40 (unsigned_bytes 4 s.block_size) c.put_i32-2.new.bytes c.put_u32.new.bytes = c.put_u32.ensures in
    let l_block_size : length (unsigned_bytes 4 s.block_size) ≡ 4 = length-unsigned_bytes 4 s.block_size in
    let a_block_size = a_fs_byte_order ++ unsigned_bytes 4 s.block_size in
    let n_block_size : length a_block_size ≡ 12 = length-append a_fs_byte_order (unsigned_bytes 4 s.block_size) ∙ omega (arith, n_fs_byte_order, l_block_size) in
    let q_block_size : Puts 32 a_block_size old c.put_u32.new.bytes = puts_then 32 40 a_fs_byte_order (unsigned_bytes 4 s.block_size) old c.put_i32-2.new.bytes c.put_u32.new.bytes (omega (arith, n_fs_byte_order)) (omega (arith, l_block_size, c.requires)) q_fs_byte_order p_block_size in
    let p_block_shift : Puts 44 (unsigned_bytes 4 s.block_shift) c.put_u32.new.bytes c.put_u32-2.new.bytes = c.put_u32-2.ensures in
    let l_block_shift : length (unsigned_bytes 4 s.block_shift) ≡ 4 = length-unsigned_bytes 4 s.block_shift in
    let a_block_shift = a_block_size ++ unsigned_bytes 4 s.block_shift in
    let n_block_shift : length a_block_shift ≡ 16 = length-append a_block_size (unsigned_bytes 4 s.block_shift) ∙ omega (arith, n_block_size, l_block_shift) in
    let q_block_shift : Puts 32 a_block_shift old c.put_u32-2.new.bytes = puts_then 32 44 a_block_size (unsigned_bytes 4 s.block_shift) old c.put_u32.new.bytes c.put_u32-2.new.bytes (omega (arith, n_block_size)) (omega (arith, l_block_shift, c.requires)) q_block_size p_block_shift in
    let z_num_blocks : to_z w64 (of_z w64 s.num_blocks) ≡ s.num_blocks = search rules in
    let p_num_blocks : Puts 48 (signed64_bytes s.num_blocks) c.put_u32-2.new.bytes c.put_i64.new.bytes = subst (λ (z : ℤ). Puts 48 (signed64_bytes z) c.put_u32-2.new.bytes c.put_i64.new.bytes) z_num_blocks c.put_i64.ensures in
    let l_num_blocks : length (signed64_bytes s.num_blocks) ≡ 8 = length-signed64_bytes s.num_blocks in
    let a_num_blocks = a_block_shift ++ signed64_bytes s.num_blocks in
    let n_num_blocks : length a_num_blocks ≡ 24 = length-append a_block_shift (signed64_bytes s.num_blocks) ∙ omega (arith, n_block_shift, l_num_blocks) in
    let q_num_blocks : Puts 32 a_num_blocks old c.put_i64.new.bytes = puts_then 32 48 a_block_shift (signed64_bytes s.num_blocks) old c.put_u32-2.new.bytes c.put_i64.new.bytes (omega (arith, n_block_shift)) (omega (arith, l_num_blocks, c.requires)) q_block_shift p_num_blocks in
    let z_used_blocks : to_z w64 (of_z w64 s.used_blocks) ≡ s.used_blocks = search rules in
    let p_used_blocks : Puts 56 (signed64_bytes s.used_blocks) c.put_i64.new.bytes c.put_i64-2.new.bytes = subst (λ (z : ℤ). Puts 56 (signed64_bytes z) c.put_i64.new.bytes c.put_i64-2.new.bytes) z_used_blocks c.put_i64-2.ensures in
    let l_used_blocks : length (signed64_bytes s.used_blocks) ≡ 8 = length-signed64_bytes s.used_blocks in
    let a_used_blocks = a_num_blocks ++ signed64_bytes s.used_blocks in
    let n_used_blocks : length a_used_blocks ≡ 32 = length-append a_num_blocks (signed64_bytes s.used_blocks) ∙ omega (arith, n_num_blocks, l_used_blocks) in
    let q_used_blocks : Puts 32 a_used_blocks old c.put_i64-2.new.bytes = puts_then 32 56 a_num_blocks (signed64_bytes s.used_blocks) old c.put_i64.new.bytes c.put_i64-2.new.bytes (omega (arith, n_num_blocks)) (omega (arith, l_used_blocks, c.requires)) q_num_blocks p_used_blocks in
    q_used_blocks
