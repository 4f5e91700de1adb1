use Rattle.std.proofs.Common.{◌≡◌, ◌++◌, ◌∙◌, ℤ, length, subst, rules, arith, length-append, to_z, of_z, length-append}
use Rattle.std.specs.Int.{w32}
use Rattle.bfs_bytes.specs.Fields.{Puts, signed32_bytes}
use Rattle.bfs_bytes.proofs.Lengths.{length-signed32_bytes}
use Rattle.bfs_bytes.proofs.Puts.{puts_then}
use Rattle.bfs_super.specs.Layout.{groups_of}
use Rattle.bfs_super.proofs.print.put_groups.Goals as goal

pub returns : goal.returns
unfolding groups_of
returns c =
    let s = c.args.sup.now in
    let old = c.args.sector.now in
    let z_inode_size : to_z w32 (of_z w32 s.inode_size) ≡ s.inode_size = search rules in
    let p_inode_size : Puts 64 (signed32_bytes s.inode_size) old c.put_i32.new.bytes = subst (λ (z : ℤ). Puts 64 (signed32_bytes z) old c.put_i32.new.bytes) z_inode_size c.put_i32.ensures in
    let l_inode_size : length (signed32_bytes s.inode_size) ≡ 4 = length-signed32_bytes s.inode_size in
    let a_inode_size = signed32_bytes s.inode_size in
    let q_inode_size : Puts 64 a_inode_size old c.put_i32.new.bytes = p_inode_size in
    let n_inode_size : length a_inode_size ≡ 4 = l_inode_size in
    let z_magic2 : to_z w32 (of_z w32 s.magic2) ≡ s.magic2 = search rules in
    let p_magic2 : Puts 68 (signed32_bytes s.magic2) c.put_i32.new.bytes c.put_i32-2.new.bytes = subst (λ (z : ℤ). Puts 68 (signed32_bytes z) c.put_i32.new.bytes c.put_i32-2.new.bytes) z_magic2 c.put_i32-2.ensures in
    let l_magic2 : length (signed32_bytes s.magic2) ≡ 4 = length-signed32_bytes s.magic2 in
    let a_magic2 = a_inode_size ++ signed32_bytes s.magic2 in
    let n_magic2 : length a_magic2 ≡ 8 = length-append a_inode_size (signed32_bytes s.magic2) ∙ omega (arith, n_inode_size, l_magic2) in
    let q_magic2 : Puts 64 a_magic2 old c.put_i32-2.new.bytes = puts_then 64 68 a_inode_size (signed32_bytes s.magic2) old c.put_i32.new.bytes c.put_i32-2.new.bytes (omega (arith, n_inode_size)) (omega (arith, l_magic2, c.requires)) q_inode_size p_magic2 in
    let z_blocks_per_ag : to_z w32 (of_z w32 s.blocks_per_ag) ≡ s.blocks_per_ag = search rules in
    let p_blocks_per_ag : Puts 72 (signed32_bytes s.blocks_per_ag) c.put_i32-2.new.bytes c.put_i32-3.new.bytes = subst (λ (z : ℤ). Puts 72 (signed32_bytes z) c.put_i32-2.new.bytes c.put_i32-3.new.bytes) z_blocks_per_ag c.put_i32-3.ensures in
    let l_blocks_per_ag : length (signed32_bytes s.blocks_per_ag) ≡ 4 = length-signed32_bytes s.blocks_per_ag in
    let a_blocks_per_ag = a_magic2 ++ signed32_bytes s.blocks_per_ag in
    let n_blocks_per_ag : length a_blocks_per_ag ≡ 12 = length-append a_magic2 (signed32_bytes s.blocks_per_ag) ∙ omega (arith, n_magic2, l_blocks_per_ag) in
    let q_blocks_per_ag : Puts 64 a_blocks_per_ag old c.put_i32-3.new.bytes = puts_then 64 72 a_magic2 (signed32_bytes s.blocks_per_ag) old c.put_i32-2.new.bytes c.put_i32-3.new.bytes (omega (arith, n_magic2)) (omega (arith, l_blocks_per_ag, c.requires)) q_magic2 p_blocks_per_ag in
    let z_ag_shift : to_z w32 (of_z w32 s.ag_shift) ≡ s.ag_shift = search rules in
    let p_ag_shift : Puts 76 (signed32_bytes s.ag_shift) c.put_i32-3.new.bytes c.put_i32-4.new.bytes = subst (λ (z : ℤ). Puts 76 (signed32_bytes z) c.put_i32-3.new.bytes c.put_i32-4.new.bytes) z_ag_shift c.put_i32-4.ensures in
    let l_ag_shift : length (signed32_bytes s.ag_shift) ≡ 4 = length-signed32_bytes s.ag_shift in
    let a_ag_shift = a_blocks_per_ag ++ signed32_bytes s.ag_shift in
    let n_ag_shift : length a_ag_shift ≡ 16 = length-append a_blocks_per_ag (signed32_bytes s.ag_shift) ∙ omega (arith, n_blocks_per_ag, l_ag_shift) in
    let q_ag_shift : Puts 64 a_ag_shift old c.put_i32-4.new.bytes = puts_then 64 76 a_blocks_per_ag (signed32_bytes s.ag_shift) old c.put_i32-3.new.bytes c.put_i32-4.new.bytes (omega (arith, n_blocks_per_ag)) (omega (arith, l_ag_shift, c.requires)) q_blocks_per_ag p_ag_shift in
    let z_num_ags : to_z w32 (of_z w32 s.num_ags) ≡ s.num_ags = search rules in
    let p_num_ags : Puts 80 (signed32_bytes s.num_ags) c.put_i32-4.new.bytes c.put_i32-5.new.bytes = subst (λ (z : ℤ). Puts 80 (signed32_bytes z) c.put_i32-4.new.bytes c.put_i32-5.new.bytes) z_num_ags c.put_i32-5.ensures in
    let l_num_ags : length (signed32_bytes s.num_ags) ≡ 4 = length-signed32_bytes s.num_ags in
    let a_num_ags = a_ag_shift ++ signed32_bytes s.num_ags in
    let n_num_ags : length a_num_ags ≡ 20 = length-append a_ag_shift (signed32_bytes s.num_ags) ∙ omega (arith, n_ag_shift, l_num_ags) in
    let q_num_ags : Puts 64 a_num_ags old c.put_i32-5.new.bytes = puts_then 64 80 a_ag_shift (signed32_bytes s.num_ags) old c.put_i32-4.new.bytes c.put_i32-5.new.bytes (omega (arith, n_ag_shift)) (omega (arith, l_num_ags, c.requires)) q_ag_shift p_num_ags in
    let z_flags : to_z w32 (of_z w32 s.flags) ≡ s.flags = search rules in
    let p_flags : Puts 84 (signed32_bytes s.flags) c.put_i32-5.new.bytes c.put_i32-6.new.bytes = subst (λ (z : ℤ). Puts 84 (signed32_bytes z) c.put_i32-5.new.bytes c.put_i32-6.new.bytes) z_flags c.put_i32-6.ensures in
    let l_flags : length (signed32_bytes s.flags) ≡ 4 = length-signed32_bytes s.flags in
    let a_flags = a_num_ags ++ signed32_bytes s.flags in
    let n_flags : length a_flags ≡ 24 = length-append a_num_ags (signed32_bytes s.flags) ∙ omega (arith, n_num_ags, l_flags) in
    let q_flags : Puts 64 a_flags old c.put_i32-6.new.bytes = puts_then 64 84 a_num_ags (signed32_bytes s.flags) old c.put_i32-5.new.bytes c.put_i32-6.new.bytes (omega (arith, n_num_ags)) (omega (arith, l_flags, c.requires)) q_num_ags p_flags in
    q_flags
