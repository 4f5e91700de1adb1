-- The sector of the fields of a sector is that sector.
use Rattle.std.proofs.Common.{◌≡◌, ℕ, List, ◌++◌, length, take, drop, refl, ap, ◌∙◌, arith}
use Rattle.std.proofs.lemmas.List.{take_all}
use Rattle.bfs_bytes.specs.Fields.{unsigned_bytes, signed32_bytes, signed64_bytes, run_bytes}
use Rattle.bfs_bytes.proofs.Again.{AreBytes, again_unsigned4, again_signed32, again_signed64, again_run, joined}
use Rattle.bfs_super.specs.Layout.{super_at, sizes_of, groups_of, places_of, sector_of}

module _ (b : List ℕ) (fits : AreBytes b) (long : length b ≡ 512) where
  sizes_again : sizes_of (super_at b) ≡ take 32 (drop 32 b)
  unfolding sizes_of
  sizes_again =
      let s = super_at b in
      let e_magic1 : signed32_bytes s.magic1 ≡ take 4 (drop 32 b) = again_signed32 b fits 32 (omega (arith, long)) in
      let e_fs_byte_order : signed32_bytes s.fs_byte_order ≡ take 4 (drop 36 b) = again_signed32 b fits 36 (omega (arith, long)) in
      let e_block_size : unsigned_bytes 4 s.block_size ≡ take 4 (drop 40 b) = again_unsigned4 b fits 40 (omega (arith, long)) in
      let e_block_shift : unsigned_bytes 4 s.block_shift ≡ take 4 (drop 44 b) = again_unsigned4 b fits 44 (omega (arith, long)) in
      let e_num_blocks : signed64_bytes s.num_blocks ≡ take 8 (drop 48 b) = again_signed64 b fits 48 (omega (arith, long)) in
      let e_used_blocks : signed64_bytes s.used_blocks ≡ take 8 (drop 56 b) = again_signed64 b fits 56 (omega (arith, long)) in
      let q_magic1 : signed32_bytes s.magic1 ≡ take 4 (drop 32 b) = e_magic1 in
      let q_fs_byte_order : signed32_bytes s.magic1 ++ signed32_bytes s.fs_byte_order ≡ take 8 (drop 32 b) = ap (λ (l : List ℕ). l ++ signed32_bytes s.fs_byte_order) q_magic1 ∙ ap (λ (l : List ℕ). take 4 (drop 32 b) ++ l) e_fs_byte_order ∙ joined b 32 4 4 36 refl in
      let q_block_size : signed32_bytes s.magic1 ++ signed32_bytes s.fs_byte_order ++ unsigned_bytes 4 s.block_size ≡ take 12 (drop 32 b) = ap (λ (l : List ℕ). l ++ unsigned_bytes 4 s.block_size) q_fs_byte_order ∙ ap (λ (l : List ℕ). take 8 (drop 32 b) ++ l) e_block_size ∙ joined b 32 8 4 40 refl in
      let q_block_shift : signed32_bytes s.magic1 ++ signed32_bytes s.fs_byte_order ++ unsigned_bytes 4 s.block_size ++ unsigned_bytes 4 s.block_shift ≡ take 16 (drop 32 b) = ap (λ (l : List ℕ). l ++ unsigned_bytes 4 s.block_shift) q_block_size ∙ ap (λ (l : List ℕ). take 12 (drop 32 b) ++ l) e_block_shift ∙ joined b 32 12 4 44 refl in
      let q_num_blocks : signed32_bytes s.magic1 ++ signed32_bytes s.fs_byte_order ++ unsigned_bytes 4 s.block_size ++ unsigned_bytes 4 s.block_shift ++ signed64_bytes s.num_blocks ≡ take 24 (drop 32 b) = ap (λ (l : List ℕ). l ++ signed64_bytes s.num_blocks) q_block_shift ∙ ap (λ (l : List ℕ). take 16 (drop 32 b) ++ l) e_num_blocks ∙ joined b 32 16 8 48 refl in
      let q_used_blocks : signed32_bytes s.magic1 ++ signed32_bytes s.fs_byte_order ++ unsigned_bytes 4 s.block_size ++ unsigned_bytes 4 s.block_shift ++ signed64_bytes s.num_blocks ++ signed64_bytes s.used_blocks ≡ take 32 (drop 32 b) = ap (λ (l : List ℕ). l ++ signed64_bytes s.used_blocks) q_num_blocks ∙ ap (λ (l : List ℕ). take 24 (drop 32 b) ++ l) e_used_blocks ∙ joined b 32 24 8 56 refl in
      q_used_blocks

  groups_again : groups_of (super_at b) ≡ take 24 (drop 64 b)
  unfolding groups_of
  groups_again =
      let s = super_at b in
      let e_inode_size : signed32_bytes s.inode_size ≡ take 4 (drop 64 b) = again_signed32 b fits 64 (omega (arith, long)) in
      let e_magic2 : signed32_bytes s.magic2 ≡ take 4 (drop 68 b) = again_signed32 b fits 68 (omega (arith, long)) in
      let e_blocks_per_ag : signed32_bytes s.blocks_per_ag ≡ take 4 (drop 72 b) = again_signed32 b fits 72 (omega (arith, long)) in
      let e_ag_shift : signed32_bytes s.ag_shift ≡ take 4 (drop 76 b) = again_signed32 b fits 76 (omega (arith, long)) in
      let e_num_ags : signed32_bytes s.num_ags ≡ take 4 (drop 80 b) = again_signed32 b fits 80 (omega (arith, long)) in
      let e_flags : signed32_bytes s.flags ≡ take 4 (drop 84 b) = again_signed32 b fits 84 (omega (arith, long)) in
      let q_inode_size : signed32_bytes s.inode_size ≡ take 4 (drop 64 b) = e_inode_size in
      let q_magic2 : signed32_bytes s.inode_size ++ signed32_bytes s.magic2 ≡ take 8 (drop 64 b) = ap (λ (l : List ℕ). l ++ signed32_bytes s.magic2) q_inode_size ∙ ap (λ (l : List ℕ). take 4 (drop 64 b) ++ l) e_magic2 ∙ joined b 64 4 4 68 refl in
      let q_blocks_per_ag : signed32_bytes s.inode_size ++ signed32_bytes s.magic2 ++ signed32_bytes s.blocks_per_ag ≡ take 12 (drop 64 b) = ap (λ (l : List ℕ). l ++ signed32_bytes s.blocks_per_ag) q_magic2 ∙ ap (λ (l : List ℕ). take 8 (drop 64 b) ++ l) e_blocks_per_ag ∙ joined b 64 8 4 72 refl in
      let q_ag_shift : signed32_bytes s.inode_size ++ signed32_bytes s.magic2 ++ signed32_bytes s.blocks_per_ag ++ signed32_bytes s.ag_shift ≡ take 16 (drop 64 b) = ap (λ (l : List ℕ). l ++ signed32_bytes s.ag_shift) q_blocks_per_ag ∙ ap (λ (l : List ℕ). take 12 (drop 64 b) ++ l) e_ag_shift ∙ joined b 64 12 4 76 refl in
      let q_num_ags : signed32_bytes s.inode_size ++ signed32_bytes s.magic2 ++ signed32_bytes s.blocks_per_ag ++ signed32_bytes s.ag_shift ++ signed32_bytes s.num_ags ≡ take 20 (drop 64 b) = ap (λ (l : List ℕ). l ++ signed32_bytes s.num_ags) q_ag_shift ∙ ap (λ (l : List ℕ). take 16 (drop 64 b) ++ l) e_num_ags ∙ joined b 64 16 4 80 refl in
      let q_flags : signed32_bytes s.inode_size ++ signed32_bytes s.magic2 ++ signed32_bytes s.blocks_per_ag ++ signed32_bytes s.ag_shift ++ signed32_bytes s.num_ags ++ signed32_bytes s.flags ≡ take 24 (drop 64 b) = ap (λ (l : List ℕ). l ++ signed32_bytes s.flags) q_num_ags ∙ ap (λ (l : List ℕ). take 20 (drop 64 b) ++ l) e_flags ∙ joined b 64 20 4 84 refl in
      q_flags

  places_again : places_of (super_at b) ≡ take 44 (drop 88 b)
  unfolding places_of
  places_again =
      let s = super_at b in
      let e_log_blocks : run_bytes s.log_blocks ≡ take 8 (drop 88 b) = again_run b fits 88 (omega (arith, long)) in
      let e_log_start : signed64_bytes s.log_start ≡ take 8 (drop 96 b) = again_signed64 b fits 96 (omega (arith, long)) in
      let e_log_end : signed64_bytes s.log_end ≡ take 8 (drop 104 b) = again_signed64 b fits 104 (omega (arith, long)) in
      let e_magic3 : signed32_bytes s.magic3 ≡ take 4 (drop 112 b) = again_signed32 b fits 112 (omega (arith, long)) in
      let e_root_dir : run_bytes s.root_dir ≡ take 8 (drop 116 b) = again_run b fits 116 (omega (arith, long)) in
      let e_indices : run_bytes s.indices ≡ take 8 (drop 124 b) = again_run b fits 124 (omega (arith, long)) in
      let q_log_blocks : run_bytes s.log_blocks ≡ take 8 (drop 88 b) = e_log_blocks in
      let q_log_start : run_bytes s.log_blocks ++ signed64_bytes s.log_start ≡ take 16 (drop 88 b) = ap (λ (l : List ℕ). l ++ signed64_bytes s.log_start) q_log_blocks ∙ ap (λ (l : List ℕ). take 8 (drop 88 b) ++ l) e_log_start ∙ joined b 88 8 8 96 refl in
      let q_log_end : run_bytes s.log_blocks ++ signed64_bytes s.log_start ++ signed64_bytes s.log_end ≡ take 24 (drop 88 b) = ap (λ (l : List ℕ). l ++ signed64_bytes s.log_end) q_log_start ∙ ap (λ (l : List ℕ). take 16 (drop 88 b) ++ l) e_log_end ∙ joined b 88 16 8 104 refl in
      let q_magic3 : run_bytes s.log_blocks ++ signed64_bytes s.log_start ++ signed64_bytes s.log_end ++ signed32_bytes s.magic3 ≡ take 28 (drop 88 b) = ap (λ (l : List ℕ). l ++ signed32_bytes s.magic3) q_log_end ∙ ap (λ (l : List ℕ). take 24 (drop 88 b) ++ l) e_magic3 ∙ joined b 88 24 4 112 refl in
      let q_root_dir : run_bytes s.log_blocks ++ signed64_bytes s.log_start ++ signed64_bytes s.log_end ++ signed32_bytes s.magic3 ++ run_bytes s.root_dir ≡ take 36 (drop 88 b) = ap (λ (l : List ℕ). l ++ run_bytes s.root_dir) q_magic3 ∙ ap (λ (l : List ℕ). take 28 (drop 88 b) ++ l) e_root_dir ∙ joined b 88 28 8 116 refl in
      let q_indices : run_bytes s.log_blocks ++ signed64_bytes s.log_start ++ signed64_bytes s.log_end ++ signed32_bytes s.magic3 ++ run_bytes s.root_dir ++ run_bytes s.indices ≡ take 44 (drop 88 b) = ap (λ (l : List ℕ). l ++ run_bytes s.indices) q_root_dir ∙ ap (λ (l : List ℕ). take 36 (drop 88 b) ++ l) e_indices ∙ joined b 88 36 8 124 refl in
      q_indices

  pub sector_again : sector_of (super_at b) ≡ b
  sector_again =
      let s = super_at b in
      ap (λ (l : List ℕ). take 32 b ++ l ++ groups_of s ++ places_of s ++ s.rest) sizes_again
      ∙ ap (λ (l : List ℕ). l ++ groups_of s ++ places_of s ++ s.rest) (joined b 0 32 32 32 refl)
      ∙ ap (λ (l : List ℕ). take 64 b ++ l ++ places_of s ++ s.rest) groups_again
      ∙ ap (λ (l : List ℕ). l ++ places_of s ++ s.rest) (joined b 0 64 24 64 refl)
      ∙ ap (λ (l : List ℕ). take 88 b ++ l ++ s.rest) places_again
      ∙ ap (λ (l : List ℕ). l ++ s.rest) (joined b 0 88 44 88 refl)
      ∙ joined b 0 132 380 132 refl
      ∙ take_all 512 b (omega (arith, long))
