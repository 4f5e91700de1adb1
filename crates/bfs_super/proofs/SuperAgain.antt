-- A printed superblock reads as it was.
use Rattle.std.proofs.Common.{◌≡◌, ℕ, ℤ, ◌+◌, ◌<◌, ◌^◌, List, ◌++◌, length, take, drop, refl, sym, ◌∙◌, ap, arith, append_assoc}
use Rattle.std.specs.Prelude.{FitsSigned}
use Rattle.std.specs.Int.{w32, w64, cast_signed, cast_unsigned}
use Rattle.std.proofs.lemmas.Int.{to_z-of_z}
use Rattle.std.proofs.Math.Facts.{Fits-of_z}
use Rattle.std.proofs.lemmas.List.{take_at, take_all}
use Rattle.std.proofs.Math.Seq.{drop-append-add}
use Rattle.byteorder.specs.Endian.{little_number}
use Rattle.byteorder.specs.Numbers.{little_number-reads_back}
use Rattle.bfs_bytes.specs.Fields.{unsigned_at, signed32_at, signed64_at, run_in, unsigned_bytes, signed32_bytes, signed64_bytes, run_bytes}
use Rattle.bfs_super.specs.declared.sup.Super.{Super}
use Rattle.bfs_super.specs.Layout.{super_at, sizes_of, groups_of, places_of, sector_of}

below_4 : (z : ℤ) → FitsSigned w32 z → cast_unsigned w32 z < 256 ^ 4
below_4 z fits = let below = Fits-of_z {w = w32} {z = z} fits in omega (arith, below)

below_8 : (z : ℤ) → FitsSigned w64 z → cast_unsigned w64 z < 256 ^ 8
below_8 z fits = let below = Fits-of_z {w = w64} {z = z} fits in omega (arith, below)

-- each number fits its field
pub record Fits (s : Super) : Type 0 where
  pub name : length s.name ≡ 32
  pub rest : length s.rest ≡ 380
  pub magic1 : FitsSigned w32 s.magic1
  pub fs_byte_order : FitsSigned w32 s.fs_byte_order
  pub block_size : s.block_size < 2 ^ 32
  pub block_shift : s.block_shift < 2 ^ 32
  pub num_blocks : FitsSigned w64 s.num_blocks
  pub used_blocks : FitsSigned w64 s.used_blocks
  pub inode_size : FitsSigned w32 s.inode_size
  pub magic2 : FitsSigned w32 s.magic2
  pub blocks_per_ag : FitsSigned w32 s.blocks_per_ag
  pub ag_shift : FitsSigned w32 s.ag_shift
  pub num_ags : FitsSigned w32 s.num_ags
  pub flags : FitsSigned w32 s.flags
  pub log_blocks_group : FitsSigned w32 s.log_blocks.group
  pub log_blocks_start : s.log_blocks.start < 2 ^ 16
  pub log_blocks_len : s.log_blocks.len < 2 ^ 16
  pub log_start : FitsSigned w64 s.log_start
  pub log_end : FitsSigned w64 s.log_end
  pub magic3 : FitsSigned w32 s.magic3
  pub root_dir_group : FitsSigned w32 s.root_dir.group
  pub root_dir_start : s.root_dir.start < 2 ^ 16
  pub root_dir_len : s.root_dir.len < 2 ^ 16
  pub indices_group : FitsSigned w32 s.indices.group
  pub indices_start : s.indices.start < 2 ^ 16
  pub indices_len : s.indices.len < 2 ^ 16

module _ (s : Super) (fits : Fits s) where
  -- what follows the name
  behind : List ℕ
  behind = sizes_of s ++ (groups_of s ++ (places_of s ++ s.rest))

  from_name : sector_of s ≡ s.name ++ behind
  unfolding behind
  from_name =
      append_assoc (s.name ++ sizes_of s ++ groups_of s) (places_of s) s.rest
      ∙ append_assoc (s.name ++ sizes_of s) (groups_of s) (places_of s ++ s.rest)
      ∙ append_assoc s.name (sizes_of s) (groups_of s ++ (places_of s ++ s.rest))

  dropped : (k : ℕ) → drop (32 + k) (sector_of s) ≡ drop k behind
  dropped k =
      ap (drop (32 + k)) from_name
      ∙ ap (λ (m : ℕ). drop m (s.name ++ behind)) (ap (λ (m : ℕ). m + k) (sym fits.name))
      ∙ drop-append-add s.name behind k

  magic1_read : unsigned_at 4 (sector_of s) 32 ≡ cast_unsigned w32 s.magic1
  unfolding behind sizes_of groups_of places_of unsigned_bytes signed32_bytes signed64_bytes run_bytes unsigned_at
  magic1_read =
      let here : drop 0 behind ≡ unsigned_bytes 4 (cast_unsigned w32 s.magic1) ++ drop 4 behind = refl in
      ap (little_number 4) (dropped 0 ∙ here) ∙ little_number-reads_back 4 (cast_unsigned w32 s.magic1) (drop 4 behind) (below_4 s.magic1 fits.magic1)

  magic1_is : signed32_at (sector_of s) 32 ≡ s.magic1
  unfolding signed32_at
  magic1_is = ap (cast_signed w32) magic1_read ∙ to_z-of_z w32 s.magic1 fits.magic1

  fs_byte_order_read : unsigned_at 4 (sector_of s) 36 ≡ cast_unsigned w32 s.fs_byte_order
  unfolding behind sizes_of groups_of places_of unsigned_bytes signed32_bytes signed64_bytes run_bytes unsigned_at
  fs_byte_order_read =
      let here : drop 4 behind ≡ unsigned_bytes 4 (cast_unsigned w32 s.fs_byte_order) ++ drop 8 behind = refl in
      ap (little_number 4) (dropped 4 ∙ here) ∙ little_number-reads_back 4 (cast_unsigned w32 s.fs_byte_order) (drop 8 behind) (below_4 s.fs_byte_order fits.fs_byte_order)

  fs_byte_order_is : signed32_at (sector_of s) 36 ≡ s.fs_byte_order
  unfolding signed32_at
  fs_byte_order_is = ap (cast_signed w32) fs_byte_order_read ∙ to_z-of_z w32 s.fs_byte_order fits.fs_byte_order

  block_size_read : unsigned_at 4 (sector_of s) 40 ≡ s.block_size
  unfolding behind sizes_of groups_of places_of unsigned_bytes signed32_bytes signed64_bytes run_bytes unsigned_at
  block_size_read =
      let here : drop 8 behind ≡ unsigned_bytes 4 (s.block_size) ++ drop 12 behind = refl in
      ap (little_number 4) (dropped 8 ∙ here) ∙ little_number-reads_back 4 (s.block_size) (drop 12 behind) fits.block_size

  block_shift_read : unsigned_at 4 (sector_of s) 44 ≡ s.block_shift
  unfolding behind sizes_of groups_of places_of unsigned_bytes signed32_bytes signed64_bytes run_bytes unsigned_at
  block_shift_read =
      let here : drop 12 behind ≡ unsigned_bytes 4 (s.block_shift) ++ drop 16 behind = refl in
      ap (little_number 4) (dropped 12 ∙ here) ∙ little_number-reads_back 4 (s.block_shift) (drop 16 behind) fits.block_shift

  num_blocks_read : unsigned_at 8 (sector_of s) 48 ≡ cast_unsigned w64 s.num_blocks
  unfolding behind sizes_of groups_of places_of unsigned_bytes signed32_bytes signed64_bytes run_bytes unsigned_at
  num_blocks_read =
      let here : drop 16 behind ≡ unsigned_bytes 8 (cast_unsigned w64 s.num_blocks) ++ drop 24 behind = refl in
      ap (little_number 8) (dropped 16 ∙ here) ∙ little_number-reads_back 8 (cast_unsigned w64 s.num_blocks) (drop 24 behind) (below_8 s.num_blocks fits.num_blocks)

  num_blocks_is : signed64_at (sector_of s) 48 ≡ s.num_blocks
  unfolding signed64_at
  num_blocks_is = ap (cast_signed w64) num_blocks_read ∙ to_z-of_z w64 s.num_blocks fits.num_blocks

  used_blocks_read : unsigned_at 8 (sector_of s) 56 ≡ cast_unsigned w64 s.used_blocks
  unfolding behind sizes_of groups_of places_of unsigned_bytes signed32_bytes signed64_bytes run_bytes unsigned_at
  used_blocks_read =
      let here : drop 24 behind ≡ unsigned_bytes 8 (cast_unsigned w64 s.used_blocks) ++ drop 32 behind = refl in
      ap (little_number 8) (dropped 24 ∙ here) ∙ little_number-reads_back 8 (cast_unsigned w64 s.used_blocks) (drop 32 behind) (below_8 s.used_blocks fits.used_blocks)

  used_blocks_is : signed64_at (sector_of s) 56 ≡ s.used_blocks
  unfolding signed64_at
  used_blocks_is = ap (cast_signed w64) used_blocks_read ∙ to_z-of_z w64 s.used_blocks fits.used_blocks

  inode_size_read : unsigned_at 4 (sector_of s) 64 ≡ cast_unsigned w32 s.inode_size
  unfolding behind sizes_of groups_of places_of unsigned_bytes signed32_bytes signed64_bytes run_bytes unsigned_at
  inode_size_read =
      let here : drop 32 behind ≡ unsigned_bytes 4 (cast_unsigned w32 s.inode_size) ++ drop 36 behind = refl in
      ap (little_number 4) (dropped 32 ∙ here) ∙ little_number-reads_back 4 (cast_unsigned w32 s.inode_size) (drop 36 behind) (below_4 s.inode_size fits.inode_size)

  inode_size_is : signed32_at (sector_of s) 64 ≡ s.inode_size
  unfolding signed32_at
  inode_size_is = ap (cast_signed w32) inode_size_read ∙ to_z-of_z w32 s.inode_size fits.inode_size

  magic2_read : unsigned_at 4 (sector_of s) 68 ≡ cast_unsigned w32 s.magic2
  unfolding behind sizes_of groups_of places_of unsigned_bytes signed32_bytes signed64_bytes run_bytes unsigned_at
  magic2_read =
      let here : drop 36 behind ≡ unsigned_bytes 4 (cast_unsigned w32 s.magic2) ++ drop 40 behind = refl in
      ap (little_number 4) (dropped 36 ∙ here) ∙ little_number-reads_back 4 (cast_unsigned w32 s.magic2) (drop 40 behind) (below_4 s.magic2 fits.magic2)

  magic2_is : signed32_at (sector_of s) 68 ≡ s.magic2
  unfolding signed32_at
  magic2_is = ap (cast_signed w32) magic2_read ∙ to_z-of_z w32 s.magic2 fits.magic2

  blocks_per_ag_read : unsigned_at 4 (sector_of s) 72 ≡ cast_unsigned w32 s.blocks_per_ag
  unfolding behind sizes_of groups_of places_of unsigned_bytes signed32_bytes signed64_bytes run_bytes unsigned_at
  blocks_per_ag_read =
      let here : drop 40 behind ≡ unsigned_bytes 4 (cast_unsigned w32 s.blocks_per_ag) ++ drop 44 behind = refl in
      ap (little_number 4) (dropped 40 ∙ here) ∙ little_number-reads_back 4 (cast_unsigned w32 s.blocks_per_ag) (drop 44 behind) (below_4 s.blocks_per_ag fits.blocks_per_ag)

  blocks_per_ag_is : signed32_at (sector_of s) 72 ≡ s.blocks_per_ag
  unfolding signed32_at
  blocks_per_ag_is = ap (cast_signed w32) blocks_per_ag_read ∙ to_z-of_z w32 s.blocks_per_ag fits.blocks_per_ag

  ag_shift_read : unsigned_at 4 (sector_of s) 76 ≡ cast_unsigned w32 s.ag_shift
  unfolding behind sizes_of groups_of places_of unsigned_bytes signed32_bytes signed64_bytes run_bytes unsigned_at
  ag_shift_read =
      let here : drop 44 behind ≡ unsigned_bytes 4 (cast_unsigned w32 s.ag_shift) ++ drop 48 behind = refl in
      ap (little_number 4) (dropped 44 ∙ here) ∙ little_number-reads_back 4 (cast_unsigned w32 s.ag_shift) (drop 48 behind) (below_4 s.ag_shift fits.ag_shift)

  ag_shift_is : signed32_at (sector_of s) 76 ≡ s.ag_shift
  unfolding signed32_at
  ag_shift_is = ap (cast_signed w32) ag_shift_read ∙ to_z-of_z w32 s.ag_shift fits.ag_shift

  num_ags_read : unsigned_at 4 (sector_of s) 80 ≡ cast_unsigned w32 s.num_ags
  unfolding behind sizes_of groups_of places_of unsigned_bytes signed32_bytes signed64_bytes run_bytes unsigned_at
  num_ags_read =
      let here : drop 48 behind ≡ unsigned_bytes 4 (cast_unsigned w32 s.num_ags) ++ drop 52 behind = refl in
      ap (little_number 4) (dropped 48 ∙ here) ∙ little_number-reads_back 4 (cast_unsigned w32 s.num_ags) (drop 52 behind) (below_4 s.num_ags fits.num_ags)

  num_ags_is : signed32_at (sector_of s) 80 ≡ s.num_ags
  unfolding signed32_at
  num_ags_is = ap (cast_signed w32) num_ags_read ∙ to_z-of_z w32 s.num_ags fits.num_ags

  flags_read : unsigned_at 4 (sector_of s) 84 ≡ cast_unsigned w32 s.flags
  unfolding behind sizes_of groups_of places_of unsigned_bytes signed32_bytes signed64_bytes run_bytes unsigned_at
  flags_read =
      let here : drop 52 behind ≡ unsigned_bytes 4 (cast_unsigned w32 s.flags) ++ drop 56 behind = refl in
      ap (little_number 4) (dropped 52 ∙ here) ∙ little_number-reads_back 4 (cast_unsigned w32 s.flags) (drop 56 behind) (below_4 s.flags fits.flags)

  flags_is : signed32_at (sector_of s) 84 ≡ s.flags
  unfolding signed32_at
  flags_is = ap (cast_signed w32) flags_read ∙ to_z-of_z w32 s.flags fits.flags

  log_blocks_group_read : unsigned_at 4 (sector_of s) 88 ≡ cast_unsigned w32 s.log_blocks.group
  unfolding behind sizes_of groups_of places_of unsigned_bytes signed32_bytes signed64_bytes run_bytes unsigned_at
  log_blocks_group_read =
      let here : drop 56 behind ≡ unsigned_bytes 4 (cast_unsigned w32 s.log_blocks.group) ++ drop 60 behind = refl in
      ap (little_number 4) (dropped 56 ∙ here) ∙ little_number-reads_back 4 (cast_unsigned w32 s.log_blocks.group) (drop 60 behind) (below_4 s.log_blocks.group fits.log_blocks_group)

  log_blocks_group_is : signed32_at (sector_of s) 88 ≡ s.log_blocks.group
  unfolding signed32_at
  log_blocks_group_is = ap (cast_signed w32) log_blocks_group_read ∙ to_z-of_z w32 s.log_blocks.group fits.log_blocks_group

  log_blocks_start_read : unsigned_at 2 (sector_of s) 92 ≡ s.log_blocks.start
  unfolding behind sizes_of groups_of places_of unsigned_bytes signed32_bytes signed64_bytes run_bytes unsigned_at
  log_blocks_start_read =
      let here : drop 60 behind ≡ unsigned_bytes 2 (s.log_blocks.start) ++ drop 62 behind = refl in
      ap (little_number 2) (dropped 60 ∙ here) ∙ little_number-reads_back 2 (s.log_blocks.start) (drop 62 behind) fits.log_blocks_start

  log_blocks_len_read : unsigned_at 2 (sector_of s) 94 ≡ s.log_blocks.len
  unfolding behind sizes_of groups_of places_of unsigned_bytes signed32_bytes signed64_bytes run_bytes unsigned_at
  log_blocks_len_read =
      let here : drop 62 behind ≡ unsigned_bytes 2 (s.log_blocks.len) ++ drop 64 behind = refl in
      ap (little_number 2) (dropped 62 ∙ here) ∙ little_number-reads_back 2 (s.log_blocks.len) (drop 64 behind) fits.log_blocks_len

  log_blocks_is : run_in (sector_of s) 88 ≡ s.log_blocks
  unfolding run_in
  log_blocks_is = λ i. record { group = log_blocks_group_is i; start = log_blocks_start_read i; len = log_blocks_len_read i }

  log_start_read : unsigned_at 8 (sector_of s) 96 ≡ cast_unsigned w64 s.log_start
  unfolding behind sizes_of groups_of places_of unsigned_bytes signed32_bytes signed64_bytes run_bytes unsigned_at
  log_start_read =
      let here : drop 64 behind ≡ unsigned_bytes 8 (cast_unsigned w64 s.log_start) ++ drop 72 behind = refl in
      ap (little_number 8) (dropped 64 ∙ here) ∙ little_number-reads_back 8 (cast_unsigned w64 s.log_start) (drop 72 behind) (below_8 s.log_start fits.log_start)

  log_start_is : signed64_at (sector_of s) 96 ≡ s.log_start
  unfolding signed64_at
  log_start_is = ap (cast_signed w64) log_start_read ∙ to_z-of_z w64 s.log_start fits.log_start

  log_end_read : unsigned_at 8 (sector_of s) 104 ≡ cast_unsigned w64 s.log_end
  unfolding behind sizes_of groups_of places_of unsigned_bytes signed32_bytes signed64_bytes run_bytes unsigned_at
  log_end_read =
      let here : drop 72 behind ≡ unsigned_bytes 8 (cast_unsigned w64 s.log_end) ++ drop 80 behind = refl in
      ap (little_number 8) (dropped 72 ∙ here) ∙ little_number-reads_back 8 (cast_unsigned w64 s.log_end) (drop 80 behind) (below_8 s.log_end fits.log_end)

  log_end_is : signed64_at (sector_of s) 104 ≡ s.log_end
  unfolding signed64_at
  log_end_is = ap (cast_signed w64) log_end_read ∙ to_z-of_z w64 s.log_end fits.log_end

  magic3_read : unsigned_at 4 (sector_of s) 112 ≡ cast_unsigned w32 s.magic3
  unfolding behind sizes_of groups_of places_of unsigned_bytes signed32_bytes signed64_bytes run_bytes unsigned_at
  magic3_read =
      let here : drop 80 behind ≡ unsigned_bytes 4 (cast_unsigned w32 s.magic3) ++ drop 84 behind = refl in
      ap (little_number 4) (dropped 80 ∙ here) ∙ little_number-reads_back 4 (cast_unsigned w32 s.magic3) (drop 84 behind) (below_4 s.magic3 fits.magic3)

  magic3_is : signed32_at (sector_of s) 112 ≡ s.magic3
  unfolding signed32_at
  magic3_is = ap (cast_signed w32) magic3_read ∙ to_z-of_z w32 s.magic3 fits.magic3

  root_dir_group_read : unsigned_at 4 (sector_of s) 116 ≡ cast_unsigned w32 s.root_dir.group
  unfolding behind sizes_of groups_of places_of unsigned_bytes signed32_bytes signed64_bytes run_bytes unsigned_at
  root_dir_group_read =
      let here : drop 84 behind ≡ unsigned_bytes 4 (cast_unsigned w32 s.root_dir.group) ++ drop 88 behind = refl in
      ap (little_number 4) (dropped 84 ∙ here) ∙ little_number-reads_back 4 (cast_unsigned w32 s.root_dir.group) (drop 88 behind) (below_4 s.root_dir.group fits.root_dir_group)

  root_dir_group_is : signed32_at (sector_of s) 116 ≡ s.root_dir.group
  unfolding signed32_at
  root_dir_group_is = ap (cast_signed w32) root_dir_group_read ∙ to_z-of_z w32 s.root_dir.group fits.root_dir_group

  root_dir_start_read : unsigned_at 2 (sector_of s) 120 ≡ s.root_dir.start
  unfolding behind sizes_of groups_of places_of unsigned_bytes signed32_bytes signed64_bytes run_bytes unsigned_at
  root_dir_start_read =
      let here : drop 88 behind ≡ unsigned_bytes 2 (s.root_dir.start) ++ drop 90 behind = refl in
      ap (little_number 2) (dropped 88 ∙ here) ∙ little_number-reads_back 2 (s.root_dir.start) (drop 90 behind) fits.root_dir_start

  root_dir_len_read : unsigned_at 2 (sector_of s) 122 ≡ s.root_dir.len
  unfolding behind sizes_of groups_of places_of unsigned_bytes signed32_bytes signed64_bytes run_bytes unsigned_at
  root_dir_len_read =
      let here : drop 90 behind ≡ unsigned_bytes 2 (s.root_dir.len) ++ drop 92 behind = refl in
      ap (little_number 2) (dropped 90 ∙ here) ∙ little_number-reads_back 2 (s.root_dir.len) (drop 92 behind) fits.root_dir_len

  root_dir_is : run_in (sector_of s) 116 ≡ s.root_dir
  unfolding run_in
  root_dir_is = λ i. record { group = root_dir_group_is i; start = root_dir_start_read i; len = root_dir_len_read i }

  indices_group_read : unsigned_at 4 (sector_of s) 124 ≡ cast_unsigned w32 s.indices.group
  unfolding behind sizes_of groups_of places_of unsigned_bytes signed32_bytes signed64_bytes run_bytes unsigned_at
  indices_group_read =
      let here : drop 92 behind ≡ unsigned_bytes 4 (cast_unsigned w32 s.indices.group) ++ drop 96 behind = refl in
      ap (little_number 4) (dropped 92 ∙ here) ∙ little_number-reads_back 4 (cast_unsigned w32 s.indices.group) (drop 96 behind) (below_4 s.indices.group fits.indices_group)

  indices_group_is : signed32_at (sector_of s) 124 ≡ s.indices.group
  unfolding signed32_at
  indices_group_is = ap (cast_signed w32) indices_group_read ∙ to_z-of_z w32 s.indices.group fits.indices_group

  indices_start_read : unsigned_at 2 (sector_of s) 128 ≡ s.indices.start
  unfolding behind sizes_of groups_of places_of unsigned_bytes signed32_bytes signed64_bytes run_bytes unsigned_at
  indices_start_read =
      let here : drop 96 behind ≡ unsigned_bytes 2 (s.indices.start) ++ drop 98 behind = refl in
      ap (little_number 2) (dropped 96 ∙ here) ∙ little_number-reads_back 2 (s.indices.start) (drop 98 behind) fits.indices_start

  indices_len_read : unsigned_at 2 (sector_of s) 130 ≡ s.indices.len
  unfolding behind sizes_of groups_of places_of unsigned_bytes signed32_bytes signed64_bytes run_bytes unsigned_at
  indices_len_read =
      let here : drop 98 behind ≡ unsigned_bytes 2 (s.indices.len) ++ drop 100 behind = refl in
      ap (little_number 2) (dropped 98 ∙ here) ∙ little_number-reads_back 2 (s.indices.len) (drop 100 behind) fits.indices_len

  indices_is : run_in (sector_of s) 124 ≡ s.indices
  unfolding run_in
  indices_is = λ i. record { group = indices_group_is i; start = indices_start_read i; len = indices_len_read i }

  name_is : take 32 (sector_of s) ≡ s.name
  name_is = ap (take 32) from_name ∙ take_at s.name behind 32 fits.name

  rest_is : take 380 (drop 132 (sector_of s)) ≡ s.rest
  unfolding behind sizes_of groups_of places_of unsigned_bytes signed32_bytes signed64_bytes run_bytes
  rest_is = let here : drop 100 behind ≡ s.rest = refl in ap (take 380) (dropped 100 ∙ here) ∙ take_all 380 s.rest (omega (arith, fits.rest))

  pub super_again : super_at (sector_of s) ≡ s
  super_again = λ i. record {
    name = name_is i;
    magic1 = magic1_is i;
    fs_byte_order = fs_byte_order_is i;
    block_size = block_size_read i;
    block_shift = block_shift_read i;
    num_blocks = num_blocks_is i;
    used_blocks = used_blocks_is i;
    inode_size = inode_size_is i;
    magic2 = magic2_is i;
    blocks_per_ag = blocks_per_ag_is i;
    ag_shift = ag_shift_is i;
    num_ags = num_ags_is i;
    flags = flags_is i;
    log_blocks = log_blocks_is i;
    log_start = log_start_is i;
    log_end = log_end_is i;
    magic3 = magic3_is i;
    root_dir = root_dir_is i;
    indices = indices_is i;
    rest = rest_is i;
  }
