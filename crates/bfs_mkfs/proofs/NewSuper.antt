-- The superblock of a new volume is valid, and its image is whole with the empty tree.
use Rattle.std.proofs.Common.{◌≡◌, ◌≤◌, ◌<◌, ◌+◌, ◌*◌, ◌-◌, ◌^◌, ◌/◌, inl, inr, ℕ, ℤ, pos, List, length, refl, sym, ap, ◌∙◌, subst, arith, take, drop}
use Rattle.std.proofs.lemmas.Int.{ints}
use Rattle.std.specs.Prelude.{◌≤ℤ◌, ◌<ℤ◌}
use Rattle.bfs_base.specs.Images.{block}
use Rattle.bfs_bytes.specs.declared.Run.{Run}
use Rattle.bfs_super.specs.Conditions.{natural, block_of_run, IsValid, InGroups, IsInodeRun}
use Rattle.bfs_super.specs.Geometry.{IsBlockSize, bitmap_length, geometry_of}
use Rattle.bfs_super.specs.Layout.{super_at, sector_of}
use Rattle.bfs_super.specs.declared.sup.Super.{Super}
use Rattle.bfs_super.specs.declared.geometry.Geometry.{Geometry}
use Rattle.bfs_log.specs.Replay.{super_of, blocks_of, block_sectors, Valid}
use Rattle.bfs_log.proofs.Valids.{valid_by}
use Rattle.bfs_tree.specs.Trees.{empty_tree}
use Rattle.bfs_sound.specs.Volumes.{Volume}
use Rattle.bfs_sound.specs.Whole.{IsSound, volume_of, IsWhole}
use Rattle.bfs_sound.proofs.Carried.{volume_is}
use Rattle.bfs_mkfs.specs.Laid.{made, shift_of_size, address, IsPlanned, IsLaid}
use Rattle.bfs_mkfs.proofs.Planned.{some_blocks, used_bound}
use Rattle.bfs_mkfs.proofs.Trees.{block_bounds}
use Rattle.bfs_mkfs.proofs.Whole.{sectors_of}
use Rattle.bfs_mkfs.proofs.Bytes.{blocks_by}
use Rattle.std.proofs.Math.Pow.{pow_mono}
use Rattle.std.proofs.Math.Nat.{mul-le-mul_right}
use Rattle.bfs_mkfs.proofs.Leaves.{indices_at, used_at}
use Rattle.bfs_mkfs.proofs.NewVolume.{new_sound}

has_block_size : (size : ℕ) → IsBlockSize size → (10 ≤ shift_of_size size) × (shift_of_size size ≤ 13) × (size ≡ 2 ^ shift_of_size size)
has_block_size size (inl e) = subst (λ n. (10 ≤ shift_of_size n) × (shift_of_size n ≤ 13) × (n ≡ 2 ^ shift_of_size n)) (sym e) (omega arith, omega arith, refl)
has_block_size size (inr (inl e)) = subst (λ n. (10 ≤ shift_of_size n) × (shift_of_size n ≤ 13) × (n ≡ 2 ^ shift_of_size n)) (sym e) (omega arith, omega arith, refl)
has_block_size size (inr (inr (inl e))) = subst (λ n. (10 ≤ shift_of_size n) × (shift_of_size n ≤ 13) × (n ≡ 2 ^ shift_of_size n)) (sym e) (omega arith, omega arith, refl)
has_block_size size (inr (inr (inr e))) = subst (λ n. (10 ≤ shift_of_size n) × (shift_of_size n ≤ 13) × (n ≡ 2 ^ shift_of_size n)) (sym e) (omega arith, omega arith, refl)

module _ (g : Geometry) (label : List ℕ) (planned : IsPlanned g) where
  abbrev s : Super
  s = made g label

  abbrev bm : ℕ
  bm = bitmap_length g.blocks g.block_size

  some : 1 ≤ g.blocks
  some = some_blocks g planned

  low : 1024 ≤ g.block_size
  low = (block_bounds g.block_size planned.size).0

  large : 8192 ≤ 2 ^ g.shift
  large =
      let first = planned.plan.shift in
      let up : 2 ^ first.0 ≤ 2 ^ g.shift = pow_mono first.2.from in
      let e : 2 ^ first.0 ≡ g.block_size * 8 = first.1 in
      let l = low in
      omega (arith, up, e, l)

  place : (id : ℕ) → block_of_run s (address id) ≡ id
  place id = let z : 0 * 2 ^ g.shift ≡ 0 = grind arith in omega (arith, z)

  log_place : block_of_run s g.log ≡ 1 + bm
  log_place = ap (λ (r : Run). natural r.group * 2 ^ g.shift + r.start) planned.plan.log ∙ (let z : 0 * 2 ^ g.shift ≡ 0 = grind arith in omega (arith, z))

  log_start : g.log.start ≡ 1 + bm
  log_start = ap (λ (r : Run). r.start) planned.plan.log

  some_groups : 0 < g.groups
  some_groups =
      let e = planned.plan.groups in
      let d : 0 < (g.blocks + (2 ^ g.shift - 1)) / 2 ^ g.shift = at_least (g.blocks + (2 ^ g.shift - 1)) (2 ^ g.shift) (let l = large in omega (arith, l)) (let l = some in let m = large in omega (arith, l, m)) in
      omega (arith, e, d)
    where
      at_least : (a b : ℕ) → 0 < b → b ≤ a → 0 < a / b
      at_least a b p le = grind (arith, p, le)

  some_per_group : 1 ≤ g.per_group
  some_per_group = not_none g.per_group (2 ^ g.shift) (g.block_size * 8) planned.plan.per_group (let l = large in omega (arith, l))
    where
      not_none : (p n m : ℕ) → n ≡ p * m → 1 ≤ n → 1 ≤ p
      not_none p n m e h = grind (arith, e, h)

  shift_high : g.shift ≤ 16
  shift_high = planned.plan.shift.2.last

  in_groups : (r : Run) → r.group ≡ pos 0 → InGroups s r
  in_groups r e = subst (λ z. (pos 0 ≤ℤ z) × (z <ℤ pos g.groups)) (sym e) (omega (arith, ints), (let p = some_groups in omega (arith, ints, p)))

  root_low : 1 + bm + g.log.len ≡ g.root
  root_low = sym planned.plan.root

  inode_run : (id : ℕ) → g.root ≤ id → id < g.used → IsInodeRun s (address id)
  inode_run id from to = (
    in_groups (address id) refl,
    refl,
    (let p = place id in let r = root_low in omega (arith, p, r, from)),
    (let p = place id in let r = planned.plan.room in omega (arith, p, r, to)),
    inr (let p = place id in let l = log_place in let r = root_low in omega (arith, p, l, r, from)),
  )

  is_valid : g.root < g.used → g.indices < g.used → g.root < g.indices → IsValid s
  is_valid root_in indices_in apart = record {
    magic1 = refl;
    magic2 = refl;
    magic3 = refl;
    order = refl;
    block_size = has_block_size g.block_size planned.size;
    inode_size = refl;
    length = ((let p = some in omega (arith, ints, p)), (let p = planned.few in omega (arith, ints, p)));
    groups = (((let p = some_per_group in omega (arith, ints, p)), omega (arith, ints), (let p = shift_high in omega (arith, ints, p))), planned.plan.per_group, ap pos planned.plan.groups);
    log = (
      in_groups g.log (ap (λ (r : Run). r.group) planned.plan.log),
      (let a = log_start in let b = root_low in let c = root_in in let d = used_bound g planned in let e = large in omega (arith, a, b, c, d, e)),
      planned.log_low,
      (let a = log_place in omega (arith, a)),
      (let a = log_place in let b = root_low in let c = planned.plan.room in omega (arith, a, b, c, root_in)),
    );
    log_start = (omega (arith, ints), (let p = planned.log_low in omega (arith, ints, p)));
    log_end = (omega (arith, ints), (let p = planned.log_low in omega (arith, ints, p)));
    root = inode_run g.root (omega arith) root_in;
    indices = inr (inode_run g.indices (omega (arith, apart)) indices_in, λ e. (let a = place g.indices in let b = place g.root in let same : block_of_run s (address g.indices) ≡ block_of_run s (address g.root) = e in omega (arith, a, b, same, apart)));
  }

  pub geometry_same : geometry_of s ≡ g
  geometry_same =
      let root = place g.root in
      let indices = place g.indices in
      λ i. record { block_size = g.block_size; blocks = g.blocks; per_group = g.per_group; shift = g.shift; groups = g.groups; log = g.log; root = root i; indices = indices i; used = g.used }

-- an image of the volume, where its superblock reads as it was printed
module _ (g : Geometry) (label : List ℕ) (stamp : ℤ) (image : List ℕ) (planned : IsPlanned g) (again : super_at (sector_of (made g label)) ≡ made g label)
    (laid : IsLaid g label stamp image) (long : g.blocks * g.block_size ≤ length image) where
  super_is : super_of image ≡ made g label
  super_is = ap super_at laid.super ∙ again

  indices_place : g.indices ≡ g.root + (1 + (2048 + (g.block_size - 1)) / g.block_size)
  indices_place = planned.plan.indices

  valid_made : IsValid (made g label)
  valid_made =
      let a = indices_at g stamp image planned laid.trees in
      let b = used_at g stamp image planned laid.trees in
      is_valid g label planned (omega (arith, b)) (omega (arith, a, b)) (omega (arith, a))

  valid : Valid image
  valid = valid_by image (made g label) super_is valid_made (let a = some_blocks g planned in let b = (block_bounds g.block_size planned.size).0 in let c : 1 * g.block_size ≤ g.blocks * g.block_size = mul-le-mul_right g.block_size a in omega (arith, a, b, c, long)) long

  block_is : (b : ℕ) → blocks_of image b ≡ blocks_by g.block_size image b
  block_is b =
      let e = (sectors_of g.block_size planned.size).0 in
      let f : 512 * (g.block_size / 512 * b) ≡ b * g.block_size = (let z : 512 * (g.block_size / 512 * b) ≡ b * (512 * (g.block_size / 512)) = grind arith in z) ∙ ap (λ m. b * m) (sym e) in
      ap (λ (s : Super). block (block_sectors s) b image) super_is
      ∙ ap (λ m. take m (drop (512 * (g.block_size / 512 * b)) image)) (sym e) ∙ ap (λ m. take g.block_size (drop m image)) f

  pub new_whole : IsWhole image (empty_tree g.root stamp)
  new_whole = record {
    valid = valid;
    whole = record {
      valid = volume_is image valid;
      emptied = ap (λ (s : Super). s.log_start) super_is ∙ sym (ap (λ (s : Super). s.log_end) super_is);
      sound = subst (λ (v : Volume). IsSound v (empty_tree g.root stamp)) (sym same_volume) (new_sound g stamp image planned laid.bitmap laid.trees);
    };
  }
    where
      same_volume : volume_of (super_of image) (blocks_of image) ≡ record { geometry = g; blocks = blocks_by g.block_size image }
      same_volume = λ i. record { geometry = (ap geometry_of super_is ∙ geometry_same g label planned) i; blocks = λ b. block_is b i }
