-- What is written is the new volume.
use Rattle.std.proofs.Common.{◌≡◌, inl, ⊎_elim, ℕ, ℤ, pos, ◌+◌, ◌-◌, ◌*◌, ◌/◌, ◌%◌, ◌^◌, ◌<◌, ◌≤◌, List, ◌∷◌, ◌++◌, length, take, drop, refl, sym, ◌∙◌, ap, subst, arith, length-append, length-drop}
use Rattle.std.specs.Prelude.{replicate}
use Rattle.std.proofs.lemmas.List.{length-take-le, length-replicate}
use Rattle.std.proofs.Math.Nat.{mul-le-mul_left}
use Rattle.bfs_base.specs.Images.{sector}
use Rattle.bfs_base.proofs.Sectors.{same_sectors, sector_part}
use Rattle.bfs_disk.specs.State.{State, ReadsAs}
use Rattle.bfs_super.specs.declared.geometry.Geometry.{Geometry}
use Rattle.bfs_super.specs.declared.fault.SuperFault.TheVariants.{Magic}
use Rattle.bfs_super.specs.Conditions.{natural}
use Rattle.bfs_super.specs.Geometry.{IsBlockSize, bitmap_length}
use Rattle.bfs_super.specs.Layout.{super_at, sector_of}
use Rattle.bfs_mkfs.specs.Laid.{IsPlanned, HasTrees, IsLaid, made, bitmap_bytes, pages_length, tree_blocks, blocks_in}
use Rattle.bfs_mkfs.specs.Written.{Meets, Opened, IsWritten, IsBlank, Area, area, end_of}
use Rattle.bfs_mkfs.specs.Format.{IsRefused}
use Rattle.bfs_mkfs.proofs.Trees.{zero_signed32}
use Rattle.bfs_mkfs.proofs.Planned.{bitmap_bound, some_blocks, used_bound}

-- the sectors of a block
pub sectors_of : (size : ℕ) → IsBlockSize size → (size ≡ 512 * (size / 512)) × (2 ≤ size / 512)
sectors_of size is =
    let at : (s : ℕ) → size ≡ s → (s ≡ 512 * (s / 512)) × (2 ≤ s / 512) → (size ≡ 512 * (size / 512)) × (2 ≤ size / 512) = λ s e p. subst (λ m. (m ≡ 512 * (m / 512)) × (2 ≤ m / 512)) (sym e) p in
    ⊎_elim (λ e. at 1024 e (refl, omega arith)) (λ rest. ⊎_elim (λ e. at 2048 e (refl, omega arith)) (λ more. ⊎_elim (λ e. at 4096 e (refl, omega arith)) (λ e. at 8192 e (refl, omega arith)) more) rest) is

-- an area of an image, sector by sector
pub area_is : (image bytes : List ℕ) (at n : ℕ) → length bytes ≡ 512 * n → 512 * (at + n) ≤ length image
    → ((k : ℕ) → at ≤ k → k < at + n → sector k image ≡ sector (k - at) bytes) → take (512 * n) (drop (512 * at) image) ≡ bytes
area_is image bytes at n long room each =
    let part = take (512 * n) (drop (512 * at) image) in
    let here : length part ≡ 512 * n = length-take-le (512 * n) (drop (512 * at) image) (omega (arith, room, length-drop (512 * at) image)) in
    same_sectors n part bytes (here ∙ sym long) (omega (arith, here))
    (λ j lt. sector_part at j (512 * n) image (omega (arith, lt)) ∙ each (at + j) (omega arith) (omega (arith, lt)) ∙ (let back : at + j - at ≡ j = omega arith in ap (λ (i : ℕ). sector i bytes) back))

pub length-bitmap : (used n : ℕ) → used / 8 + 1 ≤ n → length (bitmap_bytes used n) ≡ n
unfolding bitmap_bytes
length-bitmap used n room =
    let ones : List ℕ = replicate (used / 8) 255 in
    let zeros : List ℕ = replicate (n - used / 8 - 1) 0 in
    length-append ones ((2 ^ (used % 8) - 1) ∷ zeros) ∙ omega (arith, room, length-replicate {A = ℕ} (used / 8) 255, length-replicate {A = ℕ} (n - used / 8 - 1) 0)

pub length-trees : (g : Geometry) (stamp : ℤ) (bytes : List ℕ) → HasTrees g stamp bytes → length bytes ≡ 5 * tree_blocks g * g.block_size
length-trees g stamp bytes is =
    let m = g.block_size + pages_length g.block_size * g.block_size in
    let e4 = length-append is.size is.last_modified in
    let e3 = length-append is.name (is.size ++ is.last_modified) in
    let e2 = length-append is.indices (is.name ++ (is.size ++ is.last_modified)) in
    let e1 = length-append is.root (is.indices ++ (is.name ++ (is.size ++ is.last_modified))) in
    ap length is.parts ∙ omega (arith, e1, e2, e3, e4, is.root_is.long, is.indices_is.long, is.name_is.long, is.size_is.long, is.modified_is.long)

-- where the two areas are
pub record Places (g : Geometry) (stamp : ℤ) (bitmap trees : List ℕ) : Type 0 where
  pub sector : g.block_size ≡ 512 * (g.block_size / 512)
  pub low : 2 ≤ g.block_size / 512
  pub long_bitmap : length bitmap ≡ 512 * (g.block_size / 512 * bitmap_length g.blocks g.block_size)
  pub long_trees : length trees ≡ 512 * (g.block_size / 512 * (5 * tree_blocks g))
  pub order : g.block_size / 512 + length bitmap / 512 ≤ g.block_size / 512 * g.root
  pub range : g.block_size / 512 * g.root + length trees / 512 ≤ g.blocks * (g.block_size / 512)

pub places_of : (g : Geometry) (stamp : ℤ) (bitmap trees : List ℕ) → IsPlanned g → bitmap ≡ bitmap_bytes g.used (bitmap_length g.blocks g.block_size * g.block_size) → HasTrees g stamp trees → Places g stamp bitmap trees
places_of g stamp bitmap trees is is_bitmap is_trees =
    let size = g.block_size in
    let r = size / 512 in
    let bl = bitmap_length g.blocks size in
    let whole = sectors_of size is.size in
    let bounds = bitmap_bound g.blocks size is.size (some_blocks g is) is.few in
    let long_bitmap : length bitmap ≡ bl * size = ap length is_bitmap ∙ length-bitmap g.used (bl * size) (omega (arith, used_bound g is, bounds.0)) in
    let lb : length bitmap ≡ 512 * (r * bl) = long_bitmap ∙ ap (λ (n : ℕ). bl * n) whole.0 ∙ omega arith in
    let lt : length trees ≡ 512 * (r * (5 * tree_blocks g)) = length-trees g stamp trees is_trees ∙ ap (λ (n : ℕ). 5 * tree_blocks g * n) whole.0 ∙ omega arith in
    let fits : g.root + 5 * tree_blocks g ≤ g.blocks = omega (arith, is.plan.root, is.plan.used, is.plan.room) in
    record {
      sector = whole.0;
      low = whole.1;
      long_bitmap = lb;
      long_trees = lt;
      order = (let le : r * (1 + bl) ≤ r * g.root = mul-le-mul_left r (let l : 1 + bl ≤ g.root = omega (arith, is.plan.root) in l) in omega (arith, le, lb));
      range = (let le : r * (g.root + 5 * tree_blocks g) ≤ r * g.blocks = mul-le-mul_left r fits in omega (arith, le, lt));
    }

-- what is written is laid
pub laid : (g : Geometry) (label : List ℕ) (stamp : ℤ) (block bitmap trees c : List ℕ) → IsPlanned g
    → bitmap ≡ bitmap_bytes g.used (bitmap_length g.blocks g.block_size * g.block_size) → HasTrees g stamp trees → block ≡ sector_of (made g label)
    → (n : ℕ) → IsWritten block (area (g.block_size / 512) bitmap) (area (g.block_size / 512 * g.root) trees) n c → IsLaid g label stamp c
laid g label stamp block bitmap trees c is is_bitmap is_trees is_block n written =
    let size = g.block_size in
    let r = size / 512 in
    let bl = bitmap_length g.blocks size in
    let p = places_of g stamp bitmap trees is is_bitmap is_trees in
    let nb = r * bl in
    let nt = r * (5 * tree_blocks g) in
    let long : 512 * end_of (area (r * g.root) trees) ≤ length c = omega (arith, written.inside, written.long) in
    let the_bitmap : take (512 * nb) (drop (512 * r) c) ≡ bitmap = area_is c bitmap r nb p.long_bitmap (omega (arith, p.order, p.long_bitmap, long)) (λ k low high. written.first k (omega (arith, high, p.order, p.long_bitmap, long)) low (omega (arith, high, p.long_bitmap))) in
    let the_trees : take (512 * nt) (drop (512 * (r * g.root)) c) ≡ trees = area_is c trees (r * g.root) nt p.long_trees (omega (arith, p.long_trees, long)) (λ k low high. written.second k (omega (arith, high, p.long_trees, long)) low (omega (arith, high, p.long_trees))) in
    let from_blocks : (first n : ℕ) → blocks_in size first n c ≡ take (512 * (r * n)) (drop (512 * (r * first)) c) = λ first n.
    (let a : n * size ≡ 512 * (r * n) = ap (λ (m : ℕ). n * m) p.sector ∙ omega arith in
    let b : first * size ≡ 512 * (r * first) = ap (λ (m : ℕ). first * m) p.sector ∙ omega arith in
    ap (λ (m : ℕ). take m (drop (first * size) c)) a ∙ ap (λ (m : ℕ). take (512 * (r * n)) (drop m c)) b) in
    record {
      super = written.super ∙ is_block;
      bitmap = from_blocks 1 bl ∙ (let one : r * 1 ≡ r = omega arith in ap (λ (m : ℕ). take (512 * nb) (drop (512 * m) c)) one) ∙ the_bitmap ∙ is_bitmap;
      trees = subst (HasTrees g stamp) (sym (from_blocks g.root (5 * tree_blocks g) ∙ the_trees)) is_trees;
    }

-- a disk reads as what was opened
pub reads_written : {P : ℕ → List ℕ → Type 0} (block : List ℕ) (a b : Area) (n : ℕ) (s : State) (c : List ℕ) → 1 < s.size → end_of b ≤ n → n ≤ s.size → Meets P (Opened block a b) s → ReadsAs s c → IsWritten block a b n c
reads_written block a b n s c some fits room known reads =
    let inside : (k : ℕ) → k < length c / 512 → k < s.size = λ k lt. omega (arith, reads.size, lt) in
    record {
      inside = fits;
      long = omega (arith, reads.size, room);
      super = reads.each 1 some ∙ (known.reads 1 some).super refl;
      first = λ k lt low high. reads.each k (inside k lt) ∙ (known.reads k (inside k lt)).first low high;
      second = λ k lt low high. reads.each k (inside k lt) ∙ (known.reads k (inside k lt)).second low high;
    }

-- a blank superblock is refused by its first magic number
pub blank_refused : (c : List ℕ) → IsBlank c → IsRefused c
blank_refused c blank =
    let zero : (super_at (sector 1 c)).magic1 ≡ pos 0 = ap (λ (l : List ℕ). (super_at l).magic1) blank ∙ zero_signed32 512 32 in
    (Magic 1 ((super_at (sector 1 c)).magic1), inl (refl, (λ is. absurd (let e : 0 ≡ 1111905073 = ap natural (sym zero ∙ is) in omega (arith, e))), refl))
