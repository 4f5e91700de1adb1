-- What is known of a node, and of a directory's stream, of a volume at work.
use Rattle.std.proofs.Common.{◌≡◌, ◌≢◌, ◌≤◌, ◌<◌, ◌+◌, ℕ, zero, suc, List, [], ◌∷◌, ◌++◌, ap, subst, arith, Option}
use Rattle.std.specs.Prelude.{IsSome}
use Rattle.bfs_base.specs.Lists.{times, Has}
use Rattle.bfs_super.specs.Conditions.{IsValid}
use Rattle.bfs_super.specs.Geometry.{geometry_of}
use Rattle.bfs_super.specs.declared.geometry.Geometry.{Geometry}
use Rattle.bfs_super.specs.declared.sup.Super.{Super}
use Rattle.bfs_bitmap.specs.Runs.{Room}
use Rattle.bfs_stream.specs.Told.{AreTold}
use Rattle.bfs_stream.proofs.Doubles.{times-append}
use Rattle.bfs_tree.specs.declared.call.Kind.TheVariants.{Dir}
use Rattle.bfs_tree.specs.Trees.{Node, Tree, IsNode}
use Rattle.bfs_sound.specs.Volumes.{Volume, bitmap_blocks, IsMarked}
use Rattle.bfs_sound.specs.Inodes.{is_short, inode_blocks}
use Rattle.bfs_sound.specs.Owners.{file_data, fixed_blocks, reach}
use Rattle.bfs_sound.proofs.Nodes.{node_metadata, own_metadata, other_blocks}
use Rattle.bfs_shift.specs.Lists.{Lists}
use Rattle.bfs_shift.specs.Shifts.{volume_in}
use Rattle.bfs_shift.specs.Work.{IsAtWork}
use Rattle.bfs_shift.proofs.Basics.{some_bytes}
use Rattle.bfs_shift.proofs.Files.{has_own, metadata_in, all_split, not_loose}
use Rattle.bfs_base.specs.declared.kind.KeyKind.TheVariants.{Text}
use Rattle.bfs_stream.specs.Sizes.{Origin, sizes_of}
use Rattle.bfs_tree.specs.declared.call.Kind.{Kind}
use Rattle.bfs_maps.specs.Mapped.{HasHeld, IsMap}
use Rattle.bfs_maps.specs.NumberTrees.{AreNumbers}
use Rattle.bfs_shift.proofs.Held.{owner_held, directory_is_map}
use Rattle.bfs_shift.proofs.Owners.{directory_owns}

pub not_one : (k d : ℕ) → k ≢ d → times k (d ∷ []) ≡ 0
not_one k d apart = grind (arith, apart)

pub just_one : (d : ℕ) → times d (d ∷ []) ≡ 1
just_one d = grind arith

pub not_there : (k d : ℕ) → times k (d ∷ []) ≡ 0 → k ≢ d
not_there k d none e = let p : times d (d ∷ []) ≡ 0 = subst (λ (j : ℕ). times j (d ∷ []) ≡ 0) e none in let one = just_one d in omega (arith, p, one)

pub zero_fixed : (l : List ℕ) → 0 < times 0 (0 ∷ l)
zero_fixed l = let e : times 0 (0 ∷ l) ≡ 1 + times 0 l = grind arith in omega (arith, e)

module _ (s : Super) (v : Room) (m : ℕ → Option (List ℕ)) (tree : Tree) (lists : Lists) (loose : List ℕ) (d : ℕ) (n : Node) (work : IsAtWork (geometry_of s) v m tree lists loose) (is : IsNode tree d n) where
  abbrev g : Geometry
  g = geometry_of s

  abbrev was : Volume
  was = volume_in g m

  pub own_few : (k : ℕ) → times k (node_metadata was (d, n)) + (times k (fixed_blocks was) + times k (bitmap_blocks g)) + times k (file_data was tree) ≤ times k (reach was tree ++ loose)
  own_few k = let p = all_split was tree lists loose work.stocked k in let i = metadata_in was tree lists loose work.stocked d n is k in omega (arith, p, i)

  pub apart_own : (times d (fixed_blocks was) ≡ 0) × (times d (bitmap_blocks g) ≡ 0) × (times d (file_data was tree) ≡ 0) × (0 < times d (reach was tree))
  apart_own =
      let f = own_few d in
      let o = has_own was d n in
      let m1 : times d (reach was tree ++ loose) ≤ 1 = work.stocked.once d in
      let l = not_loose was tree lists loose work.stocked d n is in
      let a = times-append d (reach was tree) loose in
      (omega (arith, f, o, m1), omega (arith, f, o, m1), omega (arith, f, o, m1), (let r : 0 < times d (reach was tree) = omega (arith, f, o, l, a) in r))

  -- the inode of a node is told
  pub inode_told : IsSome (m d)
  inode_told = work.told d (apart_own.3, apart_own.2) apart_own.0

  pub no_bits : times d (bitmap_blocks g) ≡ 0
  no_bits = apart_own.1

  pub not_zero : 1 ≤ d
  not_zero = by_place d apart_own.0
    where
      by_place : (x : ℕ) → times x (fixed_blocks was) ≡ 0 → 1 ≤ x
      by_place (suc x) none = omega arith
      by_place zero none = absurd (let z : 0 < times 0 (fixed_blocks was) = zero_fixed _ in omega (arith, z, none))

-- a directory's stream is metadata
pub stream_metadata : (v : Volume) (d : ℕ) (n : Node) → n.kind ≡ Dir → (k : ℕ) → times k (inode_blocks v d) ≤ times k (node_metadata v (d, n))
unfolding node_metadata
stream_metadata v d n dir k =
    let own : times k (own_metadata v d n.kind (is_short v d)) ≡ times k (inode_blocks v d) = ap (λ (x : Kind). times k (own_metadata v d x (is_short v d))) dir in
    let p : times k (own_metadata v d n.kind (is_short v d) ++ other_blocks v d) ≡ times k (own_metadata v d n.kind (is_short v d)) + times k (other_blocks v d) = times-append k (own_metadata v d n.kind (is_short v d)) (other_blocks v d) in
    omega (arith, own, p)

module _ (s : Super) (v : Room) (m : ℕ → Option (List ℕ)) (tree : Tree) (lists : Lists) (loose : List ℕ) (d : ℕ) (n : Node) (valid : IsValid s) (work : IsAtWork (geometry_of s) v m tree lists loose) (is : IsNode tree d n) (dir : n.kind ≡ Dir) where
  abbrev at : Geometry
  at = geometry_of s

  abbrev before : Volume
  before = volume_in at m

  abbrev o : Origin
  o = record { id = d; sizes = sizes_of s }

  some : 0 < s.block_size
  some = some_bytes s valid

  pub stream_told : AreTold m (inode_blocks before d)
  stream_told k h =
      let has : 0 < times k (inode_blocks before d) = h in
      let i = stream_metadata before d n dir k in
      let f = own_few s v m tree lists loose d n work is k in
      let most : times k (reach before tree ++ loose) ≤ 1 = work.stocked.once k in
      let p = all_split before tree lists loose work.stocked k in
      let a = times-append k (reach before tree) loose in
      let in_it = metadata_in before tree lists loose work.stocked d n is k in
      let reached : 0 < times k (reach before tree) = omega (arith, has, i, p, a, in_it) in
      work.told k (reached, omega (arith, has, i, f, most)) (omega (arith, has, i, f, most))

  pub directory_held : HasHeld o v m
  directory_held = owner_held at v m d (directory_owns at v m tree lists loose work.stocked work.volume some work.fits d n is dir stream_told) stream_told

  pub directory_map : AreNumbers (lists.rows d) → IsMap Text o v m
  directory_map numbers = directory_is_map at v m tree lists loose d n work.volume some work.fits work.stocked is dir stream_told numbers

  pub stream_marked : (k : ℕ) → Has (inode_blocks before d) k → IsMarked before k
  stream_marked k h = (work.stocked.marks k).1 (
      let has : 0 < times k (inode_blocks before d) = h in
      let i = stream_metadata before d n dir k in
      let f = own_few s v m tree lists loose d n work is k in
      let r : 0 < times k (reach before tree ++ loose) = omega (arith, has, i, f) in r)
