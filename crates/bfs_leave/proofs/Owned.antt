-- A node without attributes in a directory: its blocks, and that its stream owns them, whether or not the bytes of a file are told.
use Rattle.std.proofs.Common.{◌≡◌, ◌≤◌, ◌<◌, ◌+◌, ℕ, List, [], ◌∷◌, ◌++◌, refl, ap, ◌∙◌, subst, arith, Bool, true, false, cond, Option, None}
use Rattle.std.specs.Prelude.{◌==◌, ◌&&◌, IsSome}
use Rattle.std.specs.List.{flat_map}
use Rattle.bfs_base.specs.Lists.{times, Has, AreSame}
use Rattle.bfs_super.specs.Conditions.{IsValid}
use Rattle.bfs_super.specs.Geometry.{geometry_of}
use Rattle.bfs_super.specs.declared.geometry.Geometry.{Geometry}
use Rattle.bfs_super.specs.declared.sup.Super.{Super}
use Rattle.bfs_bitmap.specs.Runs.{Room}
use Rattle.bfs_stream.specs.Grown.{Owns}
use Rattle.bfs_stream.specs.Places.{HasStream}
use Rattle.bfs_stream.specs.Sizes.{Origin, sizes_of}
use Rattle.bfs_stream.proofs.Doubles.{times-append}
use Rattle.bfs_tree.specs.declared.call.Kind.{Kind}
use Rattle.bfs_tree.specs.declared.call.Kind.TheVariants.{File, Dir, Link}
use Rattle.bfs_tree.specs.Trees.{Node, Tree, IsNode, is_file, is_link}
use Rattle.bfs_sound.specs.Volumes.{Volume, sizes}
use Rattle.bfs_sound.specs.Inodes.{kind_bits, is_short, frame_blocks, stream_blocks, inode_blocks}
use Rattle.bfs_sound.specs.Attributes.{attribute_directory, attribute_inodes}
use Rattle.bfs_sound.specs.Nodes.{HasTarget, HasContent, HasNode}
use Rattle.bfs_sound.specs.Owners.{has_no_stream, own_blocks, node_blocks, owners, reach, In}
use Rattle.bfs_sound.proofs.Nodes.{own_metadata, other_blocks, node_metadata}
use Rattle.bfs_shift.specs.Lists.{Lists}
use Rattle.bfs_shift.specs.Shifts.{volume_in}
use Rattle.bfs_shift.specs.Work.{IsAtWork}
use Rattle.bfs_shift.proofs.AtWork.{own_few}
use Rattle.bfs_shift.proofs.Basics.{some_bytes}
use Rattle.bfs_shift.proofs.Files.{metadata_in, all_split}
use Rattle.bfs_shift.proofs.Owners.{owners_are}
use Rattle.bfs_shift.proofs.Owning.{owner_owns}
use Rattle.bfs_make.proofs.Emptying.{full, fits_full, owns_told}
use Rattle.bfs_leave.specs.Given.{keeps_target}

link_test : (kind : Kind) → (kind_bits kind == 10) ≡ is_link kind
link_test File = refl
link_test Dir = refl
link_test Link = refl

-- the inode of a node tells whether it has a stream
pub alone_is : (v : Volume) (id : ℕ) (n : Node) → HasNode v id n → keeps_target (v.blocks id) ≡ has_no_stream v (id, n)
alone_is v id n has = ap (λ (t : Bool). t && is_short v id) (ap (λ (c : ℕ). c == 10) has.kind ∙ link_test n.kind)

stream_of : (v : Volume) (id : ℕ) (n : Node) (kind : Kind) → HasContent v id n kind → (is_link kind && is_short v id) ≡ false → HasStream (sizes v.geometry) v.blocks id
stream_of v id n File c e = c.0
stream_of v id n Dir c e = c.0
stream_of v id n Link c e = by_target (is_short v id) e c.0
  where
    by_target : (t : Bool) → t ≡ false → HasTarget v id n.target t → HasStream (sizes v.geometry) v.blocks id
    by_target true e h = absurd (let bad : true ≡ false = e in cc)
    by_target false e h = h.0

-- without an attribute directory a node has its own blocks alone
pub bare_blocks : (v : Volume) (id : ℕ) (n : Node) (t : Bool) → attribute_directory v id ≡ None → has_no_stream v (id, n) ≡ t → AreSame (cond t (id ∷ []) (inode_blocks v id)) (node_blocks v (id, n))
unfolding node_blocks
bare_blocks v id n t none alone k =
    let a : times k (own_blocks v (id, n) ++ other_blocks v id) ≡ times k (own_blocks v (id, n)) + times k (other_blocks v id) = times-append k (own_blocks v (id, n)) (other_blocks v id) in
    let b : times k (other_blocks v id) ≡ times k [] = ap (λ (o : Option ℕ). times k (flat_map (inode_blocks v) (attribute_inodes v o))) none in
    let c : times k (own_blocks v (id, n)) ≡ times k (cond t (id ∷ []) (inode_blocks v id)) = ap (λ (x : Bool). times k (cond x (id ∷ []) (inode_blocks v id))) alone in
    omega (arith, a, b, c)

-- the inode and the array blocks of a node with a stream are its metadata
frame_few : (v : Volume) (id : ℕ) (n : Node) → has_no_stream v (id, n) ≡ false → (k : ℕ) → times k (frame_blocks v id) ≤ times k (node_metadata v (id, n))
unfolding node_metadata
frame_few v id n streamed k =
    let own : times k (own_metadata v id n.kind (is_short v id)) ≡ times k (frame_blocks v id ++ cond (is_file n.kind) [] (stream_blocks v id)) =
    ap (λ (t : Bool). times k (cond t (id ∷ []) (frame_blocks v id ++ cond (is_file n.kind) [] (stream_blocks v id)))) streamed in
    let a : times k (frame_blocks v id ++ cond (is_file n.kind) [] (stream_blocks v id)) ≡ times k (frame_blocks v id) + times k (cond (is_file n.kind) [] (stream_blocks v id)) = times-append k (frame_blocks v id) (cond (is_file n.kind) [] (stream_blocks v id)) in
    let p : times k (own_metadata v id n.kind (is_short v id) ++ other_blocks v id) ≡ times k (own_metadata v id n.kind (is_short v id)) + times k (other_blocks v id) = times-append k (own_metadata v id n.kind (is_short v id)) (other_blocks v id) in
    omega (arith, own, a, p)

module _ (s : Super) (v : Room) (m : ℕ → Option (List ℕ)) (tree : Tree) (lists : Lists) (loose : List ℕ) (id : ℕ) (n : Node) (valid : IsValid s) (work : IsAtWork (geometry_of s) v m tree lists loose) (is : IsNode tree id n)
    (streamed : has_no_stream (volume_in (geometry_of s) m) (id, n) ≡ false) where
  abbrev g : Geometry
  g = geometry_of s

  abbrev was : Volume
  was = volume_in g m

  abbrev o : Origin
  o = record { id = id; sizes = sizes_of s }

  frame_told : (k : ℕ) → Has (frame_blocks was id) k → IsSome (m k)
  frame_told k h =
      let has : 0 < times k (frame_blocks was id) = h in
      let i = frame_few was id n streamed k in
      let f = own_few s v m tree lists loose id n work is k in
      let most : times k (reach was tree ++ loose) ≤ 1 = work.stocked.once k in
      let p = all_split was tree lists loose work.stocked k in
      let a = times-append k (reach was tree) loose in
      let in_it = metadata_in was tree lists loose work.stocked id n is k in
      let reached : 0 < times k (reach was tree) = omega (arith, has, i, p, a, in_it) in
      work.told k (reached, omega (arith, has, i, f, most)) (omega (arith, has, i, f, most))

  owner : In (id, false) (owners was tree)
  owner = subst (λ (t : Bool). In (id, t) (owners was tree)) streamed ((owners_are was tree).node id n is)

  pub node_owns : Owns o v [] m
  node_owns = owns_told o v m
      (owner_owns g v (full m) tree lists loose id work.volume (some_bytes s valid) (fits_full v m work.fits) work.stocked owner (stream_of was id n n.kind (work.stocked.nodes id n is).content_is streamed) (λ k h. refl))
      frame_told work.fits.has
