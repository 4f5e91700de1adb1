-- A node leaves the tree: its attribute directory and its attributes can be read before, and with it they are loose.
use Rattle.std.proofs.Common.{◌≡◌, ◌≤◌, ◌<◌, ◌+◌, inl, inr, ℕ, zero, suc, List, [], ◌∷◌, ◌++◌, refl, sym, ap, subst, arith, Bool, true, false, cond, map, Option, Some, None}
use Rattle.std.specs.Prelude.{IsSome}
use Rattle.std.specs.List.{flat_map, AllByRecursion}
use Rattle.bfs_base.specs.Lists.{times, Has, AreSame}
use Rattle.bfs_super.specs.Conditions.{IsValid}
use Rattle.bfs_super.specs.Geometry.{geometry_of}
use Rattle.bfs_super.specs.declared.geometry.Geometry.{Geometry}
use Rattle.bfs_super.specs.declared.sup.Super.{Super}
use Rattle.bfs_bitmap.specs.Runs.{Room}
use Rattle.bfs_node.specs.Page.{Row}
use Rattle.bfs_txn.specs.Told.{StaysChanged}
use Rattle.bfs_stream.specs.Grown.{Owns}
use Rattle.bfs_stream.specs.Places.{HasStream, arrays_at}
use Rattle.bfs_stream.specs.Standing.{standing}
use Rattle.bfs_stream.specs.Told.{contents, AreTold}
use Rattle.bfs_stream.proofs.Doubles.{times-append}
use Rattle.bfs_stream_pages.specs.GoesLaws.{readable}
use Rattle.bfs_tree.specs.Trees.{Node, Tree, IsNode}
use Rattle.bfs_maps.specs.Mapped.{HasHeld, HasReadable}
use Rattle.bfs_sound.specs.Attributes.{attribute_directory, attribute_inodes, HasDirectory, IsAttributeRow}
use Rattle.bfs_sound.specs.Inodes.{is_short, id_of, frame_blocks, stream_blocks, inode_blocks, proper_rows}
use Rattle.bfs_sound.specs.Nodes.{HasNode}
use Rattle.bfs_sound.specs.Owners.{has_no_stream, own_blocks, node_blocks, reach, In}
use Rattle.bfs_sound.specs.Volumes.{Volume, sizes, IsMarked}
use Rattle.bfs_sound.proofs.Counts.{times_member}
use Rattle.bfs_sound.proofs.Nodes.{own_metadata, other_blocks, node_metadata}
use Rattle.bfs_shift.specs.Lists.{Lists}
use Rattle.bfs_shift.specs.Shifts.{volume_in}
use Rattle.bfs_shift.specs.Stocked.{Stocked}
use Rattle.bfs_shift.specs.Work.{IsAtWork}
use Rattle.bfs_shift.proofs.AtWork.{own_few, inode_told}
use Rattle.bfs_shift.proofs.Basics.{some_bytes}
use Rattle.bfs_shift.proofs.Files.{metadata_in, all_split}
use Rattle.bfs_shift.proofs.Frees.{in_order}
use Rattle.bfs_shift.proofs.Held.{owner_held}
use Rattle.bfs_shift.proofs.Leaves.{node_left}
use Rattle.bfs_shift.proofs.Owners.{owners_are}
use Rattle.bfs_shift.proofs.Owning.{owner_owns}
use Rattle.bfs_attr.specs.Bearers.{HasAttributes, CanRead, bearer_of}
use Rattle.bfs_leave.specs.Given.{AreGivenBack, AreLoose}
use Rattle.bfs_leave.specs.Leaving.{IsClear, IsLeft, tree_without}
use Rattle.bfs_leave.proofs.Owned.{node_owns}
use Rattle.bfs_leave.proofs.Returned.{given_step}
use Rattle.bfs_unmake.specs.Whole.{alone_in, stream_inodes}

one_first : (k : ℕ) (l : List ℕ) → times k (k ∷ l) ≡ 1 + times k l
one_first k l = grind arith

-- an inode is one of its blocks
own_there : (v : Volume) (id : ℕ) → 1 ≤ times id (inode_blocks v id)
own_there v id =
    let a : times id (inode_blocks v id) ≡ times id (frame_blocks v id) + times id (stream_blocks v id) = times-append id (frame_blocks v id) (stream_blocks v id) in
    let b : times id (frame_blocks v id) ≡ 1 + times id (arrays_at (sizes v.geometry) v.blocks id) = one_first id (arrays_at (sizes v.geometry) v.blocks id) in
    omega (arith, a, b)

-- the inodes and array blocks are among all blocks
frames_few : (v : Volume) (ids : List ℕ) (k : ℕ) → times k (flat_map (frame_blocks v) ids) ≤ times k (flat_map (inode_blocks v) ids)
frames_few v [] k = omega arith
frames_few v (id ∷ ids) k =
    let rest = frames_few v ids k in
    let a = times-append k (frame_blocks v id) (flat_map (frame_blocks v) ids) in
    let b = times-append k (inode_blocks v id) (flat_map (inode_blocks v) ids) in
    let c : times k (inode_blocks v id) ≡ times k (frame_blocks v id) + times k (stream_blocks v id) = times-append k (frame_blocks v id) (stream_blocks v id) in
    omega (arith, rest, a, b, c)

-- the blocks of the attribute directory and of the attributes are metadata
others_few : (v : Volume) (id : ℕ) (n : Node) (k : ℕ) → times k (other_blocks v id) ≤ times k (node_metadata v (id, n))
unfolding node_metadata
others_few v id n k =
    let p : times k (own_metadata v id n.kind (is_short v id) ++ other_blocks v id) ≡ times k (own_metadata v id n.kind (is_short v id)) + times k (other_blocks v id) = times-append k (own_metadata v id n.kind (is_short v id)) (other_blocks v id) in
    omega (arith, p)

-- the blocks of the inodes with streams that a node has, with its own where that stands alone, are all of its blocks
pub all_blocks : (v : Volume) (id : ℕ) (n : Node) (t : Bool) → has_no_stream v (id, n) ≡ t → AreSame (flat_map (inode_blocks v) (stream_inodes v id t) ++ alone_in id t) (node_blocks v (id, n))
unfolding node_blocks
all_blocks v id n true e k =
    let a : times k (own_blocks v (id, n) ++ other_blocks v id) ≡ times k (own_blocks v (id, n)) + times k (other_blocks v id) = times-append k (own_blocks v (id, n)) (other_blocks v id) in
    let b : times k (other_blocks v id ++ id ∷ []) ≡ times k (other_blocks v id) + times k (id ∷ []) = times-append k (other_blocks v id) (id ∷ []) in
    let c : times k (own_blocks v (id, n)) ≡ times k (id ∷ []) = ap (λ (x : Bool). times k (cond x (id ∷ []) (inode_blocks v id))) e in
    omega (arith, a, b, c)
all_blocks v id n false e k =
    let a : times k (own_blocks v (id, n) ++ other_blocks v id) ≡ times k (own_blocks v (id, n)) + times k (other_blocks v id) = times-append k (own_blocks v (id, n)) (other_blocks v id) in
    let b : times k ((inode_blocks v id ++ other_blocks v id) ++ []) ≡ times k (inode_blocks v id ++ other_blocks v id) + times k [] = times-append k (inode_blocks v id ++ other_blocks v id) [] in
    let d : times k (inode_blocks v id ++ other_blocks v id) ≡ times k (inode_blocks v id) + times k (other_blocks v id) = times-append k (inode_blocks v id) (other_blocks v id) in
    let c : times k (own_blocks v (id, n)) ≡ times k (inode_blocks v id) = ap (λ (x : Bool). times k (cond x (id ∷ []) (inode_blocks v id))) e in
    omega (arith, a, b, c, d)

-- the inodes that rows of attributes name have streams, and so has that of the directory
row_stream : (v : Volume) (rows : List Row) → AllByRecursion (IsAttributeRow v) rows → (j : ℕ) → In j (map id_of rows) → HasStream (sizes v.geometry) v.blocks j
row_stream v [] all j i = absurd i
row_stream v (r ∷ rs) all j (inl e) = subst (HasStream (sizes v.geometry) v.blocks) (sym e) all.0.owner.stream
row_stream v (r ∷ rs) all j (inr i) = row_stream v rs all.1 j i

directory_stream : (v : Volume) (id : ℕ) (o : Option ℕ) → HasDirectory v id o → (j : ℕ) → In j (attribute_inodes v o) → HasStream (sizes v.geometry) v.blocks j
directory_stream v id None has j i = absurd i
directory_stream v id (Some d) has j (inl e) = subst (HasStream (sizes v.geometry) v.blocks) (sym e) has.owner.stream
directory_stream v id (Some d) has j (inr i) = row_stream v (proper_rows v d) has.rows j i

module _ (s : Super) (v : Room) (m : ℕ → Option (List ℕ)) (tree : Tree) (lists : Lists) (loose : List ℕ) (id : ℕ) (n : Node) (valid : IsValid s) (work : IsAtWork (geometry_of s) v m tree lists loose) (is : IsNode tree id n) where
  abbrev g : Geometry
  g = geometry_of s

  abbrev was : Volume
  was = volume_in g m

  abbrev named : List ℕ
  named = attribute_inodes was (attribute_directory was id)

  others_reached : (k : ℕ) → 0 < times k (other_blocks was id) → 0 < times k (reach was tree ++ loose)
  others_reached k some = let i = others_few was id n k in let f = own_few s v m tree lists loose id n work is k in omega (arith, some, i, f)

  others_told : (k : ℕ) → 0 < times k (other_blocks was id) → IsSome (m k)
  others_told k some =
      let i = others_few was id n k in
      let f = own_few s v m tree lists loose id n work is k in
      let most : times k (reach was tree ++ loose) ≤ 1 = work.stocked.once k in
      let p = all_split was tree lists loose work.stocked k in
      let a = times-append k (reach was tree) loose in
      let in_it = metadata_in was tree lists loose work.stocked id n is k in
      let reached : 0 < times k (reach was tree) = omega (arith, some, i, p, a, in_it) in
      work.told k (reached, omega (arith, some, i, f, most)) (omega (arith, some, i, f, most))

  one_few : (j : ℕ) → In j named → (k : ℕ) → times k (inode_blocks was j) ≤ times k (other_blocks was id)
  one_few j i k = times_member k (inode_blocks was) named j i

  one_told : (j : ℕ) → In j named → AreTold m (inode_blocks was j)
  one_told j i k h = let some : 0 < times k (inode_blocks was j) = h in let f = one_few j i k in others_told k (omega (arith, some, f))

  one_below : (j : ℕ) → In j named → j < g.blocks
  one_below j i =
      let o = own_there was j in
      let f = one_few j i j in
      let marked : IsMarked was j = (work.stocked.marks j).1 (others_reached j (omega (arith, o, f))) in
      marked.0

  one_stream : (j : ℕ) → In j named → HasStream (sizes g) (contents m) j
  one_stream j i = directory_stream was id (attribute_directory was id) (work.stocked.nodes id n is).directory j i

  one_owns : (j : ℕ) → In j named → Owns (record { id = j; sizes = sizes g }) v [] m
  one_owns j i = owner_owns g v m tree lists loose j work.volume (some_bytes s valid) work.fits work.stocked ((owners_are was tree).attribute id n j is i) (one_stream j i) (one_told j i)

  one_readable : (j : ℕ) → In j named → HasReadable (record { id = j; sizes = sizes g }) m
  one_readable j i =
      let held : HasHeld (record { id = j; sizes = sizes g }) v m = owner_held g v m j (one_owns j i) (one_told j i) in
      (held.0, readable (record { id = j; sizes = sizes g }) v held.0 m held.1)

  -- the node bears attributes, and they can be read
  pub node_bears : HasAttributes was id
  node_bears = let h : HasNode was id n = work.stocked.nodes id n is in record { items = h.items; area = h.area; distinct = h.distinct; directory = h.directory; apart = h.apart; inside = one_below }

  pub node_reads : CanRead (bearer_of id s) m
  node_reads = record { inode = inode_told s v m tree lists loose id n work is; streams = one_readable }

  module _ (t : Bool) (alone : has_no_stream was (id, n) ≡ t) where
    abbrev ids : List ℕ
    ids = stream_inodes was id t

    stocked : Stocked was (tree_without tree id) lists (flat_map (inode_blocks was) ids ++ (alone_in id t ++ loose))
    stocked = in_order was (tree_without tree id) lists (node_blocks was (id, n) ++ loose) (flat_map (inode_blocks was) ids ++ (alone_in id t ++ loose)) (λ k.
        let a = times-append k (node_blocks was (id, n)) loose in
        let b = times-append k (flat_map (inode_blocks was) ids) (alone_in id t ++ loose) in
        let c = times-append k (alone_in id t) loose in
        let d = times-append k (flat_map (inode_blocks was) ids) (alone_in id t) in
        let e : times k (flat_map (inode_blocks was) ids ++ alone_in id t) ≡ times k (node_blocks was (id, n)) = all_blocks was id n t alone k in
        omega (arith, a, b, c, d, e)) (node_left was tree lists loose id n work.stocked is)

    -- since the node has left, its inodes with streams are loose
    pub node_loosened : AreLoose g m (stream_inodes was id t)
    node_loosened = record {
      tree = tree_without tree id;
      lists = lists;
      rest = alone_in id t ++ loose;
      stocked = stocked;
      streams = λ j i. by_place t alone j i;
      told = λ k h. by_count t alone k h;
    }
      where
        by_place : (x : Bool) → has_no_stream was (id, n) ≡ x → (j : ℕ) → In j (stream_inodes was id x) → HasStream (sizes g) (contents m) j
        by_place true e j i = one_stream j i
        by_place false e j (inl same) = subst (HasStream (sizes g) (contents m)) (sym same) (node_owns s v m tree lists loose id n valid work is e).stands.sound
        by_place false e j (inr i) = one_stream j i

        of_others : (k : ℕ) → 0 < times k (flat_map (frame_blocks was) named) → IsSome (m k)
        of_others k some = let f = frames_few was named k in others_told k (let r : 0 < times k (flat_map (inode_blocks was) named) = omega (arith, some, f) in r)

        by_own : has_no_stream was (id, n) ≡ false → (k : ℕ) → 0 < times k (frame_blocks was id) + times k (flat_map (frame_blocks was) named) → (c : ℕ) → times k (frame_blocks was id) ≡ c → IsSome (m k)
        by_own e k some zero q = of_others k (omega (arith, some, q))
        by_own e k some (suc c) q = (node_owns s v m tree lists loose id n valid work is e).stands.told k (let r : 0 < times k (frame_blocks was id) = omega (arith, q) in r)

        by_count : (x : Bool) → has_no_stream was (id, n) ≡ x → (k : ℕ) → Has (flat_map (frame_blocks was) (stream_inodes was id x)) k → IsSome (m k)
        by_count true e k h = of_others k h
        by_count false e k h =
            let some : 0 < times k (frame_blocks was id ++ flat_map (frame_blocks was) named) = h in
            let p = times-append k (frame_blocks was id) (flat_map (frame_blocks was) named) in
            by_own e k (omega (arith, some, p)) (times k (frame_blocks was id)) refl

    -- it has left with all of its blocks
    pub node_gone : (now : Room) (told : Option (ℕ → Option (List ℕ))) (old new : ℕ → Bool) → IsClear g v m → now ≡ record v { given = now.given; tally = now.tally } → standing now ≡ standing v → StaysChanged old new
        → AreGivenBack v now (flat_map (inode_blocks was) (stream_inodes was id t) ++ alone_in id t) m told old new → IsLeft g v now m tree (tree_without tree id) lists loose told old new
    node_gone now told old new clear rest stands kept gave =
        given_step g v now m tree lists loose id n (flat_map (inode_blocks was) ids ++ alone_in id t) told old new (some_bytes s valid) work clear is (all_blocks was id n t alone) gave rest stands kept
