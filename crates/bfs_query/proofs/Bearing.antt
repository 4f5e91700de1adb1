-- The attributes of a node of a volume at work stand, and can be read.
use Rattle.std.proofs.Common.{◌≡◌, ◌≤◌, ◌<◌, ◌+◌, inl, inr, ℕ, List, ◌∷◌, [], ◌++◌, sym, ap, ◌∙◌, subst, arith, false, Option, Some, None, map}
use Rattle.std.specs.Prelude.{unwrap_or}
use Rattle.std.specs.List.{AllByRecursion}
use Rattle.std.specs.FinMap.{from_entries}
use Rattle.bfs_base.specs.Lists.{times}
use Rattle.bfs_super.specs.Conditions.{IsValid}
use Rattle.bfs_super.specs.Geometry.{geometry_of}
use Rattle.bfs_super.specs.declared.geometry.Geometry.{Geometry}
use Rattle.bfs_super.specs.declared.sup.Super.{Super}
use Rattle.bfs_bitmap.specs.Runs.{Room}
use Rattle.bfs_node.specs.Page.{Row}
use Rattle.bfs_smalldata.specs.Items.{Item}
use Rattle.bfs_stream.specs.Places.{HasStream}
use Rattle.bfs_stream.specs.Sizes.{Origin, sizes_of}
use Rattle.bfs_stream.specs.Told.{AreTold}
use Rattle.bfs_stream.proofs.Doubles.{times-append}
use Rattle.bfs_stream_pages.specs.GoesLaws.{readable}
use Rattle.bfs_tree.specs.Trees.{Node, Tree, IsNode}
use Rattle.bfs_maps.specs.Mapped.{HasHeld, HasReadable}
use Rattle.bfs_sound.specs.Volumes.{Volume, sizes}
use Rattle.bfs_sound.specs.Inodes.{is_short, inode_blocks, id_of, proper_rows}
use Rattle.bfs_sound.specs.Attributes.{attribute_directory, attribute_inodes, IsAttributeRow, HasDirectory}
use Rattle.bfs_sound.specs.Nodes.{HasNode, AreApart}
use Rattle.bfs_sound.specs.Owners.{owners, reach}
use Rattle.bfs_sound.proofs.Counts.{In, times_member}
use Rattle.bfs_sound.proofs.Nodes.{own_metadata, other_blocks, node_metadata}
use Rattle.bfs_attr.specs.Bearers.{HasAttributes, CanRead, attributes_at, entries_at, entries_with, bearer_of}
use Rattle.bfs_shift.specs.Lists.{Lists}
use Rattle.bfs_shift.specs.Shifts.{volume_in}
use Rattle.bfs_shift.specs.Work.{IsAtWork}
use Rattle.bfs_shift.proofs.AtWork.{own_few, inode_told}
use Rattle.bfs_shift.proofs.Basics.{some_bytes}
use Rattle.bfs_shift.proofs.Files.{metadata_in, all_split, unfiled}
use Rattle.bfs_shift.proofs.Held.{owner_held}
use Rattle.bfs_shift.proofs.OneIndex.{own_first}
use Rattle.bfs_shift.proofs.Owners.{owners_are}
use Rattle.bfs_shift.proofs.Owning.{owner_owns}

-- the stream of an attribute's inode, or of the attribute directory, keeps its format
other_stream : (v : Volume) (id : ℕ) (o : Option ℕ) → HasDirectory v id o → (j : ℕ) → In j (attribute_inodes v o) → HasStream (sizes v.geometry) v.blocks j
other_stream v id None h j i = absurd i
other_stream v id (Some d) h j (inl e) = subst (HasStream (sizes v.geometry) v.blocks) (sym e) h.owner.stream
other_stream v id (Some d) h j (inr i) = by_rows (proper_rows v d) h.rows i
  where
    by_rows : (rows : List Row) → AllByRecursion (IsAttributeRow v) rows → In j (map id_of rows) → HasStream (sizes v.geometry) v.blocks j
    by_rows [] all i = absurd i
    by_rows (r ∷ rs) all (inl e) = subst (HasStream (sizes v.geometry) v.blocks) (sym e) all.0.owner.stream
    by_rows (r ∷ rs) all (inr i) = by_rows rs all.1 i

-- its blocks are among the node's metadata
other_few : (v : Volume) (id : ℕ) (n : Node) (j : ℕ) → In j (attribute_inodes v (attribute_directory v id)) → (k : ℕ) → times k (inode_blocks v j) ≤ times k (node_metadata v (id, n))
unfolding node_metadata
other_few v id n j i k =
    let member : times k (inode_blocks v j) ≤ times k (other_blocks v id) = times_member k (inode_blocks v) (attribute_inodes v (attribute_directory v id)) j i in
    let p : times k (own_metadata v id n.kind (is_short v id) ++ other_blocks v id) ≡ times k (own_metadata v id n.kind (is_short v id)) + times k (other_blocks v id) = times-append k (own_metadata v id n.kind (is_short v id)) (other_blocks v id) in
    omega (arith, member, p)

module _ (s : Super) (v : Room) (m : ℕ → Option (List ℕ)) (tree : Tree) (lists : Lists) (loose : List ℕ) (id : ℕ) (n : Node) (valid : IsValid s) (work : IsAtWork (geometry_of s) v m tree lists loose) (is : IsNode tree id n) where
  abbrev g : Geometry
  g = geometry_of s

  abbrev was : Volume
  was = volume_in g m

  has : HasNode was id n
  has = work.stocked.nodes id n is

  module _ (j : ℕ) (i : In j (attribute_inodes was (attribute_directory was id))) where
    abbrev o : Origin
    o = record { id = j; sizes = sizes_of s }

    stream_told : AreTold m (inode_blocks was j)
    stream_told k h =
        let some : 0 < times k (inode_blocks was j) = h in
        let few = other_few was id n j i k in
        let f = own_few s v m tree lists loose id n work is k in
        let most : times k (reach was tree ++ loose) ≤ 1 = work.stocked.once k in
        let p = all_split was tree lists loose work.stocked k in
        let a = times-append k (reach was tree) loose in
        let in_it = metadata_in was tree lists loose work.stocked id n is k in
        let reached : 0 < times k (reach was tree) = omega (arith, some, few, p, a, in_it) in
        work.told k (reached, omega (arith, some, few, f, most)) (omega (arith, some, few, f, most))

    owner : In (j, false) (owners was tree)
    owner = (owners_are was tree).attribute id n j is i

    held : HasHeld o v m
    held = owner_held g v m j (owner_owns g v m tree lists loose j work.volume (some_bytes s valid) work.fits work.stocked owner (other_stream was id (attribute_directory was id) has.directory j i) stream_told) stream_told

    other_readable : HasReadable o m
    other_readable = (held.0, readable o v held.0 m held.1)

    other_below : j < g.blocks
    other_below =
        let one = own_first was j in
        let few = other_few was id n j i j in
        let in_it = metadata_in was tree lists loose work.stocked id n is j in
        (unfiled was tree lists loose work.stocked j (omega (arith, one, few, in_it))).0.0

  pub bears : HasAttributes was id
  bears = record { items = has.items; area = has.area; distinct = has.distinct; directory = has.directory; apart = has.apart; inside = other_below }

  pub attributes_are : n.attributes ≡ attributes_at was id
  attributes_are = has.attributes ∙ ap (λ (l : Option (List Item)). from_entries (entries_with was id (unwrap_or l []))) (sym has.area)

  pub can_read : CanRead (bearer_of id s) m
  can_read = record { inode = inode_told s v m tree lists loose id n work is; streams = other_readable }

  pub entries_apart : AreApart (entries_at was id)
  entries_apart = subst (λ (l : Option (List Item)). AreApart (entries_with was id (unwrap_or l []))) (sym has.area) has.apart
