-- Which inodes are owners: directories, the index directory and indices.
use Rattle.std.proofs.Common.{◌≡◌, ◌≢◌, ◌≤◌, ◌<◌, inl, inr, ℕ, ℤ, List, [], ◌++◌, refl, sym, ap, ◌∙◌, subst, arith, false, Option, Some, None, map}
use Rattle.std.specs.Prelude.{◌&&◌}
use Rattle.std.specs.List.{flat_map}
use Rattle.std.specs.FinMap.{entries}
use Rattle.bfs_base.specs.Lists.{times, Has}
use Rattle.bfs_base.specs.declared.kind.KeyKind.TheVariants.{Text}
use Rattle.bfs_super.specs.Conditions.{natural}
use Rattle.bfs_super.specs.declared.geometry.Geometry.{Geometry}
use Rattle.bfs_bitmap.specs.Runs.{Room, Fits}
use Rattle.bfs_node.specs.Page.{Row}
use Rattle.bfs_pages.specs.Maps.{assoc}
use Rattle.bfs_stream.specs.Places.{whole_at}
use Rattle.bfs_stream.specs.Told.{contents, AreTold}
use Rattle.bfs_stream.specs.Grown.{IsOfVolume, Owns}
use Rattle.bfs_tree.specs.declared.call.Kind.{Kind}
use Rattle.bfs_tree.specs.declared.call.Kind.TheVariants.{Dir}
use Rattle.bfs_tree.specs.Trees.{Node, Tree, IsNode, is_link}
use Rattle.bfs_sound.specs.Volumes.{Volume, sizes, IsMarked}
use Rattle.bfs_sound.specs.Inodes.{inode_blocks, is_short, proper_rows, id_of, rows_of, inodes_of, index_directory}
use Rattle.bfs_sound.specs.Attributes.{attribute_directory, attribute_inodes}
use Rattle.bfs_sound.specs.Nodes.{HasContent}
use Rattle.bfs_sound.specs.Listings.{HasIndexDirectory, IsIndex}
use Rattle.bfs_sound.specs.Owners.{has_no_stream, index_blocks, reach, Owner, with_streams, node_owners, owners}
use Rattle.bfs_sound.proofs.Counts.{In, in_map, in_left, in_right, in_flat, times_member}
use Rattle.bfs_sound.proofs.Parts.{in_entries}
use Rattle.bfs_shift.specs.Lists.{Lists}
use Rattle.bfs_shift.specs.Stocked.{Stocked}
use Rattle.bfs_shift.specs.Shifts.{AreOwners, volume_in}
use Rattle.bfs_shift.proofs.Moving.{all_parts}
use Rattle.bfs_shift.proofs.Names.{is_there}
use Rattle.bfs_shift.proofs.OneIndex.{found_row}
use Rattle.bfs_shift.proofs.Owning.{owner_owns}

-- a directory has a stream
directory_in : (v : Volume) (tree : Tree) (d : ℕ) (n : Node) → IsNode tree d n → n.kind ≡ Dir → In (d, false) (owners v tree)
unfolding owners node_owners
directory_in v tree d n is dir = in_left (flat_map (node_owners v) (entries tree.nodes)) (with_streams (inodes_of v (index_directory v))) (d, false)
    (in_flat (node_owners v) (entries tree.nodes) (d, n) (in_entries tree.nodes d n is) (d, false) (inl (λ i. (d, sym (ap (λ (k : Kind). is_link k && is_short v d) dir) i))))

-- the index directory and the indices
pub index_in : (v : Volume) (tree : Tree) (id : ℕ) → In id (inodes_of v (index_directory v)) → In (id, false) (owners v tree)
unfolding owners
index_in v tree id i = in_right (flat_map (node_owners v) (entries tree.nodes)) (with_streams (inodes_of v (index_directory v))) (id, false) (in_map {Y = Owner} (λ (j : ℕ). (j, false)) (inodes_of v (index_directory v)) id i)

pub owners_are : (v : Volume) (tree : Tree) → AreOwners v tree
unfolding owners node_owners
owners_are v tree = record {
  node = λ id n is. in_left (flat_map (node_owners v) (entries tree.nodes)) (with_streams (inodes_of v (index_directory v))) (id, has_no_stream v (id, n))
      (in_flat (node_owners v) (entries tree.nodes) (id, n) (in_entries tree.nodes id n is) (id, has_no_stream v (id, n)) (inl refl));
  attribute = λ id n j is i. in_left (flat_map (node_owners v) (entries tree.nodes)) (with_streams (inodes_of v (index_directory v))) (j, false)
      (in_flat (node_owners v) (entries tree.nodes) (id, n) (in_entries tree.nodes id n is) (j, false) (inr (in_map {Y = Owner} (λ (x : ℕ). (x, false)) (attribute_inodes v (attribute_directory v id)) j i)));
  index = λ j i. index_in v tree j i;
}

-- the inode of an index's row
in_rows_of : (v : Volume) (o : Option ℕ) (names : List Row) → rows_of v o ≡ names → (name : List ℕ) (value : ℤ) → assoc Text names name ≡ Some value → In (natural value) (inodes_of v o)
in_rows_of v None names are name value row = absurd (let bad : None ≡ Some value = ap (λ (l : List Row). assoc Text l name) are ∙ row in cc)
in_rows_of v (Some d) names are name value row =
    let there : assoc Text (proper_rows v d) name ≡ Some value = ap (λ (l : List Row). assoc Text l name) are ∙ row in
    let found : (r : Row) × In r (proper_rows v d) × (r.0 ≡ name) × (r.1 ≡ value) = found_row (proper_rows v d) name value there in
    inr (subst (λ (z : ℤ). In (natural z) (map id_of (proper_rows v d))) found.3 (in_map id_of (proper_rows v d) found.0 found.1))

module _ (g : Geometry) (v : Room) (m : ℕ → Option (List ℕ)) (tree : Tree) (lists : Lists) (loose : List ℕ) (stocked : Stocked (volume_in g m) tree lists loose) where
  index_there : (name : List ℕ) (value : ℤ) → assoc Text lists.names name ≡ Some value → In (natural value) (inodes_of (volume_in g m) (index_directory (volume_in g m)))
  index_there name value row = in_rows_of (volume_in g m) (index_directory (volume_in g m)) lists.names stocked.names name value row

  names_there : g.indices ≢ 0 → In g.indices (inodes_of (volume_in g m) (index_directory (volume_in g m)))
  names_there some = subst (λ (o : Option ℕ). In g.indices (inodes_of (volume_in g m) o)) (sym (is_there (volume_in g m) some)) (inl refl)

  -- the blocks of an index are marked
  pub index_marked : (name : List ℕ) (value : ℤ) → assoc Text lists.names name ≡ Some value → (k : ℕ) → Has (inode_blocks (volume_in g m) (natural value)) k → IsMarked (volume_in g m) k
  unfolding index_blocks
  index_marked name value row k h = (stocked.marks k).1 (
      let has : 0 < times k (inode_blocks (volume_in g m) (natural value)) = h in
      let member : times k (inode_blocks (volume_in g m) (natural value)) ≤ times k (flat_map (inode_blocks (volume_in g m)) (inodes_of (volume_in g m) (index_directory (volume_in g m)))) =
      times_member k (inode_blocks (volume_in g m)) (inodes_of (volume_in g m) (index_directory (volume_in g m))) (natural value) (index_there name value row) in
      let p = all_parts (volume_in g m) tree lists loose stocked k in
      let r : 0 < times k (reach (volume_in g m) tree ++ loose) = omega (arith, has, member, p) in r)

  module _ (of : IsOfVolume (sizes g) v) (some : 0 < g.block_size) (fits : Fits v m) where
    pub directory_owns : (d : ℕ) (n : Node) → IsNode tree d n → n.kind ≡ Dir → AreTold m (whole_at (sizes g) (contents m) d) → Owns (record { id = d; sizes = sizes g }) v [] m
    directory_owns d n is dir told =
        let c : HasContent (volume_in g m) d n Dir = subst (λ (k : Kind). HasContent (volume_in g m) d n k) dir (stocked.nodes d n is).content_is in
        owner_owns g v m tree lists loose d of some fits stocked (directory_in (volume_in g m) tree d n is dir) c.0 told

    pub names_own : g.indices ≢ 0 → AreTold m (whole_at (sizes g) (contents m) g.indices) → Owns (record { id = g.indices; sizes = sizes g }) v [] m
    names_own there told =
        let i : IsIndex (volume_in g m) g.indices Text = subst (HasIndexDirectory (volume_in g m)) (is_there (volume_in g m) there) stocked.directory in
        owner_owns g v m tree lists loose g.indices of some fits stocked (index_in (volume_in g m) tree g.indices (names_there there)) i.owner.stream told

    pub index_owns : (name : List ℕ) (value : ℤ) → assoc Text lists.names name ≡ Some value → AreTold m (whole_at (sizes g) (contents m) (natural value)) → Owns (record { id = natural value; sizes = sizes g }) v [] m
    index_owns name value row told =
        owner_owns g v m tree lists loose (natural value) of some fits stocked (index_in (volume_in g m) tree (natural value) (index_there name value row)) (stocked.indices name value row).index.owner.stream told
