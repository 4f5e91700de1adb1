-- Calls on maps that stand in streams, as changes of a volume within a call.
use Rattle.std.proofs.Common.{◌≡◌, ◌≢◌, ◌≤◌, ◌<◌, ◌+◌, ℕ, List, ◌++◌, ap, ◌∙◌, arith, Bool, Option, map, ℤ, Some}
use Rattle.std.specs.List.{flat_map}
use Rattle.std.specs.FinMap.{entries}
use Rattle.bfs_base.specs.Lists.{times, Has}
use Rattle.bfs_base.specs.declared.kind.KeyKind.TheVariants.{Text}
use Rattle.bfs_super.specs.declared.geometry.Geometry.{Geometry}
use Rattle.bfs_bitmap.specs.Runs.{Room}
use Rattle.bfs_super.specs.Conditions.{natural}
use Rattle.bfs_node.specs.Page.{Row}
use Rattle.bfs_pages.specs.Maps.{assoc}
use Rattle.bfs_maps.specs.Moves.{Moved}
use Rattle.bfs_values.specs.Reached.{IsWholeTree, AreWritten}
use Rattle.bfs_stream.specs.Told.{contents}
use Rattle.bfs_stream.specs.Grown.{IsOfVolume}
use Rattle.bfs_stream.proofs.Doubles.{times-append}
use Rattle.bfs_tree.specs.declared.call.Kind.TheVariants.{Dir}
use Rattle.bfs_tree.specs.Trees.{Node, Tree, IsNode}
use Rattle.bfs_values.specs.Rows.{rows_in}
use Rattle.bfs_sound.specs.Volumes.{sizes, IsMarked}
use Rattle.bfs_sound.specs.Inodes.{inode_blocks, content, proper_rows, id_of, inodes_of}
use Rattle.bfs_sound.specs.Owners.{node_blocks, index_blocks, reach}
use Rattle.bfs_sound.proofs.Counts.{times_member}
use Rattle.bfs_sound.proofs.Nodes.{other_blocks}
use Rattle.bfs_sound.proofs.Parts.{in_entries}
use Rattle.bfs_maps.specs.Mapped.{HasRowsNow}
use Rattle.bfs_shift.specs.Lists.{Lists, with_rows, with_pairs}
use Rattle.bfs_shift.specs.Stocked.{Stocked, Shifts}
use Rattle.bfs_shift.specs.Shifts.{volume_in}
use Rattle.bfs_shift.specs.Inodes.{HasBytes}
use Rattle.bfs_shift.specs.StreamLaws.{IsDirectoryNow}
use Rattle.bfs_shift.proofs.Moving.{all_parts}
use Rattle.bfs_shift.proofs.Moves.{moved_shifts}
use Rattle.bfs_shift.proofs.Directories.{directory_parts, rows_changed}
use Rattle.bfs_shift.proofs.Names.{is_there}
use Rattle.bfs_shift.proofs.Owners.{index_marked}
use Rattle.bfs_shift.proofs.Pairs.{index_changed, index_written}

module _ (g : Geometry) (v now : Room) (m : ℕ → Option (List ℕ)) (rows : List Row) (told : Option (ℕ → Option (List ℕ))) (old new : ℕ → Bool) (tree : Tree) (lists : Lists) (loose : List ℕ)
    (of : IsOfVolume (sizes g) v) (some : 0 < g.block_size) (stocked : Stocked (volume_in g m) tree lists loose) where
  -- the blocks of a directory are marked
  module _ (d : ℕ) (n : Node) (is : IsNode tree d n) (dir : n.kind ≡ Dir) where
    marked_here : (k : ℕ) → Has (inode_blocks (volume_in g m) d) k → IsMarked (volume_in g m) k
    marked_here k h = (stocked.marks k).1 (
        let has : 0 < times k (inode_blocks (volume_in g m) d) = h in
        let own : times k (node_blocks (volume_in g m) (d, n)) ≡ times k (inode_blocks (volume_in g m) d) + times k (other_blocks (volume_in g m) d) = ap (times k) (directory_parts (volume_in g m) d n dir) ∙ times-append k (inode_blocks (volume_in g m) d) (other_blocks (volume_in g m) d) in
        let member : times k (node_blocks (volume_in g m) (d, n)) ≤ times k (flat_map (node_blocks (volume_in g m)) (entries tree.nodes)) = times_member k (node_blocks (volume_in g m)) (entries tree.nodes) (d, n) (in_entries tree.nodes d n is) in
        let p = all_parts (volume_in g m) tree lists loose stocked k in
        let r : 0 < times k (reach (volume_in g m) tree ++ loose) = omega (arith, has, own, member, p) in r)

    pub directory_has_rows : (since : HasRowsNow Text (record { id = d; sizes = sizes g }) v now m rows told old new) → HasBytes (contents m d) (contents since.map d) → Stocked (volume_in g since.map) tree (with_rows lists d rows) loose
    directory_has_rows since bytes =
        rows_changed (volume_in g m) tree lists loose (contents since.map) d n rows stocked is dir (moved_shifts g d v now m since.map of some since.moved marked_here) since.moved.kept bytes
        since.moved.owns.stands.sound since.bytes.tree.tree since.bytes.rows_are

  module _ (there : g.indices ≢ 0) where
    own_parts : (k : ℕ) → times k (index_blocks (volume_in g m)) ≡ times k (inode_blocks (volume_in g m) g.indices) + times k (flat_map (inode_blocks (volume_in g m)) (map id_of (proper_rows (volume_in g m) g.indices)))
    unfolding index_blocks
    own_parts k =
        ap (λ o. times k (flat_map (inode_blocks (volume_in g m)) (inodes_of (volume_in g m) o))) (is_there (volume_in g m) there)
        ∙ times-append k (inode_blocks (volume_in g m) g.indices) (flat_map (inode_blocks (volume_in g m)) (map id_of (proper_rows (volume_in g m) g.indices)))

    marked_names : (k : ℕ) → Has (inode_blocks (volume_in g m) g.indices) k → IsMarked (volume_in g m) k
    marked_names k h = (stocked.marks k).1 (
        let has : 0 < times k (inode_blocks (volume_in g m) g.indices) = h in
        let own = own_parts k in
        let p = all_parts (volume_in g m) tree lists loose stocked k in
        let r : 0 < times k (reach (volume_in g m) tree ++ loose) = omega (arith, has, own, p) in r)

    pub names_have_rows : (since : HasRowsNow Text (record { id = g.indices; sizes = sizes g }) v now m rows told old new) → HasBytes (contents m g.indices) (contents since.map g.indices)
        → Shifts (volume_in g m) (contents since.map) (inode_blocks (volume_in g m) g.indices) (inode_blocks (volume_in g since.map) g.indices)
        × IsDirectoryNow (volume_in g m) (contents since.map) g.indices × (rows_in Text (content (volume_in g since.map) g.indices) ≡ rows)
    names_have_rows since bytes = (
      moved_shifts g g.indices v now m since.map of some since.moved marked_names,
      record { kept = since.moved.kept; bytes = bytes; stream = since.moved.owns.stands.sound; tree = since.bytes.tree.tree },
      since.bytes.rows_are,
    )

-- an index's pages have moved
pub index_has_pairs : (g : Geometry) (v now : Room) (m map : ℕ → Option (List ℕ)) (name : List ℕ) (value : ℤ) (pairs : List (List ℕ × ℕ)) (tree : Tree) (lists : Lists) (loose : List ℕ)
    → IsOfVolume (sizes g) v → 0 < g.block_size → Stocked (volume_in g m) tree lists loose → assoc Text lists.names name ≡ Some value
    → Moved (record { id = natural value; sizes = sizes g }) v now m map → HasBytes (contents m (natural value)) (contents map (natural value))
    → IsWholeTree (lists.kinds name) (content (volume_in g map) (natural value))
    → AreWritten (content (volume_in g map) (natural value)) (rows_in (lists.kinds name) (content (volume_in g map) (natural value))) pairs
    → Stocked (volume_in g map) tree (with_pairs lists name pairs) loose
index_has_pairs g v now m map name value pairs tree lists loose of some stocked row moved bytes whole written =
    index_changed (volume_in g m) tree lists loose (contents map) name value pairs stocked row (moved_shifts g (natural value) v now m map of some moved (index_marked g v m tree lists loose stocked name value row))
    (index_written (volume_in g m) (contents map) (natural value) (lists.kinds name) (lists.pairs name) pairs moved.kept bytes moved.owns.stands.sound whole written (stocked.indices name value row))
