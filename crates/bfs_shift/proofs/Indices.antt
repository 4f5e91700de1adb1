-- The indices change, with all their blocks.
use Rattle.std.proofs.Common.{◌≡◌, ◌≤◌, ◌+◌, ℕ, ℤ, List, ◌++◌, Some, sym, ap, ◌∙◌, arith}
use Rattle.std.specs.List.{flat_map}
use Rattle.std.specs.FinMap.{entries}
use Rattle.bfs_base.specs.Lists.{times, Agree}
use Rattle.bfs_base.specs.declared.kind.KeyKind.TheVariants.{Text}
use Rattle.bfs_super.specs.Conditions.{natural}
use Rattle.bfs_pages.specs.Maps.{assoc}
use Rattle.bfs_stream.proofs.Doubles.{times-append}
use Rattle.bfs_tree.specs.Trees.{Node, Tree, IsNode}
use Rattle.bfs_tree.proofs.Members.{node-of}
use Rattle.bfs_sound.specs.Volumes.{Volume, bitmap_blocks}
use Rattle.bfs_sound.specs.Inodes.{index_directory}
use Rattle.bfs_sound.specs.Listings.{HasIndexDirectory, index_rows}
use Rattle.bfs_sound.specs.Owners.{node_blocks, index_blocks, fixed_blocks, reach}
use Rattle.bfs_sound.specs.Laws.{with_blocks}
use Rattle.bfs_sound.proofs.Counts.{In, times_member}
use Rattle.bfs_sound.proofs.Nodes.{node_metadata, node_split, node_stays, node_blocks_stay}
use Rattle.bfs_sound.proofs.Parts.{in_entries, reach_parts}
use Rattle.bfs_sound.proofs.Streams.{rows_stay}
use Rattle.bfs_shift.specs.Lists.{Lists}
use Rattle.bfs_shift.specs.Stocked.{IsListing, Stocked, Shifts}
use Rattle.bfs_shift.proofs.Moving.{all_parts, part_stays, once_now, marks_now}
use Rattle.bfs_shift.proofs.Kept.{directory_metadata}
use Rattle.bfs_shift.proofs.Renewed.{is_entry}
use Rattle.bfs_shift.proofs.Loose.{all_same}

module _ (v : Volume) (tree : Tree) (lists now : Lists) (gone come loose : List ℕ) (new : ℕ → List ℕ) (stocked : Stocked v tree lists (gone ++ loose))
    (shifts : Shifts v new (index_blocks v ++ gone) (index_blocks (with_blocks v new) ++ come)) (rows_are : (id : ℕ) → now.rows id ≡ lists.rows id)
    (directory : HasIndexDirectory (with_blocks v new) (index_directory v)) (names : index_rows (with_blocks v new) ≡ now.names)
    (listings : (name : List ℕ) (value : ℤ) → assoc Text now.names name ≡ Some value → IsListing (with_blocks v new) (natural value) (now.kinds name) (now.pairs name)) where
  abbrev w : Volume
  w = with_blocks v new

  abbrev xs : List ℕ
  xs = index_blocks v ++ gone

  abbrev ys : List ℕ
  ys = index_blocks w ++ come

  abbrev nodes : List ℕ
  nodes = flat_map (node_blocks v) (entries tree.nodes)

  parts : (k : ℕ) → times k (reach v tree ++ (gone ++ loose)) ≡ times k (fixed_blocks v) + (times k (bitmap_blocks v.geometry) + (times k nodes + times k (index_blocks v))) + (times k gone + times k loose)
  parts k = let a = all_parts v tree lists (gone ++ loose) stocked k in let c = times-append k gone loose in omega (arith, a, c)

  each_node : (b : ℕ) (m : Node) → IsNode tree b m → Agree v.blocks new (node_metadata v (b, m))
  each_node b m there = part_stays v tree lists (gone ++ loose) stocked new xs ys shifts (node_metadata v (b, m)) (λ k.
      let split = node_split v k (b, m) in
      let member : times k (node_blocks v (b, m)) ≤ times k nodes = times_member k (node_blocks v) (entries tree.nodes) (b, m) (in_entries tree.nodes b m there) in
      let p = parts k in
      let t = times-append k (index_blocks v) gone in
      omega (arith, split, member, p, t))

  count : (k : ℕ) → times k (reach w tree ++ (come ++ loose)) + times k xs ≡ times k (reach v tree ++ (gone ++ loose)) + times k ys
  count k =
      let a = parts k in
      let b = times-append k (reach w tree) (come ++ loose) in
      let d = times-append k come loose in
      let f = reach_parts w tree k in
      let g = times-append k (index_blocks v) gone in
      let h = times-append k (index_blocks w) come in
      let i : times k (flat_map (node_blocks w) (entries tree.nodes)) ≡ times k nodes = ap (times k) (all_same (node_blocks v) (node_blocks w) (entries tree.nodes) each) in
      omega (arith, a, b, d, f, g, h, i)
    where
      each : (e : ℕ × Node) → In e (entries tree.nodes) → node_blocks w e ≡ node_blocks v e
      each e i = node_blocks_stay v new v.geometry.used e.0 e.1 (each_node e.0 e.1 (node-of tree.nodes e (is_entry e (entries tree.nodes) i)))

  own_few : (k : ℕ) → times k xs ≤ times k (reach v tree ++ (gone ++ loose))
  own_few k = let p = parts k in let t = times-append k (index_blocks v) gone in omega (arith, p, t)

  pub indices_changed : Stocked (with_blocks v new) tree now (come ++ loose)
  indices_changed = record {
    nodes = λ b m at. node_stays v new v.geometry.used b m (each_node b m at) (stocked.nodes b m at);
    rows = λ b m at dir. rows_stay v new v.geometry.used b (directory_metadata v new b m dir (each_node b m at)) Text ∙ stocked.rows b m at dir ∙ sym (rows_are b);
    directory = directory;
    names = names;
    indices = listings;
    once = once_now v tree lists (gone ++ loose) stocked new xs ys shifts (reach w tree ++ (come ++ loose)) own_few count;
    marks = marks_now v tree lists (gone ++ loose) stocked new xs ys shifts (reach w tree ++ (come ++ loose)) own_few count;
  }
