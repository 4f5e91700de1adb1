-- Loose blocks change.
use Rattle.std.proofs.Common.{◌≡◌, ◌≤◌, ◌+◌, inl, inr, ℕ, List, [], ◌∷◌, ◌++◌, refl, ap, ap₂, ◌∙◌, arith}
use Rattle.std.specs.List.{flat_map}
use Rattle.std.specs.FinMap.{entries}
use Rattle.bfs_base.specs.Lists.{times, Agree}
use Rattle.bfs_base.specs.declared.kind.KeyKind.TheVariants.{Text}
use Rattle.bfs_stream.proofs.Doubles.{times-append}
use Rattle.bfs_tree.specs.Trees.{Node, Tree, IsNode}
use Rattle.bfs_tree.proofs.Members.{node-of}
use Rattle.bfs_sound.specs.Volumes.{Volume, bitmap_blocks}
use Rattle.bfs_sound.specs.Owners.{node_blocks, index_blocks, fixed_blocks, reach}
use Rattle.bfs_sound.specs.Laws.{with_blocks}
use Rattle.bfs_sound.proofs.Counts.{In, times_member}
use Rattle.bfs_sound.proofs.Nodes.{node_metadata, node_split, node_stays, node_blocks_stay}
use Rattle.bfs_sound.proofs.Parts.{in_entries, reach_parts}
use Rattle.bfs_sound.proofs.Streams.{rows_stay}
use Rattle.bfs_shift.specs.Lists.{Lists}
use Rattle.bfs_shift.specs.Stocked.{Stocked, Shifts}
use Rattle.bfs_shift.proofs.Moving.{all_parts, part_stays, once_now, marks_now}
use Rattle.bfs_shift.proofs.Kept.{directory_metadata, index_rows_stay, index_directory_stays, listings_stay, index_blocks_stay}
use Rattle.bfs_shift.proofs.Renewed.{is_entry}

pub all_same : (f g : ℕ × Node → List ℕ) (es : List (ℕ × Node)) → ((e : ℕ × Node) → In e es → g e ≡ f e) → flat_map g es ≡ flat_map f es
all_same f g [] same = refl
all_same f g (e ∷ es) same = ap₂ (λ (a b : List ℕ). a ++ b) (same e (inl refl)) (all_same f g es (λ x i. same x (inr i)))

module _ (v : Volume) (tree : Tree) (lists : Lists) (xs ys rest : List ℕ) (new : ℕ → List ℕ) (stocked : Stocked v tree lists (xs ++ rest)) (shifts : Shifts v new xs ys) where
  abbrev w : Volume
  w = with_blocks v new

  abbrev nodes : List ℕ
  nodes = flat_map (node_blocks v) (entries tree.nodes)

  parts : (k : ℕ) → times k (reach v tree ++ (xs ++ rest)) ≡ times k (fixed_blocks v) + (times k (bitmap_blocks v.geometry) + (times k nodes + times k (index_blocks v))) + (times k xs + times k rest)
  parts k = let a = all_parts v tree lists (xs ++ rest) stocked k in let c = times-append k xs rest in omega (arith, a, c)

  each_node : (b : ℕ) (m : Node) → IsNode tree b m → Agree v.blocks new (node_metadata v (b, m))
  each_node b m there = part_stays v tree lists (xs ++ rest) stocked new xs ys shifts (node_metadata v (b, m)) (λ k.
      let split = node_split v k (b, m) in
      let member : times k (node_blocks v (b, m)) ≤ times k nodes = times_member k (node_blocks v) (entries tree.nodes) (b, m) (in_entries tree.nodes b m there) in
      let p = parts k in
      omega (arith, split, member, p))

  at_index : Agree v.blocks new (index_blocks v)
  at_index = part_stays v tree lists (xs ++ rest) stocked new xs ys shifts (index_blocks v) (λ k. let p = parts k in omega (arith, p))

  count : (k : ℕ) → times k (reach w tree ++ (ys ++ rest)) + times k xs ≡ times k (reach v tree ++ (xs ++ rest)) + times k ys
  count k =
      let a = parts k in
      let b = times-append k (reach w tree) (ys ++ rest) in
      let d = times-append k ys rest in
      let f = reach_parts w tree k in
      let g : times k (index_blocks w) ≡ times k (index_blocks v) = ap (times k) (index_blocks_stay v new v.geometry.used at_index) in
      let h : times k (flat_map (node_blocks w) (entries tree.nodes)) ≡ times k nodes = ap (times k) (all_same (node_blocks v) (node_blocks w) (entries tree.nodes) each) in
      omega (arith, a, b, d, f, g, h)
    where
      each : (e : ℕ × Node) → In e (entries tree.nodes) → node_blocks w e ≡ node_blocks v e
      each e i = node_blocks_stay v new v.geometry.used e.0 e.1 (each_node e.0 e.1 (node-of tree.nodes e (is_entry e (entries tree.nodes) i)))

  own_few : (k : ℕ) → times k xs ≤ times k (reach v tree ++ (xs ++ rest))
  own_few k = let p = parts k in omega (arith, p)

  pub loose_changed : Stocked (with_blocks v new) tree lists (ys ++ rest)
  loose_changed = record {
    nodes = λ b m at. node_stays v new v.geometry.used b m (each_node b m at) (stocked.nodes b m at);
    rows = λ b m at dir. rows_stay v new v.geometry.used b (directory_metadata v new b m dir (each_node b m at)) Text ∙ stocked.rows b m at dir;
    directory = index_directory_stays v new v.geometry.used at_index stocked.directory;
    names = index_rows_stay v new v.geometry.used at_index ∙ stocked.names;
    indices = λ name value row. listings_stay v new v.geometry.used at_index lists.names stocked.names name value (lists.kinds name) (lists.pairs name) row (stocked.indices name value row);
    once = once_now v tree lists (xs ++ rest) stocked new xs ys shifts (reach w tree ++ (ys ++ rest)) own_few count;
    marks = marks_now v tree lists (xs ++ rest) stocked new xs ys shifts (reach w tree ++ (ys ++ rest)) own_few count;
  }
