-- What a stocked volume doesn't read, and the order of its loose blocks.
use Rattle.std.proofs.Common.{◌≡◌, ◌≢◌, ◌≤◌, ◌<◌, ℕ, List, ◌++◌, refl, sym, ap, ◌∙◌, subst, arith, Some, None, cond}
use Rattle.std.specs.FinMap.{entries, get}
use Rattle.std.specs.List.{flat_map}
use Rattle.bfs_base.specs.Lists.{times, AreSame}
use Rattle.bfs_base.specs.declared.kind.KeyKind.TheVariants.{Text}
use Rattle.bfs_node.specs.Page.{Row}
use Rattle.bfs_stream.proofs.Doubles.{times-append}
use Rattle.bfs_tree.specs.Trees.{Node, Nodes, Tree, IsNode}
use Rattle.bfs_sound.specs.Volumes.{Volume}
use Rattle.bfs_sound.specs.Owners.{node_blocks, index_blocks, reach}
use Rattle.bfs_sound.specs.Laws.{changed}
use Rattle.bfs_sound.proofs.Nodes.{node_stays, node_blocks_stay}
use Rattle.bfs_sound.proofs.Streams.{rows_stay}
use Rattle.bfs_sound.proofs.Parts.{reach_parts}
use Rattle.bfs_shift.specs.Lists.{Lists, with_rows}
use Rattle.bfs_shift.specs.Stocked.{Stocked}
use Rattle.bfs_shift.proofs.Kept.{index_rows_stay, index_directory_stays, listings_stay, index_blocks_stay}
use Rattle.bfs_shift.proofs.Renewed.{other_test}
use Rattle.bfs_shift.proofs.Loose.{all_same}

pub in_order : (v : Volume) (tree : Tree) (lists : Lists) (loose other : List ℕ) → AreSame loose other → Stocked v tree lists loose → Stocked v tree lists other
in_order v tree lists loose other same stocked = record {
  nodes = stocked.nodes;
  rows = stocked.rows;
  directory = stocked.directory;
  names = stocked.names;
  indices = stocked.indices;
  once = λ k. let o : times k (reach v tree ++ loose) ≤ 1 = stocked.once k in let c = counts k in omega (arith, o, c);
  marks = λ k. (
    λ m. let h : 0 < times k (reach v tree ++ loose) = (stocked.marks k).0 m in let c = counts k in omega (arith, h, c),
    λ h. (stocked.marks k).1 (let g : 0 < times k (reach v tree ++ other) = h in let c = counts k in omega (arith, g, c)),
  );
}
  where
    counts : (k : ℕ) → times k (reach v tree ++ other) ≡ times k (reach v tree ++ loose)
    counts k = let a = times-append k (reach v tree) loose in let b = times-append k (reach v tree) other in let c = same k in omega (arith, a, b, c)

pub elsewhere : (v : Volume) (tree : Tree) (lists : Lists) (loose : List ℕ) (id : ℕ) (rows : List Row) → get tree.nodes id ≡ None → Stocked v tree lists loose → Stocked v tree (with_rows lists id rows) loose
elsewhere v tree lists loose id rows absent stocked = record {
  nodes = stocked.nodes;
  rows = λ b m at dir. stocked.rows b m at dir ∙ sym (ap (λ t. cond t rows (lists.rows b)) (other_test b id (apart b m at)));
  directory = stocked.directory;
  names = stocked.names;
  indices = stocked.indices;
  once = stocked.once;
  marks = stocked.marks;
}
  where
    apart : (b : ℕ) (m : Node) → IsNode tree b m → b ≢ id
    apart b m at e = let both : Some m ≡ None = sym at ∙ ap (get tree.nodes) e ∙ absent in cc

pub other_indices : (v : Volume) (tree other : Tree) (lists : Lists) (loose : List ℕ) → other.nodes ≡ tree.nodes → Stocked v tree lists loose → Stocked v other lists loose
other_indices v tree other lists loose same stocked =
    subst (λ (nodes : Nodes). Stocked v (record other { nodes = nodes }) lists loose) (sym same) (record {
      nodes = stocked.nodes;
      rows = stocked.rows;
      directory = stocked.directory;
      names = stocked.names;
      indices = stocked.indices;
      once = stocked.once;
      marks = stocked.marks;
    })

module _ (v : Volume) (tree : Tree) (lists : Lists) (loose : List ℕ) (used : ℕ) (stocked : Stocked v tree lists loose) where
  abbrev w : Volume
  w = changed v v.blocks used

  reach_same : (k : ℕ) → times k (reach w tree ++ loose) ≡ times k (reach v tree ++ loose)
  reach_same k =
      let a = times-append k (reach w tree) loose in
      let b = times-append k (reach v tree) loose in
      let c = reach_parts w tree k in
      let d = reach_parts v tree k in
      let e : times k (flat_map (node_blocks w) (entries tree.nodes)) ≡ times k (flat_map (node_blocks v) (entries tree.nodes)) =
      ap (times k) (all_same (node_blocks v) (node_blocks w) (entries tree.nodes) (λ x i. node_blocks_stay v v.blocks used x.0 x.1 (λ j h. refl))) in
      let f : times k (index_blocks w) ≡ times k (index_blocks v) = ap (times k) (index_blocks_stay v v.blocks used (λ j h. refl)) in
      omega (arith, a, b, c, d, e, f)

  pub other_count : Stocked (changed v v.blocks used) tree lists loose
  other_count = record {
    nodes = λ id n is. node_stays v v.blocks used id n (λ j h. refl) (stocked.nodes id n is);
    rows = λ id n is dir. rows_stay v v.blocks used id (λ j h. refl) Text ∙ stocked.rows id n is dir;
    directory = index_directory_stays v v.blocks used (λ j h. refl) stocked.directory;
    names = index_rows_stay v v.blocks used (λ j h. refl) ∙ stocked.names;
    indices = λ name value row. listings_stay v v.blocks used (λ j h. refl) lists.names stocked.names name value (lists.kinds name) (lists.pairs name) row (stocked.indices name value row);
    once = λ k. let c = reach_same k in let o : times k (reach v tree ++ loose) ≤ 1 = stocked.once k in omega (arith, c, o);
    marks = λ k. (
      λ m. let h : 0 < times k (reach v tree ++ loose) = (stocked.marks k).0 m in let c = reach_same k in omega (arith, h, c),
      λ h. (stocked.marks k).1 (let g : 0 < times k (reach w tree ++ loose) = h in let c = reach_same k in omega (arith, g, c)),
    );
  }
