-- Loose blocks that are those of a node become it, and a node's blocks become loose.
use Rattle.std.proofs.Common.{◌≡◌, ◌≤◌, ◌<◌, ◌+◌, ℕ, List, [], ◌∷◌, ◌++◌, refl, sym, ap, ◌∙◌, subst, arith, Bool, true, false, cond, Some, None}
use Rattle.std.specs.declared.cmp.Ordering.{Ordering}
use Rattle.std.specs.declared.cmp.Ordering.TheVariants.{Less, Equal, Greater}
use Rattle.std.specs.Ordering.{nat_cmp, is_eq, eq_by_cmp}
use Rattle.std.specs.Cmp.{nat_cmp_total}
use Rattle.std.specs.List.{flat_map}
use Rattle.std.specs.FinMap.{entries, get, insert, put, find, get-insert, entries-insert, get-entries}
use Rattle.std.specs.FinMap.Entries.{by_order}
use Rattle.bfs_base.specs.Lists.{times, AreSame}
use Rattle.bfs_base.specs.declared.kind.KeyKind.TheVariants.{Text}
use Rattle.bfs_stream.proofs.Doubles.{times-append}
use Rattle.bfs_tree.specs.declared.call.Kind.TheVariants.{Dir}
use Rattle.bfs_tree.specs.Trees.{Node, Tree, IsNode}
use Rattle.bfs_values.specs.Rows.{rows_in}
use Rattle.bfs_sound.specs.Volumes.{Volume}
use Rattle.bfs_sound.specs.Inodes.{content}
use Rattle.bfs_sound.specs.Nodes.{HasNode}
use Rattle.bfs_sound.specs.Owners.{node_blocks, reach}
use Rattle.bfs_sound.proofs.Parts.{reach_parts}
use Rattle.bfs_shift.specs.Lists.{Lists}
use Rattle.bfs_shift.specs.Stocked.{Stocked}
use Rattle.bfs_shift.proofs.Renewed.{same_id}

pub put_count : (f : ℕ × Node → List ℕ) (k id : ℕ) (n : Node) (es : List (ℕ × Node)) → find nat_cmp id es ≡ None → times k (flat_map f (put nat_cmp id n es)) ≡ times k (f (id, n)) + times k (flat_map f es)
put_count f k id n [] none = times-append k (f (id, n)) []
put_count f k id n (e ∷ es) none =
    elim (nat_cmp id e.0) as (λ (r : Ordering). cond (is_eq r) (Some e.1) (find nat_cmp id es) ≡ None
    → times k (flat_map f (by_order r ((id, n) ∷ e ∷ es) ((e.0, n) ∷ es) (e ∷ put nat_cmp id n es))) ≡ times k (f (id, n)) + times k (flat_map f (e ∷ es))) [
      | Less ↦ λ no. times-append k (f (id, n)) (flat_map f (e ∷ es))
      | Equal ↦ λ no. absurd (let bad : Some e.1 ≡ None = no in cc)
      | Greater ↦ λ no.
          let ih = put_count f k id n es no in
          let a = times-append k (f e) (flat_map f (put nat_cmp id n es)) in
          let b = times-append k (f e) (flat_map f es) in
          omega (arith, ih, a, b)
    ] none

module _ (v : Volume) (tree : Tree) (lists : Lists) (own rest : List ℕ) (id : ℕ) (n : Node) (stocked : Stocked v tree lists (own ++ rest)) (absent : get tree.nodes id ≡ None)
    (has : HasNode v id n) (same : AreSame own (node_blocks v (id, n))) (rows : n.kind ≡ Dir → rows_in Text (content v id) ≡ lists.rows id) where
  abbrev joined : Tree
  joined = record tree { nodes = insert tree.nodes id n }

  node_now : (b : ℕ) (m : Node) (t : Bool) → eq_by_cmp nat_cmp b id ≡ t → cond t (Some n) (get tree.nodes b) ≡ Some m → HasNode v b m
  node_now b m true e is = subst (λ (j : ℕ). HasNode v j m) (sym (same_id b id e)) (subst (λ (x : Node). HasNode v id x) (let s : Some n ≡ Some m = is in cc) has)
  node_now b m false e is = stocked.nodes b m is

  rows_now : (b : ℕ) (m : Node) (t : Bool) → eq_by_cmp nat_cmp b id ≡ t → cond t (Some n) (get tree.nodes b) ≡ Some m → m.kind ≡ Dir → rows_in Text (content v b) ≡ lists.rows b
  rows_now b m true e is dir =
      let n_is : n ≡ m = (let s : Some n ≡ Some m = is in cc) in
      subst (λ (j : ℕ). rows_in Text (content v j) ≡ lists.rows j) (sym (same_id b id e)) (rows (ap (λ (x : Node). x.kind) n_is ∙ dir))
  rows_now b m false e is dir = stocked.rows b m is dir

  there : (b : ℕ) (m : Node) → IsNode joined b m → cond (eq_by_cmp nat_cmp b id) (Some n) (get tree.nodes b) ≡ Some m
  there b m is = sym (get-insert nat_cmp_total tree.nodes id n b) ∙ is

  count : (k : ℕ) → times k (reach v joined ++ rest) ≡ times k (reach v tree ++ (own ++ rest))
  count k =
      let a = times-append k (reach v joined) rest in
      let b = times-append k (reach v tree) (own ++ rest) in
      let c = times-append k own rest in
      let d = reach_parts v joined k in
      let e = reach_parts v tree k in
      let f : times k own ≡ times k (node_blocks v (id, n)) = same k in
      let g : times k (flat_map (node_blocks v) (entries (insert tree.nodes id n))) ≡ times k (node_blocks v (id, n)) + times k (flat_map (node_blocks v) (entries tree.nodes)) =
      ap (λ (es : List (ℕ × Node)). times k (flat_map (node_blocks v) es)) (entries-insert nat_cmp_total tree.nodes id n)
      ∙ put_count (node_blocks v) k id n (entries tree.nodes) (sym (get-entries tree.nodes id) ∙ absent) in
      omega (arith, a, b, c, d, e, f, g)

  pub node_joined : Stocked v (record tree { nodes = insert tree.nodes id n }) lists rest
  node_joined = record {
    nodes = λ b m is. node_now b m (eq_by_cmp nat_cmp b id) refl (there b m is);
    rows = λ b m is dir. rows_now b m (eq_by_cmp nat_cmp b id) refl (there b m is) dir;
    directory = stocked.directory;
    names = stocked.names;
    indices = stocked.indices;
    once = λ k. let c = count k in let o : times k (reach v tree ++ (own ++ rest)) ≤ 1 = stocked.once k in omega (arith, c, o);
    marks = λ k. (
      λ m. let h : 0 < times k (reach v tree ++ (own ++ rest)) = (stocked.marks k).0 m in let c = count k in omega (arith, h, c),
      λ h. (stocked.marks k).1 (let c = count k in let g : 0 < times k (reach v joined ++ rest) = h in omega (arith, g, c)),
    );
  }
