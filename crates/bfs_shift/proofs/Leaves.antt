-- A node leaves the tree, and its blocks become loose.
use Rattle.std.proofs.Common.{◌≡◌, ◌≤◌, ◌<◌, ◌+◌, ℕ, List, ◌++◌, refl, sym, ap, ◌∙◌, arith, Bool, true, false, cond, Some, None}
use Rattle.std.proofs.lemmas.Grind.{common_steps}
use Rattle.std.specs.Ordering.{nat_cmp, eq_by_cmp}
use Rattle.std.specs.Cmp.{nat_cmp_total}
use Rattle.std.specs.List.{flat_map}
use Rattle.std.specs.FinMap.{entries, get, insert, remove, get-insert, get-remove, entries-insert, get-entries, same_map, nat_cmp-IsAntisymmetric}
use Rattle.bfs_base.specs.Lists.{times}
use Rattle.bfs_stream.proofs.Doubles.{times-append}
use Rattle.bfs_tree.specs.Trees.{Node, Nodes, Tree, IsNode}
use Rattle.bfs_sound.specs.Volumes.{Volume}
use Rattle.bfs_sound.specs.Owners.{node_blocks, reach}
use Rattle.bfs_sound.proofs.Parts.{reach_parts}
use Rattle.bfs_shift.specs.Lists.{Lists}
use Rattle.bfs_shift.specs.Stocked.{Stocked}
use Rattle.bfs_shift.proofs.Renewed.{same_id}
use Rattle.bfs_shift.proofs.Joins.{put_count}

own_tie : (q : ℕ) → eq_by_cmp nat_cmp q q ≡ true
own_tie q = grind (arith, common_steps)

-- a node that was taken is put back
pub put_back : (nodes : Nodes) (id : ℕ) (n : Node) → get nodes id ≡ Some n → insert (remove nodes id) id n ≡ nodes
put_back nodes id n is = same_map nat_cmp_total nat_cmp-IsAntisymmetric (insert (remove nodes id) id n) nodes (λ q. at q (eq_by_cmp nat_cmp q id) refl)
  where
    at : (q : ℕ) (t : Bool) → eq_by_cmp nat_cmp q id ≡ t → get (insert (remove nodes id) id n) q ≡ get nodes q
    at q true e = get-insert nat_cmp_total (remove nodes id) id n q ∙ ap (λ b. cond b (Some n) (get (remove nodes id) q)) e ∙ sym is ∙ ap (get nodes) (sym (same_id q id e))
    at q false e =
        get-insert nat_cmp_total (remove nodes id) id n q ∙ ap (λ b. cond b (Some n) (get (remove nodes id) q)) e
        ∙ get-remove nat_cmp_total nodes id q ∙ ap (λ b. cond b None (get nodes q)) e

pub taken_none : (nodes : Nodes) (id : ℕ) → get (remove nodes id) id ≡ None
taken_none nodes id = get-remove nat_cmp_total nodes id id ∙ ap (λ b. cond b None (get nodes id)) (own_tie id)

-- what is there without it was there before
pub was_there : (nodes : Nodes) (id q : ℕ) (m : Node) → get (remove nodes id) q ≡ Some m → get nodes q ≡ Some m
was_there nodes id q m is = by_test (eq_by_cmp nat_cmp q id) (sym (get-remove nat_cmp_total nodes id q) ∙ is)
  where
    by_test : (t : Bool) → cond t None (get nodes q) ≡ Some m → get nodes q ≡ Some m
    by_test true e = absurd (let bad : None ≡ Some m = e in cc)
    by_test false e = e

module _ (v : Volume) (tree : Tree) (lists : Lists) (loose : List ℕ) (id : ℕ) (n : Node) (stocked : Stocked v tree lists loose) (is : IsNode tree id n) where
  abbrev left : Tree
  left = record tree { nodes = remove tree.nodes id }

  count : (k : ℕ) → times k (reach v left ++ (node_blocks v (id, n) ++ loose)) ≡ times k (reach v tree ++ loose)
  count k =
      let a = times-append k (reach v left) (node_blocks v (id, n) ++ loose) in
      let b = times-append k (reach v tree) loose in
      let c = times-append k (node_blocks v (id, n)) loose in
      let d = reach_parts v left k in
      let e = reach_parts v tree k in
      let f : times k (flat_map (node_blocks v) (entries tree.nodes)) ≡ times k (node_blocks v (id, n)) + times k (flat_map (node_blocks v) (entries left.nodes)) =
      ap (λ (nodes : Nodes). times k (flat_map (node_blocks v) (entries nodes))) (sym (put_back tree.nodes id n is))
      ∙ ap (λ (es : List (ℕ × Node)). times k (flat_map (node_blocks v) es)) (entries-insert nat_cmp_total left.nodes id n)
      ∙ put_count (node_blocks v) k id n (entries left.nodes) (sym (get-entries left.nodes id) ∙ taken_none tree.nodes id) in
      omega (arith, a, b, c, d, e, f)

  pub node_left : Stocked v (record tree { nodes = remove tree.nodes id }) lists (node_blocks v (id, n) ++ loose)
  node_left = record {
    nodes = λ b m at. stocked.nodes b m (was_there tree.nodes id b m at);
    rows = λ b m at dir. stocked.rows b m (was_there tree.nodes id b m at) dir;
    directory = stocked.directory;
    names = stocked.names;
    indices = stocked.indices;
    once = λ k. let c = count k in let o : times k (reach v tree ++ loose) ≤ 1 = stocked.once k in omega (arith, c, o);
    marks = λ k. (
      λ m. let h : 0 < times k (reach v tree ++ loose) = (stocked.marks k).0 m in let c = count k in omega (arith, h, c),
      λ h. (stocked.marks k).1 (let c = count k in let g : 0 < times k (reach v left ++ (node_blocks v (id, n) ++ loose)) = h in omega (arith, g, c)),
    );
  }
