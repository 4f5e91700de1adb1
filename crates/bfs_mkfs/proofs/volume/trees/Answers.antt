use Rattle.std.proofs.Common.{◌≡◌, ℕ, pos, ◌+◌, [], ◌∷◌, ap, subst, ◌∙◌, codes, to_z, of_z}
use Rattle.std.specs.Int.{w64}
use Rattle.std.proofs.lemmas.Int.{to_z-of_z}
use Rattle.bfs_base.specs.declared.kind.KeyKind.TheVariants.{Text, I64}
use Rattle.bfs_mkfs.specs.Laid.{IsLeaf, IsNewTree, root_rows, index_rows, root_tree, indices_tree, name_tree, size_tree, modified_tree, tree_blocks, directory_mode, text_mode, long_mode}
use Rattle.bfs_mkfs.proofs.Trees.{end_to_end}
use Rattle.bfs_mkfs.proofs.volume.trees.Goals as goal

pub returns : goal.returns
returns c =
    let g = c.args.geometry in
    let z = c.args.stamp in
    let size = g.block_size in
    let st : to_z w64 (of_z w64 z) ≡ z = to_z-of_z w64 z c.ranges.stamp in
    let step : 1 + c.from-step.result ≡ tree_blocks g = ap (λ (n : ℕ). 1 + n) (c.from-step.ensures ∙ c.pages.ensures.value) in
    let rows = subst (λ (n : ℕ). IsLeaf ((codes "last_modified", pos (g.indices + n + n + n)) ∷ (codes "name", pos (g.indices + n)) ∷ (codes "size", pos (g.indices + n + n)) ∷ []) c.index_leaf.result) step c.index_leaf.ensures in
    let p1 = c.in_ok-push_tree.ensures (root_rows g) c.root_leaf.ensures in
    let p2 = c.in_ok-push_tree-2.ensures (index_rows g) rows in
    let p3 = c.in_ok-push_tree-3.ensures [] c.empty_leaf.ensures in
    let p4 = c.in_ok-push_tree-4.ensures [] c.empty_leaf-2.ensures in
    let p5 = c.in_ok-push_tree-5.ensures [] c.empty_leaf-3.ensures in
    let t1 : c.new_tree.result ≡ root_tree g z = c.new_tree.ensures ∙ (λ i. record { id = g.root; parent = g.root; mode = directory_mode; kind = Text; stamp = st i }) in
    let t2 : c.new_tree-2.result ≡ indices_tree g z = c.new_tree-2.ensures ∙ (λ i. record { id = g.indices; parent = g.root; mode = text_mode; kind = Text; stamp = st i }) in
    let t3 : c.new_tree-3.result ≡ name_tree g z = c.new_tree-3.ensures ∙ (λ i. record { id = g.indices + step i; parent = g.indices; mode = text_mode; kind = Text; stamp = st i }) in
    let t4 : c.new_tree-4.result ≡ size_tree g z = c.new_tree-4.ensures ∙ (λ i. record { id = g.indices + step i + step i; parent = g.indices; mode = long_mode; kind = I64; stamp = st i }) in
    let t5 : c.new_tree-5.result ≡ modified_tree g z = c.new_tree-5.ensures ∙ (λ i. record { id = g.indices + step i + step i + step i; parent = g.indices; mode = long_mode; kind = I64; stamp = st i }) in
    record {
      root = p1.0;
      indices = p2.0;
      name = p3.0;
      size = p4.0;
      last_modified = p5.0;
      parts = end_to_end _ p1.0 p2.0 p3.0 p4.0 p5.0 _ _ _ _ _ c.new-out.ensures.items p1.1 p2.1 p3.1 p4.1 p5.1;
      root_is = subst (λ t. IsNewTree size t (root_rows g) p1.0) t1 p1.2;
      indices_is = subst (λ t. IsNewTree size t (index_rows g) p2.0) t2 p2.2;
      name_is = subst (λ t. IsNewTree size t [] p3.0) t3 p3.2;
      size_is = subst (λ t. IsNewTree size t [] p4.0) t4 p4.2;
      modified_is = subst (λ t. IsNewTree size t [] p5.0) t5 p5.2;
    }
