use Rattle.std.proofs.Common.{rules, ◌≡◌, ◌∙◌, ◌++◌, ℕ, List, length, sym, ap, subst}
use Rattle.bfs_node.specs.Header.{header_at}
use Rattle.bfs_maps.specs.Reached.{IsWholeTree}
use Rattle.bfs_maps.specs.Rows.{rows_in}
use Rattle.bfs_make.specs.Trees.{IsEmptyLeaf}
use Rattle.bfs_make.proofs.NewTrees.{whole_tree, no_rows, first_page, second_page, both_pages}
use Rattle.bfs_make.proofs.tree.empty_tree.Goals as goal

pub returns-clause-tree : goal.returns-clause-tree
returns-clause-tree c =
    let a = c.tree_header.result in
    let b = c.empty_leaf.result in
    let all : c.extend_from_slice-2.new.self.items ≡ a ++ b = c.in_ok-extend_from_slice-2.ensures.items ∙ ap (λ (l : List ℕ). l ++ b) (c.in_ok-extend_from_slice.ensures.items ∙ ap (λ (l : List ℕ). l ++ a) c.new-bytes.ensures.items) in
    let long_a : length a ≡ 1024 = search rules in
    let long_b : length b ≡ 1024 = search rules in
    subst (IsWholeTree c.args.kind) (sym all)
    (whole_tree c.args.kind c.requires (a ++ b) (both_pages a b long_a long_b) (ap header_at (first_page a b long_a) ∙ c.tree_header.ensures) (subst IsEmptyLeaf (sym (second_page a b long_a long_b)) c.empty_leaf.ensures))

pub returns-clause-rows : goal.returns-clause-rows
returns-clause-rows c =
    let a = c.tree_header.result in
    let b = c.empty_leaf.result in
    let all : c.extend_from_slice-2.new.self.items ≡ a ++ b = c.in_ok-extend_from_slice-2.ensures.items ∙ ap (λ (l : List ℕ). l ++ b) (c.in_ok-extend_from_slice.ensures.items ∙ ap (λ (l : List ℕ). l ++ a) c.new-bytes.ensures.items) in
    let long_a : length a ≡ 1024 = search rules in
    let long_b : length b ≡ 1024 = search rules in
    ap (rows_in c.args.kind) all
    ∙ no_rows c.args.kind c.requires (a ++ b) (both_pages a b long_a long_b) (ap header_at (first_page a b long_a) ∙ c.tree_header.ensures) (subst IsEmptyLeaf (sym (second_page a b long_a long_b)) c.empty_leaf.ensures)
