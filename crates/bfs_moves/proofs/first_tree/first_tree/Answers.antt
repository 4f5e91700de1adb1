use Rattle.std.proofs.Common.{rules, ◌≡◌, ◌∙◌, ◌++◌, ℕ, List, length, sym, ap, subst}
use Rattle.bfs_base.specs.declared.kind.KeyKind.TheVariants.{Text}
use Rattle.bfs_node.specs.Header.{header_at}
use Rattle.bfs_values.specs.Reached.{IsWholeTree}
use Rattle.bfs_values.specs.Rows.{rows_in}
use Rattle.bfs_make.proofs.NewTrees.{first_page, second_page, both_pages}
use Rattle.bfs_shift.specs.TreeLaws.{first_rows}
use Rattle.bfs_moves.specs.Grown.{IsLeaf}
use Rattle.bfs_moves.proofs.FirstTrees.{first_rows_are, first_whole_tree}
use Rattle.bfs_moves.proofs.first_tree.first_tree.Goals as goal

pub returns-clause-tree : goal.returns-clause-tree
returns-clause-tree c =
    let a = c.tree_header.result in
    let b = c.first_leaf.result in
    let rows = first_rows c.args.block c.args.parent in
    let all : c.extend_from_slice-2.new.self.items ≡ a ++ b = c.in_ok-extend_from_slice-2.ensures.items ∙ ap (λ (l : List ℕ). l ++ b) (c.in_ok-extend_from_slice.ensures.items ∙ ap (λ (l : List ℕ). l ++ a) c.new-bytes.ensures.items) in
    let long_a : length a ≡ 1024 = search rules in
    let long_b : length b ≡ 1024 = search rules in
    subst (IsWholeTree Text) (sym all)
    (first_whole_tree c.args.block c.args.parent c.requires.block c.requires.parent (a ++ b) (both_pages a b long_a long_b) (ap header_at (first_page a b long_a) ∙ c.tree_header.ensures) (subst (IsLeaf rows) (sym (second_page a b long_a long_b)) c.first_leaf.ensures))

pub returns-clause-rows : goal.returns-clause-rows
returns-clause-rows c =
    let a = c.tree_header.result in
    let b = c.first_leaf.result in
    let rows = first_rows c.args.block c.args.parent in
    let all : c.extend_from_slice-2.new.self.items ≡ a ++ b = c.in_ok-extend_from_slice-2.ensures.items ∙ ap (λ (l : List ℕ). l ++ b) (c.in_ok-extend_from_slice.ensures.items ∙ ap (λ (l : List ℕ). l ++ a) c.new-bytes.ensures.items) in
    let long_a : length a ≡ 1024 = search rules in
    let long_b : length b ≡ 1024 = search rules in
    ap (rows_in Text) all
    ∙ first_rows_are c.args.block c.args.parent c.requires.block c.requires.parent (a ++ b) (both_pages a b long_a long_b) (ap header_at (first_page a b long_a) ∙ c.tree_header.ensures) (subst (IsLeaf rows) (sym (second_page a b long_a long_b)) c.first_leaf.ensures)
