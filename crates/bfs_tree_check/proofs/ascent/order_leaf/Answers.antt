use Rattle.std.proofs.Common.{◌≡◌, ◌++◌, ℕ, List, sym, ap, subst}
use Rattle.bfs_node.specs.Page.{rows_of}
use Rattle.bfs_pages.specs.Trees.{page_in, state_of}
use Rattle.bfs_pages.proofs.OfKind.{if_some}
use Rattle.bfs_finding.specs.Walks.{rows_met, leaf_met}
use Rattle.bfs_tree_check.specs.Ordered.{IsUpTo, IsBroken, IsOrdered}
use Rattle.bfs_tree_check.proofs.Ascending.{order_wrong, leaf_is}
use Rattle.bfs_tree_check.proofs.ascent.order_leaf.Goals as goal

pub returns-in-Err-clause-wrong : goal.returns-in-Err-clause-wrong
returns-in-Err-clause-wrong g c = λ b front back told known met up. c.in-Err.ensures.wrong b told known

pub returns-in-None-clause-last : goal.returns-in-None-clause-last
returns-in-None-clause-last g c = c.in-Ok-order_rows.ensures.last c.in-None.is

pub returns-in-None-clause-up : goal.returns-in-None-clause-up
returns-in-None-clause-up g c = λ b front back told known met up.
    let page = if_some (λ (z : List ℕ). c.look_at_leaf.new.page ≡ page_in z c.args.at) _ b c.in-Ok.ensures.read told in
    let rows = ap (leaf_met c.args.at) (leaf_is c.args.kind b c.args.at c.look_at_leaf.new.page page c.in-Ok.ensures.good c.in-Ok.ensures.leaf) in
    let up' = subst (λ o. IsOrdered c.args.kind c.args.at front (rows_met c.args.at 0 (rows_of c.look_at_leaf.new.page)) c.order_rows.new.last.items o) c.in-None.is (c.in-Ok-order_rows.ensures.ordered c.args.at front up) in
    subst (λ l. IsUpTo c.args.kind (front ++ l) c.order_rows.new.last.items) (sym rows) up'

pub returns-in-Some-clause-wrong : goal.returns-in-Some-clause-wrong
returns-in-Some-clause-wrong g c = λ b front back told known met up.
    let page = if_some (λ (z : List ℕ). c.look_at_leaf.new.page ≡ page_in z c.args.at) _ b c.in-Ok.ensures.read told in
    let rows = ap (leaf_met c.args.at) (leaf_is c.args.kind b c.args.at c.look_at_leaf.new.page page c.in-Ok.ensures.good c.in-Ok.ensures.leaf) in
    let broken = subst (λ o. IsOrdered c.args.kind c.args.at front (rows_met c.args.at 0 (rows_of c.look_at_leaf.new.page)) c.order_rows.new.last.items o) c.in-Some.is (c.in-Ok-order_rows.ensures.ordered c.args.at front up) in
    order_wrong c.args.kind b c.args.at c.in-Some.index front (leaf_met c.args.at ((state_of c.args.kind b).bodies c.args.at)) back met (subst (λ l. IsBroken c.args.kind c.args.at c.in-Some.index front l) (sym rows) broken)
