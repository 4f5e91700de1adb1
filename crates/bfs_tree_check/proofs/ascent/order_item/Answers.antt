use Rattle.std.proofs.Common.{◌≡◌, ◌++◌, OnOk, sym, subst}
use Rattle.bfs_pages.specs.Trees.{state_of}
use Rattle.bfs_finding.specs.Walks.{entries_met}
use Rattle.bfs_tree_check.specs.Levels.{IsInside, met_in}
use Rattle.bfs_tree_check.specs.Ordered.{IsUpTo, IsKnown}
use Rattle.bfs_tree_check.proofs.ascent.order_item.Goals as goal

pub order_leaf-requires-clause-at : goal.order_leaf-requires-clause-at
order_leaf-requires-clause-at g c = subst (IsInside (g.P.Pages.size c.args.pages.now)) c.in-Page.is c.requires.item

pub returns-in-Page-clause-up : goal.returns-in-Page-clause-up
returns-in-Page-clause-up g c = λ b front back told known met up.
    subst (λ i. OnOk c.order_leaf.result (IsUpTo c.args.kind (front ++ met_in (state_of c.args.kind b).bodies 0 i) c.order_leaf.new.last.items)) (sym c.in-Page.is)
    (c.order_leaf.ensures.up b front back told (subst (IsKnown c.args.kind b) c.in-Page.is known) (subst (λ i. entries_met c.args.kind b ≡ front ++ (met_in (state_of c.args.kind b).bodies 0 i ++ back)) c.in-Page.is met) up)

pub returns-in-Page-clause-wrong : goal.returns-in-Page-clause-wrong
returns-in-Page-clause-wrong g c = λ b front back told known met up.
    c.order_leaf.ensures.wrong b front back told (subst (IsKnown c.args.kind b) c.in-Page.is known) (subst (λ i. entries_met c.args.kind b ≡ front ++ (met_in (state_of c.args.kind b).bodies 0 i ++ back)) c.in-Page.is met) up

pub order_key-requires-clause-at : goal.order_key-requires-clause-at
order_key-requires-clause-at g c = subst (IsInside (g.P.Pages.size c.args.pages.now)) c.in-Key.is c.requires.item

pub returns-in-Key-clause-up : goal.returns-in-Key-clause-up
returns-in-Key-clause-up g c = λ b front back told known met up.
    subst (λ i. OnOk c.order_key.result (IsUpTo c.args.kind (front ++ met_in (state_of c.args.kind b).bodies 0 i) c.order_key.new.last.items)) (sym c.in-Key.is)
    (c.order_key.ensures.up b front back told (subst (IsKnown c.args.kind b) c.in-Key.is known) (subst (λ i. entries_met c.args.kind b ≡ front ++ (met_in (state_of c.args.kind b).bodies 0 i ++ back)) c.in-Key.is met) up)

pub returns-in-Key-clause-wrong : goal.returns-in-Key-clause-wrong
returns-in-Key-clause-wrong g c = λ b front back told known met up.
    c.order_key.ensures.wrong b front back told (subst (IsKnown c.args.kind b) c.in-Key.is known) (subst (λ i. entries_met c.args.kind b ≡ front ++ (met_in (state_of c.args.kind b).bodies 0 i ++ back)) c.in-Key.is met) up
