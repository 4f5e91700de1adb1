use Rattle.std.proofs.Common.{◌≡◌, ◌<◌, ◌∙◌, ◌++◌, ◌∷◌, [], ℕ, List, false, length, sym, subst, arith}
use Rattle.bfs_node.specs.Page.{rows_of, IsKeyLength}
use Rattle.bfs_pages.specs.Shapes.{a_bound}
use Rattle.bfs_pages.specs.Trees.{page_in, state_of}
use Rattle.bfs_pages.proofs.OfKind.{if_some}
use Rattle.bfs_finding.specs.Walks.{Met}
use Rattle.bfs_tree_check.specs.Levels.{bound_in}
use Rattle.bfs_tree_check.specs.Ordered.{IsUpTo}
use Rattle.bfs_tree_check.proofs.Ascending.{order_wrong, bound_is, one_broken}
use Rattle.bfs_tree_check.proofs.Rising.{key_some, up_next, broken_at}
use Rattle.bfs_tree_check.proofs.ascent.order_key.Goals as goal

pub returns-in-Err-clause-wrong : goal.returns-in-Err-clause-wrong
returns-in-Err-clause-wrong g c = λ b front back told known met up. c.in-Err.ensures.wrong b told known.0

pub go_on-requires-clause-key : goal.go_on-requires-clause-key
go_on-requires-clause-key g c =
    let inside : c.args.index < length (rows_of c.look_at_interior.new.page) = let e = c.row_count-count.ensures in let t = c.if-index-count.false in omega (arith, e, t) in
    subst (λ (k : List ℕ). IsKeyLength c.args.kind (length k)) (sym c.row_key.ensures) (c.in-Ok.ensures.page.keys c.args.index inside)

pub returns-then-on-clause-last : goal.returns-then-on-clause-last
returns-then-on-clause-last g c = λ some.
    let inside : c.args.index < length (rows_of c.look_at_interior.new.page) = let e = c.row_count-count.ensures in let t = c.if-index-count.false in omega (arith, e, t) in
    subst (λ (k : List ℕ). IsKeyLength c.args.kind (length k)) (sym c.row_key.ensures ∙ sym (c.in-Ok-go_on.ensures.last c.if-on.true)) (c.in-Ok.ensures.page.keys c.args.index inside)

pub returns-then-on-clause-up : goal.returns-then-on-clause-up
returns-then-on-clause-up g c = λ b front back told known met up.
    let page = if_some (λ (z : List ℕ). c.look_at_interior.new.page ≡ page_in z c.args.at) _ b c.in-Ok.ensures.read told in
    let bound = bound_is c.args.kind b c.args.at (g.P.Pages.size c.args.pages.now) c.args.index c.look_at_interior.new.page page c.in-Ok.ensures.interior in
    let inside : c.args.index < length (rows_of c.look_at_interior.new.page) = let e = c.row_count-count.ensures in let t = c.if-index-count.false in omega (arith, e, t) in
    let long : IsKeyLength c.args.kind (length c.row_key.result.now) = subst (λ (k : List ℕ). IsKeyLength c.args.kind (length k)) (sym c.row_key.ensures) (c.in-Ok.ensures.page.keys c.args.index inside) in
    let m : Met = (c.args.at, c.args.index, a_bound (bound_in ((state_of c.args.kind b).bodies c.args.at) c.args.index)) in
    let next = up_next c.args.kind front c.args.last.now.items c.row_key.result.now false m (bound ∙ sym c.row_key.ensures) (key_some c.args.kind (length c.row_key.result.now) c.requires.kind long) up (sym c.in-Ok-go_on.ensures.on ∙ c.if-on.true) in
    subst (λ (k : List ℕ). IsUpTo c.args.kind (front ++ m ∷ []) k) (sym (c.in-Ok-go_on.ensures.last c.if-on.true)) next

pub returns-else-on-clause-wrong : goal.returns-else-on-clause-wrong
returns-else-on-clause-wrong g c = λ b front back told known met up.
    let page = if_some (λ (z : List ℕ). c.look_at_interior.new.page ≡ page_in z c.args.at) _ b c.in-Ok.ensures.read told in
    let bound = bound_is c.args.kind b c.args.at (g.P.Pages.size c.args.pages.now) c.args.index c.look_at_interior.new.page page c.in-Ok.ensures.interior in
    let m : Met = (c.args.at, c.args.index, a_bound (bound_in ((state_of c.args.kind b).bodies c.args.at) c.args.index)) in
    order_wrong c.args.kind b c.args.at c.args.index front (m ∷ []) back met
    (one_broken c.args.kind c.args.at c.args.index front (a_bound (bound_in ((state_of c.args.kind b).bodies c.args.at) c.args.index))
    (broken_at c.args.kind front c.args.last.now.items c.row_key.result.now false m (bound ∙ sym c.row_key.ensures) up (sym c.in-Ok-go_on.ensures.on ∙ c.if-on.false)))
