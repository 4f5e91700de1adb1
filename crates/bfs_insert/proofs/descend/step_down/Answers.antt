use Rattle.std.proofs.Common.{◌≡◌, ℕ, suc, List, sym, ◌∙◌, subst}
use Rattle.bfs_node.specs.declared.fault.PageKind.TheVariants.{Interior}
use Rattle.bfs_pages.specs.Answers.{IsInteriorPage}
use Rattle.bfs_pages.specs.Trees.{page_in}
use Rattle.bfs_insert.specs.Divided.{IsRoomy}
use Rattle.bfs_insert.proofs.Descending.{way-on, goes-down, more-below}
use Rattle.bfs_pages.proofs.Faulted.{of-pages, pages-spared}
use Rattle.bfs_pages.proofs.OfKind.{if_some, inner-page}
use Rattle.bfs_insert.proofs.descend.step_down.Goals as goal

pub returns-in-Err-clause-spared : goal.returns-in-Err-clause-spared
returns-in-Err-clause-spared g c b reached t fs d e tree level last way room =
    pages-spared (g.P.Pages.told c.read_interior.new.pages) c.in-Err.fault
    (of-pages c.args.kind (g.P.Pages.told c.read_interior.new.pages) (g.P.Pages.is_cause c.args.pages.now c.read_interior.new.pages) b c.args.at Interior c.in-Err.fault
    c.in-Err.ensures.refused c.in-Err.ensures.at (c.in-Err.ensures.told ∙ e) (inner-page c.args.kind b reached t fs d c.args.key.now c.args.at tree.holds level way).0)

pub enter_leaf-requires-clause-child : goal.enter_leaf-requires-clause-child
enter_leaf-requires-clause-child g c =
    c.child_for-child.ensures.child (g.P.Pages.size c.read_interior.new.pages) (subst (λ (n : ℕ). IsInteriorPage c.args.kind n c.read_interior.new.page) (sym c.in-Ok.ensures.size) c.in-Ok.ensures.interior)

pub enter_interior-requires-clause-child : goal.enter_interior-requires-clause-child
enter_interior-requires-clause-child g c =
    c.child_for-child.ensures.child (g.P.Pages.size c.read_interior.new.pages) (subst (λ (n : ℕ). IsInteriorPage c.args.kind n c.read_interior.new.page) (sym c.in-Ok.ensures.size) c.in-Ok.ensures.interior)

pub returns-in-Ok-enter_leaf-clause-step : goal.returns-in-Ok-enter_leaf-clause-step
returns-in-Ok-enter_leaf-clause-step g c b e =
    let r : c.read_interior.new.page ≡ page_in b c.args.at = if_some (λ b. c.read_interior.new.page ≡ page_in b c.args.at) (g.P.Pages.told c.args.pages.now) b c.in-Ok.ensures.read e in
    let s = c.in-Ok-enter_leaf.ensures.step b (c.in-Ok.ensures.told ∙ e) in
    (s.0, s.1, goes-down c.args.kind b s.0 c.read_interior.new.page c.args.at c.child_for-child.result c.args.key.now c.in-Ok-enter_leaf.next r c.child_for-child.ensures.way s.2)

pub returns-in-Ok-enter_interior-clause-step : goal.returns-in-Ok-enter_interior-clause-step
returns-in-Ok-enter_interior-clause-step g c b e =
    let r : c.read_interior.new.page ≡ page_in b c.args.at = if_some (λ b. c.read_interior.new.page ≡ page_in b c.args.at) (g.P.Pages.told c.args.pages.now) b c.in-Ok.ensures.read e in
    let s = c.in-Ok-enter_interior.ensures.step b (c.in-Ok.ensures.told ∙ e) in
    (s.0, s.1, goes-down c.args.kind b s.0 c.read_interior.new.page c.args.at c.child_for-child.result c.args.key.now c.in-Ok-enter_interior.next r c.child_for-child.ensures.way s.2)

pub returns-in-Err-enter_leaf-clause-spared : goal.returns-in-Err-enter_leaf-clause-spared
returns-in-Err-enter_leaf-clause-spared g c b reached t fs d e tree level last way room =
    let r : c.read_interior.new.page ≡ page_in b c.args.at = if_some (λ b. c.read_interior.new.page ≡ page_in b c.args.at) (g.P.Pages.told c.args.pages.now) b c.in-Ok.ensures.read e in
    c.in-Err-enter_leaf.ensures.spared b reached t fs (suc d) (c.in-Ok.ensures.told ∙ e) tree (last.0 c.if-to_leaf.true)
    (way-on c.args.kind b c.read_interior.new.page c.args.at c.child_for-child.result c.args.key.now r c.child_for-child.ensures.way reached t fs d tree.holds level way) (subst (λ (p : List ℕ). IsRoomy p) (sym r) room)

pub returns-in-Err-enter_interior-clause-spared : goal.returns-in-Err-enter_interior-clause-spared
returns-in-Err-enter_interior-clause-spared g c b reached t fs d e tree level last way room =
    let r : c.read_interior.new.page ≡ page_in b c.args.at = if_some (λ b. c.read_interior.new.page ≡ page_in b c.args.at) (g.P.Pages.told c.args.pages.now) b c.in-Ok.ensures.read e in
    c.in-Err-enter_interior.ensures.spared b reached t fs (suc d) (c.in-Ok.ensures.told ∙ e) tree (more-below c.args.to_leaf d _ c.if-to_leaf.false level last.1)
    (way-on c.args.kind b c.read_interior.new.page c.args.at c.child_for-child.result c.args.key.now r c.child_for-child.ensures.way reached t fs d tree.holds level way) (subst (λ (p : List ℕ). IsRoomy p) (sym r) room)
