use Rattle.std.proofs.Common.{◌≡◌, ℕ, List, ◌∙◌, subst}
use Rattle.bfs_pages.specs.Trees.{page_in}
use Rattle.bfs_insert.specs.Divided.{IsRoomy}
use Rattle.bfs_node.specs.declared.fault.PageKind.TheVariants.{Leaf}
use Rattle.bfs_insert.proofs.Descending.{step-stays}
use Rattle.bfs_pages.proofs.Faulted.{of-pages, pages-spared}
use Rattle.bfs_pages.proofs.OfKind.{if_some, leaf-page}
use Rattle.bfs_insert.proofs.descend.enter_leaf.Goals as goal

pub returns-in-Err-clause-spared : goal.returns-in-Err-clause-spared
returns-in-Err-clause-spared g c b reached t fs d e tree level way room =
    pages-spared (g.P.Pages.told c.read_leaf.new.pages) c.in-Err.fault
    (of-pages c.args.kind (g.P.Pages.told c.read_leaf.new.pages) (g.P.Pages.is_cause c.args.pages.now c.read_leaf.new.pages) b c.args.at.1 Leaf c.in-Err.fault
    c.in-Err.ensures.refused c.in-Err.ensures.at (c.in-Err.ensures.told ∙ e) (leaf-page c.args.kind b reached t fs d c.args.key.now c.args.at.1 tree.holds level way).0)

pub returns-then-is_roomy-clause-step : goal.returns-then-is_roomy-clause-step
returns-then-is_roomy-clause-step g c b e =
    let r : c.read_leaf.new.page ≡ page_in b c.args.at.1 = if_some (λ b. c.read_leaf.new.page ≡ page_in b c.args.at.1) (g.P.Pages.told c.args.pages.now) b c.in-Ok.ensures.read e in
    (b, c.in-Ok.ensures.told ∙ e, step-stays c.args.kind b c.args.at.0 c.args.at.1 c.args.key.now (subst (λ (p : List ℕ). IsRoomy p) r (c.is_roomy.ensures.roomy.0 c.if-is_roomy.true)))

pub returns-in-Err-split_leaf-clause-spared : goal.returns-in-Err-split_leaf-clause-spared
returns-in-Err-split_leaf-clause-spared g c b reached t fs d e tree level way room = c.in-Err-split_leaf.ensures.spared b reached t fs d (c.in-Ok.ensures.told ∙ e) tree level way
