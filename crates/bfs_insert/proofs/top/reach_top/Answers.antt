use Rattle.std.proofs.Common.{◌≡◌, refl, ◌∙◌}
use Rattle.bfs_node.specs.declared.fault.PageKind.TheVariants.{Header as HeaderKind}
use Rattle.bfs_pages.specs.Trees.{header_in}
use Rattle.bfs_pages.proofs.Faulted.{of-pages, pages-spared, tree-header}
use Rattle.bfs_pages.proofs.OfKind.{if_some}
use Rattle.bfs_insert.proofs.top.reach_top.Goals as goal

pub returns-in-Err-clause-spared : goal.returns-in-Err-clause-spared
returns-in-Err-clause-spared g c b reached t fs e tree =
    pages-spared (g.P.Pages.told c.read_header.new.pages) c.in-Err.fault
    (of-pages c.args.kind (g.P.Pages.told c.read_header.new.pages) (g.P.Pages.is_cause c.args.pages.now c.read_header.new.pages) b 0 HeaderKind c.in-Err.fault
    c.in-Err.ensures.refused c.in-Err.ensures.at (c.in-Err.ensures.told ∙ e) (refl, tree-header c.args.kind b reached t fs tree))

pub returns-in-Err-read_root-clause-spared : goal.returns-in-Err-read_root-clause-spared
returns-in-Err-read_root-clause-spared g c b reached t fs e tree =
    c.in-Err-read_root.ensures.spared b reached t fs (c.in-Ok.ensures.told ∙ e) (if_some (λ b. c.in-Ok.header ≡ header_in b) (g.P.Pages.told c.args.pages.now) b c.in-Ok.ensures.header e) tree

pub returns-in-Err-add_root-clause-spared : goal.returns-in-Err-add_root-clause-spared
returns-in-Err-add_root-clause-spared g c b reached t fs e tree =
    c.in-Err-add_root.ensures.spared b reached t fs (c.in-Ok-read_root.ensures.told ∙ c.in-Ok.ensures.told ∙ e) tree
