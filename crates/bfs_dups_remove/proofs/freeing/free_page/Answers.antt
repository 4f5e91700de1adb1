use Rattle.std.proofs.Common.{◌∙◌, refl}
use Rattle.bfs_node.specs.declared.fault.PageKind.TheVariants.{Header as HeaderKind}
use Rattle.bfs_pages.proofs.Faulted.{of-pages, tree-header}
use Rattle.bfs_dups_remove.proofs.freeing.free_page.Goals as goal

pub returns-in-Err-clause-spared : goal.returns-in-Err-clause-spared
returns-in-Err-clause-spared g c b reached t fs e tree =
    of-pages c.args.kind (g.P.Pages.told c.read_header.new.pages) (g.P.Pages.is_cause c.args.pages.now c.read_header.new.pages) b 0 HeaderKind c.in-Err.fault c.in-Err.ensures.refused c.in-Err.ensures.at (c.in-Err.ensures.told ∙ e) (refl, tree-header c.args.kind b reached t fs tree)
