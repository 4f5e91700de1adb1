use Rattle.std.proofs.Common.{◌≡◌, ℕ, List, Option, IfSome, sym, ◌∙◌, subst, refl}
use Rattle.bfs_node.specs.declared.fault.PageKind.TheVariants.{Header as HeaderKind}
use Rattle.bfs_pages.specs.Trees.{header_in}
use Rattle.bfs_pages.proofs.Faulted.{tree-header, refused-before, of-pages, pages-spared}
use Rattle.bfs_pages.proofs.OfKind.{if_some}
use Rattle.bfs_pages.proofs.take.take_page.Goals as goal

pub returns-in-Ok-take_new-clause-taken : goal.returns-in-Ok-take_new-clause-taken
returns-in-Ok-take_new-clause-taken g c b e =
    c.in-Ok-take_new.ensures.taken b (c.in-Ok.ensures.told ∙ e) (if_some (λ b. c.in-Ok.header ≡ header_in b) (g.P.Pages.told c.args.pages.now) b c.in-Ok.ensures.header e)

pub returns-in-Ok-take_first-clause-taken : goal.returns-in-Ok-take_first-clause-taken
returns-in-Ok-take_first-clause-taken g c b e =
    c.in-Ok-take_first.ensures.taken b (c.in-Ok.ensures.told ∙ e) (if_some (λ b. c.in-Ok.header ≡ header_in b) (g.P.Pages.told c.args.pages.now) b c.in-Ok.ensures.header e)

pub returns-in-Err-take_first-clause-refused : goal.returns-in-Err-take_first-clause-refused
returns-in-Err-take_first-clause-refused g c =
    refused-before c.args.kind (g.P.Pages.told c.take_first.new.pages) (g.P.Pages.is_cause c.read_header.new.pages c.take_first.new.pages) (g.P.Pages.is_cause c.args.pages.now c.take_first.new.pages) c.in-Err-take_first.fault
    (λ f. g.met.P.Pages.is_cause_before c.args.pages.now c.read_header.new.pages c.take_first.new.pages f c.in-Ok.ensures.goes_on)
    (c.in-Err-take_first.ensures.refused (subst (λ (t : Option (List ℕ)). IfSome t (λ b. c.in-Ok.header ≡ header_in b)) (sym c.in-Ok.ensures.told) c.in-Ok.ensures.header))

pub returns-in-Err-take_first-clause-spared : goal.returns-in-Err-take_first-clause-spared
returns-in-Err-take_first-clause-spared g c b reached t fs e tree =
    c.in-Err-take_first.ensures.spared b reached t fs (c.in-Ok.ensures.told ∙ e) (if_some (λ b. c.in-Ok.header ≡ header_in b) (g.P.Pages.told c.args.pages.now) b c.in-Ok.ensures.header e) tree

pub returns-in-Err-clause-spared : goal.returns-in-Err-clause-spared
returns-in-Err-clause-spared g c b reached t fs e tree =
    pages-spared (g.P.Pages.told c.read_header.new.pages) c.in-Err.fault
    (of-pages c.args.kind (g.P.Pages.told c.read_header.new.pages) (g.P.Pages.is_cause c.args.pages.now c.read_header.new.pages) b 0 HeaderKind c.in-Err.fault
    c.in-Err.ensures.refused c.in-Err.ensures.at (c.in-Err.ensures.told ∙ e) (refl, tree-header c.args.kind b reached t fs tree))
