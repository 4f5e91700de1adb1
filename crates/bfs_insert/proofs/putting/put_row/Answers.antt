use Rattle.std.proofs.Common.{◌≡◌, ℤ, ◌∙◌, subst, rules, w64, to_z, of_z}
use Rattle.bfs_node.specs.declared.fault.PageKind.TheVariants.{Leaf}
use Rattle.bfs_pages.proofs.Faulted.{of-pages, pages-spared, failed-refused, failed-spared}
use Rattle.bfs_pages.proofs.OfKind.{leaf-page}
use Rattle.bfs_insert.specs.Puts.{IsPut}
use Rattle.bfs_insert.proofs.putting.put_row.Goals as goal

pub returns-in-Err-clause-spared : goal.returns-in-Err-clause-spared
returns-in-Err-clause-spared g c b reached t fs d e tree level way room =
    pages-spared (g.P.Pages.told c.read_leaf.new.pages) c.in-Err.fault
    (of-pages c.args.kind (g.P.Pages.told c.read_leaf.new.pages) (g.P.Pages.is_cause c.args.pages.now c.read_leaf.new.pages) b c.args.at Leaf c.in-Err.fault
    c.in-Err.ensures.refused c.in-Err.ensures.at (c.in-Err.ensures.told ∙ e) (leaf-page c.args.kind b reached t fs d c.args.key.now c.args.at tree.holds level way).0)

pub returns-in-Ok-put_in_leaf-clause-put : goal.returns-in-Ok-put_in_leaf-clause-put
returns-in-Ok-put_in_leaf-clause-put g c b e =
    let p = c.in-Ok-put_in_leaf.ensures.put b (c.in-Ok.ensures.told ∙ e) in
    let signed : to_z w64 (of_z w64 c.args.value) ≡ c.args.value = search rules in
    (p.0, p.1, subst (λ (z : ℤ). IsPut c.args.kind b p.0 c.args.at c.args.key.now z) signed p.2)

pub returns-in-Err-put_in_leaf-clause-refused : goal.returns-in-Err-put_in_leaf-clause-refused
returns-in-Err-put_in_leaf-clause-refused g c =
    failed-refused c.args.kind (g.P.Pages.told c.put_in_leaf.new.pages) (g.P.Pages.is_cause c.read_leaf.new.pages c.put_in_leaf.new.pages) (g.P.Pages.is_cause c.args.pages.now c.put_in_leaf.new.pages) c.in-Err-put_in_leaf.fault
    (λ f. g.met.P.Pages.is_cause_before c.args.pages.now c.read_leaf.new.pages c.put_in_leaf.new.pages f c.in-Ok.ensures.goes_on) c.in-Err-put_in_leaf.ensures.failed

pub returns-in-Err-put_in_leaf-clause-spared : goal.returns-in-Err-put_in_leaf-clause-spared
returns-in-Err-put_in_leaf-clause-spared g c b reached t fs d e tree level way room =
    failed-spared (g.P.Pages.told c.put_in_leaf.new.pages) (g.P.Pages.is_cause c.read_leaf.new.pages c.put_in_leaf.new.pages) c.in-Err-put_in_leaf.fault c.in-Err-put_in_leaf.ensures.failed
