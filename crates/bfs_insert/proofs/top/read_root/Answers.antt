use Rattle.std.proofs.Common.{◌≡◌, [], ap, sym, ◌∙◌, arith, rules, w64, to_z, of_z}
use Rattle.bfs_node.specs.declared.fault.PageKind.TheVariants.{Interior, Leaf}
use Rattle.bfs_node.specs.declared.header.Header.{Header}
use Rattle.bfs_pages.specs.Trees.{header_in, place_of}
use Rattle.bfs_pages.proofs.Faulted.{of-pages, pages-spared}
use Rattle.bfs_pages.proofs.OfKind.{inner-page, leaf-page}
use Rattle.bfs_insert.proofs.top.read_root.Goals as goal

pub returns-in-Err-clause-spared : goal.returns-in-Err-clause-spared
returns-in-Err-clause-spared g c b reached t fs e h tree =
    let signed : to_z w64 (of_z w64 c.args.header.root_pointer) ≡ c.args.header.root_pointer = search rules in
    let at : c.place-at.result ≡ place_of (header_in b).root_pointer = c.place-at.ensures ∙ ap place_of signed ∙ ap (λ (z : Header). place_of z.root_pointer) h in
    let n : c.args.header.levels ≡ (header_in b).levels = ap (λ (z : Header). z.levels) h in
    pages-spared (g.P.Pages.told c.read_leaf.new.pages) c.in-Err.fault
    (of-pages c.args.kind (g.P.Pages.told c.read_leaf.new.pages) (g.P.Pages.is_cause c.args.pages.now c.read_leaf.new.pages) b c.place-at.result Leaf c.in-Err.fault
    c.in-Err.ensures.refused c.in-Err.ensures.at (c.in-Err.ensures.told ∙ e)
    (leaf-page c.args.kind b reached t fs 0 [] c.place-at.result tree.holds (omega (arith, n, c.if-header-eq1.true)) (tree.holds.built.root ∙ sym at)).0)

pub returns-in-Err-read_interior-clause-spared : goal.returns-in-Err-read_interior-clause-spared
returns-in-Err-read_interior-clause-spared g c b reached t fs e h tree =
    let signed : to_z w64 (of_z w64 c.args.header.root_pointer) ≡ c.args.header.root_pointer = search rules in
    let at : c.place-at.result ≡ place_of (header_in b).root_pointer = c.place-at.ensures ∙ ap place_of signed ∙ ap (λ (z : Header). place_of z.root_pointer) h in
    let n : c.args.header.levels ≡ (header_in b).levels = ap (λ (z : Header). z.levels) h in
    pages-spared (g.P.Pages.told c.read_interior.new.pages) c.in-Err-read_interior.fault
    (of-pages c.args.kind (g.P.Pages.told c.read_interior.new.pages) (g.P.Pages.is_cause c.args.pages.now c.read_interior.new.pages) b c.place-at.result Interior c.in-Err-read_interior.fault
    c.in-Err-read_interior.ensures.refused c.in-Err-read_interior.ensures.at (c.in-Err-read_interior.ensures.told ∙ e)
    (inner-page c.args.kind b reached t fs 0 [] c.place-at.result tree.holds (omega (arith, n, c.if-header-eq1.false, c.requires.header.tree.levels)) (tree.holds.built.root ∙ sym at)).0)
