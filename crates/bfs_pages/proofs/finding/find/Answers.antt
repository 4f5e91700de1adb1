use Rattle.std.proofs.Common.{◌≡◌, ℕ, List, Some, ap, sym, ◌∙◌, rules, w64, to_z, of_z, ℤ}
use Rattle.bfs_node.specs.Page.{rows_of}
use Rattle.bfs_pages.specs.Maps.{assoc}
use Rattle.bfs_pages.specs.Trees.{page_in}
use Rattle.bfs_pages.proofs.OfKind.{found-in-leaf}
use Rattle.bfs_pages.proofs.finding.find.Goals as goal

pub returns-in-Some-clause-found : goal.returns-in-Some-clause-found
returns-in-Some-clause-found g c b reached t fs e tree =
    let p = found-in-leaf c.args.kind b reached t fs c.args.key.now c.in-Ok.leaf c.leaf_for.new.page tree.holds (c.in-Ok.ensures.leaf b reached t fs e tree) in
    let signed : to_z w64 (of_z w64 c.in-Some.value) ≡ c.in-Some.value = search rules in
    let found : assoc c.args.kind (rows_of c.leaf_for.new.page) c.args.key.now ≡ Some (to_z w64 (of_z w64 c.in-Some.value)) = sym (c.look_up.ensures p.0) ∙ c.in-Some.is ∙ ap (λ (z : ℤ). Some z) (sym signed) in
    let same : assoc c.args.kind (rows_of (page_in b c.in-Ok.leaf)) c.args.key.now ≡ assoc c.args.kind (rows_of c.leaf_for.new.page) c.args.key.now =
    ap (λ (z : List ℕ). assoc c.args.kind (rows_of z) c.args.key.now) (sym (c.in-Ok.ensures.leaf b reached t fs e tree).0) in
    (p.1 ∙ found, p.2, same ∙ found)

pub returns-in-None-clause-found : goal.returns-in-None-clause-found
returns-in-None-clause-found g c b reached t fs e tree =
    let p = found-in-leaf c.args.kind b reached t fs c.args.key.now c.in-Ok.leaf c.leaf_for.new.page tree.holds (c.in-Ok.ensures.leaf b reached t fs e tree) in
    p.1 ∙ sym (c.look_up.ensures p.0) ∙ c.in-None.is
