use Rattle.std.proofs.Common.{◌≡◌, ap, sym, ◌∙◌, subst, rules, w64, to_z, of_z}
use Rattle.bfs_node.specs.Page.{rows_of, links_of}
use Rattle.bfs_pages.specs.Answers.{IsChild}
use Rattle.bfs_pages.specs.Trees.{place_of}
use Rattle.bfs_pages.proofs.Sorted.{pick-first, link-is}
use Rattle.bfs_pages.proofs.look.child_for.Goals as goal

pub returns-clause-child : goal.returns-clause-child
returns-clause-child c size page =
    let signed : to_z w64 (of_z w64 c.child_link.result) ≡ c.child_link.result = search rules in
    subst (λ p. IsChild size p) (sym (c.place.ensures ∙ ap place_of (signed ∙ c.child_link.ensures)))
    (link-is (λ z. IsChild size (place_of z)) (rows_of c.args.page.now) (links_of c.args.page.now).overflow c.place_for.result page.children page.last)

pub returns-clause-way : goal.returns-clause-way
returns-clause-way c up =
    let signed : to_z w64 (of_z w64 c.child_link.result) ≡ c.child_link.result = search rules in
    pick-first c.args.kind (rows_of c.args.page.now) (links_of c.args.page.now).overflow c.args.key.now c.place_for.result (c.place_for.ensures.first up)
    ∙ sym (c.place.ensures ∙ ap place_of (signed ∙ c.child_link.ensures))
