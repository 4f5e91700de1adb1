use Rattle.std.proofs.Common.{rules, ◌≡◌, ◌∙◌, ℕ, ℤ, List, length, sym, subst, w64, to_z, of_z}
use Rattle.bfs_node.specs.Page.{rows_of, row_in, value_of}
use Rattle.bfs_pages.specs.Trees.{page_in}
use Rattle.bfs_pages.proofs.OfKind.{if_some}
use Rattle.bfs_values.specs.Kinds.{IsValueOf}
use Rattle.bfs_values.proofs.Lasting.{none-cut}
use Rattle.bfs_index.proofs.Outcomes.{value_of_leaf}
use Rattle.bfs_index.proofs.Pairing.{InLeaf, in_leaf, off_leaf, whole_stored, absent_without}
use Rattle.bfs_index.proofs.taking.take_in.Goals as goal

pub returns-in-Err-clause-taken : goal.returns-in-Err-clause-taken
returns-in-Err-clause-taken g c b told d = c.in-Err.ensures.leaf b d.reached d.shape d.free told d.tree

pub take_from-requires-clause-value : goal.take_from-requires-clause-value
take_from-requires-clause-value g c =
    let signed : to_z w64 (of_z w64 c.row_value-value.result) ≡ c.row_value-value.result = search rules in
    none-cut (λ b. IsValueOf c.args.kind b c.in-Ok.leaf (to_z w64 (of_z w64 c.row_value-value.result))) (g.P.Pages.told c.leaf_for.new.pages)
    (λ b e.
    let old = sym c.in-Ok.ensures.told ∙ e in
    value_of_leaf c.args.kind b (g.P.Pages.size c.args.pages.now) c.in-Ok.leaf c.leaf_for.new.page c.in-Ok-search.i (to_z w64 (of_z w64 c.row_value-value.result))
    (if_some (λ (b : List ℕ). length b ≡ g.P.Pages.size c.args.pages.now) (g.P.Pages.told c.args.pages.now) b (g.met.P.Pages.sized c.args.pages.now) old)
    (if_some (λ (b : List ℕ). c.leaf_for.new.page ≡ page_in b c.in-Ok.leaf) (g.P.Pages.told c.args.pages.now) b c.in-Ok.ensures.read old)
    c.in-Ok.ensures.fields c.in-Ok-search.ensures.inside (signed ∙ c.row_value-value.ensures))

pub returns-in-Ok-search-clause-taken : goal.returns-in-Ok-search-clause-taken
returns-in-Ok-search-clause-taken g c b told d =
    let page = c.leaf_for.new.page in
    let signed : to_z w64 (of_z w64 c.row_value-value.result) ≡ c.row_value-value.result = search rules in
    let same : value_of (row_in (rows_of page) c.in-Ok-search.i) ≡ to_z w64 (of_z w64 c.row_value-value.result) = sym (signed ∙ c.row_value-value.ensures) in
    let l = c.in-Ok.ensures.leaf b d.reached d.shape d.free told d.tree in
    let n : InLeaf c.args.kind b d.shape c.args.key.now c.in-Ok.leaf (to_z w64 (of_z w64 c.row_value-value.result)) =
    subst (λ (z : ℤ). InLeaf c.args.kind b d.shape c.args.key.now c.in-Ok.leaf z) same (in_leaf c.args.kind b d c.args.key.now c.in-Ok.leaf page c.in-Ok-search.i l c.in-Ok-search.ensures.place) in
    c.take_from.ensures.taken b d.shape n.front n.back (c.in-Ok.ensures.told ∙ told) (whole_stored c.args.kind b d _ n.rows_are) n.rows_are n.met n.has

pub returns-in-Err-search-clause-taken : goal.returns-in-Err-search-clause-taken
returns-in-Err-search-clause-taken g c b told d =
    let l = c.in-Ok.ensures.leaf b d.reached d.shape d.free told d.tree in
    (b, c.in-Ok.ensures.told ∙ told, absent_without c.args.kind b c.args.key.now c.args.id d (off_leaf c.args.kind b d c.args.key.now c.in-Ok.leaf c.leaf_for.new.page c.in-Err-search.field-0 l c.in-Err-search.ensures.place))
