use Rattle.std.proofs.Common.{rules, ◌≡◌, ◌∙◌, ℕ, ℤ, List, Some, None, length, sym, ap, subst, w64, to_z, of_z}
use Rattle.bfs_node.specs.Page.{rows_of, row_in, value_of}
use Rattle.bfs_pages.specs.Maps.{assoc}
use Rattle.bfs_pages.specs.Trees.{page_in}
use Rattle.bfs_pages.specs.Ways.{KeysAscend}
use Rattle.bfs_pages.proofs.OfKind.{if_some}
use Rattle.bfs_pages.proofs.Sorted.{by-index, assoc-missed}
use Rattle.bfs_values.specs.Kinds.{IsValueOf}
use Rattle.bfs_values.proofs.Lasting.{none-cut, pages-lacking}
use Rattle.bfs_index.proofs.Outcomes.{value_of_leaf}
use Rattle.bfs_index.proofs.Pairing.{InLeaf, in_leaf, off_leaf, whole_stored}
use Rattle.bfs_index.proofs.Refusing.{lacks_bad}
use Rattle.bfs_index.proofs.adding.add_there.Goals as goal

pub returns-in-Err-clause-added : goal.returns-in-Err-clause-added
returns-in-Err-clause-added g c b value told d there = pages-lacking c.in-Err.fault (c.in-Err.ensures.leaf b d.reached d.shape d.free told d.tree)

pub add_to-requires-clause-value : goal.add_to-requires-clause-value
add_to-requires-clause-value g c =
    let signed : to_z w64 (of_z w64 c.row_value-value.result) ≡ c.row_value-value.result = search rules in
    none-cut (λ b. IsValueOf c.args.kind b c.in-Ok.leaf (to_z w64 (of_z w64 c.row_value-value.result))) (g.P.Pages.told c.leaf_for.new.pages)
    (λ b e.
    let old = sym c.in-Ok.ensures.told ∙ e in
    value_of_leaf c.args.kind b (g.P.Pages.size c.args.pages.now) c.in-Ok.leaf c.leaf_for.new.page c.in-Ok-search.i (to_z w64 (of_z w64 c.row_value-value.result))
    (if_some (λ (b : List ℕ). length b ≡ g.P.Pages.size c.args.pages.now) (g.P.Pages.told c.args.pages.now) b (g.met.P.Pages.sized c.args.pages.now) old)
    (if_some (λ (b : List ℕ). c.leaf_for.new.page ≡ page_in b c.in-Ok.leaf) (g.P.Pages.told c.args.pages.now) b c.in-Ok.ensures.read old)
    c.in-Ok.ensures.fields c.in-Ok-search.ensures.inside (signed ∙ c.row_value-value.ensures))

pub returns-in-Ok-search-clause-added : goal.returns-in-Ok-search-clause-added
returns-in-Ok-search-clause-added g c b value told d there =
    let page = c.leaf_for.new.page in
    let signed : to_z w64 (of_z w64 c.row_value-value.result) ≡ c.row_value-value.result = search rules in
    let same : value_of (row_in (rows_of page) c.in-Ok-search.i) ≡ to_z w64 (of_z w64 c.row_value-value.result) = sym (signed ∙ c.row_value-value.ensures) in
    let l = c.in-Ok.ensures.leaf b d.reached d.shape d.free told d.tree in
    let n : InLeaf c.args.kind b d.shape c.args.key.now c.in-Ok.leaf (to_z w64 (of_z w64 c.row_value-value.result)) =
    subst (λ (z : ℤ). InLeaf c.args.kind b d.shape c.args.key.now c.in-Ok.leaf z) same (in_leaf c.args.kind b d c.args.key.now c.in-Ok.leaf page c.in-Ok-search.i l c.in-Ok-search.ensures.place) in
    c.add_to.ensures.added b d.shape n.front n.back (c.in-Ok.ensures.told ∙ told) (whole_stored c.args.kind b d _ n.rows_are) n.rows_are n.met n.has

pub returns-in-Err-search-clause-added : goal.returns-in-Err-search-clause-added
returns-in-Err-search-clause-added g c b value told d there =
    let l = c.in-Ok.ensures.leaf b d.reached d.shape d.free told d.tree in
    none_some value (sym (off_leaf c.args.kind b d c.args.key.now c.in-Ok.leaf c.leaf_for.new.page c.in-Err-search.field-0 l c.in-Err-search.ensures.place) ∙ there)
  where
    none_some : (v : ℤ) → None ≡ Some v → ⊥
    none_some v e = cc

pub returns-in-Err-search-clause-refused : goal.returns-in-Err-search-clause-refused
returns-in-Err-search-clause-refused g c =
    lacks_bad c.args.kind c.args.key.now (g.P.Pages.told c.leaf_for.new.pages) c.in-Ok.leaf
    (none-cut (λ b. KeysAscend c.args.kind (rows_of (page_in b c.in-Ok.leaf)) → assoc c.args.kind (rows_of (page_in b c.in-Ok.leaf)) c.args.key.now ≡ None) (g.P.Pages.told c.leaf_for.new.pages)
    (λ b e up.
    let r : c.leaf_for.new.page ≡ page_in b c.in-Ok.leaf = if_some (λ (b : List ℕ). c.leaf_for.new.page ≡ page_in b c.in-Ok.leaf) (g.P.Pages.told c.args.pages.now) b c.in-Ok.ensures.read (sym c.in-Ok.ensures.told ∙ e) in
    let mine : KeysAscend c.args.kind (rows_of c.leaf_for.new.page) = subst (λ (z : List ℕ). KeysAscend c.args.kind (rows_of z)) (sym r) up in
    ap (λ (z : List ℕ). assoc c.args.kind (rows_of z) c.args.key.now) (sym r)
    ∙ assoc-missed c.args.kind (rows_of c.leaf_for.new.page) c.args.key.now c.in-Err-search.field-0 (c.in-Err-search.ensures.place (by-index c.args.kind (rows_of c.leaf_for.new.page) mine))))
