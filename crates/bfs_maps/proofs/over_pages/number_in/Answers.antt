use Rattle.std.proofs.Common.{rules, ◌≡◌, ◌∙◌, Some, ap, sym, subst, w64, to_z, of_z}
use Rattle.bfs_node.specs.Page.{rows_of, row_in, value_of}
use Rattle.bfs_values.specs.Links.{link_in}
use Rattle.bfs_node.specs.declared.fault.PageKind.TheVariants.{Leaf}
use Rattle.std.specs.Prelude.{IfSome}
use Rattle.bfs_maps.specs.NumberTrees.{IsNumber}
use Rattle.bfs_maps.specs.Refused.{IsNumberPage}
use Rattle.bfs_maps.proofs.Looked.{looked_there, looked_absent, number_is, leaf_refused, unlike_for, numberless}
use Rattle.bfs_maps.proofs.over_pages.number_in.Goals as goal

pub returns-in-Err-clause-found : goal.returns-in-Err-clause-found
returns-in-Err-clause-found g c b told d = c.in-Err.ensures.leaf b d.tree.reached d.tree.shape d.tree.free told d.tree.tree

pub returns-in-Some-clause-found : goal.returns-in-Some-clause-found
returns-in-Some-clause-found g c b told d =
    let page = c.leaf_for.new.page in
    let l = c.in-Ok.ensures.leaf b d.tree.reached d.tree.shape d.tree.free told d.tree.tree in
    let there = looked_there c.args.kind b c.args.key.now c.in-Ok.leaf page c.in-Ok-search.i d l c.in-Ok-search.ensures.place in
    let signed : to_z w64 (of_z w64 c.row_value.result) ≡ c.row_value.result = search rules in
    let same : value_of (row_in (rows_of page) c.in-Ok-search.i) ≡ to_z w64 (of_z w64 c.row_value.result) = sym (signed ∙ c.row_value.ensures) in
    there.0 ∙ ap Some (number_is (value_of (row_in (rows_of page) c.in-Ok-search.i)) c.in-Some.number there.1 (ap link_in same ∙ c.in-Some.ensures.some))

pub returns-in-None-clause-found : goal.returns-in-None-clause-found
returns-in-None-clause-found g c b told d =
    let page = c.leaf_for.new.page in
    let l = c.in-Ok.ensures.leaf b d.tree.reached d.tree.shape d.tree.free told d.tree.tree in
    let there = looked_there c.args.kind b c.args.key.now c.in-Ok.leaf page c.in-Ok-search.i d l c.in-Ok-search.ensures.place in
    let signed : to_z w64 (of_z w64 c.row_value.result) ≡ c.row_value.result = search rules in
    let same : value_of (row_in (rows_of page) c.in-Ok-search.i) ≡ to_z w64 (of_z w64 c.row_value.result) = sym (signed ∙ c.row_value.ensures) in
    c.plain_number.ensures.none c.in-None.is (subst IsNumber same there.1)

pub returns-in-None-clause-refused : goal.returns-in-None-clause-refused
returns-in-None-clause-refused g c =
    let page = c.leaf_for.new.page in
    let signed : to_z w64 (of_z w64 c.row_value.result) ≡ c.row_value.result = search rules in
    let same : value_of (row_in (rows_of page) c.in-Ok-search.i) ≡ to_z w64 (of_z w64 c.row_value.result) = sym (signed ∙ c.row_value.ensures) in
    subst (λ o. IfSome o (λ bytes. ¬ IsNumberPage c.args.kind bytes c.in-Ok.leaf Leaf)) (sym c.in-Ok.ensures.told)
    (leaf_refused c.args.kind (g.P.Pages.told c.args.pages.now) c.in-Ok.leaf page c.in-Ok-search.i c.in-Ok.ensures.read c.in-Ok-search.ensures.inside (λ x. c.plain_number.ensures.none c.in-None.is (subst IsNumber same x)))

pub returns-in-Err-search-clause-found : goal.returns-in-Err-search-clause-found
returns-in-Err-search-clause-found g c b told d =
    let l = c.in-Ok.ensures.leaf b d.tree.reached d.tree.shape d.tree.free told d.tree.tree in
    looked_absent c.args.kind b c.args.key.now c.in-Ok.leaf c.leaf_for.new.page c.in-Err-search.field-0 d l c.in-Err-search.ensures.place

pub returns-in-Err-clause-broken : goal.returns-in-Err-clause-broken
returns-in-Err-clause-broken g c = unlike_for c.args.kind c.args.key.now (g.P.Pages.size c.leaf_for.new.pages) (g.P.Pages.last c.leaf_for.new.pages) (g.P.Pages.page c.leaf_for.new.pages) c.in-Err.fault c.in-Err.ensures.broken

pub returns-in-None-clause-broken : goal.returns-in-None-clause-broken
returns-in-None-clause-broken g c =
    let page = c.leaf_for.new.page in
    let signed : to_z w64 (of_z w64 c.row_value.result) ≡ c.row_value.result = search rules in
    let same : value_of (row_in (rows_of page) c.in-Ok-search.i) ≡ to_z w64 (of_z w64 c.row_value.result) = sym (signed ∙ c.row_value.ensures) in
    numberless c.args.kind c.args.key.now (g.P.Pages.size c.leaf_for.new.pages) (g.P.Pages.last c.leaf_for.new.pages) c.in-Ok.leaf (g.P.Pages.page c.leaf_for.new.pages) page c.in-Ok-search.i
    c.in-Ok.ensures.last c.in-Ok.ensures.bytes c.in-Ok-search.ensures.inside c.in-Ok-search.ensures.key (λ x. c.plain_number.ensures.none c.in-None.is (subst IsNumber same x))
