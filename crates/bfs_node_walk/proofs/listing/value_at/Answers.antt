use Rattle.std.proofs.Common.{rules, ◌≡◌, ◌≤◌, ◌<◌, ◌∙◌, List, Some, length, get_or, arith, ap, sym, w64, to_z, of_z}
use Rattle.std.proofs.lemmas.List.{drop_all}
use Rattle.std.proofs.lemmas.Bool.{true≢false}
use Rattle.bfs_base.specs.declared.kind.KeyKind.TheVariants.{Text}
use Rattle.bfs_pages.specs.Maps.{assoc}
use Rattle.bfs_names_walk.specs.Rows.{as_rows}
use Rattle.bfs_names_walk.specs.declared.row.NameRow.{NameRow}
use Rattle.bfs_node_walk.proofs.Scanned.{found_here, found_later}
use Rattle.bfs_node_walk.proofs.listing.value_at.Goals as goal

pub returns-then-here : goal.returns-then-here
returns-then-here c =
    let r : NameRow = c.index-rows-i.result in
    let item : r ≡ get_or c.args.rows.now c.loop-i.i r = search rules in
    let inside : c.loop-i.i < length c.args.rows.now = c.loop-i-test.true in
    let signed : to_z w64 (of_z w64 c.value_of.result) ≡ c.value_of.result = search rules in
    sym (c.loop-i.invariant ∙ found_here c.args.rows.now c.loop-i.i r c.args.name.now inside (ap (λ (x : NameRow). x.name) (sym item) ∙ c.is_named-here.ensures.0 c.if-here.true) ∙ ap (λ (x : NameRow). Some x.value) (sym item) ∙ ap Some (sym (signed ∙ c.value_of.ensures)))

pub loop-i-preserved : goal.loop-i-preserved
loop-i-preserved c =
    let r : NameRow = c.index-rows-i.result in
    let item : r ≡ get_or c.args.rows.now c.loop-i.i r = search rules in
    let inside : c.loop-i.i < length c.args.rows.now = c.loop-i-test.true in
    c.loop-i.invariant ∙ found_later c.args.rows.now c.loop-i.i r c.args.name.now inside (λ e. true≢false (sym (c.is_named-here.ensures.1 (ap (λ (x : NameRow). x.name) item ∙ e)) ∙ c.if-here.false))

pub returns : goal.returns
returns c =
    let behind : length c.args.rows.now ≤ c.loop-i.i = omega arith in
    sym (c.loop-i.invariant ∙ ap (λ (l : List NameRow). assoc Text (as_rows l) c.args.name.now) (drop_all c.loop-i.i c.args.rows.now behind))
