use Rattle.std.proofs.Common.{rules, ◌≡◌, ◌≤◌, ◌<◌, ◌∙◌, ℤ, List, length, get_or, subst, arith, w64, to_z, of_z}
use Rattle.std.proofs.lemmas.List.{take_all}
use Rattle.bfs_values.specs.Links.{link_in}
use Rattle.bfs_value_walk.specs.Plain.{IsNumber, ArePlain}
use Rattle.bfs_names_walk.specs.Rows.{as_rows}
use Rattle.bfs_names_walk.specs.declared.row.NameRow.{NameRow}
use Rattle.bfs_names_walk.proofs.Gathered.{next_plain}
use Rattle.bfs_names_walk.proofs.plain.are_plain.Goals as goal

pub loop-i-preserved : goal.loop-i-preserved
loop-i-preserved c =
    let r : NameRow = c.index-rows-i.result in
    let item : r ≡ get_or c.args.rows.now c.loop-i.i r = search rules in
    let inside : c.loop-i.i < length c.args.rows.now = c.loop-i-test.true in
    let signed : to_z w64 (of_z w64 c.value_of.result) ≡ c.value_of.result = search rules in
    next_plain c.args.rows.now c.loop-i.i r inside c.loop-i.invariant
    (subst (λ (x : NameRow). IsNumber (link_in x.value)) item (subst (λ (z : ℤ). IsNumber (link_in z)) (signed ∙ c.value_of.ensures) (c.is_number-plain.ensures c.if-not-plain.false)))

pub returns : goal.returns
returns c = λ t.
    let behind : length c.args.rows.now ≤ c.loop-i.i = omega arith in
    subst (λ (l : List NameRow). ArePlain (as_rows l)) (take_all c.loop-i.i c.args.rows.now behind) c.loop-i.invariant
