use Rattle.std.proofs.Common.{rules, ◌≡◌, ◌≤◌, ◌<◌, ◌∙◌, List, length, get_or, true, ap, sym, subst, arith, w64, to_z, of_z}
use Rattle.std.specs.List.{AllByRecursion}
use Rattle.std.proofs.lemmas.List.{take_all}
use Rattle.bfs_sound.specs.Inodes.{is_proper}
use Rattle.bfs_names_walk.specs.Rows.{as_rows}
use Rattle.bfs_names_walk.specs.declared.row.NameRow.{NameRow}
use Rattle.bfs_node_walk.specs.Listed.{proper, NamesBlock}
use Rattle.bfs_node_walk.proofs.Scanned.{next_inside, outside_here}
use Rattle.bfs_node_walk.proofs.row.check_rows.Goals as goal

pub returns-in-Err-clause-outside : goal.returns-in-Err-clause-outside
returns-in-Err-clause-outside c =
    let r : NameRow = c.index-rows-i.result in
    let item : r ≡ get_or c.args.rows.now c.loop-i.i r = search rules in
    let inside : c.loop-i.i < length c.args.rows.now = c.loop-i-test.true in
    let o = c.in-Err.ensures.outside in
    let signed : to_z w64 (of_z w64 c.in-Err.value) ≡ c.in-Err.value = search rules in
    outside_here c.args.blocks c.args.rows.now c.loop-i.i r _ inside (ap (λ (x : NameRow). is_proper x.name) (sym item) ∙ o.0) (signed ∙ o.1 ∙ ap (λ (x : NameRow). x.value) item) (λ k e. o.2 k (ap (λ (x : NameRow). x.value) item ∙ e))

pub loop-i-preserved : goal.loop-i-preserved
loop-i-preserved c =
    let r : NameRow = c.index-rows-i.result in
    let item : r ≡ get_or c.args.rows.now c.loop-i.i r = search rules in
    let inside : c.loop-i.i < length c.args.rows.now = c.loop-i-test.true in
    next_inside c.args.blocks c.args.rows.now c.loop-i.i r inside c.loop-i.invariant (subst (λ (x : NameRow). is_proper x.name ≡ true → NamesBlock c.args.blocks (x.name, x.value)) item c.in-Ok.ensures.inside)

pub returns-clause-inside : goal.returns-clause-inside
returns-clause-inside c =
    let behind : length c.args.rows.now ≤ c.loop-i.i = omega arith in
    subst (λ (l : List NameRow). AllByRecursion (NamesBlock c.args.blocks) (proper (as_rows l))) (take_all c.loop-i.i c.args.rows.now behind) c.loop-i.invariant
