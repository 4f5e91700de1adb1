use Rattle.std.proofs.Common.{rules, ◌≡◌, ◌<◌, ◌≤◌, ◌∙◌, ◌∷◌, [], ℤ, List, length, pos, take, sym, subst, arith, w64, to_z, of_z}
use Rattle.std.proofs.lemmas.Bool.{true≢false}
use Rattle.std.proofs.lemmas.List.{take_more, take_all}
use Rattle.bfs_node.specs.Page.{Row, rows_of, row_in, value_of}
use Rattle.bfs_values.specs.Links.{link_in}
use Rattle.bfs_tree_check.proofs.Joined.{all_join}
use Rattle.bfs_tree_walk.specs.Plain.{IsNumber, ArePlain}
use Rattle.bfs_tree_walk.proofs.values.first_other.Goals as goal

pub loop-i-preserved : goal.loop-i-preserved
loop-i-preserved c =
    let rows : List Row = rows_of c.args.page.now in
    let i = c.loop-i.i in
    let inside : i < length rows = let e = c.row_count-count.ensures in let t = c.loop-i-test.true in omega (arith, e, t) in
    let signed : to_z w64 (of_z w64 c.row_value.result) ≡ c.row_value.result = search rules in
    let number : IsNumber (link_in (value_of (row_in rows i))) = subst (λ (z : ℤ). IsNumber (link_in z)) (signed ∙ c.row_value.ensures) (c.is_number-plain.ensures.0 c.if-not-plain.false) in
    subst ArePlain (sym (take_more rows i ([], pos 0) inside)) (all_join (λ (r : Row). IsNumber (link_in (value_of r))) (take i rows) (row_in rows i ∷ []) c.loop-i.invariant (number, tt))

pub returns-then-not-plain-clause-other : goal.returns-then-not-plain-clause-other
returns-then-not-plain-clause-other c = λ inside number.
    let rows : List Row = rows_of c.args.page.now in
    let signed : to_z w64 (of_z w64 c.row_value.result) ≡ c.row_value.result = search rules in
    true≢false (sym (c.is_number-plain.ensures.1 (subst (λ (z : ℤ). IsNumber (link_in z)) (sym (signed ∙ c.row_value.ensures)) number)) ∙ c.if-not-plain.true)

pub returns-clause-plain : goal.returns-clause-plain
returns-clause-plain c =
    let rows : List Row = rows_of c.args.page.now in
    let behind : length rows ≤ c.loop-i.i = let e = c.row_count-count.ensures in let t = c.loop-i-test.false in omega (arith, e, t) in
    let all : length rows ≤ c.row_count-count.result = let e = c.row_count-count.ensures in omega (arith, e) in
    subst ArePlain (take_all c.loop-i.i rows behind ∙ sym (take_all c.row_count-count.result rows all)) c.loop-i.invariant
