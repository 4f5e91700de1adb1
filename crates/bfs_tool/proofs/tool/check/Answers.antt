use Rattle.std.proofs.Common.{inl, inr, ⊎_elim, arith}
use Rattle.bfs_tool.proofs.Checks.{left_done, left_some, left_seven, at_seven, refusing_of, failed_of, never_strange}
use Rattle.bfs_tool.proofs.tool.check.Goals as goal

pub returns-clause-ends : goal.returns-clause-ends
returns-clause-ends g c =
    let e = c.check_volume-checking.ensures in
    ⊎_elim (λ none. inl none.0) (λ r. inr (c.check_volume-checking.result, r.0, r.1, e.by, r.2, e.ends)) c.print_checking.ensures.ends

pub returns-clause-refused : goal.returns-clause-refused
returns-clause-refused g c = λ three.
    let e = c.check_volume-checking.ensures in
    ⊎_elim (λ none. let seven = none.0 in absurd (omega (arith, seven, three))) (λ r. e.refused (refusing_of c.check_volume-checking.result c.print_checking.result r.0 three)) c.print_checking.ensures.ends

pub returns-clause-disk_failed : goal.returns-clause-disk_failed
returns-clause-disk_failed g c = λ four.
    let e = c.check_volume-checking.ensures in
    ⊎_elim (λ none. let seven = none.0 in absurd (omega (arith, seven, four))) (λ r. e.failed (failed_of c.check_volume-checking.result c.print_checking.result r.0 four)) c.print_checking.ensures.ends

pub returns-clause-others : goal.returns-clause-others
returns-clause-others g c = λ other.
    never_strange c.check_volume-checking.result c.print_checking.result (⊎_elim (λ none. inl none.0) (λ r. inr r.0) c.print_checking.ensures.ends)
    (⊎_elim (λ two. inl two) (λ rest. inr (inr rest)) other)

pub returns-clause-script : goal.returns-clause-script
returns-clause-script g c = λ five.
    never_strange c.check_volume-checking.result c.print_checking.result (⊎_elim (λ none. inl none.0) (λ r. inr r.0) c.print_checking.ensures.ends) (inr (inl five))

pub returns-clause-replayed : goal.returns-clause-replayed
returns-clause-replayed g c = λ quiet image reads done.
    let checking = c.check_volume-checking.result in
    let left = c.check_volume-checking.ensures.left quiet image reads in
    ⊎_elim (λ none. absurd (at_seven c.print_checking.result done none.0)) (λ r. left_done quiet image _ _ checking c.print_checking.result r.0 done left) c.print_checking.ensures.ends

pub returns-clause-unfinished : goal.returns-clause-unfinished
returns-clause-unfinished g c = λ quiet image reads seven.
    let checking = c.check_volume-checking.result in
    let left = c.check_volume-checking.ensures.left quiet image reads in
    ⊎_elim (λ none. left_some quiet image _ _ checking none.1 left) (λ r. left_seven quiet image _ _ checking c.print_checking.result r.0 seven left) c.print_checking.ensures.ends
