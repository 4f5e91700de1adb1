use Rattle.std.proofs.Common.{◌≡◌, get_or, true, false, arith}
use Rattle.bfs_pages.proofs.UpTo.{up_to_next}
use Rattle.bfs_tree_check.proofs.Marking.{all_marked, one_unmarked}
use Rattle.bfs_tree_check.proofs.marks.first_unmarked.Goals as goal

pub loop-i-preserved : goal.loop-i-preserved
loop-i-preserved c = up_to_next (λ j. get_or c.args.marks.now j false ≡ true) c.loop-i.i c.loop-i.invariant c.if-not-marks-i.false

pub returns-then-not-marks-i-clause-some : goal.returns-then-not-marks-i-clause-some
returns-then-not-marks-i-clause-some c e = one_unmarked c.args.size c.loop-i.i c.args.marks.now c.requires.whole c.requires.length c.loop-i-test.true c.if-not-marks-i.true

pub returns-clause-none : goal.returns-clause-none
returns-clause-none c e = all_marked c.args.size c.args.marks.now c.requires.whole c.requires.length (λ j h. c.loop-i.invariant j (omega (arith, h, c.loop-i-test.false)))
