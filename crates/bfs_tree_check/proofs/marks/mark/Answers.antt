use Rattle.bfs_tree_check.proofs.Marking.{is_marked, marked_once}
use Rattle.bfs_tree_check.proofs.marks.mark.Goals as goal

pub returns-then-marks-i-clause-twice : goal.returns-then-marks-i-clause-twice
returns-then-marks-i-clause-twice c e = is_marked c.args.size c.args.at c.args.marks.now c.requires.at c.if-marks-i.true

pub returns-clause-once : goal.returns-clause-once
returns-clause-once c e x = marked_once c.args.size c.args.at x c.args.marks.now c.requires.at c.requires.whole c.requires.length c.if-marks-i.false
