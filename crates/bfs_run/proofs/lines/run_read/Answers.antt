use Rattle.bfs_run.proofs.Gone.{run_at, stopped_at}
use Rattle.bfs_run.proofs.lines.run_read.Goals as goal

pub returns-in-Ok-clause-spelled : goal.returns-in-Ok-clause-spelled
returns-in-Ok-clause-spelled g c = run_at c.line_is_spelled.ensures c.args.root c.args.volume.now.space.view.history c.run_line.new.volume.space.view.history c.args.script.now c.args.at c.args.line.now c.requires.item c.requires.spelled c.in-Ok.ensures.done

pub returns-in-Err-clause-so_far : goal.returns-in-Err-clause-so_far
returns-in-Err-clause-so_far g c = stopped_at c.stop_is_spelled.ensures c.args.root c.args.volume.now.space.view.history c.run_line.new.volume.space.view.history c.args.script.now c.args.at c.args.line.now c.requires.item c.requires.spelled c.in-Err.ensures.begun
