use Rattle.bfs_run.proofs.Gone.{unread_at}
use Rattle.bfs_run.proofs.lines.run_next.Goals as goal

pub returns-in-Err-clause-so_far : goal.returns-in-Err-clause-so_far
returns-in-Err-clause-so_far g c = unread_at c.stop_is_spelled.ensures c.args.root c.args.volume.now.space.view.history c.args.script.now c.args.at c.requires.at c.requires.spelled
