use Rattle.bfs_run.proofs.Gone.{gone_none}
use Rattle.bfs_run.proofs.line.turn.Goals as goal

pub returns-in-Ok-false-clause-gone : goal.returns-in-Ok-false-clause-gone
returns-in-Ok-false-clause-gone g c = gone_none c.args.line.now c.args.calls.now c.args.volume.now.space.view.history c.ask.new.volume.space.view.history (c.in-Ok-false.ensures.idle c.in-Ok-false.field-0-test)

pub returns-in-Err-ask-clause-gone : goal.returns-in-Err-ask-clause-gone
returns-in-Err-ask-clause-gone g c = gone_none c.args.line.now c.args.calls.now c.args.volume.now.space.view.history c.ask.new.volume.space.view.history c.in-Err-ask.ensures.no_memory
