use Rattle.std.proofs.Common.{◌∙◌, sym}
use Rattle.bfs_stream.specs.Told.{contents}
use Rattle.bfs_sound.specs.Whole.{volume_of}
use Rattle.bfs_passes.proofs.passes.check_passes.Goals as goal

pub returns-in-Err-clause-wrong : goal.returns-in-Err-clause-wrong
returns-in-Err-clause-wrong g c m told = c.in-Err.ensures.wrong (volume_of c.args.sup.now (contents m))

pub returns-in-Err-go_round-clause-wrong : goal.returns-in-Err-go_round-clause-wrong
returns-in-Err-go_round-clause-wrong g c m told = c.in-Err-go_round.ensures.wrong m told (c.in-Ok-claim_system.ensures.claimed (contents m)) c.in-Ok.ensures.emptied

pub hold-requires-clause-gone : goal.hold-requires-clause-gone
hold-requires-clause-gone g c m told = c.in-Ok-go_round.ensures.gone m (sym c.in-Ok-go_round.ensures.told ∙ told) (c.in-Ok-claim_system.ensures.claimed (contents m))

pub returns-in-Ok-hold-clause-passed : goal.returns-in-Ok-hold-clause-passed
returns-in-Ok-hold-clause-passed g c m told = c.in-Ok-hold.ensures.passed m (c.in-Ok-go_round.ensures.told ∙ told) c.in-Ok.ensures.emptied
