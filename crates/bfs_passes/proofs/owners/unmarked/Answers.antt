use Rattle.bfs_stream.specs.Told.{contents}
use Rattle.bfs_sound.specs.Whole.{volume_of}
use Rattle.bfs_finding.specs.Findings.{IsFindingOf}
use Rattle.bfs_passes.proofs.Sharing.{untaken_shared}
use Rattle.bfs_passes.proofs.owners.unmarked.Goals as goal

pub returns-in-Ok-clause-wrong : goal.returns-in-Ok-clause-wrong
returns-in-Ok-clause-wrong g c m all tree told log gone there unmarked standing indices = IsFindingOf.in_bitmap log tree standing indices (c.in-Ok.ensures.owned m all told gone there, unmarked)

pub returns-in-Err-clause-wrong : goal.returns-in-Err-clause-wrong
returns-in-Err-clause-wrong g c m all tree told log gone there unmarked standing indices =
    let v = volume_of c.args.sup.now (contents m) in
    c.walked.ensures.told c.args.sup.now v log (c.in-Err.ensures.wrong m all told gone) (untaken_shared v c.in-Err.fault c.in-Err.ensures.untaken)

pub returns-in-Err-clause-cause : goal.returns-in-Err-clause-cause
returns-in-Err-clause-cause g c = c.walked.ensures.cause (g.B.Blocks.counts c.args.under.now) (g.B.Blocks.counts c.owner_of.new.under) c.in-Err.ensures.cause
