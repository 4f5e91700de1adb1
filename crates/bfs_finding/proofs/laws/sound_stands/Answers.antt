use Rattle.bfs_finding.proofs.Passes.{sound_stands}
use Rattle.bfs_finding.proofs.laws.sound_stands.Goals as goal

pub returns : goal.returns
returns c = sound_stands
