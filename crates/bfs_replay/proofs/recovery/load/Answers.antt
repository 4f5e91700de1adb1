use Rattle.std.proofs.Common.{◌≡◌, ◌∙◌, length, rules, arith}
use Rattle.bfs_replay.proofs.Loading.{judged}
use Rattle.bfs_replay.proofs.recovery.load.Goals as goal

pub returns-in-Ok-read-clause-found : goal.returns-in-Ok-read-clause-found
returns-in-Ok-read-clause-found g c image reads =
    let disk = c.sectors.new.self in
    let whole : length c.read.new.into ≡ 512 = search rules in
    judged image (g.D.Disk.state disk) (reads.0, (c.in-Ok.ensures.state ∙ reads.1), reads.2) (g.D.Disk.size disk) (g.met.D.Disk.sized disk) c.in-Ok.sectors c.in-Ok.ensures.size
    (omega (arith, c.if-sectors-lt2.false)) c.read.new.into whole c.in-Ok-read.ensures.bytes c.judge.result c.judge.ensures
