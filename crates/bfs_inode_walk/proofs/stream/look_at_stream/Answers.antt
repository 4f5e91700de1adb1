use Rattle.std.proofs.Common.{sym, subst}
use Rattle.bfs_stream.specs.Sizes.{Sizes, sizes_of}
use Rattle.bfs_stream.specs.Places.{Levels, levels_at}
use Rattle.bfs_stream.specs.Told.{contents}
use Rattle.bfs_sound.specs.Volumes.{Volume}
use Rattle.bfs_sound.specs.Whole.{volume_of}
use Rattle.bfs_finding.specs.Findings.{IsBroken}
use Rattle.bfs_finding.specs.StreamFaults.{of_levels}
use Rattle.bfs_stream_check.specs.Read.{IsLevelsFault}
use Rattle.bfs_inode_walk.proofs.stream.look_at_stream.Goals as goal

pub returns-in-Err-Wrong-clause-wrong : goal.returns-in-Err-Wrong-clause-wrong
returns-in-Err-Wrong-clause-wrong g c m told streamed =
    let s : Sizes = sizes_of c.args.sup.now in
    let l : Levels = levels_at s (contents m) c.args.id in
    let v : Volume = volume_of c.args.sup.now (contents m) in
    subst (IsBroken v) (sym c.finding_of.ensures)
    (of_levels streamed (subst (IsLevelsFault s l) c.in-Err-Wrong.field-0-is (c.in-Err-Wrong.ensures.wrong m told (c.requires.all m told))))
