use Rattle.std.proofs.Common.{◌∙◌, ap, subst, IfOk, IfErr}
use Rattle.bfs_disk.specs.State.{Filled}
use Rattle.std.specs.Option.{IfSome}
use Rattle.bfs_super.specs.declared.sup.Super.{Super}
use Rattle.bfs_super.specs.Conditions.{natural}
use Rattle.bfs_log.specs.Replay.{block_sectors}
use Rattle.bfs_stream.specs.Told.{contents}
use Rattle.bfs_sound.specs.Whole.{volume_of}
use Rattle.bfs_device.specs.Plain.{plain}
use Rattle.bfs_passes.specs.Passed.{IsPassed, IsFaultOf}
use Rattle.bfs_check.proofs.Lending.{told_of, passed_ok, passed_err}
use Rattle.bfs_check.proofs.checking.pass.Goals as goal

pub returns-clause-passed : goal.returns-clause-passed
returns-clause-passed g c = λ image reads same valid.
    let e = c.over-blocks.ensures in
    let s = c.args.sup.now in
    let result = c.check_passes-result.result in
    let filled = subst (λ o. IfSome o Filled) reads.1 (g.met.D.Disk.filled c.args.disk.now) in
    let told = told_of _ _ _ s reads.0 (ap g.D.Disk.state e.disk_now ∙ reads.1) e.size e.blocks in
    passed_ok image valid reads.0 filled reads.2 c.image_is_carried.ensures result
    (subst (λ (t : Super). IfOk result (IsPassed t (volume_of t (contents (plain (block_sectors t) (natural t.num_blocks) reads.0))))) same
    (c.check_passes-result.ensures.passed (plain (block_sectors s) (natural s.num_blocks) reads.0) told))

pub returns-clause-wrong : goal.returns-clause-wrong
returns-clause-wrong g c = λ image reads same valid.
    let e = c.over-blocks.ensures in
    let s = c.args.sup.now in
    let result = c.check_passes-result.result in
    let filled = subst (λ o. IfSome o Filled) reads.1 (g.met.D.Disk.filled c.args.disk.now) in
    let told = told_of _ _ _ s reads.0 (ap g.D.Disk.state e.disk_now ∙ reads.1) e.size e.blocks in
    passed_err image valid reads.0 filled reads.2 result
    (subst (λ (t : Super). IfErr result (IsFaultOf t (volume_of t (contents (plain (block_sectors t) (natural t.num_blocks) reads.0))))) same
    (c.check_passes-result.ensures.wrong (plain (block_sectors s) (natural s.num_blocks) reads.0) told))

pub over-blocks-requires-clause-kept : goal.over-blocks-requires-clause-kept
over-blocks-requires-clause-kept g c = c.new-windows.ensures (g.D.Disk.state c.args.disk.now)
