use Rattle.std.proofs.Common.{◌∙◌, false}
use Rattle.bfs_disk.specs.State.{ReadsAs, Tells}
use Rattle.bfs_replay.specs.Recover.{GoesOn}
use Rattle.bfs_replay.proofs.Homes.{reads_of}
use Rattle.bfs_run.proofs.Reading.{cause_before}
use Rattle.bfs_tool.proofs.Checks.{same_state, no_short, not_short, read_since}
use Rattle.bfs_tool.proofs.checking.check_volume.Goals as goal

pub returns-in-Err-clause-ends : goal.returns-in-Err-clause-ends
returns-in-Err-clause-ends g c = λ image reads. c.unreplayed.ensures.ends image (c.in-Err.ensures.fault image reads)

pub returns-in-Err-clause-failed : goal.returns-in-Err-clause-failed
returns-in-Err-clause-failed g c = c.unreplayed.ensures.failed _ _ c.in-Err.ensures.cause

pub returns-in-Err-clause-by : goal.returns-in-Err-clause-by
returns-in-Err-clause-by g c = c.unreplayed.ensures.by _ c.in-Err.ensures.by

pub returns-in-Err-clause-left : goal.returns-in-Err-clause-left
returns-in-Err-clause-left g c = λ quiet image reads.
    c.unreplayed.ensures.left quiet image _ _ (c.in-Err.ensures.kept image (reads.0, reads.1, reads_of quiet image reads.0 reads.2))

pub returns-in-Err-clause-refused : goal.returns-in-Err-clause-refused
returns-in-Err-clause-refused g c = λ refusing.
    same_state _ _ (g.met.D.Disk.filled c.args.disk.now) c.in-Err.ensures.silent (λ image reads. c.in-Err.ensures.kept image reads (c.unreplayed.ensures.refused refusing))

pub returns-in-Err-clause-moments : goal.returns-in-Err-clause-moments
returns-in-Err-clause-moments g c = λ image held i left. ∣ c.in-Err.ensures.moments image held i left ∣₁

pub returns-clause-ends : goal.returns-clause-ends
returns-clause-ends g c = λ image reads.
    let mid = c.recover.new.disk in
    let sound = c.in-Ok.ensures.sound in
    let done = c.in-Ok.ensures.recovered false image reads in
    let never = no_short (g.D.Disk.state mid) (g.D.Disk.size mid) _ done.0 done.2 (g.met.D.Disk.sized mid) done.3 sound.0 sound.2 in
    c.checked.ensures.ends image done.0 done.1 (not_short done.0 c.check-verdict.result never (c.check-verdict.ensures.fault done.0 done.2)) (c.check-verdict.ensures.verdict done.0 done.2)

pub returns-clause-failed : goal.returns-clause-failed
returns-clause-failed g c = c.checked.ensures.failed _ _ (cause_before _ _ _ c.check-verdict.result c.in-Ok.ensures.later c.check-verdict.ensures.cause)

pub returns-clause-by : goal.returns-clause-by
returns-clause-by g c = c.checked.ensures.by _ c.check-verdict.ensures.causes c.check-verdict.ensures.short

pub returns-clause-left : goal.returns-clause-left
returns-clause-left g c = λ quiet image reads.
    let mid = c.recover.new.disk in
    let sound = c.in-Ok.ensures.sound in
    let done = c.in-Ok.ensures.recovered quiet image reads in
    let plain : Tells (g.D.Disk.state mid) (λ x. ReadsAs x done.0) = (done.2.0, done.2.1, reads_of quiet done.0 done.2.0 done.2.2) in
    let never = no_short (g.D.Disk.state mid) (g.D.Disk.size mid) _ done.0 plain (g.met.D.Disk.sized mid) done.3 sound.0 sound.2 in
    c.checked.ensures.left quiet image _ _ (not_short done.0 c.check-verdict.result never (c.check-verdict.ensures.fault done.0 plain))
    (done.0, done.1, (done.2.0, c.check-verdict.ensures.state ∙ done.2.1, done.2.2))

pub returns-clause-refused : goal.returns-clause-refused
returns-clause-refused g c = λ refusing.
    let mid = c.recover.new.disk in
    let sound = c.in-Ok.ensures.sound in
    same_state _ _ (g.met.D.Disk.filled c.args.disk.now) (λ none. c.check-verdict.ensures.state ∙ c.in-Ok.ensures.silent none)
    (λ image reads.
    let done = c.in-Ok.ensures.recovered false image reads in
    let never = no_short (g.D.Disk.state mid) (g.D.Disk.size mid) _ done.0 done.2 (g.met.D.Disk.sized mid) done.3 sound.0 sound.2 in
    absurd (c.checked.ensures.refused refusing (not_short done.0 c.check-verdict.result never (c.check-verdict.ensures.fault done.0 done.2))))

pub returns-clause-moments : goal.returns-clause-moments
returns-clause-moments g c = λ image held i left.
    let mid = c.recover.new.disk in
    let start = g.D.Disk.clock c.args.disk.now in
    read_since (g.D.Disk.state mid) start _ _ _ _ (GoesOn image) c.check-verdict.ensures.time c.in-Ok.ensures.clock
    (λ k may. g.met.D.Disk.counts_now mid start k c.in-Ok.ensures.clock may) (λ k was. c.in-Ok.ensures.moments image held k was) i left
