use Rattle.std.proofs.Common.{◌∙◌, inl, refl, sym, subst}
use Rattle.bfs_disk.specs.Disk.{HasSectors}
use Rattle.bfs_replay.specs.Steps.{sectors_of}
use Rattle.bfs_finding.specs.Findings.{of_super}
use Rattle.bfs_check.proofs.Reading.{read_moments, clock_later, reads_then, cause_before}
use Rattle.bfs_check.proofs.checking.check.Goals as goal

pub returns-in-Short-clause-moments : goal.returns-in-Short-clause-moments
returns-in-Short-clause-moments g c = read_moments (g.D.Disk.state c.args.disk.now) _ _ _ _ ∣ c.in-Short.ensures.time ∣₁ (g.met.D.Disk.only_now c.args.disk.now)

pub returns-in-Refused-clause-verdict : goal.returns-in-Refused-clause-verdict
returns-in-Refused-clause-verdict g c = λ image reads.
    let found = c.in-Refused.ensures.found image reads in
    inl (of_super found.0 c.in-Refused.fault refl found.1)

pub returns-in-Refused-clause-moments : goal.returns-in-Refused-clause-moments
returns-in-Refused-clause-moments g c = read_moments (g.D.Disk.state c.args.disk.now) _ _ _ _ ∣ c.in-Refused.ensures.time ∣₁ (g.met.D.Disk.only_now c.args.disk.now)

pub returns-in-Failed-clause-moments : goal.returns-in-Failed-clause-moments
returns-in-Failed-clause-moments g c = read_moments (g.D.Disk.state c.args.disk.now) _ _ _ _ ∣ c.in-Failed.ensures.time ∣₁ (g.met.D.Disk.only_now c.args.disk.now)

pub returns-clause-verdict : goal.returns-clause-verdict
returns-clause-verdict g c = λ image reads.
    let found = c.in-Volume.ensures.found image reads in
    let e = c.pass-passed.ensures in
    c.verdict_of.ensures.verdict image found.1
    (e.passed image (reads.0, c.in-Volume.ensures.state ∙ reads.1, reads.2) found.0 found.1)
    (e.wrong image (reads.0, c.in-Volume.ensures.state ∙ reads.1, reads.2) found.0 found.1)

pub returns-clause-fault : goal.returns-clause-fault
returns-clause-fault g c = λ image reads. c.verdict_of.ensures.fault image

pub returns-clause-short : goal.returns-clause-short
returns-clause-short g c = c.verdict_of.ensures.short (g.D.Disk.size c.pass-passed.new.disk)

pub returns-clause-time : goal.returns-clause-time
returns-clause-time g c = reads_then _ _ _ _ _ _ _ _ c.in-Volume.ensures.state c.in-Volume.ensures.time c.pass-passed.ensures.time

pub returns-clause-moments : goal.returns-clause-moments
returns-clause-moments g c =
    read_moments (g.D.Disk.state c.args.disk.now) _ _ _ _ (reads_then _ _ _ _ _ _ _ _ c.in-Volume.ensures.state c.in-Volume.ensures.time c.pass-passed.ensures.time) (g.met.D.Disk.only_now c.args.disk.now)

pub returns-clause-clock : goal.returns-clause-clock
returns-clause-clock g c = clock_later _ _ _ _ _ (reads_then _ _ _ _ _ _ _ _ c.in-Volume.ensures.state c.in-Volume.ensures.time c.pass-passed.ensures.time)

pub returns-clause-cause : goal.returns-clause-cause
returns-clause-cause g c = cause_before _ _ _ c.verdict_of.result c.in-Volume.ensures.later (c.verdict_of.ensures.cause _ _ c.pass-passed.ensures.cause)

pub returns-clause-causes : goal.returns-clause-causes
returns-clause-causes g c =
    let s = c.in-Volume.sup in
    let fits = c.in-Volume.ensures.fits in
    c.verdict_of.ensures.any (g.D.Disk.size c.pass-passed.new.disk) (s, fits.0, subst (λ z. HasSectors z (sectors_of s)) (sym c.pass-passed.ensures.size) fits.1)
