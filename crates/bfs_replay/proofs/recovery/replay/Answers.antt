use Rattle.std.proofs.Common.{◌≡◌, ◌≢◌, ◌∙◌, rules, inl, sym, ap, subst}
use Rattle.bfs_base.proofs.Moments.{passed_none, passed_then}
use Rattle.bfs_disk.specs.State.{Tells, Holds}
use Rattle.bfs_super.specs.declared.sup.Super.{Super}
use Rattle.bfs_super.specs.Conditions.{natural}
use Rattle.bfs_log.specs.Replay.{log_from, log_to}
use Rattle.bfs_log.proofs.Replays.{replayed_empty}
use Rattle.bfs_replay.specs.Recover.{GoesOn, EndsIn}
use Rattle.bfs_replay.proofs.Homes.{reads_of}
use Rattle.bfs_replay.proofs.Recovering.{held_image}
use Rattle.bfs_replay.proofs.recovery.replay.Goals as goal

pub returns-in-Short-clause-ends : goal.returns-in-Short-clause-ends
returns-in-Short-clause-ends g c quiet image reads = (c.in-Short.ensures.found image (reads.0, reads.1, reads_of quiet image reads.0 reads.2), c.in-Short.ensures.state)

pub returns-in-Refused-clause-ends : goal.returns-in-Refused-clause-ends
returns-in-Refused-clause-ends g c quiet image reads =
    let found = c.in-Refused.ensures.found image (reads.0, reads.1, reads_of quiet image reads.0 reads.2) in
    (found.0, found.1, c.in-Refused.ensures.state)

pub returns-then-sup-clause-ends : goal.returns-then-sup-clause-ends
returns-then-sup-clause-ends g c =
    let same : c.in-Volume.sup.log_start ≡ c.in-Volume.sup.log_end = search rules in
    λ quiet image reads.
    let found = c.in-Volume.ensures.found image (reads.0, reads.1, reads_of quiet image reads.0 reads.2) in
    (image, replayed_empty image found.1 (subst (λ (t : Super). log_from t ≡ log_to t) found.0 (ap natural same)), (reads.0, (c.in-Volume.ensures.state ∙ reads.1), reads.2), found.0)

pub returns-clause-ends : goal.returns-clause-ends
returns-clause-ends g c quiet image reads =
    let found = c.in-Volume.ensures.found image (reads.0, reads.1, reads_of quiet image reads.0 reads.2) in
    subst (λ o. EndsIn quiet image o (g.D.Disk.state c.replay_log.new.disk) c.replay_log.result) c.in-Volume.ensures.state
    (c.replay_log.ensures.ends quiet image (sym found.0) found.1 (reads.0, (c.in-Volume.ensures.state ∙ reads.1), reads.2))

pub returns-clause-time : goal.returns-clause-time
returns-clause-time g c image held =
    let R = GoesOn image in
    let disk = c.args.disk.now in
    let found = c.in-Volume.ensures.found image (held.0, held.1, held.2.reads) in
    let mid : Tells (g.D.Disk.state c.load.new.disk) (Holds image) = (held.0, (c.in-Volume.ensures.state ∙ held.1), held.2) in
    passed_then R (passed_then R (passed_none _ _ R) c.in-Volume.ensures.time (λ i r. r) (λ i left. inl (held_image (g.D.Disk.state disk) image i held left)))
    (c.replay_log.ensures.time image (sym found.0) found.1 mid) (λ i r. r) (λ i r. r)

pub returns-then-sup-clause-time : goal.returns-then-sup-clause-time
returns-then-sup-clause-time g c image held =
    let R = GoesOn image in
    passed_then R (passed_none _ _ R) c.in-Volume.ensures.time (λ i r. r) (λ i left. inl (held_image (g.D.Disk.state c.args.disk.now) image i held left))

pub returns-clause-unwritten : goal.returns-clause-unwritten
returns-clause-unwritten g c image held empty =
    let found = c.in-Volume.ensures.found image held in
    let same : c.in-Volume.sup.log_start ≡ c.in-Volume.sup.log_end = subst (λ (t : Super). t.log_start ≡ t.log_end) (sym found.0) empty in
    let other : c.in-Volume.sup.log_start ≢ c.in-Volume.sup.log_end = search rules in
    absurd (other same)
