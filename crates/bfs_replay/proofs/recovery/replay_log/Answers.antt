use Rattle.std.proofs.Common.{◌≡◌, ◌∙◌, inl, [], sym, subst, true}
use Rattle.bfs_base.proofs.Moments.{passed_none, passed_then}
use Rattle.bfs_disk.specs.State.{Tells}
use Rattle.bfs_disk.specs.Disk.{HasSectors}
use Rattle.bfs_super.specs.declared.sup.Super.{Super}
use Rattle.bfs_super.specs.Layout.{super_at, sector_of}
use Rattle.bfs_log.specs.Replay.{block_sectors, homes_of}
use Rattle.bfs_replay.specs.Homing.{Homing}
use Rattle.bfs_replay.specs.Steps.{HasFault}
use Rattle.bfs_replay.specs.Recover.{GoesOn}
use Rattle.bfs_replay.proofs.Sizes.{has_two}
use Rattle.bfs_replay.proofs.Homes.{homing_start, reads_of}
use Rattle.bfs_replay.proofs.Recovering.{held_image, log_full, log_of, stopped_on, closed_on, recovered, entries_in, malformed_by, not_malformed}
use Rattle.bfs_replay.proofs.recovery.replay_log.Goals as goal

pub returns-in-Err-Malformed-clause-ends : goal.returns-in-Err-Malformed-clause-ends
returns-in-Err-Malformed-clause-ends g c quiet image is valid held = (
  malformed_by image c.in-Err-Malformed.fault valid (subst (HasFault image) c.in-Err-Malformed.field-0-is (c.in-Err-Malformed.ensures.fault image is (held.0, held.1, reads_of quiet image held.0 held.2))),
  c.in-Err-Malformed.ensures.state,
)

pub returns-in-Err-Malformed-write_homes-clause-ends : goal.returns-in-Err-Malformed-write_homes-clause-ends
returns-in-Err-Malformed-write_homes-clause-ends g c quiet image is valid held =
    let s = c.args.sup.now in
    let disk = c.args.disk.now in
    let full = log_full s c.requires.valid c.requires.full in
    let log = entries_in image s is (c.in-Ok.ensures.entries image is (held.0, held.1, reads_of quiet image held.0 held.2)) in
    let lo = log_of image s is valid full log in
    let known : Tells (g.D.Disk.state c.check_log.new.disk) (Homing quiet (block_sectors s) (homes_of log.0) [] image) = (held.0, (c.in-Ok.ensures.state ∙ held.1), homing_start quiet (block_sectors s) (homes_of log.0) image held.0 held.2) in
    absurd (not_malformed c.in-Err-Malformed-write_homes.field-0 c.in-Err-Malformed-write_homes.fault (c.in-Err-Malformed-write_homes.ensures.good quiet image log lo known) c.in-Err-Malformed-write_homes.field-0-is)

pub returns-in-Err-Malformed-write_homes-clause-time : goal.returns-in-Err-Malformed-write_homes-clause-time
returns-in-Err-Malformed-write_homes-clause-time g c image is valid held =
    let s = c.args.sup.now in
    let disk = c.args.disk.now in
    let R = GoesOn image in
    let full = log_full s c.requires.valid c.requires.full in
    let log = entries_in image s is (c.in-Ok.ensures.entries image is (held.0, held.1, held.2.reads)) in
    let lo = log_of image s is valid full log in
    let known : Tells (g.D.Disk.state c.check_log.new.disk) (Homing true (block_sectors s) (homes_of log.0) [] image) = (held.0, (c.in-Ok.ensures.state ∙ held.1), homing_start true (block_sectors s) (homes_of log.0) image held.0 held.2) in
    let first = passed_then R (passed_none _ _ R) c.in-Ok.ensures.time (λ i r. r) (λ i left. inl (held_image (g.D.Disk.state disk) image i held left)) in
    passed_then R first (c.in-Err-Malformed-write_homes.ensures.time image log lo known) (λ i r. r) (stopped_on image s is valid full log)

pub returns-in-Err-Failed-write_homes-clause-time : goal.returns-in-Err-Failed-write_homes-clause-time
returns-in-Err-Failed-write_homes-clause-time g c image is valid held =
    let s = c.args.sup.now in
    let disk = c.args.disk.now in
    let R = GoesOn image in
    let full = log_full s c.requires.valid c.requires.full in
    let log = entries_in image s is (c.in-Ok.ensures.entries image is (held.0, held.1, held.2.reads)) in
    let lo = log_of image s is valid full log in
    let known : Tells (g.D.Disk.state c.check_log.new.disk) (Homing true (block_sectors s) (homes_of log.0) [] image) = (held.0, (c.in-Ok.ensures.state ∙ held.1), homing_start true (block_sectors s) (homes_of log.0) image held.0 held.2) in
    let first = passed_then R (passed_none _ _ R) c.in-Ok.ensures.time (λ i r. r) (λ i left. inl (held_image (g.D.Disk.state disk) image i held left)) in
    passed_then R first (c.in-Err-Failed-write_homes.ensures.time image log lo known) (λ i r. r) (stopped_on image s is valid full log)

pub empty_log-requires : goal.empty_log-requires
empty_log-requires g c =
    subst (λ z. HasSectors z 2) (sym (c.in-Ok-write_homes.ensures.size ∙ c.in-Ok.ensures.size)) (has_two c.args.sup.now c.requires.valid (g.D.Disk.size c.args.disk.now) c.requires.on_disk)

pub returns-in-Ok-empty_log-clause-ends : goal.returns-in-Ok-empty_log-clause-ends
returns-in-Ok-empty_log-clause-ends g c quiet image is valid held =
    let s = c.args.sup.now in
    let disk = c.args.disk.now in
    let full = log_full s c.requires.valid c.requires.full in
    let log = entries_in image s is (c.in-Ok.ensures.entries image is (held.0, held.1, reads_of quiet image held.0 held.2)) in
    let lo = log_of image s is valid full log in
    let known : Tells (g.D.Disk.state c.check_log.new.disk) (Homing quiet (block_sectors s) (homes_of log.0) [] image) = (held.0, (c.in-Ok.ensures.state ∙ held.1), homing_start quiet (block_sectors s) (homes_of log.0) image held.0 held.2) in
    let found = c.in-Ok-empty_log.ensures.superblock in
    recovered image s is valid full log (subst (λ (t : Super). super_at (sector_of t) ≡ t) found.0 found.1) quiet (g.D.Disk.state c.empty_log.new.disk) c.in-Ok-empty_log.emptied found.0
    (c.in-Ok-empty_log.ensures.done quiet (block_sectors s) image (homes_of log.0) (c.in-Ok-write_homes.ensures.next quiet image log lo known))

pub returns-in-Ok-empty_log-clause-time : goal.returns-in-Ok-empty_log-clause-time
returns-in-Ok-empty_log-clause-time g c image is valid held =
    let s = c.args.sup.now in
    let disk = c.args.disk.now in
    let R = GoesOn image in
    let full = log_full s c.requires.valid c.requires.full in
    let log = entries_in image s is (c.in-Ok.ensures.entries image is (held.0, held.1, held.2.reads)) in
    let lo = log_of image s is valid full log in
    let known : Tells (g.D.Disk.state c.check_log.new.disk) (Homing true (block_sectors s) (homes_of log.0) [] image) = (held.0, (c.in-Ok.ensures.state ∙ held.1), homing_start true (block_sectors s) (homes_of log.0) image held.0 held.2) in
    let first = passed_then R (passed_none _ _ R) c.in-Ok.ensures.time (λ i r. r) (λ i left. inl (held_image (g.D.Disk.state disk) image i held left)) in
    passed_then R (passed_then R first (c.in-Ok-write_homes.ensures.time image log lo known) (λ i r. r) (stopped_on image s is valid full log)) (c.in-Ok-empty_log.ensures.time (block_sectors s) image (homes_of log.0) (c.in-Ok-write_homes.ensures.next true image log lo known))
    (λ i r. r) (closed_on image s is valid full log)

pub returns-in-Err-clause-time : goal.returns-in-Err-clause-time
returns-in-Err-clause-time g c image is valid held =
    let s = c.args.sup.now in
    let disk = c.args.disk.now in
    let R = GoesOn image in
    let full = log_full s c.requires.valid c.requires.full in
    let log = entries_in image s is (c.in-Ok.ensures.entries image is (held.0, held.1, held.2.reads)) in
    let lo = log_of image s is valid full log in
    let known : Tells (g.D.Disk.state c.check_log.new.disk) (Homing true (block_sectors s) (homes_of log.0) [] image) = (held.0, (c.in-Ok.ensures.state ∙ held.1), homing_start true (block_sectors s) (homes_of log.0) image held.0 held.2) in
    let first = passed_then R (passed_none _ _ R) c.in-Ok.ensures.time (λ i r. r) (λ i left. inl (held_image (g.D.Disk.state disk) image i held left)) in
    passed_then R (passed_then R first (c.in-Ok-write_homes.ensures.time image log lo known) (λ i r. r) (stopped_on image s is valid full log)) (c.in-Err.ensures.time (block_sectors s) image (homes_of log.0) (c.in-Ok-write_homes.ensures.next true image log lo known))
    (λ i r. r) (closed_on image s is valid full log)
