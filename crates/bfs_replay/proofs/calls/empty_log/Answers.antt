use Rattle.std.proofs.Common.{◌≡◌, length, rules, ◌∙◌, ap, refl}
use Rattle.std.specs.Option.{option_map}
use Rattle.bfs_base.proofs.Moments.{passed_on}
use Rattle.bfs_disk.specs.State.{settled, written}
use Rattle.bfs_disk.proofs.Calls.{passed_write, passed_quiet}
use Rattle.bfs_super.specs.Layout.{sector_of}
use Rattle.bfs_log.specs.Replay.{emptied}
use Rattle.bfs_replay.specs.Homing.{ClosedOrNot}
use Rattle.bfs_replay.proofs.Closing.{first, told_closing, during, after}
use Rattle.bfs_replay.proofs.calls.empty_log.Goals as goal

pub returns-in_err-barrier-clause-time : goal.returns-in_err-barrier-clause-time
returns-in_err-barrier-clause-time g c r image all known =
    let disk = c.args.disk.now in
    let s = emptied c.args.sup.now in
    let sector = c.print-sector.result in
    let long : length sector ≡ 512 = search rules in
    passed_quiet _ (ClosedOrNot r all image s) c.barrier.ensures.time known.0 known.1
    (first r all image _ (g.D.Disk.size disk) (g.met.D.Disk.filled disk) (g.met.D.Disk.sized disk) c.requires s sector (c.print-sector.ensures.sector ∙ ap sector_of c.without_log-emptied.ensures) (c.print-sector.ensures.again ∙ c.without_log-emptied.ensures) long known refl)

pub returns-in_err-write_super-clause-time : goal.returns-in_err-write_super-clause-time
returns-in_err-write_super-clause-time g c r image all known =
    let disk = c.args.disk.now in
    let s = emptied c.args.sup.now in
    let sector = c.print-sector.result in
    let long : length sector ≡ 512 = search rules in
    let R = ClosedOrNot r all image s in
    let f = g.met.D.Disk.filled disk in
    let z = g.met.D.Disk.sized disk in
    passed_on (passed_quiet _ R c.in_ok-barrier.ensures.time known.0 known.1 (first r all image _ (g.D.Disk.size disk) f z c.requires s sector (c.print-sector.ensures.sector ∙ ap sector_of c.without_log-emptied.ensures) (c.print-sector.ensures.again ∙ c.without_log-emptied.ensures) long known refl))
    (passed_write _ 1 sector R c.write_super.ensures.time (settled known.0) (c.in_ok-barrier.ensures.settled ∙ ap (option_map settled) known.1)
    (during r all image _ (g.D.Disk.size disk) f z c.requires s sector (c.print-sector.ensures.sector ∙ ap sector_of c.without_log-emptied.ensures) (c.print-sector.ensures.again ∙ c.without_log-emptied.ensures) long known refl))

pub returns-in_err-barrier-2-clause-time : goal.returns-in_err-barrier-2-clause-time
returns-in_err-barrier-2-clause-time g c r image all known =
    let disk = c.args.disk.now in
    let s = emptied c.args.sup.now in
    let sector = c.print-sector.result in
    let long : length sector ≡ 512 = search rules in
    let R = ClosedOrNot r all image s in
    let f = g.met.D.Disk.filled disk in
    let z = g.met.D.Disk.sized disk in
    passed_on (passed_quiet _ R c.in_ok-barrier.ensures.time known.0 known.1 (first r all image _ (g.D.Disk.size disk) f z c.requires s sector (c.print-sector.ensures.sector ∙ ap sector_of c.without_log-emptied.ensures) (c.print-sector.ensures.again ∙ c.without_log-emptied.ensures) long known refl))
    (passed_on
    (passed_write _ 1 sector R c.in_ok-write_super.ensures.time (settled known.0) (c.in_ok-barrier.ensures.settled ∙ ap (option_map settled) known.1)
    (during r all image _ (g.D.Disk.size disk) f z c.requires s sector (c.print-sector.ensures.sector ∙ ap sector_of c.without_log-emptied.ensures) (c.print-sector.ensures.again ∙ c.without_log-emptied.ensures) long known refl))
    (passed_quiet _ R c.barrier-2.ensures.time (written (settled known.0) 1 sector)
    (told_closing r all image _ (g.D.Disk.size disk) f z c.requires s sector (c.print-sector.ensures.sector ∙ ap sector_of c.without_log-emptied.ensures) (c.print-sector.ensures.again ∙ c.without_log-emptied.ensures) long known _ _ c.in_ok-barrier.ensures.settled c.in_ok-write_super.ensures.written)
    (during r all image _ (g.D.Disk.size disk) f z c.requires s sector (c.print-sector.ensures.sector ∙ ap sector_of c.without_log-emptied.ensures) (c.print-sector.ensures.again ∙ c.without_log-emptied.ensures) long known refl)))

pub returns-clause-done : goal.returns-clause-done
returns-clause-done g c quiet r image all known =
    let disk = c.args.disk.now in
    let s = emptied c.args.sup.now in
    let sector = c.print-sector.result in
    let long : length sector ≡ 512 = search rules in
    let f = g.met.D.Disk.filled disk in
    let z = g.met.D.Disk.sized disk in (
      settled (written (settled known.0) 1 sector),
      c.in_ok-barrier-2.ensures.settled
          ∙ ap (option_map settled) (told_closing r all image _ (g.D.Disk.size disk) f z c.requires s sector (c.print-sector.ensures.sector ∙ ap sector_of c.without_log-emptied.ensures) (c.print-sector.ensures.again ∙ c.without_log-emptied.ensures) long known _ _ c.in_ok-barrier.ensures.settled c.in_ok-write_super.ensures.written),
      after r all image _ (g.D.Disk.size disk) f z c.requires s sector (c.print-sector.ensures.sector ∙ ap sector_of c.without_log-emptied.ensures) (c.print-sector.ensures.again ∙ c.without_log-emptied.ensures) long known,
    )

pub returns-clause-time : goal.returns-clause-time
returns-clause-time g c r image all known =
    let disk = c.args.disk.now in
    let s = emptied c.args.sup.now in
    let sector = c.print-sector.result in
    let long : length sector ≡ 512 = search rules in
    let R = ClosedOrNot r all image s in
    let f = g.met.D.Disk.filled disk in
    let z = g.met.D.Disk.sized disk in
    passed_on (passed_quiet _ R c.in_ok-barrier.ensures.time known.0 known.1 (first r all image _ (g.D.Disk.size disk) f z c.requires s sector (c.print-sector.ensures.sector ∙ ap sector_of c.without_log-emptied.ensures) (c.print-sector.ensures.again ∙ c.without_log-emptied.ensures) long known refl))
    (passed_on
    (passed_write _ 1 sector R c.in_ok-write_super.ensures.time (settled known.0) (c.in_ok-barrier.ensures.settled ∙ ap (option_map settled) known.1)
    (during r all image _ (g.D.Disk.size disk) f z c.requires s sector (c.print-sector.ensures.sector ∙ ap sector_of c.without_log-emptied.ensures) (c.print-sector.ensures.again ∙ c.without_log-emptied.ensures) long known refl))
    (passed_quiet _ R c.in_ok-barrier-2.ensures.time (written (settled known.0) 1 sector)
    (told_closing r all image _ (g.D.Disk.size disk) f z c.requires s sector (c.print-sector.ensures.sector ∙ ap sector_of c.without_log-emptied.ensures) (c.print-sector.ensures.again ∙ c.without_log-emptied.ensures) long known _ _ c.in_ok-barrier.ensures.settled c.in_ok-write_super.ensures.written)
    (during r all image _ (g.D.Disk.size disk) f z c.requires s sector (c.print-sector.ensures.sector ∙ ap sector_of c.without_log-emptied.ensures) (c.print-sector.ensures.again ∙ c.without_log-emptied.ensures) long known refl)))
