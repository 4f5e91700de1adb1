use Rattle.std.proofs.Common.{◌<◌, ℕ, List, refl, arith}
use Rattle.bfs_disk.specs.State.{Tells, Holds}
use Rattle.bfs_disk.proofs.Calls.{passed_write, passed_quiet, tells_write, tells_barrier}
use Rattle.bfs_base.proofs.Moments.{passed_on}
use Rattle.bfs_mkfs.specs.Written.{Meets, Cleared, blank_sector}
use Rattle.bfs_mkfs.proofs.Meets.{in_range, told_size, clearing, ok_then, Clearing, cleared, meets_settled}
use Rattle.bfs_mkfs.proofs.steps.clear.Goals as goal
use Rattle.bfs_mkfs.proofs.steps.clear.Given.{Over}

pub write-requires-clause-range : goal.write-requires-clause-range
write-requires-clause-range g c = in_range _ 2 1 blank_sector c.requires (omega arith)

pub returns-in_err-write-clause-time : goal.returns-in_err-write-clause-time
returns-in_err-write-clause-time g c = λ image held.
    let disk = c.args.disk.now in
    let some : 1 < held.0.size = told_size _ (g.D.Disk.size disk) held.0 2 held.1 (g.met.D.Disk.sized disk) c.requires in
    passed_write (g.D.Disk.state disk) 1 blank_sector _ c.write.ensures.time held.0 held.1 (λ k image_of. clearing held.0 image blank_sector k held.2 refl some image_of)

-- the disk after the write
mid : (g : Over) (c : goal.After-barrier g) (image : List ℕ) → Tells (g.D.Disk.state c.args.disk.now) (Holds image) → Tells (g.D.Disk.state c.write.new.self) (Clearing image)
mid g c image held =
    let disk = c.args.disk.now in
    let some : 1 < held.0.size = told_size _ (g.D.Disk.size disk) held.0 2 held.1 (g.met.D.Disk.sized disk) c.requires in
    tells_write (λ s. Holds image s × (1 < s.size)) (Clearing image) _ _ 1 blank_sector c.in_ok-write.ensures.written (held.0, held.1, (held.2, some)) (λ s h. cleared s image blank_sector h.0 refl h.1)

pub returns-clause-time : goal.returns-clause-time
returns-clause-time g c = λ image held.
    let disk = c.args.disk.now in
    let some : 1 < held.0.size = told_size _ (g.D.Disk.size disk) held.0 2 held.1 (g.met.D.Disk.sized disk) c.requires in
    let half = mid g c image held in
    passed_on (passed_write (g.D.Disk.state disk) 1 blank_sector _ c.in_ok-write.ensures.time held.0 held.1 (λ k image_of. clearing held.0 image blank_sector k held.2 refl some image_of))
    (passed_quiet _ _ c.barrier.ensures.time half.0 half.1 half.2.images)

pub returns-clause-next : goal.returns-clause-next
returns-clause-next g c = λ image held.
    ok_then c.barrier.result c.barrier.ensures.settled (λ is. tells_barrier (Clearing image) (Meets Cleared Cleared) _ _ is (mid g c image held) (λ s known. meets_settled known.meets))
