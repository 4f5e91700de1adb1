use Rattle.std.proofs.Common.{◌+◌, ◌/◌, length, arith}
use Rattle.bfs_base.proofs.Moments.{passed_on}
use Rattle.bfs_disk.proofs.Calls.{passed_write, passed_quiet, tells_write, tells_barrier}
use Rattle.bfs_mkfs.specs.Written.{Meets, Cleared, HalfFilled, Filled, area, IsBlank}
use Rattle.bfs_mkfs.proofs.Meets.{With, started, ok_then, meets_settled, first_filled, second_filled, blank_image}
use Rattle.bfs_mkfs.proofs.steps.fill.Goals as goal

pub returns-in_err-write-clause-time : goal.returns-in_err-write-clause-time
returns-in_err-write-clause-time g c = λ known.
    let disk = c.args.disk.now in
    let a = area c.args.at c.args.first.now in
    let b = area c.args.behind c.args.second.now in
    let s0 = started (Meets Cleared Cleared) _ (g.D.Disk.size disk) (c.args.behind + length c.args.second.now / 512) (g.met.D.Disk.sized disk) c.requires.range (omega (arith, c.requires.low, c.requires.order)) known in
    (passed_write _ a.at a.bytes IsBlank c.write.ensures.time s0.0 s0.1 (λ i image. blank_image _ i s0.2.1 (first_filled a s0.0 c.requires.low s0.2.0) image))

pub returns-in_err-write-2-clause-time : goal.returns-in_err-write-2-clause-time
returns-in_err-write-2-clause-time g c = λ known.
    let disk = c.args.disk.now in
    let a = area c.args.at c.args.first.now in
    let b = area c.args.behind c.args.second.now in
    let s0 = started (Meets Cleared Cleared) _ (g.D.Disk.size disk) (c.args.behind + length c.args.second.now / 512) (g.met.D.Disk.sized disk) c.requires.range (omega (arith, c.requires.low, c.requires.order)) known in
    let s1 = tells_write (With (Meets Cleared Cleared)) (With (Meets Cleared (HalfFilled a))) _ _ a.at a.bytes c.in_ok-write.ensures.written s0 (λ s h. (first_filled a s c.requires.low h.0, h.1)) in
    passed_on (passed_write _ a.at a.bytes IsBlank c.in_ok-write.ensures.time s0.0 s0.1 (λ i image. blank_image _ i s0.2.1 (first_filled a s0.0 c.requires.low s0.2.0) image)) (passed_write _ b.at b.bytes IsBlank c.write-2.ensures.time s1.0 s1.1 (λ i image. blank_image _ i s1.2.1 (second_filled a b s1.0 c.requires.low c.requires.order s1.2.0) image))

pub returns-clause-time : goal.returns-clause-time
returns-clause-time g c = λ known.
    let disk = c.args.disk.now in
    let a = area c.args.at c.args.first.now in
    let b = area c.args.behind c.args.second.now in
    let s0 = started (Meets Cleared Cleared) _ (g.D.Disk.size disk) (c.args.behind + length c.args.second.now / 512) (g.met.D.Disk.sized disk) c.requires.range (omega (arith, c.requires.low, c.requires.order)) known in
    let s1 = tells_write (With (Meets Cleared Cleared)) (With (Meets Cleared (HalfFilled a))) _ _ a.at a.bytes c.in_ok-write.ensures.written s0 (λ s h. (first_filled a s c.requires.low h.0, h.1)) in
    let s2 = tells_write (With (Meets Cleared (HalfFilled a))) (With (Meets Cleared (Filled a b))) _ _ b.at b.bytes c.in_ok-write-2.ensures.written s1 (λ s h. (second_filled a b s c.requires.low c.requires.order h.0, h.1)) in
    passed_on (passed_write _ a.at a.bytes IsBlank c.in_ok-write.ensures.time s0.0 s0.1 (λ i image. blank_image _ i s0.2.1 (first_filled a s0.0 c.requires.low s0.2.0) image))
    (passed_on (passed_write _ b.at b.bytes IsBlank c.in_ok-write-2.ensures.time s1.0 s1.1 (λ i image. blank_image _ i s1.2.1 (second_filled a b s1.0 c.requires.low c.requires.order s1.2.0) image))
    (passed_quiet _ IsBlank c.barrier.ensures.time s2.0 s2.1 (λ i image. blank_image s2.0 i s2.2.1 s2.2.0 image)))

pub returns-clause-next : goal.returns-clause-next
returns-clause-next g c = λ known.
    let disk = c.args.disk.now in
    let a = area c.args.at c.args.first.now in
    let b = area c.args.behind c.args.second.now in
    let s0 = started (Meets Cleared Cleared) _ (g.D.Disk.size disk) (c.args.behind + length c.args.second.now / 512) (g.met.D.Disk.sized disk) c.requires.range (omega (arith, c.requires.low, c.requires.order)) known in
    let s1 = tells_write (With (Meets Cleared Cleared)) (With (Meets Cleared (HalfFilled a))) _ _ a.at a.bytes c.in_ok-write.ensures.written s0 (λ s h. (first_filled a s c.requires.low h.0, h.1)) in
    let s2 = tells_write (With (Meets Cleared (HalfFilled a))) (With (Meets Cleared (Filled a b))) _ _ b.at b.bytes c.in_ok-write-2.ensures.written s1 (λ s h. (second_filled a b s c.requires.low c.requires.order h.0, h.1)) in
    ok_then c.barrier.result c.barrier.ensures.settled (λ is. tells_barrier (With (Meets Cleared (Filled a b))) (Meets (Filled a b) (Filled a b)) _ _ is s2 (λ s h. meets_settled h.0))
