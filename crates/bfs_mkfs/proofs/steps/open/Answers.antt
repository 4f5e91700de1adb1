use Rattle.std.proofs.Common.{◌≡◌, ◌⊎◌, length, rules}
use Rattle.bfs_base.proofs.Moments.{passed_on}
use Rattle.bfs_disk.specs.State.{IsQuiet, Filled as Holding}
use Rattle.bfs_disk.proofs.Calls.{passed_write, passed_quiet, tells_write, tells_barrier}
use Rattle.bfs_mkfs.specs.Written.{Meets, Filled, Opening, Opened, IsBlank, IsWritten, end_of}
use Rattle.bfs_mkfs.proofs.Meets.{Having, having, ok_then, meets_settled, opened, opening_image, quiet_settled, told_filled}
use Rattle.bfs_mkfs.proofs.steps.open.Goals as goal

pub returns-in_err-write-clause-time : goal.returns-in_err-write-clause-time
returns-in_err-write-clause-time g c = λ a b n behind fits room known.
    let disk = c.args.disk.now in
    let block = c.args.block.now in
    let long : length block ≡ 512 = search rules in
    let s0 = having (Meets (Filled a b) (Filled a b)) _ (g.D.Disk.size disk) n (g.met.D.Disk.sized disk) room known in
    (passed_write _ 1 block (λ i. IsBlank i ⊎ IsWritten block a b n i) c.write.ensures.time s0.0 s0.1 (λ i image. opening_image block a b n _ i behind fits s0.2.1 (opened block a b s0.0 long behind s0.2.0) image))

pub returns-clause-time : goal.returns-clause-time
returns-clause-time g c = λ a b n behind fits room known.
    let disk = c.args.disk.now in
    let block = c.args.block.now in
    let long : length block ≡ 512 = search rules in
    let s0 = having (Meets (Filled a b) (Filled a b)) _ (g.D.Disk.size disk) n (g.met.D.Disk.sized disk) room known in
    let s1 = tells_write (Having n (Meets (Filled a b) (Filled a b))) (Having n (Meets (Opening block a b) (Opened block a b))) _ _ 1 block c.in_ok-write.ensures.written s0 (λ s h. (opened block a b s long behind h.0, h.1)) in
    passed_on (passed_write _ 1 block (λ i. IsBlank i ⊎ IsWritten block a b n i) c.in_ok-write.ensures.time s0.0 s0.1 (λ i image. opening_image block a b n _ i behind fits s0.2.1 (opened block a b s0.0 long behind s0.2.0) image))
    (passed_quiet _ (λ i. IsBlank i ⊎ IsWritten block a b n i) c.barrier.ensures.time s1.0 s1.1 (λ i image. opening_image block a b n s1.0 i behind fits s1.2.1 s1.2.0 image))

pub returns-clause-next : goal.returns-clause-next
returns-clause-next g c = λ a b behind room known.
    let disk = c.args.disk.now in
    let block = c.args.block.now in
    let long : length block ≡ 512 = search rules in
    let s0 = having (Meets (Filled a b) (Filled a b)) _ (g.D.Disk.size disk) (end_of b) (g.met.D.Disk.sized disk) room known in
    let s1 = tells_write (Having (end_of b) (Meets (Filled a b) (Filled a b))) (Having (end_of b) (Meets (Opening block a b) (Opened block a b))) _ _ 1 block c.in_ok-write.ensures.written s0 (λ s h. (opened block a b s long behind h.0, h.1)) in
    let filled = told_filled _ s1.0 s1.1 (g.met.D.Disk.filled c.write.new.self) in
    ok_then c.barrier.result c.barrier.ensures.settled (λ is.
    tells_barrier (λ s. Having (end_of b) (Meets (Opening block a b) (Opened block a b)) s × Holding s) (λ s. IsQuiet s × Meets (Opened block a b) (Opened block a b) s) _ _ is (s1.0, s1.1, (s1.2, filled))
    (λ s h. (quiet_settled s h.1, meets_settled h.0.0)))
