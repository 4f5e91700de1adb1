use Rattle.std.proofs.Common.{◌≡◌, ◌+◌, ◌*◌, ◌-◌, ℕ, take, subst, arith}
use Rattle.bfs_inode.specs.Inode.{runs_in}
use Rattle.bfs_stream.specs.Scans.{IsPast, AreFour}
use Rattle.bfs_stream.proofs.Passed.{past_none, past_four}
use Rattle.bfs_stream.proofs.stream.Stream.pass.Goals as goal

pub loop-i-init : goal.loop-i-init
loop-i-init c = record { past = past_none c.args.self.now.sizes c.args.place }

pub loop-i-preserved : goal.loop-i-preserved
loop-i-preserved c =
    let from : c.args.at + 32 * c.loop-i.i ≡ c.args.at + 8 * (4 * c.loop-i.i) = omega arith in
    let four : AreFour c.args.bytes.now (c.args.at + 8 * (4 * c.loop-i.i)) c.in-Some.len = subst (λ (k : ℕ). AreFour c.args.bytes.now k c.in-Some.len) from c.in-Some.ensures in record {
      past =
          let next : 4 * c.loop-i.i + 4 ≡ 4 * (c.loop-i.i + 1) = omega arith in
          subst (λ (k : ℕ). IsPast c.args.self.now.sizes (take k (runs_in c.args.runs c.args.bytes.now c.args.at)) c.args.place (c.loop-i.left - c.in-Some.len)) next
          (past_four c.args.self.now.sizes c.args.runs c.args.bytes.now c.args.at c.args.place (4 * c.loop-i.i) c.loop-i.left c.in-Some.len (omega arith) four c.loop-i.invariant.past (omega (arith, c.if-left-len.false)));
    }
