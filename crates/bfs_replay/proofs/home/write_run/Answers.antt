use Rattle.std.proofs.Common.{true, ◌≡◌, ◌∙◌, ◌+◌, ◌<◌, ◌++◌, [], ◌∷◌, ℕ, List, refl, ap, subst, arith}
use Rattle.bfs_base.proofs.Moments.{passed_on}
use Rattle.bfs_base.specs.Lists.{counted_from}
use Rattle.bfs_disk.specs.State.{Tells}
use Rattle.bfs_super.specs.Geometry.{geometry_of}
use Rattle.bfs_log.specs.Replay.{Home, block_sectors, blocks_of, homes_from, logged}
use Rattle.bfs_replay.specs.Homing.{Homing}
use Rattle.bfs_replay.proofs.Further.{run_further}
use Rattle.bfs_replay.proofs.home.write_run.Goals as goal

pub returns-in-Err-clause-time : goal.returns-in-Err-clause-time
returns-in-Err-clause-time g c image all done log has known =
    let s = c.args.sup.now in
    let l = c.loop-i in
    passed_on (l.invariant.time image all done log has known)
    (c.in-Err.ensures.time image all (done ++ homes_from (geometry_of s) (blocks_of image) c.args.at (counted_from c.args.first l.i)) log (has (c.args.first + l.i) (omega arith) (omega (arith, c.loop-i-test.true)))
    (l.invariant.next true image all done log has known))

pub loop-i-preserved : goal.loop-i-preserved
loop-i-preserved g c =
    let s = c.args.sup.now in
    let l = c.loop-i in
    let now = g.D.Disk.state c.write_home.new.disk in
    let few : l.i < s.log_blocks.len = omega (arith, c.loop-i-test.true, c.requires.few) in
    record {
      long = c.write_home.auto.buffer ∙ l.invariant.long;
      later = omega (arith, l.invariant.later, c.in-Ok.ensures.cause.later);
      stops = omega (arith, l.invariant.stops, c.in-Ok.ensures.stops);
      clock = omega (arith, l.invariant.clock, c.in-Ok.ensures.clock);
      size = c.in-Ok.ensures.size ∙ l.invariant.size;
      silent = λ none. c.in-Ok.ensures.silent (l.invariant.silent none);
      next = λ quiet image all done log has known.
          let f = blocks_of image in
          let hs = done ++ homes_from (geometry_of s) f c.args.at (counted_from c.args.first l.i) in
          subst (λ (xs : List Home). Tells now (Homing quiet (block_sectors s) all xs image))
          (ap (λ (n : ℕ). hs ++ record { place = c.args.first + l.i; bytes = logged (geometry_of s) f n } ∷ []) c.place_on.ensures.value
          ∙ run_further (geometry_of s) f done c.args.at c.args.first l.i (l.i + 1) c.requires.at few refl)
          (c.in-Ok.ensures.next quiet image all hs log (has (c.args.first + l.i) (omega arith) (omega (arith, c.loop-i-test.true))) (l.invariant.next quiet image all done log has known));
      time = λ image all done log has known.
          passed_on (l.invariant.time image all done log has known)
          (c.in-Ok.ensures.time image all (done ++ homes_from (geometry_of s) (blocks_of image) c.args.at (counted_from c.args.first l.i)) log (has (c.args.first + l.i) (omega arith) (omega (arith, c.loop-i-test.true)))
          (l.invariant.next true image all done log has known));
    }

pub returns-clause-next : goal.returns-clause-next
returns-clause-next g c quiet image all done log has known =
    let s = c.args.sup.now in
    let l = c.loop-i in
    let all_done : l.i ≡ c.args.len = omega (arith, c.loop-i-test.false, l.auto.i-end) in
    subst (λ (n : ℕ). Tells (g.D.Disk.state l.disk) (Homing quiet (block_sectors s) all (done ++ homes_from (geometry_of s) (blocks_of image) c.args.at (counted_from c.args.first n)) image)) all_done (l.invariant.next quiet image all done log has known)
