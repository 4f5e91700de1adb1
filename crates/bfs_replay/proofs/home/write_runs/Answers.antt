use Rattle.std.proofs.Common.{true, ◌≡◌, ◌∙◌, ◌+◌, ◌≤◌, ◌++◌, ℕ, List, length, take, get_or, refl, sym, ap, subst, arith}
use Rattle.std.proofs.lemmas.List.{take_all}
use Rattle.bfs_base.proofs.Moments.{passed_on}
use Rattle.bfs_base.specs.Lists.{counted_from}
use Rattle.bfs_bytes.specs.declared.Run.{Run}
use Rattle.bfs_disk.specs.State.{Tells}
use Rattle.bfs_super.specs.Geometry.{geometry_of}
use Rattle.bfs_log.specs.Entry.{blocks_in, first_of}
use Rattle.bfs_log.specs.Found.{no_run}
use Rattle.bfs_log.specs.Ring.{next_place}
use Rattle.bfs_log.specs.Replay.{Home, block_sectors, blocks_of, homes_from}
use Rattle.bfs_log.proofs.Listed.{length-counted, length-blocks_more}
use Rattle.bfs_log.proofs.Walks.{next_next}
use Rattle.bfs_replay.specs.Homing.{Homing}
use Rattle.bfs_replay.proofs.Further.{homes_further, blocks_more, len_within, homes_of_run}
use Rattle.bfs_replay.proofs.home.write_runs.Goals as goal

pub write_run-requires-clause-few : goal.write_run-requires-clause-few
write_run-requires-clause-few g c =
    omega (arith, c.from-len.ensures, len_within (geometry_of c.args.sup.now) c.args.runs.now c.loop-run.run-index no_run c.loop-run-test.true, c.requires.few)

pub returns-in-Err-clause-time : goal.returns-in-Err-clause-time
returns-in-Err-clause-time g c image all done log has known =
    let s = c.args.sup.now in
    let l = c.loop-run in
    passed_on (l.invariant.time image all done log has known)
    (c.in-Err.ensures.time image all (done ++ homes_from (geometry_of s) (blocks_of image) c.args.at (blocks_in (geometry_of s) (take l.run-index c.args.runs.now))) log (homes_of_run (geometry_of s) c.args.runs.now c.loop-run.run-index no_run all c.block_of.result c.from-len.result c.loop-run-test.true c.block_of.ensures c.from-len.ensures has)
    (l.invariant.next true image all done log has known))

pub place_on-place-requires-clause-by : goal.place_on-place-requires-clause-by
place_on-place-requires-clause-by g c =
    omega (arith, c.from-len.ensures, len_within (geometry_of c.args.sup.now) c.args.runs.now c.loop-run.run-index no_run c.loop-run-test.true, c.requires.few)

pub loop-run-preserved : goal.loop-run-preserved
loop-run-preserved g c =
    let s = c.args.sup.now in
    let geo = geometry_of s in
    let l = c.loop-run in
    let i = l.run-index in
    let runs = c.args.runs.now in
    let run : Run = get_or runs i no_run in
    let len = s.log_blocks.len in
    let now = g.D.Disk.state c.write_run.new.disk in
    let within = len_within geo runs i no_run c.loop-run-test.true in
    let xs = blocks_in geo (take i runs) in
    let ys = counted_from (first_of geo run) run.len in
    let first : c.block_of.result ≡ first_of geo run = c.block_of.ensures in
    let few : length xs + length ys ≤ len = omega (arith, length-counted (first_of geo run) run.len, within, c.requires.few) in
    let count : length xs + c.from-len.result ≡ length (blocks_in geo (take (i + 1) runs)) = omega (arith, length-blocks_more geo runs i no_run c.loop-run-test.true, c.from-len.ensures) in
    record {
      place = c.place_on-place.ensures.value
          ∙ ap (λ (p : ℕ). next_place p c.from-len.result len) l.invariant.place
          ∙ next_next c.args.at (length xs) c.from-len.result len c.requires.at (omega (arith, c.from-len.ensures, within, c.requires.few))
          ∙ ap (λ (n : ℕ). next_place c.args.at n len) count;
      low = c.place_on-place.ensures.inside;
      long = c.in-Ok.ensures.long;
      later = omega (arith, l.invariant.later, c.in-Ok.ensures.cause.later);
      stops = omega (arith, l.invariant.stops, c.in-Ok.ensures.stops);
      clock = omega (arith, l.invariant.clock, c.in-Ok.ensures.clock);
      size = c.in-Ok.ensures.size ∙ l.invariant.size;
      silent = λ none. c.in-Ok.ensures.silent (l.invariant.silent none);
      next = λ quiet image all done log has known.
          let f = blocks_of image in
          let hs = done ++ homes_from geo f c.args.at xs in
          subst (λ (ys : List Home). Tells now (Homing quiet (block_sectors s) all ys image))
          (ap (λ (p : ℕ). hs ++ homes_from geo f p (counted_from c.block_of.result c.from-len.result)) l.invariant.place
          ∙ ap (λ (b : ℕ). hs ++ homes_from geo f (next_place c.args.at (length xs) len) (counted_from b c.from-len.result)) first
          ∙ ap (λ (n : ℕ). hs ++ homes_from geo f (next_place c.args.at (length xs) len) (counted_from (first_of geo run) n)) c.from-len.ensures
          ∙ homes_further geo f done c.args.at (length xs) xs ys c.requires.at refl few
          ∙ ap (λ (l : List ℕ). done ++ homes_from geo f c.args.at l) (sym (blocks_more geo runs i (i + 1) no_run c.loop-run-test.true refl)))
          (c.in-Ok.ensures.next quiet image all hs log (homes_of_run (geometry_of s) c.args.runs.now c.loop-run.run-index no_run all c.block_of.result c.from-len.result c.loop-run-test.true c.block_of.ensures c.from-len.ensures has) (l.invariant.next quiet image all done log has known));
      time = λ image all done log has known.
          passed_on (l.invariant.time image all done log has known)
          (c.in-Ok.ensures.time image all (done ++ homes_from geo (blocks_of image) c.args.at xs) log (homes_of_run (geometry_of s) c.args.runs.now c.loop-run.run-index no_run all c.block_of.result c.from-len.result c.loop-run-test.true c.block_of.ensures c.from-len.ensures has) (l.invariant.next true image all done log has known));
    }

pub returns-clause-next : goal.returns-clause-next
returns-clause-next g c quiet image all done log has known =
    let s = c.args.sup.now in
    let geo = geometry_of s in
    let l = c.loop-run in
    let whole : take l.run-index c.args.runs.now ≡ c.args.runs.now = take_all l.run-index c.args.runs.now (omega (arith, c.loop-run-test.false)) in
    subst (λ (rs : List Run). Tells (g.D.Disk.state l.disk) (Homing quiet (block_sectors s) all (done ++ homes_from geo (blocks_of image) c.args.at (blocks_in geo rs)) image)) whole (l.invariant.next quiet image all done log has known)
