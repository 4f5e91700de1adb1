use Rattle.std.proofs.Common.{◌∙◌, get_or, arith, sym, refl}
use Rattle.std.proofs.lemmas.Bool.{true≢false}
use Rattle.std.proofs.lemmas.List.Elements.{All-more}
use Rattle.bfs_log.specs.Entry.{HasPlace}
use Rattle.bfs_log.specs.Found.{no_run}
use Rattle.bfs_log.proofs.Listed.{first_bad, length-blocks_more}
use Rattle.bfs_log.proofs.read.named_blocks.Goals as goal

pub returns-then-not-has_place-clause-err : goal.returns-then-not-has_place-clause-err
returns-then-not-has_place-clause-err c = (
  get_or c.args.runs.now c.loop-run.run-index no_run,
  refl,
  first_bad c.args.geometry c.args.runs.now c.loop-run.run-index no_run c.loop-run-test.true c.loop-run.invariant.good
      (λ has. true≢false (sym (c.has_place.ensures.1 has) ∙ c.if-not-has_place.true)),
)

pub loop-run-preserved : goal.loop-run-preserved
loop-run-preserved c =
    let i = c.loop-run.run-index in
    let runs = c.args.runs.now in
    record {
      good = All-more (HasPlace c.args.geometry) runs i no_run c.loop-run-test.true c.loop-run.invariant.good (c.has_place.ensures.0 c.if-not-has_place.false);
      total = omega (arith, c.loop-run.invariant.total, length-blocks_more c.args.geometry runs i no_run c.loop-run-test.true, c.from-total.ensures);
      bound = omega (arith, c.loop-run.invariant.bound);
    }
