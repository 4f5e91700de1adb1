use Rattle.std.proofs.Common.{◌≡◌, ◌-◌, ℕ, ◌∙◌, subst, arith}
use Rattle.bfs_insert.specs.Puts.{IsWay}
use Rattle.bfs_pages.proofs.Faulted.{refused-before}
use Rattle.bfs_pages.proofs.Later.{later-twice}
use Rattle.bfs_insert.proofs.WayDown.{way-starts, way-next, way-tree, last-but_one}
use Rattle.bfs_insert.proofs.inserting.reach_leaf.Goals as goal

pub loop-left-init : goal.loop-left-init
loop-left-init g c = record {
  some = c.in-Ok.ensures.some;
  at = c.in-Ok.ensures.root;
  way = λ b e.
      let m = c.in-Ok.ensures.top b e in
      (m.0, m.1, way-starts c.args.kind b m.0 c.args.key.now c.in-Ok.top.root c.in-Ok.top.levels m.2);
  kept = c.in-Ok.ensures.kept;
}

pub step_down-requires-clause-at : goal.step_down-requires-clause-at
step_down-requires-clause-at g c = c.loop-left.invariant.at

pub returns-in-Err-step_down-clause-refused : goal.returns-in-Err-step_down-clause-refused
returns-in-Err-step_down-clause-refused g c =
    refused-before c.args.kind (g.P.Pages.told c.step_down.new.pages) (g.P.Pages.is_cause c.loop-left.pages c.step_down.new.pages) (g.P.Pages.is_cause c.args.pages.now c.step_down.new.pages) c.in-Err-step_down.fault
    (λ f. g.met.P.Pages.is_cause_before c.args.pages.now c.loop-left.pages c.step_down.new.pages f c.loop-left.invariant.kept.goes_on) c.in-Err-step_down.ensures.refused

pub returns-in-Err-step_down-clause-spared : goal.returns-in-Err-step_down-clause-spared
returns-in-Err-step_down-clause-spared g c b reached t fs e tree =
    let w = c.loop-left.invariant.way b e in
    let r = way-tree c.args.kind b w.0 c.args.key.now c.loop-left.at (c.loop-left.left - 1) reached t fs w.2 tree in
    c.in-Err-step_down.ensures.spared w.0 reached r.0 r.1 r.2 w.1 r.3 (omega (arith, r.4, c.loop-left-test.true))
    (last-but_one r.2 c.loop-left.left _ r.4 c.loop-left-test.true) r.5 r.6

pub returns-in-Err-step_down-clause-kept : goal.returns-in-Err-step_down-clause-kept
returns-in-Err-step_down-clause-kept g c = record {
  counts = later-twice c.loop-left.invariant.kept.counts c.in-Err-step_down.ensures.kept.counts;
  frame_is = c.in-Err-step_down.ensures.kept.frame_is ∙ c.loop-left.invariant.kept.frame_is;
  goes_on = g.met.P.Pages.goes_on_twice c.args.pages.now c.loop-left.pages c.step_down.new.pages c.loop-left.invariant.kept.goes_on c.in-Err-step_down.ensures.kept.goes_on;
}

pub loop-left-preserved : goal.loop-left-preserved
loop-left-preserved g c = record {
  some = omega (arith, c.loop-left-test.true);
  at = c.in-Ok-step_down.ensures.next;
  way = λ b e.
      let w = c.loop-left.invariant.way b e in
      let s = c.in-Ok-step_down.ensures.step w.0 w.1 in
      (s.0, s.1, way-next c.args.kind b w.0 s.0 c.args.key.now c.loop-left.at c.in-Ok-step_down.next (c.loop-left.left - 1) w.2 (omega (arith, c.loop-left-test.true)) s.2);
  kept = record {
    counts = later-twice c.loop-left.invariant.kept.counts c.in-Ok-step_down.ensures.kept.counts;
    frame_is = c.in-Ok-step_down.ensures.kept.frame_is ∙ c.loop-left.invariant.kept.frame_is;
    goes_on = g.met.P.Pages.goes_on_twice c.args.pages.now c.loop-left.pages c.step_down.new.pages c.loop-left.invariant.kept.goes_on c.in-Ok-step_down.ensures.kept.goes_on;
  };
}

pub returns-clause-at : goal.returns-clause-at
returns-clause-at g c = c.loop-left.invariant.at

pub returns-clause-way : goal.returns-clause-way
returns-clause-way g c b e =
    let w = c.loop-left.invariant.way b e in
    let none : c.loop-left.left - 1 ≡ 0 = omega (arith, c.loop-left-test.false, c.loop-left.invariant.some) in
    (w.0, w.1, subst (λ (n : ℕ). IsWay c.args.kind b w.0 c.args.key.now c.loop-left.at n) none w.2)

pub returns-clause-kept : goal.returns-clause-kept
returns-clause-kept g c = c.loop-left.invariant.kept
