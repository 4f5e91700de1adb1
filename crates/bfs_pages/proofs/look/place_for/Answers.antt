use Rattle.std.proofs.Common.{◌≡◌, ◌+◌, ◌-◌, ◌/◌, ◌∙◌, ℕ, true, sym, arith}
use Rattle.bfs_node.specs.Page.{rows_of}
use Rattle.bfs_node.specs.Search.{key_at}
use Rattle.bfs_pages.specs.Order.{comes_before, at_most}
use Rattle.bfs_pages.proofs.KeyOrder.{most_less, most_most, not_before}
use Rattle.bfs_pages.proofs.Sorted.{rise-at, first-from}
use Rattle.bfs_pages.proofs.look.place_for.Goals as goal

pub loop-low-preserved-then-is_less : goal.loop-low-preserved-then-is_less
loop-low-preserved-then-is_less c =
    let middle : ℕ = c.loop-low.low + (c.loop-low.high - c.loop-low.low) / 2 in
    let less : comes_before c.args.kind (key_at (rows_of c.args.page.now) middle) c.args.key.now ≡ true = sym c.is_less.ensures ∙ c.if-is_less.true in
    record {
      order = omega arith;
      within = c.loop-low.invariant.within;
      less = λ up j h.
          most_less c.args.kind (key_at (rows_of c.args.page.now) j) (key_at (rows_of c.args.page.now) middle) c.args.key.now
          (rise-at c.args.kind (rows_of c.args.page.now) j middle up (omega (arith, h)) (omega (arith, c.loop-low.invariant.within))) less;
      least = c.loop-low.invariant.least;
    }

pub loop-low-preserved : goal.loop-low-preserved
loop-low-preserved c =
    let middle : ℕ = c.loop-low.low + (c.loop-low.high - c.loop-low.low) / 2 in
    let least : at_most c.args.kind c.args.key.now (key_at (rows_of c.args.page.now) middle) ≡ true = not_before c.args.kind c.args.key.now (key_at (rows_of c.args.page.now) middle) (sym c.is_less.ensures ∙ c.if-is_less.false) in
    record {
      order = omega arith;
      within = omega (arith, c.loop-low.invariant.within);
      less = c.loop-low.invariant.less;
      least = λ up j h l.
          most_most c.args.kind c.args.key.now (key_at (rows_of c.args.page.now) middle) (key_at (rows_of c.args.page.now) j) least
          (rise-at c.args.kind (rows_of c.args.page.now) middle j up h l);
    }

pub returns-clause-first : goal.returns-clause-first
returns-clause-first c up =
    first-from c.args.kind (rows_of c.args.page.now) c.args.key.now c.loop-low.low (omega (arith, c.loop-low.invariant.order, c.loop-low.invariant.within)) (λ j h. c.loop-low.invariant.less up j h)
    (λ h. c.loop-low.invariant.least up c.loop-low.low (omega (arith, c.loop-low-test.false)) h)
