use Rattle.std.proofs.Common.{◌≡◌, ◌≤◌, ◌<◌, ◌+◌, ℕ, suc, List, length, take, ap, sym, subst, arith}
use Rattle.bfs_node.specs.Page.{rows_of}
use Rattle.bfs_insert.specs.Divided.{weight}
use Rattle.bfs_insert.proofs.Dividing.{key-small, weight-next}
use Rattle.bfs_insert.proofs.divide.middle_of.Goals as goal

pub loop-i-init : goal.loop-i-init
loop-i-init c = record { total = omega arith; small = omega arith }

pub overflow_add-total-in-loop-i : goal.overflow_add-total-in-loop-i
overflow_add-total-in-loop-i c =
    omega (arith, c.loop-i.invariant.small, ap (λ (l : List ℕ). length l) c.row_key.ensures, key-small c.args.page.now c.loop-i.i c.requires.page (omega (arith, c.row_count-i-end.ensures, c.loop-i-test.true)))

pub returns-then-total-ge400-clause-before : goal.returns-then-total-ge400-clause-before
returns-then-total-ge400-clause-before c = omega (arith, c.loop-i.invariant.total, c.loop-i.invariant.small)

pub returns-then-total-ge400-clause-reached : goal.returns-then-total-ge400-clause-reached
returns-then-total-ge400-clause-reached c h =
    let next : suc c.loop-i.i ≡ c.loop-i.i + 1 = omega arith in
    subst (λ (n : ℕ). 400 ≤ weight (take n (rows_of c.args.page.now))) next
    (omega (arith, c.loop-i.invariant.total, c.if-total-ge400.true, ap (λ (l : List ℕ). length l) c.row_key.ensures, weight-next (rows_of c.args.page.now) c.loop-i.i h))

pub loop-i-preserved : goal.loop-i-preserved
loop-i-preserved c =
    let next : suc c.loop-i.i ≡ c.loop-i.i + 1 = omega arith in record {
      total = subst (λ (n : ℕ). c.loop-i.total + (length c.row_key.result.now + 10) ≡ weight (take n (rows_of c.args.page.now))) next
          (omega (arith, c.loop-i.invariant.total, ap (λ (l : List ℕ). length l) c.row_key.ensures, weight-next (rows_of c.args.page.now) c.loop-i.i (omega (arith, c.row_count-i-end.ensures, c.loop-i-test.true))));
      small = omega (arith, c.if-total-ge400.false);
    }

pub returns-clause-before : goal.returns-clause-before
returns-clause-before c =
    let end : c.row_count.result ≡ c.loop-i.i = omega (arith, c.row_count.ensures, c.row_count-i-end.ensures, c.loop-i-test.false, c.loop-i.auto.i-end) in
    subst (λ (n : ℕ). weight (take n (rows_of c.args.page.now)) < 400) (sym end) (omega (arith, c.loop-i.invariant.total, c.loop-i.invariant.small))
