use Rattle.std.proofs.Common.{◌≡◌, ◌≤◌, ◌+◌, ◌*◌, ◌-◌, ◌++◌, ℕ, suc, List, refl, ap, sym, subst, ◌∙◌, arith}
use Rattle.bfs_base.specs.Lists.{times}
use Rattle.bfs_values.specs.Values.{page_count, page_numbers, numbers_from, is_ascending, in_order}
use Rattle.bfs_dups.proofs.Ordered.{order-up, up-of}
use Rattle.bfs_dups_remove.proofs.Merged.{count-more, merged-next, merged-twice}
use Rattle.bfs_dups_remove.proofs.chains.absorb.Goals as goal

pub loop-left-init : goal.loop-left-init
loop-left-init c =
    let zero : page_count c.args.from.now - c.number_at-left.result ≡ 0 = omega (arith, c.number_at-left.ensures) in record {
      length = c.requires.page;
      good = c.requires.good;
      within = omega (arith, c.number_at-left.ensures);
      room = omega (arith, c.number_at-left.ensures, c.requires.room);
      links = refl;
      numbers = λ once. sym (ap (λ n. in_order (numbers_from c.args.from.now (24 + 8 * c.number_at-left.result) n ++ page_numbers c.args.page.now)) zero ∙ order-up (page_numbers c.args.page.now) (up-of (page_numbers c.args.page.now) c.requires.good.ascend));
    }

pub loop-left-preserved : goal.loop-left-preserved
loop-left-preserved c =
    let left : c.loop-left.left ≡ suc (c.loop-left.left - 1) = omega (arith, c.loop-left-test.true) in
    let count : numbers_from c.loop-left.page 24 c.number_at-count.result ≡ page_numbers c.loop-left.page = ap (numbers_from c.loop-left.page 24) c.number_at-count.ensures in
    let more : page_count c.widen_page.new.page ≡ suc (page_count c.loop-left.page) = count-more c.loop-left.page c.widen_page.new.page c.number_at-number.result c.widen_page.ensures.numbers in record {
      length = c.widen_page.ensures.length;
      good = c.widen_page.ensures.good;
      within = omega (arith, c.loop-left.invariant.within);
      room = omega (arith, more, c.loop-left.invariant.room, c.loop-left-test.true);
      links = c.widen_page.ensures.links ∙ c.loop-left.invariant.links;
      numbers = λ once. c.widen_page.ensures.numbers
          ∙ merged-next c.args.from.now (page_numbers c.loop-left.page) (c.loop-left.left - 1) c.loop-left.left (page_count c.args.from.now) c.number_at-number.result (page_numbers c.args.page.now) left c.loop-left.invariant.within c.number_at-number.ensures (c.loop-left.invariant.numbers once);
    }

pub loop-left-preserved-in-Ok : goal.loop-left-preserved-in-Ok
loop-left-preserved-in-Ok c =
    let left : c.loop-left.left ≡ suc (c.loop-left.left - 1) = omega (arith, c.loop-left-test.true) in
    let count : numbers_from c.loop-left.page 24 c.number_at-count.result ≡ page_numbers c.loop-left.page = ap (numbers_from c.loop-left.page 24) c.number_at-count.ensures in
    let there : 1 ≤ times c.number_at-number.result (page_numbers c.loop-left.page) = subst (λ (ns : List ℕ). 1 ≤ times c.number_at-number.result ns) count (c.in-Ok.ensures.absent (ap is_ascending count ∙ c.loop-left.invariant.good.ascend)) in record {
      length = c.loop-left.invariant.length;
      good = c.loop-left.invariant.good;
      within = omega (arith, c.loop-left.invariant.within);
      room = omega (arith, c.loop-left.invariant.room);
      links = c.loop-left.invariant.links;
      numbers = λ once. absurd (merged-twice c.args.from.now (page_numbers c.loop-left.page) (c.loop-left.left - 1) c.loop-left.left (page_count c.args.from.now) c.number_at-number.result (page_numbers c.args.page.now) left c.loop-left.invariant.within c.number_at-number.ensures (c.loop-left.invariant.numbers once) once there);
    }
