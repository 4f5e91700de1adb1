use Rattle.std.proofs.Common.{◌∙◌, ℕ, List, Option, IfSome, sym, arith, subst}
use Rattle.bfs_node.specs.Page.{rows_of, row_in, value_of}
use Rattle.bfs_range.specs.Answers.{IsRead, AreAnswers}
use Rattle.bfs_range.specs.declared.ranged.RangedRow.{RangedRow}
use Rattle.bfs_range.proofs.Answering.{answers-more}
use Rattle.bfs_range.proofs.Rest.{rest-first, mean-first, answer-first, pages-first}
use Rattle.bfs_values.specs.Kinds.{IsNamed}
use Rattle.bfs_values.specs.Links.{link_in}
use Rattle.bfs_values.proofs.Lasting.{stays-twice, cut-before}
use Rattle.bfs_range.proofs.rows.take_rows.Goals as goal

pub returns-in-Err-clause-rows : goal.returns-in-Err-clause-rows
returns-in-Err-clause-rows g c b e a =
    let f = rest-first (rows_of c.args.page.now) c.loop-i.i c.args.places.1 (omega (arith, c.loop-i-test.true)) c.requires.inside in
    let m = mean-first b _ (row_in (rows_of c.args.page.now) c.loop-i.i) _ f (c.loop-i.invariant.mean b a) in
    c.in-Err.ensures.rows b (c.loop-i.invariant.stays.told_is ∙ e) m.0

pub returns-in-Err-clause-steps : goal.returns-in-Err-clause-steps
returns-in-Err-clause-steps g c b e a =
    let f = rest-first (rows_of c.args.page.now) c.loop-i.i c.args.places.1 (omega (arith, c.loop-i-test.true)) c.requires.inside in
    let m = mean-first b _ (row_in (rows_of c.args.page.now) c.loop-i.i) _ f (c.loop-i.invariant.mean b a) in
    let s = c.in-Err.ensures.steps b (c.loop-i.invariant.stays.told_is ∙ e) m.0 in
    omega (arith, s, c.loop-i.invariant.steps b e a, pages-first b _ (row_in (rows_of c.args.page.now) c.loop-i.i) _ f)

pub loop-i-preserved : goal.loop-i-preserved
loop-i-preserved g c =
    let f = rest-first (rows_of c.args.page.now) c.loop-i.i c.args.places.1 (omega (arith, c.loop-i-test.true)) c.requires.inside in
    record {
      from = omega (arith, c.loop-i.invariant.from);
      stays = stays-twice c.loop-i.invariant.stays c.in-Ok.ensures.stays (g.met.P.Pages.goes_on_twice c.args.pages.now c.loop-i.pages c.take_row.new.pages) (g.met.P.Pages.is_read_twice c.args.pages.now c.loop-i.pages c.take_row.new.pages);
      sure = λ b e read a.
          let more = c.in-Ok.ensures.sure b (c.loop-i.invariant.stays.told_is ∙ e) read in
          subst (λ (z : List RangedRow). AreAnswers c.args.kind b z) (sym more.1) (answers-more c.args.kind b c.loop-i.rows.items more.0 (c.loop-i.invariant.sure b e read a) more.2);
      mean = λ b a. (mean-first b _ (row_in (rows_of c.args.page.now) c.loop-i.i) _ f (c.loop-i.invariant.mean b a)).1;
      rows = λ b e a.
          let m = mean-first b _ (row_in (rows_of c.args.page.now) c.loop-i.i) _ f (c.loop-i.invariant.mean b a) in
          answer-first b c.loop-i.rows.items c.take_row.new.rows.items _ _ (row_in (rows_of c.args.page.now) c.loop-i.i) _ f (c.loop-i.invariant.rows b e a) (c.in-Ok.ensures.rows b (c.loop-i.invariant.stays.told_is ∙ e) m.0);
      steps = λ b e a.
          let m = mean-first b _ (row_in (rows_of c.args.page.now) c.loop-i.i) _ f (c.loop-i.invariant.mean b a) in
          let s = c.in-Ok.ensures.steps b (c.loop-i.invariant.stays.told_is ∙ e) m.0 in
          omega (arith, s, c.loop-i.invariant.steps b e a, pages-first b _ (row_in (rows_of c.args.page.now) c.loop-i.i) _ f);
    }

pub returns-in-Err-clause-refused : goal.returns-in-Err-clause-refused
returns-in-Err-clause-refused g c read =
    cut-before c.args.kind (g.P.Pages.told c.take_row.new.pages) (g.P.Pages.is_cause c.loop-i.pages c.take_row.new.pages) (g.P.Pages.is_cause c.args.pages.now c.take_row.new.pages) c.in-Err.fault
    (λ f. g.met.P.Pages.is_cause_before c.args.pages.now c.loop-i.pages c.take_row.new.pages f c.loop-i.invariant.stays.goes_on)
    (c.in-Err.ensures.refused (subst (λ (o : Option (List ℕ)). IfSome o (λ b. IsRead c.args.kind b c.args.leaf c.args.page.now)) (sym c.loop-i.invariant.stays.told_is) read))

pub returns-in-Err-clause-just_read : goal.returns-in-Err-clause-just_read
returns-in-Err-clause-just_read g c named =
    c.in-Err.ensures.just_read (subst (λ (n : ℕ). IsNamed n (link_in (value_of (row_in (rows_of c.args.page.now) c.loop-i.i)))) (sym c.loop-i.invariant.stays.size_is) (named c.loop-i.i c.loop-i.invariant.from c.loop-i-test.true))
