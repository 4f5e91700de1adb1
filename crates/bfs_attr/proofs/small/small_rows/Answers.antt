use Rattle.std.proofs.Common.{◌∙◌, ◌+◌, ℕ, List, drop, sym, subst, arith}
use Rattle.std.proofs.lemmas.Bool.{true≢false}
use Rattle.bfs_smalldata.specs.Items.{size_in}
use Rattle.bfs_tree.specs.declared.rows.AttributeRow.{AttributeRow}
use Rattle.bfs_attr.proofs.Walked.{Walks, walks_start, walks_more, walks_end}
use Rattle.bfs_attr.proofs.small.small_rows.Goals as goal

pub loop-alloc-init : goal.loop-alloc-init
loop-alloc-init c = record {
  inside = omega arith;
  walks = subst (λ (l : List AttributeRow). Walks c.args.area.now 0 l) (sym c.new-rows.ensures.items) (walks_start c.args.area.now c.requires);
}

pub push_row-requires-clause-inside : goal.push_row-requires-clause-inside
push_row-requires-clause-inside c =
    (walks_more c.args.area.now c.loop-alloc.at c.loop-alloc.rows.items c.loop-alloc.invariant.walks (c.goes_on.ensures.0 c.loop-alloc-test.true)).inside

pub overflow_add-at : goal.overflow_add-at
overflow_add-at c =
    let inside = (walks_more c.args.area.now c.loop-alloc.at c.loop-alloc.rows.items c.loop-alloc.invariant.walks (c.goes_on.ensures.0 c.loop-alloc-test.true)).inside in
    omega (arith, inside, c.size_at-size.ensures)

pub loop-alloc-preserved : goal.loop-alloc-preserved
loop-alloc-preserved c =
    let area = c.args.area.now in
    let at = c.loop-alloc.at in
    let steps = walks_more area at c.loop-alloc.rows.items c.loop-alloc.invariant.walks (c.goes_on.ensures.0 c.loop-alloc-test.true) in
    record {
      inside = omega (arith, steps.inside, c.size_at-size.ensures);
      walks = subst (λ (k : ℕ). Walks area (at + k) c.push_row.new.rows.items) (sym c.size_at-size.ensures)
          (subst (λ (l : List AttributeRow). Walks area (at + size_in (drop at area)) l) (sym c.in_ok-push_row.ensures) steps.next);
    }

pub returns : goal.returns
returns c =
    walks_end c.args.area.now c.loop-alloc.at c.loop-alloc.rows.items c.loop-alloc.invariant.walks
    (λ more. true≢false (sym (c.goes_on.ensures.1 more) ∙ c.loop-alloc-test.false))
