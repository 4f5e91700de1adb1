use Rattle.std.proofs.Common.{◌≤◌, ◌+◌, ◌∙◌, ℕ, drop, length, sym, subst, arith}
use Rattle.std.proofs.lemmas.Bool.{true≢false}
use Rattle.bfs_node_check.specs.Areas.{IsShort}
use Rattle.bfs_node_check.proofs.Walked.{Walks, walks_start, reached, walks_more, walks_end, name_length, long_at}
use Rattle.bfs_node_check.proofs.area.check_names.Goals as goal

pub loop-size-init : goal.loop-size-init
loop-size-init c = record { inside = omega arith; walks = walks_start IsShort c.args.area.now c.requires }

pub returns-then-name-gt255-clause-long : goal.returns-then-name-gt255-clause-long
returns-then-name-gt255-clause-long c =
    let area = c.args.area.now in
    let at = c.loop-size.at in
    let walks = c.loop-size.invariant.walks in
    let r = reached area at IsShort walks (c.goes_on.ensures.0 c.loop-size-test.true) in
    let is = c.name_size_at-name.ensures.value in
    long_at area at walks.front walks.place r (let more = c.if-name-gt255.true in omega (arith, is, more))

pub overflow_add-at : goal.overflow_add-at
overflow_add-at c =
    let inside = (reached c.args.area.now c.loop-size.at IsShort c.loop-size.invariant.walks (c.goes_on.ensures.0 c.loop-size-test.true)).inside in
    omega (arith, inside, c.size_at-size.ensures)

pub loop-size-preserved : goal.loop-size-preserved
loop-size-preserved c =
    let area = c.args.area.now in
    let at = c.loop-size.at in
    let walks = c.loop-size.invariant.walks in
    let r = reached area at IsShort walks (c.goes_on.ensures.0 c.loop-size-test.true) in
    let is = c.name_size_at-name.ensures.value in
    let few = c.if-name-gt255.false in
    let long = name_length (drop at area) r.item r.begins in
    let short : length r.item.name ≤ 255 = omega (arith, is, few, long) in
    record {
      inside = (let inside = r.inside in omega (arith, inside, c.size_at-size.ensures));
      walks = subst (λ (k : ℕ). Walks IsShort area (at + k)) (sym c.size_at-size.ensures) (walks_more area at IsShort walks r short);
    }

pub returns-clause-short : goal.returns-clause-short
returns-clause-short c =
    walks_end c.args.area.now c.loop-size.at IsShort c.loop-size.invariant.walks (λ more. true≢false (sym (c.goes_on.ensures.1 more) ∙ c.loop-size-test.false))
