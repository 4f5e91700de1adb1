use Rattle.std.proofs.Common.{◌∙◌, ◌+◌, ℕ, Option, drop, sym, subst, arith}
use Rattle.std.proofs.lemmas.Bool.{true≢false}
use Rattle.std.specs.Prelude.{not}
use Rattle.std.specs.List.{filter}
use Rattle.bfs_smalldata.specs.Items.{Item, size_in}
use Rattle.bfs_sound.specs.Attributes.{is_name_item}
use Rattle.bfs_sound.specs.Need.{longest}
use Rattle.bfs_attr.proofs.Longests.{Seeks, seeks_start, seeks_more, seeks_end, found_inside}
use Rattle.bfs_attr.proofs.longest.longest_attribute.Goals as goal

pub loop-size-init : goal.loop-size-init
loop-size-init c = record {
  inside = omega arith;
  seeks = seeks_start c.args.area.now c.requires;
}

pub longer_place-found-requires-clause-inside : goal.longer_place-found-requires-clause-inside
longer_place-found-requires-clause-inside c =
    (seeks_more c.args.area.now c.loop-size.at c.loop-size.found c.loop-size.invariant.seeks (c.goes_on.ensures.0 c.loop-size-test.true)).inside

pub longer_place-found-requires-clause-found : goal.longer_place-found-requires-clause-found
longer_place-found-requires-clause-found c =
    let seeks = c.loop-size.invariant.seeks in
    found_inside c.args.area.now (longest (filter (λ (item : Item). not (is_name_item item)) seeks.front)) c.loop-size.found seeks.best

pub overflow_add-at : goal.overflow_add-at
overflow_add-at c =
    let inside = (seeks_more c.args.area.now c.loop-size.at c.loop-size.found c.loop-size.invariant.seeks (c.goes_on.ensures.0 c.loop-size-test.true)).inside in
    omega (arith, inside, c.size_at-size.ensures)

pub loop-size-preserved : goal.loop-size-preserved
loop-size-preserved c =
    let area = c.args.area.now in
    let at = c.loop-size.at in
    let steps = seeks_more area at c.loop-size.found c.loop-size.invariant.seeks (c.goes_on.ensures.0 c.loop-size-test.true) in
    record {
      inside = omega (arith, steps.inside, c.size_at-size.ensures);
      seeks = subst (λ (k : ℕ). Seeks area (at + k) c.longer_place-found.result) (sym c.size_at-size.ensures)
          (subst (λ (o : Option ℕ). Seeks area (at + size_in (drop at area)) o) (sym c.longer_place-found.ensures) steps.next);
    }

pub returns : goal.returns
returns c =
    seeks_end c.args.area.now c.loop-size.at c.loop-size.found c.loop-size.invariant.seeks
    (λ more. true≢false (sym (c.goes_on.ensures.1 more) ∙ c.loop-size-test.false))
