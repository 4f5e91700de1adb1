use Rattle.std.proofs.Common.{ℕ, [], ◌∷◌, ◌++◌, drop, refl, sym, subst, ◌∙◌, arith, length-drop}
use Rattle.std.proofs.lemmas.Bool.{true≢false}
use Rattle.bfs_smalldata.specs.Items.{Begins, Ends, RunsPast, item_in}
use Rattle.bfs_smalldata.proofs.Reading.{is_more}
use Rattle.bfs_smalldata.proofs.Standing.{stand_more, sizes_joined}
use Rattle.bfs_smalldata.proofs.Listing.{none_from, area_to, ends_or}
use Rattle.bfs_smalldata.proofs.walk.list_end.Goals as goal

pub returns-then-area-at-clause-err : goal.returns-then-area-at-clause-err
returns-then-area-at-clause-err c =
    let area = c.args.area.now in
    let at = c.loop-size.at in
    let behind = c.loop-size.invariant.behind in
    let past : RunsPast area at = record {
      items = behind.0;
      stand = behind.1;
      place = behind.2;
      goes_on = c.goes_on.ensures.0 c.loop-size-test.true;
      past = omega (arith, c.size_at-size.ensures, length-drop at area);
    } in
    (none_from area at past, past)

pub loop-size-preserved : goal.loop-size-preserved
loop-size-preserved c =
    let area = c.args.area.now in
    let at = c.loop-size.at in
    let behind = c.loop-size.invariant.behind in
    let begins : Begins (drop at area) (item_in (drop at area)) = record {
      goes_on = c.goes_on.ensures.0 c.loop-size-test.true;
      inside = omega (arith, c.size_at-size.ensures, length-drop at area);
      same = refl;
    } in
    record {
      inside = omega arith;
      behind = (
        behind.0 ++ item_in (drop at area) ∷ [],
        stand_more behind.0 area (item_in (drop at area)) behind.1 (subst (λ (k : ℕ). Begins (drop k area) (item_in (drop at area))) behind.2 begins),
        omega (arith, c.size_at-size.ensures, behind.2, is_more (drop at area) (item_in (drop at area)) begins, sizes_joined behind.0 (item_in (drop at area) ∷ [])),
      );
    }

pub returns-clause-ok : goal.returns-clause-ok
returns-clause-ok c =
    let area = c.args.area.now in
    let at = c.loop-size.at in
    let behind = c.loop-size.invariant.behind in
    let ends : Ends (drop at area) = ends_or (drop at area) (λ more. true≢false (sym (c.goes_on.ensures.1 more) ∙ c.loop-size-test.false)) in
    (behind.0, area_to area behind.0 (behind.1, subst (λ (k : ℕ). Ends (drop k area)) behind.2 ends), behind.2)
