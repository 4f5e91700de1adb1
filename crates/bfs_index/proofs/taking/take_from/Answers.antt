use Rattle.std.proofs.Common.{rules, ◌≡◌, ◌<◌, ◌^◌, ◌∙◌, ◌∷◌, ◌++◌, ℤ, List, Option, Some, None, sym, ap, subst, arith, w64, to_z, of_z}
use Rattle.bfs_base.specs.Lists.{times}
use Rattle.bfs_node.specs.Page.{Row, rows_of}
use Rattle.bfs_pages.specs.Maps.{assoc}
use Rattle.bfs_pages.specs.Trees.{page_in}
use Rattle.bfs_values.specs.Stored.{Stored}
use Rattle.bfs_values.specs.Values.{HasValues, values_in}
use Rattle.bfs_values.proofs.Valued.{leaf-stays}
use Rattle.bfs_dups_remove.specs.Lessened.{without_number, IsLessened}
use Rattle.bfs_index.proofs.Outcomes.{row_means, less_result, drop_result}
use Rattle.bfs_index.proofs.Told.{told_pages, on_ok_if, on_ok_told}
use Rattle.bfs_index.proofs.taking.take_from.Goals as goal

some_same : (x y : ℤ) → Some x ≡ Some y → x ≡ y
some_same x y e = cc

none_some : (x : ℤ) → None ≡ Some x → ⊥
none_some x e = cc

pub returns-in-Ok-Some-clause-taken : goal.returns-in-Ok-Some-clause-taken
returns-in-Ok-Some-clause-taken g c b t front back told s rows met has =
    let v = c.args.row.value in
    let key = c.args.key.now in
    let id = c.args.id in
    let sv : to_z w64 (of_z w64 v) ≡ v = search rules in
    let w = c.in-Ok-Some.value in
    let sw : to_z w64 (of_z w64 w) ≡ w = search rules in
    let a = c.in-Ok-Some.ensures.removed b t front back key told (subst (λ (z : ℤ). Stored c.args.kind b t (front ++ ((key, z) ∷ back))) (sym sv) s) (rows ∙ ap (λ (z : ℤ). front ++ ((key, z) ∷ back)) (sym sv)) met in
    let less : IsLessened c.args.kind b a.0 t front key back (without_number id (values_in b v)) (Some w) =
    subst (λ (x : ℤ × Option ℤ). IsLessened c.args.kind b a.0 t front key back (without_number id (values_in b x.0)) x.1) (λ i. (sv i, c.in-Ok-Some.field-0-is i)) a.2 in
    let rev = less.1 in
    let there : assoc c.args.kind (rows_of (page_in a.0 c.args.row.leaf)) key ≡ Some v =
    ap (λ (l : List Row). assoc c.args.kind l key) (leaf-stays c.args.kind b a.0 s.reached rev.stored.reached t s.free rev.stored.free c.args.row.leaf s.tree rev.stored.tree met) ∙ has in
    less_result c.args.kind b t front key v back id (told_pages (g.P.Pages.told c.args.pages.now) (g.P.Pages.size c.args.pages.now) b (g.met.P.Pages.sized c.args.pages.now) (g.met.P.Pages.whole c.args.pages.now) told) s rows a.0 w (to_z w64 (of_z w64 w)) sw rev (g.P.Pages.told c.write_value.new.pages) c.write_value.result
    (c.write_value.ensures.written a.0 t front back a.1 (subst (λ (z : ℤ). Stored c.args.kind a.0 t (front ++ ((key, z) ∷ back))) (sym sw) rev.stored) rows met there)
    (on_ok_if (times id (values_in b v) ≡ 0) (g.P.Pages.told c.write_value.new.pages ≡ Some b) c.write_value.result
    (λ none.
    let same = c.in-Ok-Some.ensures.absent b told (subst (HasValues b) (sym sv) (row_means c.args.kind b t front key v back s)) (subst (λ (z : ℤ). times id (values_in b z) ≡ 0) (sym sv) none) in
    let is : w ≡ to_z w64 (of_z w64 v) = some_same w (to_z w64 (of_z w64 v)) (sym c.in-Ok-Some.field-0-is ∙ same.0) in
    on_ok_told (g.P.Pages.told c.write_value.new.pages) (g.P.Pages.told c.dups_remove.new.pages) b c.write_value.result (c.write_value.ensures.same (sw ∙ is ∙ sv)) (same.1 ∙ told)))

pub returns-in-Ok-None-clause-taken : goal.returns-in-Ok-None-clause-taken
returns-in-Ok-None-clause-taken g c b t front back told s rows met has =
    let v = c.args.row.value in
    let key = c.args.key.now in
    let id = c.args.id in
    let sv : to_z w64 (of_z w64 v) ≡ v = search rules in
    let a = c.in-Ok-None.ensures.removed b t front back key told (subst (λ (z : ℤ). Stored c.args.kind b t (front ++ ((key, z) ∷ back))) (sym sv) s) (rows ∙ ap (λ (z : ℤ). front ++ ((key, z) ∷ back)) (sym sv)) met in
    let less : IsLessened c.args.kind b a.0 t front key back (without_number id (values_in b v)) None =
    subst (λ (x : ℤ × Option ℤ). IsLessened c.args.kind b a.0 t front key back (without_number id (values_in b x.0)) x.1) (λ i. (sv i, c.in-Ok-None.field-0-is i)) a.2 in
    let small : 0 < 2 ^ 62 = omega arith in
    let zero = less.1 0 small in
    let there : assoc c.args.kind (rows_of (page_in a.0 c.args.row.leaf)) key ≡ Some v =
    ap (λ (l : List Row). assoc c.args.kind l key) (leaf-stays c.args.kind b a.0 s.reached zero.reached t s.free zero.free c.args.row.leaf s.tree zero.tree met) ∙ has in
    drop_result c.args.kind b t front key v back id (told_pages (g.P.Pages.told c.args.pages.now) (g.P.Pages.size c.args.pages.now) b (g.met.P.Pages.sized c.args.pages.now) (g.met.P.Pages.whole c.args.pages.now) told) s rows a.0 less.0 less.2
    (λ none.
    let same = c.in-Ok-None.ensures.absent b told (subst (HasValues b) (sym sv) (row_means c.args.kind b t front key v back s)) (subst (λ (z : ℤ). times id (values_in b z) ≡ 0) (sym sv) none) in
    none_some (to_z w64 (of_z w64 v)) (sym c.in-Ok-None.field-0-is ∙ same.0))
    (g.P.Pages.told c.drop_row.new.pages) c.drop_row.result (c.drop_row.ensures.dropped a.0 t front back a.1 zero rows met there)

pub returns-in-Err-clause-taken : goal.returns-in-Err-clause-taken
returns-in-Err-clause-taken g c b t front back told s rows met has =
    let v = c.args.row.value in
    let key = c.args.key.now in
    let sv : to_z w64 (of_z w64 v) ≡ v = search rules in
    c.in-Err.ensures.removed b t front back key told (subst (λ (z : ℤ). Stored c.args.kind b t (front ++ ((key, z) ∷ back))) (sym sv) s) (rows ∙ ap (λ (z : ℤ). front ++ ((key, z) ∷ back)) (sym sv)) met
