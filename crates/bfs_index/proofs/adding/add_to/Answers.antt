use Rattle.std.proofs.Common.{rules, ◌≡◌, ◌≤◌, ◌∙◌, ◌∷◌, ◌++◌, ℤ, List, Some, sym, ap, subst, w64, to_z, of_z}
use Rattle.bfs_base.specs.Lists.{times}
use Rattle.bfs_node.specs.Page.{Row, rows_of}
use Rattle.bfs_pages.specs.Maps.{assoc}
use Rattle.bfs_pages.specs.Trees.{page_in}
use Rattle.bfs_values.specs.Stored.{Stored, IsRevalued, with_number}
use Rattle.bfs_values.specs.Values.{HasValues, values_in}
use Rattle.bfs_values.proofs.Valued.{leaf-stays}
use Rattle.bfs_index.proofs.Outcomes.{row_means, add_result}
use Rattle.bfs_index.proofs.Refusing.{scant_lacking}
use Rattle.bfs_index.proofs.Told.{told_pages, on_ok_if, on_ok_told}
use Rattle.bfs_index.proofs.adding.add_to.Goals as goal

pub returns-in-Ok-clause-added : goal.returns-in-Ok-clause-added
returns-in-Ok-clause-added g c b t front back told s rows met has =
    let v = c.args.row.value in
    let key = c.args.key.now in
    let sv : to_z w64 (of_z w64 v) ≡ v = search rules in
    let w = c.in-Ok.value in
    let sw : to_z w64 (of_z w64 w) ≡ w = search rules in
    let a = c.in-Ok.ensures.added b t front back key told (subst (λ (z : ℤ). Stored c.args.kind b t (front ++ ((key, z) ∷ back))) (sym sv) s) (rows ∙ ap (λ (z : ℤ). front ++ ((key, z) ∷ back)) (sym sv)) met in
    let rev : IsRevalued c.args.kind b a.0 t front key back w (with_number c.args.id (values_in b v)) = subst (λ (z : ℤ). IsRevalued c.args.kind b a.0 t front key back w (with_number c.args.id (values_in b z))) sv a.2 in
    let there : assoc c.args.kind (rows_of (page_in a.0 c.args.row.leaf)) key ≡ Some v =
    ap (λ (l : List Row). assoc c.args.kind l key) (leaf-stays c.args.kind b a.0 s.reached rev.stored.reached t s.free rev.stored.free c.args.row.leaf s.tree rev.stored.tree met) ∙ has in
    add_result c.args.kind b t front key v back c.args.id (told_pages (g.P.Pages.told c.args.pages.now) (g.P.Pages.size c.args.pages.now) b (g.met.P.Pages.sized c.args.pages.now) (g.met.P.Pages.whole c.args.pages.now) told) s rows a.0 w (to_z w64 (of_z w64 w)) sw rev (g.P.Pages.told c.write_value.new.pages) c.write_value.result
    (c.write_value.ensures.written a.0 t front back a.1 (subst (λ (z : ℤ). Stored c.args.kind a.0 t (front ++ ((key, z) ∷ back))) (sym sw) rev.stored) rows met there)
    (on_ok_if (1 ≤ times c.args.id (values_in b v)) (g.P.Pages.told c.write_value.new.pages ≡ Some b) c.write_value.result
    (λ some.
    let same = c.in-Ok.ensures.there b told (subst (HasValues b) (sym sv) (row_means c.args.kind b t front key v back s)) (subst (λ (z : ℤ). 1 ≤ times c.args.id (values_in b z)) (sym sv) some) in
    on_ok_told (g.P.Pages.told c.write_value.new.pages) (g.P.Pages.told c.dups_add.new.pages) b c.write_value.result (c.write_value.ensures.same (sw ∙ same.0 ∙ sv)) (same.1 ∙ told)))

pub returns-in-Err-clause-added : goal.returns-in-Err-clause-added
returns-in-Err-clause-added g c b t front back told s rows met has =
    let v = c.args.row.value in
    let key = c.args.key.now in
    let sv : to_z w64 (of_z w64 v) ≡ v = search rules in
    scant_lacking (g.P.Pages.told c.dups_add.new.pages) c.in-Err.fault
    (c.in-Err.ensures.added b t front back key told (subst (λ (z : ℤ). Stored c.args.kind b t (front ++ ((key, z) ∷ back))) (sym sv) s) (rows ∙ ap (λ (z : ℤ). front ++ ((key, z) ∷ back)) (sym sv)) met)
