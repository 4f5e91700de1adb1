use Rattle.std.proofs.Common.{rules, ◌≡◌, ◌∙◌, ◌∷◌, ◌++◌, ℕ, ℤ, List, Some, sym, ap, subst, w64, to_z, of_z}
use Rattle.bfs_pages.proofs.KeyOrder.{same_itself}
use Rattle.bfs_values.specs.Reached.{IsWholeTree}
use Rattle.bfs_values.specs.Rows.{rows_in}
use Rattle.bfs_values.specs.Stored.{Stored, SameNumbers}
use Rattle.bfs_index.proofs.Pairing.{stored_whole, same_self}
use Rattle.bfs_pages.specs.Answers.{IsOfPages}
use Rattle.bfs_index.proofs.Refusing.{valued_unpaired}
use Rattle.bfs_index.proofs.Told.{told_pages}
use Rattle.bfs_index.proofs.adding.write_value.Goals as goal

pub returns-then-value-row-clause-written : goal.returns-then-value-row-clause-written
returns-then-value-row-clause-written g c b t front back told s rows met has =
    let key = c.args.key.now in
    let sv : to_z w64 (of_z w64 c.args.value) ≡ c.args.value = search rules in
    let sr : to_z w64 (of_z w64 c.args.row.value) ≡ c.args.row.value = search rules in
    let e : c.args.value ≡ c.args.row.value = sym sv ∙ ap (to_z w64) c.if-value-row.true ∙ sr in
    let w = stored_whole c.args.kind b t (front ++ ((key, c.args.value) ∷ back)) (told_pages (g.P.Pages.told c.args.pages.now) (g.P.Pages.size c.args.pages.now) b (g.met.P.Pages.sized c.args.pages.now) (g.met.P.Pages.whole c.args.pages.now) told) s
    (rows ∙ ap (λ (z : ℤ). front ++ ((key, z) ∷ back)) (sym e)) in
    (b, told, (w.0, w.1, same_self b (front ++ ((key, c.args.value) ∷ back))))

pub returns-in-Ok-clause-written : goal.returns-in-Ok-clause-written
returns-in-Ok-clause-written g c b t front back told s rows met has =
    let key = c.args.key.now in
    let signed : to_z w64 (of_z w64 c.args.value) ≡ c.args.value = search rules in
    let x = c.in-Ok.ensures.whole b t front back key c.args.row.value told (subst (λ (z : ℤ). Stored c.args.kind b t (front ++ ((key, z) ∷ back))) (sym signed) s) rows (same_itself c.args.kind key) met has in
    subst (λ (z : ℤ). (e : List ℕ) × (g.P.Pages.told c.set_value.new.pages ≡ Some e) × (IsWholeTree c.args.kind e × (rows_in c.args.kind e ≡ front ++ ((key, z) ∷ back)) × SameNumbers b e (front ++ ((key, z) ∷ back)))) signed (x.0, x.1, (x.2, x.3, x.4))

pub returns-in-Absent-clause-written : goal.returns-in-Absent-clause-written
returns-in-Absent-clause-written g c b t front back told s rows met has =
    let key = c.args.key.now in
    let signed : to_z w64 (of_z w64 c.args.value) ≡ c.args.value = search rules in
    let x = c.in-Err.ensures.whole b t front back key c.args.row.value told (subst (λ (z : ℤ). Stored c.args.kind b t (front ++ ((key, z) ∷ back))) (sym signed) s) rows (same_itself c.args.kind key) met has in
    subst IsOfPages c.in-Absent.is x

pub returns-in_default : goal.returns-in_default
returns-in_default g c = record {
  written = λ b t front back told s rows met has.
      let signed : to_z w64 (of_z w64 c.args.value) ≡ c.args.value = search rules in
      c.in-Err.ensures.whole b t front back c.args.key.now c.args.row.value told (subst (λ (z : ℤ). Stored c.args.kind b t (front ++ ((c.args.key.now, z) ∷ back))) (sym signed) s) rows (same_itself c.args.kind c.args.key.now) met has;
  same = λ e. tt;
  refused = valued_unpaired c.args.kind c.args.key.now (g.P.Pages.told c.args.pages.now) (g.P.Pages.told c.set_value.new.pages) (g.P.Pages.is_cause c.args.pages.now c.set_value.new.pages) c.args.row.leaf c.in-Err.fault c.in_default.not-Absent c.in-Err.ensures.refused;
  kept = c.in-Err.ensures.kept;
}
