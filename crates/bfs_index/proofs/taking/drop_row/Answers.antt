use Rattle.std.proofs.Common.{rules, ◌≡◌, ◌∙◌, ◌++◌, ℤ, Some, None, sym, subst, w64, to_z, of_z}
use Rattle.bfs_values.specs.Laws.{IsPlain}
use Rattle.bfs_remove.specs.Removed.{IsNotTaken}
use Rattle.bfs_index.proofs.Pairing.{row_dropped, row_there, stored_plain, same_but, same_twice}
use Rattle.bfs_index.proofs.Refusing.{untaken_pages, withheld_unpaired, unpaired_before}
use Rattle.bfs_index.proofs.Told.{told_pages, kept_twice}
use Rattle.bfs_index.proofs.taking.drop_row.Goals as goal

pub returns-in-Ok-remove-clause-dropped : goal.returns-in-Ok-remove-clause-dropped
returns-in-Ok-remove-clause-dropped g c b t front back told s rows met has =
    let key = c.args.key.now in
    let v : ℤ = to_z w64 (of_z w64 c.plain_value-plain.result) in
    let signed : to_z w64 (of_z w64 c.plain_value-plain.result) ≡ c.plain_value-plain.result = search rules in
    let plain : IsPlain v = subst IsPlain (sym signed) c.plain_value-plain.ensures in
    let stored = stored_plain c.args.kind b t front back c.args.key.now v (told_pages (g.P.Pages.told c.args.pages.now) (g.P.Pages.size c.args.pages.now) b (g.met.P.Pages.sized c.args.pages.now) (g.met.P.Pages.whole c.args.pages.now) told) plain s in
    let w = c.in-Ok.ensures.written b t front back told stored rows met has in
    let d = w.2.0 in
    let x = c.in-Ok-remove.ensures.removed w.0 d.reached d.shape d.free w.1 d.tree in
    let r = row_dropped c.args.kind w.0 x.0 key v front back plain d w.2.1 (told_pages (g.P.Pages.told c.remove.new.pages) (g.P.Pages.size c.remove.new.pages) x.0 (g.met.P.Pages.sized c.remove.new.pages) (g.met.P.Pages.whole c.remove.new.pages) x.1) x.2 x.3 in
    let kept = same_but b w.0 front (key, v) back w.2.2 in
    (x.0, x.1, (r.0, r.1, same_twice b w.0 x.0 (front ++ back) kept.0 r.2))

pub returns-in-Absent-clause-dropped : goal.returns-in-Absent-clause-dropped
returns-in-Absent-clause-dropped g c b t front back told s rows met has =
    let key = c.args.key.now in
    let v : ℤ = to_z w64 (of_z w64 c.plain_value-plain.result) in
    let signed : to_z w64 (of_z w64 c.plain_value-plain.result) ≡ c.plain_value-plain.result = search rules in
    let plain : IsPlain v = subst IsPlain (sym signed) c.plain_value-plain.ensures in
    let stored = stored_plain c.args.kind b t front back c.args.key.now v (told_pages (g.P.Pages.told c.args.pages.now) (g.P.Pages.size c.args.pages.now) b (g.met.P.Pages.sized c.args.pages.now) (g.met.P.Pages.whole c.args.pages.now) told) plain s in
    let w = c.in-Ok.ensures.written b t front back told stored rows met has in
    let d = w.2.0 in
    let none = subst (λ f. IsNotTaken c.args.kind d.shape key f) c.in-Absent.is (c.in-Err-remove.ensures.removed w.0 d.reached d.shape d.free w.1 d.tree) in
    absurd (none_some (sym none ∙ row_there c.args.kind w.0 key v front back d w.2.1))
  where
    none_some : {v : ℤ} → None ≡ Some v → ⊥
    none_some e = cc

pub returns-in-Err-clause-dropped : goal.returns-in-Err-clause-dropped
returns-in-Err-clause-dropped g c b t front back told s rows met has =
    let v : ℤ = to_z w64 (of_z w64 c.plain_value-plain.result) in
    let signed : to_z w64 (of_z w64 c.plain_value-plain.result) ≡ c.plain_value-plain.result = search rules in
    let plain : IsPlain v = subst IsPlain (sym signed) c.plain_value-plain.ensures in
    let stored = stored_plain c.args.kind b t front back c.args.key.now v (told_pages (g.P.Pages.told c.args.pages.now) (g.P.Pages.size c.args.pages.now) b (g.met.P.Pages.sized c.args.pages.now) (g.met.P.Pages.whole c.args.pages.now) told) plain s in
    c.in-Err.ensures.written b t front back told stored rows met has

pub returns-in_default : goal.returns-in_default
returns-in_default g c = record {
  dropped = λ b t front back told s rows met has.
      let v : ℤ = to_z w64 (of_z w64 c.plain_value-plain.result) in
      let signed : to_z w64 (of_z w64 c.plain_value-plain.result) ≡ c.plain_value-plain.result = search rules in
      let plain : IsPlain v = subst IsPlain (sym signed) c.plain_value-plain.ensures in
      let stored = stored_plain c.args.kind b t front back c.args.key.now v (told_pages (g.P.Pages.told c.args.pages.now) (g.P.Pages.size c.args.pages.now) b (g.met.P.Pages.sized c.args.pages.now) (g.met.P.Pages.whole c.args.pages.now) told) plain s in
      let w = c.in-Ok.ensures.written b t front back told stored rows met has in
      let d = w.2.0 in
      untaken_pages c.args.kind d.shape c.args.key.now c.in-Err-remove.fault c.in_default.not-Absent (c.in-Err-remove.ensures.removed w.0 d.reached d.shape d.free w.1 d.tree);
  refused = unpaired_before c.args.kind c.args.key.now (g.P.Pages.told c.remove.new.pages) (g.P.Pages.is_cause c.write_value.new.pages c.remove.new.pages) (g.P.Pages.is_cause c.args.pages.now c.remove.new.pages) c.in-Err-remove.fault
      (λ f. g.met.P.Pages.is_cause_before c.args.pages.now c.write_value.new.pages c.remove.new.pages f c.in-Ok.ensures.kept.goes_on)
      (withheld_unpaired c.args.kind c.args.key.now (g.P.Pages.told c.write_value.new.pages) (g.P.Pages.told c.remove.new.pages) (g.P.Pages.is_cause c.write_value.new.pages c.remove.new.pages) c.in-Err-remove.fault c.in_default.not-Absent c.in-Err-remove.ensures.refused);
  kept = kept_twice c.in-Ok.ensures.kept c.in-Err-remove.ensures.kept (g.met.P.Pages.goes_on_twice c.args.pages.now c.write_value.new.pages c.remove.new.pages);
}
