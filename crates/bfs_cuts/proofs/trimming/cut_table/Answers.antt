use Rattle.std.proofs.Common.{◌≡◌, ◌∙◌, ℕ, Bool, subst, arith, inl, ap}
use Rattle.std.specs.Prelude.{length, IfOk}
use Rattle.bfs_bytes.specs.declared.Run.{Run}
use Rattle.bfs_stream.specs.Places.{used_runs, array_runs, fields}
use Rattle.bfs_stream.specs.Told.{contents}
use Rattle.bfs_stream.specs.Trimmed.{HasCut}
use Rattle.bfs_cuts.proofs.CutTwice.{has_cut_none, spare_table}
use Rattle.bfs_cuts.proofs.trimming.cut_table.Goals as goal

pub returns-then-table-eq0-clause-trimmed : goal.returns-then-table-eq0-clause-trimmed
returns-then-table-eq0-clause-trimmed g c m is owns some none may = has_cut_none c.args.stream.now c.args.bitmap.now m (g.E.Blocks.told c.table.new.under) (g.E.Blocks.changed c.args.edits.now) (g.E.Blocks.changed c.table.new.under) owns (c.in-Ok.ensures.told ∙ is) c.in-Ok.ensures.changed

pub returns-then-table-eq0-clause-done : goal.returns-then-table-eq0-clause-done
returns-then-table-eq0-clause-done g c m is owns some none spare now told_is zero =
    let o = c.args.stream.now in
    let t = c.in-Ok.ensures.is m is owns.stands in
    let used : c.in-Ok.table.used ≡ length (used_runs (array_runs o.sizes (contents m) (fields o.sizes (contents m) o.id).indirect)) = t.1 ∙ ap (λ (r : Run). length (used_runs (array_runs o.sizes (contents m) r))) t.0 in
    let e = c.if-table-eq0.true in
    absurd (spare_table o m c.args.most some none spare (omega (arith, used, e)))

pub returns-then-most-eq0-clause-trimmed : goal.returns-then-most-eq0-clause-trimmed
returns-then-most-eq0-clause-trimmed g c m is owns some none may = has_cut_none c.args.stream.now c.args.bitmap.now m (g.E.Blocks.told c.table.new.under) (g.E.Blocks.changed c.args.edits.now) (g.E.Blocks.changed c.table.new.under) owns (c.in-Ok.ensures.told ∙ is) c.in-Ok.ensures.changed

pub returns-clause-trimmed : goal.returns-clause-trimmed
returns-clause-trimmed g c m is owns some none may =
    let o = c.args.stream.now in
    let s = o.sizes in
    let v = c.args.bitmap.now in
    let t = c.in-Ok.ensures.is m is owns.stands in
    let now_is = c.in-Ok.ensures.told ∙ is in
    subst (λ (f : ℕ → Bool). IfOk c.cut_indirect.result (λ k. HasCut o v c.cut_indirect.new.bitmap m k (g.E.Blocks.told c.cut_indirect.new.edits) f (g.E.Blocks.changed c.cut_indirect.new.edits))) c.in-Ok.ensures.changed
    (c.cut_indirect.ensures.trimmed m now_is owns t none may)

pub returns-then-most-eq0-clause-done : goal.returns-then-most-eq0-clause-done
returns-then-most-eq0-clause-done g c m is owns some none spare now told_is zero = inl c.if-most-eq0.true
