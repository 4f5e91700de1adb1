use Rattle.std.proofs.Common.{◌≡◌, ◌<◌, ◌∙◌, inr, ℕ, List, Bool, Option, ap, subst, arith}
use Rattle.std.specs.Prelude.{length, IfOk}
use Rattle.bfs_bytes.specs.declared.Run.{Run}
use Rattle.bfs_stream.specs.Sizes.{array_length}
use Rattle.bfs_stream.specs.Places.{fields, used_runs}
use Rattle.bfs_stream.specs.Told.{contents}
use Rattle.bfs_stream.specs.Grown.{table_runs, UsesDouble}
use Rattle.bfs_stream.specs.Trimmed.{HasCut}
use Rattle.bfs_stream.proofs.Equal.{same_map}
use Rattle.bfs_cuts.proofs.CutTwice.{has_cut_none, may_fewer, spare_double, uses_double}
use Rattle.bfs_cuts.proofs.trimming.cut_tables.Goals as goal

pub returns-then-tables-eq0-clause-trimmed : goal.returns-then-tables-eq0-clause-trimmed
returns-then-tables-eq0-clause-trimmed g c m is owns some may = has_cut_none c.args.stream.now c.args.bitmap.now m (g.E.Blocks.told c.tables.new.under) (g.E.Blocks.changed c.args.edits.now) (g.E.Blocks.changed c.tables.new.under) owns (c.in-Ok.ensures.told ∙ is) c.in-Ok.ensures.changed

pub returns-then-tables-eq0-clause-done : goal.returns-then-tables-eq0-clause-done
returns-then-tables-eq0-clause-done g c m is owns some spare now told_is zero =
    let o = c.args.stream.now in
    let t = c.in-Ok.ensures.are m is owns.stands some in
    let used : c.in-Ok.tables.used ≡ length (used_runs (table_runs o.sizes (contents m) (fields o.sizes (contents m) o.id).double_indirect)) = t.2 ∙ ap (λ (r : Run). length (used_runs (table_runs o.sizes (contents m) r))) t.0 in
    let e = c.if-tables-eq0.true in
    absurd (spare_double o m c.args.most some spare (omega (arith, used, e)))

pub returns-then-most-array_length-clause-trimmed : goal.returns-then-most-array_length-clause-trimmed
returns-then-most-array_length-clause-trimmed g c m is owns some may = has_cut_none c.args.stream.now c.args.bitmap.now m (g.E.Blocks.told c.tables.new.under) (g.E.Blocks.changed c.args.edits.now) (g.E.Blocks.changed c.tables.new.under) owns (c.in-Ok.ensures.told ∙ is) c.in-Ok.ensures.changed

pub returns-then-most-array_length-clause-done : goal.returns-then-most-array_length-clause-done
returns-then-most-array_length-clause-done g c m is owns some spare n told_is zero =
    let o = c.args.stream.now in
    let s = o.sizes in
    let t = c.in-Ok.ensures.are m is owns.stands some in
    let few = c.if-most-array_length.true in
    let value = c.array_length.ensures.value in
    let least : c.args.most < array_length s = omega (arith, few, value) in
    let long : c.in-Ok.tables.used ≡ length (used_runs (table_runs s (contents m) (fields s (contents m) o.id).double_indirect)) = t.2 ∙ ap (λ (r : Run). length (used_runs (table_runs s (contents m) r))) t.0 in
    let e = c.if-tables-eq0.false in
    let uses : UsesDouble o m = uses_double o m (omega (arith, long, e)) in
    let same = same_map m n (g.E.Blocks.told c.tables.new.under) (c.in-Ok.ensures.told ∙ is) told_is in
    inr (inr (least, subst (λ (x : ℕ → Option (List ℕ)). UsesDouble o x) same uses))

pub returns-clause-trimmed : goal.returns-clause-trimmed
returns-clause-trimmed g c m is owns some may =
    let o = c.args.stream.now in
    let s = o.sizes in
    let v = c.args.bitmap.now in
    let t = c.in-Ok.ensures.are m is owns.stands some in
    let now_is = c.in-Ok.ensures.told ∙ is in
    let few = c.if-most-array_length.false in
    let value = c.array_length.ensures.value in
    let may1 = may_fewer o m c.args.most (array_length s) (omega (arith, few, value)) may in
    subst (λ (f : ℕ → Bool). IfOk c.cut_below.result (λ k. HasCut o v c.cut_below.new.bitmap m k (g.E.Blocks.told c.cut_below.new.edits) f (g.E.Blocks.changed c.cut_below.new.edits))) c.in-Ok.ensures.changed
    (c.cut_below.ensures.trimmed m now_is owns t may1)

pub returns-clause-sound : goal.returns-clause-sound
returns-clause-sound g c m is owns some =
    let t = c.in-Ok.ensures.are m is owns.stands some in
    c.cut_below.ensures.sound m (c.in-Ok.ensures.told ∙ is) owns t
