use Rattle.std.proofs.Common.{◌+◌, ◌≡◌, ◌<◌, ◌≤◌, ◌*◌, ◌∙◌, ◌⊎◌, inl, inr, ℕ, List, Bool, Option, Some, ap, sym, subst, arith}
use Rattle.std.specs.Prelude.{length, Result, Ok, Err, IfOk, OnOk}
use Rattle.bfs_stream.specs.declared.fault.GrowFault.{GrowFault}
use Rattle.std.proofs.Math.Nat.{mul_comm}
use Rattle.bfs_bytes.specs.declared.Run.{Run}
use Rattle.bfs_stream.specs.Sizes.{runs_per_block, array_length}
use Rattle.bfs_stream.specs.Places.{fields, used_runs, array_runs}
use Rattle.bfs_stream.specs.Told.{contents}
use Rattle.bfs_stream.proofs.Arrays.{length-array}
use Rattle.bfs_stream.proofs.Doubles.{length-used}
use Rattle.bfs_growth.proofs.Twice.{grown_after}
use Rattle.std.proofs.lemmas.Result.{IfOk-weaker}
use Rattle.bfs_stream.proofs.Listed.{some_array}
use Rattle.bfs_stream.specs.Grown.{HasGrown, UsesDouble}
use Rattle.bfs_growth.proofs.Stops.{stop_after}
use Rattle.bfs_growth.proofs.next.add_behind.Goals as goal

some_of : (a b : ℕ) → 128 ≤ a → 0 < b → 0 < a * b
some_of a b h g = grind (arith, h, g)

pub returns-clause-grown : goal.returns-clause-grown
returns-clause-grown g c m is owns has =
    let o = c.args.stream.now in
    let s = o.sizes in
    let own = (fields o.sizes (contents m) o.id).indirect in
    let runs = array_runs s (contents m) own in
    let table = c.in-Ok.ensures.is m is owns.stands in
    let now_is = c.in-Ok.ensures.told ∙ is in
    let used_is : c.in-Ok.table.used ≡ length (used_runs runs) = table.1 ∙ ap (λ (r : Run). length (used_runs (array_runs s (contents m) r))) table.0 in
    let size : length runs ≡ runs_per_block s * own.len = length-array s (contents m) own in
    let room : c.from.result * c.runs_per_block.result ≡ length runs =
    ap (λ (n : ℕ). n * c.runs_per_block.result) (c.from.ensures ∙ ap (λ (r : Run). r.len) table.0)
    ∙ ap (λ (n : ℕ). own.len * n) c.runs_per_block.ensures.value
    ∙ mul_comm own.len (runs_per_block s)
    ∙ sym size in
    let le = length-used runs in
    let past = c.if-table-from.false in
    let full : length (used_runs runs) ≡ length runs = omega (arith, used_is, room, le, past) in
    let per = c.runs_per_block.ensures.some in
    let per_is = c.runs_per_block.ensures.value in
    let long : 0 < runs_per_block s * own.len = some_of (runs_per_block s) own.len (omega (arith, per, per_is)) has.1 in
    let some : 0 < length (used_runs runs) = omega (arith, full, size, long) in
    let one = c.in-Ok-open_second.ensures.grown m now_is owns some full in
    let ready = c.in-Ok-open_second.ensures.ready m now_is owns some full one.2.map one.2.is in
    subst (λ (f : ℕ → Bool). IfOk c.add_below.result (λ k. HasGrown o c.args.bitmap.now c.add_below.new.bitmap m k (g.E.Blocks.told c.add_below.new.edits) f (g.E.Blocks.changed c.add_below.new.edits))) c.in-Ok.ensures.changed
    (grown_after o c.args.bitmap.now c.open_second.new.bitmap c.add_below.new.bitmap m (g.E.Blocks.told c.open_second.new.edits) (g.E.Blocks.told c.add_below.new.edits) (g.E.Blocks.changed c.table.new.under) (g.E.Blocks.changed c.open_second.new.edits) (g.E.Blocks.changed c.add_below.new.edits) one c.in-Ok-open_second.ensures.rest c.add_below.result
    (c.add_below.ensures.grown one.2.map one.2.is one.2.owns ready))

pub returns-then-table-from-clause-most : goal.returns-then-table-from-clause-most
returns-then-table-from-clause-most g c =
    let long = some_array c.args.stream.now.sizes in
    IfOk-weaker c.add_indirect.result (λ n. n ≤ c.args.longest) (λ n. n < c.args.longest + array_length c.args.stream.now.sizes) (λ n few. omega (arith, long, few)) c.add_indirect.ensures.most

pub returns-clause-most : goal.returns-clause-most
returns-clause-most g c =
    let some = c.requires.longest in
    IfOk-weaker c.add_below.result (λ n. n ≤ array_length c.args.stream.now.sizes) (λ n. n < c.args.longest + array_length c.args.stream.now.sizes) (λ n few. omega (arith, some, few)) c.add_below.ensures.most

pub returns-clause-faults : goal.returns-clause-faults
returns-clause-faults g c m is owns has =
    let o = c.args.stream.now in
    let s = o.sizes in
    let own = (fields o.sizes (contents m) o.id).indirect in
    let runs = array_runs s (contents m) own in
    let table = c.in-Ok.ensures.is m is owns.stands in
    let now_is = c.in-Ok.ensures.told ∙ is in
    let used_is : c.in-Ok.table.used ≡ length (used_runs runs) = table.1 ∙ ap (λ (r : Run). length (used_runs (array_runs s (contents m) r))) table.0 in
    let size : length runs ≡ runs_per_block s * own.len = length-array s (contents m) own in
    let room : c.from.result * c.runs_per_block.result ≡ length runs =
    ap (λ (n : ℕ). n * c.runs_per_block.result) (c.from.ensures ∙ ap (λ (r : Run). r.len) table.0)
    ∙ ap (λ (n : ℕ). own.len * n) c.runs_per_block.ensures.value
    ∙ mul_comm own.len (runs_per_block s)
    ∙ sym size in
    let le = length-used runs in
    let past = c.if-table-from.false in
    let full : length (used_runs runs) ≡ length runs = omega (arith, used_is, room, le, past) in
    let per = c.runs_per_block.ensures.some in
    let per_is = c.runs_per_block.ensures.value in
    let long : 0 < runs_per_block s * own.len = some_of (runs_per_block s) own.len (omega (arith, per, per_is)) has.1 in
    let some : 0 < length (used_runs runs) = omega (arith, full, size, long) in
    let one = c.in-Ok-open_second.ensures.grown m now_is owns some full in
    let ready = c.in-Ok-open_second.ensures.ready m now_is owns some full one.2.map one.2.is in
    stop_after o c.args.bitmap.now c.open_second.new.bitmap m (g.E.Blocks.told c.open_second.new.edits) (g.E.Blocks.changed c.table.new.under) (g.E.Blocks.changed c.open_second.new.edits) one c.in-Ok-open_second.ensures.rest c.add_below.result
    (c.add_below.ensures.faults one.2.map one.2.is one.2.owns ready)

pub returns-in-Err-open_second-clause-faults : goal.returns-in-Err-open_second-clause-faults
returns-in-Err-open_second-clause-faults g c m is owns has =
    let o = c.args.stream.now in
    let s = o.sizes in
    let own = (fields o.sizes (contents m) o.id).indirect in
    let runs = array_runs s (contents m) own in
    let table = c.in-Ok.ensures.is m is owns.stands in
    let now_is = c.in-Ok.ensures.told ∙ is in
    let used_is : c.in-Ok.table.used ≡ length (used_runs runs) = table.1 ∙ ap (λ (r : Run). length (used_runs (array_runs s (contents m) r))) table.0 in
    let size : length runs ≡ runs_per_block s * own.len = length-array s (contents m) own in
    let room : c.from.result * c.runs_per_block.result ≡ length runs =
    ap (λ (n : ℕ). n * c.runs_per_block.result) (c.from.ensures ∙ ap (λ (r : Run). r.len) table.0)
    ∙ ap (λ (n : ℕ). own.len * n) c.runs_per_block.ensures.value
    ∙ mul_comm own.len (runs_per_block s)
    ∙ sym size in
    let le = length-used runs in
    let past = c.if-table-from.false in
    let full : length (used_runs runs) ≡ length runs = omega (arith, used_is, room, le, past) in
    let per = c.runs_per_block.ensures.some in
    let per_is = c.runs_per_block.ensures.value in
    let long : 0 < runs_per_block s * own.len = some_of (runs_per_block s) own.len (omega (arith, per, per_is)) has.1 in
    let some : 0 < length (used_runs runs) = omega (arith, full, size, long) in
    c.in-Err-open_second.ensures.faults m now_is owns some full

pub returns-clause-exact : goal.returns-clause-exact
returns-clause-exact g c m is owns has =
    let o = c.args.stream.now in
    let s = o.sizes in
    let own = (fields o.sizes (contents m) o.id).indirect in
    let runs = array_runs s (contents m) own in
    let table = c.in-Ok.ensures.is m is owns.stands in
    let now_is = c.in-Ok.ensures.told ∙ is in
    let used_is : c.in-Ok.table.used ≡ length (used_runs runs) = table.1 ∙ ap (λ (r : Run). length (used_runs (array_runs s (contents m) r))) table.0 in
    let size : length runs ≡ runs_per_block s * own.len = length-array s (contents m) own in
    let room : c.from.result * c.runs_per_block.result ≡ length runs =
    ap (λ (n : ℕ). n * c.runs_per_block.result) (c.from.ensures ∙ ap (λ (r : Run). r.len) table.0)
    ∙ ap (λ (n : ℕ). own.len * n) c.runs_per_block.ensures.value
    ∙ mul_comm own.len (runs_per_block s)
    ∙ sym size in
    let le = length-used runs in
    let past = c.if-table-from.false in
    let full : length (used_runs runs) ≡ length runs = omega (arith, used_is, room, le, past) in
    let per = c.runs_per_block.ensures.some in
    let per_is = c.runs_per_block.ensures.value in
    let long : 0 < runs_per_block s * own.len = some_of (runs_per_block s) own.len (omega (arith, per, per_is)) has.1 in
    let some : 0 < length (used_runs runs) = omega (arith, full, size, long) in
    let one = c.in-Ok-open_second.ensures.grown m now_is owns some full in
    let ready = c.in-Ok-open_second.ensures.ready m now_is owns some full one.2.map one.2.is in
    by_result c.add_below.result (λ added. (n : ℕ → Option (List ℕ)) → g.E.Blocks.told c.add_below.new.edits ≡ Some n → (added ≤ c.args.longest) ⊎ UsesDouble o n) (λ added uses n now. inr (uses n now)) (c.add_below.ensures.uses one.2.map one.2.is one.2.owns ready)
  where
    by_result : {P : Type 0} (r : Result ℕ GrowFault) (Q : ℕ → Type 0) → ((added : ℕ) → P → Q added) → OnOk r P → IfOk r Q
    by_result (Ok x) Q f p = f x p
    by_result (Err x) Q f p = p

pub returns-then-table-from-clause-exact : goal.returns-then-table-from-clause-exact
returns-then-table-from-clause-exact g c m is owns has =
    IfOk-weaker c.add_indirect.result (λ n. n ≤ c.args.longest) (λ added. (n : ℕ → Option (List ℕ)) → g.E.Blocks.told c.add_indirect.new.edits ≡ Some n → (added ≤ c.args.longest) ⊎ UsesDouble c.args.stream.now n) (λ added few n now. inl few) c.add_indirect.ensures.most

pub returns-then-table-from-clause-grown : goal.returns-then-table-from-clause-grown
returns-then-table-from-clause-grown g c m is owns has =
    let o = c.args.stream.now in
    let table = c.in-Ok.ensures.is m is owns.stands in
    let now_is = c.in-Ok.ensures.told ∙ is in
    subst (λ (f : ℕ → Bool). IfOk c.add_indirect.result (λ k. HasGrown o c.args.bitmap.now c.add_indirect.new.bitmap m k (g.E.Blocks.told c.add_indirect.new.edits) f (g.E.Blocks.changed c.add_indirect.new.edits))) c.in-Ok.ensures.changed
    (c.add_indirect.ensures.grown m now_is owns table)
