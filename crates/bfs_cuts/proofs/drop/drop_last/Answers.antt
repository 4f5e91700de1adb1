use Rattle.std.proofs.Common.{◌≡◌, ◌≤◌, ◌<◌, ◌+◌, ◌-◌, ◌*◌, ◌/◌, ◌%◌, ◌∙◌, inr, ℕ, length, refl, sym, ap, arith}
use Rattle.std.specs.Prelude.{Result, Ok, Err, OnOk, IfOk}
use Rattle.std.proofs.Math.Nat.{div-add-mod, mod-lt}
use Rattle.bfs_bytes.specs.declared.Run.{Run}
use Rattle.bfs_txn.specs.declared.fault.BlockFault.{BlockFault}
use Rattle.bfs_stream.specs.Sizes.{array_length, table_length}
use Rattle.bfs_stream.specs.Places.{used_runs, level_blocks, second_arrays, levels_at, places_at}
use Rattle.bfs_stream.specs.Told.{contents}
use Rattle.bfs_stream.specs.Grown.{table_runs}
use Rattle.bfs_stream.specs.Trimmed.{before_last_table}
use Rattle.bfs_stream.proofs.Placed.{length-places}
use Rattle.bfs_stream.proofs.Listed.{double_long, some_array}
use Rattle.bfs_cuts.proofs.CutTwice.{nothing_trimmed}
use Rattle.bfs_cuts.proofs.drop.drop_last.Goals as goal

on_ok : {P Q : Type 0} (r : Result (Unit {0}) BlockFault) → (P → Q) → OnOk r P → OnOk r Q
on_ok (Ok x) f p = f p
on_ok (Err x) f p = p

if_ok : {P Q : ℕ → Type 0} (r : Result ℕ BlockFault) → ((n : ℕ) → P n → Q n) → IfOk r P → IfOk r Q
if_ok (Ok x) f p = f x p
if_ok (Err x) f p = p

gone_few : (a used per keep most : ℕ) → 0 < a → most < a * used → per * (keep - 1) < used - most / a → used - most / a ≤ per * keep → (a * (used - per * keep) ≤ most) × (a * (per * (keep - 1)) + most < a * used)
gone_few a used per keep most some less_all before enough =
    let parts = div-add-mod most a in
    let small : most % a < a = mod-lt most some in
    let q : ℕ = most / a in
    let one : used - per * keep ≤ q = omega (arith, enough) in
    let two : a * (used - per * keep) ≤ a * q = grow a (used - per * keep) q one in
    let three : per * (keep - 1) + q + 1 ≤ used = omega (arith, before) in
    let four : a * (per * (keep - 1) + q + 1) ≤ a * used = grow a (per * (keep - 1) + q + 1) used three in
    let five : a * (per * (keep - 1) + q + 1) ≡ a * (per * (keep - 1)) + a * q + a = grind arith in
    (omega (arith, two, parts), omega (arith, four, five, parts, small))
  where
    grow : (b x y : ℕ) → x ≤ y → b * x ≤ b * y
    grow b x y le = grind (arith, le)

pub returns-then-keep-tables-clause-trimmed : goal.returns-then-keep-tables-clause-trimmed
returns-then-keep-tables-clause-trimmed g c m is owns are some may =
    let o = c.args.stream.now in
    let s = o.sizes in
    let l = levels_at s (contents m) o.id in
    let t = c.args.tables in
    let value = c.array_length.ensures.value in
    let quotient : c.args.most / c.array_length.result ≡ c.args.most / array_length s = ap (λ (n : ℕ). c.args.most / n) value in
    let runs_is : c.less.result ≡ t.used - c.args.most / array_length s = c.less.ensures ∙ ap (λ (n : ℕ). t.used - n) quotient in
    let before = c.tables_for-keep.ensures.before in
    let enough = c.tables_for-keep.ensures.enough in
    let bound = gone_few (array_length s) t.used (table_length s) c.tables_for-keep.result c.args.most (some_array s) c.requires.some (omega (arith, before, runs_is)) (omega (arith, enough, runs_is)) in
    let high = c.if-keep-tables.true in
    let listed = are.1 in
    let used : t.used ≡ length (used_runs l.runs) = are.2 ∙ ap (λ (r : Run). length (used_runs (table_runs s (contents m) r))) are.0 in
    let own : length (level_blocks s l.runs) ≡ array_length s * t.used = double_long o m owns.stands ∙ ap (λ (n : ℕ). array_length s * n) (sym used) in
    let sum = length-places s (contents m) o.id in
    let last = bound.1 in
    let fewer : array_length s * (table_length s * (length (second_arrays s (contents m) o.id) - 1)) ≤ array_length s * (table_length s * (c.tables_for-keep.result - 1)) =
    both (array_length s) (table_length s) (length (second_arrays s (contents m) o.id) - 1) (c.tables_for-keep.result - 1) (omega (arith, high, listed)) in
    nothing_trimmed o c.args.bitmap.now m (g.E.Blocks.told c.args.edits.now) (g.E.Blocks.changed c.args.edits.now) (g.E.Blocks.changed c.args.edits.now) c.args.most owns is refl
    (inr (inr (some, (let z : before_last_table o m + c.args.most < length (places_at s (contents m) o.id) = omega (arith, sum, own, last, fewer) in z))))
  where
    both : (a b x y : ℕ) → x ≤ y → a * (b * x) ≤ a * (b * y)
    both a b x y le = let e : b * x ≤ b * y = grind (arith, le) in grind (arith, e)

pub returns-clause-trimmed : goal.returns-clause-trimmed
returns-clause-trimmed g c m is owns are some may =
    let o = c.args.stream.now in
    let s = o.sizes in
    let t = c.args.tables in
    let value = c.array_length.ensures.value in
    let quotient : c.args.most / c.array_length.result ≡ c.args.most / array_length s = ap (λ (n : ℕ). c.args.most / n) value in
    let runs_is : c.less.result ≡ t.used - c.args.most / array_length s = c.less.ensures ∙ ap (λ (n : ℕ). t.used - n) quotient in
    let before = c.tables_for-keep.ensures.before in
    let enough = c.tables_for-keep.ensures.enough in
    let bound = gone_few (array_length s) t.used (table_length s) c.tables_for-keep.result c.args.most (some_array s) c.requires.some (omega (arith, before, runs_is)) (omega (arith, enough, runs_is)) in
    c.drop_tables.ensures.trimmed m is owns are c.args.most may bound.0 bound.1

pub returns-clause-most : goal.returns-clause-most
returns-clause-most g c =
    let s = c.args.stream.now.sizes in
    let t = c.args.tables in
    let value = c.array_length.ensures.value in
    let quotient : c.args.most / c.array_length.result ≡ c.args.most / array_length s = ap (λ (n : ℕ). c.args.most / n) value in
    let runs_is : c.less.result ≡ t.used - c.args.most / array_length s = c.less.ensures ∙ ap (λ (n : ℕ). t.used - n) quotient in
    let before = c.tables_for-keep.ensures.before in
    let enough = c.tables_for-keep.ensures.enough in
    let bound = gone_few (array_length s) t.used (table_length s) c.tables_for-keep.result c.args.most (some_array s) c.requires.some (omega (arith, before, runs_is)) (omega (arith, enough, runs_is)) in
    if_ok c.drop_tables.result (λ n e. let few = bound.0 in omega (arith, few, e)) c.drop_tables.ensures.count
