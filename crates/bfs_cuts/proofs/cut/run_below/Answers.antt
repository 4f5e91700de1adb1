use Rattle.std.proofs.Common.{◌≡◌, ◌<◌, ◌≤◌, ◌*◌, ◌/◌, ◌%◌, ◌∙◌, ℕ, List, Option, Some, ap, ap₂, sym, subst, arith}
use Rattle.std.specs.Prelude.{slice_get, length}
use Rattle.std.proofs.lemmas.Option.{slice_get_within}
use Rattle.bfs_bytes.specs.declared.Run.{Run}
use Rattle.bfs_stream.specs.Sizes.{Sizes, IsWhole, runs_per_block, array_length}
use Rattle.bfs_stream.specs.Places.{array_runs, used_runs}
use Rattle.bfs_stream.specs.Told.{contents}
use Rattle.bfs_stream.specs.Grown.{HasTables, table_runs}
use Rattle.bfs_stream.proofs.Arrays.{get_flat_at}
use Rattle.bfs_stream.proofs.Belows.{long_tables, is_table, table_whole, table_told}
use Rattle.bfs_cuts.proofs.cut.run_below.Goals as goal

per_is : (a b x y : ℕ) → a ≡ x → b ≡ y → a * b ≡ x * y
per_is a b x y e f = ap₂ (λ (p q : ℕ). p * q) e f

some_of : (a b : ℕ) → 1 ≤ a → 128 ≤ b → 0 < a * b
some_of a b h g = grind (arith, h, g)

-- a run at a place of the tables is one of the table that has the place
run_of : (s : Sizes) (array table : Run) (m : ℕ → Option (List ℕ)) (place per : ℕ) (tables : HasTables s array m) → per ≡ array_length s * runs_per_block s → 0 < per → place < length (table_runs s (contents m) array)
    → slice_get (array_runs s (contents m) array) (place / per) ≡ Some table → slice_get (table_runs s (contents m) array) place ≡ slice_get (array_runs s (contents m) table) (place % per)
run_of s array table m place per tables e some inside at =
    let own = is_table s array m place per tables e some inside table at in
    let here : slice_get (used_runs (array_runs s (contents m) array)) (place / (array_length s * runs_per_block s)) ≡ Some table = subst (λ (n : ℕ). slice_get (used_runs (array_runs s (contents m) array)) (place / n) ≡ Some table) e own in
    get_flat_at (array_runs s (contents m)) (array_length s * runs_per_block s) (used_runs (array_runs s (contents m) array)) place table (omega (arith, e, some)) (long_tables s m (used_runs (array_runs s (contents m) array)) tables.arrays) here
    ∙ ap (λ (n : ℕ). slice_get (array_runs s (contents m) table) (place % n)) (sym e)

same_run : (x y : Option Run) (a b : Run) → x ≡ Some a → y ≡ Some b → x ≡ y → a ≡ b
same_run x y a b e f g = cc

pub returns-in-Err-clause-sound : goal.returns-in-Err-clause-sound
returns-in-Err-clause-sound g c m is tables run at whole t =
    let s = c.args.stream.now.sizes in
    let per = per_is c.array_length.result c.runs_per_block.result (array_length s) (runs_per_block s) c.array_length.ensures.value c.runs_per_block.ensures.value in
    let some = some_of c.array_length.result c.runs_per_block.result c.array_length.ensures.some c.runs_per_block.ensures.some in
    let inside = slice_get_within (table_runs s (contents m) c.args.array) c.args.place run at in
    let bad = c.in-Err.ensures.none m is tables.first t in
    bad.2 (table_whole s c.args.array m c.args.place (c.array_length.result * c.runs_per_block.result) tables per some inside bad.0 bad.1)

pub returns-in-Err-whole_run-clause-sound : goal.returns-in-Err-whole_run-clause-sound
returns-in-Err-whole_run-clause-sound g c m is tables run at whole t =
    let s = c.args.stream.now.sizes in
    let per = per_is c.array_length.result c.runs_per_block.result (array_length s) (runs_per_block s) c.array_length.ensures.value c.runs_per_block.ensures.value in
    let some = some_of c.array_length.result c.runs_per_block.result c.array_length.ensures.some c.runs_per_block.ensures.some in
    let inside = slice_get_within (table_runs s (contents m) c.args.array) c.args.place run at in
    let found = c.in-Ok.ensures.found m is tables.first in
    let bad = c.in-Err-whole_run.ensures.none m (c.in-Ok.ensures.told ∙ is) (table_told s c.args.array m c.args.place (c.array_length.result * c.runs_per_block.result) tables per some inside c.in-Ok.table found) t in
    let here = run_of s c.args.array c.in-Ok.table m c.args.place (c.array_length.result * c.runs_per_block.result) tables per some inside found in
    bad.2 (subst (IsWhole s) (same_run _ _ run bad.0 at bad.1 here) whole)

pub returns-in-Ok-whole_run-clause-found : goal.returns-in-Ok-whole_run-clause-found
returns-in-Ok-whole_run-clause-found g c m is tables inside =
    let s = c.args.stream.now.sizes in
    let per = per_is c.array_length.result c.runs_per_block.result (array_length s) (runs_per_block s) c.array_length.ensures.value c.runs_per_block.ensures.value in
    let some = some_of c.array_length.result c.runs_per_block.result c.array_length.ensures.some c.runs_per_block.ensures.some in
    let found = c.in-Ok.ensures.found m is tables.first in
    run_of s c.args.array c.in-Ok.table m c.args.place (c.array_length.result * c.runs_per_block.result) tables per some inside found
    ∙ c.in-Ok-whole_run.ensures.found m (c.in-Ok.ensures.told ∙ is) (table_told s c.args.array m c.args.place (c.array_length.result * c.runs_per_block.result) tables per some inside c.in-Ok.table found)
