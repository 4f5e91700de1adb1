use Rattle.std.proofs.Common.{◌≡◌, ◌+◌, ◌*◌, ◌/◌, ◌%◌, ◌∙◌, ℕ, Option, Some, ap, sym, subst, arith, refl}
use Rattle.std.specs.Prelude.{slice_get}
use Rattle.bfs_bytes.specs.declared.Run.{Run}
use Rattle.bfs_stream.specs.Sizes.{Sizes, first_block, IsWhole}
use Rattle.bfs_stream.specs.Told.{contents, AreTold}
use Rattle.bfs_stream.specs.Places.{array_runs, run_blocks}
use Rattle.bfs_stream.proofs.Doubles.{double_at}
use Rattle.bfs_stream.proofs.stream.Stream.in_double.Goals as goal

same_run : (o : Option Run) (x y : Run) → o ≡ Some x → o ≡ Some y → x ≡ y
same_run o x y e f = cc

not_whole : (s : Sizes) (o : Option Run) (x y : Run) → o ≡ Some x → o ≡ Some y → IsWhole s x → ¬ IsWhole s y → ⊥
not_whole s o x y e f whole none = none (subst (IsWhole s) (same_run o x y e f) whole)

pub returns-then-run-per_table-clause-sound : goal.returns-then-run-per_table-clause-sound
returns-then-run-per_table-clause-sound g c m is has t =
    let d = double_at c.args.self.now.sizes m c.args.array c.args.place c.array_length-whole.result (c.array_length-whole.result * c.runs_per_block.result) c.runs_per_block.result c.requires.array has c.array_length-whole.ensures.value c.runs_per_block.ensures.value refl (omega (arith, c.array_length-whole.ensures.some)) (omega (arith, c.runs_per_block.ensures.some)) in
    let low = d.low in
    omega (arith, low)

pub returns-in-Err-clause-sound : goal.returns-in-Err-clause-sound
returns-in-Err-clause-sound g c m is has t =
    let d = double_at c.args.self.now.sizes m c.args.array c.args.place c.array_length-whole.result (c.array_length-whole.result * c.runs_per_block.result) c.runs_per_block.result c.requires.array has c.array_length-whole.ensures.value c.runs_per_block.ensures.value refl (omega (arith, c.array_length-whole.ensures.some)) (omega (arith, c.runs_per_block.ensures.some)) in
    let bad = c.in-Err.ensures.none m is has.first t in
    not_whole c.args.self.now.sizes _ d.table bad.0 d.is_table bad.1 d.whole_table bad.2

pub returns-in-Err-whole_run-clause-sound : goal.returns-in-Err-whole_run-clause-sound
returns-in-Err-whole_run-clause-sound g c m is has t =
    let d = double_at c.args.self.now.sizes m c.args.array c.args.place c.array_length-whole.result (c.array_length-whole.result * c.runs_per_block.result) c.runs_per_block.result c.requires.array has c.array_length-whole.ensures.value c.runs_per_block.ensures.value refl (omega (arith, c.array_length-whole.ensures.some)) (omega (arith, c.runs_per_block.ensures.some)) in
    let s = c.args.self.now.sizes in
    let same = same_run _ d.table c.in-Ok.table d.is_table (c.in-Ok.ensures.found m is has.first) in
    let bad = c.in-Err-whole_run.ensures.none m (c.in-Ok.ensures.told ∙ is) (subst (λ (x : Run). AreTold m (run_blocks s x)) same d.told) t in
    not_whole s _ d.run bad.0 (ap (λ (x : Run). slice_get (array_runs s (contents m) x) (c.args.place / c.array_length-whole.result % (c.array_length-whole.result * c.runs_per_block.result))) (sym same) ∙ d.is_run) bad.1 d.whole_run bad.2

pub returns-clause-found : goal.returns-clause-found
returns-clause-found g c m is has =
    let d = double_at c.args.self.now.sizes m c.args.array c.args.place c.array_length-whole.result (c.array_length-whole.result * c.runs_per_block.result) c.runs_per_block.result c.requires.array has c.array_length-whole.ensures.value c.runs_per_block.ensures.value refl (omega (arith, c.array_length-whole.ensures.some)) (omega (arith, c.runs_per_block.ensures.some)) in
    let s = c.args.self.now.sizes in
    let same = same_run _ d.table c.in-Ok.table d.is_table (c.in-Ok.ensures.found m is has.first) in
    let run = same_run _ d.run c.in-Ok-whole_run.found
    (ap (λ (x : Run). slice_get (array_runs s (contents m) x) (c.args.place / c.array_length-whole.result % (c.array_length-whole.result * c.runs_per_block.result))) (sym same) ∙ d.is_run)
    (c.in-Ok-whole_run.ensures.found m (c.in-Ok.ensures.told ∙ is) (subst (λ (x : Run). AreTold m (run_blocks s x)) same d.told)) in
    d.found ∙ ap (λ (x : Run). Some (first_block s x + c.args.place % c.array_length-whole.result)) run ∙ ap (λ (n : ℕ). Some (n + c.args.place % c.array_length-whole.result)) (sym c.first_block.ensures.value)
