use Rattle.std.proofs.Common.{◌≡◌, ◌<◌, ◌≤◌, ◌+◌, ◌*◌, ◌/◌, ◌%◌, ◌∙◌, ℕ, List, Option, Some, ap, sym, subst, arith, true, false}
use Rattle.std.specs.Prelude.{slice_get}
use Rattle.std.proofs.Math.Nat.{div-lt_iff_lt-mul}
use Rattle.bfs_bytes.specs.declared.Run.{Run}
use Rattle.bfs_bytes.specs.Fields.{run_in}
use Rattle.bfs_txn.specs.Told.{AreOfBlock}
use Rattle.bfs_stream.specs.Sizes.{Sizes, runs_per_block, array_length, first_block, IsWhole}
use Rattle.bfs_stream.specs.Places.{array_runs, run_blocks}
use Rattle.bfs_stream.specs.Told.{contents, AreTold}
use Rattle.bfs_stream.proofs.Arrays.{array_at, has_counted, read_is}
use Rattle.bfs_stream.proofs.Damages.{same_bytes}
use Rattle.bfs_stream.proofs.stream.Stream.whole_run.Goals as goal

-- what was read at a place of an array is the run there
run_read : (s : Sizes) (m : ℕ → Option (List ℕ)) (told : Option (ℕ → Option (List ℕ))) (array run : Run) (place first runs : ℕ) (into : List ℕ)
    → told ≡ Some m → AreTold m (run_blocks s array) → IsWhole s array → place < array_length s * runs_per_block s → runs ≡ runs_per_block s → 128 ≤ runs → first ≡ first_block s array
    → AreOfBlock told (first + place / runs) into → run ≡ run_in into (8 * (place % runs)) → slice_get (array_runs s (contents m) array) place ≡ Some run
run_read s m told array run place first runs into is are whole small e some f of read =
    let inside : place / runs_per_block s < array.len = subst (λ (n : ℕ). place / runs_per_block s < n) (sym whole.long) (let iff = div-lt_iff_lt-mul {k = runs_per_block s} {x = place} {y = array_length s} (omega arith) in iff.1 small) in
    let k : ℕ = first_block s array + place / runs_per_block s in
    let here : first + place / runs ≡ k = ap (λ (n : ℕ). first + place / n) e ∙ ap (λ (n : ℕ). n + place / runs_per_block s) f in
    let into_is = read_is m told k into is (are k (has_counted (first_block s array) array.len k (omega arith) (omega arith))) (subst (λ (n : ℕ). AreOfBlock told n into) here of) in
    array_at s (contents m) array place (omega arith) inside
    ∙ ap Some (ap (λ (l : List ℕ). run_in l (8 * (place % runs_per_block s))) (sym into_is) ∙ ap (λ (n : ℕ). run_in into (8 * (place % n))) (sym e) ∙ sym read)

pub returns-then-is_whole-clause-found : goal.returns-then-is_whole-clause-found
returns-then-is_whole-clause-found g c m is told =
    run_read c.args.self.now.sizes m (g.B.Blocks.told c.args.under.now) c.args.array c.run_at-run.result c.args.place c.first_block.result c.runs_per_block-runs.result c.get.new.into is told c.requires.array c.requires.place
    c.runs_per_block-runs.ensures.value c.runs_per_block-runs.ensures.some c.first_block.ensures.value c.in-Ok.ensures.bytes c.run_at-run.ensures

pub returns-else-is_whole-clause-none : goal.returns-else-is_whole-clause-none
returns-else-is_whole-clause-none g c m is told t =
    let read = run_read c.args.self.now.sizes m (g.B.Blocks.told c.args.under.now) c.args.array c.run_at-run.result c.args.place c.first_block.result c.runs_per_block-runs.result c.get.new.into is told c.requires.array c.requires.place
    c.runs_per_block-runs.ensures.value c.runs_per_block-runs.ensures.some c.first_block.ensures.value c.in-Ok.ensures.bytes c.run_at-run.ensures in
    (c.run_at-run.result, read, λ whole. let bad : false ≡ true = c.if-is_whole.ensures.1 whole in cc)

-- the block that was read, and the run in it, in terms of the sizes
module _ (s : Sizes) (array run : Run) (place first runs : ℕ) (into : List ℕ) (e : runs ≡ runs_per_block s) (f : first ≡ first_block s array) (read : run ≡ run_in into (8 * (place % runs))) (none : ¬ IsWhole s run) where
  block_is : first + place / runs ≡ first_block s array + place / runs_per_block s
  block_is = ap (λ (n : ℕ). first + place / n) e ∙ ap (λ (n : ℕ). n + place / runs_per_block s) f

  bad_run : ¬ IsWhole s (run_in into (8 * (place % runs_per_block s)))
  bad_run whole = none (subst (IsWhole s) (sym (read ∙ ap (λ (n : ℕ). run_in into (8 * (place % n))) e)) whole)

pub returns-else-is_whole-clause-damaged : goal.returns-else-is_whole-clause-damaged
returns-else-is_whole-clause-damaged g c m is =
    let s = c.args.self.now.sizes in
    let runs = c.runs_per_block-runs.result in
    let none : ¬ IsWhole s c.run_at-run.result = λ whole. let bad : false ≡ true = c.if-is_whole.ensures.1 whole in cc in record {
      is = block_is s c.args.array c.run_at-run.result c.args.place c.first_block.result runs c.get.new.into c.runs_per_block-runs.ensures.value c.first_block.ensures.value c.run_at-run.ensures none;
      bad = λ bytes here.
          subst (λ (l : List ℕ). ¬ IsWhole s (run_in l (8 * (c.args.place % runs_per_block s)))) (same_bytes m (g.B.Blocks.told c.args.under.now) (c.first_block.result + c.args.place / runs) c.get.new.into bytes is c.in-Ok.ensures.bytes here)
          (bad_run s c.args.array c.run_at-run.result c.args.place c.first_block.result runs c.get.new.into c.runs_per_block-runs.ensures.value c.first_block.ensures.value c.run_at-run.ensures none);
    }

pub returns-else-is_whole-clause-blamed : goal.returns-else-is_whole-clause-blamed
returns-else-is_whole-clause-blamed g c =
    let s = c.args.self.now.sizes in
    let runs = c.runs_per_block-runs.result in
    let none : ¬ IsWhole s c.run_at-run.result = λ whole. let bad : false ≡ true = c.if-is_whole.ensures.1 whole in cc in (
      c.get.new.into,
      c.in-Ok.ensures.last,
      record {
        is = block_is s c.args.array c.run_at-run.result c.args.place c.first_block.result runs c.get.new.into c.runs_per_block-runs.ensures.value c.first_block.ensures.value c.run_at-run.ensures none;
        bad = bad_run s c.args.array c.run_at-run.result c.args.place c.first_block.result runs c.get.new.into c.runs_per_block-runs.ensures.value c.first_block.ensures.value c.run_at-run.ensures none;
      },
    )
