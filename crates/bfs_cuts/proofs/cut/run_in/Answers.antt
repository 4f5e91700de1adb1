use Rattle.std.proofs.Common.{◌≡◌, ◌<◌, ◌≤◌, ◌+◌, ◌*◌, ◌/◌, ◌%◌, ◌∙◌, ℕ, List, Option, Some, ap, sym, subst, arith}
use Rattle.std.specs.Prelude.{slice_get}
use Rattle.std.proofs.Math.Nat.{div-lt_iff_lt-mul}
use Rattle.bfs_bytes.specs.declared.Run.{Run}
use Rattle.bfs_bytes.specs.Fields.{run_in}
use Rattle.bfs_txn.specs.Told.{AreOfBlock}
use Rattle.bfs_stream.specs.Sizes.{Sizes, runs_per_block, first_block}
use Rattle.bfs_stream.specs.Places.{array_runs, run_blocks}
use Rattle.bfs_stream.specs.Told.{contents, AreTold}
use Rattle.bfs_stream.proofs.Arrays.{array_at, has_counted, read_is}
use Rattle.bfs_cuts.proofs.cut.run_in.Goals as goal

-- what was read at a place of an array is the run there
run_read : (s : Sizes) (m : ℕ → Option (List ℕ)) (told : Option (ℕ → Option (List ℕ))) (array run : Run) (place first runs : ℕ) (into : List ℕ)
    → told ≡ Some m → AreTold m (run_blocks s array) → place < array.len * runs_per_block s → runs ≡ runs_per_block s → 128 ≤ runs → first ≡ first_block s array
    → AreOfBlock told (first + place / runs) into → run ≡ run_in into (8 * (place % runs)) → slice_get (array_runs s (contents m) array) place ≡ Some run
run_read s m told array run place first runs into is are small e some f of read =
    let inside : place / runs_per_block s < array.len = let iff = div-lt_iff_lt-mul {k = runs_per_block s} {x = place} {y = array.len} (omega (arith, e, some)) in iff.1 small in
    let k : ℕ = first_block s array + place / runs_per_block s in
    let here : first + place / runs ≡ k = ap (λ (n : ℕ). first + place / n) e ∙ ap (λ (n : ℕ). n + place / runs_per_block s) f in
    let into_is = read_is m told k into is (are k (has_counted (first_block s array) array.len k (omega arith) (omega arith))) (subst (λ (n : ℕ). AreOfBlock told n into) here of) in
    array_at s (contents m) array place (omega (arith, e, some)) inside
    ∙ ap Some (ap (λ (l : List ℕ). run_in l (8 * (place % runs_per_block s))) (sym into_is) ∙ ap (λ (n : ℕ). run_in into (8 * (place % n))) (sym e) ∙ sym read)

pub returns-clause-found : goal.returns-clause-found
returns-clause-found g c m is told =
    run_read c.args.stream.now.sizes m (g.B.Blocks.told c.args.under.now) c.args.array c.run_at.result c.args.place c.first_block.result c.runs_per_block-runs.result c.get.new.into is told c.requires.place
    c.runs_per_block-runs.ensures.value c.runs_per_block-runs.ensures.some c.first_block.ensures.value c.in-Ok.ensures.bytes c.run_at.ensures
