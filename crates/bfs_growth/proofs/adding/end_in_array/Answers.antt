use Rattle.std.proofs.Common.{◌≡◌, ◌*◌, ◌∙◌, ℕ, length, sym, ap, arith, refl}
use Rattle.std.proofs.lemmas.List.{set_past}
use Rattle.std.proofs.Math.Nat.{mul_comm}
use Rattle.bfs_stream.specs.Sizes.{runs_per_block}
use Rattle.bfs_stream.specs.Places.{array_runs}
use Rattle.bfs_stream.specs.Told.{contents}
use Rattle.bfs_stream.specs.declared.table.TheConstants.{NO_RUN}
use Rattle.bfs_stream.proofs.Arrays.{length-array}
use Rattle.bfs_growth.proofs.adding.end_in_array.Goals as goal

pub returns-clause-put : goal.returns-clause-put
returns-clause-put g c m is told =
    let s = c.args.stream.now.sizes in
    let runs = array_runs s (contents m) c.args.array in
    let size : length runs ≡ c.from.result * c.runs_per_block.result =
    length-array s (contents m) c.args.array ∙ mul_comm (runs_per_block s) c.args.array.len ∙ ap (λ (n : ℕ). n * runs_per_block s) (sym c.from.ensures) ∙ ap (λ (n : ℕ). c.from.result * n) (sym c.runs_per_block.ensures.value) in
    record {
      map = m;
      is = is;
      runs = sym (set_past runs c.args.place NO_RUN (omega (arith, size, c.if-place-from.false)));
      are_told = told;
      others = λ k none. refl;
    }
