use Rattle.std.proofs.Common.{◌≡◌, List, sym, subst, true, false, []}
use Rattle.bfs_bytes.specs.declared.Run.{Run}
use Rattle.bfs_stream.specs.Places.{used_runs, array_runs}
use Rattle.bfs_stream.specs.Told.{contents}
use Rattle.bfs_stream_check.specs.Read.{sizes_in, IsRunsFault, IsTaken}
use Rattle.bfs_stream_check.proofs.Wrongs.{indirect_array, table_wrong, none_taken, none_there}
use Rattle.bfs_stream_check.proofs.level.read_indirect.Goals as goal

pub returns-in-Err-clause-wrong : goal.returns-in-Err-clause-wrong
returns-in-Err-clause-wrong g c m is all l same table few =
    indirect_array (sizes_in c.args.bounds) l c.args.array c.args.before c.in-Err.wrong.found c.in-Err.wrong.wanted same few c.in-Err.ensures.wrong.0 c.in-Err.ensures.wrong.1

pub returns-in-Err-read_array-clause-wrong : goal.returns-in-Err-read_array-clause-wrong
returns-in-Err-read_array-clause-wrong g c m is all l same table few =
    table_wrong (sizes_in c.args.bounds) l c.in-Err-read_array.fault
    (subst (λ (x : List Run). IsRunsFault (sizes_in c.args.bounds) false (used_runs x) c.in-Err-read_array.fault) (sym table) (c.in-Err-read_array.ensures.wrong m is all))

pub returns-then-not-some-clause-taken : goal.returns-then-not-some-clause-taken
returns-then-not-some-clause-taken g c m is all =
    let s = sizes_in c.args.bounds in
    let none : c.args.array.len ≡ 0 = none_there c.args.array.len c.in-Ok.some c.in-Ok.ensures.some c.if-not-some.true in
    subst (λ (x : List Run). IsTaken (array_runs s (contents m) c.args.array) [] x true) (sym c.new-runs.ensures.items) (none_taken s (contents m) c.args.array none)
