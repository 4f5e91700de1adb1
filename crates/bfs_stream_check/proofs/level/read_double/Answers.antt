use Rattle.std.proofs.Common.{◌≡◌, ◌∙◌, ◌++◌, List, sym, ap, subst, true}
use Rattle.std.specs.List.{flat_map}
use Rattle.bfs_bytes.specs.declared.Run.{Run}
use Rattle.bfs_stream.specs.Places.{used_runs, array_runs}
use Rattle.bfs_stream.specs.Told.{contents}
use Rattle.bfs_stream_check.specs.Read.{sizes_in, IsRunsFault}
use Rattle.bfs_stream_check.proofs.Wrongs.{double_array, arrays_wrong, double_wrong, no_array, none_there}
use Rattle.bfs_stream_check.proofs.level.read_double.Goals as goal

pub returns-then-not-some-clause-arrays : goal.returns-then-not-some-clause-arrays
returns-then-not-some-clause-arrays g c m is all =
    let s = sizes_in c.args.bounds in
    let none : c.args.array.len ≡ 0 = none_there c.args.array.len c.in-Ok.some c.in-Ok.ensures.some c.if-not-some.true in
    c.new-arrays.ensures.items ∙ sym (ap used_runs (no_array s (contents m) c.args.array none))

pub returns-in-Err-clause-wrong : goal.returns-in-Err-clause-wrong
returns-in-Err-clause-wrong g c m is all l same arrays runs few =
    double_array (sizes_in c.args.bounds) l c.args.array c.args.before c.in-Err.wrong.found c.in-Err.wrong.wanted same few c.in-Err.ensures.wrong.0 c.in-Err.ensures.wrong.1

pub returns-in-Err-read_array-clause-wrong : goal.returns-in-Err-read_array-clause-wrong
returns-in-Err-read_array-clause-wrong g c m is all l same arrays runs few =
    let s = sizes_in c.args.bounds in
    arrays_wrong s l c.in-Err-read_array.fault
    (subst (λ (x : List Run). IsRunsFault s true (used_runs x) c.in-Err-read_array.fault) (sym arrays) (c.in-Err-read_array.ensures.wrong m is all))

pub returns-in-Err-read_arrays-clause-wrong : goal.returns-in-Err-read_arrays-clause-wrong
returns-in-Err-read_arrays-clause-wrong g c m is all l same arrays runs few =
    let s = sizes_in c.args.bounds in
    let f : Run → List Run = array_runs s (contents m) in
    let taken = c.in-Ok-read_array.ensures.taken m is all in
    let listed : c.deref.result.now ≡ used_runs l.arrays =
    c.deref.ensures.value ∙ taken.items ∙ ap (λ (x : List Run). x ++ used_runs (f c.args.array)) c.new-arrays.ensures.items ∙ ap used_runs (sym arrays) in
    let same_runs : flat_map f c.deref.result.now ≡ l.runs = ap (flat_map f) listed ∙ sym runs in
    double_wrong s l c.in-Err-read_arrays.fault
    (subst (λ (x : List Run). IsRunsFault s true (used_runs x) c.in-Err-read_arrays.fault) same_runs (c.in-Err-read_arrays.ensures.wrong m (c.in-Ok-read_array.ensures.told ∙ is) all))
