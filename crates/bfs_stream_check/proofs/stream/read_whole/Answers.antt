use Rattle.std.proofs.Common.{◌∙◌, ◌++◌, ℕ, List, ap}
use Rattle.std.proofs.lemmas.Result.{IfOk-weaker}
use Rattle.bfs_inode.specs.Inode.{stream_at}
use Rattle.bfs_stream.specs.Places.{levels_at}
use Rattle.bfs_stream.specs.Told.{contents}
use Rattle.bfs_stream_check.specs.Read.{sizes_in, own_run}
use Rattle.bfs_stream_check.proofs.Assembled.{places_are, arrays_is, arrays_in, runs_in_volume}
use Rattle.bfs_stream_check.proofs.Kept.{only_blocks}
use Rattle.bfs_stream_check.proofs.stream.read_whole.Goals as goal

pub returns-in-Ok-clause-arrays : goal.returns-in-Ok-clause-arrays
returns-in-Ok-clause-arrays g c m is all id same =
    let s = sizes_in c.args.bounds in
    IfOk-weaker c.join.result _ _
    (λ read h. arrays_is s (levels_at s (contents m) id) c.in-Ok.levels (c.in-Ok.ensures.read m is all id same) read.arrays.items
    (h ∙ ap (λ (b : List ℕ). own_run (stream_at b).indirect ++ own_run (stream_at b).double_indirect ++ c.in-Ok.levels.arrays.items) same))
    c.join.ensures.arrays

pub returns-in-Ok-clause-places : goal.returns-in-Ok-clause-places
returns-in-Ok-clause-places g c m is all id same =
    let s = sizes_in c.args.bounds in
    IfOk-weaker c.join.result _ _ (λ read h. places_are s (levels_at s (contents m) id) c.in-Ok.levels (c.in-Ok.ensures.read m is all id same) read.runs.items h) c.join.ensures.runs

pub returns-in-Ok-clause-arrays_inside : goal.returns-in-Ok-clause-arrays_inside
returns-in-Ok-clause-arrays_inside g c =
    IfOk-weaker c.join.result _ _ (λ read h. arrays_in (sizes_in c.args.bounds) (stream_at c.args.inode.now) c.in-Ok.levels read.arrays.items c.in-Ok.ensures.inside h) c.join.ensures.arrays

pub returns-in-Ok-clause-runs_inside : goal.returns-in-Ok-clause-runs_inside
returns-in-Ok-clause-runs_inside g c =
    IfOk-weaker c.join.result _ _ (λ read h. runs_in_volume (sizes_in c.args.bounds) (stream_at c.args.inode.now) c.in-Ok.levels read.runs.items c.in-Ok.ensures.inside h) c.join.ensures.runs

pub returns-in-Err-clause-kept : goal.returns-in-Err-clause-kept
returns-in-Err-clause-kept g c m is all id same h =
    let s = sizes_in c.args.bounds in
    only_blocks s (levels_at s (contents m) id) h c.in-Err.fault (c.in-Err.ensures.wrong m is all id same)
