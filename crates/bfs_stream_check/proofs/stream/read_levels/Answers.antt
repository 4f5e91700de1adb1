use Rattle.std.proofs.Common.{◌≡◌, ◌∙◌, ℕ, List, length, sym, ap, subst, refl, true, false, []}
use Rattle.std.specs.List.{flat_map}
use Rattle.bfs_bytes.specs.declared.Run.{Run}
use Rattle.bfs_inode.specs.Inode.{stream_at}
use Rattle.bfs_inode.proofs.Runs.{length-runs_in}
use Rattle.bfs_stream.specs.Places.{Levels, HasLevels, used_runs, array_runs, blocks_of}
use Rattle.bfs_stream.specs.Told.{contents}
use Rattle.bfs_finding.specs.StreamFaults.{IsLevelFault}
use Rattle.bfs_stream_check.specs.Read.{sizes_in, IsLevelsFault, IsTaken, IsArray}
use Rattle.bfs_stream_check.proofs.Wrongs.{direct_wrong, not_full, not_ready}
use Rattle.bfs_stream_check.proofs.Assembled.{levels_of, has_levels, range_wrong}
use Rattle.bfs_stream_check.proofs.stream.read_levels.Goals as goal

pub returns-in-Err-clause-wrong : goal.returns-in-Err-clause-wrong
returns-in-Err-clause-wrong g c m is all id same =
    let s = sizes_in c.args.bounds in
    subst (λ (b : List ℕ). IsLevelsFault s (levels_of s (contents m) b) c.in-Err.fault) same (direct_wrong s (levels_of s (contents m) c.args.inode.now) c.in-Err.fault c.in-Err.ensures.wrong)

pub returns-in-Err-clause-cause : goal.returns-in-Err-clause-cause
returns-in-Err-clause-cause g c = c.in-Err.ensures.cause (g.B.Blocks.counts c.args.under.now) (g.B.Blocks.counts c.args.under.now)

pub returns-in-Err-read_indirect-clause-wrong : goal.returns-in-Err-read_indirect-clause-wrong
returns-in-Err-read_indirect-clause-wrong g c m is all id same =
    let s = sizes_in c.args.bounds in
    let f : Run → List Run = array_runs s (contents m) in
    let l : Levels = levels_of s (contents m) c.args.inode.now in
    let ind : c.indirect-array.result ≡ (stream_at c.args.inode.now).indirect = c.indirect-array.ensures ∙ ap (λ (b : List ℕ). (stream_at b).indirect) c.over-view.ensures in
    subst (λ (b : List ℕ). IsLevelsFault s (levels_of s (contents m) b) c.in-Err-read_indirect.fault) same
    (c.in-Err-read_indirect.ensures.wrong m is all l (sym ind) (ap f (sym ind)) (not_full l.stream.direct c.in-Ok.level.runs.items c.in-Ok.level.full 12 c.in-Ok.ensures.taken (length-runs_in 12 c.args.inode.now 72)))

pub returns-in-Err-read_double-clause-wrong : goal.returns-in-Err-read_double-clause-wrong
returns-in-Err-read_double-clause-wrong g c m is all id same =
    let s = sizes_in c.args.bounds in
    let f : Run → List Run = array_runs s (contents m) in
    let l : Levels = levels_of s (contents m) c.args.inode.now in
    let ind : c.indirect-array.result ≡ (stream_at c.args.inode.now).indirect = c.indirect-array.ensures ∙ ap (λ (b : List ℕ). (stream_at b).indirect) c.over-view.ensures in
    let dbl : c.double_indirect-array.result ≡ (stream_at c.args.inode.now).double_indirect = c.double_indirect-array.ensures ∙ ap (λ (b : List ℕ). (stream_at b).double_indirect) c.over-view.ensures in
    let table = subst (λ (r : Run). IsTaken (f r) [] c.in-Ok-read_indirect.level.runs.items c.in-Ok-read_indirect.level.full) ind (c.in-Ok-read_indirect.ensures.taken m is all) in
    subst (λ (b : List ℕ). IsLevelsFault s (levels_of s (contents m) b) c.in-Err-read_double.fault) same
    (c.in-Err-read_double.ensures.wrong m (c.in-Ok-read_indirect.ensures.told ∙ is) all l (sym dbl) (ap f (sym dbl)) refl
    (not_ready l.table c.in-Ok-read_indirect.level.runs.items c.in-Ok-read_indirect.level.full c.is_ready-ready.result table c.is_ready-ready.ensures.1))

pub returns-in-Ok-check_ranges-clause-sound : goal.returns-in-Ok-check_ranges-clause-sound
returns-in-Ok-check_ranges-clause-sound g c m is all id same =
    let s = sizes_in c.args.bounds in
    let f : Run → List Run = array_runs s (contents m) in
    let l : Levels = levels_of s (contents m) c.args.inode.now in
    let ind : c.indirect-array.result ≡ (stream_at c.args.inode.now).indirect = c.indirect-array.ensures ∙ ap (λ (b : List ℕ). (stream_at b).indirect) c.over-view.ensures in
    let dbl : c.double_indirect-array.result ≡ (stream_at c.args.inode.now).double_indirect = c.double_indirect-array.ensures ∙ ap (λ (b : List ℕ). (stream_at b).double_indirect) c.over-view.ensures in
    let table = subst (λ (r : Run). IsTaken (f r) [] c.in-Ok-read_indirect.level.runs.items c.in-Ok-read_indirect.level.full) ind (c.in-Ok-read_indirect.ensures.taken m is all) in
    let told = c.in-Ok-read_indirect.ensures.told ∙ is in
    let arrays : c.in-Ok-read_double.level.arrays.items ≡ used_runs l.arrays = c.in-Ok-read_double.ensures.arrays m told all ∙ ap (λ (r : Run). used_runs (f r)) dbl in
    let runs : c.in-Ok-read_double.level.runs.items ≡ used_runs l.runs = c.in-Ok-read_double.ensures.runs m told all ∙ ap (λ (x : List Run). used_runs (flat_map f x)) arrays in
    subst (λ (b : List ℕ). HasLevels s (levels_of s (contents m) b)) same
    (has_levels s l c.in-Ok.level.runs.items c.in-Ok-read_indirect.level.runs.items c.in-Ok-read_double.level.arrays.items c.in-Ok-read_double.level.runs.items c.in-Ok.level.full c.in-Ok-read_indirect.level.full c.is_ready-ready.result
    c.in-Ok.ensures.taken table arrays runs c.counts_of-counts.result.direct c.counts_of-counts.result.indirect c.counts_of-counts.result.double
    (c.counts_of-counts.ensures.direct s ∙ ap (λ (x : List Run). length (blocks_of s x)) c.deref.ensures.value)
    (c.counts_of-counts.ensures.indirect s ∙ ap (λ (x : List Run). length (blocks_of s x)) c.deref-2.ensures.value)
    (c.counts_of-counts.ensures.double s ∙ ap (λ (x : List Run). length (blocks_of s x)) c.deref-3.ensures.value)
    (length-runs_in 12 c.args.inode.now 72) c.in-Ok.ensures.sound c.in-Ok-read_indirect.ensures.sound c.in-Ok-read_double.ensures.sound.0 c.in-Ok-read_double.ensures.sound.1
    (subst (λ (r : Run). IsArray s false c.in-Ok.level.full r) ind c.in-Ok-read_indirect.ensures.array) c.is_ready-ready.ensures.0
    (subst (λ (r : Run). IsArray s true c.is_ready-ready.result r) dbl c.in-Ok-read_double.ensures.array) c.in-Ok-check_ranges.ensures.sound)

pub returns-in-Err-check_ranges-clause-wrong : goal.returns-in-Err-check_ranges-clause-wrong
returns-in-Err-check_ranges-clause-wrong g c m is all id same =
    let s = sizes_in c.args.bounds in
    let f : Run → List Run = array_runs s (contents m) in
    let l : Levels = levels_of s (contents m) c.args.inode.now in
    let ind : c.indirect-array.result ≡ (stream_at c.args.inode.now).indirect = c.indirect-array.ensures ∙ ap (λ (b : List ℕ). (stream_at b).indirect) c.over-view.ensures in
    let dbl : c.double_indirect-array.result ≡ (stream_at c.args.inode.now).double_indirect = c.double_indirect-array.ensures ∙ ap (λ (b : List ℕ). (stream_at b).double_indirect) c.over-view.ensures in
    let table = subst (λ (r : Run). IsTaken (f r) [] c.in-Ok-read_indirect.level.runs.items c.in-Ok-read_indirect.level.full) ind (c.in-Ok-read_indirect.ensures.taken m is all) in
    let told = c.in-Ok-read_indirect.ensures.told ∙ is in
    let arrays : c.in-Ok-read_double.level.arrays.items ≡ used_runs l.arrays = c.in-Ok-read_double.ensures.arrays m told all ∙ ap (λ (r : Run). used_runs (f r)) dbl in
    let runs : c.in-Ok-read_double.level.runs.items ≡ used_runs l.runs = c.in-Ok-read_double.ensures.runs m told all ∙ ap (λ (x : List Run). used_runs (flat_map f x)) arrays in
    subst (λ (b : List ℕ). IsLevelFault s (levels_of s (contents m) b) c.in-Err-check_ranges.wrong.found c.in-Err-check_ranges.wrong.wanted) same
    (range_wrong s l c.in-Ok.level.runs.items c.in-Ok-read_indirect.level.runs.items c.in-Ok-read_double.level.arrays.items c.in-Ok-read_double.level.runs.items c.in-Ok.level.full c.in-Ok-read_indirect.level.full c.is_ready-ready.result
    c.in-Ok.ensures.taken table arrays runs c.counts_of-counts.result.direct c.counts_of-counts.result.indirect c.counts_of-counts.result.double
    (c.counts_of-counts.ensures.direct s ∙ ap (λ (x : List Run). length (blocks_of s x)) c.deref.ensures.value)
    (c.counts_of-counts.ensures.indirect s ∙ ap (λ (x : List Run). length (blocks_of s x)) c.deref-2.ensures.value)
    (c.counts_of-counts.ensures.double s ∙ ap (λ (x : List Run). length (blocks_of s x)) c.deref-3.ensures.value)
    c.in-Err-check_ranges.wrong.found c.in-Err-check_ranges.wrong.wanted c.in-Err-check_ranges.ensures.wrong)
