use Rattle.std.proofs.Common.{◌≤◌, ◌≡◌, ◌<◌, ◌+◌, ◌∙◌, ◌⊎◌, inl, Option, Some, ℕ, List, [], Bool, ap, sym, subst, arith}
use Rattle.std.specs.Prelude.{length, IfOk}
use Rattle.std.proofs.lemmas.List.{append-nil}
use Rattle.bfs_bytes.specs.declared.Run.{Run}
use Rattle.bfs_inode.specs.Inode.{stream_at, runs_in}
use Rattle.bfs_txn.specs.Told.{AreOfBlock}
use Rattle.bfs_stream.specs.Places.{fields, used_runs}
use Rattle.bfs_stream.specs.Told.{contents}
use Rattle.bfs_stream.proofs.Arrays.{read_is}
use Rattle.bfs_stream.proofs.Placed.{told_inode}
use Rattle.bfs_growth.proofs.Twice.{grown_after}
use Rattle.std.proofs.lemmas.Result.{IfOk-weaker}
use Rattle.bfs_stream.proofs.Listed.{some_array}
use Rattle.bfs_stream.specs.Sizes.{array_length}
use Rattle.bfs_stream.specs.Grown.{HasGrown, UsesDouble}
use Rattle.bfs_growth.proofs.Stops.{stop_after}
use Rattle.bfs_growth.proofs.next.add.Goals as goal

pub returns-then-used-lt12-clause-grown : goal.returns-then-used-lt12-clause-grown
returns-then-used-lt12-clause-grown g c m is owns =
    let o = c.args.stream.now in
    let id : c.inode-id.result ≡ o.id = c.inode-id.ensures in
    let of : AreOfBlock (g.E.Blocks.told c.args.edits.now) o.id c.get.new.into = subst (λ (k : ℕ). AreOfBlock (g.E.Blocks.told c.args.edits.now) k c.get.new.into) id c.in-Ok.ensures.bytes in
    let read = read_is m (g.E.Blocks.told c.args.edits.now) o.id c.get.new.into is (told_inode m o owns.stands) of in
    let few = c.if-used-lt12.true in
    let used_is : c.count_used-used.result ≡ length (used_runs (stream_at c.get.new.into).direct) =
    sym (c.count_used-used.ensures.ends (omega (arith, few)) []) ∙ ap (λ (l : List Run). length (used_runs l)) (append-nil (runs_in 12 c.get.new.into 72)) in
    subst (λ (f : ℕ → Bool). IfOk c.add_direct.result (λ k. HasGrown o c.args.bitmap.now c.add_direct.new.bitmap m k (g.E.Blocks.told c.add_direct.new.edits) f (g.E.Blocks.changed c.add_direct.new.edits))) c.in-Ok.ensures.changed (c.add_direct.ensures.grown m (c.in-Ok.ensures.told ∙ is) owns read used_is)

pub returns-clause-grown : goal.returns-clause-grown
returns-clause-grown g c m is owns =
    let o = c.args.stream.now in
    let id : c.inode-id.result ≡ o.id = c.inode-id.ensures in
    let of : AreOfBlock (g.E.Blocks.told c.args.edits.now) o.id c.get.new.into = subst (λ (k : ℕ). AreOfBlock (g.E.Blocks.told c.args.edits.now) k c.get.new.into) id c.in-Ok.ensures.bytes in
    let read = read_is m (g.E.Blocks.told c.args.edits.now) o.id c.get.new.into is (told_inode m o owns.stands) of in
    let few = c.if-used-lt12.false in
    let most = c.count_used-used.ensures.few in
    let all : length (used_runs (stream_at c.get.new.into).direct) ≡ 12 + 0 =
    ap (λ (l : List Run). length (used_runs l)) (sym (append-nil (runs_in 12 c.get.new.into 72))) ∙ c.count_used-used.ensures.all (omega (arith, few, most)) [] in
    let full : length (used_runs (fields o.sizes (contents m) o.id).direct) ≡ 12 = ap (λ (b : List ℕ). length (used_runs (stream_at b).direct)) (sym read) ∙ (let z : length (used_runs (stream_at c.get.new.into).direct) ≡ 12 = omega (arith, all) in z) in
    let now_is = c.in-Ok.ensures.told ∙ is in
    let one = c.in-Ok-open_first.ensures.grown m now_is owns full in
    let ready = c.in-Ok-open_first.ensures.ready m now_is owns full one.2.map one.2.is in
    subst (λ (f : ℕ → Bool). IfOk c.add_behind.result (λ k. HasGrown o c.args.bitmap.now c.add_behind.new.bitmap m k (g.E.Blocks.told c.add_behind.new.edits) f (g.E.Blocks.changed c.add_behind.new.edits))) c.in-Ok.ensures.changed
    (grown_after o c.args.bitmap.now c.open_first.new.bitmap c.add_behind.new.bitmap m (g.E.Blocks.told c.open_first.new.edits) (g.E.Blocks.told c.add_behind.new.edits) (g.E.Blocks.changed c.get.new.self) (g.E.Blocks.changed c.open_first.new.edits) (g.E.Blocks.changed c.add_behind.new.edits) one c.in-Ok-open_first.ensures.rest c.add_behind.result
    (c.add_behind.ensures.grown one.2.map one.2.is one.2.owns ready))

pub returns-then-used-lt12-clause-most : goal.returns-then-used-lt12-clause-most
returns-then-used-lt12-clause-most g c =
    let long = some_array c.args.stream.now.sizes in
    IfOk-weaker c.add_direct.result (λ n. n ≤ c.args.longest) (λ n. n < c.args.longest + array_length c.args.stream.now.sizes) (λ n few. omega (arith, long, few)) c.add_direct.ensures.most

pub returns-clause-faults : goal.returns-clause-faults
returns-clause-faults g c m is owns =
    let o = c.args.stream.now in
    let id : c.inode-id.result ≡ o.id = c.inode-id.ensures in
    let of : AreOfBlock (g.E.Blocks.told c.args.edits.now) o.id c.get.new.into = subst (λ (k : ℕ). AreOfBlock (g.E.Blocks.told c.args.edits.now) k c.get.new.into) id c.in-Ok.ensures.bytes in
    let read = read_is m (g.E.Blocks.told c.args.edits.now) o.id c.get.new.into is (told_inode m o owns.stands) of in
    let few = c.if-used-lt12.false in
    let most = c.count_used-used.ensures.few in
    let all : length (used_runs (stream_at c.get.new.into).direct) ≡ 12 + 0 =
    ap (λ (l : List Run). length (used_runs l)) (sym (append-nil (runs_in 12 c.get.new.into 72))) ∙ c.count_used-used.ensures.all (omega (arith, few, most)) [] in
    let full : length (used_runs (fields o.sizes (contents m) o.id).direct) ≡ 12 = ap (λ (b : List ℕ). length (used_runs (stream_at b).direct)) (sym read) ∙ (let z : length (used_runs (stream_at c.get.new.into).direct) ≡ 12 = omega (arith, all) in z) in
    let now_is = c.in-Ok.ensures.told ∙ is in
    let one = c.in-Ok-open_first.ensures.grown m now_is owns full in
    let ready = c.in-Ok-open_first.ensures.ready m now_is owns full one.2.map one.2.is in
    stop_after o c.args.bitmap.now c.open_first.new.bitmap m (g.E.Blocks.told c.open_first.new.edits) (g.E.Blocks.changed c.get.new.self) (g.E.Blocks.changed c.open_first.new.edits) one c.in-Ok-open_first.ensures.rest c.add_behind.result
    (c.add_behind.ensures.faults one.2.map one.2.is one.2.owns ready)

pub returns-in-Err-open_first-clause-faults : goal.returns-in-Err-open_first-clause-faults
returns-in-Err-open_first-clause-faults g c m is owns =
    let o = c.args.stream.now in
    let id : c.inode-id.result ≡ o.id = c.inode-id.ensures in
    let of : AreOfBlock (g.E.Blocks.told c.args.edits.now) o.id c.get.new.into = subst (λ (k : ℕ). AreOfBlock (g.E.Blocks.told c.args.edits.now) k c.get.new.into) id c.in-Ok.ensures.bytes in
    let read = read_is m (g.E.Blocks.told c.args.edits.now) o.id c.get.new.into is (told_inode m o owns.stands) of in
    let few = c.if-used-lt12.false in
    let most = c.count_used-used.ensures.few in
    let all : length (used_runs (stream_at c.get.new.into).direct) ≡ 12 + 0 =
    ap (λ (l : List Run). length (used_runs l)) (sym (append-nil (runs_in 12 c.get.new.into 72))) ∙ c.count_used-used.ensures.all (omega (arith, few, most)) [] in
    let full : length (used_runs (fields o.sizes (contents m) o.id).direct) ≡ 12 = ap (λ (b : List ℕ). length (used_runs (stream_at b).direct)) (sym read) ∙ (let z : length (used_runs (stream_at c.get.new.into).direct) ≡ 12 = omega (arith, all) in z) in
    let now_is = c.in-Ok.ensures.told ∙ is in
    c.in-Err-open_first.ensures.faults m now_is owns full

pub returns-then-used-lt12-clause-faults : goal.returns-then-used-lt12-clause-faults
returns-then-used-lt12-clause-faults g c m is owns =
    let o = c.args.stream.now in
    let id : c.inode-id.result ≡ o.id = c.inode-id.ensures in
    let of : AreOfBlock (g.E.Blocks.told c.args.edits.now) o.id c.get.new.into = subst (λ (k : ℕ). AreOfBlock (g.E.Blocks.told c.args.edits.now) k c.get.new.into) id c.in-Ok.ensures.bytes in
    let read = read_is m (g.E.Blocks.told c.args.edits.now) o.id c.get.new.into is (told_inode m o owns.stands) of in
    let few = c.if-used-lt12.true in
    let used_is : c.count_used-used.result ≡ length (used_runs (stream_at c.get.new.into).direct) =
    sym (c.count_used-used.ensures.ends (omega (arith, few)) []) ∙ ap (λ (l : List Run). length (used_runs l)) (append-nil (runs_in 12 c.get.new.into 72)) in
    c.add_direct.ensures.faults m (c.in-Ok.ensures.told ∙ is) owns read used_is

pub returns-clause-exact : goal.returns-clause-exact
returns-clause-exact g c m is owns =
    let o = c.args.stream.now in
    let id : c.inode-id.result ≡ o.id = c.inode-id.ensures in
    let of : AreOfBlock (g.E.Blocks.told c.args.edits.now) o.id c.get.new.into = subst (λ (k : ℕ). AreOfBlock (g.E.Blocks.told c.args.edits.now) k c.get.new.into) id c.in-Ok.ensures.bytes in
    let read = read_is m (g.E.Blocks.told c.args.edits.now) o.id c.get.new.into is (told_inode m o owns.stands) of in
    let few = c.if-used-lt12.false in
    let most = c.count_used-used.ensures.few in
    let all : length (used_runs (stream_at c.get.new.into).direct) ≡ 12 + 0 =
    ap (λ (l : List Run). length (used_runs l)) (sym (append-nil (runs_in 12 c.get.new.into 72))) ∙ c.count_used-used.ensures.all (omega (arith, few, most)) [] in
    let full : length (used_runs (fields o.sizes (contents m) o.id).direct) ≡ 12 = ap (λ (b : List ℕ). length (used_runs (stream_at b).direct)) (sym read) ∙ (let z : length (used_runs (stream_at c.get.new.into).direct) ≡ 12 = omega (arith, all) in z) in
    let now_is = c.in-Ok.ensures.told ∙ is in
    let one = c.in-Ok-open_first.ensures.grown m now_is owns full in
    let ready = c.in-Ok-open_first.ensures.ready m now_is owns full one.2.map one.2.is in
    c.add_behind.ensures.exact one.2.map one.2.is one.2.owns ready

pub returns-then-used-lt12-clause-exact : goal.returns-then-used-lt12-clause-exact
returns-then-used-lt12-clause-exact g c m is owns =
    IfOk-weaker c.add_direct.result (λ n. n ≤ c.args.longest) (λ added. (n : ℕ → Option (List ℕ)) → g.E.Blocks.told c.add_direct.new.edits ≡ Some n → (added ≤ c.args.longest) ⊎ UsesDouble c.args.stream.now n) (λ added few n now. inl few) c.add_direct.ensures.most
