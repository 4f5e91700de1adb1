use Rattle.std.proofs.Common.{◌≡◌, ◌∙◌, inl, inr, ℕ, List, [], Bool, ap, sym, subst, arith}
use Rattle.std.specs.Prelude.{length}
use Rattle.std.proofs.lemmas.List.{append-nil}
use Rattle.bfs_bytes.specs.declared.Run.{Run}
use Rattle.bfs_inode.specs.Inode.{stream_at, runs_in}
use Rattle.bfs_txn.specs.Told.{AreOfBlock}
use Rattle.bfs_stream.specs.Places.{fields, used_runs}
use Rattle.bfs_stream.specs.Told.{contents}
use Rattle.bfs_stream.specs.Trimmed.{HasCut}
use Rattle.bfs_stream.proofs.Arrays.{read_is}
use Rattle.bfs_stream.proofs.Placed.{told_inode}
use Rattle.bfs_cuts.proofs.CutTwice.{has_cut_none, no_places, count_is}
use Rattle.bfs_cuts.proofs.trimming.cut_first.Goals as goal

pub returns-then-used-eq0-clause-trimmed : goal.returns-then-used-eq0-clause-trimmed
returns-then-used-eq0-clause-trimmed g c m is owns none may = has_cut_none c.args.stream.now c.args.bitmap.now m (g.E.Blocks.told c.get.new.self) (g.E.Blocks.changed c.args.edits.now) (g.E.Blocks.changed c.get.new.self) owns (c.in-Ok.ensures.told ∙ is) c.in-Ok.ensures.changed

pub returns-then-most-eq0-clause-trimmed : goal.returns-then-most-eq0-clause-trimmed
returns-then-most-eq0-clause-trimmed g c m is owns none may = has_cut_none c.args.stream.now c.args.bitmap.now m (g.E.Blocks.told c.get.new.self) (g.E.Blocks.changed c.args.edits.now) (g.E.Blocks.changed c.get.new.self) owns (c.in-Ok.ensures.told ∙ is) c.in-Ok.ensures.changed

pub returns-then-used-eq0-clause-done : goal.returns-then-used-eq0-clause-done
returns-then-used-eq0-clause-done g c m is owns none now told_is zero =
    let o = c.args.stream.now in
    let v = c.args.bitmap.now in
    let id : c.inode-id.result ≡ o.id = c.inode-id.ensures in
    let of : AreOfBlock (g.E.Blocks.told c.args.edits.now) o.id c.get.new.into = subst (λ (k : ℕ). AreOfBlock (g.E.Blocks.told c.args.edits.now) k c.get.new.into) id c.in-Ok.ensures.bytes in
    let read = read_is m (g.E.Blocks.told c.args.edits.now) o.id c.get.new.into is (told_inode m o owns.stands) of in
    let now_is = c.in-Ok.ensures.told ∙ is in
    let used_is : c.count_used-used.result ≡ length (used_runs (stream_at c.get.new.into).direct) =
    sym (count_is c.count_used-used.result (length (used_runs (stream_at c.get.new.into).direct)) c.count_used-used.ensures.few
    (λ h. ap (λ (l : List Run). length (used_runs l)) (sym (append-nil (runs_in 12 c.get.new.into 72))) ∙ c.count_used-used.ensures.ends h [])
    (λ h. ap (λ (l : List Run). length (used_runs l)) (sym (append-nil (runs_in 12 c.get.new.into 72))) ∙ c.count_used-used.ensures.all h [])) in
    let e = c.if-used-eq0.true in
    let empty : length (used_runs (fields o.sizes (contents m) o.id).direct) ≡ 0 = ap (λ (b : List ℕ). length (used_runs (stream_at b).direct)) (sym read) ∙ (let z : length (used_runs (stream_at c.get.new.into).direct) ≡ 0 = omega (arith, used_is, e) in z) in
    inr (inl (no_places o m none empty))

pub returns-in-Ok-cut_direct-clause-trimmed : goal.returns-in-Ok-cut_direct-clause-trimmed
returns-in-Ok-cut_direct-clause-trimmed g c m is owns none may =
    let o = c.args.stream.now in
    let v = c.args.bitmap.now in
    let id : c.inode-id.result ≡ o.id = c.inode-id.ensures in
    let of : AreOfBlock (g.E.Blocks.told c.args.edits.now) o.id c.get.new.into = subst (λ (k : ℕ). AreOfBlock (g.E.Blocks.told c.args.edits.now) k c.get.new.into) id c.in-Ok.ensures.bytes in
    let read = read_is m (g.E.Blocks.told c.args.edits.now) o.id c.get.new.into is (told_inode m o owns.stands) of in
    let now_is = c.in-Ok.ensures.told ∙ is in
    let used_is : c.count_used-used.result ≡ length (used_runs (stream_at c.get.new.into).direct) =
    sym (count_is c.count_used-used.result (length (used_runs (stream_at c.get.new.into).direct)) c.count_used-used.ensures.few
    (λ h. ap (λ (l : List Run). length (used_runs l)) (sym (append-nil (runs_in 12 c.get.new.into 72))) ∙ c.count_used-used.ensures.ends h [])
    (λ h. ap (λ (l : List Run). length (used_runs l)) (sym (append-nil (runs_in 12 c.get.new.into 72))) ∙ c.count_used-used.ensures.all h [])) in
    subst (λ (f : ℕ → Bool). HasCut o v c.cut_direct.new.bitmap m c.in-Ok-cut_direct.gone (g.E.Blocks.told c.cut_direct.new.edits) f (g.E.Blocks.changed c.cut_direct.new.edits)) c.in-Ok.ensures.changed
    (c.in-Ok-cut_direct.ensures.trimmed m now_is owns read used_is none may)

pub returns-in-Err-cut_direct-clause-sound : goal.returns-in-Err-cut_direct-clause-sound
returns-in-Err-cut_direct-clause-sound g c m is owns none =
    let o = c.args.stream.now in
    let v = c.args.bitmap.now in
    let id : c.inode-id.result ≡ o.id = c.inode-id.ensures in
    let of : AreOfBlock (g.E.Blocks.told c.args.edits.now) o.id c.get.new.into = subst (λ (k : ℕ). AreOfBlock (g.E.Blocks.told c.args.edits.now) k c.get.new.into) id c.in-Ok.ensures.bytes in
    let read = read_is m (g.E.Blocks.told c.args.edits.now) o.id c.get.new.into is (told_inode m o owns.stands) of in
    let now_is = c.in-Ok.ensures.told ∙ is in
    let used_is : c.count_used-used.result ≡ length (used_runs (stream_at c.get.new.into).direct) =
    sym (count_is c.count_used-used.result (length (used_runs (stream_at c.get.new.into).direct)) c.count_used-used.ensures.few
    (λ h. ap (λ (l : List Run). length (used_runs l)) (sym (append-nil (runs_in 12 c.get.new.into 72))) ∙ c.count_used-used.ensures.ends h [])
    (λ h. ap (λ (l : List Run). length (used_runs l)) (sym (append-nil (runs_in 12 c.get.new.into 72))) ∙ c.count_used-used.ensures.all h [])) in
    c.in-Err-cut_direct.ensures.sound m now_is owns read used_is

pub returns-then-most-eq0-clause-done : goal.returns-then-most-eq0-clause-done
returns-then-most-eq0-clause-done g c m is owns none now told_is zero =
    inl c.if-most-eq0.true
