use Rattle.std.proofs.Common.{◌≡◌, ◌+◌, ◌-◌, ◌*◌, ◌∙◌, ℕ, pos, List, [], ◌∷◌, length, set, get_or, Some, true, false, sym, ap, subst, arith}
use Rattle.std.specs.Option.{option_map}
use Rattle.bfs_bytes.specs.declared.Run.{Run}
use Rattle.bfs_super.specs.Conditions.{natural}
use Rattle.bfs_inode.specs.Inode.{Stream, stream_at}
use Rattle.bfs_txn.specs.Told.{with_block}
use Rattle.bfs_stream.specs.Sizes.{first_block}
use Rattle.bfs_stream.specs.Places.{fields, run_blocks, blocks_of, places_at}
use Rattle.bfs_stream.specs.Told.{contents}
use Rattle.bfs_stream.specs.Scans.{ends_of}
use Rattle.bfs_stream.specs.Grown.{KeepsRest}
use Rattle.bfs_stream.specs.declared.lookup.Ends.{Ends}
use Rattle.bfs_stream.proofs.Named.{direct_blocks}
use Rattle.bfs_stream.proofs.Levels.{length-counted}
use Rattle.bfs_stream.proofs.Placed.{direct_end}
use Rattle.bfs_stream.proofs.Few.{few_direct}
use Rattle.bfs_cuts.proofs.Shorter.{parts_of}
use Rattle.bfs_cuts.proofs.CutsDirect.{direct_long, places_long, larger, fits_now, cut, front, runs_are, front_long, last_some, last_inside}
use Rattle.bfs_stream.proofs.Writes.{wrote_bits, wrote_set, wrote_twice, IsBitBlockOf, all_bits}
use Rattle.bfs_cuts.proofs.Written.{set_then_bits}
use Rattle.bfs_cuts.proofs.cut.cut_direct.Goals as goal

pub returns-then-total-gt-MOST_BLOCKS-clause-sound : goal.returns-then-total-gt-MOST_BLOCKS-clause-sound
returns-then-total-gt-MOST_BLOCKS-clause-sound g c m is owns read used t =
    let o = c.args.stream.now in
    let few = few_direct o.sizes (contents m) o.id c.sizes.ensures.sizes owns.stands.sound in
    let end : c.ends-total.result.direct ≡ length (direct_blocks o.sizes (contents m) o.id) =
    ap (λ (e : Ends). e.direct) c.ends-total.ensures ∙ ap (λ (b : List ℕ). (ends_of o.sizes (stream_at b)).direct) read ∙ direct_end o.sizes (contents m) o.id c.sizes.ensures.sizes owns.stands.sound in
    let high = c.if-total-gt-MOST_BLOCKS.true in
    omega (arith, few, end, high)

pub returns-then-not-is_used-clause-sound : goal.returns-then-not-is_used-clause-sound
returns-then-not-is_used-clause-sound g c m is owns read used t =
    let o = c.args.stream.now in
    let last_at : c.direct-last.result ≡ get_or (stream_at c.args.bytes.now).direct (c.args.used - 1) c.direct-last.result = c.direct-last.ensures.direct ∙ ap (λ (b : List ℕ). get_or (stream_at b).direct (c.args.used - 1) c.direct-last.result) c.over.ensures in
    let bad : false ≡ true = c.if-not-is_used.ensures.1 (last_some o m c.args.bytes.now c.args.used c.direct-last.result read used c.requires.used.0 last_at, last_inside o m c.args.bytes.now c.args.used c.direct-last.result read used c.requires.used.0 last_at owns.stands.sound.direct) in cc

pub returns-in-Ok-give-clause-changed : goal.returns-in-Ok-give-clause-changed
returns-in-Ok-give-clause-changed g c =
    set_then_bits c.args.stream.now.sizes c.args.bitmap.now c.inode-id.result c.args.stream.now.id (g.E.Blocks.changed c.args.edits.now) (g.E.Blocks.changed c.set.new.self) (g.E.Blocks.changed c.give.new.edits)
    (c.inode-id.ensures) c.sizes.ensures.inode c.in-Ok.ensures.changed c.in-Ok-give.ensures.changed

pub returns-in-Err-give-clause-changed : goal.returns-in-Err-give-clause-changed
returns-in-Err-give-clause-changed g c =
    set_then_bits c.args.stream.now.sizes c.args.bitmap.now c.inode-id.result c.args.stream.now.id (g.E.Blocks.changed c.args.edits.now) (g.E.Blocks.changed c.set.new.self) (g.E.Blocks.changed c.give.new.edits)
    (c.inode-id.ensures) c.sizes.ensures.inode c.in-Ok.ensures.changed c.in-Err-give.ensures.changed

pub returns-in-Ok-give-clause-trimmed : goal.returns-in-Ok-give-clause-trimmed
returns-in-Ok-give-clause-trimmed g c m is owns read used none may =
    let o = c.args.stream.now in
    let last_at : c.direct-last.result ≡ get_or (stream_at c.args.bytes.now).direct (c.args.used - 1) c.direct-last.result = c.direct-last.ensures.direct ∙ ap (λ (b : List ℕ). get_or (stream_at b).direct (c.args.used - 1) c.direct-last.result) c.over.ensures in
    let s = o.sizes in
    let part = c.first_part-part.result in
    let gone = c.last_part-gone.result in
    let first : List Run = front o m c.args.bytes.now c.args.used c.direct-last.result read used c.requires.used.0 last_at in
    let runs = runs_are o m c.args.bytes.now c.args.used c.direct-last.result read used c.requires.used.0 last_at in
    let place : c.args.used - 1 ≡ length first = sym (front_long o m c.args.bytes.now c.args.used c.direct-last.result read used c.requires.used.0 last_at) in
    let total : c.ends-total.result.direct ≡ length (blocks_of s first) + c.direct-last.result.len =
    ap (λ (e : Ends). e.direct) c.ends-total.ensures ∙ ap (λ (b : List ℕ). (ends_of s (stream_at b)).direct) read ∙ direct_end s (contents m) o.id c.sizes.ensures.sizes owns.stands.sound ∙ direct_long o m none first c.direct-last.result runs in
    let kept_long = c.first_part-part.ensures.long in
    let gone_long = c.last_part-gone.ensures.long in
    let whole : part.len + gone.len ≡ c.direct-last.result.len = omega (arith, kept_long, gone_long) in
    let left : c.less-left.result ≡ length (blocks_of s first) + part.len = let a = c.less-left.ensures in let b = c.from.ensures in omega (arith, a, b, total, whole) in
    let parts = parts_of s c.direct-last.result part gone whole c.first_part-part.ensures.first (c.last_part-gone.ensures.first ∙ ap (λ (n : ℕ). first_block s c.direct-last.result + n) (sym kept_long)) in
    let value = c.shorter-keep.ensures.value in
    let size = larger (natural (fields s (contents m) o.id).size) s.block_size (length (places_at s (contents m) o.id) - c.args.most) (length (blocks_of s first) + part.len) may
    (let e = places_long o m none first c.direct-last.result runs in omega (arith, e, kept_long, value)) in
    let made : List ℕ → ℕ → ℕ → Stream = λ b n k. record (stream_at b) { direct = set (stream_at b).direct n part; max_direct_range = pos (s.block_size * k) } in
    let put : stream_at c.put_last_direct.new.bytes ≡ made (contents m o.id) (length first) (length (blocks_of s first) + part.len) =
    c.put_last_direct.ensures.stream ∙ ap (λ (b : List ℕ). made b (c.args.used - 1) c.less-left.result) read ∙ ap (λ (n : ℕ). made (contents m o.id) n c.less-left.result) place ∙ ap (made (contents m o.id) (length first)) left in
    let kept = subst (λ (b : List ℕ). KeepsRest b c.put_last_direct.new.bytes) read c.put_last_direct.ensures.rest in
    let id : c.inode-id.result ≡ o.id = c.inode-id.ensures in
    let now : g.E.Blocks.told c.set.new.self ≡ Some (with_block o.id c.put_last_direct.new.bytes m) =
    c.in-Ok.ensures.told ∙ ap (option_map (with_block c.inode-id.result c.put_last_direct.new.bytes)) is ∙ ap (λ (k : ℕ). Some (with_block k c.put_last_direct.new.bytes m)) id in
    let fits = fits_now o c.args.bitmap.now c.give.new.bitmap c.direct-last.result part gone first m (g.E.Blocks.told c.give.new.edits) c.put_last_direct.new.bytes owns runs parts c.first_part-part.ensures.inside none size put kept in
    let gave = c.in-Ok-give.ensures.gave (with_block o.id c.put_last_direct.new.bytes m) now fits in
    let done =
    cut o c.args.bitmap.now c.give.new.bitmap c.direct-last.result part gone first m (g.E.Blocks.told c.give.new.edits) c.put_last_direct.new.bytes owns runs parts c.first_part-part.ensures.inside none size put kept
    (g.E.Blocks.changed c.args.edits.now) (g.E.Blocks.changed c.give.new.edits) gave c.in-Ok-give.ensures.rest
    (wrote_twice (IsBitBlockOf c.args.bitmap.now (run_blocks s gone)) (g.E.Blocks.changed c.args.edits.now) (g.E.Blocks.changed c.set.new.self) (g.E.Blocks.changed c.give.new.edits) (o.id ∷ [])
    (wrote_set (IsBitBlockOf c.args.bitmap.now (run_blocks s gone)) (g.E.Blocks.changed c.args.edits.now) (g.E.Blocks.changed c.set.new.self) c.inode-id.result o.id id c.in-Ok.ensures.changed)
    (wrote_bits (IsBitBlockOf c.args.bitmap.now (run_blocks s gone)) (g.E.Blocks.changed c.set.new.self) (g.E.Blocks.changed c.give.new.edits) (o.id ∷ []) (all_bits c.args.bitmap.now (run_blocks s gone) (g.E.Blocks.changed c.set.new.self) (g.E.Blocks.changed c.give.new.edits) c.in-Ok-give.ensures.changed c.in-Ok-give.ensures.bits))) in
    ((run_blocks s gone, length-counted (first_block s gone) gone.len ∙ sym c.from-in-Ok-give.ensures, done.0), done.1)
