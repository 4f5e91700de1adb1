use Rattle.std.proofs.Common.{ℕ, [], sym, subst, arith, length, max}
use Rattle.bfs_super.specs.Conditions.{ceil}
use Rattle.bfs_stream.specs.Faults.{IsGrowFault, IsGrowCause}
use Rattle.bfs_stream.specs.Grown.{Owns, HasGrownBy}
use Rattle.bfs_stream.specs.Sizes.{Origin}
use Rattle.bfs_stream.proofs.Sized.{valid_sizes}
use Rattle.bfs_stream.proofs.Stops.{cause_wider}
use Rattle.bfs_stream.proofs.Writes.{later_none}
use Rattle.bfs_make.specs.Filled.{IsFilled}
use Rattle.bfs_make.specs.Sites.{stream_in}
use Rattle.bfs_make.proofs.Stored.{few, room_for, has_stored, stream_now, undamaged_grow}
use Rattle.bfs_make.proofs.storing.write_stream.Goals as goal

pub returns-in-Ok-put_length-clause-written : goal.returns-in-Ok-put_length-clause-written
returns-in-Ok-put_length-clause-written g c m is owns empty no_size =
    let o = stream_in c.args.site c.args.id in
    let v = c.args.bitmap.now in
    let now = c.grow.new.bitmap in
    let bytes = c.args.bytes.now in
    let blocks = c.blocks_for-blocks.result in
    let told1 = g.E.Blocks.told c.grow.new.edits in
    let told2 = g.E.Blocks.told c.fill.new.edits in
    let old = g.E.Blocks.changed c.args.edits.now in
    let mid = g.E.Blocks.changed c.grow.new.edits in
    let new = g.E.Blocks.changed c.fill.new.edits in
    let grown : HasGrownBy o v now m blocks told1 old mid = subst (λ (x : Origin). HasGrownBy x v now m blocks told1 old mid) c.at-stream.ensures (c.in-Ok.ensures.grown m is (subst (λ (x : Origin). Owns x v [] m) (sym c.at-stream.ensures) owns)) in
    let own = grown.grown.2.owns in
    let fits = room_for o v now m c.in-Ok.ensures.rest empty no_size told1 old mid blocks grown (length bytes) c.blocks_for-blocks.ensures.enough in
    let filled : IsFilled o grown.grown.2.map bytes told2 mid new =
    c.in-Ok-fill.ensures.filled grown.grown.2.map grown.grown.2.is own.stands own.once (few o v now m c.in-Ok.ensures.rest empty no_size told1 old mid blocks grown (valid_sizes c.args.site.sup c.requires.valid)) fits in
    let stored = has_stored o v now m c.in-Ok.ensures.rest empty no_size told1 old mid blocks grown bytes fits told2 new filled in
    stream_now o v now m bytes told2 (g.E.Blocks.told c.put_length.new.edits) old new (g.E.Blocks.changed c.put_length.new.edits) stored
    (c.in-Ok-put_length.ensures.written now 0 stored.comes.map stored.comes.is stored.comes.held stored.enough)

pub returns-in-Err-clause-faults : goal.returns-in-Err-clause-faults
returns-in-Err-clause-faults g c m is owns empty no_size =
    subst (λ (n : ℕ). IsGrowFault (stream_in c.args.site c.args.id) c.args.bitmap.now m n c.in-Err.fault) c.blocks_for-blocks.ensures.count
    (subst (λ (x : Origin). IsGrowFault x c.args.bitmap.now m c.blocks_for-blocks.result c.in-Err.fault) c.at-stream.ensures (c.in-Err.ensures.faults m is (subst (λ (x : Origin). Owns x c.args.bitmap.now [] m) (sym c.at-stream.ensures) owns)))

pub returns-in-Err-fill-clause-faults : goal.returns-in-Err-fill-clause-faults
returns-in-Err-fill-clause-faults g c m is owns empty no_size =
    let o = stream_in c.args.site c.args.id in
    let v = c.args.bitmap.now in
    let grown : HasGrownBy o v c.grow.new.bitmap m c.blocks_for-blocks.result (g.E.Blocks.told c.grow.new.edits) (g.E.Blocks.changed c.args.edits.now) (g.E.Blocks.changed c.grow.new.edits) =
    subst (λ (x : Origin). HasGrownBy x v c.grow.new.bitmap m c.blocks_for-blocks.result (g.E.Blocks.told c.grow.new.edits) (g.E.Blocks.changed c.args.edits.now) (g.E.Blocks.changed c.grow.new.edits)) c.at-stream.ensures (c.in-Ok.ensures.grown m is (subst (λ (x : Origin). Owns x v [] m) (sym c.at-stream.ensures) owns)) in
    let own = grown.grown.2.owns in
    undamaged_grow o v m (ceil (length c.args.bytes.now) c.args.site.sup.block_size) c.in-Err-fill.fault (c.in-Err-fill.ensures.sound grown.grown.2.map grown.grown.2.is own.stands own.once)

pub returns-in-Err-put_length-clause-faults : goal.returns-in-Err-put_length-clause-faults
returns-in-Err-put_length-clause-faults g c m is owns empty no_size =
    let o = stream_in c.args.site c.args.id in
    let v = c.args.bitmap.now in
    let now = c.grow.new.bitmap in
    let bytes = c.args.bytes.now in
    let blocks = c.blocks_for-blocks.result in
    let told1 = g.E.Blocks.told c.grow.new.edits in
    let told2 = g.E.Blocks.told c.fill.new.edits in
    let old = g.E.Blocks.changed c.args.edits.now in
    let mid = g.E.Blocks.changed c.grow.new.edits in
    let new = g.E.Blocks.changed c.fill.new.edits in
    let grown : HasGrownBy o v now m blocks told1 old mid = subst (λ (x : Origin). HasGrownBy x v now m blocks told1 old mid) c.at-stream.ensures (c.in-Ok.ensures.grown m is (subst (λ (x : Origin). Owns x v [] m) (sym c.at-stream.ensures) owns)) in
    let own = grown.grown.2.owns in
    let fits = room_for o v now m c.in-Ok.ensures.rest empty no_size told1 old mid blocks grown (length bytes) c.blocks_for-blocks.ensures.enough in
    let filled : IsFilled o grown.grown.2.map bytes told2 mid new =
    c.in-Ok-fill.ensures.filled grown.grown.2.map grown.grown.2.is own.stands own.once (few o v now m c.in-Ok.ensures.rest empty no_size told1 old mid blocks grown (valid_sizes c.args.site.sup c.requires.valid)) fits in
    let stored = has_stored o v now m c.in-Ok.ensures.rest empty no_size told1 old mid blocks grown bytes fits told2 new filled in
    undamaged_grow o v m (ceil (length bytes) c.args.site.sup.block_size) c.in-Err-put_length.fault (c.in-Err-put_length.ensures.sound now 0 stored.comes.map stored.comes.is stored.comes.held)

pub returns-in-Err-clause-cause : goal.returns-in-Err-clause-cause
returns-in-Err-clause-cause g c =
    let n = ceil (length c.args.bytes.now) c.args.site.sup.block_size in
    cause_wider n (max 1 n) (g.E.Blocks.counts c.args.edits.now) (g.E.Blocks.counts c.args.edits.now) (g.E.Blocks.counts c.grow.new.edits) c.in-Err.fault (omega arith) (later_none (g.E.Blocks.counts c.args.edits.now))
    (subst (λ (k : ℕ). IsGrowCause k (g.E.Blocks.counts c.args.edits.now) (g.E.Blocks.counts c.grow.new.edits) c.in-Err.fault) c.blocks_for-blocks.ensures.count c.in-Err.ensures.cause)

pub returns-in-Err-fill-clause-cause : goal.returns-in-Err-fill-clause-cause
returns-in-Err-fill-clause-cause g c =
    let n = ceil (length c.args.bytes.now) c.args.site.sup.block_size in
    cause_wider 1 (max 1 n) (g.E.Blocks.counts c.args.edits.now) (g.E.Blocks.counts c.grow.new.edits) (g.E.Blocks.counts c.fill.new.edits) c.in-Err-fill.fault (omega arith) c.in-Ok.ensures.later c.in-Err-fill.ensures.cause

pub returns-in-Err-put_length-clause-cause : goal.returns-in-Err-put_length-clause-cause
returns-in-Err-put_length-clause-cause g c =
    let n = ceil (length c.args.bytes.now) c.args.site.sup.block_size in
    cause_wider 1 (max 1 n) (g.E.Blocks.counts c.args.edits.now) (g.E.Blocks.counts c.grow.new.edits) (g.E.Blocks.counts c.put_length.new.edits) c.in-Err-put_length.fault (omega arith) c.in-Ok.ensures.later
    (cause_wider 1 1 (g.E.Blocks.counts c.grow.new.edits) (g.E.Blocks.counts c.fill.new.edits) (g.E.Blocks.counts c.put_length.new.edits) c.in-Err-put_length.fault (omega arith) c.in-Ok-fill.ensures.later c.in-Err-put_length.ensures.cause)
