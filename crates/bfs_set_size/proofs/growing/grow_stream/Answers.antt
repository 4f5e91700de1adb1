use Rattle.std.proofs.Common.{◌∙◌, [], ℕ, Bool, sym, subst}
use Rattle.bfs_stream.specs.Grown.{Owns, HasGrownBy}
use Rattle.bfs_stream.specs.Sizes.{Origin, sizes_of}
use Rattle.bfs_stream.specs.Faults.{IsGrowFault}
use Rattle.bfs_calls.proofs.Faulting.{undone_unanswered, read_cause, cause_earlier}
use Rattle.bfs_set_size.proofs.Owned.{owner_told}
use Rattle.bfs_set_size.proofs.growing.grow_stream.Goals as goal

pub returns-in-Ok-grow-clause-grown : goal.returns-in-Ok-grow-clause-grown
returns-in-Ok-grow-clause-grown g c m told owns =
    let o : Origin = record { id = c.args.id; sizes = sizes_of c.args.sup.now } in
    let v = c.args.bitmap.now in
    let now = c.grow.new.bitmap in
    let told_now = g.E.Blocks.told c.grow.new.edits in
    let changed_now = g.E.Blocks.changed c.grow.new.edits in
    let at = c.at-stream.ensures in
    let got = c.in-Ok-grow.ensures.grown m (c.check_inode.ensures.told ∙ told) (subst (λ (x : Origin). Owns x v [] m) (sym at) owns) in
    let here = subst (λ (x : Origin). HasGrownBy x v now m c.args.blocks told_now (g.E.Blocks.changed c.check_inode.new.under) changed_now) at got in
    record {
      before = c.in-Ok.ensures.words m told (owner_told o v m owns);
      since = subst (λ (was : ℕ → Bool). HasGrownBy o v now m c.args.blocks told_now was changed_now) c.check_inode.ensures.changed here;
    }

pub returns-in-Err-clause-unanswered : goal.returns-in-Err-clause-unanswered
returns-in-Err-clause-unanswered g c m told owns few = undone_unanswered c.in-Err.fault c.in-Err.ensures.undone

pub returns-in-Err-grow-clause-unanswered : goal.returns-in-Err-grow-clause-unanswered
returns-in-Err-grow-clause-unanswered g c m told owns few =
    let o : Origin = record { id = c.args.id; sizes = sizes_of c.args.sup.now } in
    let v = c.args.bitmap.now in
    let at = c.at-stream.ensures in
    c.not_grown.ensures.unanswered o v m c.args.blocks few
    (subst (λ (x : Origin). IsGrowFault x v m c.args.blocks c.in-Err-grow.fault) at (c.in-Err-grow.ensures.faults m (c.check_inode.ensures.told ∙ told) (subst (λ (x : Origin). Owns x v [] m) (sym at) owns)))

pub returns-in-Err-clause-cause : goal.returns-in-Err-clause-cause
returns-in-Err-clause-cause g c = read_cause (g.E.Blocks.counts c.args.edits.now) (g.E.Blocks.counts c.check_inode.new.under) c.in-Err.fault c.in-Err.ensures.read_cause

pub returns-in-Err-grow-clause-cause : goal.returns-in-Err-grow-clause-cause
returns-in-Err-grow-clause-cause g c =
    cause_earlier (g.E.Blocks.counts c.args.edits.now) (g.E.Blocks.counts c.check_inode.new.under) (g.E.Blocks.counts c.grow.new.edits) c.not_grown.result c.check_inode.ensures.later
    (c.not_grown.ensures.cause c.args.blocks (g.E.Blocks.counts c.check_inode.new.under) (g.E.Blocks.counts c.grow.new.edits) c.in-Err-grow.ensures.cause)
