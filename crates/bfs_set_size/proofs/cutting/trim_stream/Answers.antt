use Rattle.std.proofs.Common.{◌≤◌, ◌*◌, ◌∙◌, [], ℕ, Bool, sym, subst}
use Rattle.bfs_super.specs.Conditions.{natural}
use Rattle.bfs_node.specs.declared.fault.TreeFault.{TreeFault}
use Rattle.bfs_node.specs.declared.fault.TreeFault.TheVariants as tree
use Rattle.bfs_stream.specs.declared.fault.GrowFault.{GrowFault}
use Rattle.bfs_stream.specs.declared.fault.GrowFault.TheVariants as grow
use Rattle.bfs_stream.specs.Grown.{Owns}
use Rattle.bfs_stream.specs.Places.{fields}
use Rattle.bfs_stream.specs.Sizes.{Origin, sizes_of}
use Rattle.bfs_stream.specs.Told.{contents}
use Rattle.bfs_stream.specs.Trimmed.{HasTrimmedTo}
use Rattle.bfs_calls.specs.Done.{IsUnanswered, HasAnswerCause}
use Rattle.bfs_calls.proofs.Faulting.{undone_unanswered, read_cause, cause_earlier}
use Rattle.bfs_set_size.proofs.Owned.{owner_told}
use Rattle.bfs_set_size.proofs.cutting.trim_stream.Goals as goal

pub returns-in-Ok-trim-clause-cut : goal.returns-in-Ok-trim-clause-cut
returns-in-Ok-trim-clause-cut g c m told owns few =
    let o : Origin = record { id = c.args.id; sizes = sizes_of c.args.sup.now } in
    let v = c.args.bitmap.now in
    let now = c.trim.new.bitmap in
    let told_now = g.E.Blocks.told c.trim.new.edits in
    let changed_now = g.E.Blocks.changed c.trim.new.edits in
    let at = c.at-stream.ensures in
    let got = c.in-Ok-trim.ensures.trimmed m (c.check_inode.ensures.told ∙ told) (subst (λ (x : Origin). Owns x v [] m) (sym at) owns)
    (subst (λ (x : Origin). natural (fields x.sizes (contents m) x.id).size ≤ x.sizes.block_size * c.args.blocks) (sym at) few) in
    let here = subst (λ (x : Origin). HasTrimmedTo x v now m c.args.blocks told_now (g.E.Blocks.changed c.check_inode.new.under) changed_now) at got in
    record {
      before = c.in-Ok.ensures.words m told (owner_told o v m owns);
      since = subst (λ (was : ℕ → Bool). HasTrimmedTo o v now m c.args.blocks told_now was changed_now) c.check_inode.ensures.changed here;
    }

pub returns-in-Err-clause-unanswered : goal.returns-in-Err-clause-unanswered
returns-in-Err-clause-unanswered g c m told owns few = undone_unanswered c.in-Err.fault c.in-Err.ensures.undone

pub returns-in-Err-trim-clause-unanswered : goal.returns-in-Err-trim-clause-unanswered
returns-in-Err-trim-clause-unanswered g c m told owns few =
    let v = c.args.bitmap.now in
    let at = c.at-stream.ensures in
    subst (λ (f : TreeFault GrowFault). IsUnanswered f) (sym c.blocked.ensures)
    (c.in-Err-trim.ensures.faults m (c.check_inode.ensures.told ∙ told) (subst (λ (x : Origin). Owns x v [] m) (sym at) owns)
    (subst (λ (x : Origin). natural (fields x.sizes (contents m) x.id).size ≤ x.sizes.block_size * c.args.blocks) (sym at) few))

pub returns-in-Err-clause-cause : goal.returns-in-Err-clause-cause
returns-in-Err-clause-cause g c = read_cause (g.E.Blocks.counts c.args.edits.now) (g.E.Blocks.counts c.check_inode.new.under) c.in-Err.fault c.in-Err.ensures.read_cause

pub returns-in-Err-trim-clause-cause : goal.returns-in-Err-trim-clause-cause
returns-in-Err-trim-clause-cause g c =
    subst (λ (f : TreeFault GrowFault). HasAnswerCause (g.E.Blocks.counts c.args.edits.now) (g.E.Blocks.counts c.trim.new.edits) f) (sym c.blocked.ensures)
    (cause_earlier (g.E.Blocks.counts c.args.edits.now) (g.E.Blocks.counts c.check_inode.new.under) (g.E.Blocks.counts c.trim.new.edits) (tree.Pages (grow.Block c.in-Err-trim.fault)) c.check_inode.ensures.later c.in-Err-trim.ensures.cause)
