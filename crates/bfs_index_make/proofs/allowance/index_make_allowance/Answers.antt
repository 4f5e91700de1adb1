use Rattle.std.proofs.Common.{rules, ◌≡◌, ◌≤◌, ◌∙◌, ℕ, length, sym, ap, subst}
use Rattle.bfs_super.specs.Geometry.{geometry_of}
use Rattle.bfs_tree.specs.declared.call.Call.TheVariants.{IndexMake}
use Rattle.bfs_sound.specs.Need.{logged_need}
use Rattle.bfs_shift.specs.Shifts.{volume_in}
use Rattle.bfs_calls.proofs.Faulting.{read_cause}
use Rattle.bfs_index_make.proofs.Allowed.{allowed, within}
use Rattle.bfs_index_make.proofs.Counted.{mapped}
use Rattle.bfs_index_check.specs.Compared.{pair_of}
use Rattle.bfs_index_make.proofs.allowance.index_make_allowance.Goals as goal

pub returns-in-Err-clause-allowed : goal.returns-in-Err-clause-allowed
returns-in-Err-clause-allowed g c m tree lists told ready = c.in-Err.ensures.wanted m tree lists told ready

pub returns-in-Err-clause-cause : goal.returns-in-Err-clause-cause
returns-in-Err-clause-cause g c = read_cause (g.E.Blocks.counts c.args.edits.now) (g.E.Blocks.counts c.wanted_pairs.new.edits) c.in-Err.fault c.in-Err.ensures.cause

pub returns-clause-allowed : goal.returns-clause-allowed
returns-clause-allowed g c m tree lists told ready =
    let n : c.len-count.result ≡ length c.in-Ok.pairs.items = search rules in
    allowed (volume_in (geometry_of c.args.sup.now) m) tree c.args.name.now c.args.kind c.len-count.result
    (n ∙ sym (mapped pair_of c.in-Ok.pairs.items) ∙ ap length (c.in-Ok.ensures.wanted m tree lists told ready))

pub returns-clause-within : goal.returns-clause-within
returns-clause-within g c m tree lists told ready =
    let was = volume_in (geometry_of c.args.sup.now) m in
    let name = c.args.name.now in
    let n : c.len-count.result ≡ length c.in-Ok.pairs.items = search rules in
    let same = allowed was tree name c.args.kind c.len-count.result (n ∙ sym (mapped pair_of c.in-Ok.pairs.items) ∙ ap length (c.in-Ok.ensures.wanted m tree lists told ready)) in
    subst (λ (n : ℕ). n ≤ logged_need was tree (IndexMake name c.args.kind)) (sym same) (within was tree name c.args.kind ready.work.stocked.directory)
