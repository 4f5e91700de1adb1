use Rattle.std.proofs.Common.{ℕ, subst}
use Rattle.bfs_txn.specs.Changed.{IsAt, IsGap}
use Rattle.bfs_txn.proofs.Layers.{found_own, found_kept, found_nowhere}
use Rattle.bfs_txn.proofs.changed.Changed.place_of.Goals as goal

pub returns-in-Ok-clause-place : goal.returns-in-Ok-clause-place
returns-in-Ok-clause-place c =
    found_own c.args.self.now c.args.mark c.args.block c.in-Ok.i c.requires.own (subst (λ (n : ℕ). IsAt c.args.self.now c.args.mark n c.args.block c.in-Ok.i) c.len.ensures c.in-Ok.ensures)

pub returns-in-Ok-place_in-clause-place : goal.returns-in-Ok-place_in-clause-place
returns-in-Ok-place_in-clause-place c =
    found_kept c.args.self.now c.args.mark c.args.block c.in-Ok-place_in.i c.in-Err.field-0 c.requires.within c.requires.kept c.in-Ok-place_in.ensures
    (subst (λ (n : ℕ). IsGap c.args.self.now c.args.mark n c.args.block c.in-Err.field-0) c.len.ensures c.in-Err.ensures)

pub returns-in-Err-place_in-clause-place : goal.returns-in-Err-place_in-clause-place
returns-in-Err-place_in-clause-place c =
    found_nowhere c.args.self.now c.args.mark c.args.block c.in-Err-place_in.i c.in-Err.field-0 c.in-Err-place_in.ensures
    (subst (λ (n : ℕ). IsGap c.args.self.now c.args.mark n c.args.block c.in-Err.field-0) c.len.ensures c.in-Err.ensures)
