use Rattle.std.proofs.Common.{◌≡◌, ℕ, subst, length, insert, take, ◌≤◌, ◌+◌}
use Rattle.std.proofs.lemmas.Result.{on_ok_weaker}
use Rattle.bfs_txn.specs.Changed.{IsAt, IsGap, AreLayered}
use Rattle.bfs_txn.proofs.Layers.{put_old, put_new, put_not, IsPut, either_way}
use Rattle.bfs_txn.proofs.changed.Changed.put_above.Goals as goal
use Rattle.bfs_txn.proofs.changed.Changed.put_above.Goals.{After-overwrite, After-insert}

old : (c : After-overwrite) → IsPut c.args.mark c.args.block c.args.from.now c.args.self.now c.overwrite.new.self
old c =
    put_old c.args.mark c.args.block c.in-Ok.i c.args.from.now c.args.self.now c.overwrite.new.self c.requires (subst (λ (n : ℕ). IsAt c.args.self.now c.args.mark n c.args.block c.in-Ok.i) c.len.ensures c.in-Ok.ensures)
    c.overwrite.ensures

new : (c : After-insert) → c.insert.new.self ≡ insert c.args.self.now c.in-Err.i (c.args.block, c.args.from.now) → IsPut c.args.mark c.args.block c.args.from.now c.args.self.now c.insert.new.self
new c e =
    put_new c.args.mark c.args.block c.in-Err.i c.args.from.now c.args.self.now c.insert.new.self c.requires (subst (λ (n : ℕ). IsGap c.args.self.now c.args.mark n c.args.block c.in-Err.i) c.len.ensures c.in-Err.ensures) e

rest : (c : After-insert) → (AreLayered c.args.mark (length c.args.from.now) c.insert.new.self) × (take c.args.mark c.insert.new.self ≡ take c.args.mark c.args.self.now) × (length c.insert.new.self ≤ length c.args.self.now + 1)
rest c =
    either_way c.insert.result _ _ _ c.insert.ensures.ok c.insert.ensures.err (λ e. let p = new c e in (p.layered, p.kept, p.len)) (λ e. put_not c.args.mark c.args.block c.args.from.now c.args.self.now c.insert.new.self c.requires e)

pub returns-in-Ok-clause-layered : goal.returns-in-Ok-clause-layered
returns-in-Ok-clause-layered c = (old c).layered

pub returns-in-Ok-clause-kept : goal.returns-in-Ok-clause-kept
returns-in-Ok-clause-kept c = (old c).kept

pub returns-in-Ok-clause-put : goal.returns-in-Ok-clause-put
returns-in-Ok-clause-put c = (old c).put

pub returns-in-Ok-clause-len : goal.returns-in-Ok-clause-len
returns-in-Ok-clause-len c = (old c).len

pub returns-in-Err-clause-layered : goal.returns-in-Err-clause-layered
returns-in-Err-clause-layered c = (rest c).0

pub returns-in-Err-clause-kept : goal.returns-in-Err-clause-kept
returns-in-Err-clause-kept c = (rest c).1

pub returns-in-Err-clause-len : goal.returns-in-Err-clause-len
returns-in-Err-clause-len c = (rest c).2

pub returns-in-Err-clause-put : goal.returns-in-Err-clause-put
returns-in-Err-clause-put c = on_ok_weaker c.insert.result (λ e. (new c e).put) c.insert.ensures.ok
