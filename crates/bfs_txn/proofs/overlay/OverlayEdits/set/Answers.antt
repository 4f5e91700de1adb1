use Rattle.std.proofs.lemmas.Result.{on_ok_weaker}
use Rattle.bfs_txn.proofs.Layers.{told_put, changed_put}
use Rattle.bfs_txn.proofs.overlay.OverlayEdits.set.Goals as goal

pub returns-clause-told : goal.returns-clause-told
returns-clause-told g c =
    on_ok_weaker c.put_above.result (told_put c.put_above.new.self c.args.self.now.group.now c.args.block c.args.from.now (g.B.Blocks.told c.args.self.now.under.now)) c.put_above.ensures.put

pub returns-clause-changed : goal.returns-clause-changed
returns-clause-changed g c =
    on_ok_weaker c.put_above.result (λ put k. changed_put c.put_above.new.self c.args.self.now.group.now c.args.block c.args.from.now k (put k)) c.put_above.ensures.put
