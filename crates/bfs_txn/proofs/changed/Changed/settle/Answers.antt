use Rattle.std.proofs.Common.{ℕ, subst, sym}
use Rattle.bfs_txn.proofs.Settles.{Settles, settles_kept, settles_own, settles_new}
use Rattle.bfs_txn.proofs.changed.Changed.settle.Goals as goal
use Rattle.bfs_txn.proofs.changed.Changed.settle.Goals.{After-bring}

pub returns-in-Ok-clause-settled : goal.returns-in-Ok-clause-settled
returns-in-Ok-clause-settled c =
    (settles_kept c.args.mark c.args.own c.args.i c.in-Ok.at c.block-block.result c.args.self.now c.exchange.new.self c.requires.settled c.requires.own c.requires.inside c.exchange.ensures.len c.block-block.ensures c.in-Ok.ensures c.exchange.ensures.first).settled

pub returns-in-Ok-clause-put : goal.returns-in-Ok-clause-put
returns-in-Ok-clause-put c =
    (settles_kept c.args.mark c.args.own c.args.i c.in-Ok.at c.block-block.result c.args.self.now c.exchange.new.self c.requires.settled c.requires.own c.requires.inside c.exchange.ensures.len c.block-block.ensures c.in-Ok.ensures c.exchange.ensures.first).put

pub returns-in-Ok-place_in-clause-settled : goal.returns-in-Ok-place_in-clause-settled
returns-in-Ok-place_in-clause-settled c =
    (settles_own c.args.mark c.args.own c.args.i c.in-Ok-place_in.at c.block-block.result c.args.self.now c.exchange-in-Ok-place_in.new.self c.requires.settled c.requires.own c.requires.inside c.exchange-in-Ok-place_in.ensures.len c.block-block.ensures c.in-Ok-place_in.ensures
    c.exchange-in-Ok-place_in.ensures.first).settled

pub returns-in-Ok-place_in-clause-put : goal.returns-in-Ok-place_in-clause-put
returns-in-Ok-place_in-clause-put c =
    (settles_own c.args.mark c.args.own c.args.i c.in-Ok-place_in.at c.block-block.result c.args.self.now c.exchange-in-Ok-place_in.new.self c.requires.settled c.requires.own c.requires.inside c.exchange-in-Ok-place_in.ensures.len c.block-block.ensures c.in-Ok-place_in.ensures
    c.exchange-in-Ok-place_in.ensures.first).put

new : (c : After-bring) → Settles c.args.mark c.args.own c.args.i c.args.self.now c.bring.result c.bring.new.self
new c =
    subst (λ (n : ℕ). Settles c.args.mark c.args.own c.args.i c.args.self.now n c.bring.new.self) (sym c.bring.ensures.more)
    (settles_new c.args.mark c.args.own c.args.i c.in-Err-place_in.at c.in-Err.field-0 c.block-block.result c.args.self.now c.bring.new.self c.requires.settled c.requires.own c.requires.inside c.bring.ensures.len c.block-block.ensures c.in-Err.ensures c.in-Err-place_in.ensures
    c.bring.ensures.first)

pub returns-in-Err-place_in-clause-settled : goal.returns-in-Err-place_in-clause-settled
returns-in-Err-place_in-clause-settled c = (new c).settled

pub returns-in-Err-place_in-clause-put : goal.returns-in-Err-place_in-clause-put
returns-in-Err-place_in-clause-put c = (new c).put

pub returns-in-Err-place_in-clause-sized : goal.returns-in-Err-place_in-clause-sized
returns-in-Err-place_in-clause-sized c = (new c).sized
