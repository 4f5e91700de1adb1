use Rattle.bfs_txn.proofs.Settles.{brought_first, brought_rest}
use Rattle.bfs_txn.proofs.changed.bring_among.Goals as goal

pub returns-clause-first : goal.returns-clause-first
returns-clause-first c =
    brought_first c.args.blocks.now c.swap.new.self c.rotate_right.new.self c.args.at c.args.own c.args.i c.requires.at c.requires.own c.requires.inside c.swap.ensures.after c.swap.ensures.len c.rotate_right.ensures.after

pub returns-clause-rest : goal.returns-clause-rest
returns-clause-rest c =
    brought_rest c.args.blocks.now c.swap.new.self c.rotate_right.new.self c.args.at c.args.own c.args.i c.requires.at c.requires.own c.requires.inside c.swap.ensures.after c.swap.ensures.len c.rotate_right.ensures.after
