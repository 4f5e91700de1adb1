use Rattle.bfs_query.proofs.kind.index_of.Goals as goal

pub returns-then-inode-blocks-clause-cause : goal.returns-then-inode-blocks-clause-cause
returns-then-inode-blocks-clause-cause g c = c.damaged.ensures.cause (g.B.Blocks.counts c.args.under.now) (g.B.Blocks.counts c.args.under.now)

pub returns-in-Ok-clause-kind : goal.returns-in-Ok-clause-kind
returns-in-Ok-clause-kind g c m kind told inside can whole = c.in-Ok.ensures.kind m kind told can whole

pub returns-in-Err-clause-kind : goal.returns-in-Err-clause-kind
returns-in-Err-clause-kind g c m kind told inside can whole = c.in-Err.ensures.kind m kind told can whole
