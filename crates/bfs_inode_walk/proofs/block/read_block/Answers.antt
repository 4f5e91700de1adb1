use Rattle.std.proofs.Common.{◌∙◌, arith}
use Rattle.std.proofs.lemmas.List.{with_items_is}
use Rattle.bfs_inode_walk.proofs.Blocks.{contents_at}
use Rattle.bfs_inode_walk.proofs.block.read_block.Goals as goal

pub returns-in-Ok-get-clause-read : goal.returns-in-Ok-get-clause-read
returns-in-Ok-get-clause-read g c m told =
    with_items_is c.in-Ok.bytes c.get.new.into (let a = c.get.auto.into in let b = c.deref_mut.ensures.len in omega (arith, a, b))
    ∙ contents_at (g.B.Blocks.told c.args.under.now) m c.args.number c.get.new.into told (c.requires.all m told c.args.number c.requires.inside) c.in-Ok-get.ensures.bytes
