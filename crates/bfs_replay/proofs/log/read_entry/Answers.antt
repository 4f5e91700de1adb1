use Rattle.std.proofs.Common.{arith}
use Rattle.bfs_replay.proofs.Sizes.{sizes}
use Rattle.bfs_replay.proofs.log.read_entry.Goals as goal

pub log_entry-requires-clause-block : goal.log_entry-requires-clause-block
log_entry-requires-clause-block g c =
    let s = sizes c.args.sup.now c.requires.valid in
    omega (arith, c.read_block.auto.into, c.requires.long, s.0, s.1)
