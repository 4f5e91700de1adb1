use Rattle.bfs_maps.proofs.Sized.{large_block}
use Rattle.bfs_make.proofs.site.has_long_blocks.Goals as goal

pub returns : goal.returns
returns c =
    let v = c.requires.block_size in
    large_block c.args.sup.block_size c.args.sup.block_shift v.0 v.2
