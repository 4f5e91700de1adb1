use Rattle.std.proofs.Common.{arith}
use Rattle.bfs_stream.specs.Sizes.{sizes_of}
use Rattle.bfs_stream.proofs.Sized.{valid_sizes}
use Rattle.bfs_stream_pages.proofs.Filled.{array_short}
use Rattle.bfs_set_size.proofs.allowance.array_length.Goals as goal

pub returns-clause-few : goal.returns-clause-few
returns-clause-few c =
    let short = array_short (record { id = 0; sizes = sizes_of c.args.sup.now }) (valid_sizes c.args.sup.now c.requires) in
    let is = c.max.ensures in
    omega (arith, short, is)
