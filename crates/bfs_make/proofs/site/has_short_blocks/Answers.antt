use Rattle.std.proofs.Common.{◌≤◌, ◌^◌, ◌≡◌, arith}
use Rattle.std.proofs.Math.Pow.{pow_mono}
use Rattle.bfs_make.proofs.site.has_short_blocks.Goals as goal

pub returns : goal.returns
returns c =
    let v = c.requires.block_size in
    let p : 2 ^ c.args.sup.block_shift ≤ 2 ^ 13 = pow_mono v.1 in
    let e : c.args.sup.block_size ≡ 2 ^ c.args.sup.block_shift = v.2 in
    omega (arith, p, e)
