use Rattle.std.proofs.Common.{◌≡◌, ◌+◌, ◌/◌, length, rules}
use Rattle.bfs_bitmap.proofs.Covered.{clear_zeros}
use Rattle.bfs_bitmap.proofs.reserved.get_bits.Goals as goal

pub returns-in-Ok-clause-same : goal.returns-in-Ok-clause-same
returns-in-Ok-clause-same c k =
    let none : length c.args.bytes.now.items ≡ 0 = search rules in
    clear_zeros c.args.bytes.now.items c.in-Ok.new.items (c.args.blocks / 8 + 1) k none c.in-Ok.ensures
