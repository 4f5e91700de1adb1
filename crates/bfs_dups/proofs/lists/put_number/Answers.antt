use Rattle.std.proofs.Common.{refl, rules, ◌<◌, ◌^◌, ◌-◌, length}
use Rattle.bfs_bytes.specs.Fields.{unsigned_bytes}
use Rattle.bfs_bytes.proofs.Puts.{puts_part}
use Rattle.bfs_dups.proofs.Moved.{put-same, put-here}
use Rattle.bfs_dups.proofs.lists.put_number.Goals as goal
use borrow.Rule.Slice.PartMut.{put_mid}

pub returns-clause-here : goal.returns-clause-here
unfolding unsigned_bytes
returns-clause-here c =
    let small : c.args.number < 2 ^ 64 = search rules in
    put-here c.args.page.now (put_mid c.args.at (length c.args.page.now - c.args.at) c.args.page.now c.write_u64.new.buf) c.args.at c.args.number
    (puts_part c.args.at 8 c.args.page.now (unsigned_bytes 8 c.args.number) c.write_u64.new.buf refl c.requires c.write_u64.ensures) c.requires small

pub returns-clause-others : goal.returns-clause-others
unfolding unsigned_bytes
returns-clause-others c =
    put-same c.args.page.now (put_mid c.args.at (length c.args.page.now - c.args.at) c.args.page.now c.write_u64.new.buf) c.args.at c.args.number
    (puts_part c.args.at 8 c.args.page.now (unsigned_bytes 8 c.args.number) c.write_u64.new.buf refl c.requires c.write_u64.ensures) c.requires
