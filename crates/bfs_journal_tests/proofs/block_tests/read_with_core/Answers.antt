use Rattle.std.proofs.Common.{◌≡◌, Some, subst}
use Rattle.std.specs.Option.{option_map}
use Rattle.bfs_device.specs.Books.{View}
use Rattle.bfs_core.specs.Cores.{newest_map}
use Rattle.bfs_device_blocks.proofs.Facing.{core_stands}
use Rattle.bfs_device_blocks.proofs.Keeping.{core_alone}
use Rattle.bfs_journal_tests.proofs.block_tests.read_with_core.Goals as goal

pub read_standing-result-requires-clause-stands : goal.read_standing-result-requires-clause-stands
read_standing-result-requires-clause-stands g c = λ m at.
    let k = c.requires.core in
    let device = c.args.device.now in
    let here = subst (λ (x : View g.row.D.Denot). option_map (newest_map x.books) (g.D.Disk.state x.disk) ≡ Some m) c.over-blocks.ensures.device_now at in
    (k.0, k.2, (core_stands k.0 k.2 device.books (g.D.Disk.state device.disk) m (core_alone k.0 k.2 device.books (g.D.Disk.state device.disk) k.3.0) here).sound)
