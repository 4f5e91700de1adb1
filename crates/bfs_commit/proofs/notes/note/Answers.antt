use Rattle.std.proofs.Common.{refl, sym, ap, subst}
use Rattle.std.specs.Option.{option_map}
use Rattle.bfs_disk.specs.Blocks.{contents_of}
use Rattle.bfs_device.specs.Layouts.{layout_of}
use Rattle.bfs_core.specs.Spaces.{noted}
use Rattle.bfs_core.specs.Cores.{newest_map}
use Rattle.bfs_device_blocks.specs.Lent.{HasCore}
use Rattle.bfs_device_blocks.proofs.Facing.{core_stands}
use Rattle.bfs_device_blocks.proofs.Holding.{hold_entered, sized_so}
use Rattle.bfs_device_blocks.proofs.Keeping.{core_alone}
use Rattle.bfs_space.specs.Books.{SpaceBooks, entry_noted}
use Rattle.bfs_commit.proofs.Bytes.{has_known}
use Rattle.bfs_commit.proofs.Noting.{joined_noted, noted_linked, told_entered, told_is_known, told_keeps, told_wants}
use Rattle.bfs_commit.proofs.Opens.{open_noted}
use Rattle.bfs_commit.proofs.notes.note.Goals as goal

pub returns-clause-joined : goal.returns-clause-joined
returns-clause-joined g c = joined_noted c.note_keeps_files.ensures c.args.space.now c.note.new.self c.args.device.now.books (g.D.Disk.state c.args.device.now.disk) c.args.session c.args.tag c.args.now _ c.args.call c.args.reply c.requires.session c.requires.goes c.requires.told c.note.ensures c.requires.joined

pub returns-clause-open : goal.returns-clause-open
returns-clause-open g c = λ p other o. open_noted p c.args.space.now c.note.new.self c.args.device.now.books (g.D.Disk.state c.args.device.now.disk) c.args.session (entry_noted c.args.space.now c.args.session c.args.tag c.args.now c.args.call c.args.reply) _ refl other c.note.ensures o

pub returns-clause-core : goal.returns-clause-core
returns-clause-core g c = λ t0 adopted core.
    let sp = c.args.space.now in
    let d = c.args.device.now in
    let entry = entry_noted sp c.args.session c.args.tag c.args.now c.args.call c.args.reply in
    subst (λ (x : SpaceBooks). HasCore t0 adopted x.view d.books (g.D.Disk.state d.disk) (g.D.Disk.clock d.disk) (g.D.Disk.since d.disk)) (sym c.note.ensures)
    (hold_entered t0 adopted sp.view d.books (g.D.Disk.state d.disk) (g.D.Disk.clock d.disk) (g.D.Disk.since d.disk) (noted sp.view entry) entry
    (λ st is. (told_entered t0 sp d.books (newest_map d.books st) c.args.session c.args.tag c.args.now c.args.call c.args.reply c.requires.session c.requires.joined.fitted c.requires.told
    (core_stands t0 sp.view d.books (g.D.Disk.state d.disk) (newest_map d.books st) (core_alone t0 sp.view d.books (g.D.Disk.state d.disk) core.0) (ap (option_map (newest_map d.books)) is)).sound).0)
    (told_is_known sp d.books c.args.session c.args.tag c.args.now c.args.call c.args.reply c.requires.told)
    (λ st is. told_keeps c.note_keeps_files.ensures t0 sp d.books (newest_map d.books st) c.args.session c.args.tag c.args.now c.args.call c.args.reply (contents_of st (layout_of d.books.sup).sectors) c.requires.session c.requires.joined.fitted c.requires.told c.requires.goes
    (core_stands t0 sp.view d.books (g.D.Disk.state d.disk) (newest_map d.books st) (core_alone t0 sp.view d.books (g.D.Disk.state d.disk) core.0) (ap (option_map (newest_map d.books)) is)).sound
    (has_known t0 adopted sp.view d.books (g.D.Disk.state d.disk) (g.D.Disk.clock d.disk) (g.D.Disk.since d.disk) core st is))
    (sized_so d.books (g.D.Disk.size d.disk) (g.D.Disk.state d.disk) (g.met.D.Disk.filled d.disk) (g.met.D.Disk.sized d.disk) c.steady.ensures.on_disk)
    (λ st is. noted_linked t0 sp.view (newest_map d.books st) entry (told_wants d.books sp.view.history c.args.call c.args.reply c.requires.told)) core)
