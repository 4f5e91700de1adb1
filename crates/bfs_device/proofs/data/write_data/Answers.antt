use Rattle.std.proofs.Common.{◌≡◌, None, Some, sym, subst, rules}
use Rattle.bfs_disk.specs.State.{Tells}
use Rattle.bfs_device.specs.Layouts.{layout_of}
use Rattle.bfs_device.specs.Books.{Books, books_of, IsRight}
use Rattle.bfs_device.specs.Data.{touching, AreSameBut}
use Rattle.bfs_device.proofs.Stepping.{known_of}
use Rattle.bfs_device.proofs.Reading.{write_right, write_failed, write_moments, still_stopped}
use Rattle.bfs_device.proofs.Keeping.{data_done, data_failed, agrees_same}
use Rattle.bfs_device.proofs.data.write_data.Goals as goal

pub returns-in-Ok-clause-right : goal.returns-in-Ok-clause-right
returns-in-Ok-clause-right g c = λ t right.
    let j = c.args.journal.now in
    let disk = c.args.disk.now in
    let none_yet : j.stop ≡ None = search rules in
    write_right (books_of j) (known_of j c.requires.ready) none_yet (g.D.Disk.size disk) c.requires.on_disk (g.D.Disk.state disk) (g.met.D.Disk.filled disk) (g.met.D.Disk.sized disk) t right c.args.block c.args.from.now c.requires.place c.requires.long c.requires.apart _ (g.D.Disk.state c.write_block.new.disk) c.in-Ok.ensures.written

pub returns-in-Ok-clause-moments : goal.returns-in-Ok-clause-moments
returns-in-Ok-clause-moments g c = λ t right.
    let j = c.args.journal.now in
    let disk = c.args.disk.now in
    let none_yet : j.stop ≡ None = search rules in
    write_moments (books_of j) (known_of j c.requires.ready) none_yet (g.D.Disk.size disk) c.requires.on_disk (g.D.Disk.state disk) (g.met.D.Disk.filled disk) (g.met.D.Disk.sized disk) t right c.args.block c.args.from.now c.requires.place c.requires.long c.requires.apart c.write_block.result _ _ _ _ c.write_block.ensures.time

pub returns-in-Err-clause-still_right : goal.returns-in-Err-clause-still_right
returns-in-Err-clause-still_right g c = λ t right.
    let j = c.args.journal.now in
    let disk = c.args.disk.now in
    let none_yet : j.stop ≡ None = search rules in
    subst (λ (b : Books). Tells (g.D.Disk.state c.write_block.new.disk) (λ s. IsRight b (touching c.args.block t) s × AreSameBut c.args.block (books_of j) right.0 b s)) (sym c.halt.ensures.books)
    (write_failed (books_of j) (known_of j c.requires.ready) none_yet (g.D.Disk.size disk) c.requires.on_disk (g.D.Disk.state disk) (g.met.D.Disk.filled disk) (g.met.D.Disk.sized disk) t right c.args.block c.args.from.now c.requires.place c.requires.long c.requires.apart c.faults.result (g.D.Disk.state c.write_block.new.disk) c.in-Err.ensures.half)

pub returns-in-Err-clause-moments : goal.returns-in-Err-clause-moments
returns-in-Err-clause-moments g c = λ t right.
    let j = c.args.journal.now in
    let disk = c.args.disk.now in
    let none_yet : j.stop ≡ None = search rules in
    write_moments (books_of j) (known_of j c.requires.ready) none_yet (g.D.Disk.size disk) c.requires.on_disk (g.D.Disk.state disk) (g.met.D.Disk.filled disk) (g.met.D.Disk.sized disk) t right c.args.block c.args.from.now c.requires.place c.requires.long c.requires.apart c.write_block.result _ _ _ _ c.write_block.ensures.time

pub returns-in-Some-clause-still_right : goal.returns-in-Some-clause-still_right
returns-in-Some-clause-still_right g c = λ t right. still_stopped (books_of c.args.journal.now) _ t c.args.block (g.D.Disk.state c.args.disk.now) c.in-Some.is right

pub returns-in-Ok-clause-agrees : goal.returns-in-Ok-clause-agrees
returns-in-Ok-clause-agrees g c = data_done c.args.journal.now.sup c.requires.ready.valid c.args.block c.args.from.now c.requires.long c.write_keeps.ensures (g.D.Disk.state c.args.disk.now) (g.D.Disk.state c.write_block.new.disk) c.in-Ok.ensures.written

pub returns-in-Err-clause-agrees : goal.returns-in-Err-clause-agrees
returns-in-Err-clause-agrees g c = data_failed c.args.journal.now.sup c.requires.ready.valid c.args.block c.args.from.now c.requires.long c.failed_write_keeps.ensures (g.D.Disk.state c.args.disk.now) (g.D.Disk.state c.write_block.new.disk) c.in-Err.ensures.half

pub returns-in-Some-clause-agrees : goal.returns-in-Some-clause-agrees
returns-in-Some-clause-agrees g c = agrees_same (Some c.args.block) (layout_of c.args.journal.now.sup).sectors (g.D.Disk.state c.args.disk.now)
