use Rattle.std.proofs.Common.{◌∙◌, List, sym, ap, subst}
use Rattle.std.proofs.lemmas.Result.{on_ok_weaker}
use Rattle.bfs_device.specs.Books.{books_of}
use Rattle.bfs_device.specs.Data.{newest_in}
use Rattle.bfs_device.specs.Orders.{AllAscend}
use Rattle.bfs_txn.specs.declared.group.Group.{Group}
use Rattle.bfs_device.proofs.Stepping.{known_of}
use Rattle.bfs_device.proofs.Reading.{newest_long, newest_told, read_told}
use Rattle.bfs_device.proofs.data.read_newest.Goals as goal

pub newest_bytes-requires : goal.newest_bytes-requires
newest_bytes-requires g c = λ is. subst AllAscend (sym c.deref.ensures.value) (c.requires.ready.ordered is)

pub copy_from_slice-requires : goal.copy_from_slice-requires
copy_from_slice-requires g c =
    let j = c.args.journal.now in
    c.requires.long ∙ sym (newest_long (books_of j) c.args.block c.in-Some-newest_bytes.bytes.now (known_of j c.requires.ready) (sym (ap (λ (gs : List Group). newest_in gs c.args.block) c.deref.ensures.value) ∙ c.in-Some-newest_bytes.ensures))

pub returns-in-Some-newest_bytes-clause-bytes : goal.returns-in-Some-newest_bytes-clause-bytes
returns-in-Some-newest_bytes-clause-bytes g c =
    let j = c.args.journal.now in
    newest_told (books_of j) (g.D.Disk.state c.args.disk.now) c.args.block c.in-Some-newest_bytes.bytes.now c.copy_from_slice.new.self (known_of j c.requires.ready) (sym (ap (λ (gs : List Group). newest_in gs c.args.block) c.deref.ensures.value) ∙ c.in-Some-newest_bytes.ensures) c.copy_from_slice.ensures.after

pub returns-in-None-clause-bytes : goal.returns-in-None-clause-bytes
returns-in-None-clause-bytes g c =
    let j = c.args.journal.now in
    on_ok_weaker c.read_kept.result (λ read. read_told (books_of j) (g.D.Disk.state c.args.disk.now) c.args.block c.read_kept.new.into (known_of j c.requires.ready) (sym (ap (λ (gs : List Group). newest_in gs c.args.block) c.deref.ensures.value) ∙ c.in-None.ensures) read) c.read_kept.ensures.bytes
