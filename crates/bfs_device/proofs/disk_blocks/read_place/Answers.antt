use Rattle.std.proofs.Common.{◌*◌, ℕ, ◌∙◌, subst}
use Rattle.std.proofs.lemmas.Result.{on_ok_weaker}
use Rattle.bfs_disk.specs.Disk.{ReadsSectors}
use Rattle.bfs_device.proofs.PlainReads.{plain_read}
use Rattle.bfs_device.proofs.disk_blocks.read_place.Goals as goal

pub returns-clause-bytes : goal.returns-clause-bytes
returns-clause-bytes g c =
    let disk = c.args.disk.now in
    on_ok_weaker c.read.result
    (λ reads. plain_read c.args.block_size c.args.blocks c.args.place c.requires.even (g.D.Disk.state disk) (g.D.Disk.size disk) (g.met.D.Disk.filled disk) (g.met.D.Disk.sized disk) c.requires.on_disk c.requires.place
    c.read.new.into (c.read.auto.into ∙ c.requires.long) (subst (λ (n : ℕ). ReadsSectors (g.D.Disk.state disk) (n * c.args.place) c.read.new.into) c.from.ensures reads))
    c.read.ensures.bytes
