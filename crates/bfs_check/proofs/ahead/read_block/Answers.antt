use Rattle.std.proofs.Common.{◌≤◌, ◌+◌, ◌*◌, ◌/◌, ◌%◌, ℕ, length, ◌∙◌, subst, sym}
use Rattle.std.proofs.lemmas.Result.{on_ok_weaker}
use Rattle.bfs_disk.specs.Disk.{ReadsSectors}
use Rattle.bfs_device.proofs.PlainReads.{plain_read}
use Rattle.bfs_check.proofs.Parts.{block_within}
use Rattle.bfs_check.proofs.ahead.read_block.Goals as goal

pub read-requires-clause-within : goal.read-requires-clause-within
read-requires-clause-within g c =
    subst (λ (n : ℕ). n * c.args.block % 64 + length c.args.into.now / 512 ≤ 64) (sym c.from-sectors.ensures)
    (subst (λ (n : ℕ). c.args.block_size / 512 * c.args.block % 64 + n / 512 ≤ 64) (sym c.requires.long) (block_within c.args.block_size c.args.block c.requires.parts))

pub returns-clause-bytes : goal.returns-clause-bytes
returns-clause-bytes g c =
    let disk = c.args.disk.now in
    on_ok_weaker c.read.result
    (λ reads. plain_read c.args.block_size c.args.blocks c.args.block c.requires.even (g.D.Disk.state disk) (g.D.Disk.size disk) (g.met.D.Disk.filled disk) (g.met.D.Disk.sized disk) c.requires.on_disk c.requires.place
    c.read.new.into (c.read.auto.into ∙ c.requires.long) (subst (λ (n : ℕ). ReadsSectors (g.D.Disk.state disk) (n * c.args.block) c.read.new.into) c.from-sectors.ensures reads))
    c.read.ensures.bytes
