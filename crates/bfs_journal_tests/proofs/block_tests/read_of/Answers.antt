use Rattle.std.proofs.Common.{rules, ◌≡◌, ◌∙◌, sym, subst, ap}
use Rattle.bfs_device.specs.Books.{View}
use Rattle.bfs_device_blocks.specs.Lent.{HasCore, Lent}
use Rattle.bfs_journal_tests.proofs.block_tests.read_of.Goals as goal

pub returns-clause-core : goal.returns-clause-core
returns-clause-core g c = λ t0 adopted sp core.
    let u = c.read_one-result.new.blocks in
    let same : u.device.ghost_name ≡ c.over-blocks.result.device.ghost_name = ap (λ (n : Lent g.row.D.Denot). n.name) c.read_one-result.ensures.note in
    let named : u.device.ghost_name ≡ c.over-arg-1.given = same ∙ c.over-blocks.ensures.device in
    let back : c.device-1.given.0 ≡ u.device.now = search rules in
    let began : u.start.value ≡ c.args.device.now = ap (λ (n : Lent g.row.D.Denot). n.start) c.read_one-result.ensures.note ∙ c.over-blocks.ensures.start in
    let first = subst (λ (x : View g.row.D.Denot). HasCore t0 adopted sp x.books (g.D.Disk.state x.disk) (g.D.Disk.clock x.disk) (g.D.Disk.since x.disk)) (sym began) core in
    subst (λ (x : View g.row.D.Denot). HasCore t0 adopted sp x.books (g.D.Disk.state x.disk) (g.D.Disk.clock x.disk) (g.D.Disk.since x.disk)) (sym back) (c.done.ensures.core t0 adopted sp first)
