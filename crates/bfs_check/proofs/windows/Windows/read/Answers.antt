use Rattle.std.proofs.Common.{◌*◌, ◌/◌, ◌%◌, ◌∙◌, ℕ, List, length, take, drop, ap}
use Rattle.bfs_check.proofs.Slotted.{copied}
use Rattle.bfs_check.proofs.windows.Windows.read.Goals as goal

pub returns-then-fetch-clause-bytes : goal.returns-then-fetch-clause-bytes
returns-then-fetch-clause-bytes g c =
    let w = c.fetch.new.self in
    let n = length c.args.into.now in
    copied (g.D.Disk.state c.args.disk.now) w.tags w.bytes.items c.args.first (n / 512) c.copy.new.into c.fetch.ensures.kept (c.fetch.ensures.there c.if-fetch.true) c.requires.within
    (c.copy.auto.into ∙ c.requires.long)
    (c.copy.ensures ∙ ap (λ (xs : List ℕ). take n (drop (512 * (c.args.first % 2048)) xs)) c.deref.ensures.value ∙ ap (λ (m : ℕ). take m (drop (512 * (c.args.first % 2048)) w.bytes.items)) c.requires.long)
