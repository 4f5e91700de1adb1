use Rattle.std.proofs.Common.{◌≡◌, ◌≤◌, ◌<◌, ◌-◌, ◌∙◌, ap, arith}
use Rattle.bfs_bitmap.specs.Runs.{Room}
use Rattle.bfs_bitmap.proofs.Counting.{stretch_long, stretch_short}
use Rattle.bfs_bitmap.proofs.bitmap.Bitmap.stretch.Goals as goal

pub returns-then-end-first-clause-stretch : goal.returns-then-end-first-clause-stretch
returns-then-end-first-clause-stretch g c m is has shown =
    let blocks_is : c.self.inside.blocks ≡ c.args.self.now.blocks = ap (λ (v : Room). v.blocks) c.self.view_is in
    let one = c.in-Ok.ensures.bounds in
    let two = c.in-Ok-next.ensures.bounds in
    let first = c.in-Ok.ensures.next m is has shown in
    let second = c.in-Ok-next.ensures.next m (c.in-Ok.ensures.told ∙ is) has (c.in-Ok.ensures.shown m is has shown) in
    let long : c.args.len ≤ c.in-Ok-next.end - c.in-Ok.first = let e = c.from.ensures in omega (arith, e) in
    stretch_long c.args.self.now m c.args.len c.args.at c.in-Ok.first c.limit-limit.result c.in-Ok-next.end c.requires.some one.0 c.limit-limit.ensures two.0 two.1 long first.before (first.here (omega arith)) second

pub returns-clause-stretch : goal.returns-clause-stretch
returns-clause-stretch g c m is has shown =
    let one = c.in-Ok.ensures.bounds in
    let two = c.in-Ok-next.ensures.bounds in
    let first = c.in-Ok.ensures.next m is has shown in
    let second = c.in-Ok-next.ensures.next m (c.in-Ok.ensures.told ∙ is) has (c.in-Ok.ensures.shown m is has shown) in
    let short : c.in-Ok-next.end - c.in-Ok.first < c.args.len = let e = c.from.ensures in omega (arith, e) in
    stretch_short c.args.self.now m c.args.len c.args.at c.in-Ok.first c.limit-limit.result c.in-Ok-next.end (let some = c.self.invariant.0.some_group in omega arith) c.requires.some c.limit-limit.ensures two.1 short first.before second
