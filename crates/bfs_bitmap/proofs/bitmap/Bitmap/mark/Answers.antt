use Rattle.std.proofs.Common.{◌≡◌, ◌∙◌, ap, ℕ}
use Rattle.bfs_bitmap.specs.declared.tally.Tally.{Tally}
use Rattle.bfs_bitmap.specs.Tallies.{raised}
use Rattle.bfs_bitmap.specs.Runs.{Room}
use Rattle.bfs_bitmap.proofs.Counts.{took, took_counted, took_free}
use Rattle.bfs_bitmap.proofs.bitmap.Bitmap.mark.Goals as goal

pub returns-clause-marked : goal.returns-clause-marked
returns-clause-marked g c m is fits nothing none =
    let room : Tally → Room = λ t. record { block_size = c.self.inside.block_size; blocks = c.self.inside.blocks; group_blocks = c.self.inside.group_blocks; given = c.self.inside.given.items; last = c.self.inside.last; tally = t; tally_kept = c.self.inside.tally_kept } in
    let change : Room → Room = λ v. record v { tally = raised c.args.wanted c.args.first c.args.len c.args.low v.blocks v.tally } in
    let room_is : room c.raise-self-inside.result ≡ change c.args.self.now =
    ap room (c.raise-self-inside.ensures ∙ ap (λ (n : ℕ). raised n c.args.first c.args.len c.args.low c.self.inside.blocks c.self.inside.tally) c.from.ensures) ∙ ap change c.self.view_is in
    took c.args.self.now (room c.raise-self-inside.result) m (g.E.Blocks.told c.fill.new.edits) c.args.wanted c.args.first c.args.len c.args.low room_is fits nothing none (c.in-Ok.ensures.marks m is fits.has)

pub returns-clause-counted : goal.returns-clause-counted
returns-clause-counted g c m is has run counted =
    let room : Tally → Room = λ t. record { block_size = c.self.inside.block_size; blocks = c.self.inside.blocks; group_blocks = c.self.inside.group_blocks; given = c.self.inside.given.items; last = c.self.inside.last; tally = t; tally_kept = c.self.inside.tally_kept } in
    let change : Room → Room = λ v. record v { tally = raised c.args.wanted c.args.first c.args.len c.args.low v.blocks v.tally } in
    let room_is : room c.raise-self-inside.result ≡ change c.args.self.now =
    ap room (c.raise-self-inside.ensures ∙ ap (λ (n : ℕ). raised n c.args.first c.args.len c.args.low c.self.inside.blocks c.self.inside.tally) c.from.ensures) ∙ ap change c.self.view_is in
    took_counted c.args.self.now (room c.raise-self-inside.result) m (g.E.Blocks.told c.fill.new.edits) c.args.wanted c.args.first c.args.len c.args.low room_is c.requires.inside run counted (c.in-Ok.ensures.marks m is has)

pub returns-clause-free : goal.returns-clause-free
returns-clause-free g c m is has run =
    let room : Tally → Room = λ t. record { block_size = c.self.inside.block_size; blocks = c.self.inside.blocks; group_blocks = c.self.inside.group_blocks; given = c.self.inside.given.items; last = c.self.inside.last; tally = t; tally_kept = c.self.inside.tally_kept } in
    let change : Room → Room = λ v. record v { tally = raised c.args.wanted c.args.first c.args.len c.args.low v.blocks v.tally } in
    let room_is : room c.raise-self-inside.result ≡ change c.args.self.now =
    ap room (c.raise-self-inside.ensures ∙ ap (λ (n : ℕ). raised n c.args.first c.args.len c.args.low c.self.inside.blocks c.self.inside.tally) c.from.ensures) ∙ ap change c.self.view_is in
    took_free c.args.self.now (room c.raise-self-inside.result) m (g.E.Blocks.told c.fill.new.edits) c.args.wanted c.args.first c.args.len c.args.low room_is c.requires.inside run (c.in-Ok.ensures.marks m is has)
