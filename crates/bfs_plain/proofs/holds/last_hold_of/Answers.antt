use Rattle.std.proofs.Common.{◌≡◌, None, ◌∙◌, arith}
use Rattle.std.proofs.lemmas.Grind.{common_steps}
use Rattle.bfs_plain.proofs.Lasts.{last_from, last-found}
use Rattle.bfs_plain.proofs.holds.last_hold_of.Goals as goal

pub returns : goal.returns
returns c =
    let all : c.loop-hold.last ≡ last_from c.args.session c.args.id None c.args.holds.now.items = grind (arith, common_steps, c.loop-hold.invariant) in
    all ∙ last-found c.args.session c.args.id c.args.holds.now.items
