use Rattle.std.proofs.Common.{rules, ◌≡◌, ◌∙◌, ◌<◌, w64, to_z, of_z, ◌+◌, arith}
use Rattle.bfs_tree_check.proofs.Joined.{all_at}
use Rattle.bfs_tree_check.proofs.Neighbours.{behind_is, none_behind}
use Rattle.bfs_tree_check.proofs.links.link_behind.Goals as goal

pub link_to-requires : goal.link_to-requires
link_to-requires c = all_at (λ x. x < 9223372036854775808) c.args.leaves.now (c.args.i + 1) 0 c.if-next-count.true c.requires.small

pub returns-then-next-count : goal.returns-then-next-count
returns-then-next-count c =
    let same : to_z w64 (of_z w64 c.link_to.result) ≡ c.link_to.result = search rules in
    same ∙ c.link_to.ensures ∙ behind_is c.args.leaves.now c.args.i 0 c.if-next-count.true

pub returns-else-next-count : goal.returns-else-next-count
returns-else-next-count c = none_behind c.args.leaves.now c.args.i (let f = c.if-next-count.false in omega (arith, f))
