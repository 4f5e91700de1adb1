use Rattle.std.proofs.Common.{rules, ◌≡◌, ◌∙◌, ◌<◌, ◌-◌, w64, to_z, of_z, length, take, ap, sym, arith}
use Rattle.bfs_finding.specs.TreeFaults.{last_link}
use Rattle.bfs_tree_check.proofs.Joined.{all_at}
use Rattle.bfs_tree_check.proofs.Neighbours.{before_is}
use Rattle.bfs_tree_check.proofs.links.link_before.Goals as goal

pub link_to-requires : goal.link_to-requires
link_to-requires c =
    let low : c.args.i - 1 < length c.args.leaves.now = let h = c.requires.inside in omega (arith, h) in
    all_at (λ x. x < 9223372036854775808) c.args.leaves.now (c.args.i - 1) 0 low c.requires.small

pub returns-then-i-eq0 : goal.returns-then-i-eq0
returns-then-i-eq0 c = ap (λ n. last_link (take n c.args.leaves.now)) (sym c.if-i-eq0.true)

pub returns-else-i-eq0 : goal.returns-else-i-eq0
returns-else-i-eq0 c =
    let same : to_z w64 (of_z w64 c.link_to.result) ≡ c.link_to.result = search rules in
    same ∙ c.link_to.ensures ∙ before_is c.args.leaves.now c.args.i 0 (λ e. let f = c.if-i-eq0.false in omega (arith, e, f)) c.requires.inside
