use Rattle.std.proofs.Common.{ℕ, List, drop, subst, arith, length-drop}
use Rattle.bfs_node_check.specs.Areas.{IsWrongArea, HasShortNames}
use Rattle.bfs_node_check.specs.Inodes.{in_area}
use Rattle.bfs_node_check.proofs.Walked.{rest_part, wrong_few}
use Rattle.bfs_node_check.proofs.inode.check_node.Goals as goal

pub area_wrong-requires : goal.area_wrong-requires
area_wrong-requires c =
    let bytes : List ℕ = c.args.bytes.now in
    let few = wrong_few (drop 232 bytes) c.in-Err.at (subst (λ (l : List ℕ). IsWrongArea l c.in-Err.at) (rest_part 232 bytes) c.in-Err.ensures.wrong) in
    let long = length-drop 232 bytes in
    let most = c.requires.few in
    omega (arith, few, long, most)

pub returns-in-Err-clause-wrong : goal.returns-in-Err-clause-wrong
returns-in-Err-clause-wrong c block shift role node =
    let bytes : List ℕ = c.args.bytes.now in
    in_area node c.in-Err.at (subst (λ (l : List ℕ). IsWrongArea l c.in-Err.at) (rest_part 232 bytes) c.in-Err.ensures.wrong) c.area_wrong.ensures.part c.area_wrong.ensures.found

pub returns-clause-area : goal.returns-clause-area
returns-clause-area c = subst HasShortNames (rest_part 232 c.args.bytes.now) c.in-Ok.ensures.sound
