use Rattle.std.proofs.Common.{◌≡◌, sym, subst, true}
use Rattle.bfs_finding.specs.Findings.{IsBroken}
use Rattle.bfs_node_check.specs.Roles.{is_node}
use Rattle.bfs_node_check.proofs.Faults.{inode_fault, good_node}
use Rattle.bfs_node_check.proofs.inode.check_inode.Goals as goal

pub returns-in-Err-clause-wrong : goal.returns-in-Err-clause-wrong
returns-in-Err-clause-wrong c v way same shift is arrives =
    subst (IsBroken v) (sym c.finding_of.ensures)
    (inode_fault v way c.args.block c.args.bytes.now c.args.ag_shift c.args.role c.in-Err.wrong same shift is arrives c.in-Err.ensures.wrong)

pub returns-in-Ok-check_node-clause-node : goal.returns-in-Ok-check_node-clause-node
returns-in-Ok-check_node-clause-node c node v same =
    good_node v c.args.block c.args.bytes.now c.args.role same node c.in-Ok.ensures.mode c.in-Ok-check_node.ensures.area c.in-Ok-check_node.ensures.target

pub returns-in-Err-check_node-clause-wrong : goal.returns-in-Err-check_node-clause-wrong
returns-in-Err-check_node-clause-wrong c v way same shift is arrives =
    let node : is_node c.args.role ≡ true = sym c.if-not-is_node.ensures in
    subst (IsBroken v) (sym c.finding_of-in-Err-check_node.ensures)
    (inode_fault v way c.args.block c.args.bytes.now c.args.ag_shift c.args.role c.in-Err-check_node.wrong same shift is arrives (c.in-Err-check_node.ensures.wrong c.args.block c.args.ag_shift c.args.role node))
