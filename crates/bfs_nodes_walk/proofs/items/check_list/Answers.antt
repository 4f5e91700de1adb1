use Rattle.std.proofs.Common.{subst, sym, arith}
use Rattle.bfs_finding.specs.Findings.{IsBroken}
use Rattle.bfs_nodes_walk.proofs.Repeats.{past_few, runs_past_there}
use Rattle.bfs_nodes_walk.proofs.items.check_list.Goals as goal

pub past_end-requires : goal.past_end-requires
past_end-requires c = let few = past_few c.args.area.now c.in-Err.fault.at c.in-Err.ensures.err.1 in let most = c.requires.few in omega (arith, few, most)

pub returns-in-Err-clause-wrong : goal.returns-in-Err-clause-wrong
returns-in-Err-clause-wrong c v same reached =
    subst (IsBroken v) (sym c.past_end.ensures) (runs_past_there v c.args.id c.args.area.now c.in-Err.fault.at same reached c.in-Err.ensures.err.1)
