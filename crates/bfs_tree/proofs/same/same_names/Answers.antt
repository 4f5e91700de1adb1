use Rattle.std.proofs.Common.{refl, arith}
use Rattle.bfs_tree.proofs.Sames.{same-by-places}
use Rattle.bfs_tree.proofs.same.same_names.Goals as goal

pub returns : goal.returns
returns c = (λ _. same-by-places c.args.names.now c.args.others.now c.if-names-others.false (λ k d short. c.loop-i.invariant k d (omega (arith, short, c.loop-i-test.false))), λ _. refl)
