use Rattle.std.proofs.Common.{arith}
use Rattle.bfs_smalldata.proofs.Lookups.{take_gone, take_others, many_without}
use Rattle.bfs_smalldata.proofs.laws.taken_is_gone.Goals as goal

pub returns-clause-gone : goal.returns-clause-gone
returns-clause-gone c = λ name items few. take_gone name items (few name)

pub returns-clause-others : goal.returns-clause-others
returns-clause-others c = λ name other items ne. take_others other name ne items

pub returns-clause-distinct : goal.returns-clause-distinct
returns-clause-distinct c = λ name items few other. omega (arith, few other, many_without other name items)
