use Rattle.std.proofs.Common.{◌∙◌, ◌++◌, ℕ, List, Option, ap}
use Rattle.bfs_index_check.specs.Compared.{pairs_of}
use Rattle.bfs_key_walk.specs.Gathered.{pair_with}
use Rattle.bfs_key_walk.proofs.gather.gather_node.Goals as goal

pub returns-in-Ok-put_pair-clause-gathered : goal.returns-in-Ok-put_pair-clause-gathered
returns-in-Ok-put_pair-clause-gathered g c m root n told known name is_root keys =
    c.in-Ok-put_pair.ensures ∙ ap (λ (k : Option (List ℕ)). pairs_of c.args.pairs.now.items ++ pair_with k c.args.id) (c.in-Ok.ensures.key m root n told known name is_root keys)
