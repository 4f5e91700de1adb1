use Rattle.std.proofs.Common.{rules}
use Rattle.bfs_model.proofs.model.Model.read.Goals as goal

pub returns-in-Lookup : goal.returns-in-Lookup
returns-in-Lookup c = λ _ session stamp. search (rules, c.lookup.ensures session stamp)
