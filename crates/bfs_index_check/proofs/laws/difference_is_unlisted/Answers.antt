use Rattle.bfs_index_check.proofs.Unlisted.{said}
use Rattle.bfs_index_check.proofs.laws.difference_is_unlisted.Goals as goal

pub returns : goal.returns
returns c v tree index kind id finding at wanted_keys found_keys h = said v tree index kind id at wanted_keys found_keys finding h
