use Rattle.bfs_rename.proofs.Renaming.{may_be}
use Rattle.bfs_rename.proofs.laws.may_be_renamed.Goals as goal

pub returns : goal.returns
returns c = may_be
