use Rattle.std.proofs.Common.{refl}
use Rattle.bfs_finding.proofs.laws.walks_are_worked.Goals as goal

pub returns : goal.returns
returns c = record {
  inners = refl;
  leaves = refl;
  met = refl;
  frees = refl;
  unmarked = refl;
  ring = refl;
  first_leaf = refl;
  behind_two = refl;
  last_leaf = refl;
  before_two = refl;
  null_found = refl;
  other_found = refl;
}
