use Rattle.bfs_attrs.proofs.LastTaken.{last_gone}
use Rattle.bfs_attrs.proofs.laws.last_leaves.Goals as goal

pub returns : goal.returns
returns c b v mid now m d id name told1 told2 told3 old half third new alone there first rest1 second rest2 put set =
    last_gone b v m d name alone id there mid told1 old half first rest1 now told2 third second rest2 told3 put new set
