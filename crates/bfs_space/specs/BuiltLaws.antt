-- The calls that are built so far leave the holds of sessions as they are.
use Rattle.std.proofs.Common.{◌≡◌, true, false, refl}
use Rattle.bfs_tree.specs.declared.call.Call.{Call}
use Rattle.bfs_tree.specs.declared.call.Call.TheVariants as calls
use Rattle.bfs_space.specs.Holds.{keeps_holds}
use Rattle.bfs_replies.specs.Looks.{is_built}

pub built_stays : (call : Call) → is_built call ≡ true → keeps_holds call ≡ true
built_stays (calls.Hold id at count writes) is = absurd (let bad : false ≡ true = is in cc)
built_stays (calls.Release id bytes whole before after) is = absurd (let bad : false ≡ true = is in cc)
built_stays _ is = refl
