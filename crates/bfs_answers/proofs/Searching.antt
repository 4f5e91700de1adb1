-- What a search of an index rests on, and what the other calls do.
use Rattle.std.proofs.Common.{◌≡◌, ℕ, List, Option, Some, true, false, refl}
use Rattle.bfs_super.specs.declared.geometry.Geometry.{Geometry}
use Rattle.bfs_bitmap.specs.Runs.{Room}
use Rattle.bfs_txn.specs.Told.{AreSized}
use Rattle.bfs_tree.specs.declared.call.Call.{Call}
use Rattle.bfs_tree.specs.declared.call.Call.TheVariants as calls
use Rattle.bfs_tree.specs.Trees.{Tree}
use Rattle.bfs_look.specs.Ready.{HasReady}
use Rattle.bfs_query.proofs.Resting.{has_found, own_found}
use Rattle.bfs_answers.specs.Looks.{MaySee, RestsOn, is_search}

-- where all of a volume is told, any call may be looked at
pub may_see : (g : Geometry) (v : Room) (m : ℕ → Option (List ℕ)) → AreSized g.block_size (Some m) → HasReady g v m → (call : Call) → MaySee g v m call
may_see g v m sized h (calls.IndexFind name low high) = has_found g v m h.tree h.lists name low high sized h.ready
may_see g v m sized h _ = h

-- what isn't a search sees all of it
pub sees_all : (g : Geometry) (v : Room) (m : ℕ → Option (List ℕ)) (call : Call) → is_search call ≡ false → MaySee g v m call → HasReady g v m
sees_all g v m (calls.IndexFind name low high) not sees = absurd (let bad : true ≡ false = not in cc)
sees_all g v m _ not sees = sees

-- a map says of itself what a search rests on
pub rests_own : (g : Geometry) (m : ℕ → Option (List ℕ)) (tree : Tree) → AreSized g.block_size (Some m) → (call : Call) → is_search call ≡ true → RestsOn g m m tree call
rests_own g m tree sized (calls.IndexFind name low high) is = own_found g m tree name low high sized
rests_own g m tree sized _ is = absurd (let bad : false ≡ true = is in cc)

-- and nothing else rests so
pub rests_search : (g : Geometry) (w m : ℕ → Option (List ℕ)) (tree : Tree) (call : Call) → RestsOn g w m tree call → is_search call ≡ true
rests_search g w m tree (calls.IndexFind name low high) rests = refl
rests_search g w m tree _ rests = absurd rests
