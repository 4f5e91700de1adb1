-- What is told over an open group has blocks of one size; and a search takes nobody's place.
use Rattle.std.proofs.Common.{◌≡◌, ℕ, List, Option, Some, true, false, refl, arith}
use Rattle.bfs_super.specs.declared.sup.Super.{Super}
use Rattle.bfs_txn.specs.Changed.{over}
use Rattle.bfs_txn.specs.Laws.{over_sized}
use Rattle.bfs_txn.specs.Told.{AreSized}
use Rattle.bfs_txn.proofs.Layers.{layered_merged}
use Rattle.bfs_count.specs.Counts.{replaces}
use Rattle.bfs_tree.specs.declared.call.Call.{Call}
use Rattle.bfs_tree.specs.declared.call.Call.TheVariants as calls
use Rattle.bfs_tree.specs.Trees.{Tree}
use Rattle.bfs_device.specs.Layouts.{layout_of}
use Rattle.bfs_look.proofs.Known.{sized_at}
use Rattle.bfs_answers.specs.Looks.{is_search}
use Rattle.bfs_replies.specs.Books.{MayBeSealed}

-- what is told below, with an open group that may be sealed over it
pub over_told : (sup : Super) (n : ℕ) (t : Option (ℕ → Option (List ℕ))) (ps : List (ℕ × List ℕ)) (m : ℕ → Option (List ℕ)) → MayBeSealed (layout_of sup) sup.block_size ps → n ≡ sup.block_size → AreSized n t → t ≡ Some m
    → AreSized sup.block_size (Some (over ps m))
over_told sup n t ps m group same sized told =
    over_sized 0 sup.block_size ps (Some m) (layered_merged 0 sup.block_size ps group.ascends (omega arith) group.sized) (sized_at sup.block_size n t m same told sized)

-- no node gives way to a search
pub search_replaces : (tree : Tree) (call : Call) → is_search call ≡ true → false ≡ replaces tree call
search_replaces tree (calls.IndexFind name low high) is = refl
search_replaces tree _ is = absurd (let bad : false ≡ true = is in cc)
