-- The number of nodes that a space counts, by the tree that Core has.
use Rattle.std.proofs.Common.{◌≡◌, ◌∙◌, ℕ, List, Option, ap}
use Rattle.bfs_count.specs.Counts.{nodes_of}
use Rattle.bfs_disk.specs.State.{State}
use Rattle.bfs_tree.specs.Histories.{Mounted, after}
use Rattle.bfs_device.specs.Books.{Books}
use Rattle.bfs_device_blocks.specs.Lent.{HasCore}
use Rattle.bfs_core.specs.Moments.{Adoption}
use Rattle.bfs_core.specs.Spaces.{face}
use Rattle.bfs_core.specs.Cores.{newest_map}
use Rattle.bfs_finding.proofs.OneTrees.{one_tree}
use Rattle.bfs_file_io.specs.Books.{SpaceBooks}
use Rattle.bfs_file_io.specs.Volumes.{AreJoined}

-- the tree that the space stands on is the one that Core has
pub joined_nodes : (t0 : Mounted) (adopted : Adoption) (sp : SpaceBooks) (b : Books) (told : Option State) (clock : ℕ) (since : ℕ → List ℕ → Type 0) → AreJoined sp b told → HasCore t0 adopted sp.view b told clock since → sp.nodes ≡ nodes_of (after t0 sp.view.history)
joined_nodes t0 adopted sp b told clock since joined core =
    let st = core.0.0 in
    let s = joined.stands st core.0.1 in
    s.counted ∙ ap nodes_of (one_tree (face sp.view (newest_map b st)) (after s.t0 sp.view.history) (after t0 sp.view.history) s.core.space.sound core.0.2.1.space.sound)
