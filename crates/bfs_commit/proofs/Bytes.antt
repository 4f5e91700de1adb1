-- The known bytes of files that a held Core has.
use Rattle.std.proofs.Common.{◌≡◌, ℕ, List, Option, Some, sym, ◌∙◌, subst}
use Rattle.bfs_disk.specs.State.{State}
use Rattle.bfs_tree.specs.Histories.{Mounted}
use Rattle.bfs_device.specs.Books.{Books}
use Rattle.bfs_core.specs.KnownBytes.{HasKnown}
use Rattle.bfs_core.specs.Spaces.{SpaceView}
use Rattle.bfs_core.specs.Moments.{Adoption}
use Rattle.bfs_device_blocks.specs.Lent.{HasCore}

pub has_known : (t0 : Mounted) (adopted : Adoption) (sp : SpaceView) (b : Books) (told : Option State) (clock : ℕ) (since : ℕ → List ℕ → Type 0) → HasCore t0 adopted sp b told clock since → (st : State) → told ≡ Some st → HasKnown t0 sp b st
has_known t0 adopted sp b told clock since core st is =
    let e : Some core.0.0 ≡ Some st = sym core.0.1 ∙ is in
    let same : core.0.0 ≡ st = cc in
    subst (HasKnown t0 sp b) same core.0.2.2
