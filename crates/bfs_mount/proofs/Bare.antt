-- A tree that stood at mounting of whose files no byte is known.
use Rattle.std.proofs.Common.{ℕ, List, sym, ◌∙◌, ap}
use Rattle.std.specs.Prelude.{is_some}
use Rattle.std.specs.FinMap.{empty, get-empty}
use Rattle.std.proofs.lemmas.Bool.{true≢false}
use Rattle.bfs_tree.specs.States.{place_cmp}
use Rattle.bfs_tree.specs.Trees.{Tree}
use Rattle.bfs_core.specs.KnownBytes.{HasBytesOf}
use Rattle.bfs_sound.specs.Whole.{Recovers}
use Rattle.bfs_mount.specs.Mounts.{IsMountedFrom}

-- nothing is asked of the image
pub bare_bytes : (image : List ℕ) (tree : Tree) → HasBytesOf image (record { tree = tree; bytes = empty })
bare_bytes image tree id place byte is = absurd (true≢false (ap is_some (sym is ∙ get-empty place_cmp (id, place))))

-- so an image that recovers to the tree is one from which it was mounted
pub mounts_bare : (image : List ℕ) (tree : Tree) → Recovers image tree → IsMountedFrom image (record { tree = tree; bytes = empty })
mounts_bare image tree recovers = record { next = recovers.result; replayed = recovers.replayed; whole = recovers.whole; bytes = bare_bytes recovers.result tree }
