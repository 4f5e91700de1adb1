-- Groups whose blocks ascend.
use Rattle.std.specs.Prelude.{◌≢◌, ◌<◌, ℕ, List, [], ◌∷◌, length}
use Rattle.bfs_txn.specs.Changed.{Ascends, number_at}
use Rattle.bfs_txn.specs.declared.group.Group.{Group}

-- each block is there once
abbrev pub IsOnce : List (ℕ × List ℕ) → Type 0
IsOnce pairs = (i j : ℕ) → i < j → j < length pairs → number_at pairs i ≢ number_at pairs j

-- the blocks of each group ascend
abbrev pub AllAscend : List Group → Type 0
AllAscend [] = Unit {0}
AllAscend (g ∷ gs) = Ascends g.blocks × AllAscend gs
