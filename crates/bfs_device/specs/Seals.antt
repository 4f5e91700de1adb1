-- The books of a device that was adopted, made room, or took a group.
use Rattle.std.specs.Prelude.{ℕ, ◌+◌, ◌-◌, ◌*◌, max, List, [], ◌∷◌, ◌++◌, None}
use Rattle.bfs_super.specs.declared.sup.Super.{Super}
use Rattle.bfs_super.specs.Conditions.{natural, ceil}
use Rattle.bfs_txn.specs.declared.group.Group.{Group}
use Rattle.bfs_device.specs.declared.journal.Phase.{Phase}
use Rattle.bfs_device.specs.declared.journal.Phase.TheVariants.{Pass}
use Rattle.bfs_device.specs.Books.{Books}
use Rattle.bfs_device.specs.Steps.{first_phase}

abbrev pub adopted : Super → Books
adopted s = record { sup = s; groups = []; phase = Pass; left = 0; marks = []; spare = 1; moment = 0; stop = None }

-- room for two marks more at least
abbrev pub with_room : Books → Books
with_room b = record b { spare = max b.spare 2 }

-- the used blocks after the last group
abbrev pub used_behind : ℕ → List Group → ℕ
used_behind used [] = used
used_behind used (g ∷ gs) = used_behind g.used gs

abbrev pub last_used : Books → ℕ
last_used b = used_behind (natural b.sup.used_blocks) b.groups

-- the phase with a group behind the others
abbrev pub phase_with : Group → List Group → Phase → Phase
phase_with g [] phase = first_phase g.blocks
phase_with g (x ∷ xs) phase = phase

abbrev pub sealed_with : Books → Group → Books
sealed_with b g = record b { groups = b.groups ++ g ∷ []; phase = phase_with g b.groups b.phase; spare = b.spare - 1 }

-- the bound of the calls that a group of so many blocks adds
abbrev pub calls_of_group : ℕ → ℕ
calls_of_group blocks = 2 * blocks + ceil blocks 126 + 6
