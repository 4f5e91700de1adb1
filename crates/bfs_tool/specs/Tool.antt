-- The texts of the tool, and the words that ask for a run.
use Rattle.std.specs.Prelude.{◌≡◌, ◌⊎◌, ◌<◌, ◌≤◌, ℕ, List, length, take, codes, Option}
use Rattle.bfs_base.specs.Counts.{Rose}
use Rattle.bfs_ports.specs.Ports.{appended}
use Rattle.bfs_words.specs.Words.{IsShellCommand, IsSoakCommand}

abbrev pub usage_text : List ℕ
usage_text = codes "usage: bfs IMAGE (label NAME | mk --blocks N [--block-size B] [--name NAME] | check | sh [-j N] | soak SEED COUNT [-j N])\n"

-- a sink took all of a text, or a first part of it where its count of faults rose
abbrev pub Prints : Option (List ℕ) → Option (List ℕ) → ℕ → ℕ → List ℕ → Type 0
Prints old new before now text = (n : ℕ) × (n ≤ length text) × (new ≡ appended old (take n text)) × (n < length text → Rose before now)

-- the words ask for a run: they are those of `sh`, or of `soak` with some seed and count
abbrev pub Runs : List (List ℕ) → Type 0
Runs words = IsShellCommand words ⊎ ((seed : ℕ) × (count : ℕ) × IsSoakCommand words seed count)
