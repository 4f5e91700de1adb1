-- Where the lines with commands stand among a script's bytes.
use Rattle.std.specs.Prelude.{◌≡◌, ◌≤◌, ◌<◌, ℕ, ◌-◌, ◌+◌, List, [], Bool, true, false, ◌||◌, ◌==◌, nat_lt, take, drop, length, slice_index, count_by}
use Rattle.std.specs.List.{flat_map}
use Rattle.bfs_command.specs.declared.line.Line.{Line}
use Rattle.bfs_command.specs.declared.spoken.LineKind.TheVariants as kinds
use Rattle.bfs_command.specs.Grammar.{said, line_kind}
use Rattle.bfs_script.specs.declared.script.Place.{Place}
use Rattle.bfs_script.specs.Scripts.{said_on}

-- the bytes from one place to another
abbrev pub between : ℕ → ℕ → List ℕ → List ℕ
between start end bytes = take (end - start) (drop start bytes)

-- what the line at a place says
abbrev pub line_at : List ℕ → Place → List Line
line_at bytes place = said_on place.number (said (between place.start place.end bytes)) []

-- what the lines at these places say, one after the other
abbrev pub lines_at : List ℕ → List Place → List Line
lines_at bytes places = flat_map (line_at bytes) places

-- a line with a command stands at a place
pub record IsPlace (bytes : List ℕ) (place : Place) : Type 0 where
  pub ordered : place.start ≤ place.end
  pub inside : place.end ≤ length bytes
  pub command : line_kind (said (between place.start place.end bytes)) ≡ kinds.Command

-- the line that begins at a place ends at its line feed, or where the bytes end
pub record IsLineEnd (bytes : List ℕ) (start end : ℕ) : Type 0 where
  pub behind : start ≤ end
  pub inside : end ≤ length bytes
  pub none : (i : ℕ) → i < end - start → (slice_index (drop start bytes) i == 10) ≡ false
  pub feed : end < length bytes → (slice_index (drop start bytes) (end - start) == 10) ≡ true

-- the number of the line that begins at a place, by the line feeds before it
abbrev pub IsNumber : List ℕ → ℕ → ℕ → Type 0
IsNumber bytes start number = number ≡ count_by (λ b. b == 10) (take start bytes) + 1

-- a limit is passed at a line, by its number and its length
abbrev pub passes_limit : ℕ → ℕ → ℕ → Bool
passes_limit far number size = (number == far) || (nat_lt 1048576 number || nat_lt 4096 size)
