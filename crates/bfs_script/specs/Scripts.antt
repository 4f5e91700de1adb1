-- What a script says, line by line, and which line is the first that says nothing.
use Rattle.std.specs.Prelude.{◌≡◌, ℕ, ◌+◌, List, [], ◌∷◌, ◌++◌, length, take, Option, Some, None, Bool, true, false, ◌||◌, ◌==◌, nat_lt, if◌then◌else◌, count_by}
use Rattle.bfs_text.specs.Cutting.{lines_of}
use Rattle.bfs_command.specs.declared.command.Command.{Command}
use Rattle.bfs_command.specs.declared.line.Line.{Line}
use Rattle.bfs_command.specs.Grammar.{said}
use Rattle.bfs_script.specs.declared.fault.ScriptFault.{ScriptFault}
use Rattle.bfs_script.specs.declared.fault.ScriptFault.TheVariants as faults

abbrev pub line_in : ℕ → Option (ℕ × Command) → List Line
line_in number None = []
line_in number (Some x) = record { number = number; session = x.0; command = x.1 } ∷ []

-- what one line says, before what those behind it say; nothing counts behind a line that isn't in the grammar
abbrev pub said_on : ℕ → Option (Option (ℕ × Command)) → List Line → List Line
said_on number None more = []
said_on number (Some x) more = line_in number x ++ more

-- the new lines are the old ones with what a line says behind them, whatever follows
abbrev pub Takes : ℕ → Option (Option (ℕ × Command)) → List Line → List Line → Type 0
Takes number line old new = (more : List Line) → old ++ said_on number line more ≡ new ++ more

-- the lines with commands, from a line of this number on
abbrev pub said_from : ℕ → List (List ℕ) → List Line
said_from number [] = []
said_from number (line ∷ lines) = said_on number (said line) (said_from (number + 1) lines)

-- the lines of a script
abbrev pub script_of : List ℕ → List Line
script_of bytes = said_from 1 (lines_of bytes)

-- the line in which the script passes 268,435,456 bytes, or 0
abbrev pub line_too_far : List ℕ → ℕ
line_too_far bytes = if nat_lt 268435456 (length bytes) then count_by (λ b. b == 10) (take 268435456 bytes) + 1 else 0

abbrev pub is_silent : Option (Option (ℕ × Command)) → Bool
is_silent None = true
is_silent (Some x) = false

-- A line is bad where it is the one that goes too far, where it is one too many (there are at most 1,048,576), where it is
-- longer than 4,096 bytes without its line feed, and where it isn't in the grammar.
abbrev pub is_bad : ℕ → ℕ → List ℕ → Bool
is_bad far number line = (number == far) || (nat_lt 1048576 number || (nat_lt 4096 (length line) || is_silent (said line)))

-- the first bad line from one of this number on
abbrev pub bad_from : ℕ → ℕ → List (List ℕ) → Option ℕ
bad_from far number [] = None
bad_from far number (line ∷ lines) = if is_bad far number line then Some number else bad_from far (number + 1) lines

-- the first bad line of a script, where it has one
abbrev pub bad_line : List ℕ → Option ℕ
bad_line bytes = bad_from (line_too_far bytes) 1 (lines_of bytes)

-- why a script is refused
abbrev pub IsFaultAt : Option ℕ → ScriptFault → Type 0
IsFaultAt bad (faults.Line number) = bad ≡ Some number
IsFaultAt bad faults.NoMemory = Unit {0}
