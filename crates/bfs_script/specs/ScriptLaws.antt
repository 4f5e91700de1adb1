-- What each line of a script keeps.
use Rattle.std.specs.Prelude.{ℕ, List}
use Rattle.std.specs.List.{All}
use Rattle.bfs_command.specs.Forms.{IsLineInForm}
use Rattle.bfs_script.specs.Scripts.{script_of}

-- every line of a script is in form
abbrev pub LinesAreInForm : Type 0
LinesAreInForm = (bytes : List ℕ) → All IsLineInForm (script_of bytes)
