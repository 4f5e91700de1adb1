-- What is proved of the entries of lines.
use Rattle.std.specs.Prelude.{◌≡◌, ℕ, List, [], ◌∷◌, ◌++◌}
use Rattle.std.specs.List.{All}
use Rattle.bfs_tree.specs.declared.reply.Entry.{Entry}
use Rattle.bfs_command.specs.declared.line.Line.{Line}
use Rattle.bfs_command.specs.Spelled.{AreOf, Spelled, SpelledSoFar, spelled_by}
use Rattle.bfs_command.specs.Left.{Rest, left}

-- a script without lines spells a history without entries
abbrev pub NothingIsSpelled : Type 0
NothingIsSpelled = (root : ℕ) → Spelled root [] []

-- the entries of one more line, behind a history that is spelled, are spelled with it
abbrev pub LineIsSpelled : Type 0
LineIsSpelled = (root : ℕ) (history es : List Entry) (lines : List Line) (line : Line) → Spelled root history lines → AreOf line es → spelled_by root line.command es → Spelled root (history ++ es) (lines ++ line ∷ [])

-- entries of session 0 change nothing
abbrev pub OwnEntriesAreSpelled : Type 0
OwnEntriesAreSpelled = (root : ℕ) (history es : List Entry) (lines : List Line) → Spelled root history lines → All (λ e. e.session ≡ 0) es → Spelled root (history ++ es) lines

-- where a line stops on its way, whatever is left of it, the history is spelled so far
abbrev pub StopIsSpelled : Type 0
StopIsSpelled =
    (root : ℕ) (history es : List Entry) (lines later : List Line) (line : Line) (rest : Rest) → Spelled root history lines → AreOf line es → ((more : List Entry) → left rest more → spelled_by root line.command (es ++ more)) → SpelledSoFar root (history ++ es) (lines ++ line ∷ later)
