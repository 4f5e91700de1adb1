-- What the running of a script's lines appends to a history.
use Rattle.std.specs.Prelude.{◌≡◌, ℕ, List, [], ◌∷◌, ◌++◌}
use Rattle.std.specs.List.{All}
use Rattle.bfs_tree.specs.declared.reply.Reply.{Reply}
use Rattle.bfs_tree.specs.declared.reply.Entry.{Entry}
use Rattle.bfs_command.specs.declared.line.Line.{Line}
use Rattle.bfs_command.specs.Spelled.{AreOf, spelled_by}
use Rattle.bfs_command.specs.Left.{Rest, left}

-- the last entry of a history, and those in front of it
pub record HasLast (history : List Entry) (last : Entry) : Type 0 where
  pub front : List Entry
  pub ends : history ≡ front ++ last ∷ []

-- Entries of a session and with a tag were appended, which are as `made` says it of the reply of the last one.
pub record HasMade (before now : List Entry) (session tag : ℕ) (made : Reply → List Entry → Type 0) : Type 0 where
  pub entries : List Entry
  pub last : Entry
  pub appended : now ≡ before ++ entries
  pub own : All (λ e. (e.session ≡ session) × (e.tag ≡ tag)) entries
  pub ends : HasLast now last
  pub are : made last.reply entries

-- Entries of a line were appended, which with those that are still to come then are those that were to come before.
pub record HasGone (line : Line) (old new : Rest) (before now : List Entry) : Type 0 where
  pub entries : List Entry
  pub appended : now ≡ before ++ entries
  pub own : AreOf line entries
  pub goes : (more : List Entry) → left new more → left old (entries ++ more)

-- all entries of a line were appended
pub record HasLine (root : ℕ) (line : Line) (before now : List Entry) : Type 0 where
  pub entries : List Entry
  pub appended : now ≡ before ++ entries
  pub own : AreOf line entries
  pub are : spelled_by root line.command entries

-- the first entries of a line were appended, and of the line this is left
pub record HasBegun (root : ℕ) (line : Line) (before now : List Entry) : Type 0 where
  pub entries : List Entry
  pub rest : Rest
  pub appended : now ≡ before ++ entries
  pub own : AreOf line entries
  pub goes : (more : List Entry) → left rest more → spelled_by root line.command (entries ++ more)
