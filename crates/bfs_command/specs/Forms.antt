-- What each line of a script keeps, and what is kept by what is due.
use Rattle.std.specs.Prelude.{◌≡◌, ◌<◌, ◌≤◌, ◌≤ℤ◌, pos, Bool, true, false}
use Rattle.bfs_tree.specs.Answers.{KeepsRanges}
use Rattle.bfs_tree.specs.declared.call.Call.{Call}
use Rattle.bfs_tree.specs.declared.call.Call.TheVariants as calls
use Rattle.bfs_command.specs.declared.command.Command.{Command}
use Rattle.bfs_command.specs.declared.command.Command.TheVariants as commands
use Rattle.bfs_command.specs.declared.line.Line.{Line}
use Rattle.bfs_command.specs.declared.due.Due.{Due}
use Rattle.bfs_command.specs.declared.due.Due.TheVariants as dues

-- a mode has no bit but the twelve of permissions, no user or group is below 0, and a piece that is read has at most 65,536 bytes
abbrev pub InForm : Command → Type 0
InForm (commands.SetMode path mode uid gid) = (mode ≤ 4095) × (pos 0 ≤ℤ uid) × (pos 0 ≤ℤ gid)
InForm (commands.Read path at count) = count ≤ 65536
InForm _ = Unit {0}

-- a line's session is 1 to 16
abbrev pub IsLineInForm : Line → Type 0
IsLineInForm line = (0 < line.session) × (line.session ≤ 16) × InForm line.command

-- the last three calls, which are a piece's and a sync
abbrev pub is_service : Call → Bool
is_service (calls.Hold id at length writes) = true
is_service (calls.Release id bytes whole before after) = true
is_service calls.Sync = true
is_service _ = false

-- a call that is due is none of the last three, and keeps its ranges
abbrev pub IsDueInForm : Due → Type 0
IsDueInForm (dues.Call call) = (is_service call ≡ false) × KeepsRanges call
IsDueInForm (dues.Read id at count) = count ≤ 65536
IsDueInForm _ = Unit {0}
