-- The workload of a number: which commands which session gives.
use Rattle.std.specs.Prelude.{ℕ, zero, suc, ◌+◌, ◌*◌, ◌/◌, ◌%◌, List, [], ◌∷◌, ◌==◌, if◌then◌else◌, codes, decimal}
use Rattle.bfs_command.specs.declared.command.Command.{Command}
use Rattle.bfs_command.specs.declared.command.Command.TheVariants as commands
use Rattle.bfs_command.specs.declared.line.Line.{Line}

-- the state after a draw
unfoldable pub next_state : ℕ → ℕ
next_state x = (x * 6364136223846793005 + 1442695040888963407) % 18446744073709551616

-- what is drawn below n, by the state after the draw
abbrev pub drawn : ℕ → ℕ → ℕ
drawn n x = x / 8589934592 % n

-- a letter and a number
abbrev pub numbered : ℕ → ℕ → List ℕ
numbered letter n = letter ∷ decimal n

-- the session's folder, and a file `f` or a folder `d` in it
abbrev pub folder : ℕ → List (List ℕ)
folder s = numbered 115 s ∷ []

abbrev pub file_in : ℕ → ℕ → List (List ℕ)
file_in s a = numbered 115 s ∷ numbered 102 a ∷ []

abbrev pub folder_in : ℕ → ℕ → List (List ℕ)
folder_in s a = numbered 115 s ∷ numbered 100 a ∷ []

-- The command of a session with the draws k, a and b: `make`, `mkdir`, `rm`, `mv`, `attr x LONG:b`, `size` of 512 * b, `ls` or `sync`.
abbrev pub command_drawn : ℕ → ℕ → ℕ → ℕ → Command
command_drawn s k a b =
    if k == 0 then commands.Make (file_in s a)
    else if k == 1 then commands.MakeDir (folder_in s a)
    else if k == 2 then commands.Remove (file_in s a)
    else if k == 3 then commands.Rename (file_in s a) (file_in s b)
    else if k == 4 then commands.AttrWrite (file_in s a) (codes "x") 0x4c4f4e47 (b ∷ 0 ∷ 0 ∷ 0 ∷ [])
    else if k == 5 then commands.SetSize (file_in s a) (512 * b)
    else if k == 6 then commands.List (folder s)
    else commands.Sync

abbrev pub session_of : ℕ → ℕ
session_of i = i % 4 + 1

-- The i-th line behind the first four draws three numbers: k below 8, a and b below 32.
abbrev pub line_drawn : ℕ → ℕ → Line
line_drawn x i =
    record { number = 4 + i; session = session_of i; command = command_drawn (session_of i) (drawn 8 (next_state x)) (drawn 32 (next_state (next_state x))) (drawn 32 (next_state (next_state (next_state x)))) }

-- so many lines from the i-th on
abbrev pub lines_drawn : ℕ → ℕ → ℕ → List Line
lines_drawn x i zero = []
lines_drawn x i (suc n) = line_drawn x i ∷ lines_drawn (next_state (next_state (next_state x))) (i + 1) n

-- the first four lines make the sessions' folders
abbrev pub first_line : ℕ → Line
first_line s = record { number = s; session = s; command = commands.MakeDir (folder s) }

abbrev pub workload : ℕ → ℕ → List Line
workload seed count = first_line 1 ∷ first_line 2 ∷ first_line 3 ∷ first_line 4 ∷ lines_drawn seed 1 count
