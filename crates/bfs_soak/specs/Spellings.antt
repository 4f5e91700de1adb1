-- What the lines of a workload spell.
use Rattle.std.specs.Prelude.{ℕ, zero, suc, ◌+◌, ◌*◌, List, [], ◌∷◌, ◌++◌, ◌==◌, if◌then◌else◌, codes, decimal}
use Rattle.bfs_soak.specs.Workload.{next_state, drawn, session_of}

-- `/s` and the session
abbrev pub home_text : ℕ → List ℕ
home_text s = codes "/s" ++ decimal s

-- a letter and a number in a session's folder
abbrev pub inside_text : ℕ → ℕ → ℕ → List ℕ
inside_text s letter n = home_text s ++ (47 ∷ letter ∷ decimal n)

-- the words of a command
abbrev pub command_text : ℕ → ℕ → ℕ → ℕ → List ℕ
command_text s k a b =
    if k == 0 then codes "make " ++ inside_text s 102 a
    else if k == 1 then codes "mkdir " ++ inside_text s 100 a
    else if k == 2 then codes "rm " ++ inside_text s 102 a
    else if k == 3 then codes "mv " ++ (inside_text s 102 a ++ (32 ∷ inside_text s 102 b))
    else if k == 4 then codes "attr " ++ (inside_text s 102 a ++ (codes " x LONG:" ++ decimal b))
    else if k == 5 then codes "size " ++ (inside_text s 102 a ++ (32 ∷ decimal (512 * b)))
    else if k == 6 then codes "ls " ++ home_text s
    else codes "sync"

-- a session and its command
abbrev pub spoken_text : ℕ → List ℕ → List ℕ
spoken_text s command = decimal s ++ (32 ∷ command)

-- the i-th line behind the first four
abbrev pub drawn_text : ℕ → ℕ → List ℕ
drawn_text x i =
    spoken_text (session_of i) (command_text (session_of i) (drawn 8 (next_state x)) (drawn 32 (next_state (next_state x))) (drawn 32 (next_state (next_state (next_state x)))))

-- one of the first four
abbrev pub first_text : ℕ → List ℕ
first_text s = spoken_text s (codes "mkdir " ++ home_text s)

-- so many lines from the i-th on, each with its line feed
abbrev pub lines_text : ℕ → ℕ → ℕ → List ℕ
lines_text x i zero = []
lines_text x i (suc n) = drawn_text x i ++ (10 ∷ lines_text (next_state (next_state (next_state x))) (i + 1) n)

abbrev pub workload_text : ℕ → ℕ → List ℕ
workload_text seed count =
    first_text 1 ++ (10 ∷ (first_text 2 ++ (10 ∷ (first_text 3 ++ (10 ∷ (first_text 4 ++ (10 ∷ lines_text seed 1 count)))))))
