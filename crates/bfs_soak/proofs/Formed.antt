-- Each line of a workload is in form.
use Rattle.std.proofs.Common.{◌<◌, ◌+◌, ℕ, zero, suc, List, ◌∷◌, length, get_or, Bool, true, false, ◌==◌, if◌then◌else◌, arith}
use Rattle.std.specs.List.{All}
use Rattle.bfs_command.specs.declared.command.Command.{Command}
use Rattle.bfs_command.specs.declared.line.Line.{Line}
use Rattle.bfs_command.specs.Forms.{InForm, IsLineInForm}
use Rattle.bfs_soak.specs.Workload.{next_state, drawn, command_drawn, session_of, line_drawn, lines_drawn, first_line, workload}

either : (t : Bool) (a b : Command) → InForm a → InForm b → InForm (if t then a else b)
either true a b one other = one
either false a b one other = other

command_form : (s k a b : ℕ) → InForm (command_drawn s k a b)
command_form s k a b = either (k == 0) _ _ tt (either (k == 1) _ _ tt (either (k == 2) _ _ tt (either (k == 3) _ _ tt (either (k == 4) _ _ tt (either (k == 5) _ _ tt (either (k == 6) _ _ tt tt))))))

line_form : (x i : ℕ) → IsLineInForm (line_drawn x i)
line_form x i = (omega arith, omega arith, command_form (session_of i) (drawn 8 (next_state x)) (drawn 32 (next_state (next_state x))) (drawn 32 (next_state (next_state (next_state x)))))

one_more : (line : Line) (lines : List Line) → IsLineInForm line → All IsLineInForm lines → All IsLineInForm (line ∷ lines)
one_more line lines first rest = each
  where
    each : (k : ℕ) (d : Line) → k < length (line ∷ lines) → IsLineInForm (get_or (line ∷ lines) k d)
    each zero d lt = first
    each (suc k) d lt = rest k d (omega (arith, lt))

drawn_form : (x i n : ℕ) → All IsLineInForm (lines_drawn x i n)
drawn_form x i zero = λ k d lt. absurd (omega (arith, lt))
drawn_form x i (suc n) = one_more (line_drawn x i) (lines_drawn (next_state (next_state (next_state x))) (i + 1) n) (line_form x i) (drawn_form (next_state (next_state (next_state x))) (i + 1) n)

pub workload_form : (seed count : ℕ) → All IsLineInForm (workload seed count)
workload_form seed count =
    let behind : List Line = lines_drawn seed 1 count in
    let four = one_more (first_line 4) behind (omega arith, omega arith, tt) (drawn_form seed 1 count) in
    let three = one_more (first_line 3) (first_line 4 ∷ behind) (omega arith, omega arith, tt) four in
    let two = one_more (first_line 2) (first_line 3 ∷ first_line 4 ∷ behind) (omega arith, omega arith, tt) three in
    one_more (first_line 1) (first_line 2 ∷ first_line 3 ∷ first_line 4 ∷ behind) (omega arith, omega arith, tt) two
