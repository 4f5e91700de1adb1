-- Each line of a script is in form.
use Rattle.std.proofs.Common.{◌≡◌, ◌<◌, ◌≤◌, ◌+◌, ℕ, zero, suc, List, [], ◌∷◌, length, get_or, Option, Some, None, refl, ap, arith}
use Rattle.std.specs.List.{All}
use Rattle.std.proofs.lemmas.List.Elements.{All-append}
use Rattle.bfs_command.specs.declared.command.Command.{Command}
use Rattle.bfs_command.specs.declared.line.Line.{Line}
use Rattle.bfs_command.specs.Grammar.{said}
use Rattle.bfs_command.specs.Forms.{InForm, IsLineInForm}
use Rattle.bfs_command.proofs.Formed.{said_form}
use Rattle.bfs_script.specs.Scripts.{line_in, said_on, said_from}

line_form : (number : ℕ) (x : Option (ℕ × Command)) → ((y : ℕ × Command) → x ≡ Some y → (0 < y.0) × (y.0 ≤ 16) × InForm y.1) → All IsLineInForm (line_in number x)
line_form number None form = λ k d lt. absurd (omega (arith, lt))
line_form number (Some x) form = each
  where
    each : (k : ℕ) (d : Line) → k < length (line_in number (Some x)) → IsLineInForm (get_or (line_in number (Some x)) k d)
    each zero d lt = form x refl
    each (suc k) d lt = absurd (omega (arith, lt))

on_form : (number : ℕ) (line : Option (Option (ℕ × Command))) (more : List Line) → ((y : ℕ × Command) → line ≡ Some (Some y) → (0 < y.0) × (y.0 ≤ 16) × InForm y.1) → All IsLineInForm more → All IsLineInForm (said_on number line more)
on_form number None more form rest = λ k d lt. absurd (omega (arith, lt))
on_form number (Some x) more form rest = All-append IsLineInForm (line_in number x) more (line_form number x (λ y e. form y (ap (λ (o : Option (ℕ × Command)). Some o) e))) rest

pub from_form : (number : ℕ) (lines : List (List ℕ)) → All IsLineInForm (said_from number lines)
from_form number [] = λ k d lt. absurd (omega (arith, lt))
from_form number (line ∷ lines) = on_form number (said line) (said_from (number + 1) lines) (λ y e. said_form line y e) (from_form (number + 1) lines)
