-- The first line of some is the bad one.
use Rattle.std.proofs.Common.{◌≡◌, ◌≤◌, ◌+◌, ◌==◌, ◌||◌, nat_lt, ℕ, List, ◌∷◌, subst, sym, ◌∙◌, ap, arith, length, Bool, true, false, Option, Some, None, if◌then◌else◌}
use Rattle.bfs_command.specs.Grammar.{said}
use Rattle.bfs_script.specs.declared.fault.ScriptFault.{ScriptFault}
use Rattle.bfs_script.specs.declared.fault.ScriptFault.TheVariants as faults
use Rattle.bfs_script.specs.Scripts.{IsFaultAt, is_silent, is_bad, bad_from}

fault_at : (t : Bool) (number : ℕ) (more : Option ℕ) (fault : ScriptFault) → IsFaultAt (if t then Some number else None) fault → IsFaultAt (if t then Some number else more) fault
fault_at true number more fault at = at
fault_at false number more (faults.Line n) at = cc
fault_at false number more faults.NoMemory at = tt

pub fault_here : (bad : Option ℕ) (far number : ℕ) (line : List ℕ) (all lines : List (List ℕ)) (fault : ScriptFault)
    → all ≡ line ∷ lines → bad ≡ bad_from far number all → IsFaultAt (if is_bad far number line then Some number else None) fault → IsFaultAt bad fault
fault_here bad far number line all lines fault cut so_far at =
    subst (λ (b : Option ℕ). IsFaultAt b fault) (sym (so_far ∙ ap (bad_from far number) cut)) (fault_at (is_bad far number line) number (bad_from far (number + 1) lines) fault at)

few_test : (number : ℕ) (a b c : Bool) → (a || (nat_lt 1048576 number || (b || c))) ≡ false → number ≤ 1048576
few_test number a b c is = grind (arith, is)

-- a line that isn't bad isn't one too many
pub few_lines : (far number : ℕ) (line : List ℕ) → is_bad far number line ≡ false → number ≤ 1048576
few_lines far number line is = few_test number (number == far) (nat_lt 4096 (length line)) (is_silent (said line)) is
