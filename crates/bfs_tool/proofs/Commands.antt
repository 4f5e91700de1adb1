-- How the statuses of one command fit what is said of the others.
use Rattle.std.proofs.Common.{◌≡◌, ◌≤◌, ◌<◌, ◌⊎◌, ◌∙◌, inl, inr, ⊎_elim, ℕ, zero, suc, List, [], ◌∷◌, length, take, Bool, true, Option, refl, sym, ap, arith}
use Rattle.std.specs.Prelude.{◌==◌}
use Rattle.bfs_ports.specs.Ports.{appended}
use Rattle.bfs_words.proofs.Callers.{no_words_shell, no_words_soak}
use Rattle.bfs_tool.specs.declared.label.Ending.{Ending}
use Rattle.bfs_tool.specs.declared.label.Ending.TheVariants as endings
use Rattle.bfs_tool.specs.declared.make.Making.{Making}
use Rattle.bfs_tool.specs.declared.make.Making.TheVariants as makings
use Rattle.bfs_tool.specs.Label.{label_status}
use Rattle.bfs_tool.specs.Make.{IsMade, making_status, making_text}
use Rattle.bfs_tool.specs.Tool.{Prints, Runs}

pub label_seven : (ending : Ending) → label_status ending ≡ 7 → ⊥
label_seven endings.Done is = omega arith
label_seven (endings.Short sectors) is = omega arith
label_seven (endings.NotVolume fault) is = omega arith
label_seven (endings.LogBusy start end) is = omega arith
label_seven endings.DiskFailed is = omega arith

pub label_ten : (ending : Ending) → label_status ending ≡ 10 → ⊥
label_ten endings.Done is = omega arith
label_ten (endings.Short sectors) is = omega arith
label_ten (endings.NotVolume fault) is = omega arith
label_ten (endings.LogBusy start end) is = omega arith
label_ten endings.DiskFailed is = omega arith

-- no text
abbrev nothing : List ℕ
nothing = []

take_none : (n : ℕ) → take n nothing ≡ nothing
take_none zero = refl
take_none (suc n) = refl

-- where a volume finds no memory, nothing is printed
pub making_silent : (making : Making) (n : ℕ) (old new : Option (List ℕ)) (before now : ℕ) → (n ≡ making_status making) ⊎ (IsMade making × (n ≡ 6)) → Prints old new before now (making_text making) → n ≡ 7 → new ≡ appended old []
making_silent (makings.Made made used) n old new before now has printed is = absurd (⊎_elim (λ a. omega (arith, a, is)) (λ six. let b = six.1 in omega (arith, b, is)) has)
making_silent (makings.Small have need) n old new before now has printed is = absurd (⊎_elim (λ a. omega (arith, a, is)) (λ six. six.0) has)
making_silent makings.DiskFailed n old new before now has printed is = absurd (⊎_elim (λ a. omega (arith, a, is)) (λ six. six.0) has)
making_silent makings.NoMemory n old new before now has printed is = printed.2 ∙ ap (λ (t : List ℕ). appended old t) (take_none printed.0)

zero_of : (n : ℕ) → (n == 0) ≡ true → n ≡ 0
zero_of n told = grind (arith, told)

-- words that are none
pub none_of : (words : List (List ℕ)) (b : Bool) → b ≡ (length words == 0) → b ≡ true → words ≡ []
none_of [] b is told = refl
none_of (word ∷ words) b is told = let same : length (word ∷ words) ≡ 0 = zero_of (length (word ∷ words)) (sym is ∙ told) in absurd (omega (arith, same))

-- no words ask for no run
pub no_words_run : (words : List (List ℕ)) → words ≡ [] → Runs words → ⊥
no_words_run words none (inl shell) = no_words_shell words none shell
no_words_run words none (inr soak) = no_words_soak words soak.0 soak.1 none soak.2

-- two numbers are the same
abbrev IsSame : ℕ → ℕ → Type 0
IsSame a b = a ≡ b

apart : (a b : ℕ) → b < a → IsSame a b → ⊥
apart a b less is = let same : a ≡ b = is in omega (arith, less, same)

-- a text that is printed at status 0 ends at 0, or at 6
pub record IsUsage (n : ℕ) : Type 0 where
  pub ended : (n ≡ 0) ⊎ (n ≡ 6)
  pub two : n ≡ 2 → ⊥
  pub four : n ≡ 4 → ⊥
  pub five : n ≡ 5 → ⊥
  pub seven : n ≡ 7 → ⊥

at_zero : (n k : ℕ) → (n ≡ 0) ⊎ (n ≡ 6) → n ≡ k → (k ≡ 0 → ⊥) → (k ≡ 6 → ⊥) → ⊥
at_zero n k ended is at0 at6 = ⊎_elim (λ a. at0 (omega (arith, a, is))) (λ b. at6 (omega (arith, b, is))) ended

pub usage_of : (n : ℕ) → (n ≡ 0) ⊎ (n ≡ 6) → IsUsage n
usage_of n ended = record {
  ended = ended;
  two = λ is. at_zero n 2 ended is (λ e. omega (arith, e)) (λ e. omega (arith, e));
  four = λ is. at_zero n 4 ended is (λ e. omega (arith, e)) (λ e. omega (arith, e));
  five = λ is. at_zero n 5 ended is (λ e. omega (arith, e)) (λ e. omega (arith, e));
  seven = λ is. at_zero n 7 ended is (λ e. omega (arith, e)) (λ e. omega (arith, e));
}

pub zero_six : (n : ℕ) → n ≡ 0 → n ≡ 6 → ⊥
zero_six n is six = omega (arith, is, six)

-- and one at status 2 ends at 2
pub record IsRefused (n : ℕ) : Type 0 where
  pub two : n ≡ 2
  pub four : n ≡ 4 → ⊥
  pub five : n ≡ 5 → ⊥
  pub six : n ≡ 6 → ⊥
  pub seven : n ≡ 7 → ⊥

pub refused_of : (n : ℕ) → n ≡ 2 → IsRefused n
refused_of n two = record { two = two; four = λ is. omega (arith, two, is); five = λ is. omega (arith, two, is); six = λ is. omega (arith, two, is); seven = λ is. omega (arith, two, is) }

pub two_zero : IsSame 2 0 → ⊥
two_zero is = apart 2 0 (omega arith) is

-- status 7 is none of the others
pub seven_two : IsSame 7 2 → ⊥
seven_two is = apart 7 2 (omega arith) is

pub seven_zero : IsSame 7 0 → ⊥
seven_zero is = apart 7 0 (omega arith) is

pub seven_four : IsSame 7 4 → ⊥
seven_four is = apart 7 4 (omega arith) is

pub seven_five : IsSame 7 5 → ⊥
seven_five is = apart 7 5 (omega arith) is

pub seven_six : IsSame 7 6 → ⊥
seven_six is = apart 7 6 (omega arith) is

pub same_count : (n : ℕ) → n ≤ n
same_count n = omega arith
