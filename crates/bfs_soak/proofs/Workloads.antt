-- The lines of a workload are read as its commands.
use Rattle.std.proofs.Common.{◌≡◌, ◌<◌, ◌≤◌, ◌+◌, ◌*◌, ℕ, zero, suc, List, ◌∷◌, ◌++◌, length, length-append, Bool, false, ◌||◌, ◌==◌, nat_lt, Option, Some, None, if◌then◌else◌, refl, ap, ◌∙◌, subst, arith, codes, decimal}
use Rattle.std.specs.Prelude.{count_by, take}
use Rattle.std.proofs.lemmas.Fmt.{length-decimal-le}
use Rattle.bfs_text.specs.Cutting.{lines_of}
use Rattle.bfs_command.specs.declared.command.Command.{Command}
use Rattle.bfs_command.specs.declared.line.Line.{Line}
use Rattle.bfs_command.specs.Grammar.{said}
use Rattle.bfs_script.specs.Scripts.{said_on, said_from, script_of, line_too_far, is_silent, bad_from, bad_line}
use Rattle.bfs_soak.specs.Workload.{next_state, drawn, command_drawn, session_of, line_drawn, lines_drawn, first_line as first_drawn, workload}
use Rattle.bfs_soak.specs.Spellings.{home_text, command_text, spoken_text, drawn_text, first_text, lines_text, workload_text}
use Rattle.bfs_soak.proofs.Plain.{Lacks, lacks_both, first_line}
use Rattle.bfs_soak.proofs.Spells.{Says, no_feed, command_says, first_says}

-- a line's text is read as the line
pub record Reads (text : List ℕ) (line : Line) : Type 0 where
  pub says : said text ≡ Some (Some (line.session, line.command))
  pub feed : Lacks 10 text
  pub short : length text ≤ 100

read_line : (s number : ℕ) (text : List ℕ) (c : Command) → 0 < s → s ≤ 16 → Says s text c → Reads (spoken_text s text) (record { number = number; session = s; command = c })
read_line s number text c some few is =
    let long = length-append (decimal s) (32 ∷ text) in
    let one = length-decimal-le 2 s (omega arith) (omega (arith, few)) (omega (arith, few)) in
    let short = is.short in
    record {
      says = is.says;
      feed = lacks_both 10 (decimal s) (32 ∷ text) (no_feed s (omega (arith, few))) is.feed;
      short = omega (arith, long, one, short);
    }

-- ---- one line more

line_said : (text rest : List ℕ) (line : Line) (more : List Line) → Reads text line → said_from (line.number + 1) (lines_of rest) ≡ more → said_from line.number (lines_of (text ++ 10 ∷ rest)) ≡ line ∷ more
line_said text rest line more is behind =
    ap (said_from line.number) (first_line text rest is.feed)
    ∙ ap (λ (o : Option (Option (ℕ × Command))). said_on line.number o (said_from (line.number + 1) (lines_of rest))) is.says
    ∙ ap (λ (l : List Line). line ∷ l) behind

bad_test : (number size : ℕ) (silent : Bool) → 0 < number → number ≤ 1048576 → size ≤ 100 → silent ≡ false → ((number == 0) || (nat_lt 1048576 number || (nat_lt 4096 size || silent))) ≡ false
bad_test number size silent some few short is = grind (arith, some, few, short, is)

line_good : (text rest : List ℕ) (line : Line) → Reads text line → 0 < line.number → line.number ≤ 1048576 → bad_from 0 (line.number + 1) (lines_of rest) ≡ None → bad_from 0 line.number (lines_of (text ++ 10 ∷ rest)) ≡ None
line_good text rest line is some few behind =
    ap (bad_from 0 line.number) (first_line text rest is.feed)
    ∙ ap (λ (t : Bool). if t then Some line.number else bad_from 0 (line.number + 1) (lines_of rest)) (bad_test line.number (length text) (is_silent (said text)) some few is.short (ap is_silent is.says))
    ∙ behind

-- ---- the lines behind the first four

drawn_reads : (x i : ℕ) → Reads (drawn_text x i) (line_drawn x i)
drawn_reads x i =
    let k = drawn 8 (next_state x) in
    let a = drawn 32 (next_state (next_state x)) in
    let b = drawn 32 (next_state (next_state (next_state x))) in
    let some : 0 < session_of i = omega arith in
    let few : session_of i ≤ 16 = omega arith in
    read_line (session_of i) (4 + i) (command_text (session_of i) k a b) (command_drawn (session_of i) k a b) some few (command_says (session_of i) some few k a b (omega arith) (omega arith))

abbrev three : ℕ → ℕ
three x = next_state (next_state (next_state x))

lines_said : (x i n : ℕ) → said_from (4 + i) (lines_of (lines_text x i n)) ≡ lines_drawn x i n
lines_said x i zero = refl
lines_said x i (suc n) =
    let next : 4 + (i + 1) ≡ 4 + i + 1 = omega arith in
    line_said (drawn_text x i) (lines_text (three x) (i + 1) n) (line_drawn x i) (lines_drawn (three x) (i + 1) n) (drawn_reads x i) (subst (λ (m : ℕ). said_from m (lines_of (lines_text (three x) (i + 1) n)) ≡ lines_drawn (three x) (i + 1) n) next (lines_said (three x) (i + 1) n))

lines_good : (x i n : ℕ) → i + n ≤ 1048573 → bad_from 0 (4 + i) (lines_of (lines_text x i n)) ≡ None
lines_good x i zero room = refl
lines_good x i (suc n) room =
    let next : 4 + (i + 1) ≡ 4 + i + 1 = omega arith in
    line_good (drawn_text x i) (lines_text (three x) (i + 1) n) (line_drawn x i) (drawn_reads x i) (omega arith) (omega (arith, room)) (subst (λ (m : ℕ). bad_from 0 m (lines_of (lines_text (three x) (i + 1) n)) ≡ None) next (lines_good (three x) (i + 1) n (omega (arith, room))))

lines_short : (x i n : ℕ) → length (lines_text x i n) ≤ 101 * n
lines_short x i zero = omega arith
lines_short x i (suc n) =
    let joined = length-append (drawn_text x i) (10 ∷ lines_text (three x) (i + 1) n) in
    let reads = drawn_reads x i in
    let one = reads.short in
    let rest = lines_short (three x) (i + 1) n in
    omega (arith, joined, one, rest)

-- ---- the whole

first_reads : (s : ℕ) → 0 < s → s ≤ 16 → Reads (first_text s) (first_drawn s)
first_reads s some few = read_line s s (codes "mkdir " ++ home_text s) _ some few (first_says s some few)

module _ (seed count : ℕ) where
  abbrev fourth : List ℕ
  fourth = first_text 4 ++ (10 ∷ lines_text seed 1 count)

  abbrev third : List ℕ
  third = first_text 3 ++ (10 ∷ fourth)

  abbrev second : List ℕ
  second = first_text 2 ++ (10 ∷ third)

  pub workload_said : script_of (workload_text seed count) ≡ workload seed count
  workload_said =
      line_said (first_text 1) second (first_drawn 1) _ (first_reads 1 (omega arith) (omega arith))
      (line_said (first_text 2) third (first_drawn 2) _ (first_reads 2 (omega arith) (omega arith))
      (line_said (first_text 3) fourth (first_drawn 3) _ (first_reads 3 (omega arith) (omega arith))
      (line_said (first_text 4) (lines_text seed 1 count) (first_drawn 4) (lines_drawn seed 1 count) (first_reads 4 (omega arith) (omega arith)) (lines_said seed 1 count))))

  first_short : (s : ℕ) (rest : List ℕ) → 0 < s → s ≤ 16 → length (first_text s ++ (10 ∷ rest)) ≤ 101 + length rest
  first_short s rest some few =
      let joined = length-append (first_text s) (10 ∷ rest) in
      let reads = first_reads s some few in
      let one = reads.short in
      omega (arith, joined, one)

  workload_short : count ≤ 1048572 → length (workload_text seed count) ≤ 268435456
  workload_short few =
      let four = first_short 4 (lines_text seed 1 count) (omega arith) (omega arith) in
      let three = first_short 3 fourth (omega arith) (omega arith) in
      let two = first_short 2 third (omega arith) (omega arith) in
      let one = first_short 1 second (omega arith) (omega arith) in
      let rest = lines_short seed 1 count in
      omega (arith, four, three, two, one, rest, few)

  not_far : (bytes : List ℕ) → length bytes ≤ 268435456 → line_too_far bytes ≡ 0
  not_far bytes short =
      let test : nat_lt 268435456 (length bytes) ≡ false = grind (arith, short) in
      ap (λ (t : Bool). if t then count_by (λ b. b == 10) (take 268435456 bytes) + 1 else 0) test

  pub workload_good : count ≤ 1048572 → bad_line (workload_text seed count) ≡ None
  workload_good few =
      ap (λ (far : ℕ). bad_from far 1 (lines_of (workload_text seed count))) (not_far (workload_text seed count) (workload_short few))
      ∙ line_good (first_text 1) second (first_drawn 1) (first_reads 1 (omega arith) (omega arith)) (omega arith) (omega arith)
      (line_good (first_text 2) third (first_drawn 2) (first_reads 2 (omega arith) (omega arith)) (omega arith) (omega arith)
      (line_good (first_text 3) fourth (first_drawn 3) (first_reads 3 (omega arith) (omega arith)) (omega arith) (omega arith)
      (line_good (first_text 4) (lines_text seed 1 count) (first_drawn 4) (first_reads 4 (omega arith) (omega arith)) (omega arith) (omega arith) (lines_good seed 1 count (omega (arith, few))))))
