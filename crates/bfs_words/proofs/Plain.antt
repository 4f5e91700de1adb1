-- The plain spellings, by computing what `clap` makes of them.
use Rattle.std.proofs.Common.{◌≡◌, ◌≤◌, ◌==◌, ℕ, List, [], ◌∷◌, ◌++◌, false, Option, Some, None, option_map, unwrap_or, codes, refl, sym, ap, subst, arith}
use Rattle.std.proofs.lemmas.Bool.{ne_eqb}
use Rattle.std.proofs.lemmas.List.Elements.{All-nil, All-cons}
use Rattle.bfs_super.specs.Geometry.{IsBlockSize}
use Rattle.bfs_super.specs.Label.{IsLabel}
use Rattle.clap.specs.Walk.{Row, Text, first_of}
use Rattle.clap.specs.Simple.{subcommand_of}
use Rattle.clap.specs.Faults.{fault_of}
use Rattle.clap.proofs.OnLiterals.{clap_on_literals}
use Rattle.bfs_words.specs.Line.{bfs_line}
use Rattle.bfs_words.specs.Numbers.{IsNumber}
use Rattle.bfs_words.specs.Words.{IsBlocks, IsSize, IsName, IsNewName, FindsLabel, FindsVolume, IsPlainWord, IsLabelCommand, IsMakeCommand, FindsCheck, IsCheckCommand, IsWorkers, FindsShell, IsShellCommand, IsSeed, IsCount, FindsSoak, IsSoakCommand}

-- the subcommand's name and its values
abbrev Reading : Type 0
Reading = Text × Option Text × Option Text × Option Text

abbrev reading : Text × List Row → Reading
reading p = (p.0, first_of (codes "blocks") p.1, first_of (codes "block-size") p.1, first_of (codes "name") p.1)

as_label : (found : Option (Text × List Row)) (blocks size : Option Text) (name : Text) → option_map reading found ≡ Some (codes "label", blocks, size, Some name) → IsLabel name → FindsLabel found name
as_label None blocks size name e good = cc
as_label (Some p) blocks size name e good =
    let same : reading p ≡ (codes "label", blocks, size, Some name) = ap (λ (o : Option Reading). unwrap_or o (reading p)) e in (
      p.1,
      ap (λ (r : Reading). Some (r.0, p.1)) same,
      subst (λ w. IsNewName w name) (sym (ap (λ (r : Reading). r.3) same)) (refl, good),
    )

as_volume : (found : Option (Text × List Row)) (blocks_word size_word name_word : Option Text) (blocks size : ℕ) (name : Text) → option_map reading found ≡ Some (codes "mk", blocks_word, size_word, name_word)
    → IsBlocks blocks_word blocks → IsSize size_word size → IsName name_word name → FindsVolume found blocks size name
as_volume None blocks_word size_word name_word blocks size name e b s n = cc
as_volume (Some p) blocks_word size_word name_word blocks size name e b s n =
    let same : reading p ≡ (codes "mk", blocks_word, size_word, name_word) = ap (λ (o : Option Reading). unwrap_or o (reading p)) e in (
      p.1,
      ap (λ (r : Reading). Some (r.0, p.1)) same,
      record {
        blocks_are = subst (λ w. IsBlocks w blocks) (sym (ap (λ (r : Reading). r.1) same)) b;
        size_is = subst (λ w. IsSize w size) (sym (ap (λ (r : Reading). r.2) same)) s;
        label_is = subst (λ w. IsName w name) (sym (ap (λ (r : Reading). r.3) same)) n;
      },
    )

-- ---- what `clap` makes of the spellings

label_fault : (x : ℕ) (xs : Text) → (x == 45) ≡ false → fault_of bfs_line (codes "label" ∷ (x ∷ xs) ∷ []) ≡ []
unfolding clap_on_literals
label_fault x xs e = rw (e, e) refl

label_found : (x : ℕ) (xs : Text) → (x == 45) ≡ false → option_map reading (subcommand_of bfs_line (codes "label" ∷ (x ∷ xs) ∷ [])) ≡ Some (codes "label", None, None, Some (x ∷ xs))
unfolding clap_on_literals
label_found x xs e = rw (e, e) refl

blocks_fault : (x : ℕ) (xs : Text) → (x == 45) ≡ false → fault_of bfs_line (codes "mk" ∷ codes "--blocks" ∷ (x ∷ xs) ∷ []) ≡ []
unfolding clap_on_literals
blocks_fault x xs e = rw (e, e) refl

blocks_found : (x : ℕ) (xs : Text) → (x == 45) ≡ false → option_map reading (subcommand_of bfs_line (codes "mk" ∷ codes "--blocks" ∷ (x ∷ xs) ∷ [])) ≡ Some (codes "mk", Some (x ∷ xs), None, None)
unfolding clap_on_literals
blocks_found x xs e = rw (e, e) refl

size_fault : (x y : ℕ) (xs ys zs : Text) → (x == 45) ≡ false → (y == 45) ≡ false
    → fault_of bfs_line (codes "mk" ∷ codes "--blocks" ∷ (x ∷ xs) ∷ codes "--block-size" ∷ (y ∷ ys) ∷ (codes "--name=" ++ zs) ∷ []) ≡ []
unfolding clap_on_literals
size_fault x y xs ys zs e f = rw (e, e, f, f) refl

size_found : (x y : ℕ) (xs ys zs : Text) → (x == 45) ≡ false → (y == 45) ≡ false
    → option_map reading (subcommand_of bfs_line (codes "mk" ∷ codes "--blocks" ∷ (x ∷ xs) ∷ codes "--block-size" ∷ (y ∷ ys) ∷ (codes "--name=" ++ zs) ∷ [])) ≡ Some (codes "mk", Some (x ∷ xs), Some (y ∷ ys), Some zs)
unfolding clap_on_literals
size_found x y xs ys zs e f = rw (e, e, f, f) refl

name_fault : (x z : ℕ) (xs ys zs : Text) → (x == 45) ≡ false → (z == 45) ≡ false
    → fault_of bfs_line (codes "mk" ∷ codes "--name" ∷ (z ∷ zs) ∷ codes "--blocks" ∷ (x ∷ xs) ∷ (codes "--block-size=" ++ ys) ∷ []) ≡ []
unfolding clap_on_literals
name_fault x z xs ys zs e g = rw (g, g, e, e) refl

name_found : (x z : ℕ) (xs ys zs : Text) → (x == 45) ≡ false → (z == 45) ≡ false
    → option_map reading (subcommand_of bfs_line (codes "mk" ∷ codes "--name" ∷ (z ∷ zs) ∷ codes "--blocks" ∷ (x ∷ xs) ∷ (codes "--block-size=" ++ ys) ∷ [])) ≡ Some (codes "mk", Some (x ∷ xs), Some ys, Some (z ∷ zs))
unfolding clap_on_literals
name_found x z xs ys zs e g = rw (g, g, e, e) refl

equals_fault : (xs ys zs : Text) → fault_of bfs_line (codes "mk" ∷ (codes "--blocks=" ++ xs) ∷ (codes "--block-size=" ++ ys) ∷ (codes "--name=" ++ zs) ∷ []) ≡ []
unfolding clap_on_literals
equals_fault xs ys zs = refl

equals_found : (xs ys zs : Text) → option_map reading (subcommand_of bfs_line (codes "mk" ∷ (codes "--blocks=" ++ xs) ∷ (codes "--block-size=" ++ ys) ∷ (codes "--name=" ++ zs) ∷ [])) ≡ Some (codes "mk", Some xs, Some ys, Some zs)
unfolding clap_on_literals
equals_found xs ys zs = refl

check_fault : fault_of bfs_line (codes "check" ∷ []) ≡ []
unfolding clap_on_literals
check_fault = refl

check_found : option_map reading (subcommand_of bfs_line (codes "check" ∷ [])) ≡ Some (codes "check", None, None, None)
unfolding clap_on_literals
check_found = refl

as_check : (found : Option (Text × List Row)) → option_map reading found ≡ Some (codes "check", None, None, None) → FindsCheck found
as_check None e = cc
as_check (Some p) e =
    let same : reading p ≡ (codes "check", None, None, None) = ap (λ (o : Option Reading). unwrap_or o (reading p)) e in
    (p.1, ap (λ (r : Reading). Some (r.0, p.1)) same)

-- the subcommand's name and the value of `-j`
abbrev ShellReading : Type 0
ShellReading = Text × Option Text

abbrev shell_reading : Text × List Row → ShellReading
shell_reading p = (p.0, first_of (codes "workers") p.1)

as_shell : (found : Option (Text × List Row)) (word : Option Text) → option_map shell_reading found ≡ Some (codes "sh", word) → IsWorkers word → FindsShell found
as_shell None word e one = cc
as_shell (Some p) word e one =
    let same : shell_reading p ≡ (codes "sh", word) = ap (λ (o : Option ShellReading). unwrap_or o (shell_reading p)) e in (
      p.1,
      ap (λ (r : ShellReading). Some (r.0, p.1)) same,
      subst IsWorkers (sym (ap (λ (r : ShellReading). r.1) same)) one,
    )

shell_fault : fault_of bfs_line (codes "sh" ∷ []) ≡ []
unfolding clap_on_literals
shell_fault = refl

shell_found : option_map shell_reading (subcommand_of bfs_line (codes "sh" ∷ [])) ≡ Some (codes "sh", None)
unfolding clap_on_literals
shell_found = refl

workers_fault : fault_of bfs_line (codes "sh" ∷ codes "-j" ∷ codes "1" ∷ []) ≡ []
unfolding clap_on_literals
workers_fault = refl

workers_found : option_map shell_reading (subcommand_of bfs_line (codes "sh" ∷ codes "-j" ∷ codes "1" ∷ [])) ≡ Some (codes "sh", Some (codes "1"))
unfolding clap_on_literals
workers_found = refl

joined_fault : fault_of bfs_line (codes "sh" ∷ codes "-j1" ∷ []) ≡ []
unfolding clap_on_literals
joined_fault = refl

joined_found : option_map shell_reading (subcommand_of bfs_line (codes "sh" ∷ codes "-j1" ∷ [])) ≡ Some (codes "sh", Some (codes "1"))
unfolding clap_on_literals
joined_found = refl

-- the subcommand's name and the values of `soak`
abbrev SoakReading : Type 0
SoakReading = Text × Option Text × Option Text × Option Text

abbrev soak_reading : Text × List Row → SoakReading
soak_reading p = (p.0, first_of (codes "seed") p.1, first_of (codes "count") p.1, first_of (codes "workers") p.1)

as_soak : (found : Option (Text × List Row)) (seed_word count_word workers : Option Text) (seed count : ℕ) → option_map soak_reading found ≡ Some (codes "soak", seed_word, count_word, workers)
    → IsSeed seed_word seed → IsCount count_word count → IsWorkers workers → FindsSoak found seed count
as_soak None seed_word count_word workers seed count e s c w = cc
as_soak (Some p) seed_word count_word workers seed count e s c w =
    let same : soak_reading p ≡ (codes "soak", seed_word, count_word, workers) = ap (λ (o : Option SoakReading). unwrap_or o (soak_reading p)) e in (
      p.1,
      ap (λ (r : SoakReading). Some (r.0, p.1)) same,
      record {
        seed_is = subst (λ v. IsSeed v seed) (sym (ap (λ (r : SoakReading). r.1) same)) s;
        count_is = subst (λ v. IsCount v count) (sym (ap (λ (r : SoakReading). r.2) same)) c;
        one_worker = subst IsWorkers (sym (ap (λ (r : SoakReading). r.3) same)) w;
      },
    )

soak_fault : (x y : ℕ) (xs ys : Text) → (x == 45) ≡ false → (y == 45) ≡ false → fault_of bfs_line (codes "soak" ∷ (x ∷ xs) ∷ (y ∷ ys) ∷ []) ≡ []
unfolding clap_on_literals
soak_fault x y xs ys e f = rw (e, e, f, f) refl

soak_found : (x y : ℕ) (xs ys : Text) → (x == 45) ≡ false → (y == 45) ≡ false
    → option_map soak_reading (subcommand_of bfs_line (codes "soak" ∷ (x ∷ xs) ∷ (y ∷ ys) ∷ [])) ≡ Some (codes "soak", Some (x ∷ xs), Some (y ∷ ys), None)
unfolding clap_on_literals
soak_found x y xs ys e f = rw (e, e, f, f) refl

-- ---- the commands

digit_first : (x : ℕ) (xs : Text) (n : ℕ) → IsNumber (x ∷ xs) n → (x == 45) ≡ false
digit_first x xs n is = ne_eqb x 45 (λ e. let low = (is.digits 0 x (omega arith)).0 in omega (arith, e, low))

pub plain_label : (name : Text) → IsPlainWord name → IsLabel name → IsLabelCommand (codes "label" ∷ name ∷ []) name
plain_label [] plain good = absurd (plain refl)
plain_label (x ∷ xs) plain good =
    let e = ne_eqb x 45 plain in
    (label_fault x xs e, as_label _ None None (x ∷ xs) (label_found x xs e) good)

pub plain_blocks : (number : Text) (n : ℕ) → IsNumber number n → n ≤ 4194304 → IsMakeCommand (codes "mk" ∷ codes "--blocks" ∷ number ∷ []) n 1024 (codes "untitled")
plain_blocks [] n is few = absurd (omega (arith, is.some))
plain_blocks (x ∷ xs) n is few =
    let e = digit_first x xs n is in
    (blocks_fault x xs e, as_volume _ (Some (x ∷ xs)) None None n 1024 (codes "untitled") (blocks_found x xs e) (is, few) refl refl)

pub plain_size_first : (number bytes name : Text) (n size : ℕ) → IsNumber number n → n ≤ 4194304 → IsNumber bytes size → IsBlockSize size → IsLabel name
    → IsMakeCommand (codes "mk" ∷ codes "--blocks" ∷ number ∷ codes "--block-size" ∷ bytes ∷ (codes "--name=" ++ name) ∷ []) n size name
plain_size_first [] bytes name n size is few bs fits good = absurd (omega (arith, is.some))
plain_size_first (x ∷ xs) [] name n size is few bs fits good = absurd (omega (arith, bs.some))
plain_size_first (x ∷ xs) (y ∷ ys) name n size is few bs fits good =
    let e = digit_first x xs n is in
    let f = digit_first y ys size bs in
    (size_fault x y xs ys name e f, as_volume _ (Some (x ∷ xs)) (Some (y ∷ ys)) (Some name) n size name (size_found x y xs ys name e f) (is, few) (bs, fits) (refl, good))

pub plain_name_first : (number bytes name : Text) (n size : ℕ) → IsNumber number n → n ≤ 4194304 → IsNumber bytes size → IsBlockSize size → IsPlainWord name → IsLabel name
    → IsMakeCommand (codes "mk" ∷ codes "--name" ∷ name ∷ codes "--blocks" ∷ number ∷ (codes "--block-size=" ++ bytes) ∷ []) n size name
plain_name_first [] bytes name n size is few bs fits plain good = absurd (omega (arith, is.some))
plain_name_first (x ∷ xs) bytes [] n size is few bs fits plain good = absurd (plain refl)
plain_name_first (x ∷ xs) bytes (z ∷ zs) n size is few bs fits plain good =
    let e = digit_first x xs n is in
    let g = ne_eqb z 45 plain in
    (name_fault x z xs bytes zs e g, as_volume _ (Some (x ∷ xs)) (Some bytes) (Some (z ∷ zs)) n size (z ∷ zs) (name_found x z xs bytes zs e g) (is, few) (bs, fits) (refl, good))

pub plain_equals : (number bytes name : Text) (n size : ℕ) → IsNumber number n → n ≤ 4194304 → IsNumber bytes size → IsBlockSize size → IsLabel name
    → IsMakeCommand (codes "mk" ∷ (codes "--blocks=" ++ number) ∷ (codes "--block-size=" ++ bytes) ∷ (codes "--name=" ++ name) ∷ []) n size name
plain_equals number bytes name n size is few bs fits good =
    (equals_fault number bytes name, as_volume _ (Some number) (Some bytes) (Some name) n size name (equals_found number bytes name) (is, few) (bs, fits) (refl, good))

pub plain_check : IsCheckCommand (codes "check" ∷ [])
plain_check = (check_fault, as_check (subcommand_of bfs_line (codes "check" ∷ [])) check_found)

one_digit : IsNumber (codes "1") 1
one_digit = record {
  some = omega arith;
  short = omega arith;
  digits = All-cons (λ d. (48 ≤ d) × (d ≤ 57)) 49 [] (omega arith, omega arith) (All-nil (λ d. (48 ≤ d) × (d ≤ 57)));
  value = refl;
}

pub plain_shell : IsShellCommand (codes "sh" ∷ [])
plain_shell = (shell_fault, as_shell (subcommand_of bfs_line (codes "sh" ∷ [])) None shell_found tt)

pub plain_workers : IsShellCommand (codes "sh" ∷ codes "-j" ∷ codes "1" ∷ [])
plain_workers = (workers_fault, as_shell (subcommand_of bfs_line (codes "sh" ∷ codes "-j" ∷ codes "1" ∷ [])) (Some (codes "1")) workers_found one_digit)

pub plain_joined : IsShellCommand (codes "sh" ∷ codes "-j1" ∷ [])
plain_joined = (joined_fault, as_shell (subcommand_of bfs_line (codes "sh" ∷ codes "-j1" ∷ [])) (Some (codes "1")) joined_found one_digit)

pub plain_soak : (seed count : Text) (n m : ℕ) → IsNumber seed n → n ≤ 18446744073709551615 → IsNumber count m → m ≤ 1048572 → IsSoakCommand (codes "soak" ∷ seed ∷ count ∷ []) n m
plain_soak [] count n m is fits other few = absurd (omega (arith, is.some))
plain_soak (x ∷ xs) [] n m is fits other few = absurd (omega (arith, other.some))
plain_soak (x ∷ xs) (y ∷ ys) n m is fits other few =
    let e = digit_first x xs n is in
    let f = digit_first y ys m other in
    (soak_fault x y xs ys e f, as_soak _ (Some (x ∷ xs)) (Some (y ∷ ys)) None n m (soak_found x y xs ys e f) (is, fits) (other, few) tt)
