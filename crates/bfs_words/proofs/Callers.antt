-- For callers: words ask for one thing, and what they ask for is in range.
use Rattle.std.proofs.Common.{◌≡◌, ◌≤◌, ◌∙◌, ℕ, List, [], length, get_or, true, false, Option, Some, None, is_some, unwrap_or, codes, refl, sym, ap, subst, arith, rules}
use Rattle.bfs_super.specs.Geometry.{IsBlockSize}
use Rattle.bfs_super.specs.Label.{IsLabel}
use Rattle.clap.specs.Walk.{Row, Text, first_of}
use Rattle.clap.specs.Simple.{subcommand_of}
use Rattle.clap.proofs.OnLiterals.{clap_on_literals}
use Rattle.bfs_words.specs.Line.{bfs_line}
use Rattle.bfs_words.specs.Words.{IsBlocks, IsSize, IsName, IsNewName, IsSeed, IsCount, IsVolume, IsWorkload, IsLabelCommand, IsMakeCommand, IsCheckCommand, IsShellCommand, IsSoakCommand}

-- ---- one value

one_blocks : (word : Option Text) (n m : ℕ) → IsBlocks word n → IsBlocks word m → n ≡ m
one_blocks None n m first second = absurd first
one_blocks (Some word) n m first second = first.0.value ∙ sym second.0.value

one_size : (word : Option Text) (n m : ℕ) → IsSize word n → IsSize word m → n ≡ m
one_size None n m first second = first ∙ sym second
one_size (Some word) n m first second = first.0.value ∙ sym second.0.value

one_label : (word : Option Text) (a b : Text) → IsName word a → IsName word b → a ≡ b
one_label None a b first second = first ∙ sym second
one_label (Some word) a b first second = first.0 ∙ sym second.0

one_new_name : (word : Option Text) (a b : Text) → IsNewName word a → IsNewName word b → a ≡ b
one_new_name None a b first second = absurd first
one_new_name (Some word) a b first second = first.0 ∙ sym second.0

one_seed : (word : Option Text) (n m : ℕ) → IsSeed word n → IsSeed word m → n ≡ m
one_seed None n m first second = absurd first
one_seed (Some word) n m first second = first.0.value ∙ sym second.0.value

one_count : (word : Option Text) (n m : ℕ) → IsCount word n → IsCount word m → n ≡ m
one_count None n m first second = absurd first
one_count (Some word) n m first second = first.0.value ∙ sym second.0.value

one_list : (found : Option (Text × List Row)) (name other : Text) (rows more : List Row) → found ≡ Some (name, rows) → found ≡ Some (other, more) → ◌≡◌ {A = Text × List Row} (name, rows) (other, more)
one_list found name other rows more first second = ap (λ (o : Option (Text × List Row)). unwrap_or o (name, rows)) (sym first ∙ second)

-- ---- one command

pub one_name : (words : List Text) (name other : Text) → IsLabelCommand words name → IsLabelCommand words other → name ≡ other
one_name words name other first second =
    let rows : first.1.0 ≡ second.1.0 = ap (λ (p : Text × List Row). p.1) (one_list (subcommand_of bfs_line words) (codes "label") (codes "label") first.1.0 second.1.0 first.1.1 second.1.1) in
    one_new_name (first_of (codes "name") first.1.0) name other first.1.2 (subst (λ r. IsNewName (first_of (codes "name") r) other) (sym rows) second.1.2)

-- the words ask for one volume
pub record AreSame (blocks other_blocks size other_size : ℕ) (label other : Text) : Type 0 where
  pub blocks_same : blocks ≡ other_blocks
  pub sizes_same : size ≡ other_size
  pub labels_same : label ≡ other

pub one_volume : (words : List Text) (blocks other_blocks size other_size : ℕ) (label other : Text) → IsMakeCommand words blocks size label → IsMakeCommand words other_blocks other_size other
    → AreSame blocks other_blocks size other_size label other
one_volume words blocks other_blocks size other_size label other first second =
    let rows : first.1.0 ≡ second.1.0 = ap (λ (p : Text × List Row). p.1) (one_list (subcommand_of bfs_line words) (codes "mk") (codes "mk") first.1.0 second.1.0 first.1.1 second.1.1) in
    let also = subst (λ r. IsVolume r other_blocks other_size other) (sym rows) second.1.2 in
    record {
      blocks_same = one_blocks (first_of (codes "blocks") first.1.0) blocks other_blocks first.1.2.blocks_are also.blocks_are;
      sizes_same = one_size (first_of (codes "block-size") first.1.0) size other_size first.1.2.size_is also.size_is;
      labels_same = one_label (first_of (codes "name") first.1.0) label other first.1.2.label_is also.label_is;
    }

-- the words ask for one workload
pub record AreSameWorkload (seed other_seed count other_count : ℕ) : Type 0 where
  pub seeds_same : seed ≡ other_seed
  pub counts_same : count ≡ other_count

pub one_workload : (words : List Text) (seed other_seed count other_count : ℕ) → IsSoakCommand words seed count → IsSoakCommand words other_seed other_count → AreSameWorkload seed other_seed count other_count
one_workload words seed other_seed count other_count first second =
    let rows : first.1.0 ≡ second.1.0 = ap (λ (p : Text × List Row). p.1) (one_list (subcommand_of bfs_line words) (codes "soak") (codes "soak") first.1.0 second.1.0 first.1.1 second.1.1) in
    let also = subst (λ r. IsWorkload r other_seed other_count) (sym rows) second.1.2 in
    record {
      seeds_same = one_seed (first_of (codes "seed") first.1.0) seed other_seed first.1.2.seed_is also.seed_is;
      counts_same = one_count (first_of (codes "count") first.1.0) count other_count first.1.2.count_is also.count_is;
    }

-- the words of `label` are none of `mk`
pub no_label : (words : List Text) (name label : Text) (blocks size : ℕ) → IsLabelCommand words name → IsMakeCommand words blocks size label → ⊥
no_label words name label blocks size first second =
    let n : 5 ≡ 2 = ap (λ (p : Text × List Row). length p.0) (one_list (subcommand_of bfs_line words) (codes "label") (codes "mk") first.1.0 second.1.0 first.1.1 second.1.1) in
    omega (arith, n)

-- the words of `check` are none of `label`, and none of `mk`
pub no_check_label : (words : List Text) (name : Text) → IsCheckCommand words → IsLabelCommand words name → ⊥
no_check_label words name first second =
    let n : 99 ≡ 108 = ap (λ (p : Text × List Row). get_or p.0 0 0) (one_list (subcommand_of bfs_line words) (codes "check") (codes "label") first.1.0 second.1.0 first.1.1 second.1.1) in
    omega (arith, n)

pub no_check_make : (words : List Text) (blocks size : ℕ) (label : Text) → IsCheckCommand words → IsMakeCommand words blocks size label → ⊥
no_check_make words blocks size label first second =
    let n : 5 ≡ 2 = ap (λ (p : Text × List Row). length p.0) (one_list (subcommand_of bfs_line words) (codes "check") (codes "mk") first.1.0 second.1.0 first.1.1 second.1.1) in
    omega (arith, n)

-- the words of `sh` are none of `label`, none of `mk` and none of `check`
pub no_shell_label : (words : List Text) (name : Text) → IsShellCommand words → IsLabelCommand words name → ⊥
no_shell_label words name first second =
    let n : 2 ≡ 5 = ap (λ (p : Text × List Row). length p.0) (one_list (subcommand_of bfs_line words) (codes "sh") (codes "label") first.1.0 second.1.0 first.1.1 second.1.1) in
    omega (arith, n)

pub no_shell_make : (words : List Text) (blocks size : ℕ) (label : Text) → IsShellCommand words → IsMakeCommand words blocks size label → ⊥
no_shell_make words blocks size label first second =
    let n : 115 ≡ 109 = ap (λ (p : Text × List Row). get_or p.0 0 0) (one_list (subcommand_of bfs_line words) (codes "sh") (codes "mk") first.1.0 second.1.0 first.1.1 second.1.1) in
    omega (arith, n)

pub no_shell_check : (words : List Text) → IsShellCommand words → IsCheckCommand words → ⊥
no_shell_check words first second =
    let n : 2 ≡ 5 = ap (λ (p : Text × List Row). length p.0) (one_list (subcommand_of bfs_line words) (codes "sh") (codes "check") first.1.0 second.1.0 first.1.1 second.1.1) in
    omega (arith, n)

-- the words of `soak` are none of `label`, none of `mk`, none of `check` and none of `sh`
pub no_soak_label : (words : List Text) (seed count : ℕ) (name : Text) → IsSoakCommand words seed count → IsLabelCommand words name → ⊥
no_soak_label words seed count name first second =
    let n : 4 ≡ 5 = ap (λ (p : Text × List Row). length p.0) (one_list (subcommand_of bfs_line words) (codes "soak") (codes "label") first.1.0 second.1.0 first.1.1 second.1.1) in
    omega (arith, n)

pub no_soak_make : (words : List Text) (seed count blocks size : ℕ) (label : Text) → IsSoakCommand words seed count → IsMakeCommand words blocks size label → ⊥
no_soak_make words seed count blocks size label first second =
    let n : 4 ≡ 2 = ap (λ (p : Text × List Row). length p.0) (one_list (subcommand_of bfs_line words) (codes "soak") (codes "mk") first.1.0 second.1.0 first.1.1 second.1.1) in
    omega (arith, n)

pub no_soak_check : (words : List Text) (seed count : ℕ) → IsSoakCommand words seed count → IsCheckCommand words → ⊥
no_soak_check words seed count first second =
    let n : 4 ≡ 5 = ap (λ (p : Text × List Row). length p.0) (one_list (subcommand_of bfs_line words) (codes "soak") (codes "check") first.1.0 second.1.0 first.1.1 second.1.1) in
    omega (arith, n)

pub no_soak_shell : (words : List Text) (seed count : ℕ) → IsSoakCommand words seed count → IsShellCommand words → ⊥
no_soak_shell words seed count first second =
    let n : 4 ≡ 2 = ap (λ (p : Text × List Row). length p.0) (one_list (subcommand_of bfs_line words) (codes "soak") (codes "sh") first.1.0 second.1.0 first.1.1 second.1.1) in
    omega (arith, n)

nothing_found : subcommand_of bfs_line [] ≡ None
unfolding clap_on_literals
nothing_found = refl

none_some : (p : Text × List Row) → None ≡ Some p → ⊥
none_some p e = let bad : false ≡ true = ap is_some e in cc

-- no words ask for neither
pub no_words_label : (words : List Text) (name : Text) → words ≡ [] → IsLabelCommand words name → ⊥
no_words_label words name none is = none_some (codes "label", is.1.0) (sym nothing_found ∙ ap (subcommand_of bfs_line) (sym none) ∙ is.1.1)

pub no_words_make : (words : List Text) (blocks size : ℕ) (label : Text) → words ≡ [] → IsMakeCommand words blocks size label → ⊥
no_words_make words blocks size label none is = none_some (codes "mk", is.1.0) (sym nothing_found ∙ ap (subcommand_of bfs_line) (sym none) ∙ is.1.1)

pub no_words_check : (words : List Text) → words ≡ [] → IsCheckCommand words → ⊥
no_words_check words none is = none_some (codes "check", is.1.0) (sym nothing_found ∙ ap (subcommand_of bfs_line) (sym none) ∙ is.1.1)

pub no_words_shell : (words : List Text) → words ≡ [] → IsShellCommand words → ⊥
no_words_shell words none is = none_some (codes "sh", is.1.0) (sym nothing_found ∙ ap (subcommand_of bfs_line) (sym none) ∙ is.1.1)

pub no_words_soak : (words : List Text) (seed count : ℕ) → words ≡ [] → IsSoakCommand words seed count → ⊥
no_words_soak words seed count none is = none_some (codes "soak", is.1.0) (sym nothing_found ∙ ap (subcommand_of bfs_line) (sym none) ∙ is.1.1)

-- ---- what they ask for is good

new_name_fits : (word : Option Text) (name : Text) → IsNewName word name → IsLabel name
new_name_fits None name is = absurd is
new_name_fits (Some word) name is = subst IsLabel (sym is.0) is.1

blocks_fit : (word : Option Text) (n : ℕ) → IsBlocks word n → n ≤ 4194304
blocks_fit None n is = absurd is
blocks_fit (Some word) n is = is.1

size_fits : (word : Option Text) (n : ℕ) → IsSize word n → IsBlockSize n
size_fits None n is = subst IsBlockSize (sym is) (search rules)
size_fits (Some word) n is = is.1

seed_fits : (word : Option Text) (n : ℕ) → IsSeed word n → n ≤ 18446744073709551615
seed_fits None n is = absurd is
seed_fits (Some word) n is = is.1

count_fits : (word : Option Text) (n : ℕ) → IsCount word n → n ≤ 1048572
count_fits None n is = absurd is
count_fits (Some word) n is = is.1

label_fits : (word : Option Text) (label : Text) → IsLabel (codes "untitled") → IsName word label → IsLabel label
label_fits None label untitled is = subst IsLabel (sym is) untitled
label_fits (Some word) label untitled is = subst IsLabel (sym is.0) is.1

pub good_name : (words : List Text) (name : Text) → IsLabelCommand words name → IsLabel name
good_name words name is = new_name_fits (first_of (codes "name") is.1.0) name is.1.2

pub good_blocks : (words : List Text) (blocks size : ℕ) (label : Text) → IsMakeCommand words blocks size label → blocks ≤ 4194304
good_blocks words blocks size label is = blocks_fit (first_of (codes "blocks") is.1.0) blocks is.1.2.blocks_are

pub good_size : (words : List Text) (blocks size : ℕ) (label : Text) → IsMakeCommand words blocks size label → IsBlockSize size
good_size words blocks size label is = size_fits (first_of (codes "block-size") is.1.0) size is.1.2.size_is

pub good_seed : (words : List Text) (seed count : ℕ) → IsSoakCommand words seed count → seed ≤ 18446744073709551615
good_seed words seed count is = seed_fits (first_of (codes "seed") is.1.0) seed is.1.2.seed_is

pub good_count : (words : List Text) (seed count : ℕ) → IsSoakCommand words seed count → count ≤ 1048572
good_count words seed count is = count_fits (first_of (codes "count") is.1.0) count is.1.2.count_is
