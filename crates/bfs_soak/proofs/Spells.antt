-- What the commands of a workload spell is read as them.
use Rattle.std.proofs.Common.{◌≡◌, ◌<◌, ◌≤◌, ◌*◌, ◌^◌, ℕ, ℤ, zero, suc, pos, List, [], ◌∷◌, ◌++◌, length, length-append, get_or, Bool, true, false, not, ◌&&◌, ◌||◌, ◌==◌, nat_le, nat_lt, Option, Some, None, if◌then◌else◌, refl, ap, sym, ◌∙◌, subst, arith, codes, decimal}
use Rattle.std.specs.List.{list_all}
use Rattle.std.specs.Option.{option_map, option_and_then}
use Rattle.std.proofs.lemmas.Fmt.{first_decimal, length-decimal-le}
use Rattle.bfs_bytes.specs.Fields.{unsigned_bytes, signed32_bytes}
use Rattle.bfs_tree.specs.Listings.{bytes_of_key}
use Rattle.bfs_tree.specs.declared.rows.Key.TheVariants as keys
use Rattle.bfs_text.specs.Cutting.{words_of}
use Rattle.bfs_text.specs.Words.{spelled, is_digit, is_number, digits_of, number_of, up_to, begins_with, session_of, name_of, part_before, parts_of, path_of, not_root, node_of, decimal_of, integer_of, signed_in, i32_of, value_of, where_}
use Rattle.bfs_command.specs.declared.command.Command.{Command}
use Rattle.bfs_command.specs.declared.command.Command.TheVariants as commands
use Rattle.bfs_command.specs.declared.verbs.Verb.{Verb}
use Rattle.bfs_command.specs.declared.verbs.Verb.TheVariants as verbs
use Rattle.bfs_command.specs.Grammar.{verb_of, reads, then_, of_one, of_two, of_three, command_of, spoken, said}
use Rattle.bfs_soak.specs.Workload.{numbered, folder, file_in, folder_in, command_drawn}
use Rattle.bfs_soak.specs.Spellings.{home_text, inside_text, command_text, spoken_text}
use Rattle.bfs_soak.proofs.Plain.{IsDecimal, decimal_is, Lacks, digits_lack, lacks_both, cut_word, cut_last, plain_word}

-- ---- numbers

where_true : {A : Type 0} (t : Bool) (a : A) → t ≡ true → where_ t a ≡ Some a
where_true true a is = refl
where_true false a is = cc

number_test : (least most n : ℕ) (all : Bool) → least ≤ n → n ≤ most → all ≡ true → ((nat_le least n && nat_le n most) && all) ≡ true
number_test least most n all low high is = grind (arith, low, high, is)

digits_read : (most n : ℕ) → n < 2 ^ 64 → length (decimal n) ≤ most → digits_of 10 1 most (decimal n) ≡ Some n
digits_read most n small short =
    let d = decimal_is n small in
    where_true (is_number 10 1 most (decimal n)) (spelled 10 0 (decimal n)) (number_test 1 most (length (decimal n)) (list_all (is_digit 10) (decimal n)) (let some = d.some in omega (arith, some)) short d.digits) ∙ ap (λ (k : ℕ). Some k) d.value

up_to_is : (most n : ℕ) → n ≤ most → up_to most (Some n) ≡ Some n
up_to_is most n le = where_true (nat_le n most) n (grind (arith, le))

begins_not : (word : List ℕ) → 48 < get_or word 0 0 → begins_with 48 word ≡ false
begins_not [] high = refl
begins_not (b ∷ bs) high = grind (arith, high)

pub session_read : (s : ℕ) → 0 < s → s ≤ 16 → session_of (decimal s) ≡ Some s
session_read s some few =
    ap (λ (t : Bool). if t then None else up_to 16 (digits_of 10 1 2 (decimal s))) (begins_not (decimal s) (first_decimal s some (omega (arith, few))))
    ∙ ap (up_to 16) (digits_read 2 s (omega (arith, few)) (length-decimal-le 2 s (omega arith) (omega (arith, few)) (omega (arith, few))))
    ∙ up_to_is 16 s few

digit_is_no_minus : (d : ℕ) (rest : Bool) → (is_digit 10 d && rest) ≡ true → (d == 45) ≡ false
digit_is_no_minus d rest is = grind (arith, is)

some_digits : (n : ℕ) (all : Bool) → all ≡ true → (nat_lt 0 (suc n) && all) ≡ true
some_digits n all is = grind (arith, is)

integer_read : (n : ℕ) (word : List ℕ) → IsDecimal n word → integer_of word ≡ Some (false, n)
integer_read n [] d = let some = d.some in absurd (omega (arith, some))
integer_read n (b ∷ bs) d =
    ap (λ (t : Bool). if t then option_map (λ (m : ℕ). (true, m)) (decimal_of bs) else option_map (λ (m : ℕ). (false, m)) (decimal_of (b ∷ bs))) (digit_is_no_minus b (list_all (is_digit 10) bs) d.digits)
    ∙ ap (option_map (λ (m : ℕ). (false, m))) (where_true (nat_lt 0 (length (b ∷ bs)) && list_all (is_digit 10) (b ∷ bs)) (spelled 10 0 (b ∷ bs)) (some_digits (length bs) (list_all (is_digit 10) (b ∷ bs)) d.digits) ∙ ap (λ (k : ℕ). Some k) d.value)

i32_read : (b : ℕ) → b < 32 → i32_of (decimal b) ≡ Some (pos b)
i32_read b few =
    ap (option_and_then (signed_in (2 ^ 31))) (integer_read b (decimal b) (decimal_is b (omega (arith, few))))
    ∙ where_true (nat_lt b (2 ^ 31)) (pos b) (grind (arith, few))

-- the four bytes of a small number
abbrev all_below : ℕ → (ℕ → Bool) → Bool
all_below zero test = true
all_below (suc n) test = test n && all_below n test

halves : (t u : Bool) → (t && u) ≡ true → (t ≡ true) × (u ≡ true)
halves true u is = (refl, is)
halves false u is = cc

at_place : (k n : ℕ) (test : ℕ → Bool) → test n ≡ true → (k < n → test k ≡ true) → k < suc n → test k ≡ true
at_place k n test here below lt = by_place (k == n) refl
  where
    by_place : (t : Bool) → (k == n) ≡ t → test k ≡ true
    by_place true place = let e : k ≡ n = grind (arith, place) in subst (λ (m : ℕ). test m ≡ true) (sym e) here
    by_place false place = let less : k < n = grind (arith, place, lt) in below less

tried : (n : ℕ) (test : ℕ → Bool) → all_below n test ≡ true → (k : ℕ) → k < n → test k ≡ true
tried zero test all k lt = absurd (omega (arith, lt))
tried (suc n) test all k lt = let h = halves (test n) (all_below n test) all in at_place k n test h.0 (λ less. tried n test h.1 k less) lt

abbrev same : List ℕ → List ℕ → Bool
same [] [] = true
same [] (y ∷ ys) = false
same (x ∷ xs) [] = false
same (x ∷ xs) (y ∷ ys) = (x == y) && same xs ys

same_is : (xs ys : List ℕ) → same xs ys ≡ true → xs ≡ ys
same_is [] [] is = refl
same_is [] (y ∷ ys) is = cc
same_is (x ∷ xs) [] is = cc
same_is (x ∷ xs) (y ∷ ys) is =
    let first : x ≡ y = grind (arith, is) in
    let rest : same xs ys ≡ true = grind (arith, is) in
    ap (λ (n : ℕ). n ∷ xs) first ∙ ap (λ (l : List ℕ). y ∷ l) (same_is xs ys rest)

small_bytes : (b : ℕ) → b < 32 → signed32_bytes (pos b) ≡ b ∷ 0 ∷ 0 ∷ 0 ∷ []
unfolding signed32_bytes unsigned_bytes
small_bytes b few = same_is (signed32_bytes (pos b)) (b ∷ 0 ∷ 0 ∷ 0 ∷ []) (tried 32 (λ (n : ℕ). same (signed32_bytes (pos n)) (n ∷ 0 ∷ 0 ∷ 0 ∷ [])) refl b few)

value_read : (b : ℕ) → b < 32 → value_of (codes "LONG:" ++ decimal b) ≡ Some (0x4c4f4e47, b ∷ 0 ∷ 0 ∷ 0 ∷ [])
value_read b few =
    ap (λ (o : Option ℤ). option_map (λ (bytes : List ℕ). (1280265799, bytes)) (option_map bytes_of_key (option_map (λ (z : ℤ). keys.I32 z) o))) (i32_read b few)
    ∙ ap (λ (l : List ℕ). Some (1280265799, l)) (small_bytes b few)

-- ---- paths

module _ (n : ℕ) (small : n < 2 ^ 64) where
  digits_of_n : list_all (is_digit 10) (decimal n) ≡ true
  digits_of_n = let d = decimal_is n small in d.digits

  pub no_space : Lacks 32 (decimal n)
  no_space = digits_lack 32 (decimal n) (omega arith) digits_of_n

  pub no_feed : Lacks 10 (decimal n)
  no_feed = digits_lack 10 (decimal n) (omega arith) digits_of_n

  no_percent : Lacks 37 (decimal n)
  no_percent = digits_lack 37 (decimal n) (omega arith) digits_of_n

  no_slash : Lacks 47 (decimal n)
  no_slash = digits_lack 47 (decimal n) (omega arith) digits_of_n

-- a letter that is no separator and no percent sign
abbrev pub IsLetter : ℕ → Type 0
IsLetter b = ((b == 37) ≡ false) × ((b == 47) ≡ false) × ((b == 32) ≡ false) × ((b == 10) ≡ false)

lacks_more : (b c : ℕ) (word : List ℕ) → (c == b) ≡ false → Lacks b word → Lacks b (c ∷ word)
lacks_more b c word other lacks = ap (λ (t : Bool). not t && list_all (λ (d : ℕ). not (d == b)) word) other ∙ lacks

module _ (letter n : ℕ) (is : IsLetter letter) (small : n < 2 ^ 64) where
  name_read : name_of (numbered letter n) ≡ Some (numbered letter n)
  name_read = plain_word (letter ∷ decimal n) (lacks_more 37 letter (decimal n) is.0 (no_percent n small))

  name_slash : Lacks 47 (numbered letter n)
  name_slash = lacks_more 47 letter (decimal n) is.1 (no_slash n small)

  name_space : Lacks 32 (numbered letter n)
  name_space = lacks_more 32 letter (decimal n) is.2 (no_space n small)

  name_feed : Lacks 10 (numbered letter n)
  name_feed = lacks_more 10 letter (decimal n) is.3 (no_feed n small)

part_read : (piece name : List ℕ) (pieces names : List (List ℕ)) → name_of piece ≡ Some name → parts_of pieces ≡ Some names → parts_of (piece ∷ pieces) ≡ Some (name ∷ names)
part_read piece name pieces names first rest = ap (λ (o : Option (List ℕ)). part_before o (parts_of pieces)) first ∙ ap (part_before (Some name)) rest

module _ (s : ℕ) (few : s < 2 ^ 64) where
  session_letter : IsLetter 115
  session_letter = (refl, refl, refl, refl)

  home_path : path_of (home_text s) ≡ Some (folder s)
  home_path = ap parts_of (cut_last 47 (numbered 115 s) (name_slash 115 s session_letter few)) ∙ part_read (numbered 115 s) (numbered 115 s) [] [] (name_read 115 s session_letter few) refl

  pub home_node : node_of (home_text s) ≡ Some (folder s)
  home_node = ap not_root home_path

  pub home_space : Lacks 32 (home_text s)
  home_space = name_space 115 s session_letter few

  pub home_feed : Lacks 10 (home_text s)
  home_feed = name_feed 115 s session_letter few

  module _ (letter n : ℕ) (is : IsLetter letter) (small : n < 2 ^ 64) where
    inside_path : path_of (inside_text s letter n) ≡ Some (numbered 115 s ∷ numbered letter n ∷ [])
    inside_path =
        ap parts_of (cut_word 47 (numbered 115 s) (numbered letter n) (name_slash 115 s session_letter few) ∙ ap (λ (l : List (List ℕ)). numbered 115 s ∷ l) (cut_last 47 (numbered letter n) (name_slash letter n is small)))
        ∙ part_read (numbered 115 s) (numbered 115 s) (numbered letter n ∷ []) (numbered letter n ∷ []) (name_read 115 s session_letter few) (part_read (numbered letter n) (numbered letter n) [] [] (name_read letter n is small) refl)

    inside_node : node_of (inside_text s letter n) ≡ Some (numbered 115 s ∷ numbered letter n ∷ [])
    inside_node = ap not_root inside_path

    inside_space : Lacks 32 (inside_text s letter n)
    inside_space = lacks_both 32 (home_text s) (47 ∷ numbered letter n) home_space (name_space letter n is small)

    inside_feed : Lacks 10 (inside_text s letter n)
    inside_feed = lacks_both 10 (home_text s) (47 ∷ numbered letter n) home_feed (name_feed letter n is small)

-- ---- commands

-- a session's words are read as this command, and have no line feed and few bytes
pub record Says (s : ℕ) (text : List ℕ) (command : Command) : Type 0 where
  pub says : said (spoken_text s text) ≡ Some (Some (s, command))
  pub feed : Lacks 10 text
  pub short : length text ≤ 60

no_comment : (n b : ℕ) (more : Bool) → (is_digit 10 b && more) ≡ true → ((suc n == 0) || (b == 35)) ≡ false
no_comment n b more is = grind (arith, is)

first_is_digit : (word : List ℕ) (n : ℕ) (rest : List ℕ) → IsDecimal n word → ((length (word ++ rest) == 0) || begins_with 35 (word ++ rest)) ≡ false
first_is_digit [] n rest d = let some = d.some in absurd (omega (arith, some))
first_is_digit (b ∷ bs) n rest d = no_comment (length (bs ++ rest)) b (list_all (is_digit 10) bs) d.digits

-- a word that was read, with the words behind it
abbrev beside : {A : Type 0} → List (List ℕ) → A → A × List (List ℕ)
beside words a = (a, words)

-- the command of a session
abbrev of_session : ℕ → Command → ℕ × Command
of_session s c = (s, c)

abbrev some_said : Option (ℕ × Command) → Option (Option (ℕ × Command))
some_said o = option_map (λ (x : ℕ × Command). Some x) o

abbrev with_verb : ℕ → Option (Verb × List (List ℕ)) → Option (ℕ × Command)
with_verb s o = then_ {A = Verb × List (List ℕ)} {B = ℕ × Command} o (λ v. option_map (of_session s) (command_of v.0 v.1))

abbrev with_session : Option (ℕ × List (List ℕ)) → Option (ℕ × Command)
with_session o = then_ {A = ℕ × List (List ℕ)} {B = ℕ × Command} o (λ s. with_verb s.0 (reads verb_of s.1))

module _ (s : ℕ) (some : 0 < s) (few : s ≤ 16) where
  small_session : s < 2 ^ 64
  small_session = omega (arith, few)

  said_is : (text word : List ℕ) (ws : List (List ℕ)) (v : Verb) (c : Command) → words_of text ≡ word ∷ ws → verb_of word ≡ Some v → command_of v ws ≡ Some c → said (spoken_text s text) ≡ Some (Some (s, c))
  said_is text word ws v c words verb command =
      ap (λ (t : Bool). if t then Some None else some_said (spoken (words_of (spoken_text s text)))) (first_is_digit (decimal s) s (32 ∷ text) (decimal_is s small_session))
      ∙ ap (λ (l : List (List ℕ)). some_said (spoken l)) (cut_word 32 (decimal s) text (no_space s small_session) ∙ ap (λ (l : List (List ℕ)). decimal s ∷ l) words)
      ∙ ap (λ (o : Option ℕ). some_said (with_session (option_map (beside (word ∷ ws)) o))) (session_read s some few)
      ∙ ap (λ (o : Option Verb). some_said (with_verb s (option_map (beside ws) o))) verb
      ∙ ap (λ (o : Option Command). some_said (option_map (of_session s) o)) command

  module _ (k a b : ℕ) (low : a < 32) (low' : b < 32) where
    small_a : a < 2 ^ 64
    small_a = omega (arith, low)

    small_b : b < 2 ^ 64
    small_b = omega (arith, low')

    f_letter : IsLetter 102
    f_letter = (refl, refl, refl, refl)

    d_letter : IsLetter 100
    d_letter = (refl, refl, refl, refl)

    decimal_short : (n : ℕ) → n < 16384 → length (decimal n) ≤ 5
    decimal_short n lt = length-decimal-le 5 n (omega arith) (omega (arith, lt)) (omega (arith, lt))

    inside_short : (letter n : ℕ) → n < 32 → length (inside_text s letter n) ≤ 14
    inside_short letter n lt =
        let one = decimal_short s (omega (arith, few)) in
        let two = decimal_short n (omega (arith, lt)) in
        let joined = length-append (home_text s) (47 ∷ numbered letter n) in
        omega (arith, one, two, joined)

    home_short : length (home_text s) ≤ 7
    home_short = let one = decimal_short s (omega (arith, few)) in omega (arith, one)

    -- a verb and a file
    file_words : (word : List ℕ) → Lacks 32 word → words_of (word ++ 32 ∷ inside_text s 102 a) ≡ word ∷ inside_text s 102 a ∷ []
    file_words word lacks = cut_word 32 word (inside_text s 102 a) lacks ∙ ap (λ (l : List (List ℕ)). word ∷ l) (cut_last 32 (inside_text s 102 a) (inside_space s small_session 102 a f_letter small_a))

    -- a verb, a file and more words
    file_words_more : (word rest : List ℕ) → Lacks 32 word → words_of (word ++ 32 ∷ (inside_text s 102 a ++ 32 ∷ rest)) ≡ word ∷ inside_text s 102 a ∷ words_of rest
    file_words_more word rest lacks =
        cut_word 32 word (inside_text s 102 a ++ 32 ∷ rest) lacks ∙ ap (λ (l : List (List ℕ)). word ∷ l) (cut_word 32 (inside_text s 102 a) rest (inside_space s small_session 102 a f_letter small_a))

    file_node : node_of (inside_text s 102 a) ≡ Some (file_in s a)
    file_node = inside_node s small_session 102 a f_letter small_a

    file_path : path_of (inside_text s 102 a) ≡ Some (file_in s a)
    file_path = inside_path s small_session 102 a f_letter small_a

    file_feed : Lacks 10 (inside_text s 102 a)
    file_feed = inside_feed s small_session 102 a f_letter small_a

    make_says : Says s (codes "make " ++ inside_text s 102 a) (commands.Make (file_in s a))
    make_says = record {
      says = said_is (codes "make " ++ inside_text s 102 a) (codes "make") (inside_text s 102 a ∷ []) verbs.Make (commands.Make (file_in s a)) (file_words (codes "make") refl) refl
          (ap (λ (o : Option (List (List ℕ))). of_one (option_map (λ (p : List (List ℕ)). (p, [])) o) commands.Make) file_node);
      feed = lacks_both 10 (codes "make ") (inside_text s 102 a) refl file_feed;
      short = let one = inside_short 102 a low in omega (arith, one);
    }

    rm_says : Says s (codes "rm " ++ inside_text s 102 a) (commands.Remove (file_in s a))
    rm_says = record {
      says = said_is (codes "rm " ++ inside_text s 102 a) (codes "rm") (inside_text s 102 a ∷ []) verbs.Remove (commands.Remove (file_in s a)) (file_words (codes "rm") refl) refl
          (ap (λ (o : Option (List (List ℕ))). of_one (option_map (λ (p : List (List ℕ)). (p, [])) o) commands.Remove) file_node);
      feed = lacks_both 10 (codes "rm ") (inside_text s 102 a) refl file_feed;
      short = let one = inside_short 102 a low in omega (arith, one);
    }

    mkdir_says : Says s (codes "mkdir " ++ inside_text s 100 a) (commands.MakeDir (folder_in s a))
    mkdir_says = record {
      says = said_is (codes "mkdir " ++ inside_text s 100 a) (codes "mkdir") (inside_text s 100 a ∷ []) verbs.MakeDir (commands.MakeDir (folder_in s a))
          (cut_word 32 (codes "mkdir") (inside_text s 100 a) refl ∙ ap (λ (l : List (List ℕ)). codes "mkdir" ∷ l) (cut_last 32 (inside_text s 100 a) (inside_space s small_session 100 a d_letter small_a)))
          refl
          (ap (λ (o : Option (List (List ℕ))). of_one (option_map (λ (p : List (List ℕ)). (p, [])) o) commands.MakeDir) (inside_node s small_session 100 a d_letter small_a));
      feed = lacks_both 10 (codes "mkdir ") (inside_text s 100 a) refl (inside_feed s small_session 100 a d_letter small_a);
      short = let one = inside_short 100 a low in omega (arith, one);
    }

    mv_says : Says s (codes "mv " ++ (inside_text s 102 a ++ (32 ∷ inside_text s 102 b))) (commands.Rename (file_in s a) (file_in s b))
    mv_says = record {
      says = said_is (codes "mv " ++ (inside_text s 102 a ++ (32 ∷ inside_text s 102 b))) (codes "mv") (inside_text s 102 a ∷ inside_text s 102 b ∷ []) verbs.Rename (commands.Rename (file_in s a) (file_in s b))
          (file_words_more (codes "mv") (inside_text s 102 b) refl ∙ ap (λ (l : List (List ℕ)). codes "mv" ∷ inside_text s 102 a ∷ l) (cut_last 32 (inside_text s 102 b) (inside_space s small_session 102 b f_letter small_b)))
          refl
          (ap (λ (o : Option (List (List ℕ))). of_two (option_map (λ (p : List (List ℕ)). (p, inside_text s 102 b ∷ [])) o) node_of commands.Rename) file_node
          ∙ ap (λ (o : Option (List (List ℕ))). of_one (option_map (λ (p : List (List ℕ)). (p, [])) o) (commands.Rename (file_in s a))) (inside_node s small_session 102 b f_letter small_b));
      feed = lacks_both 10 (codes "mv ") (inside_text s 102 a ++ (32 ∷ inside_text s 102 b)) refl (lacks_both 10 (inside_text s 102 a) (32 ∷ inside_text s 102 b) file_feed (inside_feed s small_session 102 b f_letter small_b));
      short = let one = inside_short 102 a low in let two = inside_short 102 b low' in let joined = length-append (inside_text s 102 a) (32 ∷ inside_text s 102 b) in omega (arith, one, two, joined);
    }

    attr_says : Says s (codes "attr " ++ (inside_text s 102 a ++ (codes " x LONG:" ++ decimal b))) (commands.AttrWrite (file_in s a) (codes "x") 0x4c4f4e47 (b ∷ 0 ∷ 0 ∷ 0 ∷ []))
    attr_says = record {
      says = said_is (codes "attr " ++ (inside_text s 102 a ++ (codes " x LONG:" ++ decimal b))) (codes "attr") (inside_text s 102 a ∷ codes "x" ∷ (codes "LONG:" ++ decimal b) ∷ []) verbs.AttrWrite (commands.AttrWrite (file_in s a) (codes "x") 0x4c4f4e47 (b ∷ 0 ∷ 0 ∷ 0 ∷ []))
          (file_words_more (codes "attr") (codes "x LONG:" ++ decimal b) refl
          ∙ ap (λ (l : List (List ℕ)). codes "attr" ∷ inside_text s 102 a ∷ l) (cut_word 32 (codes "x") (codes "LONG:" ++ decimal b) refl ∙ ap (λ (l : List (List ℕ)). codes "x" ∷ l) (cut_last 32 (codes "LONG:" ++ decimal b) (lacks_both 32 (codes "LONG:") (decimal b) refl (no_space b small_b)))))
          refl
          (ap (λ (o : Option (List (List ℕ))). of_three (option_map (λ (p : List (List ℕ)). (p, codes "x" ∷ (codes "LONG:" ++ decimal b) ∷ [])) o) name_of value_of (λ p n v. commands.AttrWrite p n v.0 v.1)) file_path
          ∙ ap (λ (o : Option (ℕ × List ℕ)). of_one (option_map (λ (v : ℕ × List ℕ). (v, [])) o) (λ v. commands.AttrWrite (file_in s a) (codes "x") v.0 v.1)) (value_read b low'));
      feed = lacks_both 10 (codes "attr ") (inside_text s 102 a ++ (codes " x LONG:" ++ decimal b)) refl (lacks_both 10 (inside_text s 102 a) (codes " x LONG:" ++ decimal b) file_feed (lacks_both 10 (codes " x LONG:") (decimal b) refl (no_feed b small_b)));
      short = let one = inside_short 102 a low in let two = decimal_short b (omega (arith, low')) in let joined = length-append (inside_text s 102 a) (codes " x LONG:" ++ decimal b) in omega (arith, one, two, joined);
    }

    size_says : Says s (codes "size " ++ (inside_text s 102 a ++ (32 ∷ decimal (512 * b)))) (commands.SetSize (file_in s a) (512 * b))
    size_says =
        let small : 512 * b < 16384 = omega (arith, low') in
        let wide : 512 * b < 2 ^ 64 = omega (arith, low') in
        let few_digits = decimal_short (512 * b) small in
        record {
          says = said_is (codes "size " ++ (inside_text s 102 a ++ (32 ∷ decimal (512 * b)))) (codes "size") (inside_text s 102 a ∷ decimal (512 * b) ∷ []) verbs.SetSize (commands.SetSize (file_in s a) (512 * b))
              (file_words_more (codes "size") (decimal (512 * b)) refl ∙ ap (λ (l : List (List ℕ)). codes "size" ∷ inside_text s 102 a ∷ l) (cut_last 32 (decimal (512 * b)) (no_space (512 * b) wide)))
              refl
              (ap (λ (o : Option (List (List ℕ))). of_two (option_map (λ (p : List (List ℕ)). (p, decimal (512 * b) ∷ [])) o) number_of commands.SetSize) file_path
              ∙ ap (λ (o : Option ℕ). of_one (option_map (λ (n : ℕ). (n, [])) o) (commands.SetSize (file_in s a))) (digits_read 19 (512 * b) wide (omega (arith, few_digits))));
          feed = lacks_both 10 (codes "size ") (inside_text s 102 a ++ (32 ∷ decimal (512 * b))) refl (lacks_both 10 (inside_text s 102 a) (32 ∷ decimal (512 * b)) file_feed (no_feed (512 * b) wide));
          short = let one = inside_short 102 a low in let joined = length-append (inside_text s 102 a) (32 ∷ decimal (512 * b)) in omega (arith, one, few_digits, joined);
        }

    ls_says : Says s (codes "ls " ++ home_text s) (commands.List (folder s))
    ls_says = record {
      says = said_is (codes "ls " ++ home_text s) (codes "ls") (home_text s ∷ []) verbs.List (commands.List (folder s))
          (cut_word 32 (codes "ls") (home_text s) refl ∙ ap (λ (l : List (List ℕ)). codes "ls" ∷ l) (cut_last 32 (home_text s) (home_space s small_session)))
          refl
          (ap (λ (o : Option (List (List ℕ))). of_one (option_map (λ (p : List (List ℕ)). (p, [])) o) commands.List) (home_path s small_session));
      feed = lacks_both 10 (codes "ls ") (home_text s) refl (home_feed s small_session);
      short = let one = home_short in omega (arith, one);
    }

    sync_says : Says s (codes "sync") commands.Sync
    sync_says = record { says = said_is (codes "sync") (codes "sync") [] verbs.Sync commands.Sync refl refl refl; feed = refl; short = omega arith }

    either : (t : Bool) (x y : List ℕ) (c d : Command) → Says s x c → Says s y d → Says s (if t then x else y) (if t then c else d)
    either true x y c d one other = one
    either false x y c d one other = other

    pub command_says : Says s (command_text s k a b) (command_drawn s k a b)
    command_says =
        either (k == 0) _ _ _ _ make_says (either (k == 1) _ _ _ _ mkdir_says (either (k == 2) _ _ _ _ rm_says (either (k == 3) _ _ _ _ mv_says (either (k == 4) _ _ _ _ attr_says (either (k == 5) _ _ _ _ size_says (either (k == 6) _ _ _ _ ls_says sync_says))))))

  pub first_says : Says s (codes "mkdir " ++ home_text s) (commands.MakeDir (folder s))
  first_says = record {
    says = said_is (codes "mkdir " ++ home_text s) (codes "mkdir") (home_text s ∷ []) verbs.MakeDir (commands.MakeDir (folder s))
        (cut_word 32 (codes "mkdir") (home_text s) refl ∙ ap (λ (l : List (List ℕ)). codes "mkdir" ∷ l) (cut_last 32 (home_text s) (home_space s small_session)))
        refl
        (ap (λ (o : Option (List (List ℕ))). of_one (option_map (λ (p : List (List ℕ)). (p, [])) o) commands.MakeDir) (home_node s small_session));
    feed = lacks_both 10 (codes "mkdir ") (home_text s) refl (home_feed s small_session);
    short = let one = home_short 0 0 0 (omega arith) (omega arith) in omega (arith, one);
  }
