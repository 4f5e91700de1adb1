-- Each line of a script is in form.
use Rattle.std.proofs.Common.{◌≡◌, ◌<◌, ◌≤◌, ◌≤ℤ◌, ◌-◌, ℕ, ℤ, pos, List, [], ◌∷◌, length, Option, Some, None, Bool, true, false, ◌||◌, ◌==◌, nat_le, if◌then◌else◌, refl, ap, ◌∙◌, subst, arith}
use Rattle.std.specs.Option.{option_map}
use Rattle.std.proofs.lemmas.Int.{ints}
use Rattle.bfs_command.specs.declared.command.Command.{Command}
use Rattle.bfs_command.specs.declared.command.Command.TheVariants as commands
use Rattle.bfs_command.specs.declared.verbs.Verb.{Verb}
use Rattle.bfs_command.specs.declared.verbs.Verb.TheVariants as verbs
use Rattle.bfs_text.specs.Cutting.{words_of}
use Rattle.bfs_text.specs.Words.{up_to, where_, begins_with, number_of, octal_of, digits_of, is_number, spelled, session_of, name_of, path_of, node_of, bytes_of, value_of, key_of, kind_of}
use Rattle.bfs_command.specs.Grammar.{verb_of, owner_of, length_of, reads, then_, ended, of_one, of_two, of_three, command_of, spoken, said}
use Rattle.bfs_command.specs.Forms.{InForm}
use Rattle.bfs_text.proofs.Octal.{octal_is_small}
use Rattle.bfs_text.proofs.Numbers.{spelled_grows}

-- ---- words

-- a value that passes a test
passed : {A : Type 0} (t : Bool) (a b : A) → where_ t a ≡ Some b → (t ≡ true) × (a ≡ b)
passed true a b is = (refl, cc)
passed false a b is = cc

limited : (most : ℕ) (o : Option ℕ) (n : ℕ) → up_to most o ≡ Some n → (o ≡ Some n) × (n ≤ most)
limited most None n is = cc
limited most (Some m) n is =
    let p = passed (nat_le m most) m n is in
    let t = p.0 in
    let e = p.1 in
    (ap (λ (k : ℕ). Some k) e, grind (arith, t, e))

octal_form : (word : List ℕ) (n : ℕ) → octal_of word ≡ Some n → n ≤ 4095
octal_form word n is = let small = octal_is_small word n is in omega (arith, small)

owner_form : (word : List ℕ) (z : ℤ) → owner_of word ≡ Some z → pos 0 ≤ℤ z
owner_form word z is = by_number (up_to 2147483647 (number_of word)) is
  where
    by_number : (o : Option ℕ) → option_map (λ (n : ℕ). pos n) o ≡ Some z → pos 0 ≤ℤ z
    by_number None none = cc
    by_number (Some n) some = let e : pos n ≡ z = cc in subst (λ (z : ℤ). pos 0 ≤ℤ z) e (omega (arith, ints))

length_form : (word : List ℕ) (n : ℕ) → length_of word ≡ Some n → n ≤ 65536
length_form word n is = (limited 65536 (number_of word) n is).1

-- a session doesn't begin with a zero, so it isn't 0
first_digit : (d : ℕ) (ds : List ℕ) (n : ℕ) → (d == 48) ≡ false → digits_of 10 1 2 (d ∷ ds) ≡ Some n → 0 < n
first_digit d ds n other is =
    let p = passed (is_number 10 1 2 (d ∷ ds)) (spelled 10 0 (d ∷ ds)) n is in
    let test = p.0 in
    let high : 48 < d = grind (arith, test, other) in
    let grows = spelled_grows (d - 48) ds in
    let same : spelled 10 0 (d ∷ ds) ≡ spelled 10 (d - 48) ds = ap (λ (k : ℕ). spelled 10 k ds) (omega arith) in
    let is_n = p.1 in
    omega (arith, high, grows, same, is_n)

session_form : (word : List ℕ) (s : ℕ) → session_of word ≡ Some s → (0 < s) × (s ≤ 16)
session_form [] s is = cc
session_form (d ∷ ds) s is = by_zero (d == 48) refl is
  where
    by_zero : (t : Bool) → (d == 48) ≡ t → (if t then None else up_to 16 (digits_of 10 1 2 (d ∷ ds))) ≡ Some s → (0 < s) × (s ≤ 16)
    by_zero true test none = cc
    by_zero false test some = let both = limited 16 (digits_of 10 1 2 (d ∷ ds)) s some in (first_digit d ds s test both.0, both.1)

-- ---- commands

then_some : {A B : Type 0} (o : Option A) (f : A → Option B) (b : B) → then_ o f ≡ Some b → (a : A) × (o ≡ Some a) × (f a ≡ Some b)
then_some None f b is = cc
then_some (Some a) f b is = (a, refl, is)

read_some : {A : Type 0} (f : List ℕ → Option A) (ws : List (List ℕ)) (a : A × List (List ℕ)) → reads f ws ≡ Some a → (word : List ℕ) × (f word ≡ Some a.0)
read_some f [] a is = cc
read_some f (word ∷ words) a is = (word, by_value (f word) refl is)
  where
    by_value : (o : Option _) → f word ≡ o → option_map (λ x. (x, words)) o ≡ Some a → f word ≡ Some a.0
    by_value None e none = cc
    by_value (Some x) e some = e ∙ cc

ended_is : (ws : List (List ℕ)) (x c : Command) → ended ws x ≡ Some c → x ≡ c
ended_is [] x c is = cc
ended_is (w ∷ ws) x c is = cc

ended_form : (ws : List (List ℕ)) (x c : Command) → InForm x → ended ws x ≡ Some c → InForm c
ended_form ws x c form is = subst InForm (ended_is ws x c is) form

module _ {A : Type 0} (first : Option (A × List (List ℕ))) where
  one_form : (command : A → Command) (c : Command) → ((a : A × List (List ℕ)) → first ≡ Some a → InForm (command a.0)) → of_one first command ≡ Some c → InForm c
  one_form command c form is =
      let a = then_some first (λ (a : A × List (List ℕ)). ended a.1 (command a.0)) c is in
      ended_form a.0.1 (command a.0.0) c (form a.0 a.1) a.2

module _ {A B : Type 0} (first : Option (A × List (List ℕ))) (second : List ℕ → Option B) where
  two_form : (command : A → B → Command) (c : Command) → ((a : A) (word : List ℕ) (b : B) → second word ≡ Some b → InForm (command a b)) → of_two first second command ≡ Some c → InForm c
  two_form command c form is =
      let a = then_some first (λ (a : A × List (List ℕ)). of_one (reads second a.1) (command a.0)) c is in
      one_form (reads second a.0.1) (command a.0.0) c (λ b read. let w = read_some second a.0.1 b read in form a.0.0 w.0 b.0 w.1) a.2

module _ {A B C : Type 0} (first : Option (A × List (List ℕ))) (second : List ℕ → Option B) (third : List ℕ → Option C) where
  three_form : (command : A → B → C → Command) (c : Command) → ((a : A × List (List ℕ)) → first ≡ Some a → (v w : List ℕ) (x : B) (y : C) → second v ≡ Some x → third w ≡ Some y → InForm (command a.0 x y)) → of_three first second third command ≡ Some c → InForm c
  three_form command c form is =
      let a = then_some first (λ (a : A × List (List ℕ)). of_two (reads second a.1) third (command a.0)) c is in
      let b = then_some (reads second a.0.1) (λ (b : B × List (List ℕ)). of_one (reads third b.1) (command a.0.0 b.0)) c a.2 in
      let v = read_some second a.0.1 b.0 b.1 in
      one_form (reads third b.0.1) (command a.0.0 b.0.0) c (λ y read. let w = read_some third b.0.1 y read in form a.0 a.1 v.0 w.0 b.0.0 y.0 v.1 w.1) b.2

command_form : (v : Verb) (ws : List (List ℕ)) (c : Command) → command_of v ws ≡ Some c → InForm c
command_form verbs.Make ws c is = one_form (reads node_of ws) commands.Make c (λ a e. tt) is
command_form verbs.MakeDir ws c is = one_form (reads node_of ws) commands.MakeDir c (λ a e. tt) is
command_form verbs.MakeLink ws c is = two_form (reads node_of ws) name_of commands.MakeLink c (λ a w b e. tt) is
command_form verbs.Remove ws c is = one_form (reads node_of ws) commands.Remove c (λ a e. tt) is
command_form verbs.Rename ws c is = two_form (reads node_of ws) node_of commands.Rename c (λ a w b e. tt) is
command_form verbs.List ws c is = one_form (reads path_of ws) commands.List c (λ a e. tt) is
command_form verbs.Stat ws c is = one_form (reads path_of ws) commands.Stat c (λ a e. tt) is
command_form verbs.SetMode ws c is =
    let p = then_some (reads path_of ws) (λ (p : List (List ℕ) × List (List ℕ)). of_three (reads octal_of p.1) owner_of owner_of (commands.SetMode p.0)) c is in
    three_form (reads octal_of p.0.1) owner_of owner_of (commands.SetMode p.0.0) c (λ a e v w x y ex ey. let o = read_some octal_of p.0.1 a e in (octal_form o.0 a.0 o.1, owner_form v x ex, owner_form w y ey)) p.2
command_form verbs.SetSize ws c is = two_form (reads path_of ws) number_of commands.SetSize c (λ a w b e. tt) is
command_form verbs.ReadLink ws c is = one_form (reads path_of ws) commands.ReadLink c (λ a e. tt) is
command_form verbs.AttrWrite ws c is = three_form (reads path_of ws) name_of value_of (λ p n v. commands.AttrWrite p n v.0 v.1) c (λ a e v w x y ex ey. tt) is
command_form verbs.AttrRead ws c is = two_form (reads path_of ws) name_of commands.AttrRead c (λ a w b e. tt) is
command_form verbs.AttrRemove ws c is = two_form (reads path_of ws) name_of commands.AttrRemove c (λ a w b e. tt) is
command_form verbs.AttrList ws c is = one_form (reads path_of ws) commands.AttrList c (λ a e. tt) is
command_form verbs.Write ws c is = three_form (reads path_of ws) number_of bytes_of commands.Write c (λ a e v w x y ex ey. tt) is
command_form verbs.Read ws c is = three_form (reads path_of ws) number_of length_of commands.Read c (λ a e v w x y ex ey. length_form w y ey) is
command_form verbs.IndexMake ws c is = two_form (reads name_of ws) kind_of commands.IndexMake c (λ a w b e. tt) is
command_form verbs.IndexRemove ws c is = one_form (reads name_of ws) commands.IndexRemove c (λ a e. tt) is
command_form verbs.IndexList ws c is = ended_form ws commands.IndexList c tt is
command_form verbs.IndexFind ws c is = three_form (reads name_of ws) key_of key_of commands.IndexFind c (λ a e v w x y ex ey. tt) is
command_form verbs.Sync ws c is = ended_form ws commands.Sync c tt is

-- ---- lines

map_some : {A B : Type 0} (f : A → B) (o : Option A) (b : B) → option_map f o ≡ Some b → (a : A) × (o ≡ Some a) × (f a ≡ b)
map_some f None b is = cc
map_some f (Some a) b is = (a, refl, cc)

spoken_form : (ws : List (List ℕ)) (x : ℕ × Command) → spoken ws ≡ Some x → (0 < x.0) × (x.0 ≤ 16) × InForm x.1
spoken_form ws x is =
    let s = then_some (reads session_of ws) (λ (s : ℕ × List (List ℕ)). then_ (reads verb_of s.1) (λ v. option_map (λ c. (s.0, c)) (command_of v.0 v.1))) x is in
    let v = then_some (reads verb_of s.0.1) (λ (v : Verb × List (List ℕ)). option_map (λ c. (s.0.0, c)) (command_of v.0 v.1)) x s.2 in
    let c = map_some (λ (c : Command). (s.0.0, c)) (command_of v.0.0 v.0.1) x v.2 in
    let word = read_some session_of ws s.0 s.1 in
    let session = session_form word.0 s.0.0 word.1 in
    subst (λ (x : ℕ × Command). (0 < x.0) × (x.0 ≤ 16) × InForm x.1) c.2 (session.0, session.1, command_form v.0.0 v.0.1 c.0 c.1)

pub said_form : (line : List ℕ) (x : ℕ × Command) → said line ≡ Some (Some x) → (0 < x.0) × (x.0 ≤ 16) × InForm x.1
said_form line x is = by_silence ((length line == 0) || begins_with 35 line) is
  where
    by_silence : (t : Bool) → (if t then Some None else option_map (λ (x : ℕ × Command). Some x) (spoken (words_of line))) ≡ Some (Some x) → (0 < x.0) × (x.0 ≤ 16) × InForm x.1
    by_silence true none = cc
    by_silence false some =
        let y = map_some (λ (x : ℕ × Command). Some x) (spoken (words_of line)) (Some x) some in
        let e : y.0 ≡ x = some_is y.0 x y.2 in
        spoken_form (words_of line) x (y.1 ∙ ap (λ (x : ℕ × Command). Some x) e)
      where
        some_is : (a b : ℕ × Command) → Some a ≡ Some b → a ≡ b
        some_is a b e = cc
