-- The lines at places.
use Rattle.std.proofs.Common.{◌≡◌, ◌<◌, ℕ, zero, suc, List, [], ◌∷◌, ◌++◌, length, get_or, Option, Some, None, Bool, true, false, ◌||◌, ◌==◌, if◌then◌else◌, refl, ap, sym, ◌∙◌, append_assoc, append-nil, arith}
use Rattle.std.specs.Option.{option_map}
use Rattle.std.specs.List.{All, flat_map, slice_get}
use Rattle.std.proofs.lemmas.List.Concat.{flat_map-append}
use Rattle.bfs_text.specs.Cutting.{words_of}
use Rattle.bfs_text.specs.Words.{begins_with}
use Rattle.bfs_command.specs.declared.command.Command.{Command}
use Rattle.bfs_command.specs.declared.line.Line.{Line}
use Rattle.bfs_command.specs.declared.spoken.LineKind.TheVariants as kinds
use Rattle.bfs_command.specs.Grammar.{spoken, said, line_kind}
use Rattle.bfs_script.specs.declared.script.Place.{Place}
use Rattle.bfs_script.specs.Scripts.{line_in, said_on}
use Rattle.bfs_script.specs.Places.{between, line_at, lines_at, IsPlace}

-- what a line with a command says
pub command_is : (line : List ℕ) → line_kind (said line) ≡ kinds.Command → (x : ℕ × Command) × (said line ≡ Some (Some x)) × (spoken (words_of line) ≡ Some x)
command_is line is = by_words ((length line == 0) || begins_with 35 line) (spoken (words_of line)) refl refl is
  where
    by_words : (t : Bool) (o : Option (ℕ × Command)) → ((length line == 0) || begins_with 35 line) ≡ t → spoken (words_of line) ≡ o → line_kind (if t then Some None else option_map (λ (x : ℕ × Command). Some x) o) ≡ kinds.Command
        → (x : ℕ × Command) × (said line ≡ Some (Some x)) × (spoken (words_of line) ≡ Some x)
    by_words true o silent words none = cc
    by_words false None silent words none = cc
    by_words false (Some x) silent words some =
        (x, ap (λ (t : Bool). if t then Some None else option_map (λ (x : ℕ × Command). Some x) (spoken (words_of line))) silent ∙ ap (option_map (λ (x : ℕ × Command). Some x)) words, words)

-- a line that says nothing
pub blank_is : (o : Option (Option (ℕ × Command))) → line_kind o ≡ kinds.Blank → o ≡ Some None
blank_is None is = cc
blank_is (Some None) is = refl
blank_is (Some (Some x)) is = cc

pub bad_is : (o : Option (Option (ℕ × Command))) → line_kind o ≡ kinds.Bad → o ≡ None
bad_is None is = refl
bad_is (Some None) is = cc
bad_is (Some (Some x)) is = cc

-- lists of one element each, one after the other
module _ {X Y : Type 0} (f : X → List Y) where
  abbrev pub IsOne : X → Type 0
  IsOne x = (y : Y) × (f x ≡ y ∷ [])

  first_one : (x : X) (xs : List X) → All IsOne (x ∷ xs) → IsOne x
  first_one x xs ones = ones 0 x (omega arith)

  other_ones : (x : X) (xs : List X) → All IsOne (x ∷ xs) → All IsOne xs
  other_ones x xs ones = λ k d lt. ones (suc k) d (omega (arith, lt))

  pub count_ones : (xs : List X) → All IsOne xs → length (flat_map f xs) ≡ length xs
  count_ones [] ones = refl
  count_ones (x ∷ xs) ones = ap (λ (l : List Y). length (l ++ flat_map f xs)) (first_one x xs ones).1 ∙ ap suc (count_ones xs (other_ones x xs ones))

  pub one_at : (xs : List X) (k : ℕ) (d : X) (y : Y) → All IsOne xs → k < length xs → f (get_or xs k d) ≡ y ∷ [] → slice_get (flat_map f xs) k ≡ Some y
  one_at [] k d y ones lt is = absurd (omega (arith, lt))
  one_at (x ∷ xs) zero d y ones lt is = ap (λ (l : List Y). slice_get (l ++ flat_map f xs) 0) is
  one_at (x ∷ xs) (suc k) d y ones lt is =
      ap (λ (l : List Y). slice_get (l ++ flat_map f xs) (suc k)) (first_one x xs ones).1 ∙ one_at xs k d y (other_ones x xs ones) (omega (arith, lt)) is

-- the line at a place
pub line_there : (bytes : List ℕ) (p : Place) (x : ℕ × Command) → said (between p.start p.end bytes) ≡ Some (Some x) → line_at bytes p ≡ record { number = p.number; session = x.0; command = x.1 } ∷ []
line_there bytes p x is = ap (λ (o : Option (Option (ℕ × Command))). said_on p.number o []) is

pub place_is_one : (bytes : List ℕ) (p : Place) → IsPlace bytes p → IsOne (line_at bytes) p
place_is_one bytes p at = let x = command_is (between p.start p.end bytes) at.command in (record { number = p.number; session = x.0.0; command = x.0.1 }, line_there bytes p x.0 x.1)

pub places_are_ones : (bytes : List ℕ) (places : List Place) → All (IsPlace bytes) places → All (IsOne (line_at bytes)) places
places_are_ones bytes places all = λ k d lt. place_is_one bytes (get_or places k d) (all k d lt)

pub line_count : (bytes : List ℕ) (places : List Place) → All (IsPlace bytes) places → length (lines_at bytes places) ≡ length places
line_count bytes places all = count_ones (line_at bytes) places (places_are_ones bytes places all)

-- the words at a place were read
pub line_read : (bytes : List ℕ) (p : Place) (session : ℕ) (command : Command) → IsPlace bytes p → Some (session, command) ≡ spoken (words_of (between p.start p.end bytes))
    → line_at bytes p ≡ record { number = p.number; session = session; command = command } ∷ []
line_read bytes p session command at read =
    let x = command_is (between p.start p.end bytes) at.command in
    line_there bytes p (session, command) (x.1 ∙ ap (λ (o : Option (ℕ × Command)). Some o) (sym x.2 ∙ sym read))

pub line_missing : (bytes : List ℕ) (p : Place) → IsPlace bytes p → ¬ (None ≡ spoken (words_of (between p.start p.end bytes)))
line_missing bytes p at read = let x = command_is (between p.start p.end bytes) at.command in none_some (read ∙ x.2)
  where
    none_some : {y : ℕ × Command} → ¬ (None ≡ Some y)
    none_some is = cc

-- one more line
pub said_behind : (bytes : List ℕ) (old : List Place) (p : Place) (more : List Line) (x : Option (ℕ × Command)) → said (between p.start p.end bytes) ≡ Some x
    → lines_at bytes old ++ said_on p.number (said (between p.start p.end bytes)) more ≡ lines_at bytes (old ++ p ∷ []) ++ more
said_behind bytes old p more x is =
    ap (λ (o : Option (Option (ℕ × Command))). lines_at bytes old ++ said_on p.number o more) is
    ∙ sym (append_assoc (lines_at bytes old) (line_in p.number x) more)
    ∙ ap (λ (l : List Line). l ++ more) (sym (flat_map-append (line_at bytes) old (p ∷ []) ∙ ap (λ (l : List Line). lines_at bytes old ++ l) (append-nil (line_at bytes p) ∙ ap (λ (o : Option (Option (ℕ × Command))). said_on p.number o []) is ∙ append-nil (line_in p.number x))))
