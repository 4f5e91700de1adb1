-- What a line of a script says: a session and a command, with its words.
use Rattle.std.specs.Prelude.{ℕ, ℤ, pos, List, [], ◌∷◌, length, Option, Some, None, ◌||◌, ◌==◌, if◌then◌else◌, codes}
use Rattle.std.specs.Option.{option_map}
use Rattle.std.specs.Str.{bytes_eq}
use Rattle.bfs_command.specs.declared.command.Command.{Command}
use Rattle.bfs_command.specs.declared.command.Command.TheVariants as commands
use Rattle.bfs_command.specs.declared.verbs.Verb.{Verb}
use Rattle.bfs_command.specs.declared.verbs.Verb.TheVariants as verbs
use Rattle.bfs_command.specs.declared.spoken.LineKind.{LineKind}
use Rattle.bfs_command.specs.declared.spoken.LineKind.TheVariants as kinds
use Rattle.bfs_text.specs.Cutting.{words_of}
use Rattle.bfs_text.specs.Words.{up_to, begins_with, number_of, octal_of, session_of, name_of, path_of, node_of, bytes_of, value_of, key_of, kind_of}

abbrev pub verb_of : List ℕ → Option Verb
verb_of word =
    if bytes_eq word (codes "make") then Some verbs.Make
    else if bytes_eq word (codes "mkdir") then Some verbs.MakeDir
    else if bytes_eq word (codes "link") then Some verbs.MakeLink
    else if bytes_eq word (codes "rm") then Some verbs.Remove
    else if bytes_eq word (codes "mv") then Some verbs.Rename
    else if bytes_eq word (codes "ls") then Some verbs.List
    else if bytes_eq word (codes "stat") then Some verbs.Stat
    else if bytes_eq word (codes "mode") then Some verbs.SetMode
    else if bytes_eq word (codes "size") then Some verbs.SetSize
    else if bytes_eq word (codes "readlink") then Some verbs.ReadLink
    else if bytes_eq word (codes "attr") then Some verbs.AttrWrite
    else if bytes_eq word (codes "getattr") then Some verbs.AttrRead
    else if bytes_eq word (codes "rmattr") then Some verbs.AttrRemove
    else if bytes_eq word (codes "attrs") then Some verbs.AttrList
    else if bytes_eq word (codes "write") then Some verbs.Write
    else if bytes_eq word (codes "read") then Some verbs.Read
    else if bytes_eq word (codes "mkindex") then Some verbs.IndexMake
    else if bytes_eq word (codes "rmindex") then Some verbs.IndexRemove
    else if bytes_eq word (codes "indices") then Some verbs.IndexList
    else if bytes_eq word (codes "find") then Some verbs.IndexFind
    else if bytes_eq word (codes "sync") then Some verbs.Sync
    else None

-- a user or a group is a number below 2^31
abbrev pub owner_of : List ℕ → Option ℤ
owner_of word = option_map pos (up_to 2147483647 (number_of word))

-- a piece has at most 65,536 bytes
abbrev pub length_of : List ℕ → Option ℕ
length_of word = up_to 65536 (number_of word)

-- the first of some words, read in a way, and the words behind it
abbrev pub reads : {A : Type 0} → (List ℕ → Option A) → List (List ℕ) → Option (A × List (List ℕ))
reads f [] = None
reads f (word ∷ words) = option_map (λ a. (a, words)) (f word)

abbrev pub then_ : {A B : Type 0} → Option A → (A → Option B) → Option B
then_ None more = None
then_ (Some a) more = more a

-- no word is left
abbrev pub ended : List (List ℕ) → Command → Option Command
ended [] command = Some command
ended (word ∷ words) command = None

-- a command with one word
abbrev pub of_one : {A : Type 0} → Option (A × List (List ℕ)) → (A → Command) → Option Command
of_one first command = then_ first (λ a. ended a.1 (command a.0))

-- a command with two words
abbrev pub of_two : {A B : Type 0} → Option (A × List (List ℕ)) → (List ℕ → Option B) → (A → B → Command) → Option Command
of_two first second command = then_ first (λ a. of_one (reads second a.1) (command a.0))

-- a command with three words
abbrev pub of_three : {A B C : Type 0} → Option (A × List (List ℕ)) → (List ℕ → Option B) → (List ℕ → Option C) → (A → B → C → Command) → Option Command
of_three first second third command = then_ first (λ a. of_two (reads second a.1) third (command a.0))

-- The command of a verb with the words behind it: `make NODE`, `mkdir NODE`, `link NODE TARGET`, `rm NODE`, `mv NODE NODE`,
-- `ls PATH`, `stat PATH`, `mode PATH OCTAL N N`, `size PATH N`, `readlink PATH`, `attr PATH NAME VALUE`, `getattr PATH NAME`,
-- `rmattr PATH NAME`, `attrs PATH`, `write PATH N BYTES`, `read PATH N N`, `mkindex NAME T`, `rmindex NAME`, `indices`,
-- `find NAME KEY KEY`, `sync`.
abbrev pub command_of : Verb → List (List ℕ) → Option Command
command_of verbs.Make ws = of_one (reads node_of ws) commands.Make
command_of verbs.MakeDir ws = of_one (reads node_of ws) commands.MakeDir
command_of verbs.MakeLink ws = of_two (reads node_of ws) name_of commands.MakeLink
command_of verbs.Remove ws = of_one (reads node_of ws) commands.Remove
command_of verbs.Rename ws = of_two (reads node_of ws) node_of commands.Rename
command_of verbs.List ws = of_one (reads path_of ws) commands.List
command_of verbs.Stat ws = of_one (reads path_of ws) commands.Stat
command_of verbs.SetMode ws = then_ (reads path_of ws) (λ p. of_three (reads octal_of p.1) owner_of owner_of (commands.SetMode p.0))
command_of verbs.SetSize ws = of_two (reads path_of ws) number_of commands.SetSize
command_of verbs.ReadLink ws = of_one (reads path_of ws) commands.ReadLink
command_of verbs.AttrWrite ws = of_three (reads path_of ws) name_of value_of (λ p n v. commands.AttrWrite p n v.0 v.1)
command_of verbs.AttrRead ws = of_two (reads path_of ws) name_of commands.AttrRead
command_of verbs.AttrRemove ws = of_two (reads path_of ws) name_of commands.AttrRemove
command_of verbs.AttrList ws = of_one (reads path_of ws) commands.AttrList
command_of verbs.Write ws = of_three (reads path_of ws) number_of bytes_of commands.Write
command_of verbs.Read ws = of_three (reads path_of ws) number_of length_of commands.Read
command_of verbs.IndexMake ws = of_two (reads name_of ws) kind_of commands.IndexMake
command_of verbs.IndexRemove ws = of_one (reads name_of ws) commands.IndexRemove
command_of verbs.IndexList ws = ended ws commands.IndexList
command_of verbs.IndexFind ws = of_three (reads name_of ws) key_of key_of commands.IndexFind
command_of verbs.Sync ws = ended ws commands.Sync

-- a session, a command, and its words
abbrev pub spoken : List (List ℕ) → Option (ℕ × Command)
spoken ws = then_ (reads session_of ws) (λ s. then_ (reads verb_of s.1) (λ v. option_map (λ c. (s.0, c)) (command_of v.0 v.1)))

-- What a line says: nothing where it is empty or begins with `#`, else a session's command. A line that isn't in the grammar
-- has no value. No word reads an empty one, so two spaces, or a space at an end, are outside the grammar.
abbrev pub said : List ℕ → Option (Option (ℕ × Command))
said line =
    if (length line == 0) || begins_with 35 line then Some None
    else option_map Some (spoken (words_of line))

-- whether a line says nothing, a command, or isn't in the grammar
abbrev pub line_kind : Option (Option (ℕ × Command)) → LineKind
line_kind None = kinds.Bad
line_kind (Some None) = kinds.Blank
line_kind (Some (Some x)) = kinds.Command
