-- Which words stand behind a verb, and whether words are these.
use Rattle.std.specs.Prelude.{ℕ, List, [], ◌∷◌, Bool, true, false, ◌&&◌}
use Rattle.std.specs.Option.{is_some}
use Rattle.bfs_text.specs.Words.{number_of, octal_of, name_of, path_of, node_of, bytes_of, value_of, key_of, kind_of}
use Rattle.bfs_command.specs.declared.verbs.Verb.{Verb}
use Rattle.bfs_command.specs.declared.verbs.Verb.TheVariants as verbs
use Rattle.bfs_command.specs.declared.shapes.WordKind.{WordKind}
use Rattle.bfs_command.specs.declared.shapes.WordKind.TheVariants as kinds
use Rattle.bfs_command.specs.Grammar.{owner_of, length_of}

abbrev pub is_word : WordKind → List ℕ → Bool
is_word kinds.Path word = is_some (path_of word)
is_word kinds.Node word = is_some (node_of word)
is_word kinds.Name word = is_some (name_of word)
is_word kinds.Octal word = is_some (octal_of word)
is_word kinds.Owner word = is_some (owner_of word)
is_word kinds.Number word = is_some (number_of word)
is_word kinds.Length word = is_some (length_of word)
is_word kinds.Bytes word = is_some (bytes_of word)
is_word kinds.Value word = is_some (value_of word)
is_word kinds.Key word = is_some (key_of word)
is_word kinds.Index word = is_some (kind_of word)

-- the words are of these kinds, one by one, and no more
abbrev pub are_words : List WordKind → List (List ℕ) → Bool
are_words [] [] = true
are_words [] (word ∷ words) = false
are_words (kind ∷ rest) [] = false
are_words (kind ∷ rest) (word ∷ words) = is_word kind word && are_words rest words

abbrev pub shape_of : Verb → List WordKind
shape_of verbs.Make = kinds.Node ∷ []
shape_of verbs.MakeDir = kinds.Node ∷ []
shape_of verbs.MakeLink = kinds.Node ∷ kinds.Name ∷ []
shape_of verbs.Remove = kinds.Node ∷ []
shape_of verbs.Rename = kinds.Node ∷ kinds.Node ∷ []
shape_of verbs.List = kinds.Path ∷ []
shape_of verbs.Stat = kinds.Path ∷ []
shape_of verbs.SetMode = kinds.Path ∷ kinds.Octal ∷ kinds.Owner ∷ kinds.Owner ∷ []
shape_of verbs.SetSize = kinds.Path ∷ kinds.Number ∷ []
shape_of verbs.ReadLink = kinds.Path ∷ []
shape_of verbs.AttrWrite = kinds.Path ∷ kinds.Name ∷ kinds.Value ∷ []
shape_of verbs.AttrRead = kinds.Path ∷ kinds.Name ∷ []
shape_of verbs.AttrRemove = kinds.Path ∷ kinds.Name ∷ []
shape_of verbs.AttrList = kinds.Path ∷ []
shape_of verbs.Write = kinds.Path ∷ kinds.Number ∷ kinds.Bytes ∷ []
shape_of verbs.Read = kinds.Path ∷ kinds.Number ∷ kinds.Length ∷ []
shape_of verbs.IndexMake = kinds.Name ∷ kinds.Index ∷ []
shape_of verbs.IndexRemove = kinds.Name ∷ []
shape_of verbs.IndexList = []
shape_of verbs.IndexFind = kinds.Name ∷ kinds.Key ∷ kinds.Key ∷ []
shape_of verbs.Sync = []
