-- Words are a command where they have its shape.
use Rattle.std.proofs.Common.{◌≡◌, ◌<◌, ℕ, List, [], ◌∷◌, length, drop, ap, refl, ◌∙◌, Bool, false, ◌&&◌, Option, Some, None}
use Rattle.std.specs.Option.{is_some, option_map}
use Rattle.std.proofs.lemmas.List.{drop_more}
use Rattle.bfs_text.specs.Words.{number_of, octal_of, name_of, path_of, node_of, bytes_of, value_of, key_of, kind_of}
use Rattle.bfs_command.specs.declared.command.Command.{Command}
use Rattle.bfs_command.specs.declared.command.Command.TheVariants as commands
use Rattle.bfs_command.specs.declared.verbs.Verb.{Verb}
use Rattle.bfs_command.specs.declared.verbs.Verb.TheVariants as verbs
use Rattle.bfs_command.specs.declared.shapes.WordKind.{WordKind}
use Rattle.bfs_command.specs.declared.shapes.WordKind.TheVariants as kinds
use Rattle.bfs_command.specs.Grammar.{owner_of, length_of, reads, then_, ended, of_one, of_two, of_three, command_of}
use Rattle.bfs_command.specs.Shapes.{is_word, are_words, shape_of}

ended_fits : (c : Command) (ws : List (List ℕ)) → is_some (ended ws c) ≡ are_words [] ws
ended_fits c [] = refl
ended_fits c (w ∷ ws) = refl

module _ {A : Type 0} (f : List ℕ → Option A) (kind : WordKind) (is : (w : List ℕ) → is_some (f w) ≡ is_word kind w) where
  then_fits : (rest : List WordKind) (more : A × List (List ℕ) → Option Command) → ((a : A) (ws : List (List ℕ)) → is_some (more (a, ws)) ≡ are_words rest ws) → (ws : List (List ℕ)) → is_some (then_ (reads f ws) more) ≡ are_words (kind ∷ rest) ws
  then_fits rest more fits [] = refl
  then_fits rest more fits (w ∷ ws) = by_value (f w) ∙ ap (λ (t : Bool). t && are_words rest ws) (is w)
    where
      by_value : (o : Option A) → is_some (then_ (option_map (λ a. (a, ws)) o) more) ≡ (is_some o && are_words rest ws)
      by_value None = refl
      by_value (Some a) = fits a ws

  one_fits : (command : A → Command) (ws : List (List ℕ)) → is_some (of_one (reads f ws) command) ≡ are_words (kind ∷ []) ws
  one_fits command ws = then_fits [] (λ a. ended a.1 (command a.0)) (λ a us. ended_fits (command a) us) ws

module _ {A B : Type 0} (f : List ℕ → Option A) (kind : WordKind) (is : (w : List ℕ) → is_some (f w) ≡ is_word kind w) (g : List ℕ → Option B) (second : WordKind) (is_second : (w : List ℕ) → is_some (g w) ≡ is_word second w) where
  two_fits : (command : A → B → Command) (ws : List (List ℕ)) → is_some (of_two (reads f ws) g command) ≡ are_words (kind ∷ second ∷ []) ws
  two_fits command ws = then_fits f kind is (second ∷ []) (λ a. of_one (reads g a.1) (command a.0)) (λ a us. one_fits g second is_second (command a) us) ws

module _ {A B C : Type 0} (f : List ℕ → Option A) (kind : WordKind) (is : (w : List ℕ) → is_some (f w) ≡ is_word kind w) (g : List ℕ → Option B) (second : WordKind) (is_second : (w : List ℕ) → is_some (g w) ≡ is_word second w)
    (h : List ℕ → Option C) (third : WordKind) (is_third : (w : List ℕ) → is_some (h w) ≡ is_word third w) where
  three_fits : (command : A → B → C → Command) (ws : List (List ℕ)) → is_some (of_three (reads f ws) g h command) ≡ are_words (kind ∷ second ∷ third ∷ []) ws
  three_fits command ws = then_fits f kind is (second ∷ third ∷ []) (λ a. of_two (reads g a.1) h (command a.0)) (λ a us. two_fits g second is_second h third is_third (command a) us) ws

pub command_fits : (v : Verb) (ws : List (List ℕ)) → is_some (command_of v ws) ≡ are_words (shape_of v) ws
command_fits verbs.Make ws = one_fits node_of kinds.Node (λ w. refl) commands.Make ws
command_fits verbs.MakeDir ws = one_fits node_of kinds.Node (λ w. refl) commands.MakeDir ws
command_fits verbs.MakeLink ws = two_fits node_of kinds.Node (λ w. refl) name_of kinds.Name (λ w. refl) commands.MakeLink ws
command_fits verbs.Remove ws = one_fits node_of kinds.Node (λ w. refl) commands.Remove ws
command_fits verbs.Rename ws = two_fits node_of kinds.Node (λ w. refl) node_of kinds.Node (λ w. refl) commands.Rename ws
command_fits verbs.List ws = one_fits path_of kinds.Path (λ w. refl) commands.List ws
command_fits verbs.Stat ws = one_fits path_of kinds.Path (λ w. refl) commands.Stat ws
command_fits verbs.SetMode ws =
    then_fits path_of kinds.Path (λ w. refl) (kinds.Octal ∷ kinds.Owner ∷ kinds.Owner ∷ []) (λ p. of_three (reads octal_of p.1) owner_of owner_of (commands.SetMode p.0))
    (λ a us. three_fits octal_of kinds.Octal (λ w. refl) owner_of kinds.Owner (λ w. refl) owner_of kinds.Owner (λ w. refl) (commands.SetMode a) us) ws
command_fits verbs.SetSize ws = two_fits path_of kinds.Path (λ w. refl) number_of kinds.Number (λ w. refl) commands.SetSize ws
command_fits verbs.ReadLink ws = one_fits path_of kinds.Path (λ w. refl) commands.ReadLink ws
command_fits verbs.AttrWrite ws = three_fits path_of kinds.Path (λ w. refl) name_of kinds.Name (λ w. refl) value_of kinds.Value (λ w. refl) (λ p n v. commands.AttrWrite p n v.0 v.1) ws
command_fits verbs.AttrRead ws = two_fits path_of kinds.Path (λ w. refl) name_of kinds.Name (λ w. refl) commands.AttrRead ws
command_fits verbs.AttrRemove ws = two_fits path_of kinds.Path (λ w. refl) name_of kinds.Name (λ w. refl) commands.AttrRemove ws
command_fits verbs.AttrList ws = one_fits path_of kinds.Path (λ w. refl) commands.AttrList ws
command_fits verbs.Write ws = three_fits path_of kinds.Path (λ w. refl) number_of kinds.Number (λ w. refl) bytes_of kinds.Bytes (λ w. refl) commands.Write ws
command_fits verbs.Read ws = three_fits path_of kinds.Path (λ w. refl) number_of kinds.Number (λ w. refl) length_of kinds.Length (λ w. refl) commands.Read ws
command_fits verbs.IndexMake ws = two_fits name_of kinds.Name (λ w. refl) kind_of kinds.Index (λ w. refl) commands.IndexMake ws
command_fits verbs.IndexRemove ws = one_fits name_of kinds.Name (λ w. refl) commands.IndexRemove ws
command_fits verbs.IndexList ws = ended_fits commands.IndexList ws
command_fits verbs.IndexFind ws = three_fits name_of kinds.Name (λ w. refl) key_of kinds.Key (λ w. refl) key_of kinds.Key (λ w. refl) commands.IndexFind ws
command_fits verbs.Sync ws = ended_fits commands.Sync ws

pub none_left : (shape : List WordKind) (at : ℕ) → at < length shape → are_words (drop at shape) [] ≡ false
none_left shape at lt = ap (λ (l : List WordKind). are_words l []) (drop_more shape at kinds.Path lt)
