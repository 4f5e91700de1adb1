-- From what `clap` finds to what the words ask for.
use Rattle.std.proofs.Common.{◌≡◌, ◌⊎◌, ⊎_elim, List, [], true, Option, refl, sym, subst}
use Rattle.clap.specs.Walk.{Row, Text}
use Rattle.clap.specs.Simple.{is_simple, subcommand_of}
use Rattle.clap.specs.Faults.{fault_of, is_simple_and_free}
use Rattle.clap.specs.Kinds.{Kinds, IsAmong}
use Rattle.clap.specs.declared.error.ErrorKind.{ErrorKind}
use Rattle.clap.proofs.OnLiterals.{clap_on_literals}
use Rattle.bfs_words.specs.Line.{bfs_line}
use Rattle.bfs_words.specs.Words.{FindsLabel, FindsVolume, FindsCheck, FindsShell, FindsSoak, Means, Asks, IsFaulty}
use Rattle.bfs_words.specs.declared.command.Command.{Command}
use Rattle.bfs_words.specs.declared.command.Command.TheVariants as commands

-- `clap` says of this command exactly what it finds, and where it refuses
pub is_exact : is_simple_and_free bfs_line ≡ true
unfolding clap_on_literals
is_exact = refl

pub is_plain : is_simple bfs_line ≡ true
unfolding clap_on_literals
is_plain = refl

pub asks : (words : List Text) (found : Option (Text × List Row)) (command : Command) → ¬ (words ≡ []) → fault_of bfs_line words ≡ [] → found ≡ subcommand_of bfs_line words → Means found command → Asks words command
asks words found commands.Usage some fine is means = absurd means
asks words found (commands.Label name) some fine is means = (fine, subst (λ f. FindsLabel f name.now) is means)
asks words found (commands.Make volume) some fine is means = (fine, subst (λ f. FindsVolume f volume.blocks volume.block_size volume.label.now) is means)
asks words found commands.Check some fine is means = (fine, subst FindsCheck is means)
asks words found commands.Shell some fine is means = (fine, subst FindsShell is means)
asks words found (commands.Soak workload) some fine is means = (fine, subst (λ f. FindsSoak f workload.seed workload.count) is means)
asks words found (commands.Faulty complaint) some fine is means = record {
  some = some;
  no_label = λ name label. means.0 name (subst (λ f. FindsLabel f name) (sym is) label.1);
  no_volume = λ blocks size label volume. means.1 blocks size label (subst (λ f. FindsVolume f blocks size label) (sym is) volume.1);
  no_check = λ check. means.2 (subst FindsCheck (sym is) check.1);
  no_shell = λ shell. means.3 (subst FindsShell (sym is) shell.1);
  no_soak = λ seed count soak. means.4 seed count (subst (λ f. FindsSoak f seed count) (sym is) soak.1);
}

none_among : (kind : ErrorKind) (kinds : Kinds) → kinds ≡ [] → IsAmong kind kinds → ⊥
none_among kind kinds none among = subst (IsAmong kind) none among

-- an error of `clap` that isn't want of memory
pub refused : (words : List Text) (kind memory : ErrorKind) → ¬ (words ≡ []) → ¬ (kind ≡ memory) → (kind ≡ memory) ⊎ IsAmong kind (fault_of bfs_line words) → IsFaulty words
refused words kind memory some other cause = record {
  some = some;
  no_label = λ name label. ⊎_elim other (none_among kind (fault_of bfs_line words) label.0) cause;
  no_volume = λ blocks size label volume. ⊎_elim other (none_among kind (fault_of bfs_line words) volume.0) cause;
  no_check = λ check. ⊎_elim other (none_among kind (fault_of bfs_line words) check.0) cause;
  no_shell = λ shell. ⊎_elim other (none_among kind (fault_of bfs_line words) shell.0) cause;
  no_soak = λ seed count soak. ⊎_elim other (none_among kind (fault_of bfs_line words) soak.0) cause;
}
