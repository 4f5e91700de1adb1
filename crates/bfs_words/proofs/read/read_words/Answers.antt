use Rattle.std.proofs.Common.{◌≡◌, ◌∙◌, ◌⊎◌, [], map, ap, ap₂, sym, subst, rules}
use Rattle.std.proofs.lemmas.List.{map-id}
use Rattle.clap.specs.Walk.{Text}
use Rattle.clap.specs.Values.{kind_of}
use Rattle.clap.specs.Simple.{app_of, is_simple, subcommand_of}
use Rattle.clap.specs.Faults.{fault_of, is_simple_and_free}
use Rattle.clap.specs.Kinds.{IsAmong}
use Rattle.clap.specs.declared.error.ErrorKind.TheVariants.{OutOfMemory}
use Rattle.bfs_words.specs.Line.{bfs_line}
use Rattle.bfs_words.proofs.Found.{asks, refused, is_exact, is_plain}
use Rattle.bfs_words.proofs.read.read_words.Goals as goal

pub returns-in-Ok : goal.returns-in-Ok
returns-in-Ok c =
    let words = c.args.words.now in
    let line : app_of c.in_ok-command_line.field-0 ≡ bfs_line = c.in_ok-command_line.ensures in
    let same : map (λ (w : Text). w) words ≡ words = map-id words in
    let some : ¬ (words ≡ []) = search rules in
    let fine = sym (ap₂ fault_of line same) ∙ c.in-Ok.ensures.kinds (ap is_simple_and_free line ∙ is_exact) in
    let found = (c.in-Ok.ensures.matches (ap is_simple line ∙ is_plain)).1 ∙ ap₂ subcommand_of line same in
    asks words _ c.read_found.result some fine found c.read_found.ensures

pub returns : goal.returns
returns c =
    let words = c.args.words.now in
    let line : app_of c.in_ok-command_line.field-0 ≡ bfs_line = c.in_ok-command_line.ensures in
    let same : map (λ (w : Text). w) words ≡ words = map-id words in
    let some : ¬ (words ≡ []) = search rules in
    let other : ¬ (kind_of c.in-Err.error ≡ OutOfMemory) = search rules in
    let cause = c.in-Err.ensures.kinds (ap is_simple_and_free line ∙ is_exact) in
    refused words (kind_of c.in-Err.error) OutOfMemory some other (subst (λ ks. (kind_of c.in-Err.error ≡ OutOfMemory) ⊎ IsAmong (kind_of c.in-Err.error) ks) (ap₂ fault_of line same) cause)
