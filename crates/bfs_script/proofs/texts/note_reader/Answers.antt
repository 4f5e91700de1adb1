use Rattle.std.proofs.Common.{◌≡◌, ◌++◌, ◌∷◌, [], rules, ap, ◌∙◌, sym, Bool, true, false, ℕ, List, if◌then◌else◌, ◌==◌}
use Rattle.bfs_script.specs.Readers.{reads_in, without}
use Rattle.bfs_script.proofs.Noted.{noted_gone, noted_there}
use Rattle.bfs_script.proofs.texts.note_reader.Goals as goal

pub returns-in_ok-push : goal.returns-in_ok-push
returns-in_ok-push c = λ s.
    let old = c.args.readers.now.items in
    let session = c.args.session in
    let items : c.push.new.self.items ≡ without session old ++ session ∷ [] = search rules in
    let reads : c.args.reads ≡ true = search rules in
    ap (λ (l : List ℕ). reads_in l s) items ∙ noted_there session s old ∙ ap (λ (b : Bool). if s == session then b else reads_in old s) (sym reads)

pub returns-else-reads : goal.returns-else-reads
returns-else-reads c = λ s.
    let old = c.args.readers.now.items in
    let session = c.args.session in
    let reads : c.args.reads ≡ false = search rules in
    ap (λ (l : List ℕ). reads_in l s) c.drop_reader.ensures ∙ noted_gone session s old ∙ ap (λ (b : Bool). if s == session then b else reads_in old s) (sym reads)
