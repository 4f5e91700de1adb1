use Rattle.std.proofs.Common.{◌≡◌, ◌∙◌, ◌++◌, ◌∷◌, [], ℕ, List, ap, sym, subst}
use Rattle.bfs_base.specs.Lists.{times, Has}
use Rattle.bfs_space.specs.Books.{SpaceBooks, without}
use Rattle.bfs_space.proofs.Stamps.{has_last, none_without}
use Rattle.bfs_space_tests.proofs.space_tests.notes.Goals as goal

pub note-requires-clause-promised : goal.note-requires-clause-promised
note-requires-clause-promised c =
    let is : c.promise.new.self.promised ≡ c.args.space.now.promised ++ 1 ∷ [] = ap (λ (b : SpaceBooks). b.promised) c.in_ok-promise.ensures.ok in
    subst (λ (l : List ℕ). Has l 1) (sym is) (has_last 1 c.args.space.now.promised)

pub returns : goal.returns
returns c =
    let is : c.note.new.self.promised ≡ without 1 c.promise.new.self.promised = ap (λ (b : SpaceBooks). b.promised) c.note.ensures in
    record { none = ap (times 1) is ∙ none_without 1 c.promise.new.self.promised }
