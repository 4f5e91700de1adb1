use Rattle.std.proofs.Common.{◌≡◌, ◌∙◌, ◌++◌, ◌∷◌, [], ℕ, List, ap, sym, subst}
use Rattle.bfs_base.specs.Lists.{times, Has}
use Rattle.bfs_space.specs.Books.{SpaceBooks, without}
use Rattle.bfs_space.proofs.Stamps.{has_last, none_without}
use Rattle.bfs_space_tests.proofs.space_tests.notes_done.Goals as goal

pub promise-requires : goal.promise-requires
promise-requires c =
    let is : c.unpromise.new.self.promised ≡ without 2 c.args.space.now.promised = ap (λ (b : SpaceBooks). b.promised) c.unpromise.ensures in
    record { none = ap (times 2) is ∙ none_without 2 c.args.space.now.promised }

pub note-requires-clause-promised : goal.note-requires-clause-promised
note-requires-clause-promised c =
    let is : c.promise.new.self.promised ≡ c.unpromise.new.self.promised ++ 2 ∷ [] = ap (λ (b : SpaceBooks). b.promised) c.in_ok-promise.ensures.ok in
    subst (λ (l : List ℕ). Has l 2) (sym is) (has_last 2 c.unpromise.new.self.promised)
