use Rattle.std.proofs.Common.{◌≡◌, ◌∙◌, ap}
use Rattle.bfs_base.specs.Lists.{times}
use Rattle.bfs_space.specs.Books.{SpaceBooks, without}
use Rattle.bfs_space.proofs.Stamps.{none_without}
use Rattle.bfs_space_tests.proofs.space_tests.takes_hold.Goals as goal

pub hold-requires-clause-unpromised : goal.hold-requires-clause-unpromised
hold-requires-clause-unpromised c =
    let is : c.unpromise.new.self.promised ≡ without c.args.session c.args.mount.now.space.promised = ap (λ (b : SpaceBooks). b.promised) c.unpromise.ensures in
    ap (times c.args.session) is ∙ none_without c.args.session c.args.mount.now.space.promised
