use Rattle.std.proofs.Common.{subst}
use Rattle.bfs_stream.specs.Grown.{IsOfVolume}
use Rattle.bfs_stream.specs.Sizes.{sizes_of}
use Rattle.bfs_shift.proofs.Basics.{most_bytes}
use Rattle.bfs_replies.specs.Books.{SpaceBooks}
use Rattle.bfs_space.proofs.space.Space.block_size.Goals as goal

pub returns-clause-small : goal.returns-clause-small
returns-clause-small c = most_bytes c.self.inside.sup c.self.invariant.0.valid

pub returns-clause-volume : goal.returns-clause-volume
returns-clause-volume c = subst (λ (b : SpaceBooks). IsOfVolume (sizes_of b.view.sup) b.room) c.self.view_is c.self.invariant.0.volume
