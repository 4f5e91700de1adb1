use Rattle.std.proofs.Common.{[], ◌∷◌, ◌++◌, subst}
use Rattle.bfs_super.specs.Geometry.{geometry_of}
use Rattle.bfs_stream.specs.Sizes.{sizes_of}
use Rattle.bfs_shift.specs.Lists.{Lists, with_pairs}
use Rattle.bfs_shift.specs.Work.{IsStepped}
use Rattle.bfs_calls.proofs.Faulting.{pair_unanswered}
use Rattle.bfs_index_check.specs.Compared.{pair_of}
use Rattle.bfs_index_make.proofs.NextPairs.{pairs_again, one_more}
use Rattle.bfs_index_make.proofs.filling.list_next.Goals as goal

pub returns-in-Ok-clause-listed : goal.returns-in-Ok-clause-listed
returns-in-Ok-clause-listed g c m tree lists name front told work row kind_is new =
    let v = c.args.bitmap.now in
    let now = c.list_pair.new.bitmap in
    let pair = c.args.pair.now in
    let pairs = front ++ (pair_of pair ∷ []) in
    subst (λ (l : Lists). IsStepped (geometry_of c.args.sup.now) v now m tree tree l [] (g.E.Blocks.told c.list_pair.new.edits) (g.E.Blocks.changed c.args.edits.now) (g.E.Blocks.changed c.list_pair.new.edits)) (pairs_again lists name front pairs)
    (c.in-Ok.ensures.listed m tree (with_pairs lists name front) [] name pairs told work row kind_is new.sorted (one_more lists name front pair.key pair.id c.as_slice.result.now c.as_slice.ensures))

pub returns-in-Err-clause-unanswered : goal.returns-in-Err-clause-unanswered
returns-in-Err-clause-unanswered g c m tree lists name front told work row kind_is new =
    pair_unanswered (record { id = c.args.inode; sizes = sizes_of c.args.sup.now }) c.args.bitmap.now m c.in-Err.fault (c.in-Err.ensures.refused m tree (with_pairs lists name front) [] name told work row kind_is)
