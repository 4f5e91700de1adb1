use Rattle.std.proofs.Common.{ℕ, List, Option, Bool, sym, subst}
use Rattle.std.specs.List.Sorted.{IsStrictlySortedBy}
use Rattle.bfs_base.specs.declared.kind.KeyKind.{KeyKind}
use Rattle.bfs_super.specs.Geometry.{geometry_of}
use Rattle.bfs_stream.specs.Sizes.{Origin, sizes_of}
use Rattle.bfs_stream_pages.specs.Held.{stream_of}
use Rattle.bfs_tree.specs.Listings.{pair_cmp}
use Rattle.bfs_index.specs.Indices.{IsIndex, HasWithout}
use Rattle.bfs_shift.specs.Lists.{with_pairs}
use Rattle.bfs_shift.specs.Work.{IsStepped}
use Rattle.bfs_moves.specs.Written.{HasStreamSince}
use Rattle.bfs_moves.proofs.Listed.{undone_pair, index_held, index_is, unlisted_step}
use Rattle.bfs_moves.proofs.Named.{still_there}
use Rattle.bfs_moves.proofs.pairs.unlist_pair.Goals as goal

pub take_pair-requires-clause-stream : goal.take_pair-requires-clause-stream
take_pair-requires-clause-stream g c m told =
    let h = c.requires.index m told in
    index_held c.args.sup.now c.args.bitmap.now m h.tree h.lists h.loose c.args.inode h.name c.requires.valid h.work h.row

pub returns-in-Err-clause-refused : goal.returns-in-Err-clause-refused
returns-in-Err-clause-refused g c m tree lists loose name told work row kind_is =
    let o : Origin = record { id = c.args.inode; sizes = sizes_of c.args.sup.now } in
    c.in-Err.ensures.refused m told (subst (λ (k : KeyKind). IsIndex (record { origin = o; kind = k }) c.args.bitmap.now m) kind_is (index_is c.args.sup.now c.args.bitmap.now m tree lists loose c.args.inode name c.requires.valid work row))

pub returns-in-Ok-check_inode-clause-unlisted : goal.returns-in-Ok-check_inode-clause-unlisted
returns-in-Ok-check_inode-clause-unlisted g c m tree lists loose name pairs told work row kind_is sorted has =
    let s = c.args.sup.now in
    let v = c.args.bitmap.now in
    let now = c.take_pair.new.bitmap in
    let o : Origin = record { id = c.args.inode; sizes = sizes_of s } in
    let old = g.E.Blocks.changed c.args.edits.now in
    let told_now = g.E.Blocks.told c.take_pair.new.edits in
    let changed_now = g.E.Blocks.changed c.take_pair.new.edits in
    let got = c.in-Ok.ensures.taken m told (subst (λ (k : KeyKind). IsIndex (record { origin = o; kind = k }) v m) kind_is (index_is s v m tree lists loose c.args.inode name c.requires.valid work row)) in
    let written : HasStreamSince o v now m (HasWithout (lists.kinds name) (stream_of o m) c.args.key.now c.args.id) told_now old changed_now =
    subst (λ (k : KeyKind). HasStreamSince o v now m (HasWithout k (stream_of o m) c.args.key.now c.args.id) told_now old changed_now) (sym kind_is) got in
    let map = written.since.map in
    let words = c.in-Ok-check_inode.ensures.words map written.since.is (still_there s m c.args.inode v now (HasWithout (lists.kinds name) (stream_of o m) c.args.key.now c.args.id) told_now old changed_now written) in
    let step = unlisted_step s v m tree lists loose c.args.inode name c.requires.valid work row now c.args.key.now c.args.id pairs told_now old changed_now (subst (λ (k : KeyKind). IsStrictlySortedBy (pair_cmp k) pairs) (sym kind_is) sorted) written words has in
    subst (λ (t : Option (ℕ → Option (List ℕ))). IsStepped (geometry_of s) v now m tree tree (with_pairs lists name pairs) loose t old (g.E.Blocks.changed c.check_inode.new.under)) (sym c.check_inode.ensures.told)
    (subst (λ (after : ℕ → Bool). IsStepped (geometry_of s) v now m tree tree (with_pairs lists name pairs) loose told_now old after) (sym c.check_inode.ensures.changed) step)

pub returns-in-Err-check_inode-clause-refused : goal.returns-in-Err-check_inode-clause-refused
returns-in-Err-check_inode-clause-refused g c m tree lists loose name told work row kind_is = c.in-Err-check_inode.ensures.undone
