use Rattle.std.proofs.Common.{◌≡◌, ◌∙◌, [], ℕ, List, min, sym, ap, subst}
use Rattle.bfs_super.specs.Geometry.{geometry_of}
use Rattle.bfs_shift.specs.Shifts.{volume_in}
use Rattle.bfs_query.proofs.Bearing.{bears, can_read}
use Rattle.bfs_unmake.specs.Allowances.{inodes_left}
use Rattle.bfs_unmake.specs.Counted.{HaveStreams, streams_among}
use Rattle.bfs_unmake.proofs.Streams.{with_all}
use Rattle.bfs_attr_calls.proofs.Leaves.{left_streams}
use Rattle.bfs_attr_calls.proofs.allowance.blocks_left.Goals as goal

pub inodes_left-requires-clause-readable : goal.inodes_left-requires-clause-readable
inodes_left-requires-clause-readable g c m told =
    let h = c.requires.ready m told in
    let there = c.requires.there m h.tree h.lists told h.ready in
    can_read c.args.site.sup c.args.bitmap.now m h.tree h.lists [] c.args.id there.0 c.requires.valid h.ready.work there.1

pub returns-in-Err-clause-counted : goal.returns-in-Err-clause-counted
returns-in-Err-clause-counted g c m tree lists told ready =
    let there = c.requires.there m tree lists told ready in
    c.in-Err.ensures.found m told (bears c.args.site.sup c.args.bitmap.now m tree lists [] c.args.id there.0 c.requires.valid ready.work there.1)

pub returns-in-Ok-streams_length-clause-counted : goal.returns-in-Ok-streams_length-clause-counted
returns-in-Ok-streams_length-clause-counted g c m tree lists told ready =
    let s = c.args.site.sup in
    let v = c.args.bitmap.now in
    let id = c.args.id in
    let name = c.args.name.now in
    let there = c.requires.there m tree lists told ready in
    let was = volume_in (geometry_of s) m in
    let same : c.deref.result.now ≡ inodes_left was id name = c.deref.ensures.value ∙ c.in-Ok.ensures.found m told (bears s v m tree lists [] id there.0 c.requires.valid ready.work there.1) in
    let streams : HaveStreams (geometry_of s) m c.deref.result.now = subst (HaveStreams (geometry_of s) m) (sym same) (left_streams s v m tree lists [] id there.0 c.requires.valid ready.work there.1 name) in
    c.in-Ok-streams_length.ensures.counted m (c.in-Ok.ensures.told ∙ told) streams
    ∙ ap (λ (l : List ℕ). min (streams_among was l) c.args.most) same
    ∙ ap (λ (k : ℕ). min k c.args.most) (sym (with_all was (inodes_left was id name)))

pub returns-clause-counted : goal.returns-clause-counted
returns-clause-counted g c m tree lists told ready =
    let s = c.args.site.sup in
    let v = c.args.bitmap.now in
    let id = c.args.id in
    let name = c.args.name.now in
    let there = c.requires.there m tree lists told ready in
    let was = volume_in (geometry_of s) m in
    let same : c.deref.result.now ≡ inodes_left was id name = c.deref.ensures.value ∙ c.in-Ok.ensures.found m told (bears s v m tree lists [] id there.0 c.requires.valid ready.work there.1) in
    let streams : HaveStreams (geometry_of s) m c.deref.result.now = subst (HaveStreams (geometry_of s) m) (sym same) (left_streams s v m tree lists [] id there.0 c.requires.valid ready.work there.1 name) in
    c.in-Err-streams_length.ensures.counted m (c.in-Ok.ensures.told ∙ told) streams
