use Rattle.std.proofs.Common.{◌≡◌, ◌∙◌, ℕ, List, sym, ap, subst, min, []}
use Rattle.bfs_super.specs.Geometry.{geometry_of}
use Rattle.bfs_sound.specs.Owners.{has_no_stream}
use Rattle.bfs_shift.specs.Shifts.{volume_in}
use Rattle.bfs_shift.proofs.AtWork.{inode_told}
use Rattle.bfs_leave.proofs.Owned.{alone_is}
use Rattle.bfs_unmake.specs.Whole.{stream_inodes}
use Rattle.bfs_unmake.proofs.Gone.{node_bears, node_reads, node_loosened}
use Rattle.bfs_unmake.specs.Counted.{HaveStreams, streams_among}
use Rattle.bfs_remove_node.proofs.Lengths.{have_streams, owners_among}
use Rattle.bfs_remove_node.proofs.streams.node_streams.Goals as goal

pub stream_inodes-requires-clause-readable : goal.stream_inodes-requires-clause-readable
stream_inodes-requires-clause-readable g c m told =
    let p = c.requires.node m (sym c.in-Ok.ensures.told ∙ told) in
    let h = p.1 in
    node_reads c.args.site.sup p.0 m h.tree h.lists [] c.args.id h.node c.requires.valid h.ready.work h.there

pub returns-in-Ok-streams_length-clause-counted : goal.returns-in-Ok-streams_length-clause-counted
returns-in-Ok-streams_length-clause-counted g c m v tree lists n told ready is =
    let s = c.args.site.sup in
    let id = c.args.id in
    let t = c.in-Ok.alone in
    let work = ready.work in
    let was = volume_in (geometry_of s) m in
    let alone : has_no_stream was (id, n) ≡ t = sym (alone_is was id n (work.stocked.nodes id n is)) ∙ sym (c.in-Ok.ensures.alone m told (inode_told s v m tree lists [] id n work is)) in
    let same : c.deref.result.now ≡ stream_inodes was id t = c.deref.ensures.value ∙ c.in-Ok-stream_inodes.ensures.found m (c.in-Ok.ensures.told ∙ told) (node_bears s v m tree lists [] id n c.requires.valid work is) in
    let streams : HaveStreams (geometry_of s) m c.deref.result.now = subst (HaveStreams (geometry_of s) m) (sym same) (have_streams (geometry_of s) m (stream_inodes was id t) (node_loosened s v m tree lists [] id n c.requires.valid work is t alone)) in
    c.in-Ok-streams_length.ensures.counted m (c.in-Ok-stream_inodes.ensures.told ∙ c.in-Ok.ensures.told ∙ told) streams
    ∙ ap (λ (l : List ℕ). min (streams_among was l) c.args.most) same
    ∙ ap (λ (k : ℕ). min k c.args.most) (sym (owners_among was id n t alone))

pub returns-in-Err-stream_inodes-clause-counted : goal.returns-in-Err-stream_inodes-clause-counted
returns-in-Err-stream_inodes-clause-counted g c m v tree lists n told ready is =
    c.in-Err-stream_inodes.ensures.found m (c.in-Ok.ensures.told ∙ told) (node_bears c.args.site.sup v m tree lists [] c.args.id n c.requires.valid ready.work is)

pub returns-clause-counted : goal.returns-clause-counted
returns-clause-counted g c m v tree lists n told ready is =
    let s = c.args.site.sup in
    let id = c.args.id in
    let t = c.in-Ok.alone in
    let work = ready.work in
    let was = volume_in (geometry_of s) m in
    let alone : has_no_stream was (id, n) ≡ t = sym (alone_is was id n (work.stocked.nodes id n is)) ∙ sym (c.in-Ok.ensures.alone m told (inode_told s v m tree lists [] id n work is)) in
    let same : c.deref.result.now ≡ stream_inodes was id t = c.deref.ensures.value ∙ c.in-Ok-stream_inodes.ensures.found m (c.in-Ok.ensures.told ∙ told) (node_bears s v m tree lists [] id n c.requires.valid work is) in
    let streams : HaveStreams (geometry_of s) m c.deref.result.now = subst (HaveStreams (geometry_of s) m) (sym same) (have_streams (geometry_of s) m (stream_inodes was id t) (node_loosened s v m tree lists [] id n c.requires.valid work is t alone)) in
    c.in-Err-streams_length.ensures.counted m (c.in-Ok-stream_inodes.ensures.told ∙ c.in-Ok.ensures.told ∙ told) streams
