use Rattle.std.proofs.Common.{◌≡◌, ◌∙◌, ℕ, sym, subst}
use Rattle.bfs_stream.specs.Sizes.{Origin}
use Rattle.bfs_stream_pages.specs.Held.{IsReadable}
use Rattle.bfs_stream_pages.specs.GoesLaws.{sized_of}
use Rattle.bfs_maps.specs.Mapped.{origin_of}
use Rattle.bfs_maps.proofs.Sized.{size_here, same_size, unsized_whole}
use Rattle.bfs_stream_pages.proofs.Keeping.{lent}
use Rattle.bfs_maps.proofs.reading.number_at.Goals as goal

pub returns-in-Err-clause-found : goal.returns-in-Err-clause-found
returns-in-Err-clause-found g c m told tree =
    let o : Origin = origin_of c.args.tree in
    let r = c.requires.stream m told in
    unsized_whole o r.0 m c.in-Err.fault r.1 (sized_of o.sizes.block_size (g.B.Blocks.size c.args.under.now) (g.B.Blocks.told c.args.under.now) m c.requires.size told (g.met.B.Blocks.sized c.args.under.now)) tree.tree.whole
    (c.in-Err.ensures.refused m told (size_here o r.0 m r.1))

pub returns-in-Err-clause-refused : goal.returns-in-Err-clause-refused
returns-in-Err-clause-refused g c m told =
    let o : Origin = origin_of c.args.tree in
    let r = c.requires.stream m told in
    c.in-Err.ensures.refused m told (size_here o r.0 m r.1)

pub number_with-requires-clause-held : goal.number_with-requires-clause-held
number_with-requires-clause-held g c m told =
    let o : Origin = origin_of c.args.tree in
    let before = sym c.stream_size.ensures.told ∙ told in
    let r = c.requires.stream m before in
    let same : r.0 ≡ c.in-Ok.opened.length = same_size _ r.0 c.in-Ok.opened.length r.1.size (c.in-Ok.ensures.found m before (size_here o r.0 m r.1)) in
    ∣ subst (λ (n : ℕ). IsReadable o n m) same r.1 ∣₁

pub returns-clause-found : goal.returns-clause-found
returns-clause-found g c m told tree = c.number_with.ensures.found m (c.stream_size.ensures.told ∙ told) tree

pub returns-clause-refused : goal.returns-clause-refused
returns-clause-refused g c m told = c.number_with.ensures.refused m (c.stream_size.ensures.told ∙ told)

pub number_with-requires-clause-bytes : goal.number_with-requires-clause-bytes
number_with-requires-clause-bytes g c = lent (origin_of c.args.tree) (g.B.Blocks.told c.stream_size.new.under) c.in-Ok.opened.inode.items c.deref.result.now c.deref.ensures.value c.in-Ok.ensures.inode
