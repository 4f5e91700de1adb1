use Rattle.std.proofs.Common.{◌≡◌, ◌∙◌, ℕ, refl, sym, subst}
use Rattle.bfs_pages.specs.Maps.{without}
use Rattle.bfs_stream.specs.Sizes.{Origin}
use Rattle.bfs_stream_pages.specs.Held.{Held}
use Rattle.bfs_stream_pages.specs.GoesLaws.{sized_of, readable}
use Rattle.bfs_maps.specs.Mapped.{origin_of, rows_of}
use Rattle.bfs_maps.specs.RowTrees.{IsRowTree}
use Rattle.bfs_maps.proofs.Sized.{held_here, same_size, unsized_whole}
use Rattle.bfs_maps.proofs.Over.{now_named, on_ok}
use Rattle.bfs_stream_pages.proofs.Keeping.{lent}
use Rattle.bfs_maps.proofs.writing.take_row.Goals as goal

pub returns-in-Err-clause-refused : goal.returns-in-Err-clause-refused
returns-in-Err-clause-refused g c m told d =
    let o : Origin = origin_of c.args.tree in
    let v = c.args.bitmap.now in
    let h = d.held in
    let r = readable o v h.0 m h.1 in
    unsized_whole o h.0 m c.in-Err.fault r (sized_of o.sizes.block_size (g.E.Blocks.size c.args.edits.now) (g.E.Blocks.told c.args.edits.now) m c.requires.size told (g.met.E.Blocks.sized c.args.edits.now)) d.tree.tree.whole
    (c.in-Err.ensures.refused m told (held_here o v h.0 m h.1))

pub take_with-requires-clause-held : goal.take_with-requires-clause-held
take_with-requires-clause-held g c m told =
    let o : Origin = origin_of c.args.tree in
    let v = c.args.bitmap.now in
    let before = sym c.stream_size.ensures.told ∙ told in
    let h = c.requires.stream m before in
    let same : h.0 ≡ c.in-Ok.opened.length = same_size _ h.0 c.in-Ok.opened.length h.1.size (c.in-Ok.ensures.found m before (held_here o v h.0 m h.1)) in
    ∣ subst (λ (n : ℕ). Held o v n m) same h.1 ∣₁

pub returns-clause-taken : goal.returns-clause-taken
returns-clause-taken g c m told d =
    let o : Origin = origin_of c.args.tree in
    let v = c.args.bitmap.now in
    let h = d.held in
    let same : h.0 ≡ c.in-Ok.opened.length = same_size _ h.0 c.in-Ok.opened.length h.1.size (c.in-Ok.ensures.found m told (held_here o v h.0 m h.1)) in
    let held = subst (λ (n : ℕ). Held o v n m) same h.1 in
    let after = c.stream_size.ensures.told ∙ told in
    on_ok _ _ c.take_with.result (c.take_with.ensures.taken m after held d.tree)
    (now_named (λ (x : Origin). IsRowTree c.args.tree.kind (without c.args.tree.kind (rows_of c.args.tree.kind x m) c.args.key.now)) m o o v v c.take_with.new.bitmap c.take_with.new.bitmap (g.E.Blocks.told c.take_with.new.edits) (g.E.Blocks.told c.take_with.new.edits) (g.E.Blocks.changed c.args.edits.now) (g.E.Blocks.changed c.stream_size.new.under) (g.E.Blocks.changed c.take_with.new.edits) (g.E.Blocks.changed c.take_with.new.edits)
    refl refl refl refl c.stream_size.ensures.changed refl)

pub returns-clause-number : goal.returns-clause-number
returns-clause-number g c m told d =
    let o : Origin = origin_of c.args.tree in
    let v = c.args.bitmap.now in
    let h = d.held in
    let same : h.0 ≡ c.in-Ok.opened.length = same_size _ h.0 c.in-Ok.opened.length h.1.size (c.in-Ok.ensures.found m told (held_here o v h.0 m h.1)) in
    let held = subst (λ (n : ℕ). Held o v n m) same h.1 in
    let after = c.stream_size.ensures.told ∙ told in
    c.take_with.ensures.number m after held d.tree

pub returns-clause-refused : goal.returns-clause-refused
returns-clause-refused g c m told d =
    let o : Origin = origin_of c.args.tree in
    let v = c.args.bitmap.now in
    let h = d.held in
    let same : h.0 ≡ c.in-Ok.opened.length = same_size _ h.0 c.in-Ok.opened.length h.1.size (c.in-Ok.ensures.found m told (held_here o v h.0 m h.1)) in
    let held = subst (λ (n : ℕ). Held o v n m) same h.1 in
    let after = c.stream_size.ensures.told ∙ told in
    c.take_with.ensures.refused m after held d.tree

pub returns-in-Err-clause-blamed : goal.returns-in-Err-clause-blamed
returns-in-Err-clause-blamed g c m told =
    let o : Origin = origin_of c.args.tree in
    let h = c.requires.stream m told in
    c.in-Err.ensures.refused m told (held_here o c.args.bitmap.now h.0 m h.1)

pub returns-clause-blamed : goal.returns-clause-blamed
returns-clause-blamed g c m told =
    let o : Origin = origin_of c.args.tree in
    let v = c.args.bitmap.now in
    let h = c.requires.stream m told in
    let same : h.0 ≡ c.in-Ok.opened.length = same_size _ h.0 c.in-Ok.opened.length h.1.size (c.in-Ok.ensures.found m told (held_here o v h.0 m h.1)) in
    c.take_with.ensures.blamed m (c.stream_size.ensures.told ∙ told) (subst (λ (n : ℕ). Held o v n m) same h.1)

pub take_with-requires-clause-bytes : goal.take_with-requires-clause-bytes
take_with-requires-clause-bytes g c = lent (origin_of c.args.tree) (g.E.Blocks.told c.stream_size.new.under) c.in-Ok.opened.inode.items c.deref.result.now c.deref.ensures.value c.in-Ok.ensures.inode
