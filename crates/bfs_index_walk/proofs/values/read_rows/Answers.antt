use Rattle.std.proofs.Common.{◌∙◌, List, ℕ, refl, sym, ap}
use Rattle.bfs_inode.specs.Inode.{stream_at}
use Rattle.bfs_stream.specs.Sizes.{Sizes, sizes_of}
use Rattle.bfs_stream.specs.Told.{contents}
use Rattle.bfs_stream_pages.specs.GoesLaws.{sized_of}
use Rattle.bfs_stream_pages.proofs.Keeping.{of_content}
use Rattle.bfs_sound.specs.Whole.{volume_of}
use Rattle.bfs_node_walk.proofs.Readable.{readable}
use Rattle.bfs_index_walk.proofs.Unsized.{of_tree, unsized}
use Rattle.bfs_index_walk.proofs.values.read_rows.Goals as goal

pub returns-in_default-clause-wrong : goal.returns-in_default-clause-wrong
returns-in_default-clause-wrong g c m told has =
    let s : Sizes = sizes_of c.args.sup.now in
    let sized = sized_of s.block_size (g.B.Blocks.size c.args.under.now) (g.B.Blocks.told c.args.under.now) m c.requires.size told (g.met.B.Blocks.sized c.args.under.now) in
    unsized c.args.sup.now c.args.id m c.args.bytes.now (c.requires.all m told) c.requires.inside (c.requires.stream m told) sized (c.requires.bytes m told) (of_tree (volume_of c.args.sup.now (contents m)) c.args.id c.args.kind has)
    (c.in_default.ensures.none refl)

pub rows_with-requires-clause-bytes : goal.rows_with-requires-clause-bytes
rows_with-requires-clause-bytes g c = (c.requires.long, of_content (g.B.Blocks.told c.args.under.now) c.args.id c.args.bytes.now c.requires.bytes)

pub rows_with-requires-clause-held : goal.rows_with-requires-clause-held
rows_with-requires-clause-held g c m told =
    let s : Sizes = sizes_of c.args.sup.now in
    let size = ap (λ (b : List ℕ). (stream_at b).size) (sym (c.requires.bytes m told)) ∙ c.in-Some.ensures.is.0 in
    ∣ readable s c.args.id m (c.requires.all m told) c.requires.inside (c.requires.stream m told) c.in-Some.length size ∣₁

pub returns-clause-wrong : goal.returns-clause-wrong
returns-clause-wrong g c m told has = c.rows_with.ensures.wrong m told has (c.requires.stream m told)
