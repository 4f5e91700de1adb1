use Rattle.std.proofs.Common.{◌∙◌, sym, ap, subst}
use Rattle.std.specs.Prelude.{OnOk}
use Rattle.bfs_stream.specs.Sizes.{Origin, sizes_of}
use Rattle.bfs_stream.specs.Told.{contents}
use Rattle.bfs_stream_pages.specs.Held.{stream_of}
use Rattle.bfs_sound.specs.Volumes.{Volume}
use Rattle.bfs_sound.specs.Whole.{volume_of}
use Rattle.bfs_value_walk.specs.Taken.{IsWholeTaken}
use Rattle.bfs_stream_pages.proofs.Keeping.{given}
use Rattle.bfs_index_walk.proofs.values.rows_with.Goals as goal

pub returns-clause-whole : goal.returns-clause-whole
returns-clause-whole g c m told =
    let here = ap g.B.Blocks.told c.over-pages.ensures.under_now ∙ told in
    subst (λ (x : Origin). OnOk c.rows_over.result (IsWholeTaken c.args.kind (stream_of x m) (g.T.RowSink.took c.args.taken.now c.rows_over.new.taken))) c.over-pages.ensures.backing (c.rows_over.ensures.whole m here)

pub returns-clause-wrong : goal.returns-clause-wrong
returns-clause-wrong g c m told has stream =
    let v : Volume = volume_of c.args.sup.now (contents m) in
    let here = ap g.B.Blocks.told c.over-pages.ensures.under_now ∙ told in
    c.rows_over.ensures.wrong v m here (ap (λ (x : Origin). stream_of x m) (sym c.over-pages.ensures.backing)) has stream

pub over-pages-requires-clause-bytes : goal.over-pages-requires-clause-bytes
over-pages-requires-clause-bytes g c b is =
    let o : Origin = record { id = c.args.id; sizes = sizes_of c.args.sup.now } in
    given o (g.B.Blocks.told c.args.under.now) c.args.bytes b c.requires.bytes is
