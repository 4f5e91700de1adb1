use Rattle.std.proofs.Common.{◌∙◌, sym, ap, subst}
use Rattle.std.specs.Prelude.{IfOk}
use Rattle.bfs_stream.specs.Sizes.{Origin, sizes_of}
use Rattle.bfs_stream.specs.Told.{contents}
use Rattle.bfs_stream_pages.specs.Held.{stream_of}
use Rattle.bfs_sound.specs.Volumes.{Volume}
use Rattle.bfs_sound.specs.Whole.{volume_of}
use Rattle.bfs_names_walk.specs.Rows.{AreNames}
use Rattle.bfs_stream_pages.proofs.Keeping.{given}
use Rattle.bfs_node_walk.proofs.names.names_with.Goals as goal

pub returns-clause-names : goal.returns-clause-names
returns-clause-names g c m told =
    let here = ap g.B.Blocks.told c.over-pages.ensures.under_now ∙ told in
    subst (λ (x : Origin). IfOk c.names_over.result (λ rows. AreNames (stream_of x m) rows.items)) c.over-pages.ensures.backing (c.names_over.ensures.names m here)

pub returns-clause-wrong : goal.returns-clause-wrong
returns-clause-wrong g c m told names stream =
    let v : Volume = volume_of c.args.sup.now (contents m) in
    let here = ap g.B.Blocks.told c.over-pages.ensures.under_now ∙ told in
    c.names_over.ensures.wrong v m here (ap (λ (x : Origin). stream_of x m) (sym c.over-pages.ensures.backing)) names stream

pub over-pages-requires-clause-bytes : goal.over-pages-requires-clause-bytes
over-pages-requires-clause-bytes g c b is =
    let o : Origin = record { id = c.args.id; sizes = sizes_of c.args.sup.now } in
    given o (g.B.Blocks.told c.args.under.now) c.args.bytes b c.requires.bytes is
