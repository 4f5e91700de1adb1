use Rattle.std.proofs.Common.{◌≡◌, ◌∙◌, sym, ap, subst}
use Rattle.std.specs.Prelude.{IfOk}
use Rattle.bfs_node.specs.Header.{code_of}
use Rattle.bfs_pages.specs.Trees.{header_in}
use Rattle.bfs_stream.specs.Sizes.{Origin, sizes_of}
use Rattle.bfs_stream.specs.Told.{contents}
use Rattle.bfs_stream_pages.specs.Held.{stream_of}
use Rattle.bfs_sound.specs.Volumes.{Volume}
use Rattle.bfs_sound.specs.Whole.{volume_of}
use Rattle.bfs_stream_pages.proofs.Keeping.{given}
use Rattle.bfs_index_walk.proofs.header.kind_with.Goals as goal

pub returns-clause-code : goal.returns-clause-code
returns-clause-code g c m told =
    let here = ap g.B.Blocks.told c.over-pages.ensures.under_now ∙ told in
    subst (λ (x : Origin). IfOk c.kind_over.result (λ kind. (header_in (stream_of x m)).data_type ≡ code_of kind)) c.over-pages.ensures.backing (c.kind_over.ensures.code m here)

pub returns-clause-wrong : goal.returns-clause-wrong
returns-clause-wrong g c m told listed stream =
    let v : Volume = volume_of c.args.sup.now (contents m) in
    let here = ap g.B.Blocks.told c.over-pages.ensures.under_now ∙ told in
    c.kind_over.ensures.wrong v m here (ap (λ (x : Origin). stream_of x m) (sym c.over-pages.ensures.backing)) listed stream

pub over-pages-requires-clause-bytes : goal.over-pages-requires-clause-bytes
over-pages-requires-clause-bytes g c b is =
    let o : Origin = record { id = c.args.id; sizes = sizes_of c.args.sup.now } in
    given o (g.B.Blocks.told c.args.under.now) c.args.bytes b c.requires.bytes is
