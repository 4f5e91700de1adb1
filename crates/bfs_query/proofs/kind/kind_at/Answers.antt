use Rattle.std.proofs.Common.{◌∙◌}
use Rattle.bfs_make.specs.Sites.{stream_in}
use Rattle.bfs_stream_pages.specs.Held.{stream_of}
use Rattle.bfs_query.proofs.Heads.{first_page, page_room}
use Rattle.bfs_query.proofs.kind.kind_at.Goals as goal

pub returns-in-Err-clause-kind : goal.returns-in-Err-clause-kind
returns-in-Err-clause-kind g c m kind told can whole =
    let o = stream_in c.args.site c.args.inode in
    c.in-Err.ensures.found m told can.1.stands can.1.told (page_room o m can.0 kind can.1 whole)

pub returns-in-Ok-kind_in-clause-kind : goal.returns-in-Ok-kind_in-clause-kind
returns-in-Ok-kind_in-clause-kind g c m kind told can whole =
    let o = stream_in c.args.site c.args.inode in
    let page = c.in-Ok.ensures.found m told can.1.stands can.1.told (page_room o m can.0 kind can.1 whole) in
    c.in-Ok-kind_in.ensures.kind kind (stream_of o m) whole (first_page o m can.0 kind _ can.1 whole (c.deref.ensures.value ∙ page))

pub returns-clause-kind : goal.returns-clause-kind
returns-clause-kind g c m kind told can whole =
    let o = stream_in c.args.site c.args.inode in
    let page = c.in-Ok.ensures.found m told can.1.stands can.1.told (page_room o m can.0 kind can.1 whole) in
    c.in-Err-kind_in.ensures.kind kind (stream_of o m) whole (first_page o m can.0 kind _ can.1 whole (c.deref.ensures.value ∙ page))

pub returns-clause-cause : goal.returns-clause-cause
returns-clause-cause g c = c.in-Err-kind_in.ensures.cause (g.B.Blocks.counts c.args.under.now) (g.B.Blocks.counts c.stream_bytes.new.under)
