use Rattle.std.proofs.Common.{◌∙◌, Some, refl}
use Rattle.bfs_txn.specs.Told.{AreSized}
use Rattle.bfs_stream_pages.specs.GoesLaws.{sized_of}
use Rattle.bfs_stream_pages.proofs.Wholes.{whole_read, whole_seen}
use Rattle.bfs_stream_pages.proofs.backing.Backing.get_page.Goals as goal

pub returns-in-Ok-clause-page : goal.returns-in-Ok-clause-page
returns-in-Ok-clause-page g c long m is held low =
    let o = c.args.self.now in
    let sized : AreSized o.sizes.block_size (Some m) = sized_of o.sizes.block_size (g.B.Blocks.size c.args.under.now) (g.B.Blocks.told c.args.under.now) m c.requires.size is (g.met.B.Blocks.sized c.args.under.now) in
    let found = c.in-Ok.ensures.found m is held.stands held.told in
    found.1 ∙ whole_read o long m held sized c.args.index c.args.start c.in-Ok.field-0 found.0 (c.if-is_page.ensures.yes refl) c.requires.inside low

pub returns-in-Ok-clause-seen : goal.returns-in-Ok-clause-seen
returns-in-Ok-clause-seen g c =
    let o = c.args.self.now in
    whole_seen o.sizes.block_size c.args.start c.in-Ok.field-0 c.load.new.block (g.B.Blocks.last c.load.new.under) c.in-Ok.ensures.last c.in-Ok.ensures.length (c.if-is_page.ensures.yes refl) c.requires.inside
