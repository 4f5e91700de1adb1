use Rattle.std.proofs.Common.{◌∙◌, ap}
use Rattle.std.specs.List.{flat_map}
use Rattle.bfs_look.specs.Names.{proper_name}
use Rattle.bfs_look.proofs.Known.{dir_is}
use Rattle.bfs_look.proofs.Looked.{listed_reads}
use Rattle.bfs_look.proofs.listing.names_at.Goals as goal

pub returns-in-Ok-names_of-clause-reads : goal.returns-in-Ok-names_of-clause-reads
returns-in-Ok-names_of-clause-reads g c m tree lists st d told ready same is isdir =
    listed_reads c.args.site.sup c.args.bitmap.now m tree lists ready st same c.args.dir d is isdir c.new.result
    (c.new.ensures ∙ c.in-Ok-names_of.ensures ∙ ap (flat_map proper_name) (c.in-Ok.ensures.found m tree lists d told ready is (dir_is d.kind isdir)))

pub returns-in-Err-clause-reads : goal.returns-in-Err-clause-reads
returns-in-Err-clause-reads g c m tree lists st d told ready same is isdir = c.in-Err.ensures.found m tree lists d told ready is (dir_is d.kind isdir)
