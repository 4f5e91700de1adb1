use Rattle.std.proofs.Common.{◌≡◌, List, sym, subst}
use Rattle.bfs_base.specs.declared.kind.KeyKind.TheVariants.{Text}
use Rattle.bfs_node.specs.Page.{Row}
use Rattle.bfs_stream.specs.Sizes.{Origin}
use Rattle.bfs_stream_pages.specs.Held.{stream_of}
use Rattle.bfs_make.specs.Mapped.{HasReadable}
use Rattle.bfs_make.specs.NumberTrees.{IsNumberTree}
use Rattle.bfs_dir.specs.Directories.{names_of, listed}
use Rattle.bfs_look.proofs.Known.{can_read, directory_tree}
use Rattle.bfs_look.proofs.rows.rows_of.Goals as goal

pub list-requires-clause-stream : goal.list-requires-clause-stream
list-requires-clause-stream g c m told = subst (λ (x : Origin). HasReadable x m) (sym c.at-directory.ensures) (can_read c.args.site.sup c.args.bitmap.now m c.args.dir c.requires.valid (c.requires.directory m told))

pub returns-in-Ok-clause-found : goal.returns-in-Ok-clause-found
returns-in-Ok-clause-found g c m tree lists n told ready is dir =
    let s = c.args.site.sup in
    let at = c.at-directory.ensures in
    let whole = subst (λ (x : Origin). IsNumberTree Text (stream_of x m)) (sym at) (directory_tree s c.args.bitmap.now m tree lists ready c.args.dir n is dir c.requires.valid) in
    subst (λ (rows : List Row). c.in-Ok.rows ≡ listed rows) (ready.work.stocked.rows c.args.dir n is dir)
    (subst (λ (x : Origin). c.in-Ok.rows ≡ listed (names_of x m)) at (c.in-Ok.ensures.listed m told whole))

pub returns-in-Err-clause-found : goal.returns-in-Err-clause-found
returns-in-Err-clause-found g c m tree lists n told ready is dir =
    c.in-Err.ensures.listed m told (subst (λ (x : Origin). IsNumberTree Text (stream_of x m)) (sym c.at-directory.ensures) (directory_tree c.args.site.sup c.args.bitmap.now m tree lists ready c.args.dir n is dir c.requires.valid))
