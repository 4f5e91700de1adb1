use Rattle.std.proofs.Common.{◌∙◌, ℕ, List, sym, ap, subst}
use Rattle.std.specs.List.{flat_map}
use Rattle.bfs_base.specs.declared.kind.KeyKind.TheVariants.{Text}
use Rattle.bfs_node.specs.Page.{Row}
use Rattle.bfs_range.specs.Answers.{answer_of}
use Rattle.bfs_stream.specs.Sizes.{Origin, sizes_of}
use Rattle.bfs_stream_pages.specs.Held.{stream_of}
use Rattle.bfs_maps.specs.Mapped.{rows_of, HasReadable}
use Rattle.bfs_maps.specs.NumberTrees.{IsNumberTree}
use Rattle.bfs_dir.specs.Directories.{dir_rows, listed}
use Rattle.bfs_dir.proofs.Listing.{all_between, listed_is}
use Rattle.bfs_dir.proofs.directory.Dir.list.Goals as goal

pub rows_from-requires-clause-stream : goal.rows_from-requires-clause-stream
rows_from-requires-clause-stream g c m told = subst (λ (x : Origin). HasReadable x m) (sym c.self.view_is) (c.requires.stream m told)

pub returns-in-Ok-dir_rows_of-clause-listed : goal.returns-in-Ok-dir_rows_of-clause-listed
returns-in-Ok-dir_rows_of-clause-listed g c m told tree =
    let p : Origin = record { id = c.self.inside.inode; sizes = sizes_of c.self.inside.sup } in
    let t = subst (λ (x : Origin). IsNumberTree Text (stream_of x m)) (sym c.self.view_is) tree in
    let b : List ℕ = stream_of p m in
    let rows : List Row = rows_of Text p m in
    c.in-Ok-dir_rows_of.ensures ∙ ap (flat_map dir_rows) (c.in-Ok.ensures.rows m told t.tree) ∙ ap (λ (l : List Row). flat_map dir_rows (answer_of b l)) (all_between Text rows)
    ∙ listed_is b rows t.numbers ∙ ap (λ (x : Origin). listed (rows_of Text x m)) c.self.view_is
