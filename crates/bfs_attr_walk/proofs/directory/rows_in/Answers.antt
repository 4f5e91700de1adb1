use Rattle.std.proofs.Common.{rules, ◌≡◌, ◌∙◌, List, sym, ap, subst, w64, to_z, of_z}
use Rattle.std.specs.List.{AllByRecursion}
use Rattle.bfs_base.specs.declared.kind.KeyKind.TheVariants.{Text}
use Rattle.bfs_stream.specs.Told.{contents}
use Rattle.bfs_super.specs.declared.geometry.Geometry.{Geometry}
use Rattle.bfs_values.specs.Rows.{rows_in as tree_rows}
use Rattle.bfs_sound.specs.Volumes.{Volume}
use Rattle.bfs_sound.specs.Inodes.{content}
use Rattle.bfs_sound.specs.Whole.{volume_of}
use Rattle.bfs_names_walk.specs.Rows.{as_rows}
use Rattle.bfs_names_walk.specs.declared.row.NameRow.{NameRow}
use Rattle.bfs_node_walk.specs.Listed.{proper, NamesBlock}
use Rattle.bfs_attr_walk.proofs.Outside.{row_outside}
use Rattle.bfs_attr_walk.proofs.directory.rows_in.Goals as goal

pub returns-in-Ok-check_rows-clause-inside : goal.returns-in-Ok-check_rows-clause-inside
returns-in-Ok-check_rows-clause-inside g c =
    subst (λ n. AllByRecursion (NamesBlock n) (proper (as_rows c.in-Ok.rows.items))) (ap (λ (k : Geometry). k.blocks) c.geometry.ensures)
    (subst (λ (l : List NameRow). AllByRecursion (NamesBlock c.geometry.result.blocks) (proper (as_rows l))) c.deref.ensures.value c.in-Ok-check_rows.ensures.inside)

pub returns-in-Err-check_rows-clause-wrong : goal.returns-in-Err-check_rows-clause-wrong
returns-in-Err-check_rows-clause-wrong g c m told there =
    let v : Volume = volume_of c.args.sup.now (contents m) in
    let same : as_rows c.deref.result.now ≡ tree_rows Text (content v c.args.id) = ap as_rows c.deref.ensures.value ∙ (c.in-Ok.ensures.names m told).are in
    let signed : to_z w64 (of_z w64 c.in-Err-check_rows.value) ≡ c.in-Err-check_rows.value = search rules in
    row_outside v c.args.id c.geometry.result.blocks (as_rows c.deref.result.now) c.in-Err-check_rows.value _ signed there same (sym (ap (λ (k : Geometry). k.blocks) c.geometry.ensures)) c.in-Err-check_rows.ensures.outside
