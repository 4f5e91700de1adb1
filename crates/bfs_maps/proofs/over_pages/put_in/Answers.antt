use Rattle.std.proofs.Common.{rules, ◌≡◌, ◌∙◌, List, None, pos, ap, subst, w64, to_z, of_z}
use Rattle.std.specs.Prelude.{OnOk}
use Rattle.bfs_node.specs.Page.{Row}
use Rattle.bfs_pages.specs.Maps.{assoc}
use Rattle.bfs_pages.specs.Shapes.{tree_rows}
use Rattle.bfs_values.specs.Rows.{rows_in}
use Rattle.bfs_values.proofs.Rows.{rows_those}
use Rattle.bfs_maps.proofs.Changed.{insert_result}
use Rattle.bfs_maps.proofs.over_pages.put_in.Goals as goal

pub returns-clause-put : goal.returns-clause-put
returns-clause-put g c b told d =
    let signed : to_z w64 (of_z w64 c.as_value.result) ≡ c.as_value.result = search rules in
    let value : to_z w64 (of_z w64 c.as_value.result) ≡ pos c.args.number = signed ∙ c.as_value.ensures in
    insert_result c.args.kind b c.args.key.now c.args.number (to_z w64 (of_z w64 c.as_value.result)) c.requires.number d (g.P.Pages.told c.insert.new.pages) (g.P.Pages.size c.insert.new.pages) (g.met.P.Pages.sized c.insert.new.pages) (g.met.P.Pages.whole c.insert.new.pages) value c.insert.result
    (c.insert.ensures.put b d.reached d.shape d.free told d.tree)

pub returns-clause-absent : goal.returns-clause-absent
returns-clause-absent g c b told d =
    let are : tree_rows d.shape ≡ rows_in c.args.kind b = rows_those c.args.kind b d.reached d.shape d.free d.tree in
    subst (λ (rows : List Row). OnOk c.insert.result (assoc c.args.kind rows c.args.key.now ≡ None)) are (c.insert.ensures.absent b d.reached d.shape d.free told d.tree)

pub returns-clause-there : goal.returns-clause-there
returns-clause-there g c b value told d there =
    let are : tree_rows d.shape ≡ rows_in c.args.kind b = rows_those c.args.kind b d.reached d.shape d.free d.tree in
    c.insert.ensures.there b d.reached d.shape d.free value told d.tree (ap (λ (rows : List Row). assoc c.args.kind rows c.args.key.now) are ∙ there)
