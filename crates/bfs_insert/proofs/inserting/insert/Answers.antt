use Rattle.std.proofs.Common.{◌≡◌, ℤ, ◌∙◌, sym, ap, inl, subst, arith, rules, w64, to_z, of_z}
use Rattle.bfs_node.specs.declared.header.Header.{Header}
use Rattle.bfs_node.specs.Page.{rows_of}
use Rattle.bfs_pages.specs.Shapes.{place}
use Rattle.bfs_pages.specs.Trees.{page_in}
use Rattle.bfs_pages.proofs.Faulted.{failed-spared}
use Rattle.bfs_pages.proofs.OfKind.{found-in-leaf}
use Rattle.bfs_insert.specs.Divided.{IsRoomy}
use Rattle.bfs_insert.specs.Puts.{IsPut}
use Rattle.bfs_insert.proofs.Halving.{room-for}
use Rattle.bfs_insert.proofs.RowPuts.{key-short}
use Rattle.bfs_insert.proofs.WayDown.{way-tree, way-there, absent-there, not-there, row-inserted, spared-not_put, pages-not_put}
use Rattle.bfs_insert.proofs.inserting.insert.Goals as goal

pub returns-in-Err-clause-put : goal.returns-in-Err-clause-put
returns-in-Err-clause-put g c b reached t fs e tree = pages-not_put c.args.kind t c.args.key.now (g.P.Pages.told c.leaf_for.new.pages) c.in-Err.fault (c.in-Err.ensures.leaf b reached t fs e tree)

pub returns-in-Some-clause-put : goal.returns-in-Some-clause-put
returns-in-Some-clause-put g c b reached t fs e tree =
    let p = found-in-leaf c.args.kind b reached t fs c.args.key.now c.in-Ok.leaf c.leaf_for.new.page tree.holds (c.in-Ok.ensures.leaf b reached t fs e tree) in
    (_, p.1 ∙ sym (c.look_up.ensures p.0) ∙ c.in-Some.is)

pub put_in_leaf-requires-clause-room : goal.put_in_leaf-requires-clause-room
put_in_leaf-requires-clause-room g c = room-for (rows_of c.leaf_for.new.page) c.args.key.now (c.is_roomy.ensures.roomy.0 c.if-is_roomy.true) (key-short c.args.kind c.args.key.now c.requires.key)

pub returns-in-Ok-put_in_leaf-clause-put : goal.returns-in-Ok-put_in_leaf-clause-put
returns-in-Ok-put_in_leaf-clause-put g c b reached t fs e tree =
    let leaf = c.in-Ok.ensures.leaf b reached t fs e tree in
    let none = absent-there c.args.kind b reached t fs c.args.key.now c.in-Ok.leaf c.leaf_for.new.page c.look_up.result tree leaf c.look_up.ensures c.in-None.is in
    let p = c.in-Ok-put_in_leaf.ensures.put b (c.in-Ok.ensures.told ∙ e) in
    let room : IsRoomy (page_in b c.in-Ok.leaf) = subst IsRoomy leaf.0 (c.is_roomy.ensures.roomy.0 c.if-is_roomy.true) in
    let way = way-there c.args.kind b c.args.key.now c.in-Ok.leaf tree.header (λ r2 t2 fs2 tree2. ap place (c.in-Ok.ensures.leaf b r2 t2 fs2 e tree2).1) room in
    let signed : to_z w64 (of_z w64 c.args.value) ≡ c.args.value = search rules in
    let i = row-inserted c.args.kind b b p.0 c.args.key.now c.args.value c.in-Ok.leaf reached t fs way (subst (λ (z : ℤ). IsPut c.args.kind b p.0 c.in-Ok.leaf c.args.key.now z) signed p.2) tree none in
    (p.0, p.1, i.0, i.1)

pub returns-in-Ok-put_in_leaf-clause-absent : goal.returns-in-Ok-put_in_leaf-clause-absent
returns-in-Ok-put_in_leaf-clause-absent g c b reached t fs e tree =
    absent-there c.args.kind b reached t fs c.args.key.now c.in-Ok.leaf c.leaf_for.new.page c.look_up.result tree (c.in-Ok.ensures.leaf b reached t fs e tree) c.look_up.ensures c.in-None.is

pub returns-in-Ok-put_in_leaf-clause-there : goal.returns-in-Ok-put_in_leaf-clause-there
returns-in-Ok-put_in_leaf-clause-there g c b reached t fs v e tree some =
    not-there _ v (absent-there c.args.kind b reached t fs c.args.key.now c.in-Ok.leaf c.leaf_for.new.page c.look_up.result tree (c.in-Ok.ensures.leaf b reached t fs e tree) c.look_up.ensures c.in-None.is) some

pub returns-in-Ok-put_in_leaf-clause-levels : goal.returns-in-Ok-put_in_leaf-clause-levels
returns-in-Ok-put_in_leaf-clause-levels g c b e =
    let p = c.in-Ok-put_in_leaf.ensures.put b (c.in-Ok.ensures.told ∙ e) in
    (p.0, p.1, inl (ap (λ (h : Header). h.levels) p.2.header))

pub returns-in-Err-put_in_leaf-clause-put : goal.returns-in-Err-put_in_leaf-clause-put
returns-in-Err-put_in_leaf-clause-put g c b reached t fs e tree =
    let none = absent-there c.args.kind b reached t fs c.args.key.now c.in-Ok.leaf c.leaf_for.new.page c.look_up.result tree (c.in-Ok.ensures.leaf b reached t fs e tree) c.look_up.ensures c.in-None.is in
    spared-not_put c.args.kind t c.args.key.now (g.P.Pages.told c.put_in_leaf.new.pages) c.in-Err-put_in_leaf.fault none
    (failed-spared (g.P.Pages.told c.put_in_leaf.new.pages) (g.P.Pages.is_cause c.leaf_for.new.pages c.put_in_leaf.new.pages) c.in-Err-put_in_leaf.fault c.in-Err-put_in_leaf.ensures.failed)

pub returns-in-Err-put_in_leaf-clause-there : goal.returns-in-Err-put_in_leaf-clause-there
returns-in-Err-put_in_leaf-clause-there g c b reached t fs v e tree some =
    not-there _ v (absent-there c.args.kind b reached t fs c.args.key.now c.in-Ok.leaf c.leaf_for.new.page c.look_up.result tree (c.in-Ok.ensures.leaf b reached t fs e tree) c.look_up.ensures c.in-None.is) some

pub returns-in-Err-reach_leaf-clause-put : goal.returns-in-Err-reach_leaf-clause-put
returns-in-Err-reach_leaf-clause-put g c b reached t fs e tree =
    let none = absent-there c.args.kind b reached t fs c.args.key.now c.in-Ok.leaf c.leaf_for.new.page c.look_up.result tree (c.in-Ok.ensures.leaf b reached t fs e tree) c.look_up.ensures c.in-None.is in
    spared-not_put c.args.kind t c.args.key.now (g.P.Pages.told c.reach_leaf.new.pages) c.in-Err-reach_leaf.fault none (c.in-Err-reach_leaf.ensures.spared b reached t fs (c.in-Ok.ensures.told ∙ e) tree)

pub returns-in-Err-reach_leaf-clause-there : goal.returns-in-Err-reach_leaf-clause-there
returns-in-Err-reach_leaf-clause-there g c b reached t fs v e tree some =
    not-there _ v (absent-there c.args.kind b reached t fs c.args.key.now c.in-Ok.leaf c.leaf_for.new.page c.look_up.result tree (c.in-Ok.ensures.leaf b reached t fs e tree) c.look_up.ensures c.in-None.is) some

pub returns-in-Ok-put_row-clause-put : goal.returns-in-Ok-put_row-clause-put
returns-in-Ok-put_row-clause-put g c b reached t fs e tree =
    let none = absent-there c.args.kind b reached t fs c.args.key.now c.in-Ok.leaf c.leaf_for.new.page c.look_up.result tree (c.in-Ok.ensures.leaf b reached t fs e tree) c.look_up.ensures c.in-None.is in
    let w = c.in-Ok-reach_leaf.ensures.way b (c.in-Ok.ensures.told ∙ e) in
    let p = c.in-Ok-put_row.ensures.put w.0 w.1 in
    let signed : to_z w64 (of_z w64 c.args.value) ≡ c.args.value = search rules in
    let i = row-inserted c.args.kind b w.0 p.0 c.args.key.now c.args.value c.in-Ok-reach_leaf.at reached t fs w.2 (subst (λ (z : ℤ). IsPut c.args.kind w.0 p.0 c.in-Ok-reach_leaf.at c.args.key.now z) signed p.2) tree none in
    (p.0, p.1, i.0, i.1)

pub returns-in-Ok-put_row-clause-absent : goal.returns-in-Ok-put_row-clause-absent
returns-in-Ok-put_row-clause-absent g c b reached t fs e tree =
    absent-there c.args.kind b reached t fs c.args.key.now c.in-Ok.leaf c.leaf_for.new.page c.look_up.result tree (c.in-Ok.ensures.leaf b reached t fs e tree) c.look_up.ensures c.in-None.is

pub returns-in-Ok-put_row-clause-there : goal.returns-in-Ok-put_row-clause-there
returns-in-Ok-put_row-clause-there g c b reached t fs v e tree some =
    not-there _ v (absent-there c.args.kind b reached t fs c.args.key.now c.in-Ok.leaf c.leaf_for.new.page c.look_up.result tree (c.in-Ok.ensures.leaf b reached t fs e tree) c.look_up.ensures c.in-None.is) some

pub returns-in-Err-put_row-clause-put : goal.returns-in-Err-put_row-clause-put
returns-in-Err-put_row-clause-put g c b reached t fs e tree =
    let none = absent-there c.args.kind b reached t fs c.args.key.now c.in-Ok.leaf c.leaf_for.new.page c.look_up.result tree (c.in-Ok.ensures.leaf b reached t fs e tree) c.look_up.ensures c.in-None.is in
    let w = c.in-Ok-reach_leaf.ensures.way b (c.in-Ok.ensures.told ∙ e) in
    let r = way-tree c.args.kind b w.0 c.args.key.now c.in-Ok-reach_leaf.at 0 reached t fs w.2 tree in
    spared-not_put c.args.kind t c.args.key.now (g.P.Pages.told c.put_row.new.pages) c.in-Err-put_row.fault none (c.in-Err-put_row.ensures.spared w.0 reached r.0 r.1 r.2 w.1 r.3 (omega (arith, r.4)) r.5 r.6)

pub returns-in-Err-put_row-clause-there : goal.returns-in-Err-put_row-clause-there
returns-in-Err-put_row-clause-there g c b reached t fs v e tree some =
    not-there _ v (absent-there c.args.kind b reached t fs c.args.key.now c.in-Ok.leaf c.leaf_for.new.page c.look_up.result tree (c.in-Ok.ensures.leaf b reached t fs e tree) c.look_up.ensures c.in-None.is) some
