use Rattle.std.proofs.Common.{◌≡◌, ◌∙◌, pos, List, false, sym, ap, subst}
use Rattle.bfs_base.specs.declared.kind.KeyKind.TheVariants.{Text}
use Rattle.bfs_super.specs.Geometry.{geometry_of}
use Rattle.bfs_node.specs.Page.{Row}
use Rattle.bfs_pages.specs.Maps.{assoc}
use Rattle.bfs_tree.specs.Refusals.{is_built_in}
use Rattle.bfs_shift.specs.Shifts.{volume_in}
use Rattle.bfs_query.specs.Indices.{IsIndexFound}
use Rattle.bfs_attr_calls.proofs.Allowing.{counted_built, counted_none, counted_some}
use Rattle.bfs_attr_calls.proofs.allowance.index_count.Goals as goal

pub returns-then-is_built_in-clause-counted : goal.returns-then-is_built_in-clause-counted
returns-then-is_built_in-clause-counted g c m tree lists told ready = counted_built (volume_in (geometry_of c.args.sup.now) m) tree 0 c.args.name.now (sym c.is_built_in.ensures ∙ c.if-is_built_in.true)

pub returns-in-Err-clause-counted : goal.returns-in-Err-clause-counted
returns-in-Err-clause-counted g c m tree lists told ready = c.in-Err.ensures.found m tree lists told ready

pub returns-in-Some-clause-counted : goal.returns-in-Some-clause-counted
returns-in-Some-clause-counted g c m tree lists told ready =
    let name = c.args.name.now in
    let v = volume_in (geometry_of c.args.sup.now) m in
    let not_built : is_built_in name ≡ false = sym c.is_built_in.ensures ∙ c.if-is_built_in.false in
    let at = subst (IsIndexFound lists name) c.in-Some.is (c.in-Ok.ensures.found m tree lists told ready) in
    counted_some v tree 0 name not_built (pos c.in-Some.field-0.inode) (ap (λ (rows : List Row). assoc Text rows name) ready.work.stocked.names ∙ at.0)

pub returns-in-None-clause-counted : goal.returns-in-None-clause-counted
returns-in-None-clause-counted g c m tree lists told ready =
    let name = c.args.name.now in
    let v = volume_in (geometry_of c.args.sup.now) m in
    let not_built : is_built_in name ≡ false = sym c.is_built_in.ensures ∙ c.if-is_built_in.false in
    let none = subst (IsIndexFound lists name) c.in-None.is (c.in-Ok.ensures.found m tree lists told ready) in
    counted_none v tree 0 name not_built (ap (λ (rows : List Row). assoc Text rows name) ready.work.stocked.names ∙ none)
