use Rattle.std.proofs.Common.{◌≡◌, ◌∙◌, Option, Some, sym, ap}
use Rattle.std.specs.Option.{option_and_then, option_map}
use Rattle.std.specs.FinMap.{get}
use Rattle.bfs_super.specs.Geometry.{geometry_of}
use Rattle.bfs_tree.specs.Listings.{key_of_attribute}
use Rattle.bfs_tree.specs.Trees.{Attribute, Attributes}
use Rattle.bfs_attr.proofs.Tops.{value_is}
use Rattle.bfs_attr.specs.Bearers.{entries_at, shown, volume_at}
use Rattle.bfs_attr.specs.declared.rows.AttrItem.{AttrItem}
use Rattle.bfs_node_key.proofs.Sought.{given_sought}
use Rattle.bfs_node_key.proofs.key.attribute_key.Goals as goal

pub returns-in-Err-clause-key : goal.returns-in-Err-clause-key
returns-in-Err-clause-key g c m attributes told has are = c.in-Err.ensures.found m told has

pub returns-in_default-clause-key : goal.returns-in_default-clause-key
returns-in_default-clause-key g c m attributes told has are =
    let name = c.args.name.now in
    let at : option_map shown c.in-Ok.found ≡ get attributes name =
    c.in-Ok.ensures.found m told has ∙ value_is (entries_at (volume_at (geometry_of c.args.site.sup) m) c.args.id) name ∙ ap (λ (a : Attributes). get a name) (sym are) in
    ap (λ (o : Option AttrItem). option_and_then (key_of_attribute c.args.kind) (option_map shown o)) (sym c.in_default.is)
    ∙ ap (λ (o : Option Attribute). option_and_then (key_of_attribute c.args.kind) o) at

pub returns-in-Ok-key_of-clause-key : goal.returns-in-Ok-key_of-clause-key
returns-in-Ok-key_of-clause-key g c m attributes told has are =
    let name = c.args.name.now in
    let at : option_map shown c.in-Ok.found ≡ get attributes name =
    c.in-Ok.ensures.found m told has ∙ value_is (entries_at (volume_at (geometry_of c.args.site.sup) m) c.args.id) name ∙ ap (λ (a : Attributes). get a name) (sym are) in
    c.in-Ok-key_of.ensures
    ∙ ap (λ (o : Option AttrItem). option_and_then (key_of_attribute c.args.kind) (option_map shown o)) (sym c.in-Some.is)
    ∙ ap (λ (o : Option Attribute). option_and_then (key_of_attribute c.args.kind) o) at

pub returns-in-Ok-key_of-clause-sought : goal.returns-in-Ok-key_of-clause-sought
returns-in-Ok-key_of-clause-sought g c = given_sought c.args.kind (Some (shown c.in-Some.item)) c.in-Ok-key_of.key c.in-Ok-key_of.ensures
