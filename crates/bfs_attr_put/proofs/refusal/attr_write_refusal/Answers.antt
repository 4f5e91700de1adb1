use Rattle.std.proofs.Common.{◌∙◌, length, sym, ap, subst}
use Rattle.std.proofs.lemmas.Bool.{lt-ltb, le-ltb}
use Rattle.std.specs.FinMap.{get}
use Rattle.bfs_tree.specs.Trees.{IsNode}
use Rattle.bfs_look.specs.Ready.{IsKindOf}
use Rattle.bfs_attr_put.proofs.Refusing.{no_node, bad_name, too_big, is_fine}
use Rattle.bfs_attr_put.proofs.refusal.attr_write_refusal.Goals as goal

pub returns-in-Err-clause-refused : goal.returns-in-Err-clause-refused
returns-in-Err-clause-refused g c m tree lists s kind told ready same = c.in-Err.ensures.found m tree lists told ready

pub returns-in-None-clause-refused : goal.returns-in-None-clause-refused
returns-in-None-clause-refused g c m tree lists s kind told ready same =
    let none = subst (IsKindOf tree c.args.id) c.in-None.is (c.in-Ok.ensures.found m tree lists told ready) in
    sym (no_node s c.args.id c.args.name.now kind c.args.bytes.now (ap (λ t. get t.nodes c.args.id) same ∙ none))

pub returns-then-is_bad_attribute_name-clause-refused : goal.returns-then-is_bad_attribute_name-clause-refused
returns-then-is_bad_attribute_name-clause-refused g c m tree lists s kind told ready same =
    let n = subst (IsKindOf tree c.args.id) c.in-Some.is (c.in-Ok.ensures.found m tree lists told ready) in
    sym (bad_name s c.args.id c.args.name.now kind c.args.bytes.now n.0 (subst (λ t. IsNode t c.args.id n.0) (sym same) n.1) (sym c.is_bad_attribute_name.ensures ∙ c.if-is_bad_attribute_name.true))

pub returns-then-bytes-gt-LARGEST-clause-refused : goal.returns-then-bytes-gt-LARGEST-clause-refused
returns-then-bytes-gt-LARGEST-clause-refused g c m tree lists s kind told ready same =
    let n = subst (IsKindOf tree c.args.id) c.in-Some.is (c.in-Ok.ensures.found m tree lists told ready) in
    sym (too_big s c.args.id c.args.name.now kind c.args.bytes.now n.0 (subst (λ t. IsNode t c.args.id n.0) (sym same) n.1) (sym c.is_bad_attribute_name.ensures ∙ c.if-is_bad_attribute_name.false)
    (lt-ltb 65536 (length c.args.bytes.now) c.if-bytes-gt-LARGEST.true))

pub returns-clause-refused : goal.returns-clause-refused
returns-clause-refused g c m tree lists s kind told ready same =
    let n = subst (IsKindOf tree c.args.id) c.in-Some.is (c.in-Ok.ensures.found m tree lists told ready) in
    sym (is_fine s c.args.id c.args.name.now kind c.args.bytes.now n.0 (subst (λ t. IsNode t c.args.id n.0) (sym same) n.1) (sym c.is_bad_attribute_name.ensures ∙ c.if-is_bad_attribute_name.false)
    (le-ltb 65536 (length c.args.bytes.now) c.if-bytes-gt-LARGEST.false))
