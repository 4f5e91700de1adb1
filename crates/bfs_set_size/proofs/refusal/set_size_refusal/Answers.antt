use Rattle.std.proofs.Common.{◌∙◌, true, Option, List, sym, ap, subst}
use Rattle.std.proofs.lemmas.Bool.{lt-ltb, le-ltb}
use Rattle.std.specs.FinMap.{get}
use Rattle.bfs_tree.specs.Refusals.{first, held}
use Rattle.bfs_tree.specs.States.{conflict}
use Rattle.bfs_tree.specs.Trees.{IsNode, is_file}
use Rattle.bfs_tree.specs.declared.state.Hold.{Hold}
use Rattle.bfs_look.specs.Ready.{IsKindOf}
use Rattle.bfs_set_size.proofs.Refusing.{no_node, no_file, too_big, by_hold}
use Rattle.bfs_set_size.proofs.refusal.set_size_refusal.Goals as goal

pub returns-in-Err-clause-refused : goal.returns-in-Err-clause-refused
returns-in-Err-clause-refused g c m tree lists s told ready same held_is = c.in-Err.ensures.found m tree lists told ready

pub returns-in-None-clause-refused : goal.returns-in-None-clause-refused
returns-in-None-clause-refused g c m tree lists s told ready same held_is =
    let none = subst (IsKindOf tree c.args.id) c.in-None.is (c.in-Ok.ensures.found m tree lists told ready) in
    sym (no_node s c.args.id c.args.size (ap (λ t. get t.nodes c.args.id) same ∙ none))

pub returns-then-not-is_file-clause-refused : goal.returns-then-not-is_file-clause-refused
returns-then-not-is_file-clause-refused g c m tree lists s told ready same held_is =
    let n = subst (IsKindOf tree c.args.id) c.in-Some.is (c.in-Ok.ensures.found m tree lists told ready) in
    sym (no_file s c.args.id c.args.size n.0 (subst (λ t. IsNode t c.args.id n.0) (sym same) n.1) (ap is_file n.2 ∙ sym c.is_file.ensures ∙ c.if-not-is_file.true))

pub returns-then-size-gt-LARGEST-clause-refused : goal.returns-then-size-gt-LARGEST-clause-refused
returns-then-size-gt-LARGEST-clause-refused g c m tree lists s told ready same held_is =
    let n = subst (IsKindOf tree c.args.id) c.in-Some.is (c.in-Ok.ensures.found m tree lists told ready) in
    sym (too_big s c.args.id c.args.size n.0 (subst (λ t. IsNode t c.args.id n.0) (sym same) n.1) (ap is_file n.2 ∙ sym c.is_file.ensures ∙ c.if-not-is_file.false) (lt-ltb 1073741824 c.args.size c.if-size-gt-LARGEST.true))

pub returns-in-Some-hold_on-clause-refused : goal.returns-in-Some-hold_on-clause-refused
returns-in-Some-hold_on-clause-refused g c m tree lists s told ready same held_is =
    let n = subst (IsKindOf tree c.args.id) c.in-Some.is (c.in-Ok.ensures.found m tree lists told ready) in
    sym (by_hold s c.args.id c.args.size n.0 (subst (λ t. IsNode t c.args.id n.0) (sym same) n.1) (ap is_file n.2 ∙ sym c.is_file.ensures ∙ c.if-not-is_file.false) (le-ltb 1073741824 c.args.size c.if-size-gt-LARGEST.false)
    ∙ ap (λ (hs : List Hold). first (held (conflict hs c.args.id true))) held_is ∙ ap (λ (o : Option Hold). first (held o)) c.in-Some-hold_on.ensures)

pub returns-in-None-hold_on-clause-refused : goal.returns-in-None-hold_on-clause-refused
returns-in-None-hold_on-clause-refused g c m tree lists s told ready same held_is =
    let n = subst (IsKindOf tree c.args.id) c.in-Some.is (c.in-Ok.ensures.found m tree lists told ready) in
    sym (by_hold s c.args.id c.args.size n.0 (subst (λ t. IsNode t c.args.id n.0) (sym same) n.1) (ap is_file n.2 ∙ sym c.is_file.ensures ∙ c.if-not-is_file.false) (le-ltb 1073741824 c.args.size c.if-size-gt-LARGEST.false)
    ∙ ap (λ (hs : List Hold). first (held (conflict hs c.args.id true))) held_is ∙ ap (λ (o : Option Hold). first (held o)) c.in-None-hold_on.ensures)
