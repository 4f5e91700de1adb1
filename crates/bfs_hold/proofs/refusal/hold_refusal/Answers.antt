use Rattle.std.proofs.Common.{◌∙◌, Option, List, sym, ap, subst}
use Rattle.std.proofs.lemmas.Bool.{lt-ltb, le-ltb}
use Rattle.std.specs.FinMap.{get}
use Rattle.bfs_tree.specs.Refusals.{first, held}
use Rattle.bfs_tree.specs.States.{conflict}
use Rattle.bfs_tree.specs.Trees.{IsNode, is_file}
use Rattle.bfs_tree.specs.declared.state.Hold.{Hold}
use Rattle.bfs_look.specs.Ready.{IsKindOf}
use Rattle.bfs_hold.proofs.Refusing.{no_node, no_file, too_big, past_end, by_hold}
use Rattle.bfs_hold.proofs.refusal.hold_refusal.Goals as goal

pub returns-in-Err-clause-refused : goal.returns-in-Err-clause-refused
returns-in-Err-clause-refused g c m tree lists s told ready same held_is = c.in-Err.ensures.found m tree lists told ready

pub returns-in-None-clause-refused : goal.returns-in-None-clause-refused
returns-in-None-clause-refused g c m tree lists s told ready same held_is =
    let none = subst (IsKindOf tree c.args.id) c.in-None.is (c.in-Ok.ensures.found m tree lists told ready) in
    sym (no_node s c.args.id c.args.at c.args.count c.args.write (ap (λ t. get t.nodes c.args.id) same ∙ none))

pub returns-then-not-is_file-clause-refused : goal.returns-then-not-is_file-clause-refused
returns-then-not-is_file-clause-refused g c m tree lists s told ready same held_is =
    let n = subst (IsKindOf tree c.args.id) c.in-Some.is (c.in-Ok.ensures.found m tree lists told ready) in
    sym (no_file s c.args.id c.args.at c.args.count c.args.write n.0 (subst (λ t. IsNode t c.args.id n.0) (sym same) n.1) (ap is_file n.2 ∙ sym c.is_file.ensures ∙ c.if-not-is_file.true))

pub returns-then-count-gt-LARGEST-clause-refused : goal.returns-then-count-gt-LARGEST-clause-refused
returns-then-count-gt-LARGEST-clause-refused g c m tree lists s told ready same held_is =
    let n = subst (IsKindOf tree c.args.id) c.in-Some.is (c.in-Ok.ensures.found m tree lists told ready) in
    sym (too_big s c.args.id c.args.at c.args.count c.args.write n.0 (subst (λ t. IsNode t c.args.id n.0) (sym same) n.1) (ap is_file n.2 ∙ sym c.is_file.ensures ∙ c.if-not-is_file.false) (lt-ltb 65536 c.args.count c.if-count-gt-LARGEST.true))

pub returns-in-Err-size_at-clause-refused : goal.returns-in-Err-size_at-clause-refused
returns-in-Err-size_at-clause-refused g c m tree lists s told ready same held_is =
    let n = subst (IsKindOf tree c.args.id) c.in-Some.is (c.in-Ok.ensures.found m tree lists told ready) in
    c.in-Err-size_at.ensures.found c.args.bitmap.now m tree lists n.0 (c.in-Ok.ensures.told ∙ told) ready n.1

pub returns-then-is_past-clause-refused : goal.returns-then-is_past-clause-refused
returns-then-is_past-clause-refused g c m tree lists s told ready same held_is =
    let n = subst (IsKindOf tree c.args.id) c.in-Some.is (c.in-Ok.ensures.found m tree lists told ready) in
    let size = c.in-Ok-size_at.ensures.found c.args.bitmap.now m tree lists n.0 (c.in-Ok.ensures.told ∙ told) ready n.1 in
    sym (past_end s c.args.id c.args.at c.args.count c.args.write n.0 (subst (λ t. IsNode t c.args.id n.0) (sym same) n.1) (ap is_file n.2 ∙ sym c.is_file.ensures ∙ c.if-not-is_file.false) (le-ltb 65536 c.args.count c.if-count-gt-LARGEST.false)
    c.in-Ok-size_at.size size (sym c.is_past.ensures ∙ c.if-is_past.true))

pub returns-in-Some-conflict_on-clause-refused : goal.returns-in-Some-conflict_on-clause-refused
returns-in-Some-conflict_on-clause-refused g c m tree lists s told ready same held_is =
    let n = subst (IsKindOf tree c.args.id) c.in-Some.is (c.in-Ok.ensures.found m tree lists told ready) in
    let size = c.in-Ok-size_at.ensures.found c.args.bitmap.now m tree lists n.0 (c.in-Ok.ensures.told ∙ told) ready n.1 in
    sym (by_hold s c.args.id c.args.at c.args.count c.args.write n.0 (subst (λ t. IsNode t c.args.id n.0) (sym same) n.1) (ap is_file n.2 ∙ sym c.is_file.ensures ∙ c.if-not-is_file.false) (le-ltb 65536 c.args.count c.if-count-gt-LARGEST.false)
    c.in-Ok-size_at.size size (sym c.is_past.ensures ∙ c.if-is_past.false)
    ∙ ap (λ (hs : List Hold). first (held (conflict hs c.args.id c.args.write))) held_is ∙ ap (λ (o : Option Hold). first (held o)) c.in-Some-conflict_on.ensures)

pub returns-in-None-conflict_on-clause-refused : goal.returns-in-None-conflict_on-clause-refused
returns-in-None-conflict_on-clause-refused g c m tree lists s told ready same held_is =
    let n = subst (IsKindOf tree c.args.id) c.in-Some.is (c.in-Ok.ensures.found m tree lists told ready) in
    let size = c.in-Ok-size_at.ensures.found c.args.bitmap.now m tree lists n.0 (c.in-Ok.ensures.told ∙ told) ready n.1 in
    sym (by_hold s c.args.id c.args.at c.args.count c.args.write n.0 (subst (λ t. IsNode t c.args.id n.0) (sym same) n.1) (ap is_file n.2 ∙ sym c.is_file.ensures ∙ c.if-not-is_file.false) (le-ltb 65536 c.args.count c.if-count-gt-LARGEST.false)
    c.in-Ok-size_at.size size (sym c.is_past.ensures ∙ c.if-is_past.false)
    ∙ ap (λ (hs : List Hold). first (held (conflict hs c.args.id c.args.write))) held_is ∙ ap (λ (o : Option Hold). first (held o)) c.in-None-conflict_on.ensures)
