use Rattle.std.proofs.Common.{◌≡◌, ◌∙◌, ℕ, List, Some, drop, sym, subst}
use Rattle.std.specs.Prelude.{IsSome}
use Rattle.std.proofs.lemmas.Bool.{true≢false}
use Rattle.bfs_smalldata.specs.Items.{items_of}
use Rattle.bfs_finding.specs.Findings.{IsBroken}
use Rattle.bfs_node_check.proofs.Walked.{rest_part, some_items}
use Rattle.bfs_node_check.proofs.Named.{own_named, wrong_name}
use Rattle.bfs_node_check.proofs.name.check_name.Goals as goal

pub own_name_in-own-requires : goal.own_name_in-own-requires
own_name_in-own-requires c = subst (λ (l : List ℕ). IsSome (items_of l)) (sym (rest_part 232 c.args.bytes.now)) c.requires.area

pub returns-then-is_right-clause-named : goal.returns-then-is_right-clause-named
returns-then-is_right-clause-named c items is =
    let own = c.own_name_in-own.ensures items (subst (λ (l : List ℕ). items_of l ≡ Some items) (sym (rest_part 232 c.args.bytes.now)) is) in
    own_named items c.args.row.now (sym own ∙ (c.is_right.ensures.0 c.if-is_right.true).0)

pub returns-in-Ok-clause-wrong : goal.returns-in-Ok-clause-wrong
returns-in-Ok-clause-wrong c v d same arrives =
    let got = some_items (items_of (drop 232 c.args.bytes.now)) c.requires.area in
    let own = c.own_name_in-own.ensures got.0 (subst (λ (l : List ℕ). items_of l ≡ Some got.0) (sym (rest_part 232 c.args.bytes.now)) got.1) in
    subst (IsBroken v) (sym c.in-Ok.ensures)
    (wrong_name v d c.args.id c.args.bytes.now c.args.row.now got.0 _ same got.1 own arrives (λ h. true≢false (sym (c.is_right.ensures.1 h) ∙ c.if-is_right.false)))
