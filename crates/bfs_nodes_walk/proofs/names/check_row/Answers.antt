use Rattle.std.proofs.Common.{rules, ◌≡◌, ◌∙◌, ℕ, List, false, true, sym, ap, subst}
use Rattle.std.proofs.lemmas.Bool.{true≢false}
use Rattle.bfs_smalldata.specs.Items.{items_of}
use Rattle.bfs_sound.specs.Inodes.{is_proper}
use Rattle.bfs_finding.specs.NodeFaults.{IsAttributeFault}
use Rattle.bfs_node_check.proofs.Walked.{some_items}
use Rattle.bfs_nodes_walk.specs.Attributes.{HasItem}
use Rattle.bfs_nodes_walk.proofs.Among.{row_twice}
use Rattle.bfs_nodes_walk.proofs.Others.{one_other}
use Rattle.bfs_nodes_walk.proofs.names.check_row.Goals as goal

pub returns-then-not-proper-clause-apart : goal.returns-then-not-proper-clause-apart
returns-then-not-proper-clause-apart c items is =
    let slice : c.as_slice-name.result.now ≡ c.args.row.now.name = search rules in
    let dots : is_proper c.args.row.now.name ≡ false = sym (c.is_proper_name-proper.ensures ∙ ap is_proper slice) ∙ c.if-not-proper.true in
    one_other items c.args.row.now (λ p. absurd (true≢false (sym p ∙ dots)))

pub returns-then-there-clause-wrong : goal.returns-then-there-clause-wrong
returns-then-there-clause-wrong c v same reached named =
    let slice : c.as_slice-name.result.now ≡ c.args.row.now.name = search rules in
    let proper : is_proper c.args.row.now.name ≡ true = sym (c.is_proper_name-proper.ensures ∙ ap is_proper slice) ∙ c.if-not-proper.false in
    let got = some_items (items_of c.args.area.now) c.requires in
    let has : HasItem got.0 c.args.row.now.name = subst (λ (n : List ℕ). HasItem got.0 n) slice ((c.has_item-there.ensures got.0 got.1).0 c.if-there.true) in
    c.repeated.ensures v (subst (λ (n : List ℕ). IsAttributeFault v c.args.id n) (sym slice) (row_twice v c.args.id c.args.area.now c.args.row.now.name got.0 c.args.row.now.value same got.1 reached has (named proper)))

pub returns-clause-apart : goal.returns-clause-apart
returns-clause-apart c items is =
    let slice : c.as_slice-name.result.now ≡ c.args.row.now.name = search rules in
    one_other items c.args.row.now (λ p h. true≢false (sym ((c.has_item-there.ensures items is).1 (subst (λ (n : List ℕ). HasItem items n) (sym slice) h)) ∙ c.if-there.false))
