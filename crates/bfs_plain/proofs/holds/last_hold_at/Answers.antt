use Rattle.std.proofs.Common.{◌≡◌, ◌<◌, ◌-◌, suc, false, length, drop, ap, sym, ◌∙◌, subst, arith}
use Rattle.std.specs.List.{list_any}
use Rattle.std.proofs.lemmas.List.{get_or_default}
use Rattle.bfs_tree.specs.States.{is_hold_of}
use Rattle.bfs_plain.proofs.Lasts.{last-at, without-at, none-there}
use Rattle.bfs_plain.proofs.holds.last_hold_at.Goals as goal

pub returns-then-is_hold_of-clause-found : goal.returns-then-is_hold_of-clause-found
returns-then-is_hold_of-clause-found c d =
    let short : c.loop-at.at - 1 < length c.args.holds.now.items = omega (arith, c.loop-at.invariant.0, c.loop-at-test.true) in
    let after : c.loop-at.at ≡ suc (c.loop-at.at - 1) = omega (arith, c.loop-at-test.true) in
    last-at c.args.holds.now.items c.args.session c.args.id (c.loop-at.at - 1) d short
    (ap (is_hold_of c.args.session c.args.id) (get_or_default c.args.holds.now.items (c.loop-at.at - 1) d c.index.result.now short ∙ sym c.index.ensures) ∙ sym c.is_hold_of.ensures ∙ c.if-is_hold_of.true)
    (subst (λ n. list_any (is_hold_of c.args.session c.args.id) (drop n c.args.holds.now.items) ≡ false) after c.loop-at.invariant.1)

pub returns-then-is_hold_of-clause-without : goal.returns-then-is_hold_of-clause-without
returns-then-is_hold_of-clause-without c =
    let short : c.loop-at.at - 1 < length c.args.holds.now.items = omega (arith, c.loop-at.invariant.0, c.loop-at-test.true) in
    let after : c.loop-at.at ≡ suc (c.loop-at.at - 1) = omega (arith, c.loop-at-test.true) in
    without-at c.args.holds.now.items c.args.session c.args.id (c.loop-at.at - 1) c.index.result.now short
    (ap (is_hold_of c.args.session c.args.id) (sym c.index.ensures) ∙ sym c.is_hold_of.ensures ∙ c.if-is_hold_of.true)
    (subst (λ n. list_any (is_hold_of c.args.session c.args.id) (drop n c.args.holds.now.items) ≡ false) after c.loop-at.invariant.1)

pub unreachable-requires : goal.unreachable-requires
unreachable-requires c =
    let first : c.loop-at.at ≡ 0 = omega (arith, c.loop-at-test.false) in
    none-there c.args.holds.now.items c.args.session c.args.id c.requires (subst (λ n. list_any (is_hold_of c.args.session c.args.id) (drop n c.args.holds.now.items) ≡ false) first c.loop-at.invariant.1)
