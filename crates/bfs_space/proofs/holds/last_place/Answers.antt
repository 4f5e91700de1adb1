use Rattle.std.proofs.Common.{◌≡◌, ◌<◌, ◌-◌, ℕ, suc, false, length, drop, refl, sym, subst, ◌∙◌, Option, arith}
use Rattle.std.specs.List.{list_any}
use Rattle.std.specs.Option.{IsSome}
use Rattle.bfs_tree.specs.declared.state.Hold.{Hold}
use Rattle.bfs_tree.specs.States.{is_hold_of}
use Rattle.bfs_space.proofs.Lasts.{last_is, no_last, without_is}
use Rattle.bfs_space.proofs.holds.last_place.Goals as goal

pub returns-then-is_hold_of : goal.returns-then-is_hold_of
returns-then-is_hold_of c =
    let short : c.loop-at.at - 1 < length c.args.holds.now = omega (arith, c.loop-at.invariant.0, c.loop-at-test.true) in
    let after : c.loop-at.at ≡ suc (c.loop-at.at - 1) = omega (arith, c.loop-at-test.true) in
    let behind = subst (λ (n : ℕ). list_any (is_hold_of c.args.session c.args.id) (drop n c.args.holds.now) ≡ false) after c.loop-at.invariant.1 in
    let here = sym c.is_hold_of.ensures ∙ c.if-is_hold_of.true in (
      short,
      subst (λ (o : Option Hold). IsSome o) (sym (last_is c.args.holds.now c.args.session c.args.id (c.loop-at.at - 1) _ short here behind)) refl,
      without_is c.args.holds.now c.args.session c.args.id (c.loop-at.at - 1) _ short here behind,
    )

pub returns : goal.returns
returns c =
    let first : c.loop-at.at ≡ 0 = omega (arith, c.loop-at-test.false) in
    no_last c.args.holds.now c.args.session c.args.id (subst (λ (n : ℕ). list_any (is_hold_of c.args.session c.args.id) (drop n c.args.holds.now) ≡ false) first c.loop-at.invariant.1)
