use Rattle.std.proofs.Common.{◌≡◌, ◌-◌, ◌∙◌, ℕ, false, refl, sym, ap, subst, arith}
use Rattle.bfs_tree.specs.declared.reply.Info.{Info}
use Rattle.bfs_look.proofs.Going.{less_left}
use Rattle.bfs_rename.proofs.Passing.{IsPassed, passing, passes, stops, ends, comes, never}
use Rattle.bfs_rename.proofs.below.leads_to.Goals as goal

pub loop-at-init : goal.loop-at-init
loop-at-init g c = record {
  told = refl;
  changed = refl;
  size = refl;
  frame = refl;
  later = record { faults = omega arith; stops = refl; stop = refl };
  way = λ v m tree lists n told ready is.
      subst (λ (k : ℕ). IsPassed tree c.args.id c.args.from k c.args.from) (sym c.blocks_in-left.ensures) (passing c.args.site.sup v m tree lists ready c.args.id c.args.from n is);
}

pub returns-then-left-eq0-clause-leads : goal.returns-then-left-eq0-clause-leads
returns-then-left-eq0-clause-leads g c v m tree lists n told ready is =
    let l = c.loop-at in
    let p = l.invariant.way v m tree lists n told ready is in
    never false refl (ends c.args.site.sup v m tree lists ready c.args.id c.args.from l.left l.at p c.loop-at-test.true c.if-left-eq0.true)

pub returns-in-Err-clause-leads : goal.returns-in-Err-clause-leads
returns-in-Err-clause-leads g c v m tree lists n told ready is =
    let i = c.loop-at.invariant in
    let p = i.way v m tree lists n told ready is in
    c.in-Err.ensures.info v m tree lists p.node (i.told ∙ told) ready p.there

pub returns-then-info-at-clause-leads : goal.returns-then-info-at-clause-leads
returns-then-info-at-clause-leads g c v m tree lists n told ready is =
    let l = c.loop-at in
    let i = l.invariant in
    let p = i.way v m tree lists n told ready is in
    let own = sym (ap (λ (x : Info). x.parent) (c.in-Ok.ensures.info v m tree lists p.node (i.told ∙ told) ready p.there)) ∙ c.if-info-at.true in
    never false refl (stops c.args.site.sup v m tree lists ready c.args.id c.args.from l.left l.at p c.loop-at-test.true own)

pub loop-at-preserved : goal.loop-at-preserved
loop-at-preserved g c =
    let l = c.loop-at in
    let i = l.invariant in
    let e = c.in-Ok.ensures in
    record {
      told = e.told ∙ i.told;
      changed = e.changed ∙ i.changed;
      size = e.size ∙ i.size;
      frame = e.frame ∙ i.frame;
      later = record { faults = omega (arith, i.later.faults, e.later.faults); stops = e.later.stops ∙ i.later.stops; stop = e.later.stop ∙ i.later.stop };
      way = λ v m tree lists n told ready is.
          let p = i.way v m tree lists n told ready is in
          let same : c.in-Ok.info.parent ≡ p.node.parent = ap (λ (x : Info). x.parent) (e.info v m tree lists p.node (i.told ∙ told) ready p.there) in
          subst (λ (k : ℕ). IsPassed tree c.args.id c.args.from (l.left - 1) k) (sym same)
          (passes c.args.site.sup v m tree lists ready c.args.id c.args.from l.left l.at p c.loop-at-test.true c.if-left-eq0.false (λ own. c.if-info-at.false (same ∙ own)));
    }

pub loop-at-smaller : goal.loop-at-smaller
loop-at-smaller g c = less_left c.loop-at.left c.if-left-eq0.false

pub returns-clause-leads : goal.returns-clause-leads
returns-clause-leads g c v m tree lists n told ready is =
    let l = c.loop-at in
    comes c.args.site.sup v m tree lists ready c.args.id c.args.from l.left l.at (l.invariant.way v m tree lists n told ready is) c.loop-at-test.false
