use Rattle.std.proofs.Common.{◌≡◌, ◌≢◌, ◌∙◌, ℕ, Some, None, refl, sym, subst, arith}
use Rattle.bfs_look.specs.Climbs.{Climbs}
use Rattle.bfs_look.proofs.Going.{IsOnWay, way_begins, way_steps, way_has_left, less_left}
use Rattle.bfs_look.proofs.way.way_up.Goals as goal

pub loop-at-init : goal.loop-at-init
loop-at-init g c = record {
  told = refl;
  changed = refl;
  pairs = refl;
  size = refl;
  frame = refl;
  later = record { faults = omega arith; stops = refl; stop = refl };
  way = λ v m tree lists n told ready is.
      subst (λ (k : ℕ). IsOnWay tree c.args.id c.args.names.now.items k c.args.id) (sym c.blocks_in-left.ensures) (way_begins c.args.site.sup v m tree lists ready c.args.id n c.args.names.now.items is c.requires.empty);
}

pub loop-at-preserved : goal.loop-at-preserved
loop-at-preserved g c =
    let l = c.loop-at in
    let i = l.invariant in
    let e = c.in-Ok.ensures in
    record {
      told = e.told ∙ i.told;
      changed = e.changed ∙ i.changed;
      pairs = e.pairs ∙ i.pairs;
      size = e.size ∙ i.size;
      frame = e.frame ∙ i.frame;
      later = record { faults = omega (arith, i.later.faults, e.later.faults); stops = e.later.stops ∙ i.later.stops; stop = e.later.stop ∙ i.later.stop };
      way = λ v m tree lists n told ready is.
          let way = i.way v m tree lists n told ready is in
          let apart : l.at ≢ tree.root = λ same. c.loop-at-test.true (same ∙ ready.root ∙ sym c.root_of-root.ensures) in
          way_steps c.args.site.sup v m tree lists ready c.args.id l.names.items c.step_up.new.names.items l.left l.at way apart c.if-left-eq0.false
          (e.name v m tree lists way.node (i.told ∙ told) ready way.there apart) c.in-Some.parent
          (sym c.in-Some.is ∙ e.parent v m tree lists way.node (i.told ∙ told) ready way.there apart);
    }

pub loop-at-smaller : goal.loop-at-smaller
loop-at-smaller g c = less_left c.loop-at.left c.if-left-eq0.false

pub returns-then-left-eq0-clause-up : goal.returns-then-left-eq0-clause-up
returns-then-left-eq0-clause-up g c v m tree lists n told ready is =
    let l = c.loop-at in
    let way = l.invariant.way v m tree lists n told ready is in
    absurd (way_has_left tree c.args.id l.names.items l.left l.at way (λ same. c.loop-at-test.true (same ∙ ready.root ∙ sym c.root_of-root.ensures)) c.if-left-eq0.true)

pub returns-then-left-eq0-clause-way : goal.returns-then-left-eq0-clause-way
returns-then-left-eq0-clause-way g c v m tree lists n told ready is =
    let l = c.loop-at in
    let way = l.invariant.way v m tree lists n told ready is in
    absurd (way_has_left tree c.args.id l.names.items l.left l.at way (λ same. c.loop-at-test.true (same ∙ ready.root ∙ sym c.root_of-root.ensures)) c.if-left-eq0.true)

pub returns-in-None-clause-up : goal.returns-in-None-clause-up
returns-in-None-clause-up g c v m tree lists n told ready is =
    let l = c.loop-at in
    let i = l.invariant in
    let way = i.way v m tree lists n told ready is in
    let apart : l.at ≢ tree.root = λ same. c.loop-at-test.true (same ∙ ready.root ∙ sym c.root_of-root.ensures) in
    let bad : None ≡ Some way.node.parent = sym c.in-None.is ∙ c.in-Ok.ensures.parent v m tree lists way.node (i.told ∙ told) ready way.there apart in
    absurd (cc)

pub returns-in-None-clause-way : goal.returns-in-None-clause-way
returns-in-None-clause-way g c v m tree lists n told ready is =
    let l = c.loop-at in
    let i = l.invariant in
    let way = i.way v m tree lists n told ready is in
    let apart : l.at ≢ tree.root = λ same. c.loop-at-test.true (same ∙ ready.root ∙ sym c.root_of-root.ensures) in
    let bad : None ≡ Some way.node.parent = sym c.in-None.is ∙ c.in-Ok.ensures.parent v m tree lists way.node (i.told ∙ told) ready way.there apart in
    absurd (cc)

pub returns-clause-way : goal.returns-clause-way
returns-clause-way g c v m tree lists n told ready is =
    let l = c.loop-at in
    let way = l.invariant.way v m tree lists n told ready is in
    subst (λ (k : ℕ). Climbs tree c.args.id l.names.items k) (c.loop-at-test.false ∙ c.root_of-root.ensures ∙ sym ready.root) way.climbs
