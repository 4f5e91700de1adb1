use Rattle.std.proofs.Common.{◌≡◌, ◌≤◌, ◌<◌, ◌-◌, ◌++◌, ◌∷◌, ◌∙◌, ℕ, List, [], take, Some, None, refl, sym, ap, subst, arith}
use Rattle.bfs_super.specs.Geometry.{geometry_of}
use Rattle.bfs_look.specs.Climbs.{Climbs}
use Rattle.bfs_look.specs.Ready.{IsReady, HasReady, HasNodeAt}
use Rattle.bfs_look.proofs.Climbing.{take_whole}
use Rattle.bfs_look.proofs.Known.{root_there}
use Rattle.bfs_look.proofs.Going.{down_node, down_back, taken_last}
use Rattle.bfs_look.proofs.way.way_down.Goals as goal

pub loop-left-init : goal.loop-left-init
loop-left-init g c = record {
  bitmap = refl;
  told = refl;
  changed = refl;
  pairs = refl;
  size = refl;
  frame = refl;
  later = record { faults = omega arith; stops = refl; stop = refl };
  few = (let e = c.count_of-left.ensures in omega (arith, e));
  node = λ m tree lists told ready. subst (HasNodeAt tree) (ready.root ∙ sym c.root_of-at.ensures) (root_there c.args.site.sup c.args.bitmap.now m tree lists ready);
  back = λ m tree lists id told ready way.
      subst (λ (k : ℕ). Climbs tree id (take c.count_of-left.result c.args.names.now) k) (ready.root ∙ sym c.root_of-at.ensures)
      (subst (λ (k : ℕ). Climbs tree id (take k c.args.names.now) tree.root) (sym c.count_of-left.ensures)
      (subst (λ (l : List (List ℕ)). Climbs tree id l tree.root) (sym (take_whole c.args.names.now)) way));
}

pub loop-left-preserved : goal.loop-left-preserved
loop-left-preserved g c =
    let l = c.loop-left in
    let i = l.invariant in
    let e = c.in-Ok.ensures in
    let s = c.args.site.sup in
    let some : 0 < l.left = c.loop-left-test.true in
    record {
      bitmap = e.bitmap ∙ i.bitmap;
      told = e.told ∙ i.told;
      changed = e.changed ∙ i.changed;
      pairs = e.pairs ∙ i.pairs;
      size = e.size ∙ i.size;
      frame = e.frame ∙ i.frame;
      later = record { faults = omega (arith, i.later.faults, e.later.faults); stops = e.later.stops ∙ i.later.stops; stop = e.later.stop ∙ i.later.stop };
      few = omega (arith, i.few);
      node = λ m tree lists told ready.
          let n = i.node m tree lists told ready in
          let r : IsReady (geometry_of s) l.bitmap m tree lists = subst (λ v. IsReady (geometry_of s) v m tree lists) (sym i.bitmap) ready in
          down_node s l.bitmap m tree lists r l.at n.0 c.name_in.result.now c.in-Ok.next c.in-Some.id n.1
          (e.row m tree lists n.0 (i.told ∙ told) r n.1) (e.leaf m tree lists n.0 (i.told ∙ told) r n.1) c.in-Some.is;
      back = λ m tree lists id told ready way.
          let n = i.node m tree lists told ready in
          let r : IsReady (geometry_of s) l.bitmap m tree lists = subst (λ v. IsReady (geometry_of s) v m tree lists) (sym i.bitmap) ready in
          let up : Climbs tree id (take (l.left - 1) c.args.names.now ++ c.name_in.result.now ∷ []) l.at =
          subst (λ (x : List ℕ). Climbs tree id (take (l.left - 1) c.args.names.now ++ x ∷ []) l.at) (sym c.name_in.ensures)
          (subst (λ (t : List (List ℕ)). Climbs tree id t l.at) (taken_last c.args.names.now l.left [] some i.few) (i.back m tree lists id told ready way)) in
          let b = down_back s l.bitmap m tree lists r id l.at n.0 (take (l.left - 1) c.args.names.now) c.name_in.result.now c.in-Ok.next n.1 up (e.row m tree lists n.0 (i.told ∙ told) r n.1) in
          let same : c.in-Some.id ≡ b.0 = (let o : Some c.in-Some.id ≡ Some b.0 = sym c.in-Some.is ∙ b.1 in cc) in
          subst (λ (k : ℕ). Climbs tree id (take (l.left - 1) c.args.names.now) k) (sym same) b.2;
    }

pub returns-in-None-clause-back : goal.returns-in-None-clause-back
returns-in-None-clause-back g c m tree lists id told ready way =
    let l = c.loop-left in
    let i = l.invariant in
    let e = c.in-Ok.ensures in
    let s = c.args.site.sup in
    let some : 0 < l.left = c.loop-left-test.true in
    let n = i.node m tree lists told ready in
    let r : IsReady (geometry_of s) l.bitmap m tree lists = subst (λ v. IsReady (geometry_of s) v m tree lists) (sym i.bitmap) ready in
    let up : Climbs tree id (take (l.left - 1) c.args.names.now ++ c.name_in.result.now ∷ []) l.at =
    subst (λ (x : List ℕ). Climbs tree id (take (l.left - 1) c.args.names.now ++ x ∷ []) l.at) (sym c.name_in.ensures)
    (subst (λ (t : List (List ℕ)). Climbs tree id t l.at) (taken_last c.args.names.now l.left [] some i.few) (i.back m tree lists id told ready way)) in
    let b = down_back s l.bitmap m tree lists r id l.at n.0 (take (l.left - 1) c.args.names.now) c.name_in.result.now c.in-Ok.next n.1 up (e.row m tree lists n.0 (i.told ∙ told) r n.1) in
    let bad : None ≡ Some b.0 = sym c.in-None.is ∙ b.1 in
    absurd (cc)

pub returns-in-Err-clause-undone : goal.returns-in-Err-clause-undone
returns-in-Err-clause-undone g c m tree lists told ready =
    let i = c.loop-left.invariant in
    c.in-Err.ensures.undone m tree lists (i.told ∙ told) (subst (λ v. IsReady (geometry_of c.args.site.sup) v m tree lists) (sym i.bitmap) ready)

pub step_down-requires-clause-ready : goal.step_down-requires-clause-ready
step_down-requires-clause-ready g c m told =
    let i = c.loop-left.invariant in
    subst (λ v. HasReady (geometry_of c.args.site.sup) v m) (sym i.bitmap) (c.requires.ready m (sym i.told ∙ told))

pub step_down-requires-clause-node : goal.step_down-requires-clause-node
step_down-requires-clause-node g c m tree lists told ready =
    let i = c.loop-left.invariant in
    i.node m tree lists (sym i.told ∙ told) (subst (λ v. IsReady (geometry_of c.args.site.sup) v m tree lists) i.bitmap ready)

pub returns-clause-node : goal.returns-clause-node
returns-clause-node g c m tree lists told ready = c.loop-left.invariant.node m tree lists told ready

pub returns-clause-back : goal.returns-clause-back
returns-clause-back g c m tree lists id told ready way =
    let l = c.loop-left in
    let none : l.left ≡ 0 = (let over : l.left ≤ 0 = c.loop-left-test.false in omega (arith, over)) in
    let b : Climbs tree id [] l.at = subst (λ (k : ℕ). Climbs tree id (take k c.args.names.now) l.at) none (l.invariant.back m tree lists id told ready way) in
    ap (λ (k : ℕ). Some k) (sym b)
