use Rattle.std.proofs.Common.{◌≤◌, ◌+◌, ◌∙◌, List, length, take, drop, get_or, inl, refl, sym, ap, subst, arith}
use Rattle.std.specs.List.{flat_map}
use Rattle.std.proofs.lemmas.List.{take_all}
use Rattle.bfs_pages.proofs.Later.{later-twice}
use Rattle.bfs_pages.specs.Shapes.{AscendAll}
use Rattle.bfs_pages.specs.Trees.{state_of}
use Rattle.bfs_finding.specs.Walks.{Met}
use Rattle.bfs_walk.specs.Walked.{entries_alone}
use Rattle.bfs_tree_check.specs.Levels.{IsInside, met_in}
use Rattle.bfs_tree_check.specs.Ordered.{IsUpTo, IsKnown}
use Rattle.bfs_tree_check.specs.declared.item.Item.{Item}
use Rattle.bfs_tree_check.specs.declared.item.Item.TheVariants as item
use Rattle.bfs_tree_check.proofs.Joined.{all_at}
use Rattle.bfs_tree_check.proofs.Ascending.{flat_apart, flat_next}
use Rattle.bfs_tree_check.proofs.ascent.check_order.Goals as goal

pub order_item-requires-clause-item : goal.order_item-requires-clause-item
order_item-requires-clause-item g c =
    subst (λ n. IsInside n (get_or c.args.level.now c.loop-item.item-index (item.Page 0))) (sym c.loop-item.invariant.size)
    (all_at (IsInside (g.P.Pages.size c.args.pages.now)) c.args.level.now c.loop-item.item-index (item.Page 0) c.loop-item-test.true c.requires.inside)

pub returns-in-Err-clause-wrong : goal.returns-in-Err-clause-wrong
returns-in-Err-clause-wrong g c = λ b told flat all.
    let level : List Item = c.args.level.now in
    let i = c.loop-item.item-index in
    let f : Item → List Met = met_in (state_of c.args.kind b).bodies 0 in
    c.in-Err.ensures.wrong b (flat_map f (take i level)) (flat_map f (drop (i + 1) level)) (c.loop-item.invariant.told ∙ told) (all_at (IsKnown c.args.kind b) level i (item.Page 0) c.loop-item-test.true all)
    (flat ∙ flat_apart f level i (item.Page 0) c.loop-item-test.true) (c.loop-item.invariant.up b told flat all)

pub loop-item-preserved : goal.loop-item-preserved
loop-item-preserved g c = record {
  told = c.in-Ok.ensures.told ∙ c.loop-item.invariant.told;
  size = c.in-Ok.ensures.size ∙ c.loop-item.invariant.size;
  later = later-twice c.loop-item.invariant.later c.in-Ok.ensures.counts;
  frame = c.in-Ok.ensures.frame ∙ c.loop-item.invariant.frame;
  goes_on = g.met.P.Pages.goes_on_twice _ _ _ c.loop-item.invariant.goes_on c.in-Ok.ensures.goes_on;
  is_read = g.met.P.Pages.is_read_twice _ _ _ c.loop-item.invariant.is_read c.in-Ok.ensures.is_read;
  last = c.in-Ok.ensures.last;
  up = λ b told flat all.
      let level : List Item = c.args.level.now in
      let i = c.loop-item.item-index in
      let f : Item → List Met = met_in (state_of c.args.kind b).bodies 0 in
      subst (λ l. IsUpTo c.args.kind l c.order_item.new.last.items) (sym (flat_next f level i (item.Page 0) c.loop-item-test.true))
      (c.in-Ok.ensures.up b (flat_map f (take i level)) (flat_map f (drop (i + 1) level)) (c.loop-item.invariant.told ∙ told) (all_at (IsKnown c.args.kind b) level i (item.Page 0) c.loop-item-test.true all)
      (flat ∙ flat_apart f level i (item.Page 0) c.loop-item-test.true) (c.loop-item.invariant.up b told flat all));
}

pub loop-item-init : goal.loop-item-init
loop-item-init g c = record {
  told = refl;
  size = refl;
  later = record { faults = omega arith; stops = refl; stop = refl };
  frame = refl;
  goes_on = g.met.P.Pages.goes_on_same c.args.pages.now;
  is_read = g.met.P.Pages.is_read_same c.args.pages.now;
  last = λ some. absurd (some (ap length c.new-last.ensures.items));
  up = λ b told flat all. record { ascend = tt; end = inl (refl, ap length c.new-last.ensures.items) };
}

pub returns-clause-ascends : goal.returns-clause-ascends
returns-clause-ascends g c = λ b told flat all.
    let level : List Item = c.args.level.now in
    let behind : length level ≤ c.loop-item.item-index = let t = c.loop-item-test.false in omega (arith, t) in
    let f : Item → List Met = met_in (state_of c.args.kind b).bodies 0 in
    subst (λ l. AscendAll c.args.kind (entries_alone l)) (ap (flat_map f) (take_all c.loop-item.item-index level behind) ∙ sym flat) (c.loop-item.invariant.up b told flat all).ascend
