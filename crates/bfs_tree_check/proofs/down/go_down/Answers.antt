use Rattle.std.proofs.Common.{◌≤◌, ◌<◌, ◌+◌, ◌/◌, ◌∷◌, ◌∙◌, List, length, drop, get_or, refl, sym, ap, subst, arith}
use Rattle.std.proofs.lemmas.List.{drop_more, drop_all}
use Rattle.bfs_pages.proofs.Later.{later-twice}
use Rattle.bfs_tree_check.specs.Levels.{IsInside, AreInside, IsHalf}
use Rattle.bfs_tree_check.specs.Marked.{marked}
use Rattle.bfs_tree_check.specs.declared.item.Item.{Item}
use Rattle.bfs_tree_check.specs.declared.item.Item.TheVariants as item
use Rattle.bfs_tree_check.proofs.Joined.{all_at}
use Rattle.bfs_tree_check.proofs.Halves.{level_begins}
use Rattle.bfs_tree_check.proofs.down.go_down.Goals as goal

pub pass-requires-clause-item : goal.pass-requires-clause-item
pass-requires-clause-item g c =
    subst (λ n. IsInside n (get_or c.args.level.now c.loop-item.item-index (item.Page 0))) (sym c.loop-item.invariant.size)
    (all_at (IsInside (g.P.Pages.size c.args.pages.now)) c.args.level.now c.loop-item.item-index (item.Page 0) c.loop-item-test.true c.requires.inside)

pub pass-requires-clause-small : goal.pass-requires-clause-small
pass-requires-clause-small g c = subst (λ n. n < 9223372036854775808) (sym c.loop-item.invariant.size) c.requires.small

pub pass-requires-clause-length : goal.pass-requires-clause-length
pass-requires-clause-length g c = c.loop-item.invariant.long ∙ c.requires.length ∙ ap (λ n. n / 1024) (sym c.loop-item.invariant.size)

pub returns-in-Err-clause-wrong : goal.returns-in-Err-clause-wrong
returns-in-Err-clause-wrong g c = λ b n told level.
    let items : List Item = c.args.level.now in
    let i = c.loop-item.item-index in
    let x : Item = get_or items i (item.Page 0) in
    let next : List Item = c.loop-item.next.items in
    let size = g.P.Pages.size c.args.pages.now in
    let half : IsHalf c.args.kind b n next (x ∷ drop (i + 1) items) (marked size c.loop-item.marks) = subst (λ l. IsHalf c.args.kind b n next l (marked size c.loop-item.marks)) (drop_more items i (item.Page 0) c.loop-item-test.true) (c.loop-item.invariant.half b n told level) in
    c.in-Err.ensures.wrong b n (drop (i + 1) items) (c.loop-item.invariant.told ∙ told) (subst (λ s. IsHalf c.args.kind b n next (x ∷ drop (i + 1) items) (marked s c.loop-item.marks)) (sym c.loop-item.invariant.size) half)

pub loop-item-preserved : goal.loop-item-preserved
loop-item-preserved g c =
    let items : List Item = c.args.level.now in
    let i = c.loop-item.item-index in
    let x : Item = get_or items i (item.Page 0) in
    let next : List Item = c.loop-item.next.items in
    let size = g.P.Pages.size c.args.pages.now in
    record {
      told = c.in-Ok.ensures.told ∙ c.loop-item.invariant.told;
      size = c.in-Ok.ensures.size ∙ c.loop-item.invariant.size;
      later = later-twice c.loop-item.invariant.later c.in-Ok.ensures.counts;
      frame = c.in-Ok.ensures.frame ∙ c.loop-item.invariant.frame;
      goes_on = g.met.P.Pages.goes_on_twice _ _ _ c.loop-item.invariant.goes_on c.in-Ok.ensures.goes_on;
      is_read = g.met.P.Pages.is_read_twice _ _ _ c.loop-item.invariant.is_read c.in-Ok.ensures.is_read;
      long = c.in-Ok.ensures.length ∙ c.loop-item.invariant.long;
      inside = subst (λ n. AreInside n c.pass.new.items.items) c.loop-item.invariant.size (c.in-Ok.ensures.inside (subst (λ n. AreInside n next) (sym c.loop-item.invariant.size) c.loop-item.invariant.inside));
      half = λ b n told level.
          let half : IsHalf c.args.kind b n next (x ∷ drop (i + 1) items) (marked size c.loop-item.marks) = subst (λ l. IsHalf c.args.kind b n next l (marked size c.loop-item.marks)) (drop_more items i (item.Page 0) c.loop-item-test.true) (c.loop-item.invariant.half b n told level) in
          subst (λ s. IsHalf c.args.kind b n c.pass.new.items.items (drop (i + 1) items) (marked s c.pass.new.marks)) c.loop-item.invariant.size
          (c.in-Ok.ensures.level b n (drop (i + 1) items) (c.loop-item.invariant.told ∙ told) (subst (λ s. IsHalf c.args.kind b n next (x ∷ drop (i + 1) items) (marked s c.loop-item.marks)) (sym c.loop-item.invariant.size) half));
    }

pub loop-item-init : goal.loop-item-init
loop-item-init g c = record {
  told = refl;
  size = refl;
  later = record { faults = omega arith; stops = refl; stop = refl };
  frame = refl;
  goes_on = g.met.P.Pages.goes_on_same c.args.pages.now;
  is_read = g.met.P.Pages.is_read_same c.args.pages.now;
  long = refl;
  inside = subst (AreInside (g.P.Pages.size c.args.pages.now)) (sym c.new-next.ensures.items) tt;
  half = λ b n told level.
      subst (λ l. IsHalf c.args.kind b n l c.args.level.now (marked (g.P.Pages.size c.args.pages.now) c.args.marks.now)) (sym c.new-next.ensures.items)
      (level_begins c.args.kind b n c.args.level.now (marked (g.P.Pages.size c.args.pages.now) c.args.marks.now) level);
}

pub returns-clause-level : goal.returns-clause-level
returns-clause-level g c = λ b n told level.
    let behind : length c.args.level.now ≤ c.loop-item.item-index = let t = c.loop-item-test.false in omega (arith, t) in
    subst (λ l. IsHalf c.args.kind b n c.loop-item.next.items l (marked (g.P.Pages.size c.args.pages.now) c.loop-item.marks)) (drop_all c.loop-item.item-index c.args.level.now behind)
    (c.loop-item.invariant.half b n told level)
