use Rattle.std.proofs.Common.{◌≡◌, ◌<◌, ◌-◌, ◌/◌, ◌∙◌, ℕ, suc, refl, sym, ap, subst, arith}
use Rattle.bfs_pages.proofs.Later.{later-twice}
use Rattle.bfs_tree_check.specs.Levels.{AreInside, IsLevel}
use Rattle.bfs_tree_check.specs.Marked.{marked}
use Rattle.bfs_tree_check.proofs.Halves.{root_level}
use Rattle.bfs_tree_check.proofs.gather.lowest_level.Goals as goal

pub go_down-requires-clause-inside : goal.go_down-requires-clause-inside
go_down-requires-clause-inside g c =
    subst (λ n. AreInside n c.deref.result.now) (sym c.loop-left.invariant.size) (subst (AreInside (g.P.Pages.size c.args.pages.now)) (sym c.deref.ensures.value) c.loop-left.invariant.inside)

pub go_down-requires-clause-small : goal.go_down-requires-clause-small
go_down-requires-clause-small g c = subst (λ n. n < 9223372036854775808) (sym c.loop-left.invariant.size) c.requires.small

pub go_down-requires-clause-length : goal.go_down-requires-clause-length
go_down-requires-clause-length g c = c.loop-left.invariant.long ∙ c.requires.length ∙ ap (λ n. n / 1024) (sym c.loop-left.invariant.size)

pub returns-in-Err-go_down-clause-wrong : goal.returns-in-Err-go_down-clause-wrong
returns-in-Err-go_down-clause-wrong g c = λ b told root levels marks.
    let size = g.P.Pages.size c.args.pages.now in
    let n : ℕ = c.loop-left.left - 1 in
    let one_less : c.loop-left.left ≡ suc n = let t = c.loop-left-test.true in omega (arith, t) in
    let here : IsLevel c.args.kind b (suc n) c.loop-left.level.items (marked size c.loop-left.marks) = subst (λ k. IsLevel c.args.kind b k c.loop-left.level.items (marked size c.loop-left.marks)) one_less (c.loop-left.invariant.opened b told root levels marks) in
    c.in-Err-go_down.ensures.wrong b n (c.loop-left.invariant.told ∙ told)
    (subst (λ s. IsLevel c.args.kind b (suc n) c.deref.result.now (marked s c.loop-left.marks)) (sym c.loop-left.invariant.size) (subst (λ l. IsLevel c.args.kind b (suc n) l (marked size c.loop-left.marks)) (sym c.deref.ensures.value) here))

pub loop-left-preserved : goal.loop-left-preserved
loop-left-preserved g c =
    let size = g.P.Pages.size c.args.pages.now in
    let n : ℕ = c.loop-left.left - 1 in
    let one_less : c.loop-left.left ≡ suc n = let t = c.loop-left-test.true in omega (arith, t) in
    record {
      told = c.in-Ok-go_down.ensures.told ∙ c.loop-left.invariant.told;
      size = c.in-Ok-go_down.ensures.size ∙ c.loop-left.invariant.size;
      later = later-twice c.loop-left.invariant.later c.in-Ok-go_down.ensures.counts;
      frame = c.in-Ok-go_down.ensures.frame ∙ c.loop-left.invariant.frame;
      goes_on = g.met.P.Pages.goes_on_twice _ _ _ c.loop-left.invariant.goes_on c.in-Ok-go_down.ensures.goes_on;
      is_read = g.met.P.Pages.is_read_twice _ _ _ c.loop-left.invariant.is_read c.in-Ok-go_down.ensures.is_read;
      long = c.in-Ok-go_down.ensures.length ∙ c.loop-left.invariant.long;
      inside = subst (λ s. AreInside s c.in-Ok-go_down.next.items) c.loop-left.invariant.size c.in-Ok-go_down.ensures.inside;
      opened = λ b told root levels marks.
          let here : IsLevel c.args.kind b (suc n) c.loop-left.level.items (marked size c.loop-left.marks) = subst (λ k. IsLevel c.args.kind b k c.loop-left.level.items (marked size c.loop-left.marks)) one_less (c.loop-left.invariant.opened b told root levels marks) in
          subst (λ s. IsLevel c.args.kind b n c.in-Ok-go_down.next.items (marked s c.go_down.new.marks)) c.loop-left.invariant.size
          (c.in-Ok-go_down.ensures.level b n (c.loop-left.invariant.told ∙ told)
          (subst (λ s. IsLevel c.args.kind b (suc n) c.deref.result.now (marked s c.loop-left.marks)) (sym c.loop-left.invariant.size) (subst (λ l. IsLevel c.args.kind b (suc n) l (marked size c.loop-left.marks)) (sym c.deref.ensures.value) here)));
    }

pub loop-left-init : goal.loop-left-init
loop-left-init g c =
    let size = g.P.Pages.size c.args.pages.now in
    record {
      told = refl;
      size = refl;
      later = record { faults = omega arith; stops = refl; stop = refl };
      frame = refl;
      goes_on = g.met.P.Pages.goes_on_same c.args.pages.now;
      is_read = g.met.P.Pages.is_read_same c.args.pages.now;
      long = refl;
      inside = subst (AreInside size) (sym c.in-Ok.ensures) (c.requires.root, tt);
      opened = λ b told root levels marks.
          subst (λ l. IsLevel c.args.kind b c.args.levels l (marked size c.args.marks.now)) (sym c.in-Ok.ensures)
          (root_level c.args.kind b c.args.root c.args.levels (marked size c.args.marks.now) root levels marks);
    }

pub returns-clause-level : goal.returns-clause-level
returns-clause-level g c = λ b told root levels marks.
    let none : c.loop-left.left ≡ 0 = let t = c.loop-left-test.false in omega (arith, t) in
    subst (λ k. IsLevel c.args.kind b k c.loop-left.level.items (marked (g.P.Pages.size c.args.pages.now) c.loop-left.marks)) none (c.loop-left.invariant.opened b told root levels marks)
