use Rattle.std.proofs.Common.{◌≡◌, ◌<◌, ◌-◌, ◌/◌, ◌++◌, ◌∷◌, [], ◌∙◌, ℕ, suc, List, length, refl, sym, ap, subst, arith}
use Rattle.bfs_pages.specs.Answers.{IsChild, IsLink}
use Rattle.bfs_pages.proofs.Later.{later-twice}
use Rattle.bfs_pages.proofs.OfKind.{if_some}
use Rattle.bfs_values.proofs.Chains.{the-child}
use Rattle.bfs_tree_check.specs.Freed.{IsFreeing}
use Rattle.bfs_tree_check.specs.Marked.{marked}
use Rattle.bfs_tree_check.proofs.Freeing.{free_begins, free_ends, free_within}
use Rattle.bfs_tree_check.proofs.free.check_free_list.Goals as goal

pub free_at-requires-clause-at : goal.free_at-requires-clause-at
free_at-requires-clause-at g c =
    subst (λ n. IsChild n c.loop-left.at) (sym c.loop-left.invariant.size)
    (the-child (g.P.Pages.size c.args.pages.now) c.loop-left.at c.loop-left.invariant.link (λ e. let f = c.if-at-eq0.false in omega (arith, e, f)))

pub free_at-requires-clause-small : goal.free_at-requires-clause-small
free_at-requires-clause-small g c = subst (λ n. n < 9223372036854775808) (sym c.loop-left.invariant.size) c.requires.small

pub free_at-requires-clause-length : goal.free_at-requires-clause-length
free_at-requires-clause-length g c = c.loop-left.invariant.long ∙ c.requires.length ∙ ap (λ n. n / 1024) (sym c.loop-left.invariant.size)

pub returns-then-at-eq0-clause-freed : goal.returns-then-at-eq0-clause-freed
returns-then-at-eq0-clause-freed g c = λ kind b told first marks.
    let f = c.loop-left.invariant.freeing kind b told first marks in
    free_ends kind b f.0 c.loop-left.left c.loop-left.at (marked (g.P.Pages.size c.args.pages.now) c.loop-left.marks) c.if-at-eq0.true f.1

pub returns-in-Err-clause-wrong : goal.returns-in-Err-clause-wrong
returns-in-Err-clause-wrong g c = λ kind b told first marks.
    let f = c.loop-left.invariant.freeing kind b told first marks in
    let size = g.P.Pages.size c.args.pages.now in
    let one_less : c.loop-left.left ≡ suc (c.loop-left.left - 1) = let t = c.loop-left-test.true in omega (arith, t) in
    c.in-Err.ensures.wrong kind b f.0 (c.loop-left.left - 1) (c.loop-left.invariant.told ∙ told)
    (subst (λ s. IsFreeing kind b f.0 (suc (c.loop-left.left - 1)) c.loop-left.at (marked s c.loop-left.marks)) (sym c.loop-left.invariant.size) (subst (λ n. IsFreeing kind b f.0 n c.loop-left.at (marked size c.loop-left.marks)) one_less f.1))

pub loop-left-preserved : goal.loop-left-preserved
loop-left-preserved g c =
    let size = g.P.Pages.size c.args.pages.now in
    let one_less : c.loop-left.left ≡ suc (c.loop-left.left - 1) = let t = c.loop-left-test.true in omega (arith, t) in
    record {
      told = c.in-Ok.ensures.told ∙ c.loop-left.invariant.told;
      size = c.in-Ok.ensures.size ∙ c.loop-left.invariant.size;
      later = later-twice c.loop-left.invariant.later c.in-Ok.ensures.counts;
      frame = c.in-Ok.ensures.frame ∙ c.loop-left.invariant.frame;
      goes_on = g.met.P.Pages.goes_on_twice _ _ _ c.loop-left.invariant.goes_on c.in-Ok.ensures.goes_on;
      is_read = g.met.P.Pages.is_read_twice _ _ _ c.loop-left.invariant.is_read c.in-Ok.ensures.is_read;
      long = c.in-Ok.ensures.length ∙ c.loop-left.invariant.long;
      link = subst (λ n. IsLink n c.in-Ok.next) c.loop-left.invariant.size c.in-Ok.ensures.link;
      freeing = λ kind b told first marks.
          let f = c.loop-left.invariant.freeing kind b told first marks in (
            f.0 ++ c.loop-left.at ∷ [],
            subst (λ s. IsFreeing kind b (f.0 ++ c.loop-left.at ∷ []) (c.loop-left.left - 1) c.in-Ok.next (marked s c.free_at.new.marks)) c.loop-left.invariant.size
                (c.in-Ok.ensures.freeing kind b f.0 (c.loop-left.left - 1) (c.loop-left.invariant.told ∙ told)
                (subst (λ s. IsFreeing kind b f.0 (suc (c.loop-left.left - 1)) c.loop-left.at (marked s c.loop-left.marks)) (sym c.loop-left.invariant.size) (subst (λ n. IsFreeing kind b f.0 n c.loop-left.at (marked size c.loop-left.marks)) one_less f.1))),
          );
    }

pub loop-left-init : goal.loop-left-init
loop-left-init g c = record {
  told = refl;
  size = refl;
  later = record { faults = omega arith; stops = refl; stop = refl };
  frame = refl;
  goes_on = g.met.P.Pages.goes_on_same c.args.pages.now;
  is_read = g.met.P.Pages.is_read_same c.args.pages.now;
  long = refl;
  link = c.requires.first;
  freeing = λ kind b told first marks.
      let long = if_some (λ (z : List ℕ). length z ≡ g.P.Pages.size c.args.pages.now) _ b (g.met.P.Pages.sized c.args.pages.now) told in
      ([], free_begins kind b c.args.first (c.length-left.result / 1024) (marked (g.P.Pages.size c.args.pages.now) c.args.marks.now) first (ap (λ n. n / 1024) (c.length-left.ensures ∙ sym long)) marks);
}

pub returns-clause-freed : goal.returns-clause-freed
returns-clause-freed g c = λ kind b told first marks.
    let f = c.loop-left.invariant.freeing kind b told first marks in
    let size = g.P.Pages.size c.args.pages.now in
    let long = if_some (λ (z : List ℕ). length z ≡ size) _ b (g.met.P.Pages.sized c.args.pages.now) told in
    let none : c.loop-left.left ≡ 0 = let t = c.loop-left-test.false in omega (arith, t) in
    absurd (free_within kind b f.0 size c.loop-left.at c.loop-left.marks long (g.met.P.Pages.whole c.args.pages.now) (subst (λ n. IsFreeing kind b f.0 n c.loop-left.at (marked size c.loop-left.marks)) none f.1))
