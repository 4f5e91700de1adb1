use Rattle.std.proofs.Common.{◌≡◌, ◌≢◌, ◌<◌, ◌-◌, ◌/◌, ◌++◌, ◌∷◌, [], ◌∙◌, ℕ, suc, List, length, refl, sym, ap, subst, arith}
use Rattle.bfs_pages.specs.Answers.{IsChild, IsLink}
use Rattle.bfs_pages.proofs.Later.{later-twice}
use Rattle.bfs_pages.proofs.OfKind.{if_some}
use Rattle.bfs_values.proofs.Chains.{the-child}
use Rattle.bfs_tree_check.specs.Marked.{marked}
use Rattle.bfs_value_walk.specs.Chained.{IsChaining, IsChained}
use Rattle.bfs_value_walk.proofs.Chaining.{chain_begins, chain_within}
use Rattle.bfs_value_walk.proofs.chain.claim_chain.Goals as goal

pub chain_at-requires-clause-at : goal.chain_at-requires-clause-at
chain_at-requires-clause-at g c = subst (λ n. IsChild n c.loop-left.at) (sym c.loop-left.invariant.size) c.loop-left.invariant.child

pub chain_at-requires-clause-small : goal.chain_at-requires-clause-small
chain_at-requires-clause-small g c = subst (λ n. n < 9223372036854775808) (sym c.loop-left.invariant.size) c.requires.small

pub chain_at-requires-clause-length : goal.chain_at-requires-clause-length
chain_at-requires-clause-length g c = c.loop-left.invariant.long ∙ c.requires.length ∙ ap (λ n. n / 1024) (sym c.loop-left.invariant.size)

pub returns-in-Err-clause-wrong : goal.returns-in-Err-clause-wrong
returns-in-Err-clause-wrong g c = λ kind b told own.
    let f = c.loop-left.invariant.chaining b told in
    let size = g.P.Pages.size c.args.pages.now in
    let one_less : c.loop-left.left ≡ suc (c.loop-left.left - 1) = let t = c.loop-left-test.true in omega (arith, t) in
    c.in-Err.ensures.wrong kind b c.args.first f.0 (c.loop-left.left - 1) (marked size c.args.marks.now) (c.loop-left.invariant.told ∙ told) own
    (subst (λ s. IsChaining b c.args.first f.0 (suc (c.loop-left.left - 1)) c.loop-left.at c.loop-left.numbers.items (marked size c.args.marks.now) (marked s c.loop-left.marks)) (sym c.loop-left.invariant.size)
    (subst (λ n. IsChaining b c.args.first f.0 n c.loop-left.at c.loop-left.numbers.items (marked size c.args.marks.now) (marked size c.loop-left.marks)) one_less f.1))

pub returns-then-next-eq0-clause-chained : goal.returns-then-next-eq0-clause-chained
returns-then-next-eq0-clause-chained g c = λ b told header.
    let f = c.loop-left.invariant.chaining b told in
    let size = g.P.Pages.size c.args.pages.now in
    let one_less : c.loop-left.left ≡ suc (c.loop-left.left - 1) = let t = c.loop-left-test.true in omega (arith, t) in
    subst (λ s. IsChained b c.args.first c.chain_at.new.numbers.items (marked size c.args.marks.now) (marked s c.chain_at.new.marks)) c.loop-left.invariant.size
    (c.in-Ok.ensures.chained b c.args.first f.0 (c.loop-left.left - 1) (marked size c.args.marks.now) (c.loop-left.invariant.told ∙ told)
    (subst (λ s. IsChaining b c.args.first f.0 (suc (c.loop-left.left - 1)) c.loop-left.at c.loop-left.numbers.items (marked size c.args.marks.now) (marked s c.loop-left.marks)) (sym c.loop-left.invariant.size)
    (subst (λ n. IsChaining b c.args.first f.0 n c.loop-left.at c.loop-left.numbers.items (marked size c.args.marks.now) (marked size c.loop-left.marks)) one_less f.1)) c.if-next-eq0.true)

pub loop-left-preserved : goal.loop-left-preserved
loop-left-preserved g c =
    let size = g.P.Pages.size c.args.pages.now in
    let one_less : c.loop-left.left ≡ suc (c.loop-left.left - 1) = let t = c.loop-left-test.true in omega (arith, t) in
    let off : c.in-Ok.next ≢ 0 = λ e. let f = c.if-next-eq0.false in f e in
    record {
      told = c.in-Ok.ensures.told ∙ c.loop-left.invariant.told;
      size = c.in-Ok.ensures.size ∙ c.loop-left.invariant.size;
      later = later-twice c.loop-left.invariant.later c.in-Ok.ensures.counts;
      frame = c.in-Ok.ensures.frame ∙ c.loop-left.invariant.frame;
      goes_on = g.met.P.Pages.goes_on_twice _ _ _ c.loop-left.invariant.goes_on c.in-Ok.ensures.goes_on;
      is_read = g.met.P.Pages.is_read_twice _ _ _ c.loop-left.invariant.is_read c.in-Ok.ensures.is_read;
      long = c.in-Ok.ensures.length ∙ c.loop-left.invariant.long;
      child = the-child size c.in-Ok.next (subst (λ n. IsLink n c.in-Ok.next) c.loop-left.invariant.size c.in-Ok.ensures.link) off;
      chaining = λ b told.
          let f = c.loop-left.invariant.chaining b told in (
            f.0 ++ c.loop-left.at ∷ [],
            subst (λ s. IsChaining b c.args.first (f.0 ++ c.loop-left.at ∷ []) (c.loop-left.left - 1) c.in-Ok.next c.chain_at.new.numbers.items (marked size c.args.marks.now) (marked s c.chain_at.new.marks)) c.loop-left.invariant.size
                (c.in-Ok.ensures.chaining b c.args.first f.0 (c.loop-left.left - 1) (marked size c.args.marks.now) (c.loop-left.invariant.told ∙ told)
                (subst (λ s. IsChaining b c.args.first f.0 (suc (c.loop-left.left - 1)) c.loop-left.at c.loop-left.numbers.items (marked size c.args.marks.now) (marked s c.loop-left.marks)) (sym c.loop-left.invariant.size)
                (subst (λ n. IsChaining b c.args.first f.0 n c.loop-left.at c.loop-left.numbers.items (marked size c.args.marks.now) (marked size c.loop-left.marks)) one_less f.1)) off),
          );
    }

pub loop-left-init : goal.loop-left-init
loop-left-init g c = record {
  told = refl;
  size = refl;
  later = record { faults = omega arith; stops = refl; stop = refl };
  frame = refl;
  goes_on = g.met.P.Pages.goes_on_same c.args.pages.now;
  is_read = g.met.P.Pages.is_read_same c.args.pages.now;
  long = refl;
  child = c.requires.first;
  chaining = λ b told.
      let long = if_some (λ (z : List ℕ). length z ≡ g.P.Pages.size c.args.pages.now) _ b (g.met.P.Pages.sized c.args.pages.now) told in
      ([], chain_begins b c.args.first (c.length-left.result / 1024) c.args.numbers.now.items (marked (g.P.Pages.size c.args.pages.now) c.args.marks.now) (ap (λ n. n / 1024) (c.length-left.ensures ∙ sym long)) c.requires.none);
}

pub returns-clause-chained : goal.returns-clause-chained
returns-clause-chained g c = λ b told header.
    let f = c.loop-left.invariant.chaining b told in
    let size = g.P.Pages.size c.args.pages.now in
    let long = if_some (λ (z : List ℕ). length z ≡ size) _ b (g.met.P.Pages.sized c.args.pages.now) told in
    let none : c.loop-left.left ≡ 0 = let t = c.loop-left-test.false in omega (arith, t) in
    absurd {A = IsChained b c.args.first c.loop-left.numbers.items (marked size c.args.marks.now) (marked size c.loop-left.marks)}
    (chain_within b c.args.first f.0 size c.loop-left.at c.loop-left.numbers.items c.args.marks.now c.loop-left.marks long (g.met.P.Pages.whole c.args.pages.now) header
    (subst (λ n. IsChaining b c.args.first f.0 n c.loop-left.at c.loop-left.numbers.items (marked size c.args.marks.now) (marked size c.loop-left.marks)) none f.1))
