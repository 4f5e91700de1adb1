use Rattle.std.proofs.Common.{◌≤◌, ◌<◌, ◌+◌, ◌/◌, ◌∷◌, ◌++◌, [], ◌∙◌, ℕ, List, length, take, drop, get_or, refl, sym, ap, subst, arith}
use Rattle.std.proofs.lemmas.List.{take_more, take_all, drop_more, drop_all}
use Rattle.bfs_pages.specs.Answers.{IsChild}
use Rattle.bfs_pages.proofs.Later.{later-twice}
use Rattle.bfs_tree_check.specs.Levels.{IsLooking}
use Rattle.bfs_tree_check.specs.Marked.{marked}
use Rattle.bfs_tree_check.proofs.Joined.{all_at}
use Rattle.bfs_tree_check.proofs.leaves.look_at_leaves.Goals as goal

pub leaf_at-requires-clause-at : goal.leaf_at-requires-clause-at
leaf_at-requires-clause-at g c =
    subst (λ n. IsChild n (get_or c.args.leaves.now c.loop-at.at-index 0)) (sym c.loop-at.invariant.size)
    (all_at (IsChild (g.P.Pages.size c.args.pages.now)) c.args.leaves.now c.loop-at.at-index 0 c.loop-at-test.true c.requires.inside)

pub leaf_at-requires-clause-small : goal.leaf_at-requires-clause-small
leaf_at-requires-clause-small g c = subst (λ n. n < 9223372036854775808) (sym c.loop-at.invariant.size) c.requires.small

pub leaf_at-requires-clause-length : goal.leaf_at-requires-clause-length
leaf_at-requires-clause-length g c = c.loop-at.invariant.long ∙ c.requires.length ∙ ap (λ n. n / 1024) (sym c.loop-at.invariant.size)

pub returns-in-Err-clause-wrong : goal.returns-in-Err-clause-wrong
returns-in-Err-clause-wrong g c = λ b told start.
    let leaves : List ℕ = c.args.leaves.now in
    let i = c.loop-at.at-index in
    let size = g.P.Pages.size c.args.pages.now in
    let here : IsLooking c.args.kind b (take i leaves) (get_or leaves i 0 ∷ drop (i + 1) leaves) (marked size c.loop-at.marks) = subst (λ l. IsLooking c.args.kind b (take i leaves) l (marked size c.loop-at.marks)) (drop_more leaves i 0 c.loop-at-test.true) (c.loop-at.invariant.looking b told start) in
    c.in-Err.ensures.wrong b (take i leaves) (drop (i + 1) leaves) (c.loop-at.invariant.told ∙ told) (subst (λ s. IsLooking c.args.kind b (take i leaves) (get_or leaves i 0 ∷ drop (i + 1) leaves) (marked s c.loop-at.marks)) (sym c.loop-at.invariant.size) here)

pub loop-at-preserved : goal.loop-at-preserved
loop-at-preserved g c =
    let leaves : List ℕ = c.args.leaves.now in
    let i = c.loop-at.at-index in
    let size = g.P.Pages.size c.args.pages.now in
    record {
      told = c.in-Ok.ensures.told ∙ c.loop-at.invariant.told;
      size = c.in-Ok.ensures.size ∙ c.loop-at.invariant.size;
      later = later-twice c.loop-at.invariant.later c.in-Ok.ensures.counts;
      frame = c.in-Ok.ensures.frame ∙ c.loop-at.invariant.frame;
      goes_on = g.met.P.Pages.goes_on_twice _ _ _ c.loop-at.invariant.goes_on c.in-Ok.ensures.goes_on;
      is_read = g.met.P.Pages.is_read_twice _ _ _ c.loop-at.invariant.is_read c.in-Ok.ensures.is_read;
      long = c.in-Ok.ensures.length ∙ c.loop-at.invariant.long;
      looking = λ b told start.
          let here : IsLooking c.args.kind b (take i leaves) (get_or leaves i 0 ∷ drop (i + 1) leaves) (marked size c.loop-at.marks) = subst (λ l. IsLooking c.args.kind b (take i leaves) l (marked size c.loop-at.marks)) (drop_more leaves i 0 c.loop-at-test.true) (c.loop-at.invariant.looking b told start) in
          subst (λ l. IsLooking c.args.kind b l (drop (i + 1) leaves) (marked size c.leaf_at.new.marks)) (sym (take_more leaves i 0 c.loop-at-test.true))
          (subst (λ s. IsLooking c.args.kind b (take i leaves ++ get_or leaves i 0 ∷ []) (drop (i + 1) leaves) (marked s c.leaf_at.new.marks)) c.loop-at.invariant.size
          (c.in-Ok.ensures.leaves b (take i leaves) (drop (i + 1) leaves) (c.loop-at.invariant.told ∙ told) (subst (λ s. IsLooking c.args.kind b (take i leaves) (get_or leaves i 0 ∷ drop (i + 1) leaves) (marked s c.loop-at.marks)) (sym c.loop-at.invariant.size) here)));
    }

pub loop-at-init : goal.loop-at-init
loop-at-init g c = record {
  told = refl;
  size = refl;
  later = record { faults = omega arith; stops = refl; stop = refl };
  frame = refl;
  goes_on = g.met.P.Pages.goes_on_same c.args.pages.now;
  is_read = g.met.P.Pages.is_read_same c.args.pages.now;
  long = refl;
  looking = λ b told start. start;
}

pub returns-clause-leaves : goal.returns-clause-leaves
returns-clause-leaves g c = λ b told start.
    let leaves : List ℕ = c.args.leaves.now in
    let size = g.P.Pages.size c.args.pages.now in
    let behind : length leaves ≤ c.loop-at.at-index = let t = c.loop-at-test.false in omega (arith, t) in
    subst (λ l. IsLooking c.args.kind b l [] (marked size c.loop-at.marks)) (take_all c.loop-at.at-index leaves behind)
    (subst (λ l. IsLooking c.args.kind b (take c.loop-at.at-index leaves) l (marked size c.loop-at.marks)) (drop_all c.loop-at.at-index leaves behind) (c.loop-at.invariant.looking b told start))
