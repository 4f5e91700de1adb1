use Rattle.std.proofs.Common.{◌≤◌, ◌∷◌, [], ◌∙◌, ℕ, List, length, take, get_or, refl, sym, subst, arith}
use Rattle.std.specs.List.{AllByRecursion}
use Rattle.std.proofs.lemmas.List.{take_more, take_all}
use Rattle.bfs_base.specs.Lists.{Has}
use Rattle.bfs_pages.specs.Answers.{IsChild}
use Rattle.bfs_pages.specs.Trees.{state_of}
use Rattle.bfs_pages.proofs.Later.{later-twice}
use Rattle.bfs_values.specs.Rows.{rows_at}
use Rattle.bfs_tree_check.proofs.Joined.{all_at, all_join}
use Rattle.bfs_tree_walk.specs.Plain.{ArePlain, IsPlainAt}
use Rattle.bfs_tree_walk.proofs.Plainly.{all_plain, one_of}
use Rattle.bfs_tree_walk.proofs.values.check_values.Goals as goal

pub check_leaf-requires-clause-at : goal.check_leaf-requires-clause-at
check_leaf-requires-clause-at g c =
    subst (λ n. IsChild n (get_or c.args.leaves.now c.loop-at.at-index 0)) (sym c.loop-at.invariant.size)
    (all_at (IsChild (g.P.Pages.size c.args.pages.now)) c.args.leaves.now c.loop-at.at-index 0 c.loop-at-test.true c.requires.inside)

pub returns-in-Err-clause-wrong : goal.returns-in-Err-clause-wrong
returns-in-Err-clause-wrong g c = λ b told are.
    c.in-Err.ensures.wrong b (c.loop-at.invariant.told ∙ told) (subst (λ l. Has l (get_or c.args.leaves.now c.loop-at.at-index 0)) (sym are) (one_of c.args.leaves.now c.loop-at.at-index c.loop-at-test.true))

pub returns-in-Some-clause-plain : goal.returns-in-Some-clause-plain
returns-in-Some-clause-plain g c = λ b told are.
    let i = c.loop-at.at-index in
    let there = subst (λ l. Has l (get_or c.args.leaves.now i 0)) (sym are) (one_of c.args.leaves.now i c.loop-at-test.true) in
    subst (IsPlainAt c.args.kind b (get_or c.args.leaves.now i 0)) c.in-Some.is (c.in-Ok.ensures.plain b (c.loop-at.invariant.told ∙ told) there)

pub loop-at-preserved : goal.loop-at-preserved
loop-at-preserved g c = record {
  told = c.in-Ok.ensures.told ∙ c.loop-at.invariant.told;
  size = c.in-Ok.ensures.size ∙ c.loop-at.invariant.size;
  later = later-twice c.loop-at.invariant.later c.in-Ok.ensures.counts;
  frame = c.in-Ok.ensures.frame ∙ c.loop-at.invariant.frame;
  goes_on = g.met.P.Pages.goes_on_twice _ _ _ c.loop-at.invariant.goes_on c.in-Ok.ensures.goes_on;
  is_read = g.met.P.Pages.is_read_twice _ _ _ c.loop-at.invariant.is_read c.in-Ok.ensures.is_read;
  plain = λ b told are.
      let leaves : List ℕ = c.args.leaves.now in
      let i = c.loop-at.at-index in
      let at : ℕ = get_or leaves i 0 in
      let there = subst (λ l. Has l at) (sym are) (one_of leaves i c.loop-at-test.true) in
      let here : ArePlain (rows_at ((state_of c.args.kind b).bodies at)) = subst (IsPlainAt c.args.kind b at) c.in-None.is (c.in-Ok.ensures.plain b (c.loop-at.invariant.told ∙ told) there) in
      let P : ℕ → Type 0 = λ x. ArePlain (rows_at ((state_of c.args.kind b).bodies x)) in
      subst (AllByRecursion P) (sym (take_more leaves i 0 c.loop-at-test.true)) (all_join P (take i leaves) (at ∷ []) (c.loop-at.invariant.plain b told are) (here, tt));
}

pub loop-at-init : goal.loop-at-init
loop-at-init g c = record {
  told = refl;
  size = refl;
  later = record { faults = omega arith; stops = refl; stop = refl };
  frame = refl;
  goes_on = g.met.P.Pages.goes_on_same c.args.pages.now;
  is_read = g.met.P.Pages.is_read_same c.args.pages.now;
  plain = λ b told are. tt;
}

pub returns-clause-plain : goal.returns-clause-plain
returns-clause-plain g c = λ b told are.
    let leaves : List ℕ = c.args.leaves.now in
    let behind : length leaves ≤ c.loop-at.at-index = let t = c.loop-at-test.false in omega (arith, t) in
    all_plain c.args.kind b leaves are (subst (AllByRecursion (λ x. ArePlain (rows_at ((state_of c.args.kind b).bodies x)))) (take_all c.loop-at.at-index leaves behind) (c.loop-at.invariant.plain b told are))
