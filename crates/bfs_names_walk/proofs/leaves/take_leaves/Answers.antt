use Rattle.std.proofs.Common.{◌≡◌, ◌≤◌, ◌++◌, ◌∙◌, ℕ, List, length, take, get_or, refl, sym, ap, subst, arith}
use Rattle.std.proofs.lemmas.List.{take_all}
use Rattle.bfs_base.specs.Lists.{Has}
use Rattle.bfs_base.specs.declared.kind.KeyKind.TheVariants.{Text}
use Rattle.bfs_node.specs.Page.{Row}
use Rattle.bfs_pages.specs.Answers.{IsChild}
use Rattle.bfs_pages.specs.Trees.{state_of}
use Rattle.bfs_pages.proofs.Later.{later-twice}
use Rattle.bfs_values.specs.Rows.{rows_at}
use Rattle.bfs_tree_check.proofs.Joined.{all_at}
use Rattle.bfs_value_walk.proofs.Plainly.{one_of}
use Rattle.bfs_names_walk.specs.Rows.{as_rows}
use Rattle.bfs_names_walk.proofs.Gathered.{rows_by, rows_are, rows_more}
use Rattle.bfs_names_walk.proofs.leaves.take_leaves.Goals as goal

pub take_leaf-requires : goal.take_leaf-requires
take_leaf-requires g c = record {
  at = subst (λ n. IsChild n (get_or c.args.leaves.now c.loop-at.at-index 0)) (sym c.loop-at.invariant.size)
      (all_at (IsChild (g.P.Pages.size c.args.pages.now)) c.args.leaves.now c.loop-at.at-index 0 c.loop-at-test.true c.requires.inside);
}

pub returns-in-Err-clause-wrong : goal.returns-in-Err-clause-wrong
returns-in-Err-clause-wrong g c = λ b told are.
    let leaves : List ℕ = c.args.leaves.now in
    let i = c.loop-at.at-index in
    c.in-Err.ensures.wrong b (c.loop-at.invariant.told ∙ told) (subst (λ l. Has l (get_or leaves i 0)) (sym are) (one_of leaves i c.loop-at-test.true))

pub loop-at-preserved : goal.loop-at-preserved
loop-at-preserved g c =
    let leaves : List ℕ = c.args.leaves.now in
    let i = c.loop-at.at-index in
    record {
      told = c.in-Ok.ensures.told ∙ c.loop-at.invariant.told;
      size = c.in-Ok.ensures.size ∙ c.loop-at.invariant.size;
      later = later-twice c.loop-at.invariant.later c.in-Ok.ensures.counts;
      frame = c.in-Ok.ensures.frame ∙ c.loop-at.invariant.frame;
      goes_on = g.met.P.Pages.goes_on_twice _ _ _ c.loop-at.invariant.goes_on c.in-Ok.ensures.goes_on;
      is_read = g.met.P.Pages.is_read_twice _ _ _ c.loop-at.invariant.is_read c.in-Ok.ensures.is_read;
      taken = λ b told.
          c.in-Ok.ensures.taken b (c.loop-at.invariant.told ∙ told)
          ∙ ap (λ (l : List Row). l ++ rows_at ((state_of Text b).bodies (get_or leaves i 0))) (c.loop-at.invariant.taken b told)
          ∙ rows_more b leaves i c.loop-at-test.true;
    }

pub loop-at-init : goal.loop-at-init
loop-at-init g c = record {
  told = refl;
  size = refl;
  later = record { faults = omega arith; stops = refl; stop = refl };
  frame = refl;
  goes_on = g.met.P.Pages.goes_on_same c.args.pages.now;
  is_read = g.met.P.Pages.is_read_same c.args.pages.now;
  taken = λ b told. ap as_rows c.new-rows.ensures.items;
}

pub returns-clause-taken : goal.returns-clause-taken
returns-clause-taken g c = λ b told are.
    let leaves : List ℕ = c.args.leaves.now in
    let behind : length leaves ≤ c.loop-at.at-index = let t = c.loop-at-test.false in omega (arith, t) in
    c.loop-at.invariant.taken b told ∙ ap (rows_by b) (take_all c.loop-at.at-index leaves behind ∙ sym are) ∙ sym (rows_are b)
