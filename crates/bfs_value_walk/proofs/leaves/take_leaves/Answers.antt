use Rattle.std.proofs.Common.{◌≡◌, ◌≤◌, ◌<◌, ◌+◌, ◌/◌, ◌++◌, ◌∙◌, ℕ, List, length, take, drop, get_or, refl, sym, ap, subst, arith}
use Rattle.std.proofs.lemmas.List.{take_more, take_all}
use Rattle.bfs_base.specs.Lists.{Has}
use Rattle.bfs_node.specs.Page.{Row}
use Rattle.bfs_pages.specs.Answers.{IsChild}
use Rattle.bfs_pages.specs.Trees.{state_of}
use Rattle.bfs_pages.proofs.Later.{later-twice}
use Rattle.bfs_values.specs.Rows.{rows_at}
use Rattle.bfs_tree_check.proofs.Joined.{all_at}
use Rattle.bfs_tree_walk.proofs.Plainly.{one_of}
use Rattle.bfs_value_walk.specs.Taken.{AreTaken}
use Rattle.bfs_value_walk.proofs.Rowing.{rows_by, rows_are, rows_split, rows_more}
use Rattle.bfs_value_walk.proofs.leaves.take_leaves.Goals as goal

pub take_leaf-requires-clause-at : goal.take_leaf-requires-clause-at
take_leaf-requires-clause-at g c =
    subst (λ n. IsChild n (get_or c.args.leaves.now c.loop-at.at-index 0)) (sym c.loop-at.invariant.size)
    (all_at (IsChild (g.P.Pages.size c.args.pages.now)) c.args.leaves.now c.loop-at.at-index 0 c.loop-at-test.true c.requires.inside)

pub take_leaf-requires-clause-small : goal.take_leaf-requires-clause-small
take_leaf-requires-clause-small g c = subst (λ n. n < 9223372036854775808) (sym c.loop-at.invariant.size) c.requires.small

pub take_leaf-requires-clause-length : goal.take_leaf-requires-clause-length
take_leaf-requires-clause-length g c = c.loop-at.invariant.long ∙ c.requires.length ∙ ap (λ n. n / 1024) (sym c.loop-at.invariant.size)

pub take_leaf-requires-clause-names : goal.take_leaf-requires-clause-names
take_leaf-requires-clause-names g c = c.loop-at.invariant.words ∙ c.requires.names ∙ ap (λ n. n / 1024) (sym c.loop-at.invariant.size)

pub returns-in-Err-clause-wrong : goal.returns-in-Err-clause-wrong
returns-in-Err-clause-wrong g c = λ b begin told are start.
    let leaves : List ℕ = c.args.leaves.now in
    let i = c.loop-at.at-index in
    let size = g.P.Pages.size c.args.pages.now in
    c.in-Err.ensures.wrong b (rows_by c.args.kind b (take i leaves)) (rows_by c.args.kind b (drop (i + 1) leaves)) begin (c.loop-at.invariant.told ∙ told)
    (subst (λ l. Has l (get_or leaves i 0)) (sym are) (one_of leaves i c.loop-at-test.true))
    (rows_split c.args.kind b leaves i are c.loop-at-test.true)
    (subst (λ s. AreTaken c.args.kind b (rows_by c.args.kind b (take i leaves)) s c.loop-at.marks c.loop-at.names (g.T.RowSink.took begin c.loop-at.taken)) (sym c.loop-at.invariant.size) (c.loop-at.invariant.taken b begin told are start))

pub loop-at-preserved : goal.loop-at-preserved
loop-at-preserved g c =
    let leaves : List ℕ = c.args.leaves.now in
    let i = c.loop-at.at-index in
    let size = g.P.Pages.size c.args.pages.now in
    record {
      told = c.in-Ok.ensures.told ∙ c.loop-at.invariant.told;
      size = c.in-Ok.ensures.size ∙ c.loop-at.invariant.size;
      later = later-twice c.loop-at.invariant.later c.in-Ok.ensures.counts;
      frame = c.in-Ok.ensures.frame ∙ c.loop-at.invariant.frame;
      goes_on = g.met.P.Pages.goes_on_twice _ _ _ c.loop-at.invariant.goes_on c.in-Ok.ensures.goes_on;
      is_read = g.met.P.Pages.is_read_twice _ _ _ c.loop-at.invariant.is_read c.in-Ok.ensures.is_read;
      long = c.in-Ok.ensures.length ∙ c.loop-at.invariant.long;
      words = c.in-Ok.ensures.names ∙ c.loop-at.invariant.words;
      taken = λ b begin told are start.
          let here : ℕ = get_or leaves i 0 in
          let was = subst (λ s. AreTaken c.args.kind b (rows_by c.args.kind b (take i leaves)) s c.loop-at.marks c.loop-at.names (g.T.RowSink.took begin c.loop-at.taken)) (sym c.loop-at.invariant.size) (c.loop-at.invariant.taken b begin told are start) in
          let now = c.in-Ok.ensures.taken b (rows_by c.args.kind b (take i leaves)) begin (c.loop-at.invariant.told ∙ told) was in
          let more : rows_by c.args.kind b (take i leaves) ++ rows_at ((state_of c.args.kind b).bodies here) ≡ rows_by c.args.kind b (take (i + 1) leaves) = rows_more c.args.kind b (take i leaves) here ∙ ap (rows_by c.args.kind b) (sym (take_more leaves i 0 c.loop-at-test.true)) in
          subst (λ (rs : List Row). AreTaken c.args.kind b rs size c.take_leaf.new.marks c.take_leaf.new.names (g.T.RowSink.took begin c.take_leaf.new.taken)) more
          (subst (λ s. AreTaken c.args.kind b (rows_by c.args.kind b (take i leaves) ++ rows_at ((state_of c.args.kind b).bodies here)) s c.take_leaf.new.marks c.take_leaf.new.names (g.T.RowSink.took begin c.take_leaf.new.taken)) c.loop-at.invariant.size now);
    }

pub loop-at-init : goal.loop-at-init
loop-at-init g c = record {
  told = refl;
  size = refl;
  later = record { faults = omega arith; stops = refl; stop = refl };
  frame = refl;
  goes_on = g.met.P.Pages.goes_on_same c.args.pages.now;
  is_read = g.met.P.Pages.is_read_same c.args.pages.now;
  long = refl;
  words = refl;
  taken = λ b begin told are start. start;
}

pub returns-clause-taken : goal.returns-clause-taken
returns-clause-taken g c = λ b begin told are start.
    let leaves : List ℕ = c.args.leaves.now in
    let size = g.P.Pages.size c.args.pages.now in
    let behind : length leaves ≤ c.loop-at.at-index = let t = c.loop-at-test.false in omega (arith, t) in
    let all : rows_by c.args.kind b (take c.loop-at.at-index leaves) ≡ rows_by c.args.kind b leaves = ap (rows_by c.args.kind b) (take_all c.loop-at.at-index leaves behind) in
    subst (λ (rs : List Row). AreTaken c.args.kind b rs size c.loop-at.marks c.loop-at.names (g.T.RowSink.took begin c.loop-at.taken))
    (all ∙ ap (rows_by c.args.kind b) (sym are) ∙ sym (rows_are c.args.kind b)) (c.loop-at.invariant.taken b begin told are start)
