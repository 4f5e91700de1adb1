use Rattle.std.proofs.Common.{rules, ◌≡◌, ◌+◌, ◌∙◌, ℕ, List, take, drop, get_or, refl, sym, subst, arith, w64, to_z, of_z}
use Rattle.bfs_pages.specs.Answers.{IsChild}
use Rattle.bfs_pages.specs.Trees.{state_of, Linked}
use Rattle.bfs_pages.proofs.Later.{later-twice}
use Rattle.bfs_pages.proofs.UpTo.{up_to_next}
use Rattle.bfs_tree_check.proofs.Joined.{all_at}
use Rattle.bfs_tree_check.proofs.Neighbours.{AreBeside, apart_at, linked_all}
use Rattle.bfs_tree_check.proofs.links.check_links.Goals as goal

pub look_beside-requires : goal.look_beside-requires
look_beside-requires g c = record {
  at = subst (λ n. IsChild n (get_or c.args.leaves.now c.loop-i.i 0)) (sym c.loop-i.invariant.size)
      (all_at (IsChild (g.P.Pages.size c.args.pages.now)) c.args.leaves.now c.loop-i.i 0 c.loop-i-test.true c.requires.inside);
}

pub returns-in-Err-clause-wrong : goal.returns-in-Err-clause-wrong
returns-in-Err-clause-wrong g c = λ kind b told leaves.
    let xs : List ℕ = c.args.leaves.now in
    let i = c.loop-i.i in
    let left : to_z w64 (of_z w64 c.link_before-left.result) ≡ c.link_before-left.result = search rules in
    let right : to_z w64 (of_z w64 c.link_behind-right.result) ≡ c.link_behind-right.result = search rules in
    c.in-Err.ensures.wrong kind b (take i xs) (drop (i + 1) xs) (c.loop-i.invariant.told ∙ told) (leaves ∙ apart_at xs i 0 c.loop-i-test.true) (left ∙ c.link_before-left.ensures) (right ∙ c.link_behind-right.ensures)

pub loop-i-preserved : goal.loop-i-preserved
loop-i-preserved g c =
    let xs : List ℕ = c.args.leaves.now in
    let i = c.loop-i.i in
    let left : to_z w64 (of_z w64 c.link_before-left.result) ≡ c.link_before-left.result = search rules in
    let right : to_z w64 (of_z w64 c.link_behind-right.result) ≡ c.link_behind-right.result = search rules in
    record {
      told = c.in-Ok.ensures.told ∙ c.loop-i.invariant.told;
      size = c.in-Ok.ensures.size ∙ c.loop-i.invariant.size;
      later = later-twice c.loop-i.invariant.later c.in-Ok.ensures.counts;
      frame = c.in-Ok.ensures.frame ∙ c.loop-i.invariant.frame;
      goes_on = g.met.P.Pages.goes_on_twice _ _ _ c.loop-i.invariant.goes_on c.in-Ok.ensures.goes_on;
      is_read = g.met.P.Pages.is_read_twice _ _ _ c.loop-i.invariant.is_read c.in-Ok.ensures.is_read;
      beside = λ b told.
          let now = c.loop-i.invariant.told ∙ told in
          up_to_next (AreBeside b xs) i (c.loop-i.invariant.beside b told) (c.in-Ok.ensures.left b now ∙ left ∙ c.link_before-left.ensures, c.in-Ok.ensures.right b now ∙ right ∙ c.link_behind-right.ensures);
    }

pub loop-i-init : goal.loop-i-init
loop-i-init g c = record {
  told = refl;
  size = refl;
  later = record { faults = omega arith; stops = refl; stop = refl };
  frame = refl;
  goes_on = g.met.P.Pages.goes_on_same c.args.pages.now;
  is_read = g.met.P.Pages.is_read_same c.args.pages.now;
  beside = λ b told j h. absurd (omega (arith, h));
}

pub returns-clause-linked : goal.returns-clause-linked
returns-clause-linked g c = λ kind b told leaves.
    subst (λ l. Linked (state_of kind b).links 0 l 0) (sym leaves)
    (linked_all kind b (g.P.Pages.size c.args.pages.now) c.args.leaves.now c.requires.inside (λ j h. c.loop-i.invariant.beside b told j (let t = c.loop-i-test.false in omega (arith, h, t))))
