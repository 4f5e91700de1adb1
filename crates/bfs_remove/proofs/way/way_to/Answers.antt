use Rattle.std.proofs.Common.{◌≡◌, ◌≤◌, ◌-◌, ℕ, suc, List, length, IfSome, ap, sym, ◌∙◌, subst, arith, rules, w64, to_z, of_z, refl}
use Rattle.bfs_node.specs.Page.{rows_of, links_of}
use Rattle.bfs_node.specs.declared.header.Header.{Header}
use Rattle.bfs_node.specs.declared.fault.PageKind.TheVariants.{Header as HeaderKind, Interior, Leaf}
use Rattle.bfs_pages.specs.Answers.{IsChild, IsInteriorPage}
use Rattle.bfs_pages.specs.Shapes.{place, leaf_shape}
use Rattle.bfs_pages.specs.Trees.{header_in, page_in, place_of, state_of, children_in}
use Rattle.bfs_pages.specs.Ways.{under, pick_of, KeysRise}
use Rattle.bfs_pages.proofs.Faulted.{of-pages, tree-header}
use Rattle.bfs_pages.proofs.Later.{later-twice}
use Rattle.bfs_pages.proofs.OfKind.{if_some, inner-page, leaf-page}
use Rattle.bfs_remove.specs.Removed.{IsBranch}
use Rattle.bfs_remove.proofs.Marking.{MarkedSo, branch-step, mark-some, mark-on, mark-done}
use Rattle.bfs_remove.proofs.way.way_to.Goals as goal

pub returns-in-Err-clause-way : goal.returns-in-Err-clause-way
returns-in-Err-clause-way g c b reached t fs e tree =
    of-pages c.args.kind (g.P.Pages.told c.read_header.new.pages) (g.P.Pages.is_cause c.args.pages.now c.read_header.new.pages) b 0 HeaderKind c.in-Err.fault
    c.in-Err.ensures.refused c.in-Err.ensures.at (c.in-Err.ensures.told ∙ e) (refl, tree-header c.args.kind b reached t fs tree)

pub loop-left-init : goal.loop-left-init
loop-left-init g c =
    let signed : to_z w64 (of_z w64 c.in-Ok.header.root_pointer) ≡ c.in-Ok.header.root_pointer = search rules in
    let at : c.place-at.result ≡ place_of c.in-Ok.header.root_pointer = c.place-at.ensures ∙ ap place_of signed in record {
      page = c.requires.page;
      some = c.in-Ok.ensures.good.tree.levels;
      most = omega arith;
      at = subst (λ n. IsChild n c.place-at.result) (sym c.in-Ok.ensures.size) (subst (λ x. IsChild (g.P.Pages.size c.args.pages.now) x) (sym at) c.in-Ok.ensures.good.root);
      branch = tt;
      told = c.in-Ok.ensures.told;
      size = c.in-Ok.ensures.size;
      kept = record { counts = c.in-Ok.ensures.counts; frame_is = c.in-Ok.ensures.frame; goes_on = c.in-Ok.ensures.goes_on };
      steps = λ b e.
          let h : c.in-Ok.header.levels ≡ (header_in b).levels = ap (λ (z : Header). z.levels) (if_some (λ b. c.in-Ok.header ≡ header_in b) (g.P.Pages.told c.args.pages.now) b c.in-Ok.ensures.header e) in
          omega (arith, h, c.in-Ok.ensures.steps);
      way = λ b reached t fs e tree.
          let h = if_some (λ b. c.in-Ok.header ≡ header_in b) (g.P.Pages.told c.args.pages.now) b c.in-Ok.ensures.header e in
          (0, omega (arith, ap (λ (z : Header). z.levels) h), tree.holds.built.root ∙ sym (at ∙ ap (λ (z : Header). place_of z.root_pointer) h), tt);
    }

pub returns-in-Err-read_interior-clause-way : goal.returns-in-Err-read_interior-clause-way
returns-in-Err-read_interior-clause-way g c b reached t fs e tree =
    let w = c.loop-left.invariant.way b reached t fs e tree in
    of-pages c.args.kind (g.P.Pages.told c.read_interior.new.pages) (g.P.Pages.is_cause c.loop-left.pages c.read_interior.new.pages) b c.loop-left.at Interior c.in-Err-read_interior.fault
    c.in-Err-read_interior.ensures.refused c.in-Err-read_interior.ensures.at (c.in-Err-read_interior.ensures.told ∙ c.loop-left.invariant.told ∙ e)
    (inner-page c.args.kind b reached t fs w.0 c.args.key.now c.loop-left.at tree.holds (omega (arith, w.1, c.loop-left-test.true)) w.2).0

pub loop-left-preserved : goal.loop-left-preserved
loop-left-preserved g c = record {
  page = c.in-Ok-read_interior.ensures.length;
  some = omega (arith, c.loop-left-test.true);
  most = omega (arith, c.loop-left.invariant.most);
  at = child;
  branch = branch-step (length (rows_of c.read_interior.new.page)) (record { page = c.loop-left.at; child = c.child_for-child.result; below = c.loop-left.left - 2 }) c.loop-left.branch c.last_branch-branch.result
      (λ o. IfSome o (IsBranch (g.P.Pages.size c.read_interior.new.pages) c.in-Ok.header.levels)) c.last_branch-branch.ensures.marked c.last_branch-branch.ensures.kept
      (λ some. (subst (λ (n : ℕ). IsChild n c.loop-left.at) (sym c.in-Ok-read_interior.ensures.size) c.loop-left.invariant.at, child, omega (arith, c.loop-left-test.true, c.loop-left.invariant.most)))
      (λ none. subst (λ (n : ℕ). IfSome c.loop-left.branch (IsBranch n c.in-Ok.header.levels)) (sym c.in-Ok-read_interior.ensures.size) c.loop-left.invariant.branch);
  told = c.in-Ok-read_interior.ensures.told ∙ c.loop-left.invariant.told;
  size = c.in-Ok-read_interior.ensures.size ∙ c.loop-left.invariant.size;
  kept = record {
    counts = later-twice c.loop-left.invariant.kept.counts c.in-Ok-read_interior.ensures.counts;
    frame_is = c.in-Ok-read_interior.ensures.frame ∙ c.loop-left.invariant.kept.frame_is;
    goes_on = g.met.P.Pages.goes_on_twice c.args.pages.now c.loop-left.pages c.read_interior.new.pages c.loop-left.invariant.kept.goes_on c.in-Ok-read_interior.ensures.goes_on;
  };
  steps = λ b e. omega (arith, c.in-Ok-read_interior.ensures.steps, c.loop-left.invariant.steps b e, c.loop-left-test.true);
  way = λ b reached t fs e tree.
      let w = c.loop-left.invariant.way b reached t fs e tree in
      let r : c.read_interior.new.page ≡ page_in b c.loop-left.at =
      if_some (λ b. c.read_interior.new.page ≡ page_in b c.loop-left.at) (g.P.Pages.told c.loop-left.pages) b c.in-Ok-read_interior.ensures.read (c.loop-left.invariant.told ∙ e) in
      let l : suc w.0 ≤ (state_of c.args.kind b).levels = omega (arith, w.1, c.loop-left-test.true) in
      let p = inner-page c.args.kind b reached t fs w.0 c.args.key.now c.loop-left.at tree.holds l w.2 in
      let up : KeysRise c.args.kind (rows_of c.read_interior.new.page) = subst (λ (z : List ℕ). KeysRise c.args.kind (rows_of z)) (sym r) p.1 in
      let next : place (under c.args.kind (suc w.0) t c.args.key.now) ≡ c.child_for-child.result =
      p.2 c.child_for-child.result (subst (λ (z : List ℕ). pick_of c.args.kind (children_in (rows_of z)) (place_of (links_of z).overflow) c.args.key.now ≡ c.child_for-child.result) r (c.child_for-child.ensures.way up)) in (
        suc w.0,
        omega (arith, w.1, c.loop-left-test.true),
        next,
        branch-step (length (rows_of c.read_interior.new.page)) (record { page = c.loop-left.at; child = c.child_for-child.result; below = c.loop-left.left - 2 }) c.loop-left.branch c.last_branch-branch.result
            (λ o. MarkedSo c.args.kind (suc w.0) (c.loop-left.left - 1) t c.args.key.now o) c.last_branch-branch.ensures.marked c.last_branch-branch.ensures.kept
            (λ some. mark-some c.args.kind b reached t fs w.0 c.args.key.now c.loop-left.at c.loop-left.left c.child_for-child.result tree.holds l w.2 (subst (λ (z : List ℕ). 1 ≤ length (rows_of z)) r some) next (omega (arith, c.loop-left-test.true)))
            (λ none. mark-on c.args.kind b reached t fs w.0 c.args.key.now c.loop-left.at c.loop-left.left c.loop-left.branch tree.holds l w.2 (subst (λ (z : List ℕ). length (rows_of z) ≡ 0) r none) (omega (arith, c.loop-left-test.true)) w.3),
      );
}
  where
    child : IsChild (g.P.Pages.size c.read_interior.new.pages) c.child_for-child.result
    child = c.child_for-child.ensures.child (g.P.Pages.size c.read_interior.new.pages) (subst (λ (n : ℕ). IsInteriorPage c.args.kind n c.read_interior.new.page) (sym c.in-Ok-read_interior.ensures.size) c.in-Ok-read_interior.ensures.interior)

pub returns-in-Ok-read_leaf-clause-way : goal.returns-in-Ok-read_leaf-clause-way
returns-in-Ok-read_leaf-clause-way g c b reached t fs e tree =
    let w = c.loop-left.invariant.way b reached t fs e tree in
    let r : c.read_leaf.new.page ≡ page_in b c.loop-left.at =
    if_some (λ b. c.read_leaf.new.page ≡ page_in b c.loop-left.at) (g.P.Pages.told c.loop-left.pages) b c.in-Ok-read_leaf.ensures.read (c.loop-left.invariant.told ∙ e) in
    let one : c.loop-left.left ≡ 1 = omega (arith, c.loop-left-test.false, c.loop-left.invariant.some) in
    let level : w.0 ≡ (state_of c.args.kind b).levels = omega (arith, w.1, one) in
    let p = leaf-page c.args.kind b reached t fs w.0 c.args.key.now c.loop-left.at tree.holds level w.2 in record {
      header = if_some (λ b. c.in-Ok.header ≡ header_in b) (g.P.Pages.told c.args.pages.now) b c.in-Ok.ensures.header e;
      page_is = r;
      leaf = subst (λ (n : ℕ). under c.args.kind n t c.args.key.now ≡ leaf_shape c.loop-left.at (rows_of c.read_leaf.new.page)) level (p.2 ∙ ap (λ z. leaf_shape c.loop-left.at (rows_of z)) (sym r));
      branch = mark-done c.args.kind (state_of c.args.kind b).levels c.loop-left.left t c.args.key.now c.loop-left.branch one (subst (λ (n : ℕ). MarkedSo c.args.kind n c.loop-left.left t c.args.key.now c.loop-left.branch) level w.3);
    }

pub returns-in-Err-read_leaf-clause-way : goal.returns-in-Err-read_leaf-clause-way
returns-in-Err-read_leaf-clause-way g c b reached t fs e tree =
    let w = c.loop-left.invariant.way b reached t fs e tree in
    of-pages c.args.kind (g.P.Pages.told c.read_leaf.new.pages) (g.P.Pages.is_cause c.loop-left.pages c.read_leaf.new.pages) b c.loop-left.at Leaf c.in-Err-read_leaf.fault
    c.in-Err-read_leaf.ensures.refused c.in-Err-read_leaf.ensures.at (c.in-Err-read_leaf.ensures.told ∙ c.loop-left.invariant.told ∙ e)
    (leaf-page c.args.kind b reached t fs w.0 c.args.key.now c.loop-left.at tree.holds (omega (arith, w.1, c.loop-left-test.false, c.loop-left.invariant.some)) w.2).0
