use Rattle.std.proofs.Common.{◌≡◌, ◌+◌, ℕ, List, ap, sym, ◌∙◌, subst, arith, rules, w64, to_z, of_z, refl, suc, Option, IfSome}
use Rattle.bfs_node.specs.Page.{rows_of, links_of}
use Rattle.bfs_node.specs.declared.fault.PageKind.TheVariants.{Header as HeaderKind, Interior, Leaf}
use Rattle.bfs_pages.specs.Answers.{IsChild, IsInteriorPage, IsLeafPage}
use Rattle.bfs_pages.specs.Shapes.{place, leaf_shape}
use Rattle.bfs_pages.specs.Trees.{header_in, page_in, place_of, state_of, children_in}
use Rattle.bfs_pages.specs.Ways.{under, pick_of, KeysRise}
use Rattle.bfs_pages.proofs.Faulted.{of-pages, unread-before, tree-header}
use Rattle.bfs_pages.proofs.Later.{later-twice}
use Rattle.bfs_pages.proofs.OfKind.{if_some, inner-page, leaf-page}
use Rattle.bfs_pages.proofs.finding.leaf_for.Goals as goal

pub returns-in-Err-clause-leaf : goal.returns-in-Err-clause-leaf
returns-in-Err-clause-leaf g c b reached t fs e tree =
    of-pages c.args.kind (g.P.Pages.told c.read_header.new.pages) (g.P.Pages.is_cause c.args.pages.now c.read_header.new.pages) b 0 HeaderKind c.in-Err.fault
    c.in-Err.ensures.refused c.in-Err.ensures.at (c.in-Err.ensures.told ∙ e) (refl, tree-header c.args.kind b reached t fs tree)

pub loop-left-init : goal.loop-left-init
loop-left-init g c =
    let signed : to_z w64 (of_z w64 c.in-Ok.header.root_pointer) ≡ c.in-Ok.header.root_pointer = search rules in
    let at : c.place-at.result ≡ place_of c.in-Ok.header.root_pointer = c.place-at.ensures ∙ ap place_of signed in record {
      page = c.requires.page;
      some = c.in-Ok.ensures.good.tree.levels;
      at = subst (λ n. IsChild n c.place-at.result) (sym c.in-Ok.ensures.size) (subst (λ x. IsChild (g.P.Pages.size c.args.pages.now) x) (sym at) c.in-Ok.ensures.good.root);
      told = c.in-Ok.ensures.told;
      size = c.in-Ok.ensures.size;
      counts = c.in-Ok.ensures.counts;
      frame = c.in-Ok.ensures.frame;
      goes_on = c.in-Ok.ensures.goes_on;
      is_read = c.in-Ok.ensures.is_read;
      steps = λ b e.
          let h : c.in-Ok.header.levels ≡ (header_in b).levels = ap (λ z. z.levels) (if_some (λ b. c.in-Ok.header ≡ header_in b) (g.P.Pages.told c.args.pages.now) b c.in-Ok.ensures.header e) in
          omega (arith, h, c.in-Ok.ensures.steps);
      way = λ b reached t fs e tree.
          let h = if_some (λ b. c.in-Ok.header ≡ header_in b) (g.P.Pages.told c.args.pages.now) b c.in-Ok.ensures.header e in
          (0, omega (arith, ap (λ z. z.levels) h), tree.holds.built.root ∙ sym (at ∙ ap (λ z. place_of z.root_pointer) h));
    }

pub read_interior-requires-clause-at : goal.read_interior-requires-clause-at
read_interior-requires-clause-at g c = c.loop-left.invariant.at

pub returns-in-Err-read_interior-clause-leaf : goal.returns-in-Err-read_interior-clause-leaf
returns-in-Err-read_interior-clause-leaf g c b reached t fs e tree =
    let w = c.loop-left.invariant.way b reached t fs e tree in
    of-pages c.args.kind (g.P.Pages.told c.read_interior.new.pages) (g.P.Pages.is_cause c.loop-left.pages c.read_interior.new.pages) b c.loop-left.at Interior c.in-Err-read_interior.fault
    c.in-Err-read_interior.ensures.refused c.in-Err-read_interior.ensures.at (c.in-Err-read_interior.ensures.told ∙ c.loop-left.invariant.told ∙ e)
    (inner-page c.args.kind b reached t fs w.0 c.args.key.now c.loop-left.at tree.holds (omega (arith, w.1, c.loop-left-test.true)) w.2).0

pub returns-in-Err-read_interior-clause-refused : goal.returns-in-Err-read_interior-clause-refused
returns-in-Err-read_interior-clause-refused g c =
    unread-before c.args.kind (g.P.Pages.told c.read_interior.new.pages) (g.P.Pages.is_cause c.loop-left.pages c.read_interior.new.pages) (g.P.Pages.is_cause c.args.pages.now c.read_interior.new.pages) c.in-Err-read_interior.fault
    (λ f. g.met.P.Pages.is_cause_before c.args.pages.now c.loop-left.pages c.read_interior.new.pages f c.loop-left.invariant.goes_on) c.in-Err-read_interior.ensures.refused

pub returns-in-Err-read_interior-clause-steps : goal.returns-in-Err-read_interior-clause-steps
returns-in-Err-read_interior-clause-steps g c b e = omega (arith, c.in-Err-read_interior.ensures.steps, c.loop-left.invariant.steps b e, c.loop-left-test.true)

pub returns-in-Err-read_interior-clause-told : goal.returns-in-Err-read_interior-clause-told
returns-in-Err-read_interior-clause-told g c = c.in-Err-read_interior.ensures.told ∙ c.loop-left.invariant.told

pub returns-in-Err-read_interior-clause-size : goal.returns-in-Err-read_interior-clause-size
returns-in-Err-read_interior-clause-size g c = c.in-Err-read_interior.ensures.size ∙ c.loop-left.invariant.size

pub returns-in-Err-read_interior-clause-counts : goal.returns-in-Err-read_interior-clause-counts
returns-in-Err-read_interior-clause-counts g c = later-twice c.loop-left.invariant.counts c.in-Err-read_interior.ensures.counts

pub returns-in-Err-read_interior-clause-frame : goal.returns-in-Err-read_interior-clause-frame
returns-in-Err-read_interior-clause-frame g c = c.in-Err-read_interior.ensures.frame ∙ c.loop-left.invariant.frame

pub returns-in-Err-read_interior-clause-goes_on : goal.returns-in-Err-read_interior-clause-goes_on
returns-in-Err-read_interior-clause-goes_on g c =
    g.met.P.Pages.goes_on_twice c.args.pages.now c.loop-left.pages c.read_interior.new.pages c.loop-left.invariant.goes_on c.in-Err-read_interior.ensures.goes_on

pub returns-in-Err-read_interior-clause-is_read : goal.returns-in-Err-read_interior-clause-is_read
returns-in-Err-read_interior-clause-is_read g c =
    g.met.P.Pages.is_read_twice c.args.pages.now c.loop-left.pages c.read_interior.new.pages c.loop-left.invariant.is_read c.in-Err-read_interior.ensures.is_read

pub loop-left-preserved : goal.loop-left-preserved
loop-left-preserved g c = record {
  page = c.in-Ok-read_interior.ensures.length;
  some = omega (arith, c.loop-left-test.true);
  at = c.child_for-at.ensures.child (g.P.Pages.size c.read_interior.new.pages) (subst (λ (n : ℕ). IsInteriorPage c.args.kind n c.read_interior.new.page) (sym c.in-Ok-read_interior.ensures.size) c.in-Ok-read_interior.ensures.interior);
  told = c.in-Ok-read_interior.ensures.told ∙ c.loop-left.invariant.told;
  size = c.in-Ok-read_interior.ensures.size ∙ c.loop-left.invariant.size;
  counts = later-twice c.loop-left.invariant.counts c.in-Ok-read_interior.ensures.counts;
  frame = c.in-Ok-read_interior.ensures.frame ∙ c.loop-left.invariant.frame;
  goes_on = g.met.P.Pages.goes_on_twice c.args.pages.now c.loop-left.pages c.read_interior.new.pages c.loop-left.invariant.goes_on c.in-Ok-read_interior.ensures.goes_on;
  is_read = g.met.P.Pages.is_read_twice c.args.pages.now c.loop-left.pages c.read_interior.new.pages c.loop-left.invariant.is_read c.in-Ok-read_interior.ensures.is_read;
  steps = λ b e. omega (arith, c.in-Ok-read_interior.ensures.steps, c.loop-left.invariant.steps b e, c.loop-left-test.true);
  way = λ b reached t fs e tree.
      let w = c.loop-left.invariant.way b reached t fs e tree in
      let r : c.read_interior.new.page ≡ page_in b c.loop-left.at =
      if_some (λ b. c.read_interior.new.page ≡ page_in b c.loop-left.at) (g.P.Pages.told c.loop-left.pages) b c.in-Ok-read_interior.ensures.read (c.loop-left.invariant.told ∙ e) in
      let p = inner-page c.args.kind b reached t fs w.0 c.args.key.now c.loop-left.at tree.holds (omega (arith, w.1, c.loop-left-test.true)) w.2 in
      let up : KeysRise c.args.kind (rows_of c.read_interior.new.page) = subst (λ (z : List ℕ). KeysRise c.args.kind (rows_of z)) (sym r) p.1 in
      let next : suc w.0 ≡ w.0 + 1 = omega (arith) in (
        w.0 + 1,
        omega (arith, w.1, c.loop-left-test.true),
        subst (λ (n : ℕ). place (under c.args.kind n t c.args.key.now) ≡ c.child_for-at.result) next
            (p.2 c.child_for-at.result (subst (λ (z : List ℕ). pick_of c.args.kind (children_in (rows_of z)) (place_of (links_of z).overflow) c.args.key.now ≡ c.child_for-at.result) r (c.child_for-at.ensures.way up))),
      );
}

pub read_leaf-requires-clause-at : goal.read_leaf-requires-clause-at
read_leaf-requires-clause-at g c = c.loop-left.invariant.at

pub returns-in-Ok-read_leaf-clause-leaf : goal.returns-in-Ok-read_leaf-clause-leaf
returns-in-Ok-read_leaf-clause-leaf g c b reached t fs e tree =
    let w = c.loop-left.invariant.way b reached t fs e tree in
    let r : c.read_leaf.new.page ≡ page_in b c.loop-left.at =
    if_some (λ b. c.read_leaf.new.page ≡ page_in b c.loop-left.at) (g.P.Pages.told c.loop-left.pages) b c.in-Ok-read_leaf.ensures.read (c.loop-left.invariant.told ∙ e) in
    let level : w.0 ≡ (state_of c.args.kind b).levels = omega (arith, w.1, c.loop-left-test.false, c.loop-left.invariant.some) in
    let p = leaf-page c.args.kind b reached t fs w.0 c.args.key.now c.loop-left.at tree.holds level w.2 in
    (r, subst (λ (n : ℕ). under c.args.kind n t c.args.key.now ≡ leaf_shape c.loop-left.at (rows_of c.read_leaf.new.page)) level (p.2 ∙ ap (λ z. leaf_shape c.loop-left.at (rows_of z)) (sym r)))

pub returns-in-Ok-read_leaf-clause-steps : goal.returns-in-Ok-read_leaf-clause-steps
returns-in-Ok-read_leaf-clause-steps g c b e = omega (arith, c.in-Ok-read_leaf.ensures.steps, c.loop-left.invariant.steps b e, c.loop-left.invariant.some)

pub returns-in-Ok-read_leaf-clause-told : goal.returns-in-Ok-read_leaf-clause-told
returns-in-Ok-read_leaf-clause-told g c = c.in-Ok-read_leaf.ensures.told ∙ c.loop-left.invariant.told

pub returns-in-Ok-read_leaf-clause-size : goal.returns-in-Ok-read_leaf-clause-size
returns-in-Ok-read_leaf-clause-size g c = c.in-Ok-read_leaf.ensures.size ∙ c.loop-left.invariant.size

pub returns-in-Ok-read_leaf-clause-frame : goal.returns-in-Ok-read_leaf-clause-frame
returns-in-Ok-read_leaf-clause-frame g c = c.in-Ok-read_leaf.ensures.frame ∙ c.loop-left.invariant.frame

pub returns-in-Ok-read_leaf-clause-counts : goal.returns-in-Ok-read_leaf-clause-counts
returns-in-Ok-read_leaf-clause-counts g c = later-twice c.loop-left.invariant.counts c.in-Ok-read_leaf.ensures.counts

pub returns-in-Ok-read_leaf-clause-goes_on : goal.returns-in-Ok-read_leaf-clause-goes_on
returns-in-Ok-read_leaf-clause-goes_on g c =
    g.met.P.Pages.goes_on_twice c.args.pages.now c.loop-left.pages c.read_leaf.new.pages c.loop-left.invariant.goes_on c.in-Ok-read_leaf.ensures.goes_on

pub returns-in-Ok-read_leaf-clause-is_read : goal.returns-in-Ok-read_leaf-clause-is_read
returns-in-Ok-read_leaf-clause-is_read g c =
    g.met.P.Pages.is_read_twice c.args.pages.now c.loop-left.pages c.read_leaf.new.pages c.loop-left.invariant.is_read c.in-Ok-read_leaf.ensures.is_read

pub returns-in-Err-read_leaf-clause-leaf : goal.returns-in-Err-read_leaf-clause-leaf
returns-in-Err-read_leaf-clause-leaf g c b reached t fs e tree =
    let w = c.loop-left.invariant.way b reached t fs e tree in
    of-pages c.args.kind (g.P.Pages.told c.read_leaf.new.pages) (g.P.Pages.is_cause c.loop-left.pages c.read_leaf.new.pages) b c.loop-left.at Leaf c.in-Err-read_leaf.fault
    c.in-Err-read_leaf.ensures.refused c.in-Err-read_leaf.ensures.at (c.in-Err-read_leaf.ensures.told ∙ c.loop-left.invariant.told ∙ e)
    (leaf-page c.args.kind b reached t fs w.0 c.args.key.now c.loop-left.at tree.holds (omega (arith, w.1, c.loop-left-test.false, c.loop-left.invariant.some)) w.2).0

pub returns-in-Err-read_leaf-clause-refused : goal.returns-in-Err-read_leaf-clause-refused
returns-in-Err-read_leaf-clause-refused g c =
    unread-before c.args.kind (g.P.Pages.told c.read_leaf.new.pages) (g.P.Pages.is_cause c.loop-left.pages c.read_leaf.new.pages) (g.P.Pages.is_cause c.args.pages.now c.read_leaf.new.pages) c.in-Err-read_leaf.fault
    (λ f. g.met.P.Pages.is_cause_before c.args.pages.now c.loop-left.pages c.read_leaf.new.pages f c.loop-left.invariant.goes_on) c.in-Err-read_leaf.ensures.refused

pub returns-in-Err-read_leaf-clause-steps : goal.returns-in-Err-read_leaf-clause-steps
returns-in-Err-read_leaf-clause-steps g c b e = omega (arith, c.in-Err-read_leaf.ensures.steps, c.loop-left.invariant.steps b e, c.loop-left.invariant.some)

pub returns-in-Err-read_leaf-clause-told : goal.returns-in-Err-read_leaf-clause-told
returns-in-Err-read_leaf-clause-told g c = c.in-Err-read_leaf.ensures.told ∙ c.loop-left.invariant.told

pub returns-in-Err-read_leaf-clause-size : goal.returns-in-Err-read_leaf-clause-size
returns-in-Err-read_leaf-clause-size g c = c.in-Err-read_leaf.ensures.size ∙ c.loop-left.invariant.size

pub returns-in-Err-read_leaf-clause-frame : goal.returns-in-Err-read_leaf-clause-frame
returns-in-Err-read_leaf-clause-frame g c = c.in-Err-read_leaf.ensures.frame ∙ c.loop-left.invariant.frame

pub returns-in-Err-read_leaf-clause-counts : goal.returns-in-Err-read_leaf-clause-counts
returns-in-Err-read_leaf-clause-counts g c = later-twice c.loop-left.invariant.counts c.in-Err-read_leaf.ensures.counts

pub returns-in-Err-read_leaf-clause-goes_on : goal.returns-in-Err-read_leaf-clause-goes_on
returns-in-Err-read_leaf-clause-goes_on g c =
    g.met.P.Pages.goes_on_twice c.args.pages.now c.loop-left.pages c.read_leaf.new.pages c.loop-left.invariant.goes_on c.in-Err-read_leaf.ensures.goes_on

pub returns-in-Err-read_leaf-clause-is_read : goal.returns-in-Err-read_leaf-clause-is_read
returns-in-Err-read_leaf-clause-is_read g c =
    g.met.P.Pages.is_read_twice c.args.pages.now c.loop-left.pages c.read_leaf.new.pages c.loop-left.invariant.is_read c.in-Err-read_leaf.ensures.is_read

pub returns-in-Ok-read_leaf-clause-place : goal.returns-in-Ok-read_leaf-clause-place
returns-in-Ok-read_leaf-clause-place g c = subst (λ (n : ℕ). IsChild n c.loop-left.at) c.loop-left.invariant.size c.loop-left.invariant.at

pub returns-in-Ok-read_leaf-clause-fields : goal.returns-in-Ok-read_leaf-clause-fields
returns-in-Ok-read_leaf-clause-fields g c = subst (λ (n : ℕ). IsLeafPage c.args.kind n c.read_leaf.new.page) c.loop-left.invariant.size c.in-Ok-read_leaf.ensures.leaf

pub returns-in-Ok-read_leaf-clause-read : goal.returns-in-Ok-read_leaf-clause-read
returns-in-Ok-read_leaf-clause-read g c = subst (λ (o : Option (List ℕ)). IfSome o (λ b. c.read_leaf.new.page ≡ page_in b c.loop-left.at)) c.loop-left.invariant.told c.in-Ok-read_leaf.ensures.read
