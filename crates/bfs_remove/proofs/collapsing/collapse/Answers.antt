use Rattle.std.proofs.Common.{inl, inr, ◌≤◌, ◌≡◌, ◌-◌, ℕ, pos, List, Option, length, ap, sym, ◌∙◌, subst, refl, arith, rules, w64, to_z, of_z}
use Rattle.bfs_pages.specs.Pages.{HasLength}
use Rattle.bfs_node.specs.Page.{rows_of, links_of}
use Rattle.bfs_node.specs.declared.header.Header.{Header}
use Rattle.bfs_node.specs.declared.fault.PageKind.TheVariants.{Interior}
use Rattle.bfs_pages.specs.Answers.{IsChild, IsHeaderFor}
use Rattle.bfs_pages.specs.Trees.{page_in, header_in, place_of, IsTreeHeader}
use Rattle.bfs_pages.proofs.Faulted.{of-pages, unread-before}
use Rattle.bfs_pages.proofs.Later.{later-twice}
use Rattle.bfs_pages.proofs.OfKind.{if_some}
use Rattle.bfs_remove.proofs.Giving.{stay-twice, header-freed, failed-unread}
use Rattle.bfs_remove.proofs.Lowered.{lower-header, header-lowered, root-interior, root-lowered}
use Rattle.bfs_remove.proofs.collapsing.collapse.Goals as goal

pub loop-header-init : goal.loop-header-init
loop-header-init g c = record {
  page = search rules;
  header = c.requires.header;
  size = refl;
  kept = record { counts = search rules; frame_is = refl; goes_on = g.met.P.Pages.goes_on_same c.args.pages.now };
  steps = omega arith;
  tree = λ b reached t fs e h tree. (b, t, fs, e, h, tree, refl, λ x i. refl, λ f. f);
}

pub read_interior-requires-clause-at : goal.read_interior-requires-clause-at
read_interior-requires-clause-at g c =
    let signed : to_z w64 (of_z w64 c.loop-header.header.root_pointer) ≡ c.loop-header.header.root_pointer = search rules in
    let is : c.place-root.result ≡ place_of c.loop-header.header.root_pointer = c.place-root.ensures ∙ ap place_of signed in
    subst (λ (x : ℕ). IsChild (g.P.Pages.size c.loop-header.pages) x) (sym is) c.loop-header.invariant.header.root

pub returns-in-Err-clause-collapsed : goal.returns-in-Err-clause-collapsed
returns-in-Err-clause-collapsed g c b reached t fs e h tree =
    let signed : to_z w64 (of_z w64 c.loop-header.header.root_pointer) ≡ c.loop-header.header.root_pointer = search rules in
    let is : c.place-root.result ≡ place_of c.loop-header.header.root_pointer = c.place-root.ensures ∙ ap place_of signed in
    let i = c.loop-header.invariant.tree b reached t fs e h tree in
    of-pages c.args.kind (g.P.Pages.told c.read_interior.new.pages) (g.P.Pages.is_cause c.loop-header.pages c.read_interior.new.pages) i.0 c.place-root.result Interior c.in-Err.fault
    c.in-Err.ensures.refused c.in-Err.ensures.at (c.in-Err.ensures.told ∙ i.3) (root-interior c.args.kind i.0 reached i.1 i.2 c.place-root.result c.loop-header.header i.5 i.4 is (omega (arith, c.loop-header-test.true)))

pub returns-in-Err-clause-refused : goal.returns-in-Err-clause-refused
returns-in-Err-clause-refused g c =
    unread-before c.args.kind (g.P.Pages.told c.read_interior.new.pages) (g.P.Pages.is_cause c.loop-header.pages c.read_interior.new.pages) (g.P.Pages.is_cause c.args.pages.now c.read_interior.new.pages) c.in-Err.fault
    (λ f. g.met.P.Pages.is_cause_before c.args.pages.now c.loop-header.pages c.read_interior.new.pages f c.loop-header.invariant.kept.goes_on) c.in-Err.ensures.refused

pub returns-in-Err-clause-steps : goal.returns-in-Err-clause-steps
returns-in-Err-clause-steps g c = omega (arith, c.in-Err.ensures.steps, c.loop-header.invariant.steps, c.loop-header-test.true)

pub returns-in-Err-clause-kept : goal.returns-in-Err-clause-kept
returns-in-Err-clause-kept g c = record {
  counts = later-twice c.loop-header.invariant.kept.counts c.in-Err.ensures.counts;
  frame_is = c.in-Err.ensures.frame ∙ c.loop-header.invariant.kept.frame_is;
  goes_on = g.met.P.Pages.goes_on_twice c.args.pages.now c.loop-header.pages c.read_interior.new.pages c.loop-header.invariant.kept.goes_on c.in-Err.ensures.goes_on;
}

pub returns-then-row_count-gt0-clause-collapsed : goal.returns-then-row_count-gt0-clause-collapsed
returns-then-row_count-gt0-clause-collapsed g c b reached t fs e h tree =
    let i = c.loop-header.invariant.tree b reached t fs e h tree in
    let signed : to_z w64 (of_z w64 c.loop-header.header.root_pointer) ≡ c.loop-header.header.root_pointer = search rules in
    let is : c.place-root.result ≡ place_of c.loop-header.header.root_pointer = c.place-root.ensures ∙ ap place_of signed in
    let r : c.read_interior.new.page ≡ page_in i.0 c.place-root.result = if_some (λ b. c.read_interior.new.page ≡ page_in b c.place-root.result) (g.P.Pages.told c.loop-header.pages) i.0 c.in-Ok.ensures.read i.3 in
    let some : 1 ≤ length (rows_of c.read_interior.new.page) = omega (arith, c.row_count.ensures, c.if-row_count-gt0.true) in
    let top : c.read_interior.new.page ≡ page_in i.0 (place_of (header_in i.0).root_pointer) = r ∙ ap (page_in i.0) (is ∙ ap (λ (z : Header). place_of z.root_pointer) i.4) in
    (i.0, c.in-Ok.ensures.told ∙ i.3, (i.1, i.2, i.5, i.6), i.7, inr (subst (λ (z : List ℕ). 1 ≤ length (rows_of z)) top some))

pub returns-then-row_count-gt0-clause-size : goal.returns-then-row_count-gt0-clause-size
returns-then-row_count-gt0-clause-size g c = c.in-Ok.ensures.size ∙ c.loop-header.invariant.size

pub returns-then-row_count-gt0-clause-steps : goal.returns-then-row_count-gt0-clause-steps
returns-then-row_count-gt0-clause-steps g c = omega (arith, c.in-Ok.ensures.steps, c.loop-header.invariant.steps, c.loop-header-test.true)

pub returns-then-row_count-gt0-clause-kept : goal.returns-then-row_count-gt0-clause-kept
returns-then-row_count-gt0-clause-kept g c = record {
  counts = later-twice c.loop-header.invariant.kept.counts c.in-Ok.ensures.counts;
  frame_is = c.in-Ok.ensures.frame ∙ c.loop-header.invariant.kept.frame_is;
  goes_on = g.met.P.Pages.goes_on_twice c.args.pages.now c.loop-header.pages c.read_interior.new.pages c.loop-header.invariant.kept.goes_on c.in-Ok.ensures.goes_on;
}

pub give_back-requires-clause-size : goal.give_back-requires-clause-size
give_back-requires-clause-size g c =
    let signed : to_z w64 (of_z w64 c.loop-header.header.maximum_size) ≡ c.loop-header.header.maximum_size = search rules in
    signed ∙ c.loop-header.invariant.header.tree.maximum ∙ ap pos (sym c.in-Ok.ensures.size)

pub give_back-requires-clause-at : goal.give_back-requires-clause-at
give_back-requires-clause-at g c =
    let signed : to_z w64 (of_z w64 c.loop-header.header.root_pointer) ≡ c.loop-header.header.root_pointer = search rules in
    let is : c.place-root.result ≡ place_of c.loop-header.header.root_pointer = c.place-root.ensures ∙ ap place_of signed in
    subst (λ (n : ℕ). IsChild n c.place-root.result) (sym c.in-Ok.ensures.size) (subst (λ (x : ℕ). IsChild (g.P.Pages.size c.loop-header.pages) x) (sym is) c.loop-header.invariant.header.root)

pub loop-header-smaller : goal.loop-header-smaller
loop-header-smaller g c =
    let less : c.in-Ok-give_back.since.levels ≡ c.loop-header.header.levels - 1 = ap (λ (z : Header). z.levels) c.in-Ok-give_back.ensures.header in
    omega (arith, less, c.loop-header-test.true)

pub loop-header-preserved : goal.loop-header-preserved
loop-header-preserved g c =
    let signed : to_z w64 (of_z w64 c.loop-header.header.root_pointer) ≡ c.loop-header.header.root_pointer = search rules in
    let is : c.place-root.result ≡ place_of c.loop-header.header.root_pointer = c.place-root.ensures ∙ ap place_of signed in
    let free : to_z w64 (of_z w64 c.loop-header.header.free_pointer) ≡ c.loop-header.header.free_pointer = search rules in
    let most : to_z w64 (of_z w64 c.loop-header.header.maximum_size) ≡ c.loop-header.header.maximum_size = search rules in
    let over : to_z w64 (of_z w64 c.overflow_link.result) ≡ c.overflow_link.result = search rules in
    let sizes : g.P.Pages.size c.give_back.new.pages ≡ g.P.Pages.size c.loop-header.pages = c.in-Ok-give_back.ensures.size ∙ c.in-Ok.ensures.size in
    let low : Header = record {
      magic = c.loop-header.header.magic;
      node_size = c.loop-header.header.node_size;
      levels = c.loop-header.header.levels - 1;
      data_type = c.loop-header.header.data_type;
      root_pointer = to_z w64 (of_z w64 c.overflow_link.result);
      free_pointer = to_z w64 (of_z w64 c.loop-header.header.free_pointer);
      maximum_size = to_z w64 (of_z w64 c.loop-header.header.maximum_size);
    } in
    let lowered = lower-header c.loop-header.header low (links_of c.read_interior.new.page).overflow (c.loop-header.header.levels - 1) refl refl refl refl (over ∙ c.overflow_link.ensures) free most in
    let good : IsHeaderFor c.args.kind (g.P.Pages.size c.loop-header.pages) low =
    header-lowered c.args.kind (g.P.Pages.size c.loop-header.pages) c.loop-header.header low (links_of c.read_interior.new.page).overflow c.loop-header.invariant.header (omega (arith, c.loop-header-test.true)) c.in-Ok.ensures.interior.last lowered in
    let child : IsChild (g.P.Pages.size c.loop-header.pages) c.place-root.result = subst (λ (x : ℕ). IsChild (g.P.Pages.size c.loop-header.pages) x) (sym is) c.loop-header.invariant.header.root in
    let since : IsHeaderFor c.args.kind (g.P.Pages.size c.loop-header.pages) c.in-Ok-give_back.since =
    header-freed c.args.kind (g.P.Pages.size c.loop-header.pages) low c.in-Ok-give_back.since c.place-root.result good child c.in-Ok-give_back.ensures.header in
    let less : c.in-Ok-give_back.since.levels ≡ c.loop-header.header.levels - 1 = ap (λ (z : Header). z.levels) c.in-Ok-give_back.ensures.header in record {
      page = c.in-Ok.ensures.length;
      header = subst (λ (n : ℕ). IsHeaderFor c.args.kind n c.in-Ok-give_back.since) (sym sizes) since;
      size = sizes ∙ c.loop-header.invariant.size;
      kept = record {
        counts = later-twice c.loop-header.invariant.kept.counts (later-twice c.in-Ok.ensures.counts c.in-Ok-give_back.ensures.kept.counts);
        frame_is = c.in-Ok-give_back.ensures.kept.frame_is ∙ c.in-Ok.ensures.frame ∙ c.loop-header.invariant.kept.frame_is;
        goes_on = g.met.P.Pages.goes_on_twice c.args.pages.now c.read_interior.new.pages c.give_back.new.pages
            (g.met.P.Pages.goes_on_twice c.args.pages.now c.loop-header.pages c.read_interior.new.pages c.loop-header.invariant.kept.goes_on c.in-Ok.ensures.goes_on) c.in-Ok-give_back.ensures.kept.goes_on;
      };
      steps = omega (arith, c.in-Ok.ensures.steps, c.loop-header.invariant.steps, c.loop-header-test.true, less);
      tree = λ b reached t fs e h tree.
          let i = c.loop-header.invariant.tree b reached t fs e h tree in
          let r : c.read_interior.new.page ≡ page_in i.0 c.place-root.result = if_some (λ b. c.read_interior.new.page ≡ page_in b c.place-root.result) (g.P.Pages.told c.loop-header.pages) i.0 c.in-Ok.ensures.read i.3 in
          let m = c.in-Ok-give_back.ensures.made i.0 (c.in-Ok.ensures.told ∙ i.3) in
          let same : c.in-Ok-give_back.since ≡ header_in m.0 = c.in-Ok-give_back.ensures.header ∙ sym m.2.header in
          let size : length m.0 ≡ g.P.Pages.size c.loop-header.pages = subst (λ (o : Option (List ℕ)). HasLength o (g.P.Pages.size c.give_back.new.pages)) m.1 (g.met.P.Pages.sized c.give_back.new.pages) ∙ sizes in
          let none : length (rows_of c.read_interior.new.page) ≡ 0 = omega (arith, c.row_count.ensures, c.if-row_count-gt0.false) in
          let n = root-lowered c.args.kind i.0 m.0 reached i.1 i.2 c.place-root.result c.loop-header.header low c.in-Ok-give_back.since i.5 i.4 is (omega (arith, c.loop-header-test.true))
          (subst (λ (z : List ℕ). length (rows_of z) ≡ 0) r none)
          (lowered ∙ ap (λ (z : List ℕ). record c.loop-header.header { root_pointer = (links_of z).overflow; levels = c.loop-header.header.levels - 1 }) r)
          m.2 same (subst (λ (k : ℕ). IsTreeHeader c.args.kind k c.in-Ok-give_back.since) (sym size) since.tree) in
          (m.0, n.0, n.1, m.1, same, n.2, n.3 ∙ i.6, stay-twice reached b i.0 m.0 i.7 n.4, λ f. n.5 (i.8 f));
    }

pub returns-in-Err-give_back-clause-refused : goal.returns-in-Err-give_back-clause-refused
returns-in-Err-give_back-clause-refused g c =
    failed-unread c.args.kind (g.P.Pages.told c.give_back.new.pages) (g.P.Pages.is_cause c.read_interior.new.pages c.give_back.new.pages) (g.P.Pages.is_cause c.args.pages.now c.give_back.new.pages) c.in-Err-give_back.fault
    (λ f. g.met.P.Pages.is_cause_before c.args.pages.now c.read_interior.new.pages c.give_back.new.pages f
    (g.met.P.Pages.goes_on_twice c.args.pages.now c.loop-header.pages c.read_interior.new.pages c.loop-header.invariant.kept.goes_on c.in-Ok.ensures.goes_on)) c.in-Err-give_back.ensures.failed

pub returns-in-Err-give_back-clause-steps : goal.returns-in-Err-give_back-clause-steps
returns-in-Err-give_back-clause-steps g c = omega (arith, c.in-Ok.ensures.steps, c.loop-header.invariant.steps, c.loop-header-test.true)

pub returns-in-Err-give_back-clause-kept : goal.returns-in-Err-give_back-clause-kept
returns-in-Err-give_back-clause-kept g c = record {
  counts = later-twice c.loop-header.invariant.kept.counts (later-twice c.in-Ok.ensures.counts c.in-Err-give_back.ensures.kept.counts);
  frame_is = c.in-Err-give_back.ensures.kept.frame_is ∙ c.in-Ok.ensures.frame ∙ c.loop-header.invariant.kept.frame_is;
  goes_on = g.met.P.Pages.goes_on_twice c.args.pages.now c.read_interior.new.pages c.give_back.new.pages
      (g.met.P.Pages.goes_on_twice c.args.pages.now c.loop-header.pages c.read_interior.new.pages c.loop-header.invariant.kept.goes_on c.in-Ok.ensures.goes_on) c.in-Err-give_back.ensures.kept.goes_on;
}

pub returns-clause-collapsed : goal.returns-clause-collapsed
returns-clause-collapsed g c b reached t fs e h tree =
    let i = c.loop-header.invariant.tree b reached t fs e h tree in
    let one : c.loop-header.header.levels ≡ 1 = omega (arith, c.loop-header-test.false, c.loop-header.invariant.header.tree.levels) in
    (i.0, i.3, (i.1, i.2, i.5, i.6), i.7, inl (sym (ap (λ (z : Header). z.levels) i.4) ∙ one))

pub returns-clause-size : goal.returns-clause-size
returns-clause-size g c = c.loop-header.invariant.size

pub returns-clause-steps : goal.returns-clause-steps
returns-clause-steps g c = omega (arith, c.loop-header.invariant.steps, c.loop-header.invariant.header.tree.levels)

pub returns-clause-kept : goal.returns-clause-kept
returns-clause-kept g c = c.loop-header.invariant.kept

pub returns-then-row_count-gt0-clause-filled : goal.returns-then-row_count-gt0-clause-filled
returns-then-row_count-gt0-clause-filled g c b reached t fs e h tree f =
    let i = c.loop-header.invariant.tree b reached t fs e h tree in
    (i.0, i.1, i.2, c.in-Ok.ensures.told ∙ i.3, i.5, i.8 f)

pub returns-clause-filled : goal.returns-clause-filled
returns-clause-filled g c b reached t fs e h tree f =
    let i = c.loop-header.invariant.tree b reached t fs e h tree in
    (i.0, i.1, i.2, i.3, i.5, i.8 f)
