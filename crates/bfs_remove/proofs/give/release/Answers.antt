use Rattle.std.proofs.Common.{◌≡◌, ℕ, pos, List, ◌∷◌, ap, sym, ◌∙◌, subst, refl, arith, rules, w64, to_z, of_z}
use Rattle.bfs_node.specs.Page.{links_of}
use Rattle.bfs_node.specs.declared.header.Header.{Header}
use Rattle.bfs_node.specs.declared.fault.PageKind.TheVariants.{Interior}
use Rattle.bfs_pages.specs.Answers.{IsChild, IsHeaderFor}
use Rattle.bfs_pages.specs.Trees.{page_in, place_of, state_of}
use Rattle.bfs_pages.proofs.Faulted.{of-pages, unread-before}
use Rattle.bfs_pages.proofs.Later.{later-twice}
use Rattle.bfs_pages.proofs.OfKind.{if_some}
use Rattle.bfs_remove.specs.Cuts.{InHand}
use Rattle.bfs_remove.proofs.Giving.{hand-interior, release-next, release-last, stay-twice, header-freed, failed-unread}
use Rattle.bfs_remove.proofs.give.release.Goals as goal

pub loop-left-init : goal.loop-left-init
loop-left-init g c = record {
  page = search rules;
  header = c.requires.header;
  levels = refl;
  at = c.requires.from;
  size = refl;
  kept = record { counts = search rules; frame_is = refl; goes_on = g.met.P.Pages.goes_on_same c.args.pages.now };
  steps = omega arith;
  hand = λ b reached t fs u e h hand. (b, fs, u, e, h, hand, λ x i. refl);
}

pub read_interior-requires-clause-at : goal.read_interior-requires-clause-at
read_interior-requires-clause-at g c = c.loop-left.invariant.at

pub returns-in-Err-clause-released : goal.returns-in-Err-clause-released
returns-in-Err-clause-released g c b reached t fs u e h hand =
    let i = c.loop-left.invariant.hand b reached t fs u e h hand in
    of-pages c.args.kind (g.P.Pages.told c.read_interior.new.pages) (g.P.Pages.is_cause c.loop-left.pages c.read_interior.new.pages) i.0 c.loop-left.at Interior c.in-Err.fault
    c.in-Err.ensures.refused c.in-Err.ensures.at (c.in-Err.ensures.told ∙ i.3) (hand-interior c.args.kind i.0 reached c.loop-left.at c.loop-left.left t i.1 i.2 i.5 (omega (arith, c.loop-left-test.true)))

pub returns-in-Err-clause-refused : goal.returns-in-Err-clause-refused
returns-in-Err-clause-refused g c =
    unread-before c.args.kind (g.P.Pages.told c.read_interior.new.pages) (g.P.Pages.is_cause c.loop-left.pages c.read_interior.new.pages) (g.P.Pages.is_cause c.args.pages.now c.read_interior.new.pages) c.in-Err.fault
    (λ f. g.met.P.Pages.is_cause_before c.args.pages.now c.loop-left.pages c.read_interior.new.pages f c.loop-left.invariant.kept.goes_on) c.in-Err.ensures.refused

pub returns-in-Err-clause-steps : goal.returns-in-Err-clause-steps
returns-in-Err-clause-steps g c = omega (arith, c.in-Err.ensures.steps, c.loop-left.invariant.steps, c.loop-left-test.true)

pub returns-in-Err-clause-kept : goal.returns-in-Err-clause-kept
returns-in-Err-clause-kept g c = record {
  counts = later-twice c.loop-left.invariant.kept.counts c.in-Err.ensures.counts;
  frame_is = c.in-Err.ensures.frame ∙ c.loop-left.invariant.kept.frame_is;
  goes_on = g.met.P.Pages.goes_on_twice c.args.pages.now c.loop-left.pages c.read_interior.new.pages c.loop-left.invariant.kept.goes_on c.in-Err.ensures.goes_on;
}

pub give_back-requires-clause-size : goal.give_back-requires-clause-size
give_back-requires-clause-size g c = c.loop-left.invariant.header.tree.maximum ∙ ap pos (sym c.in-Ok.ensures.size)

pub give_back-requires-clause-at : goal.give_back-requires-clause-at
give_back-requires-clause-at g c = subst (λ (n : ℕ). IsChild n c.loop-left.at) (sym c.in-Ok.ensures.size) c.loop-left.invariant.at

pub returns-in-Err-give_back-clause-refused : goal.returns-in-Err-give_back-clause-refused
returns-in-Err-give_back-clause-refused g c =
    failed-unread c.args.kind (g.P.Pages.told c.give_back.new.pages) (g.P.Pages.is_cause c.read_interior.new.pages c.give_back.new.pages) (g.P.Pages.is_cause c.args.pages.now c.give_back.new.pages) c.in-Err-give_back.fault
    (λ f. g.met.P.Pages.is_cause_before c.args.pages.now c.read_interior.new.pages c.give_back.new.pages f
    (g.met.P.Pages.goes_on_twice c.args.pages.now c.loop-left.pages c.read_interior.new.pages c.loop-left.invariant.kept.goes_on c.in-Ok.ensures.goes_on)) c.in-Err-give_back.ensures.failed

pub returns-in-Err-give_back-clause-steps : goal.returns-in-Err-give_back-clause-steps
returns-in-Err-give_back-clause-steps g c = omega (arith, c.in-Ok.ensures.steps, c.loop-left.invariant.steps, c.loop-left-test.true)

pub returns-in-Err-give_back-clause-kept : goal.returns-in-Err-give_back-clause-kept
returns-in-Err-give_back-clause-kept g c = record {
  counts = later-twice c.loop-left.invariant.kept.counts (later-twice c.in-Ok.ensures.counts c.in-Err-give_back.ensures.kept.counts);
  frame_is = c.in-Err-give_back.ensures.kept.frame_is ∙ c.in-Ok.ensures.frame ∙ c.loop-left.invariant.kept.frame_is;
  goes_on = g.met.P.Pages.goes_on_twice c.args.pages.now c.read_interior.new.pages c.give_back.new.pages
      (g.met.P.Pages.goes_on_twice c.args.pages.now c.loop-left.pages c.read_interior.new.pages c.loop-left.invariant.kept.goes_on c.in-Ok.ensures.goes_on) c.in-Err-give_back.ensures.kept.goes_on;
}

pub loop-left-preserved : goal.loop-left-preserved
loop-left-preserved g c =
    let sizes : g.P.Pages.size c.give_back.new.pages ≡ g.P.Pages.size c.loop-left.pages = c.in-Ok-give_back.ensures.size ∙ c.in-Ok.ensures.size in
    let signed : to_z w64 (of_z w64 c.overflow_link.result) ≡ c.overflow_link.result = search rules in
    let next : c.place-at.result ≡ place_of (links_of c.read_interior.new.page).overflow = c.place-at.ensures ∙ ap place_of (signed ∙ c.overflow_link.ensures) in record {
      page = c.in-Ok.ensures.length;
      header = header-freed c.args.kind (g.P.Pages.size c.give_back.new.pages) c.loop-left.header c.in-Ok-give_back.since c.loop-left.at (subst (λ (n : ℕ). IsHeaderFor c.args.kind n c.loop-left.header) (sym sizes) c.loop-left.invariant.header)
          (subst (λ (n : ℕ). IsChild n c.loop-left.at) (sym sizes) c.loop-left.invariant.at) c.in-Ok-give_back.ensures.header;
      levels = ap (λ (z : Header). z.levels) c.in-Ok-give_back.ensures.header ∙ c.loop-left.invariant.levels;
      at = subst (λ (n : ℕ). IsChild n c.place-at.result) (sym sizes) (subst (λ (x : ℕ). IsChild (g.P.Pages.size c.loop-left.pages) x) (sym next) c.in-Ok.ensures.interior.last);
      size = sizes ∙ c.loop-left.invariant.size;
      kept = record {
        counts = later-twice c.loop-left.invariant.kept.counts (later-twice c.in-Ok.ensures.counts c.in-Ok-give_back.ensures.kept.counts);
        frame_is = c.in-Ok-give_back.ensures.kept.frame_is ∙ c.in-Ok.ensures.frame ∙ c.loop-left.invariant.kept.frame_is;
        goes_on = g.met.P.Pages.goes_on_twice c.args.pages.now c.read_interior.new.pages c.give_back.new.pages
            (g.met.P.Pages.goes_on_twice c.args.pages.now c.loop-left.pages c.read_interior.new.pages c.loop-left.invariant.kept.goes_on c.in-Ok.ensures.goes_on) c.in-Ok-give_back.ensures.kept.goes_on;
      };
      steps = omega (arith, c.in-Ok.ensures.steps, c.loop-left.invariant.steps, c.loop-left-test.true);
      hand = λ b reached t fs u e h hand.
          let i = c.loop-left.invariant.hand b reached t fs u e h hand in
          let r : c.read_interior.new.page ≡ page_in i.0 c.loop-left.at = if_some (λ b. c.read_interior.new.page ≡ page_in b c.loop-left.at) (g.P.Pages.told c.loop-left.pages) i.0 c.in-Ok.ensures.read i.3 in
          let m = c.in-Ok-give_back.ensures.made i.0 (c.in-Ok.ensures.told ∙ i.3) in
          let n = release-next c.args.kind i.0 m.0 reached c.loop-left.at c.place-at.result c.loop-left.left c.loop-left.header t i.1 i.2 i.5 (omega (arith, c.loop-left-test.true)) m.2 i.4
          (next ∙ ap (λ (z : List ℕ). place_of (links_of z).overflow) r) in
          (m.0, c.loop-left.at ∷ i.1, n.0, m.1, c.in-Ok-give_back.ensures.header ∙ sym m.2.header, n.1, stay-twice reached b i.0 m.0 i.6 n.2);
    }

pub give_back-requires-2-clause-size : goal.give_back-requires-2-clause-size
give_back-requires-2-clause-size g c = c.loop-left.invariant.header.tree.maximum

pub give_back-requires-2-clause-at : goal.give_back-requires-2-clause-at
give_back-requires-2-clause-at g c = c.loop-left.invariant.at

pub returns-in-Ok-give_back-2-clause-header : goal.returns-in-Ok-give_back-2-clause-header
returns-in-Ok-give_back-2-clause-header g c =
    header-freed c.args.kind (g.P.Pages.size c.give_back-2.new.pages) c.loop-left.header c.in-Ok-give_back-2.since c.loop-left.at (subst (λ (n : ℕ). IsHeaderFor c.args.kind n c.loop-left.header) (sym c.in-Ok-give_back-2.ensures.size) c.loop-left.invariant.header)
    (subst (λ (n : ℕ). IsChild n c.loop-left.at) (sym c.in-Ok-give_back-2.ensures.size) c.loop-left.invariant.at) c.in-Ok-give_back-2.ensures.header

pub returns-in-Ok-give_back-2-clause-levels : goal.returns-in-Ok-give_back-2-clause-levels
returns-in-Ok-give_back-2-clause-levels g c = ap (λ (z : Header). z.levels) c.in-Ok-give_back-2.ensures.header ∙ c.loop-left.invariant.levels

pub returns-in-Ok-give_back-2-clause-released : goal.returns-in-Ok-give_back-2-clause-released
returns-in-Ok-give_back-2-clause-released g c b reached t fs u e h hand =
    let i = c.loop-left.invariant.hand b reached t fs u e h hand in
    let m = c.in-Ok-give_back-2.ensures.made i.0 i.3 in
    let none : c.loop-left.left ≡ 0 = omega (arith, c.loop-left-test.false) in
    let r = release-last c.args.kind i.0 m.0 reached c.loop-left.at c.loop-left.header t i.1 i.2 (subst (λ (n : ℕ). InHand c.args.kind (state_of c.args.kind i.0) reached c.loop-left.at n t i.1 i.2) none i.5) m.2 i.4 in
    (m.0, m.1, c.in-Ok-give_back-2.ensures.header ∙ sym m.2.header, record { frees = r.frees; holds = r.holds; stay = stay-twice reached b i.0 m.0 i.6 r.stay })

pub returns-in-Ok-give_back-2-clause-size : goal.returns-in-Ok-give_back-2-clause-size
returns-in-Ok-give_back-2-clause-size g c = c.in-Ok-give_back-2.ensures.size ∙ c.loop-left.invariant.size

pub returns-in-Ok-give_back-2-clause-steps : goal.returns-in-Ok-give_back-2-clause-steps
returns-in-Ok-give_back-2-clause-steps g c = omega (arith, c.loop-left.invariant.steps)

pub returns-in-Ok-give_back-2-clause-kept : goal.returns-in-Ok-give_back-2-clause-kept
returns-in-Ok-give_back-2-clause-kept g c = record {
  counts = later-twice c.loop-left.invariant.kept.counts c.in-Ok-give_back-2.ensures.kept.counts;
  frame_is = c.in-Ok-give_back-2.ensures.kept.frame_is ∙ c.loop-left.invariant.kept.frame_is;
  goes_on = g.met.P.Pages.goes_on_twice c.args.pages.now c.loop-left.pages c.give_back-2.new.pages c.loop-left.invariant.kept.goes_on c.in-Ok-give_back-2.ensures.kept.goes_on;
}

pub returns-in-Err-give_back-2-clause-refused : goal.returns-in-Err-give_back-2-clause-refused
returns-in-Err-give_back-2-clause-refused g c =
    failed-unread c.args.kind (g.P.Pages.told c.give_back-2.new.pages) (g.P.Pages.is_cause c.loop-left.pages c.give_back-2.new.pages) (g.P.Pages.is_cause c.args.pages.now c.give_back-2.new.pages) c.in-Err-give_back-2.fault
    (λ f. g.met.P.Pages.is_cause_before c.args.pages.now c.loop-left.pages c.give_back-2.new.pages f c.loop-left.invariant.kept.goes_on) c.in-Err-give_back-2.ensures.failed

pub returns-in-Err-give_back-2-clause-steps : goal.returns-in-Err-give_back-2-clause-steps
returns-in-Err-give_back-2-clause-steps g c = omega (arith, c.loop-left.invariant.steps)

pub returns-in-Err-give_back-2-clause-kept : goal.returns-in-Err-give_back-2-clause-kept
returns-in-Err-give_back-2-clause-kept g c = record {
  counts = later-twice c.loop-left.invariant.kept.counts c.in-Err-give_back-2.ensures.kept.counts;
  frame_is = c.in-Err-give_back-2.ensures.kept.frame_is ∙ c.loop-left.invariant.kept.frame_is;
  goes_on = g.met.P.Pages.goes_on_twice c.args.pages.now c.loop-left.pages c.give_back-2.new.pages c.loop-left.invariant.kept.goes_on c.in-Err-give_back-2.ensures.kept.goes_on;
}
