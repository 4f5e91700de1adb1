use Rattle.std.proofs.Common.{◌≡◌, ◌/◌, ℕ, suc, List, Some, length, refl, ap, sym, ◌∙◌, subst, arith, inl, inr}
use Rattle.bfs_base.specs.Lists.{times}
use Rattle.bfs_pages.specs.Answers.{IsChild, IsLink}
use Rattle.bfs_pages.specs.Trees.{page_in, neighbours_in}
use Rattle.bfs_pages.proofs.Later.{later-twice}
use Rattle.bfs_pages.proofs.OfKind.{if_some}
use Rattle.bfs_remove.proofs.Giving.{told-size}
use Rattle.bfs_values.specs.Values.{IsDuplicates, page_numbers, next_of, EndsAfter}
use Rattle.bfs_values.proofs.Chains.{first-page, last-page}
use Rattle.bfs_values.proofs.Ending.{ends-soon}
use Rattle.bfs_values.proofs.Lasting.{none-cut}
use Rattle.bfs_values.proofs.Chaining.{chained-ends}
use Rattle.bfs_dups.proofs.Scanning.{link-child}
use Rattle.bfs_dups_remove.proofs.Walking.{walked-first, walked-there, walked-last, walked-next, walked-link, child-some}
use Rattle.bfs_dups_remove.proofs.locating.locate.Goals as goal

pub loop-seen-init : goal.loop-seen-init
loop-seen-init g c = record {
  some = first-page (g.P.Pages.size c.args.pages.now) c.args.first c.length-left.result c.length-left.ensures (g.met.P.Pages.whole c.args.pages.now) c.requires.first;
  at = c.requires.first;
  before = inl refl;
  length = c.requires.page;
  told = refl;
  size = refl;
  kept = record { counts = record { faults = omega arith; stops = refl; stop = refl }; frame_is = refl; goes_on = g.met.P.Pages.goes_on_same c.args.pages.now };
  spare = λ b e n d.
      let size : length b ≡ g.P.Pages.size c.args.pages.now = told-size (g.P.Pages.told c.args.pages.now) (g.P.Pages.size c.args.pages.now) b (g.met.P.Pages.sized c.args.pages.now) e in
      ends-soon b (c.length-left.result / 1024) n c.args.first (omega (arith, size, c.length-left.ensures, g.met.P.Pages.whole c.args.pages.now)) (subst (λ (m : ℕ). IsChild m c.args.first) (sym size) c.requires.first) d;
  found = λ b xs e d good. walked-first b xs c.args.number c.args.first c.requires.first.0 d good;
}

pub returns-in-Err-clause-found : goal.returns-in-Err-clause-found
returns-in-Err-clause-found g c b xs e d good =
    let s = c.loop-seen.invariant.found b xs e d good in
    c.in-Err.ensures.spared b (c.loop-seen.invariant.told ∙ e) s.good.0 (walked-link b xs c.args.number c.loop-seen.before c.loop-seen.at s)

pub returns-then-seen-clause-found : goal.returns-then-seen-clause-found
returns-then-seen-clause-found g c b xs e d good = walked-there b xs c.args.number c.loop-seen.before c.loop-seen.at (c.loop-seen.invariant.found b xs e d good)

pub returns-then-seen-eq0-clause-found : goal.returns-then-seen-eq0-clause-found
returns-then-seen-eq0-clause-found g c b xs e d good =
    let s = c.loop-seen.invariant.found b xs e d good in
    let r : c.look_at.new.page ≡ page_in b c.loop-seen.at = if_some (λ (b : List ℕ). c.look_at.new.page ≡ page_in b c.loop-seen.at) (g.P.Pages.told c.loop-seen.pages) b c.in-Ok.ensures.read (c.loop-seen.invariant.told ∙ e) in
    let absent : times c.args.number (page_numbers (page_in b c.loop-seen.at)) ≡ 0 = subst (λ (p : List ℕ). times c.args.number (page_numbers p) ≡ 0) r (c.in-Ok.ensures.absent c.if-seen.false) in
    let next : next_of b c.loop-seen.at ≡ 0 = ap (λ (p : List ℕ). (neighbours_in p).1) (sym r) ∙ sym c.in-Ok.ensures.next ∙ c.if-seen-eq0.true in
    walked-last b xs c.args.number c.loop-seen.before c.loop-seen.at s absent next

pub loop-seen-preserved : goal.loop-seen-preserved
loop-seen-preserved g c =
    let size : g.P.Pages.size c.loop-seen.pages ≡ g.P.Pages.size c.args.pages.now = c.loop-seen.invariant.size in
    let child : IsChild (g.P.Pages.size c.args.pages.now) c.in-Ok.seen.next = link-child (g.P.Pages.size c.args.pages.now) c.in-Ok.seen.next (subst (λ (n : ℕ). IsLink n c.in-Ok.seen.next) size c.in-Ok.ensures.link) c.if-seen-eq0.false in
    let read : (b : List ℕ) → g.P.Pages.told c.args.pages.now ≡ Some b → c.look_at.new.page ≡ page_in b c.loop-seen.at = λ b e. if_some (λ (b : List ℕ). c.look_at.new.page ≡ page_in b c.loop-seen.at) (g.P.Pages.told c.loop-seen.pages) b c.in-Ok.ensures.read (c.loop-seen.invariant.told ∙ e) in
    let next : (b : List ℕ) → g.P.Pages.told c.args.pages.now ≡ Some b → c.in-Ok.seen.next ≡ next_of b c.loop-seen.at = λ b e. c.in-Ok.ensures.next ∙ ap (λ (p : List ℕ). (neighbours_in p).1) (read b e) in record {
      some = omega (arith, c.loop-seen.invariant.some, c.if-left-eq1.false);
      at = child;
      before = inr c.loop-seen.invariant.at;
      length = c.in-Ok.ensures.length;
      told = c.in-Ok.ensures.told ∙ c.loop-seen.invariant.told;
      size = c.in-Ok.ensures.size ∙ size;
      kept = record {
        counts = later-twice c.loop-seen.invariant.kept.counts c.in-Ok.ensures.kept.counts;
        frame_is = c.in-Ok.ensures.kept.frame_is ∙ c.loop-seen.invariant.kept.frame_is;
        goes_on = g.met.P.Pages.goes_on_twice c.args.pages.now c.loop-seen.pages c.look_at.new.pages c.loop-seen.invariant.kept.goes_on c.in-Ok.ensures.kept.goes_on;
      };
      spare = λ b e n d.
          let length_is : length b ≡ g.P.Pages.size c.args.pages.now = told-size (g.P.Pages.told c.args.pages.now) (g.P.Pages.size c.args.pages.now) b (g.met.P.Pages.sized c.args.pages.now) e in
          let p : IsChild (length b) (next_of b c.loop-seen.at) = subst (λ z. IsChild (length b) z) (next b e) (subst (λ (m : ℕ). IsChild m c.in-Ok.seen.next) (sym length_is) child) in
          omega (arith, c.loop-seen.invariant.spare b e (suc n) (p, subst (λ z. EndsAfter b n z) (next b e) d));
      found = λ b xs e d good.
          let s = c.loop-seen.invariant.found b xs e d good in
          let absent : times c.args.number (page_numbers (page_in b c.loop-seen.at)) ≡ 0 = subst (λ (p : List ℕ). times c.args.number (page_numbers p) ≡ 0) (read b e) (c.in-Ok.ensures.absent c.if-seen.false) in
          walked-next b xs c.args.number c.loop-seen.before c.loop-seen.at c.in-Ok.seen.next s absent (next b e) c.if-seen-eq0.false (child-some (g.P.Pages.size c.args.pages.now) c.loop-seen.at c.loop-seen.invariant.at);
    }

pub returns-then-left-eq1-clause-found : goal.returns-then-left-eq1-clause-found
returns-then-left-eq1-clause-found g c b xs e d good =
    let s = c.loop-seen.invariant.found b xs e d good in
    let r : c.look_at.new.page ≡ page_in b c.loop-seen.at = if_some (λ (b : List ℕ). c.look_at.new.page ≡ page_in b c.loop-seen.at) (g.P.Pages.told c.loop-seen.pages) b c.in-Ok.ensures.read (c.loop-seen.invariant.told ∙ e) in
    let next : c.in-Ok.seen.next ≡ next_of b c.loop-seen.at = c.in-Ok.ensures.next ∙ ap (λ (p : List ℕ). (neighbours_in p).1) r in
    let ends = chained-ends b c.loop-seen.at c.loop-seen.at s.back s.chain in
    let few = c.loop-seen.invariant.spare b e (length s.back) ends in
    absurd (c.if-seen-eq0.false (next ∙ last-page b (length s.back) c.loop-seen.at (omega (arith, few, c.if-left-eq1.true)) ends))

pub returns-then-left-eq1-clause-refused : goal.returns-then-left-eq1-clause-refused
returns-then-left-eq1-clause-refused g c =
    none-cut (λ bytes. IsDuplicates (page_in bytes c.loop-seen.at) × IsLink (length bytes) (next_of bytes c.loop-seen.at) × ((x : ℕ) × EndsAfter bytes x c.loop-seen.at) → ⊥) (g.P.Pages.told c.look_at.new.pages)
    (λ b e w.
    let before : g.P.Pages.told c.loop-seen.pages ≡ Some b = sym c.in-Ok.ensures.told ∙ e in
    let r : c.look_at.new.page ≡ page_in b c.loop-seen.at = if_some (λ (b : List ℕ). c.look_at.new.page ≡ page_in b c.loop-seen.at) (g.P.Pages.told c.loop-seen.pages) b c.in-Ok.ensures.read before in
    let next : c.in-Ok.seen.next ≡ next_of b c.loop-seen.at = c.in-Ok.ensures.next ∙ ap (λ (p : List ℕ). (neighbours_in p).1) r in
    let few = c.loop-seen.invariant.spare b (sym c.loop-seen.invariant.told ∙ before) w.2.0 w.2.1 in
    c.if-seen-eq0.false (next ∙ last-page b w.2.0 c.loop-seen.at (omega (arith, few, c.if-left-eq1.true)) w.2.1))
