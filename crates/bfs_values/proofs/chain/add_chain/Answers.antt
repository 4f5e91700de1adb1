use Rattle.std.proofs.Common.{◌≡◌, ◌≢◌, ◌-◌, ◌/◌, ◌++◌, ℕ, suc, List, [], ◌∷◌, Some, length, ap, sym, ◌∙◌, subst, arith}
use Rattle.bfs_pages.specs.Answers.{IsChild, IsLink}
use Rattle.bfs_pages.specs.Trees.{page_in}
use Rattle.bfs_pages.proofs.OfKind.{if_some}
use Rattle.bfs_values.specs.Values.{page_numbers, next_of, EndsAfter, IsDuplicates, AreDuplicates, chain_from, chain_of, numbers_of_pages}
use Rattle.bfs_values.proofs.Chains.{chain-last, chain-next, ends-next, ends-link, the-child, first-good, first-added, first-page, good-before, last-page, good_here, some_pages, nothing-more}
use Rattle.bfs_values.proofs.Ending.{ends-soon}
use Rattle.bfs_values.proofs.Lasting.{none-cut, stays-none, stays-twice}
use Rattle.bfs_values.proofs.chain.add_chain.Goals as goal

pub loop-next-init : goal.loop-next-init
loop-next-init g c = record {
  stays = stays-none (g.met.P.Pages.goes_on_same c.args.pages.now) (g.met.P.Pages.is_read_same c.args.pages.now);
  some = first-page (g.P.Pages.size c.args.pages.now) c.args.first c.length-left.result c.length-left.ensures (g.met.P.Pages.whole c.args.pages.now) c.requires.at;
  at = c.requires.at;
  sure = λ b e.
      let size : length b ≡ g.P.Pages.size c.args.pages.now = if_some (λ (b : List ℕ). length b ≡ g.P.Pages.size c.args.pages.now) (g.P.Pages.told c.args.pages.now) b (g.met.P.Pages.sized c.args.pages.now) e in
      let same : chain_from b (c.length-left.result / 1024) c.args.first ≡ chain_of b c.args.first = ap (λ (m : ℕ). chain_from b (m / 1024) c.args.first) (c.length-left.ensures ∙ sym size) in (
        λ n d. (n, d),
        λ good. subst (λ z. AreDuplicates b z) same good,
      );
  spare = λ b e n d.
      let size : length b ≡ g.P.Pages.size c.args.pages.now = if_some (λ (b : List ℕ). length b ≡ g.P.Pages.size c.args.pages.now) (g.P.Pages.told c.args.pages.now) b (g.met.P.Pages.sized c.args.pages.now) e in
      ends-soon b (c.length-left.result / 1024) n c.args.first (omega (arith, size, c.length-left.ensures, g.met.P.Pages.whole c.args.pages.now)) (subst (λ (m : ℕ). IsChild m c.args.first) (sym size) c.requires.at) d;
  whole = λ b e ends good.
      let size : length b ≡ g.P.Pages.size c.args.pages.now = if_some (λ (b : List ℕ). length b ≡ g.P.Pages.size c.args.pages.now) (g.P.Pages.told c.args.pages.now) b (g.met.P.Pages.sized c.args.pages.now) e in
      let same : chain_of b c.args.first ≡ chain_from b (c.length-left.result / 1024) c.args.first = ap (λ (m : ℕ). chain_from b (m / 1024) c.args.first) (size ∙ sym c.length-left.ensures) in (
        subst (λ z. AreDuplicates b z) same good,
        ends,
        ap (λ z. c.args.numbers.now.items ++ numbers_of_pages b z) (sym same),
        omega (arith, ap (λ (z : List ℕ). length z) same),
      );
}

pub returns-in-Err-clause-numbers : goal.returns-in-Err-clause-numbers
returns-in-Err-clause-numbers g c b e ends good =
    let w = c.loop-next.invariant.whole b e ends good in
    let told = c.loop-next.invariant.stays.told_is ∙ e in
    c.in-Err.ensures.spared b told (good_here b c.loop-next.left c.loop-next.at (omega (arith, c.loop-next.invariant.some)) w.0) (ends-link b w.1.0 c.loop-next.at w.1.1)

pub returns-in-Err-clause-steps : goal.returns-in-Err-clause-steps
returns-in-Err-clause-steps g c b e ends good =
    let w = c.loop-next.invariant.whole b e ends good in
    omega (arith, c.in-Err.ensures.steps, w.3, some_pages b c.loop-next.left c.loop-next.at (omega (arith, c.loop-next.invariant.some)))

pub returns-then-next-eq0-clause-numbers : goal.returns-then-next-eq0-clause-numbers
returns-then-next-eq0-clause-numbers g c b e ends good =
    let w = c.loop-next.invariant.whole b e ends good in
    let told = c.loop-next.invariant.stays.told_is ∙ e in
    let next : c.in-Ok.next ≡ next_of b c.loop-next.at = if_some (λ b. c.in-Ok.next ≡ next_of b c.loop-next.at) (g.P.Pages.told c.loop-next.pages) b c.in-Ok.ensures.is_next told in
    let added = if_some (λ b. c.add_page.new.numbers.items ≡ c.loop-next.numbers.items ++ page_numbers (page_in b c.loop-next.at)) (g.P.Pages.told c.loop-next.pages) b c.in-Ok.ensures.numbers told in
    let last = chain-last b c.loop-next.left c.loop-next.at (omega (arith, c.loop-next.invariant.some)) (sym next ∙ c.if-next-eq0.true) in
    sym (nothing-more c.add_page.new.numbers.items)
    ∙ first-added b c.loop-next.numbers.items c.add_page.new.numbers.items (c.args.numbers.now.items ++ numbers_of_pages b (chain_of b c.args.first)) (chain_from b c.loop-next.left c.loop-next.at) c.loop-next.at [] last w.2 added

pub returns-then-next-eq0-clause-steps : goal.returns-then-next-eq0-clause-steps
returns-then-next-eq0-clause-steps g c b e ends good =
    let w = c.loop-next.invariant.whole b e ends good in
    omega (arith, c.in-Ok.ensures.steps, w.3, some_pages b c.loop-next.left c.loop-next.at (omega (arith, c.loop-next.invariant.some)))

pub returns-then-next-eq0-clause-sure : goal.returns-then-next-eq0-clause-sure
returns-then-next-eq0-clause-sure g c b e =
    let told = c.loop-next.invariant.stays.told_is ∙ e in
    let s = c.loop-next.invariant.sure b e in
    let next : c.in-Ok.next ≡ next_of b c.loop-next.at = if_some (λ b. c.in-Ok.next ≡ next_of b c.loop-next.at) (g.P.Pages.told c.loop-next.pages) b c.in-Ok.ensures.is_next told in
    let good : IsDuplicates (page_in b c.loop-next.at) = if_some (λ b. IsDuplicates (page_in b c.loop-next.at)) (g.P.Pages.told c.loop-next.pages) b c.in-Ok.ensures.good told in
    let last = chain-last b c.loop-next.left c.loop-next.at (omega (arith, c.loop-next.invariant.some)) (sym next ∙ c.if-next-eq0.true) in
    (s.0 0 (sym next ∙ c.if-next-eq0.true), s.1 (subst (λ z. AreDuplicates b z) (sym last) (good, tt)))

pub returns-then-left-eq1-clause-refused : goal.returns-then-left-eq1-clause-refused
returns-then-left-eq1-clause-refused g c =
    none-cut (λ bytes. IsDuplicates (page_in bytes c.loop-next.at) × IsLink (length bytes) (next_of bytes c.loop-next.at) × ((x : ℕ) × EndsAfter bytes x c.loop-next.at) → ⊥) (g.P.Pages.told c.add_page.new.pages)
    (λ b e w.
    let before : g.P.Pages.told c.loop-next.pages ≡ Some b = sym c.in-Ok.ensures.stays.told_is ∙ e in
    let next : c.in-Ok.next ≡ next_of b c.loop-next.at = if_some (λ b. c.in-Ok.next ≡ next_of b c.loop-next.at) (g.P.Pages.told c.loop-next.pages) b c.in-Ok.ensures.is_next before in
    let off : next_of b c.loop-next.at ≢ 0 = λ z. c.if-next-eq0.false (next ∙ z) in
    let few = c.loop-next.invariant.spare b (sym c.loop-next.invariant.stays.told_is ∙ before) w.2.0 w.2.1 in
    off (last-page b w.2.0 c.loop-next.at (omega (arith, few, c.if-left-eq1.true)) w.2.1))

pub loop-next-preserved : goal.loop-next-preserved
loop-next-preserved g c = record {
  stays = stays-twice c.loop-next.invariant.stays c.in-Ok.ensures.stays (g.met.P.Pages.goes_on_twice c.args.pages.now c.loop-next.pages c.add_page.new.pages) (g.met.P.Pages.is_read_twice c.args.pages.now c.loop-next.pages c.add_page.new.pages);
  some = omega (arith, c.loop-next.invariant.some, c.if-left-eq1.false);
  at = the-child (g.P.Pages.size c.args.pages.now) c.in-Ok.next (subst (λ (n : ℕ). IsLink n c.in-Ok.next) c.loop-next.invariant.stays.size_is c.in-Ok.ensures.next) c.if-next-eq0.false;
  sure = λ b e.
      let told = c.loop-next.invariant.stays.told_is ∙ e in
      let s = c.loop-next.invariant.sure b e in
      let size : length b ≡ g.P.Pages.size c.args.pages.now = if_some (λ (b : List ℕ). length b ≡ g.P.Pages.size c.args.pages.now) (g.P.Pages.told c.args.pages.now) b (g.met.P.Pages.sized c.args.pages.now) e in
      let next : c.in-Ok.next ≡ next_of b c.loop-next.at = if_some (λ b. c.in-Ok.next ≡ next_of b c.loop-next.at) (g.P.Pages.told c.loop-next.pages) b c.in-Ok.ensures.is_next told in
      let good : IsDuplicates (page_in b c.loop-next.at) = if_some (λ b. IsDuplicates (page_in b c.loop-next.at)) (g.P.Pages.told c.loop-next.pages) b c.in-Ok.ensures.good told in
      let child : IsChild (g.P.Pages.size c.args.pages.now) c.in-Ok.next = the-child (g.P.Pages.size c.args.pages.now) c.in-Ok.next (subst (λ (n : ℕ). IsLink n c.in-Ok.next) c.loop-next.invariant.stays.size_is c.in-Ok.ensures.next) c.if-next-eq0.false in
      let off : next_of b c.loop-next.at ≢ 0 = λ z. c.if-next-eq0.false (next ∙ z) in
      let p : IsChild (length b) (next_of b c.loop-next.at) = subst (λ z. IsChild (length b) z) next (subst (λ (m : ℕ). IsChild m c.in-Ok.next) (sym size) child) in (
        λ n d. s.0 (suc n) (p, subst (λ z. EndsAfter b n z) next d),
        λ rest. s.1 (good-before b c.loop-next.left c.loop-next.at c.in-Ok.next c.loop-next.invariant.some off next good rest),
      );
  spare = λ b e n d.
      let told = c.loop-next.invariant.stays.told_is ∙ e in
      let size : length b ≡ g.P.Pages.size c.args.pages.now = if_some (λ (b : List ℕ). length b ≡ g.P.Pages.size c.args.pages.now) (g.P.Pages.told c.args.pages.now) b (g.met.P.Pages.sized c.args.pages.now) e in
      let next : c.in-Ok.next ≡ next_of b c.loop-next.at = if_some (λ b. c.in-Ok.next ≡ next_of b c.loop-next.at) (g.P.Pages.told c.loop-next.pages) b c.in-Ok.ensures.is_next told in
      let child : IsChild (g.P.Pages.size c.args.pages.now) c.in-Ok.next = the-child (g.P.Pages.size c.args.pages.now) c.in-Ok.next (subst (λ (n : ℕ). IsLink n c.in-Ok.next) c.loop-next.invariant.stays.size_is c.in-Ok.ensures.next) c.if-next-eq0.false in
      let p : IsChild (length b) (next_of b c.loop-next.at) = subst (λ z. IsChild (length b) z) next (subst (λ (m : ℕ). IsChild m c.in-Ok.next) (sym size) child) in
      omega (arith, c.loop-next.invariant.spare b e (suc n) (p, subst (λ z. EndsAfter b n z) next d));
  whole = λ b e ends good.
      let told = c.loop-next.invariant.stays.told_is ∙ e in
      let w = c.loop-next.invariant.whole b e ends good in
      let next : c.in-Ok.next ≡ next_of b c.loop-next.at = if_some (λ b. c.in-Ok.next ≡ next_of b c.loop-next.at) (g.P.Pages.told c.loop-next.pages) b c.in-Ok.ensures.is_next told in
      let off : next_of b c.loop-next.at ≢ 0 = λ z. c.if-next-eq0.false (next ∙ z) in
      let added = if_some (λ b. c.add_page.new.numbers.items ≡ c.loop-next.numbers.items ++ page_numbers (page_in b c.loop-next.at)) (g.P.Pages.told c.loop-next.pages) b c.in-Ok.ensures.numbers told in
      let more : chain_from b c.loop-next.left c.loop-next.at ≡ c.loop-next.at ∷ chain_from b (c.loop-next.left - 1) c.in-Ok.next =
      chain-next b c.loop-next.left c.loop-next.at (omega (arith, c.loop-next.invariant.some)) off ∙ ap (λ z. c.loop-next.at ∷ chain_from b (c.loop-next.left - 1) z) (sym next) in
      let further = ends-next b w.1.0 c.loop-next.at w.1.1 off in (
        (first-good b (chain_from b c.loop-next.left c.loop-next.at) c.loop-next.at (chain_from b (c.loop-next.left - 1) c.in-Ok.next) more w.0).1,
        (further.0, subst (λ z. EndsAfter b further.0 z) (sym next) further.1),
        first-added b c.loop-next.numbers.items c.add_page.new.numbers.items (c.args.numbers.now.items ++ numbers_of_pages b (chain_of b c.args.first)) (chain_from b c.loop-next.left c.loop-next.at) c.loop-next.at (chain_from b (c.loop-next.left - 1) c.in-Ok.next) more w.2 added,
        omega (arith, c.in-Ok.ensures.steps, w.3, ap (λ (z : List ℕ). length z) more),
      );
}
