use Rattle.std.proofs.Common.{◌≡◌, ℕ, List, Option, length, true, false, ap, ap₂, sym, ◌∙◌, subst, refl}
use Rattle.bfs_txn.specs.Pages.{HasLength}
use Rattle.bfs_pages.specs.Answers.{IsChild, IsInteriorPage}
use Rattle.bfs_pages.specs.Trees.{state_of, place_of, page_in, IsTreeHeader}
use Rattle.bfs_pages.proofs.Faulted.{failed-refused, failed-spared}
use Rattle.bfs_insert.proofs.Grown.{grown-child}
use Rattle.bfs_pages.proofs.OfKind.{if_some}
use Rattle.bfs_pages.specs.Writes.{IsGrown}
use Rattle.bfs_node.specs.declared.header.Header.{Header}
use Rattle.bfs_insert.proofs.Calls.{steps-halved}
use Rattle.bfs_insert.proofs.InnerCut.{split-inner_off}
use Rattle.bfs_insert.proofs.grow.split_interior.Goals as goal

pub returns-in-Err-write_halves-clause-refused : goal.returns-in-Err-write_halves-clause-refused
returns-in-Err-write_halves-clause-refused g c =
    failed-refused c.args.kind (g.P.Pages.told c.write_halves.new.pages) (g.P.Pages.is_cause c.take_page.new.pages c.write_halves.new.pages) (g.P.Pages.is_cause c.args.pages.now c.write_halves.new.pages) c.in-Err-write_halves.fault
    (λ f. g.met.P.Pages.is_cause_before c.args.pages.now c.take_page.new.pages c.write_halves.new.pages f
    c.in-Ok.ensures.kept.goes_on) c.in-Err-write_halves.ensures.failed

pub returns-in-Err-write_halves-clause-spared : goal.returns-in-Err-write_halves-clause-spared
returns-in-Err-write_halves-clause-spared g c b reached t fs e tree = failed-spared (g.P.Pages.told c.write_halves.new.pages) (g.P.Pages.is_cause c.take_page.new.pages c.write_halves.new.pages) c.in-Err-write_halves.fault c.in-Err-write_halves.ensures.failed

pub returns-then-left-clause-next : goal.returns-then-left-clause-next
returns-then-left-clause-next g c = subst (λ (n : ℕ). IsChild n c.args.at.1) (sym c.in-Ok-write_halves.ensures.size) (grown-child (g.P.Pages.size c.args.pages.now) (g.P.Pages.size c.take_page.new.pages) c.args.at.1 c.in-Ok.ensures.size c.requires.child)

pub returns-then-left-clause-size : goal.returns-then-left-clause-size
returns-then-left-clause-size g c =
    subst (λ (n : ℕ). IsGrown (g.P.Pages.size c.args.pages.now) n) (sym c.in-Ok-write_halves.ensures.size) c.in-Ok.ensures.size

pub returns-then-left-clause-step : goal.returns-then-left-clause-step
returns-then-left-clause-step g c b e =
    let size : length b ≡ g.P.Pages.size c.args.pages.now = subst (λ (t : Option (List ℕ)). HasLength t (g.P.Pages.size c.args.pages.now)) e (g.met.P.Pages.sized c.args.pages.now) in
    let ra : c.args.above.now ≡ page_in b c.args.at.0 = if_some (λ b. c.args.above.now ≡ page_in b c.args.at.0) (g.P.Pages.told c.args.pages.now) b c.requires.told_above e in
    let rb : c.args.below.now ≡ page_in b c.args.at.1 = if_some (λ b. c.args.below.now ≡ page_in b c.args.at.1) (g.P.Pages.told c.args.pages.now) b c.requires.told_below e in
    let tk = c.in-Ok.ensures.taken b e in
    let set = c.in-Ok-write_halves.ensures.made tk.0 tk.1 in
    let size0 : length tk.0 ≡ g.P.Pages.size c.take_page.new.pages = subst (λ (t : Option (List ℕ)). HasLength t (g.P.Pages.size c.take_page.new.pages)) tk.1 (g.met.P.Pages.sized c.take_page.new.pages) in
    let leaf : IsInteriorPage c.args.kind (length b) c.args.below.now = subst (λ (m : ℕ). IsInteriorPage c.args.kind m c.args.below.now) (sym size) c.requires.interior in (
      set.0,
      set.1,
      record {
        down = λ on. steps-halved c.args.kind (state_of c.args.kind b) (state_of c.args.kind tk.0) (state_of c.args.kind set.0) c.in-Ok.fresh.page c.args.at.0 c.args.key.now c.args.at.1 c.args.at.1 true tk.2.taken on
            (λ reached t fs d tree level way way_on. split-inner_off c.args.kind b tk.0 set.0 c.args.at.0 c.args.at.1 c.in-Ok.fresh.page
            c.args.above.now c.halve_interior-left.new.above c.args.below.now c.halve_interior-left.new.below c.halve_interior-left.new.half c.halve_interior-left.new.half c.args.key.now true _
            tk.2 set.2 ra rb leaf c.halve_interior-left.ensures.above c.halve_interior-left.ensures.below c.halve_interior-left.ensures.half c.halve_interior-left.ensures.below_roomy c.halve_interior-left.ensures.half_roomy
            (ap₂ (λ x y. (place_of x, place_of y)) c.halve_interior-left.ensures.above_left c.halve_interior-left.ensures.above_right) c.halve_interior-left.ensures.below_left c.halve_interior-left.ensures.below_right c.halve_interior-left.ensures.half_last
            (subst (λ (m : ℕ). IsChild m c.in-Ok.fresh.page) (sym size0) c.in-Ok.ensures.page)
            (λ ua ub. let h = c.halve_interior-left.ensures.split ua ub in (h.0, h.1, record { keys = h.2.keys; last = h.2.last; way = h.2.way ∙ c.if-left.true }))
            reached t fs d tree level way way_on)
            refl;
        levels = ap (λ (z : Header). z.levels) set.2.header ∙ tk.2.same_levels;
        header = λ h. subst (λ (z : Header). IsTreeHeader c.args.kind (length set.0) z) (sym (set.2.header ∙ tk.2.header))
            (subst (λ (m : ℕ). IsTreeHeader c.args.kind m c.in-Ok.fresh.header) (sym (set.2.size ∙ size0)) c.in-Ok.ensures.header.tree);
      },
    )

pub returns-else-left-clause-next : goal.returns-else-left-clause-next
returns-else-left-clause-next g c = subst (λ (n : ℕ). IsChild n c.in-Ok.fresh.page) (sym c.in-Ok-write_halves.ensures.size) c.in-Ok.ensures.page

pub returns-else-left-clause-size : goal.returns-else-left-clause-size
returns-else-left-clause-size g c =
    subst (λ (n : ℕ). IsGrown (g.P.Pages.size c.args.pages.now) n) (sym c.in-Ok-write_halves.ensures.size) c.in-Ok.ensures.size

pub returns-else-left-clause-step : goal.returns-else-left-clause-step
returns-else-left-clause-step g c b e =
    let size : length b ≡ g.P.Pages.size c.args.pages.now = subst (λ (t : Option (List ℕ)). HasLength t (g.P.Pages.size c.args.pages.now)) e (g.met.P.Pages.sized c.args.pages.now) in
    let ra : c.args.above.now ≡ page_in b c.args.at.0 = if_some (λ b. c.args.above.now ≡ page_in b c.args.at.0) (g.P.Pages.told c.args.pages.now) b c.requires.told_above e in
    let rb : c.args.below.now ≡ page_in b c.args.at.1 = if_some (λ b. c.args.below.now ≡ page_in b c.args.at.1) (g.P.Pages.told c.args.pages.now) b c.requires.told_below e in
    let tk = c.in-Ok.ensures.taken b e in
    let set = c.in-Ok-write_halves.ensures.made tk.0 tk.1 in
    let size0 : length tk.0 ≡ g.P.Pages.size c.take_page.new.pages = subst (λ (t : Option (List ℕ)). HasLength t (g.P.Pages.size c.take_page.new.pages)) tk.1 (g.met.P.Pages.sized c.take_page.new.pages) in
    let leaf : IsInteriorPage c.args.kind (length b) c.args.below.now = subst (λ (m : ℕ). IsInteriorPage c.args.kind m c.args.below.now) (sym size) c.requires.interior in (
      set.0,
      set.1,
      record {
        down = λ on. steps-halved c.args.kind (state_of c.args.kind b) (state_of c.args.kind tk.0) (state_of c.args.kind set.0) c.in-Ok.fresh.page c.args.at.0 c.args.key.now c.args.at.1 c.in-Ok.fresh.page false tk.2.taken on
            (λ reached t fs d tree level way way_on. split-inner_off c.args.kind b tk.0 set.0 c.args.at.0 c.args.at.1 c.in-Ok.fresh.page
            c.args.above.now c.halve_interior-left.new.above c.args.below.now c.halve_interior-left.new.below c.halve_interior-left.new.half c.halve_interior-left.new.half c.args.key.now false _
            tk.2 set.2 ra rb leaf c.halve_interior-left.ensures.above c.halve_interior-left.ensures.below c.halve_interior-left.ensures.half c.halve_interior-left.ensures.below_roomy c.halve_interior-left.ensures.half_roomy
            (ap₂ (λ x y. (place_of x, place_of y)) c.halve_interior-left.ensures.above_left c.halve_interior-left.ensures.above_right) c.halve_interior-left.ensures.below_left c.halve_interior-left.ensures.below_right c.halve_interior-left.ensures.half_last
            (subst (λ (m : ℕ). IsChild m c.in-Ok.fresh.page) (sym size0) c.in-Ok.ensures.page)
            (λ ua ub. let h = c.halve_interior-left.ensures.split ua ub in (h.0, h.1, record { keys = h.2.keys; last = h.2.last; way = h.2.way ∙ c.if-left.false }))
            reached t fs d tree level way way_on)
            refl;
        levels = ap (λ (z : Header). z.levels) set.2.header ∙ tk.2.same_levels;
        header = λ h. subst (λ (z : Header). IsTreeHeader c.args.kind (length set.0) z) (sym (set.2.header ∙ tk.2.header))
            (subst (λ (m : ℕ). IsTreeHeader c.args.kind m c.in-Ok.fresh.header) (sym (set.2.size ∙ size0)) c.in-Ok.ensures.header.tree);
      },
    )
