use Rattle.std.proofs.Common.{◌≡◌, ◌≤◌, ℕ, List, Option, length, true, false, ap, ap₂, sym, ◌∙◌, subst, refl, rules, w64, to_z, of_z}
use Rattle.bfs_node.specs.declared.fault.PageKind.TheVariants.{Leaf}
use Rattle.bfs_txn.specs.Pages.{HasLength}
use Rattle.bfs_pages.specs.Answers.{IsChild, IsLink, IsLeafPage}
use Rattle.bfs_base.specs.Lists.{times}
use Rattle.bfs_pages.specs.Shapes.{leaves_of}
use Rattle.bfs_pages.specs.Trees.{state_of, place_of, page_in, neighbours_in, IsTreeHeader}
use Rattle.bfs_pages.proofs.Faulted.{of-pages, pages-spared, failed-refused, failed-spared}
use Rattle.bfs_insert.proofs.Grown.{grown-child, grown-link}
use Rattle.bfs_pages.proofs.OfKind.{if_some, leaf-page, leaf-any, next-in}
use Rattle.bfs_pages.specs.Writes.{IsGrown}
use Rattle.bfs_node.specs.declared.header.Header.{Header}
use Rattle.bfs_insert.proofs.Calls.{steps-halved}
use Rattle.bfs_insert.proofs.LeafCut.{split-leaf_off}
use Rattle.bfs_pages.proofs.Good.{linked-page}
use Rattle.bfs_insert.proofs.grow.split_leaf.Goals as goal

pub returns-in-Err-clause-spared : goal.returns-in-Err-clause-spared
returns-in-Err-clause-spared g c b reached t fs d e tree last way =
    let signed : to_z w64 (of_z w64 c.right_link.result) ≡ c.right_link.result = search rules in
    let n : c.place-next.result ≡ place_of c.right_link.result = c.place-next.ensures ∙ ap place_of signed in
    let r : c.args.below.now ≡ page_in b c.args.at.1 = if_some (λ b. c.args.below.now ≡ page_in b c.args.at.1) (g.P.Pages.told c.args.pages.now) b c.requires.told_below e in
    let nb : c.place-next.result ≡ ((state_of c.args.kind b).links c.args.at.1).1 = n ∙ ap place_of c.right_link.ensures ∙ ap (λ (z : List ℕ). (neighbours_in z).1) r in
    let met = (leaf-page c.args.kind b reached t fs d c.args.key.now c.args.at.1 tree.holds last way).4 in
    let beside : 1 ≤ times c.place-next.result (leaves_of t) = subst (λ (z : ℕ). 1 ≤ times z (leaves_of t)) (sym nb)
    (next-in (state_of c.args.kind b).links 0 (leaves_of t) c.args.at.1 tree.holds.linked met (λ z. c.in-Err.ensures.some (nb ∙ z))) in
    pages-spared (g.P.Pages.told c.read_beside.new.pages) c.in-Err.fault
    (of-pages c.args.kind (g.P.Pages.told c.read_beside.new.pages) (g.P.Pages.is_cause c.args.pages.now c.read_beside.new.pages) b c.place-next.result Leaf c.in-Err.fault
    c.in-Err.ensures.refused c.in-Err.ensures.at (c.in-Err.ensures.told ∙ e) (leaf-any c.args.kind b reached t fs c.place-next.result tree.holds beside))

pub returns-in-Err-take_page-clause-spared : goal.returns-in-Err-take_page-clause-spared
returns-in-Err-take_page-clause-spared g c b reached t fs d e tree last way = c.in-Err-take_page.ensures.spared b reached t fs (c.in-Ok.ensures.told ∙ e) tree

pub write_halves-requires-clause-next_at : goal.write_halves-requires-clause-next_at
write_halves-requires-clause-next_at g c =
    let signed : to_z w64 (of_z w64 c.right_link.result) ≡ c.right_link.result = search rules in
    let n : c.place-next.result ≡ place_of c.right_link.result = c.place-next.ensures ∙ ap place_of signed in
    let link : IsLink (g.P.Pages.size c.args.pages.now) c.place-next.result = subst (λ x. IsLink (g.P.Pages.size c.args.pages.now) x) (sym (n ∙ ap place_of c.right_link.ensures)) c.requires.leaf.right in
    grown-link (g.P.Pages.size c.read_beside.new.pages) (g.P.Pages.size c.take_page.new.pages) c.place-next.result c.in-Ok-take_page.ensures.size (subst (λ (m : ℕ). IsLink m c.place-next.result) (sym c.in-Ok.ensures.size) link)

pub returns-in-Err-write_halves-clause-refused : goal.returns-in-Err-write_halves-clause-refused
returns-in-Err-write_halves-clause-refused g c =
    failed-refused c.args.kind (g.P.Pages.told c.write_halves.new.pages) (g.P.Pages.is_cause c.take_page.new.pages c.write_halves.new.pages) (g.P.Pages.is_cause c.args.pages.now c.write_halves.new.pages) c.in-Err-write_halves.fault
    (λ f. g.met.P.Pages.is_cause_before c.args.pages.now c.take_page.new.pages c.write_halves.new.pages f
    (g.met.P.Pages.goes_on_twice c.args.pages.now c.read_beside.new.pages c.take_page.new.pages c.in-Ok.ensures.kept.goes_on c.in-Ok-take_page.ensures.kept.goes_on)) c.in-Err-write_halves.ensures.failed

pub returns-in-Err-write_halves-clause-spared : goal.returns-in-Err-write_halves-clause-spared
returns-in-Err-write_halves-clause-spared g c b reached t fs d e tree last way = failed-spared (g.P.Pages.told c.write_halves.new.pages) (g.P.Pages.is_cause c.take_page.new.pages c.write_halves.new.pages) c.in-Err-write_halves.fault c.in-Err-write_halves.ensures.failed

pub returns-then-left-clause-next : goal.returns-then-left-clause-next
returns-then-left-clause-next g c = subst (λ (n : ℕ). IsChild n c.args.at.1) (sym c.in-Ok-write_halves.ensures.size) (grown-child (g.P.Pages.size c.read_beside.new.pages) (g.P.Pages.size c.take_page.new.pages) c.args.at.1 c.in-Ok-take_page.ensures.size (subst (λ (m : ℕ). IsChild m c.args.at.1) (sym c.in-Ok.ensures.size) c.requires.child))

pub returns-then-left-clause-size : goal.returns-then-left-clause-size
returns-then-left-clause-size g c =
    subst (λ (n : ℕ). IsGrown n (g.P.Pages.size c.write_halves.new.pages)) c.in-Ok.ensures.size (subst (λ (n : ℕ). IsGrown (g.P.Pages.size c.read_beside.new.pages) n) (sym c.in-Ok-write_halves.ensures.size) c.in-Ok-take_page.ensures.size)

pub returns-then-left-clause-step : goal.returns-then-left-clause-step
returns-then-left-clause-step g c b e =
    let signed : to_z w64 (of_z w64 c.right_link.result) ≡ c.right_link.result = search rules in
    let n : c.place-next.result ≡ place_of c.right_link.result = c.place-next.ensures ∙ ap place_of signed in
    let size : length b ≡ g.P.Pages.size c.args.pages.now = subst (λ (t : Option (List ℕ)). HasLength t (g.P.Pages.size c.args.pages.now)) e (g.met.P.Pages.sized c.args.pages.now) in
    let ra : c.args.above.now ≡ page_in b c.args.at.0 = if_some (λ b. c.args.above.now ≡ page_in b c.args.at.0) (g.P.Pages.told c.args.pages.now) b c.requires.told_above e in
    let rb : c.args.below.now ≡ page_in b c.args.at.1 = if_some (λ b. c.args.below.now ≡ page_in b c.args.at.1) (g.P.Pages.told c.args.pages.now) b c.requires.told_below e in
    let tk = c.in-Ok-take_page.ensures.taken b (c.in-Ok.ensures.told ∙ e) in
    let set = c.in-Ok-write_halves.ensures.made tk.0 tk.1 in
    let size0 : length tk.0 ≡ g.P.Pages.size c.take_page.new.pages = subst (λ (t : Option (List ℕ)). HasLength t (g.P.Pages.size c.take_page.new.pages)) tk.1 (g.met.P.Pages.sized c.take_page.new.pages) in
    let leaf : IsLeafPage c.args.kind (length b) c.args.below.now = subst (λ (m : ℕ). IsLeafPage c.args.kind m c.args.below.now) (sym size) c.requires.leaf in (
      set.0,
      set.1,
      record {
        down = λ on. steps-halved c.args.kind (state_of c.args.kind b) (state_of c.args.kind tk.0) (state_of c.args.kind set.0) c.in-Ok-take_page.fresh.page c.args.at.0 c.args.key.now c.args.at.1 c.args.at.1 true tk.2.taken on
            (λ reached t fs d tree level way way_on. split-leaf_off c.args.kind b tk.0 set.0 c.args.at.0 c.args.at.1 c.in-Ok-take_page.fresh.page c.place-next.result
            c.args.above.now c.halve_leaf-left.new.above c.args.below.now c.halve_leaf-left.new.below c.halve_leaf-left.new.half c.read_beside.new.page c.mend_left.new.page c.args.key.now true _
            tk.2 set.2 ra rb leaf c.halve_leaf-left.ensures.above c.halve_leaf-left.ensures.below c.halve_leaf-left.ensures.half c.halve_leaf-left.ensures.below_roomy c.halve_leaf-left.ensures.half_roomy
            (ap₂ (λ x y. (place_of x, place_of y)) c.halve_leaf-left.ensures.above_left c.halve_leaf-left.ensures.above_right) c.halve_leaf-left.ensures.below_links c.halve_leaf-left.ensures.half_links
            (n ∙ ap place_of c.right_link.ensures)
            (λ some. (
              if_some (λ b. c.read_beside.new.page ≡ page_in b c.place-next.result) (g.P.Pages.told c.args.pages.now) b (c.in-Ok.ensures.read some) e,
              subst (λ (m : ℕ). IsLeafPage c.args.kind m c.read_beside.new.page) (sym size) (c.in-Ok.ensures.leaf some),
              linked-page c.args.kind c.read_beside.new.page c.mend_left.new.page (c.in-Ok.ensures.page some) c.mend_left.ensures.rows c.mend_left.ensures.page,
              c.mend_left.ensures.rows,
              c.mend_left.ensures.links,
            ))
            (subst (λ (m : ℕ). IsChild m c.in-Ok-take_page.fresh.page) (sym size0) c.in-Ok-take_page.ensures.page)
            (λ ua ub. let h = c.halve_leaf-left.ensures.split ua ub in (h.0, h.1, record { keys = h.2.keys; last = h.2.last; way = h.2.way ∙ c.if-left.true }))
            reached t fs d tree level way way_on)
            refl;
        levels = ap (λ (z : Header). z.levels) set.2.header ∙ tk.2.same_levels;
        header = λ h. subst (λ (z : Header). IsTreeHeader c.args.kind (length set.0) z) (sym (set.2.header ∙ tk.2.header))
            (subst (λ (m : ℕ). IsTreeHeader c.args.kind m c.in-Ok-take_page.fresh.header) (sym (set.2.size ∙ size0)) c.in-Ok-take_page.ensures.header.tree);
      },
    )

pub returns-else-left-clause-next : goal.returns-else-left-clause-next
returns-else-left-clause-next g c = subst (λ (n : ℕ). IsChild n c.in-Ok-take_page.fresh.page) (sym c.in-Ok-write_halves.ensures.size) c.in-Ok-take_page.ensures.page

pub returns-else-left-clause-size : goal.returns-else-left-clause-size
returns-else-left-clause-size g c =
    subst (λ (n : ℕ). IsGrown n (g.P.Pages.size c.write_halves.new.pages)) c.in-Ok.ensures.size (subst (λ (n : ℕ). IsGrown (g.P.Pages.size c.read_beside.new.pages) n) (sym c.in-Ok-write_halves.ensures.size) c.in-Ok-take_page.ensures.size)

pub returns-else-left-clause-step : goal.returns-else-left-clause-step
returns-else-left-clause-step g c b e =
    let signed : to_z w64 (of_z w64 c.right_link.result) ≡ c.right_link.result = search rules in
    let n : c.place-next.result ≡ place_of c.right_link.result = c.place-next.ensures ∙ ap place_of signed in
    let size : length b ≡ g.P.Pages.size c.args.pages.now = subst (λ (t : Option (List ℕ)). HasLength t (g.P.Pages.size c.args.pages.now)) e (g.met.P.Pages.sized c.args.pages.now) in
    let ra : c.args.above.now ≡ page_in b c.args.at.0 = if_some (λ b. c.args.above.now ≡ page_in b c.args.at.0) (g.P.Pages.told c.args.pages.now) b c.requires.told_above e in
    let rb : c.args.below.now ≡ page_in b c.args.at.1 = if_some (λ b. c.args.below.now ≡ page_in b c.args.at.1) (g.P.Pages.told c.args.pages.now) b c.requires.told_below e in
    let tk = c.in-Ok-take_page.ensures.taken b (c.in-Ok.ensures.told ∙ e) in
    let set = c.in-Ok-write_halves.ensures.made tk.0 tk.1 in
    let size0 : length tk.0 ≡ g.P.Pages.size c.take_page.new.pages = subst (λ (t : Option (List ℕ)). HasLength t (g.P.Pages.size c.take_page.new.pages)) tk.1 (g.met.P.Pages.sized c.take_page.new.pages) in
    let leaf : IsLeafPage c.args.kind (length b) c.args.below.now = subst (λ (m : ℕ). IsLeafPage c.args.kind m c.args.below.now) (sym size) c.requires.leaf in (
      set.0,
      set.1,
      record {
        down = λ on. steps-halved c.args.kind (state_of c.args.kind b) (state_of c.args.kind tk.0) (state_of c.args.kind set.0) c.in-Ok-take_page.fresh.page c.args.at.0 c.args.key.now c.args.at.1 c.in-Ok-take_page.fresh.page false tk.2.taken on
            (λ reached t fs d tree level way way_on. split-leaf_off c.args.kind b tk.0 set.0 c.args.at.0 c.args.at.1 c.in-Ok-take_page.fresh.page c.place-next.result
            c.args.above.now c.halve_leaf-left.new.above c.args.below.now c.halve_leaf-left.new.below c.halve_leaf-left.new.half c.read_beside.new.page c.mend_left.new.page c.args.key.now false _
            tk.2 set.2 ra rb leaf c.halve_leaf-left.ensures.above c.halve_leaf-left.ensures.below c.halve_leaf-left.ensures.half c.halve_leaf-left.ensures.below_roomy c.halve_leaf-left.ensures.half_roomy
            (ap₂ (λ x y. (place_of x, place_of y)) c.halve_leaf-left.ensures.above_left c.halve_leaf-left.ensures.above_right) c.halve_leaf-left.ensures.below_links c.halve_leaf-left.ensures.half_links
            (n ∙ ap place_of c.right_link.ensures)
            (λ some. (
              if_some (λ b. c.read_beside.new.page ≡ page_in b c.place-next.result) (g.P.Pages.told c.args.pages.now) b (c.in-Ok.ensures.read some) e,
              subst (λ (m : ℕ). IsLeafPage c.args.kind m c.read_beside.new.page) (sym size) (c.in-Ok.ensures.leaf some),
              linked-page c.args.kind c.read_beside.new.page c.mend_left.new.page (c.in-Ok.ensures.page some) c.mend_left.ensures.rows c.mend_left.ensures.page,
              c.mend_left.ensures.rows,
              c.mend_left.ensures.links,
            ))
            (subst (λ (m : ℕ). IsChild m c.in-Ok-take_page.fresh.page) (sym size0) c.in-Ok-take_page.ensures.page)
            (λ ua ub. let h = c.halve_leaf-left.ensures.split ua ub in (h.0, h.1, record { keys = h.2.keys; last = h.2.last; way = h.2.way ∙ c.if-left.false }))
            reached t fs d tree level way way_on)
            refl;
        levels = ap (λ (z : Header). z.levels) set.2.header ∙ tk.2.same_levels;
        header = λ h. subst (λ (z : Header). IsTreeHeader c.args.kind (length set.0) z) (sym (set.2.header ∙ tk.2.header))
            (subst (λ (m : ℕ). IsTreeHeader c.args.kind m c.in-Ok-take_page.fresh.header) (sym (set.2.size ∙ size0)) c.in-Ok-take_page.ensures.header.tree);
      },
    )
