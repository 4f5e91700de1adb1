use Rattle.std.proofs.Common.{◌≡◌, ◌≤◌, ◌+◌, ◌++◌, ℕ, ℤ, List, length, nat_lt, ap, sym, ◌∙◌, subst}
use Rattle.std.specs.Option.{option_copied}
use Rattle.bfs_node.specs.Page.{Row, rows_of}
use Rattle.bfs_pages.specs.Answers.{IsLeafPage}
use Rattle.bfs_pages.specs.Trees.{page_in}
use Rattle.bfs_pages.proofs.OfKind.{if_some}
use Rattle.bfs_pages.proofs.Reading.{not_true}
use Rattle.bfs_pages.proofs.Sorted.{ascend-rise}
use Rattle.bfs_values.specs.Kinds.{IsValueOf, IsNamed}
use Rattle.bfs_values.specs.Links.{link_in}
use Rattle.bfs_values.specs.Values.{EndsAfter}
use Rattle.bfs_values.proofs.Lasting.{none-cut}
use Rattle.bfs_range.specs.Answers.{answer_of, IsRead}
use Rattle.bfs_values.specs.Reached.{AllMean}
use Rattle.bfs_range.specs.Meant.{AreNamed, pages_of}
use Rattle.bfs_range.proofs.Answering.{named-rows, named-leaf}
use Rattle.bfs_range.proofs.Between.{between-places, above-at}
use Rattle.bfs_range.proofs.rows.take_leaf.Goals as goal

pub returns-in-Ok-clause-above : goal.returns-in-Ok-clause-above
returns-in-Ok-clause-above g c up =
    ap (λ (n : ℕ). nat_lt c.end_for-to.result n) c.row_count.ensures
    ∙ above-at c.args.kind (option_copied c.args.ends.1) (rows_of c.args.page.now) c.end_for-to.result (c.end_for-to.ensures.first up)

pub returns-in-Ok-clause-rows : goal.returns-in-Ok-clause-rows
returns-in-Ok-clause-rows g c b t up a =
    let e = between-places c.args.kind c.args.ends.0.now (option_copied c.args.ends.1) (rows_of c.args.page.now) c.place_for-from.result c.end_for-to.result up (c.place_for-from.ensures.first (ascend-rise c.args.kind (rows_of c.args.page.now) up)) (c.end_for-to.ensures.first up) in
    c.in-Ok.ensures.rows b t (subst (λ (z : List Row). AllMean b z) e a) ∙ ap (λ (z : List Row). c.args.rows.now.items ++ answer_of b z) (sym e)

pub returns-in-Ok-clause-steps : goal.returns-in-Ok-clause-steps
returns-in-Ok-clause-steps g c b t up a =
    let e = between-places c.args.kind c.args.ends.0.now (option_copied c.args.ends.1) (rows_of c.args.page.now) c.place_for-from.result c.end_for-to.result up (c.place_for-from.ensures.first (ascend-rise c.args.kind (rows_of c.args.page.now) up)) (c.end_for-to.ensures.first up) in
    subst (λ (z : List Row). c.take_rows.new.steps ≤ c.args.steps.now + pages_of b z) (sym e) (c.in-Ok.ensures.steps b t (subst (λ (z : List Row). AllMean b z) e a))

pub returns-in-Err-clause-rows : goal.returns-in-Err-clause-rows
returns-in-Err-clause-rows g c b t up a =
    let e = between-places c.args.kind c.args.ends.0.now (option_copied c.args.ends.1) (rows_of c.args.page.now) c.place_for-from.result c.end_for-to.result up (c.place_for-from.ensures.first (ascend-rise c.args.kind (rows_of c.args.page.now) up)) (c.end_for-to.ensures.first up) in
    c.in-Err.ensures.rows b t (subst (λ (z : List Row). AllMean b z) e a)

pub returns-in-Err-clause-steps : goal.returns-in-Err-clause-steps
returns-in-Err-clause-steps g c b t up a =
    let e = between-places c.args.kind c.args.ends.0.now (option_copied c.args.ends.1) (rows_of c.args.page.now) c.place_for-from.result c.end_for-to.result up (c.place_for-from.ensures.first (ascend-rise c.args.kind (rows_of c.args.page.now) up)) (c.end_for-to.ensures.first up) in
    subst (λ (z : List Row). c.take_rows.new.steps ≤ c.args.steps.now + pages_of b z) (sym e) (c.in-Err.ensures.steps b t (subst (λ (z : List Row). AllMean b z) e a))

pub returns-then-not-lead_on-clause-rows : goal.returns-then-not-lead_on-clause-rows
returns-then-not-lead_on-clause-rows g c b t up a =
    let e = between-places c.args.kind c.args.ends.0.now (option_copied c.args.ends.1) (rows_of c.args.page.now) c.place_for-from.result c.end_for-to.result up (c.place_for-from.ensures.first (ascend-rise c.args.kind (rows_of c.args.page.now) up)) (c.end_for-to.ensures.first up) in
    let size : length b ≡ g.P.Pages.size c.args.pages.now = if_some (λ (b : List ℕ). length b ≡ g.P.Pages.size c.args.pages.now) (g.P.Pages.told c.args.pages.now) b (g.met.P.Pages.sized c.args.pages.now) t in
    let named = named-rows b (rows_of c.args.page.now) c.place_for-from.result c.end_for-to.result c.end_for-to.ensures.inside (subst (λ (z : List Row). AllMean b z) e a) in
    not_true c.lead_on.result (c.lead_on.ensures.refused (subst (λ (n : ℕ). AreNamed n (rows_of c.args.page.now) c.place_for-from.result c.end_for-to.result) (size ∙ sym c.length.ensures) named)) c.if-not-lead_on.true

pub returns-then-not-lead_on-clause-refused : goal.returns-then-not-lead_on-clause-refused
returns-then-not-lead_on-clause-refused g c read =
    none-cut (λ bytes. IsLeafPage c.args.kind (length bytes) (page_in bytes c.args.leaf) × ((x : ℕ) × EndsAfter bytes x c.args.leaf) × ((value : ℤ) → IsValueOf c.args.kind bytes c.args.leaf value → IsNamed (length bytes) (link_in value)) → ⊥) (g.P.Pages.told c.args.pages.now)
    (λ b t w.
    let size : length b ≡ g.P.Pages.size c.args.pages.now = if_some (λ (b : List ℕ). length b ≡ g.P.Pages.size c.args.pages.now) (g.P.Pages.told c.args.pages.now) b (g.met.P.Pages.sized c.args.pages.now) t in
    let here : IsRead c.args.kind b c.args.leaf c.args.page.now = if_some (λ b. IsRead c.args.kind b c.args.leaf c.args.page.now) (g.P.Pages.told c.args.pages.now) b read t in
    let named = named-leaf c.args.kind b c.args.page.now c.args.leaf c.place_for-from.result c.end_for-to.result here c.end_for-to.ensures.inside w.2 in
    not_true c.lead_on.result (c.lead_on.ensures.refused (subst (λ (n : ℕ). AreNamed n (rows_of c.args.page.now) c.place_for-from.result c.end_for-to.result) (size ∙ sym c.length.ensures) named)) c.if-not-lead_on.true)
