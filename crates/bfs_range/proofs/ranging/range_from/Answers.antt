use Rattle.std.proofs.Common.{◌≡◌, ◌/◌, ◌++◌, ℕ, suc, List, [], ◌∷◌, length, Option, Some, IfSome, true, false, ap, sym, ◌∙◌, subst, arith, rules, w64, to_z, of_z}
use Rattle.std.specs.Option.{option_copied}
use Rattle.bfs_node.specs.Page.{Row, rows_of, right_of as right_in}
use Rattle.bfs_node.specs.declared.fault.PageKind.TheVariants.{Leaf}
use Rattle.bfs_pages.specs.Answers.{IsChild, IsLeafPage}
use Rattle.bfs_pages.specs.Order.{Key}
use Rattle.bfs_pages.specs.Trees.{page_in, place_of, neighbours_in, state_of}
use Rattle.bfs_pages.proofs.Faulted.{of-pages}
use Rattle.bfs_pages.proofs.OfKind.{if_some}
use Rattle.bfs_range.specs.declared.ranged.RangedRow.{RangedRow}
use Rattle.bfs_range.specs.Answers.{answer_of, IsRead, AreAnswers}
use Rattle.bfs_range.proofs.Answering.{is-read}
use Rattle.bfs_values.specs.Values.{next_of, EndsAfter}
use Rattle.bfs_range.specs.Leaves.{LeafAt, leaf_list, first_leaf, right_of, leaves_upto}
use Rattle.bfs_range.specs.Meant.{pages_of}
use Rattle.bfs_range.specs.Ranges.{rows_between, has_above}
use Rattle.bfs_values.proofs.Ending.{ends-soon}
use Rattle.bfs_range.proofs.LeafLists.{flat}
use Rattle.bfs_range.proofs.Rest.{unread-cut}
use Rattle.bfs_values.proofs.Lasting.{stays-twice, cut-before, none-cut, pages-lacking}
use Rattle.bfs_range.proofs.Walk.{begin, here-up, here-mean, here-pages, whole-past, whole-end, front-next, last-there, next-there, tree-ends, left-most, left-next, answer-append, pages-append, the_child}
use Rattle.bfs_range.proofs.ranging.range_from.Goals as goal

pub returns-in-Err-clause-ranged : goal.returns-in-Err-clause-ranged
returns-in-Err-clause-ranged g c b reached t fs e tree a = pages-lacking c.in-Err.fault (c.in-Err.ensures.leaf b reached t fs e tree)

pub loop-left-init : goal.loop-left-init
loop-left-init g c = record {
  stays = record { told_is = c.in-Ok.ensures.told; size_is = c.in-Ok.ensures.size; counts = c.in-Ok.ensures.counts; frame_is = c.in-Ok.ensures.frame; goes_on = c.in-Ok.ensures.goes_on; is_read = c.in-Ok.ensures.is_read };
  page = c.in-Ok.ensures.page;
  at = c.in-Ok.ensures.place;
  last = c.in-Ok.ensures.last;
  sure = λ b e. subst (λ (z : List RangedRow). AreAnswers c.args.kind b z) (sym c.new-rows.ensures.items) tt;
  fields = c.in-Ok.ensures.fields;
  read = c.in-Ok.ensures.read;
  spare = λ b e n d.
      let size : length b ≡ g.P.Pages.size c.args.pages.now = if_some (λ (b : List ℕ). length b ≡ g.P.Pages.size c.args.pages.now) (g.P.Pages.told c.args.pages.now) b (g.met.P.Pages.sized c.args.pages.now) e in
      let left : c.length-left.result ≡ g.P.Pages.size c.args.pages.now = c.length-left.ensures ∙ c.in-Ok.ensures.size in
      ends-soon b (c.length-left.result / 1024) n c.in-Ok.at (omega (arith, size, left, g.met.P.Pages.whole c.args.pages.now)) (subst (λ (m : ℕ). IsChild m c.in-Ok.at) (sym size) c.in-Ok.ensures.place) d;
  way = λ b reached t fs e tree.
      let low : Option Key = Some c.args.ends.0.now in
      let high : Option Key = option_copied c.args.ends.1 in
      let w = begin c.args.kind c.args.ends.0.now high b reached t fs c.in-Ok.at c.leaf_for.new.page tree (c.in-Ok.ensures.leaf b reached t fs e tree) in
      let right : leaves_upto c.args.kind high (right_of (first_leaf c.args.kind (state_of c.args.kind b).levels t low) (leaf_list t)) ≡ leaves_upto c.args.kind high w.1 = ap (λ z. leaves_upto c.args.kind high z) w.4 in (
        w.0,
        w.1,
        w.2,
        λ a. (
          c.new-rows.ensures.items ∙ ap (λ (z : List Row). answer_of b z) (sym w.3),
          omega (arith, c.in-Ok.ensures.steps b e, left-most c.args.kind high (rows_of c.leaf_for.new.page) w.1, right),
        ),
      );
}

pub returns-in-Ok-true-clause-ranged : goal.returns-in-Ok-true-clause-ranged
returns-in-Ok-true-clause-ranged g c b reached t fs e tree a =
    let low : Option Key = Some c.args.ends.0.now in
    let high : Option Key = option_copied c.args.ends.1 in
    let w = c.loop-left.invariant.way b reached t fs e tree in
    let up = here-up c.args.kind low high b reached t fs tree w.0 (c.loop-left.at, rows_of c.loop-left.page) w.1 w.2 in
    let mean = here-mean c.args.kind low high b reached t fs tree w.0 (c.loop-left.at, rows_of c.loop-left.page) w.1 w.2 a in
    let above : has_above c.args.kind high (rows_of c.loop-left.page) ≡ true = sym (c.in-Ok-true.ensures.above up) ∙ c.in-Ok-true.field-0-test in
    let whole = whole-past c.args.kind low high b reached t fs tree w.0 (c.loop-left.at, rows_of c.loop-left.page) w.1 w.2 above in
    c.in-Ok-true.ensures.rows b (c.loop-left.invariant.stays.told_is ∙ e) up mean
    ∙ ap (λ z. z ++ answer_of b (rows_between c.args.kind low high (rows_of c.loop-left.page))) (w.3 a).0
    ∙ sym (answer-append b (rows_between c.args.kind low high (flat w.0)) (rows_between c.args.kind low high (rows_of c.loop-left.page)))
    ∙ ap (λ (z : List Row). answer_of b z) whole

pub returns-in-Ok-true-clause-steps : goal.returns-in-Ok-true-clause-steps
returns-in-Ok-true-clause-steps g c b reached t fs e tree a =
    let low : Option Key = Some c.args.ends.0.now in
    let high : Option Key = option_copied c.args.ends.1 in
    let w = c.loop-left.invariant.way b reached t fs e tree in
    let up = here-up c.args.kind low high b reached t fs tree w.0 (c.loop-left.at, rows_of c.loop-left.page) w.1 w.2 in
    let mean = here-mean c.args.kind low high b reached t fs tree w.0 (c.loop-left.at, rows_of c.loop-left.page) w.1 w.2 a in
    omega (
      arith,
      c.in-Ok-true.ensures.steps b (c.loop-left.invariant.stays.told_is ∙ e) up mean,
      (w.3 a).1,
      here-pages c.args.kind low high b reached t fs tree w.0 (c.loop-left.at, rows_of c.loop-left.page) w.1 w.2,
    )

pub returns-in-Err-take_leaf-clause-ranged : goal.returns-in-Err-take_leaf-clause-ranged
returns-in-Err-take_leaf-clause-ranged g c b reached t fs e tree a =
    let low : Option Key = Some c.args.ends.0.now in
    let high : Option Key = option_copied c.args.ends.1 in
    let w = c.loop-left.invariant.way b reached t fs e tree in
    let up = here-up c.args.kind low high b reached t fs tree w.0 (c.loop-left.at, rows_of c.loop-left.page) w.1 w.2 in
    let mean = here-mean c.args.kind low high b reached t fs tree w.0 (c.loop-left.at, rows_of c.loop-left.page) w.1 w.2 a in
    c.in-Err-take_leaf.ensures.rows b (c.loop-left.invariant.stays.told_is ∙ e) up mean

pub returns-in-Err-take_leaf-clause-steps : goal.returns-in-Err-take_leaf-clause-steps
returns-in-Err-take_leaf-clause-steps g c b reached t fs e tree a =
    let low : Option Key = Some c.args.ends.0.now in
    let high : Option Key = option_copied c.args.ends.1 in
    let w = c.loop-left.invariant.way b reached t fs e tree in
    let up = here-up c.args.kind low high b reached t fs tree w.0 (c.loop-left.at, rows_of c.loop-left.page) w.1 w.2 in
    let mean = here-mean c.args.kind low high b reached t fs tree w.0 (c.loop-left.at, rows_of c.loop-left.page) w.1 w.2 a in
    omega (
      arith,
      c.in-Err-take_leaf.ensures.steps b (c.loop-left.invariant.stays.told_is ∙ e) up mean,
      (w.3 a).1,
      here-pages c.args.kind low high b reached t fs tree w.0 (c.loop-left.at, rows_of c.loop-left.page) w.1 w.2,
    )

pub returns-then-next-eq0-clause-ranged : goal.returns-then-next-eq0-clause-ranged
returns-then-next-eq0-clause-ranged g c b reached t fs e tree a =
    let low : Option Key = Some c.args.ends.0.now in
    let high : Option Key = option_copied c.args.ends.1 in
    let w = c.loop-left.invariant.way b reached t fs e tree in
    let up = here-up c.args.kind low high b reached t fs tree w.0 (c.loop-left.at, rows_of c.loop-left.page) w.1 w.2 in
    let mean = here-mean c.args.kind low high b reached t fs tree w.0 (c.loop-left.at, rows_of c.loop-left.page) w.1 w.2 a in
    let read : c.loop-left.page ≡ page_in b c.loop-left.at = if_some (λ b. c.loop-left.page ≡ page_in b c.loop-left.at) (g.P.Pages.told c.args.pages.now) b c.loop-left.invariant.read e in
    let signed : to_z w64 (of_z w64 c.right_link.result) ≡ c.right_link.result = search rules in
    let next : c.place-next.result ≡ next_of b c.loop-left.at = c.place-next.ensures ∙ ap place_of (signed ∙ c.right_link.ensures ∙ ap (λ p. right_in p) read) in
    let last = last-there c.args.kind b reached t fs tree w.0 (c.loop-left.at, rows_of c.loop-left.page) w.1 w.2 (sym next ∙ c.if-next-eq0.true) in
    let whole = whole-end c.args.kind low high b reached t fs tree w.0 (c.loop-left.at, rows_of c.loop-left.page) w.1 w.2 last in
    c.in-Ok-false.ensures.rows b (c.loop-left.invariant.stays.told_is ∙ e) up mean
    ∙ ap (λ z. z ++ answer_of b (rows_between c.args.kind low high (rows_of c.loop-left.page))) (w.3 a).0
    ∙ sym (answer-append b (rows_between c.args.kind low high (flat w.0)) (rows_between c.args.kind low high (rows_of c.loop-left.page)))
    ∙ ap (λ (z : List Row). answer_of b z) whole

pub returns-then-next-eq0-clause-steps : goal.returns-then-next-eq0-clause-steps
returns-then-next-eq0-clause-steps g c b reached t fs e tree a =
    let low : Option Key = Some c.args.ends.0.now in
    let high : Option Key = option_copied c.args.ends.1 in
    let w = c.loop-left.invariant.way b reached t fs e tree in
    let up = here-up c.args.kind low high b reached t fs tree w.0 (c.loop-left.at, rows_of c.loop-left.page) w.1 w.2 in
    let mean = here-mean c.args.kind low high b reached t fs tree w.0 (c.loop-left.at, rows_of c.loop-left.page) w.1 w.2 a in
    omega (
      arith,
      c.in-Ok-false.ensures.steps b (c.loop-left.invariant.stays.told_is ∙ e) up mean,
      (w.3 a).1,
      here-pages c.args.kind low high b reached t fs tree w.0 (c.loop-left.at, rows_of c.loop-left.page) w.1 w.2,
    )

pub returns-in-Err-read_leaf-clause-ranged : goal.returns-in-Err-read_leaf-clause-ranged
returns-in-Err-read_leaf-clause-ranged g c b reached t fs e tree a =
    let w = c.loop-left.invariant.way b reached t fs e tree in
    let read : c.loop-left.page ≡ page_in b c.loop-left.at = if_some (λ b. c.loop-left.page ≡ page_in b c.loop-left.at) (g.P.Pages.told c.args.pages.now) b c.loop-left.invariant.read e in
    let signed : to_z w64 (of_z w64 c.right_link.result) ≡ c.right_link.result = search rules in
    let next : c.place-next.result ≡ next_of b c.loop-left.at = c.place-next.ensures ∙ ap place_of (signed ∙ c.right_link.ensures ∙ ap (λ p. right_in p) read) in
    let n = next-there c.args.kind b reached t fs tree w.0 (c.loop-left.at, rows_of c.loop-left.page) w.1 w.2 (λ z. c.if-next-eq0.false (next ∙ z)) in
    pages-lacking c.in-Err-read_leaf.fault
    (of-pages c.args.kind (g.P.Pages.told c.read_leaf.new.pages) (g.P.Pages.is_cause c.take_leaf.new.pages c.read_leaf.new.pages) b c.place-next.result Leaf c.in-Err-read_leaf.fault
    c.in-Err-read_leaf.ensures.refused c.in-Err-read_leaf.ensures.at (c.in-Err-read_leaf.ensures.told ∙ c.in-Ok-false.ensures.stays.told_is ∙ c.loop-left.invariant.stays.told_is ∙ e)
    (subst (λ z. IsLeafPage c.args.kind (length b) (page_in b z)) (sym next) n.3))

pub returns-in-Err-read_leaf-clause-steps : goal.returns-in-Err-read_leaf-clause-steps
returns-in-Err-read_leaf-clause-steps g c b reached t fs e tree a =
    let low : Option Key = Some c.args.ends.0.now in
    let high : Option Key = option_copied c.args.ends.1 in
    let w = c.loop-left.invariant.way b reached t fs e tree in
    let up = here-up c.args.kind low high b reached t fs tree w.0 (c.loop-left.at, rows_of c.loop-left.page) w.1 w.2 in
    let mean = here-mean c.args.kind low high b reached t fs tree w.0 (c.loop-left.at, rows_of c.loop-left.page) w.1 w.2 a in
    let read : c.loop-left.page ≡ page_in b c.loop-left.at = if_some (λ b. c.loop-left.page ≡ page_in b c.loop-left.at) (g.P.Pages.told c.args.pages.now) b c.loop-left.invariant.read e in
    let signed : to_z w64 (of_z w64 c.right_link.result) ≡ c.right_link.result = search rules in
    let next : c.place-next.result ≡ next_of b c.loop-left.at = c.place-next.ensures ∙ ap place_of (signed ∙ c.right_link.ensures ∙ ap (λ p. right_in p) read) in
    let n = next-there c.args.kind b reached t fs tree w.0 (c.loop-left.at, rows_of c.loop-left.page) w.1 w.2 (λ z. c.if-next-eq0.false (next ∙ z)) in
    let above : has_above c.args.kind high (rows_of c.loop-left.page) ≡ false = sym (c.in-Ok-false.ensures.above up) ∙ c.in-Ok-false.field-0-test in
    omega (
      arith,
      c.in-Err-read_leaf.ensures.steps,
      c.in-Ok-false.ensures.steps b (c.loop-left.invariant.stays.told_is ∙ e) up mean,
      (w.3 a).1,
      left-next c.args.kind high (rows_of c.loop-left.page) w.1 (next_of b c.loop-left.at, rows_of (page_in b (next_of b c.loop-left.at))) n.0 above n.1,
      here-pages c.args.kind low high b reached t fs tree w.0 (c.loop-left.at, rows_of c.loop-left.page) w.1 w.2,
    )

pub returns-in-Err-read_leaf-clause-refused : goal.returns-in-Err-read_leaf-clause-refused
returns-in-Err-read_leaf-clause-refused g c =
    unread-cut c.args.kind (g.P.Pages.told c.read_leaf.new.pages) (g.P.Pages.is_cause c.take_leaf.new.pages c.read_leaf.new.pages) (g.P.Pages.is_cause c.args.pages.now c.read_leaf.new.pages) c.in-Err-read_leaf.fault
    (λ f. g.met.P.Pages.is_cause_before c.args.pages.now c.take_leaf.new.pages c.read_leaf.new.pages f
    (g.met.P.Pages.goes_on_twice c.args.pages.now c.loop-left.pages c.take_leaf.new.pages c.loop-left.invariant.stays.goes_on c.in-Ok-false.ensures.stays.goes_on)) c.in-Err-read_leaf.ensures.refused

pub loop-left-preserved : goal.loop-left-preserved
loop-left-preserved g c =
    let signed : to_z w64 (of_z w64 c.right_link.result) ≡ c.right_link.result = search rules in
    let link : c.place-next.result ≡ (neighbours_in c.loop-left.page).1 = c.place-next.ensures ∙ ap place_of (signed ∙ c.right_link.ensures) in
    let both = stays-twice c.loop-left.invariant.stays c.in-Ok-false.ensures.stays (g.met.P.Pages.goes_on_twice c.args.pages.now c.loop-left.pages c.take_leaf.new.pages) (g.met.P.Pages.is_read_twice c.args.pages.now c.loop-left.pages c.take_leaf.new.pages) in
    let child : IsChild (g.P.Pages.size c.args.pages.now) c.place-next.result =
    subst (λ z. IsChild (g.P.Pages.size c.args.pages.now) z) (sym link) (the_child (g.P.Pages.size c.args.pages.now) (neighbours_in c.loop-left.page).1 c.loop-left.invariant.fields.right (λ z. c.if-next-eq0.false (link ∙ z))) in
    let told : g.P.Pages.told c.take_leaf.new.pages ≡ g.P.Pages.told c.args.pages.now = both.told_is in
    let read-here : (b : List ℕ) → g.P.Pages.told c.args.pages.now ≡ Some b → IsRead c.args.kind b c.loop-left.at c.loop-left.page =
    λ b e. is-read c.args.kind (g.P.Pages.told c.args.pages.now) (g.P.Pages.size c.args.pages.now) c.loop-left.at c.loop-left.page b (g.met.P.Pages.sized c.args.pages.now) c.loop-left.invariant.read c.loop-left.invariant.fields e in
    let seen = subst (λ (o : Option (List ℕ)). IfSome o (λ b. c.read_leaf.new.page ≡ page_in b c.place-next.result)) told c.in-Ok-read_leaf.ensures.read in
    record {
      stays = stays-twice both (record {
        told_is = c.in-Ok-read_leaf.ensures.told;
        size_is = c.in-Ok-read_leaf.ensures.size;
        counts = c.in-Ok-read_leaf.ensures.counts;
        frame_is = c.in-Ok-read_leaf.ensures.frame;
        goes_on = c.in-Ok-read_leaf.ensures.goes_on;
        is_read = c.in-Ok-read_leaf.ensures.is_read;
      }) (g.met.P.Pages.goes_on_twice c.args.pages.now c.take_leaf.new.pages c.read_leaf.new.pages) (g.met.P.Pages.is_read_twice c.args.pages.now c.take_leaf.new.pages c.read_leaf.new.pages);
      page = c.in-Ok-read_leaf.ensures.page;
      at = child;
      last = c.in-Ok-read_leaf.ensures.last;
      sure = λ b e. c.in-Ok-false.ensures.sure b (c.loop-left.invariant.stays.told_is ∙ e) (read-here b e) (c.loop-left.invariant.sure b e);
      fields = subst (λ (n : ℕ). IsLeafPage c.args.kind n c.read_leaf.new.page) both.size_is c.in-Ok-read_leaf.ensures.leaf;
      read = seen;
      spare = λ b e n d.
          let size : length b ≡ g.P.Pages.size c.args.pages.now = if_some (λ (b : List ℕ). length b ≡ g.P.Pages.size c.args.pages.now) (g.P.Pages.told c.args.pages.now) b (g.met.P.Pages.sized c.args.pages.now) e in
          let read : c.loop-left.page ≡ page_in b c.loop-left.at = if_some (λ b. c.loop-left.page ≡ page_in b c.loop-left.at) (g.P.Pages.told c.args.pages.now) b c.loop-left.invariant.read e in
          let next : c.place-next.result ≡ next_of b c.loop-left.at = link ∙ ap (λ p. (neighbours_in p).1) read in
          let p : IsChild (length b) (next_of b c.loop-left.at) = subst (λ z. IsChild (length b) z) next (subst (λ (m : ℕ). IsChild m c.place-next.result) (sym size) child) in
          omega (arith, c.loop-left.invariant.spare b e (suc n) (p, subst (λ z. EndsAfter b n z) next d));
      way = λ b reached t fs e tree.
          let low : Option Key = Some c.args.ends.0.now in
          let high : Option Key = option_copied c.args.ends.1 in
          let w = c.loop-left.invariant.way b reached t fs e tree in
          let up = here-up c.args.kind low high b reached t fs tree w.0 (c.loop-left.at, rows_of c.loop-left.page) w.1 w.2 in
          let read : c.loop-left.page ≡ page_in b c.loop-left.at = if_some (λ b. c.loop-left.page ≡ page_in b c.loop-left.at) (g.P.Pages.told c.args.pages.now) b c.loop-left.invariant.read e in
          let next : c.place-next.result ≡ next_of b c.loop-left.at = link ∙ ap (λ p. (neighbours_in p).1) read in
          let now : c.read_leaf.new.page ≡ page_in b c.place-next.result = if_some (λ b. c.read_leaf.new.page ≡ page_in b c.place-next.result) (g.P.Pages.told c.args.pages.now) b seen e in
          let n = next-there c.args.kind b reached t fs tree w.0 (c.loop-left.at, rows_of c.loop-left.page) w.1 w.2 (λ z. c.if-next-eq0.false (next ∙ z)) in
          let rows : rows_of (page_in b (next_of b c.loop-left.at)) ≡ rows_of c.read_leaf.new.page = ap (λ z. rows_of (page_in b z)) (sym next) ∙ ap (λ z. rows_of z) (sym now) in
          let same : (next_of b c.loop-left.at, rows_of (page_in b (next_of b c.loop-left.at))) ≡ (c.place-next.result, rows_of c.read_leaf.new.page) = λ i. (sym next i, rows i) in
          let above : has_above c.args.kind high (rows_of c.loop-left.page) ≡ false = sym (c.in-Ok-false.ensures.above up) ∙ c.in-Ok-false.field-0-test in
          let further = left-next c.args.kind high (rows_of c.loop-left.page) w.1 (c.place-next.result, rows_of c.read_leaf.new.page) n.0 above (n.1 ∙ ap (λ (z : LeafAt). z ∷ n.0) same) in
          let grown = front-next c.args.kind low high b reached t fs tree w.0 (c.loop-left.at, rows_of c.loop-left.page) w.1 w.2 in (
            w.0 ++ ((c.loop-left.at, rows_of c.loop-left.page) ∷ []),
            n.0,
            n.2 ∙ ap (λ (z : LeafAt). (w.0 ++ ((c.loop-left.at, rows_of c.loop-left.page) ∷ [])) ++ (z ∷ n.0)) same,
            λ a.
                let mean = here-mean c.args.kind low high b reached t fs tree w.0 (c.loop-left.at, rows_of c.loop-left.page) w.1 w.2 a in (
                  c.in-Ok-false.ensures.rows b (c.loop-left.invariant.stays.told_is ∙ e) up mean
                      ∙ ap (λ z. z ++ answer_of b (rows_between c.args.kind low high (rows_of c.loop-left.page))) (w.3 a).0
                      ∙ sym (answer-append b (rows_between c.args.kind low high (flat w.0)) (rows_between c.args.kind low high (rows_of c.loop-left.page)))
                      ∙ ap (λ (z : List Row). answer_of b z) (sym grown),
                  omega (
                    arith,
                    c.in-Ok-read_leaf.ensures.steps,
                    c.in-Ok-false.ensures.steps b (c.loop-left.invariant.stays.told_is ∙ e) up mean,
                    (w.3 a).1,
                    further,
                    ap (λ (z : List Row). pages_of b z) grown,
                    pages-append b (rows_between c.args.kind low high (flat w.0)) (rows_between c.args.kind low high (rows_of c.loop-left.page)),
                  ),
                ),
          );
    }

pub returns-clause-ranged : goal.returns-clause-ranged
returns-clause-ranged g c b reached t fs e tree a =
    let w = c.loop-left.invariant.way b reached t fs e tree in
    absurd (omega (arith, c.loop-left.invariant.spare b e (length w.1) (tree-ends c.args.kind b reached t fs tree w.0 (c.loop-left.at, rows_of c.loop-left.page) w.1 w.2), c.loop-left-test.false))

pub returns-clause-steps : goal.returns-clause-steps
returns-clause-steps g c b reached t fs e tree a =
    let w = c.loop-left.invariant.way b reached t fs e tree in
    absurd (omega (arith, c.loop-left.invariant.spare b e (length w.1) (tree-ends c.args.kind b reached t fs tree w.0 (c.loop-left.at, rows_of c.loop-left.page) w.1 w.2), c.loop-left-test.false))

pub returns-in-Err-take_leaf-clause-refused : goal.returns-in-Err-take_leaf-clause-refused
returns-in-Err-take_leaf-clause-refused g c =
    cut-before c.args.kind (g.P.Pages.told c.take_leaf.new.pages) (g.P.Pages.is_cause c.loop-left.pages c.take_leaf.new.pages) (g.P.Pages.is_cause c.args.pages.now c.take_leaf.new.pages) c.in-Err-take_leaf.fault
    (λ f. g.met.P.Pages.is_cause_before c.args.pages.now c.loop-left.pages c.take_leaf.new.pages f c.loop-left.invariant.stays.goes_on)
    (c.in-Err-take_leaf.ensures.refused (none-cut (λ b. IsRead c.args.kind b c.loop-left.at c.loop-left.page) (g.P.Pages.told c.loop-left.pages) (λ b e.
    let told : g.P.Pages.told c.args.pages.now ≡ Some b = sym c.loop-left.invariant.stays.told_is ∙ e in
    let size : length b ≡ g.P.Pages.size c.args.pages.now = if_some (λ (b : List ℕ). length b ≡ g.P.Pages.size c.args.pages.now) (g.P.Pages.told c.args.pages.now) b (g.met.P.Pages.sized c.args.pages.now) told in
    (if_some (λ b. c.loop-left.page ≡ page_in b c.loop-left.at) (g.P.Pages.told c.args.pages.now) b c.loop-left.invariant.read told, subst (λ (n : ℕ). IsLeafPage c.args.kind n c.loop-left.page) (sym size) c.loop-left.invariant.fields))))

pub returns-in-Ok-true-clause-sure : goal.returns-in-Ok-true-clause-sure
returns-in-Ok-true-clause-sure g c b e =
    let here = is-read c.args.kind (g.P.Pages.told c.args.pages.now) (g.P.Pages.size c.args.pages.now) c.loop-left.at c.loop-left.page b (g.met.P.Pages.sized c.args.pages.now) c.loop-left.invariant.read c.loop-left.invariant.fields e in
    c.in-Ok-true.ensures.sure b (c.loop-left.invariant.stays.told_is ∙ e) here (c.loop-left.invariant.sure b e)

pub returns-then-next-eq0-clause-sure : goal.returns-then-next-eq0-clause-sure
returns-then-next-eq0-clause-sure g c b e =
    let here = is-read c.args.kind (g.P.Pages.told c.args.pages.now) (g.P.Pages.size c.args.pages.now) c.loop-left.at c.loop-left.page b (g.met.P.Pages.sized c.args.pages.now) c.loop-left.invariant.read c.loop-left.invariant.fields e in
    c.in-Ok-false.ensures.sure b (c.loop-left.invariant.stays.told_is ∙ e) here (c.loop-left.invariant.sure b e)
