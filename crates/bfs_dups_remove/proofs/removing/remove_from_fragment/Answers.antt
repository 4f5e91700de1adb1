use Rattle.std.proofs.Common.{◌≡◌, ◌≤◌, ◌+◌, ◌*◌, ℕ, ℤ, List, Some, IfSome, Option, length, refl, ap, sym, ◌∙◌, subst, rules, w64, to_z, of_z}
use Rattle.bfs_base.specs.Lists.{times}
use Rattle.bfs_pages.specs.Trees.{page_in}
use Rattle.bfs_pages.proofs.OfKind.{if_some}
use Rattle.bfs_values.specs.Kinds.{IsValueOf}
use Rattle.bfs_values.specs.declared.link.Link.TheVariants.{Fragment, Number}
use Rattle.bfs_values.specs.Links.{link_in}
use Rattle.bfs_values.specs.Values.{IsFragment, fragment_count, fragment_numbers, numbers_from, is_ascending, numbers_in, values_in}
use Rattle.bfs_values.specs.Formed.{AreFew}
use Rattle.bfs_dups.specs.Slots.{SameBut}
use Rattle.bfs_dups.specs.Written.{IsFilled}
use Rattle.bfs_dups.proofs.Answered.{linked-open, fragment-cut, vacated-whole}
use Rattle.bfs_dups.proofs.Composed.{told-whole, linked-row}
use Rattle.bfs_dups.proofs.Moved.{length-numbers}
use Rattle.bfs_dups_remove.specs.Lessened.{without_number, IsLessened}
use Rattle.bfs_dups_remove.proofs.Forms.{never-there, few-numbers, formed-number, formed-fragment}
use Rattle.bfs_dups_remove.proofs.Lesser.{lessened-some}
use Rattle.bfs_dups_remove.proofs.Plucked.{only-one, untouched, plucked-none, plucked-plain, plucked-kept, plucked-numbers}
use Rattle.bfs_dups_remove.proofs.removing.remove_from_fragment.Goals as goal

pub returns-in_default-clause-removed : goal.returns-in_default-clause-removed
returns-in_default-clause-removed g c b t front back key e s =
    let o = linked-open c.args.kind b t front key back c.args.value (Fragment c.args.slot.0 c.args.slot.1) s c.requires.link in
    let r : c.read_page.new.page ≡ page_in b c.args.slot.0 = if_some (λ (b : List ℕ). c.read_page.new.page ≡ page_in b c.args.slot.0) (g.P.Pages.told c.args.pages.now) b c.in-Ok.ensures.read e in
    c.in_default.ensures (subst (λ (p : List ℕ). IsFragment p c.args.slot.1) (sym r) o.mine.1)

pub returns-in_default-clause-refused : goal.returns-in_default-clause-refused
returns-in_default-clause-refused g c leaf v =
    fragment-cut c.args.kind (g.P.Pages.told c.read_page.new.pages) leaf c.args.value c.args.slot.0 c.args.slot.1 (subst (λ (o : Option (List ℕ)). IfSome o (λ b. IsValueOf c.args.kind b leaf c.args.value)) (sym c.in-Ok.ensures.told) v) c.requires.link
    (λ b e f.
    let r : c.read_page.new.page ≡ page_in b c.args.slot.0 = if_some (λ (b : List ℕ). c.read_page.new.page ≡ page_in b c.args.slot.0) (g.P.Pages.told c.args.pages.now) b c.in-Ok.ensures.read (sym c.in-Ok.ensures.told ∙ e) in
    c.in_default.ensures (subst (λ (p : List ℕ). IsFragment p c.args.slot.1) (sym r) f))

pub returns-in-Err-find_number-clause-removed : goal.returns-in-Err-find_number-clause-removed
returns-in-Err-find_number-clause-removed g c b t front back key e s =
    let w = told-whole (g.P.Pages.told c.args.pages.now) (g.P.Pages.size c.args.pages.now) b (g.met.P.Pages.sized c.args.pages.now) (g.met.P.Pages.whole c.args.pages.now) e in
    let signed : to_z w64 (of_z w64 c.args.value) ≡ c.args.value = search rules in
    let r : c.read_page.new.page ≡ page_in b c.args.slot.0 = if_some (λ (b : List ℕ). c.read_page.new.page ≡ page_in b c.args.slot.0) (g.P.Pages.told c.args.pages.now) b c.in-Ok.ensures.read e in
    let count : numbers_from c.read_page.new.page (64 * c.args.slot.1 + 8) c.in-Some.count ≡ fragment_numbers c.read_page.new.page c.args.slot.1 = ap (numbers_from c.read_page.new.page (64 * c.args.slot.1 + 8)) c.in-Some.ensures.1 in
    let absent = c.in-Err-find_number.ensures.absent (ap is_ascending count ∙ c.in-Some.ensures.0.ascend) in
    let none : times c.args.number (values_in b c.args.value) ≡ 0 = ap (λ l. times c.args.number (numbers_in b l)) c.requires.link ∙ ap (λ (p : List ℕ). times c.args.number (fragment_numbers p c.args.slot.1)) (sym r) ∙ ap (times c.args.number) (sym count) ∙ absent in
    (b, c.in-Ok.ensures.told ∙ e, subst (λ (v : ℤ). IsLessened c.args.kind b b t front key back (without_number c.args.number (values_in b c.args.value)) (Some v)) (sym signed) (untouched c.args.kind b t front key back c.args.value c.args.number s w none))

pub returns-in-Ok-vacate-clause-removed : goal.returns-in-Ok-vacate-clause-removed
returns-in-Ok-vacate-clause-removed g c b t front back key e s =
    let w = told-whole (g.P.Pages.told c.args.pages.now) (g.P.Pages.size c.args.pages.now) b (g.met.P.Pages.sized c.args.pages.now) (g.met.P.Pages.whole c.args.pages.now) e in
    let r : c.read_page.new.page ≡ page_in b c.args.slot.0 = if_some (λ (b : List ℕ). c.read_page.new.page ≡ page_in b c.args.slot.0) (g.P.Pages.told c.args.pages.now) b c.in-Ok.ensures.read e in
    let count : numbers_from c.read_page.new.page (64 * c.args.slot.1 + 8) c.in-Some.count ≡ fragment_numbers c.read_page.new.page c.args.slot.1 = ap (numbers_from c.read_page.new.page (64 * c.args.slot.1 + 8)) c.in-Some.ensures.1 in
    let there = c.in-Ok-find_number.ensures.absent (ap is_ascending count ∙ c.in-Some.ensures.0.ascend) in
    let one : length (fragment_numbers c.read_page.new.page c.args.slot.1) ≡ 1 = length-numbers c.read_page.new.page (64 * c.args.slot.1 + 8) (fragment_count c.read_page.new.page c.args.slot.1) ∙ sym c.in-Some.ensures.1 ∙ c.if-count-eq1.true in
    let only = only-one (fragment_numbers c.read_page.new.page c.args.slot.1) c.args.number one (subst (λ (ns : List ℕ). 1 ≤ times c.args.number ns) count there) in
    let x = c.in-Ok-vacate.ensures.vacated b (c.in-Ok.ensures.told ∙ e) r in
    (x.0, x.1, plucked-none c.args.kind b x.0 t front key back c.args.value c.args.slot.0 c.args.slot.1 c.args.number s c.requires.link w x.2 (ap (λ (p : List ℕ). fragment_numbers p c.args.slot.1) (sym r) ∙ only))

pub returns-in-Err-vacate-clause-removed : goal.returns-in-Err-vacate-clause-removed
returns-in-Err-vacate-clause-removed g c b t front back key e s = c.in-Err-vacate.ensures.spared b s.reached t s.free (c.in-Ok.ensures.told ∙ e) s.tree

pub returns-in-Ok-vacate-2-clause-removed : goal.returns-in-Ok-vacate-2-clause-removed
returns-in-Ok-vacate-2-clause-removed g c b t front back key e s =
    let w = told-whole (g.P.Pages.told c.args.pages.now) (g.P.Pages.size c.args.pages.now) b (g.met.P.Pages.sized c.args.pages.now) (g.met.P.Pages.whole c.args.pages.now) e in
    let signed : to_z w64 (of_z w64 c.number_value.result) ≡ c.number_value.result = search rules in
    let r : c.read_page.new.page ≡ page_in b c.args.slot.0 = if_some (λ (b : List ℕ). c.read_page.new.page ≡ page_in b c.args.slot.0) (g.P.Pages.told c.args.pages.now) b c.in-Ok.ensures.read e in
    let less : fragment_numbers c.narrow_fragment.new.page c.args.slot.1 ≡ without_number c.args.number (fragment_numbers (page_in b c.args.slot.0) c.args.slot.1) =
    plucked-numbers c.copy_from_slice.new.self c.read_page.new.page c.narrow_fragment.new.page (page_in b c.args.slot.0) c.args.slot.1 c.in-Ok-find_number.i c.args.number c.copy_from_slice.ensures.after r c.in-Ok-find_number.ensures.place.1 c.narrow_fragment.ensures.numbers in
    let x = c.in-Ok-vacate-2.ensures.vacated b (c.in-Ok.ensures.told ∙ e) r in
    let v = plucked-plain c.args.kind b x.0 t front key back c.args.value (to_z w64 (of_z w64 c.number_value.result)) c.args.slot.0 c.args.slot.1 c.args.number c.in-Some-lone_number.plain s c.requires.link (ap link_in signed ∙ c.number_value.ensures) w x.2 (sym less ∙ c.in-Some-lone_number.ensures.only) in
    (x.0, x.1, lessened-some c.args.kind b x.0 t front key back (without_number c.args.number (values_in b c.args.value)) (to_z w64 (of_z w64 c.number_value.result)) (vacated-whole b x.0 c.args.slot.0 c.args.slot.1 x.2 w) v)

pub returns-in-Err-vacate-2-clause-removed : goal.returns-in-Err-vacate-2-clause-removed
returns-in-Err-vacate-2-clause-removed g c b t front back key e s = c.in-Err-vacate-2.ensures.spared b s.reached t s.free (c.in-Ok.ensures.told ∙ e) s.tree

pub returns-in-Ok-write_page-clause-removed : goal.returns-in-Ok-write_page-clause-removed
returns-in-Ok-write_page-clause-removed g c b t front back key e s =
    let w = told-whole (g.P.Pages.told c.args.pages.now) (g.P.Pages.size c.args.pages.now) b (g.met.P.Pages.sized c.args.pages.now) (g.met.P.Pages.whole c.args.pages.now) e in
    let signed : to_z w64 (of_z w64 c.args.value) ≡ c.args.value = search rules in
    let r : c.read_page.new.page ≡ page_in b c.args.slot.0 = if_some (λ (b : List ℕ). c.read_page.new.page ≡ page_in b c.args.slot.0) (g.P.Pages.told c.args.pages.now) b c.in-Ok.ensures.read e in
    let less : fragment_numbers c.narrow_fragment.new.page c.args.slot.1 ≡ without_number c.args.number (fragment_numbers (page_in b c.args.slot.0) c.args.slot.1) =
    plucked-numbers c.copy_from_slice.new.self c.read_page.new.page c.narrow_fragment.new.page (page_in b c.args.slot.0) c.args.slot.1 c.in-Ok-find_number.i c.args.number c.copy_from_slice.ensures.after r c.in-Ok-find_number.ensures.place.1 c.narrow_fragment.ensures.numbers in
    let x = c.in-Ok-write_page.ensures.made b (c.in-Ok.ensures.told ∙ e) in
    let f : IsFilled b x.0 c.args.slot.0 c.args.slot.1 (without_number c.args.number (fragment_numbers (page_in b c.args.slot.0) c.args.slot.1)) = record {
      page = c.narrow_fragment.new.page;
      set = x.2;
      same = subst (λ (p : List ℕ). SameBut p c.narrow_fragment.new.page (64 * c.args.slot.1) (64 * c.args.slot.1 + 64)) (c.copy_from_slice.ensures.after ∙ r) c.narrow_fragment.ensures.others;
      good = c.narrow_fragment.ensures.good;
      numbers_are = less;
    } in
    let v = plucked-kept c.args.kind b x.0 t front key back c.args.value c.args.slot.0 c.args.slot.1 c.args.number s c.requires.link w f in
    let u = told-whole (g.P.Pages.told c.write_page.new.pages) (g.P.Pages.size c.write_page.new.pages) x.0 (g.met.P.Pages.sized c.write_page.new.pages) (g.met.P.Pages.whole c.write_page.new.pages) x.1 in
    (x.0, x.1, subst (λ (z : ℤ). IsLessened c.args.kind b x.0 t front key back (without_number c.args.number (values_in b c.args.value)) (Some z)) (sym signed) (lessened-some c.args.kind b x.0 t front key back (without_number c.args.number (values_in b c.args.value)) c.args.value u v))

-- the form of what is left
pub returns-in-Err-find_number-clause-formed : goal.returns-in-Err-find_number-clause-formed
returns-in-Err-find_number-clause-formed g c b e i =
    let r : c.read_page.new.page ≡ page_in b c.args.slot.0 = if_some (λ (b : List ℕ). c.read_page.new.page ≡ page_in b c.args.slot.0) (g.P.Pages.told c.args.pages.now) b c.in-Ok.ensures.read e in
    let count : numbers_from c.read_page.new.page (64 * c.args.slot.1 + 8) c.in-Some.count ≡ fragment_numbers c.read_page.new.page c.args.slot.1 = ap (numbers_from c.read_page.new.page (64 * c.args.slot.1 + 8)) c.in-Some.ensures.1 in
    let absent = c.in-Err-find_number.ensures.absent (ap is_ascending count ∙ c.in-Some.ensures.0.ascend) in
    let none : times c.args.number (values_in b c.args.value) ≡ 0 = ap (λ l. times c.args.number (numbers_in b l)) c.requires.link ∙ ap (λ (p : List ℕ). times c.args.number (fragment_numbers p c.args.slot.1)) (sym r) ∙ ap (times c.args.number) (sym count) ∙ absent in
    absurd (never-there c.args.number (values_in b c.args.value) none i)

pub returns-in-Ok-vacate-2-clause-formed : goal.returns-in-Ok-vacate-2-clause-formed
returns-in-Ok-vacate-2-clause-formed g c b e i =
    let signed : to_z w64 (of_z w64 c.number_value.result) ≡ c.number_value.result = search rules in
    let r : c.read_page.new.page ≡ page_in b c.args.slot.0 = if_some (λ (b : List ℕ). c.read_page.new.page ≡ page_in b c.args.slot.0) (g.P.Pages.told c.args.pages.now) b c.in-Ok.ensures.read e in
    let less : fragment_numbers c.narrow_fragment.new.page c.args.slot.1 ≡ without_number c.args.number (fragment_numbers (page_in b c.args.slot.0) c.args.slot.1) =
    plucked-numbers c.copy_from_slice.new.self c.read_page.new.page c.narrow_fragment.new.page (page_in b c.args.slot.0) c.args.slot.1 c.in-Ok-find_number.i c.args.number c.copy_from_slice.ensures.after r c.in-Ok-find_number.ensures.place.1 c.narrow_fragment.ensures.numbers in
    formed-number (to_z w64 (of_z w64 c.number_value.result)) c.in-Some-lone_number.plain (without_number c.args.number (values_in b c.args.value)) (ap link_in signed ∙ c.number_value.ensures)
    (ap (λ l. without_number c.args.number (numbers_in b l)) c.requires.link ∙ sym less ∙ c.in-Some-lone_number.ensures.only)

pub returns-in-Ok-write_page-clause-formed : goal.returns-in-Ok-write_page-clause-formed
returns-in-Ok-write_page-clause-formed g c b e i =
    let signed : to_z w64 (of_z w64 c.args.value) ≡ c.args.value = search rules in
    let r : c.read_page.new.page ≡ page_in b c.args.slot.0 = if_some (λ (b : List ℕ). c.read_page.new.page ≡ page_in b c.args.slot.0) (g.P.Pages.told c.args.pages.now) b c.in-Ok.ensures.read e in
    let less : fragment_numbers c.narrow_fragment.new.page c.args.slot.1 ≡ without_number c.args.number (fragment_numbers (page_in b c.args.slot.0) c.args.slot.1) =
    plucked-numbers c.copy_from_slice.new.self c.read_page.new.page c.narrow_fragment.new.page (page_in b c.args.slot.0) c.args.slot.1 c.in-Ok-find_number.i c.args.number c.copy_from_slice.ensures.after r c.in-Ok-find_number.ensures.place.1 c.narrow_fragment.ensures.numbers in
    let few = few-numbers c.narrow_fragment.new.page (64 * c.args.slot.1 + 8) (fragment_count c.narrow_fragment.new.page c.args.slot.1) c.narrow_fragment.ensures.good.some c.narrow_fragment.ensures.good.fits (c.in-None.ensures.none refl) in
    formed-fragment (to_z w64 (of_z w64 c.args.value)) c.args.slot.0 c.args.slot.1 (without_number c.args.number (values_in b c.args.value)) (ap link_in signed ∙ c.requires.link)
    (subst AreFew (less ∙ ap (λ l. without_number c.args.number (numbers_in b l)) (sym c.requires.link)) few)

pub returns-in-Err-find_number-clause-linked : goal.returns-in-Err-find_number-clause-linked
returns-in-Err-find_number-clause-linked g c d =
    let signed : to_z w64 (of_z w64 c.args.value) ≡ c.args.value = search rules in
    linked-row d (to_z w64 (of_z w64 c.args.value)) c.args.value (Fragment c.args.slot.0 c.args.slot.1) signed c.requires.link tt

pub returns-in-Ok-vacate-2-clause-linked : goal.returns-in-Ok-vacate-2-clause-linked
returns-in-Ok-vacate-2-clause-linked g c d =
    let signed : to_z w64 (of_z w64 c.number_value.result) ≡ c.number_value.result = search rules in
    linked-row d (to_z w64 (of_z w64 c.number_value.result)) c.number_value.result (Number c.in-Some-lone_number.plain) signed c.number_value.ensures tt

pub returns-in-Ok-write_page-clause-linked : goal.returns-in-Ok-write_page-clause-linked
returns-in-Ok-write_page-clause-linked g c d =
    let signed : to_z w64 (of_z w64 c.args.value) ≡ c.args.value = search rules in
    linked-row d (to_z w64 (of_z w64 c.args.value)) c.args.value (Fragment c.args.slot.0 c.args.slot.1) signed c.requires.link tt
