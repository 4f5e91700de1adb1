use Rattle.std.proofs.Common.{◌≡◌, ◌≤◌, ◌<◌, ◌+◌, ◌*◌, ◌++◌, ℕ, List, IfSome, Option, ap, sym, ◌∙◌, subst, rules, w64, to_z, of_z}
use Rattle.bfs_base.specs.Lists.{times}
use Rattle.bfs_pages.specs.Trees.{page_in}
use Rattle.bfs_pages.proofs.OfKind.{if_some}
use Rattle.bfs_values.specs.Kinds.{IsValueOf}
use Rattle.bfs_values.specs.declared.link.Link.TheVariants.{Fragment, Chain}
use Rattle.bfs_values.specs.Links.{link_in}
use Rattle.bfs_values.specs.Values.{IsFragment, fragment_count, fragment_numbers, numbers_from, is_ascending, numbers_in, placed, values_in}
use Rattle.bfs_dups.specs.Slots.{SameBut}
use Rattle.bfs_values.specs.Stored.{with_number}
use Rattle.bfs_dups.specs.Written.{IsFilled}
use Rattle.bfs_dups_add.specs.Written.{IsLast}
use Rattle.bfs_dups_add.proofs.Answered.{with-new, unchanged, eighth, eighth-linked}
use Rattle.bfs_dups.proofs.Answered.{revalued, linked-open, fragment-cut, vacated-whole}
use Rattle.bfs_dups.proofs.Composed.{told-whole, told-some, some-any, linked-row}
use Rattle.bfs_dups.proofs.Slotted.{refilled}
use Rattle.bfs_dups_add.proofs.Forms.{formed-same, formed-more, formed-eighth}
use Rattle.bfs_values.specs.Chained.{IsLinked}
use Rattle.bfs_dups_add.proofs.adding.add_to_fragment.Goals as goal

pub returns-in_default-clause-added : goal.returns-in_default-clause-added
returns-in_default-clause-added g c b t front back key e s =
    let o = linked-open c.args.kind b t front key back c.args.value (Fragment c.args.slot.0 c.args.slot.1) s c.requires.link in
    let r : c.read_page.new.page ≡ page_in b c.args.slot.0 = if_some (λ (b : List ℕ). c.read_page.new.page ≡ page_in b c.args.slot.0) (g.P.Pages.told c.args.pages.now) b c.in-Ok.ensures.read e in
    c.in_default.ensures (subst (λ (p : List ℕ). IsFragment p c.args.slot.1) (sym r) o.mine.1)

pub returns-in_default-clause-refused : goal.returns-in_default-clause-refused
returns-in_default-clause-refused g c leaf v =
    fragment-cut c.args.kind (g.P.Pages.told c.read_page.new.pages) leaf c.args.value c.args.slot.0 c.args.slot.1 (subst (λ (o : Option (List ℕ)). IfSome o (λ b. IsValueOf c.args.kind b leaf c.args.value)) (sym c.in-Ok.ensures.told) v) c.requires.link
    (λ b e f.
    let r : c.read_page.new.page ≡ page_in b c.args.slot.0 = if_some (λ (b : List ℕ). c.read_page.new.page ≡ page_in b c.args.slot.0) (g.P.Pages.told c.args.pages.now) b c.in-Ok.ensures.read (sym c.in-Ok.ensures.told ∙ e) in
    c.in_default.ensures (subst (λ (p : List ℕ). IsFragment p c.args.slot.1) (sym r) f))

pub returns-in-Ok-find_number-clause-added : goal.returns-in-Ok-find_number-clause-added
returns-in-Ok-find_number-clause-added g c b t front back key e s =
    let signed : to_z w64 (of_z w64 c.args.value) ≡ c.args.value = search rules in
    let r : c.read_page.new.page ≡ page_in b c.args.slot.0 = if_some (λ (b : List ℕ). c.read_page.new.page ≡ page_in b c.args.slot.0) (g.P.Pages.told c.args.pages.now) b c.in-Ok.ensures.read e in
    let count : numbers_from c.read_page.new.page (64 * c.args.slot.1 + 8) c.in-Some.count ≡ fragment_numbers c.read_page.new.page c.args.slot.1 = ap (numbers_from c.read_page.new.page (64 * c.args.slot.1 + 8)) c.in-Some.ensures.1 in
    let there = c.in-Ok-find_number.ensures.absent (ap is_ascending count ∙ c.in-Some.ensures.0.ascend) in (
      b,
      c.in-Ok.ensures.told ∙ e,
      unchanged c.args.kind b t front key back c.args.value (to_z w64 (of_z w64 c.args.value)) c.args.number s signed
          (subst (λ l. 1 ≤ times c.args.number (numbers_in b l)) (sym c.requires.link) (subst (λ (p : List ℕ). 1 ≤ times c.args.number (fragment_numbers p c.args.slot.1)) r (subst (λ (ns : List ℕ). 1 ≤ times c.args.number ns) count there))),
    )

pub returns-in-Ok-write_page-clause-added : goal.returns-in-Ok-write_page-clause-added
returns-in-Ok-write_page-clause-added g c b t front back key e s =
    let w = told-whole (g.P.Pages.told c.args.pages.now) (g.P.Pages.size c.args.pages.now) b (g.met.P.Pages.sized c.args.pages.now) (g.met.P.Pages.whole c.args.pages.now) e in
    let signed : to_z w64 (of_z w64 c.args.value) ≡ c.args.value = search rules in
    let r : c.read_page.new.page ≡ page_in b c.args.slot.0 = if_some (λ (b : List ℕ). c.read_page.new.page ≡ page_in b c.args.slot.0) (g.P.Pages.told c.args.pages.now) b c.in-Ok.ensures.read e in
    let count : numbers_from c.read_page.new.page (64 * c.args.slot.1 + 8) c.in-Some.count ≡ fragment_numbers c.read_page.new.page c.args.slot.1 = ap (numbers_from c.read_page.new.page (64 * c.args.slot.1 + 8)) c.in-Some.ensures.1 in
    let absent = c.in-Err-find_number.ensures.absent (ap is_ascending count ∙ c.in-Some.ensures.0.ascend) in
    let none : times c.args.number (fragment_numbers (page_in b c.args.slot.0) c.args.slot.1) ≡ 0 = ap (λ (p : List ℕ). times c.args.number (fragment_numbers p c.args.slot.1)) (sym r) ∙ ap (times c.args.number) (sym count) ∙ absent in
    let o = linked-open c.args.kind b t front key back c.args.value (Fragment c.args.slot.0 c.args.slot.1) s c.requires.link in
    let x = c.in-Ok-write_page.ensures.made b (c.in-Ok.ensures.told ∙ e) in
    let f : IsFilled b x.0 c.args.slot.0 c.args.slot.1 (placed c.args.number (fragment_numbers (page_in b c.args.slot.0) c.args.slot.1)) = record {
      page = c.widen_fragment.new.page;
      set = x.2;
      same = subst (λ (p : List ℕ). SameBut p c.widen_fragment.new.page (64 * c.args.slot.1) (64 * c.args.slot.1 + 64)) r c.widen_fragment.ensures.others;
      good = c.widen_fragment.ensures.good;
      numbers_are = c.widen_fragment.ensures.numbers ∙ ap (λ (p : List ℕ). placed c.args.number (fragment_numbers p c.args.slot.1)) r;
    } in
    let done = refilled c.args.kind b x.0 t (front ++ back) c.args.slot.0 c.args.slot.1 (placed c.args.number (fragment_numbers (page_in b c.args.slot.0) c.args.slot.1)) o w f in (
      x.0,
      x.1,
      revalued c.args.kind b x.0 t front key back (to_z w64 (of_z w64 c.args.value)) (Fragment c.args.slot.0 c.args.slot.1) (placed c.args.number (fragment_numbers (page_in b c.args.slot.0) c.args.slot.1)) (with_number c.args.number (values_in b c.args.value))
          (ap link_in signed ∙ c.requires.link) done.0 done.1 done.2
          (sym (with-new c.args.number (fragment_numbers (page_in b c.args.slot.0) c.args.slot.1) none) ∙ ap (λ l. with_number c.args.number (numbers_in b l)) (sym c.requires.link)),
    )

pub returns-in-Ok-raise-clause-added : goal.returns-in-Ok-raise-clause-added
returns-in-Ok-raise-clause-added g c b t front back key e s =
    let w = told-whole (g.P.Pages.told c.args.pages.now) (g.P.Pages.size c.args.pages.now) b (g.met.P.Pages.sized c.args.pages.now) (g.met.P.Pages.whole c.args.pages.now) e in
    let signed : to_z w64 (of_z w64 c.chain_value.result) ≡ c.chain_value.result = search rules in
    let r : c.read_page.new.page ≡ page_in b c.args.slot.0 = if_some (λ (b : List ℕ). c.read_page.new.page ≡ page_in b c.args.slot.0) (g.P.Pages.told c.args.pages.now) b c.in-Ok.ensures.read e in
    let count : numbers_from c.read_page.new.page (64 * c.args.slot.1 + 8) c.in-Some.count ≡ fragment_numbers c.read_page.new.page c.args.slot.1 = ap (numbers_from c.read_page.new.page (64 * c.args.slot.1 + 8)) c.in-Some.ensures.1 in
    let absent = c.in-Err-find_number.ensures.absent (ap is_ascending count ∙ c.in-Some.ensures.0.ascend) in
    let none : times c.args.number (fragment_numbers (page_in b c.args.slot.0) c.args.slot.1) ≡ 0 = ap (λ (p : List ℕ). times c.args.number (fragment_numbers p c.args.slot.1)) (sym r) ∙ ap (times c.args.number) (sym count) ∙ absent in
    let x = c.in-Ok-raise.ensures.raised b t front back (key, c.args.value) (c.in-Ok.ensures.told ∙ e) r s c.requires.link in
    let last : IsLast c.page_of_fragment.new.page (placed c.args.number (fragment_numbers (page_in b c.args.slot.0) c.args.slot.1)) = subst (λ (p : List ℕ). IsLast c.page_of_fragment.new.page (placed c.args.number (fragment_numbers p c.args.slot.1))) r c.page_of_fragment.ensures.page in
    let done = eighth c.args.kind b x.0 x.1 t front key back c.args.value (to_z w64 (of_z w64 c.chain_value.result)) c.args.slot.0 c.args.slot.1 c.in-Ok-raise.at c.page_of_fragment.new.page (placed c.args.number (fragment_numbers (page_in b c.args.slot.0) c.args.slot.1)) s c.requires.link
    (ap link_in signed ∙ c.chain_value.ensures) w (vacated-whole b x.0 c.args.slot.0 c.args.slot.1 x.3 w) x.3 x.4 last in (
      x.1,
      x.2,
      record {
        stored = done.stored;
        means = done.means ∙ sym (with-new c.args.number (fragment_numbers (page_in b c.args.slot.0) c.args.slot.1) none) ∙ ap (λ l. with_number c.args.number (numbers_in b l)) (sym c.requires.link);
        others = done.others;
      },
    )

pub returns-in-Err-raise-clause-added : goal.returns-in-Err-raise-clause-added
returns-in-Err-raise-clause-added g c b t front back key e s =
    let r : c.read_page.new.page ≡ page_in b c.args.slot.0 = if_some (λ (b : List ℕ). c.read_page.new.page ≡ page_in b c.args.slot.0) (g.P.Pages.told c.args.pages.now) b c.in-Ok.ensures.read e in
    c.in-Err-raise.ensures.raised b t front back (key, c.args.value) (c.in-Ok.ensures.told ∙ e) r s c.requires.link

pub returns-in-Ok-find_number-clause-formed : goal.returns-in-Ok-find_number-clause-formed
returns-in-Ok-find_number-clause-formed g c b e f =
    let signed : to_z w64 (of_z w64 c.args.value) ≡ c.args.value = search rules in
    let r : c.read_page.new.page ≡ page_in b c.args.slot.0 = if_some (λ (b : List ℕ). c.read_page.new.page ≡ page_in b c.args.slot.0) (g.P.Pages.told c.args.pages.now) b c.in-Ok.ensures.read e in
    let count : numbers_from c.read_page.new.page (64 * c.args.slot.1 + 8) c.in-Some.count ≡ fragment_numbers c.read_page.new.page c.args.slot.1 = ap (numbers_from c.read_page.new.page (64 * c.args.slot.1 + 8)) c.in-Some.ensures.1 in
    let there = c.in-Ok-find_number.ensures.absent (ap is_ascending count ∙ c.in-Some.ensures.0.ascend) in
    formed-same b c.args.value (to_z w64 (of_z w64 c.args.value)) c.args.number signed
    (subst (λ l. 1 ≤ times c.args.number (numbers_in b l)) (sym c.requires.link) (subst (λ (p : List ℕ). 1 ≤ times c.args.number (fragment_numbers p c.args.slot.1)) r (subst (λ (ns : List ℕ). 1 ≤ times c.args.number ns) count there))) f

pub returns-in-Ok-write_page-clause-formed : goal.returns-in-Ok-write_page-clause-formed
returns-in-Ok-write_page-clause-formed g c b e f =
    let signed : to_z w64 (of_z w64 c.args.value) ≡ c.args.value = search rules in
    let r : c.read_page.new.page ≡ page_in b c.args.slot.0 = if_some (λ (b : List ℕ). c.read_page.new.page ≡ page_in b c.args.slot.0) (g.P.Pages.told c.args.pages.now) b c.in-Ok.ensures.read e in
    let count : numbers_from c.read_page.new.page (64 * c.args.slot.1 + 8) c.in-Some.count ≡ fragment_numbers c.read_page.new.page c.args.slot.1 = ap (numbers_from c.read_page.new.page (64 * c.args.slot.1 + 8)) c.in-Some.ensures.1 in
    let absent = c.in-Err-find_number.ensures.absent (ap is_ascending count ∙ c.in-Some.ensures.0.ascend) in
    let none : times c.args.number (fragment_numbers (page_in b c.args.slot.0) c.args.slot.1) ≡ 0 = ap (λ (p : List ℕ). times c.args.number (fragment_numbers p c.args.slot.1)) (sym r) ∙ ap (times c.args.number) (sym count) ∙ absent in
    let many : c.in-Some.count ≡ fragment_count (page_in b c.args.slot.0) c.args.slot.1 = c.in-Some.ensures.1 ∙ ap (λ (p : List ℕ). fragment_count p c.args.slot.1) r in
    let some : 1 ≤ fragment_count (page_in b c.args.slot.0) c.args.slot.1 = subst (λ (p : List ℕ). 1 ≤ fragment_count p c.args.slot.1) r c.in-Some.ensures.0.some in
    formed-more b c.args.value (to_z w64 (of_z w64 c.args.value)) c.args.number c.args.slot.0 c.args.slot.1 c.requires.link signed none some (subst (λ (n : ℕ). n < 7) many c.if-count-lt7.true)

pub returns-in-Ok-raise-clause-formed : goal.returns-in-Ok-raise-clause-formed
returns-in-Ok-raise-clause-formed g c b e f =
    let signed : to_z w64 (of_z w64 c.chain_value.result) ≡ c.chain_value.result = search rules in
    let r : c.read_page.new.page ≡ page_in b c.args.slot.0 = if_some (λ (b : List ℕ). c.read_page.new.page ≡ page_in b c.args.slot.0) (g.P.Pages.told c.args.pages.now) b c.in-Ok.ensures.read e in
    let count : numbers_from c.read_page.new.page (64 * c.args.slot.1 + 8) c.in-Some.count ≡ fragment_numbers c.read_page.new.page c.args.slot.1 = ap (numbers_from c.read_page.new.page (64 * c.args.slot.1 + 8)) c.in-Some.ensures.1 in
    let absent = c.in-Err-find_number.ensures.absent (ap is_ascending count ∙ c.in-Some.ensures.0.ascend) in
    let none : times c.args.number (fragment_numbers (page_in b c.args.slot.0) c.args.slot.1) ≡ 0 = ap (λ (p : List ℕ). times c.args.number (fragment_numbers p c.args.slot.1)) (sym r) ∙ ap (times c.args.number) (sym count) ∙ absent in
    let many : c.in-Some.count ≡ fragment_count (page_in b c.args.slot.0) c.args.slot.1 = c.in-Some.ensures.1 ∙ ap (λ (p : List ℕ). fragment_count p c.args.slot.1) r in
    formed-eighth b c.args.value (to_z w64 (of_z w64 c.chain_value.result)) c.args.number c.args.slot.0 c.args.slot.1 c.in-Ok-raise.at c.requires.link (ap link_in signed ∙ c.chain_value.ensures) none (subst (λ (n : ℕ). 7 ≤ n) many c.if-count-lt7.false)

pub returns-in-Ok-find_number-clause-linked : goal.returns-in-Ok-find_number-clause-linked
returns-in-Ok-find_number-clause-linked g c b t front back key e s k =
    let signed : to_z w64 (of_z w64 c.args.value) ≡ c.args.value = search rules in
    some-any (λ (d : List ℕ). IsLinked d (link_in (to_z w64 (of_z w64 c.args.value)))) (g.P.Pages.told c.read_page.new.pages) (λ d. linked-row d (to_z w64 (of_z w64 c.args.value)) c.args.value (Fragment c.args.slot.0 c.args.slot.1) signed c.requires.link tt)

pub returns-in-Ok-write_page-clause-linked : goal.returns-in-Ok-write_page-clause-linked
returns-in-Ok-write_page-clause-linked g c b t front back key e s k =
    let signed : to_z w64 (of_z w64 c.args.value) ≡ c.args.value = search rules in
    some-any (λ (d : List ℕ). IsLinked d (link_in (to_z w64 (of_z w64 c.args.value)))) (g.P.Pages.told c.write_page.new.pages) (λ d. linked-row d (to_z w64 (of_z w64 c.args.value)) c.args.value (Fragment c.args.slot.0 c.args.slot.1) signed c.requires.link tt)

pub returns-in-Ok-raise-clause-linked : goal.returns-in-Ok-raise-clause-linked
returns-in-Ok-raise-clause-linked g c b t front back key e s k =
    let w = told-whole (g.P.Pages.told c.args.pages.now) (g.P.Pages.size c.args.pages.now) b (g.met.P.Pages.sized c.args.pages.now) (g.met.P.Pages.whole c.args.pages.now) e in
    let signed : to_z w64 (of_z w64 c.chain_value.result) ≡ c.chain_value.result = search rules in
    let r : c.read_page.new.page ≡ page_in b c.args.slot.0 = if_some (λ (b : List ℕ). c.read_page.new.page ≡ page_in b c.args.slot.0) (g.P.Pages.told c.args.pages.now) b c.in-Ok.ensures.read e in
    let x = c.in-Ok-raise.ensures.raised b t front back (key, c.args.value) (c.in-Ok.ensures.told ∙ e) r s c.requires.link in
    told-some (λ (d : List ℕ). IsLinked d (link_in (to_z w64 (of_z w64 c.chain_value.result)))) (g.P.Pages.told c.raise.new.pages) x.1 x.2
    (linked-row x.1 (to_z w64 (of_z w64 c.chain_value.result)) c.chain_value.result (Chain c.in-Ok-raise.at) signed c.chain_value.ensures
    (eighth-linked c.args.kind b x.0 x.1 t front key back c.args.value c.args.slot.0 c.args.slot.1 c.in-Ok-raise.at c.page_of_fragment.new.page (placed c.args.number (fragment_numbers c.read_page.new.page c.args.slot.1)) s c.requires.link w
    (vacated-whole b x.0 c.args.slot.0 c.args.slot.1 x.3 w) x.3 x.4 c.page_of_fragment.ensures.page c.page_of_fragment.ensures.left))
