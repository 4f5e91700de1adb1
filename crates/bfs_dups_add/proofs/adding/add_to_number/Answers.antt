use Rattle.std.proofs.Common.{◌≡◌, ◌≤◌, ◌<◌, ◌+◌, ◌*◌, ◌^◌, ◌∷◌, ◌++◌, [], ℕ, List, IfSome, length, inl, inr, ap, sym, ◌∙◌, subst, rules, w64, to_z, of_z}
use Rattle.bfs_base.specs.Lists.{times}
use Rattle.bfs_pages.specs.Answers.{IsChild}
use Rattle.bfs_pages.specs.Trees.{page_in}
use Rattle.bfs_pages.proofs.OfKind.{if_some}
use Rattle.bfs_pages.proofs.Splice.{self}
use Rattle.bfs_remove.proofs.Giving.{told-size}
use Rattle.bfs_values.specs.declared.link.Link.TheVariants.{Number, Fragment}
use Rattle.bfs_values.specs.Links.{link_in}
use Rattle.bfs_values.specs.Values.{fragment_count, numbers_in, values_in}
use Rattle.bfs_values.specs.Named.{IsNamedIn, IsCrowded}
use Rattle.bfs_dups.specs.Slots.{SameBut}
use Rattle.bfs_values.specs.Stored.{with_number}
use Rattle.bfs_dups.specs.Written.{IsFilled}
use Rattle.bfs_dups.specs.declared.vacant.Slot.{Slot}
use Rattle.bfs_dups_add.proofs.Answered.{with-new, unchanged, named-other}
use Rattle.bfs_dups.proofs.Answered.{revalued, linked-open, pair-new}
use Rattle.bfs_dups_add.proofs.Causes.{pages-scant}
use Rattle.bfs_dups.proofs.Composed.{told-whole, linked-row}
use Rattle.bfs_dups_add.proofs.Gained.{gained}
use Rattle.bfs_dups.proofs.Slotted.{slot-taken}
use Rattle.bfs_dups_add.proofs.Forms.{formed-pair}
use Rattle.bfs_dups_add.proofs.adding.add_to_number.Goals as goal

pub returns-then-number-old-clause-added : goal.returns-then-number-old-clause-added
returns-then-number-old-clause-added g c b t front back key e s rows leaf =
    let signed : to_z w64 (of_z w64 c.args.value) ≡ c.args.value = search rules in (
      b,
      e,
      unchanged c.args.kind b t front key back c.args.value (to_z w64 (of_z w64 c.args.value)) c.args.number s signed
          (subst (λ l. 1 ≤ times c.args.number (numbers_in b l)) (sym c.requires.link) (subst (λ (n : ℕ). 1 ≤ times c.args.number (n ∷ [])) c.if-number-old.true (self c.args.number []))),
    )

pub returns-in-Ok-clause-added : goal.returns-in-Ok-clause-added
returns-in-Ok-clause-added g c b t front back key e s rows leaf =
    let w = told-whole (g.P.Pages.told c.args.pages.now) (g.P.Pages.size c.args.pages.now) b (g.met.P.Pages.sized c.args.pages.now) (g.met.P.Pages.whole c.args.pages.now) e in
    let size : length b ≡ g.P.Pages.size c.args.pages.now = told-size (g.P.Pages.told c.args.pages.now) (g.P.Pages.size c.args.pages.now) b (g.met.P.Pages.sized c.args.pages.now) e in
    let signed : to_z w64 (of_z w64 c.fragment_value.result) ≡ c.fragment_value.result = search rules in
    let o = linked-open c.args.kind b t front key back c.args.value (Number c.args.old) s c.requires.link in
    let named = if_some (λ (b : List ℕ). IsNamedIn b c.args.leaf c.in-Ok-Some.slot.page) (g.P.Pages.told c.args.pages.now) b
    (if_some (λ (slot : Slot). IfSome (g.P.Pages.told c.args.pages.now) (λ b. IsNamedIn b c.args.leaf slot.page)) c.in-Ok-Some.field-0 c.in-Ok-Some.slot c.in-Ok-Some.ensures.named c.in-Ok-Some.field-0-is) e in
    let place = if_some (λ (slot : Slot). IsChild (g.P.Pages.size c.args.pages.now) slot.page × (slot.page < 2 ^ 62) × (slot.index < 16) × (fragment_count c.find_vacant.new.page slot.index ≡ 0) × IfSome (g.P.Pages.told c.args.pages.now) (λ b. c.find_vacant.new.page ≡ page_in b slot.page)) c.in-Ok-Some.field-0 c.in-Ok-Some.slot c.in-Ok-Some.ensures.place c.in-Ok-Some.field-0-is in
    let r : c.find_vacant.new.page ≡ page_in b c.in-Ok-Some.slot.page = if_some (λ (b : List ℕ). c.find_vacant.new.page ≡ page_in b c.in-Ok-Some.slot.page) (g.P.Pages.told c.args.pages.now) b place.4 e in
    let n = named-other c.args.kind b s.reached t s.free front key back c.args.value c.args.old c.args.leaf c.in-Ok-Some.slot.page s.tree rows c.requires.link leaf named in
    let x = c.in-Ok.ensures.made b (c.in-Ok-Some.ensures.told ∙ e) in
    let f : IsFilled b x.0 c.in-Ok-Some.slot.page c.in-Ok-Some.slot.index (c.ascending-less.result.0 ∷ (c.ascending-less.result.1 ∷ [])) = record {
      page = c.set_pair.new.page;
      set = x.2;
      same = subst (λ (p : List ℕ). SameBut p c.set_pair.new.page (64 * c.in-Ok-Some.slot.index) (64 * c.in-Ok-Some.slot.index + 64)) r c.set_pair.ensures.others;
      good = c.set_pair.ensures.good;
      numbers_are = c.set_pair.ensures.numbers;
    } in
    let done = slot-taken c.args.kind b x.0 t (front ++ back) c.args.old c.in-Ok-Some.slot.page c.in-Ok-Some.slot.index n.0 (c.ascending-less.result.0 ∷ (c.ascending-less.result.1 ∷ [])) o w (subst (λ (m : ℕ). IsChild m c.in-Ok-Some.slot.page) (sym size) place.0) n.1
    (ap (λ (p : List ℕ). fragment_count p c.in-Ok-Some.slot.index) (sym r) ∙ place.3) f in (
      x.0,
      x.1,
      revalued c.args.kind b x.0 t front key back (to_z w64 (of_z w64 c.fragment_value.result)) (Fragment c.in-Ok-Some.slot.page c.in-Ok-Some.slot.index) (c.ascending-less.result.0 ∷ (c.ascending-less.result.1 ∷ [])) (with_number c.args.number (values_in b c.args.value))
          (ap link_in signed ∙ c.fragment_value.ensures) done.0 done.1 done.2
          (sym c.ascending-less.ensures.numbers ∙ sym (with-new c.args.number (c.args.old ∷ []) (pair-new c.args.number c.args.old c.if-number-old.false)) ∙ ap (λ l. with_number c.args.number (numbers_in b l)) (sym c.requires.link)),
    )

pub returns-in-Ok-put_page-clause-added : goal.returns-in-Ok-put_page-clause-added
returns-in-Ok-put_page-clause-added g c b t front back key e s rows leaf =
    let w = told-whole (g.P.Pages.told c.args.pages.now) (g.P.Pages.size c.args.pages.now) b (g.met.P.Pages.sized c.args.pages.now) (g.met.P.Pages.whole c.args.pages.now) e in
    let signed : to_z w64 (of_z w64 c.fragment_value-in-Ok-put_page.result) ≡ c.fragment_value-in-Ok-put_page.result = search rules in
    let o = linked-open c.args.kind b t front key back c.args.value (Number c.args.old) s c.requires.link in
    let x = c.in-Ok-put_page.ensures.put b (c.in-Ok-None.ensures.told ∙ e) in
    let done = gained c.args.kind b x.0 t (front ++ back) c.args.old c.in-Ok-put_page.at 0 c.page_of_pair.new.page (c.ascending-less.result.0 ∷ (c.ascending-less.result.1 ∷ [])) o w x.2 c.page_of_pair.ensures.page in (
      x.0,
      x.1,
      revalued c.args.kind b x.0 t front key back (to_z w64 (of_z w64 c.fragment_value-in-Ok-put_page.result)) (Fragment c.in-Ok-put_page.at 0) (c.ascending-less.result.0 ∷ (c.ascending-less.result.1 ∷ [])) (with_number c.args.number (values_in b c.args.value))
          (ap link_in signed ∙ c.fragment_value-in-Ok-put_page.ensures) done.0 done.1 done.2
          (sym c.ascending-less.ensures.numbers ∙ sym (with-new c.args.number (c.args.old ∷ []) (pair-new c.args.number c.args.old c.if-number-old.false)) ∙ ap (λ l. with_number c.args.number (numbers_in b l)) (sym c.requires.link)),
    )

pub returns-in-Err-put_page-clause-added : goal.returns-in-Err-put_page-clause-added
returns-in-Err-put_page-clause-added g c b t front back key e s rows leaf = c.in-Err-put_page.ensures.spared b s.reached t s.free (c.in-Ok-None.ensures.told ∙ e) s.tree

pub returns-in-Err-clause-added : goal.returns-in-Err-clause-added
returns-in-Err-clause-added g c b t front back key e s rows leaf = pages-scant (g.P.Pages.told c.find_vacant.new.pages) c.in-Err.fault (c.in-Err.ensures.spared b s.reached t s.free e s.tree leaf)

pub returns-in-Ok-clause-formed : goal.returns-in-Ok-clause-formed
returns-in-Ok-clause-formed g c b e f =
    let signed : to_z w64 (of_z w64 c.fragment_value.result) ≡ c.fragment_value.result = search rules in
    formed-pair b c.args.value (to_z w64 (of_z w64 c.fragment_value.result)) c.args.old c.args.number c.in-Ok-Some.slot.page c.in-Ok-Some.slot.index c.requires.link (ap link_in signed ∙ c.fragment_value.ensures) c.if-number-old.false

pub returns-in-Ok-put_page-clause-formed : goal.returns-in-Ok-put_page-clause-formed
returns-in-Ok-put_page-clause-formed g c b e f =
    let signed : to_z w64 (of_z w64 c.fragment_value-in-Ok-put_page.result) ≡ c.fragment_value-in-Ok-put_page.result = search rules in
    formed-pair b c.args.value (to_z w64 (of_z w64 c.fragment_value-in-Ok-put_page.result)) c.args.old c.args.number c.in-Ok-put_page.at 0 c.requires.link (ap link_in signed ∙ c.fragment_value-in-Ok-put_page.ensures) c.if-number-old.false

pub returns-in-Ok-clause-place : goal.returns-in-Ok-clause-place
returns-in-Ok-clause-place g c b e apart =
    let signed : to_z w64 (of_z w64 c.fragment_value.result) ≡ c.fragment_value.result = search rules in
    let named = if_some (λ (b : List ℕ). IsNamedIn b c.args.leaf c.in-Ok-Some.slot.page) (g.P.Pages.told c.args.pages.now) b
    (if_some (λ (slot : Slot). IfSome (g.P.Pages.told c.args.pages.now) (λ b. IsNamedIn b c.args.leaf slot.page)) c.in-Ok-Some.field-0 c.in-Ok-Some.slot c.in-Ok-Some.ensures.named c.in-Ok-Some.field-0-is) e in
    (c.in-Ok-Some.slot.page, c.in-Ok-Some.slot.index, ap link_in signed ∙ c.fragment_value.ensures, inl named)

pub returns-in-Ok-put_page-clause-place : goal.returns-in-Ok-put_page-clause-place
returns-in-Ok-put_page-clause-place g c b e apart =
    let signed : to_z w64 (of_z w64 c.fragment_value-in-Ok-put_page.result) ≡ c.fragment_value-in-Ok-put_page.result = search rules in
    let crowded = if_some (λ (b : List ℕ). IsCrowded b c.args.leaf) (g.P.Pages.told c.args.pages.now) b (c.in-Ok-None.ensures.crowded c.in-Ok-None.field-0-is) e in
    (c.in-Ok-put_page.at, 0, ap link_in signed ∙ c.fragment_value-in-Ok-put_page.ensures, inr crowded)

pub returns-then-number-old-clause-linked : goal.returns-then-number-old-clause-linked
returns-then-number-old-clause-linked g c d =
    let signed : to_z w64 (of_z w64 c.args.value) ≡ c.args.value = search rules in
    linked-row d (to_z w64 (of_z w64 c.args.value)) c.args.value (Number c.args.old) signed c.requires.link tt

pub returns-in-Ok-clause-linked : goal.returns-in-Ok-clause-linked
returns-in-Ok-clause-linked g c d =
    let signed : to_z w64 (of_z w64 c.fragment_value.result) ≡ c.fragment_value.result = search rules in
    linked-row d (to_z w64 (of_z w64 c.fragment_value.result)) c.fragment_value.result (Fragment c.in-Ok-Some.slot.page c.in-Ok-Some.slot.index) signed c.fragment_value.ensures tt

pub returns-in-Ok-put_page-clause-linked : goal.returns-in-Ok-put_page-clause-linked
returns-in-Ok-put_page-clause-linked g c d =
    let signed : to_z w64 (of_z w64 c.fragment_value-in-Ok-put_page.result) ≡ c.fragment_value-in-Ok-put_page.result = search rules in
    linked-row d (to_z w64 (of_z w64 c.fragment_value-in-Ok-put_page.result)) c.fragment_value-in-Ok-put_page.result (Fragment c.in-Ok-put_page.at 0) signed c.fragment_value-in-Ok-put_page.ensures tt
