use Rattle.std.proofs.Common.{◌≡◌, ◌<◌, ◌^◌, ℕ, ℤ, List, IfSome, inl, inr, refl, ap, sym, ◌∙◌, subst, rules, w64, to_z, of_z}
use Rattle.bfs_pages.specs.Answers.{IsChild}
use Rattle.bfs_pages.specs.Trees.{page_in}
use Rattle.bfs_pages.proofs.OfKind.{if_some}
use Rattle.bfs_values.specs.Links.{link_in}
use Rattle.bfs_values.specs.Values.{fragment_count, page_numbers, values_in}
use Rattle.bfs_values.specs.Named.{IsNamedIn, IsCrowded}
use Rattle.bfs_values.specs.Stored.{IsRevalued}
use Rattle.bfs_dups.specs.Written.{IsLone}
use Rattle.bfs_dups.specs.declared.vacant.Slot.{Slot}
use Rattle.bfs_dups.proofs.Composed.{told-whole}
use Rattle.bfs_dups.proofs.Pages.{other-count}
use Rattle.bfs_dups_remove.proofs.Settled.{turned-row}
use Rattle.bfs_dups_remove.proofs.settling.settle_few.Goals as goal

pub returns-in-Ok-clause-settled : goal.returns-in-Ok-clause-settled
returns-in-Ok-clause-settled g c b t front back key value e s link is rows there r =
    let new : to_z w64 (of_z w64 c.in-Ok.new) ≡ c.in-Ok.new = search rules in
    let named = if_some (λ (b : List ℕ). IsNamedIn b c.args.leaf c.in-Ok-Some.slot.page) (g.P.Pages.told c.args.pages.now) b
    (if_some (λ (slot : Slot). IfSome (g.P.Pages.told c.args.pages.now) (λ b. IsNamedIn b c.args.leaf slot.page)) c.in-Ok-Some.field-0 c.in-Ok-Some.slot c.in-Ok-Some.ensures.named c.in-Ok-Some.field-0-is) e in
    let place = if_some (λ (slot : Slot). IsChild (g.P.Pages.size c.args.pages.now) slot.page × (slot.page < 2 ^ 62) × (slot.index < 16) × (fragment_count c.find_vacant.new.page slot.index ≡ 0) × IfSome (g.P.Pages.told c.args.pages.now) (λ b. c.find_vacant.new.page ≡ page_in b slot.page)) c.in-Ok-Some.field-0 c.in-Ok-Some.slot c.in-Ok-Some.ensures.place c.in-Ok-Some.field-0-is in
    let q : c.find_vacant.new.page ≡ page_in b c.in-Ok-Some.slot.page = if_some (λ (b : List ℕ). c.find_vacant.new.page ≡ page_in b c.in-Ok-Some.slot.page) (g.P.Pages.told c.args.pages.now) b place.4 e in
    let x = c.in-Ok.ensures.moved b t front back key value c.args.leaf (c.in-Ok-Some.ensures.told ∙ e) s link is rows there named r q in
    (x.0, x.1, subst (λ (v : ℤ). IsRevalued c.args.kind b x.0 t front key back v (values_in b value)) (sym new) x.2)

pub returns-in-Err-move_to_slot-clause-settled : goal.returns-in-Err-move_to_slot-clause-settled
returns-in-Err-move_to_slot-clause-settled g c b t front back key value e s link is rows there r =
    let named = if_some (λ (b : List ℕ). IsNamedIn b c.args.leaf c.in-Ok-Some.slot.page) (g.P.Pages.told c.args.pages.now) b
    (if_some (λ (slot : Slot). IfSome (g.P.Pages.told c.args.pages.now) (λ b. IsNamedIn b c.args.leaf slot.page)) c.in-Ok-Some.field-0 c.in-Ok-Some.slot c.in-Ok-Some.ensures.named c.in-Ok-Some.field-0-is) e in
    let place = if_some (λ (slot : Slot). IsChild (g.P.Pages.size c.args.pages.now) slot.page × (slot.page < 2 ^ 62) × (slot.index < 16) × (fragment_count c.find_vacant.new.page slot.index ≡ 0) × IfSome (g.P.Pages.told c.args.pages.now) (λ b. c.find_vacant.new.page ≡ page_in b slot.page)) c.in-Ok-Some.field-0 c.in-Ok-Some.slot c.in-Ok-Some.ensures.place c.in-Ok-Some.field-0-is in
    let q : c.find_vacant.new.page ≡ page_in b c.in-Ok-Some.slot.page = if_some (λ (b : List ℕ). c.find_vacant.new.page ≡ page_in b c.in-Ok-Some.slot.page) (g.P.Pages.told c.args.pages.now) b place.4 e in
    c.in-Err-move_to_slot.ensures.moved b t front back key value c.args.leaf (c.in-Ok-Some.ensures.told ∙ e) s link is rows there named r q

pub returns-in-Ok-write_page-clause-settled : goal.returns-in-Ok-write_page-clause-settled
returns-in-Ok-write_page-clause-settled g c b t front back key value e s link is rows there r =
    let w = told-whole (g.P.Pages.told c.args.pages.now) (g.P.Pages.size c.args.pages.now) b (g.met.P.Pages.sized c.args.pages.now) (g.met.P.Pages.whole c.args.pages.now) e in
    let signed : to_z w64 (of_z w64 c.fragment_value.result) ≡ c.fragment_value.result = search rules in
    let x = c.in-Ok-write_page.ensures.made b (c.in-Ok-None.ensures.told ∙ e) in
    let lone : IsLone c.copy_list.new.page 0 (page_numbers (page_in b c.args.first)) = record {
      good = c.copy_list.ensures.good;
      numbers_are = c.copy_list.ensures.numbers ∙ ap page_numbers r;
      free = λ j s n. other-count c.free_all.new.page c.copy_list.new.page 0 j c.copy_list.ensures.others n ∙ c.free_all.ensures.free j s;
    } in
    (x.0, x.1, turned-row c.args.kind b x.0 t front key back value (to_z w64 (of_z w64 c.fragment_value.result)) c.args.first c.copy_list.new.page s link (ap link_in signed ∙ c.fragment_value.ensures) w is x.2 lone)

pub returns-in-Err-clause-settled : goal.returns-in-Err-clause-settled
returns-in-Err-clause-settled g c b t front back key value e s link is rows there r = c.in-Err.ensures.spared b s.reached t s.free e s.tree there

pub returns-in-Ok-clause-place : goal.returns-in-Ok-clause-place
returns-in-Ok-clause-place g c b e =
    let new : to_z w64 (of_z w64 c.in-Ok.new) ≡ c.in-Ok.new = search rules in
    let named = if_some (λ (b : List ℕ). IsNamedIn b c.args.leaf c.in-Ok-Some.slot.page) (g.P.Pages.told c.args.pages.now) b
    (if_some (λ (slot : Slot). IfSome (g.P.Pages.told c.args.pages.now) (λ b. IsNamedIn b c.args.leaf slot.page)) c.in-Ok-Some.field-0 c.in-Ok-Some.slot c.in-Ok-Some.ensures.named c.in-Ok-Some.field-0-is) e in
    (c.in-Ok-Some.slot.page, c.in-Ok-Some.slot.index, ap link_in new ∙ c.in-Ok.ensures.place, inl named)

pub returns-in-Ok-write_page-clause-place : goal.returns-in-Ok-write_page-clause-place
returns-in-Ok-write_page-clause-place g c b e =
    let signed : to_z w64 (of_z w64 c.fragment_value.result) ≡ c.fragment_value.result = search rules in
    let crowded = if_some (λ (b : List ℕ). IsCrowded b c.args.leaf) (g.P.Pages.told c.args.pages.now) b (c.in-Ok-None.ensures.crowded c.in-Ok-None.field-0-is) e in
    (c.args.first, 0, ap link_in signed ∙ c.fragment_value.ensures, inr (refl, crowded))
