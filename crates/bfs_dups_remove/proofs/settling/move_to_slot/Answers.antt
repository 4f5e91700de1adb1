use Rattle.std.proofs.Common.{◌≡◌, ◌+◌, ◌*◌, ℕ, List, length, ap, sym, ◌∙◌, subst, rules, w64, to_z, of_z}
use Rattle.bfs_pages.specs.Answers.{IsChild}
use Rattle.bfs_remove.proofs.Giving.{told-size}
use Rattle.bfs_values.specs.Links.{link_in}
use Rattle.bfs_values.specs.Values.{fragment_count, page_numbers}
use Rattle.bfs_dups.specs.Slots.{SameBut}
use Rattle.bfs_dups.proofs.Composed.{told-whole}
use Rattle.bfs_dups_remove.proofs.Settled.{moved-row}
use Rattle.bfs_dups_remove.proofs.settling.move_to_slot.Goals as goal

pub returns-in-Err-clause-moved : goal.returns-in-Err-clause-moved
returns-in-Err-clause-moved g c b t front back key value leaf e s link is rows there named r q = c.in-Err.ensures.spared b s.reached t s.free e s.tree

pub returns-in-Ok-write_page-clause-moved : goal.returns-in-Ok-write_page-clause-moved
returns-in-Ok-write_page-clause-moved g c b t front back key value leaf e s link is rows there named r q =
    let w = told-whole (g.P.Pages.told c.args.pages.now) (g.P.Pages.size c.args.pages.now) b (g.met.P.Pages.sized c.args.pages.now) (g.met.P.Pages.whole c.args.pages.now) e in
    let size : length b ≡ g.P.Pages.size c.args.pages.now = told-size (g.P.Pages.told c.args.pages.now) (g.P.Pages.size c.args.pages.now) b (g.met.P.Pages.sized c.args.pages.now) e in
    let signed : to_z w64 (of_z w64 c.fragment_value.result) ≡ c.fragment_value.result = search rules in
    let x = c.in-Ok.ensures.given b e in
    let y = c.in-Ok-write_page.ensures.made x.0 x.1 in (
      y.0,
      y.1,
      moved-row c.args.kind b x.0 y.0 t front key back value (to_z w64 (of_z w64 c.fragment_value.result)) c.args.first leaf c.args.slot.page c.args.slot.index c.copy_list.new.page s link (ap link_in signed ∙ c.fragment_value.ensures) w is rows there named
          (subst (λ (m : ℕ). IsChild m c.args.slot.page) (sym size) c.requires.slot) x.2 y.2 (subst (λ (p : List ℕ). SameBut p c.copy_list.new.page (64 * c.args.slot.index) (64 * c.args.slot.index + 64)) q c.copy_list.ensures.others)
          (ap (λ (p : List ℕ). fragment_count p c.args.slot.index) (sym q) ∙ c.requires.free) c.copy_list.ensures.good (c.copy_list.ensures.numbers ∙ ap page_numbers r),
    )
