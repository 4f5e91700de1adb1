use Rattle.std.proofs.Common.{◌≡◌, ℕ, length, ap, sym, ◌∙◌, rules, w64, to_z, of_z}
use Rattle.bfs_pages.specs.Answers.{IsLink}
use Rattle.bfs_pages.specs.Trees.{page_in, place_of, neighbours_in}
use Rattle.bfs_pages.proofs.Reading.{not_true}
use Rattle.bfs_values.specs.Values.{IsDuplicates, next_of, EndsAfter}
use Rattle.bfs_values.proofs.Lasting.{none-cut, read-page, link-there}
use Rattle.bfs_values.proofs.chain.add_page.Goals as goal

pub returns-then-not-is_link-clause-spared : goal.returns-then-not-is_link-clause-spared
returns-then-not-is_link-clause-spared g c b e d l =
    let r = read-page (g.P.Pages.told c.args.pages.now) (g.P.Pages.size c.args.pages.now) c.args.at c.get.new.into (g.met.P.Pages.sized c.args.pages.now) c.in-Ok.ensures.page c.requires.at b e in
    let signed : to_z w64 (of_z w64 c.right_link.result) ≡ c.right_link.result = search rules in
    let next : c.place-next.result ≡ (neighbours_in c.get.new.into).1 = c.place-next.ensures ∙ ap place_of (signed ∙ c.right_link.ensures) in
    not_true c.is_link.result (c.is_link.ensures.1 (link-there b c.get.new.into c.args.at c.length-size.result c.place-next.result (r.0 ∙ sym c.length-size.ensures) r.1 next l)) c.if-not-is_link.true

pub returns-then-not-is_link-clause-refused : goal.returns-then-not-is_link-clause-refused
returns-then-not-is_link-clause-refused g c =
    none-cut (λ bytes. IsDuplicates (page_in bytes c.args.at) × IsLink (length bytes) (next_of bytes c.args.at) × ((x : ℕ) × EndsAfter bytes x c.args.at) → ⊥) (g.P.Pages.told c.get.new.self)
    (λ b e w.
    let r = read-page (g.P.Pages.told c.args.pages.now) (g.P.Pages.size c.args.pages.now) c.args.at c.get.new.into (g.met.P.Pages.sized c.args.pages.now) c.in-Ok.ensures.page c.requires.at b (sym c.in-Ok.ensures.told ∙ e) in
    let signed : to_z w64 (of_z w64 c.right_link.result) ≡ c.right_link.result = search rules in
    let next : c.place-next.result ≡ (neighbours_in c.get.new.into).1 = c.place-next.ensures ∙ ap place_of (signed ∙ c.right_link.ensures) in
    not_true c.is_link.result (c.is_link.ensures.1 (link-there b c.get.new.into c.args.at c.length-size.result c.place-next.result (r.0 ∙ sym c.length-size.ensures) r.1 next w.1)) c.if-not-is_link.true)

pub returns-in-Ok-add_numbers-clause-is_next : goal.returns-in-Ok-add_numbers-clause-is_next
returns-in-Ok-add_numbers-clause-is_next g c =
    none-cut (λ b. c.place-next.result ≡ next_of b c.args.at) (g.P.Pages.told c.args.pages.now)
    (λ b e.
    let r = read-page (g.P.Pages.told c.args.pages.now) (g.P.Pages.size c.args.pages.now) c.args.at c.get.new.into (g.met.P.Pages.sized c.args.pages.now) c.in-Ok.ensures.page c.requires.at b e in
    let signed : to_z w64 (of_z w64 c.right_link.result) ≡ c.right_link.result = search rules in
    c.place-next.ensures ∙ ap place_of (signed ∙ c.right_link.ensures) ∙ ap (λ z. (neighbours_in z).1) r.1)
