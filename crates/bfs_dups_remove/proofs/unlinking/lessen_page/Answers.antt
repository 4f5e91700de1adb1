use Rattle.std.proofs.Common.{◌≡◌, ◌≤◌, ◌%◌, ℕ, ℤ, List, Some, ap, sym, ◌∙◌, subst, rules, w64, to_z, of_z}
use Rattle.bfs_base.specs.Lists.{times}
use Rattle.bfs_pages.specs.Trees.{page_in, neighbours_in}
use Rattle.bfs_values.specs.Values.{page_numbers, values_in}
use Rattle.bfs_dups.proofs.Composed.{told-whole, told-some}
use Rattle.bfs_dups_remove.specs.Lessened.{without_number, IsLessened}
use Rattle.bfs_dups_remove.specs.Shortened.{IsRenumbered}
use Rattle.bfs_dups_remove.proofs.Lesser.{narrowed, lessened-some}
use Rattle.bfs_values.specs.Chained.{IsLinked}
use Rattle.bfs_dups_remove.proofs.Rejoined.{renumbered-linked}
use Rattle.bfs_values.specs.declared.link.Link.TheVariants.{Chain}
use Rattle.bfs_dups_remove.proofs.unlinking.lessen_page.Goals as goal

pub returns-in-Ok-write_page-clause-lessened : goal.returns-in-Ok-write_page-clause-lessened
returns-in-Ok-write_page-clause-lessened g c b t front back key first e s link l r =
    let w = told-whole (g.P.Pages.told c.args.pages.now) (g.P.Pages.size c.args.pages.now) b (g.met.P.Pages.sized c.args.pages.now) (g.met.P.Pages.whole c.args.pages.now) e in
    let signed : to_z w64 (of_z w64 c.args.value) ≡ c.args.value = search rules in
    let x = c.in-Ok-write_page.ensures.made b e in
    let f : IsRenumbered b x.0 c.args.found.at (without_number c.args.number (page_numbers (page_in b c.args.found.at))) = record {
      page = c.narrow_page.new.page;
      set = x.2;
      good = c.narrow_page.ensures.good;
      next = ap (λ (l : ℕ × ℕ). l.1) c.narrow_page.ensures.links ∙ ap (λ (p : List ℕ). (neighbours_in p).1) r;
      numbers_are = c.narrow_page.ensures.numbers ∙ ap (λ (n : ℕ). without_number n (page_numbers c.args.page.now)) c.in-Ok.ensures.place.1 ∙ ap (λ (p : List ℕ). without_number c.args.number (page_numbers p)) r;
    } in
    let done = narrowed c.args.kind b x.0 t front key back c.args.value first c.args.found.at c.args.found.before c.args.number s link w l (subst (λ (p : List ℕ). 1 ≤ times c.args.number (page_numbers p)) r c.requires.there) f in (
      x.0,
      x.1,
      subst (λ (v : ℤ). IsLessened c.args.kind b x.0 t front key back (without_number c.args.number (values_in b c.args.value)) (Some v)) (sym signed)
          (lessened-some c.args.kind b x.0 t front key back (without_number c.args.number (values_in b c.args.value)) c.args.value (ap (λ n. n % 1024) x.2.size ∙ w) done),
    )

pub returns-in-Ok-write_page-clause-linked : goal.returns-in-Ok-write_page-clause-linked
returns-in-Ok-write_page-clause-linked g c b t front back key first e s link l r k =
    let w = told-whole (g.P.Pages.told c.args.pages.now) (g.P.Pages.size c.args.pages.now) b (g.met.P.Pages.sized c.args.pages.now) (g.met.P.Pages.whole c.args.pages.now) e in
    let x = c.in-Ok-write_page.ensures.made b e in
    let f : IsRenumbered b x.0 c.args.found.at (without_number c.args.number (page_numbers (page_in b c.args.found.at))) = record {
      page = c.narrow_page.new.page;
      set = x.2;
      good = c.narrow_page.ensures.good;
      next = ap (λ (l : ℕ × ℕ). l.1) c.narrow_page.ensures.links ∙ ap (λ (p : List ℕ). (neighbours_in p).1) r;
      numbers_are = c.narrow_page.ensures.numbers ∙ ap (λ (n : ℕ). without_number n (page_numbers c.args.page.now)) c.in-Ok.ensures.place.1 ∙ ap (λ (p : List ℕ). without_number c.args.number (page_numbers p)) r;
    } in
    told-some (λ (d : List ℕ). IsLinked d (Chain first)) (g.P.Pages.told c.write_page.new.pages) x.0 x.1
    (renumbered-linked c.args.kind b x.0 t front key back c.args.value first c.args.found.at (without_number c.args.number (page_numbers (page_in b c.args.found.at))) s link w f (ap (λ (l : ℕ × ℕ). l.0) c.narrow_page.ensures.links ∙ ap (λ (p : List ℕ). (neighbours_in p).0) r) k)
