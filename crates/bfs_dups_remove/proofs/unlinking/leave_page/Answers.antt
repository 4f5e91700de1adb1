use Rattle.std.proofs.Common.{◌≡◌, ◌≤◌, ◌++◌, ℕ, ℤ, List, Some, ap, sym, ◌∙◌, subst, rules, w64, to_z, of_z}
use Rattle.bfs_base.specs.Lists.{times, IsOnce}
use Rattle.bfs_pages.specs.Trees.{page_in, neighbours_in}
use Rattle.bfs_pages.proofs.OfKind.{if_some}
use Rattle.bfs_values.specs.declared.link.Link.TheVariants.{Chain}
use Rattle.bfs_values.specs.Values.{IsDuplicates, page_count, page_numbers, numbers_of_pages, in_order, values_in}
use Rattle.bfs_dups.proofs.Answered.{linked-numbers}
use Rattle.bfs_dups.proofs.Composed.{told-whole}
use Rattle.bfs_dups_remove.specs.Lessened.{without_number, IsLessened}
use Rattle.bfs_dups_remove.proofs.Lesser.{stored-row, ahead, ahead-in, lone, without-page, good-in, means-also, lessened-some}
use Rattle.bfs_dups_remove.proofs.unlinking.leave_page.Goals as goal

pub returns-in-Ok-pass_page-clause-lessened : goal.returns-in-Ok-pass_page-clause-lessened
returns-in-Ok-pass_page-clause-lessened g c b t front back key first e s link l r =
    let signed : to_z w64 (of_z w64 c.args.value) ≡ c.args.value = search rules in
    let h = linked-numbers b c.args.value (Chain first) link (stored-row c.args.kind b t front key back c.args.value s) in
    let a = ahead b first c.args.found.at c.args.found.before l c.requires.before.0 in
    let q : c.read_page.new.page ≡ page_in b c.args.found.before = if_some (λ (b : List ℕ). c.read_page.new.page ≡ page_in b c.args.found.before) (g.P.Pages.told c.args.pages.now) b c.in-Ok.ensures.read e in
    let only = lone (page_in b c.args.found.at) c.args.number (subst (λ (p : List ℕ). page_count p ≡ 1) r c.requires.count) (subst (λ (p : List ℕ). 1 ≤ times c.args.number (page_numbers p)) r c.requires.there) in
    let n = without-page b first c.args.found.at c.args.found.before c.args.number c.args.value a link h only in
    let good : IsDuplicates c.read_page.new.page = subst (λ (p : List ℕ). IsDuplicates p) (sym q) (good-in b first c.args.found.before h (ahead-in b first c.args.found.at c.args.found.before a)) in
    let once = subst (λ (p : List ℕ). IsOnce (numbers_of_pages b a.front ++ (page_numbers p ++ numbers_of_pages b a.back))) (sym q) n.0 in
    let x = c.in-Ok-pass_page.ensures.passed b t front back key c.args.value first a.front a.back (c.in-Ok.ensures.told ∙ e) s link a.parts good r once in
    let v = means-also c.args.kind b x.0 t front key back c.args.value (in_order (numbers_of_pages b a.front ++ (page_numbers c.read_page.new.page ++ numbers_of_pages b a.back))) (without_number c.args.number (values_in b c.args.value))
    (ap (λ (p : List ℕ). in_order (numbers_of_pages b a.front ++ (page_numbers p ++ numbers_of_pages b a.back))) q ∙ n.1) x.2 in
    let w = told-whole (g.P.Pages.told c.pass_page.new.pages) (g.P.Pages.size c.pass_page.new.pages) x.0 (g.met.P.Pages.sized c.pass_page.new.pages) (g.met.P.Pages.whole c.pass_page.new.pages) x.1 in (
      x.0,
      x.1,
      subst (λ (v : ℤ). IsLessened c.args.kind b x.0 t front key back (without_number c.args.number (values_in b c.args.value)) (Some v)) (sym signed) (lessened-some c.args.kind b x.0 t front key back (without_number c.args.number (values_in b c.args.value)) c.args.value w v),
    )

pub returns-in-Err-pass_page-clause-lessened : goal.returns-in-Err-pass_page-clause-lessened
returns-in-Err-pass_page-clause-lessened g c b t front back key first e s link l r =
    let h = linked-numbers b c.args.value (Chain first) link (stored-row c.args.kind b t front key back c.args.value s) in
    let a = ahead b first c.args.found.at c.args.found.before l c.requires.before.0 in
    let q : c.read_page.new.page ≡ page_in b c.args.found.before = if_some (λ (b : List ℕ). c.read_page.new.page ≡ page_in b c.args.found.before) (g.P.Pages.told c.args.pages.now) b c.in-Ok.ensures.read e in
    let only = lone (page_in b c.args.found.at) c.args.number (subst (λ (p : List ℕ). page_count p ≡ 1) r c.requires.count) (subst (λ (p : List ℕ). 1 ≤ times c.args.number (page_numbers p)) r c.requires.there) in
    let n = without-page b first c.args.found.at c.args.found.before c.args.number c.args.value a link h only in
    let good : IsDuplicates c.read_page.new.page = subst (λ (p : List ℕ). IsDuplicates p) (sym q) (good-in b first c.args.found.before h (ahead-in b first c.args.found.at c.args.found.before a)) in
    let once = subst (λ (p : List ℕ). IsOnce (numbers_of_pages b a.front ++ (page_numbers p ++ numbers_of_pages b a.back))) (sym q) n.0 in
    c.in-Err-pass_page.ensures.passed b t front back key c.args.value first a.front a.back (c.in-Ok.ensures.told ∙ e) s link a.parts good r once

pub returns-in-Ok-pass_page-clause-linked : goal.returns-in-Ok-pass_page-clause-linked
returns-in-Ok-pass_page-clause-linked g c b t front back key first e s link l r k =
    let h = linked-numbers b c.args.value (Chain first) link (stored-row c.args.kind b t front key back c.args.value s) in
    let a = ahead b first c.args.found.at c.args.found.before l c.requires.before.0 in
    let q : c.read_page.new.page ≡ page_in b c.args.found.before = if_some (λ (b : List ℕ). c.read_page.new.page ≡ page_in b c.args.found.before) (g.P.Pages.told c.args.pages.now) b c.in-Ok.ensures.read e in
    let only = lone (page_in b c.args.found.at) c.args.number (subst (λ (p : List ℕ). page_count p ≡ 1) r c.requires.count) (subst (λ (p : List ℕ). 1 ≤ times c.args.number (page_numbers p)) r c.requires.there) in
    let n = without-page b first c.args.found.at c.args.found.before c.args.number c.args.value a link h only in
    let good : IsDuplicates c.read_page.new.page = subst (λ (p : List ℕ). IsDuplicates p) (sym q) (good-in b first c.args.found.before h (ahead-in b first c.args.found.at c.args.found.before a)) in
    let once = subst (λ (p : List ℕ). IsOnce (numbers_of_pages b a.front ++ (page_numbers p ++ numbers_of_pages b a.back))) (sym q) n.0 in
    c.in-Ok-pass_page.ensures.linked b t front back key c.args.value first a.front a.back (c.in-Ok.ensures.told ∙ e) s link a.parts good r once (ap (λ (p : List ℕ). (neighbours_in p).0) q) k
