use Rattle.std.proofs.Common.{◌≡◌, ◌≤◌, ◌++◌, [], ℕ, ℤ, List, Some, ap, sym, ◌∙◌, subst, rules, w64, to_z, of_z}
use Rattle.bfs_base.specs.Lists.{times, IsOnce}
use Rattle.bfs_pages.specs.Trees.{page_in, neighbours_in}
use Rattle.bfs_pages.proofs.OfKind.{if_some}
use Rattle.bfs_values.specs.declared.link.Link.TheVariants.{Chain}
use Rattle.bfs_values.specs.Values.{page_count, page_numbers, next_of, numbers_of_pages, in_order, values_in}
use Rattle.bfs_dups.proofs.Answered.{linked-numbers}
use Rattle.bfs_dups.proofs.Composed.{told-whole}
use Rattle.bfs_dups_remove.specs.Lessened.{without_number, IsLessened}
use Rattle.bfs_dups_remove.proofs.Lesser.{stored-row, alone-front, lone, second, without-first, means-also, lessened-some, dropped-row}
use Rattle.bfs_dups_remove.proofs.unlinking.leave_first.Goals as goal

pub returns-in-Ok-clause-lessened : goal.returns-in-Ok-clause-lessened
returns-in-Ok-clause-lessened g c b t front back key first e s link l r =
    let w = told-whole (g.P.Pages.told c.args.pages.now) (g.P.Pages.size c.args.pages.now) b (g.met.P.Pages.sized c.args.pages.now) (g.met.P.Pages.whole c.args.pages.now) e in
    let only = lone (page_in b c.args.found.at) c.args.number (subst (λ (p : List ℕ). page_count p ≡ 1) r c.requires.count) (subst (λ (p : List ℕ). 1 ≤ times c.args.number (page_numbers p)) r c.requires.there) in
    let end : next_of b c.args.found.at ≡ 0 = ap (λ (p : List ℕ). (neighbours_in p).1) (sym r) ∙ sym c.requires.behind ∙ c.if-found-eq0.true in
    let y = c.in-Ok.ensures.given b e in
    (y.0, y.1, dropped-row c.args.kind b y.0 t front key back c.args.value first c.args.found.at c.args.found.before c.args.number s link w l c.requires.before end only y.2)

pub returns-in-Err-clause-lessened : goal.returns-in-Err-clause-lessened
returns-in-Err-clause-lessened g c b t front back key first e s link l r = c.in-Err.ensures.spared b s.reached t s.free e s.tree

pub returns-in-Err-look_at-clause-lessened : goal.returns-in-Err-look_at-clause-lessened
returns-in-Err-look_at-clause-lessened g c b t front back key first e s link l r =
    let w = told-whole (g.P.Pages.told c.args.pages.now) (g.P.Pages.size c.args.pages.now) b (g.met.P.Pages.sized c.args.pages.now) (g.met.P.Pages.whole c.args.pages.now) e in
    let h = linked-numbers b c.args.value (Chain first) link (stored-row c.args.kind b t front key back c.args.value s) in
    let n = second b first c.args.found.at c.args.found.next l.back w h (alone-front _ c.args.found.at c.args.found.before l c.requires.before) (c.requires.behind ∙ ap (λ (p : List ℕ). (neighbours_in p).1) r) c.if-found-eq0.false in
    c.in-Err-look_at.ensures.spared b e n.good n.link

pub returns-in-Ok-pass_page-clause-lessened : goal.returns-in-Ok-pass_page-clause-lessened
returns-in-Ok-pass_page-clause-lessened g c b t front back key first e s link l r =
    let signed : to_z w64 (of_z w64 c.args.value) ≡ c.args.value = search rules in
    let w = told-whole (g.P.Pages.told c.args.pages.now) (g.P.Pages.size c.args.pages.now) b (g.met.P.Pages.sized c.args.pages.now) (g.met.P.Pages.whole c.args.pages.now) e in
    let h = linked-numbers b c.args.value (Chain first) link (stored-row c.args.kind b t front key back c.args.value s) in
    let only = lone (page_in b c.args.found.at) c.args.number (subst (λ (p : List ℕ). page_count p ≡ 1) r c.requires.count) (subst (λ (p : List ℕ). 1 ≤ times c.args.number (page_numbers p)) r c.requires.there) in
    let n = second b first c.args.found.at c.args.found.next l.back w h (alone-front _ c.args.found.at c.args.found.before l c.requires.before) (c.requires.behind ∙ ap (λ (p : List ℕ). (neighbours_in p).1) r) c.if-found-eq0.false in
    let q : c.look_at.new.page ≡ page_in b c.args.found.next = if_some (λ (b : List ℕ). c.look_at.new.page ≡ page_in b c.args.found.next) (g.P.Pages.told c.args.pages.now) b c.in-Ok-look_at.ensures.read e in
    let is : page_numbers c.take_numbers.new.page ≡ page_numbers (page_in b c.args.found.next) = c.take_numbers.ensures.numbers ∙ ap page_numbers q in
    let m = without-first b first c.args.found.at c.args.found.next c.args.number c.args.value n.back n.parts link h only in
    let x = c.in-Ok-pass_page.ensures.passed b t front back key c.args.value first [] n.back (c.in-Ok-look_at.ensures.told ∙ e) s link n.parts c.take_numbers.ensures.good q (subst (λ (ns : List ℕ). IsOnce (ns ++ numbers_of_pages b n.back)) (sym is) m.0) in
    let v = means-also c.args.kind b x.0 t front key back c.args.value (in_order (page_numbers c.take_numbers.new.page ++ numbers_of_pages b n.back)) (without_number c.args.number (values_in b c.args.value)) (ap (λ (ns : List ℕ). in_order (ns ++ numbers_of_pages b n.back)) is ∙ m.1) x.2 in
    let u = told-whole (g.P.Pages.told c.pass_page.new.pages) (g.P.Pages.size c.pass_page.new.pages) x.0 (g.met.P.Pages.sized c.pass_page.new.pages) (g.met.P.Pages.whole c.pass_page.new.pages) x.1 in (
      x.0,
      x.1,
      subst (λ (v : ℤ). IsLessened c.args.kind b x.0 t front key back (without_number c.args.number (values_in b c.args.value)) (Some v)) (sym signed) (lessened-some c.args.kind b x.0 t front key back (without_number c.args.number (values_in b c.args.value)) c.args.value u v),
    )

pub returns-in-Err-pass_page-clause-lessened : goal.returns-in-Err-pass_page-clause-lessened
returns-in-Err-pass_page-clause-lessened g c b t front back key first e s link l r =
    let w = told-whole (g.P.Pages.told c.args.pages.now) (g.P.Pages.size c.args.pages.now) b (g.met.P.Pages.sized c.args.pages.now) (g.met.P.Pages.whole c.args.pages.now) e in
    let h = linked-numbers b c.args.value (Chain first) link (stored-row c.args.kind b t front key back c.args.value s) in
    let only = lone (page_in b c.args.found.at) c.args.number (subst (λ (p : List ℕ). page_count p ≡ 1) r c.requires.count) (subst (λ (p : List ℕ). 1 ≤ times c.args.number (page_numbers p)) r c.requires.there) in
    let n = second b first c.args.found.at c.args.found.next l.back w h (alone-front _ c.args.found.at c.args.found.before l c.requires.before) (c.requires.behind ∙ ap (λ (p : List ℕ). (neighbours_in p).1) r) c.if-found-eq0.false in
    let q : c.look_at.new.page ≡ page_in b c.args.found.next = if_some (λ (b : List ℕ). c.look_at.new.page ≡ page_in b c.args.found.next) (g.P.Pages.told c.args.pages.now) b c.in-Ok-look_at.ensures.read e in
    let is : page_numbers c.take_numbers.new.page ≡ page_numbers (page_in b c.args.found.next) = c.take_numbers.ensures.numbers ∙ ap page_numbers q in
    let m = without-first b first c.args.found.at c.args.found.next c.args.number c.args.value n.back n.parts link h only in
    c.in-Err-pass_page.ensures.passed b t front back key c.args.value first [] n.back (c.in-Ok-look_at.ensures.told ∙ e) s link n.parts c.take_numbers.ensures.good q (subst (λ (ns : List ℕ). IsOnce (ns ++ numbers_of_pages b n.back)) (sym is) m.0)

pub returns-in-Ok-pass_page-clause-linked : goal.returns-in-Ok-pass_page-clause-linked
returns-in-Ok-pass_page-clause-linked g c b t front back key first e s link l r k =
    let w = told-whole (g.P.Pages.told c.args.pages.now) (g.P.Pages.size c.args.pages.now) b (g.met.P.Pages.sized c.args.pages.now) (g.met.P.Pages.whole c.args.pages.now) e in
    let h = linked-numbers b c.args.value (Chain first) link (stored-row c.args.kind b t front key back c.args.value s) in
    let only = lone (page_in b c.args.found.at) c.args.number (subst (λ (p : List ℕ). page_count p ≡ 1) r c.requires.count) (subst (λ (p : List ℕ). 1 ≤ times c.args.number (page_numbers p)) r c.requires.there) in
    let n = second b first c.args.found.at c.args.found.next l.back w h (alone-front _ c.args.found.at c.args.found.before l c.requires.before) (c.requires.behind ∙ ap (λ (p : List ℕ). (neighbours_in p).1) r) c.if-found-eq0.false in
    let q : c.look_at.new.page ≡ page_in b c.args.found.next = if_some (λ (b : List ℕ). c.look_at.new.page ≡ page_in b c.args.found.next) (g.P.Pages.told c.args.pages.now) b c.in-Ok-look_at.ensures.read e in
    let is : page_numbers c.take_numbers.new.page ≡ page_numbers (page_in b c.args.found.next) = c.take_numbers.ensures.numbers ∙ ap page_numbers q in
    let m = without-first b first c.args.found.at c.args.found.next c.args.number c.args.value n.back n.parts link h only in
    c.in-Ok-pass_page.ensures.linked b t front back key c.args.value first [] n.back (c.in-Ok-look_at.ensures.told ∙ e) s link n.parts c.take_numbers.ensures.good q (subst (λ (ns : List ℕ). IsOnce (ns ++ numbers_of_pages b n.back)) (sym is) m.0)
    (ap (λ (l : ℕ × ℕ). l.0) c.take_numbers.ensures.links ∙ ap (λ (p : List ℕ). (neighbours_in p).0) r) k
