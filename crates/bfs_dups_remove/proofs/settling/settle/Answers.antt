use Rattle.std.proofs.Common.{◌≡◌, ◌⊎◌, ◌≤◌, ℕ, ℤ, List, refl, ap, sym, ◌∙◌, subst, rules, w64, to_z, of_z}
use Rattle.bfs_pages.specs.Trees.{page_in, neighbours_in}
use Rattle.bfs_pages.proofs.OfKind.{if_some}
use Rattle.bfs_values.specs.declared.link.Link.TheVariants.{Chain, Number, Fragment}
use Rattle.bfs_values.specs.Links.{link_in}
use Rattle.bfs_values.specs.Values.{page_count, page_numbers, next_of, values_in}
use Rattle.bfs_values.specs.Formed.{IsFormed}
use Rattle.bfs_values.specs.Named.{IsNamedIn, IsCrowded}
use Rattle.bfs_values.specs.Stored.{IsRevalued}
use Rattle.bfs_dups.proofs.Answered.{linked-numbers}
use Rattle.bfs_dups.proofs.Composed.{told-whole, page-of, told-some, some-any, linked-row}
use Rattle.bfs_dups_remove.proofs.Folded.{the-first, unchanged-row}
use Rattle.bfs_dups_remove.proofs.Forms.{formed-pages, formed-full, formed-number, few-numbers, few-count}
use Rattle.bfs_dups_remove.proofs.Lesser.{stored-row, second, only-page}
use Rattle.bfs_dups_remove.proofs.Settled.{lone-means, plain-row}
use Rattle.bfs_values.specs.Chained.{IsLinked}
use Rattle.bfs_dups_remove.proofs.settling.settle.Goals as goal

pub returns-in-Err-clause-settled : goal.returns-in-Err-clause-settled
returns-in-Err-clause-settled g c b t front back key e s rows there =
    let w = told-whole (g.P.Pages.told c.args.pages.now) (g.P.Pages.size c.args.pages.now) b (g.met.P.Pages.sized c.args.pages.now) (g.met.P.Pages.whole c.args.pages.now) e in
    let f = the-first b c.args.first w (linked-numbers b c.args.value (Chain c.args.first) c.requires.link (stored-row c.args.kind b t front key back c.args.value s)) in
    c.in-Err.ensures.spared b e f.good f.link

pub returns-then-seen-ne0-clause-settled : goal.returns-then-seen-ne0-clause-settled
returns-then-seen-ne0-clause-settled g c b t front back key e s rows there =
    let signed : to_z w64 (of_z w64 c.args.value) ≡ c.args.value = search rules in
    (b, c.in-Ok.ensures.told ∙ e, subst (λ (v : ℤ). IsRevalued c.args.kind b b t front key back v (values_in b c.args.value)) (sym signed) (unchanged-row c.args.kind b t front key back c.args.value s))

pub returns-then-seen-gt7-clause-settled : goal.returns-then-seen-gt7-clause-settled
returns-then-seen-gt7-clause-settled g c b t front back key e s rows there =
    let signed : to_z w64 (of_z w64 c.args.value) ≡ c.args.value = search rules in
    (b, c.in-Ok.ensures.told ∙ e, subst (λ (v : ℤ). IsRevalued c.args.kind b b t front key back v (values_in b c.args.value)) (sym signed) (unchanged-row c.args.kind b t front key back c.args.value s))

pub returns-in-Ok-free_page-clause-settled : goal.returns-in-Ok-free_page-clause-settled
returns-in-Ok-free_page-clause-settled g c b t front back key e s rows there =
    let w = told-whole (g.P.Pages.told c.args.pages.now) (g.P.Pages.size c.args.pages.now) b (g.met.P.Pages.sized c.args.pages.now) (g.met.P.Pages.whole c.args.pages.now) e in
    let h = linked-numbers b c.args.value (Chain c.args.first) c.requires.link (stored-row c.args.kind b t front key back c.args.value s) in
    let r : c.look_at.new.page ≡ page_in b c.args.first = if_some (λ (b : List ℕ). c.look_at.new.page ≡ page_in b c.args.first) (g.P.Pages.told c.args.pages.now) b c.in-Ok.ensures.read e in
    let end : next_of b c.args.first ≡ 0 = ap (λ (p : List ℕ). (neighbours_in p).1) (sym r) ∙ sym c.in-Ok.ensures.next ∙ c.if-seen-ne0.false in
    let signed : to_z w64 (of_z w64 c.number_value.result) ≡ c.number_value.result = search rules in
    let x = c.in-Ok-free_page.ensures.given b (c.in-Ok.ensures.told ∙ e) in (
      x.0,
      x.1,
      plain-row c.args.kind b x.0 t front key back c.args.value (to_z w64 (of_z w64 c.number_value.result)) c.args.first c.in-Some.plain s c.requires.link (ap link_in signed ∙ c.number_value.ensures) w (only-page b c.args.first w h end) x.2
          (ap page_numbers (sym r) ∙ c.in-Some.ensures.only),
    )

pub returns-in-Err-free_page-clause-settled : goal.returns-in-Err-free_page-clause-settled
returns-in-Err-free_page-clause-settled g c b t front back key e s rows there = c.in-Err-free_page.ensures.spared b s.reached t s.free (c.in-Ok.ensures.told ∙ e) s.tree

pub returns-in-Ok-settle_few-clause-settled : goal.returns-in-Ok-settle_few-clause-settled
returns-in-Ok-settle_few-clause-settled g c b t front back key e s rows there =
    let w = told-whole (g.P.Pages.told c.args.pages.now) (g.P.Pages.size c.args.pages.now) b (g.met.P.Pages.sized c.args.pages.now) (g.met.P.Pages.whole c.args.pages.now) e in
    let h = linked-numbers b c.args.value (Chain c.args.first) c.requires.link (stored-row c.args.kind b t front key back c.args.value s) in
    let r : c.look_at.new.page ≡ page_in b c.args.first = if_some (λ (b : List ℕ). c.look_at.new.page ≡ page_in b c.args.first) (g.P.Pages.told c.args.pages.now) b c.in-Ok.ensures.read e in
    let end : next_of b c.args.first ≡ 0 = ap (λ (p : List ℕ). (neighbours_in p).1) (sym r) ∙ sym c.in-Ok.ensures.next ∙ c.if-seen-ne0.false in
    let new : to_z w64 (of_z w64 c.in-Ok-settle_few.new) ≡ c.in-Ok-settle_few.new = search rules in
    let x = c.in-Ok-settle_few.ensures.settled b t front back key c.args.value (c.in-Ok.ensures.told ∙ e) s c.requires.link (only-page b c.args.first w h end) rows there r in
    (x.0, x.1, subst (λ (v : ℤ). IsRevalued c.args.kind b x.0 t front key back v (values_in b c.args.value)) (sym new) x.2)

pub returns-in-Err-settle_few-clause-settled : goal.returns-in-Err-settle_few-clause-settled
returns-in-Err-settle_few-clause-settled g c b t front back key e s rows there =
    let w = told-whole (g.P.Pages.told c.args.pages.now) (g.P.Pages.size c.args.pages.now) b (g.met.P.Pages.sized c.args.pages.now) (g.met.P.Pages.whole c.args.pages.now) e in
    let h = linked-numbers b c.args.value (Chain c.args.first) c.requires.link (stored-row c.args.kind b t front key back c.args.value s) in
    let r : c.look_at.new.page ≡ page_in b c.args.first = if_some (λ (b : List ℕ). c.look_at.new.page ≡ page_in b c.args.first) (g.P.Pages.told c.args.pages.now) b c.in-Ok.ensures.read e in
    let end : next_of b c.args.first ≡ 0 = ap (λ (p : List ℕ). (neighbours_in p).1) (sym r) ∙ sym c.in-Ok.ensures.next ∙ c.if-seen-ne0.false in
    c.in-Err-settle_few.ensures.settled b t front back key c.args.value (c.in-Ok.ensures.told ∙ e) s c.requires.link (only-page b c.args.first w h end) rows there r

pub returns-then-seen-ne0-clause-formed : goal.returns-then-seen-ne0-clause-formed
returns-then-seen-ne0-clause-formed g c b e h folded =
    let w = told-whole (g.P.Pages.told c.args.pages.now) (g.P.Pages.size c.args.pages.now) b (g.met.P.Pages.sized c.args.pages.now) (g.met.P.Pages.whole c.args.pages.now) e in
    let signed : to_z w64 (of_z w64 c.args.value) ≡ c.args.value = search rules in
    let m = linked-numbers b c.args.value (Chain c.args.first) c.requires.link h in
    let f = the-first b c.args.first w m in
    let r : c.look_at.new.page ≡ page_in b c.args.first = if_some (λ (b : List ℕ). c.look_at.new.page ≡ page_in b c.args.first) (g.P.Pages.told c.args.pages.now) b c.in-Ok.ensures.read e in
    let n = second b c.args.first c.args.first c.in-Ok.seen.next f.back w m f.parts (c.in-Ok.ensures.next ∙ ap (λ (p : List ℕ). (neighbours_in p).1) r) c.if-seen-ne0.true in
    formed-pages b c.args.first c.in-Ok.seen.next c.args.value (to_z w64 (of_z w64 c.args.value)) c.requires.link signed n folded

pub returns-then-seen-gt7-clause-formed : goal.returns-then-seen-gt7-clause-formed
returns-then-seen-gt7-clause-formed g c b e h folded =
    let w = told-whole (g.P.Pages.told c.args.pages.now) (g.P.Pages.size c.args.pages.now) b (g.met.P.Pages.sized c.args.pages.now) (g.met.P.Pages.whole c.args.pages.now) e in
    let signed : to_z w64 (of_z w64 c.args.value) ≡ c.args.value = search rules in
    let m = linked-numbers b c.args.value (Chain c.args.first) c.requires.link h in
    let r : c.look_at.new.page ≡ page_in b c.args.first = if_some (λ (b : List ℕ). c.look_at.new.page ≡ page_in b c.args.first) (g.P.Pages.told c.args.pages.now) b c.in-Ok.ensures.read e in
    let end : next_of b c.args.first ≡ 0 = ap (λ (p : List ℕ). (neighbours_in p).1) (sym r) ∙ sym c.in-Ok.ensures.next ∙ c.if-seen-ne0.false in
    formed-full b c.args.first c.in-Ok.seen.count c.args.value (to_z w64 (of_z w64 c.args.value)) c.requires.link signed m (only-page b c.args.first w m end) (c.in-Ok.ensures.count ∙ ap page_count r) c.if-seen-gt7.true

pub returns-in-Ok-free_page-clause-formed : goal.returns-in-Ok-free_page-clause-formed
returns-in-Ok-free_page-clause-formed g c b e h folded =
    let w = told-whole (g.P.Pages.told c.args.pages.now) (g.P.Pages.size c.args.pages.now) b (g.met.P.Pages.sized c.args.pages.now) (g.met.P.Pages.whole c.args.pages.now) e in
    let signed : to_z w64 (of_z w64 c.number_value.result) ≡ c.number_value.result = search rules in
    let m = linked-numbers b c.args.value (Chain c.args.first) c.requires.link h in
    let r : c.look_at.new.page ≡ page_in b c.args.first = if_some (λ (b : List ℕ). c.look_at.new.page ≡ page_in b c.args.first) (g.P.Pages.told c.args.pages.now) b c.in-Ok.ensures.read e in
    let end : next_of b c.args.first ≡ 0 = ap (λ (p : List ℕ). (neighbours_in p).1) (sym r) ∙ sym c.in-Ok.ensures.next ∙ c.if-seen-ne0.false in
    formed-number (to_z w64 (of_z w64 c.number_value.result)) c.in-Some.plain (values_in b c.args.value) (ap link_in signed ∙ c.number_value.ensures)
    (sym (lone-means b c.args.first c.args.value c.requires.link m (only-page b c.args.first w m end)) ∙ ap page_numbers (sym r) ∙ c.in-Some.ensures.only)

pub returns-in-Ok-settle_few-clause-formed : goal.returns-in-Ok-settle_few-clause-formed
returns-in-Ok-settle_few-clause-formed g c b e h folded =
    let w = told-whole (g.P.Pages.told c.args.pages.now) (g.P.Pages.size c.args.pages.now) b (g.met.P.Pages.sized c.args.pages.now) (g.met.P.Pages.whole c.args.pages.now) e in
    let new : to_z w64 (of_z w64 c.in-Ok-settle_few.new) ≡ c.in-Ok-settle_few.new = search rules in
    let m = linked-numbers b c.args.value (Chain c.args.first) c.requires.link h in
    let r : c.look_at.new.page ≡ page_in b c.args.first = if_some (λ (b : List ℕ). c.look_at.new.page ≡ page_in b c.args.first) (g.P.Pages.told c.args.pages.now) b c.in-Ok.ensures.read e in
    let end : next_of b c.args.first ≡ 0 = ap (λ (p : List ℕ). (neighbours_in p).1) (sym r) ∙ sym c.in-Ok.ensures.next ∙ c.if-seen-ne0.false in
    let means : page_numbers c.look_at.new.page ≡ values_in b c.args.value = ap page_numbers r ∙ lone-means b c.args.first c.args.value c.requires.link m (only-page b c.args.first w m end) in
    let fits : page_count c.look_at.new.page ≤ 7 = few-count c.in-Ok.seen.count (page_count c.look_at.new.page) c.in-Ok.ensures.count c.if-seen-gt7.false in
    let few = few-numbers c.look_at.new.page 24 (page_count c.look_at.new.page) c.in-Ok.ensures.good.some fits (c.in-None.ensures.none refl) in
    subst (λ (v : ℤ). IsFormed (link_in v) (values_in b c.args.value)) (sym new) (subst (λ (ns : List ℕ). IsFormed (link_in c.in-Ok-settle_few.new) ns) means (c.in-Ok-settle_few.ensures.formed few))

pub returns-in-Ok-settle_few-clause-place : goal.returns-in-Ok-settle_few-clause-place
returns-in-Ok-settle_few-clause-place g c b page i e link =
    let new : to_z w64 (of_z w64 c.in-Ok-settle_few.new) ≡ c.in-Ok-settle_few.new = search rules in
    let x = c.in-Ok-settle_few.ensures.place b (c.in-Ok.ensures.told ∙ e) in
    let same : x.0 ≡ page = ap page-of (sym x.2 ∙ ap link_in (sym new) ∙ link) in
    subst (λ (p : ℕ). IsNamedIn b c.args.leaf p ⊎ ((p ≡ c.args.first) × IsCrowded b c.args.leaf)) same x.3

pub returns-then-seen-ne0-clause-linked : goal.returns-then-seen-ne0-clause-linked
returns-then-seen-ne0-clause-linked g c b e k =
    let signed : to_z w64 (of_z w64 c.args.value) ≡ c.args.value = search rules in
    told-some (λ (d : List ℕ). IsLinked d (link_in (to_z w64 (of_z w64 c.args.value)))) (g.P.Pages.told c.look_at.new.pages) b (c.in-Ok.ensures.told ∙ e) (subst (λ (v : ℤ). IsLinked b (link_in v)) (sym signed) k)

pub returns-then-seen-gt7-clause-linked : goal.returns-then-seen-gt7-clause-linked
returns-then-seen-gt7-clause-linked g c b e k =
    let signed : to_z w64 (of_z w64 c.args.value) ≡ c.args.value = search rules in
    told-some (λ (d : List ℕ). IsLinked d (link_in (to_z w64 (of_z w64 c.args.value)))) (g.P.Pages.told c.look_at.new.pages) b (c.in-Ok.ensures.told ∙ e) (subst (λ (v : ℤ). IsLinked b (link_in v)) (sym signed) k)

pub returns-in-Ok-free_page-clause-linked : goal.returns-in-Ok-free_page-clause-linked
returns-in-Ok-free_page-clause-linked g c b e k =
    let signed : to_z w64 (of_z w64 c.number_value.result) ≡ c.number_value.result = search rules in
    some-any (λ (d : List ℕ). IsLinked d (link_in (to_z w64 (of_z w64 c.number_value.result)))) (g.P.Pages.told c.free_page.new.pages) (λ d. linked-row d (to_z w64 (of_z w64 c.number_value.result)) c.number_value.result (Number c.in-Some.plain) signed c.number_value.ensures tt)

pub returns-in-Ok-settle_few-clause-linked : goal.returns-in-Ok-settle_few-clause-linked
returns-in-Ok-settle_few-clause-linked g c b e k =
    let new : to_z w64 (of_z w64 c.in-Ok-settle_few.new) ≡ c.in-Ok-settle_few.new = search rules in
    let x = c.in-Ok-settle_few.ensures.place b (c.in-Ok.ensures.told ∙ e) in
    some-any (λ (d : List ℕ). IsLinked d (link_in (to_z w64 (of_z w64 c.in-Ok-settle_few.new)))) (g.P.Pages.told c.settle_few.new.pages) (λ d. linked-row d (to_z w64 (of_z w64 c.in-Ok-settle_few.new)) c.in-Ok-settle_few.new (Fragment x.0 x.1) new x.2 tt)
