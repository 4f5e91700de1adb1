use Rattle.std.proofs.Common.{◌≡◌, ◌≤◌, ◌∷◌, ◌++◌, ℕ, ℤ, List, length, Option, Some, IfSome, ap, sym, ◌∙◌, subst, rules, arith, w64, to_z, of_z}
use Rattle.bfs_base.specs.Lists.{times}
use Rattle.bfs_pages.specs.Shapes.{tree_rows}
use Rattle.bfs_pages.specs.Trees.{page_in}
use Rattle.bfs_pages.proofs.OfKind.{if_some}
use Rattle.bfs_remove.proofs.Giving.{told-size}
use Rattle.bfs_values.proofs.Lasting.{cut-before}
use Rattle.bfs_values.specs.declared.link.Link.TheVariants.{Chain}
use Rattle.bfs_values.specs.Links.{link_in}
use Rattle.bfs_values.specs.Values.{IsDuplicates, page_count, page_numbers, numbers_of_pages, HasValues, values_in}
use Rattle.bfs_values.specs.Formed.{IsFormed}
use Rattle.bfs_values.specs.Stored.{Stored, IsRevalued}
use Rattle.bfs_dups.proofs.Answered.{match-none, match-some, linked-numbers, chain-facts, chain-times}
use Rattle.bfs_dups.proofs.Composed.{told-whole, told-some, linked-row}
use Rattle.bfs_dups_remove.specs.Lessened.{without_number, IsLessened}
use Rattle.bfs_dups_remove.specs.Shortened.{IsLocated, IsFolded}
use Rattle.bfs_dups_remove.specs.declared.locating.Located.{Located}
use Rattle.bfs_dups_remove.proofs.Crowding.{placed-before}
use Rattle.bfs_dups_remove.proofs.Forms.{never-there, formed-again}
use Rattle.bfs_dups_remove.proofs.Lesser.{stored-row}
use Rattle.bfs_dups_remove.proofs.Plucked.{untouched}
use Rattle.bfs_dups_remove.proofs.PluckedChain.{located-in, located-times, lessened-stays, lessened-thrice}
use Rattle.bfs_values.specs.Chained.{IsLinked}
use Rattle.bfs_dups_remove.proofs.removing.remove_from_chain.Goals as goal

-- the number is in no page of the chain
pub returns-in-Ok-None-clause-removed : goal.returns-in-Ok-None-clause-removed
returns-in-Ok-None-clause-removed g c b t front back key e s rows leaf =
    let w = told-whole (g.P.Pages.told c.args.pages.now) (g.P.Pages.size c.args.pages.now) b (g.met.P.Pages.sized c.args.pages.now) (g.met.P.Pages.whole c.args.pages.now) e in
    let signed : to_z w64 (of_z w64 c.args.value) ≡ c.args.value = search rules in
    let h = linked-numbers b c.args.value (Chain c.args.first) c.requires.link (stored-row c.args.kind b t front key back c.args.value s) in
    let f = chain-facts b c.args.first w h in
    let m = match-none (times c.args.number (numbers_of_pages b f.pages) ≡ 0) (λ (l : Located). IsLocated f.pages l.at l.before) c.in-Ok-None.field-0 (c.in-Ok-None.ensures.found b f.pages e f.chain f.good) c.in-Ok-None.field-0-is in
    (b, c.in-Ok-None.ensures.told ∙ e, subst (λ (v : ℤ). IsLessened c.args.kind b b t front key back (without_number c.args.number (values_in b c.args.value)) (Some v)) (sym signed) (untouched c.args.kind b t front key back c.args.value c.args.number s w (chain-times b c.args.first c.args.number c.args.value f c.requires.link ∙ m)))

pub returns-in-Err-clause-removed : goal.returns-in-Err-clause-removed
returns-in-Err-clause-removed g c b t front back key e s rows leaf =
    let w = told-whole (g.P.Pages.told c.args.pages.now) (g.P.Pages.size c.args.pages.now) b (g.met.P.Pages.sized c.args.pages.now) (g.met.P.Pages.whole c.args.pages.now) e in
    let h = linked-numbers b c.args.value (Chain c.args.first) c.requires.link (stored-row c.args.kind b t front key back c.args.value s) in
    let f = chain-facts b c.args.first w h in
    c.in-Err.ensures.found b f.pages e f.chain f.good

pub returns-in-Err-lessen-clause-removed : goal.returns-in-Err-lessen-clause-removed
returns-in-Err-lessen-clause-removed g c b t front back key e s rows leaf =
    let w = told-whole (g.P.Pages.told c.args.pages.now) (g.P.Pages.size c.args.pages.now) b (g.met.P.Pages.sized c.args.pages.now) (g.met.P.Pages.whole c.args.pages.now) e in
    let signed : to_z w64 (of_z w64 c.args.value) ≡ c.args.value = search rules in
    let h = linked-numbers b c.args.value (Chain c.args.first) c.requires.link (stored-row c.args.kind b t front key back c.args.value s) in
    let f = chain-facts b c.args.first w h in
    let m = match-some (times c.args.number (numbers_of_pages b f.pages) ≡ 0) (λ (l : Located). IsLocated f.pages l.at l.before) c.in-Ok-Some.field-0 c.in-Ok-Some.found (c.in-Ok-Some.ensures.found b f.pages e f.chain f.good) c.in-Ok-Some.field-0-is in
    let l = located-in b c.args.first c.in-Ok-Some.found.at c.in-Ok-Some.found.before f m in
    let page = if_some (λ (l : Located). IsDuplicates c.locate.new.page × (l.count ≡ page_count c.locate.new.page) × (1 ≤ times c.args.number (page_numbers c.locate.new.page)) × IfSome (g.P.Pages.told c.args.pages.now) (λ b. c.locate.new.page ≡ page_in b l.at)) c.in-Ok-Some.field-0 c.in-Ok-Some.found c.in-Ok-Some.ensures.page c.in-Ok-Some.field-0-is in
    let r : c.locate.new.page ≡ page_in b c.in-Ok-Some.found.at = if_some (λ (b : List ℕ). c.locate.new.page ≡ page_in b c.in-Ok-Some.found.at) (g.P.Pages.told c.args.pages.now) b page.3 e in
    c.in-Err-lessen.ensures.lessened b t front back key c.args.first (c.in-Ok-Some.ensures.told ∙ e) (subst (λ (v : ℤ). Stored c.args.kind b t (front ++ ((key, v) ∷ back))) (sym signed) s) (ap link_in signed ∙ c.requires.link) l r

pub returns-in-None-clause-removed : goal.returns-in-None-clause-removed
returns-in-None-clause-removed g c b t front back key e s rows leaf =
    let w = told-whole (g.P.Pages.told c.args.pages.now) (g.P.Pages.size c.args.pages.now) b (g.met.P.Pages.sized c.args.pages.now) (g.met.P.Pages.whole c.args.pages.now) e in
    let signed : to_z w64 (of_z w64 c.args.value) ≡ c.args.value = search rules in
    let h = linked-numbers b c.args.value (Chain c.args.first) c.requires.link (stored-row c.args.kind b t front key back c.args.value s) in
    let f = chain-facts b c.args.first w h in
    let m = match-some (times c.args.number (numbers_of_pages b f.pages) ≡ 0) (λ (l : Located). IsLocated f.pages l.at l.before) c.in-Ok-Some.field-0 c.in-Ok-Some.found (c.in-Ok-Some.ensures.found b f.pages e f.chain f.good) c.in-Ok-Some.field-0-is in
    let l = located-in b c.args.first c.in-Ok-Some.found.at c.in-Ok-Some.found.before f m in
    let page = if_some (λ (l : Located). IsDuplicates c.locate.new.page × (l.count ≡ page_count c.locate.new.page) × (1 ≤ times c.args.number (page_numbers c.locate.new.page)) × IfSome (g.P.Pages.told c.args.pages.now) (λ b. c.locate.new.page ≡ page_in b l.at)) c.in-Ok-Some.field-0 c.in-Ok-Some.found c.in-Ok-Some.ensures.page c.in-Ok-Some.field-0-is in
    let r : c.locate.new.page ≡ page_in b c.in-Ok-Some.found.at = if_some (λ (b : List ℕ). c.locate.new.page ≡ page_in b c.in-Ok-Some.found.at) (g.P.Pages.told c.args.pages.now) b page.3 e in
    let x = c.in-Ok.ensures.lessened b t front back key c.args.first (c.in-Ok-Some.ensures.told ∙ e) (subst (λ (v : ℤ). Stored c.args.kind b t (front ++ ((key, v) ∷ back))) (sym signed) s) (ap link_in signed ∙ c.requires.link) l r in
    let less = subst (λ (v : ℤ). IsLessened c.args.kind b x.0 t front key back (without_number c.args.number (values_in b v)) c.in-Ok.left) signed x.2 in
    (x.0, x.1, subst (λ (o : Option ℤ). IsLessened c.args.kind b x.0 t front key back (without_number c.args.number (values_in b c.args.value)) o) c.in-None.is less)

pub returns-in-None-clause-absent : goal.returns-in-None-clause-absent
returns-in-None-clause-absent g c b e v n =
    let w = told-whole (g.P.Pages.told c.args.pages.now) (g.P.Pages.size c.args.pages.now) b (g.met.P.Pages.sized c.args.pages.now) (g.met.P.Pages.whole c.args.pages.now) e in
    let h = linked-numbers b c.args.value (Chain c.args.first) c.requires.link v in
    let f = chain-facts b c.args.first w h in
    let m = match-some (times c.args.number (numbers_of_pages b f.pages) ≡ 0) (λ (l : Located). IsLocated f.pages l.at l.before) c.in-Ok-Some.field-0 c.in-Ok-Some.found (c.in-Ok-Some.ensures.found b f.pages e f.chain f.good) c.in-Ok-Some.field-0-is in
    let l = located-in b c.args.first c.in-Ok-Some.found.at c.in-Ok-Some.found.before f m in
    let page = if_some (λ (l : Located). IsDuplicates c.locate.new.page × (l.count ≡ page_count c.locate.new.page) × (1 ≤ times c.args.number (page_numbers c.locate.new.page)) × IfSome (g.P.Pages.told c.args.pages.now) (λ b. c.locate.new.page ≡ page_in b l.at)) c.in-Ok-Some.field-0 c.in-Ok-Some.found c.in-Ok-Some.ensures.page c.in-Ok-Some.field-0-is in
    let r : c.locate.new.page ≡ page_in b c.in-Ok-Some.found.at = if_some (λ (b : List ℕ). c.locate.new.page ≡ page_in b c.in-Ok-Some.found.at) (g.P.Pages.told c.args.pages.now) b page.3 e in
    absurd (omega (arith, n, located-times b c.args.first c.in-Ok-Some.found.at c.in-Ok-Some.found.before c.args.number c.args.value c.requires.link l (subst (λ (p : List ℕ). 1 ≤ times c.args.number (page_numbers p)) r page.2)))

pub returns-in-Err-fold_all-clause-removed : goal.returns-in-Err-fold_all-clause-removed
returns-in-Err-fold_all-clause-removed g c b t front back key e s rows leaf =
    let w = told-whole (g.P.Pages.told c.args.pages.now) (g.P.Pages.size c.args.pages.now) b (g.met.P.Pages.sized c.args.pages.now) (g.met.P.Pages.whole c.args.pages.now) e in
    let signed : to_z w64 (of_z w64 c.args.value) ≡ c.args.value = search rules in
    let h = linked-numbers b c.args.value (Chain c.args.first) c.requires.link (stored-row c.args.kind b t front key back c.args.value s) in
    let f = chain-facts b c.args.first w h in
    let m = match-some (times c.args.number (numbers_of_pages b f.pages) ≡ 0) (λ (l : Located). IsLocated f.pages l.at l.before) c.in-Ok-Some.field-0 c.in-Ok-Some.found (c.in-Ok-Some.ensures.found b f.pages e f.chain f.good) c.in-Ok-Some.field-0-is in
    let l = located-in b c.args.first c.in-Ok-Some.found.at c.in-Ok-Some.found.before f m in
    let page = if_some (λ (l : Located). IsDuplicates c.locate.new.page × (l.count ≡ page_count c.locate.new.page) × (1 ≤ times c.args.number (page_numbers c.locate.new.page)) × IfSome (g.P.Pages.told c.args.pages.now) (λ b. c.locate.new.page ≡ page_in b l.at)) c.in-Ok-Some.field-0 c.in-Ok-Some.found c.in-Ok-Some.ensures.page c.in-Ok-Some.field-0-is in
    let r : c.locate.new.page ≡ page_in b c.in-Ok-Some.found.at = if_some (λ (b : List ℕ). c.locate.new.page ≡ page_in b c.in-Ok-Some.found.at) (g.P.Pages.told c.args.pages.now) b page.3 e in
    let x = c.in-Ok.ensures.lessened b t front back key c.args.first (c.in-Ok-Some.ensures.told ∙ e) (subst (λ (v : ℤ). Stored c.args.kind b t (front ++ ((key, v) ∷ back))) (sym signed) s) (ap link_in signed ∙ c.requires.link) l r in
    let less = subst (λ (v : ℤ). IsLessened c.args.kind b x.0 t front key back (without_number c.args.number (values_in b v)) c.in-Ok.left) signed x.2 in
    let same : c.in-Some.field-0 ≡ c.args.value = if_some (λ (v : ℤ). v ≡ to_z w64 (of_z w64 c.args.value)) c.in-Ok.left c.in-Some.field-0 c.in-Ok.ensures.same c.in-Some.is ∙ signed in
    let one = lessened-stays c.args.kind b x.0 t front key back c.args.value c.in-Some.field-0 (without_number c.args.number (values_in b c.args.value)) same (subst (λ (o : Option ℤ). IsLessened c.args.kind b x.0 t front key back (without_number c.args.number (values_in b c.args.value)) o) c.in-Some.is less) in
    c.in-Err-fold_all.ensures.folded x.0 t front back key c.args.value x.1 one.stored c.requires.link

pub returns-in-Err-settle-clause-removed : goal.returns-in-Err-settle-clause-removed
returns-in-Err-settle-clause-removed g c b t front back key e s rows leaf =
    let w = told-whole (g.P.Pages.told c.args.pages.now) (g.P.Pages.size c.args.pages.now) b (g.met.P.Pages.sized c.args.pages.now) (g.met.P.Pages.whole c.args.pages.now) e in
    let signed : to_z w64 (of_z w64 c.args.value) ≡ c.args.value = search rules in
    let h = linked-numbers b c.args.value (Chain c.args.first) c.requires.link (stored-row c.args.kind b t front key back c.args.value s) in
    let f = chain-facts b c.args.first w h in
    let m = match-some (times c.args.number (numbers_of_pages b f.pages) ≡ 0) (λ (l : Located). IsLocated f.pages l.at l.before) c.in-Ok-Some.field-0 c.in-Ok-Some.found (c.in-Ok-Some.ensures.found b f.pages e f.chain f.good) c.in-Ok-Some.field-0-is in
    let l = located-in b c.args.first c.in-Ok-Some.found.at c.in-Ok-Some.found.before f m in
    let page = if_some (λ (l : Located). IsDuplicates c.locate.new.page × (l.count ≡ page_count c.locate.new.page) × (1 ≤ times c.args.number (page_numbers c.locate.new.page)) × IfSome (g.P.Pages.told c.args.pages.now) (λ b. c.locate.new.page ≡ page_in b l.at)) c.in-Ok-Some.field-0 c.in-Ok-Some.found c.in-Ok-Some.ensures.page c.in-Ok-Some.field-0-is in
    let r : c.locate.new.page ≡ page_in b c.in-Ok-Some.found.at = if_some (λ (b : List ℕ). c.locate.new.page ≡ page_in b c.in-Ok-Some.found.at) (g.P.Pages.told c.args.pages.now) b page.3 e in
    let x = c.in-Ok.ensures.lessened b t front back key c.args.first (c.in-Ok-Some.ensures.told ∙ e) (subst (λ (v : ℤ). Stored c.args.kind b t (front ++ ((key, v) ∷ back))) (sym signed) s) (ap link_in signed ∙ c.requires.link) l r in
    let less = subst (λ (v : ℤ). IsLessened c.args.kind b x.0 t front key back (without_number c.args.number (values_in b v)) c.in-Ok.left) signed x.2 in
    let same : c.in-Some.field-0 ≡ c.args.value = if_some (λ (v : ℤ). v ≡ to_z w64 (of_z w64 c.args.value)) c.in-Ok.left c.in-Some.field-0 c.in-Ok.ensures.same c.in-Some.is ∙ signed in
    let one = lessened-stays c.args.kind b x.0 t front key back c.args.value c.in-Some.field-0 (without_number c.args.number (values_in b c.args.value)) same (subst (λ (o : Option ℤ). IsLessened c.args.kind b x.0 t front key back (without_number c.args.number (values_in b c.args.value)) o) c.in-Some.is less) in
    let two = c.in-Ok-fold_all.ensures.folded x.0 t front back key c.args.value x.1 one.stored c.requires.link in
    c.in-Err-settle.ensures.settled two.0 t front back key two.1 (subst (λ (v : ℤ). Stored c.args.kind two.0 t (front ++ ((key, v) ∷ back))) (sym signed) two.2.stored) (subst (λ (v : ℤ). tree_rows t ≡ front ++ ((key, v) ∷ back)) (sym signed) rows) leaf

pub returns-in-Ok-settle-clause-removed : goal.returns-in-Ok-settle-clause-removed
returns-in-Ok-settle-clause-removed g c b t front back key e s rows leaf =
    let w = told-whole (g.P.Pages.told c.args.pages.now) (g.P.Pages.size c.args.pages.now) b (g.met.P.Pages.sized c.args.pages.now) (g.met.P.Pages.whole c.args.pages.now) e in
    let signed : to_z w64 (of_z w64 c.args.value) ≡ c.args.value = search rules in
    let h = linked-numbers b c.args.value (Chain c.args.first) c.requires.link (stored-row c.args.kind b t front key back c.args.value s) in
    let f = chain-facts b c.args.first w h in
    let m = match-some (times c.args.number (numbers_of_pages b f.pages) ≡ 0) (λ (l : Located). IsLocated f.pages l.at l.before) c.in-Ok-Some.field-0 c.in-Ok-Some.found (c.in-Ok-Some.ensures.found b f.pages e f.chain f.good) c.in-Ok-Some.field-0-is in
    let l = located-in b c.args.first c.in-Ok-Some.found.at c.in-Ok-Some.found.before f m in
    let page = if_some (λ (l : Located). IsDuplicates c.locate.new.page × (l.count ≡ page_count c.locate.new.page) × (1 ≤ times c.args.number (page_numbers c.locate.new.page)) × IfSome (g.P.Pages.told c.args.pages.now) (λ b. c.locate.new.page ≡ page_in b l.at)) c.in-Ok-Some.field-0 c.in-Ok-Some.found c.in-Ok-Some.ensures.page c.in-Ok-Some.field-0-is in
    let r : c.locate.new.page ≡ page_in b c.in-Ok-Some.found.at = if_some (λ (b : List ℕ). c.locate.new.page ≡ page_in b c.in-Ok-Some.found.at) (g.P.Pages.told c.args.pages.now) b page.3 e in
    let x = c.in-Ok.ensures.lessened b t front back key c.args.first (c.in-Ok-Some.ensures.told ∙ e) (subst (λ (v : ℤ). Stored c.args.kind b t (front ++ ((key, v) ∷ back))) (sym signed) s) (ap link_in signed ∙ c.requires.link) l r in
    let less = subst (λ (v : ℤ). IsLessened c.args.kind b x.0 t front key back (without_number c.args.number (values_in b v)) c.in-Ok.left) signed x.2 in
    let same : c.in-Some.field-0 ≡ c.args.value = if_some (λ (v : ℤ). v ≡ to_z w64 (of_z w64 c.args.value)) c.in-Ok.left c.in-Some.field-0 c.in-Ok.ensures.same c.in-Some.is ∙ signed in
    let one = lessened-stays c.args.kind b x.0 t front key back c.args.value c.in-Some.field-0 (without_number c.args.number (values_in b c.args.value)) same (subst (λ (o : Option ℤ). IsLessened c.args.kind b x.0 t front key back (without_number c.args.number (values_in b c.args.value)) o) c.in-Some.is less) in
    let two = c.in-Ok-fold_all.ensures.folded x.0 t front back key c.args.value x.1 one.stored c.requires.link in
    let three = c.in-Ok-settle.ensures.settled two.0 t front back key two.1 (subst (λ (v : ℤ). Stored c.args.kind two.0 t (front ++ ((key, v) ∷ back))) (sym signed) two.2.stored) (subst (λ (v : ℤ). tree_rows t ≡ front ++ ((key, v) ∷ back)) (sym signed) rows) leaf in
    let new : to_z w64 (of_z w64 c.in-Ok-settle.new) ≡ c.in-Ok-settle.new = search rules in
    let last = subst (λ (v : ℤ). IsRevalued c.args.kind two.0 three.0 t front key back c.in-Ok-settle.new (values_in two.0 v)) signed three.2 in
    let u = told-whole (g.P.Pages.told c.settle.new.pages) (g.P.Pages.size c.settle.new.pages) three.0 (g.met.P.Pages.sized c.settle.new.pages) (g.met.P.Pages.whole c.settle.new.pages) three.1 in
    let done = lessened-thrice c.args.kind b x.0 two.0 three.0 t front key back c.args.value c.in-Ok-settle.new (without_number c.args.number (values_in b c.args.value)) u one two.2 last in
    (three.0, three.1, subst (λ (v : ℤ). IsLessened c.args.kind b three.0 t front key back (without_number c.args.number (values_in b c.args.value)) (Some v)) (sym new) done)

pub returns-in-Ok-settle-clause-absent : goal.returns-in-Ok-settle-clause-absent
returns-in-Ok-settle-clause-absent g c b e v n =
    let w = told-whole (g.P.Pages.told c.args.pages.now) (g.P.Pages.size c.args.pages.now) b (g.met.P.Pages.sized c.args.pages.now) (g.met.P.Pages.whole c.args.pages.now) e in
    let h = linked-numbers b c.args.value (Chain c.args.first) c.requires.link v in
    let f = chain-facts b c.args.first w h in
    let m = match-some (times c.args.number (numbers_of_pages b f.pages) ≡ 0) (λ (l : Located). IsLocated f.pages l.at l.before) c.in-Ok-Some.field-0 c.in-Ok-Some.found (c.in-Ok-Some.ensures.found b f.pages e f.chain f.good) c.in-Ok-Some.field-0-is in
    let l = located-in b c.args.first c.in-Ok-Some.found.at c.in-Ok-Some.found.before f m in
    let page = if_some (λ (l : Located). IsDuplicates c.locate.new.page × (l.count ≡ page_count c.locate.new.page) × (1 ≤ times c.args.number (page_numbers c.locate.new.page)) × IfSome (g.P.Pages.told c.args.pages.now) (λ b. c.locate.new.page ≡ page_in b l.at)) c.in-Ok-Some.field-0 c.in-Ok-Some.found c.in-Ok-Some.ensures.page c.in-Ok-Some.field-0-is in
    let r : c.locate.new.page ≡ page_in b c.in-Ok-Some.found.at = if_some (λ (b : List ℕ). c.locate.new.page ≡ page_in b c.in-Ok-Some.found.at) (g.P.Pages.told c.args.pages.now) b page.3 e in
    absurd (omega (arith, n, located-times b c.args.first c.in-Ok-Some.found.at c.in-Ok-Some.found.before c.args.number c.args.value c.requires.link l (subst (λ (p : List ℕ). 1 ≤ times c.args.number (page_numbers p)) r page.2)))

-- the form of what is left
pub returns-in-Ok-None-clause-formed : goal.returns-in-Ok-None-clause-formed
returns-in-Ok-None-clause-formed g c b t front back key e s i =
    let w = told-whole (g.P.Pages.told c.args.pages.now) (g.P.Pages.size c.args.pages.now) b (g.met.P.Pages.sized c.args.pages.now) (g.met.P.Pages.whole c.args.pages.now) e in
    let h = linked-numbers b c.args.value (Chain c.args.first) c.requires.link (stored-row c.args.kind b t front key back c.args.value s) in
    let f = chain-facts b c.args.first w h in
    let m = match-none (times c.args.number (numbers_of_pages b f.pages) ≡ 0) (λ (l : Located). IsLocated f.pages l.at l.before) c.in-Ok-None.field-0 (c.in-Ok-None.ensures.found b f.pages e f.chain f.good) c.in-Ok-None.field-0-is in
    absurd (never-there c.args.number (values_in b c.args.value) (chain-times b c.args.first c.args.number c.args.value f c.requires.link ∙ m) i)

pub returns-in-Ok-settle-clause-formed : goal.returns-in-Ok-settle-clause-formed
returns-in-Ok-settle-clause-formed g c b t front back key e s i =
    let w = told-whole (g.P.Pages.told c.args.pages.now) (g.P.Pages.size c.args.pages.now) b (g.met.P.Pages.sized c.args.pages.now) (g.met.P.Pages.whole c.args.pages.now) e in
    let signed : to_z w64 (of_z w64 c.args.value) ≡ c.args.value = search rules in
    let h = linked-numbers b c.args.value (Chain c.args.first) c.requires.link (stored-row c.args.kind b t front key back c.args.value s) in
    let f = chain-facts b c.args.first w h in
    let m = match-some (times c.args.number (numbers_of_pages b f.pages) ≡ 0) (λ (l : Located). IsLocated f.pages l.at l.before) c.in-Ok-Some.field-0 c.in-Ok-Some.found (c.in-Ok-Some.ensures.found b f.pages e f.chain f.good) c.in-Ok-Some.field-0-is in
    let l = located-in b c.args.first c.in-Ok-Some.found.at c.in-Ok-Some.found.before f m in
    let page = if_some (λ (l : Located). IsDuplicates c.locate.new.page × (l.count ≡ page_count c.locate.new.page) × (1 ≤ times c.args.number (page_numbers c.locate.new.page)) × IfSome (g.P.Pages.told c.args.pages.now) (λ b. c.locate.new.page ≡ page_in b l.at)) c.in-Ok-Some.field-0 c.in-Ok-Some.found c.in-Ok-Some.ensures.page c.in-Ok-Some.field-0-is in
    let r : c.locate.new.page ≡ page_in b c.in-Ok-Some.found.at = if_some (λ (b : List ℕ). c.locate.new.page ≡ page_in b c.in-Ok-Some.found.at) (g.P.Pages.told c.args.pages.now) b page.3 e in
    let x = c.in-Ok.ensures.lessened b t front back key c.args.first (c.in-Ok-Some.ensures.told ∙ e) (subst (λ (v : ℤ). Stored c.args.kind b t (front ++ ((key, v) ∷ back))) (sym signed) s) (ap link_in signed ∙ c.requires.link) l r in
    let less = subst (λ (v : ℤ). IsLessened c.args.kind b x.0 t front key back (without_number c.args.number (values_in b v)) c.in-Ok.left) signed x.2 in
    let same : c.in-Some.field-0 ≡ c.args.value = if_some (λ (v : ℤ). v ≡ to_z w64 (of_z w64 c.args.value)) c.in-Ok.left c.in-Some.field-0 c.in-Ok.ensures.same c.in-Some.is ∙ signed in
    let one = lessened-stays c.args.kind b x.0 t front key back c.args.value c.in-Some.field-0 (without_number c.args.number (values_in b c.args.value)) same (subst (λ (o : Option ℤ). IsLessened c.args.kind b x.0 t front key back (without_number c.args.number (values_in b c.args.value)) o) c.in-Some.is less) in
    let two = c.in-Ok-fold_all.ensures.folded x.0 t front back key c.args.value x.1 one.stored c.requires.link in
    let folded = if_some (λ (d : List ℕ). IsFolded d c.args.first) (g.P.Pages.told c.fold_all.new.pages) two.0 (c.in-Ok-fold_all.ensures.formed x.0 t front back key c.args.value x.1 one.stored c.requires.link) two.1 in
    let new : to_z w64 (of_z w64 c.in-Ok-settle.new) ≡ c.in-Ok-settle.new = search rules in
    let f = c.in-Ok-settle.ensures.formed two.0 two.1 (subst (λ (v : ℤ). HasValues two.0 v) (sym signed) (stored-row c.args.kind two.0 t front key back c.args.value two.2.stored)) folded in
    formed-again x.0 two.0 c.args.value (to_z w64 (of_z w64 c.in-Ok-settle.new)) (without_number c.args.number (values_in b c.args.value))
    (subst (λ (v : ℤ). IsFormed (link_in v) (values_in two.0 c.args.value)) (sym new) (subst (λ (v : ℤ). IsFormed (link_in c.in-Ok-settle.new) (values_in two.0 v)) signed f)) two.2.means one.means

-- where the fragment is
pub returns-in-Ok-settle-clause-place : goal.returns-in-Ok-settle-clause-place
returns-in-Ok-settle-clause-place g c b t front back key page i e s rows leaf link =
    let w = told-whole (g.P.Pages.told c.args.pages.now) (g.P.Pages.size c.args.pages.now) b (g.met.P.Pages.sized c.args.pages.now) (g.met.P.Pages.whole c.args.pages.now) e in
    let signed : to_z w64 (of_z w64 c.args.value) ≡ c.args.value = search rules in
    let h = linked-numbers b c.args.value (Chain c.args.first) c.requires.link (stored-row c.args.kind b t front key back c.args.value s) in
    let f = chain-facts b c.args.first w h in
    let m = match-some (times c.args.number (numbers_of_pages b f.pages) ≡ 0) (λ (l : Located). IsLocated f.pages l.at l.before) c.in-Ok-Some.field-0 c.in-Ok-Some.found (c.in-Ok-Some.ensures.found b f.pages e f.chain f.good) c.in-Ok-Some.field-0-is in
    let l = located-in b c.args.first c.in-Ok-Some.found.at c.in-Ok-Some.found.before f m in
    let kept = if_some (λ (l : Located). IsDuplicates c.locate.new.page × (l.count ≡ page_count c.locate.new.page) × (1 ≤ times c.args.number (page_numbers c.locate.new.page)) × IfSome (g.P.Pages.told c.args.pages.now) (λ b. c.locate.new.page ≡ page_in b l.at)) c.in-Ok-Some.field-0 c.in-Ok-Some.found c.in-Ok-Some.ensures.page c.in-Ok-Some.field-0-is in
    let r : c.locate.new.page ≡ page_in b c.in-Ok-Some.found.at = if_some (λ (b : List ℕ). c.locate.new.page ≡ page_in b c.in-Ok-Some.found.at) (g.P.Pages.told c.args.pages.now) b kept.3 e in
    let x = c.in-Ok.ensures.lessened b t front back key c.args.first (c.in-Ok-Some.ensures.told ∙ e) (subst (λ (v : ℤ). Stored c.args.kind b t (front ++ ((key, v) ∷ back))) (sym signed) s) (ap link_in signed ∙ c.requires.link) l r in
    let less = subst (λ (v : ℤ). IsLessened c.args.kind b x.0 t front key back (without_number c.args.number (values_in b v)) c.in-Ok.left) signed x.2 in
    let same : c.in-Some.field-0 ≡ c.args.value = if_some (λ (v : ℤ). v ≡ to_z w64 (of_z w64 c.args.value)) c.in-Ok.left c.in-Some.field-0 c.in-Ok.ensures.same c.in-Some.is ∙ signed in
    let one = lessened-stays c.args.kind b x.0 t front key back c.args.value c.in-Some.field-0 (without_number c.args.number (values_in b c.args.value)) same (subst (λ (o : Option ℤ). IsLessened c.args.kind b x.0 t front key back (without_number c.args.number (values_in b c.args.value)) o) c.in-Some.is less) in
    let two = c.in-Ok-fold_all.ensures.folded x.0 t front back key c.args.value x.1 one.stored c.requires.link in
    let size : length two.0 ≡ length b = told-size (g.P.Pages.told c.fold_all.new.pages) (g.P.Pages.size c.fold_all.new.pages) two.0 (g.met.P.Pages.sized c.fold_all.new.pages) two.1 ∙ c.in-Ok-fold_all.ensures.size ∙ c.in-Ok.ensures.size ∙ c.in-Ok-Some.ensures.size
    ∙ sym (told-size (g.P.Pages.told c.args.pages.now) (g.P.Pages.size c.args.pages.now) b (g.met.P.Pages.sized c.args.pages.now) e) in
    let new : to_z w64 (of_z w64 c.in-Ok-settle.new) ≡ c.in-Ok-settle.new = search rules in
    placed-before c.args.kind b two.0 t front key back c.args.value c.args.first c.args.leaf page size s two.2.stored c.requires.link rows leaf (c.in-Ok-settle.ensures.place two.0 page i two.1 (ap link_in (sym new) ∙ link))

pub returns-in-Err-settle-clause-refused : goal.returns-in-Err-settle-clause-refused
returns-in-Err-settle-clause-refused g c =
    let on = g.met.P.Pages.goes_on_twice c.args.pages.now c.lessen.new.pages c.fold_all.new.pages (g.met.P.Pages.goes_on_twice c.args.pages.now c.locate.new.pages c.lessen.new.pages c.in-Ok-Some.ensures.kept.goes_on c.in-Ok.ensures.kept.goes_on) c.in-Ok-fold_all.ensures.kept.goes_on in
    cut-before c.args.kind (g.P.Pages.told c.settle.new.pages) (g.P.Pages.is_cause c.fold_all.new.pages c.settle.new.pages) (g.P.Pages.is_cause c.args.pages.now c.settle.new.pages) c.in-Err-settle.fault
    (λ f h. g.met.P.Pages.is_cause_before c.args.pages.now c.fold_all.new.pages c.settle.new.pages f on h) c.in-Err-settle.ensures.refused

pub returns-in-Ok-None-clause-linked : goal.returns-in-Ok-None-clause-linked
returns-in-Ok-None-clause-linked g c b t front back key e s k =
    let signed : to_z w64 (of_z w64 c.args.value) ≡ c.args.value = search rules in
    told-some (λ (d : List ℕ). IsLinked d (link_in (to_z w64 (of_z w64 c.args.value)))) (g.P.Pages.told c.locate.new.pages) b (c.in-Ok-None.ensures.told ∙ e) (subst (λ (v : ℤ). IsLinked b (link_in v)) (sym signed) k)

pub returns-in-Ok-settle-clause-linked : goal.returns-in-Ok-settle-clause-linked
returns-in-Ok-settle-clause-linked g c b t front back key e s k =
    let w = told-whole (g.P.Pages.told c.args.pages.now) (g.P.Pages.size c.args.pages.now) b (g.met.P.Pages.sized c.args.pages.now) (g.met.P.Pages.whole c.args.pages.now) e in
    let signed : to_z w64 (of_z w64 c.args.value) ≡ c.args.value = search rules in
    let h = linked-numbers b c.args.value (Chain c.args.first) c.requires.link (stored-row c.args.kind b t front key back c.args.value s) in
    let f = chain-facts b c.args.first w h in
    let m = match-some (times c.args.number (numbers_of_pages b f.pages) ≡ 0) (λ (l : Located). IsLocated f.pages l.at l.before) c.in-Ok-Some.field-0 c.in-Ok-Some.found (c.in-Ok-Some.ensures.found b f.pages e f.chain f.good) c.in-Ok-Some.field-0-is in
    let l = located-in b c.args.first c.in-Ok-Some.found.at c.in-Ok-Some.found.before f m in
    let page = if_some (λ (l : Located). IsDuplicates c.locate.new.page × (l.count ≡ page_count c.locate.new.page) × (1 ≤ times c.args.number (page_numbers c.locate.new.page)) × IfSome (g.P.Pages.told c.args.pages.now) (λ b. c.locate.new.page ≡ page_in b l.at)) c.in-Ok-Some.field-0 c.in-Ok-Some.found c.in-Ok-Some.ensures.page c.in-Ok-Some.field-0-is in
    let r : c.locate.new.page ≡ page_in b c.in-Ok-Some.found.at = if_some (λ (b : List ℕ). c.locate.new.page ≡ page_in b c.in-Ok-Some.found.at) (g.P.Pages.told c.args.pages.now) b page.3 e in
    let x = c.in-Ok.ensures.lessened b t front back key c.args.first (c.in-Ok-Some.ensures.told ∙ e) (subst (λ (v : ℤ). Stored c.args.kind b t (front ++ ((key, v) ∷ back))) (sym signed) s) (ap link_in signed ∙ c.requires.link) l r in
    let less = subst (λ (v : ℤ). IsLessened c.args.kind b x.0 t front key back (without_number c.args.number (values_in b v)) c.in-Ok.left) signed x.2 in
    let same : c.in-Some.field-0 ≡ c.args.value = if_some (λ (v : ℤ). v ≡ to_z w64 (of_z w64 c.args.value)) c.in-Ok.left c.in-Some.field-0 c.in-Ok.ensures.same c.in-Some.is ∙ signed in
    let one = lessened-stays c.args.kind b x.0 t front key back c.args.value c.in-Some.field-0 (without_number c.args.number (values_in b c.args.value)) same (subst (λ (o : Option ℤ). IsLessened c.args.kind b x.0 t front key back (without_number c.args.number (values_in b c.args.value)) o) c.in-Some.is less) in
    let two = c.in-Ok-fold_all.ensures.folded x.0 t front back key c.args.value x.1 one.stored c.requires.link in
    let new : to_z w64 (of_z w64 c.in-Ok-settle.new) ≡ c.in-Ok-settle.new = search rules in
    let first = if_some (λ (v : ℤ). IfSome (g.P.Pages.told c.lessen.new.pages) (λ (d : List ℕ). IsLinked d (Chain c.args.first))) c.in-Ok.left c.in-Some.field-0
    (c.in-Ok.ensures.linked b t front back key c.args.first (c.in-Ok-Some.ensures.told ∙ e) (subst (λ (v : ℤ). Stored c.args.kind b t (front ++ ((key, v) ∷ back))) (sym signed) s) (ap link_in signed ∙ c.requires.link) l r (subst (IsLinked b) c.requires.link k)) c.in-Some.is in
    let second = if_some (λ (d : List ℕ). IsLinked d (Chain c.args.first)) (g.P.Pages.told c.fold_all.new.pages) two.0
    (c.in-Ok-fold_all.ensures.linked x.0 t front back key c.args.value x.1 one.stored c.requires.link (if_some (λ (d : List ℕ). IsLinked d (Chain c.args.first)) (g.P.Pages.told c.lessen.new.pages) x.0 first x.1)) two.1 in
    subst (λ (v : ℤ). IfSome (g.P.Pages.told c.settle.new.pages) (λ d. IsLinked d (link_in v))) (sym new) (c.in-Ok-settle.ensures.linked two.0 two.1 (linked-row two.0 (to_z w64 (of_z w64 c.args.value)) c.args.value (Chain c.args.first) signed c.requires.link second))
