use Rattle.std.proofs.Common.{◌≡◌, ◌≤◌, ◌++◌, ◌∷◌, [], ℕ, List, ap, sym, subst, ◌∙◌, arith, ◌%◌}
use Rattle.bfs_base.specs.Lists.{times}
use Rattle.bfs_pages.specs.Trees.{page_in, neighbours_in}
use Rattle.bfs_pages.proofs.Splice.{times-append}
use Rattle.bfs_values.specs.Values.{page_numbers, chain_of, numbers_of_pages, in_order, next_of}
use Rattle.bfs_dups.proofs.Composed.{told-whole, told-some}
use Rattle.bfs_dups.proofs.Answered.{linked-open, linked-numbers}
use Rattle.bfs_values.proofs.Opened.{own_pages, pages_of}
use Rattle.bfs_values.specs.declared.link.Link.TheVariants.{Chain}
use Rattle.bfs_dups_remove.proofs.Passed.{here-in}
use Rattle.bfs_dups_remove.proofs.Lesser.{passed-row, passed-whole, passed-next, mended-row, revalued-twice, stored-row, chain-there, past-row}
use Rattle.bfs_dups_remove.proofs.Forms.{passed-page, mended-page}
use Rattle.bfs_values.specs.Chained.{IsLinked, Chained}
use Rattle.bfs_pages.proofs.OfKind.{if_some}
use Rattle.bfs_dups_remove.proofs.Rejoined.{past-last, past-mended, page-small}
use Rattle.bfs_dups_remove.proofs.unlinking.pass_page.Goals as goal

pub returns-then-gone-eq0-clause-passed : goal.returns-then-gone-eq0-clause-passed
returns-then-gone-eq0-clause-passed g c b t front back key value first us xs e s link is good r once =
    let w = told-whole (g.P.Pages.told c.args.pages.now) (g.P.Pages.size c.args.pages.now) b (g.met.P.Pages.sized c.args.pages.now) (g.met.P.Pages.whole c.args.pages.now) e in
    let x = c.in-Ok.ensures.passed b e good r in
    (x.0, x.1, passed-row c.args.kind b x.0 t front key back value first c.args.at c.args.gone.at us xs (page_numbers c.args.page.now) s link w is x.2 once)

pub returns-in-Ok-mend_left-clause-passed : goal.returns-in-Ok-mend_left-clause-passed
returns-in-Ok-mend_left-clause-passed g c b t front back key value first us xs e s link is good r once =
    let w = told-whole (g.P.Pages.told c.args.pages.now) (g.P.Pages.size c.args.pages.now) b (g.met.P.Pages.sized c.args.pages.now) (g.met.P.Pages.whole c.args.pages.now) e in
    let x = c.in-Ok.ensures.passed b e good r in
    let v = passed-row c.args.kind b x.0 t front key back value first c.args.at c.args.gone.at us xs (page_numbers c.args.page.now) s link w is x.2 once in
    let i = passed-next c.args.kind b x.0 t front key back value first c.args.at c.args.gone.at c.args.gone.next us xs (page_numbers c.args.page.now) s link w is x.2 once (c.requires.behind ∙ ap (λ (p : List ℕ). (neighbours_in p).1) r) c.if-gone-eq0.false in
    let y = c.in-Ok-mend_left.ensures.mended x.0 x.1 i.1 in
    let m = mended-row c.args.kind x.0 y.0 t front key back value first c.args.gone.next v.stored link (passed-whole b x.0 c.args.at c.args.gone.at (page_numbers c.args.page.now) x.2 w) i.0 y.2 in
    (y.0, y.1, revalued-twice c.args.kind b x.0 y.0 t front key back value value (in_order (numbers_of_pages b us ++ (page_numbers c.args.page.now ++ numbers_of_pages b xs))) v m)

pub returns-in-Err-clause-passed : goal.returns-in-Err-clause-passed
returns-in-Err-clause-passed g c b t front back key value first us xs e s link is good r once =
    let o = linked-open c.args.kind b t front key back value (Chain first) s link in
    let here : 1 ≤ times c.args.at (chain_of b first) = subst (λ z. 1 ≤ times c.args.at z) (sym is) (here-in us c.args.at (c.args.gone.at ∷ xs)) in
    c.in-Err.ensures.spared b (own_pages b (Chain first) ++ (o.fragments ++ pages_of b (front ++ back))) t o.free e o.tree
    (omega (arith, here, times-append c.args.at (own_pages b (Chain first)) (o.fragments ++ pages_of b (front ++ back)), times-append c.args.at (chain_of b first) []))

pub returns-then-gone-eq0-clause-written : goal.returns-then-gone-eq0-clause-written
returns-then-gone-eq0-clause-written g c b t front back key value first us xs e s link is good r once =
    let x = c.in-Ok.ensures.passed b e good r in
    told-some (λ (d : List ℕ). page_numbers (page_in d c.args.at) ≡ page_numbers c.args.page.now) (g.P.Pages.told c.pass_by.new.pages) x.0 x.1
    (passed-page c.args.kind b x.0 t front key back value first c.args.at c.args.gone.at us xs (page_numbers c.args.page.now) s link is x.2)

pub returns-in-Ok-mend_left-clause-written : goal.returns-in-Ok-mend_left-clause-written
returns-in-Ok-mend_left-clause-written g c b t front back key value first us xs e s link is good r once =
    let w = told-whole (g.P.Pages.told c.args.pages.now) (g.P.Pages.size c.args.pages.now) b (g.met.P.Pages.sized c.args.pages.now) (g.met.P.Pages.whole c.args.pages.now) e in
    let x = c.in-Ok.ensures.passed b e good r in
    let i = passed-next c.args.kind b x.0 t front key back value first c.args.at c.args.gone.at c.args.gone.next us xs (page_numbers c.args.page.now) s link w is x.2 once (c.requires.behind ∙ ap (λ (p : List ℕ). (neighbours_in p).1) r) c.if-gone-eq0.false in
    let y = c.in-Ok-mend_left.ensures.mended x.0 x.1 i.1 in
    told-some (λ (d : List ℕ). page_numbers (page_in d c.args.at) ≡ page_numbers c.args.page.now) (g.P.Pages.told c.mend_left.new.pages) y.0 y.1
    (mended-page x.0 y.0 c.args.gone.next c.args.at y.2 ∙ passed-page c.args.kind b x.0 t front key back value first c.args.at c.args.gone.at us xs (page_numbers c.args.page.now) s link is x.2)

pub returns-then-gone-eq0-clause-left : goal.returns-then-gone-eq0-clause-left
returns-then-gone-eq0-clause-left g c b e good r some small = absurd (omega (arith, some, c.if-gone-eq0.true))

pub returns-in-Ok-mend_left-clause-left : goal.returns-in-Ok-mend_left-clause-left
returns-in-Ok-mend_left-clause-left g c b e good r some small =
    let x = c.in-Ok.ensures.passed b e good r in
    c.in-Ok-mend_left.ensures.left x.0 x.1 c.requires.at.0 small

pub returns-then-gone-eq0-clause-linked : goal.returns-then-gone-eq0-clause-linked
returns-then-gone-eq0-clause-linked g c b t front back key value first us xs e s link is good r once same k =
    let w = told-whole (g.P.Pages.told c.args.pages.now) (g.P.Pages.size c.args.pages.now) b (g.met.P.Pages.sized c.args.pages.now) (g.met.P.Pages.whole c.args.pages.now) e in
    let h = linked-numbers b value (Chain first) link (stored-row c.args.kind b t front key back value s) in
    let x = c.in-Ok.ensures.passed b e good r in
    let f = past-row c.args.kind b x.0 t front key back value first c.args.at c.args.gone.at us xs (page_numbers c.args.page.now) s link w is x.2 once in
    let left : (neighbours_in (page_in x.0 c.args.at)).0 ≡ (neighbours_in (page_in b c.args.at)).0 =
    if_some (λ (d : List ℕ). (neighbours_in (page_in d c.args.at)).0 ≡ (neighbours_in c.args.page.now).0) (g.P.Pages.told c.pass_by.new.pages) x.0 (c.in-Ok.ensures.left b e f.apart) x.1 ∙ same in
    let ch : Chained b first (us ++ (c.args.at ∷ (c.args.gone.at ∷ xs))) = subst (λ z. Chained b first z) is (chain-there b first w h) in
    let next : c.args.gone.next ≡ next_of b c.args.gone.at = c.requires.behind ∙ ap (λ (p : List ℕ). (neighbours_in p).1) r in
    let wx = passed-whole b x.0 c.args.at c.args.gone.at (page_numbers c.args.page.now) x.2 w in
    told-some (λ (d : List ℕ). IsLinked d (Chain first)) (g.P.Pages.told c.pass_by.new.pages) x.0 x.1
    (past-last b x.0 first c.args.at c.args.gone.at us xs wx h.0.0 is ch f left (sym next ∙ c.if-gone-eq0.true) k)

pub returns-in-Ok-mend_left-clause-linked : goal.returns-in-Ok-mend_left-clause-linked
returns-in-Ok-mend_left-clause-linked g c b t front back key value first us xs e s link is good r once same k =
    let w = told-whole (g.P.Pages.told c.args.pages.now) (g.P.Pages.size c.args.pages.now) b (g.met.P.Pages.sized c.args.pages.now) (g.met.P.Pages.whole c.args.pages.now) e in
    let h = linked-numbers b value (Chain first) link (stored-row c.args.kind b t front key back value s) in
    let x = c.in-Ok.ensures.passed b e good r in
    let f = past-row c.args.kind b x.0 t front key back value first c.args.at c.args.gone.at us xs (page_numbers c.args.page.now) s link w is x.2 once in
    let left : (neighbours_in (page_in x.0 c.args.at)).0 ≡ (neighbours_in (page_in b c.args.at)).0 =
    if_some (λ (d : List ℕ). (neighbours_in (page_in d c.args.at)).0 ≡ (neighbours_in c.args.page.now).0) (g.P.Pages.told c.pass_by.new.pages) x.0 (c.in-Ok.ensures.left b e f.apart) x.1 ∙ same in
    let ch : Chained b first (us ++ (c.args.at ∷ (c.args.gone.at ∷ xs))) = subst (λ z. Chained b first z) is (chain-there b first w h) in
    let next : c.args.gone.next ≡ next_of b c.args.gone.at = c.requires.behind ∙ ap (λ (p : List ℕ). (neighbours_in p).1) r in
    let wx = passed-whole b x.0 c.args.at c.args.gone.at (page_numbers c.args.page.now) x.2 w in
    let here : 1 ≤ times c.args.at (chain_of b first) = subst (λ z. 1 ≤ times c.args.at z) (sym is) (here-in us c.args.at (c.args.gone.at ∷ xs)) in
    let small = page-small b value first c.args.at link w h here in
    let i = passed-next c.args.kind b x.0 t front key back value first c.args.at c.args.gone.at c.args.gone.next us xs (page_numbers c.args.page.now) s link w is x.2 once next c.if-gone-eq0.false in
    let y = c.in-Ok-mend_left.ensures.mended x.0 x.1 i.1 in
    let mended = if_some (λ (d : List ℕ). (neighbours_in (page_in d c.args.gone.next)).0 ≡ c.args.at) (g.P.Pages.told c.mend_left.new.pages) y.0 (c.in-Ok-mend_left.ensures.left x.0 x.1 c.requires.at.0 small) y.1 in
    told-some (λ (d : List ℕ). IsLinked d (Chain first)) (g.P.Pages.told c.mend_left.new.pages) y.0 y.1
    (past-mended b x.0 y.0 first c.args.at c.args.gone.at c.args.gone.next us xs (page_numbers (page_in x.0 c.args.gone.next)) (ap (λ n. n % 1024) y.2.set.size ∙ wx) h.0.0 is ch f left next c.if-gone-eq0.false y.2 mended k)
