use Rattle.std.proofs.Common.{◌≡◌, ◌<◌, ◌++◌, inl, [], ℕ, List, ap, sym, ◌∙◌, subst}
use Rattle.bfs_base.specs.Lists.{IsOnce}
use Rattle.bfs_pages.specs.Trees.{page_in, neighbours_in}
use Rattle.bfs_pages.proofs.OfKind.{if_some}
use Rattle.bfs_values.specs.declared.link.Link.TheVariants.{Chain}
use Rattle.bfs_values.specs.Values.{page_count, page_numbers, next_of, numbers_of_pages, in_order, values_in}
use Rattle.bfs_dups.proofs.Answered.{linked-numbers}
use Rattle.bfs_dups.proofs.Composed.{told-whole, told-some}
use Rattle.bfs_dups_remove.proofs.Folded.{the-first, unchanged-row, two-once, folded-once, folded-means}
use Rattle.bfs_dups_remove.specs.Shortened.{IsFolded}
use Rattle.bfs_dups_remove.proofs.Forms.{folded-many, absorbed-more}
use Rattle.bfs_dups_remove.proofs.Lesser.{stored-row, second, only-page, means-also}
use Rattle.bfs_values.specs.Chained.{IsLinked}
use Rattle.bfs_dups_remove.proofs.shrinking.fold_next.Goals as goal

pub returns-in-Err-clause-folded : goal.returns-in-Err-clause-folded
returns-in-Err-clause-folded g c b t front back key value e s link =
    let w = told-whole (g.P.Pages.told c.args.pages.now) (g.P.Pages.size c.args.pages.now) b (g.met.P.Pages.sized c.args.pages.now) (g.met.P.Pages.whole c.args.pages.now) e in
    let f = the-first b c.args.first w (linked-numbers b value (Chain c.args.first) link (stored-row c.args.kind b t front key back value s)) in
    c.in-Err.ensures.spared b e f.good f.link

pub returns-then-seen-eq0-clause-folded : goal.returns-then-seen-eq0-clause-folded
returns-then-seen-eq0-clause-folded g c b t front back key value e s link = (b, c.in-Ok.ensures.told ∙ e, unchanged-row c.args.kind b t front key back value s)

pub returns-in-Err-look_at-clause-folded : goal.returns-in-Err-look_at-clause-folded
returns-in-Err-look_at-clause-folded g c b t front back key value e s link =
    let w = told-whole (g.P.Pages.told c.args.pages.now) (g.P.Pages.size c.args.pages.now) b (g.met.P.Pages.sized c.args.pages.now) (g.met.P.Pages.whole c.args.pages.now) e in
    let h = linked-numbers b value (Chain c.args.first) link (stored-row c.args.kind b t front key back value s) in
    let f = the-first b c.args.first w h in
    let r : c.look_at.new.page ≡ page_in b c.args.first = if_some (λ (b : List ℕ). c.look_at.new.page ≡ page_in b c.args.first) (g.P.Pages.told c.args.pages.now) b c.in-Ok.ensures.read e in
    let n = second b c.args.first c.args.first c.in-Ok.seen.next f.back w h f.parts (c.in-Ok.ensures.next ∙ ap (λ (p : List ℕ). (neighbours_in p).1) r) c.if-seen-eq0.false in
    c.in-Err-look_at.ensures.spared b (c.in-Ok.ensures.told ∙ e) n.good n.link

pub returns-then-seen-behind-gt7-clause-folded : goal.returns-then-seen-behind-gt7-clause-folded
returns-then-seen-behind-gt7-clause-folded g c b t front back key value e s link = (b, c.in-Ok-look_at.ensures.told ∙ c.in-Ok.ensures.told ∙ e, unchanged-row c.args.kind b t front key back value s)

pub returns-in-Ok-pass_page-clause-folded : goal.returns-in-Ok-pass_page-clause-folded
returns-in-Ok-pass_page-clause-folded g c b t front back key value e s link =
    let w = told-whole (g.P.Pages.told c.args.pages.now) (g.P.Pages.size c.args.pages.now) b (g.met.P.Pages.sized c.args.pages.now) (g.met.P.Pages.whole c.args.pages.now) e in
    let h = linked-numbers b value (Chain c.args.first) link (stored-row c.args.kind b t front key back value s) in
    let f = the-first b c.args.first w h in
    let r : c.look_at.new.page ≡ page_in b c.args.first = if_some (λ (b : List ℕ). c.look_at.new.page ≡ page_in b c.args.first) (g.P.Pages.told c.args.pages.now) b c.in-Ok.ensures.read e in
    let n = second b c.args.first c.args.first c.in-Ok.seen.next f.back w h f.parts (c.in-Ok.ensures.next ∙ ap (λ (p : List ℕ). (neighbours_in p).1) r) c.if-seen-eq0.false in
    let q : c.look_at-2.new.page ≡ page_in b c.in-Ok.seen.next = if_some (λ (b : List ℕ). c.look_at-2.new.page ≡ page_in b c.in-Ok.seen.next) (g.P.Pages.told c.look_at.new.pages) b c.in-Ok-look_at.ensures.read (c.in-Ok.ensures.told ∙ e) in
    let two = subst (λ (p : List ℕ). IsOnce (page_numbers p ++ page_numbers c.look_at.new.page)) (sym q) (subst (λ (p : List ℕ). IsOnce (page_numbers (page_in b c.in-Ok.seen.next) ++ page_numbers p)) (sym r) (two-once b c.args.first c.in-Ok.seen.next n h)) in
    let is = c.absorb.ensures.numbers two ∙ ap (λ (p : List ℕ). in_order (page_numbers p ++ page_numbers c.look_at.new.page)) q ∙ ap (λ (p : List ℕ). in_order (page_numbers (page_in b c.in-Ok.seen.next) ++ page_numbers p)) r in
    let x = c.in-Ok-pass_page.ensures.passed b t front back key value c.args.first [] n.back (c.in-Ok-look_at.ensures.told ∙ c.in-Ok.ensures.told ∙ e) s link n.parts c.absorb.ensures.good q (folded-once b c.args.first c.in-Ok.seen.next n (page_numbers c.absorb.new.page) h is) in
    (x.0, x.1, means-also c.args.kind b x.0 t front key back value (in_order (page_numbers c.absorb.new.page ++ numbers_of_pages b n.back)) (values_in b value) (folded-means b c.args.first c.in-Ok.seen.next value n (page_numbers c.absorb.new.page) link is) x.2)

pub returns-in-Err-pass_page-clause-folded : goal.returns-in-Err-pass_page-clause-folded
returns-in-Err-pass_page-clause-folded g c b t front back key value e s link =
    let w = told-whole (g.P.Pages.told c.args.pages.now) (g.P.Pages.size c.args.pages.now) b (g.met.P.Pages.sized c.args.pages.now) (g.met.P.Pages.whole c.args.pages.now) e in
    let h = linked-numbers b value (Chain c.args.first) link (stored-row c.args.kind b t front key back value s) in
    let f = the-first b c.args.first w h in
    let r : c.look_at.new.page ≡ page_in b c.args.first = if_some (λ (b : List ℕ). c.look_at.new.page ≡ page_in b c.args.first) (g.P.Pages.told c.args.pages.now) b c.in-Ok.ensures.read e in
    let n = second b c.args.first c.args.first c.in-Ok.seen.next f.back w h f.parts (c.in-Ok.ensures.next ∙ ap (λ (p : List ℕ). (neighbours_in p).1) r) c.if-seen-eq0.false in
    let q : c.look_at-2.new.page ≡ page_in b c.in-Ok.seen.next = if_some (λ (b : List ℕ). c.look_at-2.new.page ≡ page_in b c.in-Ok.seen.next) (g.P.Pages.told c.look_at.new.pages) b c.in-Ok-look_at.ensures.read (c.in-Ok.ensures.told ∙ e) in
    let two = subst (λ (p : List ℕ). IsOnce (page_numbers p ++ page_numbers c.look_at.new.page)) (sym q) (subst (λ (p : List ℕ). IsOnce (page_numbers (page_in b c.in-Ok.seen.next) ++ page_numbers p)) (sym r) (two-once b c.args.first c.in-Ok.seen.next n h)) in
    let is = c.absorb.ensures.numbers two ∙ ap (λ (p : List ℕ). in_order (page_numbers p ++ page_numbers c.look_at.new.page)) q ∙ ap (λ (p : List ℕ). in_order (page_numbers (page_in b c.in-Ok.seen.next) ++ page_numbers p)) r in
    c.in-Err-pass_page.ensures.passed b t front back key value c.args.first [] n.back (c.in-Ok-look_at.ensures.told ∙ c.in-Ok.ensures.told ∙ e) s link n.parts c.absorb.ensures.good q (folded-once b c.args.first c.in-Ok.seen.next n (page_numbers c.absorb.new.page) h is)

pub returns-then-seen-eq0-clause-done : goal.returns-then-seen-eq0-clause-done
returns-then-seen-eq0-clause-done g c b e h k =
    let w = told-whole (g.P.Pages.told c.args.pages.now) (g.P.Pages.size c.args.pages.now) b (g.met.P.Pages.sized c.args.pages.now) (g.met.P.Pages.whole c.args.pages.now) e in
    let r : c.look_at.new.page ≡ page_in b c.args.first = if_some (λ (b : List ℕ). c.look_at.new.page ≡ page_in b c.args.first) (g.P.Pages.told c.args.pages.now) b c.in-Ok.ensures.read e in
    let end : next_of b c.args.first ≡ 0 = ap (λ (p : List ℕ). (neighbours_in p).1) (sym r) ∙ sym c.in-Ok.ensures.next ∙ c.if-seen-eq0.true in
    told-some (λ (d : List ℕ). IsFolded d c.args.first) (g.P.Pages.told c.look_at.new.pages) b (c.in-Ok.ensures.told ∙ e) (inl (only-page b c.args.first w h end))

pub returns-then-seen-behind-gt7-clause-done : goal.returns-then-seen-behind-gt7-clause-done
returns-then-seen-behind-gt7-clause-done g c b e h k =
    let w = told-whole (g.P.Pages.told c.args.pages.now) (g.P.Pages.size c.args.pages.now) b (g.met.P.Pages.sized c.args.pages.now) (g.met.P.Pages.whole c.args.pages.now) e in
    let f = the-first b c.args.first w h in
    let r : c.look_at.new.page ≡ page_in b c.args.first = if_some (λ (b : List ℕ). c.look_at.new.page ≡ page_in b c.args.first) (g.P.Pages.told c.args.pages.now) b c.in-Ok.ensures.read e in
    let n = second b c.args.first c.args.first c.in-Ok.seen.next f.back w h f.parts (c.in-Ok.ensures.next ∙ ap (λ (p : List ℕ). (neighbours_in p).1) r) c.if-seen-eq0.false in
    let q : c.look_at-2.new.page ≡ page_in b c.in-Ok.seen.next = if_some (λ (b : List ℕ). c.look_at-2.new.page ≡ page_in b c.in-Ok.seen.next) (g.P.Pages.told c.look_at.new.pages) b c.in-Ok-look_at.ensures.read (c.in-Ok.ensures.told ∙ e) in
    told-some (λ (d : List ℕ). IsFolded d c.args.first) (g.P.Pages.told c.look_at-2.new.pages) b (c.in-Ok-look_at.ensures.told ∙ c.in-Ok.ensures.told ∙ e)
    (folded-many b c.args.first c.in-Ok.seen.next c.in-Ok.seen.count c.in-Ok-look_at.behind.count n (c.in-Ok.ensures.count ∙ ap page_count r) (c.in-Ok-look_at.ensures.count ∙ ap page_count q) c.if-seen-behind-gt7.true)

pub returns-in-Ok-pass_page-clause-grown : goal.returns-in-Ok-pass_page-clause-grown
returns-in-Ok-pass_page-clause-grown g c b t front back key value e s link k =
    let w = told-whole (g.P.Pages.told c.args.pages.now) (g.P.Pages.size c.args.pages.now) b (g.met.P.Pages.sized c.args.pages.now) (g.met.P.Pages.whole c.args.pages.now) e in
    let h = linked-numbers b value (Chain c.args.first) link (stored-row c.args.kind b t front key back value s) in
    let f = the-first b c.args.first w h in
    let r : c.look_at.new.page ≡ page_in b c.args.first = if_some (λ (b : List ℕ). c.look_at.new.page ≡ page_in b c.args.first) (g.P.Pages.told c.args.pages.now) b c.in-Ok.ensures.read e in
    let n = second b c.args.first c.args.first c.in-Ok.seen.next f.back w h f.parts (c.in-Ok.ensures.next ∙ ap (λ (p : List ℕ). (neighbours_in p).1) r) c.if-seen-eq0.false in
    let q : c.look_at-2.new.page ≡ page_in b c.in-Ok.seen.next = if_some (λ (b : List ℕ). c.look_at-2.new.page ≡ page_in b c.in-Ok.seen.next) (g.P.Pages.told c.look_at.new.pages) b c.in-Ok-look_at.ensures.read (c.in-Ok.ensures.told ∙ e) in
    let two = subst (λ (p : List ℕ). IsOnce (page_numbers p ++ page_numbers c.look_at.new.page)) (sym q) (subst (λ (p : List ℕ). IsOnce (page_numbers (page_in b c.in-Ok.seen.next) ++ page_numbers p)) (sym r) (two-once b c.args.first c.in-Ok.seen.next n h)) in
    let is = c.absorb.ensures.numbers two ∙ ap (λ (p : List ℕ). in_order (page_numbers p ++ page_numbers c.look_at.new.page)) q ∙ ap (λ (p : List ℕ). in_order (page_numbers (page_in b c.in-Ok.seen.next) ++ page_numbers p)) r in
    let told = c.in-Ok-look_at.ensures.told ∙ c.in-Ok.ensures.told ∙ e in
    let once = folded-once b c.args.first c.in-Ok.seen.next n (page_numbers c.absorb.new.page) h is in
    let x = c.in-Ok-pass_page.ensures.passed b t front back key value c.args.first [] n.back told s link n.parts c.absorb.ensures.good q once in
    let wrote = c.in-Ok-pass_page.ensures.written b t front back key value c.args.first [] n.back told s link n.parts c.absorb.ensures.good q once in
    let same : page_numbers (page_in x.0 c.args.first) ≡ page_numbers c.absorb.new.page = if_some (λ (d : List ℕ). page_numbers (page_in d c.args.first) ≡ page_numbers c.absorb.new.page) (g.P.Pages.told c.pass_page.new.pages) x.0 wrote x.1 in
    told-some (λ (d : List ℕ). page_count (page_in b c.args.first) < page_count (page_in d c.args.first)) (g.P.Pages.told c.pass_page.new.pages) x.0 x.1
    (absorbed-more (page_in b c.args.first) (page_in b c.in-Ok.seen.next) c.absorb.new.page (page_in x.0 c.args.first) same is n.good.some)

pub returns-then-seen-eq0-clause-linked : goal.returns-then-seen-eq0-clause-linked
returns-then-seen-eq0-clause-linked g c b t front back key value e s link k =
    told-some (λ (d : List ℕ). IsLinked d (Chain c.args.first)) (g.P.Pages.told c.look_at.new.pages) b (c.in-Ok.ensures.told ∙ e) k

pub returns-then-seen-behind-gt7-clause-linked : goal.returns-then-seen-behind-gt7-clause-linked
returns-then-seen-behind-gt7-clause-linked g c b t front back key value e s link k =
    told-some (λ (d : List ℕ). IsLinked d (Chain c.args.first)) (g.P.Pages.told c.look_at-2.new.pages) b (c.in-Ok-look_at.ensures.told ∙ c.in-Ok.ensures.told ∙ e) k

pub returns-in-Ok-pass_page-clause-linked : goal.returns-in-Ok-pass_page-clause-linked
returns-in-Ok-pass_page-clause-linked g c b t front back key value e s link k =
    let w = told-whole (g.P.Pages.told c.args.pages.now) (g.P.Pages.size c.args.pages.now) b (g.met.P.Pages.sized c.args.pages.now) (g.met.P.Pages.whole c.args.pages.now) e in
    let h = linked-numbers b value (Chain c.args.first) link (stored-row c.args.kind b t front key back value s) in
    let f = the-first b c.args.first w h in
    let r : c.look_at.new.page ≡ page_in b c.args.first = if_some (λ (b : List ℕ). c.look_at.new.page ≡ page_in b c.args.first) (g.P.Pages.told c.args.pages.now) b c.in-Ok.ensures.read e in
    let n = second b c.args.first c.args.first c.in-Ok.seen.next f.back w h f.parts (c.in-Ok.ensures.next ∙ ap (λ (p : List ℕ). (neighbours_in p).1) r) c.if-seen-eq0.false in
    let q : c.look_at-2.new.page ≡ page_in b c.in-Ok.seen.next = if_some (λ (b : List ℕ). c.look_at-2.new.page ≡ page_in b c.in-Ok.seen.next) (g.P.Pages.told c.look_at.new.pages) b c.in-Ok-look_at.ensures.read (c.in-Ok.ensures.told ∙ e) in
    let two = subst (λ (p : List ℕ). IsOnce (page_numbers p ++ page_numbers c.look_at.new.page)) (sym q) (subst (λ (p : List ℕ). IsOnce (page_numbers (page_in b c.in-Ok.seen.next) ++ page_numbers p)) (sym r) (two-once b c.args.first c.in-Ok.seen.next n h)) in
    let is = c.absorb.ensures.numbers two ∙ ap (λ (p : List ℕ). in_order (page_numbers p ++ page_numbers c.look_at.new.page)) q ∙ ap (λ (p : List ℕ). in_order (page_numbers (page_in b c.in-Ok.seen.next) ++ page_numbers p)) r in
    c.in-Ok-pass_page.ensures.linked b t front back key value c.args.first [] n.back (c.in-Ok-look_at.ensures.told ∙ c.in-Ok.ensures.told ∙ e) s link n.parts c.absorb.ensures.good q (folded-once b c.args.first c.in-Ok.seen.next n (page_numbers c.absorb.new.page) h is) (ap (λ (l : ℕ × ℕ). l.0) c.absorb.ensures.links ∙ ap (λ (p : List ℕ). (neighbours_in p).0) r) k
