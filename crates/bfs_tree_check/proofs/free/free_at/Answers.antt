use Rattle.std.proofs.Common.{◌≡◌, ◌+◌, ℕ, List, [], ◌∷◌, length, refl, sym, subst}
use Rattle.bfs_base.specs.Lists.{times}
use Rattle.bfs_pages.specs.Answers.{IsLink}
use Rattle.bfs_pages.specs.Trees.{page_in}
use Rattle.bfs_pages.proofs.OfKind.{if_some}
use Rattle.bfs_walk.proofs.Looks.{page_read}
use Rattle.bfs_walk.specs.Wrong.{IsWrongTree}
use Rattle.bfs_tree_check.specs.Marked.{marked}
use Rattle.bfs_tree_check.proofs.Freeing.{WrongFree, free_twice, free_wrong, free_on}
use Rattle.bfs_tree_check.proofs.free.free_at.Goals as goal

pub returns-then-not-mark-clause-wrong : goal.returns-then-not-mark-clause-wrong
returns-then-not-mark-clause-wrong g c = λ kind b done left told freeing.
    let size = g.P.Pages.size c.args.pages.now in
    let long = if_some (λ (z : List ℕ). length z ≡ size) _ b (g.met.P.Pages.sized c.args.pages.now) told in
    subst (IsWrongTree kind b) (sym c.met_twice.ensures) (free_twice kind b done left size c.args.at c.requires.at (marked size c.args.marks.now) freeing long (subst (λ s. marked s c.args.marks.now c.args.at ≡ 1) c.length-size.ensures (c.if-not-mark.ensures.twice refl)))

pub returns-in-Err-next_free-clause-wrong : goal.returns-in-Err-next_free-clause-wrong
returns-in-Err-next_free-clause-wrong g c = λ kind b done left told freeing.
    let size = g.P.Pages.size c.args.pages.now in
    let page = if_some (λ (z : List ℕ). c.get.new.into ≡ page_in z c.args.at) _ b (page_read (g.P.Pages.told c.args.pages.now) size c.args.at c.get.new.into (g.met.P.Pages.sized c.args.pages.now) c.in-Ok.ensures.page c.requires.at) told in
    let long = if_some (λ (z : List ℕ). length z ≡ size) _ b (g.met.P.Pages.sized c.args.pages.now) told in
    free_wrong kind b done left size c.args.at c.requires.at (marked size c.args.marks.now) freeing c.get.new.into c.in-Err-next_free.wrong page long (subst (λ s. WrongFree s c.args.at c.get.new.into c.in-Err-next_free.wrong) c.length-size.ensures c.in-Err-next_free.ensures.wrong)

pub returns-in-Ok-next_free-clause-freeing : goal.returns-in-Ok-next_free-clause-freeing
returns-in-Ok-next_free-clause-freeing g c = λ kind b done left told freeing.
    let size = g.P.Pages.size c.args.pages.now in
    let page = if_some (λ (z : List ℕ). c.get.new.into ≡ page_in z c.args.at) _ b (page_read (g.P.Pages.told c.args.pages.now) size c.args.at c.get.new.into (g.met.P.Pages.sized c.args.pages.now) c.in-Ok.ensures.page c.requires.at) told in
    free_on kind b done left size c.args.at c.requires.at (marked size c.args.marks.now) freeing c.get.new.into c.in-Ok-next_free.next (marked size c.mark.new.marks) page c.in-Ok-next_free.ensures.next (subst (λ s. (x : ℕ) → marked s c.mark.new.marks x ≡ marked s c.args.marks.now x + times x (c.args.at ∷ [])) c.length-size.ensures (c.if-not-mark.ensures.once refl))

pub returns-in-Ok-next_free-clause-link : goal.returns-in-Ok-next_free-clause-link
returns-in-Ok-next_free-clause-link g c = subst (λ s. IsLink s c.in-Ok-next_free.next) c.length-size.ensures c.in-Ok-next_free.ensures.link
