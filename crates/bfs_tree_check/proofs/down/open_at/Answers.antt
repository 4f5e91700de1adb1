use Rattle.std.proofs.Common.{◌≡◌, ◌+◌, ℕ, List, [], ◌∷◌, length, refl, sym, subst}
use Rattle.bfs_base.specs.Lists.{times}
use Rattle.bfs_pages.specs.Trees.{page_in}
use Rattle.bfs_pages.proofs.OfKind.{if_some}
use Rattle.bfs_tree_check.specs.Marked.{marked}
use Rattle.bfs_walk.specs.Wrong.{IsWrongTree}
use Rattle.bfs_tree_check.proofs.Halves.{page_met, page_twice, page_opens, inside_opens}
use Rattle.bfs_tree_check.proofs.down.open_at.Goals as goal

pub returns-in-Err-clause-wrong : goal.returns-in-Err-clause-wrong
returns-in-Err-clause-wrong g c = λ b n rest told half.
    c.in-Err.ensures.wrong b told (page_met c.args.kind b n c.args.items.now.items rest (g.P.Pages.size c.args.pages.now) c.args.at c.requires.at _ half)

pub returns-then-not-mark-clause-wrong : goal.returns-then-not-mark-clause-wrong
returns-then-not-mark-clause-wrong g c = λ b n rest told half.
    let long = if_some (λ (z : List ℕ). length z ≡ g.P.Pages.size c.args.pages.now) _ b (g.met.P.Pages.sized c.args.pages.now) told in
    let twice = subst (λ s. marked s c.args.marks.now c.args.at ≡ 1) c.length-size.ensures (c.if-not-mark.ensures.twice refl) in
    subst (IsWrongTree c.args.kind b) (sym c.met_twice.ensures)
    (page_twice c.args.kind b n c.args.items.now.items rest (g.P.Pages.size c.args.pages.now) c.args.at c.requires.at (marked (g.P.Pages.size c.args.pages.now) c.args.marks.now) half long twice)

pub returns-in-Ok-open_page-clause-level : goal.returns-in-Ok-open_page-clause-level
returns-in-Ok-open_page-clause-level g c = λ b n rest told half.
    let page = if_some (λ (z : List ℕ). c.look_at_interior.new.page ≡ page_in z c.args.at) _ b c.in-Ok.ensures.read told in
    page_opens c.args.kind b n c.args.items.now.items rest (g.P.Pages.size c.args.pages.now) c.args.at c.requires.at (marked (g.P.Pages.size c.args.pages.now) c.args.marks.now) half
    c.look_at_interior.new.page c.open_page.new.items.items (marked (g.P.Pages.size c.args.pages.now) c.mark.new.marks) page c.in-Ok.ensures.interior c.in-Ok-open_page.ensures (subst (λ s. (x : ℕ) → marked s c.mark.new.marks x ≡ marked s c.args.marks.now x + times x (c.args.at ∷ [])) c.length-size.ensures (c.if-not-mark.ensures.once refl))

pub returns-in-Ok-open_page-clause-inside : goal.returns-in-Ok-open_page-clause-inside
returns-in-Ok-open_page-clause-inside g c =
    inside_opens c.args.kind (g.P.Pages.size c.args.pages.now) c.args.at c.look_at_interior.new.page c.args.items.now.items c.open_page.new.items.items c.requires.at c.in-Ok.ensures.interior c.in-Ok-open_page.ensures
