use Rattle.std.proofs.Common.{◌≡◌, ◌+◌, ℕ, List, [], ◌∷◌, length, refl, sym, subst}
use Rattle.bfs_base.specs.Lists.{times}
use Rattle.bfs_pages.specs.Trees.{page_in}
use Rattle.bfs_pages.proofs.OfKind.{if_some}
use Rattle.bfs_walk.specs.Wrong.{IsWrongTree}
use Rattle.bfs_tree_check.specs.Marked.{marked}
use Rattle.bfs_tree_check.proofs.Looking.{leaf_met, leaf_twice, leaf_looked}
use Rattle.bfs_tree_check.proofs.leaves.leaf_at.Goals as goal

pub returns-in-Err-clause-wrong : goal.returns-in-Err-clause-wrong
returns-in-Err-clause-wrong g c = λ b done rest told looking.
    c.in-Err.ensures.wrong b told (leaf_met c.args.kind b done rest (g.P.Pages.size c.args.pages.now) c.args.at c.requires.at (marked (g.P.Pages.size c.args.pages.now) c.args.marks.now) looking)

pub returns-else-mark-clause-wrong : goal.returns-else-mark-clause-wrong
returns-else-mark-clause-wrong g c = λ b done rest told looking.
    let long = if_some (λ (z : List ℕ). length z ≡ g.P.Pages.size c.args.pages.now) _ b (g.met.P.Pages.sized c.args.pages.now) told in
    subst (IsWrongTree c.args.kind b) (sym c.met_twice.ensures)
    (leaf_twice c.args.kind b done rest (g.P.Pages.size c.args.pages.now) c.args.at c.requires.at (marked (g.P.Pages.size c.args.pages.now) c.args.marks.now) looking long (subst (λ s. marked s c.args.marks.now c.args.at ≡ 1) c.length-size.ensures (c.if-mark.ensures.twice refl)))

pub returns-then-mark-clause-leaves : goal.returns-then-mark-clause-leaves
returns-then-mark-clause-leaves g c = λ b done rest told looking.
    let page = if_some (λ (z : List ℕ). c.look_at_leaf.new.page ≡ page_in z c.args.at) _ b c.in-Ok.ensures.read told in
    leaf_looked c.args.kind b done rest (g.P.Pages.size c.args.pages.now) c.args.at c.requires.at (marked (g.P.Pages.size c.args.pages.now) c.args.marks.now) looking
    c.look_at_leaf.new.page (marked (g.P.Pages.size c.args.pages.now) c.mark.new.marks) page c.in-Ok.ensures.good c.in-Ok.ensures.leaf (subst (λ s. (x : ℕ) → marked s c.mark.new.marks x ≡ marked s c.args.marks.now x + times x (c.args.at ∷ [])) c.length-size.ensures (c.if-mark.ensures.once refl))
