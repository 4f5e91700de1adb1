use Rattle.std.proofs.Common.{◌∷◌, sym, subst}
use Rattle.bfs_tree_check.specs.Levels.{IsInside, AreInside, IsHalf}
use Rattle.bfs_tree_check.specs.Marked.{marked}
use Rattle.bfs_tree_check.proofs.Joined.{all_join}
use Rattle.bfs_tree_check.proofs.Halves.{key_stays}
use Rattle.bfs_tree_check.proofs.down.pass.Goals as goal

pub open_at-requires-clause-at : goal.open_at-requires-clause-at
open_at-requires-clause-at g c = subst (IsInside (g.P.Pages.size c.args.pages.now)) c.in-Page.is c.requires.item

pub returns-in-Page-clause-level : goal.returns-in-Page-clause-level
returns-in-Page-clause-level g c = λ b n rest told half.
    c.open_at.ensures.level b n rest told (subst (λ i. IsHalf c.args.kind b n c.args.items.now.items (i ∷ rest) (marked (g.P.Pages.size c.args.pages.now) c.args.marks.now)) c.in-Page.is half)

pub returns-in-Page-clause-wrong : goal.returns-in-Page-clause-wrong
returns-in-Page-clause-wrong g c = λ b n rest told half.
    c.open_at.ensures.wrong b n rest told (subst (λ i. IsHalf c.args.kind b n c.args.items.now.items (i ∷ rest) (marked (g.P.Pages.size c.args.pages.now) c.args.marks.now)) c.in-Page.is half)

pub returns-in-Ok-clause-level : goal.returns-in-Ok-clause-level
returns-in-Ok-clause-level g c = λ b n rest told half.
    let seen = marked (g.P.Pages.size c.args.pages.now) c.args.marks.now in
    subst (λ l. IsHalf c.args.kind b n l rest seen) (sym c.in-Ok.ensures.items)
    (key_stays c.args.kind b n c.args.items.now.items rest c.in-Key.page c.in-Key.index seen (subst (λ i. IsHalf c.args.kind b n c.args.items.now.items (i ∷ rest) seen) c.in-Key.is half))

pub returns-in-Ok-clause-inside : goal.returns-in-Ok-clause-inside
returns-in-Ok-clause-inside g c = λ all.
    let size = g.P.Pages.size c.args.pages.now in
    subst (AreInside size) (sym c.in-Ok.ensures.items) (all_join (IsInside size) c.args.items.now.items _ all (subst (IsInside size) c.in-Key.is c.requires.item, tt))
