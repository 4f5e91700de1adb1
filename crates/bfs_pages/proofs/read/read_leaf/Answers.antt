use Rattle.std.proofs.Common.{ℕ, List, Option, IfSome, subst, sym, length}
use Rattle.bfs_pages.specs.Answers.{IsLeafPage}
use Rattle.bfs_pages.specs.Trees.{page_in}
use Rattle.bfs_pages.proofs.Reading.{not_true, unread}
use Rattle.bfs_pages.proofs.read.read_leaf.Goals as goal

pub returns-else-is_leaf-clause-refused : goal.returns-else-is_leaf-clause-refused
returns-else-is_leaf-clause-refused g c =
    let told : IfSome (g.P.Pages.told c.args.pages.now) (λ bytes. IsLeafPage c.args.kind (length bytes) (page_in bytes c.args.at) → ⊥) =
    unread (λ (n : ℕ) (p : List ℕ). IsLeafPage c.args.kind n p) (g.P.Pages.told c.args.pages.now) (g.P.Pages.size c.args.pages.now) c.args.at c.get.new.into
    (g.met.P.Pages.sized c.args.pages.now) c.in-Ok.ensures.page c.requires.at (λ h. not_true c.is_leaf.result (c.is_leaf.ensures.refused (subst (λ (n : ℕ). IsLeafPage c.args.kind n c.get.new.into) (sym c.length-size.ensures) h)) c.if-is_leaf.false) in
    subst (λ (t : Option (List ℕ)). IfSome t (λ bytes. IsLeafPage c.args.kind (length bytes) (page_in bytes c.args.at) → ⊥)) (sym c.in-Ok.ensures.told) told
