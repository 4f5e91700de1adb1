use Rattle.std.proofs.Common.{◌≡◌, ◌≤◌, ◌+◌, ◌++◌, ◌∷◌, ℕ, ℤ, List, Some, IfSome}
use Rattle.bfs_node.specs.Page.{Row}
use Rattle.bfs_pages.specs.Order.{Key}
use Rattle.bfs_pages.specs.Shapes.{Shape}
use Rattle.bfs_pages.specs.Trees.{page_in}
use Rattle.bfs_pages.specs.Writes.{Kept}
use Rattle.bfs_values.specs.Links.{link_in}
use Rattle.bfs_values.specs.Values.{page_count, values_in}
use Rattle.bfs_values.specs.declared.link.Link.TheVariants.{Chain}
use Rattle.bfs_values.specs.Chained.{IsLinked}
use Rattle.bfs_values.specs.Stored.{Stored, IsRevalued}
use Rattle.bfs_dups_remove.proofs.shrinking.fold_all.Given as goal

abbrev pub invariant-loop-left : goal.invariant-loop-left
invariant-loop-left g l = record {
  size : g.P.Pages.size l.pages ≡ g.P.Pages.size l.fn.pages;
  kept : Kept (g.P.Pages.counts l.fn.pages) (g.P.Pages.counts l.pages) (g.P.Pages.frame l.fn.pages) (g.P.Pages.frame l.pages) (g.P.Pages.goes_on l.fn.pages l.pages);
  folded : (b : List ℕ) (t : Shape) (front back : List Row) (key : Key) (value : ℤ) → g.P.Pages.told l.fn.pages ≡ Some b → Stored l.kind b t (front ++ ((key, value) ∷ back)) → link_in value ≡ Chain l.first → (c : List ℕ) × (g.P.Pages.told l.pages ≡ Some c) × IsRevalued l.kind b c t front key back value (values_in b value);
  full : (b : List ℕ) (t : Shape) (front back : List Row) (key : Key) (value : ℤ) → g.P.Pages.told l.fn.pages ≡ Some b → Stored l.kind b t (front ++ ((key, value) ∷ back)) → link_in value ≡ Chain l.first → IfSome (g.P.Pages.told l.pages) (λ c. 7 ≤ l.left + page_count (page_in c l.first));
  linked : (b : List ℕ) (t : Shape) (front back : List Row) (key : Key) (value : ℤ) → g.P.Pages.told l.fn.pages ≡ Some b → Stored l.kind b t (front ++ ((key, value) ∷ back)) → link_in value ≡ Chain l.first → IsLinked b (Chain l.first) → IfSome (g.P.Pages.told l.pages) (λ c. IsLinked c (Chain l.first));
}

abbrev pub decreases-loop-left : goal.decreases-loop-left
decreases-loop-left g l = l.left
