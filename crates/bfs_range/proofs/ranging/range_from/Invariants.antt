use Rattle.std.proofs.Common.{◌≡◌, ◌≤◌, ◌<◌, ◌+◌, ◌++◌, ◌∷◌, ℕ, List, Some, IfSome}
use Rattle.std.specs.Option.{option_copied}
use Rattle.bfs_node.specs.Page.{IsPage, rows_of}
use Rattle.bfs_pages.specs.Answers.{IsChild, IsLeafPage}
use Rattle.bfs_pages.specs.Shapes.{Shape, tree_rows}
use Rattle.bfs_pages.specs.Trees.{header_in, page_in, IsTree, state_of}
use Rattle.bfs_range.specs.Answers.{answer_of, AreAnswers}
use Rattle.bfs_values.specs.Kinds.{Stays}
use Rattle.bfs_values.specs.Values.{EndsAfter}
use Rattle.bfs_range.specs.Leaves.{LeafAt, leaf_list, first_leaf, right_of, leaves_upto}
use Rattle.bfs_values.specs.Reached.{AllMean}
use Rattle.bfs_range.specs.Meant.{pages_of}
use Rattle.bfs_range.specs.Ranges.{rows_between}
use Rattle.bfs_range.proofs.LeafLists.{flat}
use Rattle.bfs_range.proofs.Walk.{leaves_left}
use Rattle.bfs_range.proofs.ranging.range_from.Given as goal

abbrev pub invariant-loop-left : goal.invariant-loop-left
invariant-loop-left g l =
    let told = g.P.Pages.told in
    let low = Some l.fn.ends.0.now in
    let high = option_copied l.fn.ends.1 in
    record {
      stays : Stays (told l.fn.pages) (told l.pages) (g.P.Pages.size l.fn.pages) (g.P.Pages.size l.pages) (g.P.Pages.counts l.fn.pages) (g.P.Pages.counts l.pages)
          (g.P.Pages.frame l.fn.pages) (g.P.Pages.frame l.pages) (g.P.Pages.goes_on l.fn.pages l.pages) (g.P.Pages.is_read l.fn.pages l.pages);
      page : IsPage l.kind l.page;
      at : IsChild (g.P.Pages.size l.fn.pages) l.at;
      fields : IsLeafPage l.kind (g.P.Pages.size l.fn.pages) l.page;
      last : g.P.Pages.last l.pages ≡ l.at;
      sure : (b : List ℕ) → told l.fn.pages ≡ Some b → AreAnswers l.kind b l.rows.items;
      read : IfSome (told l.fn.pages) (λ b. l.page ≡ page_in b l.at);
      spare : (b : List ℕ) → told l.fn.pages ≡ Some b → (n : ℕ) → EndsAfter b n l.at → n < l.left;
      way : (b reached : List ℕ) (t : Shape) (fs : List ℕ) → told l.fn.pages ≡ Some b → IsTree l.kind b reached t fs
          → (front : List LeafAt) × (back : List LeafAt) × (leaf_list t ≡ front ++ ((l.at, rows_of l.page) ∷ back))
          × (AllMean b (rows_between l.kind low high (tree_rows t)) → (l.rows.items ≡ answer_of b (rows_between l.kind low high (flat front)))
          × (l.steps + leaves_left l.kind high (rows_of l.page) back
          ≤ l.fn.steps + (header_in b).levels + 1 + leaves_upto l.kind high (right_of (first_leaf l.kind (state_of l.kind b).levels t low) (leaf_list t)) + pages_of b (rows_between l.kind low high (flat front))));
    }

abbrev pub decreases-loop-left : goal.decreases-loop-left
decreases-loop-left g l = l.left
