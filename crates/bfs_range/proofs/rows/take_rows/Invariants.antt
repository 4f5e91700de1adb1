use Rattle.std.proofs.Common.{◌≡◌, ◌≤◌, ◌+◌, ◌-◌, ◌++◌, ℕ, List, Some, take, drop}
use Rattle.bfs_node.specs.Page.{rows_of}
use Rattle.bfs_range.specs.Answers.{answer_of, IsRead, AreAnswers}
use Rattle.bfs_values.specs.Kinds.{Stays}
use Rattle.bfs_values.specs.Reached.{AllMean}
use Rattle.bfs_range.specs.Meant.{pages_of}
use Rattle.bfs_range.proofs.rows.take_rows.Given as goal

abbrev pub invariant-loop-i : goal.invariant-loop-i
invariant-loop-i g l =
    let told = g.P.Pages.told in
    let whole = take (l.fn.places.1 - l.fn.places.0) (drop l.fn.places.0 (rows_of l.page)) in
    let rest = take (l.fn.places.1 - l.i) (drop l.i (rows_of l.page)) in
    record {
      from : l.fn.places.0 ≤ l.i;
      stays : Stays (told l.fn.pages) (told l.pages) (g.P.Pages.size l.fn.pages) (g.P.Pages.size l.pages) (g.P.Pages.counts l.fn.pages) (g.P.Pages.counts l.pages)
          (g.P.Pages.frame l.fn.pages) (g.P.Pages.frame l.pages) (g.P.Pages.goes_on l.fn.pages l.pages) (g.P.Pages.is_read l.fn.pages l.pages);
      sure : (b : List ℕ) → told l.fn.pages ≡ Some b → IsRead l.kind b l.leaf l.page → AreAnswers l.kind b l.fn.rows.items → AreAnswers l.kind b l.rows.items;
      mean : (b : List ℕ) → AllMean b whole → AllMean b rest;
      rows : (b : List ℕ) → told l.fn.pages ≡ Some b → AllMean b whole → l.rows.items ++ answer_of b rest ≡ l.fn.rows.items ++ answer_of b whole;
      steps : (b : List ℕ) → told l.fn.pages ≡ Some b → AllMean b whole → l.steps + pages_of b rest ≤ l.fn.steps + pages_of b whole;
    }
