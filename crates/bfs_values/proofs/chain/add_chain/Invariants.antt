use Rattle.std.proofs.Common.{◌≡◌, ◌≤◌, ◌<◌, ◌+◌, ◌++◌, ℕ, List, Some, length}
use Rattle.bfs_pages.specs.Answers.{IsChild}
use Rattle.bfs_values.specs.Kinds.{Stays}
use Rattle.bfs_values.specs.Values.{EndsAfter, AreDuplicates, chain_from, chain_of, numbers_of_pages}
use Rattle.bfs_values.proofs.chain.add_chain.Given as goal

abbrev pub invariant-loop-next : goal.invariant-loop-next
invariant-loop-next g l =
    let told = g.P.Pages.told in
    record {
      stays : Stays (told l.fn.pages) (told l.pages) (g.P.Pages.size l.fn.pages) (g.P.Pages.size l.pages) (g.P.Pages.counts l.fn.pages) (g.P.Pages.counts l.pages)
          (g.P.Pages.frame l.fn.pages) (g.P.Pages.frame l.pages) (g.P.Pages.goes_on l.fn.pages l.pages) (g.P.Pages.is_read l.fn.pages l.pages);
      some : 1 ≤ l.left;
      at : IsChild (g.P.Pages.size l.fn.pages) l.at;
      spare : (b : List ℕ) → told l.fn.pages ≡ Some b → (n : ℕ) → EndsAfter b n l.at → n < l.left;
      sure : (b : List ℕ) → told l.fn.pages ≡ Some b → ((n : ℕ) → EndsAfter b n l.at → (m : ℕ) × EndsAfter b m l.first) × (AreDuplicates b (chain_from b l.left l.at) → AreDuplicates b (chain_of b l.first));
      whole : (b : List ℕ) → told l.fn.pages ≡ Some b → ((n : ℕ) × EndsAfter b n l.first) → AreDuplicates b (chain_of b l.first)
          → AreDuplicates b (chain_from b l.left l.at) × ((m : ℕ) × EndsAfter b m l.at)
          × (l.numbers.items ++ numbers_of_pages b (chain_from b l.left l.at) ≡ l.fn.numbers.items ++ numbers_of_pages b (chain_of b l.first))
          × (l.steps + length (chain_from b l.left l.at) ≤ l.fn.steps + length (chain_of b l.first));
    }

abbrev pub decreases-loop-next : goal.decreases-loop-next
decreases-loop-next g l = l.left
