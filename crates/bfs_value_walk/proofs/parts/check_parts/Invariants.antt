use Rattle.std.proofs.Common.{◌≡◌, ◌<◌, ◌*◌, ℕ, List, Bool, Some}
use Rattle.bfs_base.specs.declared.kind.KeyKind.{KeyKind}
use Rattle.bfs_txn.specs.Faults.{AreLater}
use Rattle.bfs_values.specs.Rows.{rows_in}
use Rattle.bfs_value_walk.specs.Met.{AreMarked}
use Rattle.bfs_value_walk.specs.Named.{parted}
use Rattle.bfs_value_walk.specs.Taken.{AreNamed}
use Rattle.bfs_value_walk.proofs.parts.check_parts.Given as goal

abbrev pub invariant-loop-i : goal.invariant-loop-i
invariant-loop-i g l = record {
  told : g.P.Pages.told l.pages ≡ g.P.Pages.told l.fn.pages;
  size : g.P.Pages.size l.pages ≡ g.P.Pages.size l.fn.pages;
  later : AreLater (g.P.Pages.counts l.fn.pages) (g.P.Pages.counts l.pages);
  frame : g.P.Pages.frame l.pages ≡ g.P.Pages.frame l.fn.pages;
  goes_on : g.P.Pages.goes_on l.fn.pages l.pages;
  is_read : g.P.Pages.is_read l.fn.pages l.pages;
  named : (kind : KeyKind) (b : List ℕ) (marks : List Bool) → g.P.Pages.told l.fn.pages ≡ Some b → AreMarked kind b (rows_in kind b) (g.P.Pages.size l.fn.pages) marks l.names
      → (j : ℕ) → j < l.i → 0 < parted (g.P.Pages.size l.fn.pages) l.names (1024 * j) → AreNamed b (g.P.Pages.size l.fn.pages) l.names (1024 * j);
}
