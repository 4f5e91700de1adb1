use Rattle.std.proofs.Common.{◌≡◌, ◌∙◌, List, ℕ}
use Rattle.bfs_pages.specs.Trees.{header_in}
use Rattle.bfs_pages.proofs.OfKind.{if_some}
use Rattle.bfs_names_walk.proofs.walk.walk_rows.Goals as goal

pub returns-clause-whole : goal.returns-clause-whole
returns-clause-whole g c = λ b told.
    let is = if_some (λ (z : List ℕ). c.in-Ok.header ≡ header_in z) _ b c.in-Ok.ensures.header told in
    c.walk_below.ensures.whole b (c.in-Ok.ensures.told ∙ told) is

pub returns-clause-wrong : goal.returns-clause-wrong
returns-clause-wrong g c = λ b told.
    let is = if_some (λ (z : List ℕ). c.in-Ok.header ≡ header_in z) _ b c.in-Ok.ensures.header told in
    c.walk_below.ensures.wrong b (c.in-Ok.ensures.told ∙ told) is
