-- A row of a tree of names that names no block.
use Rattle.std.proofs.Common.{◌≡◌, ◌≤◌, ℕ, ℤ, List, subst, sym}
use Rattle.bfs_base.specs.declared.kind.KeyKind.TheVariants.{Text}
use Rattle.bfs_node.specs.Page.{Row}
use Rattle.bfs_values.specs.Rows.{rows_in}
use Rattle.bfs_sound.specs.Volumes.{Volume}
use Rattle.bfs_sound.specs.Inodes.{content}
use Rattle.bfs_sound.specs.Owners.{In}
use Rattle.bfs_finding.specs.Findings.{IsBroken}
use Rattle.bfs_finding.specs.Ways.{HasNames}
use Rattle.bfs_finding.specs.declared.finding.Finding.TheVariants as finds
use Rattle.bfs_node_walk.specs.Listed.{proper, IsOutside}

pub row_outside : (v : Volume) (owner blocks : ℕ) (rows : List Row) (value found : ℤ) → found ≡ value → HasNames v owner → rows ≡ rows_in Text (content v owner) → v.geometry.blocks ≡ blocks → IsOutside blocks rows value
    → IsBroken v (finds.Row owner found)
row_outside v owner blocks rows value found same there are few out =
    subst (λ (z : ℤ). IsBroken v (finds.Row owner z)) (sym same)
    (record {
      there = there;
      name = out.name;
      row = subst (λ (l : List Row). In (out.name, value) (proper l)) are out.there;
      outside = λ k e. subst (λ (n : ℕ). n ≤ k) (sym few) (out.outside k e);
    })
