-- Steps one after the other.
use Rattle.std.proofs.Common.{ℕ, List, Option, Bool}
use Rattle.bfs_super.specs.declared.geometry.Geometry.{Geometry}
use Rattle.bfs_bitmap.specs.Runs.{Room}
use Rattle.bfs_tree.specs.Trees.{Tree}
use Rattle.bfs_shift.specs.Lists.{Lists}
use Rattle.bfs_shift.specs.Work.{IsStepped}
use Rattle.bfs_moves.proofs.Ends.{goes_on_twice}

-- two steps are one
pub stepped_twice : (g : Geometry) (v now later : Room) (m : ℕ → Option (List ℕ)) (tree mid after : Tree) (lists last : Lists) (loose left : List ℕ) (told1 told2 : Option (ℕ → Option (List ℕ))) (c0 c1 c2 : ℕ → Bool)
    (one : IsStepped g v now m tree mid lists loose told1 c0 c1) → IsStepped g now later one.map mid after last left told2 c1 c2 → IsStepped g v later m tree after last left told2 c0 c2
stepped_twice g v now later m tree mid after lists last loose left told1 told2 c0 c1 c2 one two = record {
  map = two.map;
  is = two.is;
  work = two.work;
  goes_on = goes_on_twice g v now later m one.map two.map tree mid after c0 c1 c2 one.goes_on two.goes_on;
}
