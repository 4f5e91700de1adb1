use Rattle.std.proofs.Common.{◌≡◌, ◌≤◌, ◌+◌, ◌*◌, List, Some}
use Rattle.std.specs.Prelude.{IsSome}
use Rattle.bfs_smalldata.specs.Items.{Item, items_of}
use Rattle.bfs_rename.specs.Moving.{ArePlain, count_in}
use Rattle.bfs_rename.proofs.Shrinking.{IsOnMove}
use Rattle.bfs_rename.proofs.moves.make_room.Given as goal

abbrev pub invariant-loop-alloc : goal.invariant-loop-alloc
invariant-loop-alloc l = record {
  some : IsSome (items_of l.area);
  few : l.count + count_in l.area ≤ 8192;
  short : l.blocks ≤ 72 * l.count;
  moves : (items : List Item) → items_of l.fn.area ≡ Some items → ArePlain items → IsOnMove l.block_size l.room items l.area l.count l.blocks;
}

abbrev pub decreases-loop-alloc : goal.decreases-loop-alloc
decreases-loop-alloc l = count_in l.area
