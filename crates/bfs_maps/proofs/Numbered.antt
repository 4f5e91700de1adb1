-- A map of numbers among trees whose rows may mean anything.
use Rattle.std.proofs.Common.{ℕ, List, Bool, Option, sym, subst}
use Rattle.bfs_base.specs.declared.kind.KeyKind.{KeyKind}
use Rattle.bfs_bitmap.specs.Runs.{Room}
use Rattle.bfs_node.specs.Page.{Row}
use Rattle.bfs_pages.specs.Order.{Key}
use Rattle.bfs_stream.specs.Sizes.{Origin}
use Rattle.bfs_stream_pages.specs.Held.{stream_of}
use Rattle.bfs_maps.specs.Mapped.{IsMap, HasRowsNow}
use Rattle.bfs_maps.specs.NumberTrees.{AreNumbers}
use Rattle.bfs_maps.specs.RowTrees.{HasTree, HasTreeWith, AreRowsNow}
use Rattle.bfs_maps.proofs.Looked.{holds_number}

pub map_tree : (kind : KeyKind) (o : Origin) (v : Room) (m : ℕ → Option (List ℕ)) → IsMap kind o v m → HasTree kind o v m
map_tree kind o v m d = record { held = d.held; tree = d.tree.tree }

pub map_tree_with : (kind : KeyKind) (key : Key) (o : Origin) (v : Room) (m : ℕ → Option (List ℕ)) → IsMap kind o v m → HasTreeWith kind key o v m
map_tree_with kind key o v m d = record { held = d.held; tree = holds_number kind key (stream_of o m) d.tree }

-- a tree that has rows of numbers since is a map that has them
pub numbered : (kind : KeyKind) (o : Origin) (v now : Room) (m : ℕ → Option (List ℕ)) (rows : List Row) (told : Option (ℕ → Option (List ℕ))) (old new : ℕ → Bool) → AreNumbers rows → AreRowsNow kind o v now m rows told old new → HasRowsNow kind o v now m rows told old new
numbered kind o v now m rows told old new all s = record {
  map = s.map;
  is = s.is;
  held = s.held;
  bytes = record { tree = record { tree = s.bytes.tree; numbers = subst AreNumbers (sym s.bytes.rows_are) all }; rows_are = s.bytes.rows_are };
  moved = s.moved;
  written = s.written;
  stays = s.stays;
  fresh = s.fresh;
}
