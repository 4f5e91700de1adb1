-- A step of the plain tree that gives one node another place, and what the lists gain and lose by it. Nothing of blocks or bytes.
use Rattle.std.specs.Prelude.{◌≡◌, ◌≢◌, ℕ, ℤ, pos, List, Option, Some, None, codes}
use Rattle.std.specs.Option.{option_map}
use Rattle.std.specs.FinMap.{get}
use Rattle.bfs_base.specs.declared.kind.KeyKind.{KeyKind}
use Rattle.bfs_base.specs.declared.kind.KeyKind.TheVariants.{Text}
use Rattle.bfs_pages.specs.Maps.{assoc}
use Rattle.bfs_tree.specs.declared.call.Kind.{Kind}
use Rattle.bfs_tree.specs.declared.call.Kind.TheVariants.{Dir}
use Rattle.bfs_tree.specs.Listings.{key_at, relisted}
use Rattle.bfs_tree.specs.Trees.{Node, Tree, IsNode}
use Rattle.bfs_shift.specs.Lists.{Lists}

-- where a node stands: its kind, its name and its parent
pub record Seat : Type 0 where
  pub kind : Kind
  pub name : List ℕ
  pub parent : ℕ

abbrev pub seat : Node → Seat
seat n = record { kind = n.kind; name = n.name; parent = n.parent }

abbrev pub seat_at : Tree → ℕ → Option Seat
seat_at tree id = option_map seat (get tree.nodes id)

-- Trees with the same root and indices, in which every node but one stands where it did, and has the keys that it had in each index.
-- The one node may have come, gone, or moved, and where it stays it is of the same kind.
pub record ChangesSeat (old new : Tree) (e : ℕ) : Type 0 where
  pub root : new.root ≡ old.root
  pub not_root : e ≢ old.root
  pub indices : new.indices ≡ old.indices
  pub kind : (n m : Node) → IsNode old e n → IsNode new e m → m.kind ≡ n.kind
  pub others : (q : ℕ) → q ≢ e → seat_at new q ≡ seat_at old q
  pub keys : (q : ℕ) → q ≢ e → (index : List ℕ) (kind : KeyKind) → key_at new index kind q ≡ key_at old index kind q

-- the node stands in this directory under this name
abbrev pub StandsAt : Tree → ℕ → ℕ → List ℕ → Type 0
StandsAt tree e d name = (n : Node) × IsNode tree e n × (n.parent ≡ d) × (n.name ≡ name)

-- what a directory had under a name, and nothing where it wasn't there
abbrev pub had : Lists → ℕ → List ℕ → Option Seat → Option ℤ
had lists e name None = None
had lists e name (Some s) = assoc Text (lists.rows e) name

-- The rows of directories follow the one node: the name that it has leads to it, a name that it had and hasn't leads nowhere, and
-- all other names lead where they did. Where it is a directory itself, it has `.` and `..`, and of a directory that came no more,
-- and of one that was there what it had.
pub record RowsFollow (old new : Tree) (lists now : Lists) (e : ℕ) : Type 0 where
  pub came : (d : ℕ) (name : List ℕ) → StandsAt new e d name → assoc Text (now.rows d) name ≡ Some (pos e)
  pub went : (d : ℕ) (name : List ℕ) → StandsAt old e d name → ¬ StandsAt new e d name → d ≢ e → assoc Text (now.rows d) name ≡ None
  pub stayed : (d : ℕ) (name : List ℕ) → ¬ StandsAt old e d name → ¬ StandsAt new e d name → d ≢ e
      → assoc Text (now.rows d) name ≡ assoc Text (lists.rows d) name
  pub itself : (n : Node) → IsNode new e n → n.kind ≡ Dir → assoc Text (now.rows e) (codes ".") ≡ Some (pos e)
  pub up : (n : Node) → IsNode new e n → n.kind ≡ Dir → assoc Text (now.rows e) (codes "..") ≡ Some (pos n.parent)
  pub within : (n : Node) → IsNode new e n → n.kind ≡ Dir → (name : List ℕ) → name ≢ codes "." → name ≢ codes ".."
      → assoc Text (now.rows e) name ≡ had lists e name (seat_at old e)

-- The indices follow it: of each, the pair of the node's old key goes, and that of its new key comes.
pub record PairsFollow (new : Tree) (lists now : Lists) (e : ℕ) : Type 0 where
  pub names : now.names ≡ lists.names
  pub kinds : (index : List ℕ) → now.kinds index ≡ lists.kinds index
  pub pairs : (index : List ℕ) (value : ℤ) → assoc Text lists.names index ≡ Some value
      → now.pairs index ≡ relisted (lists.kinds index) e (key_at new index (lists.kinds index) e) (lists.pairs index)
