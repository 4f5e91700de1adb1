-- What the steps of an insert make of the bytes of a stream, and why it is refused.
use Rattle.std.specs.Prelude.{◌≡◌, ◌≤◌, ◌+◌, ◌⊎◌, ℕ, ℤ, suc, List, length, Option, Some, ◌==◌, if◌then◌else◌, None, IfSome}
use Rattle.bfs_node.specs.declared.fault.TreeFault.{TreeFault}
use Rattle.bfs_node.specs.declared.fault.TreeFault.TheVariants.{Exists, Absent, Damaged, Pages, NoMemory}
use Rattle.bfs_base.specs.declared.kind.KeyKind.{KeyKind}
use Rattle.bfs_insert.specs.Growth.{StepsDown, RowPut, Heightens, Reaches}
use Rattle.bfs_insert.specs.Divided.{IsRoomy, IsFullPage}
use Rattle.bfs_pages.specs.Order.{Key}
use Rattle.bfs_pages.specs.Shapes.{Shape, place, tree_rows}
use Rattle.bfs_pages.specs.Ways.{under}
use Rattle.bfs_pages.specs.Trees.{page_in, header_in, state_of, place_of, Holds, IsTreeHeader}
use Rattle.bfs_pages.specs.Maps.{assoc}
use Rattle.bfs_pages.specs.Answers.{IsOfKind, IsOutgrown}

-- the two halves of a page, the one beside them and the one above are written
pub record HalvesSet (b c : List ℕ) (at child right next : ℕ) (above below half beside : List ℕ) : Type 0 where
  pub size : length c ≡ length b
  pub header : header_in c ≡ header_in b
  pub pages : (x : ℕ) → 1 ≤ x → page_in c x ≡ (if x == at then above else if x == next then beside else if x == right then half else if x == child then below else page_in b x)

-- A step down the way of a key, from a page whose child on that way is this one: the header stays but for its free
-- pages and the stream's size, and the tree is the same map.
pub record IsStep (kind : KeyKind) (b c : List ℕ) (at child : ℕ) (k : Key) (next : ℕ) : Type 0 where
  pub down : ((reached : List ℕ) (t : Shape) (fs : List ℕ) (d : ℕ) → Holds kind (state_of kind b) reached t fs → suc d ≤ (state_of kind b).levels → place (under kind d t k) ≡ at → place (under kind (suc d) t k) ≡ child)
      → StepsDown kind (state_of kind b) (state_of kind c) at k next
  pub levels : (header_in c).levels ≡ (header_in b).levels
  pub header : IsTreeHeader kind (length b) (header_in b) → IsTreeHeader kind (length c) (header_in c)

-- A step down the way of a key, from this page: the header stays but for its free pages and the stream's size, and the
-- tree is the same map.
pub record IsDown (kind : KeyKind) (b c : List ℕ) (at : ℕ) (k : Key) (next : ℕ) : Type 0 where
  pub down : StepsDown kind (state_of kind b) (state_of kind c) at k next
  pub levels : (header_in c).levels ≡ (header_in b).levels
  pub header : IsTreeHeader kind (length b) (header_in b) → IsTreeHeader kind (length c) (header_in c)

-- a row comes into a leaf, and the header stays
pub record IsPut (kind : KeyKind) (b c : List ℕ) (at : ℕ) (k : Key) (v : ℤ) : Type 0 where
  pub row : RowPut kind (state_of kind b) (state_of kind c) at k v
  pub header : header_in c ≡ header_in b
  pub size : length c ≡ length b

-- The tree is the same map, with this page for its root, which has room, and so many levels.
pub record IsTop (kind : KeyKind) (b c : List ℕ) (root levels : ℕ) : Type 0 where
  pub heightens : Heightens kind (state_of kind b) (state_of kind c)
  pub root_is : place_of (header_in c).root_pointer ≡ root
  pub levels_are : (header_in c).levels ≡ levels
  pub room : IsRoomy (page_in c root)
  pub header : IsTreeHeader kind (length b) (header_in b) → IsTreeHeader kind (length c) (header_in c)

-- the levels are as many as before, or where fewer than 272 bytes of the root were free, one more
abbrev pub HasRisen : List ℕ → ℕ → Type 0
HasRisen b levels = (levels ≡ (header_in b).levels) ⊎ ((levels ≡ (header_in b).levels + 1) × IsFullPage (page_in b (place_of (header_in b).root_pointer)))

-- A key's way leads to this page, from which it goes down so many levels, and the tree is the same map.
pub record IsWay (kind : KeyKind) (b c : List ℕ) (k : Key) (at left : ℕ) : Type 0 where
  pub reaches : Reaches kind (state_of kind b) (state_of kind c) k at left
  pub header : IsTreeHeader kind (length b) (header_in b) → IsTreeHeader kind (length c) (header_in c)
  pub risen : HasRisen b (header_in c).levels

-- A row wasn't put into a tree: its key is there, or a call of the pages failed, or there is no room for a number. No page
-- is damaged.
abbrev pub IsNotPut : {F : Type 0} → KeyKind → Shape → Key → Option (List ℕ) → TreeFault F → Type 0
IsNotPut kind t k now Exists = (v : ℤ) × (assoc kind (tree_rows t) k ≡ Some v)
IsNotPut kind t k now Absent = ⊥
IsNotPut kind t k now (Damaged page sort) = ⊥
IsNotPut kind t k now (Pages fault) = Unit {0}
IsNotPut kind t k now NoMemory = (assoc kind (tree_rows t) k ≡ None) × IfSome now IsOutgrown

-- where the key is there, the stream stays; else a page isn't of its kind, a call of the pages failed, or there is no
-- room for a number
abbrev pub IsHindered : {F : Type 0} → KeyKind → Option (List ℕ) → Option (List ℕ) → (F → Type 0) → TreeFault F → Type 0
IsHindered kind told now cause Exists = now ≡ told
IsHindered kind told now cause Absent = ⊥
IsHindered kind told now cause (Damaged page sort) = IfSome now (λ bytes. ¬ IsOfKind kind bytes page sort)
IsHindered kind told now cause (Pages fault) = cause fault
IsHindered kind told now cause NoMemory = Unit {0}
