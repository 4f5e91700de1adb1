-- The value of a row is written into its leaf.
use Rattle.std.specs.Prelude.{◌≡◌, ◌≢◌, ℕ, ℤ, List, [], ◌∷◌, length, Option, Some, None, IfSome, if◌then◌else◌}
use Rattle.bfs_base.specs.declared.kind.KeyKind.{KeyKind}
use Rattle.bfs_node.specs.Page.{Row, rows_of}
use Rattle.bfs_node.specs.declared.fault.TreeFault.{TreeFault}
use Rattle.bfs_node.specs.declared.fault.TreeFault.TheVariants.{Exists, Absent, Damaged, Pages, NoMemory}
use Rattle.bfs_pages.specs.Answers.{IsOfKind}
use Rattle.bfs_pages.specs.Maps.{assoc}
use Rattle.bfs_pages.specs.Order.{Key, same_keys}
use Rattle.bfs_pages.specs.Shapes.{leaf_body}
use Rattle.bfs_pages.specs.Trees.{page_in, header_in, body_in, neighbours_in}
use Rattle.bfs_pages.specs.Ways.{KeysAscend}

-- rows, where that of a key has this value
abbrev pub with_value : KeyKind → List Row → Key → ℤ → List Row
with_value kind [] k v = []
with_value kind (r ∷ rs) k v = (if same_keys kind k r.0 then (r.0, v) else r) ∷ with_value kind rs k v

-- the row of a key has this value in a leaf, whose other rows and neighbours are those that it had; and all other pages stay
pub record IsValued (kind : KeyKind) (b c : List ℕ) (leaf : ℕ) (k : Key) (v : ℤ) : Type 0 where
  pub size : length c ≡ length b
  pub header : header_in c ≡ header_in b
  pub others : (x : ℕ) → x ≢ leaf → page_in c x ≡ page_in b x
  pub links : neighbours_in (page_in c leaf) ≡ neighbours_in (page_in b leaf)
  pub body : KeysAscend kind (rows_of (page_in b leaf)) → body_in kind (page_in c leaf) ≡ Some (leaf_body (with_value kind (rows_of (page_in b leaf)) k v))

-- Where a leaf has no row of the key, the stream stays; else the page just read is no leaf, or a call of the pages failed.
abbrev pub IsNotValued : {F : Type 0} → KeyKind → Option (List ℕ) → Option (List ℕ) → (F → Type 0) → ℕ → Key → TreeFault F → Type 0
IsNotValued kind told now cause leaf k Exists = ⊥
IsNotValued kind told now cause leaf k Absent = (now ≡ told) × IfSome told (λ bytes. KeysAscend kind (rows_of (page_in bytes leaf)) → assoc kind (rows_of (page_in bytes leaf)) k ≡ None)
IsNotValued kind told now cause leaf k (Damaged page sort) = (now ≡ told) × IfSome told (λ bytes. ¬ IsOfKind kind bytes page sort)
IsNotValued kind told now cause leaf k (Pages fault) = cause fault
IsNotValued kind told now cause leaf k NoMemory = ⊥
