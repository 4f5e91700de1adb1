-- What the calls on pages do to what the pages say.
use Rattle.std.specs.Prelude.{◌≡◌, List, ◌≢◌, ◌≤◌, ◌+◌, ◌%◌, ℕ, Option, Some, None, ◌⊎◌}
use Rattle.bfs_node.specs.Lists.{times}
use Rattle.bfs_node.specs.BaseKeyKind.{KeyKind}
use Rattle.bfs_pages.specs.Order.{Key}
use Rattle.bfs_pages.specs.Shapes.{Body, leaf_body, inner_body}
use Rattle.bfs_pages.specs.Ways.{pick_of}
use Rattle.bfs_pages.specs.Trees.{State}

-- the child of an interior page that a key leads to
abbrev pub child_in : KeyKind → Option Body → Key → Option ℕ
child_in kind None k = None
child_in kind (Some (leaf_body rows)) k = None
child_in kind (Some (inner_body keys last)) k = Some (pick_of kind keys last k)

-- all but one page is as before
pub record Same (old new : State) (q : ℕ) : Type 0 where
  pub bodies : (x : ℕ) → x ≢ q → new.bodies x ≡ old.bodies x
  pub frees : (x : ℕ) → x ≢ q → new.frees x ≡ old.frees x
  pub links : (x : ℕ) → x ≢ q → new.links x ≡ old.links x
  pub pages : (x : ℕ) → x ≢ q → new.pages x ≡ old.pages x

-- the pages of a list are as they were
abbrev pub Stay : State → State → List ℕ → Type 0
Stay st new reached = (x : ℕ) → 1 ≤ times x reached → new.pages x ≡ st.pages x

-- pages but these three are as they were
pub record Others (old new : State) (a b c : ℕ) : Type 0 where
  pub bodies : (x : ℕ) → x ≢ a → x ≢ b → x ≢ c → new.bodies x ≡ old.bodies x
  pub frees : (x : ℕ) → x ≢ a → x ≢ b → x ≢ c → new.frees x ≡ old.frees x
  pub root : new.root ≡ old.root
  pub levels : new.levels ≡ old.levels
  pub free : new.free ≡ old.free
  pub size : new.size ≡ old.size

-- the first free page is taken, or where there is none, a page is appended
abbrev pub Taken : State → State → ℕ → Type 0
Taken st new q = Same st new q × (new.root ≡ st.root) × (new.levels ≡ st.levels)
    × (((st.free ≢ 0) × (q ≡ st.free) × (st.frees q ≡ Some new.free) × (new.frees q ≡ st.frees q) × (new.bodies q ≡ st.bodies q) × (new.links q ≡ st.links q) × (new.size ≡ st.size))
    ⊎ ((st.free ≡ 0) × (q ≡ st.size) × (new.free ≡ st.free) × (new.size ≡ st.size + 1024) × (st.size % 1024 ≡ 0)))
