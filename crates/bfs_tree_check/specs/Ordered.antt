-- The order of what is met in a tree from left to right, as far as it was looked at.
use Rattle.std.specs.Prelude.{◌≡◌, ◌≢◌, ◌⊎◌, ℕ, List, [], ◌∷◌, ◌++◌, length, Option, Some, None, Bool, true, ◌==◌, if◌then◌else◌}
use Rattle.bfs_base.specs.declared.kind.KeyKind.{KeyKind}
use Rattle.bfs_node.specs.Page.{IsKeyLength}
use Rattle.bfs_pages.specs.Order.{Key, comes_before, at_most}
use Rattle.bfs_pages.specs.Shapes.{Entry, key_in, Precedes, AscendAll}
use Rattle.bfs_finding.specs.Owners.{In}
use Rattle.bfs_base.specs.Lists.{Has}
use Rattle.bfs_finding.specs.Walks.{Met, leaves_in}
use Rattle.bfs_walk.specs.Walked.{entries_alone}
use Rattle.bfs_tree_check.specs.Levels.{IsThere}
use Rattle.bfs_tree_check.specs.declared.item.Item.{Item}
use Rattle.bfs_tree_check.specs.declared.item.Item.TheVariants as item

-- a key may follow the last one: a row's key is above it, and a key of an interior page at least that; no bytes stand for none
abbrev pub follows : KeyKind → Key → Key → Bool → Bool
follows kind last key row = if length last == 0 then true else (if row then comes_before kind last key else at_most kind last key)

-- a key of the kind, or no bytes
abbrev pub IsLastKey : KeyKind → Key → Type 0
IsLastKey kind last = length last ≢ 0 → IsKeyLength kind (length last)

-- what was met ascends, and its last key is this one
pub record IsUpTo (kind : KeyKind) (front : List Met) (last : Key) : Type 0 where
  pub ascend : AscendAll kind (entries_alone front)
  pub end : ((front ≡ []) × (length last ≡ 0)) ⊎ ((length last ≢ 0) × (before : List Met) × (m : Met) × (front ≡ before ++ m ∷ []) × (key_in m.2 ≡ last))

-- of what is met behind `front`, the row or the key at this place of this page isn't above all before it
pub record IsBroken (kind : KeyKind) (at index : ℕ) (front mets : List Met) : Type 0 where
  pub middle : List Met
  pub back : List Met
  pub entry : Entry
  pub other : Met
  pub are : mets ≡ middle ++ ((at, index, entry) ∷ back)
  pub before : In other (front ++ middle)
  pub wrong : ¬ Precedes kind other.2 entry

-- all of it ascends, or this is the first that doesn't
abbrev pub IsOrdered : KeyKind → ℕ → List Met → List Met → Key → Option ℕ → Type 0
IsOrdered kind at front mets last None = IsUpTo kind (front ++ mets) last
IsOrdered kind at front mets last (Some index) = IsBroken kind at index front mets

-- a page is a leaf of the tree, and a key stands in an interior page of it
abbrev pub IsKnown : KeyKind → List ℕ → Item → Type 0
IsKnown kind bytes (item.Page at) = Has (leaves_in kind bytes) at
IsKnown kind bytes (item.Key page index) = IsThere kind bytes (item.Key page index)
