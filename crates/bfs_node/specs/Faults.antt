-- Why bytes are no header and no page of a B+tree: the first refusal in the order in which it is tested.
use Rattle.std.specs.Prelude.{◌≡◌, ◌<◌, ◌≤◌, ℕ, List}
use Rattle.bfs_base.specs.declared.kind.KeyKind.{KeyKind}
use Rattle.bfs_node.specs.declared.fault.PageFault.{PageFault}
use Rattle.bfs_node.specs.declared.fault.PageFault.TheVariants.{Magic, Size, Kind, Bounds, Ends}
use Rattle.bfs_node.specs.declared.header.Header.{Header}
use Rattle.bfs_node.specs.Header.{HasMagic, HasSize, HasKind}
use Rattle.bfs_node.specs.Page.{count_at, key_bytes_at, HasBounds, HasEnd, HasLastEnd}

-- of a header
abbrev pub IsHeaderRefusal : Header → PageFault → Type 0
IsHeaderRefusal h (Magic found) = ¬ HasMagic h × (found ≡ h.magic)
IsHeaderRefusal h (Size found) = HasMagic h × ¬ HasSize h × (found ≡ h.node_size)
IsHeaderRefusal h (Kind found) = HasMagic h × HasSize h × ¬ HasKind h × (found ≡ h.data_type)
IsHeaderRefusal h (Bounds count bytes) = ⊥
IsHeaderRefusal h (Ends index) = ⊥

-- Of a page of a kind of keys. `index` is the place of the first key whose end is wrong, or the number of keys,
-- where each key is right and the last one doesn't end where the keys' bytes do.
abbrev pub IsPageRefusal : KeyKind → List ℕ → PageFault → Type 0
IsPageRefusal kind page (Bounds count bytes) = ¬ HasBounds page × (count ≡ count_at page) × (bytes ≡ key_bytes_at page)
IsPageRefusal kind page (Ends index) =
    HasBounds page × (index ≤ count_at page) × ((j : ℕ) → j < index → HasEnd kind page j)
    × (index < count_at page → ¬ HasEnd kind page index) × (index ≡ count_at page → ¬ HasLastEnd page)
IsPageRefusal kind page (Magic found) = ⊥
IsPageRefusal kind page (Size found) = ⊥
IsPageRefusal kind page (Kind found) = ⊥
