-- A list of rows as a sorted map from keys to values.
use Rattle.std.specs.Prelude.{ℤ, List, [], ◌∷◌, Option, Some, None, if◌then◌else◌}
use Rattle.bfs_node.specs.BaseKeyKind.{KeyKind}
use Rattle.bfs_node.specs.Page.{Row}
use Rattle.bfs_pages.specs.Order.{Key, at_most, same_keys}

-- the value at a key
abbrev pub assoc : KeyKind → List Row → Key → Option ℤ
assoc kind [] k = None
assoc kind (r ∷ rs) k = if same_keys kind k r.0 then Some r.1 else assoc kind rs k

-- the rows with one put among them, before the first whose key isn't less
abbrev pub put : KeyKind → List Row → Key → ℤ → List Row
put kind [] k v = (k, v) ∷ []
put kind (r ∷ rs) k v = if at_most kind k r.0 then (k, v) ∷ r ∷ rs else r ∷ put kind rs k v

-- the rows without that of a key
abbrev pub without : KeyKind → List Row → Key → List Row
without kind [] k = []
without kind (r ∷ rs) k = if same_keys kind k r.0 then without kind rs k else r ∷ without kind rs k
