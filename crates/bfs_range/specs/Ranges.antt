-- Which rows lie in a range of keys.
use Rattle.std.specs.Prelude.{List, Option, Some, None, Bool, true, not, ◌&&◌}
use Rattle.std.specs.List.{filter, list_any}
use Rattle.bfs_base.specs.declared.kind.KeyKind.{KeyKind}
use Rattle.bfs_node.specs.Page.{Row}
use Rattle.bfs_pages.specs.Order.{Key, at_most}

-- a key isn't below the lower end
abbrev pub is_from : KeyKind → Option Key → Key → Bool
is_from kind None k = true
is_from kind (Some low) k = at_most kind low k

-- a key isn't above the upper end
abbrev pub is_upto : KeyKind → Option Key → Key → Bool
is_upto kind None k = true
is_upto kind (Some high) k = at_most kind k high

-- the rows whose keys are from the lower end to the upper end, both inclusive, in their order
abbrev pub rows_between : KeyKind → Option Key → Option Key → List Row → List Row
rows_between kind low high rows = filter (λ r. is_from kind low r.0 && is_upto kind high r.0) rows

-- one of the rows has a key above the upper end
abbrev pub has_above : KeyKind → Option Key → List Row → Bool
has_above kind high rows = list_any (λ r. not (is_upto kind high r.0)) rows
