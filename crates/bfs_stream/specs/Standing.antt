-- What stays of the runs that were given back while a call gives back more.
use Rattle.std.specs.Prelude.{List, [], ◌∷◌, filter, is_some, if◌then◌else◌}
use Rattle.bfs_bitmap.specs.declared.given.Given.{Given}
use Rattle.bfs_bitmap.specs.Runs.{Room}

-- the runs that have a group's number
abbrev pub with_number : List Given → List Given
with_number gs = filter (λ g. is_some g.group) gs

-- the runs before the first one whose call isn't kept yet
abbrev pub kept_first : List Given → List Given
kept_first [] = []
kept_first (g ∷ gs) = if g.kept then g ∷ kept_first gs else []

-- the runs from that one on
abbrev pub kept_not : List Given → List Given
kept_not [] = []
kept_not (g ∷ gs) = if g.kept then kept_not gs else g ∷ gs

-- The kept runs in front stay, and of the others those that have a number: what a call gives back stands behind, and has no number yet.
unfoldable pub standing : Room → List Given × List Given
standing v = (kept_first v.given, with_number (kept_not v.given))
