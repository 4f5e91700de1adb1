-- The state that calls act on: a tree, the holds that sessions have on files, and the bytes that are known.
use Rattle.std.specs.Prelude.{◌-◌, ◌≡◌, ◌<◌, ℕ, ◌+◌, List, [], ◌∷◌, Option, Some, None, Bool, not, ◌&&◌, ◌||◌, ◌==◌, nat_lt, nat_le, if◌then◌else◌, length, slice_index}
use Rattle.std.specs.List.{find, list_any}
use Rattle.std.specs.declared.cmp.Ordering.{Ordering}
use Rattle.std.specs.Ordering.{nat_cmp, ordering_then}
use Rattle.std.specs.FinMap.{FinMap, get, insert, retain_keys}
use Rattle.bfs_tree.specs.declared.state.Hold.{Hold}
use Rattle.bfs_tree.specs.Trees.{Tree}

-- places of files are in the order of the id, then of the place
abbrev pub place_cmp : ℕ × ℕ → ℕ × ℕ → Ordering
place_cmp a b = ordering_then (nat_cmp a.0 b.0) (nat_cmp a.1 b.1)

-- bytes of files, each at its (id, place)
abbrev pub Known : Type 0
Known = FinMap place_cmp ℕ

pub record State : Type 0 where
  pub tree : Tree
  pub holds : List Hold
  pub known : Known

-- the first hold on the node that is in conflict: one for writing with every other, and two for reading never
abbrev pub conflict : List Hold → ℕ → Bool → Option Hold
conflict holds id writes = find (λ h. (h.id == id) && (writes || h.write)) holds

abbrev pub is_hold_of : ℕ → ℕ → Hold → Bool
is_hold_of session id h = (h.session == session) && (h.id == id)

-- the session's last hold on the node
abbrev pub last_hold : List Hold → ℕ → ℕ → Option Hold
last_hold [] session id = None
last_hold (h ∷ hs) session id =
    if list_any (is_hold_of session id) hs then last_hold hs session id
    else if is_hold_of session id h then Some h else None

-- the holds without that one
abbrev pub without_last : List Hold → ℕ → ℕ → List Hold
without_last [] session id = []
without_last (h ∷ hs) session id =
    if list_any (is_hold_of session id) hs then h ∷ without_last hs session id
    else if is_hold_of session id h then hs else h ∷ hs

-- the place stands in the node's bytes from `at` on, `count` many
abbrev pub is_in : ℕ → ℕ → ℕ → ℕ × ℕ → Bool
is_in id at count place = (nat_le at place.1 && nat_lt (place.1 - at) count) && (place.0 == id)

-- what is known but for these places: all of a node, those of a node from a place on, and a piece
abbrev pub forget_node : Known → ℕ → Known
forget_node known id = retain_keys known (λ place. not (place.0 == id))

abbrev pub forget_from : Known → ℕ → ℕ → Known
forget_from known id size = retain_keys known (λ place. not (nat_le size place.1 && (place.0 == id)))

abbrev pub forget_piece : Known → ℕ → ℕ → ℕ → Known
forget_piece known id at count = retain_keys known (λ place. not (is_in id at count place))

-- what is known, and these bytes of the node from `at` on
abbrev pub learn : Known → ℕ → ℕ → List ℕ → Known
learn known id at [] = known
learn known id at (b ∷ bs) = learn (insert known (id, at) b) id (at + 1) bs

-- the bytes are those that are known, wherever one is known at their place
abbrev pub AgreesWith : Known → ℕ → ℕ → List ℕ → Type 0
AgreesWith known id at bytes = (k b : ℕ) → k < length bytes → get known (id, at + k) ≡ Some b → slice_index bytes k ≡ b
