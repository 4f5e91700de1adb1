-- The ends of a range, as keys and as places of rows.
use Rattle.std.specs.Prelude.{◌≡◌, ℕ, zero, suc, List, [], ◌∷◌, Option, Some, None, true, false}
use Rattle.bfs_base.specs.declared.kind.KeyKind.{KeyKind}
use Rattle.bfs_base.specs.declared.kind.KeyKind.TheVariants.{Text, I32, U32, I64, U64, F32, F64}
use Rattle.bfs_node.specs.Page.{Row}
use Rattle.bfs_pages.specs.Order.{Key}
use Rattle.bfs_range.specs.Ranges.{is_upto}

-- the bytes of a key of each kind that no other is below
abbrev pub least_of : KeyKind → Key
least_of Text = []
least_of I32 = 0 ∷ 0 ∷ 0 ∷ 128 ∷ []
least_of U32 = 0 ∷ 0 ∷ 0 ∷ 0 ∷ []
least_of I64 = 0 ∷ 0 ∷ 0 ∷ 0 ∷ 0 ∷ 0 ∷ 0 ∷ 128 ∷ []
least_of U64 = 0 ∷ 0 ∷ 0 ∷ 0 ∷ 0 ∷ 0 ∷ 0 ∷ 0 ∷ []
least_of F32 = []
least_of F64 = []

-- the lower end, or the least key
abbrev pub low_end : KeyKind → Option Key → Key
low_end kind None = least_of kind
low_end kind (Some low) = low

-- the first row with a key above the upper end is at this place, or there is none and it is the end
abbrev pub EndsAt : KeyKind → List Row → Option Key → ℕ → Type 0
EndsAt kind [] high i = i ≡ 0
EndsAt kind (r ∷ rs) high zero = is_upto kind high r.0 ≡ false
EndsAt kind (r ∷ rs) high (suc i) = (is_upto kind high r.0 ≡ true) × EndsAt kind rs high i
