-- The rows of a range over a whole tree of names, as a directory is listed.
use Rattle.std.proofs.Common.{◌≡◌, ◌∙◌, ℕ, ℤ, List, [], ◌∷◌, ◌++◌, None, refl, sym, ap, ap₂, map}
use Rattle.std.specs.List.{flat_map}
use Rattle.bfs_base.specs.declared.kind.KeyKind.{KeyKind}
use Rattle.bfs_node.specs.Page.{Row}
use Rattle.bfs_range.specs.Answers.{answer_of}
use Rattle.bfs_range.specs.Ranges.{rows_between}
use Rattle.bfs_super.specs.Conditions.{natural}
use Rattle.bfs_values.specs.Values.{values_in, numbers_in}
use Rattle.bfs_maps.specs.NumberTrees.{AreNumbers, IsNumber}
use Rattle.bfs_maps.proofs.Plain.{number_link}
use Rattle.bfs_dir.specs.Directories.{dir_rows, listed}
use Rattle.bfs_dir.specs.declared.rows.DirRow.{DirRow}

-- a range without ends has all rows
pub all_between : (kind : KeyKind) (rows : List Row) → rows_between kind None None rows ≡ rows
all_between kind [] = refl
all_between kind (r ∷ rs) = ap (λ (l : List Row). r ∷ l) (all_between kind rs)

one_number : (b : List ℕ) (value : ℤ) → IsNumber value → values_in b value ≡ natural value ∷ []
one_number b value x = ap (numbers_in b) (number_link value x) ∙ ap (λ (n : ℕ). n ∷ []) (sym (ap natural x.1))

-- each row has one number
pub listed_is : (b : List ℕ) (rows : List Row) → AreNumbers rows → flat_map dir_rows (answer_of b rows) ≡ listed rows
listed_is b [] all = refl
listed_is b (r ∷ rs) all =
    ap₂ (λ (a c : List DirRow). a ++ c) (ap (λ (ns : List ℕ). map (λ n. record { name = r.0; id = n }) ns) (one_number b r.1 all.0)) (listed_is b rs all.1)
