-- The parts of a path.
use Rattle.std.specs.Prelude.{ℕ, List, [], ◌-◌, length, take, get_or}

-- all parts of a node's path but the last, which lead to its folder, and the last, which is its name
abbrev pub folders : List (List ℕ) → List (List ℕ)
folders path = take (length path - 1) path

abbrev pub last_name : List (List ℕ) → List ℕ
last_name path = get_or path (length path - 1) []
