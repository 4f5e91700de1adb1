-- Blocks of a volume, as lists of bytes.
use Rattle.std.specs.Prelude.{◌≡◌, ◌⊎◌, List, ℕ, length}

-- as long as one of the four sizes that a volume's blocks may have
abbrev pub IsBlock : List ℕ → Type 0
IsBlock bytes =
    (length bytes ≡ 1024) ⊎ ((length bytes ≡ 2048) ⊎ ((length bytes ≡ 4096) ⊎ (length bytes ≡ 8192)))
