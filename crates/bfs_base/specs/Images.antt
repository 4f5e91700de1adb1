-- An image of a disk is a list of bytes, read in sectors of 512 bytes and in blocks of r sectors.
use Rattle.std.specs.Prelude.{◌<◌, ℕ, zero, suc, ◌+◌, ◌*◌, List, [], ◌++◌, length, take, drop, get_or}

-- the sector with this number
abbrev pub sector : ℕ → List ℕ → List ℕ
sector k bytes = take 512 (drop (512 * k) bytes)

-- the block with this number, of r sectors
abbrev pub block : ℕ → ℕ → List ℕ → List ℕ
block r b image = take (512 * r) (drop (512 * (r * b)) image)

-- f 0, f 1 .. so many, in one list
abbrev pub joined : ℕ → (ℕ → List ℕ) → List ℕ
joined zero f = []
joined (suc n) f = f 0 ++ joined n (λ j. f (suc j))

-- the image with these bytes from this sector on
abbrev pub overwritten : ℕ → List ℕ → List ℕ → List ℕ
overwritten at bytes image = take (512 * at) image ++ bytes ++ drop (512 * at + length bytes) image

-- each element is a byte
abbrev pub IsBytes : List ℕ → Type 0
IsBytes xs = (i : ℕ) → get_or xs i 0 < 256
