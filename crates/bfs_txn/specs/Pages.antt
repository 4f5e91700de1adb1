-- What is told of a stream of pages of 1,024 bytes.
use Rattle.std.specs.Prelude.{◌≡◌, ℕ, ◌+◌, List, [], take, drop, ◌++◌, length, Option, Some, None, IfSome}

-- the page at this place
abbrev pub page_at : List ℕ → ℕ → List ℕ
page_at bytes at = take 1024 (drop at bytes)

-- the page that was read is the one told
abbrev pub IsPageAt : Option (List ℕ) → ℕ → List ℕ → Type 0
IsPageAt told at page = IfSome told (λ bytes. page ≡ page_at bytes at)

-- the stream with this page written
abbrev pub with_page : ℕ → List ℕ → List ℕ → List ℕ
with_page at page bytes = take at bytes ++ page ++ drop (at + length page) bytes

-- what is told of a stream is of its length
abbrev pub HasLength : Option (List ℕ) → ℕ → Type 0
HasLength told n = IfSome told (λ bytes. length bytes ≡ n)

-- a page of the block that was read last, from a byte of the block on
abbrev pub seen_page : ℕ → Option (ℕ × List ℕ) → List ℕ
seen_page start None = []
seen_page start (Some seen) = page_at seen.1 start
