-- Which fragments values have named: for each page of a stream a word of sixteen bits, one for each fragment that the page may have.
use Rattle.std.specs.Prelude.{◌/◌, ◌==◌, ◌&&◌, ℕ, List, get_or, not, nat_lt, if◌then◌else◌}
use Rattle.std.specs.Int.{bit_at}
use Rattle.bfs_pages.specs.Trees.{is_place}

-- so often a fragment of the page that begins at a place was named: once or never
unfoldable pub named : ℕ → List ℕ → ℕ → ℕ → ℕ
named size names x f = if is_place size x && nat_lt f 16 then bit_at (get_or names (x / 1024) 0) f else 0

-- one of the page's fragments was: once or never
unfoldable pub parted : ℕ → List ℕ → ℕ → ℕ
parted size names x = if is_place size x && not (get_or names (x / 1024) 0 == 0) then 1 else 0
