-- Duplicate pages whose links change.
use Rattle.std.proofs.Common.{◌≡◌, ℕ, List, true, cond, ◌==◌, ap, ◌∙◌, arith, w64}
use Rattle.std.specs.Int.{cast_signed}
use Rattle.bfs_bytes.specs.Fields.{unsigned_at, signed64_at}
use Rattle.bfs_pages.specs.Trees.{page_in, neighbours_in, place_of}
use Rattle.bfs_pages.specs.Writes.{PageSet}
use Rattle.bfs_values.specs.Values.{IsDuplicates, page_count, page_numbers, is_ascending}

pub right-same : (old new : List ℕ) → unsigned_at 8 new 8 ≡ unsigned_at 8 old 8 → (neighbours_in new).1 ≡ (neighbours_in old).1
unfolding signed64_at
right-same old new b = λ i. place_of (cast_signed w64 (b i))

pub still-good : (old new : List ℕ) → page_count new ≡ page_count old → page_numbers new ≡ page_numbers old → IsDuplicates old → IsDuplicates new
still-good old new c n g = record {
  some = omega (arith, c, g.some);
  fits = omega (arith, c, g.fits);
  ascend = ap is_ascending n ∙ g.ascend;
}

-- the page that was written
pub page-here : (b c : List ℕ) (at : ℕ) (page : List ℕ) → PageSet b c at page → page_in c at ≡ page
page-here b c at page set = set.pages at ∙ ap (λ t. cond t page (page_in b at)) (same at)
  where
    same : (x : ℕ) → (x == x) ≡ true
    same x = grind arith
