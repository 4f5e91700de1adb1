-- Pages that are as long as the blocks.
use Rattle.std.proofs.Common.{◌≡◌, ◌≤◌, ◌+◌, ◌*◌, ◌∙◌, ℕ, List, length, take, drop, Option, Some, sym, ap, arith}
use Rattle.std.specs.Prelude.{slice_get}
use Rattle.std.proofs.lemmas.List.{take_all}
use Rattle.bfs_txn.specs.Pages.{seen_page}
use Rattle.bfs_txn.specs.Told.{AreSized}
use Rattle.bfs_stream.specs.Sizes.{Origin}
use Rattle.bfs_stream.specs.Places.{places_at}
use Rattle.bfs_stream.specs.Told.{contents}
use Rattle.bfs_stream_pages.specs.Held.{IsReadable, stream_of}
use Rattle.bfs_stream_pages.specs.GoesLaws.{are_blocks}
use Rattle.bfs_stream_pages.proofs.Paged.{page_read}
use Rattle.bfs_stream_pages.proofs.Writing.{counted_at}

-- a block that is as long as a page, and was read, is the page
pub whole_read : (o : Origin) (long : ℕ) (m : ℕ → Option (List ℕ)) → IsReadable o long m → AreSized o.sizes.block_size (Some m) → (index start n : ℕ) → slice_get (places_at o.sizes (contents m) o.id) index ≡ Some n → o.sizes.block_size ≡ 1024 → start + 1024 ≤ o.sizes.block_size → o.sizes.block_size * index + start + 1024 ≤ long
    → contents m n ≡ take 1024 (drop (o.sizes.block_size * index + start) (stream_of o m))
whole_read o long m held sized index start n at small inside low =
    let none : start ≡ 0 = omega (arith, small, inside) in
    let size : length (contents m n) ≡ o.sizes.block_size = are_blocks o o.sizes.block_size m held.told sized n (counted_at (places_at o.sizes (contents m) o.id) index n at) in
    sym (take_all 1024 (contents m n) (omega (arith, size, small))) ∙ ap (λ (k : ℕ). take 1024 (drop k (contents m n))) (sym none) ∙ page_read o long m held sized index start n 1024 at inside low

-- and it is the page of the block that was read last
pub whole_seen : (size start n : ℕ) (block : List ℕ) (last : Option (ℕ × List ℕ)) → last ≡ Some (n, block) → length block ≡ size → size ≡ 1024 → start + 1024 ≤ size → seen_page start last ≡ block
whole_seen size start n block last is long small inside =
    let none : start ≡ 0 = omega (arith, small, inside) in
    ap (λ (o : Option (ℕ × List ℕ)). seen_page start o) is ∙ ap (λ (k : ℕ). take 1024 (drop k block)) none ∙ take_all 1024 block (omega (arith, long, small))
