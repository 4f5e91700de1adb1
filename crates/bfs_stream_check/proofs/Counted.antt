-- The blocks of runs are counted.
use Rattle.std.proofs.Common.{◌≡◌, ◌≤◌, ◌<◌, ◌+◌, ◌*◌, ℕ, List, [], ◌∷◌, ◌++◌, length, take, get_or, refl, sym, ap, ◌∙◌, arith, length-append}
use Rattle.std.proofs.lemmas.List.{take_more, take_all}
use Rattle.std.proofs.lemmas.Grind.{flat_map-append}
use Rattle.bfs_bytes.specs.declared.Run.{Run}
use Rattle.bfs_stream.specs.Sizes.{Sizes, first_block}
use Rattle.bfs_stream.specs.Places.{blocks_of, run_blocks}
use Rattle.bfs_stream.proofs.Levels.{length-counted}
use Rattle.bfs_stream_check.proofs.Flat.{append_nil}

pub joined_blocks : (s : Sizes) (xs ys : List Run) → blocks_of s (xs ++ ys) ≡ blocks_of s xs ++ blocks_of s ys
joined_blocks s xs ys = flat_map-append (run_blocks s) xs ys

pub counted_next : (s : Sizes) (runs : List Run) (i count : ℕ) (d : Run) → i < length runs → count ≡ length (blocks_of s (take i runs)) → count + (get_or runs i d).len ≡ length (blocks_of s (take (i + 1) runs))
counted_next s runs i count d inside so_far =
    let r : Run = get_or runs i d in
    let parts : blocks_of s (take (i + 1) runs) ≡ blocks_of s (take i runs) ++ run_blocks s r =
    ap (blocks_of s) (take_more runs i d inside) ∙ joined_blocks s (take i runs) (r ∷ []) ∙ ap (λ (l : List ℕ). blocks_of s (take i runs) ++ l) (append_nil (run_blocks s r)) in
    let size = length-counted (first_block s r) r.len in
    let both = length-append (blocks_of s (take i runs)) (run_blocks s r) in
    let e = ap length parts in
    omega (arith, size, both, e, so_far)

pub counted_end : (s : Sizes) (runs : List Run) (i count : ℕ) → length runs ≤ i → count ≡ length (blocks_of s (take i runs)) → count ≡ length (blocks_of s runs)
counted_end s runs i count past so_far = so_far ∙ ap (λ (l : List Run). length (blocks_of s l)) (take_all i runs past)
