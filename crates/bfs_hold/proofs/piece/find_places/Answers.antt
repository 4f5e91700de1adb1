use Rattle.std.proofs.Common.{◌≡◌, ◌/◌, ◌∙◌, ℕ, take, drop, length, MatchResult, arith, ap, subst}
use Rattle.bfs_stream.specs.Places.{places_at}
use Rattle.bfs_stream.specs.Scans.{IsDamage}
use Rattle.bfs_stream.specs.Sizes.{sizes_of}
use Rattle.bfs_stream.specs.Told.{contents}
use Rattle.bfs_hold.specs.Places.{piece_blocks}
use Rattle.bfs_hold.proofs.Listed.{fits_in, few_blocks}
use Rattle.bfs_hold.proofs.piece.find_places.Goals as goal

pub blocks_from-requires-clause-few : goal.blocks_from-requires-clause-few
blocks_from-requires-clause-few g c =
    let is = c.piece_length-blocks.ensures in
    let long = c.has_long_blocks.ensures in
    let same : c.from-size.result ≡ c.args.sup.now.block_size = c.from-size.ensures in
    let few = few_blocks c.from-size.result c.args.at c.args.count (omega (arith, long, same)) c.requires.short in
    omega (arith, is, few)

pub returns-clause-found : goal.returns-clause-found
returns-clause-found g c m told stands all few =
    let s = c.args.sup.now in
    let blocks = places_at (sizes_of s) (contents m) c.args.id in
    let long = c.has_long_blocks.ensures in
    let same : c.from-size.result ≡ s.block_size = c.from-size.ensures in
    let first : c.index_of-first.result ≡ c.args.at / s.block_size = c.index_of-first.ensures.value ∙ ap (λ (n : ℕ). c.args.at / n) same in
    let count : c.piece_length-blocks.result ≡ piece_blocks s.block_size c.args.at c.args.count = c.piece_length-blocks.ensures ∙ ap (λ (n : ℕ). piece_blocks n c.args.at c.args.count) same in
    let fits = fits_in s.block_size c.args.at c.args.count (length blocks) (omega (arith, long)) few in
    let got = c.blocks_from.ensures.found m told stands all (omega (arith, first, count, fits)) in
    subst (λ (p : ℕ × ℕ). MatchResult c.blocks_from.result (λ u. c.blocks_from.new.places.items ≡ take p.1 (drop p.0 blocks)) (λ fault. ¬ IsDamage fault)) (λ i. (first i, count i)) got
