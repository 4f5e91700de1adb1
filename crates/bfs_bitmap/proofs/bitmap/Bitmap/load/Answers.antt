use Rattle.std.proofs.Common.{◌≡◌, ◌*◌, ◌<◌, ◌≤◌, ◌∙◌, ◌+◌, ◌&&◌, not, ap, ℕ, arith, length}
use Rattle.bfs_bitmap.proofs.Looks.{times_le, shown_at, whole_bytes}
use Rattle.bfs_bitmap.specs.Bits.{is_clear, in_run}
use Rattle.bfs_bitmap.specs.Runs.{Room, is_reserved}
use Rattle.bfs_bitmap.proofs.bitmap.Bitmap.load.Goals as goal

pub overflow_mul-base : goal.overflow_mul-base
overflow_mul-base g c =
    let same : c.per_block-bits.result * c.args.j ≡ 8 * c.args.self.now.block_size * c.args.j = ap (λ (n : ℕ). n * c.args.j) c.per_block-bits.ensures.value in
    let inside : 8 * c.args.self.now.block_size * c.args.j < c.args.self.now.blocks = c.requires.inside in
    let few = c.per_block-bits.ensures.sizes.few_blocks in
    omega (arith, same, inside)

pub overflow_add-j : goal.overflow_add-j
overflow_add-j g c =
    let some = c.per_block-bits.ensures.sizes.some_bytes in
    let le : c.args.j ≤ 8 * c.args.self.now.block_size * c.args.j = times_le (8 * c.args.self.now.block_size) c.args.j (omega arith) in
    let inside : 8 * c.args.self.now.block_size * c.args.j < c.args.self.now.blocks = c.requires.inside in
    let few = c.per_block-bits.ensures.sizes.few_blocks in
    omega (arith, le, inside)

pub mark_run-requires : goal.mark_run-requires
mark_run-requires g c =
    let same : c.per_block-bits.result * c.args.j ≡ 8 * c.args.self.now.block_size * c.args.j = ap (λ (n : ℕ). n * c.args.j) c.per_block-bits.ensures.value in
    let inside : 8 * c.args.self.now.block_size * c.args.j < c.args.self.now.blocks = c.requires.inside in
    let few = c.per_block-bits.ensures.sizes.few_blocks in
    let small = c.per_block-bits.ensures.sizes.few_bytes in
    let long = c.requires.length in
    omega (arith, same, inside)

pub returns-clause-shows : goal.returns-clause-shows
returns-clause-shows g c m is has =
    let long : length c.get.new.into ≡ c.args.self.now.block_size = let e = c.requires.length in omega arith in
    shown_at c.args.self.now m c.args.j c.per_block-bits.result (g.B.Blocks.told c.args.under.now) c.get.new.into c.reserve.new.bytes c.mark_run.new.bytes c.per_block-bits.ensures.sizes c.per_block-bits.ensures.value is has c.requires.inside
    (let e = long in omega arith) c.in_ok-get.ensures.bytes (λ i h.
    c.reserve.ensures i (omega arith)
    ∙ ap (λ (n : ℕ). is_clear c.get.new.into i && not (is_reserved c.args.self.now.given (n + i))) (whole_bytes c.per_block-bits.result c.args.self.now.block_size c.args.j c.per_block-bits.ensures.value)) (λ i h.
    c.mark_run.ensures i (omega arith)
    ∙ ap (λ (v : Room). is_clear c.reserve.new.bytes i && not (in_run v.blocks c.per_block-bits.result (c.per_block-bits.result * c.args.j + i))) c.self.view_is)
