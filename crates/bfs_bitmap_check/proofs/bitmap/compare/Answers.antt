use Rattle.std.proofs.Common.{◌*◌, ℕ, length, arith, sym, true, false}
use Rattle.bfs_bitmap_check.proofs.Comparing.{same_in, differs, part_is}
use Rattle.bfs_bitmap_check.proofs.bitmap.compare.Goals as goal

pub overflow_mul-per_block : goal.overflow_mul-per_block
overflow_mul-per_block c = omega (arith, c.requires.few)

pub returns-then-at-to-clause-same : goal.returns-then-at-to-clause-same
returns-then-at-to-clause-same c m told k low high =
    let n : ℕ = length c.args.bytes.now in
    let whole = c.if-at-to.true in
    let to_is = c.min-to.ensures in
    same_in n c.requires.some m c.args.bytes.now c.args.j told c.args.claims.now _ (part_is (n * c.args.j) c.bits-bits.result.now c.args.claims.now.bits c.bits-bits.ensures.value) c.min-to.result c.first_difference-at.result c.first_difference-at.ensures (omega arith) k low (omega arith)

pub returns-then-bit_is_clear-clause-wrong : goal.returns-then-bit_is_clear-clause-wrong
returns-then-bit_is_clear-clause-wrong c m told =
    let n : ℕ = length c.args.bytes.now in
    let other = c.if-at-to.false in
    let most = c.first_difference-at.ensures.up_to in
    let to_is = c.min-to.ensures in
    differs n c.requires.some m c.args.bytes.now c.args.j told c.args.claims.now _ (part_is (n * c.args.j) c.bits-bits.result.now c.args.claims.now.bits c.bits-bits.ensures.value) c.min-to.result c.first_difference-at.result c.first_difference-at.ensures (omega arith) (omega arith) (omega arith) true (sym c.if-bit_is_clear.ensures)

pub returns-else-bit_is_clear-clause-wrong : goal.returns-else-bit_is_clear-clause-wrong
returns-else-bit_is_clear-clause-wrong c m told =
    let n : ℕ = length c.args.bytes.now in
    let other = c.if-at-to.false in
    let most = c.first_difference-at.ensures.up_to in
    let to_is = c.min-to.ensures in
    differs n c.requires.some m c.args.bytes.now c.args.j told c.args.claims.now _ (part_is (n * c.args.j) c.bits-bits.result.now c.args.claims.now.bits c.bits-bits.ensures.value) c.min-to.result c.first_difference-at.result c.first_difference-at.ensures (omega arith) (omega arith) (omega arith) false (sym c.if-bit_is_clear.ensures)
