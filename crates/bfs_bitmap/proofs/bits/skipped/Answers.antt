use Rattle.std.proofs.Common.{arith, ◌≡◌, ◌%◌, ◌/◌, get_or}
use Rattle.bfs_bitmap.proofs.InBytes.{same_byte, same_eight}
use Rattle.bfs_bitmap.proofs.bits.skipped.Goals as goal

pub returns-then-to-i-lt64-clause-same : goal.returns-then-to-i-lt64-clause-same
returns-then-to-i-lt64-clause-same c =
    let whole : c.args.i % 8 ≡ 0 = grind arith in
    let byte : get_or c.args.bytes.now (c.args.i / 8) 0 ≡ c.whole_byte-whole.result = grind arith in
    same_byte c.args.bytes.now c.args.i c.whole_byte-whole.result c.args.clear c.whole_byte-whole.ensures whole byte

pub returns-then-are_eight-clause-same : goal.returns-then-are_eight-clause-same
returns-then-are_eight-clause-same c =
    let whole : c.args.i % 8 ≡ 0 = grind arith in
    same_eight c.args.bytes.now c.args.i c.whole_byte-whole.result c.args.clear c.whole_byte-whole.ensures whole (c.are_eight.ensures c.if-are_eight.true)

pub returns-clause-same : goal.returns-clause-same
returns-clause-same c =
    let whole : c.args.i % 8 ≡ 0 = grind arith in
    let byte : get_or c.args.bytes.now (c.args.i / 8) 0 ≡ c.whole_byte-whole.result = grind arith in
    same_byte c.args.bytes.now c.args.i c.whole_byte-whole.result c.args.clear c.whole_byte-whole.ensures whole byte
