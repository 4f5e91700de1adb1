use Rattle.std.proofs.Common.{◌∙◌, ap, sym, cond, ◌==◌, Bool}
use Rattle.std.specs.Int.{bit_at}
use Rattle.bfs_bitmap.proofs.InBytes.{with_set, with_clear}
use Rattle.bfs_bitmap.proofs.bits.with_bit.Goals as goal

pub returns-then-used : goal.returns-then-used
returns-then-used c j h = with_set c.args.byte c.args.bit j c.requires h ∙ ap (λ (u : Bool). cond (j == c.args.bit) (cond u 1 0) (bit_at c.args.byte j)) (sym c.if-used.true)

pub returns-else-used : goal.returns-else-used
returns-else-used c j h = with_clear c.args.byte c.args.bit j c.requires h ∙ ap (λ (u : Bool). cond (j == c.args.bit) (cond u 1 0) (bit_at c.args.byte j)) (sym c.if-used.false)
