use Rattle.std.proofs.Common.{◌≡◌, ◌∙◌, ◌+◌, ◌-◌, ◌%◌, ℕ, sym, arith}
use Rattle.bfs_commit.specs.Open.{whole_blocks}
use Rattle.bfs_file_io.proofs.Counted.{few_parts}
use Rattle.bfs_file_io.proofs.open.OpenPiece.reads_left.Goals as goal

pub returns-then-self-size-clause-few : goal.returns-then-self-size-clause-few
returns-then-self-size-clause-few c =
    let i = c.self.inside in
    let left : ℕ = c.len.result - i.done in
    let same : c.len-2.result ≡ c.len.result = c.len-2.ensures ∙ sym c.len.ensures in
    let whole : c.count_whole-whole.result ≡ whole_blocks c.args.size ((i.hold.at + i.done) % c.args.size) left =
    c.count_whole-whole.ensures ∙ (λ k. whole_blocks c.args.size (c.skip_at-from.ensures.value k) (same k - i.done)) in
    omega (arith, few_parts c.args.size (i.hold.at + i.done) left c.requires.some, whole, c.count_blocks-blocks.ensures, c.saturating_sub-parts.ensures, c.saturating_sub.ensures)
