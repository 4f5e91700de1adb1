use Rattle.std.proofs.Common.{◌≤◌, ℕ, nat_le, arith}
use Rattle.std.proofs.lemmas.Bool.{cond_both}
use Rattle.bfs_super.specs.Geometry.{log_length}
use Rattle.bfs_mkfs.proofs.Planned.{planned_of}
use Rattle.bfs_mkfs.proofs.layout.layout_of.Goals as goal

pub returns-in-Ok-clause-planned : goal.returns-in-Ok-clause-planned
returns-in-Ok-clause-planned c =
    let low : 2 ≤ log_length c.args.blocks = cond_both (nat_le c.args.blocks 20480) 512 2048 (λ (n : ℕ). 2 ≤ n) (λ _. omega arith) (λ _. omega arith) in
    let high : log_length c.args.blocks ≤ 2048 = cond_both (nat_le c.args.blocks 20480) 512 2048 (λ (n : ℕ). n ≤ 2048) (λ _. omega arith) (λ _. omega arith) in
    planned_of c.args.blocks c.args.block_size (log_length c.args.blocks) c.in-Ok.geometry c.requires.size c.requires.length low high c.in-Ok.ensures.ok
