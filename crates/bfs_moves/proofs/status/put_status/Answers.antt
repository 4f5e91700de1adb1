use Rattle.std.proofs.Common.{rules, ◌≡◌, ◌∙◌, ◌/◌, ◌<◌, ◌^◌, ap, arith}
use Rattle.bfs_moves.proofs.Statused.{status_set}
use Rattle.bfs_moves.proofs.status.put_status.Goals as goal

pub returns-clause-set : goal.returns-clause-set
returns-clause-set c =
    let few : c.with_permissions-bits.result < 2 ^ 32 = omega arith in
    status_set c.args.status c.args.block.now c.put_fields.new.block c.with_permissions-bits.result few
    (c.with_permissions-bits.ensures.kind ∙ ap (λ b. b / 4096) c.u32_at.ensures) c.with_permissions-bits.ensures.mode c.note_words.ensures c.put_fields.ensures.inode c.put_fields.ensures.stream
