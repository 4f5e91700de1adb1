use Rattle.std.proofs.Common.{rules, ◌≡◌, Bool, true, false, ◌&&◌, nat_le, nat_lt, length, ap, sym, ◌∙◌}
use Rattle.bfs_script.proofs.Far.{far_is}
use Rattle.bfs_script.proofs.lines.is_too_far.Goals as goal

pub returns-then-end-ge268435456-clause-far : goal.returns-then-end-ge268435456-clause-far
returns-then-end-ge268435456-clause-far c =
    let test : nat_le 268435456 c.args.end ≡ true = search rules in
    ap (λ (t : Bool). t && nat_lt 268435456 (length c.args.bytes.now)) (sym test) ∙ far_is c.args.bytes.now c.args.start c.args.end c.requires.end c.args.number c.requires.inside c.requires.before c.requires.number

pub returns-else-end-ge268435456-clause-far : goal.returns-else-end-ge268435456-clause-far
returns-else-end-ge268435456-clause-far c =
    let test : nat_le 268435456 c.args.end ≡ false = search rules in
    test ∙ ap (λ (t : Bool). t && nat_lt 268435456 (length c.args.bytes.now)) (sym test) ∙ far_is c.args.bytes.now c.args.start c.args.end c.requires.end c.args.number c.requires.inside c.requires.before c.requires.number
