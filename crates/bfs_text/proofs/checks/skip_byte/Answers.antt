use Rattle.std.proofs.Common.{rules, ◌≡◌, ◌==◌, true, get_or}
use Rattle.bfs_text.proofs.Skipping.{short_skip}
use Rattle.bfs_text.proofs.checks.skip_byte.Goals as goal

pub returns-then-word-at-lt3 : goal.returns-then-word-at-lt3
returns-then-word-at-lt3 c =
    let test : (get_or c.args.word.now c.args.at 0 == 37) ≡ true = search rules in
    short_skip c.args.word.now c.args.at c.requires test c.if-word-at-lt3.true
