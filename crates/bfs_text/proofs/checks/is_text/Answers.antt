use Rattle.std.proofs.Common.{rules, ◌≡◌, false, sym, ◌∙◌}
use Rattle.bfs_text.specs.Words.{is_number_code}
use Rattle.bfs_text.proofs.Skipping.{text_other}
use Rattle.bfs_text.proofs.checks.is_text.Goals as goal

pub returns : goal.returns
returns c =
    let other : is_number_code c.args.code ≡ false = search rules in
    c.is_escaped.ensures ∙ sym (text_other c.args.code c.args.text.now other)
