use Rattle.std.proofs.Common.{rules, ◌<◌, ℕ, List, length, ap, sym, ◌∙◌}
use Rattle.std.specs.Option.{is_some}
use Rattle.bfs_text.specs.Words.{unescaped}
use Rattle.bfs_text.proofs.Skipping.{word_step, passes}
use Rattle.bfs_text.proofs.checks.is_escaped.Goals as goal

pub returns-in_default : goal.returns-in_default
returns-in_default c =
    let lt : c.loop-at.at < length c.args.word.now = search rules in
    sym (c.loop-at.invariant.1 ∙ word_step c.args.word.now c.loop-at.at lt ∙ ap (passes (λ (l : List ℕ). is_some (unescaped l))) c.in_default.ensures)

pub loop-at-preserved : goal.loop-at-preserved
loop-at-preserved c =
    let lt : c.loop-at.at < length c.args.word.now = search rules in
    (c.in-Some.ensures.1, c.loop-at.invariant.1 ∙ word_step c.args.word.now c.loop-at.at lt ∙ ap (passes (λ (l : List ℕ). is_some (unescaped l))) c.in-Some.ensures.2)
