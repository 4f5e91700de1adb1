use Rattle.std.proofs.Common.{rules, ◌<◌, length, drop, ap, sym, ◌∙◌}
use Rattle.bfs_command.specs.Shapes.{are_words}
use Rattle.bfs_command.proofs.Shaped.{none_left}
use Rattle.bfs_command.proofs.shapes.are_words.Goals as goal

pub returns-in_default : goal.returns-in_default
returns-in_default c =
    let lt : c.kinds.at < length c.args.kinds.now = search rules in
    sym (c.kinds.invariant ∙ ap (are_words (drop c.kinds.at c.args.kinds.now)) c.in_default.ensures.0 ∙ none_left c.args.kinds.now c.kinds.at lt)
