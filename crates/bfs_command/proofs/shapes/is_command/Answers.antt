use Rattle.std.proofs.Common.{List, ap, sym, ◌∙◌}
use Rattle.bfs_command.specs.declared.shapes.WordKind.{WordKind}
use Rattle.bfs_command.specs.Shapes.{are_words}
use Rattle.bfs_command.proofs.Shaped.{command_fits}
use Rattle.bfs_command.proofs.shapes.is_command.Goals as goal

pub returns : goal.returns
returns c = c.are_words.ensures ∙ ap (λ (k : List WordKind). are_words k c.args.words.now) c.shape_of.ensures ∙ sym (command_fits c.args.verb c.args.words.now)
