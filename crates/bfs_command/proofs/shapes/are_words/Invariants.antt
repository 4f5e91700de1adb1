use Rattle.std.proofs.Common.{◌≡◌, drop}
use Rattle.bfs_command.specs.Shapes.{are_words}
use Rattle.bfs_command.proofs.shapes.are_words.Given as goal

abbrev pub invariant-kinds : goal.invariant-kinds
invariant-kinds l = are_words l.kinds l.fn.words ≡ are_words (drop l.at l.kinds) l.words
