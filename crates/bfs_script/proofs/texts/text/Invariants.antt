use Rattle.std.proofs.Common.{◌≡◌, ◌++◌, drop}
use Rattle.bfs_script.specs.Texts.{text_of, text_from}
use Rattle.bfs_script.specs.Readers.{reads_in}
use Rattle.bfs_script.proofs.texts.text.Given as goal

abbrev pub invariant-entries : goal.invariant-entries
invariant-entries l = text_of l.history ≡ l.out.items ++ text_from (reads_in l.readers.items) (drop l.at l.history)
