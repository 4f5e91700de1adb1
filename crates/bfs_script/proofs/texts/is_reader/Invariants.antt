use Rattle.std.proofs.Common.{◌≡◌, take}
use Rattle.bfs_script.specs.Readers.{reads_in}
use Rattle.bfs_script.proofs.texts.is_reader.Given as goal

abbrev pub invariant-readers : goal.invariant-readers
invariant-readers l = l.found ≡ reads_in (take l.at l.readers) l.session
