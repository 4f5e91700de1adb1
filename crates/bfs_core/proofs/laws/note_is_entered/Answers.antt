use Rattle.bfs_core.proofs.Notes.{note_entered, note_set}
use Rattle.bfs_core.proofs.laws.note_is_entered.Goals as goal

pub returns : goal.returns
returns c = λ t0 sp m e old follows same. (note_entered t0 sp m e old follows same, note_set t0 sp m e old follows same)
