use Rattle.bfs_shift.proofs.Directories.{content_changed}
use Rattle.bfs_shift.proofs.streams.content_changes.Goals as goal

pub returns : goal.returns
returns c = λ v tree lists loose new d n now rows stocked is stream shifts kept bytes same status content_is rows_are. content_changed v tree lists loose new d n now rows stocked is stream shifts kept bytes same status content_is rows_are
