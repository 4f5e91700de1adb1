use Rattle.bfs_shift.proofs.Attributes.{attribute_rows_shift, attribute_rows_kept}
use Rattle.bfs_shift.proofs.streams.attribute_rows_shift.Goals as goal

pub returns : goal.returns
returns c = λ v tree lists gone come loose new id n d stocked is at shifts same. (attribute_rows_shift v tree lists gone come loose new id n d stocked is at shifts same, attribute_rows_kept v tree lists gone come loose new id n d stocked is at shifts same)
