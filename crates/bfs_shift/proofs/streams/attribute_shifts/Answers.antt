use Rattle.bfs_shift.proofs.Attributes.{attribute_shifts, attribute_kept}
use Rattle.bfs_shift.proofs.streams.attribute_shifts.Goals as goal

pub returns : goal.returns
returns c = λ v tree lists loose new id n d row stocked is at among shifts. (attribute_shifts v tree lists loose new id n d row stocked is at among shifts, attribute_kept v tree lists loose new id n d row stocked is at among shifts)
