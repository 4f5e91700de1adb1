use Rattle.bfs_shift.proofs.Maps.{names_have_rows}
use Rattle.bfs_shift.proofs.streams.names_have_rows.Goals as goal

pub returns : goal.returns
returns c = λ g v now m rows told old new tree lists loose of some stocked there since bytes. names_have_rows g v now m rows told old new tree lists loose of some stocked there since bytes
