use Rattle.bfs_shift.proofs.Maps.{directory_has_rows}
use Rattle.bfs_shift.proofs.streams.directory_has_rows.Goals as goal

pub returns : goal.returns
returns c = λ g d v now m rows told old new tree lists loose n of some stocked is dir since bytes. directory_has_rows g v now m rows told old new tree lists loose of some stocked d n is dir since bytes
