use Rattle.std.proofs.Common.{[], ◌∙◌}
use Rattle.bfs_stream.specs.Grown.{Owns}
use Rattle.bfs_stream.specs.Sizes.{sizes_of}
use Rattle.bfs_set_size.proofs.Allowed.{within_need}
use Rattle.bfs_set_size.proofs.Owned.{file_owns, owner_told}
use Rattle.bfs_set_size.proofs.allowance.set_size_allowance.Goals as goal

pub returns-in-Err-clause-allowed : goal.returns-in-Err-clause-allowed
returns-in-Err-clause-allowed g c m tree lists n told ready is file = c.in-Err.ensures.found m tree lists n told ready is

pub returns-clause-allowed : goal.returns-clause-allowed
returns-clause-allowed g c m tree lists n told ready is file =
    let s = c.args.sup.now in
    let v = c.args.bitmap.now in
    let id = c.args.id in
    let owns : Owns (record { id = id; sizes = sizes_of s }) v [] m = file_owns s v m tree lists [] id n c.requires.valid ready.work is file in
    c.counted.ensures.counted v m tree lists id n ready is file (c.in-Ok.ensures.found m tree lists n told ready is)
    (c.in-Ok-stream_blocks_of.ensures.counted m (c.in-Ok.ensures.told ∙ told) (owner_told (record { id = id; sizes = sizes_of s }) v m owns) owns.stands.sound)

pub returns-clause-within : goal.returns-clause-within
returns-clause-within g c m tree lists n told ready is file =
    within_need c.args.sup.now c.args.bitmap.now m tree lists ready c.args.id c.args.size c.counted.result (returns-clause-allowed g c m tree lists n told ready is file)
