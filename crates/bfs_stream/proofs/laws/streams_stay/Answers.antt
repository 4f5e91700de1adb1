use Rattle.std.proofs.Common.{◌∙◌, ap}
use Rattle.bfs_inode.specs.Inode.{Stream}
use Rattle.bfs_stream.specs.Places.{Levels, levels_at}
use Rattle.bfs_stream.proofs.Frames.{levels_same, levels_but, bytes_same}
use Rattle.bfs_stream.proofs.laws.streams_stay.Goals as goal

pub returns-clause-levels : goal.returns-clause-levels
returns-clause-levels c s old new id agree = levels_same old new s id agree

pub returns-clause-bytes : goal.returns-clause-bytes
returns-clause-bytes c s old new id agree = bytes_same old new s id agree

pub returns-clause-fields : goal.returns-clause-fields
returns-clause-fields c s old new id agree same =
    levels_but old new s id agree (ap (λ (t : Stream). t.indirect) same) (ap (λ (t : Stream). t.double_indirect) same)
    ∙ ap (λ (t : Stream). let l : Levels = record (levels_at s old id) { stream = t } in l) same
