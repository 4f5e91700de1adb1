use Rattle.std.proofs.Common.{◌*◌, ◌∙◌, ℕ, ap, arith, refl}
use Rattle.std.specs.Prelude.{length}
use Rattle.bfs_bytes.specs.declared.Run.{Run}
use Rattle.bfs_stream.specs.Sizes.{array_length}
use Rattle.bfs_stream.specs.Places.{used_runs}
use Rattle.bfs_stream.specs.Told.{contents}
use Rattle.bfs_stream.specs.Grown.{table_runs}
use Rattle.bfs_growth.proofs.Rooms.{room_none}
use Rattle.bfs_growth.proofs.Twice.{has_grown_none}
use Rattle.bfs_growth.proofs.next.with_room.Goals as goal

pub returns-then-tables-per_table-clause-grown : goal.returns-then-tables-per_table-clause-grown
returns-then-tables-per_table-clause-grown g c m is owns are = has_grown_none c.args.stream.now c.args.bitmap.now m (g.E.Blocks.told c.args.edits.now) (g.E.Blocks.changed c.args.edits.now) (g.E.Blocks.changed c.args.edits.now) owns is refl

pub returns-in-Ok-clause-ready : goal.returns-in-Ok-clause-ready
returns-in-Ok-clause-ready g c m is owns are = c.in-Ok.ensures.ready m is owns c.args.tables.used c.args.tables.blocks are

pub returns-then-tables-per_table-2-clause-faults : goal.returns-then-tables-per_table-2-clause-faults
returns-then-tables-per_table-2-clause-faults g c m is owns are =
    let o = c.args.stream.now in
    let a = c.array_length.ensures.value in
    let b = c.runs_per_block.ensures.value in
    let full = c.if-tables-per_table.false in
    let most = c.if-tables-per_table-2.true in
    room_none o m owns.stands c.args.tables.used c.args.tables.listed (c.array_length.result * c.runs_per_block.result) (ap (λ (n : ℕ). n * c.runs_per_block.result) a ∙ ap (λ (n : ℕ). array_length o.sizes * n) b)
    (are.2 ∙ ap (λ (r : Run). length (used_runs (table_runs o.sizes (contents m) r))) are.0) (omega (arith, full)) (omega (arith, most))
