use Rattle.std.proofs.Common.{sym, refl, arith}
use Rattle.std.proofs.lemmas.List.{set_past}
use Rattle.bfs_stream.specs.Told.{contents}
use Rattle.bfs_stream.specs.Grown.{table_runs}
use Rattle.bfs_stream.specs.declared.table.TheConstants.{NO_RUN}
use Rattle.bfs_stream.proofs.Belows.{all_places}
use Rattle.bfs_growth.proofs.adding.end_below.Goals as goal

pub returns-then-place-listed-clause-put : goal.returns-then-place-listed-clause-put
returns-then-place-listed-clause-put g c m is tables listed =
    let size = all_places c.args.stream.now.sizes c.args.array m c.args.listed c.array_length.result c.runs_per_block.result tables.arrays c.array_length.ensures.value c.runs_per_block.ensures.value listed in
    c.put_below.ensures.put m is tables (omega (arith, size, c.if-place-listed.true))

pub returns-then-place-listed-clause-written : goal.returns-then-place-listed-clause-written
returns-then-place-listed-clause-written g c m is tables listed =
    let size = all_places c.args.stream.now.sizes c.args.array m c.args.listed c.array_length.result c.runs_per_block.result tables.arrays c.array_length.ensures.value c.runs_per_block.ensures.value listed in
    c.put_below.ensures.written m is tables (omega (arith, size, c.if-place-listed.true))

pub returns-then-place-listed-clause-sound : goal.returns-then-place-listed-clause-sound
returns-then-place-listed-clause-sound g c m is tables listed =
    let size = all_places c.args.stream.now.sizes c.args.array m c.args.listed c.array_length.result c.runs_per_block.result tables.arrays c.array_length.ensures.value c.runs_per_block.ensures.value listed in
    c.put_below.ensures.sound m is tables (omega (arith, size, c.if-place-listed.true))

pub returns-clause-put : goal.returns-clause-put
returns-clause-put g c m is tables listed =
    let s = c.args.stream.now.sizes in
    let size = all_places s c.args.array m c.args.listed c.array_length.result c.runs_per_block.result tables.arrays c.array_length.ensures.value c.runs_per_block.ensures.value listed in
    record {
      map = m;
      is = is;
      listed = refl;
      runs = sym (set_past (table_runs s (contents m) c.args.array) c.args.place NO_RUN (omega (arith, size, c.if-place-listed.false)));
      tables = tables;
      others = λ k none. refl;
    }
