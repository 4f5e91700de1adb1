use Rattle.std.proofs.Common.{◌<◌, ◌+◌, ◌/◌, ◌^◌, refl, arith, rules, FitsSigned}
use Rattle.std.specs.Int.{w32}
use Rattle.bfs_stream.proofs.Entries.{put_is}
use Rattle.bfs_stream.proofs.Writes.{put_written}
use Rattle.bfs_stream.proofs.stream.Stream.put_in_array.Goals as goal

pub returns-in-Ok-set-clause-put : goal.returns-in-Ok-set-clause-put
returns-in-Ok-set-clause-put g c m is told =
    let run = c.args.run in
    let group : FitsSigned w32 run.group = search rules in
    let start : run.start < 2 ^ 16 = search rules in
    let len : run.len < 2 ^ 16 = search rules in
    put_is c.args.self.now.sizes c.args.array run c.args.place c.first_block.result c.runs_per_block-runs.result m (g.E.Blocks.told c.args.edits.now) (g.E.Blocks.told c.get.new.self) (g.E.Blocks.told c.set.new.self) c.get.new.into c.put_run.new.bytes
    is told c.runs_per_block-runs.ensures.value c.runs_per_block-runs.ensures.some c.runs_per_block-runs.ensures.whole c.first_block.ensures.value c.requires.inside c.in-Ok.ensures.bytes (let a = c.get.auto.into in let b = c.requires.length in omega (arith, a, b)) c.put_run.ensures
    c.in-Ok.ensures.told c.in-Ok-set.ensures.told group start len

pub returns-in-Ok-set-clause-written : goal.returns-in-Ok-set-clause-written
returns-in-Ok-set-clause-written g c =
    put_written c.args.self.now.sizes c.args.array c.args.place c.first_block.result c.runs_per_block-runs.result (c.first_block.result + c.args.place / c.runs_per_block-runs.result) (g.E.Blocks.changed c.args.edits.now) (g.E.Blocks.changed c.get.new.self) (g.E.Blocks.changed c.set.new.self)
    c.first_block.ensures.value c.runs_per_block-runs.ensures.value (let some = c.runs_per_block-runs.ensures.some in omega (arith, some)) c.requires.inside refl c.in-Ok.ensures.changed c.in-Ok-set.ensures.changed
