use Rattle.std.proofs.Common.{◌∙◌, ap, set, arith}
use Rattle.std.proofs.lemmas.List.Edits.{map_over_more}
use Rattle.bfs_bitmap.specs.Givens.{numbered}
use Rattle.bfs_bitmap.proofs.given.number_all.Goals as goal

pub loop-i-preserved : goal.loop-i-preserved
loop-i-preserved c =
    ap (set c.loop-i.given.items c.loop-i.i) c.with_number.ensures
    ∙ map_over_more (numbered c.args.group) c.args.given.now.items c.loop-i.given.items c.loop-i.i c.index-run.result.now (omega arith) c.loop-i.invariant c.index-run.ensures
