use Rattle.std.proofs.Common.{codes}
use Rattle.std.specs.Fmt.{decimal}
use Rattle.std.proofs.lemmas.Result.{on_ok_weaker}
use Rattle.bfs_tool.proofs.Pieces.{line_of_two}
use Rattle.bfs_tool.proofs.checking.put_whole.Goals as goal

pub returns : goal.returns
returns c =
    on_ok_weaker c.put.result
    (line_of_two c.args.out.now.items c.put_counted.new.out.items c.put_counted-2.new.out.items c.put.new.out.items (codes "whole nodes ") (decimal c.args.nodes) (codes " used ") (decimal c.args.used) (codes "\n") c.in_ok-put_counted.ensures c.in_ok-put_counted-2.ensures)
    c.put.ensures
