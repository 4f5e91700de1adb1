use Rattle.std.proofs.Common.{arith}
use Rattle.bfs_node.proofs.RowsRead.{nothing-written}
use Rattle.bfs_node.proofs.write.make_blank.Goals as goal

pub returns-clause-rows : goal.returns-clause-rows
returns-clause-rows c = record {
  size = c.begin.ensures.size;
  count = c.begin.ensures.count_field;
  key_bytes = c.begin.ensures.bytes_field;
  small = λ m h. absurd (omega arith);
  fits = omega arith;
  written = nothing-written c.begin.new.page 32 32;
}
