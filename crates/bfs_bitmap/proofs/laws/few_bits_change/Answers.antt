use Rattle.bfs_bitmap.proofs.Listed.{has_bits, only_bits, few_bits}
use Rattle.bfs_bitmap.proofs.laws.few_bits_change.Goals as goal

pub returns-clause-bits : goal.returns-clause-bits
returns-clause-bits c v first len k = (has_bits v first len k, only_bits v first len k)

pub returns-clause-few : goal.returns-clause-few
returns-clause-few c = few_bits
