use Rattle.bfs_words.proofs.Plain.{plain_label, plain_blocks, plain_size_first, plain_name_first, plain_equals, plain_check, plain_shell, plain_workers, plain_joined, plain_soak}
use Rattle.bfs_words.proofs.laws.plain_spellings.Goals as goal

pub returns : goal.returns
returns c = record {
  label = plain_label;
  blocks = plain_blocks;
  size_first = plain_size_first;
  name_first = plain_name_first;
  equals = plain_equals;
  check = plain_check;
  shell = plain_shell;
  workers = plain_workers;
  joined = plain_joined;
  soak = plain_soak;
}
