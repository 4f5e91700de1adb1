use Rattle.std.proofs.Common.{◌∙◌}
use Rattle.bfs_dups.proofs.Pages.{other-count}
use Rattle.bfs_dups_add.proofs.making.page_of_pair.Goals as goal

pub returns-clause-page : goal.returns-clause-page
returns-clause-page c = record {
  good = c.set_pair.ensures.good;
  numbers_are = c.set_pair.ensures.numbers;
  free = λ j s n. other-count c.free_all.new.page c.set_pair.new.page 0 j c.set_pair.ensures.others n ∙ c.free_all.ensures.free j s;
}
