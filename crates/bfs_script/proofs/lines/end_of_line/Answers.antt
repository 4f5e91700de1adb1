use Rattle.bfs_script.proofs.Far.{line_cut}
use Rattle.bfs_script.proofs.lines.end_of_line.Goals as goal

pub returns-clause-lines : goal.returns-clause-lines
returns-clause-lines c = line_cut c.args.bytes.now c.args.start c.find_feed.result c.requires c.find_feed.ensures
