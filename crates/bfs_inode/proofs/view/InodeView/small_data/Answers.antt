use Rattle.std.proofs.Common.{ap, ◌∙◌, drop}
use Rattle.std.proofs.lemmas.List.{take_rest}
use Rattle.bfs_inode.proofs.view.InodeView.small_data.Goals as goal

pub returns : goal.returns
returns c = take_rest c.self.inside.block.now 232 ∙ ap (drop 232) c.self.view_is
