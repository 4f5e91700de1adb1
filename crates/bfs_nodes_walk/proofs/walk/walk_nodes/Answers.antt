use Rattle.std.proofs.Common.{◌∙◌, sym}
use Rattle.bfs_nodes_walk.proofs.walk.walk_nodes.Goals as goal

pub follow_all-requires-clause-all : goal.follow_all-requires-clause-all
follow_all-requires-clause-all g c m told = c.requires.all m (sym c.in-Ok.ensures.told ∙ told)

pub returns-in-Ok-follow_all-clause-walked : goal.returns-in-Ok-follow_all-clause-walked
returns-in-Ok-follow_all-clause-walked g c m xs told a = c.in-Ok-follow_all.ensures.walked m xs (c.in-Ok.ensures.told ∙ told) (c.in-Ok.ensures.begun m xs told a)

pub returns-in-Err-clause-wrong : goal.returns-in-Err-clause-wrong
returns-in-Err-clause-wrong g c m xs told a = c.in-Err.ensures.wrong m told

pub returns-in-Err-clause-taken : goal.returns-in-Err-clause-taken
returns-in-Err-clause-taken g c m xs told a = c.in-Err.ensures.taken m xs told a

pub returns-in-Err-follow_all-clause-wrong : goal.returns-in-Err-follow_all-clause-wrong
returns-in-Err-follow_all-clause-wrong g c m xs told a = c.in-Err-follow_all.ensures.wrong m xs (c.in-Ok.ensures.told ∙ told) (c.in-Ok.ensures.begun m xs told a)

pub returns-in-Err-follow_all-clause-taken : goal.returns-in-Err-follow_all-clause-taken
returns-in-Err-follow_all-clause-taken g c m xs told a = c.in-Err-follow_all.ensures.taken m xs (c.in-Ok.ensures.told ∙ told) (c.in-Ok.ensures.begun m xs told a)
