use Rattle.std.proofs.Common.{◌≤◌, ◌∙◌, inr, List, ℕ, length, refl, sym, subst}
use Rattle.bfs_stream.specs.Told.{contents}
use Rattle.bfs_sound.specs.Whole.{volume_of}
use Rattle.bfs_finding.specs.Ways.{to_child}
use Rattle.bfs_node_check.specs.declared.role.Role.TheVariants as roles
use Rattle.bfs_node_walk.proofs.Known.{dir_stream}
use Rattle.bfs_inode_walk.proofs.Claiming.{untaken_taken}
use Rattle.bfs_node_walk.proofs.node.visit_child.Goals as goal

pub returns-in-Err-clause-wrong : goal.returns-in-Err-clause-wrong
returns-in-Err-clause-wrong g c m told arrives = c.in-Err.ensures.wrong m (to_child c.args.parent c.args.row.now) told refl arrives

pub returns-in-Err-clause-taken : goal.returns-in-Err-clause-taken
returns-in-Err-clause-taken g c m xs told a = c.in-Err.ensures.taken m xs told a

pub check_named-requires-clause-long : goal.check_named-requires-clause-long
check_named-requires-clause-long g c = subst (λ (l : List ℕ). 1024 ≤ length l) (sym c.deref.ensures.value) c.in-Ok.ensures.long

pub check_named-requires-clause-node : goal.check_named-requires-clause-node
check_named-requires-clause-node g c v same = c.in-Ok.ensures.node refl v (same ∙ c.deref.ensures.value)

pub finish-requires-clause-all : goal.finish-requires-clause-all
finish-requires-clause-all g c m told = c.requires.all m (sym c.in-Ok.ensures.told ∙ told)

pub finish-requires-clause-long : goal.finish-requires-clause-long
finish-requires-clause-long g c = c.in-Ok.ensures.long

pub finish-requires-clause-bytes : goal.finish-requires-clause-bytes
finish-requires-clause-bytes g c m told = c.in-Ok.ensures.read m (sym c.in-Ok.ensures.told ∙ told)

pub finish-requires-clause-stream : goal.finish-requires-clause-stream
finish-requires-clause-stream g c m told dir =
    let before = sym c.in-Ok.ensures.told ∙ told in
    dir_stream (volume_of c.args.sup.now (contents m)) roles.Child c.args.id (c.in-Ok.ensures.sound m before) dir

pub returns-in-Ok-finish-clause-sound : goal.returns-in-Ok-finish-clause-sound
returns-in-Ok-finish-clause-sound g c m told = c.in-Ok.ensures.sound m told

pub returns-in-Ok-finish-clause-named : goal.returns-in-Ok-finish-clause-named
returns-in-Ok-finish-clause-named g c m told =
    c.in-Ok-check_named.ensures.named (volume_of c.args.sup.now (contents m)) (sym (c.deref.ensures.value ∙ c.in-Ok.ensures.read m told)) refl

pub returns-in-Ok-finish-clause-rows : goal.returns-in-Ok-finish-clause-rows
returns-in-Ok-finish-clause-rows g c m told = c.in-Ok-finish.ensures.rows m (c.in-Ok.ensures.told ∙ told)

pub returns-in-Ok-finish-clause-bytes : goal.returns-in-Ok-finish-clause-bytes
returns-in-Ok-finish-clause-bytes g c m told = c.in-Ok-finish.ensures.bytes ∙ c.in-Ok.ensures.read m told

pub returns-in-Ok-finish-clause-claimed : goal.returns-in-Ok-finish-clause-claimed
returns-in-Ok-finish-clause-claimed g c m xs told a = c.in-Ok.ensures.claimed m xs told a

pub returns-in-Err-check_named-clause-wrong : goal.returns-in-Err-check_named-clause-wrong
returns-in-Err-check_named-clause-wrong g c m told arrives =
    c.in-Err-check_named.ensures.wrong (volume_of c.args.sup.now (contents m)) (sym (c.deref.ensures.value ∙ c.in-Ok.ensures.read m told)) refl arrives

pub returns-in-Err-check_named-clause-taken : goal.returns-in-Err-check_named-clause-taken
returns-in-Err-check_named-clause-taken g c m xs told a = untaken_taken xs _ c.args.id c.in-Err-check_named.fault c.in-Err-check_named.ensures.untaken

pub returns-in-Err-check_named-clause-cause : goal.returns-in-Err-check_named-clause-cause
returns-in-Err-check_named-clause-cause g c = c.in-Err-check_named.ensures.cause (g.B.Blocks.counts c.args.under.now) (g.B.Blocks.counts c.visit_inode.new.under)

pub returns-in-Err-finish-clause-wrong : goal.returns-in-Err-finish-clause-wrong
returns-in-Err-finish-clause-wrong g c m told arrives = c.in-Err-finish.ensures.wrong m (c.in-Ok.ensures.told ∙ told) (inr (c.args.row.now, arrives))

pub returns-in-Err-finish-clause-taken : goal.returns-in-Err-finish-clause-taken
returns-in-Err-finish-clause-taken g c m xs told a = untaken_taken xs _ c.args.id c.in-Err-finish.fault c.in-Err-finish.ensures.untaken
