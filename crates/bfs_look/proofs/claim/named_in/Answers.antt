use Rattle.bfs_look.proofs.Claiming.{copied_own}
use Rattle.bfs_look.proofs.claim.named_in.Goals as goal

pub returns-else-place-ne-CSTR : goal.returns-else-place-ne-CSTR
returns-else-place-ne-CSTR c = copied_own c.args.area.now c.in-Some.place c.copied.result c.requires c.in-Some.ensures c.if-place-ne-CSTR.false c.copied.ensures
