use Rattle.std.proofs.Common.{◌∙◌, arith}
use Rattle.std.proofs.lemmas.List.{with_items_is}
use Rattle.bfs_stream.proofs.Arrays.{read_is}
use Rattle.bfs_make.proofs.reading.read_block.Goals as goal

pub returns-in-Ok-get-clause-read : goal.returns-in-Ok-get-clause-read
returns-in-Ok-get-clause-read g c m is some =
    with_items_is c.in-Ok.bytes c.get.new.into (let a = c.get.auto.into in let b = c.deref_mut.ensures.len in let d = c.deref_mut.ensures.value in let e = c.in-Ok.bytes.ok in omega (arith, a, b))
    ∙ read_is m (g.B.Blocks.told c.args.under.now) c.args.number c.get.new.into is some c.in-Ok-get.ensures.bytes
