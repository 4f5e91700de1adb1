use Rattle.std.proofs.Common.{ℕ, List, Option, subst}
use Rattle.bfs_txn.specs.Told.{AreOfBlock}
use Rattle.bfs_stream.specs.Places.{places_at}
use Rattle.bfs_stream.specs.Told.{contents}
use Rattle.bfs_stream.proofs.Arrays.{read_is}
use Rattle.bfs_stream_pages.proofs.Writing.{counted_at}
use Rattle.bfs_stream_pages.proofs.backing.Backing.load.Goals as goal

pub returns-clause-found : goal.returns-clause-found
returns-clause-found g c m is stands told =
    let o = c.args.self.now in
    let found = c.in-Ok.ensures.found m is stands in
    let of : AreOfBlock (g.B.Blocks.told c.args.under.now) c.in-Ok.number c.get.new.into = subst (λ (t : Option (ℕ → Option (List ℕ))). AreOfBlock t c.in-Ok.number c.get.new.into) c.in-Ok.ensures.told c.in-Ok-get.ensures.bytes in
    (found, read_is m (g.B.Blocks.told c.args.under.now) c.in-Ok.number c.get.new.into is (told c.in-Ok.number (counted_at (places_at o.sizes (contents m) o.id) c.args.index c.in-Ok.number found)) of)
