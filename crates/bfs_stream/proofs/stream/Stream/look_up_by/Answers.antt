use Rattle.std.proofs.Common.{◌≡◌, ◌∙◌, ℕ, List, length, ap, sym, arith}
use Rattle.bfs_inode.specs.Inode.{stream_at}
use Rattle.bfs_stream.specs.Places.{fields, places_at}
use Rattle.bfs_stream.proofs.Named.{direct_blocks, indirect_blocks, double_blocks}
use Rattle.bfs_stream.specs.Told.{contents}
use Rattle.bfs_stream.specs.Scans.{ends_of, last_end}
use Rattle.bfs_stream.proofs.Placed.{last_is, ends_are, length-places}
use Rattle.bfs_stream.proofs.stream.Stream.look_up_by.Goals as goal

pub returns-then-index-blocks-clause-none : goal.returns-then-index-blocks-clause-none
returns-then-index-blocks-clause-none g c m is stands read =
    let o = c.args.self.now in
    let here : c.ends-ends.result ≡ ends_of o.sizes (fields o.sizes (contents m) o.id) = c.ends-ends.ensures ∙ ap (λ (l : List ℕ). ends_of o.sizes (stream_at l)) read in
    let ends = ends_of o.sizes (fields o.sizes (contents m) o.id) in
    let are = ends_are o.sizes (contents m) o.id c.sizes.ensures.sizes stands.sound in
    let last : c.last-blocks.result ≡ length (places_at o.sizes (contents m) o.id) =
    c.last-blocks.ensures ∙ ap last_end here
    ∙ last_is ends.direct ends.indirect ends.double (length (direct_blocks o.sizes (contents m) o.id)) (length (indirect_blocks o.sizes (contents m) o.id)) (length (double_blocks o.sizes (contents m) o.id)) are.direct are.indirect are.double are.order
    ∙ sym (length-places o.sizes (contents m) o.id) in
    (last, omega (arith, last))

pub returns-then-index-blocks-clause-damaged : goal.returns-then-index-blocks-clause-damaged
returns-then-index-blocks-clause-damaged g c m is = (c.last-blocks.ensures ∙ ap last_end c.ends-ends.ensures, c.if-index-blocks.true)

pub returns-then-index-blocks-clause-blamed : goal.returns-then-index-blocks-clause-blamed
returns-then-index-blocks-clause-blamed g c last = (c.args.inode.now, last, (c.last-blocks.ensures ∙ ap last_end c.ends-ends.ensures, c.if-index-blocks.true))

pub returns-in-Err-clause-blamed : goal.returns-in-Err-clause-blamed
returns-in-Err-clause-blamed g c last = (c.args.inode.now, c.in-Err.ensures.blamed last)

pub returns-in-Err-clause-damaged : goal.returns-in-Err-clause-damaged
returns-in-Err-clause-damaged g c m is = c.in-Err.ensures.damaged m is
