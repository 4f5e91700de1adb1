use Rattle.std.proofs.Common.{◌≡◌, ◌-◌, ◌*◌, ◌∙◌, ℕ, List, ap, subst, arith, refl}
use Rattle.std.proofs.lemmas.List.{with_items_is}
use Rattle.bfs_inode.specs.Inode.{stream_at}
use Rattle.bfs_txn.specs.Told.{AreOfBlock}
use Rattle.bfs_stream.specs.Sizes.{array_length, table_length}
use Rattle.bfs_stream.specs.Places.{fields}
use Rattle.bfs_stream.specs.Told.{contents}
use Rattle.bfs_stream.specs.Scans.{ends_of}
use Rattle.bfs_stream.specs.declared.lookup.Ends.{Ends}
use Rattle.bfs_stream.proofs.Arrays.{read_is}
use Rattle.bfs_stream.proofs.Placed.{told_inode}
use Rattle.bfs_stream.proofs.Listed.{some_array, room_is}
use Rattle.bfs_growth.proofs.next.room_left.Goals as goal

pub returns-in-Ok-get-clause-room : goal.returns-in-Ok-get-clause-room
returns-in-Ok-get-clause-room g c m is stands =
    let o = c.args.stream.now in
    let id : c.inode-id.result ≡ o.id = c.inode-id.ensures in
    let of : AreOfBlock (g.B.Blocks.told c.args.under.now) o.id c.get.new.into = subst (λ (k : ℕ). AreOfBlock (g.B.Blocks.told c.args.under.now) k c.get.new.into) id c.in-Ok-get.ensures.bytes in
    let same = read_is m (g.B.Blocks.told c.args.under.now) o.id c.get.new.into is (told_inode m o stands) of in
    let read : c.deref.result.now ≡ contents m o.id = c.deref.ensures.value ∙ with_items_is c.in-Ok.bytes c.get.new.into (let a = c.get.auto.into in let b = c.deref_mut.ensures.len in let d = c.deref_mut.ensures.value in let e = c.in-Ok.bytes.ok in omega (arith, a, b)) ∙ same in
    let ends : Ends = ends_of o.sizes (fields o.sizes (contents m) o.id) in
    c.room.ensures
    ∙ ap (λ (l : List ℕ). array_length o.sizes * (table_length o.sizes * table_length o.sizes) - ((ends_of o.sizes (stream_at l)).double - (ends_of o.sizes (stream_at l)).indirect)) read
    ∙ room_is o m stands c.sizes.ensures.sizes (some_array o.sizes) ends refl
