use Rattle.std.proofs.Common.{◌≡◌, ◌≤◌, ◌-◌, ◌*◌, ◌∙◌, ℕ, List, ap, subst, arith, refl}
use Rattle.std.proofs.lemmas.List.{with_items_is}
use Rattle.bfs_inode.specs.Inode.{stream_at}
use Rattle.bfs_txn.specs.Told.{AreOfBlock}
use Rattle.bfs_stream.specs.Sizes.{array_length, table_length}
use Rattle.bfs_stream.specs.Places.{fields}
use Rattle.bfs_stream.specs.Told.{contents}
use Rattle.bfs_stream.specs.Scans.{ends_of}
use Rattle.bfs_stream.specs.Grown.{room_at}
use Rattle.bfs_stream.specs.declared.lookup.Ends.{Ends}
use Rattle.bfs_stream.proofs.Arrays.{read_is}
use Rattle.bfs_stream.proofs.Placed.{told_inode}
use Rattle.bfs_stream.proofs.Listed.{some_array, room_is}
use Rattle.bfs_growth.proofs.next.grow.Goals as goal

pub returns-then-room-blocks-clause-faults : goal.returns-then-room-blocks-clause-faults
returns-then-room-blocks-clause-faults g c m is owns =
    let o = c.args.stream.now in
    let id : c.inode-id.result ≡ o.id = c.inode-id.ensures in
    let of : AreOfBlock (g.E.Blocks.told c.args.edits.now) o.id c.get.new.into = subst (λ (k : ℕ). AreOfBlock (g.E.Blocks.told c.args.edits.now) k c.get.new.into) id c.in-Ok-get.ensures.bytes in
    let same = read_is m (g.E.Blocks.told c.args.edits.now) o.id c.get.new.into is (told_inode m o owns.stands) of in
    let read : c.deref.result.now ≡ contents m o.id = c.deref.ensures.value ∙ with_items_is c.in-Ok.bytes c.get.new.into (let a = c.get.auto.into in let b = c.deref_mut.ensures.len in let d = c.deref_mut.ensures.value in let e = c.in-Ok.bytes.ok in omega (arith, a, b)) ∙ same in
    let ends : Ends = ends_of o.sizes (fields o.sizes (contents m) o.id) in
    let room : c.room-room.result ≡ room_at o.sizes (contents m) o.id =
    c.room-room.ensures
    ∙ ap (λ (l : List ℕ). array_length o.sizes * (table_length o.sizes * table_length o.sizes) - ((ends_of o.sizes (stream_at l)).double - (ends_of o.sizes (stream_at l)).indirect)) read
    ∙ room_is o m owns.stands c.sizes.ensures.sizes (some_array o.sizes) ends refl in
    (room, c.if-room-blocks.true)

pub returns-clause-faults : goal.returns-clause-faults
returns-clause-faults g c m is owns =
    let o = c.args.stream.now in
    let id : c.inode-id.result ≡ o.id = c.inode-id.ensures in
    let of : AreOfBlock (g.E.Blocks.told c.args.edits.now) o.id c.get.new.into = subst (λ (k : ℕ). AreOfBlock (g.E.Blocks.told c.args.edits.now) k c.get.new.into) id c.in-Ok-get.ensures.bytes in
    let same = read_is m (g.E.Blocks.told c.args.edits.now) o.id c.get.new.into is (told_inode m o owns.stands) of in
    let read : c.deref.result.now ≡ contents m o.id = c.deref.ensures.value ∙ with_items_is c.in-Ok.bytes c.get.new.into (let a = c.get.auto.into in let b = c.deref_mut.ensures.len in let d = c.deref_mut.ensures.value in let e = c.in-Ok.bytes.ok in omega (arith, a, b)) ∙ same in
    let ends : Ends = ends_of o.sizes (fields o.sizes (contents m) o.id) in
    let room : c.room-room.result ≡ room_at o.sizes (contents m) o.id =
    c.room-room.ensures
    ∙ ap (λ (l : List ℕ). array_length o.sizes * (table_length o.sizes * table_length o.sizes) - ((ends_of o.sizes (stream_at l)).double - (ends_of o.sizes (stream_at l)).indirect)) read
    ∙ room_is o m owns.stands c.sizes.ensures.sizes (some_array o.sizes) ends refl in
    let high = c.if-room-blocks.false in
    let has : c.args.blocks ≤ room_at o.sizes (contents m) o.id = omega (arith, room, high) in
    c.add_all.ensures.faults m (c.in-Ok-get.ensures.told ∙ is) owns has
