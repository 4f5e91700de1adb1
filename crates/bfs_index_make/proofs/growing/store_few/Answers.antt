use Rattle.std.proofs.Common.{◌≡◌, ◌≤◌, ℕ, pos, [], length, max, sym, ap, subst, arith}
use Rattle.bfs_inode.specs.Inode.{Stream}
use Rattle.bfs_super.specs.Conditions.{ceil}
use Rattle.bfs_stream.specs.Grown.{Owns, room_at}
use Rattle.bfs_stream.specs.Places.{places_at, fields}
use Rattle.bfs_stream.specs.Sizes.{sizes_of, first_block}
use Rattle.bfs_stream.specs.Told.{contents}
use Rattle.bfs_stream.proofs.Stops.{cause_wider}
use Rattle.bfs_maps.specs.Mapped.{StreamNow}
use Rattle.bfs_make.specs.Made.{HasMade, formed_at}
use Rattle.bfs_make.specs.declared.making.NewInode.{NewInode}
use Rattle.bfs_make.proofs.Grows.{has_stored_inode, made_empty}
use Rattle.bfs_moves.proofs.Rooms.{has_room}
use Rattle.bfs_index_make.proofs.growing.store_few.Goals as goal

pub returns-in-Ok-write_stream-clause-stored : goal.returns-in-Ok-write_stream-clause-stored
returns-in-Ok-write_stream-clause-stored g c m is has =
    let s = sizes_of c.args.site.sup in
    let v = c.args.bitmap.now in
    let now = c.new_inode.new.bitmap in
    let later = c.write_stream.new.bitmap in
    let bytes = c.args.bytes.now in
    let told1 = g.E.Blocks.told c.new_inode.new.edits in
    let told2 = g.E.Blocks.told c.write_stream.new.edits in
    let old = g.E.Blocks.changed c.args.edits.now in
    let mid = g.E.Blocks.changed c.new_inode.new.edits in
    let new = g.E.Blocks.changed c.write_stream.new.edits in
    let n : NewInode = formed_at c.in-Ok.address c.args.form in
    let made : HasMade s v now m n told1 old mid = c.in-Ok.ensures.made m is has in
    let at = c.run_start-id.ensures in
    let owns : Owns (record { id = c.run_start-id.result; sizes = s }) now [] made.map = subst (λ (k : ℕ). Owns (record { id = k; sizes = s }) now [] made.map) (sym at) made.stream.owns in
    let empty : places_at s (contents made.map) c.run_start-id.result ≡ [] = subst (λ (k : ℕ). places_at s (contents made.map) k ≡ []) (sym at) (made_empty s v now m n told1 old mid made) in
    let no_size : (fields s (contents made.map) c.run_start-id.result).size ≡ pos 0 = subst (λ (k : ℕ). (fields s (contents made.map) k).size ≡ pos 0) (sym at) (ap (λ (t : Stream). t.size) made.inode.stream) in
    let stream : StreamNow (record { id = first_block s n.address; sizes = s }) now later made.map (λ all. all ≡ bytes) told2 mid new =
    subst (λ (k : ℕ). StreamNow (record { id = k; sizes = s }) now later made.map (λ all. all ≡ bytes) told2 mid new) at (c.in-Ok-write_stream.ensures.written made.map made.is owns empty no_size) in
    has_stored_inode s v now later m n bytes told1 told2 old mid new has made stream

pub returns-in-Err-write_stream-clause-unanswered : goal.returns-in-Err-write_stream-clause-unanswered
returns-in-Err-write_stream-clause-unanswered g c m is has =
    let s = sizes_of c.args.site.sup in
    let v = c.args.bitmap.now in
    let now = c.new_inode.new.bitmap in
    let told1 = g.E.Blocks.told c.new_inode.new.edits in
    let old = g.E.Blocks.changed c.args.edits.now in
    let mid = g.E.Blocks.changed c.new_inode.new.edits in
    let n : NewInode = formed_at c.in-Ok.address c.args.form in
    let made : HasMade s v now m n told1 old mid = c.in-Ok.ensures.made m is has in
    let at = c.run_start-id.ensures in
    let count : ℕ = ceil (length c.args.bytes.now) c.args.site.sup.block_size in
    let owns : Owns (record { id = c.run_start-id.result; sizes = s }) now [] made.map = subst (λ (k : ℕ). Owns (record { id = k; sizes = s }) now [] made.map) (sym at) made.stream.owns in
    let empty : places_at s (contents made.map) c.run_start-id.result ≡ [] = subst (λ (k : ℕ). places_at s (contents made.map) k ≡ []) (sym at) (made_empty s v now m n told1 old mid made) in
    let no_size : (fields s (contents made.map) c.run_start-id.result).size ≡ pos 0 = subst (λ (k : ℕ). (fields s (contents made.map) k).size ≡ pos 0) (sym at) (ap (λ (t : Stream). t.size) made.inode.stream) in
    let room : count ≤ room_at s (contents made.map) c.run_start-id.result =
    subst (λ (k : ℕ). count ≤ room_at s (contents made.map) k) (sym at) (has_room c.args.site.sup made.map (first_block s n.address) (length c.args.bytes.now) c.requires.valid c.requires.few made.inode.stream) in
    c.not_grown.ensures.unanswered (record { id = c.run_start-id.result; sizes = s }) now made.map count room (c.in-Err-write_stream.ensures.faults made.map made.is owns empty no_size)

pub returns-in-Err-write_stream-clause-cause : goal.returns-in-Err-write_stream-clause-cause
returns-in-Err-write_stream-clause-cause g c =
    let n = max 1 (ceil (length c.args.bytes.now) c.args.site.sup.block_size) in
    let a = g.E.Blocks.counts c.args.edits.now in
    let b = g.E.Blocks.counts c.new_inode.new.edits in
    let d = g.E.Blocks.counts c.write_stream.new.edits in
    c.not_grown.ensures.cause n a d (cause_wider n n a b d c.in-Err-write_stream.fault (omega arith) c.in-Ok.ensures.later c.in-Err-write_stream.ensures.cause)
