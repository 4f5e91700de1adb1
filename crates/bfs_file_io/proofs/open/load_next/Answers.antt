use Rattle.std.proofs.Common.{◌≡◌, ◌≤◌, ◌<◌, ◌+◌, ◌/◌, ◌%◌, ◌∙◌, ◌++◌, ℕ, List, [], length, take, drop, Some, None, sym, ap, subst, arith}
use Rattle.std.specs.Prelude.{slice_index}
use Rattle.std.proofs.lemmas.List.{length-take-le, take_at}
use Rattle.bfs_device.proofs.Sizes.{sizes}
use Rattle.bfs_device.specs.Data.{newest_in}
use Rattle.bfs_device.specs.Layouts.{IsData, layout_of}
use Rattle.bfs_core.proofs.Images.{some_bytes}
use Rattle.bfs_commit.specs.Open.{IsOpen, OpenView, next_place, open_with, told_block}
use Rattle.bfs_commit.specs.Places.{piece_blocks}
use Rattle.bfs_file_io.proofs.Making.{open_loaded, open_fault, open_rested, place_read}
use Rattle.bfs_commit.proofs.Asked.{size_is}
use Rattle.bfs_file_io.proofs.Pieced.{block_low}
use Rattle.bfs_file_io.proofs.open.load_next.Goals as goal

pub index_at-requires-clause-small : goal.index_at-requires-clause-small
index_at-requires-clause-small g c = omega (arith, (sizes c.args.device.now.books.sup c.steady.ensures.steady.valid).2, c.requires.size)

pub bounds-places-index_at : goal.bounds-places-index_at
bounds-places-index_at g c =
    let i = c.open.inside in
    let some : 0 < c.args.size = subst (λ (n : ℕ). 0 < n) (sym c.requires.size) (some_bytes c.args.device.now.books.sup c.steady.ensures.steady.valid) in
    let more : i.done < length i.bytes.items = subst (λ (v : OpenView). v.done < length v.bytes) (sym c.open.view_is) c.requires.more in
    let many : length i.places.items ≡ piece_blocks c.args.size i.hold.at (length i.bytes.items) = subst (λ (v : OpenView). length v.places ≡ piece_blocks c.args.size v.hold.at (length v.bytes)) (sym c.open.view_is) c.requires.many in
    let low = block_low c.args.size i.hold.at (length i.bytes.items) i.done (length i.places.items) some more many in
    subst (λ (xs : List ℕ). c.index_at.result < length xs) (sym c.as_slice-places.ensures.value) (subst (λ (n : ℕ). n < length i.places.items) (sym c.index_at.ensures) low)

pub offset_bounds-places-index_at : goal.offset_bounds-places-index_at
offset_bounds-places-index_at g c =
    let i = c.open.inside in
    let some : 0 < c.args.size = subst (λ (n : ℕ). 0 < n) (sym c.requires.size) (some_bytes c.args.device.now.books.sup c.steady.ensures.steady.valid) in
    let more : i.done < length i.bytes.items = subst (λ (v : OpenView). v.done < length v.bytes) (sym c.open.view_is) c.requires.more in
    let many : length i.places.items ≡ piece_blocks c.args.size i.hold.at (length i.bytes.items) = subst (λ (v : OpenView). length v.places ≡ piece_blocks c.args.size v.hold.at (length v.bytes)) (sym c.open.view_is) c.requires.many in
    let low = block_low c.args.size i.hold.at (length i.bytes.items) i.done (length i.places.items) some more many in
    let inside : c.index_at.result < length c.as_slice-places.result.now = subst (λ (xs : List ℕ). c.index_at.result < length xs) (sym c.as_slice-places.ensures.value) (subst (λ (n : ℕ). n < length i.places.items) (sym c.index_at.ensures) low) in
    omega (arith, inside, c.as_slice-places.type_inv.1)

pub load_block-requires-clause-room : goal.load_block-requires-clause-room
load_block-requires-clause-room g c =
    let most : c.args.device.now.books.sup.block_size ≤ 8192 = (sizes c.args.device.now.books.sup c.steady.ensures.steady.valid).2 in
    let long : length c.as_mut_slice-block.result.now ≡ 8192 = ap length c.as_mut_slice-block.ensures.value ∙ c.open.invariant.0 in
    omega (arith, most, long, c.requires.size)

pub load_block-requires-clause-data : goal.load_block-requires-clause-data
load_block-requires-clause-data g c =
    let i = c.open.inside in
    let place : slice_index c.as_slice-places.result.now c.index_at.result ≡ next_place c.args.size c.args.open.now = place_read c.args.size i.hold i.places.items c.as_slice-places.result.now i.bytes.items i.done c.index_at.result i.fault (take i.loaded i.block.items) c.args.open.now c.as_slice-places.ensures.value c.index_at.ensures c.open.view_is in
    let some : 0 < c.args.size = subst (λ (n : ℕ). 0 < n) (sym c.requires.size) (some_bytes c.args.device.now.books.sup c.steady.ensures.steady.valid) in
    let low = block_low c.args.size c.args.open.now.hold.at (length c.args.open.now.bytes) c.args.open.now.done (length c.args.open.now.places) some c.requires.more c.requires.many in
    subst (IsData (layout_of c.args.device.now.books.sup)) (sym place) (c.requires.blocks ((c.args.open.now.hold.at % c.args.size + c.args.open.now.done) / c.args.size) 0 low)

pub load_block-requires-clause-apart : goal.load_block-requires-clause-apart
load_block-requires-clause-apart g c =
    let i = c.open.inside in
    let place : slice_index c.as_slice-places.result.now c.index_at.result ≡ next_place c.args.size c.args.open.now = place_read c.args.size i.hold i.places.items c.as_slice-places.result.now i.bytes.items i.done c.index_at.result i.fault (take i.loaded i.block.items) c.args.open.now c.as_slice-places.ensures.value c.index_at.ensures c.open.view_is in
    subst (λ (k : ℕ). newest_in c.args.device.now.books.groups k ≡ None) (sym place) c.requires.apart

pub invariant_of-open : goal.invariant_of-open
invariant_of-open g c =
    let i = c.open.inside in
    let block : List ℕ = c.load_block.new.block in
    let back : take i.block.len (block ++ drop (length block) i.block.items) ≡ block = take_at block (drop (length block) i.block.items) i.block.len (c.load_block.ensures.length ∙ c.as_mut_slice-block.ensures.len) in
    let most : c.args.device.now.books.sup.block_size ≤ 8192 = (sizes c.args.device.now.books.sup c.steady.ensures.steady.valid).2 in
    (ap length back ∙ c.load_block.ensures.length ∙ ap length c.as_mut_slice-block.ensures.value ∙ c.open.invariant.0, c.open.invariant.1, omega (arith, most, c.requires.size))

pub returns-in-Ok-clause-ok : goal.returns-in-Ok-clause-ok
returns-in-Ok-clause-ok g c =
    let i = c.open.inside in
    let block : List ℕ = c.load_block.new.block in
    let back : take i.block.len (block ++ drop (length block) i.block.items) ≡ block = take_at block (drop (length block) i.block.items) i.block.len (c.load_block.ensures.length ∙ c.as_mut_slice-block.ensures.len) in
    let most : c.args.device.now.books.sup.block_size ≤ 8192 = (sizes c.args.device.now.books.sup c.steady.ensures.steady.valid).2 in
    let long : length block ≡ 8192 = c.load_block.ensures.length ∙ ap length c.as_mut_slice-block.ensures.value ∙ c.open.invariant.0 in (
      ap (λ (xs : List ℕ). length (take c.args.size xs)) back ∙ length-take-le c.args.size block (omega (arith, most, long, c.requires.size)),
      λ k. open_with (c.open.view_is k).hold (c.open.view_is k).places (c.open.view_is k).bytes (c.open.view_is k).done (c.open.view_is k).fault (take c.args.size (take i.block.len (block ++ drop (length block) i.block.items))),
    )

pub returns-in-Ok-clause-open : goal.returns-in-Ok-clause-open
returns-in-Ok-clause-open g c = λ sp joined opened.
    let old = c.args.device.now in
    let new = c.load_block.new.device in
    let e = c.in-Ok.ensures in
    let i = c.open.inside in
    let p = c.args.open.now in
    let block : List ℕ = c.load_block.new.block in
    let back : take i.block.len (block ++ drop (length block) i.block.items) ≡ block = take_at block (drop (length block) i.block.items) i.block.len (c.load_block.ensures.length ∙ c.as_mut_slice-block.ensures.len) in
    let loaded : List ℕ = take c.args.size (take i.block.len (block ++ drop (length block) i.block.items)) in
    let place : slice_index c.as_slice-places.result.now c.index_at.result ≡ next_place c.args.size p = place_read c.args.size i.hold i.places.items c.as_slice-places.result.now i.bytes.items i.done c.index_at.result i.fault (take i.loaded i.block.items) p c.as_slice-places.ensures.value c.index_at.ensures c.open.view_is in
    let size : c.args.size ≡ sp.view.sup.block_size = c.requires.size ∙ size_is sp old.books joined.fitted in
    let still = open_rested sp old.books new.books (g.D.Disk.state old.disk) (g.D.Disk.state new.disk) p c.load_block.ensures.rests c.load_block.ensures.state opened in
    subst (λ (v : OpenView). IsOpen v sp.view new.books (g.D.Disk.state new.disk)) (sym (λ k. open_with (c.open.view_is k).hold (c.open.view_is k).places (c.open.view_is k).bytes (c.open.view_is k).done (c.open.view_is k).fault loaded))
    (open_loaded sp.view new.books (g.D.Disk.state new.disk) p loaded c.requires.more still (λ st is.
    ap (take c.args.size) back ∙ e.told st is ∙ ap (told_block new.books st) (place ∙ ap (λ (n : ℕ). next_place n p) size)))

pub returns-in-Err-clause-open : goal.returns-in-Err-clause-open
returns-in-Err-clause-open g c = λ sp joined opened.
    let old = c.args.device.now in
    let new = c.load_block.new.device in
    let p = c.args.open.now in
    let still = open_rested sp old.books new.books (g.D.Disk.state old.disk) (g.D.Disk.state new.disk) p c.load_block.ensures.rests c.load_block.ensures.state opened in
    subst (λ (v : OpenView). IsOpen v sp.view new.books (g.D.Disk.state new.disk))
    (sym (c.note_made.ensures.failed.1 ∙ (λ k. open_with (c.open.view_is k).hold (c.open.view_is k).places (c.open.view_is k).bytes (c.open.view_is k).done (Some c.in-Err.fault) [])))
    (open_fault sp.view new.books (g.D.Disk.state new.disk) p (Some c.in-Err.fault) still)
