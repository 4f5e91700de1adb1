use Rattle.std.proofs.Common.{◌≤◌, ◌+◌, ◌-◌, ◌++◌, ℕ, List, length, replicate, refl, ap, ◌∙◌, arith}
use Rattle.bfs_smalldata.specs.Items.{Item, Begins, bytes_of}
use Rattle.bfs_smalldata.proofs.Walking.{kept_size, room_from}
use Rattle.bfs_smalldata.proofs.Writing.{length-bytes_of, bytes_begin, tail_of, tail_cut, put_items, put_there, put_clear, rewritten}
use Rattle.bfs_smalldata.proofs.edit.put.Goals as goal

pub move_part-requires-clause-room : goal.move_part-requires-clause-room
move_part-requires-clause-room c =
    let spans = c.span_of-span.ensures in
    omega (arith, kept_size c.args.area.now c.args.name.now _ _ _ spans, room_from c.args.area.now c.args.name.now _ _ _ spans (length c.args.bytes.now) c.requires.fits.1)

pub write_item-requires-clause-inside : goal.write_item-requires-clause-inside
write_item-requires-clause-inside c =
    let spans = c.span_of-span.ensures in
    omega (arith, kept_size c.args.area.now c.args.name.now _ _ _ spans, room_from c.args.area.now c.args.name.now _ _ _ spans (length c.args.bytes.now) c.requires.fits.1)

pub clear-requires : goal.clear-requires
clear-requires c =
    let spans = c.span_of-span.ensures in
    omega (arith, kept_size c.args.area.now c.args.name.now _ _ _ spans, room_from c.args.area.now c.args.name.now _ _ _ spans (length c.args.bytes.now) c.requires.fits.1)

pub returns-clause-items : goal.returns-clause-items
returns-clause-items c =
    let area = c.args.area.now in
    let name = c.args.name.now in
    let span = c.span_of-span.result in
    let spans = c.span_of-span.ensures in
    let item : Item = record { kind = c.args.kind; name = name; bytes = c.args.bytes.now } in
    let fits = room_from area name _ _ _ spans (length c.args.bytes.now) c.requires.fits.1 in
    let raw : Begins (bytes_of item) item = bytes_begin item (omega (arith, c.ranges.kind)) (omega (arith, c.requires.short)) (omega (arith, c.requires.fits.0)) (omega (arith, c.requires.some)) in
    let behind = span.at + 8 + length name + 3 + length c.args.bytes.now + 1 in
    let inside : behind + (span.end - span.next) ≤ length area = omega (arith, kept_size area name _ _ _ spans, fits) in
    let n = length c.write_item.new.area - (behind + (span.end - span.next)) in
    let whole = rewritten span.at behind (span.end - span.next) (bytes_of item) (tail_of area name span.at span.next span.end spans) area c.move_part.new.area c.write_item.new.area (omega (arith, length-bytes_of item)) (tail_cut area name _ _ _ spans) inside c.move_part.ensures c.write_item.ensures in
    put_items area name span.at span.next span.end spans item refl raw c.clear.new.area n (c.clear.ensures ∙ ap (λ (l : List ℕ). l ++ replicate n 0) whole)

pub returns-clause-written : goal.returns-clause-written
returns-clause-written c =
    let area = c.args.area.now in
    let name = c.args.name.now in
    let span = c.span_of-span.result in
    let spans = c.span_of-span.ensures in
    let item : Item = record { kind = c.args.kind; name = name; bytes = c.args.bytes.now } in
    let fits = room_from area name _ _ _ spans (length c.args.bytes.now) c.requires.fits.1 in
    let raw : Begins (bytes_of item) item = bytes_begin item (omega (arith, c.ranges.kind)) (omega (arith, c.requires.short)) (omega (arith, c.requires.fits.0)) (omega (arith, c.requires.some)) in
    let behind = span.at + 8 + length name + 3 + length c.args.bytes.now + 1 in
    let inside : behind + (span.end - span.next) ≤ length area = omega (arith, kept_size area name _ _ _ spans, fits) in
    let n = length c.write_item.new.area - (behind + (span.end - span.next)) in
    let whole = rewritten span.at behind (span.end - span.next) (bytes_of item) (tail_of area name span.at span.next span.end spans) area c.move_part.new.area c.write_item.new.area (omega (arith, length-bytes_of item)) (tail_cut area name _ _ _ spans) inside c.move_part.ensures c.write_item.ensures in
    put_there area name span.at span.next span.end spans item refl raw c.clear.new.area n (c.clear.ensures ∙ ap (λ (l : List ℕ). l ++ replicate n 0) whole)

pub returns-clause-free : goal.returns-clause-free
returns-clause-free c =
    let area = c.args.area.now in
    let name = c.args.name.now in
    let span = c.span_of-span.result in
    let spans = c.span_of-span.ensures in
    let item : Item = record { kind = c.args.kind; name = name; bytes = c.args.bytes.now } in
    let fits = room_from area name _ _ _ spans (length c.args.bytes.now) c.requires.fits.1 in
    let raw : Begins (bytes_of item) item = bytes_begin item (omega (arith, c.ranges.kind)) (omega (arith, c.requires.short)) (omega (arith, c.requires.fits.0)) (omega (arith, c.requires.some)) in
    let behind = span.at + 8 + length name + 3 + length c.args.bytes.now + 1 in
    let inside : behind + (span.end - span.next) ≤ length area = omega (arith, kept_size area name _ _ _ spans, fits) in
    let n = length c.write_item.new.area - (behind + (span.end - span.next)) in
    let whole = rewritten span.at behind (span.end - span.next) (bytes_of item) (tail_of area name span.at span.next span.end spans) area c.move_part.new.area c.write_item.new.area (omega (arith, length-bytes_of item)) (tail_cut area name _ _ _ spans) inside c.move_part.ensures c.write_item.ensures in
    put_clear area name span.at span.next span.end spans item refl raw c.clear.new.area n (c.clear.ensures ∙ ap (λ (l : List ℕ). l ++ replicate n 0) whole)
