use Rattle.std.proofs.Common.{◌≡◌, ◌≤◌, ◌+◌, ◌++◌, ℕ, List, [], ◌∷◌, length, ◌∙◌, arith, length-append}
use Rattle.bfs_bytes.specs.Fields.{unsigned_bytes}
use Rattle.bfs_bytes.proofs.Lengths.{length-unsigned_bytes}
use Rattle.bfs_bytes.proofs.Puts.{puts_then}
use Rattle.bfs_smalldata.specs.Items.{bytes_of}
use Rattle.bfs_smalldata.proofs.edit.write_item.Goals as goal

pub returns : goal.returns
unfolding bytes_of
returns c =
    let at = c.args.at in
    let old = c.args.area.now in
    let name = c.args.name.now in
    let bytes = c.args.bytes.now in
    let inside : at + (8 + length name + 3 + length bytes + 1) ≤ length old = c.requires.inside in
    let k = unsigned_bytes 4 c.args.kind in
    let n = unsigned_bytes 2 (length name) in
    let d = unsigned_bytes 2 (length bytes) in
    let gap : List ℕ = 0 ∷ 0 ∷ 0 ∷ [] in
    let last : List ℕ = 0 ∷ [] in
    let lk : length k ≡ 4 = length-unsigned_bytes 4 c.args.kind in
    let ln : length n ≡ 2 = length-unsigned_bytes 2 (length name) in
    let ld : length d ≡ 2 = length-unsigned_bytes 2 (length bytes) in
    let l2 : length (k ++ n) ≡ 6 = length-append k n ∙ omega (arith, lk, ln) in
    let l3 : length (k ++ n ++ d) ≡ 8 = length-append (k ++ n) d ∙ omega (arith, l2, ld) in
    let l4 : length (k ++ n ++ d ++ name) ≡ 8 + length name = length-append (k ++ n ++ d) name ∙ omega (arith, l3) in
    let l5 : length (k ++ n ++ d ++ name ++ gap) ≡ 8 + length name + 3 = length-append (k ++ n ++ d ++ name) gap ∙ omega (arith, l4) in
    let l6 : length (k ++ n ++ d ++ name ++ gap ++ bytes) ≡ 8 + length name + 3 + length bytes = length-append (k ++ n ++ d ++ name ++ gap) bytes ∙ omega (arith, l5) in
    let p2 = puts_then at (at + 4) k n old c.put_u32.new.bytes c.put_u16.new.bytes (omega (arith, lk)) (omega (arith, ln, inside)) c.put_u32.ensures c.put_u16.ensures in
    let p3 = puts_then at (at + 6) (k ++ n) d old c.put_u16.new.bytes c.put_u16-2.new.bytes (omega (arith, l2)) (omega (arith, ld, inside)) p2 c.put_u16-2.ensures in
    let p4 = puts_then at (at + 8) (k ++ n ++ d) name old c.put_u16-2.new.bytes c.put_bytes.new.bytes (omega (arith, l3)) (omega (arith, inside)) p3 c.put_bytes.ensures in
    let p5 = puts_then at (at + 8 + length name) (k ++ n ++ d ++ name) gap old c.put_bytes.new.bytes c.put_bytes-2.new.bytes (omega (arith, l4)) (omega (arith, inside)) p4 c.put_bytes-2.ensures in
    let p6 = puts_then at (at + 8 + length name + 3) (k ++ n ++ d ++ name ++ gap) bytes old c.put_bytes-2.new.bytes c.put_bytes-3.new.bytes (omega (arith, l5)) (omega (arith, inside)) p5 c.put_bytes-3.ensures in
    puts_then at (at + 8 + length name + 3 + length bytes) (k ++ n ++ d ++ name ++ gap ++ bytes) last old c.put_bytes-3.new.bytes c.put_bytes-4.new.bytes (omega (arith, l6)) (omega (arith, inside)) p6 c.put_bytes-4.ensures
