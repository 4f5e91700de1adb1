-- The fields of a header, written one after another, and read again.
use Rattle.std.proofs.Common.{◌≡◌, ◌≤◌, ◌<◌, ◌^◌, ℕ, List, ◌++◌, length, length-append, drop, ap, ◌∙◌, arith, FitsSigned}
use Rattle.std.specs.Int.{w64, cast_signed, cast_unsigned}
use Rattle.std.proofs.lemmas.Int.{to_z-of_z}
use Rattle.std.proofs.Math.Facts.{Fits-lt-pow}
use mir.ValLaws.{of_z_fits}
use Rattle.byteorder.specs.Endian.{little_number}
use Rattle.byteorder.specs.Numbers.{little_number-reads_back}
use Rattle.bfs_bytes.specs.Fields.{Puts, unsigned_at, signed64_at, unsigned_bytes, signed64_bytes}
use Rattle.bfs_bytes.proofs.Lengths.{length-unsigned_bytes, length-signed64_bytes}
use Rattle.bfs_bytes.proofs.Puts.{puts_then}
use Rattle.bfs_bytes.proofs.Kept.{bytes-put}
use Rattle.bfs_node.specs.declared.header.Header.{Header}
use Rattle.bfs_node.specs.Header.{header_at, header_bytes}

pub header-put : (h : Header) (p p1 p2 p3 p4 p5 p6 p7 : List ℕ) → length p ≡ 1024 → Puts 0 (unsigned_bytes 4 h.magic) p p1 → Puts 4 (unsigned_bytes 4 h.node_size) p1 p2 → Puts 8 (unsigned_bytes 4 h.levels) p2 p3 → Puts 12 (unsigned_bytes 4 h.data_type) p3 p4 → Puts 16 (signed64_bytes h.root_pointer) p4 p5 → Puts 24 (signed64_bytes h.free_pointer) p5 p6 → Puts 32 (signed64_bytes h.maximum_size) p6 p7 → Puts 0 (header_bytes h) p p7
unfolding header_bytes
header-put h p p1 p2 p3 p4 p5 p6 p7 size e1 e2 e3 e4 e5 e6 e7 =
    let l1 : length (unsigned_bytes 4 h.magic) ≡ 4 = length-unsigned_bytes 4 h.magic in
    let l2 : length (unsigned_bytes 4 h.node_size) ≡ 4 = length-unsigned_bytes 4 h.node_size in
    let l3 : length (unsigned_bytes 4 h.levels) ≡ 4 = length-unsigned_bytes 4 h.levels in
    let l4 : length (unsigned_bytes 4 h.data_type) ≡ 4 = length-unsigned_bytes 4 h.data_type in
    let l5 : length (signed64_bytes h.root_pointer) ≡ 8 = length-signed64_bytes h.root_pointer in
    let l6 : length (signed64_bytes h.free_pointer) ≡ 8 = length-signed64_bytes h.free_pointer in
    let l7 : length (signed64_bytes h.maximum_size) ≡ 8 = length-signed64_bytes h.maximum_size in
    let m1 : length (unsigned_bytes 4 h.magic) ≡ 4 = l1 in
    let m2 : length (unsigned_bytes 4 h.magic ++ unsigned_bytes 4 h.node_size) ≡ 8 = length-append (unsigned_bytes 4 h.magic) (unsigned_bytes 4 h.node_size) ∙ omega arith in
    let q2 = puts_then 0 4 (unsigned_bytes 4 h.magic) (unsigned_bytes 4 h.node_size) p p1 p2 (omega arith) (omega arith) e1 e2 in
    let m3 : length (unsigned_bytes 4 h.magic ++ unsigned_bytes 4 h.node_size ++ unsigned_bytes 4 h.levels) ≡ 12 = length-append (unsigned_bytes 4 h.magic ++ unsigned_bytes 4 h.node_size) (unsigned_bytes 4 h.levels) ∙ omega arith in
    let q3 = puts_then 0 8 (unsigned_bytes 4 h.magic ++ unsigned_bytes 4 h.node_size) (unsigned_bytes 4 h.levels) p p2 p3 (omega arith) (omega arith) q2 e3 in
    let m4 : length (unsigned_bytes 4 h.magic ++ unsigned_bytes 4 h.node_size ++ unsigned_bytes 4 h.levels ++ unsigned_bytes 4 h.data_type) ≡ 16 = length-append (unsigned_bytes 4 h.magic ++ unsigned_bytes 4 h.node_size ++ unsigned_bytes 4 h.levels) (unsigned_bytes 4 h.data_type) ∙ omega arith in
    let q4 = puts_then 0 12 (unsigned_bytes 4 h.magic ++ unsigned_bytes 4 h.node_size ++ unsigned_bytes 4 h.levels) (unsigned_bytes 4 h.data_type) p p3 p4 (omega arith) (omega arith) q3 e4 in
    let m5 : length (unsigned_bytes 4 h.magic ++ unsigned_bytes 4 h.node_size ++ unsigned_bytes 4 h.levels ++ unsigned_bytes 4 h.data_type ++ signed64_bytes h.root_pointer) ≡ 24 = length-append (unsigned_bytes 4 h.magic ++ unsigned_bytes 4 h.node_size ++ unsigned_bytes 4 h.levels ++ unsigned_bytes 4 h.data_type) (signed64_bytes h.root_pointer) ∙ omega arith in
    let q5 = puts_then 0 16 (unsigned_bytes 4 h.magic ++ unsigned_bytes 4 h.node_size ++ unsigned_bytes 4 h.levels ++ unsigned_bytes 4 h.data_type) (signed64_bytes h.root_pointer) p p4 p5 (omega arith) (omega arith) q4 e5 in
    let m6 : length (unsigned_bytes 4 h.magic ++ unsigned_bytes 4 h.node_size ++ unsigned_bytes 4 h.levels ++ unsigned_bytes 4 h.data_type ++ signed64_bytes h.root_pointer ++ signed64_bytes h.free_pointer) ≡ 32 = length-append (unsigned_bytes 4 h.magic ++ unsigned_bytes 4 h.node_size ++ unsigned_bytes 4 h.levels ++ unsigned_bytes 4 h.data_type ++ signed64_bytes h.root_pointer) (signed64_bytes h.free_pointer) ∙ omega arith in
    let q6 = puts_then 0 24 (unsigned_bytes 4 h.magic ++ unsigned_bytes 4 h.node_size ++ unsigned_bytes 4 h.levels ++ unsigned_bytes 4 h.data_type ++ signed64_bytes h.root_pointer) (signed64_bytes h.free_pointer) p p5 p6 (omega arith) (omega arith) q5 e6 in
    let m7 : length (unsigned_bytes 4 h.magic ++ unsigned_bytes 4 h.node_size ++ unsigned_bytes 4 h.levels ++ unsigned_bytes 4 h.data_type ++ signed64_bytes h.root_pointer ++ signed64_bytes h.free_pointer ++ signed64_bytes h.maximum_size) ≡ 40 = length-append (unsigned_bytes 4 h.magic ++ unsigned_bytes 4 h.node_size ++ unsigned_bytes 4 h.levels ++ unsigned_bytes 4 h.data_type ++ signed64_bytes h.root_pointer ++ signed64_bytes h.free_pointer) (signed64_bytes h.maximum_size) ∙ omega arith in
    let q7 = puts_then 0 32 (unsigned_bytes 4 h.magic ++ unsigned_bytes 4 h.node_size ++ unsigned_bytes 4 h.levels ++ unsigned_bytes 4 h.data_type ++ signed64_bytes h.root_pointer ++ signed64_bytes h.free_pointer) (signed64_bytes h.maximum_size) p p6 p7 (omega arith) (omega arith) q6 e7 in
    q7

pub header-again : (h : Header) (old new : List ℕ) → Puts 0 (header_bytes h) old new → 40 ≤ length old → h.magic < 2 ^ 32 → h.node_size < 2 ^ 32 → h.levels < 2 ^ 32 → h.data_type < 2 ^ 32 → FitsSigned w64 h.root_pointer → FitsSigned w64 h.free_pointer → FitsSigned w64 h.maximum_size → header_at new ≡ h
unfolding header_bytes unsigned_at signed64_at unsigned_bytes signed64_bytes
header-again h old new puts fits f1 f2 f3 f4 f5 f6 f7 =
    let whole : drop 0 new ≡ header_bytes h ++ drop 40 old = bytes-put 0 (header_bytes h) old new puts fits in
    let at1 : drop 0 new ≡ unsigned_bytes 4 h.magic ++ ((unsigned_bytes 4 h.node_size ++ unsigned_bytes 4 h.levels ++ unsigned_bytes 4 h.data_type ++ signed64_bytes h.root_pointer ++ signed64_bytes h.free_pointer ++ signed64_bytes h.maximum_size) ++ drop 40 old) = whole in
    let v1 : unsigned_at 4 new 0 ≡ h.magic = ap (little_number 4) at1 ∙ little_number-reads_back 4 h.magic ((unsigned_bytes 4 h.node_size ++ unsigned_bytes 4 h.levels ++ unsigned_bytes 4 h.data_type ++ signed64_bytes h.root_pointer ++ signed64_bytes h.free_pointer ++ signed64_bytes h.maximum_size) ++ drop 40 old) (omega arith) in
    let at2 : drop 4 new ≡ unsigned_bytes 4 h.node_size ++ ((unsigned_bytes 4 h.levels ++ unsigned_bytes 4 h.data_type ++ signed64_bytes h.root_pointer ++ signed64_bytes h.free_pointer ++ signed64_bytes h.maximum_size) ++ drop 40 old) = ap (drop 4) whole in
    let v2 : unsigned_at 4 new 4 ≡ h.node_size = ap (little_number 4) at2 ∙ little_number-reads_back 4 h.node_size ((unsigned_bytes 4 h.levels ++ unsigned_bytes 4 h.data_type ++ signed64_bytes h.root_pointer ++ signed64_bytes h.free_pointer ++ signed64_bytes h.maximum_size) ++ drop 40 old) (omega arith) in
    let at3 : drop 8 new ≡ unsigned_bytes 4 h.levels ++ ((unsigned_bytes 4 h.data_type ++ signed64_bytes h.root_pointer ++ signed64_bytes h.free_pointer ++ signed64_bytes h.maximum_size) ++ drop 40 old) = ap (drop 8) whole in
    let v3 : unsigned_at 4 new 8 ≡ h.levels = ap (little_number 4) at3 ∙ little_number-reads_back 4 h.levels ((unsigned_bytes 4 h.data_type ++ signed64_bytes h.root_pointer ++ signed64_bytes h.free_pointer ++ signed64_bytes h.maximum_size) ++ drop 40 old) (omega arith) in
    let at4 : drop 12 new ≡ unsigned_bytes 4 h.data_type ++ ((signed64_bytes h.root_pointer ++ signed64_bytes h.free_pointer ++ signed64_bytes h.maximum_size) ++ drop 40 old) = ap (drop 12) whole in
    let v4 : unsigned_at 4 new 12 ≡ h.data_type = ap (little_number 4) at4 ∙ little_number-reads_back 4 h.data_type ((signed64_bytes h.root_pointer ++ signed64_bytes h.free_pointer ++ signed64_bytes h.maximum_size) ++ drop 40 old) (omega arith) in
    let at5 : drop 16 new ≡ signed64_bytes h.root_pointer ++ ((signed64_bytes h.free_pointer ++ signed64_bytes h.maximum_size) ++ drop 40 old) = ap (drop 16) whole in
    let v5 : signed64_at new 16 ≡ h.root_pointer = ap (λ l. cast_signed w64 (little_number 8 l)) at5 ∙ ap (cast_signed w64) (little_number-reads_back 8 (cast_unsigned w64 h.root_pointer) ((signed64_bytes h.free_pointer ++ signed64_bytes h.maximum_size) ++ drop 40 old) (omega (arith, Fits-lt-pow {w = w64} (of_z_fits w64 h.root_pointer f5)))) ∙ to_z-of_z w64 h.root_pointer f5 in
    let at6 : drop 24 new ≡ signed64_bytes h.free_pointer ++ ((signed64_bytes h.maximum_size) ++ drop 40 old) = ap (drop 24) whole in
    let v6 : signed64_at new 24 ≡ h.free_pointer = ap (λ l. cast_signed w64 (little_number 8 l)) at6 ∙ ap (cast_signed w64) (little_number-reads_back 8 (cast_unsigned w64 h.free_pointer) ((signed64_bytes h.maximum_size) ++ drop 40 old) (omega (arith, Fits-lt-pow {w = w64} (of_z_fits w64 h.free_pointer f6)))) ∙ to_z-of_z w64 h.free_pointer f6 in
    let at7 : drop 32 new ≡ signed64_bytes h.maximum_size ++ drop 40 old = ap (drop 32) whole in
    let v7 : signed64_at new 32 ≡ h.maximum_size = ap (λ l. cast_signed w64 (little_number 8 l)) at7 ∙ ap (cast_signed w64) (little_number-reads_back 8 (cast_unsigned w64 h.maximum_size) (drop 40 old) (omega (arith, Fits-lt-pow {w = w64} (of_z_fits w64 h.maximum_size f7)))) ∙ to_z-of_z w64 h.maximum_size f7 in
    λ t. record { magic = v1 t; node_size = v2 t; levels = v3 t; data_type = v4 t; root_pointer = v5 t; free_pointer = v6 t; maximum_size = v7 t }
