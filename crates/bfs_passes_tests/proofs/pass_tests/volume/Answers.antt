use Rattle.std.proofs.Common.{◌≡◌, ◌+◌, ◌++◌, ◌∙◌, ℕ, List, length, drop, arith}
use Rattle.std.proofs.lemmas.List.{length-take-le, length-append}
use Rattle.bfs_passes_tests.proofs.pass_tests.volume.Goals as goal

pub over-requires : goal.over-requires
over-requires c =
    let new : length c.put_all.new.bytes ≡ 24576 = c.put_all.ensures in
    let tail : List ℕ = drop (length c.put_all.new.bytes) c.in_ok-bytes.bytes.items in
    let long : length (c.put_all.new.bytes ++ tail) ≡ length c.put_all.new.bytes + length tail = length-append c.put_all.new.bytes tail in
    let len : c.in_ok-bytes.bytes.len ≡ 24576 = c.in_ok-bytes.ensures.len ∙ c.requires.size in
    length-take-le c.in_ok-bytes.bytes.len (c.put_all.new.bytes ++ tail) (omega (arith, new, long, len)) ∙ len
