-- Numbers in a part of a page, both ways.
use Rattle.std.proofs.Common.{◌≡◌, ◌<◌, ◌≤◌, ◌+◌, ◌^◌, ℕ, ℤ, List, [], length, drop, ap, sym, ◌∙◌, arith, append-nil, FitsSigned}
use Rattle.std.specs.Int.{w64, cast_signed, cast_unsigned}
use Rattle.std.proofs.lemmas.Int.{to_z-of_z}
use Rattle.std.proofs.Math.Facts.{Fits-lt-pow, Fits-of_lt, sfits_to_z}
use mir.ValLaws.{of_z_fits}
use Rattle.byteorder.specs.Endian.{little_number}
use Rattle.byteorder.specs.Numbers.{little_from-take, little_number-reads_back, little_from-lt}
use Rattle.bfs_base.specs.Images.{IsBytes}
use Rattle.bfs_bytes.specs.Fields.{unsigned_at, signed64_at, unsigned_bytes, signed64_bytes}
use Rattle.bfs_bytes.proofs.Again.{again_unsigned2, again_signed64, bytes_dropped}
use Rattle.bfs_node.specs.Written.{part, two, eight}

number_part : (n : ℕ) (p : List ℕ) (at x : ℕ) → part p at n ≡ unsigned_bytes n x → x < 256 ^ n → unsigned_at n p at ≡ x
unfolding unsigned_at unsigned_bytes
number_part n p at x is small =
    sym (little_from-take 0 n n (drop at p) (omega arith))
    ∙ ap (little_number n) (is ∙ sym (append-nil (unsigned_bytes n x)))
    ∙ little_number-reads_back n x [] small

-- the number whose two bytes stand at a place
pub number_two : (p : List ℕ) (at n : ℕ) → part p at 2 ≡ two n → n < 2 ^ 16 → unsigned_at 2 p at ≡ n
number_two p at n is small = number_part 2 p at n is (omega arith)

-- the number whose eight bytes stand at a place
pub number_eight : (p : List ℕ) (at : ℕ) (z : ℤ) → part p at 8 ≡ eight z → FitsSigned w64 z → signed64_at p at ≡ z
unfolding signed64_at signed64_bytes
number_eight p at z is range =
    ap (cast_signed w64) (number_part 8 p at (cast_unsigned w64 z) is (omega (arith, Fits-lt-pow {w = w64} (of_z_fits w64 z range))))
    ∙ to_z-of_z w64 z range

-- the bytes of a number that was read
pub two_again : (p : List ℕ) → IsBytes p → (at : ℕ) → at + 2 ≤ length p → two (unsigned_at 2 p at) ≡ part p at 2
two_again p small at fits = again_unsigned2 p small at fits

pub eight_again : (p : List ℕ) → IsBytes p → (at : ℕ) → at + 8 ≤ length p → eight (signed64_at p at) ≡ part p at 8
eight_again p small at fits = again_signed64 p small at fits

-- a number that was read is one of 64 bits
pub value_fits : (p : List ℕ) → IsBytes p → (at : ℕ) → FitsSigned w64 (signed64_at p at)
unfolding signed64_at unsigned_at
value_fits p small at = sfits_to_z {w = w64} {n = little_number 8 (drop at p)} (Fits-of_lt {w = w64} {n = little_number 8 (drop at p)} (omega (arith, little_from-lt 0 8 (drop at p) (bytes_dropped at p small))))
