-- The key that bytes are is of the kind, and has these bytes.
use Rattle.std.proofs.Common.{◌≡◌, ◌∙◌, ℕ, List, refl, sym, ap, arith}
use Rattle.std.specs.Int.{w64}
use Rattle.std.proofs.lemmas.Int.{of_z-to_z}
use Rattle.std.proofs.lemmas.List.{take_all}
use Rattle.byteorder.specs.Endian.{little_number}
use Rattle.byteorder.specs.Numbers.{little_from-lt}
use Rattle.bfs_bytes.specs.Fields.{unsigned_bytes, unsigned_at, signed32_at, signed64_at, signed32_bytes, signed64_bytes}
use Rattle.bfs_bytes.proofs.Again.{again_signed32, again_signed64, again_unsigned4}
use Rattle.bfs_base.specs.Keys.{number_of}
use Rattle.bfs_base.specs.Images.{IsBytes}
use Rattle.bfs_base.specs.declared.kind.KeyKind.{KeyKind}
use Rattle.bfs_base.specs.declared.kind.KeyKind.TheVariants.{Text, I32, U32, I64, U64, F32, F64}
use Rattle.bfs_tree.specs.Listings.{key_from, kind_of_key, bytes_of_key}
use Rattle.bfs_node.specs.Search.{IsSought}

pub kind_back : (kind : KeyKind) (bytes : List ℕ) → IsSought kind bytes → kind_of_key (key_from kind bytes) ≡ kind
kind_back Text bytes h = refl
kind_back I32 bytes h = refl
kind_back U32 bytes h = refl
kind_back I64 bytes h = refl
kind_back U64 bytes h = refl
kind_back F32 bytes h = absurd h
kind_back F64 bytes h = absurd h

pub bytes_back : (kind : KeyKind) (bytes : List ℕ) → IsSought kind bytes → IsBytes bytes → bytes_of_key (key_from kind bytes) ≡ bytes
unfolding signed32_at signed64_at signed32_bytes signed64_bytes unsigned_at number_of
bytes_back Text bytes h fits = refl
bytes_back I32 bytes h fits = again_signed32 bytes fits 0 (omega (arith, h)) ∙ take_all 4 bytes (omega (arith, h))
bytes_back U32 bytes h fits = again_unsigned4 bytes fits 0 (omega (arith, h)) ∙ take_all 4 bytes (omega (arith, h))
bytes_back I64 bytes h fits = again_signed64 bytes fits 0 (omega (arith, h)) ∙ take_all 8 bytes (omega (arith, h))
bytes_back U64 bytes h fits =
    ap (unsigned_bytes 8) (sym (of_z-to_z w64 (little_number 8 bytes) (little_from-lt 0 8 bytes fits)))
    ∙ again_signed64 bytes fits 0 (omega (arith, h))
    ∙ take_all 8 bytes (omega (arith, h))
bytes_back F32 bytes h fits = absurd h
bytes_back F64 bytes h fits = absurd h
