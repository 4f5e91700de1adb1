-- The order of keys: it is total, and equal keys are the same bytes.
use Rattle.std.proofs.Common.{◌≡◌, ◌<◌, ◌+◌, ℕ, pos, zero, suc, List, length, ap, sym, ◌∙◌, refl, arith}
use Rattle.std.specs.declared.cmp.Ordering.TheVariants.{Less, Equal, Greater}
use Rattle.std.specs.Cmp.{IsTotalOrder}
use Rattle.std.specs.Ordering.{ordering_reverse}
use Rattle.std.specs.Int.{w32, w64, cast_signed, cast_unsigned}
use Rattle.std.proofs.lemmas.Cmp.{nat_list_cmp_total, int_cmp_total, on_total}
use Rattle.std.proofs.lemmas.Map.Lookups.{exact_bytes, exact_signed}
use Rattle.std.proofs.lemmas.List.{take_all}
use Rattle.std.proofs.lemmas.Int.{of_z-to_z}
use Rattle.byteorder.specs.Endian.{little_number}
use Rattle.byteorder.specs.Numbers.{little_from-lt}
use Rattle.bfs_base.specs.Images.{IsBytes}
use Rattle.bfs_base.specs.Keys.{key_cmp, number_of}
use Rattle.bfs_base.specs.declared.kind.KeyKind.{KeyKind}
use Rattle.bfs_base.specs.declared.kind.KeyKind.TheVariants.{Text, I32, U32, I64, U64, F32, F64}
use Rattle.bfs_bytes.specs.Fields.{unsigned_at, unsigned_bytes, signed64_at, signed64_bytes}
use Rattle.bfs_bytes.proofs.Again.{again_unsigned4, again_signed64}
use Rattle.bfs_node.specs.Page.{Row, IsKeyLength}
use Rattle.bfs_node.specs.Search.{IsSought, Ascends, key_at}

pub key_cmp_total : (kind : KeyKind) → IsTotalOrder (key_cmp kind)
key_cmp_total Text = nat_list_cmp_total
key_cmp_total I32 = on_total (number_of I32) int_cmp_total
key_cmp_total U32 = on_total (number_of U32) int_cmp_total
key_cmp_total I64 = on_total (number_of I64) int_cmp_total
key_cmp_total U64 = on_total (number_of U64) int_cmp_total
key_cmp_total F32 = on_total (number_of F32) int_cmp_total
key_cmp_total F64 = on_total (number_of F64) int_cmp_total

-- four or eight bytes with one number are the same bytes
same_4 : (a b : List ℕ) → length a ≡ 4 → length b ≡ 4 → IsBytes a → IsBytes b → little_number 4 a ≡ little_number 4 b → a ≡ b
unfolding unsigned_at
same_4 a b la lb sa sb e =
    sym (take_all 4 a (omega arith)) ∙ sym (again_unsigned4 a sa 0 (omega arith)) ∙ ap (unsigned_bytes 4) e ∙ again_unsigned4 b sb 0 (omega arith) ∙ take_all 4 b (omega arith)

same_8 : (a b : List ℕ) → length a ≡ 8 → length b ≡ 8 → IsBytes a → IsBytes b → little_number 8 a ≡ little_number 8 b → a ≡ b
unfolding unsigned_at signed64_at
same_8 a b la lb sa sb e =
    sym (take_all 8 a (omega arith)) ∙ sym (again_signed64 a sa 0 (omega arith)) ∙ ap (λ (n : ℕ). signed64_bytes (cast_signed w64 n)) e ∙ again_signed64 b sb 0 (omega arith) ∙ take_all 8 b (omega arith)

bits_4 : (a b : List ℕ) → IsBytes a → IsBytes b → cast_signed w32 (little_number 4 a) ≡ cast_signed w32 (little_number 4 b) → little_number 4 a ≡ little_number 4 b
bits_4 a b sa sb e =
    sym (of_z-to_z w32 (little_number 4 a) (omega (arith, little_from-lt 0 4 a sa))) ∙ ap (cast_unsigned w32) e ∙ of_z-to_z w32 (little_number 4 b) (omega (arith, little_from-lt 0 4 b sb))

bits_8 : (a b : List ℕ) → IsBytes a → IsBytes b → cast_signed w64 (little_number 8 a) ≡ cast_signed w64 (little_number 8 b) → little_number 8 a ≡ little_number 8 b
bits_8 a b sa sb e =
    sym (of_z-to_z w64 (little_number 8 a) (omega (arith, little_from-lt 0 8 a sa))) ∙ ap (cast_unsigned w64) e ∙ of_z-to_z w64 (little_number 8 b) (omega (arith, little_from-lt 0 8 b sb))

pos_same : (m n : ℕ) → pos m ≡ pos n → m ≡ n
pos_same m n e = cc

pub same_key : (kind : KeyKind) (a b : List ℕ) → IsKeyLength kind (length a) → IsSought kind b → IsBytes a → IsBytes b → key_cmp kind a b ≡ Equal → a ≡ b
unfolding number_of
same_key Text a b la lb sa sb e = exact_bytes a b e
same_key I32 a b la lb sa sb e = same_4 a b (omega arith) lb sa sb (bits_4 a b sa sb (exact_signed (number_of I32 a) (number_of I32 b) e))
same_key U32 a b la lb sa sb e = same_4 a b (omega arith) lb sa sb (pos_same (little_number 4 a) (little_number 4 b) (exact_signed (number_of U32 a) (number_of U32 b) e))
same_key I64 a b la lb sa sb e = same_8 a b (omega arith) lb sa sb (bits_8 a b sa sb (exact_signed (number_of I64 a) (number_of I64 b) e))
same_key U64 a b la lb sa sb e = same_8 a b (omega arith) lb sa sb (pos_same (little_number 8 a) (little_number 8 b) (exact_signed (number_of U64 a) (number_of U64 b) e))
same_key F32 a b la lb sa sb e = absurd lb
same_key F64 a b la lb sa sb e = absurd lb

module _ (kind : KeyKind) (rows : List Row) (up : Ascends kind rows) where
  order : IsTotalOrder (key_cmp kind)
  order = key_cmp_total kind

  -- an earlier key is less than a later one
  pub earlier : (i m j : ℕ) → j ≡ i + 1 + m → j < length rows → key_cmp kind (key_at rows i) (key_at rows j) ≡ Less
  earlier i zero j e h = let next : i + 1 ≡ j = omega arith in ap (λ k. key_cmp kind (key_at rows i) (key_at rows k)) (sym next) ∙ up i (omega arith)
  earlier i (suc m) j e h =
      let next : i + 1 + m + 1 ≡ j = omega arith in
      (key_cmp_total kind).trans (key_at rows i) (key_at rows (i + 1 + m)) (key_at rows j) (earlier i m (i + 1 + m) refl (omega arith))
      (ap (λ k. key_cmp kind (key_at rows (i + 1 + m)) (key_at rows k)) (sym next) ∙ up (i + 1 + m) (omega arith))

  -- where a key is less than the one that is sought, so are those before it
  pub less_before : (key : List ℕ) (j i m : ℕ) → j ≡ i + m → j < length rows → key_cmp kind (key_at rows j) key ≡ Less → key_cmp kind (key_at rows i) key ≡ Less
  less_before key j i zero e h less = let same : i ≡ j = omega arith in ap (λ k. key_cmp kind (key_at rows k) key) same ∙ less
  less_before key j i (suc m) e h less =
      (key_cmp_total kind).trans (key_at rows i) (key_at rows j) key (earlier i m j (omega arith) h) less

  -- where a key is greater, so are those behind it
  pub greater_behind : (key : List ℕ) (i j m : ℕ) → j ≡ i + m → j < length rows → key_cmp kind key (key_at rows i) ≡ Less → key_cmp kind key (key_at rows j) ≡ Less
  greater_behind key i j zero e h less = let same : j ≡ i = omega arith in ap (λ k. key_cmp kind key (key_at rows k)) same ∙ less
  greater_behind key i j (suc m) e h less =
      (key_cmp_total kind).trans key (key_at rows i) (key_at rows j) less (earlier i m j (omega arith) h)

pub turned : (kind : KeyKind) (a b : List ℕ) → key_cmp kind a b ≡ Greater → key_cmp kind b a ≡ Less
turned kind a b e = (key_cmp_total kind).antisymm b a ∙ ap ordering_reverse e
