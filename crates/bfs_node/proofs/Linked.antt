-- A link that was written leaves the rows, and the other links.
use Rattle.std.proofs.Common.{◌≡◌, ◌⊎◌, ◌≤◌, ◌+◌, ◌-◌, ◌*◌, ℕ, ℤ, zero, suc, List, ◌∷◌, length, take, drop, ap, ap₂, sym, ◌∙◌, refl, arith, inl, inr, drop-drop, FitsSigned}
use Rattle.std.specs.Int.{w64, cast_signed}
use Rattle.byteorder.specs.Endian.{little_number}
use Rattle.bfs_bytes.specs.Fields.{Puts, unsigned_at, signed64_at, signed64_bytes}
use Rattle.bfs_bytes.proofs.Lengths.{length-signed64_bytes}
use Rattle.bfs_bytes.proofs.Kept.{puts-length, rest-kept_behind, signed64-kept, signed64-put}
use Rattle.bfs_node.specs.Page.{Row, count_at, key_bytes_at, base_at, base_of, end_at, start_at, row_at, rows_from, rows_of, HasLayout, links_of}

module _ (p q : List ℕ) (same : drop 24 p ≡ drop 24 q) where
  drop-same : (a : ℕ) → 24 ≤ a → drop a p ≡ drop a q
  drop-same a h =
      let e : 24 + (a - 24) ≡ a = omega arith in
      ap (λ k. drop k p) (sym e) ∙ sym (drop-drop (a - 24) 24 p) ∙ ap (drop (a - 24)) same ∙ drop-drop (a - 24) 24 q ∙ ap (λ k. drop k q) e

  number-same : (a : ℕ) → 24 ≤ a → unsigned_at 2 p a ≡ unsigned_at 2 q a
  unfolding unsigned_at
  number-same a h = ap (little_number 2) (drop-same a h)

  signed-same : (a : ℕ) → 24 ≤ a → signed64_at p a ≡ signed64_at q a
  unfolding signed64_at unsigned_at
  signed-same a h = ap (λ l. cast_signed w64 (little_number 8 l)) (drop-same a h)

  base-same : base_at p ≡ base_at q
  base-same = ap base_of (number-same 26 (omega arith))

  end-same : (j : ℕ) → end_at p j ≡ end_at q j
  end-same j = ap (λ b. unsigned_at 2 p (b + 2 * j)) base-same ∙ number-same (base_at q + 2 * j) (omega arith)

  start-same : (j : ℕ) → start_at p j ≡ start_at q j
  start-same zero = refl
  start-same (suc j) = end-same j

  row-same : (j : ℕ) → row_at p j ≡ row_at q j
  row-same j =
      let key : take (end_at p j - start_at p j) (drop (28 + start_at p j) p) ≡ take (end_at q j - start_at q j) (drop (28 + start_at q j) q) =
      ap₂ (λ e s. take (e - s) (drop (28 + s) p)) (end-same j) (start-same j) ∙ ap (take (end_at q j - start_at q j)) (drop-same (28 + start_at q j) (omega arith)) in
      let value : signed64_at p (base_at p + 2 * count_at p + 8 * j) ≡ signed64_at q (base_at q + 2 * count_at q + 8 * j) =
      ap₂ (λ b n. signed64_at p (b + 2 * n + 8 * j)) base-same (number-same 24 (omega arith)) ∙ signed-same (base_at q + 2 * count_at q + 8 * j) (omega arith) in
      λ t. (key t, value t)

  all-same : (n j : ℕ) → rows_from p j n ≡ rows_from q j n
  all-same zero j = refl
  all-same (suc n) j = ap₂ (λ (r : Row) (l : List Row). r ∷ l) (row-same j) (all-same n (j + 1))

  pub rows-same : rows_of p ≡ rows_of q
  unfolding rows_of
  rows-same = ap (rows_from p 0) (number-same 24 (omega arith)) ∙ all-same (count_at q) 0

  pub layout-same : length p ≡ length q → HasLayout q → HasLayout p
  layout-same size layout =
      let n : count_at p ≡ count_at q = number-same 24 (omega arith) in
      let k : key_bytes_at p ≡ key_bytes_at q = number-same 26 (omega arith) in
      record {
        size = size ∙ layout.size;
        bounds = omega (arith, layout.bounds, n, ap base_of k);
        ascend = λ j h. omega (arith, start-same j, end-same j, layout.ascend j (omega (arith, h, n)));
        last = ap (start_at p) n ∙ start-same (count_at q) ∙ layout.last ∙ sym k;
      }

module _ (at : ℕ) (old new : List ℕ) (link : ℤ) (puts : Puts at (signed64_bytes link) old new) (size : length old ≡ 1024) where
  room : at + 8 ≤ 24 → at + length (signed64_bytes link) ≤ length old
  room low = omega (arith, length-signed64_bytes link)

  pub rows-linked : at + 8 ≤ 24 → rows_of new ≡ rows_of old
  rows-linked low = rows-same new old (rest-kept_behind at (signed64_bytes link) old new puts (room low) 24 (omega (arith, length-signed64_bytes link)))

  pub layout-linked : at + 8 ≤ 24 → HasLayout old → HasLayout new
  layout-linked low = layout-same new old (rest-kept_behind at (signed64_bytes link) old new puts (room low) 24 (omega (arith, length-signed64_bytes link))) (puts-length at (signed64_bytes link) old new puts (room low))

  kept : at + 8 ≤ 24 → (a : ℕ) → (a + 8 ≤ at) ⊎ (at + 8 ≤ a) → signed64_at new a ≡ signed64_at old a
  kept low a (inl before) = signed64-kept at (signed64_bytes link) old new puts (room low) a (inl before)
  kept low a (inr behind) = signed64-kept at (signed64_bytes link) old new puts (room low) a (inr (omega (arith, length-signed64_bytes link)))

pub left-linked : (old new : List ℕ) (link : ℤ) → Puts 0 (signed64_bytes link) old new → length old ≡ 1024 → FitsSigned w64 link → links_of new ≡ record (links_of old) { left = link }
left-linked old new link puts size range =
    let own = signed64-put 0 old new link puts (omega arith) range in
    let b = kept 0 old new link puts size (omega arith) 8 (inr (omega arith)) in
    let c = kept 0 old new link puts size (omega arith) 16 (inr (omega arith)) in
    λ t. record { left = own t; right = b t; overflow = c t }

pub right-linked : (old new : List ℕ) (link : ℤ) → Puts 8 (signed64_bytes link) old new → length old ≡ 1024 → FitsSigned w64 link → links_of new ≡ record (links_of old) { right = link }
right-linked old new link puts size range =
    let own = signed64-put 8 old new link puts (omega arith) range in
    let a = kept 8 old new link puts size (omega arith) 0 (inl (omega arith)) in
    let c = kept 8 old new link puts size (omega arith) 16 (inr (omega arith)) in
    λ t. record { left = a t; right = own t; overflow = c t }

pub overflow-linked : (old new : List ℕ) (link : ℤ) → Puts 16 (signed64_bytes link) old new → length old ≡ 1024 → FitsSigned w64 link → links_of new ≡ record (links_of old) { overflow = link }
overflow-linked old new link puts size range =
    let own = signed64-put 16 old new link puts (omega arith) range in
    let a = kept 16 old new link puts size (omega arith) 0 (inl (omega arith)) in
    let b = kept 16 old new link puts size (omega arith) 8 (inl (omega arith)) in
    λ t. record { left = a t; right = b t; overflow = own t }
