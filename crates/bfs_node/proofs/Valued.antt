-- A value that was written changes its row alone.
use Rattle.std.proofs.Common.{◌≡◌, ◌⊎◌, ◌<◌, ◌≤◌, ◌+◌, ◌-◌, ◌*◌, ℕ, ℤ, zero, suc, List, ◌∷◌, length, take, drop, set, ap, ap₂, sym, ◌∙◌, refl, arith, inl, inr, FitsSigned}
use Rattle.std.specs.Int.{w64}
use Rattle.bfs_bytes.specs.Fields.{Puts, unsigned_at, signed64_at, signed64_bytes}
use Rattle.bfs_bytes.proofs.Lengths.{length-signed64_bytes}
use Rattle.bfs_bytes.proofs.Kept.{puts-length, bytes-kept, unsigned-kept, signed64-kept, signed64-put}
use Rattle.bfs_node.specs.Page.{Row, key_of, count_at, key_bytes_at, base_at, base_of, end_at, start_at, row_at, rows_from, rows_of, row_in, links_of, HasLayout}
use Rattle.bfs_node.proofs.PageLayout.{end-within, row_in-rows_of}

module _ (p q : List ℕ) (layout : HasLayout p) (i : ℕ) (v : ℤ) (inside : i < count_at p) (puts : Puts (base_at p + 2 * count_at p + 8 * i) (signed64_bytes v) p q) (range : FitsSigned w64 v) where
  fits : base_at p + 2 * count_at p + 8 * i + length (signed64_bytes v) ≤ length p
  fits = omega (arith, length-signed64_bytes v, layout.size, layout.bounds)

  number-kept : (a : ℕ) → a + 2 ≤ base_at p + 2 * count_at p → unsigned_at 2 q a ≡ unsigned_at 2 p a
  number-kept a h = unsigned-kept (base_at p + 2 * count_at p + 8 * i) (signed64_bytes v) p q puts fits 2 a (inl (omega arith))

  pub count-valued : count_at q ≡ count_at p
  count-valued = number-kept 24 (omega arith)

  key_bytes-valued : key_bytes_at q ≡ key_bytes_at p
  key_bytes-valued = number-kept 26 (omega arith)

  base-valued : base_at q ≡ base_at p
  base-valued = ap base_of key_bytes-valued

  end-valued : (j : ℕ) → j < count_at p → end_at q j ≡ end_at p j
  end-valued j h = ap (λ b. unsigned_at 2 q (b + 2 * j)) base-valued ∙ number-kept (base_at p + 2 * j) (omega arith)

  start-valued : (j : ℕ) → j ≤ count_at p → start_at q j ≡ start_at p j
  start-valued zero h = refl
  start-valued (suc j) h = end-valued j (omega arith)

  key-valued : (j : ℕ) → j < count_at p → key_of (row_at q j) ≡ key_of (row_at p j)
  key-valued j h =
      ap₂ (λ e s. take (e - s) (drop (28 + s) q)) (end-valued j h) (start-valued j (omega arith))
      ∙ bytes-kept (base_at p + 2 * count_at p + 8 * i) (signed64_bytes v) p q puts fits (28 + start_at p j) (end_at p j - start_at p j)
      (inl (omega (arith, end-within p layout j h, layout.ascend j h)))

  value-at : (j : ℕ) → signed64_at q (base_at q + 2 * count_at q + 8 * j) ≡ signed64_at q (base_at p + 2 * count_at p + 8 * j)
  value-at j = ap₂ (λ b n. signed64_at q (b + 2 * n + 8 * j)) base-valued count-valued

  other-row : (j : ℕ) → j < count_at p → (j < i) ⊎ (i < j) → row_at q j ≡ row_at p j
  other-row j h (inl before) =
      let value = value-at j ∙ signed64-kept (base_at p + 2 * count_at p + 8 * i) (signed64_bytes v) p q puts fits (base_at p + 2 * count_at p + 8 * j) (inl (omega arith)) in
      let key = key-valued j h in
      λ t. (key t, value t)
  other-row j h (inr behind) =
      let value = value-at j ∙ signed64-kept (base_at p + 2 * count_at p + 8 * i) (signed64_bytes v) p q puts fits (base_at p + 2 * count_at p + 8 * j) (inr (omega (arith, length-signed64_bytes v))) in
      let key = key-valued j h in
      λ t. (key t, value t)

  this-row : row_at q i ≡ (key_of (row_at p i), v)
  this-row =
      let value = value-at i ∙ signed64-put (base_at p + 2 * count_at p + 8 * i) p q v puts (omega (arith, fits, length-signed64_bytes v)) range in
      let key = key-valued i inside in
      λ t. (key t, value t)

  behind : (n j : ℕ) → i < j → j + n ≤ count_at p → rows_from q j n ≡ rows_from p j n
  behind zero j h l = refl
  behind (suc n) j h l = ap₂ (λ (r : Row) (rs : List Row). r ∷ rs) (other-row j (omega arith) (inr h)) (behind n (j + 1) (omega arith) (omega arith))

  around : (n j k : ℕ) → i ≡ j + k → k < n → j + n ≤ count_at p → rows_from q j n ≡ set (rows_from p j n) k (key_of (row_at p i), v)
  around zero j k e h l = absurd (omega arith)
  around (suc n) j zero e h l =
      let same : j ≡ i = omega arith in
      ap₂ (λ (r : Row) (rs : List Row). r ∷ rs) (ap (row_at q) same ∙ this-row) (behind n (j + 1) (omega arith) (omega arith))
  around (suc n) j (suc k) e h l =
      ap₂ (λ (r : Row) (rs : List Row). r ∷ rs) (other-row j (omega arith) (inl (omega arith))) (around n (j + 1) k (omega arith) (omega arith) (omega arith))

  pub rows-valued : rows_of q ≡ set (rows_of p) i (key_of (row_in (rows_of p) i), v)
  unfolding rows_of
  rows-valued =
      ap (rows_from q 0) count-valued ∙ around (count_at p) 0 i (omega arith) inside (omega arith)
      ∙ ap (λ (r : Row). set (rows_from p 0 (count_at p)) i (key_of r, v)) (sym (row_in-rows_of p i inside))

  pub layout-valued : HasLayout q
  layout-valued = record {
    size = puts-length (base_at p + 2 * count_at p + 8 * i) (signed64_bytes v) p q puts fits ∙ layout.size;
    bounds = omega (arith, layout.bounds, count-valued, base-valued);
    ascend = λ j h.
        let lt : j < count_at p = omega (arith, h, count-valued) in
        omega (arith, start-valued j (omega arith), end-valued j lt, layout.ascend j lt);
    last = ap (start_at q) count-valued ∙ start-valued (count_at p) (omega arith) ∙ layout.last ∙ sym key_bytes-valued;
  }

  pub links-valued : links_of q ≡ links_of p
  links-valued =
      let a = signed64-kept (base_at p + 2 * count_at p + 8 * i) (signed64_bytes v) p q puts fits 0 (inl (omega arith)) in
      let b = signed64-kept (base_at p + 2 * count_at p + 8 * i) (signed64_bytes v) p q puts fits 8 (inl (omega arith)) in
      let c = signed64-kept (base_at p + 2 * count_at p + 8 * i) (signed64_bytes v) p q puts fits 16 (inl (omega arith)) in
      λ t. record { left = a t; right = b t; overflow = c t }
