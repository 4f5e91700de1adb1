-- An area of zeros has no items.
use Rattle.std.proofs.Common.{◌≡◌, ◌≤◌, ◌+◌, ◌-◌, inr, ℕ, List, [], ◌∷◌, ◌++◌, length, sym, ◌∙◌, ap, subst, arith, Option, Some}
use Rattle.std.specs.Prelude.{replicate, All, IfSome}
use Rattle.std.specs.List.{flat_map}
use Rattle.std.proofs.lemmas.List.{drop-replicate}
use Rattle.bfs_bytes.specs.Fields.{Puts}
use Rattle.std.proofs.lemmas.List.Elements.{All-nil}
use Rattle.bfs_smalldata.specs.Items.{Item, IsWritable, Ends, bytes_of, items_of, sizes_of}
use Rattle.bfs_smalldata.specs.Edits.{without, IsFitting}
use Rattle.bfs_fresh.proofs.Zeros.{zero_number}

zeros_end : (n : ℕ) → Ends (replicate n 0)
zeros_end n = inr (zero_number n 2 4)

module _ (written : (items : List Item) (rest : List ℕ) → All IsWritable items → Ends rest → items_of (flat_map bytes_of items ++ rest) ≡ Some items) where
  pub no_items : (n : ℕ) → items_of (replicate n 0) ≡ Some []
  no_items n = written [] (replicate n 0) (All-nil IsWritable) (zeros_end n)

  pub no_items_in : (area : List ℕ) (n : ℕ) → area ≡ replicate n 0 → items_of area ≡ Some []
  no_items_in area n e = ap items_of e ∙ no_items n

  pub name_fits : (area name : List ℕ) (n : ℕ) → area ≡ replicate n 0 → 300 ≤ length area → length name ≤ 255 → IsFitting area (19 ∷ []) (length name)
  name_fits area name n e room short = (
    omega (arith, short),
    subst (λ (o : Option (List Item)). IfSome o (λ items. sizes_of (without (19 ∷ []) items) + (8 + length {A = ℕ} (19 ∷ []) + 3 + length name + 1) ≤ length area)) (sym (no_items_in area n e)) (
        let h : 0 + (8 + 1 + 3 + length name + 1) ≤ length area = omega (arith, room, short) in h),
  )

-- bytes that are written at the front of zeros
pub put_front : (part bytes : List ℕ) (n : ℕ) → Puts 0 part (replicate n 0) bytes → bytes ≡ part ++ replicate (n - length part) 0
put_front part bytes n put =
    let same : 0 + length part ≡ length part = omega arith in
    put ∙ ap (λ (rest : List ℕ). part ++ rest) (drop-replicate (0 + length part) n 0 ∙ ap (λ (k : ℕ). replicate (n - k) 0) same)
