-- The levels of a stream that keeps its format: up to where each reaches, and the block at a place of each.
use Rattle.std.proofs.Common.{◌≡◌, ◌≤◌, ◌<◌, ◌+◌, ◌-◌, ◌*◌, ◌/◌, ℕ, zero, suc, ℤ, pos, List, [], ◌∷◌, ◌++◌, length, get_or, Bool, true, false, cond, Option, Some, None, refl, sym, ap, ◌∙◌, subst, arith, length-append, ◌⊎◌, inl, inr, max}
use Rattle.std.specs.Prelude.{slice_get, ◌==◌, IsSome}
use Rattle.std.specs.List.{flat_map}
use Rattle.std.proofs.lemmas.List.{nil_from_length}
use Rattle.std.proofs.lemmas.Option.{slice_get-get_or}
use Rattle.std.proofs.Math.Nat.{mul-div_cancel_left}
use Rattle.bfs_base.specs.Lists.{times}
use Rattle.bfs_bytes.specs.declared.Run.{Run}
use Rattle.bfs_super.specs.Conditions.{natural}
use Rattle.bfs_stream.specs.Sizes.{Sizes, HasSizes, Origin, IsInVolume, IsWhole, first_block, runs_per_block}
use Rattle.bfs_stream.specs.Places.{run_blocks, blocks_of, used_runs, array_runs, fields, second_arrays, places_at, arrays_at, level_end, HasStream, level_blocks, arrays_of}
use Rattle.bfs_stream.proofs.Named.{direct_runs, indirect_runs, direct_blocks, indirect_blocks, double_blocks}
use Rattle.bfs_stream.specs.Told.{contents, AreTold, Stands}
use Rattle.bfs_stream.specs.Scans.{block_in, ends_of, HasDouble}
use Rattle.bfs_stream.proofs.Levels.{get_left, get_right, length-counted}
use Rattle.bfs_stream.proofs.Arrays.{length-array}
use Rattle.bfs_stream.proofs.Doubles.{length-used, times-append}

pub some_size : (s : Sizes) → HasSizes s → 0 < s.block_size
some_size s sizes = by_size s.block_size sizes.block_size
  where
    by_size : (n : ℕ) → (n ≡ 1024) ⊎ (n ≡ 2048) ⊎ (n ≡ 4096) ⊎ (n ≡ 8192) → 0 < n
    by_size n size = grind (arith, size)

end_is : (z : ℤ) (n b : ℕ) → 0 < b → z ≡ pos (b * n) → natural z / b ≡ n
end_is z n b some e = ap (λ (x : ℤ). natural x / b) e ∙ mul-div_cancel_left n some

-- runs that are used have blocks
pub some_blocks : (s : Sizes) (rs : List Run) → 0 < length (used_runs rs) → 0 < length (blocks_of s (used_runs rs))
some_blocks s [] h = absurd (omega arith)
some_blocks s (r ∷ rs) h = by_len (r.len == 0) refl h
  where
    by_len : (b : Bool) → (r.len == 0) ≡ b → 0 < length (cond b [] (r ∷ used_runs rs)) → 0 < length (blocks_of s (cond b [] (r ∷ used_runs rs)))
    by_len true e g = absurd (omega arith)
    by_len false e g =
        let some : 0 < r.len = grind (arith, e) in
        omega (arith, length-append (run_blocks s r) (blocks_of s (used_runs rs)), length-counted (first_block s r) r.len)

-- a place inside a list has an element
pub never_none : {X : Type 0} (xs : List X) (i : ℕ) (d : X) → i < length xs → slice_get xs i ≡ None → ⊥
never_none xs i d h e = let some : slice_get xs i ≡ Some (get_or xs i d) = slice_get-get_or xs i d h in cc

module _ (s : Sizes) (blocks : ℕ → List ℕ) (id : ℕ) where
  pub direct_some : (i : ℕ) → i < length (direct_blocks s blocks id) → block_in s (fields s blocks id).direct i ≡ None → ⊥
  unfolding level_blocks
  direct_some i h e = never_none (blocks_of s (direct_runs s blocks id)) i 0 h e

  pub indirect_some : (i : ℕ) → i < length (indirect_blocks s blocks id) → block_in s (array_runs s blocks (fields s blocks id).indirect) i ≡ None → ⊥
  unfolding level_blocks
  indirect_some i h e = never_none (blocks_of s (indirect_runs s blocks id)) i 0 h e

  pub places_direct : (i : ℕ) → i < length (direct_blocks s blocks id) → slice_get (places_at s blocks id) i ≡ block_in s (fields s blocks id).direct i
  unfolding level_blocks
  places_direct i h = get_left (direct_blocks s blocks id) (indirect_blocks s blocks id ++ double_blocks s blocks id) i h

  pub places_indirect : (i : ℕ) → length (direct_blocks s blocks id) ≤ i → i < length (direct_blocks s blocks id) + length (indirect_blocks s blocks id)
      → slice_get (places_at s blocks id) i ≡ block_in s (array_runs s blocks (fields s blocks id).indirect) (i - length (direct_blocks s blocks id))
  unfolding level_blocks
  places_indirect i low high =
      get_right (direct_blocks s blocks id) (indirect_blocks s blocks id ++ double_blocks s blocks id) i low
      ∙ get_left (indirect_blocks s blocks id) (double_blocks s blocks id) (i - length (direct_blocks s blocks id)) (omega arith)

  pub places_double : (i : ℕ) → length (direct_blocks s blocks id) + length (indirect_blocks s blocks id) ≤ i
      → slice_get (places_at s blocks id) i ≡ block_in s (flat_map (array_runs s blocks) (second_arrays s blocks id)) (i - (length (direct_blocks s blocks id) + length (indirect_blocks s blocks id)))
  unfolding level_blocks
  places_double i low =
      let e : i - length (direct_blocks s blocks id) - length (indirect_blocks s blocks id) ≡ i - (length (direct_blocks s blocks id) + length (indirect_blocks s blocks id)) = omega arith in
      get_right (direct_blocks s blocks id) (indirect_blocks s blocks id ++ double_blocks s blocks id) i (omega arith)
      ∙ get_right (indirect_blocks s blocks id) (double_blocks s blocks id) (i - length (direct_blocks s blocks id)) (omega arith)
      ∙ ap (slice_get (double_blocks s blocks id)) e

  -- the double indirect level is used only behind the indirect one
  some_indirect : HasStream s blocks id → 0 < length (double_blocks s blocks id) → 0 < length (indirect_blocks s blocks id)
  unfolding level_blocks
  some_indirect stands some = by_cases stands.double
    where
      by_cases : ((fields s blocks id).double_indirect.len ≡ 0)
          ⊎ (IsWhole s (fields s blocks id).double_indirect × (0 < length (indirect_runs s blocks id)) × (length (indirect_runs s blocks id) ≡ length (array_runs s blocks (fields s blocks id).indirect)))
          → 0 < length (blocks_of s (indirect_runs s blocks id))
      by_cases (inl none) =
          let size : length (array_runs s blocks (fields s blocks id).double_indirect) ≡ 0 = length-array s blocks (fields s blocks id).double_indirect ∙ ap (λ (n : ℕ). runs_per_block s * n) none ∙ (let z : runs_per_block s * 0 ≡ 0 = omega arith in z) in
          let le = length-used (array_runs s blocks (fields s blocks id).double_indirect) in
          let nil : second_arrays s blocks id ≡ [] = nil_from_length (second_arrays s blocks id) (omega (arith, size, le)) in
          let none : length (blocks_of s (used_runs (flat_map (array_runs s blocks) (second_arrays s blocks id)))) ≡ 0 = ap (λ (l : List Run). length (blocks_of s (used_runs (flat_map (array_runs s blocks) l)))) nil in
          absurd (omega (arith, none))
      by_cases (inr full) = some_blocks s (array_runs s blocks (fields s blocks id).indirect) full.1

  -- what the ranges say of the levels
  pub record AreEnds (d i x : ℕ) : Type 0 where
    pub direct : d ≡ length (direct_blocks s blocks id)
    pub indirect : ((length (indirect_blocks s blocks id) ≡ 0) × (i ≡ 0)) ⊎ ((0 < length (indirect_blocks s blocks id)) × (i ≡ length (direct_blocks s blocks id) + length (indirect_blocks s blocks id)))
    pub double : ((length (double_blocks s blocks id) ≡ 0) × (x ≡ 0)) ⊎ ((0 < length (double_blocks s blocks id)) × (x ≡ length (direct_blocks s blocks id) + length (indirect_blocks s blocks id) + length (double_blocks s blocks id)))
    pub order : 0 < length (double_blocks s blocks id) → 0 < length (indirect_blocks s blocks id)

  module _ (sizes : HasSizes s) (stands : HasStream s blocks id) where
    pub direct_end : (ends_of s (fields s blocks id)).direct ≡ length (direct_blocks s blocks id)
    direct_end = end_is (fields s blocks id).max_direct_range (length (direct_blocks s blocks id)) s.block_size (some_size s sizes) stands.direct_range

    indirect_end : (ends_of s (fields s blocks id)).indirect ≡ level_end (length (direct_blocks s blocks id)) (length (indirect_blocks s blocks id))
    indirect_end = end_is (fields s blocks id).max_indirect_range (level_end (length (direct_blocks s blocks id)) (length (indirect_blocks s blocks id))) s.block_size (some_size s sizes) stands.indirect_range

    double_end : (ends_of s (fields s blocks id)).double ≡ level_end (length (direct_blocks s blocks id) + length (indirect_blocks s blocks id)) (length (double_blocks s blocks id))
    double_end = end_is (fields s blocks id).max_double_indirect_range (level_end (length (direct_blocks s blocks id) + length (indirect_blocks s blocks id)) (length (double_blocks s blocks id))) s.block_size (some_size s sizes) stands.double_range

    end_cases : (before own e : ℕ) → e ≡ level_end before own → ((own ≡ 0) × (e ≡ 0)) ⊎ ((0 < own) × (e ≡ before + own))
    end_cases before zero e is = inl (refl, is)
    end_cases before (suc own) e is = inr (omega arith, is ∙ (let t : (suc own == 0) ≡ false = grind arith in ap (λ (b : Bool). cond b 0 (before + suc own)) t))

    pub ends_are : AreEnds (ends_of s (fields s blocks id)).direct (ends_of s (fields s blocks id)).indirect (ends_of s (fields s blocks id)).double
    ends_are = record {
      direct = direct_end;
      indirect = end_cases (length (direct_blocks s blocks id)) (length (indirect_blocks s blocks id)) (ends_of s (fields s blocks id)).indirect indirect_end;
      double = end_cases (length (direct_blocks s blocks id) + length (indirect_blocks s blocks id)) (length (double_blocks s blocks id)) (ends_of s (fields s blocks id)).double double_end;
      order = some_indirect stands;
    }

pub length-places : (s : Sizes) (blocks : ℕ → List ℕ) (id : ℕ) → length (places_at s blocks id) ≡ length (direct_blocks s blocks id) + length (indirect_blocks s blocks id) + length (double_blocks s blocks id)
length-places s blocks id =
    omega (arith, length-append (direct_blocks s blocks id) (indirect_blocks s blocks id ++ double_blocks s blocks id), length-append (indirect_blocks s blocks id) (double_blocks s blocks id))

-- of three ends the last is the whole length
pub last_is : (d i x D I X : ℕ) → d ≡ D → ((I ≡ 0) × (i ≡ 0)) ⊎ ((0 < I) × (i ≡ D + I)) → ((X ≡ 0) × (x ≡ 0)) ⊎ ((0 < X) × (x ≡ D + I + X)) → (0 < X → 0 < I) → max (max d i) x ≡ D + I + X
last_is d i x D I X e (inl f) (inl g) order = grind (arith, e, f.0, f.1, g.0, g.1)
last_is d i x D I X e (inl f) (inr g) order = let some : 0 < I = order g.0 in absurd (omega (arith, some, f.0))
last_is d i x D I X e (inr f) (inl g) order = grind (arith, e, f.0, f.1, g.0, g.1)
last_is d i x D I X e (inr f) (inr g) order = grind (arith, e, f.0, f.1, g.0, g.1)

-- a place before the last end and behind the direct level lies in the indirect one, or behind both
pub in_indirect : (i D I p : ℕ) → ((I ≡ 0) × (i ≡ 0)) ⊎ ((0 < I) × (i ≡ D + I)) → p < i → p < D + I
in_indirect i D I p (inl f) h = absurd (omega (arith, f.1))
in_indirect i D I p (inr f) h = omega (arith, f.1)

pub in_double : (d i x D I X p : ℕ) → d ≡ D → ((I ≡ 0) × (i ≡ 0)) ⊎ ((0 < I) × (i ≡ D + I)) → ((X ≡ 0) × (x ≡ 0)) ⊎ ((0 < X) × (x ≡ D + I + X)) → (0 < X → 0 < I) → d ≤ p → i ≤ p → p < max (max d i) x → (i ≡ D + I) × (p < D + I + X) × (D + I ≤ p)
in_double d i x D I X p e f (inl g) order low mid high = absurd (grind (arith, low, mid, high, g.1))
in_double d i x D I X p e (inl f) (inr g) order low mid high = let some : 0 < I = order g.0 in absurd (omega (arith, some, f.0))
in_double d i x D I X p e (inr f) (inr g) order low mid high = (f.1, (let h : p < max (max d i) x = high in let lt : p < x = grind (arith, low, mid, h) in omega (arith, lt, g.1)), omega (arith, f.1, mid))

module _ (m : ℕ → Option (List ℕ)) where
  pub told_left : (xs ys : List ℕ) → AreTold m (xs ++ ys) → AreTold m xs
  told_left xs ys told k h = told k (let has : 0 < times k xs = h in omega (arith, times-append k xs ys, has))

  pub told_right : (xs ys : List ℕ) → AreTold m (xs ++ ys) → AreTold m ys
  told_right xs ys told k h = told k (let has : 0 < times k ys = h in omega (arith, times-append k xs ys, has))

  told_rest : (x : ℕ) (xs : List ℕ) → AreTold m (x ∷ xs) → AreTold m xs
  told_rest x xs told k h = told k (let has : 0 < times k xs = h in let n : ℕ = cond (x == k) 1 0 in omega (arith, has))

  told_first : (x : ℕ) (xs : List ℕ) → AreTold m (x ∷ xs) → IsSome (m x)
  told_first x xs told = told x (let e : (x == x) ≡ true = grind arith in subst (λ (b : Bool). 0 < cond b 1 0 + times x xs) (sym e) (omega arith))

  module _ (o : Origin) (stands : Stands o m) where
    pub told_inode : IsSome (m o.id)
    told_inode = told_first o.id (arrays_at o.sizes (contents m) o.id) stands.told

    told_arrays : AreTold m (run_blocks o.sizes (fields o.sizes (contents m) o.id).indirect ++ (run_blocks o.sizes (fields o.sizes (contents m) o.id).double_indirect ++ blocks_of o.sizes (second_arrays o.sizes (contents m) o.id)))
    unfolding arrays_of
    told_arrays = told_rest o.id (arrays_at o.sizes (contents m) o.id) stands.told

    pub told_indirect : AreTold m (run_blocks o.sizes (fields o.sizes (contents m) o.id).indirect)
    told_indirect = told_left (run_blocks o.sizes (fields o.sizes (contents m) o.id).indirect) (run_blocks o.sizes (fields o.sizes (contents m) o.id).double_indirect ++ blocks_of o.sizes (second_arrays o.sizes (contents m) o.id)) told_arrays

    told_doubles : AreTold m (run_blocks o.sizes (fields o.sizes (contents m) o.id).double_indirect ++ blocks_of o.sizes (second_arrays o.sizes (contents m) o.id))
    told_doubles = told_right (run_blocks o.sizes (fields o.sizes (contents m) o.id).indirect) (run_blocks o.sizes (fields o.sizes (contents m) o.id).double_indirect ++ blocks_of o.sizes (second_arrays o.sizes (contents m) o.id)) told_arrays

    pub has_double : (i : ℕ) → i < length (double_blocks o.sizes (contents m) o.id) → HasDouble o.sizes m (fields o.sizes (contents m) o.id).double_indirect i
    unfolding level_blocks
    has_double i h = record {
      first = told_left (run_blocks o.sizes (fields o.sizes (contents m) o.id).double_indirect) (blocks_of o.sizes (second_arrays o.sizes (contents m) o.id)) told_doubles;
      second = told_right (run_blocks o.sizes (fields o.sizes (contents m) o.id).double_indirect) (blocks_of o.sizes (second_arrays o.sizes (contents m) o.id)) told_doubles;
      arrays = stands.sound.arrays;
      runs = stands.sound.in_double;
      inside = h;
    }

    -- a level that is used has its array in the volume
    pub holds_indirect : 0 < length (indirect_blocks o.sizes (contents m) o.id) → IsInVolume o.sizes (fields o.sizes (contents m) o.id).indirect
    unfolding level_blocks
    holds_indirect some = by_cases stands.sound.indirect
      where
        by_cases : ((fields o.sizes (contents m) o.id).indirect.len ≡ 0) ⊎ (IsInVolume o.sizes (fields o.sizes (contents m) o.id).indirect × (length (direct_runs o.sizes (contents m) o.id) ≡ 12)) → IsInVolume o.sizes (fields o.sizes (contents m) o.id).indirect
        by_cases (inl none) =
            let size : length (array_runs o.sizes (contents m) (fields o.sizes (contents m) o.id).indirect) ≡ 0 = length-array o.sizes (contents m) (fields o.sizes (contents m) o.id).indirect ∙ ap (λ (n : ℕ). runs_per_block o.sizes * n) none ∙ (let z : runs_per_block o.sizes * 0 ≡ 0 = omega arith in z) in
            let le = length-used (array_runs o.sizes (contents m) (fields o.sizes (contents m) o.id).indirect) in
            let nil : indirect_runs o.sizes (contents m) o.id ≡ [] = nil_from_length (indirect_runs o.sizes (contents m) o.id) (omega (arith, size, le)) in
            let none : length (blocks_of o.sizes (indirect_runs o.sizes (contents m) o.id)) ≡ 0 = ap (λ (l : List Run). length (blocks_of o.sizes l)) nil in
            absurd (omega (arith, none, some))
        by_cases (inr full) = full.0

    pub holds_double : 0 < length (double_blocks o.sizes (contents m) o.id) → IsWhole o.sizes (fields o.sizes (contents m) o.id).double_indirect
    unfolding level_blocks
    holds_double some = by_cases stands.sound.double
      where
        by_cases : ((fields o.sizes (contents m) o.id).double_indirect.len ≡ 0)
            ⊎ (IsWhole o.sizes (fields o.sizes (contents m) o.id).double_indirect × (0 < length (indirect_runs o.sizes (contents m) o.id)) × (length (indirect_runs o.sizes (contents m) o.id) ≡ length (array_runs o.sizes (contents m) (fields o.sizes (contents m) o.id).indirect)))
            → IsWhole o.sizes (fields o.sizes (contents m) o.id).double_indirect
        by_cases (inl none) =
            let size : length (array_runs o.sizes (contents m) (fields o.sizes (contents m) o.id).double_indirect) ≡ 0 = length-array o.sizes (contents m) (fields o.sizes (contents m) o.id).double_indirect ∙ ap (λ (n : ℕ). runs_per_block o.sizes * n) none ∙ (let z : runs_per_block o.sizes * 0 ≡ 0 = omega arith in z) in
            let le = length-used (array_runs o.sizes (contents m) (fields o.sizes (contents m) o.id).double_indirect) in
            let nil : second_arrays o.sizes (contents m) o.id ≡ [] = nil_from_length (second_arrays o.sizes (contents m) o.id) (omega (arith, size, le)) in
            let none : length (blocks_of o.sizes (used_runs (flat_map (array_runs o.sizes (contents m)) (second_arrays o.sizes (contents m) o.id)))) ≡ 0 = ap (λ (l : List Run). length (blocks_of o.sizes (used_runs (flat_map (array_runs o.sizes (contents m)) l)))) nil in
            absurd (omega (arith, none, some))
        by_cases (inr full) = full.0
