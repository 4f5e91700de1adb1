-- What stays where blocks agree.
use Rattle.std.proofs.Common.{◌≡◌, ◌<◌, ◌+◌, ℕ, List, [], ◌∷◌, ◌++◌, Bool, true, cond, refl, sym, ap, ap₂, ◌∙◌, subst, arith, take}
use Rattle.std.specs.Prelude.{◌==◌}
use Rattle.std.specs.List.{flat_map}
use Rattle.bfs_base.specs.Lists.{times, Has, Agree}
use Rattle.bfs_bytes.specs.declared.Run.{Run}
use Rattle.bfs_super.specs.Conditions.{natural}
use Rattle.bfs_inode.specs.Inode.{stream_at, runs_in}
use Rattle.bfs_stream.specs.Sizes.{Sizes, runs_per_block}
use Rattle.bfs_stream.specs.Places.{Levels, run_blocks, blocks_of, used_runs, array_runs, arrays_of, places_of, fields, second_arrays, levels_at, arrays_at, places_at, frame_at, whole_at, bytes_at}
use Rattle.bfs_stream.proofs.Doubles.{times-append}
use Rattle.bfs_stream.proofs.Arrays.{array_is}

-- a number stands in the list of itself
pub has_first : (x : ℕ) (xs : List ℕ) → Has (x ∷ xs) x
has_first x xs = let e : (x == x) ≡ true = grind arith in subst (λ (b : Bool). 0 < cond b 1 0 + times x xs) (sym e) (omega arith)

pub has_rest : (x : ℕ) (xs : List ℕ) (k : ℕ) → Has xs k → Has (x ∷ xs) k
has_rest x xs k h = let has : 0 < times k xs = h in let n : ℕ = cond (x == k) 1 0 in omega (arith, has)

pub has_left : (xs ys : List ℕ) (k : ℕ) → Has xs k → Has (xs ++ ys) k
has_left xs ys k h = let has : 0 < times k xs = h in omega (arith, times-append k xs ys, has)

pub has_right : (xs ys : List ℕ) (k : ℕ) → Has ys k → Has (xs ++ ys) k
has_right xs ys k h = let has : 0 < times k ys = h in omega (arith, times-append k xs ys, has)

module _ (old new : ℕ → List ℕ) where
  pub agree_left : (xs ys : List ℕ) → Agree old new (xs ++ ys) → Agree old new xs
  agree_left xs ys agree k h = agree k (has_left xs ys k h)

  pub agree_right : (xs ys : List ℕ) → Agree old new (xs ++ ys) → Agree old new ys
  agree_right xs ys agree k h = agree k (has_right xs ys k h)

  pub agree_rest : (x : ℕ) (xs : List ℕ) → Agree old new (x ∷ xs) → Agree old new xs
  agree_rest x xs agree k h = agree k (has_rest x xs k h)

  pub agree_first : (x : ℕ) (xs : List ℕ) → Agree old new (x ∷ xs) → new x ≡ old x
  agree_first x xs agree = agree x (has_first x xs)

  -- what is made of the bytes of blocks, one after the other
  pub joined_same : {Y : Type 0} (f : List ℕ → List Y) (xs : List ℕ) → Agree old new xs → flat_map (λ b. f (new b)) xs ≡ flat_map (λ b. f (old b)) xs
  joined_same f [] agree = refl
  joined_same f (x ∷ xs) agree = ap₂ (λ a b. a ++ b) (ap f (agree_first x xs agree)) (joined_same f xs (agree_rest x xs agree))

  module _ (s : Sizes) where
    pub array_same : (array : Run) → Agree old new (run_blocks s array) → array_runs s new array ≡ array_runs s old array
    array_same array agree = array_is s new array ∙ joined_same (λ bytes. runs_in (runs_per_block s) bytes 0) (run_blocks s array) agree ∙ sym (array_is s old array)

    pub arrays_same : (runs : List Run) → Agree old new (blocks_of s runs) → flat_map (array_runs s new) runs ≡ flat_map (array_runs s old) runs
    arrays_same [] agree = refl
    arrays_same (r ∷ rs) agree =
        ap₂ (λ a b. a ++ b) (array_same r (agree_left (run_blocks s r) (blocks_of s rs) agree)) (arrays_same rs (agree_right (run_blocks s r) (blocks_of s rs) agree))

    module _ (id : ℕ) (agree : Agree old new (frame_at s old id)) where
      here : new id ≡ old id
      here = agree_first id (arrays_at s old id) agree

      parts : Agree old new (run_blocks s (fields s old id).indirect ++ (run_blocks s (fields s old id).double_indirect ++ blocks_of s (second_arrays s old id)))
      unfolding arrays_of
      parts = agree_rest id (arrays_at s old id) agree

      table_same : array_runs s new (fields s new id).indirect ≡ array_runs s old (fields s old id).indirect
      table_same =
          ap (λ bytes. array_runs s new (stream_at bytes).indirect) here
          ∙ array_same (fields s old id).indirect (agree_left (run_blocks s (fields s old id).indirect) (run_blocks s (fields s old id).double_indirect ++ blocks_of s (second_arrays s old id)) parts)

      behind : Agree old new (run_blocks s (fields s old id).double_indirect ++ blocks_of s (second_arrays s old id))
      behind = agree_right (run_blocks s (fields s old id).indirect) (run_blocks s (fields s old id).double_indirect ++ blocks_of s (second_arrays s old id)) parts

      second_same : array_runs s new (fields s new id).double_indirect ≡ array_runs s old (fields s old id).double_indirect
      second_same =
          ap (λ bytes. array_runs s new (stream_at bytes).double_indirect) here
          ∙ array_same (fields s old id).double_indirect (agree_left (run_blocks s (fields s old id).double_indirect) (blocks_of s (second_arrays s old id)) behind)

      runs_same : flat_map (array_runs s new) (second_arrays s new id) ≡ flat_map (array_runs s old) (second_arrays s old id)
      runs_same =
          ap (λ l. flat_map (array_runs s new) (used_runs l)) second_same
          ∙ arrays_same (second_arrays s old id) (agree_right (run_blocks s (fields s old id).double_indirect) (blocks_of s (second_arrays s old id)) behind)

      pub levels_same : levels_at s new id ≡ levels_at s old id
      levels_same = let a = ap stream_at here in let b = table_same in let c = second_same in let d = runs_same in λ i. record { stream = a i; table = b i; arrays = c i; runs = d i }

    pub bytes_same : (id : ℕ) → Agree old new (whole_at s old id) → bytes_at s new id ≡ bytes_at s old id
    unfolding bytes_at
    bytes_same id agree =
        let same = levels_same id (agree_left (frame_at s old id) (places_at s old id) agree) in
        ap (λ (l : Levels). take (natural l.stream.size) (flat_map new (places_of s l))) same
        ∙ ap (take (natural (fields s old id).size)) (joined_same (λ bytes. bytes) (places_at s old id) (agree_right (frame_at s old id) (places_at s old id) agree))

    -- where only the inode changes and names the same arrays, only the fields do
    module _ (id : ℕ) (agree : Agree old new (arrays_at s old id)) (indirect : (fields s new id).indirect ≡ (fields s old id).indirect) (double : (fields s new id).double_indirect ≡ (fields s old id).double_indirect) where
      apart : Agree old new (run_blocks s (fields s old id).indirect ++ (run_blocks s (fields s old id).double_indirect ++ blocks_of s (second_arrays s old id)))
      unfolding arrays_of
      apart = agree

      behind_it : Agree old new (run_blocks s (fields s old id).double_indirect ++ blocks_of s (second_arrays s old id))
      behind_it = agree_right (run_blocks s (fields s old id).indirect) (run_blocks s (fields s old id).double_indirect ++ blocks_of s (second_arrays s old id)) apart

      table_is : array_runs s new (fields s new id).indirect ≡ array_runs s old (fields s old id).indirect
      table_is = ap (array_runs s new) indirect ∙ array_same (fields s old id).indirect (agree_left (run_blocks s (fields s old id).indirect) (run_blocks s (fields s old id).double_indirect ++ blocks_of s (second_arrays s old id)) apart)

      second_is : array_runs s new (fields s new id).double_indirect ≡ array_runs s old (fields s old id).double_indirect
      second_is = ap (array_runs s new) double ∙ array_same (fields s old id).double_indirect (agree_left (run_blocks s (fields s old id).double_indirect) (blocks_of s (second_arrays s old id)) behind_it)

      runs_is : flat_map (array_runs s new) (second_arrays s new id) ≡ flat_map (array_runs s old) (second_arrays s old id)
      runs_is = ap (λ l. flat_map (array_runs s new) (used_runs l)) second_is ∙ arrays_same (second_arrays s old id) (agree_right (run_blocks s (fields s old id).double_indirect) (blocks_of s (second_arrays s old id)) behind_it)

      pub levels_but : levels_at s new id ≡ record (levels_at s old id) { stream = stream_at (new id) }
      levels_but = let b = table_is in let c = second_is in let d = runs_is in λ i. record { stream = stream_at (new id); table = b i; arrays = c i; runs = d i }

    -- where only the fields and the table of the indirect level change
    module _ (id : ℕ) (table : List Run) (agree : Agree old new (run_blocks s (fields s old id).double_indirect ++ blocks_of s (second_arrays s old id)))
        (double : (fields s new id).double_indirect ≡ (fields s old id).double_indirect) (is : array_runs s new (fields s new id).indirect ≡ table) where
      two_is : array_runs s new (fields s new id).double_indirect ≡ array_runs s old (fields s old id).double_indirect
      two_is = ap (array_runs s new) double ∙ array_same (fields s old id).double_indirect (agree_left (run_blocks s (fields s old id).double_indirect) (blocks_of s (second_arrays s old id)) agree)

      pub levels_table : levels_at s new id ≡ record (levels_at s old id) { stream = stream_at (new id); table = table }
      levels_table =
          let d : flat_map (array_runs s new) (second_arrays s new id) ≡ flat_map (array_runs s old) (second_arrays s old id) =
          ap (λ l. flat_map (array_runs s new) (used_runs l)) two_is ∙ arrays_same (second_arrays s old id) (agree_right (run_blocks s (fields s old id).double_indirect) (blocks_of s (second_arrays s old id)) agree) in
          let c = two_is in
          λ i. record { stream = stream_at (new id); table = is i; arrays = c i; runs = d i }
