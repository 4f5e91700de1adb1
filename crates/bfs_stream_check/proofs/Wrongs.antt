-- A wrong run of a level, or an array used too early, is a fault of the levels.
use Rattle.std.proofs.Common.{◌≡◌, ◌≢◌, ◌≤◌, ◌<◌, ◌+◌, ◌*◌, inl, inr, ◌⊎◌, ⊎_elim, ℕ, zero, suc, ℤ, pos, List, [], ◌∷◌, length, Bool, true, false, refl, sym, ap, ◌∙◌, subst, arith}
use Rattle.std.specs.Prelude.{IsTrue, All}
use Rattle.std.specs.List.{flat_map}
use Rattle.bfs_base.specs.Lists.{counted_from}
use Rattle.bfs_bytes.specs.declared.Run.{Run}
use Rattle.bfs_stream.specs.Sizes.{Sizes, IsInVolume, array_length, first_block}
use Rattle.bfs_stream.specs.Places.{Levels, used_runs, array_runs}
use Rattle.bfs_stream.proofs.Arrays.{block_runs, array_is}
use Rattle.bfs_sound.specs.Owners.{In}
use Rattle.bfs_finding.specs.StreamFaults.{LeavesBy, IsDoubleIn, IsUsedIn, IsLevelFault, leaves, wrong_length, early_indirect, early_double}
use Rattle.bfs_stream_check.specs.declared.fault.ReadFault.{ReadFault}
use Rattle.bfs_stream_check.specs.declared.fault.ReadFault.TheVariants.{Wrong, Block}
use Rattle.bfs_stream_check.specs.Read.{IsRunOf, IsRunFault, IsRunsFault, IsLevelsFault, IsTaken, IsArray}

module _ (s : Sizes) (l : Levels) where
  run_wrong : (whole : Bool) (run : Run) (found wanted : ℤ) → IsUsedIn l run → (whole ≡ true → IsDoubleIn l run) → IsRunFault s whole run found wanted → IsLevelFault s l found wanted
  run_wrong whole run found wanted used double (inl past) = leaves run used past
  run_wrong whole run found wanted used double (inr (t, is, want, other)) = wrong_length run (double t) is want other

  runs_wrong : (whole : Bool) (runs : List Run) → ((run : Run) → In run runs → IsUsedIn l run) → (whole ≡ true → (run : Run) → In run runs → IsDoubleIn l run) → (f : ReadFault) → IsRunsFault s whole runs f → IsLevelsFault s l f
  runs_wrong whole runs used double (Wrong w) (run, i, wrong) = run_wrong whole run w.found w.wanted (used run i) (λ t. double t run i) wrong
  runs_wrong whole runs used double (Block fault) h = tt

  no_length : {X : Type 0} → false ≡ true → X
  no_length t = absurd (bad t)
    where
      bad : false ≡ true → ⊥
      bad t = cc

  pub direct_wrong : (f : ReadFault) → IsRunsFault s false (used_runs l.stream.direct) f → IsLevelsFault s l f
  direct_wrong = runs_wrong false (used_runs l.stream.direct) (λ run i. inl i) (λ t run i. no_length t)

  pub table_wrong : (f : ReadFault) → IsRunsFault s false (used_runs l.table) f → IsLevelsFault s l f
  table_wrong = runs_wrong false (used_runs l.table) (λ run i. inr (inr (inl i))) (λ t run i. no_length t)

  pub arrays_wrong : (f : ReadFault) → IsRunsFault s true (used_runs l.arrays) f → IsLevelsFault s l f
  arrays_wrong = runs_wrong true (used_runs l.arrays) (λ run i. inr (inr (inr (inr (inl i))))) (λ t run i. inr (inl i))

  pub double_wrong : (f : ReadFault) → IsRunsFault s true (used_runs l.runs) f → IsLevelsFault s l f
  double_wrong = runs_wrong true (used_runs l.runs) (λ run i. inr (inr (inr (inr (inr i))))) (λ t run i. inr (inr i))

  pub indirect_array : (array : Run) (before : Bool) (found wanted : ℤ) → l.stream.indirect ≡ array → (before ≡ false → length (used_runs l.stream.direct) ≢ 12) → array.len ≢ 0
      → ((before ≡ false) × (found ≡ pos array.len) × (wanted ≡ pos 0)) ⊎ IsRunFault s false array found wanted → IsLevelFault s l found wanted
  indirect_array array before found wanted same few some (inl (b, is, want)) =
      early_indirect (λ none. some (ap (λ (r : Run). r.len) (sym same) ∙ none)) (few b) (is ∙ ap (λ (r : Run). pos r.len) (sym same)) want
  indirect_array array before found wanted same few some (inr wrong) = run_wrong false array found wanted (inr (inl (sym same, some))) no_length wrong

  pub double_array : (array : Run) (before : Bool) (found wanted : ℤ) → l.stream.double_indirect ≡ array → (before ≡ false → (length (used_runs l.table) ≡ 0) ⊎ (length (used_runs l.table) ≢ length l.table)) → array.len ≢ 0
      → ((before ≡ false) × (found ≡ pos array.len) × (wanted ≡ pos 0)) ⊎ IsRunFault s true array found wanted → IsLevelFault s l found wanted
  double_array array before found wanted same few some (inl (b, is, want)) =
      early_double (λ none. some (ap (λ (r : Run). r.len) (sym same) ∙ none)) (few b) (is ∙ ap (λ (r : Run). pos r.len) (sym same)) want
  double_array array before found wanted same few some (inr wrong) = run_wrong true array found wanted (inr (inr (inr (inl (sym same, some))))) (λ t. inl (sym same, some)) wrong

-- an array without blocks has no runs
pub no_array : (s : Sizes) (blocks : ℕ → List ℕ) (array : Run) → array.len ≡ 0 → array_runs s blocks array ≡ []
no_array s blocks array none = array_is s blocks array ∙ ap (λ (n : ℕ). flat_map (block_runs s blocks) (counted_from (first_block s array) n)) none

pub none_taken : (s : Sizes) (blocks : ℕ → List ℕ) (array : Run) → array.len ≡ 0 → IsTaken (array_runs s blocks array) [] [] true
none_taken s blocks array none = subst (λ (l : List Run). IsTaken l [] [] true) (sym (no_array s blocks array none)) (record { items = refl; ends = (λ t. refl, λ e. refl) })

-- an array that there is lies in the volume
pub array_in : (s : Sizes) (whole before : Bool) (array : Run) → array.len ≢ 0 → IsArray s whole before array → IsRunOf s whole array
array_in s whole before array some (inl none) = absurd (some none)
array_in s whole before array some (inr both) = both.0

pub any_length : (s : Sizes) (whole : Bool) (run : Run) → IsRunOf s whole run → IsRunOf s false run
any_length s whole run h = record { inside = h.inside; long = λ t. absurd (bad t) }
  where
    bad : false ≡ true → ⊥
    bad t = cc

-- where it is told that there is no array, it has no blocks
pub none_there : (n : ℕ) (some : Bool) → (some ≡ true → n ≢ 0) × (n ≢ 0 → some ≡ true) → some ≡ false → n ≡ 0
none_there zero some h e = refl
none_there (suc n) some h e =
    let other : suc n ≢ 0 = λ z. omega (arith, z) in
    let there : some ≡ true = h.1 other in
    absurd (bad (sym e ∙ there))
  where
    bad : false ≡ true → ⊥
    bad t = cc

-- a level that isn't full has a run fewer than it has room for
pub not_full : (rs xs : List Run) (full : Bool) (n : ℕ) → IsTaken rs [] xs full → length rs ≡ n → full ≡ false → length (used_runs rs) ≢ n
not_full rs xs full n taken long e same = bad (sym e ∙ taken.ends.1 (same ∙ sym long))
  where
    bad : false ≡ true → ⊥
    bad t = cc

-- one that isn't ready has none, or not all
pub not_ready : (rs xs : List Run) (full ready : Bool) → IsTaken rs [] xs full → (full ≡ true × (0 < length xs) → ready ≡ true) → ready ≡ false → (length (used_runs rs) ≡ 0) ⊎ (length (used_runs rs) ≢ length rs)
not_ready rs xs true ready taken back e = by_length (length xs) refl
  where
    bad : false ≡ true → ⊥
    bad t = cc

    by_length : (n : ℕ) → length xs ≡ n → (length (used_runs rs) ≡ 0) ⊎ (length (used_runs rs) ≢ length rs)
    by_length zero z = inl (ap length (sym taken.items) ∙ z)
    by_length (suc n) z = absurd (bad (sym e ∙ back (refl, omega (arith, z))))
not_ready rs xs false ready taken back e = inr (λ same. bad (taken.ends.1 same))
  where
    bad : false ≡ true → ⊥
    bad t = cc
