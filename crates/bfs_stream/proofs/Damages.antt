-- Which block is damaged.
use Rattle.std.proofs.Common.{◌≡◌, ◌<◌, ◌+◌, ◌*◌, ℕ, List, [], ◌∷◌, ◌++◌, length, take, get_or, Option, Some, refl, sym, ap, ◌∙◌, subst, arith, length-append}
use Rattle.std.specs.Prelude.{IfSome}
use Rattle.std.specs.List.{flat_map}
use Rattle.std.proofs.lemmas.Grind.{flat_map-append}
use Rattle.std.proofs.lemmas.List.{take_more, append-nil}
use Rattle.std.proofs.lemmas.Option.{get_or_from_slice_get}
use Rattle.bfs_bytes.specs.declared.Run.{Run}
use Rattle.bfs_inode.specs.Inode.{runs_in}
use Rattle.bfs_inode.proofs.Runs.{length-runs_in}
use Rattle.bfs_txn.specs.declared.fault.BlockFault.{BlockFault}
use Rattle.bfs_txn.specs.declared.fault.BlockFault.TheVariants.{Disk, Stopped, Damaged, NoMemory}
use Rattle.bfs_txn.specs.Told.{AreOfBlock}
use Rattle.bfs_stream.specs.Sizes.{Sizes, first_block, runs_per_block}
use Rattle.bfs_stream.specs.Places.{run_blocks}
use Rattle.bfs_stream.specs.Told.{contents, AreTold}
use Rattle.bfs_stream.specs.Scans.{IfDamaged, IsPast, IsStop, IsBehind, HasPassed, IsArrayBlamed, IsArrayDamaged, runs_before, runs_of}
use Rattle.bfs_stream.proofs.Levels.{length-counted, counted_get}
use Rattle.bfs_stream.proofs.Arrays.{runs_are}
use Rattle.bfs_stream.proofs.Passed.{past_none, past_join}

-- bytes that were read of a told block are those told
pub same_bytes : (m : ℕ → Option (List ℕ)) (told : Option (ℕ → Option (List ℕ))) (k : ℕ) (into bytes : List ℕ) → told ≡ Some m → AreOfBlock told k into → m k ≡ Some bytes → into ≡ bytes
same_bytes m told k into bytes is of here = let P : Option (ℕ → Option (List ℕ)) → Type 0 = λ t. AreOfBlock t k into in subst (λ (x : Option (List ℕ)). IfSome x (λ b. into ≡ b)) here (subst P is of)

pub IfDamaged-weaker : (P Q : ℕ → Type 0) → ((block : ℕ) → P block → Q block) → (fault : BlockFault) → IfDamaged P fault → IfDamaged Q fault
IfDamaged-weaker P Q f (Disk before after) p = p
IfDamaged-weaker P Q f (Stopped durable faults) p = p
IfDamaged-weaker P Q f (Damaged block) p = f block p
IfDamaged-weaker P Q f NoMemory p = p

-- how far a look through the blocks of an array has come: the runs of those read so far all lie before the place
pub record IsSoFar (s : Sizes) (array : Run) (told : Option (ℕ → Option (List ℕ))) (place i left : ℕ) : Type 0 where
  pub before : List Run
  pub long : length before ≡ runs_per_block s * i
  pub past : IsPast s before place left
  pub own : (m : ℕ → Option (List ℕ)) → told ≡ Some m → AreTold m (run_blocks s array) → before ≡ runs_before s (contents m) array i

module _ (s : Sizes) (array : Run) (told : Option (ℕ → Option (List ℕ))) (place : ℕ) where
  pub so_far_none : IsSoFar s array told place 0 place
  so_far_none = record { before = []; long = let e : 0 ≡ runs_per_block s * 0 = omega arith in e; past = past_none s place; own = λ m is are. refl }

  module _ (i left : ℕ) (so : IsSoFar s array told place i left) where
    -- one block on
    pub so_far_more : (runs further : ℕ) (into : List ℕ) → i < array.len → runs ≡ runs_per_block s → IsPast s (runs_in runs into 0) left further
        → ((m : ℕ → Option (List ℕ)) → told ≡ Some m → AreTold m (run_blocks s array) → into ≡ contents m (first_block s array + i)) → IsSoFar s array told place (i + 1) further
    so_far_more runs further into inside e past read =
        let size : length (runs_in runs into 0) ≡ runs = length-runs_in runs into 0 in
        let long = so.long in record {
          before = so.before ++ runs_in runs into 0;
          long =
              length-append so.before (runs_in runs into 0) ∙ ap (λ (n : ℕ). n + length (runs_in runs into 0)) long ∙ ap (λ (n : ℕ). runs_per_block s * i + n) (size ∙ e)
              ∙ (let d : runs_per_block s * i + runs_per_block s ≡ runs_per_block s * (i + 1) = omega arith in d);
          past = past_join s so.before (runs_in runs into 0) place left further so.past past;
          own = λ m is are.
              let first : ℕ = first_block s array in
              let f : ℕ → List Run = λ b. runs_in (runs_per_block s) (contents m b) 0 in
              let at : get_or (run_blocks s array) i 0 ≡ first + i = get_or_from_slice_get (run_blocks s array) i (first + i) 0 (counted_get first array.len i inside) in
              let step : take (i + 1) (run_blocks s array) ≡ take i (run_blocks s array) ++ (first + i) ∷ [] =
              take_more (run_blocks s array) i 0 (let n = length-counted first array.len in omega (arith, n, inside)) ∙ ap (λ (b : ℕ). take i (run_blocks s array) ++ b ∷ []) at in
              let here : runs_in runs into 0 ≡ f (first + i) ++ [] = runs_are s (contents m) runs into (first + i) e (read m is are) ∙ sym (append-nil (f (first + i))) in
              ap (λ (l : List Run). l ++ runs_in runs into 0) (so.own m is are) ∙ ap (λ (l : List Run). runs_before s (contents m) array i ++ l) here
              ∙ sym (flat_map-append f (take i (run_blocks s array)) ((first + i) ∷ [])) ∙ ap (flat_map f) (sym step);
        }

    pub behind_of : IsBehind s place i
    behind_of = record { before = so.before; long = so.long; left = left; past = so.past }

    pub passed_of : (m : ℕ → Option (List ℕ)) → told ≡ Some m → HasPassed s m array place i
    unfolding behind_of
    passed_of m is = record { behind = behind_of; own = so.own m is }

    -- the look stops in the bytes of a block
    module _ (block runs : ℕ) (into : List ℕ) (inside : i < array.len) (here : block ≡ first_block s array + i) (e : runs ≡ runs_per_block s) (stop : (x : ℕ) × IsStop s (runs_in runs into 0) left x) where
      stop_in : (bytes : List ℕ) → into ≡ bytes → (x : ℕ) × IsStop s (runs_of s bytes) left x
      stop_in bytes same = (stop.0, subst (λ (l : List Run). IsStop s l left stop.0) (ap (λ (n : ℕ). runs_in n into 0) e ∙ ap (λ (l : List ℕ). runs_in (runs_per_block s) l 0) same) stop.1)

      pub blamed_here : IsArrayBlamed s array place block into
      unfolding behind_of
      blamed_here = record { at = i; inside = inside; is = here; behind = behind_of; stop = stop_in into refl }

      pub damaged_here : (m : ℕ → Option (List ℕ)) → told ≡ Some m → ((bytes : List ℕ) → m block ≡ Some bytes → into ≡ bytes) → IsArrayDamaged s m array place block
      unfolding behind_of passed_of
      damaged_here m is same = record { at = i; inside = inside; is = here; passed = passed_of m is; stop = λ bytes told_is. stop_in bytes (same bytes told_is) }
