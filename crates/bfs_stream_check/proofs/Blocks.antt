-- The runs of an array are taken block by block.
use Rattle.std.proofs.Common.{◌≡◌, ◌≤◌, ◌<◌, ◌+◌, ◌*◌, ℕ, List, [], ◌∷◌, ◌++◌, length, take, drop, get_or, Bool, true, false, Option, Some, IsSome, refl, sym, ap, ◌∙◌, subst, arith}
use Rattle.std.specs.List.{flat_map}
use Rattle.bfs_base.specs.Lists.{counted_from}
use Rattle.bfs_bytes.specs.declared.Run.{Run}
use Rattle.bfs_inode.specs.Inode.{runs_in}
use Rattle.bfs_txn.specs.Told.{AreOfBlock}
use Rattle.bfs_stream.specs.Sizes.{Sizes, IsInVolume, first_block, runs_per_block}
use Rattle.bfs_stream.specs.Places.{run_blocks, used_runs, array_runs}
use Rattle.bfs_stream.specs.Told.{contents}
use Rattle.bfs_stream.proofs.Levels.{length-counted}
use Rattle.bfs_stream.proofs.Arrays.{block_runs, runs_are, read_is, array_is}
use Rattle.bfs_stream_check.specs.declared.fault.ReadFault.{ReadFault}
use Rattle.bfs_stream_check.specs.Known.{IsAllTold}
use Rattle.bfs_stream_check.specs.Read.{IsRunOf, IsRunsFault, IsTaken}
use Rattle.bfs_stream_check.proofs.Takes.{IsOn, on_joined, taken_stop, taken_all, fault_in}
use Rattle.bfs_stream_check.proofs.Flat.{flat_next, flat_split, flat_all, block_at}

-- lists one after the other, of which the next one was taken
module _ {A : Type 0} (f : A → List Run) (xs : List A) (i : ℕ) (x : A) (inside : i < length xs) (is : get_or xs i x ≡ x) (before now next : List Run) (on : IsOn (flat_map f (take i xs)) before now) where
  pub flat_joined : IsTaken (f x) now next true → IsOn (flat_map f (take (i + 1) xs)) before next
  flat_joined taken = subst (λ (l : List Run). IsOn l before next) (sym (flat_next f xs i x inside is)) (on_joined (flat_map f (take i xs)) before now next (f x) on taken)

  pub flat_stop : IsTaken (f x) now next false → IsTaken (flat_map f xs) before next false
  flat_stop taken = subst (λ (l : List Run). IsTaken l before next false) (sym (flat_split f xs i x inside is)) (taken_stop (flat_map f (take i xs)) before now next (f x) (flat_map f (drop (i + 1) xs)) on taken)

  pub flat_fault : (s : Sizes) (whole : Bool) (fault : ReadFault) → IsRunsFault s whole (used_runs (f x)) fault → IsRunsFault s whole (used_runs (flat_map f xs)) fault
  flat_fault s whole fault h =
      subst (λ (l : List Run). IsRunsFault s whole (used_runs l) fault) (sym (flat_split f xs i x inside is))
      (fault_in s whole (flat_map f (take i xs)) (f x) (flat_map f (drop (i + 1) xs)) on.used fault h)

pub flat_end : {A : Type 0} (f : A → List Run) (xs : List A) (i : ℕ) (before now : List Run) → length xs ≤ i → IsOn (flat_map f (take i xs)) before now → IsTaken (flat_map f xs) before now true
flat_end f xs i before now past on = subst (λ (l : List Run). IsTaken l before now true) (flat_all f xs i past) (taken_all (flat_map f (take i xs)) before now on)

-- the next block of an array was read, and its runs were taken
module _ (s : Sizes) (m : ℕ → Option (List ℕ)) (all : IsAllTold s m) (array : Run) (inside : IsInVolume s array) (i count block : ℕ) (into : List ℕ) (told : Option (ℕ → Option (List ℕ)))
    (here : i < array.len) (count_is : count ≡ runs_per_block s) (block_is : block ≡ first_block s array + i) (told_is : told ≡ Some m) (of : AreOfBlock told block into) where
  runs_here : runs_in count into 0 ≡ block_runs s (contents m) (first_block s array + i)
  runs_here =
      let within : first_block s array + i < s.blocks = let e = inside.inside in omega (arith, e, here) in
      runs_are s (contents m) count into (first_block s array + i) count_is
      (read_is m told (first_block s array + i) into told_is (all (first_block s array + i) within) (subst (λ (k : ℕ). AreOfBlock told k into) block_is of))

  long : i < length (run_blocks s array)
  long = let e = length-counted (first_block s array) array.len in omega (arith, e, here)

  module _ (before now next : List Run) (on : IsOn (flat_map (block_runs s (contents m)) (take i (run_blocks s array))) before now) where
    pub array_joined : IsTaken (runs_in count into 0) now next true → IsOn (flat_map (block_runs s (contents m)) (take (i + 1) (run_blocks s array))) before next
    array_joined taken =
        flat_joined (block_runs s (contents m)) (run_blocks s array) i (first_block s array + i) long (block_at (first_block s array) array.len i here) before now next on
        (subst (λ (l : List Run). IsTaken l now next true) runs_here taken)

    pub array_stop : IsTaken (runs_in count into 0) now next false → IsTaken (array_runs s (contents m) array) before next false
    array_stop taken =
        subst (λ (l : List Run). IsTaken l before next false) (sym (array_is s (contents m) array))
        (flat_stop (block_runs s (contents m)) (run_blocks s array) i (first_block s array + i) long (block_at (first_block s array) array.len i here) before now next on
        (subst (λ (l : List Run). IsTaken l now next false) runs_here taken))

    pub array_fault : (whole : Bool) (fault : ReadFault) → IsRunsFault s whole (used_runs (runs_in count into 0)) fault → IsRunsFault s whole (used_runs (array_runs s (contents m) array)) fault
    array_fault whole fault h =
        subst (λ (l : List Run). IsRunsFault s whole (used_runs l) fault) (sym (array_is s (contents m) array))
        (flat_fault (block_runs s (contents m)) (run_blocks s array) i (first_block s array + i) long (block_at (first_block s array) array.len i here) before now next on s whole fault
        (subst (λ (l : List Run). IsRunsFault s whole (used_runs l) fault) runs_here h))

pub array_end : (s : Sizes) (m : ℕ → Option (List ℕ)) (array : Run) (i : ℕ) (before now : List Run) → array.len ≤ i
    → IsOn (flat_map (block_runs s (contents m)) (take i (run_blocks s array))) before now → IsTaken (array_runs s (contents m) array) before now true
array_end s m array i before now past on =
    subst (λ (l : List Run). IsTaken l before now true) (sym (array_is s (contents m) array))
    (flat_end (block_runs s (contents m)) (run_blocks s array) i before now (let e = length-counted (first_block s array) array.len in omega (arith, e, past)) on)
