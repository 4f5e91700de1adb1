-- The runs that stand in bytes, as far as a loop has come.
use Rattle.std.proofs.Common.{◌≡◌, ◌≤◌, ◌<◌, ◌+◌, ◌*◌, ℕ, List, [], ◌∷◌, ◌++◌, length, take, drop, get_or, Bool, refl, sym, ap, ◌∙◌, subst, arith}
use Rattle.std.proofs.lemmas.List.{take_more, drop_more, take-append-drop, take_all}
use Rattle.bfs_bytes.specs.declared.Run.{Run}
use Rattle.bfs_bytes.specs.Fields.{run_in}
use Rattle.bfs_inode.specs.Inode.{runs_in}
use Rattle.bfs_inode.proofs.Runs.{length-runs_in, get_or-runs_in}
use Rattle.bfs_stream.specs.Sizes.{Sizes}
use Rattle.bfs_stream.specs.Places.{used_runs}
use Rattle.bfs_stream_check.specs.declared.fault.ReadFault.{ReadFault}
use Rattle.bfs_stream_check.specs.Read.{IsRunsFault}
use Rattle.bfs_stream_check.proofs.Takes.{fault_in, used_more}

module _ (count : ℕ) (bytes : List ℕ) (at i : ℕ) (r : Run) (inside : i < count) (is : run_in bytes (at + 8 * i) ≡ r) where
  here : get_or (runs_in count bytes at) i r ≡ r
  here = get_or-runs_in count bytes at i r inside ∙ is

  long : i < length (runs_in count bytes at)
  long = let e = length-runs_in count bytes at in omega (arith, e, inside)

  pub runs_next : take (i + 1) (runs_in count bytes at) ≡ take i (runs_in count bytes at) ++ r ∷ []
  runs_next = take_more (runs_in count bytes at) i r long ∙ ap (λ (x : Run). take i (runs_in count bytes at) ++ x ∷ []) here

  pub runs_split : runs_in count bytes at ≡ take i (runs_in count bytes at) ++ (r ∷ drop (i + 1) (runs_in count bytes at))
  runs_split =
      sym (take-append-drop i (runs_in count bytes at))
      ∙ ap (λ (l : List Run). take i (runs_in count bytes at) ++ l) (drop_more (runs_in count bytes at) i r long ∙ ap (λ (x : Run). x ∷ drop (i + 1) (runs_in count bytes at)) here)

  pub fault_at : (s : Sizes) (whole : Bool) (f : ReadFault) → used_runs (take i (runs_in count bytes at)) ≡ take i (runs_in count bytes at) → (r.len ≡ 0 → ⊥)
      → IsRunsFault s whole (r ∷ []) f → IsRunsFault s whole (used_runs (runs_in count bytes at)) f
  fault_at s whole f used some h =
      subst (λ (l : List Run). IsRunsFault s whole (used_runs l) f) (sym runs_split)
      (fault_in s whole (take i (runs_in count bytes at)) (r ∷ []) (drop (i + 1) (runs_in count bytes at)) used f (subst (λ (l : List Run). IsRunsFault s whole l f) (sym (used_more r [] some)) h))

pub runs_all : (count : ℕ) (bytes : List ℕ) (at i : ℕ) → count ≤ i → take i (runs_in count bytes at) ≡ runs_in count bytes at
runs_all count bytes at i past = take_all i (runs_in count bytes at) (let e = length-runs_in count bytes at in omega (arith, e, past))
