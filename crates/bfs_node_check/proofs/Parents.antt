-- A node names another parent than the directory whose row names it.
use Rattle.std.proofs.Common.{◌≡◌, ◌≢◌, ◌∙◌, ℕ, ℤ, pos, negsuc, List, refl, sym, ap, subst}
use Rattle.bfs_bytes.specs.Fields.{run_in}
use Rattle.bfs_inode.specs.Refusals.{Names, number_of}
use Rattle.bfs_sound.specs.Volumes.{Volume}
use Rattle.bfs_finding.specs.NodeFaults.{IsParentFault, of_block, of_run}
use Rattle.bfs_finding.specs.Ways.{Arrives, to_child}

module _ (v : Volume) (id : ℕ) (bytes : List ℕ) (shift parent : ℕ) (name : List ℕ) (same : v.blocks id ≡ bytes) (shift_is : v.geometry.shift ≡ shift) (arrives : Arrives v (to_child parent name) id) where
  number_is : number_of (run_in (v.blocks id) 44) v.geometry.shift ≡ number_of (run_in bytes 44) shift
  number_is = ap (λ (l : List ℕ). number_of (run_in l 44) v.geometry.shift) same ∙ ap (λ (n : ℕ). number_of (run_in bytes 44) n) shift_is

  pub other_block : (found : ℤ) → found ≡ number_of (run_in bytes 44) shift → found ≢ pos parent → IsParentFault v id found parent
  other_block found is other = of_block name arrives (is ∙ sym number_is) other

  pub no_address : number_of (run_in bytes 44) shift ≡ pos parent → (Names (run_in bytes 44) parent shift → ⊥) → IsParentFault v id (negsuc 0) parent
  no_address is other =
      of_run name arrives (number_is ∙ is)
      (λ names. other (subst (λ (n : ℕ). Names (run_in bytes 44) parent n) shift_is (subst (λ (l : List ℕ). Names (run_in l 44) parent v.geometry.shift) same names)))
      refl
