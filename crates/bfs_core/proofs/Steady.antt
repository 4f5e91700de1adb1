-- The books of a device that has adopted a disk, and of one that has taken a group.
use Rattle.std.proofs.Common.{◌≡◌, ℕ, List, [], ◌∷◌, ◌++◌, refl, arith}
use Rattle.bfs_super.specs.declared.sup.Super.{Super}
use Rattle.bfs_super.specs.Conditions.{natural, IsValid}
use Rattle.bfs_txn.specs.declared.group.Group.{Group}
use Rattle.bfs_device.specs.declared.journal.Phase.{Phase}
use Rattle.bfs_device.specs.Layouts.{Layout, layout_of}
use Rattle.bfs_device.specs.Books.{Books, Follow, IsNext, IsPhaseFor, IsPhaseOf, last_in, sealed_of}
use Rattle.bfs_device.specs.Steps.{first_phase}
use Rattle.bfs_device.specs.Seals.{adopted, last_used, phase_with, sealed_with, used_behind}
use Rattle.bfs_device.specs.Ahead.{IsSteady}

first_fits : (ps : List (ℕ × List ℕ)) → IsPhaseOf ps (first_phase ps)
first_fits [] = refl
first_fits (p ∷ ps) = omega arith

follow_more : (l : Layout) (size left used : ℕ) (gs : List Group) (g : Group) → Follow l size left used gs → IsNext l size (last_in left gs) (used_behind used gs) g → Follow l size left used (gs ++ g ∷ [])
follow_more l size left used [] g follow next = (next, tt)
follow_more l size left used (x ∷ gs) g follow next = (follow.0, follow_more l size x.last x.used gs g follow.1 next)

phase_more : (gs : List Group) (g : Group) (p : Phase) → IsPhaseFor gs p → IsPhaseFor (gs ++ g ∷ []) (phase_with g gs p)
phase_more [] g p fits = first_fits g.blocks
phase_more (x ∷ gs) g p fits = fits

pub sealed_steady : (b : Books) (g : Group) → IsSteady b → IsNext (layout_of b.sup) b.sup.block_size (sealed_of b) (last_used b) g → IsSteady (sealed_with b g)
sealed_steady b g steady next = record {
  valid = steady.valid;
  empty = steady.empty;
  follow = follow_more (layout_of b.sup) b.sup.block_size b.left (natural b.sup.used_blocks) b.groups g steady.follow next;
  phase = phase_more b.groups g b.phase steady.phase;
}

pub adopted_steady : (s : Super) → IsValid s → s.log_start ≡ s.log_end → IsSteady (adopted s)
adopted_steady s valid empty = record { valid = valid; empty = empty; follow = tt; phase = refl }
