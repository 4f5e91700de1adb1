-- A block that is taken, and which of some places has it.
use Rattle.std.proofs.Common.{◌≡◌, ◌<◌, ◌⊎◌, inl, inr, ℕ, List, [], ◌∷◌, ◌++◌, refl, sym, subst, arith}
use Rattle.bfs_base.specs.Lists.{times, Has}
use Rattle.bfs_txn.specs.Faults.{Counts, AreLater, IsCauseOf}
use Rattle.bfs_txn.specs.declared.fault.BlockFault.{BlockFault}
use Rattle.bfs_txn.specs.declared.fault.BlockFault.TheVariants as blocks
use Rattle.bfs_sound.specs.Volumes.{Volume}
use Rattle.bfs_sound.specs.Owners.{In}
use Rattle.bfs_finding.specs.Ways.{Way, Arrives, blocks_by, IsShared}
use Rattle.bfs_inode_walk.specs.declared.fault.VisitFault.{VisitFault}
use Rattle.bfs_inode_walk.specs.declared.fault.VisitFault.TheVariants.{Wrong, Taken, Block}
use Rattle.bfs_inode_walk.specs.Visited.{IsClaimedFirst, IsVisitCause}
use Rattle.bfs_inode_walk.proofs.Ways.{by_role}
use Rattle.bfs_owner.specs.Owned.{ArePlaced, blocks_at, blocks_of_places}
use Rattle.bfs_owner.specs.declared.place.Place.{Place}
use Rattle.bfs_nodes_walk.specs.Clashes.{ArePlacedApart}
use Rattle.bfs_nodes_walk.specs.Walks.{IsNodeWay}
use Rattle.bfs_nodes_walk.proofs.Blocks.{in_either}

-- ways lead to places to which other ways lead
pub apart_placed : (v : Volume) (way : Way) (places : List Place) → ArePlacedApart v way places → ArePlaced v places
apart_placed v way [] apart = tt
apart_placed v way (p ∷ ps) apart = let o = apart p (inl refl) in ((o.0, o.2, o.3), apart_placed v way ps (λ q i. apart q (inr i)))

-- one of them that has the block shares it
pub found_shared : (v : Volume) (places : List Place) (p : Place) (block owner : ℕ) (way : Way) → Arrives v way owner → Has (blocks_by v way owner) block → ArePlacedApart v way places → In p places → Has (blocks_at v p) block
    → IsShared v block p.id owner
found_shared v places p block owner way arrives has apart there had =
    let o = apart p there in
    record {
      one = o.0;
      other = way;
      there = o.3;
      here = arrives;
      twice = inl (o.1, subst (λ (l : List ℕ). Has l block) (sym (by_role v o.0 p.role p.id o.2)) had, has);
    }

-- a block that none of them has was claimed at first
pub left_first : (v : Volume) (first : List ℕ) (places : List Place) (block owner : ℕ) → times block (blocks_of_places v places) ≡ 0 → IsClaimedFirst IsNodeWay v (first ++ blocks_of_places v places) block owner
    → IsClaimedFirst IsNodeWay v first block owner
left_first v first places block owner none c = record {
  way = c.way;
  kind = c.kind;
  arrives = c.arrives;
  here = c.here;
  claimed = by_side (in_either first (blocks_of_places v places) block c.claimed);
}
  where
    by_side : Has first block ⊎ Has (blocks_of_places v places) block → Has first block
    by_side (inl h) = h
    by_side (inr h) = absurd (let had : 0 < times block (blocks_of_places v places) = h in omega (arith, had, none))

in_earlier : (old mid new : Counts) (f : BlockFault) → AreLater old mid → IsCauseOf mid new f → IsCauseOf old new f
in_earlier old mid new (blocks.Disk before after) later cause = (omega (arith, later.faults, cause.0), cause.1, cause.2)
in_earlier old mid new (blocks.Stopped durable faults) later cause = cause
in_earlier old mid new (blocks.Damaged block) later cause = cause
in_earlier old mid new blocks.NoMemory later cause = tt

-- a cause between later counts is one between earlier ones
pub cause_earlier : (old mid new : Counts) (fault : VisitFault) → AreLater old mid → IsVisitCause mid new fault → IsVisitCause old new fault
cause_earlier old mid new (Wrong finding) later cause = tt
cause_earlier old mid new (Taken block owner) later cause = tt
cause_earlier old mid new (Block fault) later cause = in_earlier old mid new fault later cause
