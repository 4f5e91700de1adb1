-- Blocks of attributes that are taken.
use Rattle.std.proofs.Common.{◌≡◌, ℕ, List, Option, Some}
use Rattle.bfs_sound.specs.Volumes.{Volume}
use Rattle.bfs_inode_walk.specs.Visited.{IsUntaken}
use Rattle.bfs_inode_walk.specs.declared.fault.VisitFault.{VisitFault}
use Rattle.bfs_inode_walk.specs.declared.fault.VisitFault.TheVariants.{Wrong, Taken, Block}
use Rattle.bfs_attr_walk.specs.Attributed.{IsTakenAt}
use Rattle.bfs_attrs_walk.specs.Passes.{IsTakenIn}

pub taken_in : (v : Volume) (xs : List ℕ) (found : Option ℕ) (d : ℕ) (fault : VisitFault) → found ≡ Some d → IsTakenAt v xs d fault → IsTakenIn v xs found fault
taken_in v xs found d (Wrong finding) is t = tt
taken_in v xs found d (Taken block owner) is t = (d, is, t)
taken_in v xs found d (Block fault) is t = tt

pub never_taken : (v : Volume) (xs : List ℕ) (found : Option ℕ) (fault : VisitFault) → IsUntaken fault → IsTakenIn v xs found fault
never_taken v xs found (Wrong finding) u = tt
never_taken v xs found (Taken block owner) u = absurd u
never_taken v xs found (Block fault) u = tt
