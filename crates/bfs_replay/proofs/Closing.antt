-- The last steps of a recovery: a barrier, the superblock with an empty log, and a barrier.
use Rattle.std.proofs.Common.{◌≡◌, inl, inr, ⊎_elim, ℕ, ◌<◌, List, length, sym, ◌∙◌, ap, subst, arith, Bool, true}
use Rattle.std.specs.Prelude.{Option, Some}
use Rattle.std.specs.Option.{IfSome, option_map}
use Rattle.bfs_base.specs.Images.{overwritten}
use Rattle.bfs_disk.specs.State.{State, Tells, Filled, IsImage, Holds, written, settled}
use Rattle.bfs_disk.specs.Disk.{HasSectors, told_written}
use Rattle.bfs_super.specs.declared.sup.Super.{Super}
use Rattle.bfs_super.specs.Layout.{super_at, sector_of}
use Rattle.bfs_log.specs.Replay.{Home, with_homes}
use Rattle.bfs_replay.specs.Homing.{Homing, ClosedOrNot}
use Rattle.bfs_replay.proofs.Homes.{told_size, told_filled, homing_image, closing, before_closing, closed}

module _ {quiet : Bool} (r : ℕ) (all : List Home) (image : List ℕ) (told : Option State) (size : Option ℕ) (filled : IfSome told Filled) (sized : IfSome told (λ t. size ≡ Some t.size)) (two : HasSectors size 2)
    (sup : Super) (sector : List ℕ) (is : sector ≡ sector_of sup) (again : super_at sector ≡ sup) (long : length sector ≡ 512) (known : Tells told (Homing quiet r all all image)) where
  some : 1 < known.0.size
  some = let n = told_size told size known.0 2 known.1 sized two in omega (arith, n)

  whole : Filled known.0
  whole = told_filled told known.0 known.1 filled

  pub first : quiet ≡ true → (c : List ℕ) → IsImage known.0 c → ClosedOrNot r all image sup c
  first is_quiet c left = inl (homing_image is_quiet r all all image c known.0 known.2 left)

  pub told_settled : (new : Option State) → new ≡ option_map settled told → new ≡ Some (settled known.0)
  told_settled new e = e ∙ ap (λ (o : Option State). option_map settled o) known.1

  pub behind : quiet ≡ true → (c : List ℕ) → IsImage (settled known.0) c → ClosedOrNot r all image sup c
  behind is_quiet c left = inl (before_closing r all image sector known.0 known.2 whole long some is_quiet c left)

  pub told_closing : (mid new : Option State) → mid ≡ option_map settled told → new ≡ told_written mid 1 sector → new ≡ Some (written (settled known.0) 1 sector)
  told_closing mid new e w = w ∙ ap (λ (o : Option State). told_written o 1 sector) (told_settled mid e)

  pub during : quiet ≡ true → (c : List ℕ) → IsImage (written (settled known.0) 1 sector) c → ClosedOrNot r all image sup c
  during is_quiet c left = ⊎_elim (λ old. inl old)
      (λ new. inr (record { written = new ∙ ap (λ (l : List ℕ). overwritten 1 l (with_homes r all image)) is; again = ap super_at (sym is) ∙ again }))
      (closing r all image sector known.0 known.2 whole long some is_quiet c left)

  pub after : Holds (overwritten 1 (sector_of sup) (with_homes r all image)) (settled (written (settled known.0) 1 sector))
  after = subst (λ (l : List ℕ). Holds (overwritten 1 l (with_homes r all image)) (settled (written (settled known.0) 1 sector))) is (closed r all image sector known.0 known.2 whole long some)
