-- The parts of a space as its calls change them, and the open group as a group that is sealed.
use Rattle.std.proofs.Common.{◌≡◌, ◌≤◌, ◌<◌, ◌+◌, ◌∙◌, ℕ, List, [], ◌∷◌, length, Bool, true, false, cond, refl, sym, subst, arith}
use Rattle.std.specs.Prelude.{min}
use Rattle.bfs_super.specs.declared.sup.Super.{Super}
use Rattle.bfs_super.specs.Conditions.{IsValid, natural, group_blocks}
use Rattle.bfs_bitmap.specs.declared.given.Given.{Given}
use Rattle.bfs_bitmap.specs.declared.tally.Tally.{Tally}
use Rattle.bfs_bitmap.specs.Givens.{is_left}
use Rattle.bfs_bitmap.specs.Runs.{Room, IsSettled}
use Rattle.bfs_bitmap.specs.Tallies.{first_tally, lowered, lowered_by}
use Rattle.bfs_txn.specs.Changed.{Ascends}
use Rattle.bfs_txn.specs.declared.group.Group.{Group}
use Rattle.bfs_stream.specs.Sizes.{sizes_of}
use Rattle.bfs_stream.specs.Grown.{IsOfVolume}
use Rattle.bfs_device.specs.Layouts.{layout_of, ring_count}
use Rattle.bfs_device.specs.Books.{IsSealed}
use Rattle.bfs_device.specs.Orders.{IsOnce}
use Rattle.bfs_core.specs.Spaces.{SpaceView, IsGroupFor}
use Rattle.bfs_replies.specs.Books.{HasParts, MayBeSealed}

-- blocks that ascend are there once
ascending_once : (pairs : List (ℕ × List ℕ)) → Ascends pairs → IsOnce pairs
ascending_once pairs up i j lt inside e = let less = up i j lt inside in omega (arith, less, e)

-- the bitmap of a space has changed, but for what is asked of it
pub parts_with : (sup : Super) (v now : Room) (pairs : List (ℕ × List ℕ)) (sealed entries : ℕ) → HasParts sup v pairs sealed entries → IsOfVolume (sizes_of sup) now → IsSettled now → now.last ≤ sealed → HasParts sup now pairs sealed entries
parts_with sup v now pairs sealed entries p volume settled closed = record { valid = p.valid; emptied = p.emptied; volume = volume; settled = settled; covered = p.covered; closed = closed; group = p.group }

-- a call was kept: the bitmap and the open group are others, and there are more entries
pub parts_kept : (sup : Super) (v now : Room) (pairs group : List (ℕ × List ℕ)) (sealed entries more : ℕ) → HasParts sup v pairs sealed entries → IsOfVolume (sizes_of sup) now → IsSettled now → now.last ≡ v.last
    → MayBeSealed (layout_of sup) sup.block_size group → entries ≤ more → HasParts sup now group sealed more
parts_kept sup v now pairs group sealed entries more p volume settled last fit le = record {
  valid = p.valid;
  emptied = p.emptied;
  volume = volume;
  settled = settled;
  covered = (let c = p.covered in omega (arith, c, le));
  closed = (let c = p.closed in omega (arith, c, last));
  group = fit;
}

-- there are more entries
pub parts_longer : (sup : Super) (v : Room) (pairs : List (ℕ × List ℕ)) (sealed entries more : ℕ) → HasParts sup v pairs sealed entries → entries ≤ more → HasParts sup v pairs sealed more
parts_longer sup v pairs sealed entries more p le = record { valid = p.valid; emptied = p.emptied; volume = p.volume; settled = p.settled; covered = (let c = p.covered in omega (arith, c, le)); closed = p.closed; group = p.group }

-- releasing counts no block
pub released_used : (group : ℕ) (gs : List Given) (t : Tally) → (lowered_by group gs t).used ≡ t.used
released_used group [] t = refl
released_used group (g ∷ gs) t = released_used group gs (cond (is_left group g) (lowered g.first t) t) ∙ one (is_left group g)
  where
    one : (b : Bool) → (cond b (lowered g.first t) t).used ≡ t.used
    one true = refl
    one false = refl

-- the bitmap with which a space is opened
abbrev pub first_room : Super → Room
first_room sup = record { block_size = sup.block_size; blocks = natural sup.num_blocks; group_blocks = group_blocks sup; given = []; last = 0; tally = first_tally (min (natural sup.used_blocks) (natural sup.num_blocks)); tally_kept = first_tally (min (natural sup.used_blocks) (natural sup.num_blocks)) }

-- an open group without blocks
pub nothing_sealed : (sup : Super) → IsValid sup → MayBeSealed (layout_of sup) sup.block_size []
nothing_sealed sup valid = record {
  ascends = λ i j lt inside. absurd (omega (arith, inside));
  sized = λ i inside. absurd (omega (arith, inside));
  places = λ i inside. absurd (omega (arith, inside));
  room = (let two = valid.log.2 in let none : ring_count [] ≡ 0 = refl in omega (arith, two, none));
}

pub parts_opened : (sup : Super) → IsValid sup → sup.log_start ≡ sup.log_end → HasParts sup (first_room sup) [] 0 0
parts_opened sup valid emptied = record {
  valid = valid;
  emptied = emptied;
  volume = record { block_size = refl; blocks = refl; group_blocks = refl };
  settled = refl;
  covered = omega arith;
  closed = omega arith;
  group = nothing_sealed sup valid;
}

-- what a space has may be sealed
pub sealed_of : (sup : Super) (v : Room) (pairs : List (ℕ × List ℕ)) (sealed entries : ℕ) → HasParts sup v pairs sealed entries → v.tally.used ≤ v.blocks → sealed < entries → IsSealed (layout_of sup) sup.block_size (record { first = sealed + 1; last = entries; used = v.tally.used; blocks = pairs })
sealed_of sup v pairs sealed entries p few lt = record {
  order = omega (arith, lt);
  once = ascending_once pairs p.group.ascends;
  sized = p.group.sized;
  places = p.group.places;
  used = (let same : v.blocks ≡ natural sup.num_blocks = p.volume.blocks in omega (arith, few, same));
  room = p.group.room;
}

pub group_for : (sp : SpaceView) (v : Room) (g : Group) → HasParts sp.sup v sp.group sp.sealed (length sp.history) → v.tally.used ≤ v.blocks → (sp.sealed ≡ length sp.history → ⊥) → v.tally.used ≡ sp.used → g.first ≡ sp.sealed + 1 → g.last ≡ length sp.history → g.used ≡ sp.used → g.blocks ≡ sp.group → IsGroupFor sp g
group_for sp v g p few apart used first last same blocks = record {
  first = first;
  last = last;
  some = some;
  used = same;
  blocks = blocks;
  sealed = subst (λ (x : Group). IsSealed (layout_of sp.sup) sp.sup.block_size x) (sym is) (sealed_of sp.sup v sp.group sp.sealed (length sp.history) p few some);
}
  where
    some : sp.sealed < length sp.history
    some = let le = p.covered in grind (arith, le, apart)

    is : g ≡ record { first = sp.sealed + 1; last = length sp.history; used = v.tally.used; blocks = sp.group }
    is = let a = first in let b = last in let c = same ∙ sym used in let d = blocks in λ i. record { first = a i; last = b i; used = c i; blocks = d i }
