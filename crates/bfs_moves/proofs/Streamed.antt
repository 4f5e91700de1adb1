-- The stream of one inode was written, and has perhaps grown.
use Rattle.std.proofs.Common.{◌≡◌, ◌≤◌, ◌<◌, ◌+◌, ◌⊎◌, inl, inr, ℕ, zero, suc, List, ◌++◌, refl, sym, ap, ◌∙◌, subst, arith, Bool, true, Option, Some}
use Rattle.std.specs.Prelude.{IsSome}
use Rattle.std.specs.FinMap.{entries}
use Rattle.bfs_base.specs.Lists.{times, Has}
use Rattle.bfs_super.specs.Conditions.{IsValid}
use Rattle.bfs_super.specs.Geometry.{geometry_of}
use Rattle.bfs_super.specs.declared.geometry.Geometry.{Geometry}
use Rattle.bfs_super.specs.declared.sup.Super.{Super}
use Rattle.bfs_bitmap.specs.Fills.{IsBitmapBlock}
use Rattle.bfs_bitmap.specs.Runs.{Room, HasBitmap}
use Rattle.bfs_stream.specs.Places.{frame_at, places_at}
use Rattle.bfs_stream.specs.Sizes.{Origin, sizes_of}
use Rattle.bfs_stream.specs.Told.{contents}
use Rattle.bfs_stream.specs.Grown.{IsOfVolume, AreWritten}
use Rattle.bfs_stream.proofs.Doubles.{times-append}
use Rattle.bfs_stream_pages.specs.Moves.{Moved}
use Rattle.bfs_stream_pages.specs.MovesLaws.{whole_moves}
use Rattle.bfs_tree.specs.Trees.{Node, Tree, is_file}
use Rattle.bfs_make.specs.Mapped.{HasHeld}
use Rattle.bfs_sound.specs.Volumes.{Volume, sizes, bitmap_blocks, IsMarked}
use Rattle.bfs_sound.specs.Inodes.{inode_blocks}
use Rattle.bfs_sound.specs.Owners.{node_blocks, file_data, reach}
use Rattle.bfs_sound.proofs.Counts.{In}
use Rattle.bfs_shift.specs.Lists.{Lists}
use Rattle.bfs_shift.specs.Stocked.{Stocked, Shifts}
use Rattle.bfs_shift.specs.Shifts.{volume_in}
use Rattle.bfs_shift.proofs.Moves.{moved_shifts}
use Rattle.bfs_txn.specs.Told.{StaysChanged}
use Rattle.bfs_stream_pages.specs.Moves.{ChangesFresh}
use Rattle.bfs_shift.specs.Work.{IsAtWork, GoesOn, IsStepped, MayBeWritten}
use Rattle.bfs_shift.proofs.Basics.{some_bytes, bitmap_has, or_told}
use Rattle.bfs_shift.proofs.Files.{unfiled, files_same, stream_same, bytes_same, marks_stay, told_since, entered_since, reserved_stays}

module _ (s : Super) (v now : Room) (m : ℕ → Option (List ℕ)) (tree : Tree) (lists since : Lists) (loose : List ℕ) (d : ℕ) (told : Option (ℕ → Option (List ℕ))) (old new : ℕ → Bool) (valid : IsValid s) (work : IsAtWork (geometry_of s) v m tree lists loose)
    (marked : (k : ℕ) → Has (inode_blocks (volume_in (geometry_of s) m) d) k → IsMarked (volume_in (geometry_of s) m) k)
    (apart : (e : ℕ × Node) → In e (entries tree.nodes) → is_file e.1.kind ≡ true → (k : ℕ) → times k (node_blocks (volume_in (geometry_of s) m) e) + (times k (inode_blocks (volume_in (geometry_of s) m) d) + times k (bitmap_blocks (geometry_of s))) ≤ times k (reach (volume_in (geometry_of s) m) tree ++ loose))
    (map : ℕ → Option (List ℕ)) (is : told ≡ Some map) (held : HasHeld (record { id = d; sizes = sizes_of s }) now map) (moved : Moved (record { id = d; sizes = sizes_of s }) v now m map)
    (written : AreWritten v old new (inode_blocks (volume_in (geometry_of s) map) d)) (kept : StaysChanged old new) (fresh : ChangesFresh (record { id = d; sizes = sizes_of s }) m map new) (stocked : Stocked (volume_in (geometry_of s) map) tree since loose)
    (own : (k : ℕ) → Has (inode_blocks (volume_in (geometry_of s) map) d) k → MayBeWritten (volume_in (geometry_of s) map) tree k) where
  abbrev g : Geometry
  g = geometry_of s

  abbrev o : Origin
  o = record { id = d; sizes = sizes_of s }

  abbrev was : Volume
  was = volume_in g m

  abbrev is_now : Volume
  is_now = volume_in g map

  abbrev xs : List ℕ
  xs = inode_blocks was d

  abbrev ys : List ℕ
  ys = inode_blocks is_now d

  some : 0 < s.block_size
  some = some_bytes s valid

  shift : Shifts was (contents map) xs ys
  shift = moved_shifts g d v now m map work.volume some moved marked

  same : file_data is_now tree ≡ file_data was tree
  same = files_same was tree lists loose work.stocked (contents map) xs ys shift apart

  bitmap_now : HasBitmap v map
  bitmap_now = let h : HasBitmap (record v { tally = now.tally }) map = subst (λ (x : Room). HasBitmap x map) moved.rest moved.owns.fits.has in record { told = h.told }

  or_is : (k : ℕ) → times k ys ≡ 0 → (map k ≡ m k) ⊎ IsSome (map k)
  or_is k none = or_told v m map k bitmap_now (λ out. moved.others k out none) (λ at. ap map at ∙ moved.first (subst (λ (j : ℕ). times j ys ≡ 0) at none) ∙ sym (ap m at))

  ours : (k : ℕ) → Has ys k → IsSome (map k)
  ours k h = by_count (times k (frame_at (sizes g) (contents map) d)) refl
    where
      has : 0 < times k ys
      has = h

      by_count : (c : ℕ) → times k (frame_at (sizes g) (contents map) d) ≡ c → IsSome (map k)
      by_count zero e = held.1.told k (let p = times-append k (frame_at (sizes g) (contents map) d) (places_at (sizes g) (contents map) d) in let r : 0 < times k (places_at (sizes g) (contents map) d) = omega (arith, has, p, e) in r)
      by_count (suc c) e = moved.owns.stands.told k (let r : 0 < times k (frame_at (sizes g) (contents map) d) = omega (arith, e) in r)

  work_now : IsAtWork g now map tree since loose
  work_now = record {
    volume = subst (IsOfVolume (sizes g)) (sym moved.rest) (record { block_size = work.volume.block_size; blocks = work.volume.blocks; group_blocks = work.volume.group_blocks });
    fits = moved.owns.fits;
    counted = moved.counted work.counted;
    stocked = stocked;
    told = told_since g m map tree tree lists since loose loose xs ys work.stocked stocked shift (λ k. ap (times k) (sym same)) work.told or_is (λ k h none. ours k h) (λ k. omega arith);
  }

  was_reached : (k : ℕ) → Has xs k → times k loose ≡ 0 → 0 < times k (reach was tree)
  was_reached k h none = let r : 0 < times k (reach was tree ++ loose) = (work.stocked.marks k).0 (marked k h) in let a = times-append k (reach was tree) loose in omega (arith, r, a, none)

  goes_on : GoesOn g v now m map tree tree old new
  goes_on = record {
    rest = moved.rest;
    marked = marks_stay was (contents map) xs ys shift (λ k h. whole_moves o v now m map moved k h);
    files = λ id x there f. (record { node = x; there = there; kind = refl; size = refl }, stream_same was tree lists loose work.stocked (contents map) xs ys shift apart id x there f);
    same_data = λ k. ap (times k) (sym same);
    bytes = bytes_same was tree lists loose work.stocked (contents map) xs ys shift apart;
    written = λ k h. by_cause k (written k h);
    kept = kept;
    entered = entered_since g m map tree tree lists since loose loose xs ys work.stocked stocked shift (λ k. ap (times k) (sym same)) work.told or_is (λ k h none. ours k h) (λ k. omega arith) new (λ k h left none. fresh k h none) was_reached;
    reserved = reserved_stays was (contents map) xs ys v m shift marked moved.were_free;
  }
    where
      by_cause : (k : ℕ) → (old k ≡ true) ⊎ (IsBitmapBlock v k ⊎ Has ys k) → (old k ≡ true) ⊎ (MayBeWritten is_now tree k)
      by_cause k (inl e) = inl e
      by_cause k (inr (inl bit)) = inr (unfiled is_now tree since loose stocked k (let b : 0 < times k (bitmap_blocks g) = bitmap_has g v k work.volume some bit in omega (arith, b)))
      by_cause k (inr (inr h)) = inr (own k h)

  pub streamed_step : IsStepped g v now m tree tree since loose told old new
  streamed_step = record { map = map; is = is; work = work_now; goes_on = goes_on }
