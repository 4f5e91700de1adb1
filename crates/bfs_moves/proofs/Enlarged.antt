-- A new inode in a loose block was given its bytes.
use Rattle.std.proofs.Common.{◌≡◌, ◌≤◌, ◌<◌, ◌+◌, ◌-◌, ◌*◌, ◌⊎◌, inl, inr, ℕ, zero, suc, pos, List, [], ◌∷◌, ◌++◌, length, take, drop, refl, sym, ap, ◌∙◌, subst, arith, Bool, true, Option, Some}
use Rattle.std.specs.Prelude.{IsSome}
use Rattle.bfs_base.specs.Lists.{times, Has}
use Rattle.bfs_super.specs.Conditions.{IsValid}
use Rattle.bfs_super.specs.Geometry.{geometry_of}
use Rattle.bfs_super.specs.declared.geometry.Geometry.{Geometry}
use Rattle.bfs_super.specs.declared.sup.Super.{Super}
use Rattle.bfs_bitmap.specs.Runs.{Room, HasBitmap, is_free}
use Rattle.bfs_inode.specs.Inode.{Inode, Stream, inode_at, stream_at}
use Rattle.bfs_smalldata.specs.Items.{items_of}
use Rattle.bfs_txn.specs.Told.{with_block, StaysChanged}
use Rattle.bfs_stream.specs.Places.{fields, frame_at, places_at, whole_at}
use Rattle.bfs_stream.specs.Sizes.{Origin, sizes_of}
use Rattle.bfs_stream.specs.Told.{contents, AreTold}
use Rattle.bfs_stream.specs.Grown.{Owns}
use Rattle.bfs_stream.proofs.Doubles.{times-append}
use Rattle.bfs_stream_pages.specs.Moves.{KeepsInode, Moved}
use Rattle.bfs_stream_pages.specs.MovesLaws.{whole_moves}
use Rattle.bfs_tree.specs.Trees.{Tree}
use Rattle.bfs_make.specs.Mapped.{StreamNow}
use Rattle.bfs_sound.specs.Volumes.{Volume, sizes, IsMarked}
use Rattle.bfs_sound.specs.Inodes.{inode_blocks}
use Rattle.bfs_sound.specs.Owners.{reach}
use Rattle.bfs_shift.specs.Lists.{Lists}
use Rattle.bfs_shift.specs.Stocked.{Shifts}
use Rattle.bfs_shift.specs.Shifts.{volume_in}
use Rattle.bfs_shift.specs.Work.{IsAtWork, GoesOn}
use Rattle.bfs_shift.proofs.AtWork.{just_one}
use Rattle.bfs_shift.proofs.Basics.{some_bytes, or_told}
use Rattle.bfs_shift.proofs.Moves.{moved_shifts}
use Rattle.bfs_shift.proofs.Owning.{loose_owns}
use Rattle.bfs_fresh.specs.Fresh.{IsInodeOf, IsFresh, no_stream}
use Rattle.bfs_fresh.specs.declared.fields.NewNode.{NewNode}
use Rattle.bfs_moves.specs.Born.{IsBornEmpty}
use Rattle.bfs_moves.specs.Grown.{IsGrown}
use Rattle.bfs_moves.proofs.Births.{only_one, set_here, bytes_here, written_work, written_goes}
use Rattle.bfs_moves.proofs.Empty.{whole_empty, places_empty, levels_sound}
use Rattle.bfs_moves.proofs.Ends.{goes_on_twice}
use Rattle.bfs_moves.proofs.Loosened.{loose_work, loose_goes}

-- a new inode stays one where its stream alone is another
pub still_fresh : (size : ℕ) (n : NewNode) (name old new : List ℕ) → KeepsInode old new → IsFresh size n name old → IsFresh size n name new
still_fresh size n name old new kept fresh =
    let tail : drop 232 new ≡ drop 232 old = ap (λ (i : Inode). i.small_data) kept.0 in
    let read : IsInodeOf size n (drop 232 old) new = kept.0 ∙ ap (λ (i : Inode). record i { stream_bytes = take 144 (drop 72 new) }) fresh.fields in
    record {
      fields = subst (λ (area : List ℕ). IsInodeOf size n area new) (sym tail) read;
      area = ap items_of tail ∙ fresh.area;
      long = kept.1.0 ∙ fresh.long;
    }

-- the inode was written, and its stream has no blocks yet
module _ (s : Super) (v : Room) (m : ℕ → Option (List ℕ)) (tree : Tree) (lists : Lists) (rest : List ℕ) (id : ℕ) (n : NewNode) (name : List ℕ) (started : Option (ℕ → Option (List ℕ))) (old mid : ℕ → Bool)
    (valid : IsValid s) (work : IsAtWork (geometry_of s) v m tree lists (id ∷ rest)) (born : IsBornEmpty s.block_size id n name m started)
    (changed : (k : ℕ) → mid k ≡ true → (old k ≡ true) ⊎ (k ≡ id)) (kept_changed : StaysChanged old mid) (own_changed : mid id ≡ true) where
  abbrev g : Geometry
  g = geometry_of s

  abbrev o : Origin
  o = record { id = id; sizes = sizes_of s }

  abbrev first : ℕ → Option (List ℕ)
  first = with_block id born.bytes m

  abbrev was : Volume
  was = volume_in g first

  abbrev xs : List ℕ
  xs = inode_blocks was id

  some : 0 < s.block_size
  some = some_bytes s valid

  here : contents first id ≡ born.bytes
  here = bytes_here s v m tree lists rest id born.bytes valid work

  pub first_stream : stream_at (contents first id) ≡ no_stream
  first_stream = ap stream_at here ∙ born.stream

  first_work : IsAtWork g v first tree lists (id ∷ rest)
  first_work = written_work s v m tree lists rest id born.bytes valid work old mid changed kept_changed

  first_goes : GoesOn g v v m first tree tree old mid
  first_goes = written_goes s v m tree lists rest id born.bytes valid work old mid changed kept_changed

  first_whole : xs ≡ id ∷ []
  first_whole = whole_empty (sizes g) (contents first) id first_stream

  pub first_places : places_at (sizes g) (contents first) id ≡ []
  first_places = places_empty (sizes g) (contents first) id first_stream

  pub first_size : (fields (sizes g) (contents first) id).size ≡ pos 0
  first_size = ap (λ (t : Stream). t.size) first_stream

  is_own : (k : ℕ) → Has xs k → k ≡ id
  is_own k h = only_one k id (subst (λ (l : List ℕ). Has l k) first_whole h)

  first_told : AreTold first xs
  first_told k h = subst (λ (j : ℕ). IsSome (first j)) (sym (is_own k h)) (subst (λ (b : Option (List ℕ)). IsSome b) (sym (set_here s v m tree lists rest id born.bytes valid work)) refl)

  pub first_owns : Owns o v [] first
  first_owns = loose_owns g v first tree lists (id ∷ []) rest id first_work.volume some first_work.fits first_work.stocked (λ k. ap (times k) (sym first_whole)) (levels_sound (sizes g) (contents first) id first_stream) first_told

  first_marked : (k : ℕ) → Has xs k → IsMarked was k
  first_marked k h = (first_work.stocked.marks k).1 (
      let has : 0 < times k (id ∷ []) = subst (λ (l : List ℕ). Has l k) first_whole h in
      let a : times k (id ∷ rest) ≡ times k (id ∷ []) + times k rest = times-append k (id ∷ []) rest in
      let b = times-append k (reach was tree) (id ∷ rest) in
      let r : 0 < times k (reach was tree ++ (id ∷ rest)) = omega (arith, has, a, b) in r)

  -- its stream has these bytes since
  module _ (now : Room) (bytes : List ℕ) (told : Option (ℕ → Option (List ℕ))) (new : ℕ → Bool) (since : StreamNow o v now first (λ (all : List ℕ). all ≡ bytes) told mid new) where
    abbrev map : ℕ → Option (List ℕ)
    map = since.map

    abbrev is_now : Volume
    is_now = volume_in g map

    abbrev ys : List ℕ
    ys = inode_blocks is_now id

    moved : Moved o v now first map
    moved = since.moved

    shift : Shifts was (contents map) (id ∷ []) ys
    shift = subst (λ (l : List ℕ). Shifts was (contents map) l ys) first_whole (moved_shifts g id v now first map first_work.volume some moved first_marked)

    bitmap_now : HasBitmap v map
    bitmap_now = let h : HasBitmap (record v { tally = now.tally }) map = subst (λ (x : Room). HasBitmap x map) moved.rest moved.owns.fits.has in record { told = h.told }

    or_is : (k : ℕ) → times k ys ≡ 0 → (map k ≡ first k) ⊎ IsSome (map k)
    or_is k none = or_told v first map k bitmap_now (λ out. moved.others k out none) (λ at. ap map at ∙ moved.first (subst (λ (j : ℕ). times j ys ≡ 0) at none) ∙ sym (ap first at))

    kept : (k : ℕ) → Has (id ∷ []) k → Has ys k
    kept k h = whole_moves o v now first map moved k (subst (λ (l : List ℕ). Has l k) (sym first_whole) h)

    free : (k : ℕ) → Has ys k → times k (id ∷ []) ≡ 0 → is_free v first k ≡ true
    free k h none = moved.were_free k h (ap (times k) first_whole ∙ none)

    ours : AreTold map ys
    ours k h = by_count (times k (frame_at (sizes g) (contents map) id)) refl
      where
        has : 0 < times k ys
        has = h

        by_count : (c : ℕ) → times k (frame_at (sizes g) (contents map) id) ≡ c → IsSome (map k)
        by_count zero e = since.held.1.told k (let p = times-append k (frame_at (sizes g) (contents map) id) (places_at (sizes g) (contents map) id) in let r : 0 < times k (places_at (sizes g) (contents map) id) = omega (arith, has, p, e) in r)
        by_count (suc c) e = moved.owns.stands.told k (let r : 0 < times k (frame_at (sizes g) (contents map) id) = omega (arith, e) in r)

    changed_now : (k : ℕ) → Has ys k → new k ≡ true
    changed_now k h = by_count (times k xs) refl
      where
        by_count : (c : ℕ) → times k xs ≡ c → new k ≡ true
        by_count zero e = since.fresh k h e
        by_count (suc c) e = since.stays k (subst (λ (j : ℕ). mid j ≡ true) (sym (is_own k (let r : 0 < times k xs = omega (arith, e) in r))) own_changed)

    second_work : IsAtWork g now map tree lists (ys ++ rest)
    second_work = loose_work g v now first map tree lists (id ∷ []) ys rest mid new some first_work shift moved.rest moved.owns.fits (moved.counted first_work.counted) or_is kept since.written since.stays free

    second_goes : GoesOn g v now first map tree tree mid new
    second_goes = loose_goes g v now first map tree lists (id ∷ []) ys rest mid new some first_work shift moved.rest moved.owns.fits (moved.counted first_work.counted) or_is kept since.written since.stays free

    pub grown_now : IsGrown s id n name bytes v now m tree lists rest told old new
    grown_now = record {
      map = map;
      is = since.is;
      work = second_work;
      goes_on = goes_on_twice g v v now m first map tree tree tree old mid new first_goes second_goes;
      fresh = still_fresh s.block_size n name (contents first id) (contents map id) moved.kept (subst (IsFresh s.block_size n name) (sym here) born.fresh);
      stream = moved.owns.stands.sound;
      bytes_are = since.bytes;
      are_told = ours;
      are_changed = changed_now;
    }
