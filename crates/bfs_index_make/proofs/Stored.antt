-- An inode that was stored of free blocks, on a volume at work.
use Rattle.std.proofs.Common.{◌≡◌, ◌<◌, ◌+◌, ◌-◌, ◌*◌, ◌⊎◌, ℕ, ℤ, zero, suc, List, [], ◌∷◌, ◌++◌, refl, sym, ap, ◌∙◌, subst, arith, Bool, false, Option, Some}
use Rattle.std.specs.Prelude.{IsSome, nat_lt}
use Rattle.bfs_base.specs.Keys.{IsTreeKind}
use Rattle.bfs_base.specs.Lists.{times}
use Rattle.bfs_base.specs.declared.kind.KeyKind.{KeyKind}
use Rattle.bfs_base.specs.declared.kind.KeyKind.TheVariants.{Text, I32, U32, I64, U64, F32, F64}
use Rattle.bfs_bytes.specs.declared.Run.{Run}
use Rattle.bfs_super.specs.Conditions.{IsValid}
use Rattle.bfs_super.specs.Geometry.{geometry_of}
use Rattle.bfs_super.specs.declared.geometry.Geometry.{Geometry}
use Rattle.bfs_super.specs.declared.sup.Super.{Super}
use Rattle.bfs_bitmap.specs.Runs.{Room, HasBitmap, per_block, is_free, is_reserved, marked}
use Rattle.bfs_txn.specs.Told.{AreSized, StaysChanged}
use Rattle.bfs_stream.specs.Places.{frame_at, places_at}
use Rattle.bfs_stream.specs.Sizes.{sizes_of, first_block, IsInVolume}
use Rattle.bfs_stream.specs.Told.{contents, AreTold}
use Rattle.bfs_stream.proofs.Doubles.{times-append}
use Rattle.bfs_tree.specs.Trees.{Tree}
use Rattle.bfs_values.specs.Reached.{IsWholeTree, AreWritten, pairs_of}
use Rattle.bfs_values.specs.Rows.{rows_in}
use Rattle.bfs_node.specs.Page.{Row}
use Rattle.std.specs.List.{flat_map}
use Rattle.bfs_make.specs.Made.{HasBits, HasStored, formed_at}
use Rattle.bfs_make.specs.declared.making.NewInode.{NewInode}
use Rattle.bfs_sound.specs.Inodes.{HasBit, inode_blocks}
use Rattle.bfs_sound.specs.Owners.{fixed_blocks, reach}
use Rattle.bfs_sound.specs.Volumes.{Volume, sizes, bitmap_blocks, IsMarked, log_blocks}
use Rattle.bfs_shift.specs.Lists.{Lists}
use Rattle.bfs_shift.specs.Shifts.{volume_in}
use Rattle.bfs_shift.specs.Stocked.{IsListing, Shifts}
use Rattle.bfs_shift.specs.Work.{IsAtWork}
use Rattle.bfs_shift.proofs.Basics.{bitmap_has, or_told, some_bytes}
use Rattle.bfs_shift.proofs.Moving.{all_parts}
use Rattle.bfs_moves.proofs.Loosened.{loose_work, loose_goes}
use Rattle.bfs_attr.proofs.Owned.{owner_is, bits_are}
use Rattle.bfs_attr_put.specs.Exchanged.{Exchanged}
use Rattle.bfs_attr_put.proofs.Brings.{new_exchange}
use Rattle.bfs_attr_put.proofs.Changed.{marked_used}
use Rattle.bfs_attr_put.proofs.Exchange.{exchange_shifts}
use Rattle.bfs_index_make.specs.Made.{index_mode, index_form, HasLooseIndex}

first_counted : (id : ℕ) (l : List ℕ) → times id (id ∷ l) ≡ 1 + times id l
first_counted id l = grind arith

-- the bitmap of a volume at work is told, and none of its blocks is free
module _ (s : Super) (v : Room) (m : ℕ → Option (List ℕ)) (tree : Tree) (lists : Lists) (loose : List ℕ) (valid : IsValid s) (work : IsAtWork (geometry_of s) v m tree lists loose) where
  abbrev g : Geometry
  g = geometry_of s

  abbrev was : Volume
  was = volume_in g m

  some : 0 < g.block_size
  some = some_bytes s valid

  reached_used : (k : ℕ) → 0 < times k (reach was tree ++ loose) → is_free v m k ≡ false
  reached_used k has =
      let mark : IsMarked was k = (work.stocked.marks k).1 has in
      let one : marked (8 * g.block_size) m k ≡ 1 = mark.1 in
      marked_used (nat_lt k v.blocks) (marked (per_block v) m k) (is_reserved v.given k) (ap (λ (b : ℕ). marked (8 * b) m k) work.volume.block_size ∙ one)

  bits : (k : ℕ) → per_block v * (k - 1) < v.blocks → is_free v m k ≡ false
  bits zero low = reached_used 0 (let p = all_parts was tree lists loose work.stocked 0 in let z : times 0 (fixed_blocks was) ≡ 1 + times 0 (log_blocks g) = first_counted 0 (log_blocks g) in omega (arith, p, z))
  bits (suc k) low =
      reached_used (suc k) (let p = all_parts was tree lists loose work.stocked (suc k) in let b : 0 < times (suc k) (bitmap_blocks g) = bitmap_has g v (suc k) work.volume some (omega arith, low) in omega (arith, p, b))

  pub work_bits : HasBits v m
  work_bits = record { fits = work.fits; bits = bits }

index_bit : (kind : KeyKind) → HasBit (index_mode kind) 29
index_bit Text = refl
index_bit I32 = refl
index_bit U32 = refl
index_bit I64 = refl
index_bit U64 = refl
index_bit F32 = refl
index_bit F64 = refl

-- its blocks are loose, and where its bytes are a tree without rows it is an index that lists nothing
module _ (s : Super) (v now : Room) (m : ℕ → Option (List ℕ)) (tree : Tree) (lists : Lists) (valid : IsValid s) (work : IsAtWork (geometry_of s) v m tree lists []) (kind : KeyKind) (parent address : Run) (stamp : ℤ) (bytes : List ℕ) (told : Option (ℕ → Option (List ℕ))) (old new : ℕ → Bool)
    (stored : HasStored (sizes_of s) v now m (formed_at address (index_form parent kind stamp)) bytes told old new) (stays : StaysChanged old new) (inside : IsInVolume (sizes_of s) address) (one : address.len ≡ 1) (sized : AreSized s.block_size (Some stored.map))
    (of_tree : IsTreeKind kind) (whole : IsWholeTree kind bytes) (none : rows_in kind bytes ≡ []) where
  abbrev here : Geometry
  here = geometry_of s

  abbrev id : ℕ
  id = first_block (sizes_of s) address

  abbrev n : NewInode
  n = formed_at address (index_form parent kind stamp)

  abbrev map : ℕ → Option (List ℕ)
  map = stored.map

  abbrev is_now : Volume
  is_now = volume_in here map

  abbrev ys : List ℕ
  ys = inode_blocks is_now id

  least : 0 < here.block_size
  least = some_bytes s valid

  came : Exchanged v now m map [] ys
  came = new_exchange (record { id = id; sizes = sizes_of s }) v now m map stored.stream

  shift : Shifts (volume_in here m) (contents map) [] ys
  shift = exchange_shifts here v now m map [] ys work.volume least came stored.stream.owns.once (λ k has. absurd (let bad : 0 < 0 = has in omega (arith, bad)))

  bitmap_now : HasBitmap v map
  bitmap_now = let h : HasBitmap (record v { tally = now.tally }) map = subst (λ (x : Room). HasBitmap x map) stored.stream.rest stored.stream.owns.fits.has in record { told = h.told }

  or_is : (k : ℕ) → times k ys ≡ 0 → (map k ≡ m k) ⊎ IsSome (map k)
  or_is k none_now = or_told v m map k bitmap_now (λ out. stored.stream.others k out none_now) (λ at. ap map at ∙ stored.stream.first ∙ sym (ap m at))

  ours : AreTold map ys
  ours k h = by_count (times k (frame_at (sizes here) (contents map) id)) refl
    where
      has : 0 < times k ys
      has = h

      by_count : (c : ℕ) → times k (frame_at (sizes here) (contents map) id) ≡ c → IsSome (map k)
      by_count zero e = stored.held.1.told k (let p = times-append k (frame_at (sizes here) (contents map) id) (places_at (sizes here) (contents map) id) in let r : 0 < times k (places_at (sizes here) (contents map) id) = omega (arith, has, p, e) in r)
      by_count (suc c) e = stored.stream.owns.stands.told k (let r : 0 < times k (frame_at (sizes here) (contents map) id) = omega (arith, e) in r)

  no_rows : (rows : List Row) → rows ≡ [] → [] ≡ flat_map (pairs_of bytes) rows
  no_rows rows e = sym (ap (flat_map (pairs_of bytes)) e)

  listing : IsListing is_now id kind []
  listing = record {
    index = record {
      owner = owner_is s v now m n bytes told old new stored inside one sized (index_mode kind) 1 refl refl refl;
      mode = subst (λ (b : ℕ). HasBit b 29) (sym (bits_are s v now m n bytes told old new stored inside one sized (index_mode kind) 1 refl refl refl)) (index_bit kind);
      kind_is = of_tree;
      tree = subst (IsWholeTree kind) (sym stored.content) whole;
    };
    written = subst (λ (b : List ℕ). AreWritten b (rows_in kind b) []) (sym stored.content) (record { are = no_rows (rows_in kind bytes) none });
  }

  pub loose_index : HasLooseIndex here v now m tree lists kind id told old new
  loose_index = record {
    map = map;
    is = stored.is;
    work = loose_work here v now m map tree lists [] ys [] old new least work shift stored.stream.rest stored.stream.owns.fits (stored.stream.counted work.counted) or_is (λ k h. absurd (let bad : 0 < 0 = h in omega (arith, bad))) stored.written stays (λ k h none_before. stored.stream.were_free k h);
    goes_on = loose_goes here v now m map tree lists [] ys [] old new least work shift stored.stream.rest stored.stream.owns.fits (stored.stream.counted work.counted) or_is (λ k h. absurd (let bad : 0 < 0 = h in omega (arith, bad))) stored.written stays (λ k h none_before. stored.stream.were_free k h);
    listing = listing;
    are_told = ours;
    are_changed = stored.entered;
  }
