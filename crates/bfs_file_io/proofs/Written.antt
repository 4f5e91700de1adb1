-- A space and a device stay joined where the bytes of a piece were written beside the groups.
use Rattle.std.proofs.Common.{◌≡◌, inr, ◌≤◌, ◌<◌, ◌+◌, ◌-◌, ◌*◌, ◌/◌, ◌%◌, ◌∙◌, ℕ, zero, suc, List, [], ◌∷◌, length, Bool, true, false, cond, Option, Some, None, Result, Ok, Err, OnOk, get_or, refl, sym, ap, subst, arith}
use Rattle.std.specs.Prelude.{nat_lt, not, ◌==◌, ◌&&◌, slice_get, slice_index, unwrap_or}
use Rattle.std.specs.List.{All, flat_map}
use Rattle.std.specs.FinMap.{entries, get}
use Rattle.std.proofs.Math.Nat.{div-add-mod}
use Rattle.std.proofs.lemmas.Bool.{eqb-true}
use Rattle.std.proofs.lemmas.Option.{get_or_from_slice_get, slice_get_within}
use Rattle.bfs_base.specs.Lists.{times}
use Rattle.bfs_disk.specs.State.{State, Tells}
use Rattle.bfs_disk.specs.Disk.{MayLeave}
use Rattle.bfs_disk.specs.Blocks.{contents_of}
use Rattle.bfs_bitmap.specs.Bits.{bit_of}
use Rattle.bfs_bitmap.specs.Runs.{Fits, Room, is_free, is_reserved, marked, per_block}
use Rattle.bfs_bitmap.proofs.Back.{fits_less}
use Rattle.bfs_txn.specs.Changed.{newest, or_else, over}
use Rattle.bfs_txn.specs.declared.group.Group.{Group}
use Rattle.bfs_shift.proofs.Bridge.{outside_bitmap}
use Rattle.bfs_sound.specs.Inodes.{stream_blocks}
use Rattle.bfs_sound.specs.Owners.{data_blocks, file_data, node_blocks, reach}
use Rattle.bfs_sound.specs.Volumes.{Volume, bitmap_blocks}
use Rattle.bfs_sound.specs.Whole.{IsSound}
use Rattle.bfs_sound.proofs.Counts.{times_split}
use Rattle.bfs_sound.proofs.Nodes.{node_metadata, node_split}
use Rattle.bfs_sound.proofs.Parts.{reach_parts}
use Rattle.bfs_stream.specs.Grown.{IsOfVolume}
use Rattle.bfs_stream.specs.Sizes.{sizes_of}
use Rattle.bfs_tree.specs.Histories.{Legal, Mounted, after, state_after}
use Rattle.bfs_tree.specs.Trees.{Tree}
use Rattle.bfs_device.specs.declared.journal.Stop.{Stop}
use Rattle.bfs_device.specs.Ahead.{IsSteady}
use Rattle.bfs_device.specs.Books.{Books, IsRight, RecoversOne, durable_of, sealed_of, version}
use Rattle.bfs_device.specs.Data.{IsRested, newest_in}
use Rattle.bfs_device.specs.Layouts.{is_data, layout_of}
use Rattle.bfs_device.proofs.Forward.{know_of}
use Rattle.bfs_device.proofs.Reading.{newest_read, newest_sealed}
use Rattle.bfs_core.specs.Cores.{RecoversFrom, newest_map}
use Rattle.bfs_core.specs.Spaces.{SpaceView, face}
use Rattle.bfs_core.proofs.Files.{stream_data}
use Rattle.bfs_core.specs.KnownBytes.{HasKnown}
use Rattle.bfs_core.specs.Moments.{Adoption, Kept, KeptSince, adopted_at}
use Rattle.bfs_core.proofs.Images.{recovers_from}
use Rattle.bfs_core.proofs.Times.{recovers_less}
use Rattle.bfs_device_blocks.specs.Lent.{HasCore, IsBehindEntry}
use Rattle.bfs_device_blocks.proofs.Holding.{hold}
use Rattle.bfs_commit.specs.Books.{SpaceBooks}
use Rattle.bfs_pieces.specs.Pieces.{IsHeldPiece, IsPieceOf, IsUnknown}
use Rattle.bfs_tree.specs.declared.reply.Entry.{Entry}
use Rattle.bfs_tree.specs.declared.state.Hold.{Hold}
use Rattle.bfs_commit.specs.Holds.{held_by}
use Rattle.bfs_commit.proofs.Held.{held_is_after}
use Rattle.bfs_commit.specs.Held.{HasPlaces, IsOnDisk}
use Rattle.bfs_commit.specs.Holding.{IsInWriting, IsOnFile, IsOneOf}
use Rattle.bfs_commit.proofs.Holding.{holds_are_on_files}
use Rattle.bfs_commit.specs.Volumes.{AreFitted, AreJoined, Stands}
use Rattle.bfs_commit.proofs.Asked.{same_told}
use Rattle.bfs_file_io.proofs.Pieced.{held_piece}
use Rattle.bfs_file_io.proofs.Released.{held_at}
use Rattle.bfs_commit.proofs.Taken.{IsHeldFile}

-- ---- what stands is held as Core from this moment on

module _ (sp : SpaceBooks) (b : Books) (told : Option State) (st : State) (clock : ℕ) (since : ℕ → List ℕ → Type 0) (is : told ≡ Some st) (s : Stands sp b st) (fitted : AreFitted sp.view b) (only : (c : List ℕ) → since clock c → MayLeave told c)
    (recovers : (t : ℕ → Bool) (right : Tells told (IsRight b t)) (image : List ℕ) → MayLeave told image → RecoversOne b t right.0 image) where
  now_from : (n : ℕ) → n ≤ durable_of b → (c : List ℕ) → since clock c → RecoversFrom s.t0 sp.view.history n c
  now_from n low c left =
      let one : RecoversOne b s.touched st c = recovers s.touched (st, is, s.core.right) c (only c left) in
      recovers_less s.t0 sp.view.history n (durable_of b) c low (recovers_from s.t0 sp.view b s.touched st c s.core one)

  kept_now : (from n : ℕ) → clock ≤ from → n ≤ durable_of b → KeptSince s.t0 sp.view.history clock since from n
  kept_now from n high low t c le lt left =
      let same : t ≡ clock = omega (arith, high, le, lt) in
      now_from n low c (subst (λ (x : ℕ). since x c) same left)

  pub stands_core : HasCore s.t0 (adopted_at clock clock) sp.view b told clock since
  stands_core =
      let at_it : Adoption = adopted_at clock clock in
      let kept : Kept s.t0 sp.view.history at_it b.marks (durable_of b) b.moment clock since = record {
        slow = λ few. omega arith;
        early = omega arith;
        low = omega arith;
        first = kept_now clock 0 (omega arith) (omega arith);
        marked = λ k d lt few. kept_now (clock + (get_or b.marks k d).moment) (get_or b.marks k d).number (omega arith) (fitted.reached k d lt);
        reached = fitted.reached;
      } in
      hold s.t0 (adopted_at clock clock) sp.view b told clock since ((st, is, (s.touched, s.core)), kept)
      (λ x at. (let e : Some st ≡ Some x = sym is ∙ at in let same : st ≡ x = cc in subst (HasKnown s.t0 sp.view b) same s.known))
      (record { chain = λ first bad. absurd (cc); settled = λ first bad. absurd (cc) })

-- ---- the bitmap

free_by : (v : Room) (m n : ℕ → Option (List ℕ)) (k : ℕ) → ((j : ℕ) → per_block v * j < v.blocks → n (1 + j) ≡ m (1 + j)) → is_free v n k ≡ is_free v m k
free_by v m n k same = by_place (nat_lt k v.blocks) refl
  where
    by_place : (d : Bool) → nat_lt k v.blocks ≡ d → is_free v n k ≡ is_free v m k
    by_place true e =
        let lt : k < v.blocks = grind (arith, e) in
        let whole : per_block v * (k / per_block v) + k % per_block v ≡ k = div-add-mod k (per_block v) in
        ap (λ (o : Option (List ℕ)). nat_lt k v.blocks && ((bit_of (unwrap_or o []) (k % per_block v) == 0) && not (is_reserved v.given k))) (same (k / per_block v) (omega (arith, whole, lt)))
    by_place false e =
        ap (λ (d : Bool). d && ((marked (per_block v) n k == 0) && not (is_reserved v.given k))) e
        ∙ sym (ap (λ (d : Bool). d && ((marked (per_block v) m k == 0) && not (is_reserved v.given k))) e)

pub fits_same : (v : Room) (m n : ℕ → Option (List ℕ)) → ((j : ℕ) → per_block v * j < v.blocks → n (1 + j) ≡ m (1 + j)) → Fits v m → Fits v n
fits_same v m n same fits =
    fits_less v v m n (record { told = λ j low. (let t = fits.has.told j low in (t.0, same j low ∙ t.1, t.2)) }) refl refl refl refl (λ k free. sym (free_by v m n k same) ∙ free) fits

-- the blocks of files hold no bits of the bitmap
no_bits : (v : Volume) (tree : Tree) (sound : IsSound v tree) (k : ℕ) → 0 < times k (file_data v tree) → times k (bitmap_blocks v.geometry) ≡ 0
no_bits v tree sound k some =
    let parts = reach_parts v tree k in
    let split : times k (flat_map (node_blocks v) (entries tree.nodes)) ≡ times k (flat_map (node_metadata v) (entries tree.nodes)) + times k (file_data v tree) = times_split k (node_blocks v) (node_metadata v) (data_blocks v) (entries tree.nodes) (node_split v k) in
    let most : times k (reach v tree) ≤ 1 = sound.nodes.once k in
    omega (arith, parts, split, most, some)

not_first : (k : ℕ) (rest : List ℕ) → times k (0 ∷ rest) ≡ 0 → 1 ≤ k
not_first zero rest none = absurd (let e : 1 + times 0 rest ≡ 0 = none in omega (arith, e))
not_first (suc n) rest none = omega arith

pub none_more : (x k n : ℕ) → n ≡ 0 → (x ≡ k → ⊥) → cond {A = ℕ} (x == k) 1 0 + n ≡ 0
none_more x k n none never = by_test (x == k) refl
  where
    by_test : (d : Bool) → (x == k) ≡ d → cond {A = ℕ} d 1 0 + n ≡ 0
    by_test true e = absurd (never (eqb-true x k e))
    by_test false e = omega (arith, none)

pub times_none : (xs : List ℕ) (k : ℕ) → ((i : ℕ) → slice_get xs i ≡ Some k → ⊥) → times k xs ≡ 0
times_none [] k never = refl
times_none (x ∷ xs) k never = none_more x k (times k xs) (times_none xs k (λ i is. never (suc i) is)) (λ e. never 0 (ap (λ (y : ℕ). Some y) e))

-- the blocks of a piece aren't the bitmap's
module _ (t0 : Mounted) (sp : SpaceBooks) (m : ℕ → Option (List ℕ)) (id at count skip : ℕ) (places : List ℕ) (sound : IsSound (face sp.view m) (after t0 sp.view.history)) (some : 0 < sp.view.sup.block_size) (volume : IsOfVolume (sizes_of sp.view.sup) sp.room)
    (held : IsHeldPiece t0 sp.view m id at count skip places) where
  bitmap_apart : (j : ℕ) → per_block sp.room * j < sp.room.blocks → times (1 + j) places ≡ 0
  bitmap_apart j low = times_none places (1 + j) (λ i is.
      let v : Volume = face sp.view m in
      let lt : i < length places = slice_get_within places i (1 + j) is in
      let same : slice_index places i ≡ 1 + j = get_or_from_slice_get places i (1 + j) 0 is in
      let found : slice_get (stream_blocks (face sp.view m) id) (at / sp.view.sup.block_size + i) ≡ Some (1 + j) = held.places_are i lt ∙ ap (λ (y : ℕ). Some y) same in
      let data_here : 0 < times (1 + j) (file_data (face sp.view m) (after t0 sp.view.history)) = stream_data (face sp.view m) (after t0 sp.view.history) id held.node (at / sp.view.sup.block_size + i) (1 + j) held.there held.file found in
      let out = outside_bitmap (face sp.view m).geometry sp.room (1 + j) (record { block_size = volume.block_size; blocks = volume.blocks; group_blocks = volume.group_blocks }) some (omega arith) (no_bits (face sp.view m) (after t0 sp.view.history) sound (1 + j) data_here) in
      let e : 1 + j - 1 ≡ j = omega arith in
      let f : per_block sp.room * (1 + j - 1) ≡ per_block sp.room * j = ap (λ (n : ℕ). per_block sp.room * n) e in
      omega (arith, low, out, f))

-- ---- the write

module _ (b : Books) (moment : ℕ) (stop : Option Stop) (st next : State) (steady : IsSteady b) (later : (let new : Books = record b { moment = moment; stop = stop } in IsSteady new)) where
  abbrev after_write : Books
  after_write = record b { moment = moment; stop = stop }

  pub map_same : (k : ℕ) → contents_of next (layout_of b.sup).sectors k ≡ contents_of st (layout_of b.sup).sectors k → newest_map after_write next k ≡ newest_map b st k
  map_same k same = by_test (is_data (layout_of b.sup) k)
    where
      by_groups : (o : Option (List ℕ)) → newest_in b.groups k ≡ o → version after_write next (sealed_of b) k ≡ version b st (sealed_of b) k
      by_groups None none = sym (newest_read after_write next k (know_of after_write later) none) ∙ same ∙ newest_read b st k (know_of b steady) none
      by_groups (Some bytes) some = sym (newest_sealed after_write next k bytes (know_of after_write later) some) ∙ newest_sealed b st k bytes (know_of b steady) some

      by_test : (d : Bool) → cond d (Some (version after_write next (sealed_of b) k)) None ≡ cond d (Some (version b st (sealed_of b) k)) None
      by_test true = ap Some (by_groups (newest_in b.groups k) refl)
      by_test false = refl

-- where no group waits, none has a block
pub none_waits : (groups : List Group) (places : List ℕ) → groups ≡ [] → All (λ k. newest_in groups k ≡ None) places
none_waits groups places none k d lt = ap (λ gs. newest_in gs (get_or places k d)) none

-- ---- what is held for writing

held_some : (history : List Entry) (h : Hold) → IsOneOf h (held_by history) → 0 < length history
held_some [] h one = absurd (let bad : None ≡ Some h = one.1 in cc)
held_some (e ∷ es) h one = omega arith

module _ (t0 : Mounted) (history : List Entry) (id at count : ℕ) (writing : IsInWriting history id at count) (legal : Legal t0 history) where
  written_on : IsOnFile (state_after t0 history) writing.hold
  written_on = holds_are_on_files t0 history writing.hold legal (subst (IsOneOf writing.hold) (sym (held_is_after t0 history)) writing.held)

  written_file : IsHeldFile (after t0 history).nodes id at count
  written_file = let high = writing.high in let within = written_on.within in
      record { node = written_on.node; there = subst (λ (n : ℕ). get (after t0 history).nodes n ≡ Some written_on.node) writing.id_is written_on.there; file = written_on.file; within = omega (arith, high, within) }

  written_unknown : IsUnknown (state_after t0 history).known id at count
  written_unknown k lt =
      let low = writing.low in
      let high = writing.high in
      let e : writing.hold.at + (at - writing.hold.at + k) ≡ at + k = omega (arith, low) in
      subst (λ (q : ℕ × ℕ). get (state_after t0 history).known q ≡ None) (λ i. (writing.id_is i, e i))
      (written_on.unknown writing.writes (at - writing.hold.at + k) (omega (arith, low, high, lt)))

module _ {E : Type 0} (sp : SpaceBooks) (b new : Books) (told told' : Option State) (clock clock' : ℕ) (since since' : ℕ → List ℕ → Type 0) (id at skip : ℕ) (places bytes : List ℕ) (result : Result Unit E)
    (joined : AreJoined sp b told) (writing : IsInWriting sp.view.history id at (length bytes)) (has : HasPlaces sp.view b told id at (length bytes) places) (volume : IsOfVolume (sizes_of sp.view.sup) sp.room)
    (some : 0 < sp.view.sup.block_size) (more : 0 < length bytes) (skip_is : skip ≡ at % sp.view.sup.block_size) (size : b.sup.block_size ≡ sp.view.sup.block_size) (begun : b.stop ≡ None) (steady : IsSteady b)
    (rest : new ≡ record b { moment = new.moment; stop = new.stop })
    (only : (c : List ℕ) → since clock c → MayLeave told c) (recovers : (t : ℕ → Bool) (right : Tells told (IsRight b t)) (image : List ℕ) → MayLeave told image → RecoversOne b t right.0 image)
    (others : (next : State) → told' ≡ Some next → (st : State) × (told ≡ Some st) × ((k : ℕ) → times k places ≡ 0 → contents_of next (layout_of b.sup).sectors k ≡ contents_of st (layout_of b.sup).sectors k))
    (written : (t0 : Mounted) (adopted : Adoption) → HasCore t0 adopted sp.view b told clock since → IsBehindEntry adopted sp.view → ((st : State) → told ≡ Some st → IsHeldPiece t0 sp.view (newest_map b st) id at (length bytes) skip places) → IsUnknown (state_after t0 sp.view.history).known id at (length bytes)
    → HasCore t0 adopted sp.view new told' clock' since' × ((next : State) → told' ≡ Some next → IsHeldPiece t0 sp.view (newest_map new next) id at (length bytes) skip places × OnOk result (IsPieceOf (contents_of next (layout_of b.sup).sectors) b.sup.block_size places skip bytes))) where
  some_entry : 0 < length sp.view.history
  some_entry = held_some sp.view.history writing.hold writing.held

  held_here : (t0 : Mounted) (adopted : Adoption) → HasCore t0 adopted sp.view b told clock since → (st : State) → told ≡ Some st → IsHeldPiece t0 sp.view (newest_map b st) id at (length bytes) skip places
  held_here t0 adopted core st is = subst (λ (n : ℕ). IsHeldPiece t0 sp.view (newest_map b st) id at (length bytes) n places) (sym skip_is)
      (held_piece t0 sp.view b told id at (length bytes) places (written_file t0 sp.view.history id at (length bytes) writing core.0.2.1.space.legal) has some more st is)

  pub core_written : (t0 : Mounted) (adopted : Adoption) → HasCore t0 adopted sp.view b told clock since → HasCore t0 adopted sp.view new told' clock' since'
  core_written t0 adopted core = (written t0 adopted core (inr some_entry) (held_here t0 adopted core) (written_unknown t0 sp.view.history id at (length bytes) writing core.0.2.1.space.legal)).0

  pub fitted_written : AreFitted sp.view new
  fitted_written =
      let f = joined.fitted in
      subst (AreFitted sp.view) (sym rest) (record { geometry = f.geometry; sealed = f.sealed; sealed_used = f.sealed_used; idle = f.idle; going = λ none. f.going begun; reached = f.reached; waits = f.waits })

  core_here : (next : State) → (is : told' ≡ Some next) → (let o = others next is in HasCore (joined.stands o.0 o.1).t0 (adopted_at clock clock) sp.view b told clock since)
  core_here next is = let o = others next is in stands_core sp b told o.0 clock since o.1 (joined.stands o.0 o.1) joined.fitted only recovers

  fits_written : (next : State) → (is : told' ≡ Some next) → IsSteady new → Fits sp.room (over sp.view.group (newest_map new next))
  fits_written next is later =
      let o = others next is in
      let s = joined.stands o.0 o.1 in
      let held = held_here s.t0 (adopted_at clock clock) (core_here next is) o.0 o.1 in
      let same : (j : ℕ) → per_block sp.room * j < sp.room.blocks → over sp.view.group (newest_map new next) (1 + j) ≡ over sp.view.group (newest_map b o.0) (1 + j) = λ j low.
      ap (λ (x : Option (List ℕ)). or_else (newest sp.view.group (1 + j)) x)
      (subst (λ (x : Books). newest_map x next (1 + j) ≡ newest_map b o.0 (1 + j)) (sym rest)
      (map_same b new.moment new.stop o.0 next steady (subst IsSteady rest later) (1 + j) (o.2 (1 + j) (bitmap_apart s.t0 sp (newest_map b o.0) id at (length bytes) skip places s.core.space.sound some volume held j low)))) in
      fits_same sp.room (over sp.view.group (newest_map b o.0)) (over sp.view.group (newest_map new next)) same s.fits

  pub joined_written : AreJoined sp new told'
  joined_written = record {
    fitted = fitted_written;
    stands = λ next is.
        let o = others next is in
        let s = joined.stands o.0 o.1 in
        let core = core_written s.t0 (adopted_at clock clock) (core_here next is) in
        let now = held_at s.t0 (adopted_at clock clock) sp.view new told' clock' since' core next is in
        record { t0 = s.t0; touched = now.0; core = now.1; known = now.2; fits = fits_written next is now.1.steady; counted = s.counted };
  }

  pub there : (next : State) → (is : told' ≡ Some next) → (let o = others next is in IsHeldPiece (joined.stands o.0 o.1).t0 sp.view (newest_map new next) id at (length bytes) skip places × OnOk result (IsPieceOf (contents_of next (layout_of b.sup).sectors) b.sup.block_size places skip bytes))
  there next is =
      let o = others next is in
      let s = joined.stands o.0 o.1 in
      let core = core_here next is in
      (written s.t0 (adopted_at clock clock) core (inr some_entry) (held_here s.t0 (adopted_at clock clock) core) (written_unknown s.t0 sp.view.history id at (length bytes) writing core.0.2.1.space.legal)).1 next is

  pub piece_written : OnOk result (IsOnDisk sp.view new told' id at bytes)
  piece_written = by_result result (λ next is. (there next is).1)
    where
      by_result : (r : Result Unit E) → ((next : State) → told' ≡ Some next → OnOk r (IsPieceOf (contents_of next (layout_of b.sup).sectors) b.sup.block_size places skip bytes)) → OnOk r (IsOnDisk sp.view new told' id at bytes)
      by_result (Err e) pieces = tt
      by_result (Ok done) pieces = record {
        places = places;
        has = record { many = has.many; are = λ next is. (there next is).0.places_are };
        bytes_are = λ next is.
            let same : b.sup.block_size ≡ sp.view.sup.block_size = size in
            let sectors : (layout_of b.sup).sectors ≡ (layout_of new.sup).sectors = ap (λ (x : Books). (layout_of x.sup).sectors) (sym rest) in
            subst (λ (n : ℕ). IsPieceOf (contents_of next n) sp.view.sup.block_size places (at % sp.view.sup.block_size) bytes) sectors
            (subst (λ (n : ℕ). IsPieceOf (contents_of next (layout_of b.sup).sectors) n places (at % sp.view.sup.block_size) bytes) same
            (subst (λ (n : ℕ). IsPieceOf (contents_of next (layout_of b.sup).sectors) b.sup.block_size places n bytes) skip_is (pieces next is)));
      }

  pub both_written : AreJoined sp new told' × OnOk result (IsOnDisk sp.view new told' id at bytes)
  both_written = (joined_written, piece_written)

-- ---- a read, and a piece of no byte

pub piece_read : {E : Type 0} (sp : SpaceBooks) (b new : Books) (told told' : Option State) (id at skip : ℕ) (places bytes : List ℕ) (result : Result Unit E) → IsRested b new → told' ≡ told → HasPlaces sp.view b told id at (length bytes) places → skip ≡ at % sp.view.sup.block_size → b.sup.block_size ≡ sp.view.sup.block_size
    → ((st : State) → told ≡ Some st → OnOk result (IsPieceOf (contents_of st (layout_of b.sup).sectors) b.sup.block_size places skip bytes)) → OnOk result (IsOnDisk sp.view new told' id at bytes)
piece_read sp b new told told' id at skip places bytes (Err e) rests same has skip_is size pieces = tt
piece_read sp b new told told' id at skip places bytes (Ok done) rests same has skip_is size pieces = record {
  places = places;
  has = record {
    many = has.many;
    are = λ st is. subst (λ (m : ℕ → Option (List ℕ)). (i : ℕ) → i < length places → slice_get (stream_blocks (face sp.view m) id) (at / sp.view.sup.block_size + i) ≡ Some (slice_index places i)) (sym (same_told b new st rests)) (has.are st (sym same ∙ is));
  };
  bytes_are = λ st is.
      let sectors : (layout_of b.sup).sectors ≡ (layout_of new.sup).sectors = ap (λ (x : Books). (layout_of x.sup).sectors) (sym rests) in
      subst (λ (n : ℕ). IsPieceOf (contents_of st n) sp.view.sup.block_size places (at % sp.view.sup.block_size) bytes) sectors
      (subst (λ (n : ℕ). IsPieceOf (contents_of st (layout_of b.sup).sectors) n places (at % sp.view.sup.block_size) bytes) size
      (subst (λ (n : ℕ). IsPieceOf (contents_of st (layout_of b.sup).sectors) b.sup.block_size places n bytes) skip_is (pieces st (sym same ∙ is))));
}

pub no_piece : (sp : SpaceView) (b : Books) (told : Option State) (id at : ℕ) (places bytes : List ℕ) → length bytes ≡ 0 → HasPlaces sp b told id at (length bytes) places → IsOnDisk sp b told id at bytes
no_piece sp b told id at places bytes none has = record { places = places; has = has; bytes_are = λ st is k lt. absurd (omega (arith, none, lt)) }
