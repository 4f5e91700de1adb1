-- Each event keeps known bytes on the disk.
use Rattle.std.proofs.Common.{◌≡◌, ◌≢◌, ⊎_elim, ◌/◌, ◌%◌, ℕ, List, [], ◌∷◌, Bool, true, false, ◌==◌, Option, Some, None, refl, sym, ◌∙◌, ap, subst, arith}
use Rattle.std.specs.Prelude.{IsTrue, slice_get}
use Rattle.std.proofs.lemmas.Bool.{eqb-true}
use Rattle.bfs_base.specs.Lists.{times}
use Rattle.bfs_disk.specs.State.{State, Holds, Filled}
use Rattle.bfs_disk.specs.Blocks.{contents_of}
use Rattle.bfs_super.specs.declared.sup.Super.{Super}
use Rattle.bfs_super.specs.Conditions.{IsValid, natural}
use Rattle.bfs_log.specs.Replay.{super_of, blocks_of}
use Rattle.bfs_txn.specs.declared.group.Group.{Group}
use Rattle.bfs_txn.specs.Changed.{newest, or_else}
use Rattle.bfs_tree.specs.Trees.{Node, IsNode, is_file}
use Rattle.bfs_tree.specs.declared.reply.Entry.{Entry}
use Rattle.bfs_tree.specs.Histories.{Mounted, after}
use Rattle.bfs_sound.specs.Volumes.{Volume}
use Rattle.bfs_sound.specs.Inodes.{stream_blocks}
use Rattle.bfs_sound.specs.Owners.{IsMetadata, fixed_blocks}
use Rattle.bfs_sound.specs.Whole.{IsWhole, volume_of}
use Rattle.bfs_device.specs.declared.journal.Stop.{Stop}
use Rattle.bfs_device.specs.Layouts.{layout_of, IsData}
use Rattle.bfs_device.specs.Books.{Books, IsOnDisk, AreSame, sealed_of, version}
use Rattle.bfs_device.specs.Seals.{adopted, sealed_with}
use Rattle.bfs_device.specs.Data.{newest_in, AreSameBut}
use Rattle.bfs_device.specs.Ahead.{IsSteady, GoesOn, IsGroupOf}
use Rattle.bfs_device.proofs.Forward.{know_of, order_of}
use Rattle.bfs_device.proofs.Reading.{newest_read}
use Rattle.bfs_core.specs.Spaces.{SpaceView, Entered, IsFaceData, IsGroupFor, face, face_over, opened, sealed_space, released_space}
use Rattle.bfs_core.specs.Cores.{Core, newest_map}
use Rattle.bfs_core.specs.KnownBytes.{HasByte, HasKnown, HasBytesOf, HasKnownIn, KeepsFiles, block_at}
use Rattle.bfs_core.proofs.Files.{file_apart, file_marked, stream_data, stream_stays}
use Rattle.bfs_core.proofs.Masks.{data_when}
use Rattle.bfs_core.proofs.Onward.{same_newest}
use Rattle.bfs_core.proofs.Openings.{face_at, data_at, read_is}
use Rattle.bfs_core.proofs.Pieces.{face_same, no_group, piece_apart, piece_is_data}
use Rattle.bfs_core.proofs.Seals.{face_is}
use Rattle.bfs_core.proofs.Steady.{adopted_steady}

pub file_data_of : (t0 : Mounted) (sp : SpaceView) (b : Books) (t : ℕ → Bool) (st : State) (id : ℕ) (n : Node) (i block : ℕ) → Core t0 sp b t st → IsNode (after t0 sp.history) id n → IsTrue (is_file n.kind)
    → slice_get (stream_blocks (face sp (newest_map b st)) id) i ≡ Some block → IsFaceData t0 sp (newest_map b st) block
file_data_of t0 sp b t st id n i block core is regular found =
    file_marked (face sp (newest_map b st)) (after t0 sp.history) core.space.sound block (stream_data (face sp (newest_map b st)) (after t0 sp.history) id n i block is regular found)

eq_true : (a b : ℕ) → a ≡ b → (a == b) ≡ true
eq_true a b e = grind (arith, e)

-- the block of a known byte is file data
pub byte_file : (t0 : Mounted) (sp : SpaceView) (b : Books) (t : ℕ → Bool) (st : State) (core : Core t0 sp b t st) (contents : ℕ → List ℕ) (id place byte : ℕ)
    → (has : HasByte (face sp (newest_map b st)) (after t0 sp.history) contents id place byte) → IsFaceData t0 sp (newest_map b st) has.block
byte_file t0 sp b t st core contents id place byte has = file_data_of t0 sp b t st id has.file.0 (place / sp.sup.block_size) has.block core has.file.1 has.file.2 has.is

-- what two devices read of a block that no group has
same_contents : (b new : Books) (st st' : State) (k : ℕ) → IsSteady b → IsSteady new → newest_in b.groups k ≡ None → newest_in new.groups k ≡ None → version new st' (sealed_of new) k ≡ version b st (sealed_of b) k
    → contents_of st' (layout_of new.sup).sectors k ≡ contents_of st (layout_of b.sup).sectors k
same_contents b new st st' k steady later none nothing same = newest_read new st' k (know_of new later) nothing ∙ same ∙ sym (newest_read b st k (know_of b steady) none)

or_nothing : (a o : Option (List ℕ)) → or_else a o ≡ None → (a ≡ None) × (o ≡ None)
or_nothing None o is = (refl, is)
or_nothing (Some x) o is = absurd (cc)

-- where no group has a block, none of them has
lacks : (gs : List Group) (k : ℕ) → newest_in gs k ≡ None → (g : Group) → IsGroupOf g gs → newest g.blocks k ≢ None → ⊥
lacks [] k none g is has = absurd is
lacks (x ∷ gs) k none g is has =
    let parts = or_nothing (newest_in gs k) (newest x.blocks k) none in
    ⊎_elim (λ here. has (ap (λ (y : Group). newest y.blocks k) here ∙ parts.1)) (λ later. lacks gs k parts.0 g later has) is

pub known_ahead : (t0 : Mounted) (sp : SpaceView) (b new : Books) (t : ℕ → Bool) (st st' : State) → Core t0 sp b t st → IsSteady new → GoesOn b new → AreSame b st new st' → HasKnown t0 sp b st → HasKnown t0 sp new st'
known_ahead t0 sp b new t st st' core steady on same known id place byte is =
    let has = known id place byte is in
    let file : IsFaceData t0 sp (newest_map b st) has.block = byte_file t0 sp b t st core (contents_of st (layout_of b.sup).sectors) id place byte has in
    let map_is : newest_map new st' ≡ newest_map b st = same_newest b new st st' steady on same in
    let none : newest_in b.groups has.block ≡ None = piece_apart t0 sp b t st core has.block file in
    let nothing : newest_in new.groups has.block ≡ None = no_group new has.block (λ g one some. lacks b.groups has.block none g (on.groups g one) some) in
    let version_is : version new st' (sealed_of new) has.block ≡ version b st (sealed_of b) has.block =
    same (sealed_of new) (order_of new steady).newest has.block (piece_is_data t0 sp b t st core has.block file) ∙ ap (λ (n : ℕ). version b st n has.block) on.sealed in
    record {
      file = has.file;
      block = has.block;
      is = subst (λ (m : ℕ → Option (List ℕ)). block_at (face sp m) id place ≡ Some has.block) (sym map_is) has.is;
      byte_is = ap (λ (bytes : List ℕ). slice_get bytes (place % sp.sup.block_size)) (same_contents b new st st' has.block core.steady steady none nothing version_is) ∙ has.byte_is;
    }

pub known_entered : (t0 : Mounted) (sp new : SpaceView) (b : Books) (st : State) (e : Entry) → Entered t0 sp new (newest_map b st) e → KeepsFiles t0 sp new (newest_map b st) (contents_of st (layout_of b.sup).sectors) → HasKnown t0 sp b st → HasKnown t0 new b st
known_entered t0 sp new b st e entered keeps known id place byte is = ⊎_elim
    (λ before.
    let has = known id place byte before.0 in
    record {
      file = before.1.file;
      block = has.block;
      is = before.1.block ∙ has.is;
      byte_is = ap (λ (s : Super). slice_get (contents_of st (layout_of b.sup).sectors has.block) (place % s.block_size)) entered.same.sup ∙ has.byte_is;
    })
    (λ now. now.0)
    (keeps id place byte is)

pub known_released : (t0 : Mounted) (sp : SpaceView) (b : Books) (st : State) (n : ℕ) → HasKnown t0 sp b st → HasKnown t0 (released_space n sp) b st
known_released t0 sp b st n known id place byte is = known id place byte is

pub known_sealed : (t0 : Mounted) (sp : SpaceView) (b : Books) (t : ℕ → Bool) (st : State) (g : Group) → Core t0 sp b t st → IsGroupFor sp g → HasKnown t0 sp b st → HasKnown t0 (sealed_space sp) (sealed_with b g) st
known_sealed t0 sp b t st g core group known id place byte is =
    subst (λ (v : Volume). HasByte v (after t0 sp.history) (contents_of st (layout_of b.sup).sectors) id place byte) (sym (face_is t0 sp b t st g core group)) (known id place byte is)

-- ---- a data write

module _ (t0 : Mounted) (sp : SpaceView) (b : Books) (t : ℕ → Bool) (st : State) (core : Core t0 sp b t st) (block : ℕ) (file : IsFaceData t0 sp (newest_map b st) block) (moment : ℕ) (stop : Option Stop) (st' : State)
    (same : (let new : Books = record b { moment = moment; stop = stop } in AreSameBut block b st new st')) (known : HasKnown t0 sp b st) (in_block : HasKnownIn t0 sp (newest_map b st) block (contents_of st' (layout_of b.sup).sectors block)) where
  abbrev new : Books
  new = record b { moment = moment; stop = stop }

  new_steady : IsSteady new
  new_steady = record { valid = core.steady.valid; empty = core.steady.empty; follow = core.steady.follow; phase = core.steady.phase }

  other_contents : (k : ℕ) → k ≢ block → IsFaceData t0 sp (newest_map b st) k → contents_of st' (layout_of b.sup).sectors k ≡ contents_of st (layout_of b.sup).sectors k
  other_contents k other is =
      let none : newest_in b.groups k ≡ None = piece_apart t0 sp b t st core k is in
      same_contents b new st st' k core.steady new_steady none none (same (sealed_of b) (order_of b core.steady).newest k (piece_is_data t0 sp b t st core k is) other)

  stream_same : (id : ℕ) (n : Node) → IsNode (after t0 sp.history) id n → is_file n.kind ≡ true → stream_blocks (face sp (newest_map new st')) id ≡ stream_blocks (face sp (newest_map b st)) id
  stream_same id n is regular = stream_stays (face sp (newest_map b st)) (face_over sp.group (newest_map new st')) (after t0 sp.history) core.space.sound (face_same t0 sp b t st core block file moment stop st' same) id n is regular

  byte_still : (k place byte : ℕ) → slice_get (contents_of st (layout_of b.sup).sectors k) place ≡ Some byte → IsFaceData t0 sp (newest_map b st) k → (k ≡ block → slice_get (contents_of st' (layout_of b.sup).sectors block) place ≡ Some byte)
      → (d : Bool) → (k == block) ≡ d → slice_get (contents_of st' (layout_of b.sup).sectors k) place ≡ Some byte
  byte_still k place byte old is here true e = let same_block : k ≡ block = eqb-true k block e in ap (λ (i : ℕ). slice_get (contents_of st' (layout_of b.sup).sectors i) place) same_block ∙ here same_block
  byte_still k place byte old is here false e =
      ap (λ (bytes : List ℕ). slice_get bytes place) (other_contents k (λ same_block. let bad : true ≡ false = sym (eq_true k block same_block) ∙ e in absurd (cc)) is) ∙ old

  known_after : HasKnown t0 sp new st'
  known_after id place byte is =
      let has = known id place byte is in
      let is_file_data : IsFaceData t0 sp (newest_map b st) has.block = byte_file t0 sp b t st core (contents_of st (layout_of b.sup).sectors) id place byte has in
      record {
        file = has.file;
        block = has.block;
        is = ap (λ (xs : List ℕ). slice_get xs (place / sp.sup.block_size)) (stream_same id has.file.0 has.file.1 has.file.2) ∙ has.is;
        byte_is = byte_still has.block (place % sp.sup.block_size) byte has.byte_is is_file_data
            (λ here. in_block id place byte is (has.is ∙ ap (λ (k : ℕ). Some k) here)) (has.block == block) refl;
      }

pub known_written : (t0 : Mounted) (sp : SpaceView) (b new : Books) (t : ℕ → Bool) (st st' : State) (block : ℕ) → Core t0 sp b t st → IsFaceData t0 sp (newest_map b st) block
    → new ≡ record b { moment = new.moment; stop = new.stop } → AreSameBut block b st new st' → HasKnownIn t0 sp (newest_map b st) block (contents_of st' (layout_of b.sup).sectors block) → HasKnown t0 sp b st → HasKnown t0 sp new st'
known_written t0 sp b new t st st' block core file rested same in_block known =
    subst (λ (x : Books). HasKnown t0 sp x st') (sym rested)
    (known_after t0 sp b t st core block file new.moment new.stop st' (subst (λ (x : Books). AreSameBut block b st x st') rested same) known in_block)

-- ---- a mount

module _ (t0 : Mounted) (image : List ℕ) (st : State) (whole : IsWhole image t0.tree) (holds : Holds image st) (filled : Filled st) (on : IsOnDisk (Some st.size) (super_of image)) (bytes : HasBytesOf image t0) where
  abbrev s : Super
  s = super_of image

  abbrev v : Volume
  v = volume_of (super_of image) (blocks_of image)

  valid : IsValid (super_of image)
  valid = whole.whole.valid.super

  steady : IsSteady (adopted (super_of image))
  steady = adopted_steady (super_of image) valid whole.whole.emptied

  face_same_at : (k : ℕ) → IsMetadata v t0.tree k → times k (fixed_blocks v) ≡ 0 → face_over [] (newest_map (adopted (super_of image)) st) k ≡ v.blocks k
  face_same_at k meta apart = face_at t0 (super_of image) st image whole refl holds filled on steady k (data_at t0 (super_of image) st image whole refl holds filled on steady k meta apart)

  pub known_opened : HasKnown t0 (opened (super_of image)) (adopted (super_of image)) st
  known_opened id place byte is =
      let has = bytes id place byte is in
      let some = stream_data v t0.tree id has.file.0 (place / (super_of image).block_size) has.block has.file.1 has.file.2 has.is in
      let marked = (file_marked v t0.tree whole.whole.sound has.block some).0 in
      let d : IsData (layout_of (super_of image)) has.block = data_when (super_of image) has.block marked.0 (natural (super_of image).used_blocks) (file_apart v t0.tree whole.whole.sound has.block some) in
      record {
        file = has.file;
        block = has.block;
        is = ap (λ (xs : List ℕ). slice_get xs (place / (super_of image).block_size)) (stream_stays v (face_over [] (newest_map (adopted (super_of image)) st)) t0.tree whole.whole.sound face_same_at id has.file.0 has.file.1 has.file.2) ∙ has.is;
        byte_is = ap (λ (xs : List ℕ). slice_get xs (place % (super_of image).block_size)) (read_is (super_of image) st image has.block valid filled on holds refl d) ∙ has.byte_is;
      }
