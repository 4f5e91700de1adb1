-- One step of a write of a piece over its blocks.
use Rattle.std.proofs.lemmas.Option.{slice_get-get_or}
use Rattle.bfs_base.specs.Lists.{times}
use Rattle.bfs_core.proofs.Files.{get_has}
use Rattle.std.proofs.Common.{◌≡◌, None, arith, ◌<◌, ◌≤◌, ◌+◌, ◌*◌, ℕ, List, [], ◌∷◌, length, Bool, Option, Some, Result, Ok, Err, OnOk, refl, sym, ◌∙◌, ap, subst}
use Rattle.std.specs.Prelude.{slice_index}
use Rattle.bfs_disk.specs.State.{State}
use Rattle.bfs_disk.specs.Blocks.{contents_of}
use Rattle.bfs_tree.specs.Histories.{Mounted, state_after}
use Rattle.bfs_super.specs.declared.sup.Super.{Super}
use Rattle.bfs_device.specs.declared.journal.Stop.{Stop}
use Rattle.bfs_device.specs.Layouts.{layout_of}
use Rattle.bfs_device.specs.Books.{Books}
use Rattle.bfs_core.specs.Spaces.{SpaceView, IsFaceData}
use Rattle.bfs_core.specs.Cores.{Core, newest_map}
use Rattle.bfs_core.specs.Moments.{Adoption}
use Rattle.bfs_core.proofs.Onward.{same_size}
use Rattle.bfs_device_blocks.specs.Lent.{HasCore}
use Rattle.bfs_pieces.specs.Pieces.{IsPieceOf, IsHeldPiece, IsUnknown}
use Rattle.bfs_pieces.specs.Parts.{IsClear, IsPartOf, KeepsOthers, MayWrite, TellsBut, ReadsBut}
use Rattle.bfs_pieces.proofs.Spreading.{IsAt, at_start, file_here, clear_here, held_still, piece_more, piece_none, piece_still}
use Rattle.bfs_pieces.proofs.Writing.{one_told}

-- the file has the piece's blocks, and they have these bytes of it
abbrev pub HasPiece : Mounted → SpaceView → Books → Option State → ℕ → ℕ → ℕ → ℕ → ℕ → ℕ → List ℕ → List ℕ → Type 0
HasPiece t0 sp b told r size id at count skip places bytes =
    (st : State) → told ≡ Some st → IsHeldPiece t0 sp (newest_map b st) id at count skip places × IsPieceOf (contents_of st r) size places skip bytes

module _ (t0 : Mounted) (adopted : Adoption) (sp : SpaceView) (b : Books) (told : Option State) (clock : ℕ) (past : ℕ → List ℕ → Type 0) (core : HasCore t0 adopted sp b told clock past) (r size id at count skip : ℕ) (places bytes : List ℕ)
    (sized : b.sup.block_size ≡ size) (held : HasPiece t0 sp b told r size id at count skip places bytes) (index from done : ℕ) (so : IsAt size skip count index from done) (left : done < count) (long : length bytes ≡ done) where
  abbrev st : State
  st = core.0.0

  abbrev t : ℕ → Bool
  t = core.0.2.0

  inside : Core t0 sp b core.0.2.0 core.0.0
  inside = core.0.2.1

  size_is : size ≡ sp.sup.block_size
  size_is = sym sized ∙ same_size sp.sup b.sup inside.one.geometry

  so_here : IsAt sp.sup.block_size skip count index from done
  so_here = subst (λ (n : ℕ). IsAt n skip count index from done) size_is so

  held_here : IsHeldPiece t0 sp (newest_map b core.0.0) id at count skip places
  held_here = (held core.0.0 core.0.1).0

  -- the device may write the next part
  pub step_may : (n : ℕ) → done + n ≤ count → IsUnknown (state_after t0 sp.history).known id at count → MayWrite t0 sp b told (slice_index places index) from n
  step_may n fits unknown next is =
      subst (λ (s : State). IsFaceData t0 sp (newest_map b s) (slice_index places index) × IsClear t0 sp (newest_map b s) (slice_index places index) from n) (one_told told core.0.0 next core.0.1 is) (
        file_here t0 sp b core.0.2.0 core.0.0 inside id at count skip places held_here index from done so_here left,
        clear_here t0 sp b core.0.2.0 core.0.0 inside id at count skip places held_here index from done so_here left n fits core.0.2.2 unknown,
      )

  -- and then what was there stays
  pub step_held : (new : Books) (told' : Option State) → TellsBut (slice_index places index) b new told told' → ReadsBut r (slice_index places index) told told' → HasPiece t0 sp new told' r size id at count skip places bytes
  step_held new told' tells reads next is =
      let got = reads core.0.0 core.0.1 in
      let same : got.0 ≡ next = one_told told' got.0 next got.1 is in
      let old : IsPieceOf (contents_of core.0.0 r) sp.sup.block_size places skip bytes = subst (λ (n : ℕ). IsPieceOf (contents_of core.0.0 r) n places skip bytes) size_is (held core.0.0 core.0.1).1 in
      let still : IsPieceOf (contents_of got.0 r) sp.sup.block_size places skip bytes =
      piece_still t0 sp b core.0.2.0 core.0.0 inside id at count skip places held_here index from done so_here left (contents_of core.0.0 r) (contents_of got.0 r) bytes long got.2 old in (
        held_still t0 sp b core.0.2.0 core.0.0 inside id at count skip places held_here index from done so_here left (newest_map new next) (λ k other. tells core.0.0 next core.0.1 is k other),
        subst (λ (n : ℕ). IsPieceOf (contents_of next r) n places skip bytes) (sym size_is) (subst (λ (s : State). IsPieceOf (contents_of s r) sp.sup.block_size places skip bytes) same still),
      )

  -- both, over a write of the part as its contract says it
  pub step_written : (s : Super) → b.sup ≡ s → (layout_of s).sectors ≡ r → (new : Books) (told' : Option State) (clock' : ℕ) (since : ℕ → List ℕ → Type 0) (n : ℕ) (part : List ℕ) → length part ≡ n → done + n ≤ count → IsUnknown (state_after t0 sp.history).known id at count
      → (HasCore t0 adopted sp b told clock past → MayWrite t0 sp b told (slice_index places index) from (length part) → HasCore t0 adopted sp new told' clock' since × TellsBut (slice_index places index) b new told told')
      → ReadsBut (layout_of b.sup).sectors (slice_index places index) told told' → HasCore t0 adopted sp new told' clock' since × HasPiece t0 sp new told' r size id at count skip places bytes
  step_written s sup sectors new told' clock' since n part whole fits unknown writes reads =
      let may : MayWrite t0 sp b told (slice_index places index) from (length part) = subst (MayWrite t0 sp b told (slice_index places index) from) (sym whole) (step_may n fits unknown) in
      let got = writes core may in
      let others : ReadsBut r (slice_index places index) told told' = subst (λ (k : ℕ). ReadsBut k (slice_index places index) told told') (ap (λ (x : Super). (layout_of x).sectors) sup ∙ sectors) reads in
      (got.0, step_held new told' got.1 others)

-- books of which only the count of calls is another, and then one more call that succeeded
pub rest_on : (b mid new : Books) → mid ≡ record b { moment = mid.moment; stop = b.stop } → new ≡ record mid { moment = new.moment; stop = new.stop } → new.stop ≡ mid.stop → new ≡ record b { moment = new.moment; stop = b.stop }
rest_on b mid new one two stop =
    two
    ∙ ap (λ (x : Books). let y : Books = record x { moment = new.moment; stop = new.stop } in y) one
    ∙ ap (λ (o : Option Stop). let y : Books = record b { moment = new.moment; stop = o } in y) (stop ∙ ap (λ (x : Books). x.stop) one)

-- one block more of a piece
pub others_more : (first mid last : Option State) (r : ℕ) (places : List ℕ) (index : ℕ) → index < length places → (mid ≡ None → last ≡ None) → ReadsBut r (slice_index places index) mid last → KeepsOthers r places first mid → KeepsOthers r places first last
others_more first None last r places index low silent reads back next is = absurd (let bad : None ≡ Some next = sym (silent refl) ∙ is in cc)
others_more first (Some m) last r places index low silent reads back next is =
    let got = reads m refl in
    let e : Some got.0 ≡ Some next = sym got.1 ∙ is in
    let same : got.0 ≡ next = cc in
    let was = back m refl in
    let here : 0 < times (slice_index places index) places = get_has places index (slice_index places index) (slice_get-get_or places index 0 low) in (
      was.0,
      was.1,
      λ k none.
          ap (λ (s : State). contents_of s r k) (sym same)
          ∙ got.2 k (λ at_it. let some : 0 < times k places = subst (λ (x : ℕ). 0 < times x places) (sym at_it) here in omega (arith, some, none))
          ∙ was.2 k none,
    )

-- a write of one block alone
pub others_block : (told after_it : Option State) (r place : ℕ) → (told ≡ None → after_it ≡ None) → ReadsBut r place told after_it → KeepsOthers r (place ∷ []) told after_it
others_block told after_it r place silent reads = others_more told told after_it r (place ∷ []) 0 (omega arith) silent reads (λ next is. (next, is, λ k none. refl))

-- and of the bytes of a piece that are in it
pub block_written : {E : Type 0} (t0 : Mounted) (adopted : Adoption) (sp : SpaceView) (b : Books) (told : Option State) (clock : ℕ) (past : ℕ → List ℕ → Type 0) → HasCore t0 adopted sp b told clock past → (id at skip place : ℕ) (part : List ℕ)
    → ((st : State) → told ≡ Some st → IsHeldPiece t0 sp (newest_map b st) id at (length part) skip (place ∷ [])) → 0 < length part → skip + length part ≤ b.sup.block_size → IsUnknown (state_after t0 sp.history).known id at (length part)
    → (new : Books) (told' : Option State) (clock' : ℕ) (since : ℕ → List ℕ → Type 0) (result : Result Unit E)
    → (HasCore t0 adopted sp b told clock past → MayWrite t0 sp b told place skip (length part) → HasCore t0 adopted sp new told' clock' since × TellsBut place b new told told')
    → ReadsBut (layout_of b.sup).sectors place told told' → ((st : State) → told' ≡ Some st → OnOk result (IsPartOf (contents_of st (layout_of b.sup).sectors place) skip part))
    → HasCore t0 adopted sp new told' clock' since
    × ((next : State) → told' ≡ Some next → IsHeldPiece t0 sp (newest_map new next) id at (length part) skip (place ∷ []) × OnOk result (IsPieceOf (contents_of next (layout_of b.sup).sectors) b.sup.block_size (place ∷ []) skip part))
block_written {E = E} t0 adopted sp b told clock past core id at skip place part held some inside unknown new told' clock' since result writes reads bytes =
    let r = (layout_of b.sup).sectors in
    let size = b.sup.block_size in
    let so : IsAt size skip (length part) 0 skip 0 = at_start size skip (length part) (omega (arith, some, inside)) in
    let whole : 0 + length part ≤ length part = omega arith in
    let got = step_written t0 adopted sp b told clock past core r size id at (length part) skip (place ∷ []) [] refl (λ st is. (held st is, piece_none (contents_of st r) size (place ∷ []) skip part)) 0 skip 0 so some refl b.sup refl refl new told' clock' since (length part) part refl whole unknown writes reads in (
      got.0,
      λ next is. ((got.1 next is).0, by_result next result (bytes next is)),
    )
  where
    by_result : (next : State) (r : Result Unit E) → OnOk r (IsPartOf (contents_of next (layout_of b.sup).sectors place) skip part) → OnOk r (IsPieceOf (contents_of next (layout_of b.sup).sectors) b.sup.block_size (place ∷ []) skip part)
    by_result next (Err e) given = tt
    by_result next (Ok done) given =
        let e : skip + 0 ≡ b.sup.block_size * 0 + skip = omega arith in
        piece_more (contents_of next (layout_of b.sup).sectors) b.sup.block_size (place ∷ []) skip 0 skip [] part (piece_none (contents_of next (layout_of b.sup).sectors) b.sup.block_size (place ∷ []) skip []) e inside given
