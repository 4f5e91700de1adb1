-- Pieces that are held stay as they are where the piece of another session is written, and where one is read.
use Rattle.std.proofs.Common.{◌≡◌, ◌≢◌, ⊎_elim, ◌<◌, ◌+◌, ◌/◌, ◌∙◌, ℕ, List, [], length, true, Option, Some, refl, sym, ap, subst}
use Rattle.std.specs.Prelude.{slice_index, unwrap_or}
use Rattle.std.proofs.lemmas.Bool.{cases_lt}
use Rattle.std.proofs.lemmas.Option.{get_or_from_slice_get, slice_get_within}
use Rattle.bfs_base.specs.Lists.{times}
use Rattle.bfs_disk.specs.State.{State}
use Rattle.bfs_txn.specs.Changed.{newest, or_else}
use Rattle.bfs_tree.specs.Histories.{after, state_after}
use Rattle.bfs_tree.specs.declared.state.Hold.{Hold}
use Rattle.bfs_sound.specs.Inodes.{stream_blocks}
use Rattle.bfs_device.specs.Ahead.{IsSteady}
use Rattle.bfs_device.specs.Books.{Books}
use Rattle.bfs_device.specs.Data.{IsRested}
use Rattle.bfs_device.specs.Layouts.{layout_of}
use Rattle.bfs_core.specs.Cores.{newest_map}
use Rattle.bfs_core.specs.Spaces.{IsFaceData, IsFaceMetadata, face, face_over}
use Rattle.bfs_core.proofs.Files.{stream_stays}
use Rattle.bfs_core.proofs.Knowing.{file_data_of}
use Rattle.bfs_commit.specs.Books.{SpaceBooks}
use Rattle.bfs_commit.specs.Holds.{held_by, holds_after}
use Rattle.bfs_commit.proofs.Held.{held_is_after}
use Rattle.bfs_pieces.specs.Parts.{KeepsOthers}
use Rattle.bfs_pieces.proofs.Once.{same_file}
use Rattle.bfs_commit.specs.Held.{HasPlaces}
use Rattle.bfs_commit.specs.Holding.{IsOneOf, IsOnFile}
use Rattle.bfs_commit.specs.Open.{IsOpen, OpenView, told_block}
use Rattle.bfs_commit.specs.Volumes.{AreJoined, Stands}
use Rattle.bfs_commit.proofs.Asked.{same_told}
use Rattle.bfs_commit.proofs.Holding.{holds_are_on_files, writers_are_alone}
use Rattle.bfs_commit.proofs.Opens.{WasTold, get_behind, open_over}
use Rattle.bfs_file_io.proofs.Written.{map_same, times_none}

-- ---- the blocks of two pieces

module _ (sp : SpaceBooks) (b : Books) (st : State) (s : Stands sp b st) where
  among : (h : Hold) → IsOneOf h (held_by sp.view.history) → IsOneOf h (holds_after s.t0 sp.view.history)
  among h held = subst (IsOneOf h) (sym (held_is_after s.t0 sp.view.history)) held

  on_file : (h : Hold) → IsOneOf h (held_by sp.view.history) → IsOnFile (state_after s.t0 sp.view.history) h
  on_file h held = holds_are_on_files s.t0 sp.view.history h s.core.space.legal (among h held)

  -- each block of a piece is file data
  data_at : (h : Hold) → IsOneOf h (held_by sp.view.history) → (at count : ℕ) (places : List ℕ) → HasPlaces sp.view b (Some st) h.id at count places → (i : ℕ) → i < length places → IsFaceData s.t0 sp.view (newest_map b st) (slice_index places i)
  data_at h held at count places has i lt =
      let on = on_file h held in
      file_data_of s.t0 sp.view b s.touched st h.id on.node (at / sp.view.sup.block_size + i) (slice_index places i) s.core on.there on.file (has.are st refl i lt)

  module _ (h : Hold) (held : IsOneOf h (held_by sp.view.history)) (writes : h.write ≡ true) (at count : ℕ) (places : List ℕ) (has : HasPlaces sp.view b (Some st) h.id at count places) where
    -- what is metadata is no block of the piece
    no_data : (k : ℕ) → IsFaceMetadata s.t0 sp.view (newest_map b st) k → times k places ≡ 0
    no_data k meta = times_none places k (λ j at_j.
        let is : slice_index places j ≡ k = get_or_from_slice_get places j k 0 at_j in
        let file = data_at h held at count places has j (slice_get_within places j k at_j) in
        file.1 (subst (IsFaceMetadata s.t0 sp.view (newest_map b st)) (sym is) meta))

    -- nor is a block of another session's piece, where this one is for writing
    no_other : (g : Hold) → IsOneOf g (held_by sp.view.history) → g.session ≢ h.session → (from n : ℕ) (blocks : List ℕ) → HasPlaces sp.view b (Some st) g.id from n blocks → (i : ℕ) → i < length blocks → times (slice_index blocks i) places ≡ 0
    no_other g kept other from n blocks there i lt = times_none places (slice_index blocks i) (λ j at_j.
        let is : slice_index places j ≡ slice_index blocks i = get_or_from_slice_get places j (slice_index blocks i) 0 at_j in
        let on = on_file h held in
        let also = on_file g kept in
        let here = has.are st refl j (slice_get_within places j (slice_index blocks i) at_j) in
        let one : g.id ≡ h.id = same_file (face sp.view (newest_map b st)) (after s.t0 sp.view.history) s.core.space.sound.nodes.once g.id h.id also.node on.node (from / sp.view.sup.block_size + i) (at / sp.view.sup.block_size + j) (slice_index blocks i)
        also.there also.file on.there on.file (there.are st refl i lt) (here ∙ ap (λ (k : ℕ). Some k) is) in
        writers_are_alone s.t0 sp.view.history h g s.core.space.legal (among h held) (among g kept) other writes one)

-- ---- a piece that is written

module _ (sp : SpaceBooks) (b new : Books) (told told' : Option State) (joined : AreJoined sp b told) (h : Hold) (held : IsOneOf h (held_by sp.view.history)) (writes : h.write ≡ true) (at count : ℕ) (places : List ℕ)
    (has : HasPlaces sp.view b told h.id at count places) (rest : new ≡ record b { moment = new.moment; stop = new.stop }) (steady : IsSteady b) (others : KeepsOthers (layout_of b.sup).sectors places told told') where
  map_else : (next : State) → (is : told' ≡ Some next) → (k : ℕ) → times k places ≡ 0 → newest_map new next k ≡ newest_map b (others next is).0 k
  map_else next is k none =
      let o = others next is in
      let later : IsSteady (record b { moment = new.moment; stop = new.stop }) = record { valid = steady.valid; empty = steady.empty; follow = steady.follow; phase = steady.phase } in
      subst (λ (x : Books). newest_map x next k ≡ newest_map b o.0 k) (sym rest) (map_same b new.moment new.stop o.0 next steady later k (o.2 k none))

  module _ (q : OpenView) (other : q.hold.session ≢ h.session) (o : IsOpen q sp.view b told) where
    else_told : (next : State) → told' ≡ Some next → WasTold q sp.view sp.view b new told next
    else_told next is =
        let was = others next is in
        let st = was.0 in
        let s = joined.stands st was.1 in
        let here : HasPlaces sp.view b (Some st) h.id at count places = subst (λ (x : Option State). HasPlaces sp.view b x h.id at count places) was.1 has in
        let there : HasPlaces sp.view b (Some st) q.hold.id q.hold.at q.hold.length q.places = subst (λ (x : Option State). HasPlaces sp.view b x q.hold.id q.hold.at q.hold.length q.places) was.1 o.has in
        let on = on_file sp b st s q.hold o.held in (
          st,
          was.1,
          record {
            stream = stream_stays (face sp.view (newest_map b st)) (face_over sp.view.group (newest_map new next)) (after s.t0 sp.view.history) s.core.space.sound
                (λ k meta fixed. ap (λ (m : Option (List ℕ)). unwrap_or (or_else (newest sp.view.group k) m) []) (map_else next is k (no_data sp b st s h held writes at count places here k meta))) q.hold.id on.node on.there on.file;
            blocks = λ i. ⊎_elim
                (λ lt. ap (λ (m : Option (List ℕ)). unwrap_or m []) (map_else next is (slice_index q.places i) (no_other sp b st s h held writes at count places here q.hold o.held other q.hold.at q.hold.length q.places there i lt)))
                (λ le. subst (λ (k : ℕ). told_block new next k ≡ told_block b st k) (sym (get_behind q.places i le)) (let e : told_block new next 0 ≡ told_block b st 0 = refl in e))
                (cases_lt i (length q.places));
          },
        )

    pub open_written : IsOpen q sp.view new told'
    open_written = open_over q sp.view sp.view b new told told' o.held refl (ap (λ (x : Books). layout_of x.sup) rest) else_told o

-- ---- a read

pub open_rested : (q : OpenView) (sp : SpaceBooks) (b new : Books) (told told' : Option State) → IsRested b new → told' ≡ told → IsOpen q sp.view b told → IsOpen q sp.view new told'
open_rested q sp b new told told' rests same o = open_over q sp.view sp.view b new told told' o.held refl (ap (λ (x : Books). layout_of x.sup) rests)
    (λ st is. (
      st,
      sym same ∙ is,
      record {
        stream = ap (λ (m : ℕ → Option (List ℕ)). stream_blocks (face sp.view m) q.hold.id) (same_told b new st rests);
        blocks = λ i. ap (λ (m : ℕ → Option (List ℕ)). unwrap_or (m (slice_index q.places i)) []) (same_told b new st rests);
      },
    )) o
