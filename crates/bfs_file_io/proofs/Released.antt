-- The entry of a release: what it may say of a piece that was read or written, and what it leaves.
use Rattle.std.proofs.Common.{◌≡◌, ◌≢◌, ◌<◌, ◌+◌, ◌++◌, ⊎_elim, inl, inr, ℕ, ℤ, List, [], ◌∷◌, length, Bool, true, false, Option, Some, refl, sym, ◌∙◌, subst}
use Rattle.std.specs.Prelude.{IsTrue, slice_index}
use Rattle.bfs_commit.proofs.Counting.{counted_on}
use Rattle.std.proofs.lemmas.Bool.{true≢false}
use Rattle.std.proofs.lemmas.Option.{get_or_from_slice_get, slice_get_within}
use Rattle.bfs_disk.specs.State as disks
use Rattle.bfs_disk.specs.Blocks.{contents_of}
use Rattle.bfs_tree.specs.declared.call.Call.TheVariants as calls
use Rattle.bfs_tree.specs.declared.reply.Reply.TheVariants as replies
use Rattle.bfs_tree.specs.declared.reply.Entry.{Entry}
use Rattle.bfs_tree.specs.Answers.{Ends}
use Rattle.bfs_tree.specs.Histories.{Mounted, Follows, IsFilePlace, after, drawn, last_stamp, state_after}
use Rattle.bfs_tree.specs.Trees.{Tree}
use Rattle.bfs_tree.proofs.Stamps.{drawn-later}
use Rattle.bfs_device.specs.Layouts.{layout_of}
use Rattle.bfs_device.specs.Books.{Books}
use Rattle.bfs_core.specs.Spaces.{Entered, IsSoundOver, SpaceView, face, noted}
use Rattle.bfs_core.specs.Cores.{Core, IsKnown, newest_map}
use Rattle.bfs_core.specs.KnownBytes.{HasByte, HasKnown, KeepsFiles}
use Rattle.bfs_core.specs.Moments.{Adoption}
use Rattle.bfs_core.proofs.Knowing.{known_entered}
use Rattle.bfs_core.proofs.Notes.{note_entered}
use Rattle.bfs_core.proofs.Onward.{core_entered}
use Rattle.bfs_device_blocks.specs.Lent.{AreSized, HasCore}
use Rattle.bfs_commit.proofs.Noting.{noted_linked}
use Rattle.bfs_device_blocks.proofs.Holding.{hold_entered}
use Rattle.bfs_commit.specs.Books.{SpaceBooks, entry_noted, with_note}
use Rattle.bfs_commit.specs.Held.{IsOnDisk}
use Rattle.bfs_commit.specs.Holding.{HasHeld}
use Rattle.bfs_commit.specs.Volumes.{AreJoined}
use Rattle.bfs_commit.proofs.Joined.{going_more, waits_more}
use Rattle.bfs_file_io.proofs.Pieced.{byte_there, one_byte}
use Rattle.bfs_file_io.proofs.Lasting.{release_known, release_step, release_tree, taken_file}
use Rattle.bfs_commit.proofs.Taken.{IsHeldFile, hold_as}

-- Core and known bytes that are held, of what the disk tells
pub held_at : (t0 : Mounted) (adopted : Adoption) (sp : SpaceView) (b : Books) (told : Option disks.State) (clock : ℕ) (since : ℕ → List ℕ → Type 0) → HasCore t0 adopted sp b told clock since → (st : disks.State) → told ≡ Some st → (t : ℕ → Bool) × Core t0 sp b t st × HasKnown t0 sp b st
held_at t0 adopted sp b told clock since core st is =
    let e : Some core.0.0 ≡ Some st = sym core.0.1 ∙ is in
    let same : core.0.0 ≡ st = cc in
    subst (λ (x : disks.State). (t : ℕ → Bool) × Core t0 sp b t x × HasKnown t0 sp b x) same core.0.2

module _ (sp : SpaceBooks) (b : Books) (told : Option disks.State) (session tag now id at count : ℕ) (w : Bool) (bytes : List ℕ) (whole : Bool) (from upto : ℕ) (other : session ≢ 0) (held : HasHeld sp.view.history session id at count w)
    (many : whole ≡ true → length bytes ≡ count) (on : whole ≡ true → IsOnDisk sp.view b told id at bytes) (some : 0 < sp.view.sup.block_size) where
  abbrev entry : Entry
  entry = entry_noted sp session tag now (calls.Release id bytes whole from upto) replies.Done

  abbrev stamp : ℤ
  stamp = drawn (last_stamp sp.view.history) now

  is_known : IsKnown b entry
  is_known = ((λ upto same. absurd (let bad : replies.Done ≡ replies.Synced upto = same in cc)), λ none. refl)

  module _ (t0 : Mounted) (st : disks.State) (is : told ≡ Some st) (sound : IsSoundOver t0 sp.view (newest_map b st)) (known : HasKnown t0 sp.view b st) where
    abbrev history : List Entry
    history = sp.view.history

    abbrev contents : ℕ → List ℕ
    contents = contents_of st (layout_of b.sup).sectors

    file : IsHeldFile (after t0 history).nodes id at count
    file = taken_file t0 history session id at count w held sound.legal

    file_of : whole ≡ true → IsHeldFile (after t0 history).nodes id at (length bytes)
    file_of all = subst (λ (n : ℕ). IsHeldFile (after t0 history).nodes id at n) (sym (many all)) file

    fits : IsTrue whole → Ends (state_after t0 history) (hold_as session id at count w) bytes
    fits all = record {
      many = many all;
      read = λ reading k byte lt known_is.
          one_byte (face sp.view (newest_map b st)) (after t0 history) contents id (at + k) (slice_index bytes k) byte
          (byte_there sp.view b told id at bytes (on all) some st is (after t0 history) (file_of all) k lt) (known id (at + k) byte known_is);
    }

    same_tree : after t0 (history ++ entry ∷ []) ≡ after t0 history
    same_tree = release_tree t0 history session id at count w held sound.legal tag stamp bytes whole from upto

    follows : Follows t0 history entry
    follows = record {
      step = release_step t0 history session id at count w held sound.legal tag stamp bytes whole from upto fits;
      later = drawn-later t0 history now sound.legal;
      service = λ zero. absurd (other zero);
      durable = λ u same. absurd (let bad : replies.Done ≡ replies.Synced u = same in cc);
      stopped = λ any needs. absurd (true≢false (sym (let bad : false ≡ true = needs in bad)));
    }

    entered : Entered t0 sp.view (noted sp.view entry) (newest_map b st) entry
    entered = note_entered t0 sp.view (newest_map b st) entry sound follows same_tree

    file_since : whole ≡ true → IsHeldFile (after t0 (history ++ entry ∷ [])).nodes id at (length bytes)
    file_since all = subst (λ (tree : Tree). IsHeldFile tree.nodes id at (length bytes)) (sym same_tree) (file_of all)

    keeps : KeepsFiles t0 sp.view (noted sp.view entry) (newest_map b st) contents
    keeps other_id place byte now_is = ⊎_elim
        (λ before. inl (before, record { file = subst (λ (tree : Tree). IsFilePlace tree other_id place) (sym same_tree) (known other_id place byte before).file; block = refl }))
        (λ new.
        let low = slice_get_within bytes new.1.k byte new.1.is in
        let e = get_or_from_slice_get bytes new.1.k byte 0 new.1.is in
        let has = byte_there sp.view b told id at bytes (on new.0) some st is (after t0 (history ++ entry ∷ [])) (file_since new.0) new.1.k low in
        inr (
          subst (λ (q : ℕ × ℕ). HasByte (face sp.view (newest_map b st)) (after t0 (history ++ entry ∷ [])) contents q.0 q.1 byte) (sym new.1.place)
              (subst (λ (x : ℕ). HasByte (face sp.view (newest_map b st)) (after t0 (history ++ entry ∷ [])) contents id (at + new.1.k) x) e has),
          refl,
        ))
        (release_known t0 history session id at count w held sound.legal tag stamp bytes whole from upto (other_id, place) byte now_is)

  -- the two stay joined
  pub joined_released : (space : SpaceBooks) (durable : ℕ) → space ≡ with_note sp session entry durable → AreJoined sp b told → AreJoined space b told
  joined_released space durable same joined = subst (λ (x : SpaceBooks). AreJoined x b told) (sym same) (record {
    fitted = record {
      geometry = joined.fitted.geometry;
      sealed = joined.fitted.sealed;
      sealed_used = joined.fitted.sealed_used;
      idle = joined.fitted.idle;
      reached = joined.fitted.reached;
      going = λ none. going_more sp.view.history entry refl (joined.fitted.going none);
      waits = waits_more sp.view (noted sp.view entry) entry refl refl joined.fitted.waits;
    };
    stands = λ st is.
        let s = joined.stands st is in
        record {
          t0 = s.t0;
          touched = s.touched;
          core = core_entered s.t0 sp.view (noted sp.view entry) b s.touched st entry s.core (entered s.t0 st is s.core.space s.known) is_known;
          known = known_entered s.t0 sp.view (noted sp.view entry) b st entry (entered s.t0 st is s.core.space s.known) (keeps s.t0 st is s.core.space s.known) s.known;
          fits = s.fits;
          counted = counted_on s.t0 sp.view.history (noted sp.view entry).history entry sp.nodes false refl (entered s.t0 st is s.core.space s.known).follows s.counted (λ done state same fine. refl);
        };
  })

  -- and Core is held
  pub core_released : (space : SpaceBooks) (durable : ℕ) → space ≡ with_note sp session entry durable → (t0 : Mounted) (adopted : Adoption) (clock : ℕ) (since : ℕ → List ℕ → Type 0) → AreSized b told → HasCore t0 adopted sp.view b told clock since → HasCore t0 adopted space.view b told clock since
  core_released space durable same t0 adopted clock since sized core = subst (λ (x : SpaceBooks). HasCore t0 adopted x.view b told clock since) (sym same)
      (hold_entered t0 adopted sp.view b told clock since (noted sp.view entry) entry
      (λ st is. (let at_it = held_at t0 adopted sp.view b told clock since core st is in entered t0 st is at_it.1.space at_it.2))
      is_known
      (λ st is. (let at_it = held_at t0 adopted sp.view b told clock since core st is in keeps t0 st is at_it.1.space at_it.2)) sized (λ st is. noted_linked t0 sp.view (newest_map b st) entry (λ v tree. tt)) core)
