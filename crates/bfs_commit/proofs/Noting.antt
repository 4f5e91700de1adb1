-- Entries of a volume: what may follow, and what the device knows of them.
use Rattle.std.proofs.Common.{◌≡◌, inl, ◌≢◌, ◌≤◌, ◌+◌, ◌++◌, ℕ, ℤ, List, [], ◌∷◌, length, Bool, true, false, cond, ◌==◌, Option, None, refl, sym, ◌∙◌, ap, subst, arith}
use Rattle.std.specs.Prelude.{IsTrue}
use Rattle.bfs_count.specs.Counts.{nodes_of}
use Rattle.std.specs.List.{list_any}
use Rattle.std.proofs.lemmas.Bool.{true≢false}
use Rattle.std.proofs.lemmas.Grind.{fold-append}
use Rattle.bfs_tree.specs.declared.call.Call.{Call}
use Rattle.bfs_tree.specs.declared.call.Call.TheVariants as calls
use Rattle.bfs_tree.specs.declared.reply.Reply.{Reply}
use Rattle.bfs_tree.specs.declared.reply.Reply.TheVariants as replies
use Rattle.bfs_tree.specs.declared.reply.Entry.{Entry}
use Rattle.bfs_tree.specs.Histories.{Mounted, Follows, Legal, after, state_after, start, is_stop, is_stopped, last_place_from}
use Rattle.bfs_tree.specs.States.{State}
use Rattle.bfs_tree.specs.Steps.{ByTree, Turn, next, is_by_disk, is_for_room}
use Rattle.bfs_tree.proofs.Stamps.{drawn-later}
use Rattle.bfs_disk.specs.State as disks
use Rattle.bfs_disk.specs.Blocks.{contents_of}
use Rattle.bfs_device.specs.Layouts.{layout_of}
use Rattle.bfs_device.specs.Books.{Books}
use Rattle.bfs_core.specs.Spaces.{SpaceView, Entered, IsSoundOver, face, noted}
use Rattle.bfs_core.specs.Caused.{IsWanting}
use Rattle.bfs_core.specs.Chains.{IsLinked}
use Rattle.bfs_sound.specs.Volumes.{Volume}
use Rattle.bfs_tree.specs.Trees.{Tree}
use Rattle.bfs_core.specs.Cores.{IsKnown, newest_map}
use Rattle.bfs_core.specs.KnownBytes.{KeepsFiles}
use Rattle.bfs_core.proofs.Knowing.{known_entered}
use Rattle.bfs_core.proofs.Notes.{note_entered}
use Rattle.bfs_core.proofs.Onward.{core_entered}
use Rattle.bfs_space.specs.Books.{SpaceBooks, entry_noted, with_note}
use Rattle.bfs_space.specs.FileLaws.{AreThere, NoteKeepsFiles}
use Rattle.bfs_space.specs.Files.{lets_go}
use Rattle.bfs_space.proofs.Following.{follows, tree_after, tree_unsynced}
use Rattle.bfs_commit.specs.Volumes.{AreFitted, AreJoined}
use Rattle.bfs_commit.specs.Entries.{IsToldBy}
use Rattle.bfs_commit.proofs.Joined.{going_more, waits_more}

-- ---- a call is not answered by a number of durable entries

pub turn_unsynced : (session : ℕ) (stamp : ℤ) (call : Call) (reply : Reply) (s t : State) → call ≢ calls.Sync → Turn session stamp call reply s t → (upto : ℕ) → reply ≡ replies.Synced upto → ⊥
turn_unsynced session stamp call reply s t other (Turn.by_tree tree) upto is = tree_unsynced session stamp call reply s t other tree upto is
turn_unsynced session stamp call reply s t other (Turn.by_disk disk same) upto is = let bad : false ≡ true = subst (λ (r : Reply). IsTrue (is_by_disk r)) is disk in true≢false (sym bad)
turn_unsynced session stamp call reply s t other (Turn.no_room none changes room same) upto is = let bad : false ≡ true = subst (λ (r : Reply). IsTrue (is_for_room r)) is room in true≢false (sym bad)

-- ---- a sync's entry

last_low : (session at found : ℕ) (es : List Entry) → found ≤ at → last_place_from session at found es ≤ at + length es
last_low session at found [] le = omega (arith, le)
last_low session at found (e ∷ es) le = let more = last_low session (at + 1) (cond (e.session == session) (at + 1) found) es (either (e.session == session)) in omega (arith, more)
  where
    either : (d : Bool) → cond d (at + 1) found ≤ at + 1
    either true = omega arith
    either false = omega (arith, le)

same_upto : (a b : ℕ) → replies.Synced a ≡ replies.Synced b → a ≡ b
same_upto a b is = cc

module _ (t0 : Mounted) (sp : SpaceBooks) (session tag now upto : ℕ) (other : session ≢ 0) (legal : Legal t0 sp.view.history) (all : upto ≡ length sp.view.history) (quiet : list_any (λ (e : Entry). is_stop e.reply) sp.view.history ≡ false) where
  abbrev synced : Entry
  synced = entry_noted sp session tag now calls.Sync (replies.Synced upto)

  sync_follows : Follows t0 sp.view.history synced
  sync_follows = record {
    step = Turn.by_tree (ByTree.answered refl (upto, refl) refl);
    later = drawn-later t0 sp.view.history now legal;
    service = λ zero. absurd (other zero);
    durable = λ u same. (let e = same_upto upto u same in let le = last_low session 0 0 sp.view.history (omega arith) in (omega (arith, e, all, le), omega (arith, e, all)));
    stopped = λ any needs. absurd (true≢false (sym (as_true any) ∙ quiet));
  }
    where
      as_true : IsTrue (list_any (λ (e : Entry). is_stop e.reply) sp.view.history) → list_any (λ (e : Entry). is_stop e.reply) sp.view.history ≡ true
      as_true t = t

  sync_tree : after t0 (sp.view.history ++ synced ∷ []) ≡ after t0 sp.view.history
  sync_tree = ap (λ (s : State). s.tree) (fold-append next (start t0) sp.view.history (synced ∷ []))

-- ---- what the device tells of an entry

module _ (t0 : Mounted) (sp : SpaceBooks) (b : Books) (session tag now : ℕ) (call : Call) (other : session ≢ 0) (legal : Legal t0 sp.view.history) (going : b.stop ≡ None → list_any (λ (e : Entry). is_stop e.reply) sp.view.history ≡ false) where
  by_disk : (reply : Reply) → IsTrue (is_by_disk reply) → ((upto : ℕ) → reply ≡ replies.Synced upto → ⊥) → (list_any (λ (e : Entry). is_stop e.reply) sp.view.history ≡ true → is_stopped reply ≡ true)
      → Follows t0 sp.view.history (entry_noted sp session tag now call reply) × (after t0 (sp.view.history ++ entry_noted sp session tag now call reply ∷ []) ≡ after t0 sp.view.history)
  by_disk reply disk unsynced quiet = (
    follows t0 sp.view.history session tag now call reply (state_after t0 sp.view.history) other legal (Turn.by_disk disk refl) unsynced quiet,
    tree_after t0 sp.view.history session tag now call reply (state_after t0 sp.view.history) other legal (Turn.by_disk disk refl) unsynced quiet,
  )

  pub told_follows : (reply : Reply) → IsToldBy b sp.view.history call reply
      → Follows t0 sp.view.history (entry_noted sp session tag now call reply) × (after t0 (sp.view.history ++ entry_noted sp session tag now call reply ∷ []) ≡ after t0 sp.view.history)
  told_follows (replies.Synced upto) told = subst (λ (c : Call). Follows t0 sp.view.history (entry_noted sp session tag now c (replies.Synced upto)) × (after t0 (sp.view.history ++ entry_noted sp session tag now c (replies.Synced upto) ∷ []) ≡ after t0 sp.view.history)) (sym told.0)
      (sync_follows t0 sp session tag now upto other legal told.1 (going told.3), sync_tree t0 sp session tag now upto other legal told.1 (going told.3))
  told_follows (replies.DiskFault before after stops) told = by_disk (replies.DiskFault before after stops) refl (λ upto bad. cc) (λ any. absurd (true≢false (sym any ∙ told.0)))
  told_follows (replies.Stopped durable faults) told = by_disk (replies.Stopped durable faults) refl (λ upto bad. cc) (λ any. refl)
  told_follows _ told = absurd told

pub told_is_known : (sp : SpaceBooks) (b : Books) (session tag now : ℕ) (call : Call) (reply : Reply) → IsToldBy b sp.view.history call reply → IsKnown b (entry_noted sp session tag now call reply)
told_is_known sp b session tag now call (replies.Synced upto) told = ((λ u same. let e = same_upto upto u same in let low = told.2 in omega (arith, e, low)), λ none. refl)
told_is_known sp b session tag now call (replies.DiskFault before after stops) told = ((λ u bad. absurd cc), λ none. absurd (told.1 none))
told_is_known sp b session tag now call (replies.Stopped durable faults) told = ((λ u bad. absurd cc), λ none. refl)
told_is_known sp b session tag now call _ told = absurd told

pub told_entered : (t0 : Mounted) (sp : SpaceBooks) (b : Books) (m : ℕ → Option (List ℕ)) (session tag now : ℕ) (call : Call) (reply : Reply) → session ≢ 0 → AreFitted sp.view b → IsToldBy b sp.view.history call reply → IsSoundOver t0 sp.view m
    → Entered t0 sp.view (noted sp.view (entry_noted sp session tag now call reply)) m (entry_noted sp session tag now call reply) × IsKnown b (entry_noted sp session tag now call reply)
told_entered t0 sp b m session tag now call reply other fitted told sound =
    let f = told_follows t0 sp b session tag now call other sound.legal fitted.going reply told in
    (note_entered t0 sp.view m (entry_noted sp session tag now call reply) sound f.0 f.1, told_is_known sp b session tag now call reply told)

-- and it keeps the files
pub told_keeps : NoteKeepsFiles → (t0 : Mounted) (sp : SpaceBooks) (b : Books) (m : ℕ → Option (List ℕ)) (session tag now : ℕ) (call : Call) (reply : Reply) (contents : ℕ → List ℕ) → session ≢ 0 → AreFitted sp.view b → IsToldBy b sp.view.history call reply → lets_go call ≡ false
    → IsSoundOver t0 sp.view m → AreThere t0 sp.view m contents → KeepsFiles t0 sp.view (noted sp.view (entry_noted sp session tag now call reply)) m contents
told_keeps law t0 sp b m session tag now call reply contents other fitted told goes sound there =
    let f = told_follows t0 sp b session tag now call other sound.legal fitted.going reply told in
    law t0 sp.view m (entry_noted sp session tag now call reply) contents f.0 goes f.1 there

-- a note keeps the two joined
pub joined_noted : NoteKeepsFiles → (sp space : SpaceBooks) (b : Books) (told : Option disks.State) (session tag now durable : ℕ) (call : Call) (reply : Reply) → session ≢ 0 → lets_go call ≡ false → IsToldBy b sp.view.history call reply → space ≡ with_note sp session (entry_noted sp session tag now call reply) durable
    → AreJoined sp b told → AreJoined space b told
joined_noted law sp space b told session tag now durable call reply other goes tells is joined = subst (λ (x : SpaceBooks). AreJoined x b told) (sym is) (record {
  fitted = record {
    geometry = joined.fitted.geometry;
    sealed = joined.fitted.sealed;
    sealed_used = joined.fitted.sealed_used;
    idle = joined.fitted.idle;
    reached = joined.fitted.reached;
    going = λ none. going_more sp.view.history (entry_noted sp session tag now call reply) ((told_is_known sp b session tag now call reply tells).1 none) (joined.fitted.going none);
    waits = waits_more sp.view (noted sp.view (entry_noted sp session tag now call reply)) (entry_noted sp session tag now call reply) refl refl joined.fitted.waits;
  };
  stands = λ st told_st.
      let s = joined.stands st told_st in
      let e = told_entered s.t0 sp b (newest_map b st) session tag now call reply other joined.fitted tells s.core.space in
      let keeps = told_keeps law s.t0 sp b (newest_map b st) session tag now call reply (contents_of st (layout_of b.sup).sectors) other joined.fitted tells goes s.core.space s.known in
      record {
        t0 = s.t0;
        touched = s.touched;
        core = core_entered s.t0 sp.view (noted sp.view (entry_noted sp session tag now call reply)) b s.touched st (entry_noted sp session tag now call reply) s.core e.0 e.1;
        known = known_entered s.t0 sp.view (noted sp.view (entry_noted sp session tag now call reply)) b st (entry_noted sp session tag now call reply) e.0 keeps s.known;
        fits = s.fits;
        counted = s.counted ∙ sym (ap nodes_of ((told_follows s.t0 sp b session tag now call other s.core.space.legal joined.fitted.going reply tells).1));
      };
})

-- ---- an entry that changes no block is caused

pub noted_linked : (t0 : Mounted) (sp : SpaceView) (m : ℕ → Option (List ℕ)) (e : Entry) → ((v : Volume) (tree : Tree) → IsWanting v tree e.call e.reply) → IsLinked t0 sp (noted sp e) m e
noted_linked t0 sp m e wants = record {
  caused = record {
    changed = [];
    few = omega arith;
    are = λ k is other. absurd (other refl);
    used = omega arith;
    unchanged = λ refused. record { blocks = λ k is. refl; used = refl };
    why = wants (face sp m) (after t0 sp.history);
  };
  places = λ k some. inl some;
}

-- and so is one whose reply the device tells
pub told_wants : (b : Books) (history : List Entry) (call : Call) (reply : Reply) → IsToldBy b history call reply → (v : Volume) (tree : Tree) → IsWanting v tree call reply
told_wants b history call (replies.Synced upto) told v tree = tt
told_wants b history call (replies.DiskFault before later stops) told v tree = tt
told_wants b history call (replies.Stopped durable faults) told v tree = tt
told_wants b history call _ told v tree = absurd told
