-- A call that a space has answered is entered.
use Rattle.std.proofs.Common.{◌≡◌, ◌≢◌, ◌≤◌, ◌<◌, inl, inr, ⊎_elim, ℕ, true, List, [], ◌∷◌, ◌++◌, length, Option, unwrap_or, refl, sym, ap, ◌∙◌, subst, arith}
use Rattle.std.specs.List.{list_any}
use Rattle.bfs_super.specs.Geometry.{geometry_of}
use Rattle.bfs_bitmap.specs.Runs.{Room, Fits}
use Rattle.bfs_txn.specs.Changed.{newest, over, AreOfSize}
use Rattle.bfs_stream.specs.Sizes.{sizes_of}
use Rattle.bfs_stream.specs.Grown.{IsOfVolume}
use Rattle.bfs_device.specs.declared.journal.Stop.{Stop}
use Rattle.bfs_tree.specs.declared.call.Call.{Call}
use Rattle.bfs_tree.specs.declared.call.Call.TheVariants as calls
use Rattle.bfs_tree.specs.declared.reply.Reply.{Reply}
use Rattle.bfs_tree.specs.declared.reply.Reply.TheVariants as replies
use Rattle.bfs_tree.specs.declared.reply.Entry.{Entry}
use Rattle.bfs_tree.specs.Histories.{Mounted, Follows, after, state_after, is_stop, is_stopped}
use Rattle.bfs_tree.specs.States.{State}
use Rattle.bfs_tree.specs.Steps.{ByTree, Turn}
use Rattle.bfs_tree.specs.Trees.{Tree}
use Rattle.bfs_shift.specs.Laws.{lists_of}
use Rattle.bfs_look.specs.Ready.{IsReady}
use Rattle.bfs_core.specs.Caused.{IsCausedBy}
use Rattle.bfs_core.specs.Chains.{IsLinked}
use Rattle.bfs_core.proofs.Masks.{data_when}
use Rattle.bfs_core.specs.Spaces.{SpaceView, Entered, HasSet, IsSoundOver, face, noted}
use Rattle.bfs_replies.specs.Kept.{IsKept, IsWithin}
use Rattle.bfs_replies.specs.Books.{SpaceBooks, IsIdle, entry_noted}
use Rattle.bfs_replies.specs.Called.{IsCalled, IsFaceTold, is_changed, with_entry}
use Rattle.bfs_space.specs.Faces.{IsFaceOf, HasEntered}
use Rattle.bfs_replies.specs.Files.{KeepsBlocks}
use Rattle.bfs_space.specs.Holds.{holds_after}
use Rattle.bfs_replies.proofs.Called.{face_is_ready, call_entered, call_set, call_told, is_there, some_is}
use Rattle.bfs_space.proofs.Linking.{outside_wants, own_wants, same_logged, same_need}
use Rattle.bfs_space.proofs.Following.{follows, tree_after, tree_unsynced}
use Rattle.bfs_replies.proofs.Turned.{outside_for, outside_turn, outside_unsynced}
use Rattle.bfs_core.proofs.Notes.{note_entered, note_set}
use Rattle.bfs_device.specs.Phases.{none}
use Rattle.bfs_sound.specs.Need.{logged_need, need}
use Rattle.bfs_shift.specs.Shifts.{volume_in}
use Rattle.bfs_replies.specs.Replies.{IsDoneWithin, IsOutside, IsReplied}

module _ (t0 : Mounted) (old : SpaceBooks) (m : ℕ → Option (List ℕ)) (face_of : IsFaceOf t0 old m) (volume : IsOfVolume (sizes_of old.view.sup) old.room) (some : 0 < old.view.sup.block_size)
    (used : old.room.tally.used ≡ old.view.used) (given : old.room.given ≡ old.view.given) where
  pub ready : IsReady (geometry_of old.view.sup) old.room (over old.view.group m) (after t0 old.view.history) (lists_of (face old.view m) (after t0 old.view.history))
  ready = face_is_ready t0 old.view m face_of.sound some old.room face_of.told volume face_of.fits used given

  module _ (session tag now : ℕ) (call : Call) (reply : Reply) (other : session ≢ 0) (no_sync : call ≢ calls.Sync) (quiet : list_any (λ e. is_stop e.reply) old.view.history ≡ true → is_stopped reply ≡ true) where
    abbrev entry : Entry
    entry = entry_noted old session tag now call reply

    -- a call that was kept
    module _ (new : Room) (group : List (ℕ × List ℕ)) (sized : AreOfSize old.view.sup.block_size group) (done : IsDoneWithin (geometry_of old.view.sup) old.room new m old.view.group group (after t0 old.view.history) (holds_after t0 old.view.history) entry.stamp call reply) where
      abbrev kept : IsKept (geometry_of old.view.sup) old.room new m old.view.group group (after t0 old.view.history) (holds_after t0 old.view.history) entry.stamp call reply
      kept = done.kept

      abbrev since : SpaceView
      since = with_entry old.view kept.room group entry

      turn : (t : State) × (t.tree ≡ kept.after) × ByTree session entry.stamp call reply (state_after t0 old.view.history) t
      turn = kept.by_tree (state_after t0 old.view.history) refl refl session

      unsynced : (upto : ℕ) → reply ≡ replies.Synced upto → ⊥
      unsynced = tree_unsynced session entry.stamp call reply (state_after t0 old.view.history) turn.0 no_sync turn.2

      follow : Follows t0 old.view.history entry
      follow = follows t0 old.view.history session tag now call reply turn.0 other face_of.sound.legal (Turn.by_tree turn.2) unsynced quiet

      tree_is : kept.after ≡ after t0 (old.view.history ++ entry ∷ [])
      tree_is = sym turn.1 ∙ sym (tree_after t0 old.view.history session tag now call reply turn.0 other face_of.sound.legal (Turn.by_tree turn.2) unsynced quiet)

      called : IsCalled (geometry_of old.view.sup) old.room kept.room (over old.view.group m) (over group m) (after t0 old.view.history) (after t0 since.history) (is_changed old.view.group) (is_changed group)
      called = subst (λ (t : Tree). IsCalled (geometry_of old.view.sup) old.room kept.room (over old.view.group m) (over group m) (after t0 old.view.history) t (is_changed old.view.group) (is_changed group)) tree_is kept.called

      entered : Entered t0 old.view since m entry
      entered = call_entered t0 old.view m face_of.sound some old.room kept.room group entry given sized follow called

      -- and is caused between the two volumes
      caused_by : logged_need (volume_in (geometry_of old.view.sup) (over old.view.group m)) (after t0 old.view.history) call ≡ logged_need (face old.view m) (after t0 old.view.history) call → need (volume_in (geometry_of old.view.sup) (over old.view.group m)) (after t0 old.view.history) call ≡ need (face old.view m) (after t0 old.view.history) call
          → IsCausedBy (face old.view m) (face since m) (after t0 old.view.history) (after t0 since.history) call reply
      caused_by logged taken = record {
        changed = done.within.changed;
        few = subst (λ (n : ℕ). length done.within.changed ≤ n) logged done.within.few;
        are = λ k is other. done.within.are k (λ same. other (ap (λ (o : Option (List ℕ)). unwrap_or o []) same));
        used =
            let more = done.within.used in
            let settled : new.tally.used ≡ kept.room.tally.used = ap (λ (x : Room). x.tally.used) kept.kept in
            omega (arith, more, settled, used, taken);
        unchanged = λ refused.
            let none = done.unchanged refused in
            record {
              blocks = λ k is. ap (λ (ps : List (ℕ × List ℕ)). unwrap_or (over ps m k) []) none.0;
              used = (let settled : new.tally.used ≡ kept.room.tally.used = ap (λ (x : Room). x.tally.used) kept.kept in sym settled ∙ none.1 ∙ used);
            };
        why = own_wants old.view.sup old.view.used old.room (over old.view.group m) volume used (after t0 old.view.history) call reply done.own;
      }

      linked : IsLinked t0 old.view since m entry
      linked = record {
        caused = caused_by (sym (same_logged old.view.sup old.view.used (face old.view m).blocks (after t0 old.view.history) call)) (sym (same_need old.view.sup old.view.used (face old.view m).blocks (after t0 old.view.history) call));
        places = λ k some. ⊎_elim
            (λ was. inl (is_there (newest old.view.group k) was))
            (λ now_is. inr (data_when old.view.sup k now_is.0.0 0 now_is.0.1))
            (called.changed k (some_is (newest group k) some));
      }

      blocks : KeepsBlocks (face old.view m) (face since m) (after t0 old.view.history) (after t0 since.history) call
      blocks = subst (λ (t : Tree). KeepsBlocks (volume_in (geometry_of old.view.sup) (over old.view.group m)) (volume_in (geometry_of old.view.sup) (over group m)) (after t0 old.view.history) t call) tree_is kept.blocks

      has_entered : (books : SpaceBooks) → books.view ≡ since → books.room ≡ new → HasEntered t0 old books m session tag now call
      has_entered books view room = record {
        reply = reply;
        set = is_changed group;
        entered = subst (λ (v : SpaceView). Entered t0 old.view v m entry) (sym view) entered;
        has_set = subst (λ (v : SpaceView). HasSet t0 old.view v m (is_changed group)) (sym view) (call_set t0 old.view m face_of.sound some old.room kept.room group entry given sized follow called);
        face = record {
          sound = subst (λ (v : SpaceView). IsSoundOver t0 v m) (sym view) entered.sound;
          told = subst (λ (v : SpaceView). IsFaceTold t0 v m) (sym view) (call_told t0 old.view m face_of.sound some old.room kept.room group entry given sized follow called);
          fits = subst (λ (x : Room). Fits x (over books.view.group m)) (sym room) (subst (λ (v : SpaceView). Fits new (over v.group m)) (sym view) kept.fits);
        };
        caused = inl (record {
          own = done.own;
          within = subst (λ (x : Room). IsWithin logged taken old.room x m old.view.group books.view.group) (sym room) (subst (λ (v : SpaceView). IsWithin logged taken old.room new m old.view.group v.group) (sym view) done.within);
          unchanged = λ no. (ap (λ (v : SpaceView). v.group) view ∙ (done.unchanged no).0, ap (λ (x : Room). x.tally.used) room ∙ (done.unchanged no).1);
        });
        linked = subst (λ (v : SpaceView). IsLinked t0 old.view v m entry) (sym view) linked;
        blocks = subst (λ (v : SpaceView). KeepsBlocks (face old.view m) (face v m) (after t0 old.view.history) (after t0 v.history) call) (sym view) blocks;
      }
        where
          logged : ℕ
          logged = logged_need (volume_in (geometry_of old.view.sup) (over old.view.group m)) (after t0 old.view.history) call

          taken : ℕ
          taken = need (volume_in (geometry_of old.view.sup) (over old.view.group m)) (after t0 old.view.history) call

      pub entered_with : (history : List Entry) (promised : List ℕ) (stop : Option Stop) (left nodes : ℕ) → history ≡ old.view.history ++ entry ∷ []
          → HasEntered t0 old (record { view = record old.view { used = new.tally.used; group = group; history = history; given = new.given }; room = new; promised = promised; stop = stop; left = left; nodes = nodes }) m session tag now call
      entered_with history promised stop left nodes items =
          let used = ap (λ (x : Room). x.tally.used) kept.kept in
          let runs = ap (λ (x : Room). x.given) kept.kept in
          has_entered (record { view = record old.view { used = new.tally.used; group = group; history = history; given = new.given }; room = new; promised = promised; stop = stop; left = left; nodes = nodes })
          (λ j. record old.view { used = used j; group = group; history = items j; given = runs j }) refl

    -- a call that was turned away
    module _ (why : IsOutside (geometry_of old.view.sup) old.room (over old.view.group m) (after t0 old.view.history) (holds_after t0 old.view.history) (IsIdle old) call reply) where
      turned : Turn session entry.stamp call reply (state_after t0 old.view.history) (state_after t0 old.view.history)
      turned = outside_turn (geometry_of old.view.sup) old.room (over old.view.group m) (IsIdle old) session entry.stamp call reply (state_after t0 old.view.history) why

      silent : (upto : ℕ) → reply ≡ replies.Synced upto → ⊥
      silent upto is = outside_unsynced (geometry_of old.view.sup) old.room (over old.view.group m) (after t0 old.view.history) (holds_after t0 old.view.history) (IsIdle old) call reply upto why is

      next_entry : Follows t0 old.view.history entry
      next_entry = follows t0 old.view.history session tag now call reply (state_after t0 old.view.history) other face_of.sound.legal turned silent quiet

      same_tree : after t0 (old.view.history ++ entry ∷ []) ≡ after t0 old.view.history
      same_tree = tree_after t0 old.view.history session tag now call reply (state_after t0 old.view.history) other face_of.sound.legal turned silent quiet

      away : Entered t0 old.view (noted old.view entry) m entry
      away = note_entered t0 old.view m entry face_of.sound next_entry same_tree

      away_set : HasSet t0 old.view (noted old.view entry) m none
      away_set = note_set t0 old.view m entry face_of.sound next_entry same_tree

      away_told : IsFaceTold t0 (noted old.view entry) m
      away_told k meta apart = face_of.told k (away_set.rest k meta refl) apart

      away_linked : IsLinked t0 old.view (noted old.view entry) m entry
      away_linked = record {
        caused = record {
          changed = [];
          few = omega arith;
          are = λ k is other. absurd (other refl);
          used = omega arith;
          unchanged = λ refused. record { blocks = λ k is. refl; used = refl };
          why = outside_wants old.view.sup old.view.used old.room (over old.view.group m) volume used (after t0 old.view.history) (holds_after t0 old.view.history) (IsIdle old) call reply (λ idle. idle.given) why;
        };
        places = λ k some. inl some;
      }

      turned_away : (books : SpaceBooks) → books.view ≡ noted old.view entry → books.room ≡ old.room → HasEntered t0 old books m session tag now call
      turned_away books view room = record {
        reply = reply;
        set = none;
        entered = subst (λ (v : SpaceView). Entered t0 old.view v m entry) (sym view) away;
        has_set = subst (λ (v : SpaceView). HasSet t0 old.view v m none) (sym view) away_set;
        face = record {
          sound = subst (λ (v : SpaceView). IsSoundOver t0 v m) (sym view) away.sound;
          told = subst (λ (v : SpaceView). IsFaceTold t0 v m) (sym view) away_told;
          fits = subst (λ (x : Room). Fits x (over books.view.group m)) (sym room) (subst (λ (v : SpaceView). Fits old.room (over v.group m)) (sym view) face_of.fits);
        };
        caused = inr (ap (λ (v : SpaceView). v.group) view, room, why);
        linked = subst (λ (v : SpaceView). IsLinked t0 old.view v m entry) (sym view) away_linked;
        blocks = subst (λ (v : SpaceView). KeepsBlocks (face old.view m) (face v m) (after t0 old.view.history) (after t0 v.history) call) (sym view) (λ id n x is file later regular. inl refl);
      }

      pub away_with : (new : Room) (group : List (ℕ × List ℕ)) (history : List Entry) (promised : List ℕ) (stop : Option Stop) (left nodes : ℕ) → new ≡ old.room → group ≡ old.view.group → history ≡ old.view.history ++ entry ∷ []
          → HasEntered t0 old (record { view = record old.view { used = new.tally.used; group = group; history = history; given = new.given }; room = new; promised = promised; stop = stop; left = left; nodes = nodes }) m session tag now call
      away_with new group history promised stop left nodes same pairs items =
          let count = ap (λ (x : Room). x.tally.used) same ∙ used in
          let runs = ap (λ (x : Room). x.given) same ∙ given in
          turned_away (record { view = record old.view { used = new.tally.used; group = group; history = history; given = new.given }; room = new; promised = promised; stop = stop; left = left; nodes = nodes })
          (λ j. record old.view { used = count j; group = pairs j; history = items j; given = runs j }) same

    -- a call that has a reply is entered
    pub replied_with : (Idle : Type 0) (new : Room) (group : List (ℕ × List ℕ)) (history : List Entry) (promised : List ℕ) (stop : Option Stop) (left nodes : ℕ) → AreOfSize old.view.sup.block_size group → (Idle → IsIdle old)
        → IsReplied (geometry_of old.view.sup) old.room new m old.view.group group (after t0 old.view.history) (holds_after t0 old.view.history) Idle entry.stamp call reply → history ≡ old.view.history ++ entry ∷ []
        → HasEntered t0 old (record { view = record old.view { used = new.tally.used; group = group; history = history; given = new.given }; room = new; promised = promised; stop = stop; left = left; nodes = nodes }) m session tag now call
    replied_with Idle new group history promised stop left nodes sized idle (inl done) items = entered_with new group sized done history promised stop left nodes items
    replied_with Idle new group history promised stop left nodes sized idle (inr away) items =
        away_with (outside_for (geometry_of old.view.sup) old.room (over old.view.group m) (after t0 old.view.history) (holds_after t0 old.view.history) Idle (IsIdle old) call reply idle away.why) new group history promised stop left nodes away.room away.group items
