-- What follows of a hold that stands, of any tree at mounting with which the history is legal; and what its release is.
use Rattle.std.proofs.Common.{◌≡◌, ◌⊎◌, ⊎_elim, inl, inr, ◌++◌, ℕ, zero, suc, ℤ, List, [], ◌∷◌, Bool, true, false, cond, Option, Some, None, refl, sym, ◌∙◌, ap, subst, arith}
use Rattle.std.specs.Prelude.{IsTrue, IsSomeAnd, ◌&&◌}
use Rattle.std.specs.List.{list_any}
use Rattle.std.specs.FinMap.{get}
use Rattle.std.proofs.lemmas.Grind.{fold-append}
use Rattle.bfs_tree.specs.declared.call.Call.TheVariants as calls
use Rattle.bfs_tree.specs.declared.reply.Reply.TheVariants as replies
use Rattle.bfs_tree.specs.declared.reply.Entry.{Entry}
use Rattle.bfs_tree.specs.declared.state.Hold.{Hold}
use Rattle.bfs_tree.specs.Answers.{Ends}
use Rattle.bfs_tree.specs.Changes.{released}
use Rattle.bfs_tree.specs.Histories.{Mounted, Legal, after, start, state_after}
use Rattle.bfs_tree.specs.Refusals.{held}
use Rattle.bfs_tree.specs.States.{State, is_hold_of, last_hold, learn}
use Rattle.bfs_tree.specs.Steps.{ByTree, Turn, next}
use Rattle.bfs_commit.specs.Holds.{held_by}
use Rattle.bfs_commit.proofs.Held.{entry_is_held, held_is_after}
use Rattle.bfs_commit.specs.Held.{taken_entry}
use Rattle.bfs_commit.specs.Holding.{HasHeld, IsInWriting, IsOnFile, IsOneOf}
use Rattle.bfs_commit.proofs.Holding.{holds_are_on_files}
use Rattle.bfs_commit.proofs.Taken.{IsHeldFile, IsLearnt, hold_as, last_is, learnt, own_hold, released_tree}

-- a session's last hold on a node is one of the holds
pub last_one : (holds : List Hold) (session id : ℕ) (h : Hold) → last_hold holds session id ≡ Some h → IsOneOf h holds
last_one [] session id h is = absurd (let bad : None ≡ Some h = is in cc)
last_one (x ∷ xs) session id h is = by_rest (list_any (is_hold_of session id) xs) (λ e. last_one xs session id h e) is
  where
    by_first : (b : Bool) → cond b (Some x) None ≡ Some h → IsOneOf h (x ∷ xs)
    by_first true e = (zero, e)
    by_first false e = absurd (let bad : None ≡ Some h = e in cc)

    by_rest : (b : Bool) → (last_hold xs session id ≡ Some h → IsOneOf h xs) → cond b (last_hold xs session id) (cond (is_hold_of session id x) (Some x) None) ≡ Some h → IsOneOf h (x ∷ xs)
    by_rest true later e = (let one = later e in (suc one.0, one.1))
    by_rest false later e = by_first (is_hold_of session id x) e

-- what is held for writing lies in what is held for writing
pub in_writing : (history : List Entry) (session id at count n : ℕ) (w : Bool) → w ≡ true → count ≡ n → HasHeld history session id at count w → IsInWriting history id at n
in_writing history session id at count n w writes same held = record { hold = hold_as session id at count w; held = last_one (held_by history) session id (hold_as session id at count w) held; writes = writes; id_is = refl; low = omega arith; high = omega (arith, same) }

-- a session that has appended its hold has it
pub appended_held : (before history : List Entry) (session tag id at count : ℕ) (stamp : ℤ) (w : Bool) → history ≡ before ++ taken_entry session tag stamp id at count w ∷ [] → HasHeld history session id at count w
appended_held before history session tag id at count stamp w is =
    ap (λ (h : List Entry). last_hold (held_by h) session id) is
    ∙ ap (λ (hs : List Hold). last_hold hs session id) (entry_is_held before (taken_entry session tag stamp id at count w))
    ∙ last_is session id (held_by before) (hold_as session id at count w) (own_hold session id at count w)

module _ (t0 : Mounted) (history : List Entry) (session id at count : ℕ) (w : Bool) (held : HasHeld history session id at count w) (legal : Legal t0 history) where
  abbrev hold : Hold
  hold = hold_as session id at count w

  on_file : IsOnFile (state_after t0 history) hold
  on_file = holds_are_on_files t0 history hold legal (subst (IsOneOf hold) (sym (held_is_after t0 history)) (last_one (held_by history) session id hold held))

  -- the file is there, with the piece below its size
  pub taken_file : IsHeldFile (after t0 history).nodes id at count
  taken_file = record { node = on_file.node; there = on_file.there; file = on_file.file; within = on_file.within }

  -- the hold is the session's last one on the node
  pub taken_hold : last_hold (state_after t0 history).holds session id ≡ Some hold
  taken_hold = ap (λ (hs : List Hold). last_hold hs session id) (held_is_after t0 history) ∙ held

  module _ (tag : ℕ) (stamp : ℤ) (bytes : List ℕ) (whole : Bool) (from upto : ℕ) where
    abbrev release : Entry
    release = record { session = session; tag = tag; stamp = stamp; call = calls.Release id bytes whole from upto; reply = replies.Done }

    -- the release is a step from there
    pub release_step : (IsTrue whole → Ends (state_after t0 history) hold bytes) → Turn session stamp (calls.Release id bytes whole from upto) replies.Done (state_after t0 history) (next (state_after t0 history) release)
    release_step fits = Turn.by_tree (ByTree.answered refl (refl, subst (λ (o : Option Hold). IsSomeAnd o (λ h. IsTrue whole → Ends (state_after t0 history) h bytes)) (sym taken_hold) fits) refl)

    after_release : state_after t0 (history ++ release ∷ []) ≡ released (state_after t0 history) session id bytes whole (last_hold (state_after t0 history).holds session id)
    after_release = fold-append next (start t0) history (release ∷ [])

    -- which leaves the tree
    pub release_tree : after t0 (history ++ release ∷ []) ≡ after t0 history
    release_tree = ap (λ (s : State). s.tree) after_release ∙ released_tree (state_after t0 history) session id bytes whole (last_hold (state_after t0 history).holds session id)

    -- and what is known since was known, or is one of the bytes of a whole one
    pub release_known : (q : ℕ × ℕ) (byte : ℕ) → get (state_after t0 (history ++ release ∷ [])).known q ≡ Some byte
        → (get (state_after t0 history).known q ≡ Some byte) ⊎ ((whole ≡ true) × IsLearnt id at bytes q byte)
    release_known q byte is = by_both whole w (sym (ap (λ (s : State). get s.known q) after_release ∙ ap (λ (o : Option Hold). get (released (state_after t0 history) session id bytes whole o).known q) taken_hold) ∙ is)
      where
        by_both : (a b : Bool) → get (cond (a && b) (learn (state_after t0 history).known id at bytes) (state_after t0 history).known) q ≡ Some byte
            → (get (state_after t0 history).known q ≡ Some byte) ⊎ ((a ≡ true) × IsLearnt id at bytes q byte)
        by_both true true e = ⊎_elim (λ before. inl before) (λ now. inr (refl, now)) (learnt (state_after t0 history).known id at bytes q byte e)
        by_both true false e = inl e
        by_both false b e = inl e
