-- Entries whose stamps were drawn while the clock stood still: none, one, and those of two calls.
use Rattle.std.proofs.Common.{◌≡◌, ◌++◌, ◌∙◌, ℕ, ℤ, pos, List, [], ◌∷◌, Option, Some, None, Result, Ok, Err, OnErr, refl, sym, ap, subst, append_assoc, append-nil}
use Rattle.std.specs.Prelude.{IfOk}
use Rattle.std.specs.List.{fold}
use Rattle.std.proofs.lemmas.Grind.{fold-append}
use Rattle.std.specs.declared.alloc.AllocError.{AllocError}
use Rattle.bfs_ports.specs.Ports.{StandsAt}
use Rattle.bfs_txn.specs.Faults.{Counts}
use Rattle.bfs_tree.specs.declared.call.Call.{Call}
use Rattle.bfs_tree.specs.declared.reply.Reply.{Reply}
use Rattle.bfs_tree.specs.declared.reply.Entry.{Entry}
use Rattle.bfs_tree.specs.Histories.{drawn, last_stamp}
use Rattle.bfs_space.specs.Books.{SpaceBooks, entry_noted, with_note}
use Rattle.bfs_space.specs.Faces.{HasOutcome}
use Rattle.bfs_space.specs.declared.space.Outcome.{Outcome}
use Rattle.bfs_space.specs.declared.space.Outcome.TheVariants.{Replied, Drain}
use Rattle.bfs_commit.specs.Stamps.{AreDrawn, HasDrawn}

-- none was appended
pub drawn_none : (before after : List Entry) (now : ℕ) → after ≡ before → HasDrawn before after now
drawn_none before after now same = record { entries = []; appended = same ∙ sym (append-nil before); drawn = tt }

-- one was
pub drawn_one : (before after : List Entry) (e : Entry) (now : ℕ) → after ≡ before ++ e ∷ [] → e.stamp ≡ drawn (last_stamp before) now → HasDrawn before after now
drawn_one before after e now is stamp = record { entries = e ∷ []; appended = is; drawn = (stamp, tt) }

-- two were appended one after the other
behind : (last : ℤ) (now : ℕ) (es fs : List Entry) → AreDrawn last now es → AreDrawn (fold (λ (s : ℤ) (e : Entry). e.stamp) last es) now fs → AreDrawn last now (es ++ fs)
behind last now [] fs first second = second
behind last now (e ∷ es) fs first second = (first.0, behind e.stamp now es fs first.1 second)

pub drawn_both : (a b c : List Entry) (now : ℕ) → HasDrawn a b now → HasDrawn b c now → HasDrawn a c now
drawn_both a b c now first second = record {
  entries = first.entries ++ second.entries;
  appended = second.appended ∙ ap (λ (h : List Entry). h ++ second.entries) first.appended ∙ append_assoc a first.entries second.entries;
  drawn = (let last : last_stamp b ≡ fold (λ (s : ℤ) (e : Entry). e.stamp) (last_stamp a) first.entries = ap last_stamp first.appended ∙ fold-append (λ (s : ℤ) (e : Entry). e.stamp) (pos 0) a first.entries in
      behind (last_stamp a) now first.entries second.entries first.drawn (subst (λ (z : ℤ). AreDrawn z now second.entries) last second.drawn));
}

-- and nothing before and after it
pub drawn_within : (a b c d : List Entry) (now : ℕ) → b ≡ a → d ≡ c → HasDrawn b c now → HasDrawn a d now
drawn_within a b c d now from to has = subst (λ (h : List Entry). HasDrawn h d now) from (subst (λ (h : List Entry). HasDrawn b h now) (sym to) has)

-- the entry that was noted
pub drawn_noted : (sp space : SpaceBooks) (before : List Entry) (session tag now durable : ℕ) (call : Call) (reply : Reply) → sp.view.history ≡ before → space ≡ with_note sp session (entry_noted sp session tag now call reply) durable → HasDrawn before space.view.history now
drawn_noted sp space before session tag now durable call reply same is =
    subst (λ (h : List Entry). HasDrawn h space.view.history now) same (drawn_one sp.view.history space.view.history (entry_noted sp session tag now call reply) now (ap (λ (x : SpaceBooks). x.view.history) is) refl)

-- what a call of the space has appended
pub drawn_outcome : (begun ended : Counts) (sp space : SpaceBooks) (session tag now : ℕ) (call : Call) (r : Result Outcome AllocError) → IfOk r (HasOutcome begun ended sp space session tag now call) → OnErr r (space ≡ sp) → HasDrawn sp.view.history space.view.history now
drawn_outcome begun ended sp space session tag now call (Ok Replied) noted none = drawn_one sp.view.history space.view.history (entry_noted sp session tag now call noted.reply) now noted.history refl
drawn_outcome begun ended sp space session tag now call (Ok (Drain back)) noted none = drawn_none sp.view.history space.view.history now (ap (λ (x : SpaceBooks). x.view.history) noted.1)
drawn_outcome begun ended sp space session tag now call (Err e) noted none = drawn_none sp.view.history space.view.history now (ap (λ (x : SpaceBooks). x.view.history) none)

-- the second that the clock tells is that at which it stands
told_is : (stands : Option ℕ) (now s : ℕ) → StandsAt stands now → stands ≡ Some s → now ≡ s
told_is None now s told is = absurd (let e : None ≡ Some s = is in cc)
told_is (Some at) now s told is = told ∙ (let e : Some at ≡ Some s = is in let d : at ≡ s = cc in d)

pub drawn_told : (before after : List Entry) (stands : Option ℕ) (now s : ℕ) → StandsAt stands now → stands ≡ Some s → HasDrawn before after now → HasDrawn before after s
drawn_told before after stands now s told is has = subst (λ (n : ℕ). HasDrawn before after n) (told_is stands now s told is) has
