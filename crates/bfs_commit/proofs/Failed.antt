-- The disk's counts beside entries: where none was appended, where one was, and those of two calls.
use Rattle.std.proofs.Common.{◌≡◌, ◌≤◌, ◌++◌, ◌∙◌, ⊎_elim, inl, inr, ℕ, List, [], ◌∷◌, Bool, true, false, Option, Some, None, Result, Ok, Err, OnOk, OnErr, refl, sym, ap, subst, arith, append_assoc, append-nil}
use Rattle.std.specs.Prelude.{IfOk, IfErr}
use Rattle.std.specs.List.{list_any}
use Rattle.std.specs.Option.{option_map}
use Rattle.std.proofs.lemmas.List.Elements.{All-nil, All-cons, All-append}
use Rattle.std.specs.declared.alloc.AllocError.{AllocError}
use Rattle.bfs_base.specs.Counts.{Rose}
use Rattle.bfs_tree.specs.declared.call.Call.{Call}
use Rattle.bfs_tree.specs.declared.call.Call.TheVariants as calls
use Rattle.bfs_tree.specs.declared.reply.Reply.{Reply}
use Rattle.bfs_tree.specs.declared.reply.Reply.TheVariants as replies
use Rattle.bfs_tree.specs.declared.reply.Entry.{Entry}
use Rattle.bfs_tree.specs.Histories.{is_stop}
use Rattle.bfs_device.specs.Books.{Books}
use Rattle.bfs_device.specs.Steps.{IsStepFault}
use Rattle.bfs_device.specs.declared.journal.Stop.{Stop}
use Rattle.bfs_device.specs.declared.journal.DeviceFault.{DeviceFault}
use Rattle.bfs_device.specs.declared.journal.DeviceFault.TheVariants.{Disk, Stopped}
use Rattle.bfs_space.specs.Books.{SpaceBooks, KnowsStop, entry_noted}
use Rattle.bfs_space.specs.Faces.{HasOutcome}
use Rattle.bfs_space.specs.Files.{lets_go}
use Rattle.bfs_space.specs.Replies.{HasReplyCause}
use Rattle.bfs_space.specs.declared.space.Outcome.{Outcome}
use Rattle.bfs_space.specs.declared.space.Outcome.TheVariants.{Replied, Drain}
use Rattle.bfs_pieces.specs.Pieces.{HasHalted, HasPieceCause}
use Rattle.bfs_pieces.proofs.Halting.{rose_since}
use Rattle.bfs_commit.specs.Volumes.{AreFitted}
use Rattle.bfs_commit.specs.Entries.{HasEntryOf, counts_of, reply_of}
use Rattle.bfs_commit.specs.Faults.{HasStepCause}
use Rattle.bfs_commit.specs.Held.{HasGone}
use Rattle.bfs_commit.specs.Pieces.{IsReleaseCause}
use Rattle.bfs_commit.specs.Failing.{AreCountedIn, HasFailures, HasSign, IsCountedIn, IsLetGoIn, IsReplyIn, KeepsCounts}
use Rattle.bfs_commit.proofs.Ends.{not_both}

-- a count that rose has risen later
rose_upto : (a b c : ℕ) → Rose a b → b ≤ c → Rose a c
rose_upto a b c rose le = omega (arith, rose, le)

one_stop : (s t : Stop) → Some s ≡ Some t → t ≡ s
one_stop s t e = cc

-- ---- counts of a device

-- the stop stayed
pub counts_kept : (old new : Option Stop) (f f' s s' : ℕ) → new ≡ old → f ≤ f' → s ≤ s' → KeepsCounts old new f f' s s'
counts_kept old new f f' s s' same later stops = record {
  later = later;
  stops_later = stops;
  kept = λ t is. same ∙ is;
  stopped = λ none t is. absurd (not_both old t none (sym same ∙ is));
}

pub counts_same : (old new : Option Stop) (f f' s s' : ℕ) → new ≡ old → f' ≡ f → s' ≡ s → KeepsCounts old new f f' s s'
counts_same old new f f' s s' same faults stops = counts_kept old new f f' s s' same (omega (arith, faults)) (omega (arith, stops))

stopped_twice : (old mid new : Option Stop) (f g h s t u : ℕ) → KeepsCounts old mid f g s t → KeepsCounts mid new g h t u → old ≡ None → (x : Stop) → new ≡ Some x → Rose f x.faults × (x.faults ≤ h) × Rose s u
stopped_twice old None new f g h s t u one two none x is =
    let at = two.stopped refl x is in
    (rose_since f g x.faults one.later at.0, at.1, rose_since s t u one.stops_later at.2)
stopped_twice old (Some y) new f g h s t u one two none x is =
    let at = one.stopped none y refl in
    let low = at.1 in
    let high = two.later in
    subst (λ (z : Stop). Rose f z.faults × (z.faults ≤ h) × Rose s u) (one_stop x y (sym is ∙ two.kept y refl)) (at.0, omega (arith, low, high), rose_upto s t u at.2 two.stops_later)

pub counts_twice : (old mid new : Option Stop) (f g h s t u : ℕ) → KeepsCounts old mid f g s t → KeepsCounts mid new g h t u → KeepsCounts old new f h s u
counts_twice old mid new f g h s t u one two =
    let a = one.later in
    let b = two.later in
    let c = one.stops_later in
    let d = two.stops_later in
    record {
      later = omega (arith, a, b);
      stops_later = omega (arith, c, d);
      kept = λ x is. two.kept x (one.kept x is);
      stopped = stopped_twice old mid new f g h s t u one two;
    }

-- a step of a device
pub counts_stepped : {T : Type 0} (b new : Books) (f f' s s' : ℕ) (r : Result T DeviceFault) → OnOk r ((b.stop ≡ None) × (new.stop ≡ None)) → IfErr r (IsStepFault b new f f' s s') → f ≤ f' → s ≤ s' → KeepsCounts b.stop new.stop f f' s s'
counts_stepped b new f f' s s' (Ok x) ok fault later stops = counts_kept b.stop new.stop f f' s s' (ok.1 ∙ sym ok.0) later stops
counts_stepped b new f f' s s' (Err (Disk before after stopped)) ok is later stops = record {
  later = later;
  stops_later = stops;
  kept = λ t same. absurd (not_both b.stop t is.0 same);
  stopped = λ none t same.
      let faults : t.faults ≡ f' = ap (λ (x : Stop). x.faults) (one_stop _ t (sym (ap (λ (x : Books). x.stop) is.6) ∙ same)) ∙ is.2 in
      (subst (Rose f) (sym faults) is.3, omega (arith, faults), is.5);
}
counts_stepped b new f f' s s' (Err (Stopped durable count)) ok is later stops = counts_kept b.stop new.stop f f' s s' (ap (λ (x : Books). x.stop) is.1) later stops

-- the writing of a piece, by a device that goes on
pub counts_written : (old new : Option Stop) (f f' s s' : ℕ) (r : Result Unit DeviceFault) → old ≡ None → OnOk r (new ≡ old) → IfErr r (HasPieceCause old f f') → IfErr r (HasHalted new s s') → f ≤ f' → s ≤ s' → KeepsCounts old new f f' s s'
counts_written old new f f' s s' (Ok done) going ok cause halted later stops = counts_kept old new f f' s s' ok later stops
counts_written old new f f' s s' (Err (Disk before after stopped)) going ok cause halted later stops = record {
  later = later;
  stops_later = stops;
  kept = λ t same. absurd (not_both old t going same);
  stopped = λ none t same.
      let at = halted t same in
      let faults = at.0 in
      let high = cause.3 in
      (subst (Rose f) (sym faults) (rose_since f before after cause.1 cause.2), omega (arith, faults, high), at.1);
}
counts_written old new f f' s s' (Err (Stopped durable count)) going ok cause halted later stops = absurd (not_both old _ going cause)

-- ---- one entry

wider_call : (stop : Option Stop) (l m h : ℕ) (call : Call) → l ≤ m → IsLetGoIn stop m h call → IsLetGoIn stop l h call
wider_call stop l m h (calls.Release id bytes false from upto) le is = ⊎_elim (λ a. inl (let b = a.0 in omega (arith, le, b), a.1, a.2)) (λ a. inr (let b = a.0 in omega (arith, le, b), a.1, a.2, a.3)) is
wider_call stop l m h (calls.Release id bytes true from upto) le is = omega (arith, le, is)
wider_call stop l m h _ le is = omega (arith, le, is)

wider : (stop : Option Stop) (l m h : ℕ) (call : Call) (reply : Reply) → l ≤ m → IsReplyIn stop m h call reply → IsReplyIn stop l h call reply
wider stop l m h call (replies.DiskFault before after stops) le is = (let b = is.0 in omega (arith, le, b), is.1, is.2)
wider stop l m h call (replies.Stopped durable faults) le is = (let b = is.0 in omega (arith, le, b), is.1)
wider stop l m h call _ le is = wider_call stop l m h call le is

later_call : (old new : Option Stop) (l h : ℕ) (call : Call) → ((t : Stop) → old ≡ Some t → new ≡ Some t) → IsLetGoIn old l h call → IsLetGoIn new l h call
later_call old new l h (calls.Release id bytes false from upto) kept is = ⊎_elim (λ a. inl a) (λ a. inr (a.0, a.1, a.2, kept _ a.3)) is
later_call old new l h (calls.Release id bytes true from upto) kept is = is
later_call old new l h _ kept is = is

later_stop : (old new : Option Stop) (l h : ℕ) (call : Call) (reply : Reply) → ((t : Stop) → old ≡ Some t → new ≡ Some t) → IsReplyIn old l h call reply → IsReplyIn new l h call reply
later_stop old new l h call (replies.DiskFault before after stops) kept is = is
later_stop old new l h call (replies.Stopped durable faults) kept is = (is.0, kept _ is.1)
later_stop old new l h call _ kept is = later_call old new l h call kept is

-- ---- entries

pub counted_later : (old new : Option Stop) (l h : ℕ) (es : List Entry) → ((t : Stop) → old ≡ Some t → new ≡ Some t) → AreCountedIn old l h es → AreCountedIn new l h es
counted_later old new l h [] kept is = is
counted_later old new l h (e ∷ es) kept is = (is.0, later_stop old new l is.0 e.call e.reply kept is.1, counted_later old new is.0 h es kept is.2)

counted_wider : (stop : Option Stop) (l m h : ℕ) (es : List Entry) → l ≤ m → AreCountedIn stop m h es → AreCountedIn stop l h es
counted_wider stop l m h [] le is = omega (arith, le, is)
counted_wider stop l m h (e ∷ es) le is = (is.0, wider stop l m is.0 e.call e.reply le is.1, is.2)

counted_both : (stop : Option Stop) (l m h : ℕ) (es fs : List Entry) → AreCountedIn stop l m es → AreCountedIn stop m h fs → AreCountedIn stop l h (es ++ fs)
counted_both stop l m h [] fs first second = counted_wider stop l m h fs first second
counted_both stop l m h (e ∷ es) fs first second = (first.0, first.1, counted_both stop first.0 m h es fs first.2 second)

-- none was appended
pub failed_none : (before now : List Entry) (old new : Option Stop) (f f' s s' : ℕ) → now ≡ before → KeepsCounts old new f f' s s' → HasFailures before now old new f f' s s'
failed_none before now old new f f' s s' same counts = record { entries = []; appended = same ∙ sym (append-nil before); counted = counts.later; counts = counts; signs = All-nil (HasSign s s') }

-- one was
pub failed_one : (before now : List Entry) (old new : Option Stop) (f f' s s' : ℕ) (e : Entry) → now ≡ before ++ e ∷ [] → IsCountedIn new f f' e → HasSign s s' e → KeepsCounts old new f f' s s' → HasFailures before now old new f f' s s'
failed_one before now old new f f' s s' e is counted sign counts = record { entries = e ∷ []; appended = is; counted = (f', counted, omega arith); counts = counts; signs = All-cons (HasSign s s') e [] sign (All-nil (HasSign s s')) }

-- two were appended one after the other
pub failed_both : (a b c : List Entry) (old mid new : Option Stop) (f g h s t u : ℕ) → HasFailures a b old mid f g s t → HasFailures b c mid new g h t u → HasFailures a c old new f h s u
failed_both a b c old mid new f g h s t u first second = record {
  entries = first.entries ++ second.entries;
  appended = second.appended ∙ ap (λ (x : List Entry). x ++ second.entries) first.appended ∙ append_assoc a first.entries second.entries;
  counted = counted_both new f g h first.entries second.entries (counted_later mid new f g first.entries second.counts.kept first.counted) second.counted;
  counts = counts_twice old mid new f g h s t u first.counts second.counts;
  signs = All-append (HasSign s u) first.entries second.entries (λ k d lt before after is. rose_upto s t u (first.signs k d lt before after is) second.counts.stops_later) (λ k d lt before after is. rose_since s t u first.counts.stops_later (second.signs k d lt before after is));
}

-- and nothing before and after it, but that the counts may have risen before
pub failed_within : (a b c d : List Entry) (old mid new : Option Stop) (f g h s t u : ℕ) → KeepsCounts old mid f g s t → b ≡ a → d ≡ c → HasFailures b c mid new g h t u → HasFailures a d old new f h s u
failed_within a b c d old mid new f g h s t u counts from to has = subst (λ (x : List Entry). HasFailures a x old new f h s u) (sym to) (failed_both a b c old mid new f g h s t u (failed_none a b old mid f g s t from counts) has)

-- and after it
pub failed_then : (a b c : List Entry) (old mid new : Option Stop) (f g h s t u : ℕ) → HasFailures a b old mid f g s t → c ≡ b → KeepsCounts mid new g h t u → HasFailures a c old new f h s u
failed_then a b c old mid new f g h s t u has to counts = failed_both a b c old mid new f g h s t u has (failed_none b c mid new g h t u to counts)

-- ---- the entries of a volume

-- one that the device has ended by a fault of steps
no_fault : (d n before after : ℕ) (stopped : Bool) → replies.Stopped d n ≡ replies.DiskFault before after stopped → ⊥
no_fault d n before after stopped e = cc

stop_rose : (new : Option Stop) (s s' : ℕ) → (new ≡ None → ⊥) → ((t : Stop) → new ≡ Some t → Rose s s') → Rose s s'
stop_rose None s s' some rose = absurd (some refl)
stop_rose (Some t) s s' some rose = rose t refl

pub failed_step : (before now : List Entry) (session tag : ℕ) (call : Call) (old new : Option Stop) (f f' s s' : ℕ) (fault : DeviceFault) → HasEntryOf before now session tag call (reply_of fault) → HasStepCause old new f f' fault → KeepsCounts old new f f' s s' → HasFailures before now old new f f' s s'
failed_step before now session tag call old new f f' s s' (Disk from upto stopped) entry cause counts =
    failed_one before now old new f f' s s' _ entry.appended (cause.2, cause.3, cause.4) (λ b a is. stop_rose new s s' cause.1 (λ t same. (counts.stopped cause.0 t same).2)) counts
failed_step before now session tag call old new f f' s s' (Stopped durable count) entry cause counts =
    failed_one before now old new f f' s s' _ entry.appended (counts.later, cause.1 ∙ cause.0) (λ b a is. absurd (no_fault durable count b a true is)) counts

-- one of a device that had stopped
pub failed_stopped : (before now : List Entry) (session tag : ℕ) (call : Call) (old new : Option Stop) (f f' s s' durable count : ℕ) → HasEntryOf before now session tag call (replies.Stopped durable count) → new ≡ Some (record { durable = durable; faults = count }) → KeepsCounts old new f f' s s' → HasFailures before now old new f f' s s'
failed_stopped before now session tag call old new f f' s s' durable count entry is counts =
    failed_one before now old new f f' s s' _ entry.appended (counts.later, is) (λ b a same. absurd (no_fault durable count b a true same)) counts

-- that of a sync that went well
no_synced : (n before after : ℕ) (stopped : Bool) → replies.Synced n ≡ replies.DiskFault before after stopped → ⊥
no_synced n before after stopped e = cc

pub failed_synced : (before now : List Entry) (session tag n : ℕ) (old new : Option Stop) (f f' s s' : ℕ) → HasEntryOf before now session tag calls.Sync (replies.Synced n) → KeepsCounts old new f f' s s' → HasFailures before now old new f f' s s'
failed_synced before now session tag n old new f f' s s' entry counts =
    failed_one before now old new f f' s s' _ entry.appended counts.later (λ b a is. absurd (no_synced n b a true is)) counts

-- that of a piece that was let go
no_done : (before after : ℕ) (stopped : Bool) → replies.Done ≡ replies.DiskFault before after stopped → ⊥
no_done before after stopped e = cc

let_go_in : (stop : Option Stop) (f f' id from upto : ℕ) (bytes : List ℕ) (whole : Bool) → f ≤ f' → IsReleaseCause None f f' whole from upto → IsLetGoIn stop f f' (calls.Release id bytes whole from upto)
let_go_in stop f f' id from upto bytes true later cause = later
let_go_in stop f f' id from upto bytes false later cause = ⊎_elim (λ a. inl (a.1, a.2, a.3)) (λ a. absurd (not_both None _ refl a.2)) cause

pub failed_gone : (before now : List Entry) (session tag id : ℕ) (all : List ℕ) (old new : Option Stop) (f f' s s' : ℕ) → HasGone before now session tag id f f' all → KeepsCounts old new f f' s s' → HasFailures before now old new f f' s s'
failed_gone before now session tag id all old new f f' s s' gone counts =
    failed_one before now old new f f' s s' _ gone.entry.appended (let_go_in new f f' id gone.from gone.upto gone.bytes gone.whole counts.later gone.cause) (λ b a is. absurd (no_done b a true is)) counts

-- ---- what a call of the space has appended, of a device that goes on

keeps_in : (stop : Option Stop) (f f' : ℕ) (call : Call) → lets_go call ≡ false → f ≤ f' → IsLetGoIn stop f f' call
keeps_in stop f f' (calls.Release id bytes whole from upto) keeps later = absurd (let bad : true ≡ false = keeps in cc)
keeps_in stop f f' _ keeps later = later

no_pair : (p : ℕ × ℕ) → None ≡ Some p → ⊥
no_pair p e = cc

replied_in : (now known : Option Stop) (f f' s s' : ℕ) (call : Call) (reply : Reply) → now ≡ None → known ≡ None → lets_go call ≡ false → f ≤ f' → HasReplyCause (counts_of f s now) (counts_of f' s' now) known reply → IsReplyIn now f f' call reply
replied_in now known f f' s s' call (replies.DiskFault before after stops) going quiet keeps later cause = (cause.1.0, cause.1.1, let is = cause.1.2 in omega (arith, is))
replied_in now known f f' s s' call (replies.Stopped durable faults) going quiet keeps later cause =
    absurd (⊎_elim (λ is. not_both known _ quiet is) (λ is. no_pair _ (sym (ap (option_map (λ (t : Stop). (t.durable, t.faults))) going) ∙ is)) cause)
replied_in now known f f' s s' call _ going quiet keeps later cause = keeps_in now f f' call keeps later

silent : (now known : Option Stop) (f f' s s' : ℕ) (reply : Reply) → HasReplyCause (counts_of f s now) (counts_of f' s' now) known reply → (before after : ℕ) → reply ≡ replies.DiskFault before after true → ⊥
silent now known f f' s s' reply cause before after is =
    let at = subst (HasReplyCause (counts_of f s now) (counts_of f' s' now) known) is cause in
    let bad : true ≡ false = at.0 in
    cc

quiet_stop : (history : List Entry) (stop : Option Stop) → list_any (λ (e : Entry). is_stop e.reply) history ≡ false → KnowsStop history stop → stop ≡ None
quiet_stop history None quiet knows = refl
quiet_stop history (Some t) quiet knows = absurd (let bad : false ≡ true = sym quiet ∙ knows in cc)

pub failed_outcome : (f f' s s' : ℕ) (sp space : SpaceBooks) (b later : Books) (session tag now : ℕ) (call : Call) (r : Result Outcome AllocError) → lets_go call ≡ false → b.stop ≡ None → later.stop ≡ b.stop → KnowsStop sp.view.history sp.stop → AreFitted sp.view b → f ≤ f' → s' ≡ s
    → IfOk r (HasOutcome (counts_of f s b.stop) (counts_of f' s' later.stop) sp space session tag now call) → OnErr r (space ≡ sp) → HasFailures sp.view.history space.view.history b.stop later.stop f f' s s'
failed_outcome f f' s s' sp space b later session tag now call (Ok Replied) keeps going same knows fitted low stops noted none =
    let stop : later.stop ≡ None = same ∙ going in
    let quiet : sp.stop ≡ None = quiet_stop sp.view.history sp.stop (fitted.going going) knows in
    let cause = subst (λ (x : Option Stop). HasReplyCause (counts_of f s x) (counts_of f' s' later.stop) sp.stop noted.reply) (sym same) noted.cause in
    failed_one sp.view.history space.view.history b.stop later.stop f f' s s' (entry_noted sp session tag now call noted.reply) noted.history (replied_in later.stop sp.stop f f' s s' call noted.reply stop quiet keeps low cause)
    (λ before after is. absurd (silent later.stop sp.stop f f' s s' noted.reply cause before after is)) (counts_kept b.stop later.stop f f' s s' same low (omega (arith, stops)))
failed_outcome f f' s s' sp space b later session tag now call (Ok (Drain back)) keeps going same knows fitted low stops noted none =
    failed_none sp.view.history space.view.history b.stop later.stop f f' s s' (ap (λ (x : SpaceBooks). x.view.history) noted.1) (counts_kept b.stop later.stop f f' s s' same low (omega (arith, stops)))
failed_outcome f f' s s' sp space b later session tag now call (Err e) keeps going same knows fitted low stops noted none =
    failed_none sp.view.history space.view.history b.stop later.stop f f' s s' (ap (λ (x : SpaceBooks). x.view.history) none) (counts_kept b.stop later.stop f f' s s' same low (omega (arith, stops)))
