-- Entries that a device has ended.
use Rattle.std.proofs.Common.{◌≡◌, ◌≤◌, ◌++◌, ℕ, List, [], ◌∷◌, false, Option, Some, None, refl, sym, ◌∙◌, ap, subst, arith}
use Rattle.std.specs.Option.{option_map}
use Rattle.bfs_disk.specs.State.{State}
use Rattle.bfs_device.specs.Books.{Books}
use Rattle.bfs_device.specs.Data.{IsRested}
use Rattle.bfs_core.specs.Cores.{newest_map}
use Rattle.bfs_tree.specs.declared.call.Call.{Call}
use Rattle.bfs_tree.specs.declared.reply.Reply.{Reply}
use Rattle.bfs_tree.specs.declared.reply.Entry.{Entry}
use Rattle.bfs_tree.specs.Histories.{drawn, last_stamp, is_stop}
use Rattle.bfs_device.specs.declared.journal.DeviceFault.{DeviceFault}
use Rattle.bfs_device.specs.declared.journal.DeviceFault.TheVariants.{Disk, Stopped}
use Rattle.bfs_device.specs.declared.journal.Stop.{Stop}
use Rattle.bfs_space.specs.Books.{SpaceBooks, entry_noted, with_note}
use Rattle.bfs_commit.specs.Faults.{HasStepCause}
use Rattle.std.specs.List.{list_any}
use Rattle.bfs_commit.specs.Entries.{HasEntryOf, IsDeviceEnd, IsToldBy, reply_of}

-- the fault of steps that came after what left the stop as it was
pub device_end : (old mid new : Option Stop) (faults f g later : ℕ) (fault : DeviceFault) → mid ≡ old → faults ≤ f → g ≤ later → HasStepCause mid new f g fault → IsDeviceEnd old faults later (reply_of fault)
device_end old mid new faults f g later (Disk before after stops) same low high cause = let a = cause.2 in let b = cause.4 in (sym same ∙ cause.0, omega (arith, low, a), cause.3, omega (arith, high, b), cause.5)
device_end old mid new faults f g later (Stopped durable count) same low high cause = sym same ∙ cause.0

-- the entry of a note
pub noted_entry : (sp space : SpaceBooks) (before : List Entry) (session tag now durable : ℕ) (call other : Call) (reply answer : Reply) → sp.view.history ≡ before → call ≡ other → reply ≡ answer
    → space ≡ with_note sp session (entry_noted sp session tag now call reply) durable → HasEntryOf before space.view.history session tag other answer
noted_entry sp space before session tag now durable call other reply answer same calls replies is = record {
  stamp = drawn (last_stamp sp.view.history) now;
  appended = ap (λ (x : SpaceBooks). x.view.history) is ∙ (λ i. same i ++ (record { session = session; tag = tag; stamp = drawn (last_stamp sp.view.history) now; call = calls i; reply = replies i }) ∷ []);
}

-- books that are others but for promises
pub rest_of : (books new : SpaceBooks) (promised : List ℕ) → new ≡ record books { promised = promised } → new ≡ record books { promised = new.promised }
rest_of books new promised is = is ∙ ap (λ (p : List ℕ). (let b : SpaceBooks = record books { promised = p } in b)) (sym (ap (λ (x : SpaceBooks). x.promised) is))

-- what the device tells after reads alone
pub tells_since : (b new : Books) (told told' : Option State) (st : State) → IsRested b new → told' ≡ told → told ≡ Some st → option_map (newest_map new) told' ≡ Some (newest_map b st)
tells_since b new told told' st rests same is =
    ap (option_map (newest_map new)) (same ∙ is) ∙ ap Some (subst (λ (x : Books). newest_map x st ≡ newest_map b st) (sym rests) refl)

-- what a fault of steps tells of an entry, where no entry before it tells of a stop while the device goes on
pub told_of : (history : List Entry) (old : Option Stop) (new : Books) (faults later : ℕ) (call : Call) (fault : DeviceFault) → (old ≡ None → list_any (λ (e : Entry). is_stop e.reply) history ≡ false) → HasStepCause old new.stop faults later fault → IsToldBy new history call (reply_of fault)
told_of history old new faults later call (Disk before after stops) quiet cause = (quiet cause.0, cause.1)
told_of history old new faults later call (Stopped durable count) quiet cause = cause.1 ∙ cause.0

-- a device goes on or has stopped
pub not_both : (stop : Option Stop) (s : Stop) → stop ≡ None → stop ≡ Some s → ⊥
not_both stop s going stopped = none_some s (sym going ∙ stopped)
  where
    none_some : (x : Stop) → None ≡ Some x → ⊥
    none_some x e = cc
