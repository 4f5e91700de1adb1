-- What a crash at some moment might have left, by the marks; and Core from adoption on.
use Rattle.std.specs.Prelude.{◌≡◌, ◌⊎◌, ◌≤◌, ◌<◌, ◌+◌, ◌-◌, ◌^◌, ◌++◌, ◌∷◌, [], ℕ, List, Bool, true, false, Option, Some, None}
use Rattle.std.specs.List.{All}
use Rattle.bfs_base.specs.Moments.{Passed}
use Rattle.bfs_disk.specs.State.{State, Tells}
use Rattle.bfs_disk.specs.Disk.{MayLeave}
use Rattle.bfs_tree.specs.declared.reply.Entry.{Entry}
use Rattle.bfs_tree.specs.Histories.{Mounted}
use Rattle.bfs_device.specs.declared.journal.Mark.{Mark}
use Rattle.bfs_device.specs.Books.{Books, IsRight, AreSame, RecoversOne, durable_of}
use Rattle.bfs_device.specs.Contents.{KeepsContents}
use Rattle.bfs_device.specs.Data.{touching, AreSameBut}
use Rattle.bfs_device.specs.Steps.{HasMoved}
use Rattle.bfs_device.specs.Ahead.{IsSteady, GoesOn}
use Rattle.bfs_core.specs.Spaces.{SpaceView}
use Rattle.bfs_core.specs.Cores.{Core, RecoversFrom}
use Rattle.bfs_core.specs.Chains.{Image}

-- When a device adopted its disk, and when what led there began: by the disk's clock, the moment before replay, and that of adoption; and the
-- image that it adopted, where a chain of images is asked for from there on.
pub record Adoption : Type 0 where
  pub begun : ℕ
  pub moment : ℕ
  pub first : Option Image

abbrev pub adopted_from : ℕ → ℕ → Option Image → Adoption
adopted_from begun moment first = record { begun = begun; moment = moment; first = first }

-- since a moment, and adopted at another one; no chain is asked for
abbrev pub adopted_at : ℕ → ℕ → Adoption
adopted_at begun moment = adopted_from begun moment None

-- what a crash since a time might have left recovers to at least so many entries
abbrev pub KeptSince : Mounted → List Entry → ℕ → (ℕ → List ℕ → Type 0) → ℕ → ℕ → Type 0
KeptSince t0 history clock since from n = (t : ℕ) (c : List ℕ) → from ≤ t → t ≤ clock → since t c → RecoversFrom t0 history n c

-- that of a mark, whose moment counts from adoption, unless the count had come to its end
abbrev pub IsKept : Mounted → List Entry → Adoption → ℕ → (ℕ → List ℕ → Type 0) → Mark → Type 0
IsKept t0 history adopted clock since m = m.moment < 2 ^ 64 - 1 → KeptSince t0 history clock since (adopted.moment + m.moment) m.number

-- Since each mark what a crash might have left recovers to at least its entries, and since what led to adoption began it recovers. No mark is above
-- the durable number. The disk's clock goes no faster than the device's count, until that has come to its end.
pub record Kept (t0 : Mounted) (history : List Entry) (adopted : Adoption) (marks : List Mark) (durable moment clock : ℕ) (since : ℕ → List ℕ → Type 0) : Type 0 where
  pub slow : moment < 2 ^ 64 - 1 → clock ≤ adopted.moment + moment
  pub early : adopted.begun ≤ adopted.moment
  pub low : adopted.moment ≤ clock
  pub first : KeptSince t0 history clock since adopted.begun 0
  pub marked : All (IsKept t0 history adopted clock since) marks
  pub reached : All (λ (m : Mark). m.number ≤ durable) marks

-- the marks stay, or one of this moment is stored behind them
abbrev pub Marked : List Mark → List Mark → ℕ → ℕ → Type 0
Marked old new durable moment = (new ≡ old) ⊎ ((m : Mark) × (new ≡ old ++ m ∷ []) × (m.moment ≡ moment) × (m.number ≤ durable))

-- Core from adoption on: the disk tells, Core holds of what it tells, and what a crash might have left since each mark is kept.
abbrev pub IsCore : Mounted → Adoption → SpaceView → Books → Option State → ℕ → (ℕ → List ℕ → Type 0) → Type 0
IsCore t0 adopted sp b told clock since = Tells told (λ st. (t : ℕ → Bool) × Core t0 sp b t st) × Kept t0 sp.history adopted b.marks (durable_of b) b.moment clock since

-- fewer blocks are touched, and where a group has left, none is
pub record IsLessTouched (b new : Books) (t u : ℕ → Bool) : Type 0 where
  pub fewer : (k : ℕ) → u k ≡ true → t k ≡ true
  pub barrier : (new.left ≡ b.left) ⊎ ((k : ℕ) → u k ≡ false)

-- the device is right after the call, with no block touched that wasn't, and each version reads as before
pub record IsRightOn (b new : Books) (t : ℕ → Bool) (st : State) (told : Option State) : Type 0 where
  pub touched : ℕ → Bool
  pub less : IsLessTouched b new t touched
  pub right : Tells told (λ s. IsRight new touched s × AreSame b st new s)

-- the device is right after a data write at a block, which is touched now, and each version reads elsewhere as before
abbrev pub IsWrittenAt : ℕ → Books → Books → (ℕ → Bool) → State → Option State → Type 0
IsWrittenAt block b new t st told = Tells told (λ s. IsRight new (touching block t) s × AreSameBut block b st new s)

-- What every call of a device says of time: a crash in it leaves a version at the latest touched blocks, one after it leaves what
-- the disk may leave then, and at most one mark is stored.
pub record Passes (b new : Books) (told after_it : Option State) (clock later : ℕ) (past since : ℕ → List ℕ → Type 0) (during : (ℕ → Bool) → ℕ → Bool) : Type 0 where
  pub meanwhile : (t : ℕ → Bool) → Tells told (IsRight b t) → Passed clock later past since (λ c. Tells told (λ s. RecoversOne b (during t) s c))
  pub now : (t : ℕ → Bool) (right : Tells after_it (IsRight new t)) (image : List ℕ) → MayLeave after_it image → RecoversOne new t right.0 image
  pub only : (c : List ℕ) → since later c → MayLeave after_it c
  pub moved : HasMoved clock b.moment later new.moment
  pub marked : Marked b.marks new.marks (durable_of new) new.moment

-- A call of a device that goes on, as its contract says it: a step, a read, or room.
pub record DeviceMoves (b new : Books) (told after_it : Option State) (clock later : ℕ) (past since : ℕ → List ℕ → Type 0) : Type 0 where
  pub steady : IsSteady new
  pub ahead : GoesOn b new
  pub stops : new.stop ≡ None → b.stop ≡ None
  pub right : (t : ℕ → Bool) (right : Tells told (IsRight b t)) → IsRightOn b new t right.0 after_it
  pub contents : (st next : State) → told ≡ Some st → after_it ≡ Some next → KeepsContents b new st next
  pub time : Passes b new told after_it clock later past since (λ t. t)

-- A data write of a device at a block, as its contract says it, whether it succeeded or failed.
pub record DeviceWrites (block : ℕ) (b new : Books) (told after_it : Option State) (clock later : ℕ) (past since : ℕ → List ℕ → Type 0) : Type 0 where
  pub rests : new ≡ record b { moment = new.moment; stop = new.stop }
  pub stops : new.stop ≡ None → b.stop ≡ None
  pub right : (t : ℕ → Bool) (right : Tells told (IsRight b t)) → IsWrittenAt block b new t right.0 after_it
  pub time : Passes b new told after_it clock later past since (touching block)
