-- What each answer of a step tells.
use Rattle.std.specs.Prelude.{◌≡◌, ◌≤◌, ◌<◌, ℕ, ◌+◌, ◌*◌, List, [], ◌∷◌, ◌++◌, length, Option}
use Rattle.std.specs.Option.{option_map}
use Rattle.bfs_disk.specs.State.{State, settled}
use Rattle.bfs_disk.specs.Disk.{told_written}
use Rattle.bfs_device.specs.declared.journal.Progress.{Progress}
use Rattle.bfs_device.specs.declared.journal.Progress.TheVariants.{Logged, LogSafe, Opened, Durable, Home, HomeSafe, TailMoved, TailSafe, Idle}
use Rattle.bfs_device.specs.declared.journal.Mark.{Mark}
use Rattle.bfs_device.specs.Layouts.{Layout}
use Rattle.bfs_device.specs.Books.{Books, durable_of}

-- a block of the log was written
abbrev pub WroteLog : Layout → Option State → Option State → Type 0
WroteLog l old new = (b : ℕ) × (bytes : List ℕ) × (l.first ≤ b) × (b < l.first + l.len) × (length bytes ≡ 512 * l.sectors) × (new ≡ told_written old (l.sectors * b) bytes)

-- the superblock's sector was written
abbrev pub WroteSuper : Option State → Option State → Type 0
WroteSuper old new = (bytes : List ℕ) × (length bytes ≡ 512) × (new ≡ told_written old 1 bytes)

-- this block was written
abbrev pub WroteBlock : Layout → ℕ → Option State → Option State → Type 0
WroteBlock l b old new = (bytes : List ℕ) × (length bytes ≡ 512 * l.sectors) × (new ≡ told_written old (l.sectors * b) bytes)

-- a barrier succeeded
abbrev pub Settled : Option State → Option State → Type 0
Settled old new = new ≡ option_map settled old

-- the disk call that an answer tells
abbrev pub HasCalled : Layout → Option State → Option State → Progress → Type 0
HasCalled l old new Logged = WroteLog l old new
HasCalled l old new LogSafe = Settled old new
HasCalled l old new Opened = WroteSuper old new
HasCalled l old new (Durable n) = Settled old new
HasCalled l old new (Home b) = WroteBlock l b old new
HasCalled l old new HomeSafe = Settled old new
HasCalled l old new TailMoved = WroteSuper old new
HasCalled l old new TailSafe = Settled old new
HasCalled l old new Idle = new ≡ old

-- Durable(n) makes n durable and stores the mark of this moment; no other answer changes the durable number or the marks
abbrev pub HasMarked : Books → Books → Progress → Type 0
HasMarked old new Logged = (durable_of new ≡ durable_of old) × (new.marks ≡ old.marks)
HasMarked old new LogSafe = (durable_of new ≡ durable_of old) × (new.marks ≡ old.marks)
HasMarked old new Opened = (durable_of new ≡ durable_of old) × (new.marks ≡ old.marks)
HasMarked old new (Durable n) = (durable_of new ≡ n) × (new.marks ≡ old.marks ++ (let mark : Mark = record { moment = new.moment; number = n } in mark) ∷ [])
HasMarked old new (Home b) = (durable_of new ≡ durable_of old) × (new.marks ≡ old.marks)
HasMarked old new HomeSafe = (durable_of new ≡ durable_of old) × (new.marks ≡ old.marks)
HasMarked old new TailMoved = (durable_of new ≡ durable_of old) × (new.marks ≡ old.marks)
HasMarked old new TailSafe = (durable_of new ≡ durable_of old) × (new.marks ≡ old.marks)
HasMarked old new Idle = (durable_of new ≡ durable_of old) × (new.marks ≡ old.marks)

-- of so many calls left one was made; none is left where the device is idle
abbrev pub HasCounted : ℕ → ℕ → Progress → Type 0
HasCounted old new Logged = old ≡ new + 1
HasCounted old new LogSafe = old ≡ new + 1
HasCounted old new Opened = old ≡ new + 1
HasCounted old new (Durable n) = old ≡ new + 1
HasCounted old new (Home b) = old ≡ new + 1
HasCounted old new HomeSafe = old ≡ new + 1
HasCounted old new TailMoved = old ≡ new + 1
HasCounted old new TailSafe = old ≡ new + 1
HasCounted old new Idle = (old ≡ 0) × (new ≡ 0)
