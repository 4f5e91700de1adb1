-- Why a call on a tree in a stream is refused.
use Rattle.std.specs.Prelude.{◌≡◌, ◌<◌, ◌⊎◌, ◌%◌, ℕ, ℤ, pos, List, length, Option, None, Some, IfSome}
use Rattle.bfs_base.specs.declared.kind.KeyKind.{KeyKind}
use Rattle.bfs_bitmap.specs.Runs.{Room}
use Rattle.bfs_node.specs.Page.{Row, rows_of, row_in, value_of}
use Rattle.bfs_node.specs.Search.{key_at}
use Rattle.bfs_node.specs.declared.fault.PageKind.{PageKind}
use Rattle.bfs_node.specs.declared.fault.PageKind.TheVariants.{Header, Interior, Leaf, Fragment, Duplicates}
use Rattle.bfs_node.specs.declared.fault.TreeFault.{TreeFault}
use Rattle.bfs_node.specs.declared.fault.TreeFault.TheVariants.{Exists, Absent, Damaged, Pages, NoMemory}
use Rattle.bfs_txn.specs.Faults.{Counts}
use Rattle.bfs_txn.specs.declared.fault.BlockFault.TheVariants as block
use Rattle.bfs_pages.specs.Answers.{IsOfKind, IsUnlike}
use Rattle.bfs_pages.specs.Maps.{assoc}
use Rattle.bfs_pages.specs.Order.{Key}
use Rattle.bfs_stream.specs.Faults.{IsGrowCause}
use Rattle.bfs_stream.specs.Places.{fields}
use Rattle.bfs_stream.specs.Sizes.{Origin}
use Rattle.bfs_stream.specs.Told.{contents}
use Rattle.bfs_stream.specs.declared.fault.GrowFault.{GrowFault}
use Rattle.bfs_stream.specs.declared.fault.GrowFault.TheVariants as grow
use Rattle.bfs_stream_pages.specs.Causes.{HasFailed, IsOfBlock}
use Rattle.bfs_stream_pages.specs.Held.{stream_of}
use Rattle.bfs_stream_pages.specs.Steps.{IsUndamaged}
use Rattle.bfs_values.specs.Kinds.{IsValueOf}
use Rattle.bfs_maps.specs.NumberTrees.{IsNumber}

-- the page at this byte is of this kind, in a tree whose values are numbers
abbrev pub IsNumberPage : KeyKind → List ℕ → ℕ → PageKind → Type 0
IsNumberPage kind bytes at Header = IsOfKind kind bytes at Header
IsNumberPage kind bytes at Interior = IsOfKind kind bytes at Interior
IsNumberPage kind bytes at Leaf = IsOfKind kind bytes at Leaf × ((value : ℤ) → IsValueOf kind bytes at value → IsNumber value)
IsNumberPage kind bytes at Fragment = IsOfKind kind bytes at Fragment
IsNumberPage kind bytes at Duplicates = IsOfKind kind bytes at Duplicates

-- a page isn't of its kind, or a call of the pages failed
abbrev pub IsUnnumbered : {F : Type 0} → KeyKind → Option (List ℕ) → (F → Type 0) → TreeFault F → Type 0
IsUnnumbered kind told cause Exists = ⊥
IsUnnumbered kind told cause Absent = ⊥
IsUnnumbered kind told cause (Damaged page sort) = IfSome told (λ bytes. ¬ IsNumberPage kind bytes page sort)
IsUnnumbered kind told cause (Pages fault) = cause fault
IsUnnumbered kind told cause NoMemory = ⊥

-- these bytes have a row with this key, whose value is no number
abbrev pub HasNoNumber : Key → List ℕ → Type 0
HasNoNumber key page = (i : ℕ) × (i < length (rows_of page)) × (key_at (rows_of page) i ≡ key) × (¬ IsNumber (value_of (row_in (rows_of page) i)))

-- these bytes are no page of this kind, or a leaf that has this key without a number
abbrev pub IsUnlikeFor : KeyKind → Key → ℕ → List ℕ → PageKind → Type 0
IsUnlikeFor kind key size page Header = IsUnlike kind size page Header
IsUnlikeFor kind key size page Interior = IsUnlike kind size page Interior
IsUnlikeFor kind key size page Leaf = IsUnlike kind size page Leaf ⊎ HasNoNumber key page
IsUnlikeFor kind key size page Fragment = IsUnlike kind size page Fragment
IsUnlikeFor kind key size page Duplicates = IsUnlike kind size page Duplicates

-- the page that is blamed is the one that was read last, and the bytes that were read are no page of its kind, or a leaf that has
-- the key without a number; or the stream has no pages, and it is the header
abbrev pub IsBrokenFor : {F : Type 0} → KeyKind → Key → ℕ → ℕ → List ℕ → TreeFault F → Type 0
IsBrokenFor kind key size last seen Exists = Unit {0}
IsBrokenFor kind key size last seen Absent = Unit {0}
IsBrokenFor kind key size last seen (Damaged page sort) = ((page ≡ last) × IsUnlikeFor kind key size seen sort) ⊎ ((size ≡ 0) × (page ≡ 0) × (sort ≡ Header))
IsBrokenFor kind key size last seen (Pages fault) = Unit {0}
IsBrokenFor kind key size last seen NoMemory = Unit {0}

-- where the key isn't there, the stream stays; else a page isn't of its kind, or a call of the pages failed
abbrev pub IsTurnedAway : {F : Type 0} → KeyKind → Option (List ℕ) → Option (List ℕ) → (F → Type 0) → TreeFault F → Type 0
IsTurnedAway kind told now cause Exists = ⊥
IsTurnedAway kind told now cause Absent = now ≡ told
IsTurnedAway kind told now cause (Damaged page sort) = IfSome now (λ bytes. ¬ IsNumberPage kind bytes page sort)
IsTurnedAway kind told now cause (Pages fault) = cause fault
IsTurnedAway kind told now cause NoMemory = ⊥

-- a number wasn't put among rows: its key is there, or a call of the pages failed, or there is no room for a number
abbrev pub IsNotPut : {F : Type 0} → KeyKind → List Row → Key → TreeFault F → Type 0
IsNotPut kind rows key Exists = (value : ℤ) × (assoc kind rows key ≡ Some value)
IsNotPut kind rows key Absent = ⊥
IsNotPut kind rows key (Damaged page sort) = ⊥
IsNotPut kind rows key (Pages fault) = Unit {0}
IsNotPut kind rows key NoMemory = Unit {0}

-- a row wasn't taken: its key isn't there, or a call of the pages failed
abbrev pub IsNotTaken : {F : Type 0} → KeyKind → List Row → Key → TreeFault F → Type 0
IsNotTaken kind rows key Exists = ⊥
IsNotTaken kind rows key Absent = assoc kind rows key ≡ None
IsNotTaken kind rows key (Damaged page sort) = ⊥
IsNotTaken kind rows key (Pages fault) = Unit {0}
IsNotTaken kind rows key NoMemory = ⊥

-- A number wasn't put into a map: its key is there; or a block could not be had, or a page added, for a reason. Where the key is
-- there, no page was to be added: a block could not be had, and none is damaged.
abbrev pub IsPutFault : KeyKind → Origin → Room → (ℕ → Option (List ℕ)) → List Row → Key → TreeFault GrowFault → Type 0
IsPutFault kind o v m rows key Exists = (value : ℤ) × (assoc kind rows key ≡ Some value)
IsPutFault kind o v m rows key Absent = ⊥
IsPutFault kind o v m rows key (Damaged page sort) = ⊥
IsPutFault kind o v m rows key (Pages fault) = HasFailed o v m fault × ((value : ℤ) → assoc kind rows key ≡ Some value → IsUndamaged fault)
IsPutFault kind o v m rows key NoMemory = Unit {0}

-- a row wasn't taken out of a map: its key isn't there; or a block could not be had, and none is damaged
abbrev pub IsTakeFault : KeyKind → List Row → Key → TreeFault GrowFault → Type 0
IsTakeFault kind rows key Exists = ⊥
IsTakeFault kind rows key Absent = assoc kind rows key ≡ None
IsTakeFault kind rows key (Damaged page sort) = ⊥
IsTakeFault kind rows key (Pages fault) = IsUndamaged fault
IsTakeFault kind rows key NoMemory = Unit {0}

-- a map was not read, or a pair not taken out of an index: a block could not be had, and none is damaged; or there is no room for
-- the answer, or for a number
abbrev pub IsUndone : TreeFault GrowFault → Type 0
IsUndone Exists = ⊥
IsUndone Absent = ⊥
IsUndone (Damaged page sort) = ⊥
IsUndone (Pages fault) = IsUndamaged fault
IsUndone NoMemory = Unit {0}

-- the size of a stream wasn't had: no block is damaged; or it is the inode, whose stream isn't of whole pages
abbrev pub IsUnsized : Origin → (ℕ → Option (List ℕ)) → GrowFault → Type 0
IsUnsized o m fault = IsUndamaged fault ⊎ ((fault ≡ grow.Block (block.Damaged o.id)) × ((n : ℕ) → (fields o.sizes (contents m) o.id).size ≡ pos n → n % 1024 ≡ 0 → ⊥))

-- a tree in a stream that is told was not read: a page isn't as it has to be; or the stream isn't of whole pages; or a block
-- could not be had, and none is damaged; or there is no room for the answer
abbrev pub IsReadFault : (ℕ → PageKind → Type 0) → Origin → (ℕ → Option (List ℕ)) → TreeFault GrowFault → Type 0
IsReadFault good o m Exists = ⊥
IsReadFault good o m Absent = ⊥
IsReadFault good o m (Damaged page sort) = ¬ good page sort
IsReadFault good o m (Pages fault) = IsUnsized o m fault
IsReadFault good o m NoMemory = Unit {0}

-- Why a call that changes a tree in a held stream is refused, whatever the stream's bytes are: a page isn't as it has to be in
-- the stream since, or one could not be added before, for a reason; or the stream isn't of whole pages; or a block could not be
-- had, or a page added, for a reason.
abbrev pub IsChangeFault : (List ℕ → ℕ → PageKind → Type 0) → Origin → Room → (ℕ → Option (List ℕ)) → Option (ℕ → Option (List ℕ)) → TreeFault GrowFault → Type 0
IsChangeFault good o v m told Exists = Unit {0}
IsChangeFault good o v m told Absent = Unit {0}
IsChangeFault good o v m told (Damaged page sort) = IfSome told (λ map. ¬ good (stream_of o map) page sort) ⊎ ((fault : GrowFault) × HasFailed o v m fault)
IsChangeFault good o v m told (Pages fault) = IsUnsized o m fault ⊎ HasFailed o v m fault
IsChangeFault good o v m told NoMemory = Unit {0}

-- Why a call that takes from a tree in a held stream is refused, whatever the stream's bytes are: a page isn't as it has to be in
-- the stream since; or the stream isn't of whole pages; or a block could not be had, and none is damaged. No page is added.
abbrev pub IsTakingFault : (List ℕ → ℕ → PageKind → Type 0) → Origin → (ℕ → Option (List ℕ)) → Option (ℕ → Option (List ℕ)) → TreeFault GrowFault → Type 0
IsTakingFault good o m told Exists = Unit {0}
IsTakingFault good o m told Absent = Unit {0}
IsTakingFault good o m told (Damaged page sort) = IfSome told (λ map. ¬ good (stream_of o map) page sort)
IsTakingFault good o m told (Pages fault) = IsUnsized o m fault
IsTakingFault good o m told NoMemory = Unit {0}

-- the causes of a fault in what lies below, of a call that reads, of one that puts and of one that takes: only one that puts
-- answers that a key is there, and only one that takes that it isn't; and only one that puts asks for a run
abbrev pub HasReadCause : Counts → Counts → TreeFault GrowFault → Type 0
HasReadCause old new Exists = ⊥
HasReadCause old new Absent = ⊥
HasReadCause old new (Damaged page sort) = Unit {0}
HasReadCause old new (Pages fault) = IsOfBlock fault × IsGrowCause 1 old new fault
HasReadCause old new NoMemory = Unit {0}

abbrev pub HasPutCause : Counts → Counts → TreeFault GrowFault → Type 0
HasPutCause old new Exists = Unit {0}
HasPutCause old new Absent = ⊥
HasPutCause old new (Damaged page sort) = Unit {0}
HasPutCause old new (Pages fault) = IsGrowCause 1 old new fault
HasPutCause old new NoMemory = Unit {0}

abbrev pub HasTakeCause : Counts → Counts → TreeFault GrowFault → Type 0
HasTakeCause old new Exists = ⊥
HasTakeCause old new Absent = Unit {0}
HasTakeCause old new (Damaged page sort) = Unit {0}
HasTakeCause old new (Pages fault) = IsOfBlock fault × IsGrowCause 1 old new fault
HasTakeCause old new NoMemory = Unit {0}
