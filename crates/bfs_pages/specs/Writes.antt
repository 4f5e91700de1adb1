-- What a call makes of the bytes of a stream.
use Rattle.std.specs.Prelude.{◌≡◌, ◌≢◌, ◌≤◌, ◌+◌, ◌⊎◌, ℕ, List, length, Option, Some, ◌==◌, if◌then◌else◌}
use Rattle.bfs_node.specs.declared.header.Header.{Header}
use Rattle.bfs_node.specs.declared.fault.TreeFault.{TreeFault}
use Rattle.bfs_node.specs.declared.fault.TreeFault.TheVariants.{Exists, Absent, Damaged, Pages, NoMemory}
use Rattle.bfs_txn.specs.Faults.{Counts, AreLater}
use Rattle.bfs_node.specs.Lists.{times}
use Rattle.bfs_node.specs.BaseKeyKind.{KeyKind}
use Rattle.bfs_pages.specs.Changes.{Taken}
use Rattle.bfs_pages.specs.Trees.{page_in, header_in, state_of}

-- where the bytes are told before it, they are told behind it, and stand in this relation
abbrev pub Makes : Option (List ℕ) → Option (List ℕ) → (List ℕ → List ℕ → Type 0) → Type 0
Makes told now R = (b : List ℕ) → told ≡ Some b → (c : List ℕ) × (now ≡ Some c) × R b c

-- a page other than the header is written
pub record PageSet (b c : List ℕ) (at : ℕ) (page : List ℕ) : Type 0 where
  pub size : length c ≡ length b
  pub header : header_in c ≡ header_in b
  pub pages : (x : ℕ) → page_in c x ≡ (if x == at then page else page_in b x)

-- the header is written
pub record HeaderSet (b c : List ℕ) (h : Header) : Type 0 where
  pub size : length c ≡ length b
  pub header : header_in c ≡ h
  pub pages : (x : ℕ) → page_in c x ≡ page_in b x

-- a page is added at the end
pub record PageAdded (b c page : List ℕ) : Type 0 where
  pub size : length c ≡ length b + 1024
  pub header : header_in c ≡ header_in b
  pub pages : (x : ℕ) → page_in c x ≡ (if x == length b then page else page_in b x)

-- what calls keep: counts do not fall, and what no call changes stays
pub record Kept (old new : Counts) (frame now : List ℕ) (on : Type 0) : Type 0 where
  pub counts : AreLater old new
  pub frame_is : now ≡ frame
  pub goes_on : on

-- a call of the pages failed
abbrev pub IsFailed : {F : Type 0} → (F → Type 0) → TreeFault F → Type 0
IsFailed cause Exists = ⊥
IsFailed cause Absent = ⊥
IsFailed cause (Damaged page sort) = ⊥
IsFailed cause (Pages fault) = cause fault
IsFailed cause NoMemory = ⊥

-- a page is taken: the header is this one since, and pages but that one stay
pub record IsTaken (kind : KeyKind) (b c : List ℕ) (q : ℕ) (h : Header) : Type 0 where
  pub header : header_in c ≡ h
  pub same_levels : (header_in c).levels ≡ (header_in b).levels
  pub taken : Taken (state_of kind b) (state_of kind c) q
  pub others : (x : ℕ) → x ≢ q → page_in c x ≡ page_in b x

-- a stream has as many bytes, or a page more
abbrev pub IsGrown : ℕ → ℕ → Type 0
IsGrown n m = (m ≡ n) ⊎ (m ≡ n + 1024)

-- the page beside is written, where there is one
pub record BesideSet (b c : List ℕ) (at : ℕ) (page : List ℕ) : Type 0 where
  pub size : length c ≡ length b
  pub header : header_in c ≡ header_in b
  pub pages : (x : ℕ) → 1 ≤ x → page_in c x ≡ (if x == at then page else page_in b x)

-- the pages of a list are as they were
abbrev pub SamePages : List ℕ → List ℕ → List ℕ → Type 0
SamePages reached b c = (x : ℕ) → 1 ≤ times x reached → page_in c x ≡ page_in b x
