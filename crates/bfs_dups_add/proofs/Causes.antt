-- Why calls are refused, one after another.
use Rattle.std.proofs.Common.{◌≤◌, ◌<◌, ℕ, List, Option, Some, None, IfSome, inl, inr, arith}
use Rattle.bfs_base.specs.declared.kind.KeyKind.{KeyKind}
use Rattle.bfs_node.specs.declared.fault.PageKind.{PageKind}
use Rattle.bfs_node.specs.declared.fault.PageKind.TheVariants.{Header, Interior, Leaf, Fragment, Duplicates}
use Rattle.bfs_node.specs.declared.fault.TreeFault.{TreeFault}
use Rattle.bfs_node.specs.declared.fault.TreeFault.TheVariants.{Exists, Absent, Damaged, Pages, NoMemory}
use Rattle.bfs_txn.specs.Pages.{HasLength}
use Rattle.bfs_pages.specs.Answers.{IsOfKind, IsOfPages, IsRefused, IsOutgrown, IsSpared}
use Rattle.bfs_pages.specs.Writes.{IsFailed}
use Rattle.bfs_values.specs.Kinds.{IsWanted, IsCut}
use Rattle.bfs_values.specs.Stored.{IsTooLong, IsScant}

outgrown : (told : Option (List ℕ)) → IfSome told IsOutgrown → IfSome told IsTooLong
outgrown None h = tt
outgrown (Some b) h = inr h

pub spared-scant : {F : Type 0} (told : Option (List ℕ)) (fault : TreeFault F) → IsSpared told fault → IsScant told fault
spared-scant told Exists u = u
spared-scant told Absent u = u
spared-scant told (Damaged page sort) u = u
spared-scant told (Pages fault) u = tt
spared-scant told NoMemory u = outgrown told u

pub pages-scant : {F : Type 0} (told : Option (List ℕ)) (fault : TreeFault F) → IsOfPages fault → IsScant told fault
pages-scant told Exists u = u
pages-scant told Absent u = u
pages-scant told (Damaged page sort) u = u
pages-scant told (Pages fault) u = tt
pages-scant told NoMemory u = absurd u

pub failed-scant : {F : Type 0} (told : Option (List ℕ)) (cause : F → Type 0) (fault : TreeFault F) → IsFailed cause fault → IsScant told fault
failed-scant told cause Exists u = u
failed-scant told cause Absent u = u
failed-scant told cause (Damaged page sort) u = u
failed-scant told cause (Pages fault) u = tt
failed-scant told cause NoMemory u = absurd u

-- a page at this byte is so far out that it has no link
pub long-scant : (told : Option (List ℕ)) (size at : ℕ) → HasLength told size → at < size → 4611686018427387904 ≤ at → IfSome told IsTooLong
long-scant None size at h l m = tt
long-scant (Some b) size at h l m = inl (omega (arith, h, l, m))

-- a page that isn't of its kind isn't as it is wanted
not-wanted : (kind : KeyKind) (b : List ℕ) (at : ℕ) (sort : PageKind) → (IsOfKind kind b at sort → ⊥) → IsWanted kind b at sort → ⊥
not-wanted kind b at Header n w = n w
not-wanted kind b at Interior n w = n w
not-wanted kind b at Leaf n w = n w.0
not-wanted kind b at Fragment n w = n tt
not-wanted kind b at Duplicates n w = n tt

if-not : (kind : KeyKind) (told : Option (List ℕ)) (at : ℕ) (sort : PageKind) → IfSome told (λ b. IsOfKind kind b at sort → ⊥) → IfSome told (λ b. IsWanted kind b at sort → ⊥)
if-not kind None at sort n = tt
if-not kind (Some b) at sort n = not-wanted kind b at sort n

pub refused-cut : {F : Type 0} (kind : KeyKind) (told : Option (List ℕ)) (cause before : F → Type 0) (fault : TreeFault F) → ((f : F) → cause f → before f) → IsRefused kind told cause fault → IsCut kind told before fault
refused-cut kind told cause before Exists m u = u
refused-cut kind told cause before Absent m u = u
refused-cut kind told cause before (Damaged page sort) m u = if-not kind told page sort u
refused-cut kind told cause before (Pages fault) m u = m fault u
refused-cut kind told cause before NoMemory m u = tt

pub failed-cut : {F : Type 0} (kind : KeyKind) (told : Option (List ℕ)) (cause before : F → Type 0) (fault : TreeFault F) → ((f : F) → cause f → before f) → IsFailed cause fault → IsCut kind told before fault
failed-cut kind told cause before Exists m u = u
failed-cut kind told cause before Absent m u = u
failed-cut kind told cause before (Damaged page sort) m u = absurd u
failed-cut kind told cause before (Pages fault) m u = m fault u
failed-cut kind told cause before NoMemory m u = absurd u

pub refused-before : {F : Type 0} (kind : KeyKind) (told : Option (List ℕ)) (cause before : F → Type 0) (fault : TreeFault F) → ((f : F) → cause f → before f) → IsRefused kind told cause fault → IsRefused kind told before fault
refused-before kind told cause before Exists m u = u
refused-before kind told cause before Absent m u = u
refused-before kind told cause before (Damaged page sort) m u = u
refused-before kind told cause before (Pages fault) m u = m fault u
refused-before kind told cause before NoMemory m u = tt
