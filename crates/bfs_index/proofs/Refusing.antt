-- Why a call on the pages of an index was refused, from why the calls below were.
use Rattle.std.proofs.Common.{◌≡◌, ◌∙◌, ℕ, List, Option, Some, None, refl, sym, subst}
use Rattle.std.specs.Prelude.{IfSome}
use Rattle.bfs_base.specs.declared.kind.KeyKind.{KeyKind}
use Rattle.bfs_node.specs.Page.{rows_of}
use Rattle.bfs_node.specs.declared.fault.PageKind.{PageKind}
use Rattle.bfs_node.specs.declared.fault.PageKind.TheVariants.{Header, Interior, Leaf, Fragment, Duplicates}
use Rattle.bfs_node.specs.declared.fault.TreeFault.{TreeFault}
use Rattle.bfs_node.specs.declared.fault.TreeFault.TheVariants.{Exists, Absent, Damaged, Pages, NoMemory}
use Rattle.bfs_insert.specs.Puts.{IsHindered}
use Rattle.bfs_insert.specs.Puts as insert
use Rattle.bfs_pages.specs.Answers.{IsOfKind, IsOfPages, IsUnread}
use Rattle.bfs_pages.specs.Maps.{assoc}
use Rattle.bfs_pages.specs.Order.{Key}
use Rattle.bfs_pages.specs.Shapes.{Shape}
use Rattle.bfs_pages.specs.Trees.{page_in}
use Rattle.bfs_pages.specs.Ways.{KeysAscend}
use Rattle.bfs_remove.specs.Removed.{IsWithheld, IsNotTaken}
use Rattle.bfs_values.specs.Kinds.{IsWanted, IsCut, IsLacking}
use Rattle.bfs_values.specs.Sets.{IsNotValued}
use Rattle.bfs_values.specs.Stored.{IsScant}
use Rattle.bfs_index.specs.Refused.{IsPairPage, IsUnpaired}

-- a page that isn't of its kind isn't as a reader of pairs wants it
kind_bad : (kind : KeyKind) (key : Key) (b : List ℕ) (page : ℕ) (sort : PageKind) → ¬ IsOfKind kind b page sort → ¬ IsPairPage kind key b page sort
kind_bad kind key b page Header bad = bad
kind_bad kind key b page Interior bad = bad
kind_bad kind key b page Leaf bad = λ good. bad good.0.0
kind_bad kind key b page Fragment bad = absurd (bad tt)
kind_bad kind key b page Duplicates bad = absurd (bad tt)

wanted_bad : (kind : KeyKind) (key : Key) (b : List ℕ) (page : ℕ) (sort : PageKind) → ¬ IsWanted kind b page sort → ¬ IsPairPage kind key b page sort
wanted_bad kind key b page Header bad = bad
wanted_bad kind key b page Interior bad = bad
wanted_bad kind key b page Leaf bad = λ good. bad good.0
wanted_bad kind key b page Fragment bad = bad
wanted_bad kind key b page Duplicates bad = bad

some_more : (told : Option (List ℕ)) (P Q : List ℕ → Type 0) → ((b : List ℕ) → P b → Q b) → IfSome told P → IfSome told Q
some_more None P Q f h = tt
some_more (Some b) P Q f h = f b h

-- a leaf that lacks the key
pub lacks_bad : (kind : KeyKind) (key : Key) (told : Option (List ℕ)) (leaf : ℕ) → IfSome told (λ b. KeysAscend kind (rows_of (page_in b leaf)) → assoc kind (rows_of (page_in b leaf)) key ≡ None) → IfSome told (λ b. ¬ IsPairPage kind key b leaf Leaf)
lacks_bad kind key told leaf h = some_more told (λ b. KeysAscend kind (rows_of (page_in b leaf)) → assoc kind (rows_of (page_in b leaf)) key ≡ None) (λ b. ¬ IsPairPage kind key b leaf Leaf) (λ b none good. differ (sym (none good.1.0) ∙ good.1.1.1)) h
  where
    differ : {A : Type 0} {x : A} → None ≡ Some x → ⊥
    differ e = cc

pub kind_unpaired : (kind : KeyKind) (key : Key) (told : Option (List ℕ)) (page : ℕ) (sort : PageKind) → IfSome told (λ b. ¬ IsOfKind kind b page sort) → IfSome told (λ b. ¬ IsPairPage kind key b page sort)
kind_unpaired kind key told page sort h = some_more told (λ b. ¬ IsOfKind kind b page sort) (λ b. ¬ IsPairPage kind key b page sort) (λ b. kind_bad kind key b page sort) h

pub wanted_unpaired : (kind : KeyKind) (key : Key) (told : Option (List ℕ)) (page : ℕ) (sort : PageKind) → IfSome told (λ b. ¬ IsWanted kind b page sort) → IfSome told (λ b. ¬ IsPairPage kind key b page sort)
wanted_unpaired kind key told page sort h = some_more told (λ b. ¬ IsWanted kind b page sort) (λ b. ¬ IsPairPage kind key b page sort) (λ b. wanted_bad kind key b page sort) h

module _ {F : Type 0} (kind : KeyKind) (key : Key) where
  pub unread_unpaired : (told : Option (List ℕ)) (cause : F → Type 0) (fault : TreeFault F) → IsUnread kind told cause fault → IsUnpaired kind key told cause fault
  unread_unpaired told cause Exists why = why
  unread_unpaired told cause Absent why = why
  unread_unpaired told cause (Damaged page sort) why = kind_unpaired kind key told page sort why
  unread_unpaired told cause (Pages f) why = why
  unread_unpaired told cause NoMemory why = tt

  pub cut_unpaired : (told : Option (List ℕ)) (cause : F → Type 0) (fault : TreeFault F) → IsCut kind told cause fault → IsUnpaired kind key told cause fault
  cut_unpaired told cause Exists why = why
  cut_unpaired told cause Absent why = why
  cut_unpaired told cause (Damaged page sort) why = wanted_unpaired kind key told page sort why
  cut_unpaired told cause (Pages f) why = why
  cut_unpaired told cause NoMemory why = tt

  pub hindered_unpaired : (told now : Option (List ℕ)) (cause : F → Type 0) (fault : TreeFault F) → (fault ≡ Exists → ⊥) → IsHindered kind told now cause fault → IsUnpaired kind key now cause fault
  hindered_unpaired told now cause Exists other why = absurd (other refl)
  hindered_unpaired told now cause Absent other why = why
  hindered_unpaired told now cause (Damaged page sort) other why = kind_unpaired kind key now page sort why
  hindered_unpaired told now cause (Pages f) other why = why
  hindered_unpaired told now cause NoMemory other why = tt

  pub withheld_unpaired : (told now : Option (List ℕ)) (cause : F → Type 0) (fault : TreeFault F) → (fault ≡ Absent → ⊥) → IsWithheld kind told now cause fault → IsUnpaired kind key now cause fault
  withheld_unpaired told now cause Exists other why = why
  withheld_unpaired told now cause Absent other why = absurd (other refl)
  withheld_unpaired told now cause (Damaged page sort) other why = kind_unpaired kind key now page sort why
  withheld_unpaired told now cause (Pages f) other why = why
  withheld_unpaired told now cause NoMemory other why = tt

  -- the cause of a call's failure is one of all calls up to it
  pub unpaired_before : (told : Option (List ℕ)) (cause before : F → Type 0) (fault : TreeFault F) → ((f : F) → cause f → before f) → IsUnpaired kind key told cause fault → IsUnpaired kind key told before fault
  unpaired_before told cause before Exists from why = why
  unpaired_before told cause before Absent from why = why
  unpaired_before told cause before (Damaged page sort) from why = why
  unpaired_before told cause before (Pages f) from why = from f why
  unpaired_before told cause before NoMemory from why = tt

-- where the value of a row wasn't written
now_told : (told now : Option (List ℕ)) (P : List ℕ → Type 0) → now ≡ told → IfSome told P → IfSome now P
now_told told now P e h = subst (λ (o : Option (List ℕ)). IfSome o P) (sym e) h

pub valued_absent : {F : Type 0} (kind : KeyKind) (key : Key) (told now : Option (List ℕ)) (cause : F → Type 0) (leaf : ℕ) → IsNotValued kind told now cause leaf key Absent → IfSome now (λ b. ¬ IsPairPage kind key b leaf Leaf)
valued_absent kind key told now cause leaf why = now_told told now (λ b. ¬ IsPairPage kind key b leaf Leaf) why.0 (lacks_bad kind key told leaf why.1)

pub valued_unpaired : {F : Type 0} (kind : KeyKind) (key : Key) (told now : Option (List ℕ)) (cause : F → Type 0) (leaf : ℕ) (fault : TreeFault F) → (fault ≡ Absent → ⊥) → IsNotValued kind told now cause leaf key fault → IsUnpaired kind key now cause fault
valued_unpaired kind key told now cause leaf Exists other why = why
valued_unpaired kind key told now cause leaf Absent other why = absurd (other refl)
valued_unpaired kind key told now cause leaf (Damaged page sort) other why = now_told told now (λ b. ¬ IsPairPage kind key b page sort) why.0 (kind_unpaired kind key told page sort why.1)
valued_unpaired kind key told now cause leaf (Pages f) other why = why
valued_unpaired kind key told now cause leaf NoMemory other why = tt

pub untaken_pages : {F : Type 0} (kind : KeyKind) (t : Shape) (key : Key) (fault : TreeFault F) → (fault ≡ Absent → ⊥) → IsNotTaken kind t key fault → IsOfPages fault
untaken_pages kind t key Exists other why = why
untaken_pages kind t key Absent other why = absurd (other refl)
untaken_pages kind t key (Damaged page sort) other why = why
untaken_pages kind t key (Pages f) other why = tt
untaken_pages kind t key NoMemory other why = why

pub scant_lacking : {F : Type 0} (told : Option (List ℕ)) (fault : TreeFault F) → IsScant told fault → IsLacking fault
scant_lacking told Exists why = why
scant_lacking told Absent why = why
scant_lacking told (Damaged page sort) why = why
scant_lacking told (Pages f) why = tt
scant_lacking told NoMemory why = tt

pub unput_lacking : {F : Type 0} (kind : KeyKind) (t : Shape) (key : Key) (now : Option (List ℕ)) (fault : TreeFault F) → (fault ≡ Exists → ⊥) → insert.IsNotPut kind t key now fault → IsLacking fault
unput_lacking kind t key now Exists other why = absurd (other refl)
unput_lacking kind t key now Absent other why = why
unput_lacking kind t key now (Damaged page sort) other why = why
unput_lacking kind t key now (Pages f) other why = tt
unput_lacking kind t key now NoMemory other why = tt
