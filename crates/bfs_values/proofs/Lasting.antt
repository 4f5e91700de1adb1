-- Calls that read, one after the other, and why they are refused.
use Rattle.std.proofs.Common.{◌≡◌, ℕ, List, Option, Some, None, IfSome, length, refl, ap, sym, subst, ◌∙◌, arith}
use Rattle.bfs_base.specs.declared.kind.KeyKind.{KeyKind}
use Rattle.bfs_node.specs.declared.fault.TreeFault.{TreeFault}
use Rattle.bfs_node.specs.declared.fault.TreeFault.TheVariants.{Exists, Absent, Damaged, Pages, NoMemory}
use Rattle.bfs_pages.specs.Faults.{Counts}
use Rattle.bfs_pages.specs.Pages.{page_at, IsPageAt, HasLength}
use Rattle.bfs_pages.specs.Answers.{IsChild, IsLink, IsOfPages}
use Rattle.bfs_pages.specs.Trees.{page_in, neighbours_in}
use Rattle.bfs_pages.proofs.OfKind.{if_some}
use Rattle.bfs_pages.proofs.Reading.{page-there}
use Rattle.bfs_pages.proofs.Later.{later-twice}
use Rattle.bfs_values.specs.Values.{next_of}
use Rattle.bfs_values.specs.Kinds.{IsCut, IsLacking, Stays}

pub stays-none : {t : Option (List ℕ)} {s : ℕ} {c : Counts} {f : List ℕ} {on read : Type 0} → on → read → Stays t t s s c c f f on read
stays-none on read = record { told_is = refl; size_is = refl; counts = record { faults = omega arith; stops = refl; stop = refl }; frame_is = refl; goes_on = on; is_read = read }

pub stays-twice : {t u v : Option (List ℕ)} {a b c : ℕ} {x y z : Counts} {f g h : List ℕ} {on more all read next reads : Type 0} → Stays t u a b x y f g on read → Stays u v b c y z g h more next → (on → more → all) → (read → next → reads) → Stays t v a c x z f h all reads
stays-twice s r both reads = record {
  told_is = r.told_is ∙ s.told_is;
  size_is = r.size_is ∙ s.size_is;
  counts = later-twice s.counts r.counts;
  frame_is = r.frame_is ∙ s.frame_is;
  goes_on = both s.goes_on r.goes_on;
  is_read = reads s.is_read r.is_read;
}

-- the fault of a later call has a cause since the first
pub cut-before : {F : Type 0} (kind : KeyKind) (told : Option (List ℕ)) (cause before : F → Type 0) (fault : TreeFault F) → ((f : F) → cause f → before f) → IsCut kind told cause fault → IsCut kind told before fault
cut-before kind told cause before Exists m u = u
cut-before kind told cause before Absent m u = u
cut-before kind told cause before (Damaged page sort) m u = u
cut-before kind told cause before (Pages fault) m u = m fault u
cut-before kind told cause before NoMemory m u = u

pub none-cut : {A : Type 0} (P : A → Type 0) (told : Option A) → ((b : A) → told ≡ Some b → P b) → IfSome told P
none-cut P None f = tt
none-cut P (Some b) f = f b refl

-- the page that was read is the one told
pub read-page : (told : Option (List ℕ)) (size at : ℕ) (page : List ℕ) → HasLength told size → IsPageAt told at page → IsChild size at → (b : List ℕ) → told ≡ Some b → (length b ≡ size) × (page ≡ page_in b at)
read-page told size at page l r p b e =
    let n : length b ≡ size = if_some (λ (b : List ℕ). length b ≡ size) told b l e in
    (n, if_some (λ (b : List ℕ). page ≡ page_at b at) told b r e ∙ sym (page-there b at size n p))

pub link-there : (b page : List ℕ) (at size next : ℕ) → length b ≡ size → page ≡ page_in b at → next ≡ (neighbours_in page).1 → IsLink (length b) (next_of b at) → IsLink size next
link-there b page at size next n r e l = subst (λ z. IsLink size z) (sym (e ∙ ap (λ z. (neighbours_in z).1) r)) (subst (λ z. IsLink z (next_of b at)) n l)

pub pages-lacking : {F : Type 0} (fault : TreeFault F) → IsOfPages fault → IsLacking fault
pages-lacking Exists u = u
pages-lacking Absent u = u
pages-lacking (Damaged page sort) u = u
pages-lacking (Pages fault) u = tt
pages-lacking NoMemory u = absurd u
