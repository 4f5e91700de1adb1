-- What calls that add and remove numbers come to.
use Rattle.std.proofs.Common.{◌≡◌, ◌⊎◌, ◌≤◌, ◌<◌, ◌/◌, ◌%◌, ◌^◌, ℕ, ℤ, List, ◌∷◌, ◌++◌, length, Option, Some, None, IfSome, Bool, true, false, cond, ◌==◌, inl, inr, ap, sym, ◌∙◌, subst, arith}
use Rattle.std.specs.Int.{w64, cast_unsigned}
use Rattle.bfs_base.specs.Lists.{times}
use Rattle.bfs_base.specs.declared.kind.KeyKind.{KeyKind}
use Rattle.bfs_node.specs.Page.{Row}
use Rattle.bfs_txn.specs.Pages.{HasLength}
use Rattle.bfs_pages.specs.Answers.{IsChild}
use Rattle.bfs_pages.specs.Shapes.{Shape, leaves_of}
use Rattle.bfs_pages.specs.Trees.{state_of, IsTree}
use Rattle.bfs_pages.proofs.Leaves.{times-leaves}
use Rattle.bfs_pages.proofs.OfKind.{if_some, met-child}
use Rattle.bfs_values.specs.declared.link.Link.{Link}
use Rattle.bfs_values.specs.declared.link.Link.TheVariants.{Number, Fragment, Chain, Nothing}
use Rattle.bfs_values.specs.Links.{link_in, link_by, page_bits}
use Rattle.bfs_dups.specs.Slots.{SameBut}
use Rattle.bfs_values.specs.Chained.{IsLinked}
use Rattle.bfs_values.specs.Stored.{Stored, SameNumbers}
use Rattle.bfs_dups.specs.Written.{IsCleared, IsEmptied, IsVacated}
use Rattle.bfs_dups.proofs.Emptied.{emptied}
use Rattle.bfs_values.proofs.Opened.{Open, opened}
use Rattle.bfs_dups.proofs.Slotted.{cleared}

pub told-whole : (told : Option (List ℕ)) (size : ℕ) (b : List ℕ) → HasLength told size → size % 1024 ≡ 0 → told ≡ Some b → length b % 1024 ≡ 0
told-whole told size b h w e = ap (λ n. n % 1024) (if_some (λ (b : List ℕ). length b ≡ size) told b h e) ∙ w

pub told-some : {A : Type 0} (P : A → Type 0) (told : Option A) (b : A) → told ≡ Some b → P b → IfSome told P
told-some P told b e h = subst (λ o. IfSome o P) (sym e) h

pub some-any : {A : Type 0} (P : A → Type 0) (told : Option A) → ((x : A) → P x) → IfSome told P
some-any P None h = tt
some-any P (Some b) h = h b

pub some-both : {A B : Type 0} (P : B → A → Type 0) (o : Option B) (told : Option A) → ((x : A) → IfSome o (λ v. P v x)) → IfSome o (λ v. IfSome told (P v))
some-both P None told h = tt
some-both P (Some v) told h = some-any (P v) told h

abbrev pub page-of : Link → ℕ
page-of (Number n) = 0
page-of (Fragment p i) = p
page-of (Chain p) = p
page-of Nothing = 0

-- a page that a link names
pub link-small : (z : ℤ) (l : Link) → l ≡ link_in z → page-of l < 4611686018427387904
unfolding link_in
link-small z l e = subst (λ l. page-of l < 4611686018427387904) (sym e) (small (cast_unsigned w64 z / 2 ^ 62) (cast_unsigned w64 z))
  where
    bits : (n : ℕ) → page_bits n < 4611686018427387904
    bits n = omega arith

    by_tests : (a b c : Bool) (n : ℕ) → page-of (cond a (Number n) (cond b (Chain (page_bits n)) (cond c (Fragment (page_bits n) (n % 1024)) Nothing))) < 4611686018427387904
    by_tests true b c n = omega arith
    by_tests false true c n = bits n
    by_tests false false true n = bits n
    by_tests false false false n = omega arith

    small : (k n : ℕ) → page-of (link_by k n) < 4611686018427387904
    small k n = by_tests (k == 0) (k == 2) (k == 3) n

pub fragment-small : (z : ℤ) (p i : ℕ) → Fragment p i ≡ link_in z → p < 4611686018427387904
fragment-small z p i e = link-small z (Fragment p i) e

-- a value keeps its links where they are those of the link that it names
pub linked-row : (c : List ℕ) (new z : ℤ) (l : Link) → new ≡ z → link_in z ≡ l → IsLinked c l → IsLinked c (link_in new)
linked-row c new z l e is k = subst (IsLinked c) (sym (ap link_in e ∙ is)) k

-- the first page of a chain that a value names
pub first-small : (z : ℤ) (p : ℕ) → link_in z ≡ Chain p → p < 2 ^ 63
first-small z p e = let s = link-small z (Chain p) (sym e) in omega (arith, s)

-- a leaf of a tree is a page
pub leaf-child : (kind : KeyKind) (b reached : List ℕ) (t : Shape) (fs : List ℕ) (leaf : ℕ) → IsTree kind b reached t fs → 1 ≤ times leaf (leaves_of t) → IsChild (length b) leaf
leaf-child kind b reached t fs leaf tree i = met-child (state_of kind b) reached t fs leaf tree.holds.built (omega (arith, i, times-leaves leaf t))

-- a fragment is freed
pub vacated : (kind : KeyKind) (b m : List ℕ) (t : Shape) (front : List Row) (row : Row) (back : List Row) (p i n : ℕ) → Stored kind b t (front ++ (row ∷ back)) → link_in row.1 ≡ Fragment p i → length b % 1024 ≡ 0 → IsVacated b m p i
    → Open kind m t (front ++ back) (Number n) × SameNumbers b m (front ++ back)
vacated kind b m t front row back p i n s e wb v = by_case v
  where
    by_case : IsCleared b m p i ⊎ IsEmptied b m p i → Open kind m t (front ++ back) (Number n) × SameNumbers b m (front ++ back)
    by_case (inl f) = cleared kind b m t (front ++ back) p i n (subst (λ l. Open kind b t (front ++ back) l) e (opened kind b t front row back s)) wb f
    by_case (inr f) = emptied kind b m t (front ++ back) p i n (subst (λ l. Open kind b t (front ++ back) l) e (opened kind b t front row back s)) wb f

pub same-wider : (old new : List ℕ) (from to more : ℕ) → to ≤ more → SameBut old new from to → SameBut old new from more
same-wider old new from to more l s m (inl h) = s m (inl h)
same-wider old new from to more l s m (inr h) = s m (inr (omega (arith, h, l)))
