-- A key that was looked up in the leaf on its way.
use Rattle.std.proofs.Common.{◌≡◌, ◌<◌, ◌∙◌, ℕ, ℤ, pos, List, length, Option, Some, None, sym, ap, subst, inl, inr}
use Rattle.std.specs.Prelude.{Ok, Err, IfSome, ◌⊎◌}
use Rattle.bfs_base.specs.declared.kind.KeyKind.{KeyKind}
use Rattle.bfs_node.specs.Page.{Row, rows_of, row_in, value_of}
use Rattle.bfs_node.specs.Search.{Ascends, IsPlace, key_at}
use Rattle.bfs_node.specs.declared.fault.PageKind.TheVariants.{Header, Interior, Leaf, Fragment as FragmentKind, Duplicates}
use Rattle.bfs_node.specs.declared.fault.TreeFault.{TreeFault}
use Rattle.bfs_node.specs.declared.fault.TreeFault.TheVariants as fault
use Rattle.bfs_pages.specs.Answers.{IsLeafFor, IsOfPages, IsBroken}
use Rattle.bfs_pages.specs.Maps.{assoc}
use Rattle.bfs_pages.specs.Order.{Key}
use Rattle.bfs_pages.specs.Trees.{page_in}
use Rattle.bfs_pages.proofs.OfKind.{found-in-leaf}
use Rattle.bfs_pages.proofs.Sorted.{by-index, assoc-found, assoc-missed}
use Rattle.bfs_values.specs.Links.{link_in}
use Rattle.bfs_values.specs.Rows.{rows_in}
use Rattle.bfs_values.specs.declared.link.Link.{Link}
use Rattle.bfs_values.specs.declared.link.Link.TheVariants.{Number, Fragment, Chain, Nothing}
use Rattle.bfs_values.proofs.Rows.{rows_those}
use Rattle.bfs_maps.specs.NumberTrees.{IsNumber, IsNumberTree, HoldsNumber}
use Rattle.bfs_maps.specs.Refused.{IsNumberPage, IsUnlikeFor, IsBrokenFor, IsNotTaken}
use Rattle.bfs_maps.proofs.Plain.{number_link, number_there}

-- what the leaf says of the key, the tree says
in_tree : (kind : KeyKind) (b : List ℕ) (key : Key) (leaf : ℕ) (page : List ℕ) (d : HoldsNumber kind key b) → IsLeafFor kind b d.tree.shape key leaf page → assoc kind (rows_in kind b) key ≡ assoc kind (rows_of page) key
in_tree kind b key leaf page d l =
    let t = d.tree in
    ap (λ (rows : List Row). assoc kind rows key) (sym (rows_those kind b t.reached t.shape t.free t.tree)) ∙ (found-in-leaf kind b t.reached t.shape t.free key leaf page t.tree.holds l).1

pub looked_there : (kind : KeyKind) (b : List ℕ) (key : Key) (leaf : ℕ) (page : List ℕ) (i : ℕ) (d : HoldsNumber kind key b) → IsLeafFor kind b d.tree.shape key leaf page → (Ascends kind (rows_of page) → IsPlace kind (rows_of page) key (Ok i))
    → (assoc kind (rows_in kind b) key ≡ Some (value_of (row_in (rows_of page) i))) × IsNumber (value_of (row_in (rows_of page) i))
looked_there kind b key leaf page i d l place =
    let t = d.tree in
    let up = (found-in-leaf kind b t.reached t.shape t.free key leaf page t.tree.holds l).0 in
    let there : assoc kind (rows_in kind b) key ≡ Some (value_of (row_in (rows_of page) i)) = in_tree kind b key leaf page d l ∙ assoc-found kind (rows_of page) key i up (place (by-index kind (rows_of page) up)) in
    (there, d.number (value_of (row_in (rows_of page) i)) there)

pub looked_absent : (kind : KeyKind) (b : List ℕ) (key : Key) (leaf : ℕ) (page : List ℕ) (i : ℕ) (d : HoldsNumber kind key b) → IsLeafFor kind b d.tree.shape key leaf page → (Ascends kind (rows_of page) → IsPlace kind (rows_of page) key (Err i))
    → assoc kind (rows_in kind b) key ≡ None
looked_absent kind b key leaf page i d l place =
    let t = d.tree in
    let up = (found-in-leaf kind b t.reached t.shape t.free key leaf page t.tree.holds l).0 in
    in_tree kind b key leaf page d l ∙ assoc-missed kind (rows_of page) key i (place (by-index kind (rows_of page) up))

-- the number that the value names
pub number_is : (value : ℤ) (n : ℕ) → IsNumber value → link_in value ≡ Number n → value ≡ pos n
number_is value n x e =
    let both : Number x.0 ≡ Number n = sym (number_link value x) ∙ e in
    let same : x.0 ≡ n = cc in
    x.1 ∙ ap pos same

-- a value that names something else is no number
pub no_number : (value : ℤ) (l : Link) → link_in value ≡ l → ((n : ℕ) → l ≡ Number n → ⊥) → IsNumber value → ⊥
no_number value l e other x = other x.0 (sym e ∙ number_link value x)

pub fragment_not : (p i n : ℕ) → Fragment p i ≡ Number n → ⊥
fragment_not p i n e = cc

pub chain_not : (p n : ℕ) → Chain p ≡ Number n → ⊥
chain_not p n e = cc

pub nothing_not : (n : ℕ) → Nothing ≡ Number n → ⊥
nothing_not n e = cc

-- and its leaf is none of a tree of numbers
pub leaf_refused : (kind : KeyKind) (told : Option (List ℕ)) (leaf : ℕ) (page : List ℕ) (i : ℕ) → IfSome told (λ b. page ≡ page_in b leaf) → i < length (rows_of page) → (IsNumber (value_of (row_in (rows_of page) i)) → ⊥)
    → IfSome told (λ b. ¬ IsNumberPage kind b leaf Leaf)
leaf_refused kind None leaf page i read low other = tt
leaf_refused kind (Some b) leaf page i read low other = λ good.
    let v : ℤ = value_of (row_in (rows_of page) i) in
    let low_b : i < length (rows_of (page_in b leaf)) = subst (λ (p : List ℕ). i < length (rows_of p)) read low in
    let same : v ≡ value_of (row_in (rows_of (page_in b leaf)) i) = ap (λ (p : List ℕ). value_of (row_in (rows_of p) i)) read in
    other (good.1 v (good.0, (i, low_b, same)))

-- a tree whose values are all numbers holds one at each key
pub holds_number : (kind : KeyKind) (key : Key) (b : List ℕ) → IsNumberTree kind b → HoldsNumber kind key b
holds_number kind key b d = record { tree = d.tree; number = λ value e. number_there kind (rows_in kind b) key value d.numbers e }

-- a page that could not be had is no row that isn't there
pub of_pages_untaken : {F : Type 0} (kind : KeyKind) (rows : List Row) (key : Key) (f : TreeFault F) → IsOfPages f → IsNotTaken kind rows key f
of_pages_untaken kind rows key fault.Exists bad = bad
of_pages_untaken kind rows key fault.Absent bad = absurd bad
of_pages_untaken kind rows key (fault.Damaged page sort) bad = bad
of_pages_untaken kind rows key (fault.Pages f) fine = tt
of_pages_untaken kind rows key fault.NoMemory bad = bad

-- what isn't of its kind isn't so either where a number is looked for
pub unlike_for : {F : Type 0} (kind : KeyKind) (key : Key) (size last : ℕ) (seen : List ℕ) (f : TreeFault F) → IsBroken kind size last seen f → IsBrokenFor kind key size last seen f
unlike_for kind key size last seen fault.Exists is = tt
unlike_for kind key size last seen fault.Absent is = tt
unlike_for kind key size last seen (fault.Damaged page sort) (inr none) = inr none
unlike_for kind key size last seen (fault.Damaged page Header) (inl is) = inl is
unlike_for kind key size last seen (fault.Damaged page Interior) (inl is) = inl is
unlike_for kind key size last seen (fault.Damaged page Leaf) (inl is) = inl (is.0, inl is.1)
unlike_for kind key size last seen (fault.Damaged page FragmentKind) (inl is) = inl is
unlike_for kind key size last seen (fault.Damaged page Duplicates) (inl is) = inl is
unlike_for kind key size last seen (fault.Pages f) is = tt
unlike_for kind key size last seen fault.NoMemory is = tt

-- a leaf that was read last is rightly blamed where its row with the key has no number
pub numberless : (kind : KeyKind) (key : Key) (size last leaf : ℕ) (seen page : List ℕ) (i : ℕ) → last ≡ leaf → seen ≡ page → i < length (rows_of page) → key_at (rows_of page) i ≡ key → (IsNumber (value_of (row_in (rows_of page) i)) → ⊥)
    → ((leaf ≡ last) × IsUnlikeFor kind key size seen Leaf) ⊎ ((size ≡ 0) × (leaf ≡ 0) × (Leaf ≡ Header))
numberless kind key size last leaf seen page i at same low there other =
    inl (sym at, subst (λ (b : List ℕ). IsUnlikeFor kind key size b Leaf) (sym same) (inr (i, low, there, other)))
