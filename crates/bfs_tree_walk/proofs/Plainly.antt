-- Rows of leaves, and values that are plain numbers.
use Rattle.std.proofs.Common.{◌≡◌, ◌≤◌, ◌<◌, ⊎_elim, ℕ, zero, suc, negsuc, List, [], ◌∷◌, ◌++◌, length, take, get_or, ◌+◌, Option, true, refl, sym, ap, ap₂, ◌∙◌, subst, arith, append-nil}
use Rattle.std.specs.List.{AllByRecursion, flat_map}
use Rattle.std.proofs.lemmas.List.{take_all}
use Rattle.std.proofs.lemmas.List.Concat.{flat_map-append}
use Rattle.bfs_base.specs.Lists.{times, Has}
use Rattle.bfs_base.specs.declared.kind.KeyKind.{KeyKind}
use Rattle.bfs_node.specs.Page.{Row, rows_of, row_in, value_of, overflow_of}
use Rattle.bfs_pages.specs.Shapes.{Body}
use Rattle.bfs_pages.specs.Trees.{state_of, page_in, is_page}
use Rattle.bfs_pages.proofs.Splice.{times-append, self}
use Rattle.bfs_values.specs.declared.link.Link.{Link}
use Rattle.bfs_values.specs.declared.link.Link.TheVariants.{Number, Fragment, Chain, Nothing}
use Rattle.bfs_values.specs.Links.{link_in}
use Rattle.bfs_values.specs.Rows.{rows_at, rows_in, rows_below, children_at}
use Rattle.bfs_sound.specs.Owners.{In}
use Rattle.bfs_sound.proofs.Counts.{in_left, in_right}
use Rattle.bfs_finding.specs.declared.finding.PagePart.TheVariants as parts
use Rattle.bfs_finding.specs.TreeFaults.{IsLeafRow, IsPageFault, of_value, no_link}
use Rattle.bfs_finding.specs.Walks.{leaves_below, leaves_in}
use Rattle.bfs_finding.proofs.Walking.{has_more}
use Rattle.bfs_walk.proofs.Looks.{row_there}
use Rattle.bfs_tree_check.proofs.Ascending.{leaf_is}
use Rattle.bfs_tree_check.proofs.Joined.{all_join}
use Rattle.bfs_tree_walk.specs.declared.row.OtherRow.{OtherRow}
use Rattle.bfs_tree_walk.specs.Plain.{IsNumber, IsReference, ArePlain, IsOtherRow}

rows_list : (bodies : ℕ → Option Body) (n : ℕ) → ((at : ℕ) → rows_below bodies n at ≡ flat_map (λ x. rows_at (bodies x)) (leaves_below bodies n at)) → (xs : List ℕ)
    → flat_map (rows_below bodies n) xs ≡ flat_map (λ x. rows_at (bodies x)) (flat_map (leaves_below bodies n) xs)
rows_list bodies n h [] = refl
rows_list bodies n h (x ∷ xs) =
    ap₂ (λ (a : List Row) (b : List Row). a ++ b) (h x) (rows_list bodies n h xs) ∙ sym (flat_map-append (λ y. rows_at (bodies y)) (leaves_below bodies n x) (flat_map (leaves_below bodies n) xs))

rows_of_leaves : (bodies : ℕ → Option Body) (n at : ℕ) → rows_below bodies n at ≡ flat_map (λ x. rows_at (bodies x)) (leaves_below bodies n at)
rows_of_leaves bodies zero at = sym (append-nil (rows_at (bodies at)))
rows_of_leaves bodies (suc n) at = rows_list bodies n (rows_of_leaves bodies n) (children_at (bodies at))

-- the rows of a tree are those of its leaves
rows_are : (kind : KeyKind) (b : List ℕ) → rows_in kind b ≡ flat_map (λ x. rows_at ((state_of kind b).bodies x)) (leaves_in kind b)
unfolding rows_in
rows_are kind b = rows_of_leaves (state_of kind b).bodies (state_of kind b).levels (state_of kind b).root

plain_flat : (f : ℕ → List Row) (xs : List ℕ) → AllByRecursion (λ x. ArePlain (f x)) xs → ArePlain (flat_map f xs)
plain_flat f [] a = tt
plain_flat f (x ∷ xs) a = all_join (λ r. IsNumber (link_in (value_of r))) (f x) (flat_map f xs) a.0 (plain_flat f xs a.1)

-- where those of all leaves are plain, those of the tree are
pub all_plain : (kind : KeyKind) (b leaves : List ℕ) → leaves_in kind b ≡ leaves → AllByRecursion (λ x. ArePlain (rows_at ((state_of kind b).bodies x))) leaves → ArePlain (rows_in kind b)
all_plain kind b leaves is a =
    let f : ℕ → List Row = λ x. rows_at ((state_of kind b).bodies x) in
    subst ArePlain (sym (rows_are kind b)) (plain_flat f (leaves_in kind b) (subst (AllByRecursion (λ x. ArePlain (f x))) (sym is) a))

row_flat : (f : ℕ → List Row) (xs : List ℕ) (x : ℕ) (r : Row) → Has xs x → In r (f x) → In r (flat_map f xs)
row_flat f [] x r h i = absurd (omega (arith, h))
row_flat f (y ∷ ys) x r h i =
    ⊎_elim (λ e. in_left (f y) (flat_map f ys) r (subst (λ u. In r (f u)) e i)) (λ m. in_right (f y) (flat_map f ys) r (row_flat f ys x r m i)) (has_more x y ys h)

pub one_of : (xs : List ℕ) (i : ℕ) → i < length xs → Has xs (get_or xs i 0)
one_of [] i h = absurd (omega (arith, h))
one_of (x ∷ xs) zero h = let own : 1 ≤ times x (x ∷ xs) = self x xs in omega (arith, own)
one_of (x ∷ xs) (suc i) h =
    let k : ℕ = get_or xs i 0 in
    let ih : 0 < times k xs = one_of xs i (omega (arith, h)) in
    let a : times k (x ∷ xs) ≡ times k (x ∷ []) + times k xs = times-append k (x ∷ []) xs in
    omega (arith, ih, a)

reference : (l : Link) → ¬ IsNumber l → ¬ (l ≡ Nothing) → IsReference l
reference (Number n) f g = absurd (f tt)
reference (Fragment page i) f g = tt
reference (Chain page) f g = tt
reference Nothing f g = absurd (g refl)

module _ (kind : KeyKind) (b : List ℕ) (at : ℕ) (page : List ℕ) (is : page ≡ page_in b at) (good : is_page kind page ≡ true) (leaf : overflow_of page ≡ negsuc 0) where
  rows_here : rows_at ((state_of kind b).bodies at) ≡ rows_of page
  rows_here = ap rows_at (leaf_is kind b at page is good leaf)

  pub plain_here : (n : ℕ) → length (rows_of page) ≤ n → ArePlain (take n (rows_of page)) → ArePlain (rows_at ((state_of kind b).bodies at))
  plain_here n h p = subst ArePlain (take_all n (rows_of page) h ∙ sym rows_here) p

  -- a value that names nothing
  pub nothing_here : (i : ℕ) → Has (leaves_in kind b) at → i < length (rows_of page) → link_in (value_of (row_in (rows_of page) i)) ≡ Nothing → IsPageFault kind b at parts.Content
  nothing_here i there inside e =
      let r : Row = row_in (rows_of page) i in
      let row : IsLeafRow kind b at r = (there, subst (λ (p : List ℕ). is_page kind p ≡ true) is good, subst (λ (p : List ℕ). overflow_of p ≡ negsuc 0) is leaf, subst (λ (p : List ℕ). In r (rows_of p)) is (row_there (rows_of page) i inside)) in
      of_value (no_link r row e) refl

  -- one that names a fragment or a chain
  pub other_here : (other : OtherRow) → other.page ≡ at → Has (leaves_in kind b) at → other.index < length (rows_of page) → other.value ≡ value_of (row_in (rows_of page) other.index)
      → ¬ IsNumber (link_in (value_of (row_in (rows_of page) other.index))) → ¬ (link_in other.value ≡ Nothing) → IsOtherRow kind b other
  other_here other place there inside value number nothing =
      let same : page ≡ page_in b other.page = is ∙ ap (page_in b) (sym place) in
      let r : Row = row_in (rows_of page) other.index in
      let f : ℕ → List Row = λ x. rows_at ((state_of kind b).bodies x) in
      let row : In r (rows_in kind b) = subst (In r) (sym (rows_are kind b)) (row_flat f (leaves_in kind b) at r there (subst (In r) (sym rows_here) (row_there (rows_of page) other.index inside))) in
      record {
        leaf = subst (Has (leaves_in kind b)) (sym place) there;
        inside = subst (λ (p : List ℕ). other.index < length (rows_of p)) same inside;
        value = sym (value ∙ ap (λ (p : List ℕ). value_of (row_in (rows_of p) other.index)) same);
        row = subst (λ (p : List ℕ). In (row_in (rows_of p) other.index) (rows_in kind b)) same row;
        names = reference (link_in other.value) (subst (λ z. ¬ IsNumber (link_in z)) (sym value) number) nothing;
      }
