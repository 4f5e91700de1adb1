-- The rows of a tree are those of its leaves, and rows with the numbers of their values.
use Rattle.std.proofs.Common.{◌≡◌, ◌<◌, ℕ, zero, suc, negsuc, List, [], ◌∷◌, ◌++◌, length, take, drop, get_or, ◌+◌, Option, true, refl, sym, ap, ap₂, ◌∙◌, subst, arith, append-nil, append_assoc}
use Rattle.std.specs.List.{flat_map}
use Rattle.std.proofs.lemmas.List.Concat.{flat_map-append}
use Rattle.bfs_base.specs.Lists.{Has}
use Rattle.bfs_base.specs.declared.kind.KeyKind.{KeyKind}
use Rattle.bfs_node.specs.Page.{Row, rows_of, row_in, overflow_of}
use Rattle.bfs_pages.specs.Shapes.{Body}
use Rattle.bfs_pages.specs.Trees.{state_of, page_in, is_page}
use Rattle.bfs_values.specs.Rows.{rows_at, rows_in, rows_below, children_at}
use Rattle.bfs_range.specs.declared.ranged.RangedRow.{RangedRow}
use Rattle.bfs_range.specs.Answers.{answer_row, answer_of}
use Rattle.bfs_sound.specs.Owners.{In}
use Rattle.bfs_finding.specs.Walks.{leaves_below, leaves_in}
use Rattle.bfs_tree_check.proofs.Ascending.{leaf_is}
use Rattle.bfs_walk.proofs.Looks.{row_there}
use Rattle.bfs_value_walk.specs.Met.{IsNext, AreNext}

rows_list : (bodies : ℕ → Option Body) (n : ℕ) → ((at : ℕ) → rows_below bodies n at ≡ flat_map (λ x. rows_at (bodies x)) (leaves_below bodies n at)) → (xs : List ℕ)
    → flat_map (rows_below bodies n) xs ≡ flat_map (λ x. rows_at (bodies x)) (flat_map (leaves_below bodies n) xs)
rows_list bodies n h [] = refl
rows_list bodies n h (x ∷ xs) =
    ap₂ (λ (a : List Row) (b : List Row). a ++ b) (h x) (rows_list bodies n h xs) ∙ sym (flat_map-append (λ y. rows_at (bodies y)) (leaves_below bodies n x) (flat_map (leaves_below bodies n) xs))

rows_of_leaves : (bodies : ℕ → Option Body) (n at : ℕ) → rows_below bodies n at ≡ flat_map (λ x. rows_at (bodies x)) (leaves_below bodies n at)
rows_of_leaves bodies zero at = sym (append-nil (rows_at (bodies at)))
rows_of_leaves bodies (suc n) at = rows_list bodies n (rows_of_leaves bodies n) (children_at (bodies at))

-- the rows of leaves
abbrev pub rows_by : KeyKind → List ℕ → List ℕ → List Row
rows_by kind b leaves = flat_map (λ x. rows_at ((state_of kind b).bodies x)) leaves

-- the rows of a tree are those of its leaves
pub rows_are : (kind : KeyKind) (b : List ℕ) → rows_in kind b ≡ rows_by kind b (leaves_in kind b)
unfolding rows_in
rows_are kind b = rows_of_leaves (state_of kind b).bodies (state_of kind b).levels (state_of kind b).root

-- the leaves before a place, it, and those behind it
pub rows_split : (kind : KeyKind) (b leaves : List ℕ) (i : ℕ) → leaves_in kind b ≡ leaves → i < length leaves
    → rows_in kind b ≡ rows_by kind b (take i leaves) ++ (rows_at ((state_of kind b).bodies (get_or leaves i 0)) ++ rows_by kind b (drop (i + 1) leaves))
rows_split kind b leaves i are h =
    let f : ℕ → List Row = λ x. rows_at ((state_of kind b).bodies x) in
    rows_are kind b ∙ ap (flat_map f) are ∙ at_place f leaves i h
  where
    next : (i : ℕ) → suc i ≡ i + 1
    next i = omega arith

    by_place : (f : ℕ → List Row) (xs : List ℕ) (i : ℕ) → i < length xs → flat_map f xs ≡ flat_map f (take i xs) ++ (f (get_or xs i 0) ++ flat_map f (drop (suc i) xs))
    by_place f [] i h = absurd (omega (arith, h))
    by_place f (x ∷ xs) zero h = refl
    by_place f (x ∷ xs) (suc i) h =
        ap (λ (l : List Row). f x ++ l) (by_place f xs i (omega (arith, h))) ∙ sym (append_assoc (f x) (flat_map f (take i xs)) (f (get_or xs i 0) ++ flat_map f (drop (suc i) xs)))

    at_place : (f : ℕ → List Row) (xs : List ℕ) (i : ℕ) → i < length xs → flat_map f xs ≡ flat_map f (take i xs) ++ (f (get_or xs i 0) ++ flat_map f (drop (i + 1) xs))
    at_place f xs i h = by_place f xs i h ∙ ap (λ k. flat_map f (take i xs) ++ (f (get_or xs i 0) ++ flat_map f (drop k xs))) (next i)

-- and with one leaf more
pub rows_more : (kind : KeyKind) (b leaves : List ℕ) (at : ℕ) → rows_by kind b leaves ++ rows_at ((state_of kind b).bodies at) ≡ rows_by kind b (leaves ++ at ∷ [])
rows_more kind b leaves at =
    let f : ℕ → List Row = λ x. rows_at ((state_of kind b).bodies x) in
    ap (λ (l : List Row). flat_map f leaves ++ l) (sym (append-nil (f at))) ∙ sym (flat_map-append f leaves (at ∷ []))

-- a leaf that was read
module _ (kind : KeyKind) (b : List ℕ) (at : ℕ) (page : List ℕ) (is : page ≡ page_in b at) (good : is_page kind page ≡ true) (leaf : overflow_of page ≡ negsuc 0) where
  pub rows_here : rows_at ((state_of kind b).bodies at) ≡ rows_of page
  rows_here = ap rows_at (leaf_is kind b at page is good leaf)

  pub next_rows : (done rest : List Row) → Has (leaves_in kind b) at → rows_in kind b ≡ done ++ (rows_at ((state_of kind b).bodies at) ++ rest) → AreNext kind b at done (rows_of page) rest
  next_rows done rest there split = record {
    are = split ∙ ap (λ (l : List Row). done ++ (l ++ rest)) rows_here;
    there = λ r i. (there, subst (λ (p : List ℕ). is_page kind p ≡ true) is good, subst (λ (p : List ℕ). overflow_of p ≡ negsuc 0) is leaf, subst (λ (p : List ℕ). In r (rows_of p)) is i);
  }

-- one of the rows of a leaf
split_at : (rows : List Row) (i : ℕ) → i < length rows → rows ≡ take i rows ++ (row_in rows i ∷ drop (suc i) rows)
split_at [] i h = absurd (omega (arith, h))
split_at (r ∷ rs) zero h = refl
split_at (r ∷ rs) (suc i) h = ap (λ (l : List Row). r ∷ l) (split_at rs i (omega (arith, h)))

pub next_row : (kind : KeyKind) (b : List ℕ) (leaf : ℕ) (done rows rest : List Row) (i : ℕ) → i < length rows → AreNext kind b leaf done rows rest
    → IsNext kind b leaf (done ++ take i rows) (row_in rows i) (drop (suc i) rows ++ rest)
next_row kind b leaf done rows rest i h next = record {
  rows = next.are ∙ ap (λ (l : List Row). done ++ (l ++ rest)) (split_at rows i h)
      ∙ ap (λ (l : List Row). done ++ l) (append_assoc (take i rows) (row_in rows i ∷ drop (suc i) rows) rest)
      ∙ sym (append_assoc done (take i rows) ((row_in rows i ∷ drop (suc i) rows) ++ rest));
  there = next.there (row_in rows i) (row_there rows i h);
}

-- ---- what is answered

pub answer_more : (b : List ℕ) (rows : List Row) (r : Row) → answer_of b (rows ++ r ∷ []) ≡ answer_of b rows ++ answer_row b r ∷ []
answer_more b [] r = refl
answer_more b (s ∷ rows) r = ap (λ (l : List RangedRow). answer_row b s ∷ l) (answer_more b rows r)
