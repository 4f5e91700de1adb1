-- The rows of a tree of names are those of its leaves, and rows that are put behind others.
use Rattle.std.proofs.Common.{◌≡◌, ◌<◌, ℕ, ℤ, zero, suc, pos, negsuc, List, [], ◌∷◌, ◌++◌, length, take, get_or, ◌+◌, Option, true, inl, map, refl, sym, ap, ap₂, ◌∙◌, subst, append-nil}
use Rattle.std.specs.List.{AllByRecursion, flat_map}
use Rattle.std.proofs.lemmas.List.{take_more}
use Rattle.std.proofs.lemmas.List.Concat.{flat_map-append}
use Rattle.bfs_base.specs.declared.kind.KeyKind.{KeyKind}
use Rattle.bfs_base.specs.declared.kind.KeyKind.TheVariants.{Text}
use Rattle.bfs_node.specs.Page.{Row, rows_of, value_of, overflow_of}
use Rattle.bfs_pages.specs.Shapes.{Body}
use Rattle.bfs_pages.specs.Trees.{state_of, page_in, is_page}
use Rattle.bfs_values.specs.Links.{link_in}
use Rattle.bfs_values.specs.Rows.{rows_at, rows_in, rows_below, children_at}
use Rattle.bfs_finding.specs.Walks.{leaves_below, leaves_in}
use Rattle.bfs_walk.specs.declared.fault.TreeWrong.{TreeWrong}
use Rattle.bfs_walk.specs.declared.fault.TreeWrong.TheVariants as wrongs
use Rattle.bfs_walk.specs.Wrong.{IsWrongTree}
use Rattle.bfs_tree_check.specs.Amiss.{IsAmissIn}
use Rattle.bfs_tree_check.proofs.Ascending.{leaf_is}
use Rattle.bfs_tree_check.proofs.Joined.{all_join}
use Rattle.bfs_value_walk.specs.Plain.{IsNumber, ArePlain}
use Rattle.bfs_names_walk.specs.declared.row.NameRow.{NameRow}
use Rattle.bfs_names_walk.specs.Rows.{as_rows}

rows_list : (bodies : ℕ → Option Body) (n : ℕ) → ((at : ℕ) → rows_below bodies n at ≡ flat_map (λ x. rows_at (bodies x)) (leaves_below bodies n at)) → (xs : List ℕ)
    → flat_map (rows_below bodies n) xs ≡ flat_map (λ x. rows_at (bodies x)) (flat_map (leaves_below bodies n) xs)
rows_list bodies n h [] = refl
rows_list bodies n h (x ∷ xs) =
    ap₂ (λ (a : List Row) (b : List Row). a ++ b) (h x) (rows_list bodies n h xs) ∙ sym (flat_map-append (λ y. rows_at (bodies y)) (leaves_below bodies n x) (flat_map (leaves_below bodies n) xs))

rows_of_leaves : (bodies : ℕ → Option Body) (n at : ℕ) → rows_below bodies n at ≡ flat_map (λ x. rows_at (bodies x)) (leaves_below bodies n at)
rows_of_leaves bodies zero at = sym (append-nil (rows_at (bodies at)))
rows_of_leaves bodies (suc n) at = rows_list bodies n (rows_of_leaves bodies n) (children_at (bodies at))

-- the rows of leaves
abbrev pub rows_by : List ℕ → List ℕ → List Row
rows_by b leaves = flat_map (λ x. rows_at ((state_of Text b).bodies x)) leaves

-- the rows of a tree are those of its leaves
pub rows_are : (b : List ℕ) → rows_in Text b ≡ rows_by b (leaves_in Text b)
unfolding rows_in
rows_are b = rows_of_leaves (state_of Text b).bodies (state_of Text b).levels (state_of Text b).root

-- and with one leaf more
pub rows_more : (b leaves : List ℕ) (i : ℕ) → i < length leaves → rows_by b (take i leaves) ++ rows_at ((state_of Text b).bodies (get_or leaves i 0)) ≡ rows_by b (take (i + 1) leaves)
rows_more b leaves i inside =
    let f : ℕ → List Row = λ x. rows_at ((state_of Text b).bodies x) in
    let at : ℕ = get_or leaves i 0 in
    ap (λ (l : List Row). flat_map f (take i leaves) ++ l) (sym (append-nil (f at))) ∙ sym (flat_map-append f (take i leaves) (at ∷ [])) ∙ ap (flat_map f) (sym (take_more leaves i 0 inside))

-- a leaf that was read
pub rows_here : (b : List ℕ) (at : ℕ) (page : List ℕ) → page ≡ page_in b at → is_page Text page ≡ true → overflow_of page ≡ negsuc 0 → rows_at ((state_of Text b).bodies at) ≡ rows_of page
rows_here b at page is good leaf = ap rows_at (leaf_is Text b at page is good leaf)

-- one row more
pub more_row : (rows : List NameRow) (r : NameRow) → as_rows (rows ++ r ∷ []) ≡ as_rows rows ++ (r.name, r.value) ∷ []
more_row [] r = refl
more_row (s ∷ rows) r = ap (λ (l : List Row). (s.name, s.value) ∷ l) (more_row rows r)

-- the rows up to a place, and one more of them
pub next_plain : (rows : List NameRow) (i : ℕ) (d : NameRow) → i < length rows → ArePlain (as_rows (take i rows)) → IsNumber (link_in (get_or rows i d).value) → ArePlain (as_rows (take (i + 1) rows))
next_plain rows i d inside plain number =
    let r : NameRow = get_or rows i d in
    subst (λ (l : List NameRow). ArePlain (as_rows l)) (sym (take_more rows i d inside))
    (subst ArePlain (sym (more_row (take i rows) r)) (all_join (λ (x : Row). IsNumber (link_in (value_of x))) (as_rows (take i rows)) ((r.name, r.value) ∷ []) plain (number, tt)))

-- what is wrong with a tree is so beside its header too
pub wrong_amiss : (kind : KeyKind) (b : List ℕ) (wrong : TreeWrong) → IsWrongTree kind b wrong → IsAmissIn kind b wrong
wrong_amiss kind b (wrongs.Page page part) h = inl h
wrong_amiss kind b (wrongs.Link page found wanted) h = h
wrong_amiss kind b (wrongs.Order page index) h = h
