-- What is met in the bytes of a tree is the tree's: its pages, leaves, entries and free pages.
use Rattle.std.proofs.Common.{◌≡◌, ◌≤◌, ◌<◌, ◌+◌, ◌⊎◌, inl, inr, ⊎_elim, ℕ, ℤ, pos, negsuc, zero, suc, List, [], ◌∷◌, ◌++◌, length, Option, Some, None, Bool, true, false, cond, map, refl, sym, ap, ap₂, ◌∙◌, subst, append-nil, arith}
use Rattle.std.specs.Prelude.{◌==◌, ◌%◌}
use Rattle.std.specs.List.{flat_map}
use Rattle.bfs_base.specs.Lists.{times, Has}
use Rattle.bfs_node.specs.Page.{Row}
use Rattle.bfs_sound.proofs.Doubles.{times-append}
use Rattle.bfs_sound.proofs.Frames.{has_first}
use Rattle.bfs_pages.specs.Order.{Key}
use Rattle.bfs_pages.specs.Answers.{IsChild}
use Rattle.bfs_pages.specs.Shapes.{Body, leaf_body, inner_body, Shape, Shapes, leaf_shape, node_shape, last_shape, more_shapes, place, tree_rows, trees_rows, met_by, met_by_all, leaves_of, leaves_all, children_of, last_child, IsDeep, AreDeep, Stands, StandAll, Entry, a_row, a_bound, entries_in, entries_of, entries_all}
use Rattle.bfs_pages.specs.Trees.{place_of, next_if, head_or, Linked, FreeFrom}
use Rattle.bfs_values.specs.Rows.{children_at}
use Rattle.bfs_sound.specs.Owners.{In}
use Rattle.bfs_sound.proofs.Counts.{in_left, in_right}
use Rattle.bfs_finding.specs.Walks.{Met, inners_below, leaves_below, rows_met, leaf_met, between, inner_met, entries_below, free_from, free_next}
use Rattle.bfs_finding.specs.TreeFaults.{last_link, first_link}

-- a member of joined lists
pub has_split : (x : ℕ) (xs ys : List ℕ) → Has (xs ++ ys) x → Has xs x ⊎ Has ys x
has_split x xs ys h = by_count (times x xs) refl
  where
    by_count : (n : ℕ) → times x xs ≡ n → Has xs x ⊎ Has ys x
    by_count zero e = inr (let a = times-append x xs ys in omega (arith, a, e, h))
    by_count (suc n) e = inl (omega (arith, e))

pub has_more : (x a : ℕ) (xs : List ℕ) → Has (a ∷ xs) x → (x ≡ a) ⊎ Has xs x
has_more x a xs h = by_test (a == x) refl h
  where
    same : (a == x) ≡ true → x ≡ a
    same e = grind (arith, e)

    by_test : (c : Bool) → (a == x) ≡ c → 0 < cond c 1 0 + times x xs → (x ≡ a) ⊎ Has xs x
    by_test true e h = inl (same e)
    by_test false e h = inr (omega (arith, h))

-- the pages and the leaves that are met
mutual
  pub split_are : (bodies : ℕ → Option Body) (x n : ℕ) (t : Shape) → Stands bodies t → IsDeep n t → times x (inners_below bodies n (place t)) + times x (leaves_below bodies n (place t)) ≡ times x (met_by t)
  split_are bodies x n (leaf_shape at rows) stands deep = subst (λ m. times x (inners_below bodies m at) + times x (leaves_below bodies m at) ≡ times x (at ∷ [])) (sym deep) (omega arith)
  split_are bodies x zero (node_shape at below) stands deep = absurd deep
  split_are bodies x (suc n) (node_shape at below) stands deep =
      ap (λ o. times x (at ∷ flat_map (inners_below bodies n) (children_at o)) + times x (flat_map (leaves_below bodies n) (children_at o))) stands.0
      ∙ (let ih = all_split bodies x n below stands.1 deep in omega (arith, ih))

  all_split : (bodies : ℕ → Option Body) (x n : ℕ) (ts : Shapes) → StandAll bodies ts → AreDeep n ts
      → times x (flat_map (inners_below bodies n) (map (λ e. e.1) (children_of ts) ++ (last_child ts ∷ []))) + times x (flat_map (leaves_below bodies n) (map (λ e. e.1) (children_of ts) ++ (last_child ts ∷ []))) ≡ times x (met_by_all ts)
  all_split bodies x n (last_shape t) stands deep =
      let ih = split_are bodies x n t stands deep in
      let a = times-append x (inners_below bodies n (place t)) [] in
      let b = times-append x (leaves_below bodies n (place t)) [] in
      omega (arith, ih, a, b)
  all_split bodies x n (more_shapes t key ts) stands deep =
      let one = split_are bodies x n t stands.0 deep.0 in
      let rest = all_split bodies x n ts stands.1 deep.1 in
      let places : List ℕ = map (λ e. e.1) (children_of ts) ++ (last_child ts ∷ []) in
      let a = times-append x (inners_below bodies n (place t)) (flat_map (inners_below bodies n) places) in
      let b = times-append x (leaves_below bodies n (place t)) (flat_map (leaves_below bodies n) places) in
      let c = times-append x (met_by t) (met_by_all ts) in
      omega (arith, one, rest, a, b, c)

mutual
  pub leaves_are : (bodies : ℕ → Option Body) (n : ℕ) (t : Shape) → Stands bodies t → IsDeep n t → leaves_below bodies n (place t) ≡ leaves_of t
  leaves_are bodies n (leaf_shape at rows) stands deep = subst (λ m. leaves_below bodies m at ≡ at ∷ []) (sym deep) refl
  leaves_are bodies zero (node_shape at below) stands deep = absurd deep
  leaves_are bodies (suc n) (node_shape at below) stands deep =
      ap (λ o. flat_map (leaves_below bodies n) (children_at o)) stands.0 ∙ all_leaves bodies n below stands.1 deep

  all_leaves : (bodies : ℕ → Option Body) (n : ℕ) (ts : Shapes) → StandAll bodies ts → AreDeep n ts
      → flat_map (leaves_below bodies n) (map (λ e. e.1) (children_of ts) ++ (last_child ts ∷ [])) ≡ leaves_all ts
  all_leaves bodies n (last_shape t) stands deep = append-nil (leaves_below bodies n (place t)) ∙ leaves_are bodies n t stands deep
  all_leaves bodies n (more_shapes t key ts) stands deep = ap₂ (λ a b. a ++ b) (leaves_are bodies n t stands.0 deep.0) (all_leaves bodies n ts stands.1 deep.1)

-- what is met without its place
abbrev pub entries_only : List Met → List Entry
entries_only ms = map (λ m. m.2) ms

only_append : (xs ys : List Met) → entries_only (xs ++ ys) ≡ entries_only xs ++ entries_only ys
only_append [] ys = refl
only_append (x ∷ xs) ys = ap (λ l. x.2 ∷ l) (only_append xs ys)

rows_only : (at i : ℕ) (rows : List Row) → entries_only (rows_met at i rows) ≡ entries_in rows
rows_only at i [] = refl
rows_only at i (r ∷ rs) = ap (λ l. a_row r.0 r.1 ∷ l) (rows_only at (i + 1) rs)

mutual
  pub entries_are : (bodies : ℕ → Option Body) (n : ℕ) (t : Shape) → Stands bodies t → IsDeep n t → entries_only (entries_below bodies n (place t)) ≡ entries_of t
  entries_are bodies n (leaf_shape at rows) stands deep = subst (λ m. entries_only (entries_below bodies m at) ≡ entries_in rows) (sym deep) (ap (λ o. entries_only (leaf_met at o)) stands ∙ rows_only at 0 rows)
  entries_are bodies zero (node_shape at below) stands deep = absurd deep
  entries_are bodies (suc n) (node_shape at below) stands deep =
      ap (λ o. entries_only (inner_met (entries_below bodies n) at o)) stands.0 ∙ all_entries bodies n at 0 below stands.1 deep

  all_entries : (bodies : ℕ → Option Body) (n at i : ℕ) (ts : Shapes) → StandAll bodies ts → AreDeep n ts
      → entries_only (between (entries_below bodies n) at i (children_of ts) (last_child ts)) ≡ entries_all ts
  all_entries bodies n at i (last_shape t) stands deep = entries_are bodies n t stands deep
  all_entries bodies n at i (more_shapes t key ts) stands deep =
      only_append (entries_below bodies n (place t)) ((at, i, a_bound key) ∷ between (entries_below bodies n) at (i + 1) (children_of ts) (last_child ts))
      ∙ ap₂ (λ a b. a ++ (a_bound key ∷ b)) (entries_are bodies n t stands.0 deep.0) (all_entries bodies n at (i + 1) ts stands.1 deep.1)

-- an interior page: what it says, and its children, which are pages of the tree
pub record InnerAt (bodies : ℕ → Option Body) (met : List ℕ) (x : ℕ) : Type 0 where
  pub keys : List (Key × ℕ)
  pub last : ℕ
  pub is : bodies x ≡ Some (inner_body keys last)
  pub below : (c : ℕ) → Has (map (λ e. e.1) keys ++ (last ∷ [])) c → Has met c

widened : (bodies : ℕ → Option Body) (x : ℕ) (some more : List ℕ) → ((c : ℕ) → Has some c → Has more c) → InnerAt bodies some x → InnerAt bodies more x
widened bodies x some more wide r = record { keys = r.keys; last = r.last; is = r.is; below = λ c h. wide c (r.below c h) }

place_met : (t : Shape) → Has (met_by t) (place t)
place_met (leaf_shape at rows) = has_first at []
place_met (node_shape at below) = has_first at (met_by_all below)

places_met : (ts : Shapes) (c : ℕ) → Has (map (λ e. e.1) (children_of ts) ++ (last_child ts ∷ [])) c → Has (met_by_all ts) c
places_met (last_shape t) c h =
    ⊎_elim (λ e. subst (λ k. Has (met_by t) k) (sym e) (place_met t)) (λ none. absurd (omega (arith, none))) (has_more c (place t) [] h)
places_met (more_shapes t key ts) c h =
    let a = times-append c (met_by t) (met_by_all ts) in
    ⊎_elim
    (λ e. let own : Has (met_by t) c = subst (λ k. Has (met_by t) k) (sym e) (place_met t) in omega (arith, own, a))
    (λ more. let rest = places_met ts c more in omega (arith, rest, a))
    (has_more c (place t) (map (λ e. e.1) (children_of ts) ++ (last_child ts ∷ [])) h)

mutual
  pub inner_at : (bodies : ℕ → Option Body) (x n : ℕ) (t : Shape) → Stands bodies t → IsDeep n t → Has (inners_below bodies n (place t)) x → InnerAt bodies (met_by t) x
  inner_at bodies x n (leaf_shape at rows) stands deep h = absurd (let none : 0 < times x (inners_below bodies 0 at) = subst (λ m. Has (inners_below bodies m at) x) deep h in omega (arith, none))
  inner_at bodies x zero (node_shape at below) stands deep h = absurd deep
  inner_at bodies x (suc n) (node_shape at below) stands deep h =
      let children : List ℕ = map (λ e. e.1) (children_of below) ++ (last_child below ∷ []) in
      let there : Has (at ∷ flat_map (inners_below bodies n) children) x = subst (λ o. Has (at ∷ flat_map (inners_below bodies n) (children_at o)) x) stands.0 h in
      ⊎_elim
      (λ e. record { keys = children_of below; last = last_child below; is = ap bodies e ∙ stands.0; below = λ c has. let m = places_met below c has in omega (arith, m) })
      (λ more. widened bodies x (met_by_all below) (at ∷ met_by_all below) (λ c m. omega (arith, m)) (all_inner bodies x n below stands.1 deep more))
      (has_more x at (flat_map (inners_below bodies n) children) there)

  all_inner : (bodies : ℕ → Option Body) (x n : ℕ) (ts : Shapes) → StandAll bodies ts → AreDeep n ts → Has (flat_map (inners_below bodies n) (map (λ e. e.1) (children_of ts) ++ (last_child ts ∷ []))) x → InnerAt bodies (met_by_all ts) x
  all_inner bodies x n (last_shape t) stands deep h =
      inner_at bodies x n t stands deep (let a = times-append x (inners_below bodies n (place t)) [] in omega (arith, a, h))
  all_inner bodies x n (more_shapes t key ts) stands deep h =
      ⊎_elim
      (λ own. widened bodies x (met_by t) (met_by t ++ met_by_all ts) (λ c m. let a = times-append c (met_by t) (met_by_all ts) in omega (arith, a, m)) (inner_at bodies x n t stands.0 deep.0 own))
      (λ rest. widened bodies x (met_by_all ts) (met_by t ++ met_by_all ts) (λ c m. let a = times-append c (met_by t) (met_by_all ts) in omega (arith, a, m)) (all_inner bodies x n ts stands.1 deep.1 rest))
      (has_split x (inners_below bodies n (place t)) (flat_map (inners_below bodies n) (map (λ e. e.1) (children_of ts) ++ (last_child ts ∷ []))) h)

-- a leaf: its rows, which are rows of the tree
pub record LeafAt (bodies : ℕ → Option Body) (all : List Row) (x : ℕ) : Type 0 where
  pub rows : List Row
  pub is : bodies x ≡ Some (leaf_body rows)
  pub there : (r : Row) → In r rows → In r all

mutual
  pub leaf_at : (bodies : ℕ → Option Body) (x : ℕ) (t : Shape) → Stands bodies t → Has (leaves_of t) x → LeafAt bodies (tree_rows t) x
  leaf_at bodies x (leaf_shape at rows) stands h =
      ⊎_elim (λ e. record { rows = rows; is = ap bodies e ∙ stands; there = λ r i. i }) (λ none. absurd (omega (arith, none))) (has_more x at [] h)
  leaf_at bodies x (node_shape at below) stands h = all_leaf bodies x below stands.1 h

  all_leaf : (bodies : ℕ → Option Body) (x : ℕ) (ts : Shapes) → StandAll bodies ts → Has (leaves_all ts) x → LeafAt bodies (trees_rows ts) x
  all_leaf bodies x (last_shape t) stands h = leaf_at bodies x t stands h
  all_leaf bodies x (more_shapes t key ts) stands h =
      ⊎_elim
      (λ own. let l = leaf_at bodies x t stands.0 own in record { rows = l.rows; is = l.is; there = λ r i. in_left (tree_rows t) (trees_rows ts) r (l.there r i) })
      (λ rest. let l = all_leaf bodies x ts stands.1 rest in record { rows = l.rows; is = l.is; there = λ r i. in_right (tree_rows t) (trees_rows ts) r (l.there r i) })
      (has_split x (leaves_of t) (leaves_all ts) h)

-- a link by its place
child_mod : (size x : ℕ) → IsChild size x → x % 1024 ≡ 0
child_mod size x c = let p = c.1 in grind (arith, p)

pub link_none : (z : ℤ) → place_of z ≡ 0 → z ≡ negsuc 0
link_none (pos zero) e = absurd (omega (arith, e))
link_none (pos (suc n)) e = absurd (omega (arith, e))
link_none (negsuc zero) e = refl
link_none (negsuc (suc n)) e = absurd (omega (arith, e))

link_some : (size x : ℕ) (z : ℤ) → IsChild size x → place_of z ≡ x → z ≡ pos x
link_some size x (pos zero) c e = absurd (let m = child_mod size x c in not_one x e m)
  where
    not_one : (y : ℕ) → 1 ≡ y → y % 1024 ≡ 0 → ⊥
    not_one y same divides = let bad : 1 % 1024 ≡ 0 = subst (λ k. k % 1024 ≡ 0) (sym same) divides in omega (arith, bad)
link_some size x (pos (suc n)) c e = ap pos e
link_some size x (negsuc zero) c e = absurd (let low = c.0 in omega (arith, e, low))
link_some size x (negsuc (suc n)) c e = absurd (let m = child_mod size x c in not_one x e m)
  where
    not_one : (y : ℕ) → 1 ≡ y → y % 1024 ≡ 0 → ⊥
    not_one y same divides = let bad : 1 % 1024 ≡ 0 = subst (λ k. k % 1024 ≡ 0) (sym same) divides in omega (arith, bad)

-- the neighbours of a leaf
abbrev last_or : ℕ → List ℕ → ℕ
last_or prev [] = prev
last_or prev (x ∷ xs) = last_or x xs

pub linked_at : (links : ℕ → ℕ × ℕ) (prev : ℕ) (front : List ℕ) (page : ℕ) (back : List ℕ) → Linked links prev (front ++ (page ∷ back)) 0 → links page ≡ (last_or prev front, head_or 0 back)
linked_at links prev [] page back l = l.0
linked_at links prev (x ∷ xs) page back l = linked_at links x xs page back l.1

pub left_is : (size : ℕ) (front : List ℕ) (z : ℤ) → ((x : ℕ) → Has front x → IsChild size x) → place_of z ≡ last_or 0 front → z ≡ last_link front
left_is size [] z children e = link_none z e
left_is size (x ∷ []) z children e = link_some size x z (children x (has_first x [])) e
left_is size (x ∷ (y ∷ ys)) z children e = left_is size (y ∷ ys) z (λ k h. children k (let m : 0 < times k (y ∷ ys) = h in omega (arith, m))) e

pub right_is : (size : ℕ) (back : List ℕ) (z : ℤ) → ((x : ℕ) → Has back x → IsChild size x) → place_of z ≡ head_or 0 back → z ≡ first_link back
right_is size [] z children e = link_none z e
right_is size (x ∷ xs) z children e = link_some size x z (children x (has_first x xs)) e

-- the free list
pub free_list : (frees : ℕ → Option ℕ) (n at : ℕ) (fs : List ℕ) → FreeFrom frees at fs → ((x : ℕ) → Has fs x → 1 ≤ x) → length fs ≤ n → free_from frees n at ≡ fs
free_list frees zero at [] chain some few = refl
free_list frees (suc n) at [] chain some few = ap (λ k. free_from frees (suc n) k) chain
free_list frees zero at (x ∷ xs) chain some few = absurd (omega (arith, few))
free_list frees (suc n) at (x ∷ xs) chain some few =
    ap (λ k. free_from frees (suc n) k) chain.0 ∙ ap (λ c. cond c [] (x ∷ free_next (free_from frees n) (frees x))) (not_zero (some x (has_first x xs)))
    ∙ ap (λ o. x ∷ free_next (free_from frees n) o) chain.1
    ∙ ap (λ l. x ∷ l) (free_list frees n (head_or 0 xs) xs chain.2 (λ y h. some y (let m : 0 < times y xs = h in omega (arith, m))) (omega (arith, few)))
  where
    not_zero : 1 ≤ x → (x == 0) ≡ false
    not_zero low = grind (arith, low)

-- a free page names another one, or none
pub record FreeAt (frees : ℕ → Option ℕ) (fs : List ℕ) (x : ℕ) : Type 0 where
  pub next : ℕ
  pub is : frees x ≡ Some next
  pub there : (next ≡ 0) ⊎ Has fs next

pub first_free : (frees : ℕ → Option ℕ) (at : ℕ) (fs : List ℕ) → FreeFrom frees at fs → (at ≡ 0) ⊎ Has fs at
first_free frees at [] chain = inl chain
first_free frees at (x ∷ xs) chain = inr (subst (λ k. Has (x ∷ xs) k) (sym chain.0) (has_first x xs))

pub free_at : (frees : ℕ → Option ℕ) (at : ℕ) (fs : List ℕ) (x : ℕ) → FreeFrom frees at fs → Has fs x → FreeAt frees fs x
free_at frees at [] x chain h = absurd (omega (arith, h))
free_at frees at (y ∷ ys) x chain h =
    ⊎_elim
    (λ e. record { next = head_or 0 ys; is = ap frees e ∙ chain.1; there = behind (first_free frees (head_or 0 ys) ys chain.2) })
    (λ more. let f = free_at frees (head_or 0 ys) ys x chain.2 more in record { next = f.next; is = f.is; there = ⊎_elim (λ z. inl z) (λ m. inr (omega (arith, m))) f.there })
    (has_more x y ys h)
  where
    behind : (head_or 0 ys ≡ 0) ⊎ Has ys (head_or 0 ys) → (head_or 0 ys ≡ 0) ⊎ Has (y ∷ ys) (head_or 0 ys)
    behind (inl z) = inl z
    behind (inr m) = inr (omega (arith, m))

pub marked_free : (overflow left : ℤ) (next : ℕ) → next_if overflow left ≡ Some next → (overflow ≡ negsuc 1) × (place_of left ≡ next)
marked_free (pos n) left next e = absurd (let bad : None ≡ Some next = e in cc)
marked_free (negsuc zero) left next e = absurd (let bad : None ≡ Some next = e in cc)
marked_free (negsuc (suc zero)) left next e = (refl, (let same : Some (place_of left) ≡ Some next = e in cc))
marked_free (negsuc (suc (suc n))) left next e = absurd (let bad : None ≡ Some next = e in cc)
