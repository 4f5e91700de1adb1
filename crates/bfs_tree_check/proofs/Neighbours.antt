-- The links of leaves, each to the one before it and the one behind it.
use Rattle.std.proofs.Common.{◌≡◌, ◌≢◌, ◌≤◌, ◌<◌, ◌+◌, ◌-◌, ◌⊎◌, inl, inr, ℕ, ℤ, zero, suc, pos, negsuc, List, [], ◌∷◌, ◌++◌, length, take, drop, get_or, refl, sym, ap, ap₂, ◌∙◌, subst, arith}
use Rattle.std.specs.List.{AllByRecursion}
use Rattle.std.proofs.lemmas.List.{drop_more, drop_all, take-append-drop}
use Rattle.bfs_base.specs.declared.kind.KeyKind.{KeyKind}
use Rattle.bfs_node.specs.Page.{left_of, right_of}
use Rattle.bfs_pages.specs.Answers.{IsChild}
use Rattle.bfs_pages.specs.Trees.{page_in, place_of, head_or, state_of, Linked}
use Rattle.bfs_finding.specs.Walks.{leaves_in}
use Rattle.bfs_finding.specs.TreeFaults.{last_link, first_link, wrong_left, wrong_right}
use Rattle.bfs_walk.specs.declared.fault.TreeWrong.{TreeWrong}
use Rattle.bfs_walk.specs.declared.fault.TreeWrong.TheVariants.{Link}
use Rattle.bfs_walk.specs.Wrong.{IsWrongTree}
use Rattle.bfs_tree_check.proofs.Joined.{all_at}

pub last_at : (xs : List ℕ) (j d : ℕ) → j < length xs → last_link (take (suc j) xs) ≡ pos (get_or xs j d)
last_at [] j d h = absurd (omega (arith, h))
last_at (x ∷ []) zero d h = refl
last_at (x ∷ []) (suc j) d h = absurd (omega (arith, h))
last_at (x ∷ (y ∷ ys)) zero d h = refl
last_at (x ∷ (y ∷ ys)) (suc j) d h = last_at (y ∷ ys) j d (omega (arith, h))

pub before_is : (xs : List ℕ) (i d : ℕ) → i ≢ 0 → i < length xs → pos (get_or xs (i - 1) d) ≡ last_link (take i xs)
before_is xs zero d some h = absurd (some refl)
before_is xs (suc j) d some h =
    let e : suc j - 1 ≡ j = omega arith in
    ap (λ k. pos (get_or xs k d)) e ∙ sym (last_at xs j d (omega (arith, h)))

pub behind_is : (xs : List ℕ) (i d : ℕ) → i + 1 < length xs → pos (get_or xs (i + 1) d) ≡ first_link (drop (i + 1) xs)
behind_is xs i d h = sym (ap first_link (drop_more xs (i + 1) d h))

pub none_behind : (xs : List ℕ) (i : ℕ) → length xs ≤ i + 1 → negsuc 0 ≡ first_link (drop (i + 1) xs)
none_behind xs i h = sym (ap first_link (drop_all (i + 1) xs h))

-- what is found at a leaf of the tree is true of it
pub beside_wrong : (kind : KeyKind) (b front back : List ℕ) (at size : ℕ) (page : List ℕ) (left right : ℤ) (wrong : TreeWrong) → page ≡ page_in b at → length b ≡ size → IsChild size at
    → leaves_in kind b ≡ front ++ (at ∷ back) → left ≡ last_link front → right ≡ first_link back
    → ((wrong ≡ Link at (left_of page) left) × (left_of page ≢ left)) ⊎ ((wrong ≡ Link at (right_of page) right) × (right_of page ≢ right)) → IsWrongTree kind b wrong
beside_wrong kind b front back at size page left right wrong is long child leaves left_is right_is (inl w) =
    subst (IsWrongTree kind b) (sym w.0) (wrong_left front back leaves (subst (λ n. IsChild n at) (sym long) child) (ap left_of is) left_is w.1)
beside_wrong kind b front back at size page left right wrong is long child leaves left_is right_is (inr w) =
    subst (IsWrongTree kind b) (sym w.0) (wrong_right front back leaves (subst (λ n. IsChild n at) (sym long) child) (ap right_of is) right_is w.1)

-- a list with one of its members apart
pub apart_at : (xs : List ℕ) (i d : ℕ) → i < length xs → xs ≡ take i xs ++ (get_or xs i d ∷ drop (i + 1) xs)
apart_at xs i d h = sym (take-append-drop i xs) ∙ ap (λ l. take i xs ++ l) (drop_more xs i d h)

-- a leaf has the links to its neighbours
abbrev pub AreBeside : List ℕ → List ℕ → ℕ → Type 0
AreBeside b xs j = (left_of (page_in b (get_or xs j 0)) ≡ last_link (take j xs)) × (right_of (page_in b (get_or xs j 0)) ≡ first_link (drop (j + 1) xs))

-- the place before one of a list
prev_at : ℕ → List ℕ → ℕ → ℕ
prev_at prev xs zero = prev
prev_at prev [] (suc j) = prev
prev_at prev (x ∷ xs) (suc j) = prev_at x xs j

linked_rest : (links : ℕ → ℕ × ℕ) (prev : ℕ) (xs : List ℕ) → ((j : ℕ) → j < length xs → links (get_or xs j 0) ≡ (prev_at prev xs j, head_or 0 (drop (suc j) xs))) → Linked links prev xs 0
unfolding prev_at
linked_rest links prev [] h = tt
linked_rest links prev (x ∷ xs) h = (h 0 (omega arith), linked_rest links x xs (λ j l. h (suc j) (omega (arith, l))))

prev_is : (prev : ℕ) (xs : List ℕ) (j : ℕ) → j < length xs → prev_at prev xs (suc j) ≡ get_or xs j 0
unfolding prev_at
prev_is prev [] j h = absurd (omega (arith, h))
prev_is prev (x ∷ xs) zero h = refl
prev_is prev (x ∷ xs) (suc j) h = prev_is x xs j (omega (arith, h))

place_at : (x : ℕ) → 1 ≤ x → place_of (pos x) ≡ x
place_at zero h = absurd (omega (arith, h))
place_at (suc x) h = refl

last_place : (xs : List ℕ) (j : ℕ) → j < length xs → AllByRecursion (λ x. 1 ≤ x) xs → place_of (last_link (take j xs)) ≡ prev_at 0 xs j
unfolding prev_at
last_place xs zero h all = refl
last_place xs (suc j) h all =
    ap place_of (last_at xs j 0 (omega (arith, h))) ∙ place_at (get_or xs j 0) (all_at (λ x. 1 ≤ x) xs j 0 (omega (arith, h)) all) ∙ sym (prev_is 0 xs j (omega (arith, h)))

first_place : (zs : List ℕ) → AllByRecursion (λ x. 1 ≤ x) zs → place_of (first_link zs) ≡ head_or 0 zs
first_place [] all = refl
first_place (z ∷ zs) all = place_at z all.0

all_drop : (P : ℕ → Type 0) (n : ℕ) (xs : List ℕ) → AllByRecursion P xs → AllByRecursion P (drop n xs)
all_drop P zero xs a = a
all_drop P (suc n) [] a = tt
all_drop P (suc n) (x ∷ xs) a = all_drop P n xs a.1

lows : (size : ℕ) (xs : List ℕ) → AllByRecursion (IsChild size) xs → AllByRecursion (λ x. 1 ≤ x) xs
lows size [] a = tt
lows size (x ∷ xs) a = (a.0.0, lows size xs a.1)

pub linked_all : (kind : KeyKind) (b : List ℕ) (size : ℕ) (xs : List ℕ) → AllByRecursion (IsChild size) xs → ((j : ℕ) → j < length xs → AreBeside b xs j) → Linked (state_of kind b).links 0 xs 0
linked_all kind b size xs children all =
    let low = lows size xs children in
    linked_rest (state_of kind b).links 0 xs (λ j h.
    let one = all j h in
    let next : drop (j + 1) xs ≡ drop (suc j) xs = ap (λ n. drop n xs) (let e : j + 1 ≡ suc j = omega arith in e) in
    ap₂ (λ p n. (p, n)) (ap place_of one.0 ∙ last_place xs j h low) (ap place_of one.1 ∙ ap (λ l. place_of (first_link l)) next ∙ first_place (drop (suc j) xs) (all_drop (λ x. 1 ≤ x) (suc j) xs low)))
