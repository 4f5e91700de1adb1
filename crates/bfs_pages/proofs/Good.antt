-- The test of a page, and what it says.
use Rattle.std.proofs.Common.{◌≡◌, ◌≤◌, ◌<◌, ◌+◌, ℕ, zero, suc, List, length, Bool, true, false, ◌==◌, ◌&&◌, nat_le, refl, sym, subst, arith}
use Rattle.bfs_node.specs.BaseKeyKind.{KeyKind}
use Rattle.bfs_node.specs.Faults.{IsPageRefusal}
use Rattle.bfs_node.specs.Page.{rows_of, HasLayout, HasKeys, IsPage, HasEnd, HasBounds, HasLastEnd, taken_by, count_at, key_bytes_at, start_at, end_at, least_key, most_key}
use Rattle.bfs_node.specs.declared.fault.PageFault.{PageFault}
use Rattle.bfs_node.specs.declared.fault.PageFault.TheVariants.{Magic, Size, Kind, Bounds, Ends}
use Rattle.bfs_node.proofs.PageLayout.{keys-of_ends, ends-of_keys}
use Rattle.bfs_pages.specs.Trees.{are_ends, is_page}

both : (a b : Bool) → a && b ≡ true → (a ≡ true) × (b ≡ true)
both true b e = (refl, e)
both false b e = absurd (no e)
  where
    no : false ≡ true → ⊥
    no e = cc

and : (a b : Bool) → a ≡ true → b ≡ true → a && b ≡ true
and true b e f = f
and false b e f = e

le_true : (m n : ℕ) → m ≤ n → nat_le m n ≡ true
le_true m n h = grind (arith, h)

true_le : (m n : ℕ) → nat_le m n ≡ true → m ≤ n
true_le m n h = grind (arith, h)

eq_true : (m n : ℕ) → m ≡ n → (m == n) ≡ true
eq_true m n h = grind (arith, h)

true_eq : (m n : ℕ) → (m == n) ≡ true → m ≡ n
true_eq m n h = grind (arith, h)

ends-all : (kind : KeyKind) (page : List ℕ) (n : ℕ) → are_ends kind page n ≡ true → (j : ℕ) → j < n → HasEnd kind page j
ends-all kind page zero e j h = absurd (omega (arith, h))
ends-all kind page (suc n) e j h = by_test (j == n) refl (ends-all kind page n split.0 j)
  where
    split : (are_ends kind page n ≡ true) × (nat_le (start_at page n + least_key kind) (end_at page n) && nat_le (end_at page n) (start_at page n + most_key kind) ≡ true)
    split = both (are_ends kind page n) (nat_le (start_at page n + least_key kind) (end_at page n) && nat_le (end_at page n) (start_at page n + most_key kind)) e

    two : (nat_le (start_at page n + least_key kind) (end_at page n) ≡ true) × (nat_le (end_at page n) (start_at page n + most_key kind) ≡ true)
    two = both (nat_le (start_at page n + least_key kind) (end_at page n)) (nat_le (end_at page n) (start_at page n + most_key kind)) split.1

    here : HasEnd kind page n
    here =
        let l = true_le (start_at page n + least_key kind) (end_at page n) two.0 in
        let m = true_le (end_at page n) (start_at page n + most_key kind) two.1 in
        (omega (arith, l), (omega (arith, l), omega (arith, m)))

    by_test : (c : Bool) → (j == n) ≡ c → (j < n → HasEnd kind page j) → HasEnd kind page j
    by_test true i ih = subst (λ z. HasEnd kind page z) (sym (true_eq j n i)) here
    by_test false i ih = ih (grind (arith, h, i))

all-ends : (kind : KeyKind) (page : List ℕ) (n : ℕ) → ((j : ℕ) → j < n → HasEnd kind page j) → are_ends kind page n ≡ true
all-ends kind page zero h = refl
all-ends kind page (suc n) h =
    let e = h n (omega arith) in
    and (are_ends kind page n) (nat_le (start_at page n + least_key kind) (end_at page n) && nat_le (end_at page n) (start_at page n + most_key kind))
    (all-ends kind page n (λ j l. h j (omega (arith, l))))
    (and (nat_le (start_at page n + least_key kind) (end_at page n)) (nat_le (end_at page n) (start_at page n + most_key kind))
    (le_true (start_at page n + least_key kind) (end_at page n) (omega (arith, e.0, e.1.0))) (le_true (end_at page n) (start_at page n + most_key kind) (omega (arith, e.0, e.1.1))))

abbrev Parts : KeyKind → List ℕ → Type 0
Parts kind page = (length page ≡ 1024) × HasBounds page × ((j : ℕ) → j < count_at page → HasEnd kind page j) × HasLastEnd page

parts : (kind : KeyKind) (page : List ℕ) → is_page kind page ≡ true → Parts kind page
parts kind page e =
    let a = both (length page == 1024) (nat_le (taken_by (count_at page) (key_bytes_at page)) 1024 && (are_ends kind page (count_at page) && (start_at page (count_at page) == key_bytes_at page))) e in
    let b = both (nat_le (taken_by (count_at page) (key_bytes_at page)) 1024) (are_ends kind page (count_at page) && (start_at page (count_at page) == key_bytes_at page)) a.1 in
    let c = both (are_ends kind page (count_at page)) (start_at page (count_at page) == key_bytes_at page) b.1 in
    (true_eq (length page) 1024 a.0, true_le (taken_by (count_at page) (key_bytes_at page)) 1024 b.0, ends-all kind page (count_at page) c.0, true_eq (start_at page (count_at page)) (key_bytes_at page) c.1)

pub page-true : (kind : KeyKind) (page : List ℕ) → is_page kind page ≡ true → IsPage kind page
page-true kind page e =
    let p = parts kind page e in
    let l : HasLayout page = record { size = p.0; bounds = p.1; ascend = λ j h. (p.2 j h).0; last = p.3 } in
    record { layout = l; keys = keys-of_ends kind page l p.2 }

pub true-page : (kind : KeyKind) (page : List ℕ) → IsPage kind page → is_page kind page ≡ true
true-page kind page p =
    and (length page == 1024) (nat_le (taken_by (count_at page) (key_bytes_at page)) 1024 && (are_ends kind page (count_at page) && (start_at page (count_at page) == key_bytes_at page)))
    (eq_true (length page) 1024 p.layout.size)
    (and (nat_le (taken_by (count_at page) (key_bytes_at page)) 1024) (are_ends kind page (count_at page) && (start_at page (count_at page) == key_bytes_at page))
    (le_true (taken_by (count_at page) (key_bytes_at page)) 1024 p.layout.bounds)
    (and (are_ends kind page (count_at page)) (start_at page (count_at page) == key_bytes_at page)
    (all-ends kind page (count_at page) (ends-of_keys kind page p)) (eq_true (start_at page (count_at page)) (key_bytes_at page) p.layout.last)))

-- a page that is refused is none
pub refused-page : (kind : KeyKind) (page : List ℕ) (fault : PageFault) → IsPageRefusal kind page fault → is_page kind page ≡ false
refused-page kind page fault r = by_test (is_page kind page) refl
  where
    contrary : (f : PageFault) → IsPageRefusal kind page f → Parts kind page → ⊥
    contrary (Bounds count bytes) r p = r.0 p.1
    contrary (Ends index) r p = by_place (nat_le (index + 1) (count_at page)) refl
      where
        by_place : (c : Bool) → nat_le (index + 1) (count_at page) ≡ c → ⊥
        by_place true e = let l : index < count_at page = grind (arith, e) in r.3 l (p.2 index l)
        by_place false e = r.4 (let m = r.1 in grind (arith, e, m)) p.3
    contrary (Magic found) r p = r
    contrary (Size found) r p = r
    contrary (Kind found) r p = r

    by_test : (c : Bool) → is_page kind page ≡ c → is_page kind page ≡ false
    by_test true e = absurd (contrary fault r (parts kind page e))
    by_test false e = e

-- a page with another link
pub linked-page : (kind : KeyKind) (page new : List ℕ) → IsPage kind page → rows_of new ≡ rows_of page → (HasLayout page → HasLayout new) → IsPage kind new
linked-page kind page new p e l = record { layout = l p.layout; keys = subst (λ r. HasKeys kind r) (sym e) p.keys }
