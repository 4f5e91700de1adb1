-- Pages that say what they said, but for their links, or without a child.
use Rattle.std.proofs.Common.{◌≡◌, ◌≢◌, ◌≤◌, ◌<◌, ◌^◌, ℕ, ℤ, pos, negsuc, zero, suc, List, length, Some, None, true, false, cond, ◌==◌, refl, ap, ap₂, sym, ◌∙◌, subst, arith, w64, SFits}
use Rattle.bfs_base.specs.declared.kind.KeyKind.{KeyKind}
use Rattle.bfs_node.specs.declared.header.Header.{Header}
use Rattle.bfs_node.specs.Page.{Row, IsPage, HasLayout, HasKeys, rows_of, row_in, value_of, links_of}
use Rattle.bfs_pages.specs.Answers.{IsChild, IsInteriorPage}
use Rattle.bfs_pages.specs.Order.{Key}
use Rattle.bfs_pages.specs.Shapes.{inner_body, leaf_body}
use Rattle.bfs_pages.specs.Trees.{page_in, place_of, body_in, free_in, neighbours_in, children_in, next_if}
use Rattle.bfs_pages.specs.Ways.{KeysRise, FirstAt}
use Rattle.bfs_pages.specs.Writes.{PageSet, HeaderSet, BesideSet}
use Rattle.bfs_remove.specs.Cuts.{keys_without, last_without}
use Rattle.bfs_remove.specs.Removed.{IsGiven, IsMended, IsDropped, rows_less, last_less}
use Rattle.bfs_pages.proofs.Good.{linked-page}
use Rattle.bfs_pages.proofs.Says.{says-leaf, says-inner}
use Rattle.bfs_pages.proofs.OfKind.{inner-fields, children-rise}
use Rattle.bfs_remove.proofs.Less.{less-keys, less-all, less-last}

eq_no : (a b : ℕ) → a ≢ b → (a == b) ≡ false
eq_no a b e = grind (arith, e)

eq_yes : (a b : ℕ) → (a == b) ≡ true → a ≡ b
eq_yes a b e = grind (arith, e)

eq_off : (a b : ℕ) → (a == b) ≡ false → a ≢ b
eq_off a b e q = grind (arith, e, q)

eq_self : (a : ℕ) → (a == a) ≡ true
eq_self a = grind arith

two_or_more : (n x : ℕ) → IsChild n x → 2 ≤ x
two_or_more n x h = grind (arith, h.0, h.1)

no-free : (page : List ℕ) → (links_of page).overflow ≡ negsuc 0 → free_in page ≡ None
no-free page o = ap (λ z. next_if z (links_of page).left) o

pub set-here : (b c page : List ℕ) (at : ℕ) → PageSet b c at page → page_in c at ≡ page
set-here b c page at s = s.pages at ∙ ap (λ t. cond t page (page_in b at)) (eq_self at)

pub set-off : (b c page : List ℕ) (at : ℕ) → PageSet b c at page → (x : ℕ) → x ≢ at → page_in c x ≡ page_in b x
set-off b c page at s x n = s.pages x ∙ ap (λ t. cond t page (page_in b x)) (eq_no x at n)

-- a leaf has other neighbours
pub mended : (kind : KeyKind) (b c page new : List ℕ) (at : ℕ) (ends : ℕ × ℕ) → BesideSet b c at new → (at ≢ 0 → page ≡ page_in b at) → (at ≢ 0 → IsPage kind page) → (at ≢ 0 → (links_of page).overflow ≡ negsuc 0)
    → rows_of new ≡ rows_of page → (HasLayout page → HasLayout new) → (links_of new).overflow ≡ (links_of page).overflow → (at ≢ 0 → neighbours_in new ≡ ends) → IsMended kind b c at ends
mended kind b c page new zero ends s r p o rows layout over beside = record {
  size = s.size;
  header = s.header;
  pages = λ x n. s.pages x (some x n) ∙ ap (λ t. cond t new (page_in b x)) (eq_no x 0 n);
  body = refl;
  free = refl;
  ends_are = λ n. absurd (n refl);
}
  where
    some : (x : ℕ) → x ≢ 0 → 1 ≤ x
    some x n = omega (arith, n)
mended kind b c page new (suc at) ends s r p o rows layout over beside = record {
  size = s.size;
  header = s.header;
  pages = off;
  body = ap (body_in kind) here ∙ says-leaf kind new (linked-page kind page new (p some) rows layout) (over ∙ o some) ∙ ap (λ (l : List Row). Some (leaf_body l)) rows
      ∙ sym (says-leaf kind page (p some) (o some)) ∙ ap (body_in kind) (r some);
  free = ap free_in here ∙ no-free new (over ∙ o some) ∙ sym (no-free page (o some)) ∙ ap free_in (r some);
  ends_are = λ n. ap neighbours_in here ∙ beside n;
}
  where
    some : suc at ≢ 0
    some = λ e. omega (arith, e)

    here : page_in c (suc at) ≡ new
    here = s.pages (suc at) (omega arith) ∙ ap (λ t. cond t new (page_in b (suc at))) (eq_self (suc at))

    off : (x : ℕ) → x ≢ suc at → page_in c x ≡ page_in b x
    off zero n = refl
    off (suc x) n = s.pages (suc x) (omega arith) ∙ ap (λ t. cond t new (page_in b (suc x))) (eq_no (suc x) (suc at) n)

-- a page is put before the free list
pub given : (b b1 c page : List ℕ) (at : ℕ) (h h2 : Header) → PageSet b b1 at page → HeaderSet b1 c h2 → h2 ≡ record h { free_pointer = pos at } → (links_of page).overflow ≡ negsuc 1 → (links_of page).left ≡ h.free_pointer → IsGiven b c at h
given b b1 c page at h h2 set hs e over left = record {
  size = hs.size ∙ set.size;
  header = hs.header ∙ e;
  pages = λ x n. hs.pages x ∙ set-off b b1 page at set x n;
  free = ap free_in (hs.pages at ∙ set-here b b1 page at set) ∙ ap₂ (λ x y. next_if x y) over left;
}

pub same-header : (h : Header) (h2 : Header) (at : ℕ) → h2.magic ≡ h.magic → h2.node_size ≡ h.node_size → h2.levels ≡ h.levels → h2.data_type ≡ h.data_type → h2.root_pointer ≡ h.root_pointer → h2.free_pointer ≡ pos at → h2.maximum_size ≡ h.maximum_size
    → h2 ≡ record h { free_pointer = pos at }
same-header h h2 at a b c d e f g = λ i. record { magic = a i; node_size = b i; levels = c i; data_type = d i; root_pointer = e i; free_pointer = f i; maximum_size = g i }

-- a page's place is a small number, where the header tells the stream's size
pub small-child : (size q : ℕ) (z : ℤ) → SFits w64 z → z ≡ pos size → IsChild size q → q < 2 ^ 63
small-child size q z f e h =
    let s : SFits w64 (pos size) = subst (λ (y : ℤ). SFits w64 y) e f in
    let within : q < size = grind (arith, h.1) in
    omega (arith, s.sfits, within)

-- an interior page has lost a child
pub child-dropped : (kind : KeyKind) (b c page new : List ℕ) (at i : ℕ) (k : Key) → PageSet b c at new → page ≡ page_in b at → IsInteriorPage kind (length b) page → IsPage kind page → HasLayout new → rows_of new ≡ rows_less (rows_of page) i
    → (links_of new).overflow ≡ last_less (rows_of page) (links_of page).overflow i → (links_of new).left ≡ (links_of page).left → (links_of new).right ≡ (links_of page).right → (KeysRise kind (rows_of page) → FirstAt kind (rows_of page) k i)
    → IsDropped kind b c at k
child-dropped kind b c page new at i k s r inner p layout rows over left right first = record {
  size = s.size;
  header = s.header;
  pages = set-off b c new at s;
  ends = ap neighbours_in (set-here b c new at s) ∙ ap₂ (λ x y. (place_of x, place_of y)) left right ∙ ap neighbours_in r;
  body = λ keys last says up some.
      let f = inner-fields kind page keys last (ap (body_in kind) r ∙ says) in
      let l = less-keys kind (rows_of page) (links_of page).overflow k i (first (children-rise kind (rows_of page) (subst (λ z. KeysRise kind z) (sym f.1) up))) in
      ap (body_in kind) (set-here b c new at s) ∙ says-inner kind new good big
      ∙ ap₂ (λ x y. Some (inner_body x y)) (ap children_in rows ∙ l.0 ∙ ap (λ z. keys_without kind z k) f.1) (ap place_of over ∙ l.1 ∙ ap₂ (λ x y. last_without kind x y k) f.1 f.2);
}
  where
    good : IsPage kind new
    good = record { layout = layout; keys = subst (λ (z : List Row). HasKeys kind z) (sym rows) (less-all kind (rows_of page) i p.keys) }

    big : 2 ≤ place_of (links_of new).overflow
    big =
        subst (λ (z : ℤ). 2 ≤ place_of z) (sym over)
        (less-last (λ z. 2 ≤ place_of z) (rows_of page) (links_of page).overflow i (λ j h. two_or_more (length b) (place_of (value_of (row_in (rows_of page) j))) (inner.children j h)) (two_or_more (length b) (place_of (links_of page).overflow) inner.last))
