-- A page is taken.
use Rattle.std.proofs.Common.{◌≡◌, ◌≢◌, ◌≤◌, ◌-◌, ◌%◌, ℕ, List, length, Some, false, cond, ◌==◌, refl, ap, sym, ◌∙◌, subst, arith, inl, inr, ◌⊎◌}
use Rattle.bfs_node.specs.BaseKeyKind.{KeyKind}
use Rattle.bfs_node.specs.declared.header.Header.{Header}
use Rattle.bfs_pages.specs.Answers.{IsChild, IsLink, IsHeaderPage}
use Rattle.bfs_pages.specs.Changes.{Same}
use Rattle.bfs_pages.specs.Trees.{state_of, page_in, header_in, place_of, body_in, neighbours_in, free_in}
use Rattle.bfs_pages.specs.Writes.{HeaderSet, PageAdded, IsTaken}

eq_no : (a b : ℕ) → a ≢ b → (a == b) ≡ false
eq_no a b e = grind (arith, e)

-- pages that are as they were say what they said
pub same-pages : (kind : KeyKind) (b c : List ℕ) (q : ℕ) → ((x : ℕ) → x ≢ q → page_in c x ≡ page_in b x) → Same (state_of kind b) (state_of kind c) q
same-pages kind b c q h = record {
  bodies = λ x n. ap (body_in kind) (h x n);
  frees = λ x n. ap free_in (h x n);
  links = λ x n. ap neighbours_in (h x n);
  pages = h;
}

pub taken-new : (kind : KeyKind) (b b1 c page : List ℕ) (h2 : Header) → PageAdded b b1 page → HeaderSet b1 c h2 → place_of (header_in b).free_pointer ≡ 0 → length b % 1024 ≡ 0
    → h2.root_pointer ≡ (header_in b).root_pointer → h2.levels ≡ (header_in b).levels → h2.free_pointer ≡ (header_in b).free_pointer → IsTaken kind b c (length b) h2
taken-new kind b b1 c page h2 a s none even root levels free = record {
  header = s.header;
  same_levels = ap (λ (z : Header). z.levels) s.header ∙ levels;
  taken = (
    same-pages kind b c (length b) pages,
    ap (λ h. place_of h.root_pointer) s.header ∙ ap place_of root,
    ap (λ h. h.levels - 1) s.header ∙ ap (λ n. n - 1) levels,
    inr (none, refl, ap (λ h. place_of h.free_pointer) s.header ∙ ap place_of free, s.size ∙ a.size, even),
  );
  others = pages;
}
  where
    pages : (x : ℕ) → x ≢ length b → page_in c x ≡ page_in b x
    pages x n = s.pages x ∙ a.pages x ∙ ap (λ t. cond t page (page_in b x)) (eq_no x (length b) n)

pub taken-first : (kind : KeyKind) (b c : List ℕ) (q : ℕ) (h2 : Header) → HeaderSet b c h2 → q ≡ place_of (header_in b).free_pointer → 1 ≤ q → free_in (page_in b q) ≡ Some (place_of h2.free_pointer)
    → h2.root_pointer ≡ (header_in b).root_pointer → h2.levels ≡ (header_in b).levels → IsTaken kind b c q h2
taken-first kind b c q h2 s is some next root levels = record {
  header = s.header;
  same_levels = ap (λ (z : Header). z.levels) s.header ∙ levels;
  taken = (
    same-pages kind b c q (λ x n. s.pages x),
    ap (λ h. place_of h.root_pointer) s.header ∙ ap place_of root,
    ap (λ h. h.levels - 1) s.header ∙ ap (λ n. n - 1) levels,
    inl (
      λ z. not_zero (subst (λ y. 1 ≤ y) (is ∙ z) some),
      is,
      next ∙ ap (λ h. Some (place_of h.free_pointer)) (sym s.header),
      ap free_in (s.pages q),
      ap (body_in kind) (s.pages q),
      ap neighbours_in (s.pages q),
      s.size,
    ),
  );
  others = λ x n. s.pages x;
}
  where
    not_zero : 1 ≤ 0 → ⊥
    not_zero h = omega (arith, h)

-- the page that should be free is not
pub not-header : (kind : KeyKind) (b page : List ℕ) (size q : ℕ) → length b ≡ size → q ≡ place_of (header_in b).free_pointer → IsChild size q → page ≡ page_in b q
    → ((next : ℕ) → free_in page ≡ Some next → IsLink size next → ⊥) → IsHeaderPage kind b (header_in b) → ⊥
not-header kind b page size q l is child r none h = by_case h.1
  where
    not_zero : 1 ≤ 0 → ⊥
    not_zero h = omega (arith, h)

    by_case : (place_of (header_in b).free_pointer ≡ 0) ⊎ ((next : ℕ) × (free_in (page_in b (place_of (header_in b).free_pointer)) ≡ Some next) × IsLink (length b) next) → ⊥
    by_case (inl z) = not_zero (subst (λ y. 1 ≤ y) (is ∙ z) child.0)
    by_case (inr f) = none f.0 (ap free_in (r ∙ ap (λ y. page_in b y) is) ∙ f.1) (subst (λ n. IsLink n f.0) l f.2)

pub taken-new-at : (kind : KeyKind) (b b1 c page : List ℕ) (q : ℕ) (h2 : Header) → q ≡ length b → PageAdded b b1 page → HeaderSet b1 c h2 → place_of (header_in b).free_pointer ≡ 0 → length b % 1024 ≡ 0
    → h2.root_pointer ≡ (header_in b).root_pointer → h2.levels ≡ (header_in b).levels → h2.free_pointer ≡ (header_in b).free_pointer → IsTaken kind b c q h2
taken-new-at kind b b1 c page q h2 e a s none even root levels free =
    subst (λ (z : ℕ). IsTaken kind b c z h2) (sym e) (taken-new kind b b1 c page h2 a s none even root levels free)
