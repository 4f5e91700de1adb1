-- The form of a value that a number was taken out of.
use Rattle.std.proofs.Common.{◌≡◌, ◌≢◌, ◌⊎◌, ◌≤◌, ◌<◌, ◌+◌, ◌-◌, ◌%◌, ◌^◌, ℕ, ℤ, List, [], ◌∷◌, ◌++◌, zero, suc, length, cond, ◌==◌, true, inl, inr, refl, ap, sym, ◌∙◌, subst, arith, append-nil}
use Rattle.bfs_base.specs.Lists.{times}
use Rattle.bfs_base.specs.declared.kind.KeyKind.{KeyKind}
use Rattle.bfs_bytes.specs.Fields.{unsigned_at}
use Rattle.bfs_node.specs.Page.{Row}
use Rattle.bfs_pages.specs.Order.{Key}
use Rattle.bfs_pages.specs.Shapes.{Shape}
use Rattle.bfs_pages.specs.Trees.{page_in, IsTree}
use Rattle.bfs_pages.proofs.Splice.{self, times-append}
use Rattle.bfs_values.specs.declared.link.Link.TheVariants.{Number, Fragment, Chain}
use Rattle.bfs_values.specs.Links.{link_in}
use Rattle.bfs_values.specs.Values.{numbers_from, page_count, page_numbers, chain_of, numbers_of_pages, AreDuplicates, in_order, HasNumbers, numbers_in, values_in}
use Rattle.bfs_values.specs.Formed.{AreFew, IsFormed}
use Rattle.bfs_values.specs.Stored.{Stored}
use Rattle.bfs_dups.proofs.Answered.{linked-open}
use Rattle.bfs_dups.proofs.Holding.{reached-once}
use Rattle.bfs_dups.proofs.Moved.{length-numbers}
use Rattle.bfs_values.proofs.Opened.{pages_of}
use Rattle.bfs_dups.proofs.Slotted.{decide, eq_no}
use Rattle.bfs_dups_remove.specs.Shortened.{IsRenumbered, IsPassed, IsFolded}
use Rattle.bfs_dups_remove.proofs.Folded.{the-first}
use Rattle.bfs_dups_remove.proofs.Lesser.{IsSecond, length-order, length-more}
use Rattle.bfs_dups_remove.proofs.Passed.{parts-times}
use Rattle.bfs_dups_remove.proofs.Settled.{lone-means}

eq_true : (a d : ℕ) → a ≡ d → (a == d) ≡ true
eq_true a d e = grind (arith, e)

-- the page before the one that went has the numbers that were written
pub passed-page : (kind : KeyKind) (b c : List ℕ) (t : Shape) (front : List Row) (key : Key) (back : List Row) (value : ℤ) (p at gone : ℕ) (us xs ns : List ℕ) → Stored kind b t (front ++ ((key, value) ∷ back)) → link_in value ≡ Chain p → chain_of b p ≡ us ++ (at ∷ (gone ∷ xs))
    → IsPassed b c at gone ns → page_numbers (page_in c at) ≡ ns
passed-page kind b c t front key back value p at gone us xs ns s link is f =
    let o = linked-open kind b t front key back value (Chain p) s link in
    let rest : List ℕ = o.fragments ++ pages_of b (front ++ back) in
    let all : List ℕ = us ++ (at ∷ (gone ∷ xs)) in
    let tree : IsTree kind b (all ++ rest) t o.free = subst (λ z. IsTree kind b (z ++ rest) t o.free) (append-nil (chain_of b p) ∙ is) o.tree in
    let only : times gone (at ∷ []) ≡ 0 = omega (arith, reached-once kind b (all ++ rest) t o.free gone tree, times-append gone all rest, parts-times gone us at (gone ∷ xs), first gone gone xs, self gone []) in
    let apart : at ≢ gone = λ e. let one : 1 ≤ times gone (at ∷ []) = subst (λ z. 1 ≤ times z (at ∷ [])) e (self at []) in omega (arith, one, only) in
    ap page_numbers (f.given.pages at apart ∙ f.set.pages at ∙ ap (λ t. cond t f.page (page_in b at)) (eq_true at at refl)) ∙ f.numbers_are
  where
    first : (x y : ℕ) (ys : List ℕ) → times x (y ∷ ys) ≡ times x (y ∷ []) + times x ys
    first x y ys = omega arith

-- each page has the numbers that it had
pub mended-page : (b c : List ℕ) (q at : ℕ) → IsRenumbered b c q (page_numbers (page_in b q)) → page_numbers (page_in c at) ≡ page_numbers (page_in b at)
mended-page b c q at f = by_place (decide at q)
  where
    by_place : (at ≡ q) ⊎ (at ≢ q) → page_numbers (page_in c at) ≡ page_numbers (page_in b at)
    by_place (inl e) = ap page_numbers (f.set.pages at ∙ ap (λ t. cond t f.page (page_in b at)) (eq_true at q e)) ∙ f.numbers_are ∙ ap (λ z. page_numbers (page_in b z)) (sym e)
    by_place (inr n) = ap page_numbers (f.set.pages at ∙ ap (λ t. cond t f.page (page_in b at)) (eq_no at q n))

pub count-length : (page : List ℕ) → length (page_numbers page) ≡ page_count page
count-length page = length-numbers page 24 (page_count page)

-- how many numbers a chain means
chain-length : (b : List ℕ) (p : ℕ) (xs : List ℕ) → chain_of b p ≡ xs → length (numbers_in b (Chain p)) ≡ length (numbers_of_pages b xs)
chain-length b p xs is = length-order (numbers_of_pages b (chain_of b p)) ∙ ap (λ z. length (numbers_of_pages b z)) is

pages-length : (b : List ℕ) (x : ℕ) (xs : List ℕ) → length (numbers_of_pages b (x ∷ xs)) ≡ page_count (page_in b x) + length (numbers_of_pages b xs)
pages-length b x xs = length-more (page_numbers (page_in b x)) (numbers_of_pages b xs) ∙ ap (λ n. n + length (numbers_of_pages b xs)) (count-length (page_in b x))

-- two pages have eight numbers or more
pub folded-many : (b : List ℕ) (p next m n : ℕ) → IsSecond b p p next → m ≡ page_count (page_in b p) → n ≡ page_count (page_in b next) → 7 < m + n → IsFolded b p
folded-many b p next m n s e f many = inr (omega (arith, many, e, f, chain-length b p (p ∷ (next ∷ s.back)) s.parts, pages-length b p (next ∷ s.back), pages-length b next s.back))

-- the first page has seven numbers or more
pub folded-full : (b : List ℕ) (p : ℕ) → length b % 1024 ≡ 0 → HasNumbers b (Chain p) → 7 ≤ page_count (page_in b p) → IsFolded b p
folded-full b p w h full = let f = the-first b p w h in by_back f.back f.parts
  where
    by_back : (xs : List ℕ) → chain_of b p ≡ p ∷ xs → IsFolded b p
    by_back [] is = inl is
    by_back (y ∷ ys) is =
        let good : AreDuplicates b (p ∷ (y ∷ ys)) = subst (λ z. AreDuplicates b z) is h.2 in
        inr (omega (arith, full, good.1.0.some, chain-length b p (p ∷ (y ∷ ys)) is, pages-length b p (y ∷ ys), pages-length b y ys))

-- the numbers of another page came to those of a page
pub absorbed-more : (page other both now : List ℕ) → page_numbers now ≡ page_numbers both → page_numbers both ≡ in_order (page_numbers other ++ page_numbers page) → 1 ≤ page_count other → page_count page < page_count now
absorbed-more page other both now e f some =
    let n : length (page_numbers now) ≡ length (page_numbers other ++ page_numbers page) = ap length (e ∙ f) ∙ length-order (page_numbers other ++ page_numbers page) in
    omega (arith, some, n, length-more (page_numbers other) (page_numbers page), count-length now, count-length other, count-length page)

-- a list that is no plain number
pub few-numbers : (page : List ℕ) (at n : ℕ) → 1 ≤ n → n ≤ 7 → (n ≡ 1 → 2 ^ 62 ≤ unsigned_at 8 page at) → AreFew (numbers_from page at n)
few-numbers page at zero some fits lone = absurd (omega (arith, some))
few-numbers page at (suc zero) some fits lone = inr (unsigned_at 8 page at, lone refl, refl)
few-numbers page at (suc (suc m)) some fits lone = let l = length-numbers page at (suc (suc m)) in inl (omega (arith, l), omega (arith, l, fits))

pub formed-number : (new : ℤ) (n : ℕ) (ns : List ℕ) → link_in new ≡ Number n → ns ≡ n ∷ [] → IsFormed (link_in new) ns
formed-number new n ns e is = subst (λ l. IsFormed l ns) (sym e) (ap length is)

pub formed-fragment : (new : ℤ) (page i : ℕ) (ns : List ℕ) → link_in new ≡ Fragment page i → AreFew ns → IsFormed (link_in new) ns
formed-fragment new page i ns e few = subst (λ l. IsFormed l ns) (sym e) few

-- a chain of two pages that is folded
pub formed-pages : (b : List ℕ) (p next : ℕ) (value new : ℤ) → link_in value ≡ Chain p → new ≡ value → IsSecond b p p next → IsFolded b p → IsFormed (link_in new) (values_in b value)
formed-pages b p next value new e same s f = subst (λ l. IsFormed l (values_in b value)) (sym (ap link_in same ∙ e)) (subst (λ l. 8 ≤ length (numbers_in b l)) (sym e) (by_case f))
  where
    by_case : IsFolded b p → 8 ≤ length (numbers_in b (Chain p))
    by_case (inl is) = absurd (omega (arith, ap length (sym is ∙ s.parts)))
    by_case (inr many) = many

-- a chain whose only page has eight numbers or more
pub formed-full : (b : List ℕ) (p n : ℕ) (value new : ℤ) → link_in value ≡ Chain p → new ≡ value → HasNumbers b (Chain p) → chain_of b p ≡ p ∷ [] → n ≡ page_count (page_in b p) → 7 < n → IsFormed (link_in new) (values_in b value)
formed-full b p n value new e same h is count many =
    let l : length (values_in b value) ≡ page_count (page_in b p) = ap length (sym (lone-means b p value e h is)) ∙ count-length (page_in b p) in
    subst (λ z. IsFormed z (values_in b value)) (sym (ap link_in same ∙ e)) (omega (arith, l, count, many))

-- how many numbers the first page has while pages come together, by how many more may
pub six-more : (n : ℕ) → 1 ≤ n → 7 ≤ 6 + n
six-more n h = omega (arith, h)

pub one-less : (left m n : ℕ) → 7 ≤ left + m → m < n → 7 ≤ (left - 1) + n
one-less left m n h l = omega (arith, h, l)

pub none-left : (left n : ℕ) → 7 ≤ left + n → left ≤ 0 → 7 ≤ n
none-left left n h z = omega (arith, h, z)

pub few-count : (m n : ℕ) → m ≡ n → m ≤ 7 → n ≤ 7
few-count m n e h = omega (arith, e, h)

pub never-there : (x : ℕ) (ns : List ℕ) → times x ns ≡ 0 → 1 ≤ times x ns → ⊥
never-there x ns n h = omega (arith, n, h)

-- the same numbers in another stream
pub formed-again : (m n : List ℕ) (value new : ℤ) (ns : List ℕ) → IsFormed (link_in new) (values_in n value) → values_in n value ≡ values_in m value → values_in m value ≡ ns → IsFormed (link_in new) ns
formed-again m n value new ns f e d = subst (IsFormed (link_in new)) (e ∙ d) f
