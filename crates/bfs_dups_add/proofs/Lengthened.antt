-- Chains that get a number more, in a page that is there or in a new one.
use Rattle.std.proofs.Common.{◌≡◌, ◌≢◌, ◌⊎◌, ◌≤◌, ◌<◌, ◌+◌, ◌%◌, ◌^◌, ℕ, List, [], ◌∷◌, ◌++◌, length, true, cond, ◌==◌, inl, inr, refl, ap, sym, ◌∙◌, subst, arith, append-nil}
use Rattle.bfs_base.specs.Lists.{times, IsOnce}
use Rattle.bfs_base.specs.declared.kind.KeyKind.{KeyKind}
use Rattle.bfs_node.specs.Page.{Row}
use Rattle.bfs_pages.specs.Answers.{IsChild}
use Rattle.bfs_pages.specs.Shapes.{Shape}
use Rattle.bfs_pages.specs.Trees.{page_in, neighbours_in, Linked, IsTree}
use Rattle.bfs_pages.proofs.Laws.{same-links}
use Rattle.bfs_pages.proofs.Splice.{self, times-append}
use Rattle.bfs_values.specs.declared.link.Link.TheVariants.{Number, Chain}
use Rattle.bfs_values.specs.Values.{IsDuplicates, page_count, page_numbers, next_of, EndsAfter, chain_of, numbers_of_pages, AreDuplicates, in_order, placed, is_ascending, HasNumbers, numbers_in}
use Rattle.bfs_values.specs.Chained.{Chained, IsLinked}
use Rattle.bfs_values.specs.Stored.{SameNumbers}
use Rattle.bfs_dups.proofs.Relinked.{relinked}
use Rattle.bfs_dups_add.specs.Written.{IsPut, IsLast, IsWidened, IsExtended}
use Rattle.bfs_values.proofs.Beside.{chain-small, both-sides, pair-of, links_in, linked-more}
use Rattle.bfs_values.proofs.Chaining.{chain-is, chained-ends, numbers-kept, child-more}
use Rattle.bfs_dups_add.proofs.Gained.{put-whole, put-pages, put-page}
use Rattle.bfs_dups.proofs.Holding.{set, reached-child, reached-once}
use Rattle.bfs_dups_add.proofs.Taking.{put}
use Rattle.bfs_values.proofs.Opened.{exchange, own_pages, pages_of, Open}
use Rattle.bfs_dups.proofs.Ordered.{With, with-placed, with-front, with-back, with-order, with-once, order-up, up-once, up-of}
use Rattle.bfs_dups.proofs.Scanning.{numbers-append}
use Rattle.bfs_dups.proofs.Slotted.{decide, eq_no, some-bytes}

eq_true : (a d : ℕ) → a ≡ d → (a == d) ≡ true
eq_true a d e = grind (arith, e)

one-off : (x p : ℕ) → x ≢ p → times x (p ∷ []) ≡ 0
one-off x p n = ap (λ c. cond c 1 0 + 0) (eq_no p x (λ e. n (sym e)))

first : (x y : ℕ) (ys : List ℕ) → times x (y ∷ ys) ≡ times x (y ∷ []) + times x ys
first x y ys = omega arith

-- a plain number becomes a chain of one page
pub raised : (kind : KeyKind) (b c : List ℕ) (t : Shape) (rest : List Row) (n q : ℕ) (page numbers : List ℕ) → Open kind b t rest (Number n) → length b % 1024 ≡ 0 → IsPut kind b c q page → IsLast page numbers
    → Open kind c t rest (Chain q) × SameNumbers b c rest × (numbers_in c (Chain q) ≡ numbers) × ((neighbours_in page).0 ≡ 0 → IsLinked c (Chain q))
raised kind b c t rest n q page numbers o wb p last =
    let tree : IsTree kind b (o.fragments ++ pages_of b rest) t o.free = o.tree in
    let now = put kind b c (o.fragments ++ pages_of b rest) t o.free q page tree (some-bytes kind b (o.fragments ++ pages_of b rest) t o.free tree) p in
    let whole = put-whole kind b c q page p wb in
    let this : page_in c q ≡ page = put-page kind b c q page p in
    let child : IsChild (length c) q = reached-child kind c (q ∷ (o.fragments ++ pages_of b rest)) t now.0 q now.1 (self q (o.fragments ++ pages_of b rest)) in
    let end : next_of c q ≡ 0 = ap (λ z. (neighbours_in z).1) this ∙ last.next in
    let chain : chain_of c q ≡ q ∷ [] = chain-is c q (q ∷ []) whole.0 child.0 (refl, child, end) in
    let good : IsDuplicates (page_in c q) = subst (λ z. IsDuplicates z) (sym this) last.good in
    let are : page_numbers (page_in c q) ≡ numbers = ap page_numbers this ∙ last.numbers_are in
    let all : numbers_of_pages c (chain_of c q) ≡ numbers = ap (numbers_of_pages c) chain ∙ append-nil (page_numbers (page_in c q)) ∙ are in
    let asc : is_ascending numbers ≡ true = ap is_ascending (sym last.numbers_are) ∙ last.good.ascend in
    let mine : HasNumbers c (Chain q) = (child, (0, end), subst (λ z. AreDuplicates c z) (sym chain) (good, tt), subst IsOnce (sym all) (λ k. up-once k numbers (up-of numbers asc))) in
    let off : (x : ℕ) → 1 ≤ times x (o.fragments ++ pages_of b rest) → x ≢ q = λ x h e. not_here (subst (λ z. 1 ≤ times z (o.fragments ++ pages_of b rest)) e h) now.2 in
    let s = relinked kind b c t rest (Number n) (Chain q) o now.0 wb whole.0 whole.1 (λ x h. put-pages kind b c q page p x (off x h)) (subst (λ z. IsTree kind c ((z ++ []) ++ (o.fragments ++ pages_of b rest)) t now.0) (sym chain) now.1) mine (λ at f. refl) (λ at f. refl) in
    (s.0, s.1, ap in_order all ∙ order-up numbers (up-of numbers asc), λ left. subst (λ z. Linked (links_in c) 0 z 0) (sym chain) (pair-of (page_in c q) 0 0 (ap (λ z. (neighbours_in z).0) this ∙ left) end, tt))
  where
    not_here : 1 ≤ times q (o.fragments ++ pages_of b rest) → times q (o.fragments ++ pages_of b rest) ≡ 0 → ⊥
    not_here h z = omega (arith, h, z)

-- the pages of a chain whose right links stay
chained-links : (b c : List ℕ) (x : ℕ) (xs : List ℕ) → length b ≤ length c → ((y : ℕ) → 1 ≤ times y xs → next_of c y ≡ next_of b y) → Chained b x xs → Chained c x xs
chained-links b c x [] l h d = d
chained-links b c x (y ∷ ys) l h d = (
  d.0,
  child-more (length b) (length c) y l d.1,
  subst (λ w. Chained c w ys) (sym (h y (self y ys))) (chained-links b c (next_of b y) ys l (λ z i. h z (omega (arith, i, first z y ys))) d.2),
)

-- one page of a list has a number more
numbers-with : (b c : List ℕ) (at number : ℕ) (xs : List ℕ) → ((x : ℕ) → x ≢ at → page_in c x ≡ page_in b x) → page_numbers (page_in c at) ≡ placed number (page_numbers (page_in b at)) → times at xs ≤ 1 → 1 ≤ times at xs
    → With number (numbers_of_pages b xs) (numbers_of_pages c xs)
numbers-with b c at number [] others this once some = absurd (omega (arith, some))
numbers-with b c at number (y ∷ ys) others this once some = by_page (decide y at) (λ o s. numbers-with b c at number ys others this o s)
  where
    off_tail : y ≡ at → (z : ℕ) → 1 ≤ times z ys → z ≢ at
    off_tail e z i = λ s.
        let one : 1 ≤ times at (y ∷ []) = subst (λ w. 1 ≤ times w (y ∷ [])) e (self y []) in
        let m : 1 ≤ times at ys = subst (λ w. 1 ≤ times w ys) s i in
        omega (arith, m, once, one, first at y ys)

    by_page : (y ≡ at) ⊎ (y ≢ at) → (times at ys ≤ 1 → 1 ≤ times at ys → With number (numbers_of_pages b ys) (numbers_of_pages c ys)) → With number (numbers_of_pages b (y ∷ ys)) (numbers_of_pages c (y ∷ ys))
    by_page (inl e) more =
        let tail : numbers_of_pages c ys ≡ numbers_of_pages b ys = numbers-kept b c ys (λ z i. others z (off_tail e z i)) in
        let head : With number (page_numbers (page_in b y)) (page_numbers (page_in c y)) =
        subst (λ z. With number (page_numbers (page_in b z)) (page_numbers (page_in c z))) (sym e)
        (subst (λ z. With number (page_numbers (page_in b at)) z) (sym this) (with-placed number (page_numbers (page_in b at)))) in
        subst (λ z. With number (numbers_of_pages b (y ∷ ys)) (page_numbers (page_in c y) ++ z)) (sym tail) (with-back number (numbers_of_pages b ys) (page_numbers (page_in b y)) (page_numbers (page_in c y)) head)
    by_page (inr n) more =
        let zero : times at (y ∷ []) ≡ 0 = one-off at y (λ e. n (sym e)) in
        let ih = more (omega (arith, once, first at y ys)) (omega (arith, some, zero, first at y ys)) in
        subst (λ z. With number (numbers_of_pages b (y ∷ ys)) (page_numbers z ++ numbers_of_pages c ys)) (sym (others y n)) (with-front number (page_numbers (page_in b y)) (numbers_of_pages b ys) (numbers_of_pages c ys) ih)

duplicates-set : (b c : List ℕ) (at : ℕ) (xs : List ℕ) → ((x : ℕ) → x ≢ at → page_in c x ≡ page_in b x) → IsDuplicates (page_in c at) → AreDuplicates b xs → AreDuplicates c xs
duplicates-set b c at [] others good d = tt
duplicates-set b c at (y ∷ ys) others good d = (by_page (decide y at), duplicates-set b c at ys others good d.1)
  where
    by_page : (y ≡ at) ⊎ (y ≢ at) → IsDuplicates (page_in c y)
    by_page (inl e) = subst (λ z. IsDuplicates (page_in c z)) (sym e) good
    by_page (inr n) = subst (λ z. IsDuplicates z) (sym (others y n)) d.0

ends-there : (c : List ℕ) (p : ℕ) (xs : List ℕ) → 1 ≤ p → Chained c p xs → (n : ℕ) × EndsAfter c n p
ends-there c p [] some d = absurd (omega (arith, some, d))
ends-there c p (y ∷ ys) some d = (length ys, subst (EndsAfter c (length ys)) (sym d.0) (chained-ends c p y ys d))

-- a page of the chain has a number more
pub widened : (kind : KeyKind) (b c : List ℕ) (t : Shape) (rest : List Row) (p at number : ℕ) (xs : List ℕ) → Open kind b t rest (Chain p) → length b % 1024 ≡ 0 → chain_of b p ≡ xs → Chained b p xs → 1 ≤ times at xs
    → times number (numbers_of_pages b xs) ≡ 0 → IsWidened b c at number → Open kind c t rest (Chain p) × SameNumbers b c rest × (numbers_in c (Chain p) ≡ placed number (numbers_in b (Chain p)))
    × (IsLinked b (Chain p) → IsLinked c (Chain p))
widened kind b c t rest p at number xs o wb is ch here absent f =
    let tree : IsTree kind b (xs ++ (o.fragments ++ pages_of b rest)) t o.free = subst (λ z. IsTree kind b (z ++ (o.fragments ++ pages_of b rest)) t o.free) (append-nil (chain_of b p) ∙ is) o.tree in
    let wc : length c % 1024 ≡ 0 = ap (λ n. n % 1024) f.set.size ∙ wb in
    let le : length b ≤ length c = omega (arith, f.set.size) in
    let only : times at xs + times at (o.fragments ++ pages_of b rest) ≤ 1 = omega (arith, reached-once kind b (xs ++ (o.fragments ++ pages_of b rest)) t o.free at tree, times-append at xs (o.fragments ++ pages_of b rest)) in
    let this : page_in c at ≡ f.page = f.set.pages at ∙ ap (λ t. cond t f.page (page_in b at)) (eq_true at at refl) in
    let others : (x : ℕ) → x ≢ at → page_in c x ≡ page_in b x = λ x n. f.set.pages x ∙ ap (λ t. cond t f.page (page_in b x)) (eq_no x at n) in
    let links : (y : ℕ) → 1 ≤ times y xs → next_of c y ≡ next_of b y = λ y i. by_link this others y (decide y at) in
    let there : Chained c p xs = chained-links b c p xs le links ch in
    let chain : chain_of c p ≡ xs = chain-is c p xs wc o.mine.0.0 there in
    let w : With number (numbers_of_pages b xs) (numbers_of_pages c xs) = numbers-with b c at number xs others (ap page_numbers this ∙ f.numbers_are) (omega (arith, only)) here in
    let old : numbers_of_pages b (chain_of b p) ≡ numbers_of_pages b xs = ap (numbers_of_pages b) is in
    let new : numbers_of_pages c (chain_of c p) ≡ numbers_of_pages c xs = ap (numbers_of_pages c) chain in
    let ends = ends-there c p xs o.mine.0.0 there in
    let mine : HasNumbers c (Chain p) = (
      child-more (length b) (length c) p le o.mine.0,
      ends,
      subst (λ z. AreDuplicates c z) (sym chain) (duplicates-set b c at xs others (subst (λ z. IsDuplicates z) (sym this) f.good) (subst (λ z. AreDuplicates b z) is o.mine.2)),
      subst IsOnce (sym new) (with-once number (numbers_of_pages b xs) (numbers_of_pages c xs) w (subst IsOnce old o.mine.3) absent),
    ) in
    let s = relinked kind b c t rest (Chain p) (Chain p) o o.free wb wc le (λ x h. others x (λ e. apart only here (subst (λ z. 1 ≤ times z (o.fragments ++ pages_of b rest)) e h)))
    (subst (λ z. IsTree kind c (z ++ (o.fragments ++ pages_of b rest)) t o.free) (sym (append-nil (chain_of c p) ∙ chain)) (set kind b c (xs ++ (o.fragments ++ pages_of b rest)) t o.free at f.page tree f.set (omega (arith, here, times-append at xs (o.fragments ++ pages_of b rest)))))
    mine (λ at f. refl) (λ at f. refl) in (
      s.0,
      s.1,
      ap in_order new ∙ with-order number (numbers_of_pages b xs) (numbers_of_pages c xs) w ∙ ap (λ z. placed number (in_order z)) (sym old),
      λ k. subst (λ z. Linked (links_in c) 0 z 0) (sym chain) (same-links (links_in b) (links_in c) 0 xs 0 (λ y i. by_both this others y (decide y at)) (subst (λ z. Linked (links_in b) 0 z 0) is k)),
    )
  where
    apart : times at xs + times at (o.fragments ++ pages_of b rest) ≤ 1 → 1 ≤ times at xs → 1 ≤ times at (o.fragments ++ pages_of b rest) → ⊥
    apart a h i = omega (arith, a, h, i)

    by_link : page_in c at ≡ f.page → ((x : ℕ) → x ≢ at → page_in c x ≡ page_in b x) → (y : ℕ) → (y ≡ at) ⊎ (y ≢ at) → next_of c y ≡ next_of b y
    by_link this others y (inr n) = ap (λ z. (neighbours_in z).1) (others y n)
    by_link this others y (inl e) = ap (next_of c) e ∙ ap (λ z. (neighbours_in z).1) this ∙ f.next ∙ ap (next_of b) (sym e)

    by_both : page_in c at ≡ f.page → ((x : ℕ) → x ≢ at → page_in c x ≡ page_in b x) → (y : ℕ) → (y ≡ at) ⊎ (y ≢ at) → links_in c y ≡ links_in b y
    by_both this others y (inr n) = ap neighbours_in (others y n)
    by_both this others y (inl e) = ap (links_in c) e ∙ ap neighbours_in this ∙ both-sides (page_in b at) f.page f.left f.next ∙ ap (links_in b) (sym e)

-- a page is behind the last one of the chain
chained-more : (b c : List ℕ) (x last q : ℕ) (xs : List ℕ) → length b ≤ length c → IsChild (length c) q → next_of c q ≡ 0 → next_of b last ≡ 0 → next_of c last ≡ q → ((y : ℕ) → 1 ≤ times y xs → y ≢ last → next_of c y ≡ next_of b y) → 1 ≤ times last xs → Chained b x xs
    → Chained c x (xs ++ (q ∷ []))
chained-more b c x last q [] l child end old new links here d = absurd (omega (arith, here))
chained-more b c x last q (y ∷ []) l child end old new links here d =
    let e : y ≡ last = only y last here in (
      d.0,
      child-more (length b) (length c) y l d.1,
      subst (λ z. Chained c z (q ∷ [])) (sym (ap (next_of c) e ∙ new)) (refl, child, end),
    )
  where
    only : (y last : ℕ) → 1 ≤ times last (y ∷ []) → y ≡ last
    only y last h = by_page (decide y last)
      where
        by_page : (y ≡ last) ⊎ (y ≢ last) → y ≡ last
        by_page (inl e) = e
        by_page (inr n) = let z : times last (y ∷ []) ≡ 0 = one-off last y (λ e. n (sym e)) in absurd (omega (arith, h, z))
chained-more b c x last q (y ∷ (z ∷ zs)) l child end old new links here d =
    let off : y ≢ last = λ e. not_zero (subst (λ w. 1 ≤ w) (sym d.2.0 ∙ ap (next_of b) e ∙ old) d.2.1.0) in
    let zero : times last (y ∷ []) ≡ 0 = one-off last y (λ e. off (sym e)) in (
      d.0,
      child-more (length b) (length c) y l d.1,
      subst (λ w. Chained c w ((z ∷ zs) ++ (q ∷ []))) (sym (links y (self y (z ∷ zs)) off))
          (chained-more b c (next_of b y) last q (z ∷ zs) l child end old new (λ w i n. links w (omega (arith, i, first w y (z ∷ zs))) n) (omega (arith, here, zero, first last y (z ∷ zs))) d.2),
    )
  where
    not_zero : 1 ≤ 0 → ⊥
    not_zero h = omega (arith, h)

numbers-same : (b c : List ℕ) (xs : List ℕ) → ((x : ℕ) → 1 ≤ times x xs → page_numbers (page_in c x) ≡ page_numbers (page_in b x)) → numbers_of_pages c xs ≡ numbers_of_pages b xs
numbers-same b c [] h = refl
numbers-same b c (y ∷ ys) h = ap (λ z. z ++ numbers_of_pages c ys) (h y (self y ys)) ∙ ap (λ z. page_numbers (page_in b y) ++ z) (numbers-same b c ys (λ x i. h x (omega (arith, i, first x y ys))))

same-duplicates : (old new : List ℕ) → page_count new ≡ page_count old → page_numbers new ≡ page_numbers old → IsDuplicates old → IsDuplicates new
same-duplicates old new c n d = record { some = omega (arith, c, d.some); fits = omega (arith, c, d.fits); ascend = ap is_ascending n ∙ d.ascend }

duplicates-more : (b c : List ℕ) (q : ℕ) (xs : List ℕ) → IsDuplicates (page_in c q) → ((x : ℕ) → 1 ≤ times x xs → IsDuplicates (page_in b x) → IsDuplicates (page_in c x)) → AreDuplicates b xs → AreDuplicates c (xs ++ (q ∷ []))
duplicates-more b c q [] good h d = (good, tt)
duplicates-more b c q (y ∷ ys) good h d = (h y (self y ys) d.0, duplicates-more b c q ys good (λ x i. h x (omega (arith, i, first x y ys))) d.1)

-- the chain has a new last page, with the number
pub extended : (kind : KeyKind) (b c : List ℕ) (t : Shape) (rest : List Row) (p last q number : ℕ) (xs : List ℕ) → Open kind b t rest (Chain p) → length b % 1024 ≡ 0 → chain_of b p ≡ xs → Chained b p xs → 1 ≤ times last xs → next_of b last ≡ 0
    → times number (numbers_of_pages b xs) ≡ 0 → IsExtended kind b c last q number → Open kind c t rest (Chain p) × SameNumbers b c rest × (numbers_in c (Chain p) ≡ placed number (numbers_in b (Chain p)))
    × (p < 2 ^ 63 → IsLinked b (Chain p) → IsLinked c (Chain p))
extended kind b c t rest p last q number xs o wb is ch here old_end absent f =
    let tree : IsTree kind b (xs ++ (o.fragments ++ pages_of b rest)) t o.free = subst (λ z. IsTree kind b (z ++ (o.fragments ++ pages_of b rest)) t o.free) (append-nil (chain_of b p) ∙ is) o.tree in
    let now = put kind b f.middle (xs ++ (o.fragments ++ pages_of b rest)) t o.free q f.fresh tree (some-bytes kind b (xs ++ (o.fragments ++ pages_of b rest)) t o.free tree) f.put in
    let none : times q xs + times q (o.fragments ++ pages_of b rest) ≡ 0 = omega (arith, now.2, times-append q xs (o.fragments ++ pages_of b rest)) in
    let only : times last xs + times last (o.fragments ++ pages_of b rest) ≤ 1 = omega (arith, reached-once kind b (xs ++ (o.fragments ++ pages_of b rest)) t o.free last tree, times-append last xs (o.fragments ++ pages_of b rest)) in
    let mid = put-whole kind b f.middle q f.fresh f.put wb in
    let wc : length c % 1024 ≡ 0 = ap (λ n. n % 1024) f.set.size ∙ mid.0 in
    let le : length b ≤ length c = omega (arith, f.set.size, mid.1) in
    let set_tree : IsTree kind c (q ∷ (xs ++ (o.fragments ++ pages_of b rest))) t now.0 = set kind f.middle c (q ∷ (xs ++ (o.fragments ++ pages_of b rest))) t now.0 last f.page now.1 f.set (omega (arith, here, times-append last xs (o.fragments ++ pages_of b rest), first last q (xs ++ (o.fragments ++ pages_of b rest)))) in
    let this : page_in c last ≡ f.page = f.set.pages last ∙ ap (λ t. cond t f.page (page_in f.middle last)) (eq_true last last refl) in
    let off : (x : ℕ) → x ≢ last → page_in c x ≡ page_in f.middle x = λ x n. f.set.pages x ∙ ap (λ t. cond t f.page (page_in f.middle x)) (eq_no x last n) in
    let others : (x : ℕ) → x ≢ last → x ≢ q → page_in c x ≡ page_in b x = λ x n m. off x n ∙ put-pages kind b f.middle q f.fresh f.put x m in
    let differ : q ≢ last = λ e. clash (subst (λ z. 1 ≤ times z xs) (sym e) here) none in
    let fresh : page_in c q ≡ f.fresh = off q differ ∙ put-page kind b f.middle q f.fresh f.put in
    let child : IsChild (length c) q = reached-child kind c (q ∷ (xs ++ (o.fragments ++ pages_of b rest))) t now.0 q set_tree (self q (xs ++ (o.fragments ++ pages_of b rest))) in
    let end : next_of c q ≡ 0 = ap (λ z. (neighbours_in z).1) fresh ∙ f.is_last.next in
    let new_end : next_of c last ≡ q = ap (λ z. (neighbours_in z).1) this ∙ f.next in
    let in_chain : (x : ℕ) → 1 ≤ times x xs → x ≢ q = λ x i e. clash (subst (λ z. 1 ≤ times z xs) e i) none in
    let there : Chained c p (xs ++ (q ∷ [])) = chained-more b c p last q xs le child end old_end new_end (λ y i n. ap (λ z. (neighbours_in z).1) (others y n (in_chain y i))) here ch in
    let chain : chain_of c p ≡ xs ++ (q ∷ []) = chain-is c p (xs ++ (q ∷ [])) wc o.mine.0.0 there in
    let same : numbers_of_pages c xs ≡ numbers_of_pages b xs = numbers-same b c xs (λ x i. by_numbers this others in_chain x i (decide x last)) in
    let old : numbers_of_pages b (chain_of b p) ≡ numbers_of_pages b xs = ap (numbers_of_pages b) is in
    let new : numbers_of_pages c (chain_of c p) ≡ numbers_of_pages b xs ++ (number ∷ []) =
    ap (numbers_of_pages c) chain ∙ numbers-append c xs (q ∷ []) ∙ ap (λ z. z ++ numbers_of_pages c (q ∷ [])) same
    ∙ ap (λ z. numbers_of_pages b xs ++ z) (append-nil (page_numbers (page_in c q)) ∙ ap page_numbers fresh ∙ f.is_last.numbers_are) in
    let w : With number (numbers_of_pages b xs) (numbers_of_pages b xs ++ (number ∷ [])) = (numbers_of_pages b xs, [], sym (append-nil (numbers_of_pages b xs)), refl) in
    let mine : HasNumbers c (Chain p) = (
      child-more (length b) (length c) p le o.mine.0,
      ends-there c p (xs ++ (q ∷ [])) o.mine.0.0 there,
      subst (λ z. AreDuplicates c z) (sym chain) (duplicates-more b c q xs (subst (λ z. IsDuplicates z) (sym fresh) f.is_last.good) (λ x i d. by_good this others in_chain x i d (decide x last)) (subst (λ z. AreDuplicates b z) is o.mine.2)),
      subst IsOnce (sym new) (with-once number (numbers_of_pages b xs) (numbers_of_pages b xs ++ (number ∷ [])) w (subst IsOnce old o.mine.3) absent),
    ) in
    let s = relinked kind b c t rest (Chain p) (Chain p) o now.0 wb wc le (λ x h. others x (λ e. apart only here (subst (λ z. 1 ≤ times z (o.fragments ++ pages_of b rest)) e h)) (λ e. apart_new none (subst (λ z. 1 ≤ times z (o.fragments ++ pages_of b rest)) e h)))
    (exchange kind c (q ∷ (xs ++ (o.fragments ++ pages_of b rest))) (own_pages c (Chain p) ++ (o.fragments ++ pages_of b rest)) t now.0 (counts chain) set_tree) mine (λ at f. refl) (λ at f. refl) in (
      s.0,
      s.1,
      ap in_order new ∙ with-order number (numbers_of_pages b xs) (numbers_of_pages b xs ++ (number ∷ [])) w ∙ ap (λ z. placed number (in_order z)) (sym old),
      λ small k.
          subst (λ z. Linked (links_in c) 0 z 0) (sym chain)
          (linked-more b c p 0 last q xs old_end (pair-of (page_in c last) (neighbours_in (page_in b last)).0 q (ap (λ z. (neighbours_in z).0) this ∙ f.left) new_end)
          (pair-of (page_in c q) last 0 (ap (λ z. (neighbours_in z).0) fresh ∙ f.names (chain-small b p last xs small ch here)) end)
          (λ y i n. ap neighbours_in (others y n (in_chain y i))) here ch (subst (λ z. Linked (links_in b) 0 z 0) is k)),
    )
  where
    clash : 1 ≤ times q xs → times q xs + times q (o.fragments ++ pages_of b rest) ≡ 0 → ⊥
    clash h n = omega (arith, h, n)

    apart : times last xs + times last (o.fragments ++ pages_of b rest) ≤ 1 → 1 ≤ times last xs → 1 ≤ times last (o.fragments ++ pages_of b rest) → ⊥
    apart a h i = omega (arith, a, h, i)

    apart_new : times q xs + times q (o.fragments ++ pages_of b rest) ≡ 0 → 1 ≤ times q (o.fragments ++ pages_of b rest) → ⊥
    apart_new a h = omega (arith, a, h)

    by_numbers : page_in c last ≡ f.page → ((x : ℕ) → x ≢ last → x ≢ q → page_in c x ≡ page_in b x) → ((x : ℕ) → 1 ≤ times x xs → x ≢ q) → (x : ℕ) → 1 ≤ times x xs → (x ≡ last) ⊎ (x ≢ last) → page_numbers (page_in c x) ≡ page_numbers (page_in b x)
    by_numbers this others in_chain x i (inr n) = ap page_numbers (others x n (in_chain x i))
    by_numbers this others in_chain x i (inl e) = ap (λ z. page_numbers (page_in c z)) e ∙ ap page_numbers this ∙ f.numbers_are ∙ ap (λ z. page_numbers (page_in b z)) (sym e)

    by_good : page_in c last ≡ f.page → ((x : ℕ) → x ≢ last → x ≢ q → page_in c x ≡ page_in b x) → ((x : ℕ) → 1 ≤ times x xs → x ≢ q) → (x : ℕ) → 1 ≤ times x xs → IsDuplicates (page_in b x) → (x ≡ last) ⊎ (x ≢ last) → IsDuplicates (page_in c x)
    by_good this others in_chain x i d (inr n) = subst (λ z. IsDuplicates z) (sym (others x n (in_chain x i))) d
    by_good this others in_chain x i d (inl e) =
        subst (λ z. IsDuplicates (page_in c z)) (sym e) (subst (λ z. IsDuplicates z) (sym this) (same-duplicates (page_in b last) f.page f.count f.numbers_are (subst (λ z. IsDuplicates (page_in b z)) e d)))

    counts : chain_of c p ≡ xs ++ (q ∷ []) → (x : ℕ) → times x (own_pages c (Chain p) ++ (o.fragments ++ pages_of b rest)) ≡ times x (q ∷ (xs ++ (o.fragments ++ pages_of b rest)))
    counts chain x =
        let e : times x (own_pages c (Chain p)) ≡ times x (xs ++ (q ∷ [])) = ap (times x) (append-nil (chain_of c p) ∙ chain) in
        omega (arith, e, times-append x (own_pages c (Chain p)) (o.fragments ++ pages_of b rest), times-append x xs (q ∷ []), times-append x xs (o.fragments ++ pages_of b rest), first x q (xs ++ (o.fragments ++ pages_of b rest)))
