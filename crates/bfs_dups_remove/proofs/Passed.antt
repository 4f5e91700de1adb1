-- Chains whose pages get other numbers, and chains that lose a page.
use Rattle.std.proofs.Common.{◌≡◌, ◌≢◌, ◌⊎◌, ◌≤◌, ◌+◌, ◌%◌, ℕ, List, [], ◌∷◌, ◌++◌, length, true, cond, ◌==◌, inl, inr, refl, ap, sym, ◌∙◌, subst, arith, append-nil}
use Rattle.bfs_base.specs.Lists.{times, IsOnce}
use Rattle.bfs_base.specs.declared.kind.KeyKind.{KeyKind}
use Rattle.bfs_node.specs.Page.{Row}
use Rattle.bfs_pages.specs.Shapes.{Shape}
use Rattle.bfs_pages.specs.Trees.{page_in, neighbours_in, header_in, IsTree}
use Rattle.bfs_pages.proofs.Splice.{self, times-append}
use Rattle.bfs_remove.specs.Removed.{IsGiven}
use Rattle.bfs_values.specs.declared.link.Link.TheVariants.{Number, Chain}
use Rattle.bfs_values.specs.Values.{IsDuplicates, page_numbers, next_of, EndsAfter, chain_of, numbers_of_pages, AreDuplicates, in_order, HasNumbers, numbers_in}
use Rattle.bfs_values.specs.Chained.{Chained}
use Rattle.bfs_values.specs.Stored.{SameNumbers}
use Rattle.bfs_values.proofs.Chaining.{chain-is, chained-ends, numbers-kept, child-more}
use Rattle.bfs_dups.proofs.Holding.{set, give, reached-once}
use Rattle.bfs_dups.proofs.Relinked.{relinked}
use Rattle.bfs_values.proofs.Opened.{exchange, pages_of, Open}
use Rattle.bfs_dups.proofs.Scanning.{numbers-append}
use Rattle.bfs_dups.proofs.Slotted.{decide, eq_no}
use Rattle.bfs_dups_remove.specs.Shortened.{IsRenumbered, IsPassed}

eq_true : (a d : ℕ) → a ≡ d → (a == d) ≡ true
eq_true a d e = grind (arith, e)

first : (x y : ℕ) (ys : List ℕ) → times x (y ∷ ys) ≡ times x (y ∷ []) + times x ys
first x y ys = omega arith

ends-there : (c : List ℕ) (p : ℕ) (xs : List ℕ) → 1 ≤ p → Chained c p xs → (n : ℕ) × EndsAfter c n p
ends-there c p [] some d = absurd (omega (arith, some, d))
ends-there c p (y ∷ ys) some d = (length ys, subst (EndsAfter c (length ys)) (sym d.0) (chained-ends c p y ys d))

-- a tree whose row names this chain of pages, with these pages for the others
pub record Reach (kind : KeyKind) (c : List ℕ) (t : Shape) (p : ℕ) (xs gone : List ℕ) : Type 0 where
  pub free : List ℕ
  pub tree : IsTree kind c (xs ++ gone) t free
  pub chain : Chained c p xs
  pub good : AreDuplicates c xs
  pub once : IsOnce (numbers_of_pages c xs)

-- the row names a chain of other pages
pub rechained : (kind : KeyKind) (b c : List ℕ) (t : Shape) (rest : List Row) (p : ℕ) (xs : List ℕ) (o : Open kind b t rest (Chain p)) → length b % 1024 ≡ 0 → length c ≡ length b
    → ((x : ℕ) → 1 ≤ times x (o.fragments ++ pages_of b rest) → page_in c x ≡ page_in b x) → Reach kind c t p xs (o.fragments ++ pages_of b rest)
    → Open kind c t rest (Chain p) × SameNumbers b c rest × (numbers_in c (Chain p) ≡ in_order (numbers_of_pages c xs))
rechained kind b c t rest p xs o wb size same r =
    let wc : length c % 1024 ≡ 0 = ap (λ n. n % 1024) size ∙ wb in
    let le : length b ≤ length c = omega (arith, size) in
    let is : chain_of c p ≡ xs = chain-is c p xs wc o.mine.0.0 r.chain in
    let mine : HasNumbers c (Chain p) = (
      child-more (length b) (length c) p le o.mine.0,
      ends-there c p xs o.mine.0.0 r.chain,
      subst (λ z. AreDuplicates c z) (sym is) r.good,
      subst (λ z. IsOnce (numbers_of_pages c z)) (sym is) r.once,
    ) in
    let s = relinked kind b c t rest (Chain p) (Chain p) o r.free wb wc le same (subst (λ z. IsTree kind c (z ++ (o.fragments ++ pages_of b rest)) t r.free) (sym (append-nil (chain_of c p) ∙ is)) r.tree) mine (λ at f. refl) (λ at f. refl) in
    (s.0, s.1, ap (λ z. in_order (numbers_of_pages c z)) is)

-- the pages before one, that one, and those behind it
pub parts-numbers : (b us : List ℕ) (q : ℕ) (xs : List ℕ) → numbers_of_pages b (us ++ (q ∷ xs)) ≡ numbers_of_pages b us ++ (page_numbers (page_in b q) ++ numbers_of_pages b xs)
parts-numbers b us q xs = numbers-append b us (q ∷ xs)

pub parts-times : (x : ℕ) (us : List ℕ) (q : ℕ) (xs : List ℕ) → times x (us ++ (q ∷ xs)) ≡ times x us + times x (q ∷ []) + times x xs
parts-times x us q xs = omega (arith, times-append x us (q ∷ xs), first x q xs)

pub here-in : (us : List ℕ) (q : ℕ) (xs : List ℕ) → 1 ≤ times q (us ++ (q ∷ xs))
here-in us q xs = omega (arith, parts-times q us q xs, self q [])

good-front : (b : List ℕ) (us xs : List ℕ) → AreDuplicates b (us ++ xs) → AreDuplicates b us × AreDuplicates b xs
good-front b [] xs d = (tt, d)
good-front b (y ∷ ys) xs d = let i = good-front b ys xs d.1 in ((d.0, i.0), i.1)

good-both : (b : List ℕ) (us xs : List ℕ) → AreDuplicates b us → AreDuplicates b xs → AreDuplicates b (us ++ xs)
good-both b [] xs d e = e
good-both b (y ∷ ys) xs d e = (d.0, good-both b ys xs d.1 e)

good-kept : (b c : List ℕ) (xs : List ℕ) → ((y : ℕ) → 1 ≤ times y xs → page_in c y ≡ page_in b y) → AreDuplicates b xs → AreDuplicates c xs
good-kept b c [] h d = tt
good-kept b c (y ∷ ys) h d = (subst (λ p. IsDuplicates p) (sym (h y (self y ys))) d.0, good-kept b c ys (λ z i. h z (omega (arith, i, first z y ys))) d.1)

-- the page at a place of the chain is a duplicate page
pub good-at : (b us : List ℕ) (q : ℕ) (xs : List ℕ) → AreDuplicates b (us ++ (q ∷ xs)) → IsDuplicates (page_in b q)
good-at b us q xs d = (good-front b us (q ∷ xs) d).1.0

-- the chain goes on past a page: from the page before it to the one behind it
chained-past : (b c : List ℕ) (x : ℕ) (us : List ℕ) (q s : ℕ) (xs : List ℕ) → length b ≤ length c → ((y : ℕ) → 1 ≤ times y us → next_of c y ≡ next_of b y) → next_of c q ≡ next_of b s → ((y : ℕ) → 1 ≤ times y xs → next_of c y ≡ next_of b y)
    → Chained b x (us ++ (q ∷ (s ∷ xs))) → Chained c x (us ++ (q ∷ xs))
chained-past b c x [] q s xs l us_same new same d = (
  d.0,
  child-more (length b) (length c) q l d.1,
  subst (λ w. Chained c w xs) (sym new) (all-same (next_of b s) xs same d.2.2),
)
  where
    all-same : (x : ℕ) (xs : List ℕ) → ((y : ℕ) → 1 ≤ times y xs → next_of c y ≡ next_of b y) → Chained b x xs → Chained c x xs
    all-same x [] h d = d
    all-same x (y ∷ ys) h d = (
      d.0,
      child-more (length b) (length c) y l d.1,
      subst (λ w. Chained c w ys) (sym (h y (self y ys))) (all-same (next_of b y) ys (λ z i. h z (omega (arith, i, first z y ys))) d.2),
    )
chained-past b c x (u ∷ us) q s xs l us_same new same d = (
  d.0,
  child-more (length b) (length c) u l d.1,
  subst (λ w. Chained c w (us ++ (q ∷ xs))) (sym (us_same u (self u us))) (chained-past b c (next_of b u) us q s xs l (λ z i. us_same z (omega (arith, i, first z u us))) new same d.2),
)

pub chained-same : (b c : List ℕ) (x : ℕ) (xs : List ℕ) → length b ≤ length c → ((y : ℕ) → 1 ≤ times y xs → next_of c y ≡ next_of b y) → Chained b x xs → Chained c x xs
chained-same b c x [] l h d = d
chained-same b c x (y ∷ ys) l h d = (
  d.0,
  child-more (length b) (length c) y l d.1,
  subst (λ w. Chained c w ys) (sym (h y (self y ys))) (chained-same b c (next_of b y) ys l (λ z i. h z (omega (arith, i, first z y ys))) d.2),
)

pub not-equal : (x y : ℕ) (zs : List ℕ) → 1 ≤ times x zs → times y zs ≡ 0 → x ≢ y
not-equal x y zs i n = λ e. let m : 1 ≤ times y zs = subst (λ z. 1 ≤ times z zs) e i in omega (arith, m, n)

-- a page of the chain has other numbers
pub renumbered : (kind : KeyKind) (b c : List ℕ) (t : Shape) (rest : List Row) (p q : ℕ) (us xs ns : List ℕ) → Open kind b t rest (Chain p) → length b % 1024 ≡ 0 → chain_of b p ≡ us ++ (q ∷ xs) → Chained b p (us ++ (q ∷ xs)) → IsRenumbered b c q ns
    → IsOnce (numbers_of_pages b us ++ (ns ++ numbers_of_pages b xs)) → Open kind c t rest (Chain p) × SameNumbers b c rest × (numbers_in c (Chain p) ≡ in_order (numbers_of_pages b us ++ (ns ++ numbers_of_pages b xs)))
renumbered kind b c t rest p q us xs ns o wb is ch f once =
    let all : List ℕ = us ++ (q ∷ xs) in
    let gone : List ℕ = o.fragments ++ pages_of b rest in
    let tree : IsTree kind b (all ++ gone) t o.free = subst (λ z. IsTree kind b (z ++ gone) t o.free) (append-nil (chain_of b p) ∙ is) o.tree in
    let only : (x : ℕ) → times x all + times x gone ≤ 1 = λ x. omega (arith, reached-once kind b (all ++ gone) t o.free x tree, times-append x all gone) in
    let this : page_in c q ≡ f.page = f.set.pages q ∙ ap (λ t. cond t f.page (page_in b q)) (eq_true q q refl) in
    let others : (x : ℕ) → x ≢ q → page_in c x ≡ page_in b x = λ x n. f.set.pages x ∙ ap (λ t. cond t f.page (page_in b x)) (eq_no x q n) in
    let in_us : (x : ℕ) → 1 ≤ times x us → page_in c x ≡ page_in b x = λ x i. others x (not-equal x q us i (omega (arith, only q, parts-times q us q xs, self q []))) in
    let in_xs : (x : ℕ) → 1 ≤ times x xs → page_in c x ≡ page_in b x = λ x i. others x (not-equal x q xs i (omega (arith, only q, parts-times q us q xs, self q []))) in
    let in_gone : (x : ℕ) → 1 ≤ times x gone → page_in c x ≡ page_in b x = λ x i. others x (not-equal x q gone i (omega (arith, only q, parts-times q us q xs, self q []))) in
    let links : (y : ℕ) → 1 ≤ times y all → next_of c y ≡ next_of b y = λ y i. by_link this others y (decide y q) in
    let good = good-front b us (q ∷ xs) (subst (λ z. AreDuplicates b z) is o.mine.2) in
    let numbers : numbers_of_pages c all ≡ numbers_of_pages b us ++ (ns ++ numbers_of_pages b xs) =
    parts-numbers c us q xs ∙ ap (λ z. z ++ (page_numbers (page_in c q) ++ numbers_of_pages c xs)) (numbers-kept b c us in_us)
    ∙ ap (λ z. numbers_of_pages b us ++ (z ++ numbers_of_pages c xs)) (ap page_numbers this ∙ f.numbers_are) ∙ ap (λ z. numbers_of_pages b us ++ (ns ++ z)) (numbers-kept b c xs in_xs) in
    let r : Reach kind c t p all gone = record {
      free = o.free;
      tree = set kind b c (all ++ gone) t o.free q f.page tree f.set (omega (arith, here-in us q xs, times-append q all gone));
      chain = chained-same b c p all (omega (arith, f.set.size)) links ch;
      good = good-both c us (q ∷ xs) (good-kept b c us in_us good.0) (subst (λ z. IsDuplicates z) (sym this) f.good, good-kept b c xs in_xs good.1.1);
      once = subst IsOnce (sym numbers) once;
    } in
    let s = rechained kind b c t rest p all o wb f.set.size in_gone r in
    (s.0, s.1, s.2 ∙ ap in_order numbers)
  where
    by_link : page_in c q ≡ f.page → ((x : ℕ) → x ≢ q → page_in c x ≡ page_in b x) → (y : ℕ) → (y ≡ q) ⊎ (y ≢ q) → next_of c y ≡ next_of b y
    by_link this others y (inr n) = ap (λ z. (neighbours_in z).1) (others y n)
    by_link this others y (inl e) = ap (next_of c) e ∙ ap (λ z. (neighbours_in z).1) this ∙ f.next ∙ ap (next_of b) (sym e)

-- the pages of a chain that lost one: those before it and behind it stay but for the one right before it, which goes on to the
-- page behind it
pub record IsPast (b c : List ℕ) (p q s : ℕ) (us xs : List ℕ) : Type 0 where
  pub before : (x : ℕ) → 1 ≤ times x us → page_in c x ≡ page_in b x
  pub behind : (x : ℕ) → 1 ≤ times x xs → page_in c x ≡ page_in b x
  pub apart : q ≢ s
  pub next : next_of c q ≡ next_of b s
  pub chain : Chained c p (us ++ (q ∷ xs))
  pub once : (x : ℕ) → times x us + times x (q ∷ []) + times x xs ≤ 1

-- the chain loses a page, and the one before it has other numbers
pub passed : (kind : KeyKind) (b c : List ℕ) (t : Shape) (rest : List Row) (p q s : ℕ) (us xs ns : List ℕ) → Open kind b t rest (Chain p) → length b % 1024 ≡ 0 → chain_of b p ≡ us ++ (q ∷ (s ∷ xs)) → Chained b p (us ++ (q ∷ (s ∷ xs))) → IsPassed b c q s ns
    → IsOnce (numbers_of_pages b us ++ (ns ++ numbers_of_pages b xs))
    → Open kind c t rest (Chain p) × SameNumbers b c rest × (numbers_in c (Chain p) ≡ in_order (numbers_of_pages b us ++ (ns ++ numbers_of_pages b xs))) × IsPast b c p q s us xs
passed kind b c t rest p q s us xs ns o wb is ch f once =
    let all : List ℕ = us ++ (q ∷ (s ∷ xs)) in
    let less : List ℕ = us ++ (q ∷ xs) in
    let gone : List ℕ = o.fragments ++ pages_of b rest in
    let tree : IsTree kind b (all ++ gone) t o.free = subst (λ z. IsTree kind b (z ++ gone) t o.free) (append-nil (chain_of b p) ∙ is) o.tree in
    let only : (x : ℕ) → times x us + times x (q ∷ []) + times x (s ∷ []) + times x xs + times x gone ≤ 1 = λ x. omega (arith, reached-once kind b (all ++ gone) t o.free x tree, times-append x all gone, parts-times x us q (s ∷ xs), first x s xs) in
    let apart : q ≢ s = not-equal q s (q ∷ []) (self q []) (omega (arith, only s, self s [])) in
    let middle_this : page_in f.middle q ≡ f.page = f.set.pages q ∙ ap (λ t. cond t f.page (page_in b q)) (eq_true q q refl) in
    let this : page_in c q ≡ f.page = f.given.pages q apart ∙ middle_this in
    let others : (x : ℕ) → x ≢ q → x ≢ s → page_in c x ≡ page_in b x = λ x n m. f.given.pages x m ∙ f.set.pages x ∙ ap (λ t. cond t f.page (page_in b x)) (eq_no x q n) in
    let in_us : (x : ℕ) → 1 ≤ times x us → page_in c x ≡ page_in b x = λ x i. others x (not-equal x q us i (omega (arith, only q, self q []))) (not-equal x s us i (omega (arith, only s, self s []))) in
    let in_xs : (x : ℕ) → 1 ≤ times x xs → page_in c x ≡ page_in b x = λ x i. others x (not-equal x q xs i (omega (arith, only q, self q []))) (not-equal x s xs i (omega (arith, only s, self s []))) in
    let in_gone : (x : ℕ) → 1 ≤ times x gone → page_in c x ≡ page_in b x = λ x i. others x (not-equal x q gone i (omega (arith, only q, self q []))) (not-equal x s gone i (omega (arith, only s, self s []))) in
    let size : length c ≡ length b = f.given.size ∙ f.set.size in
    let there : Chained c p less = chained-past b c p us q s xs (omega (arith, size)) (λ y i. ap (λ z. (neighbours_in z).1) (in_us y i)) (ap (λ z. (neighbours_in z).1) this ∙ f.next) (λ y i. ap (λ z. (neighbours_in z).1) (in_xs y i)) ch in
    let good = good-front b us (q ∷ (s ∷ xs)) (subst (λ z. AreDuplicates b z) is o.mine.2) in
    let numbers : numbers_of_pages c less ≡ numbers_of_pages b us ++ (ns ++ numbers_of_pages b xs) =
    parts-numbers c us q xs ∙ ap (λ z. z ++ (page_numbers (page_in c q) ++ numbers_of_pages c xs)) (numbers-kept b c us in_us)
    ∙ ap (λ z. numbers_of_pages b us ++ (z ++ numbers_of_pages c xs)) (ap page_numbers this ∙ f.numbers_are) ∙ ap (λ z. numbers_of_pages b us ++ (ns ++ z)) (numbers-kept b c xs in_xs) in
    let tree_middle : IsTree kind f.middle (all ++ gone) t o.free = set kind b f.middle (all ++ gone) t o.free q f.page tree f.set (omega (arith, here-in us q (s ∷ xs), times-append q all gone)) in
    let tree_held : IsTree kind f.middle (s ∷ (less ++ gone)) t o.free = exchange kind f.middle (all ++ gone) (s ∷ (less ++ gone)) t o.free
    (λ x. omega (arith, times-append x all gone, times-append x less gone, parts-times x us q (s ∷ xs), parts-times x us q xs, first x s xs, first x s (less ++ gone))) tree_middle in
    let r : Reach kind c t p less gone = record {
      free = s ∷ o.free;
      tree = give kind f.middle c (less ++ gone) t o.free s tree_held f.given;
      chain = there;
      good = good-both c us (q ∷ xs) (good-kept b c us in_us good.0) (subst (λ z. IsDuplicates z) (sym this) f.good, good-kept b c xs in_xs good.1.1.1);
      once = subst IsOnce (sym numbers) once;
    } in
    let w = rechained kind b c t rest p less o wb size in_gone r in (
      w.0,
      w.1,
      w.2 ∙ ap in_order numbers,
      record { before = in_us; behind = in_xs; apart = apart; next = ap (λ z. (neighbours_in z).1) this ∙ f.next; chain = there; once = λ x. omega (arith, only x) },
    )

-- the only page of a chain is given back
pub dropped : (kind : KeyKind) (b c : List ℕ) (t : Shape) (rest : List Row) (p n : ℕ) → (o : Open kind b t rest (Chain p)) → length b % 1024 ≡ 0 → chain_of b p ≡ p ∷ [] → IsGiven b c p (header_in b)
    → Open kind c t rest (Number n) × SameNumbers b c rest
dropped kind b c t rest p n o wb is g =
    let gone : List ℕ = o.fragments ++ pages_of b rest in
    let tree : IsTree kind b (p ∷ gone) t o.free = subst (λ z. IsTree kind b (z ++ gone) t o.free) (append-nil (chain_of b p) ∙ is) o.tree in
    let none : times p gone ≡ 0 = omega (arith, reached-once kind b (p ∷ gone) t o.free p tree, first p p gone, self p []) in
    relinked kind b c t rest (Chain p) (Number n) o (p ∷ o.free) wb (ap (λ n. n % 1024) g.size ∙ wb) (omega (arith, g.size)) (λ x h. g.pages x (not-equal x p gone h none)) (give kind b c gone t o.free p tree g) tt (λ at f. refl) (λ at f. refl)
