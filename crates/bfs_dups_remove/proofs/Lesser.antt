-- What chains mean without a number, and what calls that remove one come to.
use Rattle.std.proofs.Common.{◌≡◌, ◌≢◌, ◌⊎◌, ◌≤◌, ◌<◌, ◌+◌, ◌*◌, ◌/◌, ◌%◌, ◌^◌, ℕ, ℤ, pos, suc, List, [], ◌∷◌, ◌++◌, length, Some, None, true, cond, inl, inr, refl, ap, sym, ◌∙◌, subst, arith, append_assoc, w64}
use Rattle.std.specs.Int.{cast_unsigned}
use Rattle.std.proofs.lemmas.Int.{of_z-to_z}
use Rattle.std.proofs.Math.Facts.{to_z_pos}
use Rattle.bfs_base.specs.Lists.{times, IsOnce}
use Rattle.bfs_base.specs.declared.kind.KeyKind.{KeyKind}
use Rattle.bfs_node.specs.Page.{Row}
use Rattle.bfs_pages.specs.Answers.{IsChild, IsLink}
use Rattle.bfs_pages.specs.Order.{Key}
use Rattle.bfs_pages.specs.Shapes.{Shape}
use Rattle.bfs_pages.specs.Trees.{page_in, header_in}
use Rattle.bfs_pages.proofs.Splice.{self}
use Rattle.bfs_remove.specs.Removed.{IsGiven}
use Rattle.bfs_values.specs.declared.link.Link.{Link}
use Rattle.bfs_values.specs.declared.link.Link.TheVariants.{Number, Fragment, Chain, Nothing}
use Rattle.bfs_values.specs.Links.{link_in, link_by}
use Rattle.bfs_values.specs.Values.{IsDuplicates, page_count, page_numbers, next_of, chain_of, numbers_of_pages, AreDuplicates, in_order, HasNumbers, numbers_in, HasValues, values_in, is_ascending, numbers_from, fragment_count}
use Rattle.bfs_values.specs.Chained.{Chained}
use Rattle.bfs_values.specs.Stored.{Stored, SameNumbers, IsRevalued}
use Rattle.bfs_dups.proofs.Answered.{revalued, linked-open, chain-facts}
use Rattle.bfs_values.proofs.Chaining.{chain-is}
use Rattle.bfs_dups.proofs.Moved.{length-numbers}
use Rattle.bfs_values.proofs.Opened.{Open, closed, all-but}
use Rattle.bfs_dups.proofs.Ordered.{With, with-front, with-back}
use Rattle.bfs_dups.proofs.Slotted.{decide, eq_no}
use Rattle.bfs_dups_remove.specs.Lessened.{without_number, IsLessened}
use Rattle.bfs_dups_remove.specs.Shortened.{IsBehind, IsLocated, IsRenumbered, IsPassed}
use Rattle.bfs_dups_remove.proofs.Merged.{length-placed}
use Rattle.bfs_dups_remove.proofs.Passed.{IsPast, renumbered, passed, dropped, good-at, parts-numbers, parts-times}
use Rattle.bfs_dups_remove.proofs.Without.{without-order, without-with, less-once, gone-once, with-gone}

first : (x y : ℕ) (ys : List ℕ) → times x (y ∷ ys) ≡ times x (y ∷ []) + times x ys
first x y ys = omega arith

-- where a number of a list stands
pub find-in : (x : ℕ) (ns : List ℕ) → 1 ≤ times x ns → (us : List ℕ) × (vs : List ℕ) × (ns ≡ us ++ (x ∷ vs))
find-in x [] h = absurd (omega (arith, h))
find-in x (y ∷ ys) h = by_place (decide y x) (λ m. find-in x ys m)
  where
    by_place : (y ≡ x) ⊎ (y ≢ x) → (1 ≤ times x ys → (us : List ℕ) × (vs : List ℕ) × (ys ≡ us ++ (x ∷ vs))) → (us : List ℕ) × (vs : List ℕ) × (y ∷ ys ≡ us ++ (x ∷ vs))
    by_place (inl e) more = ([], ys, ap (λ z. z ∷ ys) e)
    by_place (inr n) more =
        let zero : times x (y ∷ []) ≡ 0 = ap (λ c. cond c 1 0 + 0) (eq_no y x n) in
        let r = more (omega (arith, h, zero, first x y ys)) in
        (y ∷ r.0, r.1, ap (λ z. y ∷ z) r.2)

-- ascending numbers, and those without one of them
pub with-without : (x : ℕ) (ns : List ℕ) → is_ascending ns ≡ true → 1 ≤ times x ns → With x (without_number x ns) ns
with-without x ns a h =
    let f = find-in x ns h in
    let w : With x (f.0 ++ f.1) ns = (f.0, f.1, refl, f.2) in
    subst (λ z. With x z ns) (sym (without-with x (f.0 ++ f.1) ns w (with-gone x (f.0 ++ f.1) ns w a))) w

-- what a chain means without a number
pub chain-without : (b : List ℕ) (p x : ℕ) (value : ℤ) (new : List ℕ) → link_in value ≡ Chain p → HasNumbers b (Chain p) → With x new (numbers_of_pages b (chain_of b p)) → IsOnce new × (in_order new ≡ without_number x (values_in b value))
chain-without b p x value new link h w = (
  less-once x new (numbers_of_pages b (chain_of b p)) w h.3,
  sym (without-order x new (numbers_of_pages b (chain_of b p)) w (gone-once x new (numbers_of_pages b (chain_of b p)) w h.3)) ∙ ap (λ l. without_number x (numbers_in b l)) (sym link),
)

pub length-order : (xs : List ℕ) → length (in_order xs) ≡ length xs
length-order [] = refl
length-order (x ∷ xs) = length-placed x (in_order xs) ∙ ap suc (length-order xs)

pub length-more : (xs ys : List ℕ) → length (xs ++ ys) ≡ length xs + length ys
length-more [] ys = omega arith
length-more (x ∷ xs) ys = omega (arith, length-more xs ys)

some-pages : (b xs : List ℕ) → AreDuplicates b xs → 1 ≤ length xs → 1 ≤ length (numbers_of_pages b xs)
some-pages b [] d h = absurd (omega (arith, h))
some-pages b (x ∷ xs) d h = omega (arith, d.0.some, length-more (page_numbers (page_in b x)) (numbers_of_pages b xs), length-numbers (page_in b x) 24 (page_count (page_in b x)))

-- a value that means numbers means one or more
pub some-numbers : (b : List ℕ) (l : Link) → length b % 1024 ≡ 0 → HasNumbers b l → 1 ≤ length (numbers_in b l)
some-numbers b (Number n) w h = omega arith
some-numbers b (Fragment p i) w h = omega (arith, h.1.some, length-numbers (page_in b p) (64 * i + 8) (fragment_count (page_in b p) i))
some-numbers b (Chain p) w h =
    let f = chain-facts b p w h in
    let e : length (numbers_in b (Chain p)) ≡ length (numbers_of_pages b f.pages) = ap length f.numbers ∙ length-order (numbers_of_pages b f.pages) in
    omega (arith, e, some-pages b f.pages f.good (there f.pages f.chain h.0.0))
  where
    there : (xs : List ℕ) → Chained b p xs → 1 ≤ p → 1 ≤ length xs
    there [] c s = absurd (omega (arith, c, s))
    there (x ∷ xs) c s = omega arith
some-numbers b Nothing w h = absurd h

pub stored-row : (kind : KeyKind) (b : List ℕ) (t : Shape) (front : List Row) (key : Key) (back : List Row) (value : ℤ) → Stored kind b t (front ++ ((key, value) ∷ back)) → HasValues b value
stored-row kind b t front key back value s = (all-but (λ r. HasValues b r.1) front (key, value) back s.mean).1

-- one or more numbers are left
pub lessened-some : (kind : KeyKind) (b c : List ℕ) (t : Shape) (front : List Row) (key : Key) (back : List Row) (numbers : List ℕ) (value : ℤ) → length c % 1024 ≡ 0 → IsRevalued kind b c t front key back value numbers → IsLessened kind b c t front key back numbers (Some value)
lessened-some kind b c t front key back numbers value w r =
    (subst (λ z. 1 ≤ length z) r.means (some-numbers c (link_in value) w (stored-row kind c t front key back value r.stored)), r)

pub plain-link : (n : ℕ) → n < 2 ^ 62 → link_in (pos n) ≡ Number n
unfolding link_in
plain-link n s =
    let bits : cast_unsigned w64 (pos n) ≡ n = ap (cast_unsigned w64) (sym (to_z_pos w64 (omega (arith, s)))) ∙ of_z-to_z w64 n (omega (arith, s)) in
    ap (λ k. link_by (k / 2 ^ 62) k) bits ∙ ap (λ k. link_by k n) (zero n s)
  where
    zero : (n : ℕ) → n < 2 ^ 62 → n / 2 ^ 62 ≡ 0
    zero n s = omega (arith, s)

-- no number is left
pub lessened-none : (kind : KeyKind) (b c : List ℕ) (t : Shape) (front : List Row) (key : Key) (back : List Row) (numbers : List ℕ) → numbers ≡ [] → ((n : ℕ) → Open kind c t (front ++ back) (Number n)) → SameNumbers b c (front ++ back) → IsLessened kind b c t front key back numbers None
lessened-none kind b c t front key back numbers none o same = (none, (λ n s. closed kind c t front (key, pos n) back (Number n) (plain-link n s) (o n)), same)

-- the number of a page that has one
pub lone : (page : List ℕ) (x : ℕ) → page_count page ≡ 1 → 1 ≤ times x (page_numbers page) → page_numbers page ≡ x ∷ []
lone page x c h =
    let is : page_numbers page ≡ numbers_from page 24 1 = ap (numbers_from page 24) c in
    let m : 1 ≤ times x (numbers_from page 24 1) = subst (λ z. 1 ≤ times x z) is h in
    is ∙ only (find-in x (numbers_from page 24 1) m)
  where
    only : (us : List ℕ) × (vs : List ℕ) × (numbers_from page 24 1 ≡ us ++ (x ∷ vs)) → numbers_from page 24 1 ≡ x ∷ []
    only ([], vs, e) =
        let n : length vs ≡ 0 = omega (arith, ap length e) in
        e ∙ ap (λ z. x ∷ z) (empty vs n)
      where
        empty : (vs : List ℕ) → length vs ≡ 0 → vs ≡ []
        empty [] n = refl
        empty (v ∷ vs) n = absurd (omega (arith, n))
    only (u ∷ us, vs, e) = absurd (omega (arith, ap length e, length-more us (x ∷ vs)))

-- a page has other numbers than the one that is taken out
pub narrowed : (kind : KeyKind) (b c : List ℕ) (t : Shape) (front : List Row) (key : Key) (back : List Row) (value : ℤ) (p at before x : ℕ) → Stored kind b t (front ++ ((key, value) ∷ back)) → link_in value ≡ Chain p → length b % 1024 ≡ 0
    → IsLocated (chain_of b p) at before → 1 ≤ times x (page_numbers (page_in b at)) → IsRenumbered b c at (without_number x (page_numbers (page_in b at))) → IsRevalued kind b c t front key back value (without_number x (values_in b value))
narrowed kind b c t front key back value p at before x s link wb l there f =
    let o = linked-open kind b t front key back value (Chain p) s link in
    let facts = chain-facts b p wb o.mine in
    let ch : Chained b p (l.front ++ (at ∷ l.back)) = subst (λ z. Chained b p z) (sym facts.is ∙ l.parts) facts.chain in
    let good : AreDuplicates b (l.front ++ (at ∷ l.back)) = subst (λ z. AreDuplicates b z) l.parts o.mine.2 in
    let d : IsDuplicates (page_in b at) = good-at b l.front at l.back good in
    let new : List ℕ = numbers_of_pages b l.front ++ (without_number x (page_numbers (page_in b at)) ++ numbers_of_pages b l.back) in
    let w : With x new (numbers_of_pages b (chain_of b p)) = subst (λ z. With x new z) (sym (ap (numbers_of_pages b) l.parts ∙ parts-numbers b l.front at l.back))
    (with-front x (numbers_of_pages b l.front) (without_number x (page_numbers (page_in b at)) ++ numbers_of_pages b l.back) (page_numbers (page_in b at) ++ numbers_of_pages b l.back)
    (with-back x (numbers_of_pages b l.back) (without_number x (page_numbers (page_in b at))) (page_numbers (page_in b at)) (with-without x (page_numbers (page_in b at)) d.ascend there))) in
    let n = chain-without b p x value new link o.mine w in
    let r = renumbered kind b c t (front ++ back) p at l.front l.back (without_number x (page_numbers (page_in b at))) o wb l.parts ch f n.0 in
    revalued kind b c t front key back value (Chain p) (in_order new) (without_number x (values_in b value)) link r.0 r.1 r.2 n.1

-- the page before one of a chain
pub record IsAhead (b : List ℕ) (p at before : ℕ) : Type 0 where
  pub front : List ℕ
  pub back : List ℕ
  pub parts : chain_of b p ≡ front ++ (before ∷ (at ∷ back))

pub ahead : (b : List ℕ) (p at before : ℕ) → IsLocated (chain_of b p) at before → 1 ≤ before → IsAhead b p at before
ahead b p at before l some = by_case l.behind
  where
    by_case : IsBehind l.front before → IsAhead b p at before
    by_case (inl e) = absurd (omega (arith, some, e.0))
    by_case (inr e) = record { front = e.1.0; back = l.back; parts = l.parts ∙ ap (λ z. z ++ (at ∷ l.back)) e.1.1 ∙ append_assoc e.1.0 (before ∷ []) (at ∷ l.back) }

pub alone-front : (xs : List ℕ) (at before : ℕ) (l : IsLocated xs at before) → before ≡ 0 → xs ≡ at ∷ l.back
alone-front xs at before l zero = by_case l.behind
  where
    by_case : IsBehind l.front before → xs ≡ at ∷ l.back
    by_case (inl e) = l.parts ∙ ap (λ z. z ++ (at ∷ l.back)) e.1
    by_case (inr e) = absurd (e.0 zero)

-- a page of one number goes
pub without-page : (b : List ℕ) (p at before x : ℕ) (value : ℤ) (a : IsAhead b p at before) → link_in value ≡ Chain p → HasNumbers b (Chain p) → page_numbers (page_in b at) ≡ x ∷ []
    → IsOnce (numbers_of_pages b a.front ++ (page_numbers (page_in b before) ++ numbers_of_pages b a.back)) × (in_order (numbers_of_pages b a.front ++ (page_numbers (page_in b before) ++ numbers_of_pages b a.back)) ≡ without_number x (values_in b value))
without-page b p at before x value a link h only =
    let new : List ℕ = numbers_of_pages b a.front ++ (page_numbers (page_in b before) ++ numbers_of_pages b a.back) in
    let w : With x (numbers_of_pages b a.back) (page_numbers (page_in b at) ++ numbers_of_pages b a.back) = ([], numbers_of_pages b a.back, refl, ap (λ z. z ++ numbers_of_pages b a.back) only) in
    chain-without b p x value new link h
    (subst (λ z. With x new z) (sym (ap (numbers_of_pages b) a.parts ∙ parts-numbers b a.front before (at ∷ a.back)))
    (with-front x (numbers_of_pages b a.front) (page_numbers (page_in b before) ++ numbers_of_pages b a.back) (page_numbers (page_in b before) ++ (page_numbers (page_in b at) ++ numbers_of_pages b a.back))
    (with-front x (page_numbers (page_in b before)) (numbers_of_pages b a.back) (page_numbers (page_in b at) ++ numbers_of_pages b a.back) w)))

-- a page of one number at the beginning: those of the next one come in its place
pub without-first : (b : List ℕ) (p at next x : ℕ) (value : ℤ) (vs : List ℕ) → chain_of b p ≡ at ∷ (next ∷ vs) → link_in value ≡ Chain p → HasNumbers b (Chain p) → page_numbers (page_in b at) ≡ x ∷ []
    → IsOnce (page_numbers (page_in b next) ++ numbers_of_pages b vs) × (in_order (page_numbers (page_in b next) ++ numbers_of_pages b vs) ≡ without_number x (values_in b value))
without-first b p at next x value vs is link h only =
    let new : List ℕ = page_numbers (page_in b next) ++ numbers_of_pages b vs in
    chain-without b p x value new link h (subst (λ z. With x new z) (sym (ap (numbers_of_pages b) is)) ([], new, refl, ap (λ z. z ++ new) only))

pub without-last : (b : List ℕ) (p at x : ℕ) (value : ℤ) → chain_of b p ≡ at ∷ [] → link_in value ≡ Chain p → HasNumbers b (Chain p) → page_numbers (page_in b at) ≡ x ∷ [] → without_number x (values_in b value) ≡ []
without-last b p at x value is link h only =
    sym (chain-without b p x value [] link h (subst (λ z. With x [] z) (sym (ap (numbers_of_pages b) is)) ([], [], refl, ap (λ z. z ++ []) only))).1

-- the next page of a chain
pub next-of-first : (b : List ℕ) (p at next : ℕ) (xs : List ℕ) → Chained b p (at ∷ xs) → next ≡ next_of b at → next ≢ 0 → (vs : List ℕ) × (xs ≡ next ∷ vs)
next-of-first b p at next [] c e n = absurd (n (e ∙ c.2))
next-of-first b p at next (y ∷ ys) c e n = (ys, ap (λ z. z ∷ ys) (sym (e ∙ c.2.0)))

pub no-next : (b : List ℕ) (p at : ℕ) (xs : List ℕ) → Chained b p (at ∷ xs) → next_of b at ≡ 0 → xs ≡ []
no-next b p at [] c e = refl
no-next b p at (y ∷ ys) c e = absurd (omega (arith, c.2.1.0, sym c.2.0 ∙ e))

pub tail-chain : (b : List ℕ) (x : ℕ) (us : List ℕ) (q : ℕ) (xs : List ℕ) → Chained b x (us ++ (q ∷ xs)) → Chained b (next_of b q) xs
tail-chain b x [] q xs c = c.2
tail-chain b x (u ∷ us) q xs c = tail-chain b (next_of b u) us q xs c.2

pub chain-there : (b : List ℕ) (p : ℕ) → length b % 1024 ≡ 0 → HasNumbers b (Chain p) → Chained b p (chain_of b p)
chain-there b p w h = let f = chain-facts b p w h in subst (λ z. Chained b p z) (sym f.is) f.chain

-- the left link of a page of the chain is written
pub mended : (kind : KeyKind) (b c : List ℕ) (t : Shape) (rest : List Row) (p q : ℕ) → Open kind b t rest (Chain p) → length b % 1024 ≡ 0 → 1 ≤ times q (chain_of b p) → IsRenumbered b c q (page_numbers (page_in b q))
    → Open kind c t rest (Chain p) × SameNumbers b c rest × (numbers_in c (Chain p) ≡ numbers_in b (Chain p))
mended kind b c t rest p q o wb i f =
    let x = find-in q (chain_of b p) i in
    let numbers : numbers_of_pages b (chain_of b p) ≡ numbers_of_pages b x.0 ++ (page_numbers (page_in b q) ++ numbers_of_pages b x.1) = ap (numbers_of_pages b) x.2 ∙ parts-numbers b x.0 q x.1 in
    let r = renumbered kind b c t rest p q x.0 x.1 (page_numbers (page_in b q)) o wb x.2 (subst (λ z. Chained b p z) x.2 (chain-there b p wb o.mine)) f (subst IsOnce numbers o.mine.3) in
    (r.0, r.1, r.2 ∙ ap in_order (sym numbers))

-- a page that is in the chain is a duplicate page
pub good-in : (b : List ℕ) (p q : ℕ) → HasNumbers b (Chain p) → 1 ≤ times q (chain_of b p) → IsDuplicates (page_in b q)
good-in b p q h i = let x = find-in q (chain_of b p) i in good-at b x.0 q x.1 (subst (λ z. AreDuplicates b z) x.2 h.2)

-- the page behind the one that went
pub next-in : (kind : KeyKind) (b m : List ℕ) (t : Shape) (rest : List Row) (p q s next : ℕ) (us xs : List ℕ) → Open kind m t rest (Chain p) → length m % 1024 ≡ 0 → Chained b p (us ++ (q ∷ (s ∷ xs))) → Chained m p (us ++ (q ∷ xs)) → next ≡ next_of b s → next ≢ 0 → 1 ≤ times next (chain_of m p)
next-in kind b m t rest p q s next us xs o w ch there e n =
    let facts = chain-facts m p w o.mine in
    let is : chain_of m p ≡ us ++ (q ∷ xs) = chain-is m p (us ++ (q ∷ xs)) w o.mine.0.0 there in
    let tail : Chained b (next_of b s) xs = (tail-chain b p us q (s ∷ xs) ch).2 in
    let v = first-of xs tail in
    subst (λ z. 1 ≤ times next z) (sym is) (omega (arith, parts-times next us q xs, subst (λ z. 1 ≤ times next z) (sym v.1) (self next v.0)))
  where
    first-of : (xs : List ℕ) → Chained b (next_of b s) xs → (vs : List ℕ) × (xs ≡ next ∷ vs)
    first-of [] c = absurd (n (e ∙ c))
    first-of (y ∷ ys) c = (ys, ap (λ z. z ∷ ys) (sym (e ∙ c.0)))

pub same-numbers-twice : (b m c : List ℕ) (rows : List Row) → SameNumbers b m rows → SameNumbers m c rows → SameNumbers b c rows
same-numbers-twice b m c [] s r = tt
same-numbers-twice b m c (x ∷ xs) s r = (r.0 ∙ s.0, same-numbers-twice b m c xs s.1 r.1)

-- a value that means the same twice
pub revalued-twice : (kind : KeyKind) (b m c : List ℕ) (t : Shape) (front : List Row) (key : Key) (back : List Row) (v w : ℤ) (ns : List ℕ) → IsRevalued kind b m t front key back v ns → IsRevalued kind m c t front key back w (values_in m v) → IsRevalued kind b c t front key back w ns
revalued-twice kind b m c t front key back v w ns r s = record { stored = s.stored; means = s.means ∙ r.means; others = same-numbers-twice b m c (front ++ back) r.others s.others }

-- a page of a chain is passed by
pub passed-row : (kind : KeyKind) (b c : List ℕ) (t : Shape) (front : List Row) (key : Key) (back : List Row) (value : ℤ) (p at gone : ℕ) (us xs ns : List ℕ) → Stored kind b t (front ++ ((key, value) ∷ back)) → link_in value ≡ Chain p → length b % 1024 ≡ 0 → chain_of b p ≡ us ++ (at ∷ (gone ∷ xs)) → IsPassed b c at gone ns
    → IsOnce (numbers_of_pages b us ++ (ns ++ numbers_of_pages b xs)) → IsRevalued kind b c t front key back value (in_order (numbers_of_pages b us ++ (ns ++ numbers_of_pages b xs)))
passed-row kind b c t front key back value p at gone us xs ns s link wb is f once =
    let o = linked-open kind b t front key back value (Chain p) s link in
    let r = passed kind b c t (front ++ back) p at gone us xs ns o wb is (subst (λ z. Chained b p z) is (chain-there b p wb o.mine)) f once in
    revalued kind b c t front key back value (Chain p) (in_order (numbers_of_pages b us ++ (ns ++ numbers_of_pages b xs))) (in_order (numbers_of_pages b us ++ (ns ++ numbers_of_pages b xs))) link r.0 r.1 r.2 refl

pub passed-whole : (b c : List ℕ) (at gone : ℕ) (ns : List ℕ) → IsPassed b c at gone ns → length b % 1024 ≡ 0 → length c % 1024 ≡ 0
passed-whole b c at gone ns f w = ap (λ n. n % 1024) (f.given.size ∙ f.set.size) ∙ w

-- the page behind it is in the chain since
pub passed-next : (kind : KeyKind) (b c : List ℕ) (t : Shape) (front : List Row) (key : Key) (back : List Row) (value : ℤ) (p at gone next : ℕ) (us xs ns : List ℕ) → Stored kind b t (front ++ ((key, value) ∷ back)) → link_in value ≡ Chain p → length b % 1024 ≡ 0 → chain_of b p ≡ us ++ (at ∷ (gone ∷ xs))
    → IsPassed b c at gone ns → IsOnce (numbers_of_pages b us ++ (ns ++ numbers_of_pages b xs)) → next ≡ next_of b gone → next ≢ 0 → (1 ≤ times next (chain_of c p)) × IsDuplicates (page_in c next)
passed-next kind b c t front key back value p at gone next us xs ns s link wb is f once e n =
    let o = linked-open kind b t front key back value (Chain p) s link in
    let ch : Chained b p (us ++ (at ∷ (gone ∷ xs))) = subst (λ z. Chained b p z) is (chain-there b p wb o.mine) in
    let r = passed kind b c t (front ++ back) p at gone us xs ns o wb is ch f once in
    let i = next-in kind b c t (front ++ back) p at gone next us xs r.0 (passed-whole b c at gone ns f wb) ch r.3.chain e n in
    (i, good-in c p next r.0.mine i)

-- the pages of a chain in which a page is passed by
pub past-row : (kind : KeyKind) (b c : List ℕ) (t : Shape) (front : List Row) (key : Key) (back : List Row) (value : ℤ) (p at gone : ℕ) (us xs ns : List ℕ) → Stored kind b t (front ++ ((key, value) ∷ back)) → link_in value ≡ Chain p → length b % 1024 ≡ 0 → chain_of b p ≡ us ++ (at ∷ (gone ∷ xs)) → IsPassed b c at gone ns
    → IsOnce (numbers_of_pages b us ++ (ns ++ numbers_of_pages b xs)) → IsPast b c p at gone us xs
past-row kind b c t front key back value p at gone us xs ns s link wb is f once =
    let o = linked-open kind b t front key back value (Chain p) s link in
    (passed kind b c t (front ++ back) p at gone us xs ns o wb is (subst (λ z. Chained b p z) is (chain-there b p wb o.mine)) f once).3

-- a left link of the chain is written
pub mended-row : (kind : KeyKind) (b c : List ℕ) (t : Shape) (front : List Row) (key : Key) (back : List Row) (value : ℤ) (p q : ℕ) → Stored kind b t (front ++ ((key, value) ∷ back)) → link_in value ≡ Chain p → length b % 1024 ≡ 0 → 1 ≤ times q (chain_of b p)
    → IsRenumbered b c q (page_numbers (page_in b q)) → IsRevalued kind b c t front key back value (values_in b value)
mended-row kind b c t front key back value p q s link wb i f =
    let o = linked-open kind b t front key back value (Chain p) s link in
    let r = mended kind b c t (front ++ back) p q o wb i f in
    revalued kind b c t front key back value (Chain p) (numbers_in b (Chain p)) (values_in b value) link r.0 r.1 r.2 (ap (numbers_in b) (sym link))

-- where a page and one before it stand in a chain
pub ahead-in : (b : List ℕ) (p at before : ℕ) (a : IsAhead b p at before) → 1 ≤ times before (chain_of b p)
ahead-in b p at before a = subst (λ z. 1 ≤ times before z) (sym a.parts) (omega (arith, parts-times before a.front before (at ∷ a.back), self before []))

-- another spelling of what a value means
pub means-also : (kind : KeyKind) (b c : List ℕ) (t : Shape) (front : List Row) (key : Key) (back : List Row) (value : ℤ) (ns ms : List ℕ) → ns ≡ ms → IsRevalued kind b c t front key back value ns → IsRevalued kind b c t front key back value ms
means-also kind b c t front key back value ns ms e r = record { stored = r.stored; means = r.means ∙ e; others = r.others }

-- the only page of a chain goes, and no number is left
pub dropped-row : (kind : KeyKind) (b c : List ℕ) (t : Shape) (front : List Row) (key : Key) (back : List Row) (value : ℤ) (p at before x : ℕ) → Stored kind b t (front ++ ((key, value) ∷ back)) → link_in value ≡ Chain p → length b % 1024 ≡ 0 → IsLocated (chain_of b p) at before → before ≡ 0 → next_of b at ≡ 0
    → page_numbers (page_in b at) ≡ x ∷ [] → IsGiven b c at (header_in b) → IsLessened kind b c t front key back (without_number x (values_in b value)) None
dropped-row kind b c t front key back value p at before x s link wb l zero end only g =
    let o = linked-open kind b t front key back value (Chain p) s link in
    let is : chain_of b p ≡ at ∷ l.back = alone-front (chain_of b p) at before l zero in
    let ch : Chained b p (at ∷ l.back) = subst (λ z. Chained b p z) is (chain-there b p wb o.mine) in
    let whole : chain_of b p ≡ at ∷ [] = is ∙ ap (λ z. at ∷ z) (no-next b p at l.back ch end) in
    let mine : chain_of b p ≡ p ∷ [] = whole ∙ ap (λ z. z ∷ []) (sym ch.0) in
    let given : IsGiven b c p (header_in b) = subst (λ z. IsGiven b c z (header_in b)) (sym ch.0) g in
    lessened-none kind b c t front key back (without_number x (values_in b value)) (without-last b p at x value whole link o.mine only) (λ n. (dropped kind b c t (front ++ back) p n o wb mine given).0) (dropped kind b c t (front ++ back) p 0 o wb mine given).1

pub link-on : (b : List ℕ) (x : ℕ) (xs : List ℕ) → Chained b x xs → IsLink (length b) x
link-on b x [] c = inl c
link-on b x (y ∷ ys) c = inr (subst (λ z. IsChild (length b) z) (sym c.0) c.1)

-- the second page of a chain
pub record IsSecond (b : List ℕ) (p at next : ℕ) : Type 0 where
  pub back : List ℕ
  pub parts : chain_of b p ≡ at ∷ (next ∷ back)
  pub good : IsDuplicates (page_in b next)
  pub link : IsLink (length b) (next_of b next)

pub second : (b : List ℕ) (p at next : ℕ) (xs : List ℕ) → length b % 1024 ≡ 0 → HasNumbers b (Chain p) → chain_of b p ≡ at ∷ xs → next ≡ next_of b at → next ≢ 0 → IsSecond b p at next
second b p at next xs w h is e n =
    let ch : Chained b p (at ∷ xs) = subst (λ z. Chained b p z) is (chain-there b p w h) in
    let v = next-of-first b p at next xs ch e n in
    let parts : chain_of b p ≡ at ∷ (next ∷ v.0) = is ∙ ap (λ z. at ∷ z) v.1 in
    let whole : Chained b p (at ∷ (next ∷ v.0)) = subst (λ z. Chained b p z) parts (chain-there b p w h) in record {
      back = v.0;
      parts = parts;
      good = good-at b (at ∷ []) next v.0 (subst (λ z. AreDuplicates b z) parts h.2);
      link = link-on b (next_of b next) v.0 whole.2.2;
    }

-- a chain of one page
pub only-page : (b : List ℕ) (p : ℕ) → length b % 1024 ≡ 0 → HasNumbers b (Chain p) → next_of b p ≡ 0 → chain_of b p ≡ p ∷ []
only-page b p w h e = by_chain (chain_of b p) (chain-there b p w h) refl
  where
    by_chain : (xs : List ℕ) → Chained b p xs → chain_of b p ≡ xs → chain_of b p ≡ p ∷ []
    by_chain [] c is = absurd (omega (arith, c, h.0.0))
    by_chain (x ∷ xs) c is = is ∙ ap (λ z. x ∷ z) (no-next b p x xs c (ap (next_of b) (sym c.0) ∙ e)) ∙ ap (λ z. z ∷ []) (sym c.0)
