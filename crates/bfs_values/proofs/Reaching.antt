-- Values reach the same pages where these stay, and rows with plain values come and go.
use Rattle.std.proofs.Common.{◌≡◌, ◌≤◌, ◌<◌, ◌+◌, ◌%◌, ℕ, ℤ, List, [], ◌∷◌, ◌++◌, length, take, drop, Some, Bool, true, false, cond, ◌==◌, ◌&&◌, nat_le, refl, ap, sym, ◌∙◌, subst, arith, append-nil, length-drop}
use Rattle.std.specs.List.{flat_map, AllByRecursion}
use Rattle.bfs_base.specs.Lists.{times, Has, IsOnce}
use Rattle.bfs_base.specs.declared.kind.KeyKind.{KeyKind}
use Rattle.bfs_node.specs.Page.{Row}
use Rattle.bfs_pages.specs.Pages.{page_at}
use Rattle.bfs_pages.specs.Answers.{IsChild}
use Rattle.bfs_pages.specs.Maps.{assoc, put, without}
use Rattle.bfs_pages.specs.Order.{Key}
use Rattle.bfs_pages.specs.Trees.{page_in, neighbours_in, is_place}
use Rattle.bfs_pages.specs.Ways.{KeysAscend}
use Rattle.bfs_pages.specs.Writes.{SamePages}
use Rattle.bfs_pages.proofs.Reading.{page-there}
use Rattle.bfs_pages.proofs.Splice.{self, times-append}
use Rattle.bfs_values.specs.declared.link.Link.{Link}
use Rattle.bfs_values.specs.declared.link.Link.TheVariants.{Number, Fragment, Chain, Nothing}
use Rattle.bfs_values.specs.Links.{link_in}
use Rattle.bfs_values.specs.Values.{IsFragment, fragment_count, fragment_numbers, next_of, chain_of, numbers_of_pages, AreDuplicates, in_order, HasNumbers, numbers_in, HasValues}
use Rattle.bfs_values.specs.Chained.{Chained}
use Rattle.bfs_values.specs.Reached.{times_named, chain_in, chains_in, Ends, AllMean}
use Rattle.bfs_values.specs.Stored.{SameNumbers}
use Rattle.bfs_values.specs.Laws.{IsPlain, Reaches}
use Rattle.bfs_values.proofs.Chaining.{chain-there, chain-is, chained-ends, numbers-kept, duplicates-kept}
use Rattle.bfs_values.proofs.Opened.{own, own_pages, pages_of, named-split, chain-step, less-named, all-but, all-with, all-ends}
use Rattle.bfs_values.proofs.RowLists.{put-split, without-split}

some-bytes : (l : List ℕ) → 1 ≤ length l → take 1024 l ≡ [] → ⊥
some-bytes [] h e = absurd (omega (arith, h))
some-bytes (y ∷ ys) h e = no e
  where
    no : y ∷ take 1023 ys ≡ [] → ⊥
    no e = cc

some-page : (b : List ℕ) (x : ℕ) → x + 1 ≤ length b → page_at b x ≡ [] → ⊥
some-page b x h e = some-bytes (drop x b) (omega (arith, h, length-drop x b)) e

place-in : (n x : ℕ) → is_place n x ≡ true → x + 1 ≤ n
place-in n x h = grind (arith, h)

-- a page that stays is there in the new stream
pub same-child : (b c : List ℕ) (x : ℕ) → page_in c x ≡ page_in b x → IsChild (length b) x → IsChild (length c) x
same-child b c x same p = (p.0, by_test (is_place (length c) x) refl)
  where
    le_true : (n : ℕ) → 1 ≤ n → nat_le 1 n ≡ true
    le_true n h = grind (arith, h)

    old : page_in b x ≡ page_at b x
    old = page-there b x (length b) refl p

    by_test : (t : Bool) → is_place (length c) x ≡ t → is_place (length c) x ≡ true
    by_test true e = e
    by_test false e =
        let none : page_in c x ≡ [] = ap (λ t. cond (t && is_place (length c) x) (page_at c x) []) (le_true x p.0) ∙ ap (λ t. cond t (page_at c x) []) e in
        absurd (some-page b x (place-in (length b) x p.1) (sym old ∙ sym same ∙ none))

chained-same : (b c : List ℕ) (x : ℕ) (xs : List ℕ) → ((y : ℕ) → 1 ≤ times y xs → page_in c y ≡ page_in b y) → Chained b x xs → Chained c x xs
chained-same b c x [] h d = d
chained-same b c x (y ∷ ys) h d = (
  d.0,
  same-child b c y (h y (self y ys)) d.1,
  subst (λ w. Chained c w ys) (sym (ap (λ p. (neighbours_in p).1) (h y (self y ys)))) (chained-same b c (next_of b y) ys (λ z i. h z (omega (arith, i))) d.2),
)

-- the pages that a link reaches
abbrev pub reach : List ℕ → Link → List ℕ
reach b (Number n) = []
reach b (Fragment p i) = p ∷ []
reach b (Chain p) = chain_of b p
reach b Nothing = []

link-same : (b c : List ℕ) (l : Link) → length b % 1024 ≡ 0 → length c % 1024 ≡ 0 → ((x : ℕ) → 1 ≤ times x (reach b l) → page_in c x ≡ page_in b x) → HasNumbers b l
    → HasNumbers c l × (numbers_in c l ≡ numbers_in b l) × (own_pages c l ≡ own_pages b l)
link-same b c (Number n) wb wc k h = (tt, refl, refl)
link-same b c (Fragment p i) wb wc k h =
    let e : page_in c p ≡ page_in b p = k p (self p []) in
    ((same-child b c p e h.0, subst (λ z. IsFragment z i) (sym e) h.1), ap (λ z. fragment_numbers z i) e, refl)
link-same b c Nothing wb wc k h = absurd h
link-same b c (Chain p) wb wc k h =
    let d = chain-there b h.1.0 p wb h.0 h.1.1 in
    let xs : List ℕ = p ∷ d.0 in
    let same : (x : ℕ) → 1 ≤ times x xs → page_in c x ≡ page_in b x = λ x i. k x (subst (λ z. 1 ≤ times x z) (sym d.2) i) in
    let there : Chained c p xs = chained-same b c p xs same d.1 in
    let chain : chain_of c p ≡ xs = chain-is c p xs wc h.0.0 there in
    let all : chain_of c p ≡ chain_of b p = chain ∙ sym d.2 in
    let numbers : numbers_of_pages c (chain_of c p) ≡ numbers_of_pages b (chain_of b p) = ap (numbers_of_pages c) chain ∙ numbers-kept b c xs same ∙ ap (numbers_of_pages b) (sym d.2) in (
      (
        same-child b c p (same p (self p d.0)) h.0,
        (length d.0, chained-ends c p p d.0 there),
        subst (λ z. AreDuplicates c z) (sym chain) (duplicates-kept b c xs same (subst (λ z. AreDuplicates b z) d.2 h.2)),
        subst IsOnce (sym numbers) h.3,
      ),
      ap in_order numbers,
      ap (λ z. z ++ []) all,
    )

rows-same : (b c : List ℕ) (rows : List Row) → length b % 1024 ≡ 0 → length c % 1024 ≡ 0 → AllByRecursion (λ r. (x : ℕ) → 1 ≤ times x (reach b (link_in r.1)) → page_in c x ≡ page_in b x) rows → AllMean b rows
    → AllMean c rows × SameNumbers b c rows × (pages_of c rows ≡ pages_of b rows)
rows-same b c [] wb wc k h = (tt, tt, refl)
rows-same b c (r ∷ rs) wb wc k h =
    let l = link-same b c (link_in r.1) wb wc k.0 h.0 in
    let i = rows-same b c rs wb wc k.1 h.1 in
    ((l.0, i.0), (l.1, i.1), by_link (link_in r.1) l.2 i.2)
  where
    by_link : (l : Link) → own_pages c l ≡ own_pages b l → pages_of c rs ≡ pages_of b rs → flat_map (chain_of c) (chain_in l ++ chains_in rs) ≡ flat_map (chain_of b) (chain_in l ++ chains_in rs)
    by_link (Number n) e i = i
    by_link (Fragment p i) e j = j
    by_link (Chain p) e i = ap (λ z. chain_of c p ++ z) i ∙ ap (λ z. z ++ pages_of b rs) (whole e)
      where
        whole : chain_of c p ++ [] ≡ chain_of b p ++ [] → chain_of c p ≡ chain_of b p
        whole e = sym (append-nil (chain_of c p)) ∙ e ∙ append-nil (chain_of b p)
    by_link Nothing e i = i

-- what is so of all pages that values reach
reach-all : (b : List ℕ) (P : ℕ → Type 0) (rows : List Row) → ((x : ℕ) → 1 ≤ times x (pages_of b rows) → P x) → ((p i : ℕ) → 0 < times_named p i rows → P p)
    → AllByRecursion (λ r. (x : ℕ) → 1 ≤ times x (reach b (link_in r.1)) → P x) rows
reach-all b P [] chains fragments = tt
reach-all b P (r ∷ rs) chains fragments = (
  by_link (link_in r.1) refl,
  reach-all b P rs (λ x i. chains x (omega (arith, i, chain-step b x (link_in r.1) (chains_in rs)))) (λ p i h. fragments p i (omega (arith, h, less-named p i r rs))),
)
  where
    same : (p i : ℕ) → ((p == p) && (i == i)) ≡ true
    same p i = grind arith

    only : (x p : ℕ) → 1 ≤ times x (p ∷ []) → p ≡ x
    only x p h = grind (arith, h)

    by_link : (l : Link) → link_in r.1 ≡ l → (x : ℕ) → 1 ≤ times x (reach b l) → P x
    by_link (Number n) e x h = absurd (omega (arith, h))
    by_link (Fragment p i) e x h =
        let is : own p i (link_in r.1) ≡ 1 = ap (λ l. own p i l) e ∙ ap (λ t. cond t 1 0) (same p i) in
        subst P (only x p h) (fragments p i (omega (arith, is)))
    by_link (Chain p) e x h =
        let m : times x (own_pages b (link_in r.1)) ≡ times x (own_pages b (Chain p)) = ap (λ l. times x (own_pages b l)) e in
        chains x (omega (arith, h, m, times-append x (chain_of b p) [], chain-step b x (link_in r.1) (chains_in rs)))
    by_link Nothing e x h = absurd (omega (arith, h))

-- where these pages stay, they are those that the values reach
pub reaches-same : (b c : List ℕ) (rows : List Row) (reached : List ℕ) → Reaches b rows reached → length c % 1024 ≡ 0 → SamePages reached b c → Reaches c rows reached × SameNumbers b c rows
reaches-same b c rows reached h wc same = (
  record {
    whole = wc;
    values = record {
      fragments = h.values.fragments;
      parts = h.values.parts ∙ ap (λ z. h.values.fragments ++ z) (sym kept.2);
      ends = all-ends c rows kept.0;
      named = h.values.named;
      each = λ at f i s n. h.values.each at f i s (subst (λ z. 0 < fragment_count z f) (same at (fragment at i)) n);
    };
    mean = kept.0;
  },
  kept.1,
)
  where
    parts : (x : ℕ) → times x reached ≡ times x h.values.fragments + times x (pages_of b rows)
    parts x = ap (times x) h.values.parts ∙ times-append x h.values.fragments (pages_of b rows)

    fragment : (x : ℕ) → Has h.values.fragments x → 1 ≤ times x reached
    fragment x i = omega (arith, i, parts x)

    kept : AllMean c rows × SameNumbers b c rows × (pages_of c rows ≡ pages_of b rows)
    kept = rows-same b c rows h.whole wc
        (reach-all b (λ x. page_in c x ≡ page_in b x) rows (λ x i. same x (omega (arith, i, parts x))) (λ p i n. same p (fragment p ((h.values.named p).1 (i, n))))) h.mean

-- a row with a plain value beside others
chains-plain : (front : List Row) (key : Key) (value : ℤ) (back : List Row) → IsPlain value → chains_in (front ++ ((key, value) ∷ back)) ≡ chains_in (front ++ back)
chains-plain [] key value back p = ap (λ l. chain_in l ++ chains_in back) p.1
chains-plain (r ∷ rs) key value back p = ap (λ z. chain_in (link_in r.1) ++ z) (chains-plain rs key value back p)

named-plain : (at f : ℕ) (front : List Row) (key : Key) (value : ℤ) (back : List Row) → IsPlain value → times_named at f (front ++ ((key, value) ∷ back)) ≡ times_named at f (front ++ back)
named-plain at f front key value back p =
    let z : own at f (link_in value) ≡ 0 = ap (λ l. own at f l) p.1 in
    omega (arith, z, named-split at f front (key, value) back)

plain-means : (b : List ℕ) (value : ℤ) → IsPlain value → HasValues b value
plain-means b value p = subst (λ l. HasNumbers b l) (sym p.1) tt

pub plain-with : (b : List ℕ) (front : List Row) (key : Key) (value : ℤ) (back : List Row) (reached : List ℕ) → IsPlain value → Reaches b (front ++ back) reached → Reaches b (front ++ ((key, value) ∷ back)) reached
plain-with b front key value back reached p h = record {
  whole = h.whole;
  values = record {
    fragments = h.values.fragments;
    parts = h.values.parts ∙ ap (λ z. h.values.fragments ++ flat_map (chain_of b) z) (sym (chains-plain front key value back p));
    ends = subst (λ z. AllByRecursion (Ends b) z) (sym (chains-plain front key value back p)) h.values.ends;
    named = λ at. (
      λ i. let w = (h.values.named at).0 i in (w.0, omega (arith, w.1, named-plain at w.0 front key value back p)),
      λ w. (h.values.named at).1 (w.0, omega (arith, w.1, named-plain at w.0 front key value back p)),
    );
    each = λ at f i s n. named-plain at f front key value back p ∙ h.values.each at f i s n;
  };
  mean = all-with (λ r. HasValues b r.1) front (key, value) back h.mean (plain-means b value p);
}

pub plain-off : (b : List ℕ) (front : List Row) (key : Key) (value : ℤ) (back : List Row) (reached : List ℕ) → IsPlain value → Reaches b (front ++ ((key, value) ∷ back)) reached → Reaches b (front ++ back) reached
plain-off b front key value back reached p h = record {
  whole = h.whole;
  values = record {
    fragments = h.values.fragments;
    parts = h.values.parts ∙ ap (λ z. h.values.fragments ++ flat_map (chain_of b) z) (chains-plain front key value back p);
    ends = subst (λ z. AllByRecursion (Ends b) z) (chains-plain front key value back p) h.values.ends;
    named = λ at. (
      λ i. let w = (h.values.named at).0 i in (w.0, omega (arith, w.1, named-plain at w.0 front key value back p)),
      λ w. (h.values.named at).1 (w.0, omega (arith, w.1, named-plain at w.0 front key value back p)),
    );
    each = λ at f i s n. sym (named-plain at f front key value back p) ∙ h.values.each at f i s n;
  };
  mean = (all-but (λ r. HasValues b r.1) front (key, value) back h.mean).0;
}

numbers-off : (b c : List ℕ) (front : List Row) (row : Row) (back : List Row) → SameNumbers b c (front ++ (row ∷ back)) → SameNumbers b c (front ++ back)
numbers-off b c front row back s = (all-but (λ r. numbers_in c (link_in r.1) ≡ numbers_in b (link_in r.1)) front row back s).0

pub row-put : (kind : KeyKind) (b c reached : List ℕ) (rows : List Row) (key : Key) (value : ℤ) → Reaches b rows reached → length c % 1024 ≡ 0 → SamePages reached b c → IsPlain value
    → Reaches c (put kind rows key value) reached × SameNumbers b c rows
row-put kind b c reached rows key value h wc same p =
    let s = put-split kind rows key value in
    let k = reaches-same b c rows reached h wc same in
    (subst (λ z. Reaches c z reached) (sym s.3) (plain-with c s.0 key value s.1 reached p (subst (λ z. Reaches c z reached) s.2 k.0)), k.1)

pub row-taken : (kind : KeyKind) (b c reached : List ℕ) (rows : List Row) (key : Key) (value : ℤ) → Reaches b rows reached → length c % 1024 ≡ 0 → SamePages reached b c → KeysAscend kind rows → assoc kind rows key ≡ Some value → IsPlain value
    → Reaches c (without kind rows key) reached × SameNumbers b c (without kind rows key)
row-taken kind b c reached rows key value h wc same up e p =
    let s = without-split kind rows key value up e in
    let plain : IsPlain s.1.1 = subst IsPlain (sym s.4) p in
    let k = reaches-same b c rows reached h wc same in (
      subst (λ z. Reaches c z reached) (sym s.5) (plain-off c s.0 s.1.0 s.1.1 s.2 reached plain (subst (λ z. Reaches c z reached) s.3 k.0)),
      subst (λ z. SameNumbers b c z) (sym s.5) (numbers-off b c s.0 s.1 s.2 (subst (λ z. SameNumbers b c z) s.3 k.1)),
    )

pub row-replaced : (b c reached : List ℕ) (front : List Row) (key : Key) (old new : ℤ) (back : List Row) → Reaches b (front ++ ((key, old) ∷ back)) reached → length c % 1024 ≡ 0 → SamePages reached b c → IsPlain old → IsPlain new
    → Reaches c (front ++ ((key, new) ∷ back)) reached × SameNumbers b c (front ++ back)
row-replaced b c reached front key old new back h wc same po pn =
    let k = reaches-same b c (front ++ ((key, old) ∷ back)) reached h wc same in
    (plain-with c front key new back reached pn (plain-off c front key old back reached po k.0), numbers-off b c front (key, old) back k.1)
