-- The pages of a stream where one is written or added.
use Rattle.std.proofs.Common.{◌≡◌, ◌≢◌, ◌≤◌, ◌<◌, ◌+◌, ◌%◌, ℕ, List, [], ◌++◌, length, take, drop, Option, Bool, true, false, cond, ◌&&◌, ◌==◌, nat_le, refl, ap, sym, ◌∙◌, subst, arith, length-append, length-take, length-drop}
use Rattle.std.proofs.lemmas.List.{drop-append-le, take-append-le, take_all}
use Rattle.std.proofs.Math.Seq.{drop-append_seam}
use Rattle.std.specs.Option.{option_map}
use Rattle.bfs_node.specs.Header.{header_at}
use Rattle.bfs_node.specs.declared.header.Header.{Header}
use Rattle.bfs_node.proofs.Parts.{part-before, part-after, part-written}
use Rattle.bfs_txn.specs.Pages.{page_at, with_page, HasLength}
use Rattle.bfs_pages.specs.Answers.{IsChild}
use Rattle.bfs_pages.specs.Trees.{is_place, page_in}
use Rattle.bfs_pages.specs.Writes.{Makes, PageSet, HeaderSet, PageAdded}
use Rattle.bfs_pages.proofs.Reading.{page-there}

eq_yes : (a b : ℕ) → (a == b) ≡ true → a ≡ b
eq_yes a b e = grind (arith, e)

eq_no : (a b : ℕ) → (a == b) ≡ false → a ≢ b
eq_no a b e q = grind (arith, e, q)

-- a page or none, by the test of its place
abbrev is_node : ℕ → ℕ → Bool
is_node n x = nat_le 1 x && is_place n x

node-yes : (n x : ℕ) → nat_le 1 x && is_place n x ≡ true → (1 ≤ x) × (x < n) × (x % 1024 ≡ 0)
node-yes n x e = (grind (arith, e), grind (arith, e), grind (arith, e))

child-whole : (n x : ℕ) → IsChild n x → (1024 ≤ x) × (x < n) × (x % 1024 ≡ 0)
child-whole n x h = (grind (arith, h.0, h.1), grind (arith, h.1), grind (arith, h.1))

room-behind : (n x : ℕ) → n % 1024 ≡ 0 → x % 1024 ≡ 0 → x < n → x + 1024 ≤ n
room-behind n x a b h = omega (arith, a, b, h)

length-set : (at : ℕ) (page b : List ℕ) → length page ≡ 1024 → at + 1024 ≤ length b → length (with_page at page b) ≡ length b
length-set at page b l h =
    omega (arith, length-append (take at b ++ page) (drop (at + length page) b), length-append (take at b) page, length-take at b, length-drop (at + length page) b, l, h)

-- the pages of two streams, where the second has as many bytes
other-page : (b c : List ℕ) (x : ℕ) → length c ≡ length b → ((1 ≤ x) × (x < length b) × (x % 1024 ≡ 0) → page_at c x ≡ page_at b x) → page_in c x ≡ page_in b x
other-page b c x l h = ap (λ n. cond (nat_le 1 x && is_place n x) (page_at c x) []) l ∙ by_test (nat_le 1 x && is_place (length b) x) refl
  where
    by_test : (t : Bool) → nat_le 1 x && is_place (length b) x ≡ t → cond t (page_at c x) [] ≡ cond t (page_at b x) []
    by_test true e = h (node-yes (length b) x e)
    by_test false e = refl

end-place : (n : ℕ) → n % 1024 ≡ 0 → is_place (n + 1024) n ≡ true
end-place n h = grind (arith, h)

place_same : (n x : ℕ) → n % 1024 ≡ 0 → x ≢ n → nat_le 1 x && is_place (n + 1024) x ≡ nat_le 1 x && is_place n x
place_same n x h d = grind (arith, h, d)

pub page-set : (at : ℕ) (page b : List ℕ) → length page ≡ 1024 → length b % 1024 ≡ 0 → IsChild (length b) at → PageSet b (with_page at page b) at page
page-set at page b l whole child = record {
  size = size_is;
  header = ap header_at (part-before b page at 0 1024 (omega (arith, w.0)) (omega (arith, l, room)));
  pages = λ x. by_test x (x == at) refl;
}
  where
    w : (1024 ≤ at) × (at < length b) × (at % 1024 ≡ 0)
    w = child-whole (length b) at child

    room : at + 1024 ≤ length b
    room = room-behind (length b) at whole w.2 w.1

    size_is : length (with_page at page b) ≡ length b
    size_is = length-set at page b l room

    apart : (x : ℕ) → x ≢ at → (1 ≤ x) × (x < length b) × (x % 1024 ≡ 0) → page_at (with_page at page b) x ≡ page_at b x
    apart x n v = by_side (nat_le x at) refl
      where
        le_yes : nat_le x at ≡ true → x + 1024 ≤ at
        le_yes e = let m : x ≤ at = grind (arith, e) in omega (arith, m, n, v.2, w.2)

        le_no : nat_le x at ≡ false → at + 1024 ≤ x
        le_no e = let m : at < x = grind (arith, e) in omega (arith, m, v.2, w.2)

        by_side : (t : Bool) → nat_le x at ≡ t → page_at (with_page at page b) x ≡ page_at b x
        by_side true e = part-before b page at x 1024 (le_yes e) (omega (arith, l, room))
        by_side false e = part-after b page at x 1024 (omega (arith, l, le_no e)) (omega (arith, l, room))

    by_test : (x : ℕ) (t : Bool) → (x == at) ≡ t → page_in (with_page at page b) x ≡ cond t page (page_in b x)
    by_test x true e =
        ap (λ z. page_in (with_page at page b) z) (eq_yes x at e)
        ∙ page-there (with_page at page b) at (length b) size_is child
        ∙ part-written b page at 1024 l (omega (arith, l, room))
    by_test x false e = other-page b (with_page at page b) x size_is (apart x (eq_no x at e))

pub header-set : (page b : List ℕ) (h : Header) → length page ≡ 1024 → length b % 1024 ≡ 0 → 1 ≤ length b → header_at page ≡ h → HeaderSet b (with_page 0 page b) h
header-set page b h l whole some e = record {
  size = size_is;
  header = ap header_at (part-written b page 0 1024 l (omega (arith, l, room))) ∙ e;
  pages = λ x. other-page b (with_page 0 page b) x size_is (λ v. part-after b page 0 x 1024 (omega (arith, l, v.0, v.2)) (omega (arith, l, room)));
}
  where
    room : 0 + 1024 ≤ length b
    room = omega (arith, whole, some)

    size_is : length (with_page 0 page b) ≡ length b
    size_is = length-set 0 page b l room

pub set-made : (told now : Option (List ℕ)) (at size : ℕ) (page : List ℕ) → HasLength told size → size % 1024 ≡ 0 → IsChild size at → length page ≡ 1024 → now ≡ option_map (with_page at page) told
    → Makes told now (λ b c. PageSet b c at page)
set-made told now at size page l whole child p e b is =
    let n : length b ≡ size = subst (λ t. HasLength t size) is l in
    (with_page at page b, e ∙ ap (option_map (with_page at page)) is, page-set at page b p (subst (λ z. z % 1024 ≡ 0) (sym n) whole) (subst (λ z. IsChild z at) (sym n) child))

pub header-made : (told now : Option (List ℕ)) (size : ℕ) (page : List ℕ) (h : Header) → HasLength told size → size % 1024 ≡ 0 → 1 ≤ size → length page ≡ 1024 → header_at page ≡ h → now ≡ option_map (with_page 0 page) told
    → Makes told now (λ b c. HeaderSet b c h)
header-made told now size page h l whole some p is_h e b is =
    let n : length b ≡ size = subst (λ t. HasLength t size) is l in
    (with_page 0 page b, e ∙ ap (option_map (with_page 0 page)) is, header-set page b h p (subst (λ z. z % 1024 ≡ 0) (sym n) whole) (subst (λ z. 1 ≤ z) (sym n) some) is_h)

added : (page b : List ℕ) → length page ≡ 1024 → length b % 1024 ≡ 0 → 1 ≤ length b → PageAdded b (b ++ page) page
added page b l whole some = record {
  size = size_is;
  header = ap header_at (before 0 (omega (arith, whole, some)));
  pages = λ x. by_test x (x == length b) refl;
}
  where
    size_is : length (b ++ page) ≡ length b + 1024
    size_is = omega (arith, length-append b page, l)

    before : (x : ℕ) → x + 1024 ≤ length b → page_at (b ++ page) x ≡ page_at b x
    before x h = ap (take 1024) (drop-append-le x b page (omega (arith, h))) ∙ take-append-le 1024 (drop x b) page (omega (arith, length-drop x b, h))

    -- the page at the end
    last : page_at (b ++ page) (length b) ≡ page
    last = ap (take 1024) (drop-append_seam b page) ∙ take_all 1024 page (omega (arith, l))

    still : (x : ℕ) → x ≢ length b → is_node (length (b ++ page)) x ≡ is_node (length b) x
    still x n = ap (λ z. is_node z x) size_is ∙ place_same (length b) x whole n

    by_test : (x : ℕ) (t : Bool) → (x == length b) ≡ t → page_in (b ++ page) x ≡ cond t page (page_in b x)
    by_test x true e =
        ap (λ z. page_in (b ++ page) z) (eq_yes x (length b) e)
        ∙ page-there (b ++ page) (length b) (length b + 1024) size_is (some, end-place (length b) whole) ∙ last
    by_test x false e =
        ap (λ t. cond t (page_at (b ++ page) x) []) (still x (eq_no x (length b) e)) ∙ there (is_node (length b) x) refl
      where
        there : (t : Bool) → is_node (length b) x ≡ t → cond t (page_at (b ++ page) x) [] ≡ cond t (page_at b x) []
        there true i = let v = node-yes (length b) x i in before x (room-behind (length b) x whole v.2 v.1)
        there false i = refl

pub added-made : (told now : Option (List ℕ)) (size : ℕ) (page : List ℕ) → HasLength told size → size % 1024 ≡ 0 → 1 ≤ size → length page ≡ 1024 → now ≡ option_map (λ bytes. bytes ++ page) told
    → Makes told now (λ b c. (p : List ℕ) × PageAdded b c p)
added-made told now size page l whole some p e b is =
    let n : length b ≡ size = subst (λ t. HasLength t size) is l in
    (b ++ page, e ∙ ap (option_map (λ bytes. bytes ++ page)) is, (page, added page b p (subst (λ z. z % 1024 ≡ 0) (sym n) whole) (subst (λ z. 1 ≤ z) (sym n) some)))
