-- The order of keys and of what is met in a tree.
use Rattle.std.proofs.Common.{◌≡◌, ℤ, Bool, true, false, cond, refl, ap, sym, ◌∙◌}
use Rattle.std.specs.Ordering.{is_lt, is_eq, ordering_reverse}
use Rattle.std.specs.declared.cmp.Ordering.{Ordering}
use Rattle.std.specs.declared.cmp.Ordering.TheVariants.{Less, Equal, Greater}
use Rattle.bfs_node.specs.BaseKeyKind.{KeyKind}
use Rattle.bfs_node.specs.Keys.{key_cmp}
use Rattle.bfs_node.proofs.Order.{key_cmp_total}
use Rattle.bfs_pages.specs.Order.{Key, comes_before, at_most, same_keys}
use Rattle.bfs_pages.specs.Shapes.{Entry, a_row, a_bound, key_in, IsAbove, Precedes}

pub less-is : (o : Ordering) → is_lt o ≡ true → o ≡ Less
less-is Less e = refl
less-is Equal e = absurd (no e)
  where
    no : false ≡ true → ⊥
    no e = cc
less-is Greater e = absurd (no e)
  where
    no : false ≡ true → ⊥
    no e = cc

-- what is_lt and is_eq say of an order and its reverse
pub less_less : (kind : KeyKind) (a b c : Key) → comes_before kind a b ≡ true → comes_before kind b c ≡ true → comes_before kind a c ≡ true
less_less kind a b c h g = ap is_lt ((key_cmp_total kind).trans a b c (less-is (key_cmp kind a b) h) (less-is (key_cmp kind b c) g))

pub not_most : (kind : KeyKind) (a b : Key) → at_most kind a b ≡ false → comes_before kind b a ≡ true
not_most kind a b e = by (comes_before kind b a) e
  where
    by : (c : Bool) → cond c false true ≡ false → c ≡ true
    by true e = refl
    by false e = sym e

pub not_before : (kind : KeyKind) (a b : Key) → comes_before kind b a ≡ false → at_most kind a b ≡ true
not_before kind a b e = ap (λ c. cond c false true) e

pub most_not : (kind : KeyKind) (a b : Key) → comes_before kind b a ≡ true → at_most kind a b ≡ false
most_not kind a b h = ap (λ c. cond c false true) h

-- the order of a and b, where b isn't less
most-is : (kind : KeyKind) (a b : Key) (o : Ordering) → key_cmp kind a b ≡ o → at_most kind a b ≡ true → cond (is_eq o) true (is_lt o) ≡ true
most-is kind a b Less e h = refl
most-is kind a b Equal e h = refl
most-is kind a b Greater e h = absurd (no (sym (ap (λ c. cond c false true) (ap is_lt ((key_cmp_total kind).antisymm b a ∙ ap ordering_reverse e))) ∙ h))
  where
    no : false ≡ true → ⊥
    no e = cc

pub most_less : (kind : KeyKind) (a b c : Key) → at_most kind a b ≡ true → comes_before kind b c ≡ true → comes_before kind a c ≡ true
most_less kind a b c h g = by (key_cmp kind a b) refl
  where
    by : (o : Ordering) → key_cmp kind a b ≡ o → comes_before kind a c ≡ true
    by Less e = less_less kind a b c (ap is_lt e) g
    by Equal e = ap is_lt ((key_cmp_total kind).congr a b c e) ∙ g
    by Greater e = absurd (no (most-is kind a b Greater e h))
      where
        no : false ≡ true → ⊥
        no e = cc

pub less_is_most : (kind : KeyKind) (a b : Key) → comes_before kind a b ≡ true → at_most kind a b ≡ true
less_is_most kind a b h = ap (λ o. cond (is_lt o) false true) ((key_cmp_total kind).antisymm b a ∙ ap ordering_reverse (less-is (key_cmp kind a b) h))

pub less_most : (kind : KeyKind) (a b c : Key) → comes_before kind a b ≡ true → at_most kind b c ≡ true → comes_before kind a c ≡ true
less_most kind a b c h g = by (comes_before kind a c) refl
  where
    by : (t : Bool) → comes_before kind a c ≡ t → comes_before kind a c ≡ true
    by true e = e
    by false e = absurd (no (sym (turned (key_cmp kind b c) refl)))
      where
        no : true ≡ false → ⊥
        no e = cc

        -- c is at most a, and a is less than b
        turned : (o : Ordering) → key_cmp kind b c ≡ o → false ≡ true
        turned Less i = sym e ∙ less_less kind a b c h (ap is_lt i)
        turned Equal i = sym e ∙ same
          where
            same : comes_before kind a c ≡ true
            same =
                let r : key_cmp kind a c ≡ ordering_reverse (key_cmp kind c a) = (key_cmp_total kind).antisymm a c in
                let s : key_cmp kind b a ≡ key_cmp kind c a = (key_cmp_total kind).congr b c a i in
                ap is_lt (r ∙ ap ordering_reverse (sym s) ∙ sym ((key_cmp_total kind).antisymm a b)) ∙ h
        turned Greater i = most-is kind b c Greater i g

pub most_most : (kind : KeyKind) (a b c : Key) → at_most kind a b ≡ true → at_most kind b c ≡ true → at_most kind a c ≡ true
most_most kind a b c h g = by (comes_before kind c a) refl
  where
    by : (t : Bool) → comes_before kind c a ≡ t → cond t false true ≡ true
    by true e = absurd (no (sym (most_not kind b c (less_most kind c a b e h)) ∙ g))
      where
        no : false ≡ true → ⊥
        no e = cc
    by false e = refl

itself : (o : Ordering) → o ≡ ordering_reverse o → o ≡ Equal
itself Less e = absurd (no e)
  where
    no : Less ≡ Greater → ⊥
    no e = cc
itself Equal e = refl
itself Greater e = absurd (no e)
  where
    no : Greater ≡ Less → ⊥
    no e = cc

pub most_itself : (kind : KeyKind) (a : Key) → at_most kind a a ≡ true
most_itself kind a = ap (λ o. cond (is_lt o) false true) (itself (key_cmp kind a a) ((key_cmp_total kind).antisymm a a))

pub not_itself : (kind : KeyKind) (a : Key) → comes_before kind a a ≡ false
not_itself kind a = ap is_lt (itself (key_cmp kind a a) ((key_cmp_total kind).antisymm a a))

pub same_itself : (kind : KeyKind) (a : Key) → same_keys kind a a ≡ true
same_itself kind a = ap is_eq (itself (key_cmp kind a a) ((key_cmp_total kind).antisymm a a))

pub less_if_not_same : (kind : KeyKind) (a b : Key) → at_most kind a b ≡ true → same_keys kind a b ≡ false → comes_before kind a b ≡ true
less_if_not_same kind a b h s = by (key_cmp kind a b) refl
  where
    by : (o : Ordering) → key_cmp kind a b ≡ o → comes_before kind a b ≡ true
    by Less e = ap is_lt e
    by Equal e = absurd (no (sym (ap is_eq e) ∙ s))
      where
        no : true ≡ false → ⊥
        no e = cc
    by Greater e = absurd (no (most-is kind a b Greater e h))
      where
        no : false ≡ true → ⊥
        no e = cc

-- a lesser key, and a greater one, is not the same
pub less_not_same : (kind : KeyKind) (a b : Key) → comes_before kind a b ≡ true → same_keys kind a b ≡ false
less_not_same kind a b h = ap is_eq (less-is (key_cmp kind a b) h)

pub greater_not_same : (kind : KeyKind) (a b : Key) → comes_before kind b a ≡ true → same_keys kind a b ≡ false
greater_not_same kind a b h = ap is_eq ((key_cmp_total kind).antisymm a b ∙ ap ordering_reverse (less-is (key_cmp kind b a) h))

-- the same key is in the same place
pub same_before : (kind : KeyKind) (a b c : Key) → same_keys kind a b ≡ true → comes_before kind a c ≡ comes_before kind b c
same_before kind a b c h = ap is_lt ((key_cmp_total kind).congr a b c (equal-is (key_cmp kind a b) h))
  where
    equal-is : (o : Ordering) → is_eq o ≡ true → o ≡ Equal
    equal-is Less e = absurd (no e)
      where
        no : false ≡ true → ⊥
        no e = cc
    equal-is Equal e = refl
    equal-is Greater e = absurd (no e)
      where
        no : false ≡ true → ⊥
        no e = cc

-- what is met before a key
abbrev pub IsBelow : KeyKind → Key → Entry → Type 0
IsBelow kind k e = comes_before kind (key_in e) k ≡ true

pub below_bound : (kind : KeyKind) (key k : Key) → comes_before kind key k ≡ true → (e : Entry) → Precedes kind e (a_bound key) → IsBelow kind k e
below_bound kind key k l (a_row a v) h = most_less kind a key k h l
below_bound kind key k l (a_bound b) h = most_less kind b key k h l

pub above_bound : (kind : KeyKind) (key k : Key) → at_most kind k key ≡ true → (e : Entry) → Precedes kind (a_bound key) e → IsAbove kind k e
above_bound kind key k l (a_row a v) h = most_less kind k key a l h
above_bound kind key k l (a_bound b) h = most_most kind k key b l h

pub above_more : (kind : KeyKind) (x k : Key) → comes_before kind k x ≡ true → (e : Entry) → IsAbove kind x e → IsAbove kind k e
above_more kind x k l (a_row a v) h = less_less kind k x a l h
above_more kind x k l (a_bound b) h = less_is_most kind k b (less_most kind k x b l h)

pub beyond_row : (kind : KeyKind) (sep b : Key) → comes_before kind sep b ≡ true → (e : Entry) → IsAbove kind b e → Precedes kind (a_bound sep) e
beyond_row kind sep b l (a_row a v) h = less_less kind sep b a l h
beyond_row kind sep b l (a_bound c) h = less_is_most kind sep c (less_most kind sep b c l h)

pub bound_after : (kind : KeyKind) (sep : Key) (v : ℤ) (e : Entry) → Precedes kind e (a_row sep v) → Precedes kind e (a_bound sep)
bound_after kind sep v (a_row a w) h = less_is_most kind a sep h
bound_after kind sep v (a_bound b) h = less_is_most kind b sep h

pub row_above : (kind : KeyKind) (k : Key) (v : ℤ) (e : Entry) → IsBelow kind k e → Precedes kind e (a_row k v)
row_above kind k v (a_row a w) h = h
row_above kind k v (a_bound b) h = h

pub row_below : (kind : KeyKind) (k : Key) (v : ℤ) (e : Entry) → Precedes kind e (a_row k v) → IsBelow kind k e
row_below kind k v (a_row a w) h = h
row_below kind k v (a_bound b) h = h
