-- The answers of calls that add a number.
use Rattle.std.proofs.Common.{◌≡◌, ◌≢◌, ◌⊎◌, ◌≤◌, ◌<◌, ◌%◌, ℕ, ℤ, List, [], ◌∷◌, ◌++◌, length, true, false, cond, nat_le, inl, inr, refl, ap, sym, ◌∙◌, subst, arith}
use Rattle.bfs_base.specs.Lists.{times}
use Rattle.bfs_base.specs.declared.kind.KeyKind.{KeyKind}
use Rattle.bfs_node.specs.Page.{Row}
use Rattle.bfs_pages.specs.Order.{Key}
use Rattle.bfs_pages.specs.Shapes.{Shape, tree_rows, leaves_of}
use Rattle.bfs_pages.specs.Trees.{page_in, neighbours_in, IsTree}
use Rattle.bfs_values.specs.declared.link.Link.TheVariants.{Number, Fragment, Chain}
use Rattle.bfs_values.specs.Links.{link_in}
use Rattle.bfs_values.specs.Values.{page_count, placed, values_in}
use Rattle.bfs_values.specs.Chained.{IsLinked}
use Rattle.bfs_dups.proofs.Answered.{named-rest, revalued}
use Rattle.bfs_dups_add.specs.Rooms.{IsRoom}
use Rattle.bfs_dups_add.specs.declared.scan.Room.{Room}
use Rattle.bfs_values.specs.Stored.{Stored, SameNumbers, IsRevalued, with_number}
use Rattle.bfs_dups.specs.Written.{IsVacated}
use Rattle.bfs_dups_add.specs.Written.{IsPut, IsLast}
use Rattle.bfs_values.specs.Reached.{times_named}
use Rattle.bfs_values.specs.Named.{IsNamedIn}
use Rattle.bfs_dups.proofs.Composed.{vacated}
use Rattle.bfs_dups_add.proofs.Lengthened.{raised}
use Rattle.bfs_values.proofs.Opened.{own}

le_yes : (a : ℕ) → 1 ≤ a → nat_le 1 a ≡ true
le_yes a h = grind (arith, h)

le_no : (a : ℕ) → a ≡ 0 → nat_le 1 a ≡ false
le_no a h = grind (arith, h)

pub with-old : (n : ℕ) (ns : List ℕ) → 1 ≤ times n ns → with_number n ns ≡ ns
with-old n ns h = ap (λ c. cond c ns (placed n ns)) (le_yes (times n ns) h)

pub with-new : (n : ℕ) (ns : List ℕ) → times n ns ≡ 0 → with_number n ns ≡ placed n ns
with-new n ns h = ap (λ c. cond c ns (placed n ns)) (le_no (times n ns) h)

same-none : (b : List ℕ) (rows : List Row) → SameNumbers b b rows
same-none b [] = tt
same-none b (r ∷ rs) = (refl, same-none b rs)

same-both : (b m c : List ℕ) (rows : List Row) → SameNumbers b m rows → SameNumbers m c rows → SameNumbers b c rows
same-both b m c [] s r = tt
same-both b m c (x ∷ xs) s r = (r.0 ∙ s.0, same-both b m c xs s.1 r.1)

-- the value stays
pub unchanged : (kind : KeyKind) (b : List ℕ) (t : Shape) (front : List Row) (key : Key) (back : List Row) (value now : ℤ) (n : ℕ) → Stored kind b t (front ++ ((key, value) ∷ back)) → now ≡ value → 1 ≤ times n (values_in b value)
    → IsRevalued kind b b t front key back now (with_number n (values_in b value))
unchanged kind b t front key back value now n s e h =
    subst (λ v. IsRevalued kind b b t front key back v (with_number n (values_in b value))) (sym e)
    (record { stored = s; means = sym (with-old n (values_in b value) h); others = same-none b (front ++ back) })

-- the eighth number: the fragment is freed, and a chain of one page has all
pub eighth : (kind : KeyKind) (b m c : List ℕ) (t : Shape) (front : List Row) (key : Key) (back : List Row) (value new : ℤ) (p i q : ℕ) (wide numbers : List ℕ) → Stored kind b t (front ++ ((key, value) ∷ back)) → link_in value ≡ Fragment p i → link_in new ≡ Chain q → length b % 1024 ≡ 0 → length m % 1024 ≡ 0
    → IsVacated b m p i → IsPut kind m c q wide → IsLast wide numbers → IsRevalued kind b c t front key back new numbers
eighth kind b m c t front key back value new p i q wide numbers s e new_is wb wm v put last =
    let f = vacated kind b m t front (key, value) back p i 0 s e wb v in
    let r = raised kind m c t (front ++ back) 0 q wide numbers f.0 wm put last in
    revalued kind b c t front key back new (Chain q) numbers numbers new_is r.0 (same-both b m c (front ++ back) f.1 r.1) r.2 refl

-- and its first page has no neighbours
pub eighth-linked : (kind : KeyKind) (b m c : List ℕ) (t : Shape) (front : List Row) (key : Key) (back : List Row) (value : ℤ) (p i q : ℕ) (wide numbers : List ℕ) → Stored kind b t (front ++ ((key, value) ∷ back)) → link_in value ≡ Fragment p i → length b % 1024 ≡ 0 → length m % 1024 ≡ 0
    → IsVacated b m p i → IsPut kind m c q wide → IsLast wide numbers → (neighbours_in wide).0 ≡ 0 → IsLinked c (Chain q)
eighth-linked kind b m c t front key back value p i q wide numbers s e wb wm v put last left =
    let f = vacated kind b m t front (key, value) back p i 0 s e wb v in
    (raised kind m c t (front ++ back) 0 q wide numbers f.0 wm put last).3 left

pub room-there : (b pages : List ℕ) (room : Room) → IsRoom b pages room → room.at ≢ 0 → 1 ≤ times room.at pages
room-there b pages room r n = by_case r.at
  where
    by_case : (room.at ≡ 0) ⊎ ((1 ≤ times room.at pages) × (page_count (page_in b room.at) < 125)) → 1 ≤ times room.at pages
    by_case (inl z) = absurd (n z)
    by_case (inr h) = h.0

pub named-other : (kind : KeyKind) (b reached : List ℕ) (t : Shape) (fs : List ℕ) (front : List Row) (key : Key) (back : List Row) (value : ℤ) (old leaf page : ℕ) → IsTree kind b reached t fs → tree_rows t ≡ front ++ ((key, value) ∷ back) → link_in value ≡ Number old
    → 1 ≤ times leaf (leaves_of t) → IsNamedIn b leaf page → (j : ℕ) × (0 < times_named page j (front ++ back))
named-other kind b reached t fs front key back value old leaf page tree rows link there n = named-rest kind b reached t fs front key back value leaf page tree rows (λ j. ap (own page j) link) there n
