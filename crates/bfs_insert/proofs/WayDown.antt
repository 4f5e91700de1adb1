-- The way of a key down a tree that is made ready for its row.
use Rattle.std.proofs.Common.{◌≡◌, ◌≤◌, ◌<◌, ◌+◌, ◌-◌, ℕ, ℤ, suc, List, length, Option, None, true, IsTrue, ◌==◌, ◌↔◌, Some, refl, ap, sym, ◌∙◌, subst, arith, inl}
use Rattle.bfs_base.specs.declared.kind.KeyKind.{KeyKind}
use Rattle.bfs_node.specs.declared.fault.TreeFault.{TreeFault}
use Rattle.bfs_node.specs.declared.fault.TreeFault.TheVariants.{Exists, Absent, Damaged, Pages, NoMemory}
use Rattle.bfs_node.specs.declared.header.Header.{Header}
use Rattle.bfs_node.specs.Page.{rows_of}
use Rattle.bfs_pages.specs.Answers.{IsChild, IsLeafFor, IsSpared, IsOfPages}
use Rattle.bfs_insert.specs.Puts.{IsNotPut, IsTop, IsDown, IsWay, IsPut, HasRisen}
use Rattle.bfs_pages.specs.Maps.{assoc, put}
use Rattle.bfs_pages.specs.Order.{Key}
use Rattle.bfs_pages.specs.Shapes.{Shape, place, tree_rows}
use Rattle.bfs_pages.specs.Trees.{IsTree, HasRows, IsTreeHeader, header_in, page_in, state_of}
use Rattle.bfs_pages.specs.Writes.{SamePages}
use Rattle.bfs_insert.specs.Divided.{IsRoomy}
use Rattle.bfs_pages.specs.Ways.{under, KeysAscend}
use Rattle.bfs_insert.proofs.Calls.{reaches-root, reaches-next, inserts}
use Rattle.bfs_pages.proofs.OfKind.{met-child, found-in-leaf}
use Rattle.bfs_pages.proofs.Way.{place-met}

-- a stream with a tree has bytes
pub some-bytes : (kind : KeyKind) (b reached : List ℕ) (t : Shape) (fs : List ℕ) → IsTree kind b reached t fs → 1 ≤ length b
some-bytes kind b reached t fs tree =
    let m : IsChild (length b) (place t) = met-child (state_of kind b) reached t fs (place t) tree.holds.built (place-met t) in
    some (length b) (place t) m
  where
    some : (n x : ℕ) → IsChild n x → 1 ≤ n
    some n x h = grind (arith, h.1)

pub way-starts : (kind : KeyKind) (b c : List ℕ) (k : Key) (root levels : ℕ) → IsTop kind b c root levels × HasRisen b levels → IsWay kind b c k root (levels - 1)
way-starts kind b c k root levels top = record {
  reaches = reaches-root kind (state_of kind b) (state_of kind c) k root (levels - 1) top.0.heightens (sym top.0.root_is) (ap (λ n. n - 1) (sym top.0.levels_are)) top.0.room;
  header = top.0.header;
  risen = subst (λ n. HasRisen b n) (sym top.0.levels_are) top.1;
}

pub way-next : (kind : KeyKind) (b c n : List ℕ) (k : Key) (at next left : ℕ) → IsWay kind b c k at left → 0 < left → IsDown kind c n at k next → IsWay kind b n k next (left - 1)
way-next kind b c n k at next left w some s = record {
  reaches = reaches-next kind (state_of kind b) (state_of kind c) (state_of kind n) k at next left w.reaches some s.down (ap (λ m. m - 1) s.levels);
  header = λ h. s.header (w.header h);
  risen = subst (λ m. HasRisen b m) (sym s.levels) w.risen;
}

-- a leaf on the way of a key that has room: nothing is made ready
pub way-there : (kind : KeyKind) (b : List ℕ) (k : Key) (at : ℕ) → IsTreeHeader kind (length b) (header_in b)
    → ((reached : List ℕ) (t : Shape) (fs : List ℕ) → IsTree kind b reached t fs → place (under kind (state_of kind b).levels t k) ≡ at) → IsRoomy (page_in b at) → IsWay kind b b k at 0
way-there kind b k at header way room = record {
  reaches = λ loose t fs h some. (t, fs, (state_of kind b).levels, h, refl, some, omega arith, way loose t fs (record { header = header; holds = h }), room, λ x i. refl);
  header = λ h. h;
  risen = inl refl;
}

-- the tree that stands there by now, and how far down the page is
pub way-tree : (kind : KeyKind) (b c : List ℕ) (k : Key) (at left : ℕ) (reached : List ℕ) (t : Shape) (fs : List ℕ) → IsWay kind b c k at left → IsTree kind b reached t fs
    → (t2 : Shape) × (fs2 : List ℕ) × (d : ℕ) × IsTree kind c reached t2 fs2 × (d + left ≡ (state_of kind c).levels) × (place (under kind d t2 k) ≡ at) × IsRoomy (page_in c at)
way-tree kind b c k at left reached t fs w tree =
    let r = w.reaches reached t fs tree.holds (some-bytes kind b reached t fs tree) in
    (r.0, r.1, r.2, record { header = w.header tree.header; holds = r.3 }, r.6, r.7, r.8)

-- the row is there
pub row-inserted : (kind : KeyKind) (b c n : List ℕ) (k : Key) (v : ℤ) (at : ℕ) (reached : List ℕ) (t : Shape) (fs : List ℕ) → IsWay kind b c k at 0 → IsPut kind c n at k v → IsTree kind b reached t fs → assoc kind (tree_rows t) k ≡ None
    → HasRows kind n reached (put kind (tree_rows t) k v) × SamePages reached b n
row-inserted kind b c n k v at reached t fs w p tree none =
    let i = inserts kind (state_of kind b) (state_of kind c) (state_of kind n) k v at w.reaches p.row reached t fs tree.holds (some-bytes kind b reached t fs tree) none in (
      (
        i.0,
        i.1,
        record {
          header = subst (λ (h : Header). IsTreeHeader kind (length n) h) (sym p.header) (subst (λ m. IsTreeHeader kind m (header_in c)) (sym p.size) (w.header tree.header));
          holds = i.2;
        },
        i.3,
      ),
      i.4,
    )

-- a key that the leaf on its way doesn't have isn't there
pub absent-there : (kind : KeyKind) (b reached : List ℕ) (t : Shape) (fs : List ℕ) (k : Key) (at : ℕ) (page : List ℕ) (o : Option ℤ) → IsTree kind b reached t fs → IsLeafFor kind b t k at page → (KeysAscend kind (rows_of page) → o ≡ assoc kind (rows_of page) k) → o ≡ None
    → assoc kind (tree_rows t) k ≡ None
absent-there kind b reached t fs k at page o tree leaf looked none = let p = found-in-leaf kind b reached t fs k at page tree.holds leaf in p.1 ∙ sym (looked p.0) ∙ none

-- what isn't there is not there
pub not-there : {A : Type 0} {X : Type 0} (o : Option A) (v : A) → o ≡ None → o ≡ Some v → X
not-there {A = A} o v none some = absurd (none_some v (sym none ∙ some))
  where
    none_some : (v : A) → None ≡ Some v → ⊥
    none_some v e = cc

-- why no row was put
pub spared-not_put : {F : Type 0} (kind : KeyKind) (t : Shape) (k : Key) (now : Option (List ℕ)) (fault : TreeFault F) → assoc kind (tree_rows t) k ≡ None → IsSpared now fault → IsNotPut kind t k now fault
spared-not_put kind t k now Exists none s = absurd s
spared-not_put kind t k now Absent none s = s
spared-not_put kind t k now (Damaged page sort) none s = s
spared-not_put kind t k now (Pages fault) none s = tt
spared-not_put kind t k now NoMemory none s = (none, s)

pub pages-not_put : {F : Type 0} (kind : KeyKind) (t : Shape) (k : Key) (now : Option (List ℕ)) (fault : TreeFault F) → IsOfPages fault → IsNotPut kind t k now fault
pages-not_put kind t k now Exists s = absurd s
pages-not_put kind t k now Absent s = s
pages-not_put kind t k now (Damaged page sort) s = s
pages-not_put kind t k now (Pages fault) s = tt
pages-not_put kind t k now NoMemory s = absurd s

-- the next page down is a leaf
pub last-but_one : (d left levels : ℕ) → d + (left - 1) ≡ levels → 1 < left → IsTrue (left == 2) ↔ suc d ≡ levels
last-but_one d left levels e l = (λ t. let m = eq_yes left 2 t in omega (arith, e, m), λ s. eq_back left 2 (omega (arith, e, l, s)))
  where
    eq_yes : (a b : ℕ) → (a == b) ≡ true → a ≡ b
    eq_yes a b e = grind (arith, e)

    eq_back : (a b : ℕ) → a ≡ b → (a == b) ≡ true
    eq_back a b e = grind (arith, e)
