-- A step down the way of a key.
use Rattle.std.proofs.Common.{◌≡◌, ◌≤◌, ◌<◌, ℕ, suc, List, Bool, true, false, IsTrue, nat_le, refl, sym, subst, arith}
use Rattle.bfs_base.specs.declared.kind.KeyKind.{KeyKind}
use Rattle.bfs_node.specs.Page.{rows_of, links_of}
use Rattle.bfs_pages.specs.Order.{Key}
use Rattle.bfs_pages.specs.Shapes.{Shape, place}
use Rattle.bfs_pages.specs.Trees.{page_in, place_of, children_in, state_of, Holds}
use Rattle.bfs_pages.specs.Ways.{under, pick_of, KeysRise}
use Rattle.bfs_insert.specs.Divided.{IsRoomy}
use Rattle.bfs_insert.specs.Puts.{IsStep, IsDown}
use Rattle.bfs_pages.proofs.OfKind.{inner-page}
use Rattle.bfs_pages.proofs.Reading.{not_true}

-- the child has room already
pub step-stays : (kind : KeyKind) (b : List ℕ) (at c : ℕ) (k : Key) → IsRoomy (page_in b c) → IsStep kind b b at c k c
step-stays kind b at c k room = record {
  down = λ on reached t fs d h some l e. (t, fs, h, refl, on reached t fs d h l e, some, room, λ x i. refl);
  levels = refl;
  header = λ h. h;
}

-- the child that a page says is on the way
pub way-on : (kind : KeyKind) (b page : List ℕ) (at c : ℕ) (k : Key) → page ≡ page_in b at
    → (KeysRise kind (rows_of page) → pick_of kind (children_in (rows_of page)) (place_of (links_of page).overflow) k ≡ c)
    → (reached : List ℕ) (t : Shape) (fs : List ℕ) (d : ℕ) → Holds kind (state_of kind b) reached t fs → suc d ≤ (state_of kind b).levels → place (under kind d t k) ≡ at → place (under kind (suc d) t k) ≡ c
way-on kind b page at c k r picks reached t fs d h l e =
    let p = inner-page kind b reached t fs d k at h l e in
    p.2 c (subst (λ z. pick_of kind (children_in (rows_of z)) (place_of (links_of z).overflow) k ≡ c) r (picks (subst (λ z. KeysRise kind (rows_of z)) (sym r) p.1)))

pub goes-down : (kind : KeyKind) (b n page : List ℕ) (at c : ℕ) (k : Key) (next : ℕ) → page ≡ page_in b at
    → (KeysRise kind (rows_of page) → pick_of kind (children_in (rows_of page)) (place_of (links_of page).overflow) k ≡ c)
    → IsStep kind b n at c k next → IsDown kind b n at k next
goes-down kind b n page at c k next r picks s = record {
  down = s.down (way-on kind b page at c k r picks);
  levels = s.levels;
  header = s.header;
}

-- a page is not the last but one
pub more-below : (last : Bool) (d levels : ℕ) → last ≡ false → suc d ≤ levels → (suc d ≡ levels → IsTrue last) → suc (suc d) ≤ levels
more-below last d levels e l is = by_test (nat_le (suc (suc d)) levels) refl
  where
    le_yes : (a b : ℕ) → nat_le a b ≡ true → a ≤ b
    le_yes a b e = grind (arith, e)

    le_no : (a b : ℕ) → nat_le a b ≡ false → b < a
    le_no a b e = grind (arith, e)

    by_test : (c : Bool) → nat_le (suc (suc d)) levels ≡ c → suc (suc d) ≤ levels
    by_test true i = le_yes (suc (suc d)) levels i
    by_test false i = let m = le_no (suc (suc d)) levels i in absurd (not_true last (is (omega (arith, l, m))) e)
