-- Values that are plain numbers.
use Rattle.std.proofs.Common.{◌≡◌, ◌<◌, ◌^◌, ◌%◌, ◌∙◌, ℕ, ℤ, pos, List, [], ◌∷◌, length, Bool, true, false, cond, Option, Some, None, refl, ap, subst}
use Rattle.std.proofs.Math.Nat.{div-eq_of_lt}
use Rattle.bfs_base.specs.declared.kind.KeyKind.{KeyKind}
use Rattle.bfs_node.specs.Page.{Row}
use Rattle.bfs_txn.specs.Pages.{HasLength}
use Rattle.std.specs.Prelude.{IfSome}
use Rattle.bfs_pages.specs.Maps.{assoc, put, without}
use Rattle.bfs_pages.specs.Order.{Key, at_most, same_keys}
use Rattle.bfs_values.specs.Laws.{IsPlain}
use Rattle.bfs_values.specs.Links.{link_by, link_in}
use Rattle.bfs_values.specs.declared.link.Link.TheVariants.{Number}
use Rattle.bfs_maps.specs.NumberTrees.{IsNumber, AreNumbers}

plain_link : (n : ℕ) → n < 2 ^ 62 → link_in (pos n) ≡ Number n
unfolding link_in
plain_link n small = ap (λ kind. link_by kind n) (div-eq_of_lt small)

pub number_link : (value : ℤ) (x : IsNumber value) → link_in value ≡ Number x.0
number_link value x = ap link_in x.1 ∙ plain_link x.0 x.2

pub number_plain : (value : ℤ) → IsNumber value → IsPlain value
number_plain value x = (x.0, number_link value x)

-- a value at a key of such rows is a number
pub number_there : (kind : KeyKind) (rows : List Row) (key : Key) (value : ℤ) → AreNumbers rows → assoc kind rows key ≡ Some value → IsNumber value
number_there kind [] key value all e = absurd (none e)
  where
    none : None ≡ Some value → ⊥
    none e = cc
number_there kind (r ∷ rs) key value all e = by_test (same_keys kind key r.0) e (λ h. number_there kind rs key value all.1 h)
  where
    by_test : (t : Bool) → cond t (Some r.1) (assoc kind rs key) ≡ Some value → (assoc kind rs key ≡ Some value → IsNumber value) → IsNumber value
    by_test true e more = let same : r.1 ≡ value = cc in subst IsNumber same all.0
    by_test false e more = more e

pub numbers_put : (kind : KeyKind) (rows : List Row) (k : Key) (n : ℕ) → n < 2 ^ 62 → AreNumbers rows → AreNumbers (put kind rows k (pos n))
numbers_put kind [] k n small all = ((n, refl, small), tt)
numbers_put kind (r ∷ rs) k n small all = by_test (numbers_put kind rs k n small all.1) (at_most kind k r.0)
  where
    by_test : AreNumbers (put kind rs k (pos n)) → (t : Bool) → AreNumbers (cond t ((k, pos n) ∷ r ∷ rs) (r ∷ put kind rs k (pos n)))
    by_test rest true = ((n, refl, small), all)
    by_test rest false = (all.0, rest)

pub numbers_without : (kind : KeyKind) (rows : List Row) (k : Key) → AreNumbers rows → AreNumbers (without kind rows k)
numbers_without kind [] k all = tt
numbers_without kind (r ∷ rs) k all = by_test (numbers_without kind rs k all.1) (same_keys kind k r.0)
  where
    by_test : AreNumbers (without kind rs k) → (t : Bool) → AreNumbers (cond t (without kind rs k) (r ∷ without kind rs k))
    by_test rest true = rest
    by_test rest false = (all.0, rest)

-- whole pages of a told stream
pub told_whole : (told : Option (List ℕ)) (size : ℕ) (b : List ℕ) → HasLength told size → size % 1024 ≡ 0 → told ≡ Some b → length b % 1024 ≡ 0
told_whole told size b h w e = ap (λ n. n % 1024) (subst (λ (o : Option (List ℕ)). IfSome o (λ b. length b ≡ size)) e h) ∙ w
