-- What was gone over is a tour, whose tree stands.
use Rattle.std.proofs.Common.{◌≡◌, ◌≢◌, ◌≤◌, ◌<◌, ◌∙◌, ◌==◌, ℕ, List, [], ◌∷◌, ◌++◌, Some, None, Bool, true, false, cond, refl, sym, ap, subst, arith, append_assoc}
use Rattle.std.specs.List.{flat_map}
use Rattle.bfs_base.specs.Lists.{Has, IsOnce}
use Rattle.bfs_sound.specs.Volumes.{Volume, bitmap_blocks}
use Rattle.bfs_sound.specs.Inodes.{rows_of, index_directory}
use Rattle.bfs_sound.specs.Owners.{fixed_blocks, node_blocks, index_blocks}
use Rattle.bfs_claims.specs.Claims.{Claimed, is_claimed, AreClaimed}
use Rattle.bfs_tour.specs.Touring.{TourEnds}
use Rattle.bfs_tour.specs.Tours.{Visit, Found, TourStands, claimed}
use Rattle.bfs_index_walk.specs.declared.found.FoundIndex.{FoundIndex}
use Rattle.bfs_index_walk.specs.Indices.{as_found, kinds_of}
use Rattle.bfs_index_walk.specs.Laws.{system_blocks, NoneIsRowless, WalkIsTour, WalkStands}

eq_yes : (a b : ℕ) → (a == b) ≡ true → a ≡ b
eq_yes a b e = grind (arith, e)

some_there : (v : Volume) → v.geometry.indices ≢ 0 → index_directory v ≡ Some v.geometry.indices
some_there v some = by_test (v.geometry.indices == 0) refl
  where
    by_test : (c : Bool) → (v.geometry.indices == 0) ≡ c → cond c None (Some v.geometry.indices) ≡ Some v.geometry.indices
    by_test true e = absurd (some (eq_yes v.geometry.indices 0 e))
    by_test false e = refl

pub rowless : NoneIsRowless
rowless v first claims w some =
    let is : index_directory v ≡ Some v.geometry.indices = some_there v some in
    (v.geometry.indices, is, sym (ap (rows_of v) is) ∙ sym w.indices.are)

none_of : (found : List FoundIndex) → kinds_of found ≡ [] → found ≡ []
none_of [] e = refl
none_of (i ∷ is) e = absurd (other (as_found i) (kinds_of is) e)
  where
    other : (x : Found) (xs : List Found) → x ∷ xs ≡ [] → ⊥
    other x xs e = cc

pub toured : TourEnds → WalkIsTour
toured ends v first nodes all leads found w were some = ends v w.top w.visits (kinds_of found) w.touring were.directory were.kinds (λ e. some (none_of found e))

-- what is claimed stands there once
abbrev test : Bool → ℕ
test c = cond c 1 0

low_test : (c : Bool) → test c ≤ 1
low_test true = omega arith
low_test false = omega arith

module _ (all : Claimed) (xs : List ℕ) (a : AreClaimed all xs) where
  pub once : IsOnce xs
  once k = subst (λ (n : ℕ). n ≤ 1) (sym (a.each k)) (low_test (is_claimed all k))

  pub is_there : (k : ℕ) → Has xs k → is_claimed all k ≡ true
  is_there k h = by_test (is_claimed all k) (subst (λ (n : ℕ). 0 < n) (a.each k) h)
    where
      by_test : (c : Bool) → 0 < test c → c ≡ true
      by_test true p = refl
      by_test false p = absurd (omega (arith, p))

module _ (v : Volume) (visits : List Visit) where
  pub same_claims : (system_blocks v ++ flat_map (node_blocks v) visits) ++ index_blocks v ≡ claimed v visits
  same_claims =
      append_assoc (system_blocks v) (flat_map (node_blocks v) visits) (index_blocks v)
      ∙ append_assoc (fixed_blocks v) (bitmap_blocks v.geometry) (flat_map (node_blocks v) visits ++ index_blocks v)

pub standing : WalkIsTour → TourStands → (v : Volume) (all : Claimed) → ((k : ℕ) → is_claimed all k ≡ true → k < all.blocks) → all.blocks ≡ v.geometry.blocks → WalkStands v all
standing tour stands v all inside same nodes leads found w were some =
    let a : AreClaimed all (claimed v (w.top ∷ w.visits)) = subst (AreClaimed all) (same_claims v (w.top ∷ w.visits)) were.claimed in
    stands v w.top w.visits (kinds_of found) (tour v (system_blocks v) nodes all leads found w were some) (once all (claimed v (w.top ∷ w.visits)) a)
    (λ k h. subst (λ (n : ℕ). k < n) same (inside k (is_there all (claimed v (w.top ∷ w.visits)) a k h)))
