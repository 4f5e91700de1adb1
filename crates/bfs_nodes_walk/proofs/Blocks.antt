-- The blocks of what was visited.
use Rattle.std.proofs.Common.{◌≡◌, ◌≢◌, ◌≤◌, ◌<◌, ◌+◌, ◌%◌, ◌/◌, ◌==◌, ◌&&◌, ◌⊎◌, inl, inr, ℕ, zero, suc, List, [], ◌∷◌, ◌++◌, length, length-append, map, Bool, true, false, cond, refl, sym, ap, ◌∙◌, subst, arith}
use Rattle.bfs_base.specs.Lists.{times, Has}
use Rattle.bfs_stream.specs.Places.{arrays_at, places_at}
use Rattle.bfs_tree.specs.declared.call.Kind.{Kind}
use Rattle.bfs_tree.specs.declared.call.Kind.TheVariants.{File, Dir, Link}
use Rattle.bfs_tree.specs.Trees.{Node, is_link}
use Rattle.bfs_sound.specs.Volumes.{Volume, sizes}
use Rattle.bfs_sound.specs.Inodes.{kind_bits, mode_bits, is_short, inode_blocks}
use Rattle.bfs_sound.specs.Owners.{own_blocks, owner_blocks, has_no_stream}
use Rattle.bfs_finding.specs.Ways.{Way, to_root, to_child, says, lacks_stream}
use Rattle.bfs_claims.specs.Claims.{Claimed, is_claimed, AreClaimed}
use Rattle.bfs_claims.proofs.Claiming.{times_append}
use Rattle.bfs_tour.specs.Tours.{Visit}
use Rattle.bfs_nodes_walk.specs.Walks.{blocks_of_visits}

abbrev test : Bool → ℕ
test c = cond c 1 0

pub eq_itself : (n : ℕ) → (n == n) ≡ true
eq_itself n = grind arith

eq_yes : (a b : ℕ) → (a == b) ≡ true → a ≡ b
eq_yes a b e = grind (arith, e)

low_test : (c : Bool) → cond c 1 0 ≤ 1
low_test true = omega arith
low_test false = omega arith

side : (a b : ℕ) → 0 < a + b → (0 < a) ⊎ (0 < b)
side zero b h = inr (omega (arith, h))
side (suc a) b h = inl (omega arith)

pub in_either : (xs ys : List ℕ) (k : ℕ) → Has (xs ++ ys) k → Has xs k ⊎ Has ys k
in_either xs ys k h = side (times k xs) (times k ys) (subst (λ (n : ℕ). 0 < n) (times_append k xs ys) h)

module _ (v : Volume) (id : ℕ) where
  link_says : (kind : Kind) → mode_bits v id / 4096 % 16 ≡ kind_bits kind → is_link kind ≡ says v id Link
  link_says File m = sym (ap (λ (n : ℕ). n == 10) m)
  link_says Dir m = sym (ap (λ (n : ℕ). n == 10) m)
  link_says Link m = sym (ap (λ (n : ℕ). n == 10) m)

  -- the blocks of a node by its record are those by its mode
  pub own_is : (n : Node) → mode_bits v id / 4096 % 16 ≡ kind_bits n.kind → own_blocks v (id, n) ≡ owner_blocks v (id, lacks_stream v id)
  own_is n m = ap (λ (c : Bool). cond (c && is_short v id) (id ∷ []) (inode_blocks v id)) (link_says n.kind m)

  -- its own block is one of them
  first_own : (c : Bool) → 1 ≤ times id (cond c (id ∷ []) (inode_blocks v id))
  first_own true = let e : test (id == id) ≡ 1 = ap test (eq_itself id) in let h : 1 ≤ times id (id ∷ []) = omega (arith, e) in h
  first_own false =
      let rest : List ℕ = arrays_at (sizes v.geometry) v.blocks id ++ places_at (sizes v.geometry) v.blocks id in
      let e : test (id == id) ≡ 1 = ap test (eq_itself id) in
      let h : 1 ≤ times id (id ∷ rest) = omega (arith, e) in h

module _ (v : Volume) where
  own_there : (e : Visit) → 1 ≤ times e.0 (own_blocks v e)
  own_there e = first_own v e.0 (has_no_stream v e)

  number_own : (e : Visit) (k : ℕ) → test (e.0 == k) ≤ times k (own_blocks v e)
  number_own e k = by_test (e.0 == k) refl
    where
      by_test : (c : Bool) → (e.0 == k) ≡ c → cond c 1 0 ≤ times k (own_blocks v e)
      by_test true h = subst (λ (n : ℕ). 1 ≤ times n (own_blocks v e)) (eq_yes e.0 k h) (own_there e)
      by_test false h = omega arith

  -- the numbers of nodes are among their blocks
  pub numbers_low : (k : ℕ) (es : List Visit) → times k (map (λ (e : Visit). e.0) es) ≤ times k (blocks_of_visits v es)
  numbers_low k [] = omega arith
  numbers_low k (e ∷ es) =
      let one : test (e.0 == k) ≤ times k (own_blocks v e) = number_own e k in
      let two : times k (map (λ (e : Visit). e.0) es) ≤ times k (blocks_of_visits v es) = numbers_low k es in
      let three : times k (own_blocks v e ++ blocks_of_visits v es) ≡ times k (own_blocks v e) + times k (blocks_of_visits v es) = times_append k (own_blocks v e) (blocks_of_visits v es) in
      let h : test (e.0 == k) + times k (map (λ (e : Visit). e.0) es) ≤ times k (own_blocks v e ++ blocks_of_visits v es) = omega (arith, one, two, three) in h

  -- a node whose blocks could be claimed wasn't visited before
  pub new_here : (c : Claimed) (xs : List ℕ) (es : List Visit) (e : Visit) → AreClaimed c ((xs ++ blocks_of_visits v es) ++ own_blocks v e) → times e.0 (map (λ (e : Visit). e.0) es) ≡ 0
  new_here c xs es e a =
      let b : List ℕ = blocks_of_visits v es in
      let n : List ℕ = own_blocks v e in
      let once : times e.0 ((xs ++ b) ++ n) ≡ test (is_claimed c e.0) = a.each e.0 in
      let low : test (is_claimed c e.0) ≤ 1 = low_test (is_claimed c e.0) in
      let one : times e.0 ((xs ++ b) ++ n) ≡ times e.0 (xs ++ b) + times e.0 n = times_append e.0 (xs ++ b) n in
      let two : times e.0 (xs ++ b) ≡ times e.0 xs + times e.0 b = times_append e.0 xs b in
      let own : 1 ≤ times e.0 n = own_there e in
      let among : times e.0 (map (λ (e : Visit). e.0) es) ≤ times e.0 b = numbers_low e.0 es in
      omega (arith, once, low, one, two, own, among)

-- ways to the root and by rows
abbrev at_root : Way → Bool
at_root to_root = true
at_root _ = false

abbrev dir_of : Way → ℕ
dir_of (to_child d name) = d
dir_of _ = 0

abbrev name_of : Way → List ℕ
name_of (to_child d name) = name
name_of _ = []

pub root_is_other : (d : ℕ) (name : List ℕ) → to_root ≢ to_child d name
root_is_other d name e = let bad : true ≡ false = ap at_root e in cc

pub row_is_other : (d k : ℕ) (name word : List ℕ) → (k ≡ d → word ≢ name) → to_child k word ≢ to_child d name
row_is_other d k name word other e = other (ap dir_of e) (ap name_of e)

-- a number stands in a list with others
pub has_first : (k : ℕ) (xs : List ℕ) → Has (k ∷ xs) k
has_first k xs = let c : test (k == k) ≡ 1 = ap test (eq_itself k) in let h : 0 < test (k == k) + times k xs = omega (arith, c) in h

pub has_second : (k a b : ℕ) (xs : List ℕ) → Has (a ∷ xs) k → Has (a ∷ (b ∷ xs)) k
has_second k a b xs h = let w : 0 < test (a == k) + times k xs = h in let g : 0 < test (a == k) + (test (b == k) + times k xs) = omega (arith, w) in g

pub has_between : (k a b : ℕ) (xs : List ℕ) → b ≡ k → Has (a ∷ (b ∷ xs)) k
has_between k a b xs same =
    let c : test (b == k) ≡ 1 = ap test (subst (λ (n : ℕ). (b == n) ≡ true) same (eq_itself b)) in
    let g : 0 < test (a == k) + (test (b == k) + times k xs) = omega (arith, c) in g

-- lists of claimed blocks in another order
same_times : (k : ℕ) (xs a b n : List ℕ) → times k (xs ++ (a ++ (n ++ b))) ≡ times k ((xs ++ (a ++ b)) ++ n)
same_times k xs a b n =
    let one : times k ((xs ++ (a ++ b)) ++ n) ≡ times k (xs ++ (a ++ b)) + times k n = times_append k (xs ++ (a ++ b)) n in
    let two : times k (xs ++ (a ++ b)) ≡ times k xs + times k (a ++ b) = times_append k xs (a ++ b) in
    let three : times k (a ++ b) ≡ times k a + times k b = times_append k a b in
    let four : times k (xs ++ (a ++ (n ++ b))) ≡ times k xs + times k (a ++ (n ++ b)) = times_append k xs (a ++ (n ++ b)) in
    let five : times k (a ++ (n ++ b)) ≡ times k a + times k (n ++ b) = times_append k a (n ++ b) in
    let six : times k (n ++ b) ≡ times k n + times k b = times_append k n b in
    omega (arith, one, two, three, four, five, six)

same_length : (xs a b n : List ℕ) → length ((xs ++ (a ++ b)) ++ n) ≡ length (xs ++ (a ++ (n ++ b)))
same_length xs a b n =
    let one : length ((xs ++ (a ++ b)) ++ n) ≡ length (xs ++ (a ++ b)) + length n = length-append (xs ++ (a ++ b)) n in
    let two : length (xs ++ (a ++ b)) ≡ length xs + length (a ++ b) = length-append xs (a ++ b) in
    let three : length (a ++ b) ≡ length a + length b = length-append a b in
    let four : length (xs ++ (a ++ (n ++ b))) ≡ length xs + length (a ++ (n ++ b)) = length-append xs (a ++ (n ++ b)) in
    let five : length (a ++ (n ++ b)) ≡ length a + length (n ++ b) = length-append a (n ++ b) in
    let six : length (n ++ b) ≡ length n + length b = length-append n b in
    omega (arith, one, two, three, four, five, six)

pub claimed_between : (c : Claimed) (xs a b n : List ℕ) → AreClaimed c ((xs ++ (a ++ b)) ++ n) → AreClaimed c (xs ++ (a ++ (n ++ b)))
claimed_between c xs a b n h = record { each = λ k. same_times k xs a b n ∙ h.each k; number = h.number ∙ same_length xs a b n }
