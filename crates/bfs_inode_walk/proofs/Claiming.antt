-- Blocks that are claimed one run after the other, and a block that is taken.
use Rattle.std.proofs.Common.{◌≡◌, ◌≤◌, ◌<◌, ◌+◌, ℕ, List, [], ◌∷◌, ◌++◌, length, take, drop, get_or, Bool, true, false, cond, ◌&&◌, nat_le, nat_lt, refl, sym, ap, ◌∙◌, subst, arith, append_assoc}
use Rattle.std.proofs.lemmas.List.{take_more, drop_more, take-append-drop, take_all}
use Rattle.std.proofs.lemmas.Grind.{flat_map-append}
use Rattle.bfs_base.specs.Lists.{times, counted_from, Has}
use Rattle.bfs_bytes.specs.declared.Run.{Run}
use Rattle.bfs_stream.specs.Sizes.{Sizes}
use Rattle.bfs_stream.specs.Places.{run_blocks, blocks_of}
use Rattle.bfs_stream_check.proofs.Flat.{append_nil}
use Rattle.bfs_claims.specs.Claims.{Claimed, AreClaimed}
use Rattle.bfs_claims.proofs.Claiming.{times_append, times_run}
use Rattle.bfs_inode_walk.specs.Visited.{IsTaken, IsUntaken, IsTwiceAmong}
use Rattle.bfs_inode_walk.specs.declared.fault.VisitFault.{VisitFault}
use Rattle.bfs_inode_walk.specs.declared.fault.VisitFault.TheVariants.{Wrong, Taken, Block}

module _ (s : Sizes) (runs : List Run) (i : ℕ) (d : Run) (inside : i < length runs) where
  pub next : blocks_of s (take (i + 1) runs) ≡ blocks_of s (take i runs) ++ run_blocks s (get_or runs i d)
  next =
      ap (blocks_of s) (take_more runs i d inside)
      ∙ flat_map-append (run_blocks s) (take i runs) (get_or runs i d ∷ [])
      ∙ ap (λ (l : List ℕ). blocks_of s (take i runs) ++ l) (append_nil (run_blocks s (get_or runs i d)))

  pub split : blocks_of s runs ≡ blocks_of s (take i runs) ++ (run_blocks s (get_or runs i d) ++ blocks_of s (drop (i + 1) runs))
  split =
      ap (blocks_of s) (sym (take-append-drop i runs))
      ∙ flat_map-append (run_blocks s) (take i runs) (drop i runs)
      ∙ ap (λ (l : List Run). blocks_of s (take i runs) ++ blocks_of s l) (drop_more runs i d inside)

  -- one run more was claimed
  pub claimed_next : (c : Claimed) (xs : List ℕ) → AreClaimed c ((xs ++ blocks_of s (take i runs)) ++ run_blocks s (get_or runs i d)) → AreClaimed c (xs ++ blocks_of s (take (i + 1) runs))
  claimed_next c xs a = subst (AreClaimed c) (append_assoc xs (blocks_of s (take i runs)) (run_blocks s (get_or runs i d)) ∙ ap (λ (l : List ℕ). xs ++ l) (sym next)) a

  -- a block of the next run is claimed already
  pub twice_next : (at : ℕ) (xs : List ℕ) → Has (xs ++ blocks_of s (take i runs)) at → Has (run_blocks s (get_or runs i d)) at → Has (blocks_of s runs) at × (2 ≤ times at (xs ++ blocks_of s runs))
  twice_next at xs before here =
      let a : List ℕ = blocks_of s (take i runs) in
      let r : List ℕ = run_blocks s (get_or runs i d) in
      let b : List ℕ = blocks_of s (drop (i + 1) runs) in
      let one : times at (xs ++ a) ≡ times at xs + times at a = times_append at xs a in
      let two : times at (a ++ (r ++ b)) ≡ times at a + times at (r ++ b) = times_append at a (r ++ b) in
      let three : times at (r ++ b) ≡ times at r + times at b = times_append at r b in
      let four : times at (xs ++ (a ++ (r ++ b))) ≡ times at xs + times at (a ++ (r ++ b)) = times_append at xs (a ++ (r ++ b)) in
      subst (λ (l : List ℕ). Has l at × (2 ≤ times at (xs ++ l))) (sym split) (omega (arith, here, two, three), omega (arith, before, here, one, two, three, four))

-- all runs were claimed
pub claimed_all : (s : Sizes) (runs : List Run) (i : ℕ) (c : Claimed) (xs : List ℕ) → length runs ≤ i → AreClaimed c (xs ++ blocks_of s (take i runs)) → AreClaimed c (xs ++ blocks_of s runs)
claimed_all s runs i c xs past a = subst (λ (l : List Run). AreClaimed c (xs ++ blocks_of s l)) (take_all i runs past) a

-- nothing was claimed yet
pub claimed_none : (s : Sizes) (runs : List Run) (c : Claimed) (xs : List ℕ) → AreClaimed c xs → AreClaimed c (xs ++ blocks_of s (take 0 runs))
claimed_none s runs c xs a = subst (AreClaimed c) (sym (append_nil xs)) a

-- a block that is there twice among the first of some blocks, or among those behind
pub twice_front : (xs a b : List ℕ) (block : ℕ) → IsTwiceAmong xs a block → IsTwiceAmong xs (a ++ b) block
twice_front xs a b block t =
    let one : times block (a ++ b) ≡ times block a + times block b = times_append block a b in
    let two : times block (xs ++ a) ≡ times block xs + times block a = times_append block xs a in
    let three : times block (xs ++ (a ++ b)) ≡ times block xs + times block (a ++ b) = times_append block xs (a ++ b) in
    let here : Has a block = t.0 in
    let more : 2 ≤ times block (xs ++ a) = t.1 in
    (omega (arith, here, one), omega (arith, more, one, two, three))

pub twice_behind : (xs a b : List ℕ) (block : ℕ) → IsTwiceAmong (xs ++ a) b block → IsTwiceAmong xs (a ++ b) block
twice_behind xs a b block t =
    let one : times block (a ++ b) ≡ times block a + times block b = times_append block a b in
    let here : Has b block = t.0 in
    (omega (arith, here, one), subst (λ (l : List ℕ). 2 ≤ times block l) (append_assoc xs a b) t.1)

-- a block that is there twice, and not among an inode's own alone, is among those before
pub taken_before : (xs own : List ℕ) (id block : ℕ) → IsTwiceAmong (xs ++ id ∷ []) own block → times block (id ∷ own) ≤ 1 → Has (id ∷ own) block × Has xs block
taken_before xs own id block t once =
    let one : times block ((xs ++ id ∷ []) ++ own) ≡ times block (xs ++ id ∷ []) + times block own = times_append block (xs ++ id ∷ []) own in
    let two : times block (xs ++ id ∷ []) ≡ times block xs + times block (id ∷ []) = times_append block xs (id ∷ []) in
    let three : times block (id ∷ own) ≡ times block (id ∷ []) + times block own = times_append block (id ∷ []) own in
    let here : Has own block = t.0 in
    let more : 2 ≤ times block ((xs ++ id ∷ []) ++ own) = t.1 in
    (omega (arith, here, three), omega (arith, more, once, one, two, three))

-- two lists claimed one after the other
pub claimed_both : (c : Claimed) (xs a b : List ℕ) → AreClaimed c ((xs ++ a) ++ b) → AreClaimed c (xs ++ (a ++ b))
claimed_both c xs a b h = subst (AreClaimed c) (append_assoc xs a b) h

-- where no block is said to be taken, what is said of one holds
pub untaken_taken : (xs own : List ℕ) (id : ℕ) (fault : VisitFault) → IsUntaken fault → IsTaken xs own id fault
untaken_taken xs own id (Wrong finding) u = tt
untaken_taken xs own id (Taken block owner) u = absurd u
untaken_taken xs own id (Block f) u = tt

-- a block that is claimed, and is to be claimed at the front of others
pub taken_own : (xs rest : List ℕ) (id block : ℕ) → Has xs block → Has (id ∷ []) block → IsTaken xs (id ∷ rest) id (Taken block id)
taken_own xs rest id block before here =
    let two : times block (id ∷ []) ≤ times block (id ∷ rest) = omega arith in
    (refl, omega (arith, here, two), before)

-- a block is among some where it is counted there, or not
module _ (s : Sizes) (runs : List Run) (i : ℕ) (d : Run) (inside : i < length runs) where
  pub counted_next : (block count one : ℕ) → count ≡ times block (blocks_of s (take i runs)) → times block (run_blocks s (get_or runs i d)) ≡ one → count + one ≡ times block (blocks_of s (take (i + 1) runs))
  counted_next block count one is here =
      let all : times block (blocks_of s (take i runs) ++ run_blocks s (get_or runs i d)) ≡ times block (blocks_of s (take i runs)) + times block (run_blocks s (get_or runs i d)) = times_append block (blocks_of s (take i runs)) (run_blocks s (get_or runs i d)) in
      let sum : count + one ≡ times block (blocks_of s (take i runs) ++ run_blocks s (get_or runs i d)) = omega (arith, is, here, all) in
      sum ∙ ap (times block) (sym (next s runs i d inside))

pub counted_all : (s : Sizes) (runs : List Run) (i block count : ℕ) → length runs ≤ i → count ≡ times block (blocks_of s (take i runs)) → count ≡ times block (blocks_of s runs)
counted_all s runs i block count past is = is ∙ ap (λ (l : List Run). times block (blocks_of s l)) (take_all i runs past)

-- a run has a block once or not
pub run_once : (first n k : ℕ) → first ≤ k → k < first + n → times k (counted_from first n) ≡ 1
run_once first n k low high = times_run k first n ∙ ap (λ (b : Bool). cond b 1 0) (let e : (nat_le first k && nat_lt k (first + n)) ≡ true = grind (arith, low, high) in e)

pub run_below : (first n k : ℕ) → k < first → times k (counted_from first n) ≡ 0
run_below first n k low = times_run k first n ∙ ap (λ (b : Bool). cond b 1 0) (let e : (nat_le first k && nat_lt k (first + n)) ≡ false = grind (arith, low) in e)

pub run_past : (first n k : ℕ) → first + n ≤ k → times k (counted_from first n) ≡ 0
run_past first n k past = times_run k first n ∙ ap (λ (b : Bool). cond b 1 0) (let e : (nat_le first k && nat_lt k (first + n)) ≡ false = grind (arith, past) in e)
