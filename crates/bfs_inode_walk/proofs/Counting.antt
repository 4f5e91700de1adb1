-- How often a block is among those of an inode, by its own number, its arrays and its runs.
use Rattle.std.proofs.Common.{◌≡◌, ◌≢◌, ◌≤◌, ◌+◌, ◌∙◌, ℕ, List, ◌∷◌, ◌++◌, [], Bool, true, false, cond, min, ◌==◌, nat_lt, inr, refl, sym, ap, subst, arith}
use Rattle.bfs_base.specs.Lists.{times, Has}
use Rattle.bfs_sound.specs.Volumes.{Volume}
use Rattle.bfs_sound.specs.Inodes.{inode_blocks}
use Rattle.bfs_finding.specs.Ways.{Way, to_root, to_child, to_directory, to_attribute, to_indices, to_index, Arrives, IsReached, root_reached, row_reached, IsStreamed, by_node, by_directory, by_attribute, by_indices, by_index, blocks_by, lacks_stream, IsShared}
use Rattle.bfs_claims.proofs.Claiming.{times_append}
use Rattle.bfs_inode_walk.specs.Visited.{IsHad}

module _ (id block : ℕ) (a r : List ℕ) where
  pub counted : (o x y : ℕ) → o ≡ cond (id == block) 1 0 → x ≡ times block a → y ≡ times block r → times block (id ∷ (a ++ r)) ≡ o + (x + y)
  counted o x y is-own is-a is-r = let all : times block (a ++ r) ≡ times block a + times block r = times_append block a r in omega (arith, is-own, is-a, is-r, all)

  pub counted_twice : (o x y p q : ℕ) → o ≡ cond (id == block) 1 0 → x ≡ times block a → y ≡ times block r → p ≡ min x 2 → q ≡ min y 2 → nat_lt 1 (o + p + q) ≡ true → 2 ≤ times block (id ∷ (a ++ r))
  counted_twice o x y p q is-own is-a is-r is-p is-q more = let all = counted o x y is-own is-a is-r in grind (arith, all, is-p, is-q, more)

  pub counted_once : (o x y p q : ℕ) → o ≡ cond (id == block) 1 0 → x ≡ times block a → y ≡ times block r → p ≡ min x 2 → q ≡ min y 2 → nat_lt 1 (o + p + q) ≡ false → times block (id ∷ (a ++ r)) ≤ 1
  counted_once o x y p q is-own is-a is-r is-p is-q few = let all = counted o x y is-own is-a is-r in grind (arith, all, is-p, is-q, few)

  by_test : (l : List ℕ) (t : Bool) → (t ≡ true → Has l block) → (t ≡ false → times block l ≡ 0) → IsHad l block t
  by_test l true has lacks = has refl
  by_test l false has lacks = lacks refl

  pub counted_had : (x y p q : ℕ) → block ≢ id → x ≡ times block a → y ≡ times block r → p ≡ min x 1 → q ≡ min y 1 → IsHad (id ∷ (a ++ r)) block (nat_lt 0 (p + q))
  counted_had x y p q other is-a is-r is-p is-q =
      let none : 0 ≡ cond (id == block) 1 0 = grind (arith, other) in
      let all = counted 0 x y none is-a is-r in
      by_test (id ∷ (a ++ r)) (nat_lt 0 (p + q)) (λ more. grind (arith, all, is-p, is-q, more)) (λ few. grind (arith, all, is-p, is-q, few))

-- a way leads to an inode that has a stream, and by it the inode has its blocks
pub streamed_way : (v : Volume) (b : ℕ) → IsStreamed v b → (way : Way) × Arrives v way b × (blocks_by v way b ≡ inode_blocks v b)
streamed_way v _ (by_node b r lacks) = by_reached b r lacks
  where
    whole : (t : Bool) (n : ℕ) → t ≡ false → cond t (n ∷ []) (inode_blocks v n) ≡ inode_blocks v n
    whole t n e = ap (λ (u : Bool). cond u (n ∷ []) (inode_blocks v n)) e

    by_reached : (n : ℕ) → IsReached v n → lacks_stream v n ≡ false → (way : Way) × Arrives v way n × (blocks_by v way n ≡ inode_blocks v n)
    by_reached _ root_reached e = (to_root, refl, whole (lacks_stream v v.geometry.root) v.geometry.root e)
    by_reached _ (row_reached d name n r is row) e = (to_child d name, (r, is, row), whole (lacks_stream v n) n e)
streamed_way v _ (by_directory id b arrives) = (to_directory id, arrives, refl)
streamed_way v _ (by_attribute id name b arrives) = (to_attribute id name, arrives, refl)
streamed_way v _ (by_indices b arrives) = (to_indices, arrives, refl)
streamed_way v _ (by_index name b arrives) = (to_index name, arrives, refl)

-- a block that an inode has twice is shared by it with itself
pub shared_own : (v : Volume) (b block : ℕ) (own : List ℕ) → IsStreamed v b → inode_blocks v b ≡ own → 2 ≤ times block own → IsShared v block b b
shared_own v b block own streamed are twice =
    let w = streamed_way v b streamed in
    record { one = w.0; other = w.0; there = w.1; here = w.1; twice = inr (refl, subst (λ (l : List ℕ). 2 ≤ times block l) (sym (w.2 ∙ are)) twice) }
