-- What is kept of nodes that were gone over, and the bytes of a block.
use Rattle.std.proofs.Common.{◌≡◌, ◌≤◌, ◌<◌, ◌+◌, ◌∙◌, inl, inr, ℕ, zero, suc, List, [], ◌∷◌, ◌++◌, length, take, get_or, Bool, true, false, cond, Option, Some, None, refl, sym, ap, subst, arith}
use Rattle.std.specs.Option.{is_some}
use Rattle.bfs_super.specs.Conditions.{IsValid, natural}
use Rattle.bfs_super.specs.Geometry.{IsBlockSize}
use Rattle.bfs_super.specs.declared.sup.Super.{Super}
use Rattle.bfs_stream.proofs.Sized.{valid_sizes}
use Rattle.bfs_sound.specs.Volumes.{Volume}
use Rattle.bfs_nodes_walk.specs.declared.facts.FileKeys.{FileKeys}
use Rattle.bfs_nodes_walk.specs.declared.facts.NodeFacts.{NodeFacts}
use Rattle.bfs_nodes_walk.specs.declared.lead.NodeLead.{NodeLead}
use Rattle.bfs_nodes_walk.specs.Facts.{IsFactOf, AreFactsOf}

-- the keys of a node that is no file, and of a file
pub no_keys : (f : Bool) (keys : FileKeys) → f ≡ false → None ≡ cond f (Some keys) None
no_keys f keys e = sym (ap (λ (t : Bool). cond t (Some keys) None) e)

pub has_keys : (f : Bool) (keys : FileKeys) → f ≡ true → Some keys ≡ cond f (Some keys) None
has_keys f keys e = sym (ap (λ (t : Bool). cond t (Some keys) None) e)

most_of : (n : ℕ) → IsBlockSize n → n ≤ 8192
most_of n (inl e) = omega (arith, e)
most_of n (inr (inl e)) = omega (arith, e)
most_of n (inr (inr (inl e))) = omega (arith, e)
most_of n (inr (inr (inr e))) = omega (arith, e)

pub most_bytes : (s : Super) → IsValid s → s.block_size ≤ 8192
most_bytes s valid = most_of s.block_size (valid_sizes s valid).block_size

pub none_of : (o : Option ℕ) → false ≡ is_some o → o ≡ None
none_of None e = refl
none_of (Some k) e = absurd (let bad : false ≡ true = e in cc)

-- there is one row at a place
pub same_item : (leads : List NodeLead) (at : ℕ) (l k : NodeLead) → at < length leads → l ≡ get_or leads at l → k ≡ get_or leads at k → l ≡ k
same_item [] at l k inside is other = absurd (omega (arith, inside))
same_item (x ∷ xs) zero l k inside is other = is ∙ sym other
same_item (x ∷ xs) (suc at) l k inside is other = same_item xs at l k (omega (arith, inside)) is other

module _ (v : Volume) where
  -- one more row and what is kept of its node, where rows follow behind
  facts_more : (leads more : List NodeLead) (facts : List NodeFacts) (at : ℕ) (l : NodeLead) (one : NodeFacts) → at < length leads → l ≡ get_or leads at l → AreFactsOf v (take at leads) facts → IsFactOf v (natural l.row.value) one
      → AreFactsOf v (take (suc at) (leads ++ more)) (facts ++ (one ∷ []))
  facts_more [] more facts at l one inside item are is = absurd (omega (arith, inside))
  facts_more (k ∷ ks) more [] zero l one inside item are is = (subst (λ (x : NodeLead). IsFactOf v (natural x.row.value) one) item is, tt)
  facts_more (k ∷ ks) more (f ∷ fs) zero l one inside item are is = absurd are
  facts_more (k ∷ ks) more [] (suc at) l one inside item are is = absurd are
  facts_more (k ∷ ks) more (f ∷ fs) (suc at) l one inside item are is = (are.0, facts_more ks more fs at l one (omega (arith, inside)) item are.1 is)

  pub facts_next : (leads more : List NodeLead) (facts : List NodeFacts) (at : ℕ) (l : NodeLead) (one : NodeFacts) → at < length leads → l ≡ get_or leads at l → AreFactsOf v (take at leads) facts → IsFactOf v (natural l.row.value) one
      → AreFactsOf v (take (at + 1) (leads ++ more)) (facts ++ (one ∷ []))
  facts_next leads more facts at l one inside item are is =
      let one_up : suc at ≡ at + 1 = omega arith in
      subst (λ (n : ℕ). AreFactsOf v (take n (leads ++ more)) (facts ++ (one ∷ []))) one_up (facts_more leads more facts at l one inside item are is)

  -- all rows were followed
  pub facts_all : (leads : List NodeLead) (facts : List NodeFacts) (at : ℕ) → length leads ≤ at → AreFactsOf v (take at leads) facts → AreFactsOf v leads facts
  facts_all [] facts zero past are = are
  facts_all [] facts (suc at) past are = are
  facts_all (k ∷ ks) facts zero past are = absurd (omega (arith, past))
  facts_all (k ∷ ks) [] (suc at) past are = absurd are
  facts_all (k ∷ ks) (f ∷ fs) (suc at) past are = (are.0, facts_all ks fs at (omega (arith, past)) are.1)

  -- there are as many
  pub facts_many : (leads : List NodeLead) (facts : List NodeFacts) → AreFactsOf v leads facts → length facts ≡ length leads
  facts_many [] [] are = refl
  facts_many [] (f ∷ fs) are = absurd are
  facts_many (l ∷ ls) [] are = absurd are
  facts_many (l ∷ ls) (f ∷ fs) are = let h = facts_many ls fs are.1 in omega (arith, h)

  -- what is kept of the node that the row at a place names
  pub fact_at : (leads : List NodeLead) (facts : List NodeFacts) (i : ℕ) (l : NodeLead) (one : NodeFacts) → i < length leads → l ≡ get_or leads i l → one ≡ get_or facts i one → AreFactsOf v leads facts → IsFactOf v (natural l.row.value) one
  fact_at [] facts i l one inside item kept are = absurd (omega (arith, inside))
  fact_at (k ∷ ks) [] i l one inside item kept are = absurd are
  fact_at (k ∷ ks) (f ∷ fs) zero l one inside item kept are = subst (λ (x : NodeFacts). IsFactOf v (natural l.row.value) x) (sym kept) (subst (λ (x : NodeLead). IsFactOf v (natural x.row.value) f) (sym item) are.0)
  fact_at (k ∷ ks) (f ∷ fs) (suc i) l one inside item kept are = fact_at ks fs i l one (omega (arith, inside)) item kept are.1

  -- one more was followed, whose rows stand behind the others now
  pub facts_step : (leads after : List NodeLead) (facts kept : List NodeFacts) (at : ℕ) (one : NodeFacts) → at < length leads → (more : List NodeLead) × (after ≡ leads ++ more) → ((l : NodeLead) → l ≡ get_or leads at l → IsFactOf v (natural l.row.value) one)
      → kept ≡ facts ++ (one ∷ []) → AreFactsOf v (take at leads) facts → AreFactsOf v (take (at + 1) after) kept
  facts_step leads after facts kept at one inside (more, behind) is now are =
      let l : NodeLead = item_at leads at inside in
      let item : l ≡ get_or leads at l = item_is leads at inside in
      subst (λ (x : List NodeLead). AreFactsOf v (take (at + 1) x) kept) (sym behind)
      (subst (AreFactsOf v (take (at + 1) (leads ++ more))) (sym now) (facts_next leads more facts at l one inside item are (is l item)))
    where
      item_at : (ls : List NodeLead) (i : ℕ) → i < length ls → NodeLead
      item_at [] i low = absurd (omega (arith, low))
      item_at (k ∷ ks) zero low = k
      item_at (k ∷ ks) (suc i) low = item_at ks i (omega (arith, low))

      item_is : (ls : List NodeLead) (i : ℕ) (low : i < length ls) → item_at ls i low ≡ get_or ls i (item_at ls i low)
      item_is [] i low = absurd (omega (arith, low))
      item_is (k ∷ ks) zero low = refl
      item_is (k ∷ ks) (suc i) low = item_is ks i (omega (arith, low))

pub many_next : (facts kept : List NodeFacts) (one : NodeFacts) (at : ℕ) → length facts ≡ at → kept ≡ facts ++ (one ∷ []) → length kept ≡ at + 1
many_next facts kept one at many now = ap (λ (x : List NodeFacts). length x) now ∙ one_more facts at many
  where
    one_more : (xs : List NodeFacts) (n : ℕ) → length xs ≡ n → length (xs ++ (one ∷ [])) ≡ n + 1
    one_more [] zero e = refl
    one_more [] (suc n) e = absurd (omega (arith, e))
    one_more (x ∷ xs) zero e = absurd (omega (arith, e))
    one_more (x ∷ xs) (suc n) e = let h = one_more xs n (omega (arith, e)) in omega (arith, h)

pub within_next : (leads after : List NodeLead) (at : ℕ) → at < length leads → (more : List NodeLead) × (after ≡ leads ++ more) → at + 1 ≤ length after
within_next leads after at inside (more, behind) = subst (λ (x : List NodeLead). at + 1 ≤ length x) (sym behind) (longer leads at inside)
  where
    longer : (ls : List NodeLead) (n : ℕ) → n < length ls → n + 1 ≤ length (ls ++ more)
    longer [] n low = absurd (omega (arith, low))
    longer (k ∷ ks) zero low = omega arith
    longer (k ∷ ks) (suc n) low = let h = longer ks n (omega (arith, low)) in omega (arith, h)
