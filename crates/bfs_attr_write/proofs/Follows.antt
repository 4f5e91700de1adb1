-- Two changes of attributes, one after the other.
use Rattle.std.proofs.Common.{◌≡◌, ◌⊎◌, inl, inr, ◌<◌, ◌+◌, ◌∙◌, ℕ, zero, suc, List, ◌++◌, Bool, true, Option, refl, ap, subst, arith}
use Rattle.bfs_base.specs.Lists.{times, Has}
use Rattle.bfs_bitmap.specs.Fills.{IsBitmapBlock}
use Rattle.bfs_bitmap.specs.Runs.{Room}
use Rattle.bfs_inode.specs.Inode.{Inode, inode_at}
use Rattle.bfs_txn.specs.Told.{StaysChanged}
use Rattle.bfs_stream.specs.Grown.{AreWritten}
use Rattle.bfs_stream.specs.Told.{contents}
use Rattle.bfs_stream.proofs.Doubles.{times-append}
use Rattle.bfs_stream.proofs.Frames.{has_left, has_right}
use Rattle.bfs_stream.proofs.Writes.{wrote_more, wrote_twice}
use Rattle.bfs_tree.specs.Trees.{Attributes}
use Rattle.bfs_attr.specs.Bearers.{Bearer}
use Rattle.bfs_attr.specs.Changed.{attribute_blocks, Holds, AttributesNow}
use Rattle.bfs_attr_write.specs.Exchanged.{Exchanged}
use Rattle.bfs_attr_write.proofs.Exchanges.{exchanged_twice}
use Rattle.bfs_attr_write.proofs.Addressed.{now_exchanged}

-- the exchange of blocks that a change of attributes is
pub exchange_of : (b : Bearer) (v now : Room) (m : ℕ → Option (List ℕ)) (attributes : Attributes) (told : Option (ℕ → Option (List ℕ))) (old new : ℕ → Bool) → now ≡ record v { given = now.given; tally = now.tally } → (n : AttributesNow b v now m attributes told old new)
    → Exchanged v now m n.map (attribute_blocks b.geometry m b.id) (attribute_blocks b.geometry n.map b.id)
exchange_of b v now m attributes told old new rest n = record {
  rest = rest;
  fits = n.holds.fits;
  were_free = n.were_free;
  free = n.free;
  marks = n.marks;
  counted = n.counted;
  others = n.others;
  first = n.first;
}

module _ (b : Bearer) (v mid now : Room) (m : ℕ → Option (List ℕ)) (first second : Attributes) (told later : Option (ℕ → Option (List ℕ))) (old half new : ℕ → Bool) (to_mid : mid ≡ record v { given = mid.given; tally = mid.tally })
    (to_now : now ≡ record mid { given = now.given; tally = now.tally }) (holds : Holds b v m) (one : AttributesNow b v mid m first told old half) (two : AttributesNow b mid now one.map second later half new) (stays : StaysChanged half new)
    (through : (k : ℕ) → Has (attribute_blocks b.geometry one.map b.id) k → Has (attribute_blocks b.geometry m b.id) k ⊎ Has (attribute_blocks b.geometry two.map b.id) k) where
  abbrev before : List ℕ
  before = attribute_blocks b.geometry m b.id

  abbrev middle : List ℕ
  middle = attribute_blocks b.geometry one.map b.id

  abbrev after : List ℕ
  after = attribute_blocks b.geometry two.map b.id

  exchanged : Exchanged v now m two.map before after
  exchanged = exchanged_twice v mid now m one.map two.map before middle after
      (exchange_of b v mid m first told old half to_mid one) (exchange_of b mid now one.map second later half new to_now two) holds.taken through

  kept : inode_at (contents two.map b.id) ≡ record (inode_at (contents m b.id)) { attributes = (inode_at (contents two.map b.id)).attributes; small_data = (inode_at (contents two.map b.id)).small_data }
  kept = two.kept ∙ ap (λ (i : Inode). let r : Inode = record i { attributes = (inode_at (contents two.map b.id)).attributes; small_data = (inode_at (contents two.map b.id)).small_data } in r) one.kept

  in_middle : (k : ℕ) → Has middle k → Has (before ++ after) k
  in_middle k has = by_side (through k has)
    where
      by_side : Has before k ⊎ Has after k → Has (before ++ after) k
      by_side (inl is) = has_left before after k is
      by_side (inr is) = has_right before after k is

  in_one : (k : ℕ) → Has (before ++ middle) k → Has (before ++ after) k
  in_one k has = by_count (times k middle) refl
    where
      by_count : (n : ℕ) → times k middle ≡ n → Has (before ++ after) k
      by_count zero z = has_left before after k (let p = times-append k before middle in let h : 0 < times k (before ++ middle) = has in let r : 0 < times k before = omega (arith, p, h, z) in r)
      by_count (suc n) z = in_middle k (let r : 0 < times k middle = omega (arith, z) in r)

  in_two : (k : ℕ) → Has (middle ++ after) k → Has (before ++ after) k
  in_two k has = by_count (times k middle) refl
    where
      by_count : (n : ℕ) → times k middle ≡ n → Has (before ++ after) k
      by_count zero z = has_right before after k (let p = times-append k middle after in let h : 0 < times k (middle ++ after) = has in let r : 0 < times k after = omega (arith, p, h, z) in r)
      by_count (suc n) z = in_middle k (let r : 0 < times k middle = omega (arith, z) in r)

  wrote : AreWritten v old new (before ++ after)
  wrote = wrote_twice (IsBitmapBlock v) old half new (before ++ after) (wrote_more (IsBitmapBlock v) old half (before ++ middle) (before ++ after) in_one one.written)
      (wrote_more (IsBitmapBlock v) half new (middle ++ after) (before ++ after) in_two (subst (λ (x : Room). AreWritten x half new (middle ++ after)) to_mid two.written))

  entered : (k : ℕ) → Has after k → times k before ≡ 0 → new k ≡ true
  entered k has none = by_count (times k middle) refl
    where
      by_count : (n : ℕ) → times k middle ≡ n → new k ≡ true
      by_count zero z = two.entered k has z
      by_count (suc n) z = stays k (one.entered k (let r : 0 < times k middle = omega (arith, z) in r) none)

  pub follows : AttributesNow b v now m second later old new
  follows = now_exchanged b v now m two.map second later old new two.is exchanged two.holds two.attributes_are kept wrote entered
