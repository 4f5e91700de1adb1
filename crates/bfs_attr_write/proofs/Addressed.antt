-- An inode that bears attributes, whose block was written: the exchange of its blocks, and its fields.
use Rattle.std.proofs.Common.{◌≡◌, ◌≢◌, ◌⊎◌, inl, inr, ◌<◌, ◌+◌, ◌∙◌, ℕ, List, ◌++◌, Bool, true, false, Option, Some, refl, sym, ap, subst, arith}
use Rattle.std.specs.Prelude.{◌==◌, ◌&&◌}
use Rattle.bfs_base.specs.Lists.{times, Has}
use Rattle.bfs_bitmap.specs.Fills.{IsBitmapBlock}
use Rattle.bfs_bitmap.specs.Runs.{Room, Fits, per_block, is_free, marked}
use Rattle.bfs_bytes.specs.declared.Run.{Run}
use Rattle.bfs_inode.specs.Inode.{Inode, inode_at}
use Rattle.bfs_txn.specs.Told.{with_block}
use Rattle.bfs_stream.specs.Grown.{IsOutside, AreWritten}
use Rattle.bfs_stream.specs.Told.{contents}
use Rattle.bfs_stream.proofs.Doubles.{times-append}
use Rattle.bfs_stream.proofs.Finish.{free_same, marked_same, fits_same, counted_same}
use Rattle.bfs_stream.proofs.Taking.{and_false}
use Rattle.bfs_stream.proofs.Writes.{wrote_more}
use Rattle.bfs_tree.specs.Trees.{Attributes}
use Rattle.bfs_sound.specs.Attributes.{is_nothing, is_zero}
use Rattle.bfs_make.proofs.Written.{block_other, bits_stay}
use Rattle.bfs_attr.specs.Bearers.{Bearer, volume_at, attributes_at}
use Rattle.bfs_attr.specs.Changed.{attribute_blocks, Holds, AttributesNow}
use Rattle.bfs_attr.proofs.Stays.{none_taken, none_new}
use Rattle.bfs_attr_write.specs.Exchanged.{Exchanged}

-- one of some blocks was written, and none came or went
module _ (v : Room) (m : ℕ → Option (List ℕ)) (id : ℕ) (block : List ℕ) (xs : List ℕ) (out : IsOutside v id) (has_id : Has xs id) (taken : (k : ℕ) → Has xs k → is_free v m k ≡ false) (fits : Fits v m) where
  abbrev map : ℕ → Option (List ℕ)
  map = with_block id block m

  other : (k : ℕ) → times k (xs ++ xs) ≡ 0 → k ≢ id
  other k none e =
      let p = times-append k xs xs in
      let some : 0 < times k xs = subst (Has xs) (sym e) has_id in
      omega (arith, p, some, none)

  pub block_exchange : Exchanged v v m map xs xs
  block_exchange = record {
    rest = refl;
    fits = fits_same v m map (bits_stay v m id block out) fits;
    were_free = λ k has none. let some : 0 < times k xs = has in absurd (omega (arith, some, none));
    free = λ k. free_same v m map (bits_stay v m id block out) k ∙ none_taken (is_free v m k) (times k xs) (taken k);
    marks = λ k low. marked_same v m map (bits_stay v m id block out) k low ∙ none_new (times k xs == 0) (marked (per_block v) m k);
    counted = λ used count. counted_same v m map (λ k low. marked_same v m map (bits_stay v m id block out) k low) count;
    others = λ k far none. block_other m id block k (other k none);
    first = λ none. block_other m id block 0 (other 0 none);
  }

-- attributes whose blocks were exchanged, and are held since
unfoldable pub now_exchanged : (b : Bearer) (v now : Room) (m map : ℕ → Option (List ℕ)) (attributes : Attributes) (told : Option (ℕ → Option (List ℕ))) (old new : ℕ → Bool) → told ≡ Some map
    → Exchanged v now m map (attribute_blocks b.geometry m b.id) (attribute_blocks b.geometry map b.id) → Holds b now map → attributes_at (volume_at b.geometry map) b.id ≡ attributes
    → inode_at (contents map b.id) ≡ record (inode_at (contents m b.id)) { attributes = (inode_at (contents map b.id)).attributes; small_data = (inode_at (contents map b.id)).small_data }
    → AreWritten v old new (attribute_blocks b.geometry m b.id ++ attribute_blocks b.geometry map b.id)
    → ((k : ℕ) → Has (attribute_blocks b.geometry map b.id) k → times k (attribute_blocks b.geometry m b.id) ≡ 0 → new k ≡ true) → AttributesNow b v now m attributes told old new
now_exchanged b v now m map attributes told old new is e holds are kept written entered = record {
  map = map;
  is = is;
  holds = holds;
  attributes_are = are;
  were_free = e.were_free;
  free = e.free;
  marks = e.marks;
  others = e.others;
  first = e.first;
  kept = kept;
  written = written;
  counted = e.counted;
  entered = entered;
}

-- of an inode the address of the attribute directory alone has changed
pub kept_of : (x y : Inode) (a : Run) → x ≡ record y { attributes = a } → x ≡ record y { attributes = x.attributes; small_data = x.small_data }
kept_of x y a e = e ∙ sym (ap (λ (z : Inode). let r : Inode = record y { attributes = z.attributes; small_data = z.small_data } in r) e)

-- a run of one block is an address
pub not_zero : (r : Run) → r.len ≡ 1 → is_zero r ≡ false
not_zero r one =
    ap (λ (t : Bool). is_nothing r.group && ((r.start == 0) && t)) (ap (λ (k : ℕ). k == 0) one)
    ∙ ap (λ (t : Bool). is_nothing r.group && t) (and_false (r.start == 0))
    ∙ and_false (is_nothing r.group)

-- blocks were written, and then one more
pub wrote_then : (v : Room) (old half new : ℕ → Bool) (id : ℕ) (xs ys : List ℕ) → AreWritten v old half xs → ((k : ℕ) → new k ≡ true → (half k ≡ true) ⊎ (k ≡ id)) → ((k : ℕ) → Has xs k → Has ys k) → Has ys id → AreWritten v old new ys
wrote_then v old half new id xs ys before set more has_id k e = by_set (set k e)
  where
    by_set : (half k ≡ true) ⊎ (k ≡ id) → (old k ≡ true) ⊎ (IsBitmapBlock v k ⊎ Has ys k)
    by_set (inl had) = wrote_more (IsBitmapBlock v) old half xs ys more before k had
    by_set (inr is) = inr (inr (subst (Has ys) (sym is) has_id))
