-- A stream that was not there, and then moved on.
use Rattle.std.proofs.Common.{◌≡◌, ◌<◌, ◌∙◌, ℕ, zero, suc, List, [], ◌∷◌, Bool, true, false, cond, not, ◌&&◌, Option, refl, sym, ap, ap₂, subst, arith}
use Rattle.std.specs.Prelude.{◌==◌}
use Rattle.bfs_base.specs.Lists.{times, Has}
use Rattle.bfs_bitmap.specs.Fills.{IsBitmapBlock}
use Rattle.bfs_bitmap.specs.Runs.{Room, is_free, per_block, marked}
use Rattle.bfs_inode.specs.Inode.{Inode, inode_at}
use Rattle.bfs_stream.specs.Sizes.{Origin, Sizes, first_block}
use Rattle.bfs_stream.specs.Places.{arrays_at, frame_at, places_at, whole_at}
use Rattle.bfs_stream.specs.Told.{contents}
use Rattle.bfs_stream.specs.Grown.{IsOutside, AreWritten}
use Rattle.bfs_stream.proofs.Frames.{has_first, has_left}
use Rattle.bfs_stream.proofs.Taking.{some_test}
use Rattle.bfs_stream.proofs.Writes.{wrote_more, wrote_twice}
use Rattle.bfs_stream_pages.specs.Moves.{Moved}
use Rattle.bfs_stream_pages.specs.MovesLaws.{whole_moves}
use Rattle.bfs_maps.specs.Mapped.{StreamNow}
use Rattle.bfs_make.specs.Made.{IsNewStream, HasBits, HasMade, HasStored}
use Rattle.bfs_make.specs.declared.making.NewInode.{NewInode}
use Rattle.bfs_make.proofs.News.{is_only, free_not_first, places_made}

both_free : (b : Bool) (x y : ℕ) → (0 < x → 0 < y) → ((b && (x == 0)) && (y == 0)) ≡ (b && (y == 0))
both_free false x y more = refl
both_free true zero y more = refl
both_free true (suc x) zero more = absurd (omega (arith, more (omega arith)))
both_free true (suc x) (suc y) more =
    let a = some_test (suc x) (omega arith) in
    let b = some_test (suc y) (omega arith) in
    ap₂ (λ (p q : Bool). (true && p) && q) a b ∙ ap (λ (q : Bool). true && q) (sym b)

left_true : (b c : Bool) → (b && c) ≡ true → b ≡ true
left_true true c e = refl
left_true false c e = let bad : false ≡ true = e in cc

still_some : (x y : ℕ) → (0 < x → 0 < y) → (x == 0) ≡ false → (y == 0) ≡ false
still_some zero y more e = let bad : true ≡ false = e in cc
still_some (suc x) y more e = some_test y (more (omega arith))

marks_twice : (p q : Bool) (a b c : ℕ) → (p ≡ false → q ≡ false) → b ≡ cond p a 1 → c ≡ cond (p && not q) 1 b → c ≡ cond q a 1
marks_twice true true a b c still one two = two ∙ one
marks_twice true false a b c still one two = two
marks_twice false true a b c still one two = let bad : true ≡ false = still refl in cc
marks_twice false false a b c still one two = two ∙ one

module _ (o : Origin) (v now later : Room) (m mid map : ℕ → Option (List ℕ)) (has : HasBits v m) (one : IsNewStream o v now m mid) (two : Moved o now later mid map) where
  abbrev before : List ℕ
  before = whole_at o.sizes (contents mid) o.id

  abbrev after : List ℕ
  after = whole_at o.sizes (contents map) o.id

  kept : (k : ℕ) → 0 < times k before → 0 < times k after
  kept k some = whole_moves o now later mid map two k some

  none_before : (k : ℕ) → times k after ≡ 0 → times k before ≡ 0
  none_before k none = by_count (times k before) refl
    where
      by_count : (n : ℕ) → times k before ≡ n → times k before ≡ 0
      by_count zero e = e
      by_count (suc n) e = let there : 0 < times k after = kept k (let h : 0 < times k before = omega (arith, e) in h) in absurd (omega (arith, there, none))

  were_free : (k : ℕ) → Has after k → is_free v m k ≡ true
  were_free k is = by_count (times k before) refl
    where
      by_count : (n : ℕ) → times k before ≡ n → is_free v m k ≡ true
      by_count zero e = left_true (is_free v m k) (times k before == 0) (sym (one.free k) ∙ two.were_free k is e)
      by_count (suc n) e = one.were_free k (let h : 0 < times k before = omega (arith, e) in h)

  not_first : times 0 after ≡ 0
  not_first = by_count (times 0 after) refl
    where
      by_count : (n : ℕ) → times 0 after ≡ n → times 0 after ≡ 0
      by_count zero e = e
      by_count (suc n) e = absurd (free_not_first v m 0 has (were_free 0 (let h : 0 < times 0 after = omega (arith, e) in h)) refl)

  marks_now : (k : ℕ) → k < v.blocks → marked (per_block v) map k ≡ cond ((times k before == 0) && not (times k after == 0)) 1 (marked (per_block v) mid k)
  marks_now k low =
      subst (λ (x : Room). marked (per_block x) map k ≡ cond ((times k before == 0) && not (times k after == 0)) 1 (marked (per_block x) mid k)) one.rest
      (two.marks k (subst (λ (x : Room). k < x.blocks) (sym one.rest) low))

  pub new_moved : IsNewStream o v later m map
  new_moved = record {
    rest = two.rest ∙ ap (λ (x : Room). record x { tally = later.tally }) one.rest;
    owns = two.owns;
    were_free = were_free;
    free = λ k. two.free k ∙ ap (λ (b : Bool). b && (times k after == 0)) (one.free k) ∙ both_free (is_free v m k) (times k before) (times k after) (kept k);
    marks = λ k low. marks_twice (times k before == 0) (times k after == 0) (marked (per_block v) m k) (marked (per_block v) mid k) (marked (per_block v) map k) (still_some (times k before) (times k after) (kept k)) (one.marks k low) (marks_now k low);
    counted = λ count. two.counted (one.counted count);
    others = λ k out none. two.others k (subst (λ (x : Room). IsOutside x k) (sym one.rest) out) none ∙ one.others k out (none_before k none);
    first = two.first not_first ∙ one.first;
  }

-- an inode was made, and its stream was given these bytes
pub has_stored_inode : (s : Sizes) (v now later : Room) (m : ℕ → Option (List ℕ)) (n : NewInode) (bytes : List ℕ) (told told2 : Option (ℕ → Option (List ℕ))) (old mid new : ℕ → Bool) → HasBits v m → (made : HasMade s v now m n told old mid)
    → StreamNow (record { id = first_block s n.address; sizes = s }) now later made.map (λ all. all ≡ bytes) told2 mid new → HasStored s v later m n bytes told2 old new
has_stored_inode s v now later m n bytes told told2 old mid new has made stream =
    let id : ℕ = first_block s n.address in
    let o : Origin = record { id = first_block s n.address; sizes = s } in record {
      map = stream.map;
      is = stream.is;
      stream = new_moved o v now later m made.map stream.map has made.stream stream.moved;
      held = stream.held;
      content = stream.bytes;
      inode = stream.moved.kept.0 ∙ ap (λ (x : Inode). let r : Inode = record x { stream_bytes = (inode_at (contents stream.map (first_block s n.address))).stream_bytes } in r) made.inode.fields;
      written = wrote_twice (IsBitmapBlock v) old mid new (whole_at s (contents stream.map) (first_block s n.address))
          (wrote_more (IsBitmapBlock v) old mid (first_block s n.address ∷ []) (whole_at s (contents stream.map) (first_block s n.address))
          (λ k is. subst (λ (j : ℕ). Has (whole_at s (contents stream.map) (first_block s n.address)) j) (sym (is_only k (first_block s n.address) is))
          (has_left (frame_at s (contents stream.map) (first_block s n.address)) (places_at s (contents stream.map) (first_block s n.address)) (first_block s n.address) (has_first (first_block s n.address) (arrays_at s (contents stream.map) (first_block s n.address)))))
          made.written)
          (subst (λ (x : Room). AreWritten x mid new (whole_at s (contents stream.map) (first_block s n.address))) made.stream.rest stream.written);
      entered = λ k is. by_before k is (times k (whole_at s (contents made.map) (first_block s n.address))) refl;
    }
  where
    by_before : (k : ℕ) → Has (whole_at s (contents stream.map) (first_block s n.address)) k → (j : ℕ) → times k (whole_at s (contents made.map) (first_block s n.address)) ≡ j → new k ≡ true
    by_before k is zero e = stream.fresh k is e
    by_before k is (suc j) e = stream.stays k (made.entered k (let p : 0 < times k (whole_at s (contents made.map) (first_block s n.address)) = omega (arith, e) in p))

-- a stream that was made has no places, and no bytes
pub made_empty : (s : Sizes) (v now : Room) (m : ℕ → Option (List ℕ)) (n : NewInode) (told : Option (ℕ → Option (List ℕ))) (old mid : ℕ → Bool) (made : HasMade s v now m n told old mid) → places_at s (contents made.map) (first_block s n.address) ≡ []
made_empty s v now m n told old mid made = places_made s (contents made.map) (first_block s n.address) made.inode.stream
