-- What is known of the pages behind a call.
use Rattle.std.proofs.Common.{◌≡◌, ◌≤◌, ◌<◌, ◌+◌, ◌-◌, ◌*◌, ◌%◌, ◌∙◌, ◌⊎◌, ◌&&◌, inl, inr, ℕ, List, ◌++◌, length, take, drop, Bool, true, false, is_some, Option, Some, None, IfSome, refl, sym, ap, subst, arith}
use Rattle.std.specs.Prelude.{IsSome, slice_get, Result, Ok, Err, OnOk, OnErr}
use Rattle.std.specs.Option.{option_map}
use Rattle.std.proofs.lemmas.List.{take-append-le, take-take, drop-take}
use Rattle.std.proofs.Math.Nat.{mul-le-mul_left}
use Rattle.std.proofs.Props.{props}
use Rattle.std.proofs.Math.Logic.{∥∥₁_elim, ∥∥₁_map}
use Rattle.bfs_bitmap.specs.Runs.{Room}
use Rattle.bfs_bitmap.specs.Fills.{IsBitmapBlock}
use Rattle.bfs_txn.specs.Faults.{Counts, AreLater}
use Rattle.bfs_txn.specs.Pages.{IsPageAt, page_at, with_page}
use Rattle.bfs_txn.specs.Told.{AreSized}
use Rattle.bfs_txn.specs.declared.fault.BlockFault.TheVariants.{NoMemory}
use Rattle.bfs_stream.specs.Sizes.{Origin}
use Rattle.bfs_stream.specs.Places.{places_at, whole_at}
use Rattle.bfs_stream.specs.Told.{contents}
use Rattle.bfs_stream.specs.Grown.{AreWritten}
use Rattle.bfs_stream.specs.Faults.{IsGrowFault, IsGrowCause}
use Rattle.bfs_stream.specs.declared.fault.GrowFault.{GrowFault}
use Rattle.bfs_stream.specs.declared.fault.GrowFault.TheVariants as grow
use Rattle.bfs_stream.proofs.Writes.{wrote_none, wrote_more, wrote_twice}
use Rattle.bfs_stream_pages.specs.Held.{Held, IsReadable, Tells, known, stream_of}
use Rattle.bfs_stream_pages.specs.Moves.{ChangesFresh, Moved}
use Rattle.bfs_stream_pages.specs.Causes.{HasFailed, HasCause, IsPageCause, IsOfBlock}
use Rattle.bfs_stream_pages.specs.Goes.{HasMoved, HasFault, GoesOn}
use Rattle.bfs_stream_pages.specs.Steps.{Comes, IsUndamaged, HasRoom, HasWritten, HasSize, HasAdded, all_of}
use Rattle.bfs_stream_pages.specs.BytesLaws.{take_write, take_added, part_of}
use Rattle.bfs_stream_pages.specs.MovesLaws.{fresh_none, fresh_twice, moved_none, moved_twice, stays_same, stays_twice, whole_moves}
use Rattle.bfs_stream_pages.specs.GoesLaws.{goes_same, reads_stream, stream_is, long_fits, all_long, are_blocks}

-- what is told, of what is known
told_of : (failed : Option GrowFault) (start told : Option (ℕ → Option (List ℕ))) (m : ℕ → Option (List ℕ)) → known failed start told ≡ Some m → told ≡ Some m
told_of (Some fault) start told m e = cc
told_of None None told m e = cc
told_of None (Some n) told m e = e

-- no block is damaged, which is a reason for a fault of a block
pub undamaged_is : (o : Origin) (v : Room) (m : ℕ → Option (List ℕ)) (fault : GrowFault) → IsUndamaged fault → IsGrowFault o v m 1 fault
undamaged_is o v m (grow.NoRun wanted free) none = absurd none
undamaged_is o v m (grow.Full room) none = absurd none
undamaged_is o v m (grow.Block fault) none = none

-- two steps
pub comes_twice : (o : Origin) (v now later : Room) (more most : ℕ) (m : ℕ → Option (List ℕ)) (told1 told2 : Option (ℕ → Option (List ℕ))) (c0 c1 c2 : ℕ → Bool) (one : Comes o v now more m told1 c0 c1) → Comes o now later most one.map told2 c1 c2 → Comes o v later most m told2 c0 c2
comes_twice o v now later more most m told1 told2 c0 c1 c2 one two = record {
  map = two.map;
  is = two.is;
  held = two.held;
  moved = moved_twice o v now later m one.map two.map one.moved two.moved;
  written = wrote_twice (IsBitmapBlock v) c0 c1 c2 (whole_at o.sizes (contents two.map) o.id)
      (wrote_more (IsBitmapBlock v) c0 c1 (whole_at o.sizes (contents one.map) o.id) (whole_at o.sizes (contents two.map) o.id) (λ k has. whole_moves o now later one.map two.map two.moved k has) one.written)
      (subst (λ (x : Room). AreWritten x c1 c2 (whole_at o.sizes (contents two.map) o.id)) one.moved.rest two.written);
  stays = stays_twice c0 c1 c2 one.stays two.stays;
  fresh = fresh_twice o m one.map two.map c1 c2 one.fresh two.fresh two.stays;
}

-- a step behind which a call left what was told
pub comes_kept : (o : Origin) (v now : Room) (more : ℕ) (m : ℕ → Option (List ℕ)) (told1 told2 : Option (ℕ → Option (List ℕ))) (c0 c1 c2 : ℕ → Bool) → Comes o v now more m told1 c0 c1 → told2 ≡ told1 → c2 ≡ c1 → Comes o v now more m told2 c0 c2
comes_kept o v now more m told1 told2 c0 c1 c2 one told changed = record {
  map = one.map;
  is = told ∙ one.is;
  held = one.held;
  moved = one.moved;
  written = subst (λ (f : ℕ → Bool). AreWritten v c0 f (whole_at o.sizes (contents one.map) o.id)) (sym changed) one.written;
  stays = stays_twice c0 c1 c2 one.stays (stays_same c1 c2 changed);
  fresh = λ k has none. stays_same c1 c2 changed k (one.fresh k has none);
}

below_or : (a b : ℕ) → (a < b) ⊎ (b ≤ a)
below_or a b = grind arith

times_next : (a b : ℕ) → a * (b + 1) ≡ a * b + a
times_next a b = grind arith

same_some : (a b : ℕ → Option (List ℕ)) → Some a ≡ Some b → a ≡ b
same_some a b e = cc

module _ (o : Origin) (v now : Room) (long more : ℕ) (failed : Option GrowFault) (start told told_now : Option (ℕ → Option (List ℕ))) (old new : ℕ → Bool) (tells : Tells failed start told) (held : (m : ℕ → Option (List ℕ)) → known failed start told ≡ Some m → ∥ Held o v long m ∥₁)
    (step : (m : ℕ → Option (List ℕ)) → told ≡ Some m → Held o v long m → Comes o v now more m told_now old new) where
  -- each is told where the other is
  moved_some : (t t_now : Option (ℕ → Option (List ℕ))) → IsSome t → ((m : ℕ → Option (List ℕ)) → t ≡ Some m → ∥ Held o v long m ∥₁) → ((m : ℕ → Option (List ℕ)) → t ≡ Some m → Held o v long m → Comes o v now more m t_now old new) → HasMoved o v now long more t t_now failed old new
  moved_some None t_now some held step = let bad : false ≡ true = some in cc
  moved_some (Some m) None some held step = ∥∥₁_elim (held m refl) (Prim.hlevel props) (λ h. let w = step m refl h in let bad : None ≡ Some w.map = w.is in cc)
  moved_some (Some m) (Some map) some held step = λ h.
      let w = step m refl h in
      let same : w.map ≡ map = sym (same_some map w.map w.is) in
      subst (λ (x : ℕ → Option (List ℕ)). Held o now more x × (Moved o v now m x × AreWritten v old new (whole_at o.sizes (contents x) o.id) × ChangesFresh o m x new)) same (w.held, (w.moved, w.written, w.fresh))

  pub now_moved : HasMoved o v now long more (known failed start told) (known failed start told_now) failed old new
  now_moved = by_known failed start tells held
    where
      by_known : (b : Option GrowFault) (s : Option (ℕ → Option (List ℕ))) → Tells b s told → ((m : ℕ → Option (List ℕ)) → known b s told ≡ Some m → ∥ Held o v long m ∥₁) → HasMoved o v now long more (known b s told) (known b s told_now) failed old new
      by_known (Some fault) s tells held = tt
      by_known None None tells held = tt
      by_known None (Some n) tells held = moved_some told told_now (tells refl refl) held step

  pub now_held : (m : ℕ → Option (List ℕ)) → known failed start told_now ≡ Some m → ∥ Held o now more m ∥₁
  now_held = by_known failed start tells held
    where
      by_told : (t : Option (ℕ → Option (List ℕ))) → told ≡ t → IsSome t → ((m : ℕ → Option (List ℕ)) → t ≡ Some m → ∥ Held o v long m ∥₁) → (m : ℕ → Option (List ℕ)) → told_now ≡ Some m → ∥ Held o now more m ∥₁
      by_told None is some held m e = let bad : false ≡ true = some in cc
      by_told (Some n) is some held m e = ∥∥₁_map (held n refl) (λ h. let w = step n is h in subst (λ (x : ℕ → Option (List ℕ)). Held o now more x) (same_some w.map m (sym w.is ∙ e)) w.held)

      by_known : (b : Option GrowFault) (s : Option (ℕ → Option (List ℕ))) → Tells b s told → ((m : ℕ → Option (List ℕ)) → known b s told ≡ Some m → ∥ Held o v long m ∥₁) → (m : ℕ → Option (List ℕ)) → known b s told_now ≡ Some m → ∥ Held o now more m ∥₁
      by_known (Some fault) s tells held m e = cc
      by_known None None tells held m e = cc
      by_known None (Some n) tells held m e = by_told told refl (tells refl refl) held m e

  pub now_tells : Tells failed start told_now
  now_tells = by_known failed start tells held
    where
      by_told : (t : Option (ℕ → Option (List ℕ))) → told ≡ t → IsSome t → ((m : ℕ → Option (List ℕ)) → t ≡ Some m → ∥ Held o v long m ∥₁) → IsSome told_now
      by_told None is some held = let bad : false ≡ true = some in cc
      by_told (Some n) is some held = ∥∥₁_elim (held n refl) (Prim.hlevel props) (λ h. let w = step n is h in subst (λ (x : Option (ℕ → Option (List ℕ))). IsSome x) (sym w.is) refl)

      by_known : (b : Option GrowFault) (s : Option (ℕ → Option (List ℕ))) → Tells b s told → ((m : ℕ → Option (List ℕ)) → known b s told ≡ Some m → ∥ Held o v long m ∥₁) → Tells b s told_now
      by_known (Some fault) s tells held = λ e some. let bad : Some fault ≡ None = e in cc
      by_known None None tells held = λ e some. let bad : false ≡ true = some in cc
      by_known None (Some n) tells held = λ e some. by_told told refl (tells refl refl) held

  -- what is told of the stream then
  pub now_told : (f : List ℕ → List ℕ) → ((m : ℕ → Option (List ℕ)) (is : told ≡ Some m) (h : Held o v long m) → stream_of o (step m is h).map ≡ f (stream_of o m)) → option_map (stream_of o) (known failed start told_now) ≡ option_map f (option_map (stream_of o) (known failed start told))
  now_told f bytes = by_known failed start tells held
    where
      by_told : (t : Option (ℕ → Option (List ℕ))) → told ≡ t → IsSome t → ((m : ℕ → Option (List ℕ)) → t ≡ Some m → ∥ Held o v long m ∥₁) → option_map (stream_of o) told_now ≡ option_map f (option_map (stream_of o) t)
      by_told None is some held = let bad : false ≡ true = some in cc
      by_told (Some n) is some held = ∥∥₁_elim (held n refl) (Prim.hlevel props) (λ h. let w = step n is h in ap (option_map (stream_of o)) w.is ∙ ap (λ (l : List ℕ). Some l) (bytes n is h))

      by_known : (b : Option GrowFault) (s : Option (ℕ → Option (List ℕ))) → Tells b s told → ((m : ℕ → Option (List ℕ)) → known b s told ≡ Some m → ∥ Held o v long m ∥₁) → option_map (stream_of o) (known b s told_now) ≡ option_map f (option_map (stream_of o) (known b s told))
      by_known (Some fault) s tells held = refl
      by_known None None tells held = refl
      by_known None (Some n) tells held = by_told told refl (tells refl refl) held

-- no page failed to be added, before nor now
pub none_failed : (o : Origin) (v : Room) (long : ℕ) (told : Option (ℕ → Option (List ℕ))) (failed : Option GrowFault) (counts counts_now : Counts) → failed ≡ None → HasFault o v long told failed failed counts counts_now
none_failed o v long told None counts counts_now none = tt
none_failed o v long told (Some fault) counts counts_now none = let bad : Some fault ≡ None = none in cc

-- nothing has changed
pub goes_quiet : (o : Origin) (v : Room) (long : ℕ) (failed : Option GrowFault) (start told told_now : Option (ℕ → Option (List ℕ))) (old new : ℕ → Bool) (counts counts_now : Counts) → failed ≡ None → told_now ≡ told → new ≡ old → AreLater counts counts_now
    → GoesOn o v v long long (known failed start told) (known failed start told_now) failed failed old new counts counts_now
goes_quiet o v long failed start told told_now old new counts counts_now standing same changed later =
    let none = goes_same o v long (known failed start told) failed old counts in record {
      rest = refl;
      moved = subst (λ (t : Option (ℕ → Option (List ℕ))). HasMoved o v v long long (known failed start told) (known failed start t) failed old new) (sym same) (subst (λ (f : ℕ → Bool). HasMoved o v v long long (known failed start told) (known failed start told) failed old f) (sym changed) none.moved);
      fault = none_failed o v long (known failed start told) failed counts counts_now standing;
      changed = λ k is. inl (sym (ap (λ (f : ℕ → Bool). f k) changed) ∙ is);
      stays = stays_same old new changed;
      later = later;
    }

-- a page could not be added before: nothing is asked, and the answer is that fault
pub goes_failed : (o : Origin) (v : Room) (long : ℕ) (told : Option (ℕ → Option (List ℕ))) (failed : Option GrowFault) (counts : Counts) (fault : GrowFault) → failed ≡ Some fault → IsPageCause o v long told failed counts counts fault
goes_failed o v long told None counts fault is = let bad : None ≡ Some fault = is in cc
goes_failed o v long told (Some earlier) counts fault is = (let same : fault ≡ earlier = cc in same, refl)

-- a cause
caused : (o : Origin) (v : Room) (long : ℕ) (failed : Option GrowFault) (start told : Option (ℕ → Option (List ℕ))) (counts counts_now : Counts) (fault : GrowFault) → IsGrowCause 1 counts counts_now fault → ((m : ℕ → Option (List ℕ)) → told ≡ Some m → Held o v long m → HasFailed o v m fault)
    → HasCause o v long (known failed start told) counts counts_now fault
caused o v long failed start told counts counts_now fault below why = record { below = below; reason = by_known (known failed start told) (told_of failed start told) }
  where
    by_known : (k : Option (ℕ → Option (List ℕ))) → ((m : ℕ → Option (List ℕ)) → k ≡ Some m → told ≡ Some m) → IfSome k (λ m. Held o v long m → HasFailed o v m fault)
    by_known None of = tt
    by_known (Some m) of = λ h. why m (of m refl) h

pub has_cause : (o : Origin) (v : Room) (long : ℕ) (failed : Option GrowFault) (start told : Option (ℕ → Option (List ℕ))) (counts counts_now : Counts) (fault : GrowFault) → failed ≡ None → IsGrowCause 1 counts counts_now fault → ((m : ℕ → Option (List ℕ)) → told ≡ Some m → Held o v long m → HasFailed o v m fault)
    → IsPageCause o v long (known failed start told) failed counts counts_now fault
has_cause o v long None start told counts counts_now fault none below why = caused o v long None start told counts counts_now fault below why
has_cause o v long (Some earlier) start told counts counts_now fault none below why = let bad : Some earlier ≡ None = none in cc

-- a page could not be added now
pub now_failed : (o : Origin) (v : Room) (long : ℕ) (failed : Option GrowFault) (start told : Option (ℕ → Option (List ℕ))) (counts counts_now : Counts) (fault : GrowFault) → failed ≡ None → IsGrowCause 1 counts counts_now fault → ((m : ℕ → Option (List ℕ)) → told ≡ Some m → Held o v long m → HasFailed o v m fault)
    → HasFault o v long (known failed start told) failed (Some fault) counts counts_now
now_failed o v long None start told counts counts_now fault none below why = caused o v long None start told counts counts_now fault below why
now_failed o v long (Some earlier) start told counts counts_now fault none below why = let bad : Some earlier ≡ None = none in cc

-- a fault at once, and one behind a step
pub failed_now : (o : Origin) (v : Room) (long : ℕ) (m : ℕ → Option (List ℕ)) (fault : GrowFault) → Held o v long m → IsGrowFault o v m 1 fault → HasFailed o v m fault
failed_now o v long m fault held why = record { now = v; map = m; moved = moved_none o v m held.owns; why = why }

pub failed_then : (o : Origin) (v now : Room) (more : ℕ) (m : ℕ → Option (List ℕ)) (told : Option (ℕ → Option (List ℕ))) (old new : ℕ → Bool) (fault : GrowFault) → Comes o v now more m told old new → IsUndamaged fault → HasFailed o v m fault
failed_then o v now more m told old new fault one none = record { now = now; map = one.map; moved = one.moved; why = undamaged_is o now one.map fault none }

pub memory_cause : (fault : GrowFault) (old new : Counts) → fault ≡ grow.Block NoMemory → IsGrowCause 1 old new fault
memory_cause fault old new e = subst (IsGrowCause 1 old new) (sym e) tt

pub memory_is : (fault : GrowFault) → fault ≡ grow.Block NoMemory → IsUndamaged fault
memory_is fault e = subst IsUndamaged (sym e) (λ d. d)

-- fixed pages have no fault of a page that could not be added
pub failed_block : (fixed : Bool) (failed : Option GrowFault) (fault : GrowFault) → (fixed && is_some failed) ≡ false → failed ≡ Some fault → fixed ≡ true → IsOfBlock fault
failed_block fixed failed fault unfailed is e = absurd (not_both (sym (λ i. e i && is_some (is i)) ∙ unfailed))
  where
    not_both : true ≡ false → ⊥
    not_both bad = cc

pub noted_block : (failed : Option GrowFault) (noted fault : GrowFault) → failed ≡ Some noted → failed ≡ None → IsOfBlock fault
noted_block failed noted fault is none = absurd (let bad : None ≡ Some noted = sym none ∙ is in cc)

pub open_block : (fixed : Bool) (fault : GrowFault) → fixed ≡ false → fixed ≡ true → IsOfBlock fault
open_block fixed fault open_now e = absurd (not_both (sym e ∙ open_now))
  where
    not_both : true ≡ false → ⊥
    not_both bad = cc

pub memory_block : (fault : GrowFault) → fault ≡ grow.Block NoMemory → IsOfBlock fault
memory_block fault e = subst IsOfBlock (sym e) tt

-- there was no memory
pub memory_page : (o : Origin) (v : Room) (long : ℕ) (failed : Option GrowFault) (start told : Option (ℕ → Option (List ℕ))) (counts : Counts) (fault : GrowFault) → failed ≡ None → fault ≡ grow.Block NoMemory → IsPageCause o v long (known failed start told) failed counts counts fault
memory_page o v long failed start told counts fault none e = has_cause o v long failed start told counts counts fault none (memory_cause fault counts counts e) (λ m is h. failed_now o v long m fault h (undamaged_is o v m fault (memory_is fault e)))

-- the place of a byte lies in the stream's blocks
pub index_inside : (size at index start long n : ℕ) → at ≡ size * index + start → at < long → long ≤ size * n → index < n
index_inside size at index start long n e low fits = by_side (either index n)
  where
    either : (a b : ℕ) → (a < b) ⊎ (b ≤ a)
    either a b = below_or a b

    by_side : (index < n) ⊎ (n ≤ index) → index < n
    by_side (inl lt) = lt
    by_side (inr le) = let more : size * n ≤ size * index = mul-le-mul_left {m = n} {n = index} size le in absurd (omega (arith, more, e, low, fits))

-- a page that begins inside ends inside
pub page_inside : (at long : ℕ) → at % 1024 ≡ 0 → long % 1024 ≡ 0 → at < long → at + 1024 ≤ long
page_inside at long a b low = omega (arith, a, b, low)

pub changed_low : (o : Origin) (v : Room) (a b : ℕ → Bool) → ((k : ℕ) → b k ≡ true → (a k ≡ true) ⊎ (k < o.sizes.blocks)) → (k : ℕ) → b k ≡ true → (a k ≡ true) ⊎ (IsBitmapBlock v k ⊎ (k < o.sizes.blocks))
changed_low o v a b h k is = by_side (h k is)
  where
    by_side : (a k ≡ true) ⊎ (k < o.sizes.blocks) → (a k ≡ true) ⊎ (IsBitmapBlock v k ⊎ (k < o.sizes.blocks))
    by_side (inl before) = inl before
    by_side (inr low) = inr (inr low)

-- the stream's bytes behind a page that was written into them
pub page_written : (o : Origin) (v : Room) (long : ℕ) (m : ℕ → Option (List ℕ)) (held : Held o v long m) → AreSized o.sizes.block_size (Some m) → (at : ℕ) (page : List ℕ) (told : Option (ℕ → Option (List ℕ))) (old new : ℕ → Bool) (w : HasWritten o v long m at page told old new) → at + length page ≤ long → stream_of o w.comes.map ≡ with_page at page (stream_of o m)
page_written o v long m held sized at page told old new w low =
    let all = all_long o v long m held sized in
    let fits = long_fits o v long m held in
    stream_is o v long w.comes.map w.comes.held ∙ ap (take long) w.bytes ∙ take_write long at page (all_of o m) low (omega (arith, all, fits)) ∙ ap (with_page at page) (sym (stream_is o v long m held))

-- a page that was read
pub page_read : (o : Origin) (long : ℕ) (m : ℕ → Option (List ℕ)) → IsReadable o long m → AreSized o.sizes.block_size (Some m) → (index start n len : ℕ) → slice_get (places_at o.sizes (contents m) o.id) index ≡ Some n → start + len ≤ o.sizes.block_size → o.sizes.block_size * index + start + len ≤ long
    → take len (drop start (contents m n)) ≡ take len (drop (o.sizes.block_size * index + start) (stream_of o m))
page_read o long m held sized index start n len at inside low =
    let place : ℕ = o.sizes.block_size * index + start in
    part_of o.sizes.block_size (contents m) (places_at o.sizes (contents m) o.id) index n start len (are_blocks o o.sizes.block_size m held.told sized) at inside
    ∙ sym (ap (λ (l : List ℕ). take len (drop place l)) (reads_stream o long m held) ∙ cut (all_of o m) place len long low)
  where
    cut : (xs : List ℕ) (place len long : ℕ) → place + len ≤ long → take len (drop place (take long xs)) ≡ take len (drop place xs)
    cut xs place len long low =
        let e : long ≡ place + (long - place) = omega (arith, low) in
        ap (λ (k : ℕ). take len (drop place (take k xs))) e ∙ ap (take len) (drop-take place (long - place) xs) ∙ take-take len (long - place) (drop place xs) (omega (arith, low))

-- what the steps of a call say, at the stream that they are for
abbrev pub WritesPage : Origin → Option (ℕ → Option (List ℕ)) → Option (ℕ → Option (List ℕ)) → (ℕ → Bool) → (ℕ → Bool) → ℕ → ℕ → List ℕ → Type 0
WritesPage o told told_now old new index start page = (v : Room) (long : ℕ) (m : ℕ → Option (List ℕ)) → told ≡ Some m → Held o v long m → index < length (places_at o.sizes (contents m) o.id) → HasWritten o v long m (o.sizes.block_size * index + start) page told_now old new

abbrev pub WritesSize : Origin → Option (ℕ → Option (List ℕ)) → Option (ℕ → Option (List ℕ)) → (ℕ → Bool) → (ℕ → Bool) → ℕ → Type 0
WritesSize o told told_now old new bytes = (v : Room) (long : ℕ) (m : ℕ → Option (List ℕ)) → told ≡ Some m → Held o v long m → bytes ≤ o.sizes.block_size * length (places_at o.sizes (contents m) o.id) → HasSize o v bytes m told_now old new

abbrev pub HasNoDamage : Origin → Option (ℕ → Option (List ℕ)) → ℕ → GrowFault → Type 0
HasNoDamage o told index fault = (v : Room) (long : ℕ) (m : ℕ → Option (List ℕ)) → told ≡ Some m → Held o v long m → index < length (places_at o.sizes (contents m) o.id) → IsUndamaged fault

-- the block of a place reaches behind a page in it
page_fits : (size index start n len long : ℕ) → long ≡ size * index + start → start + len ≤ size → index < n → long + len ≤ size * n
page_fits size index start n len long at inside low =
    let more : size * (index + 1) ≤ size * n = mul-le-mul_left {m = index + 1} {n = n} size (omega (arith, low)) in
    let apart = times_next size index in
    omega (arith, more, apart, at, inside)

-- and behind one that was added
module _ (o : Origin) (v now : Room) (long index start len : ℕ) (m : ℕ → Option (List ℕ)) (page : List ℕ) (wide : length page ≡ len) (held : Held o v long m) (at : long ≡ o.sizes.block_size * index + start) (inside : start + len ≤ o.sizes.block_size)
    (told0 told1 told2 : Option (ℕ → Option (List ℕ))) (c0 c1 c2 c3 : ℕ → Bool) (room : HasRoom o v now long m index told0 c0 c1) (writes : WritesPage o told0 told1 c1 c2 index start page) where
  pub wrote : HasWritten o now long room.comes.map long page told1 c1 c2
  wrote = subst (λ (k : ℕ). HasWritten o now long room.comes.map k page told1 c1 c2) (sym at) (writes now long room.comes.map room.comes.is room.comes.held room.inside)

  -- the room, and the page in it
  pub both : Comes o v now long m told1 c0 c2
  both = comes_twice o v now now long long m told0 told1 c0 c1 c2 room.comes wrote.comes

  module _ (sizes : WritesSize o told1 told2 c2 c3 (long + len)) (sized : AreSized o.sizes.block_size (Some room.comes.map)) (sized0 : AreSized o.sizes.block_size (Some m)) where
    size : HasSize o now (long + len) wrote.comes.map told2 c2 c3
    size = sizes now long wrote.comes.map wrote.comes.is wrote.comes.held
        (subst (λ (l : List ℕ). long + len ≤ o.sizes.block_size * length l) (sym wrote.places) (page_fits o.sizes.block_size index start (length (places_at o.sizes (contents room.comes.map) o.id)) len long at inside room.inside))

    fits : long + length page ≤ length (all_of o room.comes.map)
    fits =
        let all = all_long o now long room.comes.map room.comes.held sized in
        let low = page_fits o.sizes.block_size index start (length (places_at o.sizes (contents room.comes.map) o.id)) len long at inside room.inside in
        omega (arith, all, low, wide)

    bytes : stream_of o size.comes.map ≡ stream_of o m ++ page
    bytes =
        let all = all_long o v long m held sized0 in
        let low = long_fits o v long m held in
        stream_is o now (long + len) size.comes.map size.comes.held
        ∙ ap (take (long + len)) (size.bytes ∙ wrote.bytes)
        ∙ subst (λ (k : ℕ). take (long + k) (with_page long page (all_of o room.comes.map)) ≡ take long (all_of o room.comes.map) ++ page) wide (take_added long page (all_of o room.comes.map) fits)
        ∙ ap (λ (l : List ℕ). take long l ++ page) room.bytes
        ∙ ap (λ (l : List ℕ). l ++ page) (take-append-le long (all_of o m) room.rest (omega (arith, all, low)))
        ∙ ap (λ (l : List ℕ). l ++ page) (sym (stream_is o v long m held))

    pub has_added : HasAdded o v now (long + len) m page told2 c0 c3
    unfolding comes_twice both
    has_added = record { comes = comes_twice o v now now long (long + len) m told1 told2 c0 c2 c3 both size.comes; bytes = bytes }

-- nothing is known where a page could not be added
pub goes_lost : (o : Origin) (v now : Room) (long : ℕ) (told : Option (ℕ → Option (List ℕ))) (old new : ℕ → Bool) (fault : GrowFault) → HasMoved o v now long long told None (Some fault) old new
goes_lost o v now long None old new fault = tt
goes_lost o v now long (Some m) old new fault = refl

-- a page that was read is the one told
pub page_told : (o : Origin) (v : Room) (long : ℕ) (failed : Option GrowFault) (start told : Option (ℕ → Option (List ℕ))) → Tells failed start told → ((m : ℕ → Option (List ℕ)) → known failed start told ≡ Some m → ∥ Held o v long m ∥₁) → (at : ℕ) (page : List ℕ)
    → ((m : ℕ → Option (List ℕ)) → told ≡ Some m → Held o v long m → page ≡ page_at (stream_of o m) at) → IsPageAt (option_map (stream_of o) (known failed start told)) at page
page_told o v long failed start told tells held at page is_page = by_known (known failed start told) held (told_of failed start told)
  where
    by_known : (k : Option (ℕ → Option (List ℕ))) → ((m : ℕ → Option (List ℕ)) → k ≡ Some m → ∥ Held o v long m ∥₁) → ((m : ℕ → Option (List ℕ)) → k ≡ Some m → told ≡ Some m) → IsPageAt (option_map (stream_of o) k) at page
    by_known None held of = tt
    by_known (Some m) held of = ∥∥₁_elim (held m refl) (Prim.hlevel props) (λ h. is_page m (of m refl) h)

-- a page was written, or nothing has changed
pub either_comes : (o : Origin) (v : Room) (long : ℕ) (m : ℕ → Option (List ℕ)) (at : ℕ) (page : List ℕ) (told told_now : Option (ℕ → Option (List ℕ))) (old new : ℕ → Bool) (r : Result (Unit {0}) GrowFault) → OnOk r (HasWritten o v long m at page told_now old new) → OnErr r ((told_now ≡ told) × (new ≡ old)) → told ≡ Some m → Held o v long m
    → Comes o v v long m told_now old new
either_comes o v long m at page told told_now old new (Ok u) written kept is held = written.comes
either_comes o v long m at page told told_now old new (Err fault) written kept is held = record {
  map = m;
  is = kept.0 ∙ is;
  held = held;
  moved = moved_none o v m held.owns;
  written = wrote_none (IsBitmapBlock v) old new (whole_at o.sizes (contents m) o.id) kept.1;
  stays = stays_same old new kept.1;
  fresh = fresh_none o m m new refl;
}
