-- A stream without bytes was cut to nothing: its inode is left.
use Rattle.std.proofs.Common.{◌≡◌, ◌⊎◌, inl, inr, ◌≤◌, ◌<◌, ◌+◌, ◌*◌, ◌∙◌, ℕ, zero, suc, List, [], ◌∷◌, ◌++◌, length, Bool, true, false, cond, not, ◌&&◌, ◌||◌, Option, Some, refl, sym, ap, subst, arith, drop, length-append}
use Rattle.std.specs.Prelude.{◌==◌, Result, Ok, Err, OnOk}
use Rattle.std.proofs.lemmas.List.{append-nil}
use Rattle.bfs_base.specs.Lists.{times, Has, counted_from}
use Rattle.bfs_bytes.specs.declared.Run.{Run}
use Rattle.bfs_bitmap.specs.Fills.{IsBitmapBlock}
use Rattle.bfs_bitmap.specs.Runs.{Room, per_block, marked, is_reserved}
use Rattle.bfs_stream.specs.Sizes.{Origin, Sizes, IsInVolume, IsWhole, first_block}
use Rattle.bfs_stream.specs.Places.{Levels, used_runs, level_blocks, run_blocks, blocks_of, arrays_of, fields, levels_at, second_arrays, places_at, frame_at, whole_at, HasLevels}
use Rattle.bfs_stream.specs.Told.{contents}
use Rattle.bfs_stream.specs.Grown.{Owns, UsesDouble, AreWritten, is_new}
use Rattle.bfs_stream.specs.Trimmed.{HasNoEmpty, HasTrimmedTo}
use Rattle.bfs_stream.proofs.Seconds.{no_second, nothing_second}
use Rattle.bfs_stream.proofs.Emptied.{inode_alone, emptied}
use Rattle.bfs_stream.proofs.Levels.{length-counted}
use Rattle.bfs_stream.proofs.Placed.{length-places}
use Rattle.bfs_stream.proofs.Writes.{wrote_more}
use Rattle.bfs_make.specs.Given.{HasStripped}

-- a level with runs has blocks
some_blocks : (s : Sizes) (rs : List Run) → 0 < length (used_runs rs) → 0 < length (level_blocks s rs)
unfolding level_blocks
some_blocks s [] some = absurd (omega (arith, some))
some_blocks s (r ∷ rs) some = by_len r.len refl some
  where
    by_len : (n : ℕ) → r.len ≡ n → 0 < length (cond (r.len == 0) [] (r ∷ used_runs rs)) → 0 < length (blocks_of s (cond (r.len == 0) [] (r ∷ used_runs rs)))
    by_len zero e some = let test : (r.len == 0) ≡ true = grind (arith, e) in let none : 0 < length {A = Run} [] = subst (λ (b : Bool). 0 < length (cond b [] (r ∷ used_runs rs))) test some in absurd (omega (arith, none))
    by_len (suc n) e some =
        let test : (r.len == 0) ≡ false = grind (arith, e) in
        subst (λ (b : Bool). 0 < length (blocks_of s (cond b [] (r ∷ used_runs rs)))) (sym test)
        (subst (λ (k : ℕ). 0 < length (counted_from (first_block s r) k ++ blocks_of s (used_runs rs))) (sym e) (omega arith))

-- where a sound stream has no blocks, it has no arrays
module _ (o : Origin) (m : ℕ → Option (List ℕ)) (sound : HasLevels o.sizes (levels_at o.sizes (contents m) o.id)) (none : length (places_at o.sizes (contents m) o.id) ≡ 0) where
  no_indirect : (fields o.sizes (contents m) o.id).indirect.len ≡ 0
  no_indirect = by_side sound.indirect
    where
      by_side : ((fields o.sizes (contents m) o.id).indirect.len ≡ 0) ⊎ (IsInVolume o.sizes (fields o.sizes (contents m) o.id).indirect × (length (used_runs (fields o.sizes (contents m) o.id).direct) ≡ 12)) → (fields o.sizes (contents m) o.id).indirect.len ≡ 0
      by_side (inl ends) = ends
      by_side (inr full) =
          let n = full.1 in
          let some = some_blocks o.sizes (fields o.sizes (contents m) o.id).direct (omega (arith, n)) in
          let sum = length-places o.sizes (contents m) o.id in
          absurd (omega (arith, sum, some, none))

  no_double : (fields o.sizes (contents m) o.id).double_indirect.len ≡ 0
  no_double = by_side sound.double
    where
      by_side : ((fields o.sizes (contents m) o.id).double_indirect.len ≡ 0) ⊎ (IsWhole o.sizes (fields o.sizes (contents m) o.id).double_indirect × (0 < length (used_runs (levels_at o.sizes (contents m) o.id).table)) × (length (used_runs (levels_at o.sizes (contents m) o.id).table) ≡ length (levels_at o.sizes (contents m) o.id).table)) → (fields o.sizes (contents m) o.id).double_indirect.len ≡ 0
      by_side (inl ends) = ends
      by_side (inr full) =
          let some = some_blocks o.sizes (levels_at o.sizes (contents m) o.id).table full.1 in
          let sum = length-places o.sizes (contents m) o.id in
          absurd (omega (arith, sum, some, none))

  named : HasNoEmpty o m
  named = record {
    indirect = inl no_indirect;
    double = inl no_double;
    tables = λ some. let z : length (second_arrays o.sizes (contents m) o.id) ≡ 0 = ap length (no_second o m no_double) in absurd (omega (arith, some, z));
  }

  bare : whole_at o.sizes (contents m) o.id ≡ o.id ∷ []
  bare = joined (frame_at o.sizes (contents m) o.id) (places_at o.sizes (contents m) o.id) (inode_alone o m named none) none
    where
      joined : (a b : List ℕ) → a ≡ o.id ∷ [] → length b ≡ 0 → a ++ b ≡ o.id ∷ []
      joined a [] e z = append-nil a ∙ e
      joined a (x ∷ xs) e z = absurd (omega (arith, z))

or_false : (b c : Bool) → c ≡ false → b ≡ (b || c)
or_false true c e = refl
or_false false c e = sym e

same_new : (xs : List ℕ) (k : ℕ) → is_new xs xs k ≡ false
same_new xs k = by_test (times k xs == 0)
  where
    by_test : (b : Bool) → (b && not b) ≡ false
    by_test true = refl
    by_test false = refl

-- nothing was there to be cut
stripped_none : (o : Origin) (v now : Room) (m : ℕ → Option (List ℕ)) (owns : Owns o v [] m) → length (places_at o.sizes (contents m) o.id) ≡ 0 → now ≡ v → (told : Option (ℕ → Option (List ℕ))) → told ≡ Some m → (old new : ℕ → Bool) → new ≡ old → HasStripped o v now m told old new
stripped_none o v now m owns none same told is old new changed =
    let whole : whole_at o.sizes (contents m) o.id ≡ o.id ∷ [] = bare o m owns.stands.sound none in
    let nothing : (k : ℕ) → is_new (o.id ∷ []) (whole_at o.sizes (contents m) o.id) k ≡ false = λ k. ap (λ (l : List ℕ). is_new (o.id ∷ []) l k) whole ∙ same_new (o.id ∷ []) k in
    subst (λ (x : Room). HasStripped o v x m told old new) (sym same) (record {
      map = m;
      is = is;
      owns = owns;
      whole = whole;
      reserved = λ k. or_false (is_reserved v.given k) (is_new (o.id ∷ []) (whole_at o.sizes (contents m) o.id) k) (nothing k);
      marks = λ k low. sym (ap (λ (b : Bool). cond b 0 (marked (per_block v) m k)) (nothing k));
      counted = λ marked count. count;
      free = λ k. refl;
      others = λ k out no. refl;
      first = λ no. refl;
      written = λ k e. inl (sym (ap (λ (f : ℕ → Bool). f k) changed) ∙ e);
    })

-- where the inode is all of the frame, the double indirect level has no blocks
alone : (o : Origin) (m : ℕ → Option (List ℕ)) → frame_at o.sizes (contents m) o.id ≡ o.id ∷ [] → ¬ UsesDouble o m
unfolding arrays_of
alone o m frame uses =
    let l = levels_at o.sizes (contents m) o.id in
    let tail : arrays_of o.sizes l ≡ [] = ap (drop 1) frame in
    let sum : length (run_blocks o.sizes l.stream.indirect) + (length (run_blocks o.sizes l.stream.double_indirect) + length (blocks_of o.sizes (used_runs l.arrays))) ≡ 0 =
    sym (length-append (run_blocks o.sizes l.stream.indirect) (run_blocks o.sizes l.stream.double_indirect ++ blocks_of o.sizes (used_runs l.arrays)) ∙ ap (λ (n : ℕ). length (run_blocks o.sizes l.stream.indirect) + n) (length-append (run_blocks o.sizes l.stream.double_indirect) (blocks_of o.sizes (used_runs l.arrays)))) ∙ ap length tail in
    let long : length (run_blocks o.sizes l.stream.double_indirect) ≡ l.stream.double_indirect.len = length-counted (first_block o.sizes l.stream.double_indirect) l.stream.double_indirect.len in
    let none : l.stream.double_indirect.len ≡ 0 = omega (arith, sum, long) in
    let empty : length (level_blocks o.sizes l.runs) ≡ 0 = ap length (nothing_second o m none) in
    omega (arith, uses, empty)

-- it was cut
stripped_some : (o : Origin) (v now : Room) (m : ℕ → Option (List ℕ)) (told : Option (ℕ → Option (List ℕ))) (old new : ℕ → Bool) → 0 < length (places_at o.sizes (contents m) o.id) → HasTrimmedTo o v now m 0 told old new → HasStripped o v now m told old new
stripped_some o v now m told old new some to =
    let t = to.trimmed in
    let frame : frame_at o.sizes (contents t.map) o.id ≡ o.id ∷ [] = emptied o v now m told old new to some in
    let left : length (places_at o.sizes (contents t.map) o.id) ≡ 0 = to.exact (omega (arith, some)) (alone o t.map frame) in
    let whole : whole_at o.sizes (contents t.map) o.id ≡ o.id ∷ [] = joined (frame_at o.sizes (contents t.map) o.id) (places_at o.sizes (contents t.map) o.id) frame left in
    let still : (k : ℕ) → Has t.touched k → Has (o.id ∷ []) k = λ k has. subst (λ (l : List ℕ). Has l k) frame (t.still k has) in
    let apart : (k : ℕ) → times k (o.id ∷ []) ≡ 0 → times k t.touched ≡ 0 = λ k none. not_there t.touched (o.id ∷ []) k (still k) none in
    record {
      map = t.map;
      is = t.is;
      owns = t.owns;
      whole = whole;
      reserved = λ k. t.reserved k ∙ ap (λ (l : List ℕ). is_reserved v.given k || is_new l (whole_at o.sizes (contents m) o.id) k) whole;
      marks = λ k low. t.marks k low ∙ ap (λ (l : List ℕ). cond (is_new l (whole_at o.sizes (contents m) o.id) k) 0 (marked (per_block v) m k)) whole;
      counted = t.counted;
      free = t.free;
      others = λ k out none. t.others k out (apart k none);
      first = λ none. t.first (apart 0 none);
      written = wrote_more (IsBitmapBlock v) old new t.touched (o.id ∷ []) still t.written;
    }
  where
    joined : (a b : List ℕ) → a ≡ o.id ∷ [] → length b ≡ 0 → a ++ b ≡ o.id ∷ []
    joined a [] e z = append-nil a ∙ e
    joined a (x ∷ xs) e z = absurd (omega (arith, z))

    not_there : (xs ys : List ℕ) (k : ℕ) → (Has xs k → Has ys k) → times k ys ≡ 0 → times k xs ≡ 0
    not_there xs ys k more none = by_count (times k xs) refl
      where
        by_count : (n : ℕ) → times k xs ≡ n → times k xs ≡ 0
        by_count zero e = e
        by_count (suc n) e = let h : 0 < times k ys = more (let g : 0 < times k xs = omega (arith, e) in g) in absurd (omega (arith, h, none))

pub stripped : (o : Origin) (v now : Room) (m : ℕ → Option (List ℕ)) (told : Option (ℕ → Option (List ℕ))) (old new : ℕ → Bool) → Owns o v [] m → (length (places_at o.sizes (contents m) o.id) ≤ 0 → (told ≡ Some m) × (new ≡ old) × (now ≡ v)) → HasTrimmedTo o v now m 0 told old new → HasStripped o v now m told old new
stripped o v now m told old new owns stays to = by_count (length (places_at o.sizes (contents m) o.id)) refl
  where
    by_count : (n : ℕ) → length (places_at o.sizes (contents m) o.id) ≡ n → HasStripped o v now m told old new
    by_count zero e = let s = stays (omega (arith, e)) in stripped_none o v now m owns e s.2 told s.0 old new s.1
    by_count (suc n) e = stripped_some o v now m told old new (omega (arith, e)) to

pub on_ok : {T F : Type 0} (P Q : Type 0) (r : Result T F) → OnOk r P → (P → Q) → OnOk r Q
on_ok P Q (Ok x) is f = f is
on_ok P Q (Err e) is f = tt
