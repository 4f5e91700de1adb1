-- The size 0 was written into an inode.
use Rattle.std.proofs.Common.{◌≡◌, ◌≢◌, ◌⊎◌, inl, inr, ◌≤◌, ◌<◌, ◌+◌, ◌-◌, ◌*◌, ◌≤ℤ◌, ◌∙◌, pos, ℕ, zero, suc, List, [], ◌∷◌, length, Bool, true, false, cond, Option, Some, unwrap_or, refl, sym, ap, subst, arith}
use Rattle.std.specs.Prelude.{◌==◌, IsSome}
use Rattle.std.proofs.lemmas.Int.{ints}
use Rattle.bfs_base.specs.Lists.{times, Has, Agree}
use Rattle.bfs_super.specs.Conditions.{natural}
use Rattle.bfs_bitmap.specs.Fills.{IsBitmapBlock}
use Rattle.bfs_bitmap.specs.Runs.{Room, Fits, HasBitmap, per_block}
use Rattle.bfs_inode.specs.Inode.{Stream, stream_at}
use Rattle.bfs_txn.specs.Told.{with_block, with_number}
use Rattle.bfs_stream.specs.Sizes.{Origin}
use Rattle.bfs_stream.specs.Places.{Levels, fields, levels_at, arrays_of, arrays_at, places_at, frame_at, whole_at}
use Rattle.bfs_stream.specs.Told.{contents}
use Rattle.bfs_stream.specs.Grown.{Owns, AreWritten}
use Rattle.bfs_stream.proofs.Doubles.{times-append}
use Rattle.bfs_stream.proofs.Frames.{has_first, has_left, levels_but}
use Rattle.bfs_stream.proofs.Writes.{number_set}
use Rattle.bfs_stream_pages.specs.Moves.{KeepsInode}
use Rattle.bfs_stream_pages.specs.MovesLaws.{with_size, whole_same, owns_now}
use Rattle.bfs_make.specs.Given.{HasEmptied}
use Rattle.bfs_make.proofs.Written.{block_here, block_other, block_told}

first_counted : (x : ℕ) (xs : List ℕ) → times x (x ∷ xs) ≡ 1 + times x xs
first_counted x xs = grind arith

not_only : (k x : ℕ) → times k (x ∷ []) ≡ 0 → k ≢ x
not_only k x none e = let some : 0 < times k (k ∷ []) = has_first k [] in let same : times k (k ∷ []) ≡ times k (x ∷ []) = ap (λ (j : ℕ). times k (j ∷ [])) e in omega (arith, some, same, none)

-- the map where each block is told, with what is read of it
abbrev pub full : (ℕ → Option (List ℕ)) → ℕ → Option (List ℕ)
full m k = Some (contents m k)

pub fits_full : (v : Room) (m : ℕ → Option (List ℕ)) → Fits v m → Fits v (full m)
fits_full v m fits = record {
  has = record { told = λ j under. let cell = fits.has.told j under in (cell.0, ap (λ (x : Option (List ℕ)). Some (unwrap_or x [])) cell.1, cell.2) };
  nothing_below = fits.nothing_below;
  no_wide = λ b under run. fits.no_wide b under (record { one_group = run.one_group; free = run.free });
}

pub owns_full : (o : Origin) (v : Room) (m : ℕ → Option (List ℕ)) → Owns o v [] m → Owns o v [] (full m)
owns_full o v m owns = record {
  stands = record { told = λ k h. refl; sound = owns.stands.sound };
  once = owns.once;
  taken = owns.taken;
  outside = owns.outside;
  bits = owns.bits;
  fits = fits_full v m owns.fits;
}

-- where the frame and the bitmap are told, the other blocks of a stream need not be
pub owns_told : (o : Origin) (v : Room) (m : ℕ → Option (List ℕ)) → Owns o v [] (full m) → ((k : ℕ) → Has (frame_at o.sizes (contents m) o.id) k → IsSome (m k)) → HasBitmap v m → Owns o v [] m
owns_told o v m owns frame bits = record {
  stands = record { told = frame; sound = owns.stands.sound };
  once = owns.once;
  taken = owns.taken;
  outside = owns.outside;
  bits = owns.bits;
  fits = record {
    has = bits;
    nothing_below = owns.fits.nothing_below;
    no_wide = λ b under run. owns.fits.no_wide b under (record { one_group = run.one_group; free = run.free });
  };
}

module _ (o : Origin) (v : Room) (m : ℕ → Option (List ℕ)) (owns : Owns o v [] m) (bytes : List ℕ) (stream : stream_at bytes ≡ record (stream_at (contents m o.id)) { size = pos 0 }) (inode : KeepsInode (contents m o.id) bytes) where
  abbrev map : ℕ → Option (List ℕ)
  map = with_block o.id bytes m

  mine : Has (whole_at o.sizes (contents m) o.id) o.id
  mine = has_left (frame_at o.sizes (contents m) o.id) (places_at o.sizes (contents m) o.id) o.id (has_first o.id (arrays_at o.sizes (contents m) o.id))

  none_else : (k : ℕ) → 0 < times k (arrays_at o.sizes (contents m) o.id) → k ≢ o.id
  none_else k has e =
      let once = owns.once o.id in
      let parts = times-append o.id (frame_at o.sizes (contents m) o.id) (places_at o.sizes (contents m) o.id) in
      let first : times o.id (o.id ∷ arrays_at o.sizes (contents m) o.id) ≡ 1 + times o.id (arrays_at o.sizes (contents m) o.id) = first_counted o.id (arrays_at o.sizes (contents m) o.id) in
      let more : 0 < times o.id (arrays_at o.sizes (contents m) o.id) = subst (λ (k : ℕ). 0 < times k (arrays_at o.sizes (contents m) o.id)) e has in
      omega (arith, once, parts, first, more)

  here : contents map o.id ≡ bytes
  here = ap (λ (x : Option (List ℕ)). unwrap_or x []) (block_here m o.id bytes)

  agree : Agree (contents m) (contents map) (arrays_at o.sizes (contents m) o.id)
  agree k has = ap (λ (x : Option (List ℕ)). unwrap_or x []) (block_other m o.id bytes k (none_else k (let h : 0 < times k (arrays_at o.sizes (contents m) o.id) = has in h)))

  now_stream : stream_at (contents map o.id) ≡ record (stream_at (contents m o.id)) { size = pos 0 }
  now_stream = ap stream_at here ∙ stream

  levels : levels_at o.sizes (contents map) o.id ≡ with_size (levels_at o.sizes (contents m) o.id) (pos 0)
  levels =
      levels_but (contents m) (contents map) o.sizes o.id agree (ap (λ (t : Stream). t.indirect) now_stream) (ap (λ (t : Stream). t.double_indirect) now_stream)
      ∙ ap (λ (t : Stream). record (levels_at o.sizes (contents m) o.id) { stream = t }) now_stream

  kept : KeepsInode (contents m o.id) (contents map o.id)
  kept = subst (KeepsInode (contents m o.id)) (sym here) inode

  same : (k : ℕ) → times k (whole_at o.sizes (contents m) o.id) ≡ 0 → map k ≡ m k
  same k none = block_other m o.id bytes k (λ e. let has : 0 < times k (whole_at o.sizes (contents m) o.id) = subst (Has (whole_at o.sizes (contents m) o.id)) (sym e) mine in absurd (omega (arith, has, none)))

  same_full : (k : ℕ) → times k (whole_at o.sizes (contents m) o.id) ≡ 0 → full map k ≡ full m k
  same_full k none = ap (λ (x : Option (List ℕ)). Some (unwrap_or x [])) (same k none)

  low : pos 0 ≤ℤ pos 0
  low = omega (arith, ints)

  whole : whole_at o.sizes (contents map) o.id ≡ whole_at o.sizes (contents m) o.id
  whole = whole_same o v (full m) (full map) (owns_full o v m owns) same_full (λ k h. refl) (pos 0) levels low (omega arith) kept

  owns_all : Owns o v [] (full map)
  owns_all = owns_now o v (full m) (full map) (owns_full o v m owns) same_full (λ k h. refl) (pos 0) levels low (omega arith) kept

  same_frame : frame_at o.sizes (contents map) o.id ≡ frame_at o.sizes (contents m) o.id
  unfolding arrays_of
  same_frame = ap (λ (l : Levels). o.id ∷ arrays_of o.sizes l) levels

  frame_told : (k : ℕ) → Has (frame_at o.sizes (contents map) o.id) k → IsSome (map k)
  frame_told k has = block_told m o.id bytes k (owns.stands.told k (subst (λ (l : List ℕ). Has l k) same_frame has))

  bits_told : HasBitmap v map
  bits_told = record {
    told = λ j under.
        let cell = owns.fits.has.told j under in
        (cell.0, same (1 + j) (none_with_bits j under) ∙ cell.1, cell.2);
  }
    where
      none_with_bits : (j : ℕ) → per_block v * j < v.blocks → times (1 + j) (whole_at o.sizes (contents m) o.id) ≡ 0
      none_with_bits j under = by_count (times (1 + j) (whole_at o.sizes (contents m) o.id)) refl
        where
          by_count : (n : ℕ) → times (1 + j) (whole_at o.sizes (contents m) o.id) ≡ n → times (1 + j) (whole_at o.sizes (contents m) o.id) ≡ 0
          by_count zero e = e
          by_count (suc n) e =
              let out : v.blocks ≤ per_block v * (1 + j - 1) = owns.outside (1 + j) (let h : 0 < times (1 + j) (whole_at o.sizes (contents m) o.id) = omega (arith, e) in h) in
              let at : 1 + j - 1 ≡ j = omega arith in
              let here : v.blocks ≤ per_block v * j = subst (λ (x : ℕ). v.blocks ≤ per_block v * x) at out in
              absurd (omega (arith, here, under))

  pub has_emptied : (told : Option (ℕ → Option (List ℕ))) → told ≡ Some map → (old new : ℕ → Bool) → ((k : ℕ) → new k ≡ with_number o.id old k) → HasEmptied o v m told old new
  has_emptied told is old new set = record {
    map = map;
    is = is;
    owns = owns_told o v map owns_all frame_told bits_told;
    whole = whole;
    size = ap (λ (t : Stream). t.size) now_stream;
    others = λ k none. block_other m o.id bytes k (not_only k o.id none);
    written = λ k e. by_side k (number_set o.id old k (sym (set k) ∙ e));
  }
    where
      by_side : (k : ℕ) → (old k ≡ true) ⊎ (k ≡ o.id) → (old k ≡ true) ⊎ (IsBitmapBlock v k ⊎ Has (o.id ∷ []) k)
      by_side k (inl before) = inl before
      by_side k (inr at) = inr (inr (subst (λ (j : ℕ). Has (o.id ∷ []) j) (sym at) (has_first o.id [])))
