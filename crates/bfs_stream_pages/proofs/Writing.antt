-- One block of a stream was written over.
use Rattle.std.proofs.Common.{◌≡◌, ◌≢◌, ◌≤◌, ◌<◌, ◌+◌, ◌*◌, ◌∙◌, ◌≤ℤ◌, pos, ℕ, ℤ, zero, suc, List, [], ◌∷◌, ◌++◌, length, Bool, true, false, cond, Option, Some, unwrap_or, refl, sym, ap, ap₂, subst, arith}
use Rattle.std.specs.Prelude.{◌==◌, IsSome, slice_get}
use Rattle.std.specs.List.{flat_map}
use Rattle.std.proofs.lemmas.Int.{ints}
use Rattle.bfs_base.specs.Lists.{times, Has, Agree}
use Rattle.bfs_super.specs.Conditions.{natural}
use Rattle.bfs_bitmap.specs.Fills.{IsBitmapBlock}
use Rattle.bfs_bitmap.specs.Runs.{Room}
use Rattle.bfs_inode.specs.Inode.{Stream, stream_at}
use Rattle.bfs_txn.specs.Told.{AreSized, with_block, with_number}
use Rattle.bfs_txn.specs.Pages.{with_page}
use Rattle.bfs_stream.specs.Sizes.{Origin, Sizes}
use Rattle.bfs_stream.specs.Places.{Levels, levels_at, arrays_at, places_at, frame_at, whole_at}
use Rattle.bfs_stream.specs.Told.{contents, AreTold}
use Rattle.bfs_stream.proofs.Doubles.{times-append}
use Rattle.bfs_stream.proofs.Frames.{has_first, has_rest, has_left, has_right, levels_same, levels_but}
use Rattle.bfs_stream.proofs.Equal.{same_test}
use Rattle.bfs_stream.proofs.Writes.{wrote_set, wrote_more}
use Rattle.bfs_stream_pages.specs.Held.{Held}
use Rattle.bfs_stream_pages.specs.Moves.{KeepsInode}
use Rattle.bfs_stream_pages.specs.Steps.{Comes, HasWritten, HasSize}
use Rattle.bfs_stream_pages.specs.BytesLaws.{write_of}
use Rattle.bfs_stream_pages.specs.GoesLaws.{are_blocks}
use Rattle.bfs_stream_pages.specs.MovesLaws.{with_size, fresh_none, stays_set, keeps_inode_none, places_same, whole_same, owns_now, moved_rewritten}

pub is_equal : (k n : ℕ) → (k == n) ≡ true → k ≡ n
is_equal k n e = grind (arith, e)

first_counted : (x : ℕ) (xs : List ℕ) → times x (x ∷ xs) ≡ 1 + times x xs
first_counted x xs = grind arith

-- a block that is in a list once is counted there
pub counted_at : (xs : List ℕ) (i n : ℕ) → slice_get xs i ≡ Some n → Has xs n
counted_at [] zero n e = cc
counted_at [] (suc i) n e = cc
counted_at (y ∷ ys) zero n e = let same : y ≡ n = cc in subst (λ (k : ℕ). Has (y ∷ ys) k) same (has_first y ys)
counted_at (y ∷ ys) (suc i) n e = has_rest y ys n (counted_at ys i n e)

only_these : (n k : ℕ) (xs : List ℕ) → Has (n ∷ []) k → Has xs n → Has xs k
only_these n k xs one has = by_test (n == k) refl one
  where
    by_test : (b : Bool) → (n == k) ≡ b → 0 < cond b 1 0 + 0 → Has xs k
    by_test true e some = let same : n ≡ k = grind (arith, e) in subst (Has xs) same has
    by_test false e none = absurd (omega (arith, none))

module _ (o : Origin) (v : Room) (long more : ℕ) (m : ℕ → Option (List ℕ)) (held : Held o v long m) (n : ℕ) (bytes : List ℕ) (mine : Has (whole_at o.sizes (contents m) o.id) n) where
  abbrev s : Sizes
  s = o.sizes

  abbrev map : ℕ → Option (List ℕ)
  map = with_block n bytes m

  pub other : (k : ℕ) → k ≢ n → map k ≡ m k
  other k apart = by_test (k == n) refl
    where
      by_test : (b : Bool) → (k == n) ≡ b → cond b (Some bytes) (m k) ≡ m k
      by_test true e = absurd (apart (is_equal k n e))
      by_test false e = refl

  pub here : map n ≡ Some bytes
  here = ap (λ (b : Bool). cond b (Some bytes) (m n)) (same_test n)

  pub is_told : (k : ℕ) → IsSome (m k) → IsSome (map k)
  is_told k some = by_test (k == n)
    where
      by_test : (b : Bool) → IsSome (cond b (Some bytes) (m k))
      by_test true = refl
      by_test false = some

  same : (k : ℕ) → times k (whole_at s (contents m) o.id) ≡ 0 → map k ≡ m k
  same k none = other k (λ e. let has : 0 < times k (whole_at s (contents m) o.id) = subst (Has (whole_at s (contents m) o.id)) (sym e) mine in absurd (omega (arith, has, none)))

  are : AreTold map (whole_at s (contents m) o.id)
  are k has = is_told k (by_frame (times k (frame_at s (contents m) o.id)) refl)
    where
      by_frame : (j : ℕ) → times k (frame_at s (contents m) o.id) ≡ j → IsSome (m k)
      by_frame zero e = held.told k (let h : 0 < times k (whole_at s (contents m) o.id) = has in let parts = times-append k (frame_at s (contents m) o.id) (places_at s (contents m) o.id) in let g : 0 < times k (places_at s (contents m) o.id) = omega (arith, h, parts, e) in g)
      by_frame (suc j) e = held.owns.stands.told k (let g : 0 < times k (frame_at s (contents m) o.id) = omega (arith, e) in g)

  -- where its levels are the same but for the size
  module _ (levels : levels_at s (contents map) o.id ≡ with_size (levels_at s (contents m) o.id) (pos more)) (fits : more ≤ s.block_size * length (places_at s (contents m) o.id)) (kept : KeepsInode (contents m o.id) (contents map o.id))
      (told : Option (ℕ → Option (List ℕ))) (is : told ≡ Some map) (old new : ℕ → Bool) (set : (k : ℕ) → new k ≡ with_number n old k) where
    low : pos 0 ≤ℤ pos more
    low = omega (arith, ints)

    pub places_now : places_at s (contents map) o.id ≡ places_at s (contents m) o.id
    places_now = places_same o v m map held.owns same are (pos more) levels low fits kept

    whole_now : whole_at s (contents map) o.id ≡ whole_at s (contents m) o.id
    whole_now = whole_same o v m map held.owns same are (pos more) levels low fits kept

    pub comes : Comes o v v more m told old new
    comes = record {
      map = map;
      is = is;
      held = record {
        owns = owns_now o v m map held.owns same are (pos more) levels low fits kept;
        told = λ k has. are k (subst (λ (l : List ℕ). Has l k) whole_now (has_right (frame_at s (contents map) o.id) (places_at s (contents map) o.id) k has));
        size = ap (λ (l : Levels). l.stream.size) levels;
      };
      moved = moved_rewritten o v m map held.owns same are (pos more) levels low fits kept;
      written = wrote_more (IsBitmapBlock v) old new (n ∷ []) (whole_at s (contents map) o.id) (λ k has. only_these n k (whole_at s (contents map) o.id) has (subst (λ (l : List ℕ). Has l n) (sym whole_now) mine)) (wrote_set (IsBitmapBlock v) old new n n refl set);
      stays = stays_set n old new set;
      fresh = fresh_none o m map new whole_now;
    }

-- a page was written into one of the stream's blocks
module _ (o : Origin) (v : Room) (long : ℕ) (m : ℕ → Option (List ℕ)) (held : Held o v long m) (sized : AreSized o.sizes.block_size (Some m)) (index start n : ℕ) (page bytes : List ℕ) (at : slice_get (places_at o.sizes (contents m) o.id) index ≡ Some n)
    (inside : start + length page ≤ o.sizes.block_size) (is : bytes ≡ with_page start page (contents m n)) (told : Option (ℕ → Option (List ℕ))) (told_is : told ≡ Some (with_block n bytes m)) (old new : ℕ → Bool) (set : (k : ℕ) → new k ≡ with_number n old k) where
  in_places : Has (places_at o.sizes (contents m) o.id) n
  in_places = counted_at (places_at o.sizes (contents m) o.id) index n at

  mine : Has (whole_at o.sizes (contents m) o.id) n
  mine = has_right (frame_at o.sizes (contents m) o.id) (places_at o.sizes (contents m) o.id) n in_places

  once : times n (frame_at o.sizes (contents m) o.id) + times n (places_at o.sizes (contents m) o.id) ≤ 1
  once = let h = held.owns.once n in let parts = times-append n (frame_at o.sizes (contents m) o.id) (places_at o.sizes (contents m) o.id) in omega (arith, h, parts)

  frame_apart : (k : ℕ) → Has (frame_at o.sizes (contents m) o.id) k → k ≢ n
  frame_apart k has e =
      let a : 0 < times n (frame_at o.sizes (contents m) o.id) = subst (Has (frame_at o.sizes (contents m) o.id)) e has in
      let b : 0 < times n (places_at o.sizes (contents m) o.id) = in_places in
      omega (arith, a, b, once)

  stays : (k : ℕ) → k ≢ n → contents (with_block n bytes m) k ≡ contents m k
  stays k apart = ap (λ (x : Option (List ℕ)). unwrap_or x []) (other o v long long m held n bytes mine k apart)

  agree : Agree (contents m) (contents (with_block n bytes m)) (frame_at o.sizes (contents m) o.id)
  agree k has = stays k (frame_apart k has)

  levels : levels_at o.sizes (contents (with_block n bytes m)) o.id ≡ with_size (levels_at o.sizes (contents m) o.id) (pos long)
  levels = levels_same (contents m) (contents (with_block n bytes m)) o.sizes o.id agree ∙ ap (λ (z : ℤ). with_size (levels_at o.sizes (contents m) o.id) z) held.size

  kept : KeepsInode (contents m o.id) (contents (with_block n bytes m) o.id)
  kept = let e = agree o.id (has_first o.id (arrays_at o.sizes (contents m) o.id)) in subst (KeepsInode (contents m o.id)) (sym e) (keeps_inode_none (contents m o.id))

  fits : long ≤ o.sizes.block_size * length (places_at o.sizes (contents m) o.id)
  fits = let h = held.owns.stands.sound.size_high in subst (λ (z : ℤ). natural z ≤ o.sizes.block_size * length (places_at o.sizes (contents m) o.id)) held.size h

  pub has_written : HasWritten o v long m (o.sizes.block_size * index + start) page told old new
  unfolding comes
  has_written = record {
    comes = comes o v long long m held n bytes mine levels fits kept told told_is old new set;
    places = places_now o v long long m held n bytes mine levels fits kept told told_is old new set;
    bytes =
        ap (flat_map (contents (with_block n bytes m))) (places_now o v long long m held n bytes mine levels fits kept told told_is old new set)
        ∙ write_of o.sizes.block_size (contents m) (contents (with_block n bytes m)) n start page
        (ap (λ (x : Option (List ℕ)). unwrap_or x []) (here o v long long m held n bytes mine) ∙ is) inside stays (places_at o.sizes (contents m) o.id) index
        (are_blocks o o.sizes.block_size m held.told sized) (omega (arith, once)) at;
  }

-- the size was written into the inode
module _ (o : Origin) (v : Room) (long more : ℕ) (m : ℕ → Option (List ℕ)) (held : Held o v long m) (bytes : List ℕ) (fits : more ≤ o.sizes.block_size * length (places_at o.sizes (contents m) o.id))
    (stream : stream_at bytes ≡ record (stream_at (contents m o.id)) { size = pos more }) (inode : KeepsInode (contents m o.id) bytes) (told : Option (ℕ → Option (List ℕ))) (told_is : told ≡ Some (with_block o.id bytes m)) (old new : ℕ → Bool) (set : (k : ℕ) → new k ≡ with_number o.id old k) where
  size_mine : Has (whole_at o.sizes (contents m) o.id) o.id
  size_mine = has_left (frame_at o.sizes (contents m) o.id) (places_at o.sizes (contents m) o.id) o.id (has_first o.id (arrays_at o.sizes (contents m) o.id))

  none_else : (k : ℕ) → 0 < times k (arrays_at o.sizes (contents m) o.id) + times k (places_at o.sizes (contents m) o.id) → k ≢ o.id
  none_else k has e =
      let once = held.owns.once o.id in
      let parts = times-append o.id (frame_at o.sizes (contents m) o.id) (places_at o.sizes (contents m) o.id) in
      let first : times o.id (o.id ∷ arrays_at o.sizes (contents m) o.id) ≡ 1 + times o.id (arrays_at o.sizes (contents m) o.id) = first_counted o.id (arrays_at o.sizes (contents m) o.id) in
      let more : 0 < times o.id (arrays_at o.sizes (contents m) o.id) + times o.id (places_at o.sizes (contents m) o.id) = subst (λ (k : ℕ). 0 < times k (arrays_at o.sizes (contents m) o.id) + times k (places_at o.sizes (contents m) o.id)) e has in
      omega (arith, once, parts, first, more)

  size_stays : (k : ℕ) → k ≢ o.id → contents (with_block o.id bytes m) k ≡ contents m k
  size_stays k apart = ap (λ (x : Option (List ℕ)). unwrap_or x []) (other o v long more m held o.id bytes size_mine k apart)

  is_here : contents (with_block o.id bytes m) o.id ≡ bytes
  is_here = ap (λ (x : Option (List ℕ)). unwrap_or x []) (here o v long more m held o.id bytes size_mine)

  size_agree : Agree (contents m) (contents (with_block o.id bytes m)) (arrays_at o.sizes (contents m) o.id)
  size_agree k has = size_stays k (none_else k (let h : 0 < times k (arrays_at o.sizes (contents m) o.id) = has in omega (arith, h)))

  now_stream : stream_at (contents (with_block o.id bytes m) o.id) ≡ record (stream_at (contents m o.id)) { size = pos more }
  now_stream = ap stream_at is_here ∙ stream

  size_levels : levels_at o.sizes (contents (with_block o.id bytes m)) o.id ≡ with_size (levels_at o.sizes (contents m) o.id) (pos more)
  size_levels =
      levels_but (contents m) (contents (with_block o.id bytes m)) o.sizes o.id size_agree (ap (λ (t : Stream). t.indirect) now_stream) (ap (λ (t : Stream). t.double_indirect) now_stream)
      ∙ ap (λ (t : Stream). record (levels_at o.sizes (contents m) o.id) { stream = t }) now_stream

  size_kept : KeepsInode (contents m o.id) (contents (with_block o.id bytes m) o.id)
  size_kept = subst (KeepsInode (contents m o.id)) (sym is_here) inode

  all_same : (xs : List ℕ) → ((k : ℕ) → Has xs k → k ≢ o.id) → flat_map (contents (with_block o.id bytes m)) xs ≡ flat_map (contents m) xs
  all_same [] apart = refl
  all_same (x ∷ xs) apart = ap₂ (λ (a b : List ℕ). a ++ b) (size_stays x (apart x (has_first x xs))) (all_same xs (λ k has. apart k (has_rest x xs k has)))

  pub has_size : HasSize o v more m told old new
  unfolding comes
  has_size = record {
    comes = comes o v long more m held o.id bytes size_mine size_levels fits size_kept told told_is old new set;
    bytes =
        ap (flat_map (contents (with_block o.id bytes m))) (places_now o v long more m held o.id bytes size_mine size_levels fits size_kept told told_is old new set)
        ∙ all_same (places_at o.sizes (contents m) o.id) (λ k has. none_else k (let h : 0 < times k (places_at o.sizes (contents m) o.id) = has in omega (arith, h)));
  }
