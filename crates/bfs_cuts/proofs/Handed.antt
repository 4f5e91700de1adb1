-- Runs that a level names were given back one after the other.
use Rattle.std.proofs.Common.{◌≡◌, ◌≤◌, ◌<◌, ◌+◌, ◌-◌, ◌∙◌, ℕ, zero, suc, List, [], ◌∷◌, ◌++◌, length, take, drop, Bool, true, false, cond, Option, Some, None, unwrap_or, refl, sym, ap, subst, arith}
use Rattle.std.specs.Prelude.{◌==◌, slice_get, IsSome}
use Rattle.bfs_base.specs.Lists.{Has}
use Rattle.bfs_bytes.specs.declared.Run.{Run}
use Rattle.bfs_bitmap.specs.Runs.{Room}
use Rattle.bfs_stream.specs.Sizes.{Sizes, Origin}
use Rattle.bfs_stream.specs.Places.{Levels, arrays_of, places_of, run_blocks, blocks_of, used_runs, array_runs, fields, frame_at}
use Rattle.bfs_stream.specs.Told.{contents, AreTold}
use Rattle.bfs_stream.specs.Grown.{Owns, AreTables, table_runs}
use Rattle.bfs_stream.specs.Trimmed.{Gave}
use Rattle.bfs_stream.specs.declared.table.Tables.{Tables}
use Rattle.bfs_stream.proofs.Doubles.{used_at}
use Rattle.bfs_stream.proofs.Appends.{appended_blocks}
use Rattle.bfs_stream.proofs.Frames.{array_same}
use Rattle.bfs_cuts.proofs.Gives.{gave_frame, gave_levels}

take_next : (xs : List Run) (i : ℕ) (x : Run) → slice_get xs i ≡ Some x → take (suc i) xs ≡ take i xs ++ x ∷ []
take_next [] i x e = let bad : None ≡ Some x = e in cc
take_next (y ∷ xs) zero x e = let f : Some y ≡ Some x = e in let g : y ≡ x = cc in ap (λ (z : Run). z ∷ []) g
take_next (y ∷ xs) (suc i) x e = ap (λ (l : List Run). y ∷ l) (take_next xs i x e)

drop_get : (xs : List Run) (n i : ℕ) → slice_get (drop n xs) i ≡ slice_get xs (n + i)
drop_get xs zero i = let e : 0 + i ≡ i = omega arith in ap (slice_get xs) (sym e)
drop_get [] (suc n) i = refl
drop_get (x ∷ xs) (suc n) i = let e : suc n + i ≡ suc (n + i) = omega arith in drop_get xs n i ∙ ap (slice_get (x ∷ xs)) (sym e)

-- a place below the number of used runs has one of them
used_there : (rs : List Run) (i : ℕ) (x : Run) → i < length (used_runs rs) → slice_get rs i ≡ Some x → slice_get (used_runs rs) i ≡ Some x
used_there [] i x few e = absurd (omega (arith, few))
used_there (r ∷ rs) i x few e = by_len (r.len == 0) refl (λ k h g. used_there rs k x h g)
  where
    at : (j : ℕ) → j < length (r ∷ used_runs rs) → slice_get (r ∷ rs) j ≡ Some x → ((k : ℕ) → k < length (used_runs rs) → slice_get rs k ≡ Some x → slice_get (used_runs rs) k ≡ Some x) → slice_get (r ∷ used_runs rs) j ≡ Some x
    at zero h f rest = f
    at (suc j) h f rest = rest j (omega (arith, h)) f

    by_len : (b : Bool) → (r.len == 0) ≡ b → ((k : ℕ) → k < length (used_runs rs) → slice_get rs k ≡ Some x → slice_get (used_runs rs) k ≡ Some x) → slice_get (cond (r.len == 0) [] (r ∷ used_runs rs)) i ≡ Some x
    by_len true f rest = let none : length (cond (r.len == 0) [] (r ∷ used_runs rs)) ≡ 0 = ap (λ (b : Bool). length (cond b [] (r ∷ used_runs rs))) f in absurd (omega (arith, few, none))
    by_len false f rest =
        let long : i < length (r ∷ used_runs rs) = subst (λ (b : Bool). i < length (cond b [] (r ∷ used_runs rs))) f few in
        ap (λ (b : Bool). slice_get (cond b [] (r ∷ used_runs rs)) i) f ∙ at i long e rest

-- one more of the used runs
pub next_blocks : (s : Sizes) (rs : List Run) (from i next : ℕ) (x : Run) → next ≡ suc i → from + i < length (used_runs rs) → slice_get rs (from + i) ≡ Some x → blocks_of s (take next (drop from (used_runs rs))) ≡ blocks_of s (take i (drop from (used_runs rs))) ++ run_blocks s x
next_blocks s rs from i next x e few at =
    ap (λ (n : ℕ). blocks_of s (take n (drop from (used_runs rs)))) e
    ∙ ap (blocks_of s) (take_next (drop from (used_runs rs)) i x (drop_get (used_runs rs) from i ∙ used_there rs (from + i) x few at))
    ∙ appended_blocks s (take i (drop from (used_runs rs))) x

pub used_at_place : (rs : List Run) (i : ℕ) (x : Run) → i < length (used_runs rs) → slice_get rs i ≡ Some x → slice_get (used_runs rs) i ≡ Some x
used_at_place rs i x few at = used_there rs i x few at

pub take_all : (xs : List Run) (n : ℕ) → length xs ≤ n → take n xs ≡ xs
take_all [] zero few = refl
take_all [] (suc n) few = refl
take_all (x ∷ xs) zero few = absurd (omega (arith, few))
take_all (x ∷ xs) (suc n) few = ap (λ (l : List Run). x ∷ l) (take_all xs n (omega (arith, few)))

pub length-drop : (xs : List Run) (n : ℕ) → length (drop n xs) ≡ length xs - n
length-drop xs zero = omega arith
length-drop [] (suc n) = omega arith
length-drop (x ∷ xs) (suc n) = length-drop xs n ∙ (let e : length xs - n ≡ suc (length xs) - suc n = omega arith in e)

-- an array of the stream has the same runs after blocks were given back
module _ (o : Origin) (v now : Room) (hand : List ℕ) (m : ℕ → Option (List ℕ)) (told : Option (ℕ → Option (List ℕ))) (owns : Owns o v [] m) (gave : Gave v now hand m told) (rest : now ≡ record v { given = now.given; tally = now.tally }) where
  module _ (array : Run) (inside : (k : ℕ) → Has (run_blocks o.sizes array) k → Has (frame_at o.sizes (contents m) o.id) k) where
    pub array_stays : array_runs o.sizes (contents gave.map) array ≡ array_runs o.sizes (contents m) array
    array_stays = array_same (contents m) (contents gave.map) o.sizes array (λ k has. ap (λ (x : Option (List ℕ)). unwrap_or x []) (gave_frame o v now hand m told owns gave rest k (inside k has)))

    pub array_told : AreTold gave.map (run_blocks o.sizes array)
    array_told k has = subst (λ (x : Option (List ℕ)). IsSome x) (sym (gave_frame o v now hand m told owns gave rest k (inside k has))) (owns.stands.told k (inside k has))

    pub inside_stays : (k : ℕ) → Has (run_blocks o.sizes array) k → Has (frame_at o.sizes (contents gave.map) o.id) k
    inside_stays k has = subst (λ (x : Levels). Has (o.id ∷ arrays_of o.sizes x) k) (sym (gave_levels o v now hand m told owns gave rest)) (inside k has)

  -- and so have the tables of the double indirect level
  pub tables_stay : (t : Tables) → AreTables o m t → AreTables o gave.map t
  tables_stay t are =
      let lv = gave_levels o v now hand m told owns gave rest in
      let array_now : t.array ≡ (fields o.sizes (contents gave.map) o.id).double_indirect = are.0 ∙ sym (ap (λ (x : Levels). x.stream.double_indirect) lv) in (
        array_now,
        are.1 ∙ sym (ap (λ (x : Levels). length (used_runs x.arrays)) lv),
        are.2 ∙ ap (λ (r : Run). length (used_runs (table_runs o.sizes (contents m) r))) are.0 ∙ sym (ap (λ (x : Levels). length (used_runs x.runs)) lv) ∙ sym (ap (λ (r : Run). length (used_runs (table_runs o.sizes (contents gave.map) r))) array_now),
        are.3 ∙ sym (ap (λ (x : Levels). length (places_of o.sizes x)) lv),
      )

  pub table_runs_stay : (array : Run) → array ≡ (fields o.sizes (contents m) o.id).double_indirect → table_runs o.sizes (contents gave.map) array ≡ table_runs o.sizes (contents m) array
  table_runs_stay array is =
      let lv = gave_levels o v now hand m told owns gave rest in
      let now_is : array ≡ (fields o.sizes (contents gave.map) o.id).double_indirect = is ∙ sym (ap (λ (x : Levels). x.stream.double_indirect) lv) in
      ap (λ (r : Run). table_runs o.sizes (contents gave.map) r) now_is ∙ ap (λ (x : Levels). x.runs) lv ∙ sym (ap (λ (r : Run). table_runs o.sizes (contents m) r) is)

-- blocks are given back under another name of theirs
pub gave_as : (v now : Room) (xs ys : List ℕ) (m : ℕ → Option (List ℕ)) (told : Option (ℕ → Option (List ℕ))) → xs ≡ ys → Gave v now xs m told → Gave v now ys m told
gave_as v now xs ys m told e gave = subst (λ (l : List ℕ). Gave v now l m told) e gave

-- a place below the number of used runs has a run
pub used_run : (rs : List Run) (i : ℕ) → i < length (used_runs rs) → (run : Run) × (slice_get rs i ≡ Some run) × (slice_get (used_runs rs) i ≡ Some run)
used_run rs i few = let at = some_at (used_runs rs) i few in (at.0, used_at rs i at.0 at.1, at.1)
  where
    some_at : (xs : List Run) (j : ℕ) → j < length xs → (run : Run) × (slice_get xs j ≡ Some run)
    some_at [] j h = absurd (omega (arith, h))
    some_at (x ∷ xs) zero h = (x, refl)
    some_at (x ∷ xs) (suc j) h = some_at xs j (omega (arith, h))
