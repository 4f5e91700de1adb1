-- What a cut has to show of the levels after it, when a run of blocks of the stream goes, and when an array goes.
use Rattle.std.proofs.Common.{◌≡◌, ◌<◌, ◌+◌, ◌∙◌, ℕ, zero, suc, List, [], ◌∷◌, ◌++◌, Bool, Option, refl, sym, ap, subst, arith}
use Rattle.std.specs.Prelude.{IsSome}
use Rattle.bfs_base.specs.Lists.{times, Has, AreSame}
use Rattle.bfs_bitmap.specs.Runs.{Room, Fits}
use Rattle.bfs_stream.specs.Sizes.{Origin}
use Rattle.bfs_stream.specs.Places.{Levels, levels_at, places_of, arrays_of, arrays_at, places_at, frame_at, whole_at, HasLevels}
use Rattle.bfs_stream.specs.Told.{contents, AreTold}
use Rattle.bfs_stream.specs.Grown.{Owns, HasWritten, KeepsRest}
use Rattle.bfs_stream.specs.Trimmed.{Gave, Trimmed, KeepsLevels}
use Rattle.bfs_stream.proofs.Doubles.{times-append}
use Rattle.bfs_stream.proofs.Equal.{same_map}
use Rattle.bfs_cuts.proofs.Cuts.{fits_written, trimmed_is, touched_is, levels_now}
use Rattle.bfs_stream.proofs.Writes.{IsBitBlockOf}

module _ (o : Origin) (v now : Room) (hand : List ℕ) (m m1 : ℕ → Option (List ℕ)) (told : Option (ℕ → Option (List ℕ))) (ws : List ℕ) (l : Levels) (owns : Owns o v [] m)
    (written : (k : ℕ) → times k ws ≡ 0 → m1 k ≡ m k) (inside : (k : ℕ) → Has ws k → Has (frame_at o.sizes (contents m) o.id) k) where
  -- the bitmap fits before the run is given back
  pub fits_before : Fits v m1
  fits_before = fits_written o v now hand m m1 told ws [] l owns written inside

  module _ (levels1 : levels_at o.sizes (contents m1) o.id ≡ l) (sound : HasLevels o.sizes l) (told_ws : (k : ℕ) → Has ws k → IsSome (m1 k)) (rest_kept : KeepsRest (contents m o.id) (contents m1 o.id)) where
    frame : List ℕ
    frame = frame_at o.sizes (contents m) o.id

    are_told : ((k : ℕ) → Has (o.id ∷ arrays_of o.sizes l) k → Has (frame_at o.sizes (contents m) o.id) k) → AreTold m1 (o.id ∷ arrays_of o.sizes l)
    are_told keeps k has = by_count (times k ws) refl
      where
        by_count : (n : ℕ) → times k ws ≡ n → IsSome (m1 k)
        by_count zero e = subst (λ (x : Option (List ℕ)). IsSome x) (sym (written k e)) (owns.stands.told k (keeps k has))
        by_count (suc n) e = told_ws k (let h : 0 < times k ws = omega (arith, e) in h)

    left_sum : (k : ℕ) → times k (hand ++ ((o.id ∷ arrays_of o.sizes l) ++ places_of o.sizes l)) ≡ times k hand + (times k (o.id ∷ []) + times k (arrays_of o.sizes l) + times k (places_of o.sizes l))
    left_sum k =
        times-append k hand ((o.id ∷ arrays_of o.sizes l) ++ places_of o.sizes l)
        ∙ ap (λ (n : ℕ). times k hand + n)
        (times-append k (o.id ∷ arrays_of o.sizes l) (places_of o.sizes l) ∙ ap (λ (n : ℕ). n + times k (places_of o.sizes l)) (times-append k (o.id ∷ []) (arrays_of o.sizes l)))

    whole_sum : (k : ℕ) → times k (whole_at o.sizes (contents m) o.id) ≡ times k (o.id ∷ []) + times k (arrays_at o.sizes (contents m) o.id) + times k (places_at o.sizes (contents m) o.id)
    whole_sum k =
        times-append k (frame_at o.sizes (contents m) o.id) (places_at o.sizes (contents m) o.id)
        ∙ ap (λ (n : ℕ). n + times k (places_at o.sizes (contents m) o.id)) (times-append k (o.id ∷ []) (arrays_at o.sizes (contents m) o.id))

    -- the last blocks of the stream went, and some of its arrays
    module _ (gone went : List ℕ) (hand_is : (k : ℕ) → times k hand ≡ times k gone + times k went) (places : places_at o.sizes (contents m) o.id ≡ places_of o.sizes l ++ gone)
        (arrays : (k : ℕ) → times k (arrays_at o.sizes (contents m) o.id) ≡ times k went + times k (arrays_of o.sizes l)) (still : (k : ℕ) → Has ws k → Has (o.id ∷ arrays_of o.sizes l) k) where
      pub arrays_keep : (k : ℕ) → Has (o.id ∷ arrays_of o.sizes l) k → Has (frame_at o.sizes (contents m) o.id) k
      arrays_keep k has =
          let some : 0 < times k (o.id ∷ arrays_of o.sizes l) = has in
          let a = times-append k (o.id ∷ []) (arrays_of o.sizes l) in
          let b = times-append k (o.id ∷ []) (arrays_at o.sizes (contents m) o.id) in
          let c = arrays k in
          let all : 0 < times k ((o.id ∷ []) ++ arrays_at o.sizes (contents m) o.id) = omega (arith, some, a, b, c) in all

      arrays_same : AreSame (whole_at o.sizes (contents m) o.id) (hand ++ ((o.id ∷ arrays_of o.sizes l) ++ places_of o.sizes l))
      arrays_same k =
          let a = whole_sum k in
          let b : times k (places_at o.sizes (contents m) o.id) ≡ times k (places_of o.sizes l) + times k gone = ap (times k) places ∙ times-append k (places_of o.sizes l) gone in
          let c = arrays k in
          let d = left_sum k in
          let e = hand_is k in
          omega (arith, a, b, c, d, e)

      pub arrays_cut : (old new : ℕ → Bool) → Gave v now hand m1 told → now ≡ record v { given = now.given; tally = now.tally } → HasWritten (IsBitBlockOf v hand) old new ws → Trimmed o v now m gone told old new
      arrays_cut old new gave rest changes =
          trimmed_is o v now hand m m1 told ws gone l owns written inside levels1 sound places arrays_same arrays_keep (are_told arrays_keep) rest_kept gave rest still old new changes

      pub arrays_touched : (old new : ℕ → Bool) (gave : Gave v now hand m1 told) (rest : now ≡ record v { given = now.given; tally = now.tally }) (changes : HasWritten (IsBitBlockOf v hand) old new ws) → (arrays_cut old new gave rest changes).touched ≡ ws
      unfolding arrays_cut
      arrays_touched old new gave rest changes =
          touched_is o v now hand m m1 told ws gone l owns written inside levels1 sound places arrays_same arrays_keep (are_told arrays_keep) rest_kept gave rest still old new changes

      -- the levels after it
      pub arrays_levels : (gave : Gave v now hand m1 told) → now ≡ record v { given = now.given; tally = now.tally } → levels_at o.sizes (contents gave.map) o.id ≡ l
      arrays_levels gave rest = levels_now o v now hand m m1 told ws gone l owns written inside levels1 sound places arrays_same arrays_keep (are_told arrays_keep) rest_kept gave rest

    -- a run of the stream's blocks went, and no array
    module _ (places : places_at o.sizes (contents m) o.id ≡ places_of o.sizes l ++ hand) (arrays : arrays_of o.sizes l ≡ arrays_at o.sizes (contents m) o.id) (keeps : KeepsLevels (levels_at o.sizes (contents m) o.id) l) where
      no_more : (k : ℕ) → times k hand ≡ times k hand + times k []
      no_more k = omega arith

      arrays_all : (k : ℕ) → times k (arrays_at o.sizes (contents m) o.id) ≡ times k [] + times k (arrays_of o.sizes l)
      arrays_all k = let e : times k (arrays_of o.sizes l) ≡ times k (arrays_at o.sizes (contents m) o.id) = ap (times k) arrays in omega (arith, e)

      blocks_still : (k : ℕ) → Has ws k → Has (o.id ∷ arrays_of o.sizes l) k
      blocks_still k has = subst (λ (x : List ℕ). Has (o.id ∷ x) k) (sym arrays) (inside k has)

      pub blocks_cut : (old new : ℕ → Bool) → Gave v now hand m1 told → now ≡ record v { given = now.given; tally = now.tally } → HasWritten (IsBitBlockOf v hand) old new ws
          → (t : Trimmed o v now m hand told old new) × KeepsLevels (levels_at o.sizes (contents m) o.id) (levels_at o.sizes (contents t.map) o.id)
      blocks_cut old new gave rest changes =
          let t = arrays_cut hand [] no_more places arrays_all blocks_still old new gave rest changes in
          let lv = arrays_levels hand [] no_more places arrays_all blocks_still gave rest in
          (t, subst (λ (x : ℕ → Option (List ℕ)). KeepsLevels (levels_at o.sizes (contents m) o.id) (levels_at o.sizes (contents x) o.id)) (same_map gave.map t.map told gave.is t.is) (subst (KeepsLevels (levels_at o.sizes (contents m) o.id)) (sym lv) keeps))
