-- A stream beside one whose pages were written or added.
use Rattle.std.proofs.Common.{◌≡◌, ◌≤◌, ◌<◌, ◌-◌, ◌*◌, ◌∙◌, ℕ, zero, suc, List, [], ◌∷◌, ◌++◌, Bool, true, false, ◌&&◌, Option, unwrap_or, refl, sym, ap, subst, arith}
use Rattle.std.specs.Prelude.{◌==◌, IsSome}
use Rattle.bfs_base.specs.Lists.{times, Has, Agree}
use Rattle.bfs_bitmap.specs.Runs.{Room, is_free, per_block}
use Rattle.bfs_stream.specs.Sizes.{Origin}
use Rattle.bfs_stream.specs.Places.{Levels, levels_at, arrays_of, places_of, places_at, frame_at, whole_at, HasLevels}
use Rattle.bfs_stream.specs.Told.{contents}
use Rattle.bfs_stream.specs.Grown.{Owns, AreApart, HasStayed, IsOutside}
use Rattle.bfs_stream.proofs.Frames.{levels_same, agree_left}
use Rattle.bfs_stream.proofs.Frames.{has_left}
use Rattle.bfs_stream_pages.specs.Moves.{Moved}

module _ (o p : Origin) (v now : Room) (m map : ℕ → Option (List ℕ)) (moved : Moved o v now m map) (owns : Owns p v [] m) (apart : AreApart o p m) where
  -- what is this one's was used, so that the other has not taken it
  gone : (k : ℕ) → Has (whole_at p.sizes (contents m) p.id) k → times k (whole_at o.sizes (contents map) o.id) ≡ 0
  gone k has = by_count (times k (whole_at o.sizes (contents map) o.id)) refl
    where
      by_count : (n : ℕ) → times k (whole_at o.sizes (contents map) o.id) ≡ n → times k (whole_at o.sizes (contents map) o.id) ≡ 0
      by_count zero e = e
      by_count (suc n) e =
          let f = moved.were_free k (let h : 0 < times k (whole_at o.sizes (contents map) o.id) = omega (arith, e) in h) (apart k has) in
          let u = owns.taken k has in
          let bad : true ≡ false = sym f ∙ u in cc

  same : (k : ℕ) → Has (whole_at p.sizes (contents m) p.id) k → map k ≡ m k
  same k has = moved.others k (owns.outside k has) (gone k has)

  agree : Agree (contents m) (contents map) (whole_at p.sizes (contents m) p.id)
  agree k has = ap (λ (x : Option (List ℕ)). unwrap_or x []) (same k has)

  levels : levels_at p.sizes (contents map) p.id ≡ levels_at p.sizes (contents m) p.id
  levels = levels_same (contents m) (contents map) p.sizes p.id (agree_left (contents m) (contents map) (frame_at p.sizes (contents m) p.id) (places_at p.sizes (contents m) p.id) agree)

  mine : (k : ℕ) → Has (whole_at p.sizes (contents map) p.id) k → Has (whole_at p.sizes (contents m) p.id) k
  mine k has = subst (λ (x : Levels). Has ((p.id ∷ arrays_of p.sizes x) ++ places_of p.sizes x) k) levels has

  stays_used : (k : ℕ) → is_free v m k ≡ false → is_free now map k ≡ false
  stays_used k used = moved.free k ∙ ap (λ (b : Bool). b && (times k (whole_at o.sizes (contents map) o.id) == 0)) used

  pub has_stayed : HasStayed o p now m map
  has_stayed = record {
    same = same;
    levels = levels;
    owns = record {
      stands = record {
        told = λ k has.
            let before : Has (frame_at p.sizes (contents m) p.id) k = subst (λ (x : Levels). Has (p.id ∷ arrays_of p.sizes x) k) levels has in
            subst (λ (x : Option (List ℕ)). IsSome x) (sym (same k (has_left (frame_at p.sizes (contents m) p.id) (places_at p.sizes (contents m) p.id) k before))) (owns.stands.told k before);
        sound = subst (HasLevels p.sizes) (sym levels) owns.stands.sound;
      };
      once = λ k. subst (λ (x : Levels). times k ((p.id ∷ arrays_of p.sizes x) ++ places_of p.sizes x) ≤ 1) (sym levels) (owns.once k);
      taken = λ k has. stays_used k (owns.taken k (mine k has));
      outside = λ k has. subst (λ (x : Room). IsOutside x k) (sym moved.rest) (owns.outside k (mine k has));
      bits = λ k low. stays_used k (owns.bits k (subst (λ (x : Room). per_block x * (k - 1) < x.blocks) moved.rest low));
      fits = moved.owns.fits;
    };
    apart = λ k has. gone k (mine k has);
  }
