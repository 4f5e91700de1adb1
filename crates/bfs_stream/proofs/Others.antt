-- A stream beside one that has grown.
use Rattle.std.proofs.Common.{◌≡◌, ◌≤◌, ◌<◌, ◌-◌, ◌*◌, ◌∙◌, ℕ, zero, suc, List, [], ◌∷◌, ◌++◌, Bool, true, false, ◌&&◌, Option, unwrap_or, refl, sym, ap, subst, arith}
use Rattle.std.specs.Prelude.{◌==◌, IsSome}
use Rattle.bfs_base.specs.Lists.{times, Has, Agree}
use Rattle.bfs_bitmap.specs.Runs.{Room, is_free, per_block}
use Rattle.bfs_stream.specs.Sizes.{Origin}
use Rattle.bfs_stream.specs.Places.{Levels, levels_at, arrays_of, places_of, places_at, frame_at, whole_at, HasLevels}
use Rattle.bfs_stream.specs.Told.{contents}
use Rattle.bfs_stream.specs.Grown.{Owns, Grown, AreApart, HasStayed, IsOutside}
use Rattle.bfs_stream.proofs.Doubles.{times-append}
use Rattle.bfs_stream.proofs.Frames.{levels_same, agree_left, has_left}

module _ (o p : Origin) (v now : Room) (m : ℕ → Option (List ℕ)) (fresh : List ℕ) (told : Option (ℕ → Option (List ℕ))) (old new : ℕ → Bool) (grown : Grown o v now m fresh told old new) (rest : now ≡ record v { tally = now.tally }) (owns : Owns p v [] m) (apart : AreApart o p m) where
  -- what is this one's was used, so that the other has not taken it
  gone : (k : ℕ) → Has (whole_at p.sizes (contents m) p.id) k → times k (whole_at o.sizes (contents grown.map) o.id) ≡ 0
  gone k has = by_count (times k (whole_at o.sizes (contents grown.map) o.id)) refl
    where
      by_count : (n : ℕ) → times k (whole_at o.sizes (contents grown.map) o.id) ≡ n → times k (whole_at o.sizes (contents grown.map) o.id) ≡ 0
      by_count zero e = e
      by_count (suc n) e =
          let f = grown.were_free k (let h : 0 < times k (whole_at o.sizes (contents grown.map) o.id) = omega (arith, e) in h) (apart k has) in
          let u = owns.taken k has in
          let bad : true ≡ false = sym f ∙ u in cc

  frame_gone : (k : ℕ) → Has (whole_at p.sizes (contents m) p.id) k → times k (frame_at o.sizes (contents grown.map) o.id) ≡ 0
  frame_gone k has = let none = gone k has in let parts = times-append k (frame_at o.sizes (contents grown.map) o.id) (places_at o.sizes (contents grown.map) o.id) in omega (arith, none, parts)

  same : (k : ℕ) → Has (whole_at p.sizes (contents m) p.id) k → grown.map k ≡ m k
  same k has = grown.others k (owns.outside k has) (frame_gone k has)

  agree : Agree (contents m) (contents grown.map) (whole_at p.sizes (contents m) p.id)
  agree k has = ap (λ (x : Option (List ℕ)). unwrap_or x []) (same k has)

  levels : levels_at p.sizes (contents grown.map) p.id ≡ levels_at p.sizes (contents m) p.id
  levels = levels_same (contents m) (contents grown.map) p.sizes p.id (agree_left (contents m) (contents grown.map) (frame_at p.sizes (contents m) p.id) (places_at p.sizes (contents m) p.id) agree)

  mine : (k : ℕ) → Has (whole_at p.sizes (contents grown.map) p.id) k → Has (whole_at p.sizes (contents m) p.id) k
  mine k has = subst (λ (x : Levels). Has ((p.id ∷ arrays_of p.sizes x) ++ places_of p.sizes x) k) levels has

  stays_used : (k : ℕ) → is_free v m k ≡ false → is_free now grown.map k ≡ false
  stays_used k used = grown.free k ∙ ap (λ (b : Bool). b && (times k (whole_at o.sizes (contents grown.map) o.id) == 0)) used

  pub has_stayed : HasStayed o p now m grown.map
  has_stayed = record {
    same = same;
    levels = levels;
    owns = record {
      stands = record {
        told = λ k has.
            let before : Has (frame_at p.sizes (contents m) p.id) k = subst (λ (x : Levels). Has (p.id ∷ arrays_of p.sizes x) k) levels has in
            subst (λ (x : Option (List ℕ)). IsSome x) (sym (same k (has_left (frame_at p.sizes (contents m) p.id) (places_at p.sizes (contents m) p.id) k before))) (owns.stands.told k before);
        sound = subst (HasLevels p.sizes) (sym levels) owns.stands.sound;
      };
      once = λ k. subst (λ (x : Levels). times k ((p.id ∷ arrays_of p.sizes x) ++ places_of p.sizes x) ≤ 1) (sym levels) (owns.once k);
      taken = λ k has. stays_used k (owns.taken k (mine k has));
      outside = λ k has. subst (λ (x : Room). IsOutside x k) (sym rest) (owns.outside k (mine k has));
      bits = λ k low. stays_used k (owns.bits k (subst (λ (x : Room). per_block x * (k - 1) < x.blocks) rest low));
      fits = grown.owns.fits;
    };
    apart = λ k has. gone k (mine k has);
  }
