-- A stream beside one that has been cut.
use Rattle.std.proofs.Common.{◌≡◌, ◌≤◌, ◌<◌, ◌-◌, ◌*◌, ◌∙◌, ℕ, zero, suc, List, [], ◌∷◌, ◌++◌, Bool, false, Option, unwrap_or, refl, sym, ap, subst, arith}
use Rattle.std.specs.Prelude.{IsSome}
use Rattle.bfs_base.specs.Lists.{times, Has, Agree}
use Rattle.bfs_bitmap.specs.Runs.{Room, is_free, per_block}
use Rattle.bfs_stream.specs.Sizes.{Origin}
use Rattle.bfs_stream.specs.Places.{Levels, levels_at, arrays_of, places_of, places_at, frame_at, whole_at, HasLevels}
use Rattle.bfs_stream.specs.Told.{contents}
use Rattle.bfs_stream.specs.Grown.{Owns, AreApart, HasStayed, IsOutside}
use Rattle.bfs_stream.specs.Trimmed.{Trimmed}
use Rattle.bfs_stream.proofs.Doubles.{times-append}
use Rattle.bfs_stream.proofs.Frames.{levels_same, agree_left, has_left}

module _ (o p : Origin) (v now : Room) (m : ℕ → Option (List ℕ)) (gone : List ℕ) (told : Option (ℕ → Option (List ℕ))) (old new : ℕ → Bool) (trimmed : Trimmed o v now m gone told old new) (rest : now ≡ record v { given = now.given; tally = now.tally }) (owns : Owns p v [] m) (apart : AreApart o p m) where
  frame_apart : (k : ℕ) → Has (whole_at p.sizes (contents m) p.id) k → times k (frame_at o.sizes (contents m) o.id) ≡ 0
  frame_apart k has = let none = apart k has in let parts = times-append k (frame_at o.sizes (contents m) o.id) (places_at o.sizes (contents m) o.id) in omega (arith, none, parts)

  same : (k : ℕ) → Has (whole_at p.sizes (contents m) p.id) k → trimmed.map k ≡ m k
  same k has = trimmed.others k (owns.outside k has) (by_count (times k trimmed.touched) refl)
    where
      by_count : (n : ℕ) → times k trimmed.touched ≡ n → times k trimmed.touched ≡ 0
      by_count zero e = e
      by_count (suc n) e =
          let some : 0 < times k (frame_at o.sizes (contents m) o.id) = trimmed.keeps k (trimmed.still k (let h : 0 < times k trimmed.touched = omega (arith, e) in h)) in
          let none = frame_apart k has in
          absurd (omega (arith, some, none))

  agree : Agree (contents m) (contents trimmed.map) (whole_at p.sizes (contents m) p.id)
  agree k has = ap (λ (x : Option (List ℕ)). unwrap_or x []) (same k has)

  levels : levels_at p.sizes (contents trimmed.map) p.id ≡ levels_at p.sizes (contents m) p.id
  levels = levels_same (contents m) (contents trimmed.map) p.sizes p.id (agree_left (contents m) (contents trimmed.map) (frame_at p.sizes (contents m) p.id) (places_at p.sizes (contents m) p.id) agree)

  mine : (k : ℕ) → Has (whole_at p.sizes (contents trimmed.map) p.id) k → Has (whole_at p.sizes (contents m) p.id) k
  mine k has = subst (λ (x : Levels). Has ((p.id ∷ arrays_of p.sizes x) ++ places_of p.sizes x) k) levels has

  stays_used : (k : ℕ) → is_free v m k ≡ false → is_free now trimmed.map k ≡ false
  stays_used k used = trimmed.free k ∙ used

  pub has_stayed : HasStayed o p now m trimmed.map
  has_stayed = record {
    same = same;
    levels = levels;
    owns = record {
      stands = record {
        told = λ k has.
            let before : Has (frame_at p.sizes (contents m) p.id) k = subst (λ (x : Levels). Has (p.id ∷ arrays_of p.sizes x) k) levels has in
            subst (λ (x : Option (List ℕ)). IsSome x) (sym (same k (has_left (frame_at p.sizes (contents m) p.id) (places_at p.sizes (contents m) p.id) k before))) (owns.stands.told k before);
        sound = subst (HasLevels p.sizes) (sym levels) owns.stands.sound;
      };
      once = λ k. subst (λ (x : Levels). times k ((p.id ∷ arrays_of p.sizes x) ++ places_of p.sizes x) ≤ 1) (sym levels) (owns.once k);
      taken = λ k has. stays_used k (owns.taken k (mine k has));
      outside = λ k has. subst (λ (x : Room). IsOutside x k) (sym rest) (owns.outside k (mine k has));
      bits = λ k low. stays_used k (owns.bits k (subst (λ (x : Room). per_block x * (k - 1) < x.blocks) rest low));
      fits = trimmed.owns.fits;
    };
    apart = λ k has. let few = trimmed.fewer k in let none = apart k (mine k has) in omega (arith, few, none);
  }
