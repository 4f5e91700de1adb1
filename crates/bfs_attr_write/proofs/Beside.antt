-- What stands beside an exchange of blocks.
use Rattle.std.proofs.Common.{◌≡◌, inl, inr, ◌≤◌, ◌<◌, ◌-◌, ◌*◌, ◌∙◌, ℕ, zero, suc, List, [], ◌∷◌, ◌++◌, Bool, true, false, ◌&&◌, Option, refl, sym, ap, subst, arith}
use Rattle.std.specs.Prelude.{◌==◌, IsSome, unwrap_or}
use Rattle.std.specs.List.{flat_map}
use Rattle.bfs_base.specs.Lists.{times, Has, IsOnce, Agree}
use Rattle.bfs_bitmap.specs.Runs.{Room, per_block, is_free}
use Rattle.bfs_stream.specs.Sizes.{Origin}
use Rattle.bfs_stream.specs.Places.{Levels, levels_at, arrays_of, places_of, places_at, frame_at, whole_at, HasLevels}
use Rattle.bfs_stream.specs.Told.{contents}
use Rattle.bfs_stream.specs.Grown.{IsOutside}
use Rattle.bfs_stream.proofs.Doubles.{times-append}
use Rattle.bfs_stream.proofs.Frames.{has_left, has_right, agree_left, levels_same}
use Rattle.bfs_stream.proofs.Taking.{some_test, and_false}
use Rattle.bfs_stream_pages.specs.Held.{Held}
use Rattle.bfs_sound.specs.Owners.{In}
use Rattle.bfs_attr_write.specs.Exchanged.{Exchanged}

-- what holds at each block of each part holds at each of all
pub each_of : {X : Type 0} (P : ℕ → Type 0) (f : X → List ℕ) (xs : List X) → ((x : X) → In x xs → (k : ℕ) → Has (f x) k → P k) → (k : ℕ) → Has (flat_map f xs) k → P k
each_of P f [] each k has = let bad : 0 < 0 = has in absurd (omega (arith, bad))
each_of P f (x ∷ xs) each k has = by_count (times k (f x)) refl (each_of P f xs (λ y i. each y (inr i)) k)
  where
    by_count : (n : ℕ) → times k (f x) ≡ n → (Has (flat_map f xs) k → P k) → P k
    by_count zero z rest =
        let parts = times-append k (f x) (flat_map f xs) in
        let h : 0 < times k (f x ++ flat_map f xs) = has in
        rest (let r : 0 < times k (flat_map f xs) = omega (arith, parts, h, z) in r)
    by_count (suc n) z rest = each x (inl refl) k (let r : 0 < times k (f x) = omega (arith, z) in r)

module _ (v now : Room) (m map : ℕ → Option (List ℕ)) (before after : List ℕ) (e : Exchanged v now m map before after) where
  -- what isn't free and hasn't gone hasn't come
  pub not_come : (k : ℕ) → is_free v m k ≡ false → times k before ≡ 0 → times k after ≡ 0
  not_come k used none = by_count (times k after) refl
    where
      by_count : (n : ℕ) → times k after ≡ n → times k after ≡ 0
      by_count zero z = z
      by_count (suc n) z = let f = e.were_free k (let h : 0 < times k after = omega (arith, z) in h) none in let bad : true ≡ false = sym f ∙ used in cc

  -- and isn't free since; nor is what has come
  pub still_used : (k : ℕ) → is_free v m k ≡ false → is_free now map k ≡ false
  still_used k used = e.free k ∙ ap (λ (b : Bool). b && (times k after == 0)) used

  pub come_used : (k : ℕ) → Has after k → is_free now map k ≡ false
  come_used k has = e.free k ∙ ap (λ (b : Bool). is_free v m k && b) (some_test (times k after) has) ∙ and_false (is_free v m k)

  pub still_outside : (k : ℕ) → IsOutside v k → IsOutside now k
  still_outside k out = subst (λ (x : Room). IsOutside x k) (sym e.rest) out

  pub bits_used : ((k : ℕ) → per_block v * (k - 1) < v.blocks → is_free v m k ≡ false) → (k : ℕ) → per_block now * (k - 1) < now.blocks → is_free now map k ≡ false
  bits_used used k low = still_used k (used k (subst (λ (x : Room). per_block x * (k - 1) < x.blocks) e.rest low))

  -- a block that isn't free, holds no bits and hasn't gone is the same
  pub block_same : (k : ℕ) → IsOutside v k → is_free v m k ≡ false → times k before ≡ 0 → map k ≡ m k
  block_same k out used none =
      let parts = times-append k before after in
      let gone = not_come k used none in
      e.others k out (omega (arith, parts, gone, none))

  -- no block is there twice
  pub once_beside : (beside : List ℕ) → ((k : ℕ) → Has beside k → is_free v m k ≡ false) → IsOnce (beside ++ before) → IsOnce after → IsOnce (beside ++ after)
  once_beside beside taken one two k = by_count (times k beside) refl
    where
      by_count : (n : ℕ) → times k beside ≡ n → times k (beside ++ after) ≤ 1
      by_count zero z =
          let parts = times-append k beside after in
          let few : times k after ≤ 1 = two k in
          omega (arith, parts, few, z)
      by_count (suc n) z =
          let parts = times-append k beside after in
          let all = times-append k beside before in
          let few : times k (beside ++ before) ≤ 1 = one k in
          let none : times k before ≡ 0 = omega (arith, all, few, z) in
          let gone = not_come k (taken k (let h : 0 < times k beside = omega (arith, z) in h)) none in
          omega (arith, parts, all, few, gone)

  -- a stream of which no block has gone
  module _ (o : Origin) (long : ℕ) (held : Held o v long m) (apart : (k : ℕ) → Has (whole_at o.sizes (contents m) o.id) k → times k before ≡ 0) where
    same : (k : ℕ) → Has (whole_at o.sizes (contents m) o.id) k → map k ≡ m k
    same k has = block_same k (held.owns.outside k has) (held.owns.taken k has) (apart k has)

    pub agree_beside : Agree (contents m) (contents map) (whole_at o.sizes (contents m) o.id)
    agree_beside k has = ap (λ (x : Option (List ℕ)). unwrap_or x []) (same k has)

    levels : levels_at o.sizes (contents map) o.id ≡ levels_at o.sizes (contents m) o.id
    levels = levels_same (contents m) (contents map) o.sizes o.id (agree_left (contents m) (contents map) (frame_at o.sizes (contents m) o.id) (places_at o.sizes (contents m) o.id) agree_beside)

    mine : (k : ℕ) → Has (whole_at o.sizes (contents map) o.id) k → Has (whole_at o.sizes (contents m) o.id) k
    mine k has = subst (λ (x : Levels). Has ((o.id ∷ arrays_of o.sizes x) ++ places_of o.sizes x) k) levels has

    in_frame : (k : ℕ) → Has (frame_at o.sizes (contents map) o.id) k → Has (frame_at o.sizes (contents m) o.id) k
    in_frame k has = subst (λ (x : Levels). Has (o.id ∷ arrays_of o.sizes x) k) levels has

    in_places : (k : ℕ) → Has (places_at o.sizes (contents map) o.id) k → Has (places_at o.sizes (contents m) o.id) k
    in_places k has = subst (λ (x : Levels). Has (places_of o.sizes x) k) levels has

    pub whole_beside : whole_at o.sizes (contents map) o.id ≡ whole_at o.sizes (contents m) o.id
    whole_beside = ap (λ (x : Levels). (o.id ∷ arrays_of o.sizes x) ++ places_of o.sizes x) levels

    pub held_beside : Held o now long map
    held_beside = record {
      owns = record {
        stands = record {
          told = λ k has.
              let before : Has (frame_at o.sizes (contents m) o.id) k = in_frame k has in
              subst (λ (x : Option (List ℕ)). IsSome x) (sym (same k (has_left (frame_at o.sizes (contents m) o.id) (places_at o.sizes (contents m) o.id) k before))) (held.owns.stands.told k before);
          sound = subst (HasLevels o.sizes) (sym levels) held.owns.stands.sound;
        };
        once = λ k. subst (λ (x : Levels). times k ((o.id ∷ arrays_of o.sizes x) ++ places_of o.sizes x) ≤ 1) (sym levels) (held.owns.once k);
        taken = λ k has. still_used k (held.owns.taken k (mine k has));
        outside = λ k has. still_outside k (held.owns.outside k (mine k has));
        bits = bits_used held.owns.bits;
        fits = e.fits;
      };
      told = λ k has.
          let before : Has (places_at o.sizes (contents m) o.id) k = in_places k has in
          subst (λ (x : Option (List ℕ)). IsSome x) (sym (same k (has_right (frame_at o.sizes (contents m) o.id) (places_at o.sizes (contents m) o.id) k before))) (held.told k before);
      size = ap (λ (x : Levels). x.stream.size) levels ∙ held.size;
    }
