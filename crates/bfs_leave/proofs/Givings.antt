-- What was given back, as the calls below say it.
use Rattle.std.proofs.Common.{◌≡◌, ◌≤◌, ◌<◌, ◌+◌, ◌⊎◌, inl, inr, ℕ, List, [], ◌∷◌, arith, Bool, true, Option}
use Rattle.bfs_base.specs.Lists.{times, Has}
use Rattle.bfs_bitmap.specs.Fills.{IsBitmapBlock}
use Rattle.bfs_bitmap.specs.Runs.{Room}
use Rattle.bfs_stream.specs.Places.{arrays_at, frame_at, places_at, whole_at}
use Rattle.bfs_stream.specs.Sizes.{Origin}
use Rattle.bfs_stream.specs.Told.{contents}
use Rattle.bfs_stream.specs.Trimmed.{Gave}
use Rattle.bfs_stream.proofs.Doubles.{times-append}
use Rattle.bfs_make.specs.Given.{HasGivenBack}
use Rattle.bfs_leave.specs.Given.{AreGivenBack}

-- blocks of which nothing was written
pub from_gave : (v now : Room) (xs : List ℕ) (m : ℕ → Option (List ℕ)) (told : Option (ℕ → Option (List ℕ))) (old new : ℕ → Bool) → Gave v now xs m told
    → ((k : ℕ) → new k ≡ true → (old k ≡ true) ⊎ IsBitmapBlock v k) → AreGivenBack v now xs m told old new
from_gave v now xs m told old new gave changed = record {
  map = gave.map;
  is = gave.is;
  fits = gave.fits;
  reserved = gave.reserved;
  marks = gave.marks;
  counted = gave.counted;
  others = λ k out none. gave.others k out;
  first = λ none. gave.first;
  written = λ k h. by_cause k (changed k h);
}
  where
    by_cause : (k : ℕ) → (old k ≡ true) ⊎ IsBitmapBlock v k → (old k ≡ true) ⊎ (IsBitmapBlock v k ⊎ Has xs k)
    by_cause k (inl e) = inl e
    by_cause k (inr bit) = inr (inl bit)

-- an inode's block is one of its blocks
own_few : (o : Origin) (m : ℕ → Option (List ℕ)) (k : ℕ) → times k (o.id ∷ []) ≤ times k (whole_at o.sizes (contents m) o.id)
own_few o m k =
    let a = times-append k (frame_at o.sizes (contents m) o.id) (places_at o.sizes (contents m) o.id) in
    let b : times k (frame_at o.sizes (contents m) o.id) ≡ times k (o.id ∷ []) + times k (arrays_at o.sizes (contents m) o.id) = times-append k (o.id ∷ []) (arrays_at o.sizes (contents m) o.id) in
    omega (arith, a, b)

-- an inode with all its blocks
pub from_inode : (o : Origin) (v now : Room) (m : ℕ → Option (List ℕ)) (told : Option (ℕ → Option (List ℕ))) (old new : ℕ → Bool) → HasGivenBack o v now m told old new
    → AreGivenBack v now (whole_at o.sizes (contents m) o.id) m told old new
from_inode o v now m told old new gave = record {
  map = gave.map;
  is = gave.is;
  fits = gave.fits;
  reserved = gave.reserved;
  marks = gave.marks;
  counted = λ once marked count. gave.counted marked count;
  others = λ k out none. gave.others k out (let f = own_few o m k in omega (arith, f, none));
  first = λ none. gave.first (let f = own_few o m 0 in omega (arith, f, none));
  written = λ k h. by_cause k (gave.written k h);
}
  where
    by_cause : (k : ℕ) → (old k ≡ true) ⊎ (IsBitmapBlock v k ⊎ Has (o.id ∷ []) k) → (old k ≡ true) ⊎ (IsBitmapBlock v k ⊎ Has (whole_at o.sizes (contents m) o.id) k)
    by_cause k (inl e) = inl e
    by_cause k (inr (inl bit)) = inr (inl bit)
    by_cause k (inr (inr h)) =
        let has : 0 < times k (o.id ∷ []) = h in
        let f = own_few o m k in
        inr (inr (let r : 0 < times k (whole_at o.sizes (contents m) o.id) = omega (arith, has, f) in r))
