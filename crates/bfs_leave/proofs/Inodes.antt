-- Inodes are given back one after the other.
use Rattle.std.proofs.Common.{◌≡◌, ◌≤◌, ◌<◌, ◌+◌, inl, inr, ℕ, zero, suc, List, [], ◌∷◌, ◌++◌, length, get_or, take, drop, append-nil, refl, sym, ap, ◌∙◌, subst, arith, Bool, not, Option, Some}
use Rattle.std.specs.Prelude.{◌==◌, ◌||◌, if◌then◌else◌}
use Rattle.std.proofs.lemmas.List.{append_assoc}
use Rattle.std.specs.List.{flat_map}
use Rattle.bfs_base.specs.Lists.{times}
use Rattle.bfs_super.specs.declared.geometry.Geometry.{Geometry}
use Rattle.bfs_bitmap.specs.Runs.{Room, Fits, per_block, is_reserved, marked}
use Rattle.bfs_stream.specs.Grown.{IsOfVolume, AreWritten, Owns}
use Rattle.bfs_stream.specs.Sizes.{Origin}
use Rattle.bfs_stream.specs.Trimmed.{AreMarked}
use Rattle.bfs_sound.specs.Volumes.{sizes}
use Rattle.bfs_sound.specs.Inodes.{inode_blocks}
use Rattle.bfs_sound.specs.Owners.{In}
use Rattle.bfs_shift.specs.Shifts.{volume_in}
use Rattle.bfs_make.specs.Given.{HasGivenBack}
use Rattle.bfs_leave.specs.Given.{AreGivenBack, AreLoose}
use Rattle.bfs_leave.proofs.Gathered.{none_given_back, none_map, given_twice, twice_map}
use Rattle.bfs_leave.proofs.Givings.{from_inode}
use Rattle.bfs_leave.proofs.Loosened.{first_owns, others_loose, other_same}

-- the same blocks, written otherwise
pub given_as : (v now : Room) (xs ys : List ℕ) (m : ℕ → Option (List ℕ)) (told : Option (ℕ → Option (List ℕ))) (old new : ℕ → Bool) → xs ≡ ys → AreGivenBack v now xs m told old new → AreGivenBack v now ys m told old new
given_as v now xs ys m told old new e gave = record {
  map = gave.map;
  is = gave.is;
  fits = gave.fits;
  reserved = subst (λ (l : List ℕ). (k : ℕ) → is_reserved now.given k ≡ (is_reserved v.given k || not (times k l == 0))) e gave.reserved;
  marks = subst (λ (l : List ℕ). (k : ℕ) → k < v.blocks → marked (per_block v) gave.map k ≡ (if times k l == 0 then marked (per_block v) m k else 0)) e gave.marks;
  counted = λ once are count. gave.counted (subst (λ (l : List ℕ). (k : ℕ) → times k l ≤ 1) (sym e) once) (subst (λ (l : List ℕ). AreMarked v l m) (sym e) are) count;
  others = λ k out none. gave.others k out (ap (times k) e ∙ none);
  first = λ none. gave.first (ap (times 0) e ∙ none);
  written = subst (λ (l : List ℕ). AreWritten v old new l) e gave.written;
}

flat_more : (f : ℕ → List ℕ) (xs : List ℕ) (x : ℕ) → flat_map f (xs ++ x ∷ []) ≡ flat_map f xs ++ f x
flat_more f [] x = append-nil (f x)
flat_more f (y ∷ xs) x = ap (λ (l : List ℕ). f y ++ l) (flat_more f xs x) ∙ sym (append_assoc (f y) (flat_map f xs) (f x))

drop_at : (xs : List ℕ) (i : ℕ) → i < length xs → drop i xs ≡ get_or xs i 0 ∷ drop (suc i) xs
drop_at [] i low = absurd (omega (arith, low))
drop_at (x ∷ xs) zero low = refl
drop_at (x ∷ xs) (suc i) low = drop_at xs i (omega (arith, low))

take_at : (xs : List ℕ) (i : ℕ) → i < length xs → take (suc i) xs ≡ take i xs ++ get_or xs i 0 ∷ []
take_at [] i low = absurd (omega (arith, low))
take_at (x ∷ xs) zero low = refl
take_at (x ∷ xs) (suc i) low = ap (λ (l : List ℕ). x ∷ l) (take_at xs i (omega (arith, low)))

-- the first so many are given back, and the others are loose still, on the blocks that they had
pub record GaveSoFar (g : Geometry) (v now : Room) (m : ℕ → Option (List ℕ)) (ids : List ℕ) (i : ℕ) (told : Option (ℕ → Option (List ℕ))) (old new : ℕ → Bool) : Type 0 where
  pub gave : AreGivenBack v now (flat_map (inode_blocks (volume_in g m)) (take i ids)) m told old new
  pub loose : AreLoose g gave.map (drop i ids)
  pub same : (j : ℕ) → In j (drop i ids) → inode_blocks (volume_in g gave.map) j ≡ inode_blocks (volume_in g m) j

pub so_far_none : (g : Geometry) (v : Room) (m : ℕ → Option (List ℕ)) (ids : List ℕ) (told : Option (ℕ → Option (List ℕ))) (old : ℕ → Bool) → told ≡ Some m → Fits v m → AreLoose g m ids → GaveSoFar g v v m ids 0 told old old
so_far_none g v m ids told old is fits loose = record {
  gave = none_given_back v m told old is fits;
  loose = subst (λ (x : ℕ → Option (List ℕ)). AreLoose g x ids) (sym (none_map v m told old is fits)) loose;
  same = λ j i. ap (λ (x : ℕ → Option (List ℕ)). inode_blocks (volume_in g x) j) (none_map v m told old is fits);
}

module _ (g : Geometry) (v now : Room) (m : ℕ → Option (List ℕ)) (ids : List ℕ) (i : ℕ) (told : Option (ℕ → Option (List ℕ))) (old new : ℕ → Bool) (some : 0 < g.block_size) (volume : IsOfVolume (sizes g) now)
    (low : i < length ids) (far : GaveSoFar g v now m ids i told old new) where
  abbrev id : ℕ
  id = get_or ids i 0

  abbrev o : Origin
  o = record { id = id; sizes = sizes g }

  abbrev others : List ℕ
  others = drop (suc i) ids

  loose_here : AreLoose g far.gave.map (id ∷ others)
  loose_here = subst (AreLoose g far.gave.map) (drop_at ids i low) far.loose

  same_here : (j : ℕ) → In j (id ∷ others) → inode_blocks (volume_in g far.gave.map) j ≡ inode_blocks (volume_in g m) j
  same_here j is = far.same j (subst (In j) (sym (drop_at ids i low)) is)

  pub owns_here : Owns o now [] far.gave.map
  owns_here = first_owns g now far.gave.map id others some volume loose_here far.gave.fits

  module _ (later : Room) (last : Option (ℕ → Option (List ℕ))) (end : ℕ → Bool) (before : now ≡ record v { given = now.given; tally = now.tally }) (rest : later ≡ record now { given = later.given; tally = later.tally })
      (gone : HasGivenBack o now later far.gave.map last new end) where
    one_more : AreGivenBack now later (inode_blocks (volume_in g far.gave.map) id) far.gave.map last new end
    one_more = from_inode o now later far.gave.map last new end gone

    blocks : flat_map (inode_blocks (volume_in g m)) (take i ids) ++ inode_blocks (volume_in g far.gave.map) id ≡ flat_map (inode_blocks (volume_in g m)) (take (suc i) ids)
    blocks =
        ap (λ (l : List ℕ). flat_map (inode_blocks (volume_in g m)) (take i ids) ++ l) (same_here id (inl refl))
        ∙ sym (flat_more (inode_blocks (volume_in g m)) (take i ids) id)
        ∙ ap (flat_map (inode_blocks (volume_in g m))) (sym (take_at ids i low))

    abbrev both : AreGivenBack v later (flat_map (inode_blocks (volume_in g m)) (take i ids) ++ inode_blocks (volume_in g far.gave.map) id) m last old end
    both = given_twice v now later (flat_map (inode_blocks (volume_in g m)) (take i ids)) (inode_blocks (volume_in g far.gave.map) id) m told last old new end before far.gave one_more

    map_is : both.map ≡ one_more.map
    map_is = twice_map v now later (flat_map (inode_blocks (volume_in g m)) (take i ids)) (inode_blocks (volume_in g far.gave.map) id) m told last old new end before far.gave one_more

    so_far_next : GaveSoFar g v later m ids (suc i) last old end
    unfolding given_as
    so_far_next = record {
      gave = given_as v later (flat_map (inode_blocks (volume_in g m)) (take i ids) ++ inode_blocks (volume_in g far.gave.map) id) (flat_map (inode_blocks (volume_in g m)) (take (suc i) ids)) m last old end blocks both;
      loose = subst (λ (x : ℕ → Option (List ℕ)). AreLoose g x others) (sym map_is) (others_loose g now far.gave.map id others some volume loose_here later last new end rest one_more);
      same = λ j is. ap (λ (x : ℕ → Option (List ℕ)). inode_blocks (volume_in g x) j) map_is ∙ other_same g now far.gave.map id others some volume loose_here later last new end rest one_more j is ∙ same_here j (inr is);
    }

    pub so_far_more : GaveSoFar g v later m ids (i + 1) last old end
    so_far_more = let e : suc i ≡ i + 1 = omega arith in subst (λ (j : ℕ). GaveSoFar g v later m ids j last old end) e so_far_next
