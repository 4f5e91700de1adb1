-- Runs of calls that were kept stand first, whatever is done with the list, and settling them goes from its end.
use Rattle.std.proofs.Common.{◌≡◌, ◌≤◌, ◌<◌, ◌-◌, ℕ, zero, suc, List, [], ◌∷◌, ◌++◌, length, get_or, map, filter, take, drop, set, Bool, true, false, not, cond, refl, sym, ap, ap₂, ◌∙◌, arith}
use Rattle.bfs_bitmap.specs.declared.given.Given.{Given}
use Rattle.bfs_bitmap.specs.Givens.{settled, is_left}
use Rattle.bfs_bitmap.specs.Tallies.{lowered, lowered_by}
use Rattle.bfs_bitmap.specs.declared.tally.Tally.{Tally}
use Rattle.bfs_bitmap.specs.Runs.{AreKeptFirst, none_given}
use Rattle.bfs_bitmap.proofs.Back.{AreAll, all_filter, all_map}

-- where this one is kept, that one is
abbrev Follows : Given → Given → Type 0
Follows g h = h.kept ≡ true → g.kept ≡ true

first_cons : (g : Given) (gs : List Given) → AreAll (Follows g) gs → AreKeptFirst gs → AreKeptFirst (g ∷ gs)
first_cons g gs head rest zero zero le low is = is
first_cons g gs head rest zero (suc j) le low is = head j (omega (arith, low)) is
first_cons g gs head rest (suc i) zero le low is = absurd (omega (arith, le))
first_cons g gs head rest (suc i) (suc j) le low is = rest i j (omega (arith, le)) (omega (arith, low)) is

first_head : (g : Given) (gs : List Given) → AreKeptFirst (g ∷ gs) → AreAll (Follows g) gs
first_head g gs first j low is = first zero (suc j) (omega arith) (omega (arith, low)) is

first_tail : (g : Given) (gs : List Given) → AreKeptFirst (g ∷ gs) → AreKeptFirst gs
first_tail g gs first i j le low is = first (suc i) (suc j) (omega (arith, le)) (omega (arith, low)) is

pub first_none : AreKeptFirst []
first_none i j le low is = absurd (omega (arith, low))

pub first_filter : (p : Given → Bool) (gs : List Given) → AreKeptFirst gs → AreKeptFirst (filter p gs)
first_filter p [] first = first
first_filter p (g ∷ gs) first = by_test (p g) (all_filter (Follows g) p gs (first_head g gs first)) (first_filter p gs (first_tail g gs first))
  where
    by_test : (t : Bool) → AreAll (Follows g) (filter p gs) → AreKeptFirst (filter p gs) → AreKeptFirst (cond t (g ∷ filter p gs) (filter p gs))
    by_test true head rest = first_cons g (filter p gs) head rest
    by_test false head rest = rest

-- a change that leaves which runs are kept
pub first_map : (f : Given → Given) (gs : List Given) → ((g : Given) → (f g).kept ≡ g.kept) → AreKeptFirst gs → AreKeptFirst (map f gs)
first_map f [] same first = first
first_map f (g ∷ gs) same first =
    first_cons (f g) (map f gs) (all_map (Follows g) (Follows (f g)) f gs (λ h follows is. same g ∙ follows (sym (same h) ∙ is)) (first_head g gs first)) (first_map f gs same (first_tail g gs first))

-- all of them are kept
pub first_settled : (gs : List Given) → AreKeptFirst (map settled gs)
first_settled [] = first_none
first_settled (g ∷ gs) = first_cons (settled g) (map settled gs) (all_settled gs) (first_settled gs)
  where
    all_settled : (hs : List Given) → AreAll (Follows (settled g)) (map settled hs)
    all_settled hs i low is = refl

-- what stands at the last place before those that were settled
pub get_back : (gs : List Given) (n : ℕ) (d : Given) → n < length gs → get_or (take (suc n) gs ++ map settled (drop (suc n) gs)) n d ≡ get_or gs n none_given
get_back [] n d low = absurd (omega (arith, low))
get_back (g ∷ gs) zero d low = refl
get_back (g ∷ gs) (suc n) d low = get_back gs n d (omega (arith, low))

-- one more is settled
pub set_back : (gs : List Given) (n : ℕ) → n < length gs → set (take (suc n) gs ++ map settled (drop (suc n) gs)) n (settled (get_or gs n none_given)) ≡ take n gs ++ map settled (drop n gs)
set_back [] n low = absurd (omega (arith, low))
set_back (g ∷ gs) zero low = refl
set_back (g ∷ gs) (suc n) low = ap (λ (l : List Given). g ∷ l) (set_back gs n (omega (arith, low)))

settled_is : (g : Given) → g.kept ≡ true → g ≡ settled g
settled_is g is = λ i. record { first = g.first; len = g.len; group = g.group; kept = is i }

-- those before a place are kept, so all are settled
pub all_back : (gs : List Given) (n : ℕ) → n ≤ length gs → ((i : ℕ) → i < n → (get_or gs i none_given).kept ≡ true) → take n gs ++ map settled (drop n gs) ≡ map settled gs
all_back gs zero le kept = refl
all_back [] (suc n) le kept = absurd (omega (arith, le))
all_back (g ∷ gs) (suc n) le kept = ap₂ (λ (x : Given) (l : List Given). x ∷ l) (settled_is g (kept zero (omega arith))) (all_back gs n (omega (arith, le)) (λ i low. kept (suc i) (omega (arith, low))))

-- a step of the way back
pub step_back : (old now : List Given) (at next : ℕ) (run : Given) → at ≤ length old → at ≡ suc next → now ≡ take at old ++ map settled (drop at old) → run ≡ get_or now next run → set now next (settled run) ≡ take next old ++ map settled (drop next old)
step_back old now at next run le e is here =
    let parts : now ≡ take (suc next) old ++ map settled (drop (suc next) old) = is ∙ ap (λ (n : ℕ). take n old ++ map settled (drop n old)) e in
    let low : next < length old = omega (arith, le, e) in
    let run_is : run ≡ get_or old next none_given = here ∙ ap (λ (l : List Given). get_or l next run) parts ∙ get_back old next run low in
    ap₂ (λ (l : List Given) (g : Given). set l next (settled g)) parts run_is ∙ set_back old next low

-- the way back ends at a run that is kept
pub stop_back : (old now : List Given) (at next : ℕ) (run : Given) → AreKeptFirst old → at ≤ length old → at ≡ suc next → now ≡ take at old ++ map settled (drop at old) → run ≡ get_or now next run → run.kept ≡ true → now ≡ map settled old
stop_back old now at next run first le e is here kept =
    let parts : now ≡ take (suc next) old ++ map settled (drop (suc next) old) = is ∙ ap (λ (n : ℕ). take n old ++ map settled (drop n old)) e in
    let low : next < length old = omega (arith, le, e) in
    let run_is : run ≡ get_or old next none_given = here ∙ ap (λ (l : List Given). get_or l next run) parts ∙ get_back old next run low in
    let last : (get_or old next none_given).kept ≡ true = ap (λ (g : Given). g.kept) (sym run_is) ∙ kept in
    is ∙ all_back old at le (λ i less. first i next (omega (arith, less, e)) low last)

-- or before the first
pub end_back : (old now : List Given) (at : ℕ) → at ≡ 0 → now ≡ take at old ++ map settled (drop at old) → now ≡ map settled old
end_back old now at e is = is ∙ ap (λ (n : ℕ). take n old ++ map settled (drop n old)) e

-- nothing is settled yet
pub begin_back : (old : List Given) (at : ℕ) → at ≡ length old → old ≡ take at old ++ map settled (drop at old)
begin_back old at e = whole old ∙ ap (λ (n : ℕ). take n old ++ map settled (drop n old)) (sym e)
  where
    whole : (gs : List Given) → gs ≡ take (length gs) gs ++ map settled (drop (length gs) gs)
    whole [] = refl
    whole (g ∷ gs) = ap (λ (l : List Given). g ∷ l) (whole gs)

-- where the last run is kept, all are
pub all_settled : (gs : List Given) → AreKeptFirst gs → 0 < length gs → (get_or gs (length gs - 1) none_given).kept ≡ true → filter (λ g. g.kept) gs ≡ gs
all_settled gs first some last = all_of gs (λ i low. first i (length gs - 1) (omega (arith, low)) (omega (arith, some)) last)
  where
    all_of : (hs : List Given) → ((i : ℕ) → i < length hs → (get_or hs i none_given).kept ≡ true) → filter (λ g. g.kept) hs ≡ hs
    all_of [] all = refl
    all_of (h ∷ hs) all = by_test h.kept (all zero (omega arith)) (all_of hs (λ i low. all (suc i) (omega (arith, low))))
      where
        by_test : (t : Bool) → t ≡ true → filter (λ g. g.kept) hs ≡ hs → cond t (h ∷ filter (λ g. g.kept) hs) (filter (λ g. g.kept) hs) ≡ h ∷ hs
        by_test true e rest = ap (λ (l : List Given). h ∷ l) rest
        by_test false e rest = let bad : false ≡ true = e in cc

-- where the group of no run has left, all stay
pub none_have_left : (group : ℕ) (gs : List Given) → ((i : ℕ) → i < length gs → is_left group (get_or gs i none_given) ≡ false) → filter (λ g. not (is_left group g)) gs ≡ gs
none_have_left group [] none = refl
none_have_left group (h ∷ hs) none = by_test (is_left group h) (none zero (omega arith)) (none_have_left group hs (λ i low. none (suc i) (omega (arith, low))))
  where
    by_test : (t : Bool) → t ≡ false → filter (λ g. not (is_left group g)) hs ≡ hs → cond (not t) (h ∷ filter (λ g. not (is_left group g)) hs) (filter (λ g. not (is_left group g)) hs) ≡ h ∷ hs
    by_test false e rest = ap (λ (l : List Given). h ∷ l) rest
    by_test true e rest = let bad : true ≡ false = e in cc

-- and the tally isn't lowered
pub none_lowered : (group : ℕ) (gs : List Given) (t : Tally) → ((i : ℕ) → i < length gs → is_left group (get_or gs i none_given) ≡ false) → lowered_by group gs t ≡ t
none_lowered group [] t none = refl
none_lowered group (h ∷ hs) t none = by_test (is_left group h) (none zero (omega arith)) (none_lowered group hs t (λ i low. none (suc i) (omega (arith, low))))
  where
    by_test : (b : Bool) → b ≡ false → lowered_by group hs t ≡ t → lowered_by group hs (cond b (lowered h.first t) t) ≡ t
    by_test false e rest = rest
    by_test true e rest = let bad : true ≡ false = e in cc
