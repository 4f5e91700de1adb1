-- What stands of the runs that were given back, once a call has ended.
use Rattle.std.proofs.Common.{◌≡◌, ◌≤◌, ℕ, zero, suc, List, [], ◌∷◌, ◌++◌, length, filter, drop, refl, sym, ap, ◌∙◌, arith, Bool, true, false, cond, Option, Some, None}
use Rattle.std.specs.Prelude.{is_some, ◌||◌}
use Rattle.std.specs.List.{AllByRecursion}
use Rattle.bfs_bitmap.specs.Bits.{in_run}
use Rattle.bfs_bitmap.specs.declared.given.Given.{Given}
use Rattle.bfs_bitmap.specs.Runs.{Room, IsSettled, is_reserved}
use Rattle.bfs_stream.specs.Standing.{with_number, kept_first, kept_not, standing}

pub same_standing : (v now : Room) → now.given ≡ v.given → standing now ≡ standing v
unfolding standing
same_standing v now same = ap (λ (gs : List Given). (kept_first gs, with_number (kept_not gs))) same

split_kept : (gs : List Given) → gs ≡ kept_first gs ++ kept_not gs
split_kept [] = refl
split_kept (g ∷ gs) = by_kept (split_kept gs) g.kept
  where
    by_kept : gs ≡ kept_first gs ++ kept_not gs → (t : Bool) → g ∷ gs ≡ cond t (g ∷ kept_first gs) [] ++ cond t (kept_not gs) (g ∷ gs)
    by_kept rest true = ap (λ (l : List Given). g ∷ l) rest
    by_kept rest false = refl

abbrev kept_of : List Given → List Given
kept_of gs = filter (λ g. g.kept) gs

few_kept : (gs : List Given) → length (kept_of gs) ≤ length gs
few_kept [] = omega arith
few_kept (g ∷ gs) = by_kept (few_kept gs) g.kept
  where
    by_kept : length (kept_of gs) ≤ length gs → (t : Bool) → length (cond t (g ∷ kept_of gs) (kept_of gs)) ≤ suc (length gs)
    by_kept rest true = omega (arith, rest)
    by_kept rest false = omega (arith, rest)

-- where all are kept, they stand in front
all_kept : (gs : List Given) → kept_of gs ≡ gs → (kept_first gs ≡ gs) × (kept_not gs ≡ [])
all_kept [] e = (refl, refl)
all_kept (g ∷ gs) e = by_kept (all_kept gs) g.kept refl
  where
    by_kept : (kept_of gs ≡ gs → (kept_first gs ≡ gs) × (kept_not gs ≡ [])) → (t : Bool) → g.kept ≡ t → (kept_first (g ∷ gs) ≡ g ∷ gs) × (kept_not (g ∷ gs) ≡ [])
    by_kept rest true f =
        let here : g ∷ kept_of gs ≡ g ∷ gs = sym (ap (λ (t : Bool). cond t (g ∷ kept_of gs) (kept_of gs)) f) ∙ e in
        let r = rest (ap (λ (l : List Given). drop (suc zero) l) here) in
        (ap (λ (t : Bool). cond t (g ∷ kept_first gs) []) f ∙ ap (λ (l : List Given). g ∷ l) r.0, ap (λ (t : Bool). cond t (kept_not gs) (g ∷ gs)) f ∙ r.1)
    by_kept rest false f =
        let here : kept_of gs ≡ g ∷ gs = sym (ap (λ (t : Bool). cond t (g ∷ kept_of gs) (kept_of gs)) f) ∙ e in
        let long : length (kept_of gs) ≡ suc (length gs) = ap (λ (l : List Given). length l) here in
        let few = few_kept gs in
        absurd (omega (arith, long, few))

none_numbered : (gs : List Given) → with_number gs ≡ [] → AllByRecursion (λ run. run.group ≡ None) gs
none_numbered [] e = tt
none_numbered (g ∷ gs) e = by_group (none_numbered gs) g.group refl
  where
    by_group : (with_number gs ≡ [] → AllByRecursion (λ run. run.group ≡ None) gs) → (o : Option ℕ) → g.group ≡ o → AllByRecursion (λ run. run.group ≡ None) (g ∷ gs)
    by_group rest None f = (f, rest (sym (ap (λ (o : Option ℕ). cond (is_some o) (g ∷ with_number gs) (with_number gs)) f) ∙ e))
    by_group rest (Some n) f =
        let bad : length (g ∷ with_number gs) ≡ length {A = Given} [] = ap (λ (l : List Given). length l) (sym (ap (λ (o : Option ℕ). cond (is_some o) (g ∷ with_number gs) (with_number gs)) f) ∙ e) in
        absurd (omega (arith, bad))

-- Where a call began with nothing unsettled, what it gave back stands behind what had been given back, without a number.
pub settled_given : (v now : Room) → IsSettled v → standing now ≡ standing v → (more : List Given) × (now.given ≡ v.given ++ more) × AllByRecursion (λ run. run.group ≡ None) more
unfolding standing
settled_given v now settled same =
    let was = all_kept v.given (ap (λ (r : Room). r.given) settled) in
    let front : kept_first now.given ≡ v.given = ap (λ (p : List Given × List Given). p.0) same ∙ was.0 in
    let back : with_number (kept_not now.given) ≡ [] = ap (λ (p : List Given × List Given). p.1) same ∙ ap with_number was.1 in
    (kept_not now.given, split_kept now.given ∙ ap (λ (l : List Given). l ++ kept_not now.given) front, none_numbered (kept_not now.given) back)

-- a reserved block is in one of the runs in front, or in one behind
pub reserved_behind : (xs ys : List Given) (k : ℕ) → is_reserved (xs ++ ys) k ≡ true → is_reserved xs k ≡ false → is_reserved ys k ≡ true
reserved_behind [] ys k is none = is
reserved_behind (g ∷ gs) ys k is none = by_run (reserved_behind gs ys k) (in_run g.first g.len k) is none
  where
    by_run : (is_reserved (gs ++ ys) k ≡ true → is_reserved gs k ≡ false → is_reserved ys k ≡ true) → (t : Bool) → (t || is_reserved (gs ++ ys) k) ≡ true → (t || is_reserved gs k) ≡ false → is_reserved ys k ≡ true
    by_run rest true i n = absurd (let bad : true ≡ false = n in cc)
    by_run rest false i n = rest i n
