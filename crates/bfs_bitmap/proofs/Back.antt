-- Runs that were given back: bounds that stay, and what is free after bits were set or cleared.
use Rattle.std.proofs.Common.{◌≡◌, ◌≤◌, ◌<◌, ◌+◌, ◌%◌, ℕ, zero, suc, List, [], ◌∷◌, ◌++◌, length, get_or, map, filter, Bool, true, false, not, cond, ◌&&◌, ◌||◌, ◌==◌, nat_lt, Option, Some, None, unwrap_or, min, ◌-◌, refl, sym, ap, ◌∙◌, subst, arith, ◌⊎◌, inl, inr}
use Rattle.std.proofs.lemmas.List.{get_or-map, length-map}
use Rattle.bfs_bitmap.specs.declared.given.Given.{Given}
use Rattle.bfs_bitmap.specs.Bits.{in_run}
use Rattle.bfs_bitmap.specs.declared.tally.Tally.{Tally}
use Rattle.bfs_bitmap.specs.Tallies.{IsWithin, lowered, lowered_by}
use Rattle.bfs_bitmap.specs.Runs.{Room, marked, is_reserved, is_free, HasBitmap, NoRunBelow, Marks, Fits, IsMarked, IsSettled, as_kept, per_block, none_given}
use Rattle.std.specs.List.{list_all}
use Rattle.bfs_bitmap.specs.Givens.{numbered, settled, is_left}
use Rattle.bfs_bitmap.specs.Fills.{IsTold}

-- each run of a list is so
abbrev pub AreAll : (Given → Type 0) → List Given → Type 0
AreAll P gs = (i : ℕ) → i < length gs → P (get_or gs i none_given)

-- it lies in so many blocks; its group's number is at most the last
abbrev pub LiesIn : ℕ → Given → Type 0
LiesIn n g = g.first + g.len ≤ n

abbrev pub IsClosedBy : ℕ → Given → Type 0
IsClosedBy last g = unwrap_or g.group 0 ≤ last

pub all_filter : (P : Given → Type 0) (p : Given → Bool) (gs : List Given) → AreAll P gs → AreAll P (filter p gs)
all_filter P p [] all i h = all i h
all_filter P p (g ∷ gs) all i h = by_test (all_filter P p gs (λ j k. all (suc j) (omega arith))) (p g) i h
  where
    by_test : AreAll P (filter p gs) → (t : Bool) → AreAll P (cond t (g ∷ filter p gs) (filter p gs))
    by_test rest true zero k = all zero (omega arith)
    by_test rest true (suc j) k = rest j (omega arith)
    by_test rest false j k = rest j k

pub all_map : (P Q : Given → Type 0) (f : Given → Given) (gs : List Given) → ((g : Given) → P g → Q (f g)) → AreAll P gs → AreAll Q (map f gs)
all_map P Q f gs turn all i h =
    let inside : i < length gs = omega (arith, length-map gs f) in
    let e : get_or (map f gs) i none_given ≡ f (get_or gs i none_given) = get_or-map f gs i none_given none_given inside in
    subst Q (sym e) (turn (get_or gs i none_given) (all i inside))

pub closed_numbered : (last group : ℕ) → last < group → (g : Given) → IsClosedBy last g → IsClosedBy group (numbered group g)
closed_numbered last group less g h = by_group g.group h
  where
    by_group : (o : Option ℕ) → unwrap_or o 0 ≤ last → unwrap_or o group ≤ group
    by_group None h = omega arith
    by_group (Some n) h = omega (arith, h, less)

pub split : (j n : ℕ) → (j < n) ⊎ (n ≤ j)
split j n = grind arith

and_false : (a b : Bool) → (a && (b && false)) ≡ false
and_false true true = refl
and_false true false = refl
and_false false b = refl

pub reserved-push : (gs : List Given) (g : Given) (k : ℕ) → is_reserved (gs ++ g ∷ []) k ≡ (is_reserved gs k || in_run g.first g.len k)
reserved-push [] g k = or_false (in_run g.first g.len k)
  where
    or_false : (t : Bool) → (t || false) ≡ t
    or_false true = refl
    or_false false = refl
reserved-push (x ∷ gs) g k = ap (λ t. in_run x.first x.len k || t) (reserved-push gs g k) ∙ or_assoc (in_run x.first x.len k) (is_reserved gs k) (in_run g.first g.len k)
  where
    or_assoc : (a b c : Bool) → (a || (b || c)) ≡ ((a || b) || c)
    or_assoc true b c = refl
    or_assoc false b c = refl

pub test_of : (b : Bool) → (b ≡ true) ⊎ (b ≡ false)
test_of true = inl refl
test_of false = inr refl

past : (v : Room) (m : ℕ → Option (List ℕ)) (k : ℕ) → v.blocks ≤ k → is_free v m k ≡ false
past v m k h = let test : nat_lt k v.blocks ≡ false = grind (arith, h) in rw test refl

pub is_not : (b : Bool) → (b ≡ true → ⊥) → b ≡ false
is_not true f = absurd (f refl)
is_not false f = refl

pub not_both : (b : Bool) → b ≡ true → b ≡ false → ⊥
not_both b p q = bad (sym p ∙ q)
  where
    bad : true ≡ false → ⊥
    bad z = cc

-- where nothing new is free, no new run begins
pub no_run_kept : (v w : Room) (m map : ℕ → Option (List ℕ)) (wanted at : ℕ) → w.group_blocks ≡ v.group_blocks → ((k : ℕ) → is_free w map k ≡ true → is_free v m k ≡ true) → NoRunBelow v m wanted at → NoRunBelow w map wanted at
no_run_kept v w m map wanted at same less none g h run = none g h (record { one_group = subst (λ (n : ℕ). g % n + wanted ≤ n) same run.one_group; free = λ k a b. less k (run.free k a b) })

pub fits_less : (v w : Room) (m map : ℕ → Option (List ℕ)) → HasBitmap w map → w.group_blocks ≡ v.group_blocks → w.tally.low ≡ v.tally.low → w.tally.wide ≡ v.tally.wide → w.tally.wide_low ≡ v.tally.wide_low → ((k : ℕ) → is_free w map k ≡ true → is_free v m k ≡ true) → Fits v m → Fits w map
fits_less v w m map has group low wide wide_low less fits = record {
  has = has;
  nothing_below = λ k h. is_not (is_free w map k) (λ t. not_both (is_free v m k) (less k t) (fits.nothing_below k (subst (λ (n : ℕ). k < n) low h)));
  no_wide = subst (λ (n : ℕ). NoRunBelow w map n w.tally.wide_low) (sym wide) (subst (NoRunBelow w map v.tally.wide) (sym wide_low) (no_run_kept v w m map v.tally.wide v.tally.wide_low group less fits.no_wide));
}

-- where a run was given back, nothing new is free
pub gave : (v w : Room) (m : ℕ → Option (List ℕ)) (told : Option (ℕ → Option (List ℕ))) (first n len used : ℕ) (g : Given) → w ≡ record v { given = v.given ++ g ∷ []; tally = record v.tally { used = used } } → first ≡ n → g.first ≡ first → g.len ≡ len → Fits v m → IsTold (Marks v first len 0 m) told → IsMarked v w n len 0 m told
gave v w m told first n len used g e same at long fits all =
    subst (λ (r : Room). IsMarked v r n len 0 m told) (sym e) (record {
      map = all.0;
      is = all.1;
      marks = subst (λ (x : ℕ). Marks v x len 0 m all.0) same all.2;
      fits = fits_less v (record v { given = v.given ++ g ∷ []; tally = record v.tally { used = used } }) m all.0 (record { told = all.2.has.told }) refl refl refl refl (λ k t. by_place k t (split k v.blocks) (test_of (in_run first len k))) fits;
    })
  where
    by_place : (k : ℕ) → is_free (record v { given = v.given ++ g ∷ []; tally = record v.tally { used = used } }) all.0 k ≡ true → (k < v.blocks) ⊎ (v.blocks ≤ k) → (in_run first len k ≡ true) ⊎ (in_run first len k ≡ false) → is_free v m k ≡ true
    by_place k t (inr b) c = absurd (not_both (is_free (record v { given = v.given ++ g ∷ []; tally = record v.tally { used = used } }) all.0 k) t (past (record v { given = v.given ++ g ∷ []; tally = record v.tally { used = used } }) all.0 k b))
    by_place k t (inl b) (inl c) =
        let run : in_run g.first g.len k ≡ true = ap (λ (x : ℕ). in_run x g.len k) at ∙ ap (λ (x : ℕ). in_run first x k) long ∙ c in
        absurd (not_both (is_free (record v { given = v.given ++ g ∷ []; tally = record v.tally { used = used } }) all.0 k) t
        (ap (λ t. nat_lt k v.blocks && ((marked (per_block v) all.0 k == 0) && not t)) (reserved-push v.given g k ∙ ap (λ t. is_reserved v.given k || t) run ∙ or_true (is_reserved v.given k))
        ∙ and_false (nat_lt k v.blocks) (marked (per_block v) all.0 k == 0)))
      where
        or_true : (t : Bool) → (t || true) ≡ true
        or_true true = refl
        or_true false = refl
    by_place k t (inl b) (inr c) =
        let run : in_run g.first g.len k ≡ false = ap (λ (x : ℕ). in_run x g.len k) at ∙ ap (λ (x : ℕ). in_run first x k) long ∙ c in
        sym (ap (λ t. nat_lt k v.blocks && ((marked (per_block v) all.0 k == 0) && not t)) (reserved-push v.given g k ∙ ap (λ t. is_reserved v.given k || t) run ∙ or_same (is_reserved v.given k))
        ∙ ap (λ (x : ℕ). nat_lt k v.blocks && ((x == 0) && not (is_reserved v.given k))) (all.2.marks k b ∙ ap (λ t. cond t 0 (marked (per_block v) m k)) c)) ∙ t
      where
        or_same : (t : Bool) → (t || false) ≡ t
        or_same true = refl
        or_same false = refl

-- whose runs were all kept
all_kept : (gs : List Given) → list_all (λ g. g.kept) gs ≡ true → filter (λ g. g.kept) gs ≡ gs
all_kept [] h = refl
all_kept (g ∷ gs) h = by_test (g.kept) refl (all_kept gs) h
  where
    by_test : (t : Bool) → g.kept ≡ t → (list_all (λ x. x.kept) gs ≡ true → filter (λ x. x.kept) gs ≡ gs) → (t && list_all (λ x. x.kept) gs) ≡ true → cond t (g ∷ filter (λ x. x.kept) gs) (filter (λ x. x.kept) gs) ≡ g ∷ gs
    by_test true e ih a = ap (λ l. g ∷ l) (ih a)
    by_test false e ih a = absurd (bad a)
      where
        bad : false ≡ true → ⊥
        bad z = cc

length-kept : (gs : List Given) → length (filter (λ g. g.kept) gs) ≤ length gs
length-kept [] = omega arith
length-kept (g ∷ gs) = by_test (g.kept) (length-kept gs)
  where
    by_test : (t : Bool) → length (filter (λ x. x.kept) gs) ≤ length gs → length (cond t (g ∷ filter (λ x. x.kept) gs) (filter (λ x. x.kept) gs)) ≤ length (g ∷ gs)
    by_test true h = omega arith
    by_test false h = omega arith

same_tail : (g x : Given) (ys bs : List Given) → g ∷ ys ≡ x ∷ bs → ys ≡ bs
same_tail g x ys bs e = cc

kept_all : (gs : List Given) → filter (λ g. g.kept) gs ≡ gs → list_all (λ g. g.kept) gs ≡ true
kept_all [] h = refl
kept_all (g ∷ gs) h = by_test (g.kept) (kept_all gs) h
  where
    by_test : (t : Bool) → (filter (λ x. x.kept) gs ≡ gs → list_all (λ x. x.kept) gs ≡ true) → cond t (g ∷ filter (λ x. x.kept) gs) (filter (λ x. x.kept) gs) ≡ g ∷ gs → (t && list_all (λ x. x.kept) gs) ≡ true
    by_test true ih e = ih (same_tail g g (filter (λ x. x.kept) gs) gs e)
    by_test false ih e = absurd (omega (arith, length-kept gs, ap (λ (l : List Given). length l) e))

all_mapped : (f : Given → Given) (gs : List Given) → ((g : Given) → g.kept ≡ true → (f g).kept ≡ true) → list_all (λ g. g.kept) gs ≡ true → list_all (λ g. g.kept) (map f gs) ≡ true
all_mapped f [] keeps h = refl
all_mapped f (g ∷ gs) keeps h = ap (λ t. t && list_all (λ x. x.kept) (map f gs)) (keeps g (first_of_and (g.kept) (list_all (λ x. x.kept) gs) h)) ∙ all_mapped f gs keeps (second_of_and (g.kept) (list_all (λ x. x.kept) gs) h)
  where
    first_of_and : (a b : Bool) → (a && b) ≡ true → a ≡ true
    first_of_and true b e = refl
    first_of_and false b e = e

    second_of_and : (a b : Bool) → (a && b) ≡ true → b ≡ true
    second_of_and true b e = e
    second_of_and false b e = absurd (bad e)
      where
        bad : false ≡ true → ⊥
        bad z = cc

all_settled : (gs : List Given) → list_all (λ g. g.kept) (map settled gs) ≡ true
all_settled [] = refl
all_settled (g ∷ gs) = all_settled gs

all_filtered : (p : Given → Bool) (gs : List Given) → list_all (λ g. g.kept) gs ≡ true → list_all (λ g. g.kept) (filter p gs) ≡ true
all_filtered p [] h = refl
all_filtered p (g ∷ gs) h = by_test (p g) (all_filtered p gs (second_of_and (g.kept) (list_all (λ x. x.kept) gs) h))
  where
    second_of_and : (a b : Bool) → (a && b) ≡ true → b ≡ true
    second_of_and true b e = e
    second_of_and false b e = absurd (bad e)
      where
        bad : false ≡ true → ⊥
        bad z = cc

    first_of_and : (a b : Bool) → (a && b) ≡ true → a ≡ true
    first_of_and true b e = refl
    first_of_and false b e = e

    by_test : (t : Bool) → list_all (λ x. x.kept) (filter p gs) ≡ true → list_all (λ x. x.kept) (cond t (g ∷ filter p gs) (filter p gs)) ≡ true
    by_test true ih = ap (λ t. t && list_all (λ x. x.kept) (filter p gs)) (first_of_and (g.kept) (list_all (λ x. x.kept) gs) h) ∙ ih
    by_test false ih = ih

kept_filtered : (gs : List Given) → list_all (λ g. g.kept) (filter (λ g. g.kept) gs) ≡ true
kept_filtered [] = refl
kept_filtered (g ∷ gs) = by_test (g.kept) refl (kept_filtered gs)
  where
    by_test : (t : Bool) → g.kept ≡ t → list_all (λ x. x.kept) (filter (λ x. x.kept) gs) ≡ true → list_all (λ x. x.kept) (cond t (g ∷ filter (λ x. x.kept) gs) (filter (λ x. x.kept) gs)) ≡ true
    by_test true e ih = ap (λ t. t && list_all (λ x. x.kept) (filter (λ x. x.kept) gs)) e ∙ ih
    by_test false e ih = ih

-- a room whose runs were all kept, and in which nothing else is known than when a call was kept
settled_room : (v : Room) → list_all (λ g. g.kept) v.given ≡ true → v.tally ≡ v.tally_kept → IsSettled v
settled_room v all same = ap (λ (l : List Given). record v { given = l; tally = v.tally_kept }) (all_kept v.given all) ∙ ap (λ (t : Tally). record v { tally = t }) (sym same)

same_tally : (v : Room) → IsSettled v → v.tally ≡ v.tally_kept
same_tally v is = sym (ap (λ (r : Room). r.tally) is)

pub settled_numbered : (v w : Room) (group : ℕ) → w ≡ record v { given = map (numbered group) v.given; last = group } → IsSettled v → IsSettled w
settled_numbered v w group e is =
    subst IsSettled (sym e) (settled_room (record v { given = map (numbered group) v.given; last = group }) (all_mapped (numbered group) v.given (λ g h. h) (kept_all v.given (ap (λ (r : Room). r.given) is))) (same_tally v is))

pub settled_left : (v w : Room) (p : Given → Bool) (f : Tally → Tally) → w ≡ record v { given = filter p v.given; tally = f v.tally; tally_kept = f v.tally_kept } → IsSettled v → IsSettled w
settled_left v w p f e is =
    subst IsSettled (sym e) (settled_room (record v { given = filter p v.given; tally = f v.tally; tally_kept = f v.tally_kept }) (all_filtered p v.given (kept_all v.given (ap (λ (r : Room). r.given) is))) (ap f (same_tally v is)))

pub settled_kept : (v w : Room) → w ≡ record v { given = map settled v.given; tally_kept = v.tally } → IsSettled w
settled_kept v w e = subst IsSettled (sym e) (settled_room (record v { given = map settled v.given; tally_kept = v.tally }) (all_settled v.given) refl)

pub settled_dropped : (v w : Room) → w ≡ as_kept v → IsSettled w
settled_dropped v w e = subst IsSettled (sym e) (settled_room (as_kept v) (kept_filtered v.given) refl)

pub reserved-map : (f : Given → Given) (gs : List Given) (k : ℕ) → ((g : Given) → (f g).first ≡ g.first) → ((g : Given) → (f g).len ≡ g.len) → is_reserved (map f gs) k ≡ is_reserved gs k
reserved-map f [] k first len = refl
reserved-map f (g ∷ gs) k first len =
    ap (λ (n : ℕ). in_run n (f g).len k || is_reserved (map f gs) k) (first g) ∙ ap (λ (n : ℕ). in_run g.first n k || is_reserved (map f gs) k) (len g) ∙ ap (λ t. in_run g.first g.len k || t) (reserved-map f gs k first len)

-- the same blocks are reserved, and nothing new is free
fits_reserved : (v w : Room) (m : ℕ → Option (List ℕ)) (gs : List Given) (last : ℕ) (kept : Tally) → w ≡ record v { given = gs; last = last; tally_kept = kept } → ((k : ℕ) → is_reserved gs k ≡ is_reserved v.given k) → Fits v m → Fits w m
fits_reserved v w m gs last kept e same fits =
    subst (λ (r : Room). Fits r m) (sym e) (fits_less v (record v { given = gs; last = last; tally_kept = kept }) m m (record { told = fits.has.told }) refl refl refl refl
    (λ k t. sym (ap (λ t. nat_lt k v.blocks && ((marked (per_block v) m k == 0) && not t)) (same k)) ∙ t) fits)

pub fits_numbered : (v w : Room) (group : ℕ) → w ≡ record v { given = map (numbered group) v.given; last = group } → (m : ℕ → Option (List ℕ)) → Fits v m → Fits w m
fits_numbered v w group e m = fits_reserved v w m (map (numbered group) v.given) group v.tally_kept e (λ k. reserved-map (numbered group) v.given k (λ g. refl) (λ g. refl))

pub fits_kept : (v w : Room) → w ≡ record v { given = map settled v.given; tally_kept = v.tally } → (m : ℕ → Option (List ℕ)) → Fits v m → Fits w m
fits_kept v w e m = fits_reserved v w m (map settled v.given) v.last v.tally e (λ k. reserved-map settled v.given k (λ g. refl) (λ g. refl))

-- what is left reserved was reserved
pub reserved_filter : (p : Given → Bool) (gs : List Given) (k : ℕ) → is_reserved (filter p gs) k ≡ true → is_reserved gs k ≡ true
reserved_filter p [] k t = t
reserved_filter p (g ∷ gs) k t = by_test (p g) (reserved_filter p gs k) t
  where
    or_more : (a b : Bool) → b ≡ true → (a || b) ≡ true
    or_more true b e = refl
    or_more false b e = e

    or_either : (a b c : Bool) → (b ≡ true → c ≡ true) → (a || b) ≡ true → (a || c) ≡ true
    or_either true b c f e = refl
    or_either false b c f e = f e

    by_test : (x : Bool) → (is_reserved (filter p gs) k ≡ true → is_reserved gs k ≡ true) → is_reserved (cond x (g ∷ filter p gs) (filter p gs)) k ≡ true → (in_run g.first g.len k || is_reserved gs k) ≡ true
    by_test true rest e = or_either (in_run g.first g.len k) (is_reserved (filter p gs) k) (is_reserved gs k) rest e
    by_test false rest e = or_more (in_run g.first g.len k) (is_reserved gs k) (rest e)

-- all runs leave with a group that all of them are in, or before which theirs were
pub all_leave : (last group : ℕ) (gs : List Given) → last < group → AreAll (IsClosedBy last) gs → filter (λ g. not (is_left group g)) (map (numbered group) gs) ≡ []
all_leave last group [] less all = refl
all_leave last group (g ∷ gs) less all =
    ap (λ (t : Bool). cond (not t) (numbered group g ∷ filter (λ x. not (is_left group x)) (map (numbered group) gs)) (filter (λ x. not (is_left group x)) (map (numbered group) gs))) (here (closed_numbered last group less g (all zero (omega arith))))
    ∙ all_leave last group gs less (λ i h. all (suc i) (omega arith))
  where
    here : unwrap_or g.group group ≤ group → is_left group (numbered group g) ≡ true
    here le = grind (arith, le)

-- below the lowest of what has left the same blocks are reserved
below_left : (group : ℕ) (gs : List Given) (t : Tally) (k n : ℕ) → n ≤ k → k ≤ n + (t.wide - 1) → n < (lowered_by group gs t).wide_low → (is_reserved (filter (λ g. not (is_left group g)) gs) k ≡ is_reserved gs k) × (n < t.wide_low)
below_left group [] t k n a b h = (refl, h)
below_left group (g ∷ gs) t k n a b h = by_test (λ u. below_left group gs u k n a) (is_left group g) h
  where
    beside : k < g.first → in_run g.first g.len k ≡ false
    beside low = grind (arith, low)

    by_test : ((u : Tally) → k ≤ n + (u.wide - 1) → n < (lowered_by group gs u).wide_low → (is_reserved (filter (λ y. not (is_left group y)) gs) k ≡ is_reserved gs k) × (n < u.wide_low)) → (x : Bool) → n < (lowered_by group gs (cond x (lowered g.first t) t)).wide_low → (is_reserved (cond (not x) (g ∷ filter (λ y. not (is_left group y)) gs) (filter (λ y. not (is_left group y)) gs)) k ≡ (in_run g.first g.len k || is_reserved gs k)) × (n < t.wide_low)
    by_test ih true l =
        let rest = ih (lowered g.first t) b l in
        let low : n < min t.wide_low (g.first - (t.wide - 1)) = rest.1 in
        (rest.0 ∙ sym (ap (λ (y : Bool). y || is_reserved gs k) (beside (omega (arith, low, a, b)))), omega (arith, low))
    by_test ih false l = let rest = ih t b l in (ap (λ (y : Bool). in_run g.first g.len k || y) rest.0, rest.1)

below_low : (group : ℕ) (gs : List Given) (t : Tally) (k : ℕ) → k < (lowered_by group gs t).low → (is_reserved (filter (λ g. not (is_left group g)) gs) k ≡ is_reserved gs k) × (k < t.low)
below_low group [] t k h = (refl, h)
below_low group (g ∷ gs) t k h = by_test (λ u. below_low group gs u k) (is_left group g) h
  where
    beside : k < g.first → in_run g.first g.len k ≡ false
    beside low = grind (arith, low)

    by_test : ((u : Tally) → k < (lowered_by group gs u).low → (is_reserved (filter (λ y. not (is_left group y)) gs) k ≡ is_reserved gs k) × (k < u.low)) → (x : Bool) → k < (lowered_by group gs (cond x (lowered g.first t) t)).low → (is_reserved (cond (not x) (g ∷ filter (λ y. not (is_left group y)) gs) (filter (λ y. not (is_left group y)) gs)) k ≡ (in_run g.first g.len k || is_reserved gs k)) × (k < t.low)
    by_test ih true l =
        let rest = ih (lowered g.first t) l in
        let low : k < min t.low g.first = rest.1 in
        (rest.0 ∙ sym (ap (λ (y : Bool). y || is_reserved gs k) (beside (omega (arith, low)))), omega (arith, low))
    by_test ih false l = let rest = ih t l in (ap (λ (y : Bool). in_run g.first g.len k || y) rest.0, rest.1)

wide_same : (group : ℕ) (gs : List Given) (t : Tally) → (lowered_by group gs t).wide ≡ t.wide
wide_same group [] t = refl
wide_same group (g ∷ gs) t = by_test (wide_same group gs) (is_left group g)
  where
    by_test : ((u : Tally) → (lowered_by group gs u).wide ≡ u.wide) → (x : Bool) → (lowered_by group gs (cond x (lowered g.first t) t)).wide ≡ t.wide
    by_test ih true = ih (lowered g.first t)
    by_test ih false = ih t

pub lowered_within : (blocks group : ℕ) (gs : List Given) (t : Tally) → IsWithin blocks t → IsWithin blocks (lowered_by group gs t)
lowered_within blocks group [] t is = is
lowered_within blocks group (g ∷ gs) t is = by_test (lowered_within blocks group gs) (is_left group g)
  where
    by_test : ((u : Tally) → IsWithin blocks u → IsWithin blocks (lowered_by group gs u)) → (x : Bool) → IsWithin blocks (lowered_by group gs (cond x (lowered g.first t) t))
    by_test ih true = ih (lowered g.first t) (record { low = let a = is.low in omega (arith, a); used = is.used; wide_low = let b = is.wide_low in omega (arith, b) })
    by_test ih false = ih t is

pub fits_left : (v w : Room) (group : ℕ) → w ≡ record v { given = filter (λ g. not (is_left group g)) v.given; tally = lowered_by group v.given v.tally; tally_kept = lowered_by group v.given v.tally_kept } → (m : ℕ → Option (List ℕ)) → Fits v m → Fits w m
fits_left v w group e m fits = subst (λ (r : Room). Fits r m) (sym e) (record {
  has = record { told = fits.has.told };
  nothing_below = λ k h. let here = below_low group v.given v.tally k h in same k here.0 ∙ fits.nothing_below k here.1;
  no_wide = λ g h run.
      let wide : (lowered_by group v.given v.tally).wide ≡ v.tally.wide = wide_same group v.given v.tally in
      let there : g < v.tally.wide_low = (below_left group v.given v.tally g g (omega arith) (omega arith) h).1 in
      fits.no_wide g there (record {
        one_group = subst (λ (n : ℕ). g % v.group_blocks + n ≤ v.group_blocks) wide run.one_group;
        free = λ k a b. sym (same k (below_left group v.given v.tally k g a (omega (arith, b)) h).0) ∙ run.free k a (subst (λ (n : ℕ). k < g + n) (sym wide) b);
      });
})
  where
    same : (k : ℕ) → is_reserved (filter (λ g. not (is_left group g)) v.given) k ≡ is_reserved v.given k → is_free (record v { given = filter (λ g. not (is_left group g)) v.given; tally = lowered_by group v.given v.tally; tally_kept = lowered_by group v.given v.tally_kept }) m k ≡ is_free v m k
    same k r = ap (λ t. nat_lt k v.blocks && ((marked (per_block v) m k == 0) && not t)) r
