-- Steps that give a file another size are put together, and what is known at the end of a call that was made of them.
use Rattle.std.proofs.Common.{◌≡◌, ◌≢◌, ◌<◌, ◌⊎◌, inl, inr, ℕ, ℤ, zero, suc, List, [], ◌∷◌, ◌++◌, refl, sym, ap, ◌∙◌, subst, arith, Bool, true, false, Option, None}
use Rattle.std.specs.List.{AllByRecursion}
use Rattle.bfs_base.specs.Lists.{times, Has}
use Rattle.bfs_super.specs.declared.geometry.Geometry.{Geometry}
use Rattle.bfs_bitmap.specs.declared.given.Given.{Given}
use Rattle.bfs_bitmap.specs.Runs.{Room, IsSettled, is_reserved}
use Rattle.bfs_tree.specs.Trees.{Node, Tree, is_file}
use Rattle.bfs_tree.specs.declared.state.Hold.{Hold}
use Rattle.bfs_sound.specs.Volumes.{IsMarked}
use Rattle.bfs_sound.specs.Inodes.{stream_blocks}
use Rattle.bfs_sound.specs.Owners.{file_data, IsMetadata}
use Rattle.bfs_shift.specs.Lists.{Lists}
use Rattle.bfs_shift.specs.Shifts.{volume_in}
use Rattle.bfs_shift.specs.Work.{IsAtWork, GoesOn, IsFileStill, MayBeWritten}
use Rattle.bfs_moves.specs.Laws.{IsApart}
use Rattle.bfs_moves.proofs.Ends.{reached}
use Rattle.bfs_look.specs.Ready.{IsReady}
use Rattle.bfs_leave.specs.Laws.{StaysSo, IsCallLeft}
use Rattle.bfs_leave.specs.Leaving.{IsClear, IsGivenSince}
use Rattle.bfs_leave.proofs.Standing.{same_standing, settled_given, reserved_behind}
use Rattle.bfs_set_size.specs.Resizing.{Begins, IsLonger, IsStillFile, WasFree, Resizes}
use Rattle.bfs_set_size.specs.Sized.{IsSizedSo}

with_nothing : (xs : List ℕ) → xs ≡ xs ++ []
with_nothing [] = refl
with_nothing (x ∷ xs) = ap (λ (l : List ℕ). x ∷ l) (with_nothing xs)

three_together : (xs ys zs : List ℕ) → (xs ++ ys) ++ zs ≡ xs ++ (ys ++ zs)
three_together [] ys zs = refl
three_together (x ∷ xs) ys zs = ap (λ (l : List ℕ). x ∷ l) (three_together xs ys zs)

begins_same : (xs ys : List ℕ) → ys ≡ xs → Begins xs ys
begins_same xs ys e = ([], e ∙ with_nothing xs)

begins_twice : (xs ys zs : List ℕ) → Begins xs ys → Begins ys zs → Begins xs zs
begins_twice xs ys zs a b = (a.0 ++ b.0, b.1 ∙ ap (λ (l : List ℕ). l ++ b.0) a.1 ∙ three_together xs a.0 b.0)

-- blocks that are the same are longer either way
pub same_longer : (grows : Bool) (xs ys : List ℕ) → ys ≡ xs → IsLonger grows xs ys
same_longer true xs ys e = begins_same xs ys e
same_longer false xs ys e = begins_same ys xs (sym e)

longer_twice : (grows : Bool) (xs ys zs : List ℕ) → IsLonger grows xs ys → IsLonger grows ys zs → IsLonger grows xs zs
longer_twice true xs ys zs a b = begins_twice xs ys zs a b
longer_twice false xs ys zs a b = begins_twice zs ys xs b a

pub goes_on_resizes : (g : Geometry) (v now : Room) (m map : ℕ → Option (List ℕ)) (tree after : Tree) (id : ℕ) (grows : Bool) (old new : ℕ → Bool) → IsClear g v m
    → GoesOn g v now m map tree after old new → Resizes g v now m map tree after id grows old new
goes_on_resizes g v now m map tree after id grows old new clear goes = record {
  rest = goes.rest ∙ ap (λ (gs : List Given). record v { given = gs; tally = now.tally }) (sym same);
  standing_is = same_standing v now same;
  holds = λ k r. subst (λ (gs : List Given). is_reserved gs k ≡ true) (sym same) r;
  clear = λ k r. let before : is_reserved v.given k ≡ true = subst (λ (gs : List Given). is_reserved gs k ≡ true) same r in goes.reserved k before (clear k before);
  marked = λ k h. inl (goes.marked k h);
  own = λ n is f. let s = goes.files id n is f in (
    record { node = s.0.node; there = s.0.there; kind = s.0.kind },
    same_longer grows (stream_blocks (volume_in g m) id) (stream_blocks (volume_in g map) id) s.1,
  );
  files = λ b n is f apart. goes.files b n is f;
  came = λ k h. inl (
      let some : 0 < times k (file_data (volume_in g map) after) = h in
      let e : times k (file_data (volume_in g m) tree) ≡ times k (file_data (volume_in g map) after) = goes.same_data k in
      let r : 0 < times k (file_data (volume_in g m) tree) = omega (arith, some, e) in r);
  left = λ k h. inl (
      let some : 0 < times k (file_data (volume_in g m) tree) = h in
      let e : times k (file_data (volume_in g m) tree) ≡ times k (file_data (volume_in g map) after) = goes.same_data k in
      let r : 0 < times k (file_data (volume_in g map) after) = omega (arith, some, e) in r);
  bytes = λ k h there. goes.bytes k h;
  written = λ k h. by_cause k (goes.written k h);
  kept = goes.kept;
  entered = goes.entered;
}
  where
    same : now.given ≡ v.given
    same = ap (λ (r : Room). r.given) goes.rest

    by_cause : (k : ℕ) → (old k ≡ true) ⊎ (MayBeWritten (volume_in g map) after k) → (old k ≡ true) ⊎ (MayBeWritten (volume_in g map) after k ⊎ IsGivenSince g v now k)
    by_cause k (inl e) = inl e
    by_cause k (inr h) = inr (inl h)

module _ (g : Geometry) (v now later : Room) (m mid map : ℕ → Option (List ℕ)) (tree between after : Tree) (id : ℕ) (grows : Bool) (old new last : ℕ → Bool) (one : Resizes g v now m mid tree between id grows old new) (two : Resizes g now later mid map between after id grows new last) where
  was_not : (k : ℕ) → is_reserved now.given k ≡ false → is_reserved v.given k ≡ false
  was_not k none = by_test (is_reserved v.given k) refl
    where
      by_test : (t : Bool) → is_reserved v.given k ≡ t → is_reserved v.given k ≡ false
      by_test true e = let yet : is_reserved now.given k ≡ true = one.holds k e in let bad : true ≡ false = sym yet ∙ none in absurd cc
      by_test false e = e

  unreserved_here : (k : ℕ) → IsMarked (volume_in g mid) k → is_reserved v.given k ≡ false
  unreserved_here k h = by_test (is_reserved v.given k) refl
    where
      by_test : (t : Bool) → is_reserved v.given k ≡ t → is_reserved v.given k ≡ false
      by_test true e = absurd (one.clear k (one.holds k e) h)
      by_test false e = e

  was_free : (k : ℕ) → WasFree g now mid k → WasFree g v m k
  was_free k free = (was_not k free.0, λ marked. by_mark (one.marked k marked))
    where
      by_mark : IsMarked (volume_in g mid) k ⊎ (is_reserved now.given k ≡ true) → ⊥
      by_mark (inl h) = free.1 h
      by_mark (inr r) = let bad : true ≡ false = sym r ∙ free.0 in cc

  by_came : (k : ℕ) → Has (file_data (volume_in g mid) between) k ⊎ WasFree g now mid k → Has (file_data (volume_in g m) tree) k ⊎ WasFree g v m k
  by_came k (inl h) = one.came k h
  by_came k (inr free) = inr (was_free k free)

  -- data before and since is data between
  data_between : (k : ℕ) → Has (file_data (volume_in g mid) between) k ⊎ (is_reserved now.given k ≡ true) → Has (file_data (volume_in g mid) between) k ⊎ WasFree g now mid k → Has (file_data (volume_in g mid) between) k
  data_between k (inl h) came = h
  data_between k (inr r) (inl h) = h
  data_between k (inr r) (inr free) = absurd (let bad : true ≡ false = sym r ∙ free.0 in cc)

  by_file : (b : ℕ) (n : Node) → is_file n.kind ≡ true → b ≢ id → (a : IsFileStill between b n × (stream_blocks (volume_in g mid) b ≡ stream_blocks (volume_in g m) b)) → IsFileStill after b n × (stream_blocks (volume_in g map) b ≡ stream_blocks (volume_in g m) b)
  by_file b n f apart a =
      let s = two.files b a.0.node a.0.there (ap is_file a.0.kind ∙ f) apart in
      (record { node = s.0.node; there = s.0.there; kind = s.0.kind ∙ a.0.kind; size = s.0.size ∙ a.0.size }, s.1 ∙ a.1)

  by_own : (n : Node) → is_file n.kind ≡ true → (a : IsStillFile between id n × IsLonger grows (stream_blocks (volume_in g m) id) (stream_blocks (volume_in g mid) id))
      → IsStillFile after id n × IsLonger grows (stream_blocks (volume_in g m) id) (stream_blocks (volume_in g map) id)
  by_own n f a =
      let s = two.own a.0.node a.0.there (ap is_file a.0.kind ∙ f) in (
        record { node = s.0.node; there = s.0.there; kind = s.0.kind ∙ a.0.kind },
        longer_twice grows (stream_blocks (volume_in g m) id) (stream_blocks (volume_in g mid) id) (stream_blocks (volume_in g map) id) a.1 s.1,
      )

  by_mark : (k : ℕ) → IsMarked (volume_in g mid) k ⊎ (is_reserved now.given k ≡ true) → IsMarked (volume_in g map) k ⊎ (is_reserved later.given k ≡ true)
  by_mark k (inl h) = two.marked k h
  by_mark k (inr r) = inr (two.holds k r)

  by_left : (k : ℕ) → Has (file_data (volume_in g mid) between) k ⊎ (is_reserved now.given k ≡ true) → Has (file_data (volume_in g map) after) k ⊎ (is_reserved later.given k ≡ true)
  by_left k (inl h) = two.left k h
  by_left k (inr r) = inr (two.holds k r)

  by_meta : (k : ℕ) → IsMetadata (volume_in g m) tree k ⊎ (new k ≡ true) → IsMetadata (volume_in g m) tree k ⊎ (last k ≡ true)
  by_meta k (inl h) = inl h
  by_meta k (inr e) = inr (two.kept k e)

  by_since : (k : ℕ) → IsMetadata (volume_in g mid) between k ⊎ (last k ≡ true) → IsMetadata (volume_in g m) tree k ⊎ (last k ≡ true)
  by_since k (inl h) = by_meta k (one.entered k h)
  by_since k (inr e) = inr e

  -- no data has come where a block was marked that was none
  no_data : (k : ℕ) → MayBeWritten (volume_in g mid) between k → times k (file_data (volume_in g map) after) ≡ 0
  no_data k h = by_count (times k (file_data (volume_in g map) after)) refl
    where
      by_came : Has (file_data (volume_in g mid) between) k ⊎ WasFree g now mid k → ⊥
      by_came (inl has) = let some : 0 < times k (file_data (volume_in g mid) between) = has in let z = h.1.0 in omega (arith, some, z)
      by_came (inr free) = free.1 h.0

      by_count : (c : ℕ) → times k (file_data (volume_in g map) after) ≡ c → times k (file_data (volume_in g map) after) ≡ 0
      by_count zero e = e
      by_count (suc c) e = absurd (by_came (two.came k (let r : 0 < times k (file_data (volume_in g map) after) = omega (arith, e) in r)))

  by_given : (k : ℕ) → MayBeWritten (volume_in g mid) between k → IsMarked (volume_in g map) k ⊎ (is_reserved later.given k ≡ true) → MayBeWritten (volume_in g map) after k ⊎ IsGivenSince g v later k
  by_given k h (inl marked) = inl (marked, (no_data k h, h.1.1))
  by_given k h (inr r) = inr (unreserved_here k h.0, r, (h.0.0, h.1.1))

  by_first : (k : ℕ) → (old k ≡ true) ⊎ (MayBeWritten (volume_in g mid) between k ⊎ IsGivenSince g v now k) → (old k ≡ true) ⊎ (MayBeWritten (volume_in g map) after k ⊎ IsGivenSince g v later k)
  by_first k (inl e) = inl e
  by_first k (inr (inl h)) = inr (by_given k h (two.marked k h.0))
  by_first k (inr (inr s)) = inr (inr (s.0, two.holds k s.1, s.2))

  by_last : (k : ℕ) → (new k ≡ true) ⊎ (MayBeWritten (volume_in g map) after k ⊎ IsGivenSince g now later k) → (old k ≡ true) ⊎ (MayBeWritten (volume_in g map) after k ⊎ IsGivenSince g v later k)
  by_last k (inl e) = by_first k (one.written k e)
  by_last k (inr (inl h)) = inr (inl h)
  by_last k (inr (inr s)) = inr (inr (was_not k s.0, s.1, s.2))

  pub resizes_twice : Resizes g v later m map tree after id grows old last
  resizes_twice = record {
    rest = two.rest ∙ ap (λ (r : Room). record r { given = later.given; tally = later.tally }) one.rest;
    standing_is = two.standing_is ∙ one.standing_is;
    holds = λ k r. two.holds k (one.holds k r);
    clear = two.clear;
    marked = λ k h. by_mark k (one.marked k h);
    own = λ n is f. by_own n f (one.own n is f);
    files = λ b n is f apart. by_file b n f apart (one.files b n is f apart);
    came = λ k h. by_came k (two.came k h);
    left = λ k h. by_left k (one.left k h);
    bytes = λ k was is. let h = data_between k (one.left k was) (two.came k is) in two.bytes k h is ∙ one.bytes k was h;
    written = λ k h. by_last k (two.written k h);
    kept = λ k h. two.kept k (one.kept k h);
    entered = λ k h. by_since k (two.entered k h);
  }

module _ (g : Geometry) (v now : Room) (m map : ℕ → Option (List ℕ)) (tree after : Tree) (before lists : Lists) (id : ℕ) (grows : Bool) (old new : ℕ → Bool) (settled : IsSettled v) (clear : IsClear g v m)
    (began : IsAtWork g v m tree before []) (ended : IsAtWork g now map after lists []) (resizes : Resizes g v now m map tree after id grows old new) where
  abbrev was : ℕ → Type 0
  was k = IsMetadata (volume_in g m) tree k

  abbrev is_now : ℕ → Type 0
  is_now k = IsMetadata (volume_in g map) after k

  more : (given : List Given) × (now.given ≡ v.given ++ given) × AllByRecursion (λ run. run.group ≡ None) given
  more = settled_given v now settled resizes.standing_is

  behind : (k : ℕ) → is_reserved now.given k ≡ true → is_reserved v.given k ≡ false → is_reserved more.0 k ≡ true
  behind k r none = reserved_behind v.given more.0 k (subst (λ (gs : List Given). is_reserved gs k ≡ true) more.1 r) none

  unmarked : (k : ℕ) → IsMarked (volume_in g m) k → is_reserved v.given k ≡ false
  unmarked k h = by_test (is_reserved v.given k) refl
    where
      by_test : (t : Bool) → is_reserved v.given k ≡ t → is_reserved v.given k ≡ false
      by_test true e = absurd (clear k e h)
      by_test false e = e

  on : (k : ℕ) → IsMarked (volume_in g m) k → IsMarked (volume_in g map) k → was k → is_now k
  on k marked still is = ((reached (volume_in g map) after lists ended.stocked k).0 still, by_count (times k (file_data (volume_in g map) after)) refl)
    where
      by_came : Has (file_data (volume_in g m) tree) k ⊎ WasFree g v m k → ⊥
      by_came (inl has) = let some : 0 < times k (file_data (volume_in g m) tree) = has in let z = is.1 in omega (arith, some, z)
      by_came (inr free) = free.1 marked

      by_count : (c : ℕ) → times k (file_data (volume_in g map) after) ≡ c → times k (file_data (volume_in g map) after) ≡ 0
      by_count zero e = e
      by_count (suc c) e = absurd (by_came (resizes.came k (let r : 0 < times k (file_data (volume_in g map) after) = omega (arith, e) in r)))

  back : (k : ℕ) → IsMarked (volume_in g m) k → IsMarked (volume_in g map) k → is_now k → was k
  back k marked still is = ((reached (volume_in g m) tree before began.stocked k).0 marked, by_count (times k (file_data (volume_in g m) tree)) refl)
    where
      by_left : Has (file_data (volume_in g map) after) k ⊎ (is_reserved now.given k ≡ true) → ⊥
      by_left (inl h) = let some : 0 < times k (file_data (volume_in g map) after) = h in let z = is.1 in omega (arith, some, z)
      by_left (inr r) = resizes.clear k r still

      by_count : (c : ℕ) → times k (file_data (volume_in g m) tree) ≡ c → times k (file_data (volume_in g m) tree) ≡ 0
      by_count zero e = e
      by_count (suc c) e = absurd (by_left (resizes.left k (let h : 0 < times k (file_data (volume_in g m) tree) = omega (arith, e) in h)))

  by_still : (k : ℕ) → IsMarked (volume_in g m) k → IsMarked (volume_in g map) k ⊎ (is_reserved now.given k ≡ true) → StaysSo g m map tree after k ⊎ (is_reserved more.0 k ≡ true)
  by_still k marked (inl still) = inl (record { marked = still; metadata = (on k marked still, back k marked still) })
  by_still k marked (inr r) = inr (behind k r (unmarked k marked))

  by_change : (k : ℕ) → (old k ≡ true) ⊎ (MayBeWritten (volume_in g map) after k ⊎ IsGivenSince g v now k) → (old k ≡ true) ⊎ (IsApart g k × (is_now k ⊎ (is_reserved more.0 k ≡ true)))
  by_change k (inl e) = inl e
  by_change k (inr (inl h)) = inr ((h.0.0, h.1.1), inl ((reached (volume_in g map) after lists ended.stocked k).0 h.0, h.1.0))
  by_change k (inr (inr s)) = inr (s.2, inr (behind k s.1 s.0))

  by_set : (k : ℕ) → was k ⊎ (new k ≡ true) → new k ≡ false → was k
  by_set k (inl h) none = h
  by_set k (inr e) none = let bad : true ≡ false = sym e ∙ none in absurd cc

  pub resizing_is_left : IsCallLeft g v now m map tree after old new
  resizing_is_left = record {
    given = more.0;
    longer = more.1;
    unnumbered = more.2;
    reserved = resizes.clear;
    blocks = λ k marked. by_still k marked (resizes.marked k marked);
    kept = resizes.kept;
    changed = λ k h. by_change k (resizes.written k h);
    set = λ k meta none. by_set k (resizes.entered k meta) none;
  }

pub sized_is_left : (g : Geometry) (v now : Room) (m : ℕ → Option (List ℕ)) (tree : Tree) (lists : Lists) (holds : List Hold) (stamp : ℤ) (id size : ℕ) (told : Option (ℕ → Option (List ℕ))) (old new : ℕ → Bool)
    → IsSettled v → IsReady g v m tree lists → (sized : IsSizedSo g v now m tree holds stamp id size told old new)
    → IsCallLeft g v now m sized.step.map tree sized.after old new
sized_is_left g v now m tree lists holds stamp id size told old new settled ready sized =
    resizing_is_left g v now m sized.step.map tree sized.after lists sized.lists id sized.grows old new settled ready.reserved ready.work sized.step.work sized.step.resizes
