-- Steps that may give blocks back are put together, and what is known at the end of a call that was made of them.
use Rattle.std.proofs.Common.{◌≡◌, ◌<◌, ◌⊎◌, inl, inr, ℕ, zero, suc, List, [], ◌++◌, refl, sym, ap, ◌∙◌, subst, arith, Bool, true, false, Option, None}
use Rattle.std.specs.List.{AllByRecursion}
use Rattle.bfs_base.specs.Lists.{times, Has}
use Rattle.bfs_super.specs.declared.geometry.Geometry.{Geometry}
use Rattle.bfs_bitmap.specs.declared.given.Given.{Given}
use Rattle.bfs_bitmap.specs.Runs.{Room, IsSettled, is_reserved}
use Rattle.bfs_tree.specs.Trees.{Node, Tree, is_file}
use Rattle.bfs_sound.specs.Volumes.{IsMarked}
use Rattle.bfs_sound.specs.Inodes.{stream_blocks}
use Rattle.bfs_sound.specs.Owners.{file_data, IsMetadata}
use Rattle.bfs_shift.specs.Lists.{Lists}
use Rattle.bfs_shift.specs.Shifts.{volume_in}
use Rattle.bfs_shift.specs.Work.{IsAtWork, GoesOn, IsFileStill, MayBeWritten}
use Rattle.bfs_moves.specs.Laws.{IsApart}
use Rattle.bfs_moves.proofs.Ends.{reached}
use Rattle.bfs_leave.specs.Laws.{StaysSo, IsCallLeft}
use Rattle.bfs_leave.specs.Leaving.{IsClear, IsGivenSince, GivesBack}
use Rattle.bfs_leave.proofs.Standing.{same_standing, settled_given, reserved_behind}

pub goes_on_gives : (g : Geometry) (v now : Room) (m map : ℕ → Option (List ℕ)) (tree after : Tree) (old new : ℕ → Bool) → IsClear g v m
    → GoesOn g v now m map tree after old new → GivesBack g v now m map tree after old new
goes_on_gives g v now m map tree after old new clear goes = record {
  rest = goes.rest ∙ ap (λ (gs : List Given). record v { given = gs; tally = now.tally }) (sym same);
  standing_is = same_standing v now same;
  holds = λ k r. subst (λ (gs : List Given). is_reserved gs k ≡ true) (sym same) r;
  clear = λ k r. let before : is_reserved v.given k ≡ true = subst (λ (gs : List Given). is_reserved gs k ≡ true) same r in goes.reserved k before (clear k before);
  marked = λ k h. inl (goes.marked k h);
  files = λ id n is f. inl (goes.files id n is f);
  no_more = λ k. let e : times k (file_data (volume_in g m) tree) ≡ times k (file_data (volume_in g map) after) = goes.same_data k in omega (arith, e);
  left = λ k h. inl (
      let some : 0 < times k (file_data (volume_in g m) tree) = h in
      let e : times k (file_data (volume_in g m) tree) ≡ times k (file_data (volume_in g map) after) = goes.same_data k in
      let r : 0 < times k (file_data (volume_in g map) after) = omega (arith, some, e) in r);
  bytes = λ k h. goes.bytes k (
      let some : 0 < times k (file_data (volume_in g map) after) = h in
      let e : times k (file_data (volume_in g m) tree) ≡ times k (file_data (volume_in g map) after) = goes.same_data k in
      let r : 0 < times k (file_data (volume_in g m) tree) = omega (arith, some, e) in r);
  written = λ k h. by_cause k (goes.written k h);
  kept = goes.kept;
  entered = goes.entered;
}
  where
    same : now.given ≡ v.given
    same = ap (λ (r : Room). r.given) goes.rest

    by_cause : (k : ℕ) → (old k ≡ true) ⊎ (MayBeWritten (volume_in g map) after k) → (old k ≡ true) ⊎ (MayBeWritten (volume_in g map) after k ⊎ IsGivenSince g v now k)
    by_cause k (inl e) = inl e
    by_cause k (inr h) = inr (inl h)

module _ (g : Geometry) (v now later : Room) (m mid map : ℕ → Option (List ℕ)) (tree between after : Tree) (old new last : ℕ → Bool) (one : GivesBack g v now m mid tree between old new) (two : GivesBack g now later mid map between after new last) where
  was_not : (k : ℕ) → is_reserved now.given k ≡ false → is_reserved v.given k ≡ false
  was_not k none = by_test (is_reserved v.given k) refl
    where
      by_test : (t : Bool) → is_reserved v.given k ≡ t → is_reserved v.given k ≡ false
      by_test true e = let yet : is_reserved now.given k ≡ true = one.holds k e in let bad : true ≡ false = sym yet ∙ none in absurd cc
      by_test false e = e

  unreserved_here : (k : ℕ) → IsMarked (volume_in g mid) k → is_reserved v.given k ≡ false
  unreserved_here k h = by_test (is_reserved v.given k) refl
    where
      by_test : (t : Bool) → is_reserved v.given k ≡ t → is_reserved v.given k ≡ false
      by_test true e = absurd (one.clear k (one.holds k e) h)
      by_test false e = e

  abbrev Stays : ℕ → Node → (ℕ → Option (List ℕ)) → Tree → Type 0
  Stays id n x t = IsFileStill t id n × (stream_blocks (volume_in g x) id ≡ stream_blocks (volume_in g m) id)

  by_next : (id : ℕ) (n : Node) (a : Stays id n mid between)
      → (IsFileStill after id a.0.node × (stream_blocks (volume_in g map) id ≡ stream_blocks (volume_in g mid) id)) ⊎ (is_reserved later.given id ≡ true) → Stays id n map after ⊎ (is_reserved later.given id ≡ true)
  by_next id n a (inl b) = inl (record { node = b.0.node; there = b.0.there; kind = b.0.kind ∙ a.0.kind; size = b.0.size ∙ a.0.size }, b.1 ∙ a.1)
  by_next id n a (inr r) = inr r

  by_file : (id : ℕ) (n : Node) → is_file n.kind ≡ true → Stays id n mid between ⊎ (is_reserved now.given id ≡ true) → Stays id n map after ⊎ (is_reserved later.given id ≡ true)
  by_file id n f (inl a) = by_next id n a (two.files id a.0.node a.0.there (ap is_file a.0.kind ∙ f))
  by_file id n f (inr r) = inr (two.holds id r)

  by_mark : (k : ℕ) → IsMarked (volume_in g mid) k ⊎ (is_reserved now.given k ≡ true) → IsMarked (volume_in g map) k ⊎ (is_reserved later.given k ≡ true)
  by_mark k (inl h) = two.marked k h
  by_mark k (inr r) = inr (two.holds k r)

  by_left : (k : ℕ) → Has (file_data (volume_in g mid) between) k ⊎ (is_reserved now.given k ≡ true) → Has (file_data (volume_in g map) after) k ⊎ (is_reserved later.given k ≡ true)
  by_left k (inl h) = two.left k h
  by_left k (inr r) = inr (two.holds k r)

  by_meta : (k : ℕ) → IsMetadata (volume_in g m) tree k ⊎ (new k ≡ true) → IsMetadata (volume_in g m) tree k ⊎ (last k ≡ true)
  by_meta k (inl h) = inl h
  by_meta k (inr e) = inr (two.kept k e)

  by_since : (k : ℕ) → IsMetadata (volume_in g mid) between k ⊎ (last k ≡ true) → IsMetadata (volume_in g m) tree k ⊎ (last k ≡ true)
  by_since k (inl h) = by_meta k (one.entered k h)
  by_since k (inr e) = inr e

  by_given : (k : ℕ) → MayBeWritten (volume_in g mid) between k → IsMarked (volume_in g map) k ⊎ (is_reserved later.given k ≡ true) → MayBeWritten (volume_in g map) after k ⊎ IsGivenSince g v later k
  by_given k h (inl marked) = inl (marked, ((let b = two.no_more k in let z = h.1.0 in omega (arith, b, z)), h.1.1))
  by_given k h (inr r) = inr (unreserved_here k h.0, r, (h.0.0, h.1.1))

  by_first : (k : ℕ) → (old k ≡ true) ⊎ (MayBeWritten (volume_in g mid) between k ⊎ IsGivenSince g v now k) → (old k ≡ true) ⊎ (MayBeWritten (volume_in g map) after k ⊎ IsGivenSince g v later k)
  by_first k (inl e) = inl e
  by_first k (inr (inl h)) = inr (by_given k h (two.marked k h.0))
  by_first k (inr (inr s)) = inr (inr (s.0, two.holds k s.1, s.2))

  by_last : (k : ℕ) → (new k ≡ true) ⊎ (MayBeWritten (volume_in g map) after k ⊎ IsGivenSince g now later k) → (old k ≡ true) ⊎ (MayBeWritten (volume_in g map) after k ⊎ IsGivenSince g v later k)
  by_last k (inl e) = by_first k (one.written k e)
  by_last k (inr (inl h)) = inr (inl h)
  by_last k (inr (inr s)) = inr (inr (was_not k s.0, s.1, s.2))

  pub gives_back_twice : GivesBack g v later m map tree after old last
  gives_back_twice = record {
    rest = two.rest ∙ ap (λ (r : Room). record r { given = later.given; tally = later.tally }) one.rest;
    standing_is = two.standing_is ∙ one.standing_is;
    holds = λ k r. two.holds k (one.holds k r);
    clear = two.clear;
    marked = λ k h. by_mark k (one.marked k h);
    files = λ id n is f. by_file id n f (one.files id n is f);
    no_more = λ k. let a = one.no_more k in let b = two.no_more k in omega (arith, a, b);
    left = λ k h. by_left k (one.left k h);
    bytes = λ k h. two.bytes k h ∙ one.bytes k (let some : 0 < times k (file_data (volume_in g map) after) = h in let b = two.no_more k in let r : 0 < times k (file_data (volume_in g mid) between) = omega (arith, some, b) in r);
    written = λ k h. by_last k (two.written k h);
    kept = λ k h. two.kept k (one.kept k h);
    entered = λ k h. by_since k (two.entered k h);
  }

module _ (g : Geometry) (v now : Room) (m map : ℕ → Option (List ℕ)) (tree after : Tree) (before lists : Lists) (old new : ℕ → Bool) (settled : IsSettled v) (clear : IsClear g v m)
    (began : IsAtWork g v m tree before []) (ended : IsAtWork g now map after lists []) (gives : GivesBack g v now m map tree after old new) where
  abbrev was : ℕ → Type 0
  was k = IsMetadata (volume_in g m) tree k

  abbrev is_now : ℕ → Type 0
  is_now k = IsMetadata (volume_in g map) after k

  more : (given : List Given) × (now.given ≡ v.given ++ given) × AllByRecursion (λ run. run.group ≡ None) given
  more = settled_given v now settled gives.standing_is

  behind : (k : ℕ) → is_reserved now.given k ≡ true → is_reserved v.given k ≡ false → is_reserved more.0 k ≡ true
  behind k r none = reserved_behind v.given more.0 k (subst (λ (gs : List Given). is_reserved gs k ≡ true) more.1 r) none

  unmarked : (k : ℕ) → IsMarked (volume_in g m) k → is_reserved v.given k ≡ false
  unmarked k h = by_test (is_reserved v.given k) refl
    where
      by_test : (t : Bool) → is_reserved v.given k ≡ t → is_reserved v.given k ≡ false
      by_test true e = absurd (clear k e h)
      by_test false e = e

  on : (k : ℕ) → IsMarked (volume_in g map) k → was k → is_now k
  on k marked is = ((reached (volume_in g map) after lists ended.stocked k).0 marked, (let e = gives.no_more k in let z = is.1 in omega (arith, e, z)))

  back : (k : ℕ) → IsMarked (volume_in g m) k → IsMarked (volume_in g map) k → is_now k → was k
  back k marked still is = ((reached (volume_in g m) tree before began.stocked k).0 marked, by_count (times k (file_data (volume_in g m) tree)) refl)
    where
      by_left : Has (file_data (volume_in g map) after) k ⊎ (is_reserved now.given k ≡ true) → ⊥
      by_left (inl h) = let some : 0 < times k (file_data (volume_in g map) after) = h in let z = is.1 in omega (arith, some, z)
      by_left (inr r) = gives.clear k r still

      by_count : (c : ℕ) → times k (file_data (volume_in g m) tree) ≡ c → times k (file_data (volume_in g m) tree) ≡ 0
      by_count zero e = e
      by_count (suc c) e = absurd (by_left (gives.left k (let h : 0 < times k (file_data (volume_in g m) tree) = omega (arith, e) in h)))

  by_still : (k : ℕ) → IsMarked (volume_in g m) k → IsMarked (volume_in g map) k ⊎ (is_reserved now.given k ≡ true) → StaysSo g m map tree after k ⊎ (is_reserved more.0 k ≡ true)
  by_still k marked (inl still) = inl (record { marked = still; metadata = (on k still, back k marked still) })
  by_still k marked (inr r) = inr (behind k r (unmarked k marked))

  by_change : (k : ℕ) → (old k ≡ true) ⊎ (MayBeWritten (volume_in g map) after k ⊎ IsGivenSince g v now k) → (old k ≡ true) ⊎ (IsApart g k × (is_now k ⊎ (is_reserved more.0 k ≡ true)))
  by_change k (inl e) = inl e
  by_change k (inr (inl h)) = inr ((h.0.0, h.1.1), inl ((reached (volume_in g map) after lists ended.stocked k).0 h.0, h.1.0))
  by_change k (inr (inr s)) = inr (s.2, inr (behind k s.1 s.0))

  by_set : (k : ℕ) → was k ⊎ (new k ≡ true) → new k ≡ false → was k
  by_set k (inl h) none = h
  by_set k (inr e) none = let bad : true ≡ false = sym e ∙ none in absurd cc

  pub call_is_left : IsCallLeft g v now m map tree after old new
  call_is_left = record {
    given = more.0;
    longer = more.1;
    unnumbered = more.2;
    reserved = gives.clear;
    blocks = λ k marked. by_still k marked (gives.marked k marked);
    kept = gives.kept;
    changed = λ k h. by_change k (gives.written k h);
    set = λ k meta none. by_set k (gives.entered k meta) none;
  }
