-- Steps that are put together, and the begin and the end of a call.
use Rattle.std.proofs.Common.{◌≡◌, ◌<◌, ◌↔◌, ◌⊎◌, inl, inr, ℕ, List, [], ◌++◌, length, refl, ap, ◌∙◌, arith, append-nil, Bool, true, Option, subst, sym}
use Rattle.std.specs.Prelude.{IsSome}
use Rattle.std.specs.FinMap.{empty}
use Rattle.bfs_base.specs.Lists.{times, Has}
use Rattle.bfs_super.specs.declared.geometry.Geometry.{Geometry}
use Rattle.bfs_bitmap.specs.Runs.{Room, Fits, IsCounted, is_reserved}
use Rattle.bfs_stream.specs.Told.{contents}
use Rattle.bfs_stream.specs.Grown.{IsOfVolume}
use Rattle.bfs_stream.proofs.Doubles.{times-append}
use Rattle.bfs_tree.specs.Trees.{Tree, IsPlain, is_file}
use Rattle.bfs_sound.specs.Volumes.{Volume, sizes, IsMarked}
use Rattle.bfs_sound.specs.Owners.{fixed_blocks, file_data, reach, IsMetadata}
use Rattle.bfs_sound.specs.Whole.{IsSound}
use Rattle.bfs_sound.specs.Laws.{changed}
use Rattle.bfs_shift.specs.Lists.{Lists, Agrees}
use Rattle.bfs_shift.specs.Laws.{lists_of}
use Rattle.bfs_shift.specs.Stocked.{Stocked}
use Rattle.bfs_shift.specs.Shifts.{volume_in}
use Rattle.bfs_shift.proofs.Closed.{sound_stocked, sound_agrees}
use Rattle.bfs_shift.proofs.Counted.{count_is_reach, counted_sound}
use Rattle.bfs_shift.specs.Work.{IsAtWork, GoesOn, MayBeWritten}
use Rattle.bfs_moves.specs.Laws.{IsApart, IsCallKept}

pub goes_on_same : (g : Geometry) (v : Room) (m : ℕ → Option (List ℕ)) (tree : Tree) (old : ℕ → Bool) → GoesOn g v v m m tree tree old old
goes_on_same g v m tree old = record {
  rest = refl;
  marked = λ k h. h;
  files = λ id n is f. (record { node = n; there = is; kind = refl; size = refl }, refl);
  same_data = λ k. refl;
  bytes = λ k h. refl;
  written = λ k h. inl h;
  kept = λ k h. h;
  entered = λ k h. inl h;
  reserved = λ k r none. none;
}

module _ (g : Geometry) (v now later : Room) (m mid map : ℕ → Option (List ℕ)) (tree between after : Tree) (old new last : ℕ → Bool) (one : GoesOn g v now m mid tree between old new) (two : GoesOn g now later mid map between after new last) where
  pub goes_on_twice : GoesOn g v later m map tree after old last
  goes_on_twice = record {
    rest = two.rest ∙ ap (λ (r : Room). record r { tally = later.tally }) one.rest;
    marked = λ k h. two.marked k (one.marked k h);
    files = λ id n is f.
        let a = one.files id n is f in
        let b = two.files id a.0.node a.0.there (ap is_file a.0.kind ∙ f) in
        (record { node = b.0.node; there = b.0.there; kind = b.0.kind ∙ a.0.kind; size = b.0.size ∙ a.0.size }, b.1 ∙ a.1);
    same_data = λ k. one.same_data k ∙ two.same_data k;
    bytes = λ k h. two.bytes k (let some : 0 < times k (file_data (volume_in g m) tree) = h in let e = one.same_data k in let r : 0 < times k (file_data (volume_in g mid) between) = omega (arith, some, e) in r) ∙ one.bytes k h;
    written = λ k h. by_last k (two.written k h);
    kept = λ k h. two.kept k (one.kept k h);
    entered = λ k h. by_since k (two.entered k h);
    reserved = λ k r none. two.reserved k (subst (λ (x : Room). is_reserved x.given k ≡ true) (sym one.rest) r) (one.reserved k r none);
  }
    where
      by_mid : (k : ℕ) → IsMetadata (volume_in g m) tree k ⊎ (new k ≡ true) → IsMetadata (volume_in g m) tree k ⊎ (last k ≡ true)
      by_mid k (inl h) = inl h
      by_mid k (inr e) = inr (two.kept k e)

      by_since : (k : ℕ) → IsMetadata (volume_in g mid) between k ⊎ (last k ≡ true) → IsMetadata (volume_in g m) tree k ⊎ (last k ≡ true)
      by_since k (inl h) = by_mid k (one.entered k h)
      by_since k (inr e) = inr e

      by_first : (k : ℕ) → (old k ≡ true) ⊎ (MayBeWritten (volume_in g mid) between k) → (old k ≡ true) ⊎ (MayBeWritten (volume_in g map) after k)
      by_first k (inl e) = inl e
      by_first k (inr h) = inr (two.marked k h.0, ((let e = two.same_data k in let z = h.1.0 in omega (arith, e, z)), h.1.1))

      by_last : (k : ℕ) → (new k ≡ true) ⊎ (MayBeWritten (volume_in g map) after k) → (old k ≡ true) ⊎ (MayBeWritten (volume_in g map) after k)
      by_last k (inl e) = by_first k (one.written k e)
      by_last k (inr h) = inr h

pub work_begins : (g : Geometry) (v : Room) (m : ℕ → Option (List ℕ)) (tree : Tree) → IsOfVolume (sizes g) v → Fits v m → IsCounted v m → IsSound (volume_in g m) tree
    → ((k : ℕ) → IsMetadata (volume_in g m) tree k → times k (fixed_blocks (volume_in g m)) ≡ 0 → IsSome (m k))
    → IsAtWork g v m tree (lists_of (volume_in g m) tree) [] × Agrees tree (lists_of (volume_in g m) tree)
work_begins g v m tree of fits counted sound told = (
  record { volume = of; fits = fits; counted = counted; stocked = sound_stocked (volume_in g m) tree sound; told = told },
  sound_agrees (volume_in g m) tree sound,
)

-- where nothing is loose, what is marked is what is reached
pub reached : (v : Volume) (tree : Tree) (lists : Lists) → Stocked v tree lists [] → (k : ℕ) → IsMarked v k ↔ Has (reach v tree) k
reached v tree lists stocked k = (
  λ marked. let h : 0 < times k (reach v tree ++ []) = (stocked.marks k).0 marked in let a = times-append k (reach v tree) [] in omega (arith, h, a),
  λ has. (stocked.marks k).1 (let h : 0 < times k (reach v tree) = has in let a = times-append k (reach v tree) [] in let r : 0 < times k (reach v tree ++ []) = omega (arith, h, a) in r),
)

pub call_is_kept : (g : Geometry) (v now : Room) (m map : ℕ → Option (List ℕ)) (tree after : Tree) (before lists : Lists) (old new : ℕ → Bool)
    → IsAtWork g v m tree before [] → IsAtWork g now map after lists [] → GoesOn g v now m map tree after old new → IsCallKept g m map tree after old new
call_is_kept g v now m map tree after before lists old new began ended goes = record {
  marked = goes.marked;
  metadata = λ k marked. (
    λ is. ((reached (volume_in g map) after lists ended.stocked k).0 (goes.marked k marked), (let e = goes.same_data k in let z = is.1 in omega (arith, e, z))),
    λ is. ((reached (volume_in g m) tree before began.stocked k).0 marked, (let e = goes.same_data k in let z = is.1 in omega (arith, e, z))),
  );
  changed = λ k h. by_cause k (goes.written k h);
}
  where
    by_cause : (k : ℕ) → (old k ≡ true) ⊎ (MayBeWritten (volume_in g map) after k) → (old k ≡ true) ⊎ (IsMetadata (volume_in g map) after k × IsApart g k)
    by_cause k (inl e) = inl e
    by_cause k (inr h) = inr (((reached (volume_in g map) after lists ended.stocked k).0 h.0, h.1.0), (h.0.0, h.1.1))

pub used_is_reach : (g : Geometry) (v : Room) (m : ℕ → Option (List ℕ)) (tree : Tree) (lists : Lists) (loose : List ℕ) → IsAtWork g v m tree lists loose
    → v.tally.used ≡ length (reach (volume_in g m) tree ++ loose)
used_is_reach g v m tree lists loose work = work.counted ∙ count_is_reach g v m tree lists loose work.volume work.stocked

pub work_ends : (g : Geometry) (v : Room) (m : ℕ → Option (List ℕ)) (tree : Tree) (lists : Lists) → IsAtWork g v m tree lists [] → Agrees tree lists → IsPlain tree
    → tree.root ≡ g.root → (tree.indices ≡ empty → g.indices ≡ 0) → IsSound (changed (volume_in g m) (contents m) v.tally.used) tree
work_ends g v m tree lists work agrees plain root none =
    counted_sound (volume_in g m) tree v.tally.used lists work.stocked agrees plain root none (used_is_reach g v m tree lists [] work ∙ ap length (append-nil (reach (volume_in g m) tree)))
