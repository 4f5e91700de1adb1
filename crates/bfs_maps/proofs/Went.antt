-- What calls on the pages of a tree's stream come to for the volume.
use Rattle.std.proofs.Common.{◌≡◌, ◌∙◌, inl, ℕ, ℤ, List, Bool, Option, Some, None, refl, sym, ap, subst, inr, ◌⊎◌, ◌&&◌, is_some, true, false}
use Rattle.std.specs.Option.{option_map}
use Rattle.std.specs.Prelude.{Result, Ok, Err, OnOk, IfOk, IfErr, MatchResult, IsSome, IfSome}
use Rattle.bfs_base.specs.declared.kind.KeyKind.{KeyKind}
use Rattle.bfs_bitmap.specs.Runs.{Room}
use Rattle.bfs_node.specs.Page.{Row}
use Rattle.bfs_node.specs.declared.fault.PageKind.{PageKind}
use Rattle.bfs_node.specs.declared.fault.TreeFault.{TreeFault}
use Rattle.bfs_node.specs.declared.fault.TreeFault.TheVariants.{Exists, Absent, Damaged, Pages, NoMemory}
use Rattle.bfs_txn.specs.Faults.{Counts}
use Rattle.bfs_txn.specs.Told.{StaysChanged}
use Rattle.bfs_insert.specs.Puts.{IsHindered}
use Rattle.bfs_pages.specs.Answers.{IsOfPages, IsOfKind}
use Rattle.bfs_pages.specs.Maps.{assoc}
use Rattle.bfs_pages.specs.Order.{Key}
use Rattle.bfs_stream.specs.Faults.{IsGrowCause}
use Rattle.bfs_stream.specs.Grown.{AreWritten}
use Rattle.bfs_stream.specs.Places.{whole_at}
use Rattle.bfs_stream.specs.Sizes.{Origin}
use Rattle.bfs_stream.specs.Told.{contents}
use Rattle.bfs_stream.specs.declared.fault.GrowFault.{GrowFault}
use Rattle.bfs_stream.specs.declared.fault.GrowFault.TheVariants as grow
use Rattle.bfs_stream_pages.specs.Causes.{HasCause, HasFailed, IsOfBlock, IsPageCause, IsReadCause}
use Rattle.bfs_stream_pages.specs.Goes.{GoesOn, HasMoved, HasFault}
use Rattle.bfs_stream_pages.specs.Held.{Held, known, stream_of}
use Rattle.bfs_stream_pages.specs.Moves.{ChangesFresh, Moved}
use Rattle.bfs_stream_pages.specs.Steps.{IsUndamaged}
use Rattle.bfs_values.specs.Kinds.{IsCut, IsLacking, IsWanted}
use Rattle.bfs_maps.specs.Mapped.{StreamNow}
use Rattle.bfs_maps.specs.Refused.{IsNumberPage, IsUnnumbered, IsTurnedAway, IsNotPut, IsNotTaken, IsPutFault, IsTakeFault, IsUndone, IsReadFault, HasReadCause, HasPutCause, HasTakeCause, IsChangeFault, IsTakingFault}

-- what pages stood over when the calls began
pub record Before : Type 0 where
  pub origin : Origin
  pub room : Room
  pub long : ℕ
  pub known_then : Option (ℕ → Option (List ℕ))
  pub failed : Option GrowFault
  pub changed : ℕ → Bool
  pub counts : Counts

pub start_is : (failed : Option GrowFault) (start told : Option (ℕ → Option (List ℕ))) (m : ℕ → Option (List ℕ)) → failed ≡ None → start ≡ Some m → told ≡ Some m → known failed start told ≡ Some m
start_is failed start told m a b c = λ i. known (a i) (b i) (c i)

pub goes_from : (b : Before) (o : Origin) (v now : Room) (long more : ℕ) (m : ℕ → Option (List ℕ)) (told_now : Option (ℕ → Option (List ℕ))) (failed_now : Option GrowFault) (old new : ℕ → Bool) (counts counts_now : Counts)
    → b.origin ≡ o → b.room ≡ v → b.long ≡ long → b.known_then ≡ Some m → b.failed ≡ None → b.changed ≡ old → b.counts ≡ counts
    → GoesOn b.origin b.room now b.long more b.known_then told_now b.failed failed_now b.changed new b.counts counts_now
    → GoesOn o v now long more (Some m) told_now None failed_now old new counts counts_now
goes_from b o v now long more m told_now failed_now old new counts counts_now e1 e2 e3 e4 e5 e6 e7 g =
    let path : b ≡ record { origin = o; room = v; long = long; known_then = Some m; failed = None; changed = old; counts = counts } =
    λ i. record { origin = e1 i; room = e2 i; long = e3 i; known_then = e4 i; failed = e5 i; changed = e6 i; counts = e7 i } in
    subst (λ (x : Before). GoesOn x.origin x.room now x.long more x.known_then told_now x.failed failed_now x.changed new x.counts counts_now) path g

some_of : {A B : Type 0} (f : A → B) (x : Option A) (c : B) → option_map f x ≡ Some c → (a : A) × (x ≡ Some a) × (f a ≡ c)
some_of f None c e = absurd (let bad : None ≡ Some c = e in cc)
some_of f (Some a) c e = (a, refl, (let s : Some (f a) ≡ Some c = e in cc))

told_of : (failed : Option GrowFault) (start told : Option (ℕ → Option (List ℕ))) (map : ℕ → Option (List ℕ)) → known failed start told ≡ Some map → told ≡ Some map
told_of (Some fault) start told map e = absurd (let bad : None ≡ Some map = e in cc)
told_of None None told map e = absurd (let bad : None ≡ Some map = e in cc)
told_of None (Some m) told map e = e

-- the stream is held since, with these bytes
pub record Went (o : Origin) (v now : Room) (more : ℕ) (m : ℕ → Option (List ℕ)) (c : List ℕ) (told : Option (ℕ → Option (List ℕ))) (old new : ℕ → Bool) : Type 0 where
  pub map : ℕ → Option (List ℕ)
  pub is : told ≡ Some map
  pub bytes : stream_of o map ≡ c
  pub held : Held o now more map
  pub moved : Moved o v now m map
  pub written : AreWritten v old new (whole_at o.sizes (contents map) o.id)
  pub stays : StaysChanged old new
  pub fresh : ChangesFresh o m map new

pub went : (o back : Origin) (v now : Room) (long more : ℕ) (m : ℕ → Option (List ℕ)) (c : List ℕ) (failed : Option GrowFault) (start told : Option (ℕ → Option (List ℕ))) (old new : ℕ → Bool) (counts counts_now : Counts)
    → back ≡ o → option_map (stream_of back) (known failed start told) ≡ Some c → Held o v long m
    → GoesOn o v now long more (Some m) (known failed start told) None failed old new counts counts_now
    → Went o v now more m c told old new
went o back v now long more m c failed start told old new counts counts_now same is held goes =
    let found = some_of (stream_of back) (known failed start told) c is in
    let moved : HasMoved o v now long more (Some m) (Some found.0) failed old new = subst (λ x. HasMoved o v now long more (Some m) x failed old new) found.1 goes.moved in
    let parts = moved held in
    record {
      map = found.0;
      is = told_of failed start told found.0 found.1;
      bytes = ap (λ (x : Origin). stream_of x found.0) (sym same) ∙ found.2;
      held = parts.0;
      moved = parts.1.0;
      written = parts.1.1;
      stays = goes.stays;
      fresh = parts.1.2;
    }

-- the stream since, where its bytes have a property
pub stream_now : (o : Origin) (v now : Room) (more : ℕ) (m : ℕ → Option (List ℕ)) (c : List ℕ) (P : List ℕ → Type 0) (told : Option (ℕ → Option (List ℕ))) (old new : ℕ → Bool)
    → Went o v now more m c told old new → P c → StreamNow o v now m P told old new
stream_now o v now more m c P told old new w has = record {
  map = w.map;
  is = w.is;
  held = (more, w.held);
  bytes = subst P (sym w.bytes) has;
  moved = w.moved;
  written = w.written;
  stays = w.stays;
  fresh = w.fresh;
}

-- the pages tell the stream's bytes at the start
pub told_start : (o : Origin) (failed : Option GrowFault) (start told : Option (ℕ → Option (List ℕ))) (m : ℕ → Option (List ℕ)) → failed ≡ None → start ≡ told → told ≡ Some m → option_map (stream_of o) (known failed start told) ≡ Some (stream_of o m)
told_start o failed start told m none same is = ap (option_map (stream_of o)) (start_is failed start told m none (same ∙ is) is)

-- what goes on from the start
pub goes_on_from : (o : Origin) (v now : Room) (long more : ℕ) (m : ℕ → Option (List ℕ)) (failed : Option GrowFault) (start told told_now : Option (ℕ → Option (List ℕ))) (failed_now : Option GrowFault) (old new : ℕ → Bool) (counts counts_now : Counts)
    → failed ≡ None → start ≡ told → told ≡ Some m → GoesOn o v now long more (known failed start told) told_now failed failed_now old new counts counts_now
    → GoesOn o v now long more (Some m) told_now None failed_now old new counts counts_now
goes_on_from o v now long more m failed start told told_now failed_now old new counts counts_now none same is g =
    goes_from (record { origin = o; room = v; long = long; known_then = known failed start told; failed = failed; changed = old; counts = counts }) o v now long more m told_now failed_now old new counts counts_now
    refl refl refl (start_is failed start told m none (same ∙ is) is) none refl refl g

-- why pages failed, from the start
pub cause_from : (o : Origin) (v : Room) (long : ℕ) (m : ℕ → Option (List ℕ)) (failed : Option GrowFault) (start told : Option (ℕ → Option (List ℕ))) (old new : Counts) (fault : GrowFault)
    → failed ≡ None → start ≡ told → told ≡ Some m → Held o v long m → IsPageCause o v long (known failed start told) failed old new fault → HasFailed o v m fault
cause_from o v long m failed start told old new fault none same is held cause =
    let now : HasCause o v long (Some m) old new fault = subst (λ (x : Option GrowFault × Option (ℕ → Option (List ℕ))). IsPageCause o v long x.1 x.0 old new fault) (λ i. (none i, start_is failed start told m none (same ∙ is) is i)) cause in
    now.reason held

pub below_from : (o : Origin) (v : Room) (long : ℕ) (known_then : Option (ℕ → Option (List ℕ))) (failed : Option GrowFault) (old new : Counts) (fault : GrowFault) → failed ≡ None → IsPageCause o v long known_then failed old new fault → IsGrowCause 1 old new fault
below_from o v long known_then failed old new fault none cause = let now : HasCause o v long known_then old new fault = subst (λ (x : Option GrowFault). IsPageCause o v long known_then x old new fault) none cause in now.below

pub match_ok : {T F : Type 0} (P : T → Type 0) (Q : F → Type 0) (R : Type 0) (r : Result T F) → MatchResult r P Q → ((x : T) → P x → R) → OnOk r R
match_ok P Q R (Ok x) is f = f x is
match_ok P Q R (Err e) is f = tt

pub if_ok : {T F : Type 0} (P R : T → Type 0) (Q : F → Type 0) (r : Result T F) → MatchResult r P Q → ((x : T) → P x → R x) → IfOk r R
if_ok P R Q (Ok x) is f = f x is
if_ok P R Q (Err e) is f = tt

pub if_err : {T F : Type 0} (P : T → Type 0) (Q S R : F → Type 0) (r : Result T F) → MatchResult r P Q → IfErr r S → ((e : F) → Q e → S e → R e) → IfErr r R
if_err P Q S R (Ok x) is also f = tt
if_err P Q S R (Err e) is also f = f e is also

pub on_err : {T F : Type 0} (P Q : F → Type 0) (r : Result T F) → IfErr r P → ((e : F) → P e → Q e) → IfErr r Q
on_err P Q (Ok x) is f = tt
on_err P Q (Err e) is f = f e is

pub both : {T F : Type 0} (P : T → Type 0) (Q S R : F → Type 0) (r : Result T F) → MatchResult r P Q → IfErr r S → ((e : F) → Q e → S e → R e) → MatchResult r P R
both P Q S R (Ok x) is also f = is
both P Q S R (Err e) is also f = f e is also

-- the faults of a call that puts, over a map
pub put_fault : (kind : KeyKind) (o : Origin) (v : Room) (m : ℕ → Option (List ℕ)) (rows : List Row) (k : Key) (told now : Option (List ℕ)) (cause : GrowFault → Type 0) (fault : TreeFault GrowFault)
    → IsNotPut kind rows k fault → IsHindered kind told now cause fault → ((f : GrowFault) → cause f → HasFailed o v m f) → ((value : ℤ) → assoc kind rows k ≡ Some value → (f : GrowFault) → cause f → IsUndamaged f) → IsPutFault kind o v m rows k fault
put_fault kind o v m rows k told now cause Exists is why from fine = is
put_fault kind o v m rows k told now cause Absent is why from fine = is
put_fault kind o v m rows k told now cause (Damaged page sort) is why from fine = is
put_fault kind o v m rows k told now cause (Pages f) is why from fine = (from f why, λ value there. fine value there f why)
put_fault kind o v m rows k told now cause NoMemory is why from fine = tt

pub take_fault : (kind : KeyKind) (rows : List Row) (k : Key) (told now : Option (List ℕ)) (cause : GrowFault → Type 0) (fault : TreeFault GrowFault)
    → IsNotTaken kind rows k fault → IsTurnedAway kind told now cause fault → ((f : GrowFault) → cause f → IsUndamaged f) → IsTakeFault kind rows k fault
take_fault kind rows k told now cause Exists is why from = is
take_fault kind rows k told now cause Absent is why from = is
take_fault kind rows k told now cause (Damaged page sort) is why from = is
take_fault kind rows k told now cause (Pages f) is why from = from f why
take_fault kind rows k told now cause NoMemory is why from = tt

-- their causes in what lies below
pub put_cause : (kind : KeyKind) (told now : Option (List ℕ)) (cause : GrowFault → Type 0) (old new : Counts) (fault : TreeFault GrowFault) → IsHindered kind told now cause fault → ((f : GrowFault) → cause f → IsGrowCause 1 old new f) → HasPutCause old new fault
put_cause kind told now cause old new Exists why from = tt
put_cause kind told now cause old new Absent why from = why
put_cause kind told now cause old new (Damaged page sort) why from = tt
put_cause kind told now cause old new (Pages f) why from = from f why
put_cause kind told now cause old new NoMemory why from = tt

pub take_cause : (kind : KeyKind) (told now : Option (List ℕ)) (cause : GrowFault → Type 0) (old new : Counts) (fault : TreeFault GrowFault) → IsTurnedAway kind told now cause fault → ((f : GrowFault) → cause f → IsOfBlock f × IsGrowCause 1 old new f) → HasTakeCause old new fault
take_cause kind told now cause old new Exists why from = why
take_cause kind told now cause old new Absent why from = tt
take_cause kind told now cause old new (Damaged page sort) why from = tt
take_cause kind told now cause old new (Pages f) why from = from f why
take_cause kind told now cause old new NoMemory why from = absurd why

some_told : (told : Option (ℕ → Option (List ℕ))) (m : ℕ → Option (List ℕ)) → told ≡ Some m → IsSome told
some_told told m e = subst (λ (o : Option (ℕ → Option (List ℕ))). IsSome o) (sym e) refl

if_told : {A : Type 0} (P : A → Type 0) (o : Option A) (b : A) → IfSome o P → o ≡ Some b → P b
if_told P o b h e = subst (λ z. IfSome z P) e h

-- the faults of a call that looks a number up
module _ (kind : KeyKind) (o : Origin) (told : Option (ℕ → Option (List ℕ))) (now : Option (List ℕ)) (old new : Counts) where
  pub number_undone : (m : ℕ → Option (List ℕ)) (fault : TreeFault GrowFault) → told ≡ Some m → IsOfPages fault → IsUnnumbered kind now (IsReadCause told old new) fault → IsUndone fault
  number_undone m Exists e is why = is
  number_undone m Absent e is why = is
  number_undone m (Damaged page sort) e is why = is
  number_undone m (Pages f) e is why = why.sound (some_told told m e)
  number_undone m NoMemory e is why = tt

  pub number_unread : (m : ℕ → Option (List ℕ)) (fault : TreeFault GrowFault) → told ≡ Some m → now ≡ Some (stream_of o m) → IsUnnumbered kind now (IsReadCause told old new) fault → IsReadFault (IsNumberPage kind (stream_of o m)) o m fault
  number_unread m Exists e is why = why
  number_unread m Absent e is why = why
  number_unread m (Damaged page sort) e is why = if_told (λ bytes. ¬ IsNumberPage kind bytes page sort) now (stream_of o m) why is
  number_unread m (Pages f) e is why = inl (why.sound (some_told told m e))
  number_unread m NoMemory e is why = tt

  pub number_cause : (fault : TreeFault GrowFault) → IsUnnumbered kind now (IsReadCause told old new) fault → HasReadCause old new fault
  number_cause Exists why = why
  number_cause Absent why = why
  number_cause (Damaged page sort) why = tt
  number_cause (Pages f) why = (why.block, why.below)
  number_cause NoMemory why = tt

  -- and of one that reads rows
  pub rows_undone : (m : ℕ → Option (List ℕ)) (fault : TreeFault GrowFault) → told ≡ Some m → IsLacking fault → IsCut kind now (IsReadCause told old new) fault → IsUndone fault
  rows_undone m Exists e is why = is
  rows_undone m Absent e is why = is
  rows_undone m (Damaged page sort) e is why = is
  rows_undone m (Pages f) e is why = why.sound (some_told told m e)
  rows_undone m NoMemory e is why = tt

  pub rows_unread : (m : ℕ → Option (List ℕ)) (fault : TreeFault GrowFault) → told ≡ Some m → now ≡ Some (stream_of o m) → IsCut kind now (IsReadCause told old new) fault → IsReadFault (IsWanted kind (stream_of o m)) o m fault
  rows_unread m Exists e is why = why
  rows_unread m Absent e is why = why
  rows_unread m (Damaged page sort) e is why = if_told (λ bytes. ¬ IsWanted kind bytes page sort) now (stream_of o m) why is
  rows_unread m (Pages f) e is why = inl (why.sound (some_told told m e))
  rows_unread m NoMemory e is why = tt

  pub rows_cause : (fault : TreeFault GrowFault) → IsCut kind now (IsReadCause told old new) fault → HasReadCause old new fault
  rows_cause Exists why = why
  rows_cause Absent why = why
  rows_cause (Damaged page sort) why = tt
  rows_cause (Pages f) why = (why.block, why.below)
  rows_cause NoMemory why = tt

-- a page that could not be added before has its reason
some_failed : (o : Origin) (v : Room) (long : ℕ) (m : ℕ → Option (List ℕ)) (failed : Option GrowFault) (counts counts_now : Counts) → Held o v long m → IsSome failed → HasFault o v long (Some m) None failed counts counts_now → (fault : GrowFault) × HasFailed o v m fault
some_failed o v long m None counts counts_now held some h = absurd (let bad : false ≡ true = some in cc)
some_failed o v long m (Some f) counts counts_now held some h = (f, h.reason held)

-- a page that a call which changes blames
pub page_blamed : (good : List ℕ → ℕ → PageKind → Type 0) (o back : Origin) (v now : Room) (long more : ℕ) (m : ℕ → Option (List ℕ)) (failed : Option GrowFault) (start told : Option (ℕ → Option (List ℕ))) (old new : ℕ → Bool) (counts counts_now : Counts) (page : ℕ) (sort : PageKind)
    → back ≡ o → Held o v long m → GoesOn o v now long more (Some m) (known failed start told) None failed old new counts counts_now → IfSome (option_map (stream_of back) (known failed start told)) (λ bytes. ¬ good bytes page sort)
    → IfSome told (λ map. ¬ good (stream_of o map) page sort) ⊎ ((fault : GrowFault) × HasFailed o v m fault)
page_blamed good o back v now long more m failed start told old new counts counts_now page sort same held goes bad = by_known (known failed start told) refl goes.moved bad
  where
    by_known : (k : Option (ℕ → Option (List ℕ))) → known failed start told ≡ k → HasMoved o v now long more (Some m) k failed old new → IfSome (option_map (stream_of back) k) (λ bytes. ¬ good bytes page sort)
        → IfSome told (λ map. ¬ good (stream_of o map) page sort) ⊎ ((fault : GrowFault) × HasFailed o v m fault)
    by_known None e moved h = inr (some_failed o v long m failed counts counts_now held moved goes.fault)
    by_known (Some map) e moved h =
        inl (subst (λ (t : Option (ℕ → Option (List ℕ))). IfSome t (λ map. ¬ good (stream_of o map) page sort)) (sym (told_of failed start told map e)) (subst (λ (x : Origin). ¬ good (stream_of x map) page sort) same h))

-- fixed pages never fail to have one added
pub never_failed : (fixed : Bool) (failed : Option GrowFault) → (fixed && is_some failed) ≡ false → fixed ≡ true → failed ≡ None
never_failed fixed None unfailed is = refl
never_failed fixed (Some fault) unfailed is = absurd (let bad : true ≡ false = ap (λ (b : Bool). b && true) (sym is) ∙ unfailed in cc)

-- a fault of a block that has a reason is no damage
pub undamaged_from : (o : Origin) (v : Room) (m : ℕ → Option (List ℕ)) (fault : GrowFault) → HasFailed o v m fault → IsOfBlock fault → IsUndamaged fault
undamaged_from o v m (grow.NoRun wanted free) failed block = absurd block
undamaged_from o v m (grow.Full room) failed block = absurd block
undamaged_from o v m (grow.Block fault) failed block = failed.why

-- a page that a call which takes blames
pub fixed_blamed : (good : List ℕ → ℕ → PageKind → Type 0) (o back : Origin) (v now : Room) (long more : ℕ) (m : ℕ → Option (List ℕ)) (failed : Option GrowFault) (start told : Option (ℕ → Option (List ℕ))) (old new : ℕ → Bool) (counts counts_now : Counts) (page : ℕ) (sort : PageKind)
    → failed ≡ None → back ≡ o → GoesOn o v now long more (Some m) (known failed start told) None failed old new counts counts_now → IfSome (option_map (stream_of back) (known failed start told)) (λ bytes. ¬ good bytes page sort)
    → IfSome told (λ map. ¬ good (stream_of o map) page sort)
fixed_blamed good o back v now long more m failed start told old new counts counts_now page sort none same goes bad = by_known (known failed start told) refl goes.moved bad
  where
    no_failure : IsSome failed → ⊥
    no_failure some = let e : false ≡ true = subst (λ (f : Option GrowFault). IsSome f) none some in cc

    by_known : (k : Option (ℕ → Option (List ℕ))) → known failed start told ≡ k → HasMoved o v now long more (Some m) k failed old new → IfSome (option_map (stream_of back) k) (λ bytes. ¬ good bytes page sort)
        → IfSome told (λ map. ¬ good (stream_of o map) page sort)
    by_known None e moved h = absurd (no_failure moved)
    by_known (Some map) e moved h = subst (λ (t : Option (ℕ → Option (List ℕ))). IfSome t (λ map. ¬ good (stream_of o map) page sort)) (sym (told_of failed start told map e)) (subst (λ (x : Origin). ¬ good (stream_of x map) page sort) same h)

-- the faults of a call that puts, whatever the bytes are
pub put_change : (kind : KeyKind) (o : Origin) (v : Room) (m : ℕ → Option (List ℕ)) (at now : Option (List ℕ)) (told : Option (ℕ → Option (List ℕ))) (cause : GrowFault → Type 0) (fault : TreeFault GrowFault) → IsHindered kind at now cause fault → ((f : GrowFault) → cause f → HasFailed o v m f)
    → ((page : ℕ) (sort : PageKind) → IfSome now (λ bytes. ¬ IsOfKind kind bytes page sort) → IfSome told (λ map. ¬ IsOfKind kind (stream_of o map) page sort) ⊎ ((fault : GrowFault) × HasFailed o v m fault)) → IsChangeFault (IsOfKind kind) o v m told fault
put_change kind o v m at now told cause Exists why from blame = tt
put_change kind o v m at now told cause Absent why from blame = tt
put_change kind o v m at now told cause (Damaged page sort) why from blame = blame page sort why
put_change kind o v m at now told cause (Pages f) why from blame = inr (from f why)
put_change kind o v m at now told cause NoMemory why from blame = tt

-- and of one that takes
pub take_change : (kind : KeyKind) (o : Origin) (m : ℕ → Option (List ℕ)) (at now : Option (List ℕ)) (told : Option (ℕ → Option (List ℕ))) (cause : GrowFault → Type 0) (fault : TreeFault GrowFault) → IsTurnedAway kind at now cause fault → ((f : GrowFault) → cause f → IsUndamaged f)
    → ((page : ℕ) (sort : PageKind) → IfSome now (λ bytes. ¬ IsNumberPage kind bytes page sort) → IfSome told (λ map. ¬ IsNumberPage kind (stream_of o map) page sort)) → IsTakingFault (IsNumberPage kind) o m told fault
take_change kind o m at now told cause Exists why from blame = tt
take_change kind o m at now told cause Absent why from blame = tt
take_change kind o m at now told cause (Damaged page sort) why from blame = blame page sort why
take_change kind o m at now told cause (Pages f) why from blame = inl (from f why)
take_change kind o m at now told cause NoMemory why from blame = tt
