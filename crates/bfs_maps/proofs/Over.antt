-- What pages that were begun over a volume and dropped again come to.
use Rattle.std.proofs.Common.{◌≡◌, ◌<◌, ◌⊎◌, ℕ, List, Bool, true, Option, sym, subst}
use Rattle.std.specs.Prelude.{Result, Ok, Err, OnOk, IfErr}
use Rattle.bfs_base.specs.declared.kind.KeyKind.{KeyKind}
use Rattle.bfs_bitmap.specs.Fills.{IsBitmapBlock}
use Rattle.bfs_bitmap.specs.Runs.{Room}
use Rattle.bfs_node.specs.declared.fault.PageKind.{PageKind}
use Rattle.bfs_node.specs.declared.fault.TreeFault.{TreeFault}
use Rattle.bfs_pages.specs.Order.{Key}
use Rattle.bfs_stream.specs.Sizes.{Origin}
use Rattle.bfs_stream.specs.declared.fault.GrowFault.{GrowFault}
use Rattle.bfs_maps.specs.Refused.{IsChangeFault, IsTakingFault}
use Rattle.bfs_stream_pages.specs.Held.{Held, stream_of}
use Rattle.bfs_values.specs.Reached.{IsWholeTree}
use Rattle.bfs_maps.specs.Mapped.{StreamNow}
use Rattle.bfs_maps.specs.NumberTrees.{HoldsNumber}

-- the same stream by other names
abbrev pub held_named : (o other : Origin) (v room : Room) (long length : ℕ) (m : ℕ → Option (List ℕ)) → other ≡ o → room ≡ v → length ≡ long → Held o v long m → Held other room length m
held_named o other v room long length m a b c h = subst (λ (x : Origin × Room × ℕ). Held x.0 x.1 x.2 m) (λ i. (sym a i, sym b i, sym c i)) h

abbrev pub whole_named : (kind : KeyKind) (o other : Origin) (m : ℕ → Option (List ℕ)) → other ≡ o → IsWholeTree kind (stream_of o m) → IsWholeTree kind (stream_of other m)
whole_named kind o other m a t = subst (λ (x : Origin). IsWholeTree kind (stream_of x m)) (sym a) t

abbrev pub with_named : (kind : KeyKind) (key : Key) (o other : Origin) (m : ℕ → Option (List ℕ)) → other ≡ o → HoldsNumber kind key (stream_of o m) → HoldsNumber kind key (stream_of other m)
with_named kind key o other m a t = subst (λ (x : Origin). HoldsNumber kind key (stream_of x m)) (sym a) t

-- the names of all that a change of a stream speaks of
pub record Names : Type 0 where
  pub origin : Origin
  pub room : Room
  pub now : Room
  pub told : Option (ℕ → Option (List ℕ))
  pub old : ℕ → Bool
  pub new : ℕ → Bool

abbrev pub Since : (Origin → List ℕ → Type 0) → (ℕ → Option (List ℕ)) → Names → Type 0
Since P m n = StreamNow n.origin n.room n.now m (P n.origin) n.told n.old n.new

pub now_named : (P : Origin → List ℕ → Type 0) (m : ℕ → Option (List ℕ)) (o other : Origin) (v room now later : Room) (told told_now : Option (ℕ → Option (List ℕ))) (old old_now new new_now : ℕ → Bool)
    → other ≡ o → room ≡ v → later ≡ now → told_now ≡ told → old_now ≡ old → new_now ≡ new
    → StreamNow other room later m (P other) told_now old_now new_now → StreamNow o v now m (P o) told old new
now_named P m o other v room now later told told_now old old_now new new_now a b c d e f has =
    let path : record { origin = other; room = room; now = later; told = told_now; old = old_now; new = new_now } ≡ record { origin = o; room = v; now = now; told = told; old = old; new = new } =
    λ i. record { origin = a i; room = b i; now = c i; told = d i; old = e i; new = f i } in
    subst (λ (n : Names). Since P m n) path has

pub on_ok : {T F : Type 0} (P Q : Type 0) (r : Result T F) → OnOk r P → (P → Q) → OnOk r Q
on_ok P Q (Ok x) is f = f is
on_ok P Q (Err e) is f = tt

-- the same fault by other names
pub change_named : {T : Type 0} (good : List ℕ → ℕ → PageKind → Type 0) (m : ℕ → Option (List ℕ)) (o other : Origin) (v room : Room) (told told_now : Option (ℕ → Option (List ℕ))) (r : Result T (TreeFault GrowFault)) → other ≡ o → room ≡ v → told_now ≡ told → IfErr r (IsChangeFault good other room m told_now) → IfErr r (IsChangeFault good o v m told)
change_named good m o other v room told told_now r a b d is = subst (λ (x : Origin × Room × Option (ℕ → Option (List ℕ))). IfErr r (IsChangeFault good x.0 x.1 m x.2)) (λ i. (a i, b i, d i)) is

pub taking_named : {T : Type 0} (good : List ℕ → ℕ → PageKind → Type 0) (m : ℕ → Option (List ℕ)) (o other : Origin) (told told_now : Option (ℕ → Option (List ℕ))) (r : Result T (TreeFault GrowFault)) → other ≡ o → told_now ≡ told → IfErr r (IsTakingFault good other m told_now) → IfErr r (IsTakingFault good o m told)
taking_named good m o other told told_now r a b is = subst (λ (x : Origin × Option (ℕ → Option (List ℕ))). IfErr r (IsTakingFault good x.0 m x.1)) (λ i. (a i, b i)) is

-- which blocks changed
pub changed_named : (o other : Origin) (v room : Room) (old began new final : ℕ → Bool) → other ≡ o → room ≡ v → began ≡ old → final ≡ new → ((k : ℕ) → new k ≡ true → (began k ≡ true) ⊎ (IsBitmapBlock room k ⊎ (k < other.sizes.blocks))) → (k : ℕ) → final k ≡ true → (old k ≡ true) ⊎ (IsBitmapBlock v k ⊎ (k < o.sizes.blocks))
changed_named o other v room old began new final a b c d h =
    let first : (k : ℕ) → new k ≡ true → (old k ≡ true) ⊎ (IsBitmapBlock v k ⊎ (k < o.sizes.blocks)) =
    subst (λ (x : Origin × Room × (ℕ → Bool)). (k : ℕ) → new k ≡ true → (x.2 k ≡ true) ⊎ (IsBitmapBlock x.1 k ⊎ (k < x.0.sizes.blocks))) (λ i. (a i, b i, c i)) h in
    subst (λ (f : ℕ → Bool). (k : ℕ) → f k ≡ true → (old k ≡ true) ⊎ (IsBitmapBlock v k ⊎ (k < o.sizes.blocks))) (sym d) first
