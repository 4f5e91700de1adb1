-- An attribute directory that is made, and the first attribute that is put there.
use Rattle.std.proofs.Common.{◌≡◌, ◌≤◌, ◌<◌, ◌∙◌, inl, inr, ℕ, ℤ, List, [], drop, Bool, Option, ap, subst, arith, max}
use Rattle.std.specs.Prelude.{Result, Ok, Err, IfErr, unwrap_or}
use Rattle.std.specs.FinMap.{get, insert}
use Rattle.bfs_bitmap.specs.Runs.{Room}
use Rattle.bfs_node.specs.declared.fault.TreeFault.{TreeFault}
use Rattle.bfs_node.specs.declared.fault.TreeFault.TheVariants.{Exists, Absent, Damaged, Pages, NoMemory}
use Rattle.bfs_super.specs.Conditions.{ceil}
use Rattle.bfs_stream.specs.Faults.{IsGrowCause}
use Rattle.bfs_stream.specs.Told.{contents}
use Rattle.bfs_stream.specs.declared.fault.GrowFault.{GrowFault}
use Rattle.bfs_stream.specs.declared.fault.GrowFault.TheVariants as grow
use Rattle.bfs_stream.proofs.Stops.{cause_wider}
use Rattle.bfs_txn.specs.Faults.{Counts, AreLater}
use Rattle.bfs_txn.specs.Told.{StaysChanged}
use Rattle.bfs_tree.specs.Trees.{Attribute, Attributes}
use Rattle.bfs_sound.specs.Volumes.{sizes}
use Rattle.bfs_attr.specs.Bearers.{Bearer, volume_at, attributes_at}
use Rattle.bfs_attr.specs.Changed.{AttributesNow}
use Rattle.bfs_attr_write.specs.Adding.{CanAdd, HasRowPut}
use Rattle.bfs_attr_write.specs.Directories.{HasDirectoryMade, IsNotMade, HasMakeCause}
use Rattle.bfs_attr_write.proofs.Brings.{rest_given}
use Rattle.bfs_attr_write.proofs.Follows.{follows}
use Rattle.bfs_make.proofs.Telling.{one_map}
use Rattle.bfs_attrs.specs.Stored.{CanBegin, HasBegun, IsNotAdded, IsNotBegun, HasAddCause}

module _ (b : Bearer) (v mid : Room) (m : ℕ → Option (List ℕ)) (name : List ℕ) (can : CanBegin b v m name) (d : ℕ) (stamp : ℤ) (told : Option (ℕ → Option (List ℕ))) (old half : ℕ → Bool) (made : HasDirectoryMade b v mid m d stamp told old half) where
  abbrev m1 : ℕ → Option (List ℕ)
  m1 = made.now_are.map

  same : attributes_at (volume_at b.geometry m1) b.id ≡ attributes_at (volume_at b.geometry m) b.id
  same = made.now_are.attributes_are

  -- now one can be added
  pub can_add : CanAdd b mid m1 d name
  can_add = record { holds = made.now_are.holds; there = made.there; unknown = ap (λ (a : Attributes). get a name) same ∙ can.unknown; proper = can.proper }

  module _ (now : Room) (attribute : Attribute) (later : Option (ℕ → Option (List ℕ))) (new : ℕ → Bool) (put : HasRowPut b mid now m1 (insert (attributes_at (volume_at b.geometry m1) b.id) name attribute) later half new)
      (to_mid : mid ≡ record v { tally = mid.tally }) (to_now : now ≡ record mid { tally = now.tally }) (stays : StaysChanged half new) where
    both : AttributesNow b v now m (insert (attributes_at (volume_at b.geometry m1) b.id) name attribute) later old new
    both =
        follows b v mid now m (attributes_at (volume_at b.geometry m) b.id) (insert (attributes_at (volume_at b.geometry m1) b.id) name attribute) told later old half new
        (rest_given v mid to_mid) (rest_given mid now to_now) can.make.holds made.now_are put.now_are stays (λ k has. inr (put.keeps k has))

    small_still : drop 232 (contents put.now_are.map b.id) ≡ drop 232 (contents m b.id)
    small_still = ap (λ (o : Option (List ℕ)). drop 232 (unwrap_or o [])) put.bearer ∙ made.small

    one : put.now_are.map ≡ both.map
    one = one_map later put.now_are.map both.map put.now_are.is both.is

    begun : HasBegun b v now m (insert (attributes_at (volume_at b.geometry m1) b.id) name attribute) later old new
    begun = record { now_are = both; small = subst (λ (x : ℕ → Option (List ℕ)). drop 232 (contents x b.id) ≡ drop 232 (contents m b.id)) one small_still }

    pub has_begun : HasBegun b v now m (insert (attributes_at (volume_at b.geometry m) b.id) name attribute) later old new
    has_begun = subst (λ (a : Attributes). HasBegun b v now m (insert a name attribute) later old new) same begun

-- why it was not, in each step
module _ (b : Bearer) (v : Room) (m : ℕ → Option (List ℕ)) (attribute : Attribute) (blocks : ℕ) where
  pub unmade : (fault : TreeFault GrowFault) → IsNotMade (sizes b.geometry) v m fault → IsNotBegun b v m attribute blocks fault
  unmade Exists h = h
  unmade Absent h = h
  unmade (Damaged page sort) h = h
  unmade (Pages fault) h = inl h
  unmade NoMemory h = h

  module _ (mid : Room) (d : ℕ) (stamp : ℤ) (told : Option (ℕ → Option (List ℕ))) (old half : ℕ → Bool) (made : HasDirectoryMade b v mid m d stamp told old half) where
    unfollowed : (fault : TreeFault GrowFault) → IsNotAdded b mid made.now_are.map d attribute blocks fault → IsNotBegun b v m attribute blocks fault
    unfollowed Exists h = h
    unfollowed Absent h = h
    unfollowed (Damaged page sort) h = h
    unfollowed (Pages fault) h = inr (record { now = mid; d = d; stamp = stamp; told = told; old = old; new = half; made = made; failed = h })
    unfollowed NoMemory h = h

    pub not_followed : {T : Type 0} (r : Result T (TreeFault GrowFault)) → IfErr r (IsNotAdded b mid made.now_are.map d attribute blocks) → IfErr r (IsNotBegun b v m attribute blocks)
    not_followed (Ok x) h = tt
    not_followed (Err fault) h = unfollowed fault h

grow_wider : (n k : ℕ) (a b : Counts) (fault : GrowFault) → n ≤ k → IsGrowCause n a b fault → IsGrowCause k a b fault
grow_wider n k a b (grow.NoRun asked free) le cause = cause
grow_wider n k a b (grow.Full room) le cause = let lt : room < n = cause in omega (arith, lt, le)
grow_wider n k a b (grow.Block fault) le cause = cause

pub make_added : (size n : ℕ) (a b : Counts) (fault : TreeFault GrowFault) → max 1 (ceil 2048 size) ≤ n → HasMakeCause size a b fault → HasAddCause n a b fault
make_added size n a b Exists le h = tt
make_added size n a b Absent le h = h
make_added size n a b (Damaged page sort) le h = tt
make_added size n a b (Pages fault) le h = grow_wider (max 1 (ceil 2048 size)) n a b fault le h
make_added size n a b NoMemory le h = h

add_wider : (n k : ℕ) (a b c : Counts) (fault : TreeFault GrowFault) → n ≤ k → AreLater a b → HasAddCause n b c fault → HasAddCause k a c fault
add_wider n k a b c Exists le later h = h
add_wider n k a b c Absent le later h = h
add_wider n k a b c (Damaged page sort) le later h = h
add_wider n k a b c (Pages fault) le later h = cause_wider n k a b c fault le later h
add_wider n k a b c NoMemory le later h = h

pub add_wider_kept : {T : Type 0} (n k : ℕ) (a b c : Counts) (r : Result T (TreeFault GrowFault)) → n ≤ k → AreLater a b → IfErr r (HasAddCause n b c) → IfErr r (HasAddCause k a c)
add_wider_kept n k a b c (Ok x) le later h = tt
add_wider_kept n k a b c (Err fault) le later h = add_wider n k a b c fault le later h
