-- A node's attribute was taken: the volume stands for the tree in which the node has it no more.
use Rattle.std.proofs.Common.{◌≡◌, ◌∙◌, ◌<◌, ◌*◌, ℕ, List, length, drop, Bool, Option, None, true, false, sym, ap, subst, arith}
use Rattle.std.specs.Prelude.{IfSome, IsSome}
use Rattle.std.specs.FinMap.{get, remove}
use Rattle.bfs_super.specs.Conditions.{IsValid}
use Rattle.bfs_super.specs.Geometry.{geometry_of}
use Rattle.bfs_super.specs.declared.geometry.Geometry.{Geometry}
use Rattle.bfs_super.specs.declared.sup.Super.{Super}
use Rattle.bfs_bitmap.specs.Runs.{Room, per_block, marked}
use Rattle.bfs_node.specs.declared.fault.TreeFault.{TreeFault}
use Rattle.bfs_node.specs.declared.fault.TreeFault.TheVariants as faults
use Rattle.bfs_txn.specs.Told.{StaysChanged}
use Rattle.bfs_stream.specs.declared.fault.GrowFault.{GrowFault}
use Rattle.bfs_stream.specs.Standing.{standing}
use Rattle.bfs_stream.specs.Told.{contents}
use Rattle.bfs_tree.specs.Trees.{Attribute, Attributes, Node, Tree, IsNode}
use Rattle.bfs_maps.specs.Refused.{IsUndone}
use Rattle.bfs_sound.specs.Volumes.{Volume}
use Rattle.bfs_shift.specs.Inodes.{HasBytes}
use Rattle.bfs_shift.specs.Lists.{Lists}
use Rattle.bfs_shift.specs.Shifts.{volume_in}
use Rattle.bfs_shift.specs.Work.{IsAtWork}
use Rattle.bfs_shift.proofs.Basics.{some_bytes}
use Rattle.bfs_query.specs.Written.{HasBlockWords}
use Rattle.bfs_attr.specs.Bearers.{bearer_of, attributes_at}
use Rattle.bfs_attr.specs.Changed.{HasTaken}
use Rattle.bfs_attrs.specs.Removal.{KeepsClear}
use Rattle.bfs_attrs.specs.Removed.{IsNotRemoved, LosesItem}
use Rattle.bfs_query.proofs.Bearing.{attributes_are}
use Rattle.bfs_unmake.specs.Leaving.{IsClear, IsLeft}
use Rattle.bfs_attr_calls.specs.Attributed.{with_attributes}
use Rattle.bfs_unmake.specs.Faults.{take_fault}
use Rattle.bfs_attr_calls.proofs.Changed.{attributes_left}
use Rattle.bfs_attr_calls.proofs.Names.{keeps_name}

module _ (s : Super) (v : Room) (m : ℕ → Option (List ℕ)) (tree : Tree) (lists : Lists) (loose : List ℕ) (id : ℕ) (n : Node) (valid : IsValid s) (work : IsAtWork (geometry_of s) v m tree lists loose) (is : IsNode tree id n) where
  abbrev g : Geometry
  g = geometry_of s

  abbrev was : Volume
  was = volume_in g m

  -- an attribute that is there isn't missing
  pub found_undone : (name : List ℕ) (fault : TreeFault GrowFault) → IsSome (get n.attributes name) → IsNotRemoved was id name fault → IsUndone (take_fault id fault)
  found_undone name faults.Exists there h = h
  found_undone name faults.Absent there h =
      let none : get n.attributes name ≡ None = ap (λ (a : Attributes). get a name) (attributes_are s v m tree lists loose id n valid work is) ∙ h in
      let bad : false ≡ true = subst (λ (o : Option Attribute). IsSome o) none there in
      absurd (let worse : false ≡ true = bad in cc)
  found_undone name (faults.Damaged page sort) there h = h
  found_undone name (faults.Pages fault) there h = h
  found_undone name faults.NoMemory there h = tt

  module _ (now : Room) (name : List ℕ) (told : Option (ℕ → Option (List ℕ))) (old new : ℕ → Bool) (clear : IsClear g v m) (rest : now ≡ record v { given = now.given; tally = now.tally }) (stands : standing now ≡ standing v) (stays : StaysChanged old new)
      (taken : HasTaken (bearer_of id s) v now m name told old new) (before : HasBlockWords (contents m id)) (after : HasBlockWords (contents taken.now_are.map id)) (long : length (contents taken.now_are.map id) ≡ length (contents m id))
      (keeps_told : IfSome told (KeepsClear v now m)) (loses_told : IfSome told (λ map. LosesItem name (drop 232 (contents m id)) (drop 232 (contents map id)))) where
    abbrev map : ℕ → Option (List ℕ)
    map = taken.now_are.map

    keeps : KeepsClear v now m map
    keeps = subst (λ (o : Option (ℕ → Option (List ℕ))). IfSome o (KeepsClear v now m)) taken.now_are.is keeps_told

    loses : LosesItem name (drop 232 (contents m id)) (drop 232 (contents map id))
    loses = subst (λ (o : Option (ℕ → Option (List ℕ))). IfSome o (λ map. LosesItem name (drop 232 (contents m id)) (drop 232 (contents map id)))) taken.now_are.is loses_told

    bits_in : (x : ℕ → Option (List ℕ)) (k : ℕ) → marked (per_block v) x k ≡ marked (8 * g.block_size) x k
    bits_in x k = ap (λ (b : ℕ). marked (8 * b) x k) work.volume.block_size

    clear_now : IsClear g now map
    clear_now k r marked_now =
        let one : marked (8 * g.block_size) map k ≡ 1 = marked_now.1 in
        keeps.clear (λ j low reserved bit. clear j reserved (subst (λ (b : ℕ). j < b) work.volume.blocks low, sym (bits_in m j) ∙ bit)) k (subst (λ (b : ℕ). k < b) (sym work.volume.blocks) marked_now.0) r (bits_in map k ∙ one)

    words : HasBytes (contents m id) (contents map id)
    words = record { long = (let l = before.long in omega (arith, l)); before = before.words; after = after.words }

    left : IsLeft g v now m tree (with_attributes tree id n (remove (attributes_at was id) name)) lists loose told old new
    left = attributes_left g v now m tree lists loose id n (remove (attributes_at was id) name) told old new (some_bytes s valid) work clear is rest stands stays taken.now_are words
        (keeps_name was id n name (contents map id) (work.stocked.nodes id n is) long loses) keeps.holds clear_now

    pub taken_left : IsLeft g v now m tree (with_attributes tree id n (remove n.attributes name)) lists loose told old new
    taken_left = subst (λ (a : Attributes). IsLeft g v now m tree (with_attributes tree id n (remove a name)) lists loose told old new) (sym (attributes_are s v m tree lists loose id n valid work is)) left
