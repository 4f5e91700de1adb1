-- A node's attribute was put: the volume stands for the tree in which the node has it.
use Rattle.std.proofs.Common.{◌≡◌, ◌∙◌, ◌<◌, ◌≤◌, ◌*◌, ℕ, List, length, drop, Bool, false, Option, sym, ap, subst, arith}
use Rattle.std.specs.Prelude.{IfSome}
use Rattle.std.specs.FinMap.{insert}
use Rattle.std.specs.Str.{bytes_eq}
use Rattle.bfs_super.specs.Conditions.{IsValid}
use Rattle.bfs_super.specs.Geometry.{geometry_of}
use Rattle.bfs_super.specs.declared.geometry.Geometry.{Geometry}
use Rattle.bfs_super.specs.declared.sup.Super.{Super}
use Rattle.bfs_bitmap.specs.Runs.{Room, per_block, marked}
use Rattle.bfs_smalldata.specs.Items.{Item}
use Rattle.bfs_txn.specs.Told.{StaysChanged}
use Rattle.bfs_stream.specs.Standing.{standing}
use Rattle.bfs_stream.specs.Told.{contents}
use Rattle.bfs_tree.specs.Trees.{Attribute, Attributes, Node, Tree, IsNode}
use Rattle.bfs_sound.specs.Attributes.{own_name}
use Rattle.bfs_sound.specs.Volumes.{Volume}
use Rattle.bfs_shift.specs.Inodes.{HasBytes}
use Rattle.bfs_shift.specs.Lists.{Lists}
use Rattle.bfs_shift.specs.Shifts.{volume_in}
use Rattle.bfs_shift.specs.Work.{IsAtWork}
use Rattle.bfs_shift.proofs.Basics.{some_bytes}
use Rattle.bfs_attr_calls.specs.Written.{HasBlockWords}
use Rattle.bfs_attr.specs.Bearers.{bearer_of, attributes_at}
use Rattle.bfs_attr.specs.Changed.{HasPut}
use Rattle.bfs_attr_calls.specs.Removal.{KeepsClear}
use Rattle.bfs_attr_calls.specs.Replaced.{ExchangesItem}
use Rattle.bfs_attr_calls.proofs.Bearing.{attributes_are}
use Rattle.bfs_attr_calls.specs.LeaveLeaving.{IsClear, IsLeft}
use Rattle.bfs_attr_calls.specs.Attributed.{with_attributes}
use Rattle.bfs_attr_calls.proofs.Changed.{attributes_left}
use Rattle.bfs_attr_put.proofs.Naming.{put_keeps_name}

module _ (s : Super) (v : Room) (m : ℕ → Option (List ℕ)) (tree : Tree) (lists : Lists) (loose : List ℕ) (id : ℕ) (n : Node) (valid : IsValid s) (work : IsAtWork (geometry_of s) v m tree lists loose) (is : IsNode tree id n) where
  abbrev g : Geometry
  g = geometry_of s

  abbrev was : Volume
  was = volume_in g m

  module _ (now : Room) (name : List ℕ) (attribute : Attribute) (told : Option (ℕ → Option (List ℕ))) (old new : ℕ → Bool) (clear : IsClear g v m) (rest : now ≡ record v { given = now.given; tally = now.tally }) (stands : standing now ≡ standing v) (stays : StaysChanged old new)
      (put : HasPut (bearer_of id s) v now m name attribute told old new) (before : HasBlockWords (contents m id)) (after : HasBlockWords (contents put.now_are.map id)) (long : length (contents put.now_are.map id) ≡ length (contents m id))
      (few : length name ≤ 255) (other : bytes_eq name own_name ≡ false)
      (keeps_told : IfSome told (KeepsClear v now m)) (items_told : IfSome told (λ map. ExchangesItem (record { kind = attribute.code; name = name; bytes = attribute.bytes }) (drop 232 (contents m id)) (drop 232 (contents map id)))) where
    abbrev map : ℕ → Option (List ℕ)
    map = put.now_are.map

    abbrev item : Item
    item = record { kind = attribute.code; name = name; bytes = attribute.bytes }

    keeps : KeepsClear v now m map
    keeps = subst (λ (o : Option (ℕ → Option (List ℕ))). IfSome o (KeepsClear v now m)) put.now_are.is keeps_told

    exchange : ExchangesItem item (drop 232 (contents m id)) (drop 232 (contents map id))
    exchange = subst (λ (o : Option (ℕ → Option (List ℕ))). IfSome o (λ map. ExchangesItem item (drop 232 (contents m id)) (drop 232 (contents map id)))) put.now_are.is items_told

    bits_in : (x : ℕ → Option (List ℕ)) (k : ℕ) → marked (per_block v) x k ≡ marked (8 * g.block_size) x k
    bits_in x k = ap (λ (b : ℕ). marked (8 * b) x k) work.volume.block_size

    clear_now : IsClear g now map
    clear_now k r marked_now =
        keeps.clear (λ j low reserved bit. clear j reserved (subst (λ (b : ℕ). j < b) work.volume.blocks low, sym (bits_in m j) ∙ bit)) k (subst (λ (b : ℕ). k < b) (sym work.volume.blocks) marked_now.0) r
        (let one : marked (8 * g.block_size) map k ≡ 1 = marked_now.1 in bits_in map k ∙ one)

    words : HasBytes (contents m id) (contents map id)
    words = record { long = (let l = before.long in omega (arith, l)); before = before.words; after = after.words }

    left : IsLeft g v now m tree (with_attributes tree id n (insert (attributes_at was id) name attribute)) lists loose told old new
    left = attributes_left g v now m tree lists loose id n (insert (attributes_at was id) name attribute) told old new (some_bytes s valid) work clear is rest stands stays put.now_are words
        (put_keeps_name was id n item (contents map id) (work.stocked.nodes id n is) long few other exchange) keeps.holds clear_now

    pub put_left : IsLeft g v now m tree (with_attributes tree id n (insert n.attributes name attribute)) lists loose told old new
    put_left = subst (λ (a : Attributes). IsLeft g v now m tree (with_attributes tree id n (insert a name attribute)) lists loose told old new) (sym (attributes_are s v m tree lists loose id n valid work is)) left
