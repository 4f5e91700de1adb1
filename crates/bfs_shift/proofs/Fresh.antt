-- A fresh inode is a node.
use Rattle.std.proofs.Common.{◌≡◌, ◌≤◌, ◌+◌, ℕ, List, [], ◌∷◌, ◌++◌, length, sym, ap, ◌∙◌, subst, arith, append-nil, Bool, true, false, cond, Option, Some, None, map}
use Rattle.std.specs.Prelude.{not, ◌&&◌, ◌==◌, count_by}
use Rattle.std.specs.List.{flat_map}
use Rattle.std.specs.Str.{bytes_eq}
use Rattle.std.proofs.lemmas.Slice.Eq.{bytes_eq-Decides}
use Rattle.std.specs.FinMap.{from_entries}
use Rattle.bfs_smalldata.specs.Items.{Item}
use Rattle.bfs_stream.specs.Sizes.{first_block}
use Rattle.bfs_bytes.specs.Fields.{run_in}
use Rattle.bfs_tree.specs.Trees.{Node}
use Rattle.bfs_sound.specs.Volumes.{Volume, sizes}
use Rattle.bfs_sound.specs.Inodes.{inode_blocks}
use Rattle.bfs_sound.specs.Attributes.{own_name, attributes_in, attribute_directory, attribute_inodes, attributes_of, HasDirectory, Named}
use Rattle.bfs_sound.specs.Nodes.{IsCalled, AreApart, HasNode}
use Rattle.bfs_sound.specs.Owners.{own_blocks, node_blocks}
use Rattle.bfs_shift.specs.StreamLaws.{IsFresh}

both_true : (a b : Bool) → (a && b) ≡ true → b ≡ true
both_true true b e = e
both_true false b e = let bad : false ≡ true = e in cc

at_most_one : {X : Type 0} (p : X → Bool) (x : X) → count_by p (x ∷ []) ≤ 1
at_most_one p x = by_test (p x)
  where
    by_test : (t : Bool) → 0 + cond t 1 0 ≤ 1
    by_test true = omega arith
    by_test false = omega arith

module _ (v : Volume) (id : ℕ) (n : Node) (f : IsFresh v id n) where
  item_name : bytes_eq f.item.name own_name ≡ true
  item_name = both_true (f.item.kind == 0x43535452) (bytes_eq f.item.name own_name) f.named

  none : attribute_directory v id ≡ None
  none = ap (λ (t : Bool). cond t None (Some (first_block (sizes v.geometry) (run_in (v.blocks id) 52)))) f.directory

  no_items : attributes_in (f.item ∷ []) ≡ []
  no_items = ap (λ (t : Bool). map {B = Named} (λ (item : Item). (item.name, record { code = item.kind; bytes = item.bytes })) (cond (not t) (f.item ∷ []) [])) f.named

  no_attributes : attributes_in (f.item ∷ []) ++ attributes_of v (attribute_directory v id) ≡ []
  no_attributes = ap (λ (l : List Named). l ++ attributes_of v (attribute_directory v id)) no_items ∙ ap (attributes_of v) none

  called : IsCalled v id n (f.item ∷ [])
  called = record {
    root_name = λ e. absurd (f.other e);
    root_parent = λ e. absurd (f.other e);
    name = λ other. (f.item, ap (λ (t : Bool). cond t (Some f.item) None) item_name, f.named, f.name);
    parent = λ other. f.parent;
  }

  pub fresh_node : HasNode v id n
  fresh_node = record {
    inode = f.inode;
    kind = f.status.kind;
    mode = f.status.mode;
    uid = f.status.uid;
    gid = f.status.gid;
    created = f.status.created;
    modified = f.status.modified;
    changed = f.status.changed;
    content_is = f.content_is;
    items = f.item ∷ [];
    area = f.area;
    distinct = λ name. at_most_one (λ (item : Item). bytes_eq item.name name) f.item;
    short = (subst (λ (l : List ℕ). length l ≤ 255) (sym ((bytes_eq-Decides f.item.name own_name).0 item_name)) (omega arith), tt);
    called = called;
    directory = subst (HasDirectory v id) (sym none) tt;
    apart = subst AreApart (sym no_attributes) (λ name. omega arith);
    attributes = f.attributes ∙ sym (ap from_entries no_attributes);
  }

  pub fresh_blocks : node_blocks v (id, n) ≡ own_blocks v (id, n)
  unfolding node_blocks
  fresh_blocks = ap (λ (o : Option ℕ). own_blocks v (id, n) ++ flat_map (inode_blocks v) (attribute_inodes v o)) none ∙ append-nil (own_blocks v (id, n))
