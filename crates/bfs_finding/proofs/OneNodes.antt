-- The record of an inode is one.
use Rattle.std.proofs.Common.{◌≡◌, ◌≢◌, ◌⊎◌, inl, inr, ⊎_elim, ℕ, pos, List, ◌++◌, length, Some, Bool, true, false, cond, refl, sym, ap, ◌∙◌, subst, arith}
use Rattle.std.specs.Prelude.{◌==◌}
use Rattle.std.specs.FinMap.{from_entries}
use Rattle.bfs_bytes.specs.declared.Run.{Run}
use Rattle.bfs_bytes.specs.Fields.{run_in}
use Rattle.bfs_super.specs.Conditions.{natural}
use Rattle.bfs_inode.specs.Refusals.{Names}
use Rattle.bfs_smalldata.specs.Items.{Item}
use Rattle.bfs_smalldata.specs.Edits.{named}
use Rattle.bfs_tree.specs.declared.call.Kind.{Kind}
use Rattle.bfs_tree.specs.declared.call.Kind.TheVariants.{File, Dir, Link}
use Rattle.bfs_tree.specs.Trees.{Node}
use Rattle.bfs_sound.specs.Volumes.{Volume}
use Rattle.bfs_sound.specs.Inodes.{kind_bits, is_short}
use Rattle.bfs_sound.specs.Attributes.{own_name, attributes_in, attribute_directory, attributes_of}
use Rattle.bfs_sound.specs.Nodes.{HasTarget, HasContent, IsCalled, HasNode}

pub some_same : {X : Type 0} (a b : X) → Some a ≡ Some b → a ≡ b
some_same a b e = cc

pub pos_same : (a b : ℕ) → pos a ≡ pos b → a ≡ b
pos_same a b e = ap natural e

-- two numbers are the same or not
pub same_or_not : (a b : ℕ) → (a ≡ b) ⊎ (a ≢ b)
same_or_not a b =
    elim (a == b) as (λ t. (a == b) ≡ t → (a ≡ b) ⊎ (a ≢ b)) [
      | true ↦ λ e. inl (is_same e)
      | false ↦ λ e. inr (is_other e)
    ] refl
  where
    is_same : (a == b) ≡ true → a ≡ b
    is_same e = grind (arith, e)

    is_other : (a == b) ≡ false → a ≡ b → ⊥
    is_other e same = grind (arith, e, same)

-- the kind that four bits of a mode say
abbrev kind_with : ℕ → Kind
kind_with bits = cond (bits == 8) File (cond (bits == 4) Dir Link)

kind_back : (k : Kind) → kind_with (kind_bits k) ≡ k
kind_back File = refl
kind_back Dir = refl
kind_back Link = refl

same_kind : (a b : Kind) → kind_bits a ≡ kind_bits b → a ≡ b
same_kind a b e = sym (kind_back a) ∙ ap kind_with e ∙ kind_back b

one_target : (v : Volume) (id : ℕ) (a b : List ℕ) (short : Bool) → HasTarget v id a short → HasTarget v id b short → a ≡ b
one_target v id a b true one two = sym one.0 ∙ two.0
one_target v id a b false one two = one.1 ∙ sym two.1

-- the size and the target follow from what stands in the stream
record OneContent (m n : Node) : Type 0 where
  pub size : m.size ≡ n.size
  pub target : m.target ≡ n.target

one_content : (v : Volume) (id : ℕ) (m n : Node) (k : Kind) → HasContent v id m k → HasContent v id n k → OneContent m n
one_content v id m n File one two = record { size = one.1 ∙ sym two.1; target = one.2 ∙ sym two.2 }
one_content v id m n Dir one two = record { size = one.2 ∙ sym two.2; target = one.3 ∙ sym two.3 }
one_content v id m n Link one two =
    let same : m.target ≡ n.target = one_target v id m.target n.target (is_short v id) one.0 two.0 in
    record { size = one.1 ∙ ap length same ∙ sym two.1; target = same }

one_parent : (run : Run) (shift a b : ℕ) → Names run a shift → Names run b shift → a ≡ b
one_parent run shift a b one two = pos_same a b (sym one.block ∙ two.block)

-- so do its name and its parent
record OneCalled (m n : Node) : Type 0 where
  pub name : m.name ≡ n.name
  pub parent : m.parent ≡ n.parent

one_called : (v : Volume) (id : ℕ) (m n : Node) (items others : List Item) → items ≡ others → IsCalled v id m items → IsCalled v id n others → OneCalled m n
one_called v id m n items others same one two =
    ⊎_elim
    (λ root. record { name = one.root_name root ∙ sym (two.root_name root); parent = one.root_parent root ∙ sym (two.root_parent root) })
    (λ other.
    let a = one.name other in
    let b = two.name other in
    let item : a.0 ≡ b.0 = some_same a.0 b.0 (sym a.1 ∙ ap (named own_name) same ∙ b.1) in
    record {
      name = sym a.3 ∙ ap (λ (i : Item). i.bytes) item ∙ b.3;
      parent = one_parent (run_in (v.blocks id) 44) v.geometry.shift m.parent n.parent (one.parent other) (two.parent other);
    })
    (same_or_not id v.geometry.root)

pub one_node : (v : Volume) (id : ℕ) (m n : Node) → HasNode v id m → HasNode v id n → m ≡ n
one_node v id m n one two =
    let items : one.items ≡ two.items = some_same one.items two.items (sym one.area ∙ two.area) in
    let kind : m.kind ≡ n.kind = same_kind m.kind n.kind (sym one.kind ∙ two.kind) in
    let content = one_content v id m n m.kind one.content_is (subst (HasContent v id n) (sym kind) two.content_is) in
    let called = one_called v id m n one.items two.items items one.called two.called in
    let mode : m.mode ≡ n.mode = one.mode ∙ sym two.mode in
    let uid : m.uid ≡ n.uid = one.uid ∙ sym two.uid in
    let gid : m.gid ≡ n.gid = one.gid ∙ sym two.gid in
    let created : m.created ≡ n.created = one.created ∙ sym two.created in
    let modified : m.modified ≡ n.modified = one.modified ∙ sym two.modified in
    let changed : m.changed ≡ n.changed = one.changed ∙ sym two.changed in
    let attributes : m.attributes ≡ n.attributes =
    one.attributes ∙ ap (λ (is : List Item). from_entries (attributes_in is ++ attributes_of v (attribute_directory v id))) items ∙ sym two.attributes in
    λ i. record {
      kind = kind i;
      name = called.name i;
      parent = called.parent i;
      mode = mode i;
      uid = uid i;
      gid = gid i;
      created = created i;
      modified = modified i;
      changed = changed i;
      size = content.size i;
      target = content.target i;
      attributes = attributes i;
    }
