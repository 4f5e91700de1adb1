-- A new inode's block is that of a new node.
use Rattle.std.proofs.Common.{◌≡◌, ◌≢◌, ◌≤◌, ◌<◌, ◌+◌, ◌-◌, ◌*◌, ◌/◌, ◌%◌, ℕ, ℤ, zero, suc, pos, List, [], ◌∷◌, ◌++◌, length, take, drop, refl, sym, ap, ◌∙◌, subst, arith, Bool, true, false, cond, Option}
use Rattle.std.specs.Prelude.{◌==◌, ◌||◌, not, replicate}
use Rattle.std.specs.List.{before_first, prefix_len}
use Rattle.std.proofs.lemmas.List.{take_at}
use Rattle.bfs_bytes.specs.declared.Run.{Run}
use Rattle.bfs_super.specs.Conditions.{natural}
use Rattle.bfs_super.specs.declared.geometry.Geometry.{Geometry}
use Rattle.bfs_inode.specs.Inode.{Inode, Stream, stream_at}
use Rattle.bfs_inode.specs.Refusals.{IsInode, Names}
use Rattle.bfs_stream.specs.Told.{contents}
use Rattle.bfs_tree.specs.declared.call.Kind.{Kind}
use Rattle.bfs_tree.specs.declared.call.Kind.TheVariants.{File, Dir, Link}
use Rattle.bfs_tree.specs.Names.{has_byte}
use Rattle.bfs_tree.specs.Trees.{Node, new_node}
use Rattle.bfs_sound.specs.Volumes.{Volume, sizes}
use Rattle.bfs_sound.specs.Inodes.{kind_bits, mode_bits, flag_bits, is_short}
use Rattle.bfs_sound.specs.Attributes.{is_zero}
use Rattle.bfs_sound.specs.Nodes.{HasTarget, HasContent, HasNode}
use Rattle.bfs_sound.specs.Owners.{own_blocks, node_blocks}
use Rattle.bfs_shift.specs.Inodes.{HasStatus}
use Rattle.bfs_shift.specs.Shifts.{volume_in}
use Rattle.bfs_shift.specs.StreamLaws as laws
use Rattle.bfs_shift.proofs.Fresh.{fresh_node, fresh_blocks}
use Rattle.bfs_fresh.specs.Fresh.{IsFresh, name_item, no_stream}
use Rattle.bfs_fresh.specs.declared.fields.NewNode.{NewNode}
use Rattle.bfs_fresh.proofs.Words.{unsigned_of}
use Rattle.bfs_moves.proofs.Empty.{whole_empty, levels_sound}

kind_of : (b mode : ℕ) → b < 16 → mode ≤ 4095 → (4096 * b + mode) / 4096 % 16 ≡ b
kind_of b mode few low = grind (arith, few, low)

mode_of : (b mode : ℕ) → mode ≤ 4095 → (4096 * b + mode) % 4096 ≡ mode
mode_of b mode low = grind (arith, low)

few_bits : (kind : Kind) → kind_bits kind < 16
few_bits File = omega arith
few_bits Dir = omega arith
few_bits Link = omega arith

-- the first zero stands behind the target
front_len : (target : List ℕ) (n : ℕ) → has_byte 0 target ≡ false → 0 < n → prefix_len (λ b. not (b == 0)) (target ++ replicate n 0) ≡ length target
front_len [] zero none some = absurd (omega (arith, some))
front_len [] (suc n) none some = refl
front_len (c ∷ target) n none some = by_test (c == 0) none (λ rest. front_len target n rest some)
  where
    by_test : (t : Bool) → (t || has_byte 0 target) ≡ false → (has_byte 0 target ≡ false → prefix_len (λ b. not (b == 0)) (target ++ replicate n 0) ≡ length target)
        → cond (not t) (1 + prefix_len (λ b. not (b == 0)) (target ++ replicate n 0)) 0 ≡ length (c ∷ target)
    by_test true bad back = let f : true ≡ false = bad in cc
    by_test false rest back = let ih = back rest in omega (arith, ih)

-- the target is what stands before the zeros
pub target_read : (target : List ℕ) (n : ℕ) → has_byte 0 target ≡ false → 0 < n → before_first (λ b. b == 0) (target ++ replicate n 0) ≡ target
target_read target n none some = ap (λ (k : ℕ). take k (target ++ replicate n 0)) (front_len target n none some) ∙ take_at target (replicate n 0) (length target) refl

module _ (g : Geometry) (map : ℕ → Option (List ℕ)) (id : ℕ) (n : NewNode) (name : List ℕ) (fresh : IsFresh g.block_size n name (contents map id)) (number : Names n.address id g.shift) (parent : ℕ) (up : Names n.parent parent g.shift)
    (kind : Kind) (mode : ℕ) (mode_is : n.mode ≡ pos (4096 * kind_bits kind + mode)) (low : mode ≤ 4095) (other : id ≢ g.root) (flag : ℕ) (flags : n.flags ≡ pos flag) (used : flag % 2 ≡ 1) where
  abbrev v : Volume
  v = volume_in g map

  block : List ℕ
  block = contents map id

  pub flags_are : flag_bits v id ≡ flag
  flags_are = unsigned_of (contents map id) 24 flag (ap (λ (i : Inode). i.flags) fresh.fields ∙ flags)

  bits : mode_bits v id ≡ 4096 * kind_bits kind + mode
  bits = unsigned_of (contents map id) 20 (4096 * kind_bits kind + mode) (ap (λ (i : Inode). i.mode) fresh.fields ∙ mode_is)

  is_inode : IsInode (contents map id) id g.shift
  is_inode = record {
    magic = ap (λ (i : Inode). i.magic1) fresh.fields;
    number_is = subst (λ (run : Run). Names run id g.shift) (sym (ap (λ (i : Inode). i.inode_num) fresh.fields)) number;
    in_use = ap (λ (f : ℕ). f % 2) flags_are ∙ used;
    size = ap (λ (i : Inode). i.inode_size) fresh.fields ∙ ap pos (sym fresh.long);
  }

  module _ (size : ℕ) (target : List ℕ) where
    abbrev node : Node
    node = new_node kind name parent mode size target n.stamp

    status : HasStatus v id node
    status = record {
      kind = ap (λ (b : ℕ). b / 4096 % 16) bits ∙ kind_of (kind_bits kind) mode (few_bits kind) low;
      mode = sym (ap (λ (b : ℕ). b % 4096) bits ∙ mode_of (kind_bits kind) mode low);
      uid = sym (ap (λ (i : Inode). i.uid) fresh.fields);
      gid = sym (ap (λ (i : Inode). i.gid) fresh.fields);
      created = sym (ap (λ (i : Inode). i.create_time) fresh.fields);
      modified = sym (ap (λ (i : Inode). i.last_modified_time) fresh.fields);
      changed = sym (ap (λ (i : Inode). i.status_change_time) fresh.fields);
    }

    is_fresh : HasContent v id node kind → laws.IsFresh v id node
    is_fresh content = record {
      inode = is_inode;
      status = status;
      content_is = content;
      other = other;
      parent = subst (λ (run : Run). Names run parent g.shift) (sym (ap (λ (i : Inode). i.parent) fresh.fields)) up;
      directory = ap (λ (i : Inode). is_zero i.attributes) fresh.fields;
      item = name_item name;
      area = fresh.area;
      named = refl;
      name = refl;
      attributes = refl;
    }

    pub has_node : HasContent v id node kind → HasNode v id node
    has_node content = fresh_node v id node (is_fresh content)

    pub own_alone : HasContent v id node kind → node_blocks v (id, node) ≡ own_blocks v (id, node)
    own_alone content = fresh_blocks v id node (is_fresh content)

-- a file's stream has no blocks
module _ (g : Geometry) (map : ℕ → Option (List ℕ)) (id : ℕ) (stream : stream_at (contents map id) ≡ no_stream) where
  abbrev w : Volume
  w = volume_in g map

  pub file_content : (name : List ℕ) (parent mode : ℕ) (stamp : ℤ) → HasContent w id (new_node File name parent mode 0 [] stamp) File
  file_content name parent mode stamp = (levels_sound (sizes g) (contents map) id stream, sym (ap (λ (t : Stream). natural t.size) stream), refl)

  pub file_blocks : (n : Node) → n.kind ≡ File → own_blocks w (id, n) ≡ id ∷ []
  file_blocks n file = ap (λ (k : Kind). own_blocks w (id, record n { kind = k })) file ∙ whole_empty (sizes g) (contents map) id stream

-- a short link has its target in its inode
module _ (g : Geometry) (map : ℕ → Option (List ℕ)) (id : ℕ) (target : List ℕ) (flags : flag_bits (volume_in g map) id ≡ 1) (short : length target < 144) (no_zero : has_byte 0 target ≡ false)
    (bytes : take 144 (drop 72 (contents map id)) ≡ target ++ replicate (144 - length target) 0) where
  abbrev u : Volume
  u = volume_in g map

  is_short_link : is_short u id ≡ true
  is_short_link = ap (λ (f : ℕ). f / 64 % 2 == 0) flags

  pub link_content : (name : List ℕ) (parent mode : ℕ) (stamp : ℤ) → HasContent u id (new_node Link name parent mode (length target) target stamp) Link
  link_content name parent mode stamp = (
    subst (HasTarget u id target) (sym is_short_link) (ap (before_first (λ b. b == 0)) bytes ∙ target_read target (144 - length target) no_zero (omega (arith, short)), short),
    refl,
  )

  pub link_blocks : (name : List ℕ) (parent mode : ℕ) (stamp : ℤ) → own_blocks u (id, new_node Link name parent mode (length target) target stamp) ≡ id ∷ []
  link_blocks name parent mode stamp = ap (λ (t : Bool). cond t (id ∷ []) (own_blocks u (id, new_node File name parent mode 0 [] stamp))) is_short_link
