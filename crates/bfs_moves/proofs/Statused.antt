-- A node's status was written.
use Rattle.std.proofs.Common.{◌≡◌, ◌∙◌, ◌/◌, ◌%◌, ◌<◌, ◌^◌, ◌⊎◌, ℕ, List, [], refl, sym, ap, subst, arith, Bool, true, cond, Option, Some}
use Rattle.std.specs.Prelude.{unwrap_or}
use Rattle.std.specs.FinMap.{insert}
use Rattle.std.specs.Int.{w32, cast_signed, cast_unsigned}
use Rattle.std.proofs.lemmas.Int.{of_z-to_z}
use Rattle.bfs_bytes.specs.Fields.{unsigned_at, signed32_at}
use Rattle.bfs_super.specs.Conditions.{IsValid}
use Rattle.bfs_super.specs.Geometry.{geometry_of}
use Rattle.bfs_super.specs.declared.sup.Super.{Super}
use Rattle.bfs_bitmap.specs.Runs.{Room}
use Rattle.bfs_inode.specs.Inode.{Inode, inode_at, stream_at}
use Rattle.bfs_txn.specs.Told.{with_block, StaysChanged}
use Rattle.bfs_stream.specs.Told.{contents}
use Rattle.bfs_tree.specs.Changes.{changed_at}
use Rattle.bfs_tree.specs.Trees.{Node, Tree, IsNode}
use Rattle.bfs_sound.specs.Volumes.{Volume}
use Rattle.bfs_sound.specs.Inodes.{mode_bits}
use Rattle.bfs_shift.specs.Inodes.{KeepsPlace, HasBytes, HasStatus}
use Rattle.bfs_shift.specs.Lists.{Lists}
use Rattle.bfs_shift.specs.Shifts.{volume_in}
use Rattle.bfs_shift.specs.Stocked.{HasWords}
use Rattle.bfs_shift.specs.Work.{IsAtWork, IsStepped}
use Rattle.bfs_shift.proofs.Renewed.{same_test}
use Rattle.bfs_moves.specs.declared.status.Status.{Status}
use Rattle.bfs_moves.specs.Statuses.{with_status, HasStatusSet, IsRestated}
use Rattle.bfs_moves.proofs.Restated.{restated_step}

word_is : (block : List ℕ) (bits : ℕ) → unsigned_at 4 block 20 < 2 ^ 32 → bits < 2 ^ 32 → signed32_at block 20 ≡ cast_signed w32 bits → unsigned_at 4 block 20 ≡ bits
unfolding signed32_at
word_is block bits low few e = sym (of_z-to_z w32 (unsigned_at 4 block 20) low) ∙ ap (cast_unsigned w32) e ∙ of_z-to_z w32 bits few

-- the fields were written, with these bits as the mode
pub status_set : (status : Status) (old new : List ℕ) (bits : ℕ) → bits < 2 ^ 32 → bits / 4096 ≡ unsigned_at 4 old 20 / 4096 → bits % 4096 ≡ status.mode → HasWords new
    → inode_at new ≡ record (inode_at old) { mode = cast_signed w32 bits; uid = status.uid; gid = status.gid; status_change_time = status.stamp } → stream_at new ≡ stream_at old → HasStatusSet status old new
status_set status old new bits few kind mode words inode stream =
    let mode_is : (inode_at new).mode ≡ cast_signed w32 bits = ap (λ (i : Inode). i.mode) inode in
    let word : unsigned_at 4 new 20 ≡ bits = word_is new bits words.mode few mode_is in
    record {
      inode = inode ∙ sym (ap (λ z. record (inode_at old) { mode = z; uid = status.uid; gid = status.gid; status_change_time = status.stamp }) mode_is);
      stream = stream;
      kind = ap (λ (b : ℕ). b / 4096) word ∙ kind;
      mode = ap (λ (b : ℕ). b % 4096) word ∙ mode;
    }

-- with this status in the place of its own, the node's tree is the plain tree's
pub status_tree : (tree : Tree) (d : ℕ) (n : Node) (status : Status) → IsNode tree d n
    → record tree { nodes = insert tree.nodes d (record n { mode = status.mode; uid = status.uid; gid = status.gid; changed = status.stamp }) } ≡ with_status tree d status
status_tree tree d n status is = sym (ap (λ (o : Option Node). record tree { nodes = changed_at (λ (x : Node). record x { mode = status.mode; uid = status.uid; gid = status.gid; changed = status.stamp }) o d tree.nodes }) is)

module _ (s : Super) (v : Room) (m : ℕ → Option (List ℕ)) (tree : Tree) (lists : Lists) (loose : List ℕ) (d : ℕ) (n : Node) (status : Status) (told : Option (ℕ → Option (List ℕ))) (old new : ℕ → Bool)
    (valid : IsValid s) (work : IsAtWork (geometry_of s) v m tree lists loose) (is : IsNode tree d n) (written : IsRestated d status m told) (changed : (k : ℕ) → new k ≡ true → (old k ≡ true) ⊎ (k ≡ d)) (kept_changed : StaysChanged old new) where
  abbrev before : Volume
  before = volume_in (geometry_of s) m

  abbrev map : ℕ → Option (List ℕ)
  map = with_block d written.bytes m

  abbrev since : Volume
  since = volume_in (geometry_of s) map

  abbrev now : Node
  now = record n { mode = status.mode; uid = status.uid; gid = status.gid; changed = status.stamp }

  here_is : contents map d ≡ written.bytes
  here_is = ap (λ (t : Bool). unwrap_or (cond t (Some written.bytes) (m d)) []) (same_test d)

  inode_is : inode_at (contents map d) ≡ record (inode_at (contents m d)) { mode = (inode_at written.bytes).mode; uid = status.uid; gid = status.gid; status_change_time = status.stamp }
  inode_is = ap inode_at here_is ∙ written.set.inode

  words : HasBytes (contents m d) written.bytes
  words = record { long = (let l = written.long in omega (arith, l)); before = written.before; after = written.after }

  kept : KeepsPlace (contents m d) written.bytes
  kept = record {
    magic = ap (λ (i : Inode). i.magic1) written.set.inode;
    number = ap (λ (i : Inode). i.inode_num) written.set.inode;
    flags = ap (λ (i : Inode). i.flags) written.set.inode;
    parent = ap (λ (i : Inode). i.parent) written.set.inode;
    attributes = ap (λ (i : Inode). i.attributes) written.set.inode;
    inode_size = ap (λ (i : Inode). i.inode_size) written.set.inode;
    small_data = ap (λ (i : Inode). i.small_data) written.set.inode;
  }

  status_is : HasStatus since d now
  status_is =
      let h = work.stocked.nodes d n is in
      let kind : mode_bits since d / 4096 ≡ mode_bits before d / 4096 = ap (λ (b : List ℕ). unsigned_at 4 b 20 / 4096) here_is ∙ written.set.kind in
      let mode : mode_bits since d % 4096 ≡ status.mode = ap (λ (b : List ℕ). unsigned_at 4 b 20 % 4096) here_is ∙ written.set.mode in
      record {
        kind = ap (λ (b : ℕ). b % 16) kind ∙ h.kind;
        mode = sym mode;
        uid = sym (ap (λ (i : Inode). i.uid) inode_is);
        gid = sym (ap (λ (i : Inode). i.gid) inode_is);
        created = h.created ∙ sym (ap (λ (i : Inode). i.create_time) inode_is);
        modified = h.modified ∙ sym (ap (λ (i : Inode). i.last_modified_time) inode_is);
        changed = sym (ap (λ (i : Inode). i.status_change_time) inode_is);
      }

  step : IsStepped (geometry_of s) v v m tree (record tree { nodes = insert tree.nodes d now }) lists loose told old new
  step =
      restated_step s v m tree lists loose d n now written.bytes told old new valid work is written.is changed kept_changed kept words written.set.stream (ap (λ (i : Inode). i.stream_bytes) written.set.inode)
      (record { kind = refl; name = refl; parent = refl; attributes = refl }) refl refl status_is

  pub status_step : IsStepped (geometry_of s) v v m tree (with_status tree d status) lists loose told old new
  status_step = subst (λ (t : Tree). IsStepped (geometry_of s) v v m tree t lists loose told old new) (status_tree tree d n status is) step
