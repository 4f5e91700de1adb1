-- A node's stamp of the last change of its status was written.
use Rattle.std.proofs.Common.{◌≡◌, ◌∙◌, ◌/◌, ◌%◌, ◌⊎◌, ℕ, ℤ, List, [], refl, sym, ap, arith, Bool, true, cond, Option, Some}
use Rattle.std.specs.Prelude.{unwrap_or}
use Rattle.bfs_bytes.specs.Fields.{unsigned_at}
use Rattle.bfs_super.specs.Conditions.{IsValid}
use Rattle.bfs_super.specs.Geometry.{geometry_of}
use Rattle.bfs_super.specs.declared.sup.Super.{Super}
use Rattle.bfs_bitmap.specs.Runs.{Room}
use Rattle.bfs_inode.specs.Inode.{Inode, inode_at}
use Rattle.bfs_txn.specs.Told.{with_block, StaysChanged}
use Rattle.bfs_stream.specs.Told.{contents}
use Rattle.bfs_tree.specs.Trees.{Node, Tree, IsNode}
use Rattle.bfs_sound.specs.Volumes.{Volume}
use Rattle.bfs_sound.specs.Inodes.{mode_bits}
use Rattle.bfs_shift.specs.Inodes.{KeepsPlace, HasBytes, HasStatus}
use Rattle.bfs_shift.specs.Lists.{Lists}
use Rattle.bfs_shift.specs.Shifts.{volume_in}
use Rattle.bfs_shift.specs.Work.{IsAtWork, IsStepped}
use Rattle.bfs_shift.proofs.Renewed.{same_test}
use Rattle.bfs_shift.proofs.Rewritten.{words_same}
use Rattle.bfs_query.proofs.Restated.{restated_step}
use Rattle.bfs_attr_calls.specs.Stamped.{with_changed, IsChangedSet}

module _ (s : Super) (v : Room) (m : ℕ → Option (List ℕ)) (tree : Tree) (lists : Lists) (loose : List ℕ) (d : ℕ) (n : Node) (stamp : ℤ) (told : Option (ℕ → Option (List ℕ))) (old new : ℕ → Bool)
    (valid : IsValid s) (work : IsAtWork (geometry_of s) v m tree lists loose) (is : IsNode tree d n) (written : IsChangedSet d stamp m told) (changed : (k : ℕ) → new k ≡ true → (old k ≡ true) ⊎ (k ≡ d)) (kept_changed : StaysChanged old new) where
  abbrev before : Volume
  before = volume_in (geometry_of s) m

  abbrev map : ℕ → Option (List ℕ)
  map = with_block d written.bytes m

  abbrev since : Volume
  since = volume_in (geometry_of s) map

  abbrev now : Node
  now = record n { changed = stamp }

  here_is : contents map d ≡ written.bytes
  here_is = ap (λ (t : Bool). unwrap_or (cond t (Some written.bytes) (m d)) []) (same_test d)

  inode_is : inode_at (contents map d) ≡ record (inode_at (contents m d)) { status_change_time = stamp }
  inode_is = ap inode_at here_is ∙ written.set.inode

  words : HasBytes (contents m d) written.bytes
  words = record { long = (let l = written.long in omega (arith, l)); before = written.before; after = written.after }

  kept : KeepsPlace (contents m d) written.bytes
  kept = record {
    magic = ap (λ (i : Inode). i.magic1) written.set.inode;
    number = ap (λ (i : Inode). i.inode_num) written.set.inode;
    flags = ap (λ (i : Inode). i.flags) written.set.inode;
    parent = ap (λ (i : Inode). i.parent) written.set.inode;
    attributes = ap (λ (i : Inode). i.attributes) written.set.inode;
    inode_size = ap (λ (i : Inode). i.inode_size) written.set.inode;
    small_data = ap (λ (i : Inode). i.small_data) written.set.inode;
  }

  mode_is : mode_bits since d ≡ mode_bits before d
  mode_is = ap (λ (b : List ℕ). unsigned_at 4 b 20) here_is ∙ words_same (contents m d) written.bytes 20 written.before.mode written.after.mode (ap (λ (i : Inode). i.mode) written.set.inode)

  status_is : HasStatus since d now
  status_is =
      let h = work.stocked.nodes d n is in
      record {
        kind = ap (λ (b : ℕ). b / 4096 % 16) mode_is ∙ h.kind;
        mode = h.mode ∙ sym (ap (λ (b : ℕ). b % 4096) mode_is);
        uid = h.uid ∙ sym (ap (λ (i : Inode). i.uid) inode_is);
        gid = h.gid ∙ sym (ap (λ (i : Inode). i.gid) inode_is);
        created = h.created ∙ sym (ap (λ (i : Inode). i.create_time) inode_is);
        modified = h.modified ∙ sym (ap (λ (i : Inode). i.last_modified_time) inode_is);
        changed = sym (ap (λ (i : Inode). i.status_change_time) inode_is);
      }

  pub changed_step : IsStepped (geometry_of s) v v m tree (with_changed tree d n stamp) lists loose told old new
  changed_step =
      restated_step s v m tree lists loose d n now written.bytes told old new valid work is written.is changed kept_changed kept words written.set.stream (ap (λ (i : Inode). i.stream_bytes) written.set.inode)
      (record { kind = refl; name = refl; parent = refl; attributes = refl }) refl refl status_is
