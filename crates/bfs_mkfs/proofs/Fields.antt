-- What the inode of a new tree says.
use Rattle.std.proofs.Common.{◌≡◌, ◌<◌, ◌^◌, ◌%◌, ◌-◌, ℕ, suc, pos, negsuc, Bool, true, false, cond, List, length, refl, sym, ap, ◌∙◌, subst, arith, drop, replicate}
use Rattle.std.specs.Prelude.{◌*ℤ◌, ◌+ℤ◌, nat_lt}
use Rattle.bfs_super.specs.Conditions.{natural}
use Rattle.bfs_bytes.specs.Fields.{unsigned_at, signed32_at, signed64_at, run_in}
use Rattle.bfs_inode.specs.Inode.{Inode}
use Rattle.bfs_inode.specs.Refusals.{IsInode, Names}
use Rattle.bfs_mkfs.specs.Laid.{address, zero_run, IsNewInode}
use Rattle.bfs_mkfs.specs.declared.tree.NewTree.{NewTree}

-- a signed field that isn't negative says which number its four bytes are
positive : (b : Bool) (n k m : ℕ) → cond b (pos n) (negsuc k) ≡ pos m → n ≡ m
positive true n k m e = ap natural e
positive false n k m e = let bad : negsuc k ≡ pos m = e in cc

unsigned_of : (bytes : List ℕ) (at m : ℕ) → signed32_at bytes at ≡ pos m → unsigned_at 4 bytes at ≡ m
unfolding signed32_at
unsigned_of bytes at m is = positive (nat_lt (unsigned_at 4 bytes at) 2147483648) (unsigned_at 4 bytes at) (4294967296 - suc (unsigned_at 4 bytes at)) m is

pub names_address : (id shift : ℕ) → id < 2 ^ shift → Names (address id) id shift
names_address id shift small = record { one = refl; inside = small; block = number }
  where
    number : (pos 0 *ℤ pos (2 ^ shift)) +ℤ pos id ≡ pos id
    number = grind arith

module _ (size : ℕ) (t : NewTree) (block : List ℕ) (new : IsNewInode size t block) where
  pub is_inode : (shift : ℕ) → length block ≡ size → t.id < 2 ^ shift → IsInode block t.id shift
  is_inode shift long small = record {
    magic = ap (λ (i : Inode). i.magic1) new.fields;
    number_is = subst (λ run. Names run t.id shift) (sym (ap (λ (i : Inode). i.inode_num) new.fields)) (names_address t.id shift small);
    in_use = ap (λ n. n % 2) (unsigned_of block 24 1 (ap (λ (i : Inode). i.flags) new.fields));
    size = ap (λ (i : Inode). i.inode_size) new.fields ∙ ap pos (sym long);
  }

  pub mode_is : (m : ℕ) → t.mode ≡ pos m → unsigned_at 4 block 20 ≡ m
  mode_is m is = unsigned_of block 20 m (ap (λ (i : Inode). i.mode) new.fields ∙ is)

  pub flags_are : unsigned_at 4 block 24 ≡ 1
  flags_are = unsigned_of block 24 1 (ap (λ (i : Inode). i.flags) new.fields)

  pub uid_is : unsigned_at 4 block 12 ≡ 0
  uid_is = unsigned_of block 12 0 (ap (λ (i : Inode). i.uid) new.fields)

  pub gid_is : unsigned_at 4 block 16 ≡ 0
  gid_is = unsigned_of block 16 0 (ap (λ (i : Inode). i.gid) new.fields)

  pub created_is : signed64_at block 28 ≡ t.stamp
  created_is = ap (λ (i : Inode). i.create_time) new.fields

  pub modified_is : signed64_at block 36 ≡ t.stamp
  modified_is = ap (λ (i : Inode). i.last_modified_time) new.fields

  pub changed_is : signed64_at block 216 ≡ t.stamp
  changed_is = ap (λ (i : Inode). i.status_change_time) new.fields

  pub attributes_are : run_in block 52 ≡ zero_run
  attributes_are = ap (λ (i : Inode). i.attributes) new.fields

  pub small_data_is : drop 232 block ≡ replicate (size - 232) 0
  small_data_is = ap (λ (i : Inode). i.small_data) new.fields
