-- An inode that was stored is one in use: that of an attribute, or of an attribute directory.
use Rattle.std.proofs.Common.{◌≡◌, ◌+◌, ◌-◌, ◌*◌, ◌/◌, ◌%◌, ◌^◌, ◌≤ℤ◌, ◌∙◌, ℕ, ℤ, suc, pos, negsuc, List, [], Bool, true, false, cond, Option, Some, None, refl, sym, ap, subst, arith, length}
use Rattle.std.specs.Prelude.{◌*ℤ◌, ◌+ℤ◌, nat_lt, IsSome, IfSome, unwrap_or, Result, Ok, Err, IfOk}
use Rattle.std.proofs.lemmas.Int.{ints}
use Rattle.bfs_bytes.specs.declared.Run.{Run}
use Rattle.bfs_bytes.specs.Fields.{unsigned_at, signed32_at}
use Rattle.bfs_bitmap.specs.Runs.{Room}
use Rattle.bfs_inode.specs.Inode.{Inode}
use Rattle.bfs_inode.specs.Refusals.{Names}
use Rattle.bfs_super.specs.Conditions.{natural}
use Rattle.bfs_super.specs.Geometry.{geometry_of}
use Rattle.bfs_super.specs.declared.sup.Super.{Super}
use Rattle.bfs_stream.specs.Places.{arrays_at}
use Rattle.bfs_stream.specs.Sizes.{IsInVolume, sizes_of, first_block}
use Rattle.bfs_stream.specs.Told.{contents}
use Rattle.bfs_stream.specs.declared.fault.GrowFault.{GrowFault}
use Rattle.bfs_stream.proofs.Frames.{has_first}
use Rattle.bfs_stream_pages.specs.GoesLaws.{sized_of}
use Rattle.bfs_txn.specs.Told.{AreSized}
use Rattle.bfs_sound.specs.Volumes.{Volume}
use Rattle.bfs_sound.specs.Inodes.{mode_bits, IsOwner}
use Rattle.bfs_make.specs.Made.{formed_at, HasStored}
use Rattle.bfs_make.specs.declared.making.NewInode.{NewInode}
use Rattle.bfs_attr.specs.Bearers.{volume_at}
use Rattle.bfs_attr.specs.Made.{IsAttributeInode, attribute_form}

-- a signed field that isn't negative says which number its four bytes are
positive : (b : Bool) (n k m : ℕ) → cond b (pos n) (negsuc k) ≡ pos m → n ≡ m
positive true n k m e = ap natural e
positive false n k m e = let bad : negsuc k ≡ pos m = e in cc

unsigned_of : (bytes : List ℕ) (at m : ℕ) → signed32_at bytes at ≡ pos m → unsigned_at 4 bytes at ≡ m
unfolding signed32_at
unsigned_of bytes at m is = positive (nat_lt (unsigned_at 4 bytes at) 2147483648) (unsigned_at 4 bytes at) (4294967296 - suc (unsigned_at 4 bytes at)) m is

-- the number of the block at an address
number_is : (z : ℤ) (n start : ℕ) → pos 0 ≤ℤ z → (z *ℤ pos n) +ℤ pos start ≡ pos (natural z * n + start)
number_is (pos g) n start low = refl
number_is (negsuc g) n start low = absurd (omega (arith, ints, low))

pub names_run : (s : Super) (run : Run) → IsInVolume (sizes_of s) run → run.len ≡ 1 → Names run (first_block (sizes_of s) run) (natural s.ag_shift)
names_run s run inside one = record {
  one = one;
  inside = let h = inside.one_group in omega (arith, h, one);
  block = number_is run.group (2 ^ natural s.ag_shift) run.start inside.group;
}

-- a block that is told has its length
long_of : (size : ℕ) (o : Option (List ℕ)) → IsSome o → IfSome o (λ bytes. length bytes ≡ size) → length (unwrap_or o []) ≡ size
long_of size (Some bytes) some long = long
long_of size None none long = let bad : false ≡ true = none in cc

module _ (s : Super) (v now : Room) (m : ℕ → Option (List ℕ)) (n : NewInode) (bytes : List ℕ) (told : Option (ℕ → Option (List ℕ))) (old new : ℕ → Bool) (stored : HasStored (sizes_of s) v now m n bytes told old new) (inside : IsInVolume (sizes_of s) n.address) (one : n.address.len ≡ 1)
    (sized : AreSized s.block_size (Some stored.map)) (mode flags : ℕ) (mode_is : n.mode ≡ pos mode) (flags_are : n.flags ≡ pos flags) (in_use : flags % 2 ≡ 1) where
  abbrev id : ℕ
  id = first_block (sizes_of s) n.address

  abbrev block : List ℕ
  block = contents stored.map id

  abbrev here : Volume
  here = volume_at (geometry_of s) stored.map

  long : length block ≡ s.block_size
  long = long_of s.block_size (stored.map id) (stored.stream.owns.stands.told id (has_first id (arrays_at (sizes_of s) (contents stored.map) id))) (sized id)

  pub owner_is : IsOwner here id
  owner_is = record {
    inode = record {
      magic = ap (λ (i : Inode). i.magic1) stored.inode;
      number_is = subst (λ (run : Run). Names run id (natural s.ag_shift)) (sym (ap (λ (i : Inode). i.inode_num) stored.inode)) (names_run s n.address inside one);
      in_use = ap (λ (k : ℕ). k % 2) (unsigned_of block 24 flags (ap (λ (i : Inode). i.flags) stored.inode ∙ flags_are)) ∙ in_use;
      size = ap (λ (i : Inode). i.inode_size) stored.inode ∙ ap pos (sym long);
    };
    stream = stored.stream.owns.stands.sound;
  }

  pub bits_are : mode_bits here id ≡ mode
  bits_are = unsigned_of block 20 mode (ap (λ (i : Inode). i.mode) stored.inode ∙ mode_is)

-- one that was stored for an attribute is that attribute's
pub attribute_inode_is : (s : Super) (v now : Room) (m : ℕ → Option (List ℕ)) (address parent : Run) (kind : ℕ) (stamp : ℤ) (bytes : List ℕ) (told : Option (ℕ → Option (List ℕ))) (old new : ℕ → Bool)
    → (stored : HasStored (sizes_of s) v now m (formed_at address (attribute_form parent kind stamp)) bytes told old new) → IsInVolume (sizes_of s) address → address.len ≡ 1 → AreSized s.block_size (Some stored.map)
    → IsAttributeInode (volume_at (geometry_of s) stored.map) (first_block (sizes_of s) address) (record { code = kind; bytes = bytes })
attribute_inode_is s v now m address parent kind stamp bytes told old new stored inside one sized =
    let n : NewInode = formed_at address (attribute_form parent kind stamp) in record {
      owner = owner_is s v now m n bytes told old new stored inside one sized 0x100081a4 5 refl refl refl;
      mode = ap (λ (k : ℕ). k / 2 ^ 28 % 2) (bits_are s v now m n bytes told old new stored inside one sized 0x100081a4 5 refl refl refl);
      attribute_is = let code = ap (λ (i : Inode). i.type_code) stored.inode in let content = stored.content in λ i. record { code = code i; bytes = content i };
    }

-- and so where a call has stored it
pub attribute_stored : (s : Super) (v now : Room) (m : ℕ → Option (List ℕ)) (parent : Run) (kind : ℕ) (stamp : ℤ) (bytes : List ℕ) (told : Option (ℕ → Option (List ℕ))) (old new : ℕ → Bool) (size : ℕ) (r : Result Run GrowFault)
    → size ≡ s.block_size → AreSized size told → IfOk r (IsInVolume (sizes_of s)) → IfOk r (λ run. run.len ≡ 1) → IfOk r (λ run. HasStored (sizes_of s) v now m (formed_at run (attribute_form parent kind stamp)) bytes told old new)
    → IfOk r (λ run. IfSome told (λ map. IsAttributeInode (volume_at (geometry_of s) map) (first_block (sizes_of s) run) (record { code = kind; bytes = bytes })))
attribute_stored s v now m parent kind stamp bytes told old new size (Err fault) same sized inside one stored = tt
attribute_stored s v now m parent kind stamp bytes told old new size (Ok run) same sized inside one stored =
    subst (λ (o : Option (ℕ → Option (List ℕ))). IfSome o (λ map. IsAttributeInode (volume_at (geometry_of s) map) (first_block (sizes_of s) run) (record { code = kind; bytes = bytes }))) (sym stored.is)
    (attribute_inode_is s v now m run parent kind stamp bytes told old new stored inside one (sized_of s.block_size size told stored.map same stored.is sized))
