-- The superblock that replay writes reads as the old one with an empty log.
use Rattle.std.proofs.Common.{◌≡◌, ◌≢◌, ◌*◌, ⊎_elim, ℕ, ◌+◌, ◌≤◌, List, ◌++◌, length, take, drop, refl, sym, ◌∙◌, ap, subst, arith, append_assoc, length-append, length-drop}
use Rattle.std.specs.Prelude.{FitsSigned}
use Rattle.std.specs.Int.{w32, w64, cast_signed}
use Rattle.std.proofs.lemmas.List.{drop-append-le, take-append-le, length-take-le}
use Rattle.std.proofs.Math.Seq.{drop-append-add}
use Rattle.byteorder.specs.Endian.{little_number}
use Rattle.byteorder.specs.Numbers.{little_from-append}
use Rattle.bfs_base.specs.Images.{sector, IsBytes}
use Rattle.bfs_bytes.specs.Fields.{unsigned_at, signed32_at, signed64_at, run_in, signed32_bytes, signed64_bytes, run_bytes}
use Rattle.bfs_bytes.proofs.Lengths.{length-signed32_bytes, length-signed64_bytes, length-run_bytes}
use Rattle.bfs_super.specs.declared.sup.Super.{Super}
use Rattle.bfs_super.specs.Conditions.{natural, IsValid}
use Rattle.bfs_super.specs.Layout.{super_at, sizes_of, groups_of, places_of, sector_of}
use Rattle.bfs_super.proofs.SectorAgain.{sector_again}
use Rattle.bfs_super.proofs.Whole.{length-sizes_of}
use Rattle.bfs_log.specs.Replay.{Valid, Replayed, emptied, super_of, log_from, log_to}
use Rattle.bfs_log.proofs.Valids.{valid_by}
use Rattle.bfs_log.proofs.Replays.{replayed_super, replayed_size, replayed_same, replayed_empty}
use Rattle.std.proofs.lemmas.Bool.{cases_eq}
use Rattle.bfs_log.proofs.Printed.{signed_read}
use Rattle.bfs_log.proofs.Bounds.{pos_fits}

-- a number in the first of two parts, and in the second
read_front : (n : ℕ) (p q : List ℕ) (at : ℕ) → at + n ≤ length p → unsigned_at n (p ++ q) at ≡ unsigned_at n p at
unfolding unsigned_at
read_front n p q at h = ap (little_number n) (drop-append-le at p q (omega arith)) ∙ little_from-append n (drop at p) q (omega (arith, length-drop at p))

read_behind : (n k at : ℕ) (p q : List ℕ) → length p + k ≡ at → unsigned_at n (p ++ q) at ≡ unsigned_at n q k
unfolding unsigned_at
read_behind n k at p q place = ap (λ (m : ℕ). little_number n (drop m (p ++ q))) (sym place) ∙ ap (little_number n) (drop-append-add p q k)

drop_behind : (k at : ℕ) (p q : List ℕ) → length p + k ≡ at → drop at (p ++ q) ≡ drop k q
drop_behind k at p q place = ap (λ (m : ℕ). drop m (p ++ q)) (sym place) ∙ drop-append-add p q k

drop_last : (x l y part place : List ℕ) (k at : ℕ) → length x ≡ 84 → length part ≡ 4 → length l ≡ 8 → length place ≡ 8 → 104 + k ≡ at → drop at (x ++ (part ++ (l ++ (place ++ y)))) ≡ drop k y
drop_last x l y part place k at lx lp ll lq e =
    drop_behind (20 + k) at x (part ++ (l ++ (place ++ y))) (omega (arith, lx))
    ∙ drop_behind (16 + k) (20 + k) part (l ++ (place ++ y)) (omega (arith, lp))
    ∙ drop_behind (8 + k) (16 + k) l (place ++ y) (omega (arith, ll))
    ∙ drop_behind k (8 + k) place y (omega (arith, lq))

-- two lists that differ in four bytes at 84 and in eight at 96
module _ (x l y f s f' s' : List ℕ) (lx : length x ≡ 84) (lf : length f ≡ 4) (lf' : length f' ≡ 4) (ll : length l ≡ 8) (ls : length s ≡ 8) (ls' : length s' ≡ 8) where
  abbrev old_list : List ℕ
  old_list = x ++ (f ++ (l ++ (s ++ y)))

  abbrev new_list : List ℕ
  new_list = x ++ (f' ++ (l ++ (s' ++ y)))

  first_same : (n at : ℕ) → at + n ≤ 84 → unsigned_at n new_list at ≡ unsigned_at n old_list at
  first_same n at low =
      read_front n x (f' ++ (l ++ (s' ++ y))) at (omega (arith, lx)) ∙ sym (read_front n x (f ++ (l ++ (s ++ y))) at (omega (arith, lx)))

  middle : (part behind : List ℕ) (n k at : ℕ) → length part ≡ 4 → 88 + k ≡ at → k + n ≤ 8 → unsigned_at n (x ++ (part ++ (l ++ behind))) at ≡ unsigned_at n l k
  middle part behind n k at long place low =
      read_behind n (4 + k) at x (part ++ (l ++ behind)) (omega (arith, lx))
      ∙ read_behind n k (4 + k) part (l ++ behind) (omega (arith, long))
      ∙ read_front n l behind k (omega (arith, ll))

  middle_same : (n k at : ℕ) → 88 + k ≡ at → k + n ≤ 8 → unsigned_at n new_list at ≡ unsigned_at n old_list at
  middle_same n k at place low = middle f' (s' ++ y) n k at lf' place low ∙ sym (middle f (s ++ y) n k at lf place low)

  last : (part place : List ℕ) (n k at : ℕ) → length part ≡ 4 → length place ≡ 8 → 104 + k ≡ at → unsigned_at n (x ++ (part ++ (l ++ (place ++ y)))) at ≡ unsigned_at n y k
  last part place n k at lp lq e =
      read_behind n (20 + k) at x (part ++ (l ++ (place ++ y))) (omega (arith, lx))
      ∙ read_behind n (16 + k) (20 + k) part (l ++ (place ++ y)) (omega (arith, lp))
      ∙ read_behind n (8 + k) (16 + k) l (place ++ y) (omega (arith, ll))
      ∙ read_behind n k (8 + k) place y (omega (arith, lq))

  last_same : (n k at : ℕ) → 104 + k ≡ at → unsigned_at n new_list at ≡ unsigned_at n old_list at
  last_same n k at e = last f' s' n k at lf' ls' e ∙ sym (last f s n k at lf ls e)

  -- the eight bytes at 96
  start_read : unsigned_at 8 new_list 96 ≡ unsigned_at 8 s' 0
  start_read =
      read_behind 8 12 96 x (f' ++ (l ++ (s' ++ y))) (omega (arith, lx))
      ∙ read_behind 8 8 12 f' (l ++ (s' ++ y)) (omega (arith, lf'))
      ∙ read_behind 8 0 8 l (s' ++ y) (omega (arith, ll))
      ∙ read_front 8 s' y 0 (omega (arith, ls'))

  signed_first : (at : ℕ) → at + 4 ≤ 84 → signed32_at new_list at ≡ signed32_at old_list at
  unfolding signed32_at
  signed_first at low = ap (cast_signed w32) (first_same 4 at low)

  long_first : (at : ℕ) → at + 8 ≤ 84 → signed64_at new_list at ≡ signed64_at old_list at
  unfolding signed64_at
  long_first at low = ap (cast_signed w64) (first_same 8 at low)

  signed_last : (k at : ℕ) → 104 + k ≡ at → signed32_at new_list at ≡ signed32_at old_list at
  unfolding signed32_at
  signed_last k at e = ap (cast_signed w32) (last_same 4 k at e)

  long_last : (k at : ℕ) → 104 + k ≡ at → signed64_at new_list at ≡ signed64_at old_list at
  unfolding signed64_at
  long_last k at e = ap (cast_signed w64) (last_same 8 k at e)

  run_middle : run_in new_list 88 ≡ run_in old_list 88
  unfolding run_in signed32_at
  run_middle = λ i. record {
    group = ap (cast_signed w32) (middle_same 4 0 88 refl (omega arith)) i;
    start = middle_same 2 4 92 refl (omega arith) i;
    len = middle_same 2 6 94 refl (omega arith) i;
  }

  run_last : (k at : ℕ) → 104 + k ≡ at → run_in new_list at ≡ run_in old_list at
  unfolding run_in signed32_at
  run_last k at e = λ i. record {
    group = ap (cast_signed w32) (last_same 4 k at e) i;
    start = last_same 2 (k + 4) (at + 4) (omega (arith, e)) i;
    len = last_same 2 (k + 6) (at + 6) (omega (arith, e)) i;
  }

-- a superblock's sector round its flags and the log's start
module _ (s : Super) where
  abbrev front_part : List ℕ
  front_part = s.name ++ sizes_of s ++ (signed32_bytes s.inode_size ++ signed32_bytes s.magic2 ++ signed32_bytes s.blocks_per_ag ++ signed32_bytes s.ag_shift ++ signed32_bytes s.num_ags)

  abbrev back_part : List ℕ
  back_part = signed64_bytes s.log_end ++ (signed32_bytes s.magic3 ++ (run_bytes s.root_dir ++ (run_bytes s.indices ++ s.rest)))

  parted : sector_of s ≡ front_part ++ (signed32_bytes s.flags ++ (run_bytes s.log_blocks ++ (signed64_bytes s.log_start ++ back_part)))
  unfolding groups_of places_of
  parted = simp append_assoc

  length-front_part : length s.name ≡ 32 → length front_part ≡ 84
  length-front_part name =
      let a = signed32_bytes s.inode_size in
      let b = signed32_bytes s.magic2 in
      let c = signed32_bytes s.blocks_per_ag in
      let d = signed32_bytes s.ag_shift in
      let e = signed32_bytes s.num_ags in
      omega (
        arith,
        name,
        length-sizes_of s,
        length-append (s.name ++ sizes_of s) (a ++ b ++ c ++ d ++ e),
        length-append s.name (sizes_of s),
        length-append (a ++ b ++ c ++ d) e,
        length-append (a ++ b ++ c) d,
        length-append (a ++ b) c,
        length-append a b,
        length-signed32_bytes s.inode_size,
        length-signed32_bytes s.magic2,
        length-signed32_bytes s.blocks_per_ag,
        length-signed32_bytes s.ag_shift,
        length-signed32_bytes s.num_ags,
      )

same_sizes : (s : Super) → sizes_of (emptied s) ≡ sizes_of s
unfolding sizes_of
same_sizes s = refl

clean_fits : FitsSigned w32 (cast_signed w32 0x434c454e)
clean_fits = pos_fits 0x434c454e (omega arith)

-- it reads as the old one, but for the flags and the log's start
module _ (s : Super) (name : length s.name ≡ 32) where
  pub emptied_reads : super_at (sector_of (emptied s)) ≡ emptied (super_at (sector_of s))
  unfolding signed64_at
  emptied_reads =
      let x = front_part s in
      let l = run_bytes s.log_blocks in
      let y = back_part s in
      let f = signed32_bytes s.flags in
      let t = signed64_bytes s.log_start in
      let f' = signed32_bytes (cast_signed w32 0x434c454e) in
      let t' = signed64_bytes s.log_end in
      let lx : length x ≡ 84 = length-front_part s name in
      let lf : length f ≡ 4 = length-signed32_bytes s.flags in
      let lf' : length f' ≡ 4 = length-signed32_bytes (cast_signed w32 0x434c454e) in
      let ll : length l ≡ 8 = length-run_bytes s.log_blocks in
      let lt : length t ≡ 8 = length-signed64_bytes s.log_start in
      let lt' : length t' ≡ 8 = length-signed64_bytes s.log_end in
      let old = x ++ (f ++ (l ++ (t ++ y))) in
      let new = x ++ (f' ++ (l ++ (t' ++ y))) in
      let first : (at : ℕ) → at + 4 ≤ 84 → signed32_at new at ≡ signed32_at old at = signed_first x l y f t f' t' lx lf lf' ll lt lt' in
      let rest_same : drop 132 new ≡ drop 132 old = drop_last x l y f' t' 28 132 lx lf' ll lt' refl ∙ sym (drop_last x l y f t 28 132 lx lf ll lt refl) in
      let start : unsigned_at 8 new 96 ≡ unsigned_at 8 old 104 =
      start_read x l y f t f' t' lx lf lf' ll lt lt'
      ∙ sym (last x l y f t f' t' lx lf lf' ll lt lt' f t 8 0 104 lf lt refl ∙ read_front 8 t' (signed32_bytes s.magic3 ++ (run_bytes s.root_dir ++ (run_bytes s.indices ++ s.rest))) 0 (omega (arith, lt'))) in
      let flags : signed32_at new 84 ≡ cast_signed w32 0x434c454e = signed_read (cast_signed w32 0x434c454e) 84 x (l ++ (t' ++ y)) clean_fits lx in
      let reads : super_at new ≡ emptied (super_at old) = λ i. record {
        name = (take-append-le 32 x (f' ++ (l ++ (t' ++ y))) (omega (arith, lx)) ∙ sym (take-append-le 32 x (f ++ (l ++ (t ++ y))) (omega (arith, lx)))) i;
        magic1 = first 32 (omega arith) i;
        fs_byte_order = first 36 (omega arith) i;
        block_size = first_same x l y f t f' t' lx lf lf' ll lt lt' 4 40 (omega arith) i;
        block_shift = first_same x l y f t f' t' lx lf lf' ll lt lt' 4 44 (omega arith) i;
        num_blocks = long_first x l y f t f' t' lx lf lf' ll lt lt' 48 (omega arith) i;
        used_blocks = long_first x l y f t f' t' lx lf lf' ll lt lt' 56 (omega arith) i;
        inode_size = first 64 (omega arith) i;
        magic2 = first 68 (omega arith) i;
        blocks_per_ag = first 72 (omega arith) i;
        ag_shift = first 76 (omega arith) i;
        num_ags = first 80 (omega arith) i;
        flags = flags i;
        log_blocks = run_middle x l y f t f' t' lx lf lf' ll lt lt' i;
        log_start = ap (cast_signed w64) start i;
        log_end = long_last x l y f t f' t' lx lf lf' ll lt lt' 0 104 refl i;
        magic3 = signed_last x l y f t f' t' lx lf lf' ll lt lt' 8 112 refl i;
        root_dir = run_last x l y f t f' t' lx lf lf' ll lt lt' 12 116 refl i;
        indices = run_last x l y f t f' t' lx lf lf' ll lt lt' 20 124 refl i;
        rest = ap (take 380) rest_same i;
      } in
      let front : List ℕ → List ℕ = λ sizes.
      s.name ++ sizes ++ (signed32_bytes s.inode_size ++ signed32_bytes s.magic2 ++ signed32_bytes s.blocks_per_ag ++ signed32_bytes s.ag_shift ++ signed32_bytes s.num_ags) ++ (f' ++ (l ++ (t' ++ y))) in
      ap super_at (parted (emptied s) ∙ ap front (same_sizes s)) ∙ reads ∙ sym (ap (λ (b : List ℕ). emptied (super_at b)) (parted s))

pub emptied_valid : (s : Super) → IsValid s → IsValid (emptied s)
emptied_valid s v = record {
  magic1 = v.magic1;
  magic2 = v.magic2;
  magic3 = v.magic3;
  order = v.order;
  block_size = v.block_size;
  inode_size = v.inode_size;
  length = v.length;
  groups = v.groups;
  log = v.log;
  log_start = v.log_end;
  log_end = v.log_end;
  root = v.root;
  indices = v.indices;
}

module _ (image result : List ℕ) (bytes : IsBytes (sector 1 image)) (log : Replayed image result) where
  long : length (sector 1 image) ≡ 512
  long = length-take-le 512 (drop (512 * 1) image) (omega (arith, log.valid.sectors, length-drop (512 * 1) image))

  pub superblock_is : log_from (super_of image) ≢ log_to (super_of image) → super_of result ≡ emptied (super_of image)
  superblock_is full =
      ap super_at (replayed_super image result log full)
      ∙ emptied_reads (super_of image) (length-take-le 32 (sector 1 image) (omega (arith, long)))
      ∙ ap (λ (b : List ℕ). emptied (super_at b)) (sector_again (sector 1 image) bytes long)

  replayed_valid_to : (s : Super) → super_of result ≡ s → IsValid s → natural s.num_blocks * s.block_size ≤ length image → Valid result
  replayed_valid_to s same valid fits =
      let size = replayed_size image result log in valid_by result s same valid (omega (arith, log.valid.sectors, size)) (omega (arith, fits, size))

  pub result_valid : Valid result
  result_valid = ⊎_elim
      (λ empty. subst Valid (sym (replayed_same image result log empty)) log.valid)
      (λ full. replayed_valid_to (emptied (super_of image)) (superblock_is full) (emptied_valid (super_of image) log.valid.super) log.valid.blocks)
      (cases_eq (log_from (super_of image)) (log_to (super_of image)))

  pub result_empty : log_from (super_of result) ≡ log_to (super_of result)
  result_empty = ⊎_elim
      (λ empty. subst (λ (c : List ℕ). log_from (super_of c) ≡ log_to (super_of c)) (sym (replayed_same image result log empty)) empty)
      (λ full. subst (λ (s : Super). log_from s ≡ log_to s) (sym (superblock_is full)) refl)
      (cases_eq (log_from (super_of image)) (log_to (super_of image)))

  pub result_again : Replayed result result
  result_again = replayed_empty result result_valid result_empty
