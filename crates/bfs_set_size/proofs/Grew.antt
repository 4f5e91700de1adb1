-- A file's stream has grown by free blocks, whose bytes weren't written, and perhaps by array blocks.
use Rattle.std.proofs.Common.{◌≡◌, ◌≤◌, ◌<◌, ◌+◌, ◌⊎◌, inl, inr, ℕ, zero, suc, List, [], ◌++◌, length, length-append, refl, sym, ap, ◌∙◌, subst, arith, Bool, true, false, not, Option}
use Rattle.std.specs.Prelude.{◌==◌, ◌&&◌, nat_lt, unwrap_or}
use Rattle.std.specs.FinMap.{insert}
use Rattle.bfs_base.specs.Lists.{times, Has}
use Rattle.bfs_super.specs.Conditions.{IsValid, natural}
use Rattle.bfs_super.specs.Geometry.{geometry_of}
use Rattle.bfs_super.specs.declared.geometry.Geometry.{Geometry}
use Rattle.bfs_super.specs.declared.sup.Super.{Super}
use Rattle.bfs_bitmap.specs.declared.given.Given.{Given}
use Rattle.bfs_bitmap.specs.Runs.{Room, HasBitmap, per_block, is_reserved, marked}
use Rattle.bfs_stream.specs.Grown.{IsOutside, Grown}
use Rattle.bfs_stream.specs.Sizes.{sizes_of, array_length}
use Rattle.bfs_stream.specs.Told.{contents}
use Rattle.bfs_stream.proofs.Doubles.{times-append}
use Rattle.bfs_stream_pages.specs.Moves.{KeepsInode}
use Rattle.bfs_tree.specs.Trees.{Node, Nodes, Tree, IsNode, is_file}
use Rattle.bfs_tree.specs.declared.call.Kind.{Kind}
use Rattle.bfs_tree.specs.declared.call.Kind.TheVariants.{File}
use Rattle.bfs_sound.specs.Volumes.{Volume, sizes, IsMarked}
use Rattle.bfs_sound.specs.Inodes.{frame_blocks, stream_blocks, inode_blocks}
use Rattle.bfs_sound.specs.Nodes.{HasContent}
use Rattle.bfs_shift.specs.Inodes.{HasBytes}
use Rattle.bfs_shift.specs.Lists.{Lists}
use Rattle.bfs_shift.specs.Shifts.{volume_in}
use Rattle.bfs_shift.specs.Work.{IsAtWork}
use Rattle.bfs_shift.proofs.Basics.{some_bytes, or_told}
use Rattle.bfs_shift.proofs.Directories.{put_same}
use Rattle.bfs_shift.proofs.Rewritten.{keeps_place, same_status}
use Rattle.bfs_shift.proofs.Trims.{grown_shifts}
use Rattle.bfs_leave.specs.Leaving.{IsClear}
use Rattle.bfs_leave.proofs.Standing.{same_standing}
use Rattle.bfs_set_size.specs.Resizing.{Resizes}
use Rattle.bfs_set_size.specs.Sized.{HasMore}
use Rattle.bfs_set_size.proofs.Refiled.{IsRefiled, file_kind, file_parts, file_marked, refiled_work, refiled_resizes}

-- a free block isn't reserved
free_not : (a b c : Bool) → (a && (b && not c)) ≡ true → c ≡ false
free_not a b false e = refl
free_not true true true e = absurd (let bad : false ≡ true = e in cc)
free_not true false true e = absurd (let bad : false ≡ true = e in cc)
free_not false b true e = absurd (let bad : false ≡ true = e in cc)

module _ (s : Super) (v now : Room) (m : ℕ → Option (List ℕ)) (tree : Tree) (lists : Lists) (loose : List ℕ) (id : ℕ) (n : Node) (more : List ℕ) (told : Option (ℕ → Option (List ℕ))) (old new : ℕ → Bool)
    (valid : IsValid s) (work : IsAtWork (geometry_of s) v m tree lists loose) (clear : IsClear (geometry_of s) v m) (is : IsNode tree id n) (is_a_file : is_file n.kind ≡ true)
    (grown : Grown (record { id = id; sizes = sizes_of s }) v now m more told old new) (rest : now ≡ record v { tally = now.tally }) (words : HasBytes (contents m id) (contents grown.map id)) where
  abbrev g : Geometry
  g = geometry_of s

  abbrev map : ℕ → Option (List ℕ)
  map = grown.map

  abbrev was : Volume
  was = volume_in g m

  abbrev since : Volume
  since = volume_in g map

  abbrev xs : List ℕ
  xs = inode_blocks was id

  abbrev ys : List ℕ
  ys = inode_blocks since id

  some : 0 < s.block_size
  some = some_bytes s valid

  file : n.kind ≡ File
  file = file_kind n.kind is_a_file

  kept_inode : KeepsInode (contents m id) (contents map id)
  kept_inode = (grown.kept.0, grown.kept.2)

  content_was : HasContent was id n File
  content_was = subst (λ (k : Kind). HasContent was id n k) file (work.stocked.nodes id n is).content_is

  content_now : HasContent since id n File
  content_now = (grown.owns.stands.sound, content_was.1 ∙ sym (ap natural grown.kept.1), content_was.2)

  xs_parts : (k : ℕ) → times k xs ≡ times k (frame_blocks was id) + times k (stream_blocks was id)
  xs_parts = file_parts g v m tree lists loose id n work is file

  ys_parts : (k : ℕ) → times k ys ≡ times k (frame_blocks since id) + times k (stream_blocks since id)
  ys_parts k = times-append k (frame_blocks since id) (stream_blocks since id)

  -- the data blocks since are those before and the new ones
  data_parts : (k : ℕ) → times k (stream_blocks since id) ≡ times k (stream_blocks was id) + times k more
  data_parts k = ap (times k) grown.places ∙ times-append k (stream_blocks was id) more

  ys_once : (k : ℕ) → times k ys ≤ 1
  ys_once k = grown.owns.once k

  own_marked : (k : ℕ) → Has xs k → IsMarked was k
  own_marked = file_marked g v m tree lists loose id n work is file

  bitmap_now : HasBitmap v map
  bitmap_now = let h : HasBitmap (record v { tally = now.tally }) map = subst (λ (x : Room). HasBitmap x map) rest grown.owns.fits.has in record { told = h.told }

  outside : (k : ℕ) → Has ys k → IsOutside v k
  outside k h = subst (λ (r : Room). IsOutside r k) rest (grown.owns.outside k h)

  same_given : now.given ≡ v.given
  same_given = ap (λ (r : Room). r.given) rest

  refiled : IsRefiled g v now m map id true old new
  refiled = record {
    shift = grown_shifts g id v now m more told old new work.volume some grown rest own_marked;
    fits = grown.owns.fits;
    counted = grown.counted work.counted;
    rest = rest ∙ ap (λ (gs : List Given). record v { given = gs; tally = now.tally }) (sym same_given);
    standing_is = same_standing v now same_given;
    holds = λ k r. subst (λ (gs : List Given). is_reserved gs k ≡ true) (sym same_given) r;
    gone = λ k h none. absurd (gone_not k h none);
    back = λ k r. inl (subst (λ (gs : List Given). is_reserved gs k ≡ true) same_given r);
    fresh = λ k h none. free_not (nat_lt k v.blocks) (marked (per_block v) m k == 0) (is_reserved v.given k) (grown.were_free k h none);
    frame_told = grown.owns.stands.told;
    stays = λ k none. or_told v m map k bitmap_now (λ out. grown.others k out none) (λ at. ap map at ∙ grown.first (subst (λ (j : ℕ). times j (frame_blocks since id) ≡ 0) at none) ∙ sym (ap m at));
    same_data = λ k h. ap (λ (b : Option (List ℕ)). unwrap_or b []) (grown.others k (outside k (in_ys k h)) (no_frame k h));
    written = grown.written;
    kept = grown.stays;
    entered = grown.entered;
    frame_was = was_frame;
    data_was = λ k h. by_data k h (times k (stream_blocks was id)) refl;
    longer = (more, grown.places);
  }
    where
      frame_keeps : (k : ℕ) → 0 < times k (frame_blocks was id) → 0 < times k (frame_blocks since id)
      frame_keeps k h = grown.keeps k h

      gone_not : (k : ℕ) → Has xs k → times k ys ≡ 0 → ⊥
      gone_not k h none = by_count (times k (frame_blocks was id)) refl
        where
          by_count : (c : ℕ) → times k (frame_blocks was id) ≡ c → ⊥
          by_count (suc c) e = let f = frame_keeps k (let r : 0 < times k (frame_blocks was id) = omega (arith, e) in r) in let q = ys_parts k in omega (arith, f, q, none)
          by_count zero e = let has : 0 < times k xs = h in let p = xs_parts k in let q = ys_parts k in let d = data_parts k in omega (arith, has, p, q, d, e, none)

      in_ys : (k : ℕ) → Has (stream_blocks since id) k → Has ys k
      in_ys k h = let has : 0 < times k (stream_blocks since id) = h in let q = ys_parts k in let r : 0 < times k ys = omega (arith, has, q) in r

      no_frame : (k : ℕ) → Has (stream_blocks since id) k → times k (frame_blocks since id) ≡ 0
      no_frame k h = let has : 0 < times k (stream_blocks since id) = h in let q = ys_parts k in let o = ys_once k in omega (arith, has, q, o)

      was_frame : (k : ℕ) → Has (frame_blocks since id) k → Has xs k → Has (frame_blocks was id) k
      was_frame k h there =
          let has : 0 < times k (frame_blocks since id) = h in
          let own : 0 < times k xs = there in
          let p = xs_parts k in
          let q = ys_parts k in
          let d = data_parts k in
          let o = ys_once k in
          let r : 0 < times k (frame_blocks was id) = omega (arith, has, own, p, q, d, o) in
          r

      by_frame : (k : ℕ) → 0 < times k (stream_blocks since id) → (c : ℕ) → times k (frame_blocks was id) ≡ c → times k (frame_blocks was id) ≡ 0
      by_frame k has zero e = e
      by_frame k has (suc c) e = absurd (let f = frame_keeps k (let r : 0 < times k (frame_blocks was id) = omega (arith, e) in r) in let z = no_frame k has in omega (arith, f, z))

      by_data : (k : ℕ) → Has (stream_blocks since id) k → (c : ℕ) → times k (stream_blocks was id) ≡ c → Has (stream_blocks was id) k ⊎ (times k xs ≡ 0)
      by_data k h (suc c) e = inl (let r : 0 < times k (stream_blocks was id) = omega (arith, e) in r)
      by_data k h zero e = inr (let f = by_frame k h (times k (frame_blocks was id)) refl in let p = xs_parts k in omega (arith, f, p, e))

  work_then : IsAtWork g now map (record tree { nodes = insert tree.nodes id n }) lists loose
  work_then = refiled_work g v now m map tree lists loose id n n true old new some work clear is file (keeps_place (contents m id) (contents map id) kept_inode) words
      (record { kind = refl; name = refl; parent = refl; attributes = refl }) (same_status was (contents map) id kept_inode words n (work.stocked.nodes id n is)) content_now refiled

  resizes_then : Resizes g v now m map tree (record tree { nodes = insert tree.nodes id n }) id true old new
  resizes_then = refiled_resizes g v now m map tree lists loose id n n true old new some work clear is file (keeps_place (contents m id) (contents map id) kept_inode) words
      (record { kind = refl; name = refl; parent = refl; attributes = refl }) (same_status was (contents map) id kept_inode words n (work.stocked.nodes id n is)) content_now refiled

  same_tree : record tree { nodes = insert tree.nodes id n } ≡ tree
  same_tree = ap (λ (ns : Nodes). record tree { nodes = ns }) (put_same tree.nodes id n is)

  pub has_more : (blocks : ℕ) (told_last : Option (ℕ → Option (List ℕ))) (last : ℕ → Bool) → told_last ≡ told → last ≡ new → blocks ≤ length more → length more < blocks + array_length (sizes g) → HasMore g v now m tree lists loose id blocks told_last old last
  has_more blocks told_last last at same few most = record {
    step = record {
      map = map;
      is = at ∙ grown.is;
      work = subst (λ (t : Tree). IsAtWork g now map t lists loose) same_tree work_then;
      resizes = subst (λ (f : ℕ → Bool). Resizes g v now m map tree tree id true old f) (sym same) (subst (λ (t : Tree). Resizes g v now m map tree t id true old new) same_tree resizes_then);
    };
    enough = (
        let e : length (stream_blocks since id) ≡ length (stream_blocks was id ++ more) = ap length grown.places in
        let a = length-append (stream_blocks was id) more in
        omega (arith, e, a, few));
    most = (
        let e : length (stream_blocks since id) ≡ length (stream_blocks was id ++ more) = ap length grown.places in
        let a = length-append (stream_blocks was id) more in
        omega (arith, e, a, most));
  }
