-- A file's stream was cut: blocks at its end were given back, and perhaps array blocks.
use Rattle.std.proofs.Common.{◌≡◌, ◌≤◌, ◌<◌, ◌+◌, ◌⊎◌, inl, inr, ℕ, zero, suc, List, [], ◌++◌, length, length-append, ⊎_elim, refl, sym, ap, ◌∙◌, subst, arith, Bool, true, false, not, Option}
use Rattle.std.proofs.lemmas.Bool.{cases_lt}
use Rattle.std.specs.Prelude.{◌==◌, ◌&&◌, ◌||◌, ◌*◌, unwrap_or}
use Rattle.std.specs.FinMap.{insert}
use Rattle.bfs_base.specs.Lists.{times, Has}
use Rattle.bfs_super.specs.Conditions.{IsValid, natural}
use Rattle.bfs_super.specs.Geometry.{geometry_of}
use Rattle.bfs_super.specs.declared.geometry.Geometry.{Geometry}
use Rattle.bfs_super.specs.declared.sup.Super.{Super}
use Rattle.bfs_bitmap.specs.Fills.{IsBitmapBlock}
use Rattle.bfs_bitmap.specs.Runs.{Room, HasBitmap, per_block, is_reserved, marked}
use Rattle.bfs_txn.specs.Told.{StaysChanged}
use Rattle.bfs_stream.specs.Grown.{IsOutside, is_new}
use Rattle.bfs_stream.specs.Places.{places_at}
use Rattle.bfs_stream.specs.Sizes.{Origin, sizes_of, array_length}
use Rattle.bfs_stream.specs.Standing.{standing}
use Rattle.bfs_stream.specs.Told.{contents}
use Rattle.bfs_stream.specs.Trimmed.{Trimmed, HasTrimmedTo}
use Rattle.bfs_stream.proofs.Doubles.{times-append}
use Rattle.bfs_stream.proofs.Taking.{zero_test, some_test}
use Rattle.bfs_stream_pages.specs.Moves.{KeepsInode}
use Rattle.bfs_tree.specs.Trees.{Node, Nodes, Tree, IsNode, is_file}
use Rattle.bfs_tree.specs.declared.call.Kind.{Kind}
use Rattle.bfs_tree.specs.declared.call.Kind.TheVariants.{File}
use Rattle.bfs_sound.specs.Volumes.{Volume, sizes, IsMarked}
use Rattle.bfs_sound.specs.Inodes.{frame_blocks, stream_blocks, inode_blocks}
use Rattle.bfs_sound.specs.Nodes.{HasContent}
use Rattle.bfs_shift.specs.Inodes.{HasBytes}
use Rattle.bfs_shift.specs.Lists.{Lists}
use Rattle.bfs_shift.specs.Shifts.{volume_in}
use Rattle.bfs_shift.specs.Work.{IsAtWork}
use Rattle.bfs_shift.proofs.Basics.{some_bytes, or_told}
use Rattle.bfs_shift.proofs.Directories.{put_same}
use Rattle.bfs_shift.proofs.Rewritten.{keeps_place, same_status}
use Rattle.bfs_shift.proofs.Trims.{trimmed_shifts}
use Rattle.bfs_leave.specs.Leaving.{IsClear}
use Rattle.bfs_set_size.specs.Resizing.{Resizes}
use Rattle.bfs_set_size.specs.Sized.{HasCutTo}
use Rattle.bfs_set_size.proofs.Owned.{array_some}
use Rattle.bfs_set_size.proofs.Refiled.{IsRefiled, file_kind, file_parts, file_marked, refiled_work, refiled_resizes}

-- the test for a block that went, and what it says
went : (a b : ℕ) → a ≡ 0 → 0 < b → ((a == 0) && not (b == 0)) ≡ true
went a b none some = ap (λ (t : Bool). t && not (b == 0)) (zero_test a none) ∙ ap not (some_test b some)

went_is : (a b : ℕ) → ((a == 0) && not (b == 0)) ≡ true → (a ≡ 0) × (0 < b)
went_is zero zero e = absurd (let bad : false ≡ true = e in cc)
went_is zero (suc b) e = (refl, omega arith)
went_is (suc a) b e = absurd (let bad : false ≡ true = sym (ap (λ (t : Bool). t && not (b == 0)) (some_test (suc a) (omega arith))) ∙ e in cc)

or_true : (b : Bool) → (b || true) ≡ true
or_true true = refl
or_true false = refl

either : (a b : Bool) → (a || b) ≡ true → (a ≡ true) ⊎ (b ≡ true)
either true b e = inl refl
either false b e = inr e

module _ (s : Super) (v now : Room) (m : ℕ → Option (List ℕ)) (tree : Tree) (lists : Lists) (loose : List ℕ) (id : ℕ) (n : Node) (gone : List ℕ) (told : Option (ℕ → Option (List ℕ))) (old new : ℕ → Bool)
    (valid : IsValid s) (work : IsAtWork (geometry_of s) v m tree lists loose) (clear : IsClear (geometry_of s) v m) (is : IsNode tree id n) (is_a_file : is_file n.kind ≡ true)
    (cut : Trimmed (record { id = id; sizes = sizes_of s }) v now m gone told old new) (rest : now ≡ record v { given = now.given; tally = now.tally }) (stands : standing now ≡ standing v) (kept_changed : StaysChanged old new)
    (words : HasBytes (contents m id) (contents cut.map id)) where
  abbrev g : Geometry
  g = geometry_of s

  abbrev map : ℕ → Option (List ℕ)
  map = cut.map

  abbrev was : Volume
  was = volume_in g m

  abbrev since : Volume
  since = volume_in g map

  abbrev xs : List ℕ
  xs = inode_blocks was id

  abbrev ys : List ℕ
  ys = inode_blocks since id

  some : 0 < s.block_size
  some = some_bytes s valid

  file : n.kind ≡ File
  file = file_kind n.kind is_a_file

  kept_inode : KeepsInode (contents m id) (contents map id)
  kept_inode = (cut.kept.0, cut.kept.2)

  content_was : HasContent was id n File
  content_was = subst (λ (k : Kind). HasContent was id n k) file (work.stocked.nodes id n is).content_is

  content_now : HasContent since id n File
  content_now = (cut.owns.stands.sound, content_was.1 ∙ sym (ap natural cut.kept.1), content_was.2)

  xs_parts : (k : ℕ) → times k xs ≡ times k (frame_blocks was id) + times k (stream_blocks was id)
  xs_parts = file_parts g v m tree lists loose id n work is file

  ys_parts : (k : ℕ) → times k ys ≡ times k (frame_blocks since id) + times k (stream_blocks since id)
  ys_parts k = times-append k (frame_blocks since id) (stream_blocks since id)

  ys_once : (k : ℕ) → times k ys ≤ 1
  ys_once k = cut.owns.once k

  own_marked : (k : ℕ) → Has xs k → IsMarked was k
  own_marked = file_marked g v m tree lists loose id n work is file

  untouched : (k : ℕ) → times k (frame_blocks since id) ≡ 0 → times k cut.touched ≡ 0
  untouched k none = by_count (times k cut.touched) refl
    where
      by_count : (c : ℕ) → times k cut.touched ≡ c → times k cut.touched ≡ 0
      by_count zero e = e
      by_count (suc c) e = absurd (
          let f : 0 < times k (frame_blocks since id) = cut.still k (let h : 0 < times k cut.touched = omega (arith, e) in h) in
          omega (arith, f, none))

  bitmap_now : HasBitmap v map
  bitmap_now = let h : HasBitmap (record v { given = now.given; tally = now.tally }) map = subst (λ (x : Room). HasBitmap x map) rest cut.owns.fits.has in record { told = h.told }

  bits_in : (x : ℕ → Option (List ℕ)) (k : ℕ) → marked (per_block v) x k ≡ marked (8 * g.block_size) x k
  bits_in x k = ap (λ (b : ℕ). marked (8 * b) x k) work.volume.block_size

  outside : (k : ℕ) → Has ys k → IsOutside v k
  outside k h = subst (λ (r : Room). IsOutside r k) rest (cut.owns.outside k h)

  refiled : IsRefiled g v now m map id false old new
  refiled = record {
    shift = trimmed_shifts g id v now m gone told old new work.volume some cut own_marked;
    fits = cut.owns.fits;
    counted = cut.counted (λ k low h. let one : marked (8 * g.block_size) m k ≡ 1 = (own_marked k h).1 in bits_in m k ∙ one) work.counted;
    rest = rest;
    standing_is = stands;
    holds = λ k r. cut.reserved k ∙ ap (λ (t : Bool). t || is_new ys xs k) r;
    gone = λ k h none. cut.reserved k ∙ ap (λ (t : Bool). is_reserved v.given k || t) (went (times k ys) (times k xs) none h) ∙ or_true (is_reserved v.given k);
    back = λ k r. by_test k (either (is_reserved v.given k) (is_new ys xs k) (sym (cut.reserved k) ∙ r));
    fresh = λ k h none. absurd (let has : 0 < times k ys = h in let f : times k ys ≤ times k xs = cut.fewer k in omega (arith, has, f, none));
    frame_told = cut.owns.stands.told;
    stays = λ k none. or_told v m map k bitmap_now (λ out. cut.others k out (untouched k none)) (λ at. ap map at ∙ cut.first (subst (λ (j : ℕ). times j cut.touched ≡ 0) at (untouched k none)) ∙ sym (ap m at));
    same_data = λ k h. ap (λ (b : Option (List ℕ)). unwrap_or b []) (cut.others k (outside k (in_ys k h)) (untouched k (no_frame k h)));
    written = λ k h. by_cause k (cut.written k h);
    kept = kept_changed;
    entered = λ k h none. absurd (let f : 0 < times k (frame_blocks was id) = cut.keeps k h in let p = xs_parts k in omega (arith, f, p, none));
    frame_was = λ k h there. cut.keeps k h;
    data_was = λ k h. inl (
        let has : 0 < times k (stream_blocks since id) = h in
        let e : times k (stream_blocks was id) ≡ times k (stream_blocks since id ++ gone) = ap (times k) cut.places in
        let a = times-append k (stream_blocks since id) gone in
        let r : 0 < times k (stream_blocks was id) = omega (arith, has, e, a) in
        r);
    longer = (gone, cut.places);
  }
    where
      by_test : (k : ℕ) → (is_reserved v.given k ≡ true) ⊎ (is_new ys xs k ≡ true) → (is_reserved v.given k ≡ true) ⊎ (Has xs k × (times k ys ≡ 0))
      by_test k (inl r) = inl r
      by_test k (inr e) = let w = went_is (times k ys) (times k xs) e in inr (w.1, w.0)

      in_ys : (k : ℕ) → Has (stream_blocks since id) k → Has ys k
      in_ys k h = let has : 0 < times k (stream_blocks since id) = h in let q = ys_parts k in let r : 0 < times k ys = omega (arith, has, q) in r

      no_frame : (k : ℕ) → Has (stream_blocks since id) k → times k (frame_blocks since id) ≡ 0
      no_frame k h = let has : 0 < times k (stream_blocks since id) = h in let q = ys_parts k in let o = ys_once k in omega (arith, has, q, o)

      by_cause : (k : ℕ) → (old k ≡ true) ⊎ (IsBitmapBlock v k ⊎ Has cut.touched k) → (old k ≡ true) ⊎ (IsBitmapBlock v k ⊎ Has (frame_blocks since id) k)
      by_cause k (inl e) = inl e
      by_cause k (inr (inl bit)) = inr (inl bit)
      by_cause k (inr (inr h)) = inr (inr (cut.still k h))

  work_then : IsAtWork g now map (record tree { nodes = insert tree.nodes id n }) lists loose
  work_then = refiled_work g v now m map tree lists loose id n n false old new some work clear is file (keeps_place (contents m id) (contents map id) kept_inode) words
      (record { kind = refl; name = refl; parent = refl; attributes = refl }) (same_status was (contents map) id kept_inode words n (work.stocked.nodes id n is)) content_now refiled

  resizes_then : Resizes g v now m map tree (record tree { nodes = insert tree.nodes id n }) id false old new
  resizes_then = refiled_resizes g v now m map tree lists loose id n n false old new some work clear is file (keeps_place (contents m id) (contents map id) kept_inode) words
      (record { kind = refl; name = refl; parent = refl; attributes = refl }) (same_status was (contents map) id kept_inode words n (work.stocked.nodes id n is)) content_now refiled

  same_tree : record tree { nodes = insert tree.nodes id n } ≡ tree
  same_tree = ap (λ (ns : Nodes). record tree { nodes = ns }) (put_same tree.nodes id n is)

  pub cut_to : (blocks : ℕ) (told_last : Option (ℕ → Option (List ℕ))) (last : ℕ → Bool) → told_last ≡ told → last ≡ new → length (stream_blocks since id) < blocks + array_length (sizes g) → HasCutTo g v now m tree lists loose id blocks told_last old last
  cut_to blocks told_last last at same most = record {
    step = record {
      map = map;
      is = at ∙ cut.is;
      work = subst (λ (t : Tree). IsAtWork g now map t lists loose) same_tree work_then;
      resizes = subst (λ (f : ℕ → Bool). Resizes g v now m map tree tree id false old f) (sym same) (subst (λ (t : Tree). Resizes g v now m map tree t id false old new) same_tree resizes_then);
    };
    most = most;
  }

-- what was cut to its first blocks has few more
pub cut_few : (o : Origin) (v now : Room) (m : ℕ → Option (List ℕ)) (blocks : ℕ) (told : Option (ℕ → Option (List ℕ))) (old new : ℕ → Bool) (to : HasTrimmedTo o v now m blocks told old new)
    → length (places_at o.sizes (contents to.trimmed.map) o.id) < blocks + array_length o.sizes
cut_few o v now m blocks told old new to = ⊎_elim less (λ le. to.most le) (cases_lt (length (places_at o.sizes (contents m) o.id)) blocks)
  where
    less : length (places_at o.sizes (contents m) o.id) < blocks → length (places_at o.sizes (contents to.trimmed.map) o.id) < blocks + array_length o.sizes
    less low =
        let all : length (places_at o.sizes (contents m) o.id) ≡ length (places_at o.sizes (contents to.trimmed.map) o.id ++ to.gone) = ap length to.trimmed.places in
        let a = length-append (places_at o.sizes (contents to.trimmed.map) o.id) to.gone in
        let l = array_some o.sizes in
        omega (arith, low, all, a, l)
