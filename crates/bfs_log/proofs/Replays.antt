-- What replay gives of an image.
use Rattle.std.proofs.Common.{◌≡◌, ◌≢◌, ⊎_elim, ℕ, ℤ, pos, negsuc, ◌+◌, ◌*◌, ◌/◌, ◌^◌, ◌<◌, ◌≤◌, ◌<ℤ◌, ◌==◌, List, [], ◌∷◌, ◌++◌, length, drop, refl, sym, ◌∙◌, ap, subst, arith, length-drop, length-append}
use Rattle.std.specs.Prelude.{All, if◌then◌else◌}
use Rattle.std.proofs.lemmas.Bool.{cases_lt, cases_eq, cond-true, cond-false, eq-eqb, ne_eqb}
use Rattle.std.proofs.lemmas.Int.{ints}
use Rattle.std.proofs.lemmas.List.{length-take-le, take_all}
use Rattle.std.proofs.lemmas.List.Elements.{All-head, All-tail}
use Rattle.bfs_base.specs.Images.{sector, block, overwritten}
use Rattle.bfs_base.proofs.Sectors.{sector_before, sector_inside, sector_after, length-pasted}
use Rattle.bfs_base.specs.Lists.{times}
use Rattle.bfs_super.specs.declared.sup.Super.{Super}
use Rattle.bfs_super.specs.declared.geometry.Geometry.{Geometry}
use Rattle.bfs_super.specs.Conditions.{natural, IsValid}
use Rattle.bfs_super.specs.Layout.{super_at, sector_of, sizes_of, groups_of, places_of}
use Rattle.bfs_super.specs.Geometry.{geometry_of}
use Rattle.bfs_super.proofs.Whole.{length-sizes_of, length-groups_of, length-places_of}
use Rattle.bfs_log.specs.declared.entry.EntryFault.{EntryFault}
use Rattle.bfs_log.specs.Entry.{IsHome, log_first}
use Rattle.bfs_log.specs.Replay.{Home, Valid, Replayed, Malformed, AgreeBut, super_of, block_sectors, blocks_of, log_from, log_to, Logs, homes_of, home_places, with_homes, emptied, over}
use Rattle.bfs_log.proofs.Written.{IsInside, place_above, same_block, with_same, sector-with_homes, length-with_homes, block-with_homes}
use Rattle.bfs_log.proofs.Logged.{logs_one, logs_sound, fails_one, logs_moved, logs_inside, logs_homes}

natural_below : (z : ℤ) (n : ℕ) → 0 < n → z <ℤ pos n → natural z < n
natural_below (pos m) n some h = omega (arith, ints)
natural_below (negsuc m) n some h = some

-- a block has at least two sectors
abbrev HasSectors : ℕ → Type 0
HasSectors n = (n ≡ 512 * (n / 512)) × (2 ≤ n / 512)

four_sizes : (k n : ℕ) → 10 ≤ k → k ≤ 13 → n ≡ 2 ^ k → HasSectors n
four_sizes k n low high is = ⊎_elim
    (λ e. subst HasSectors (sym (is ∙ ap (λ (m : ℕ). 2 ^ m) e)) (refl, omega arith))
    (λ a. ⊎_elim
    (λ e. subst HasSectors (sym (is ∙ ap (λ (m : ℕ). 2 ^ m) e)) (refl, omega arith))
    (λ b. ⊎_elim
    (λ e. subst HasSectors (sym (is ∙ ap (λ (m : ℕ). 2 ^ m) e)) (refl, omega arith))
    (λ d. let e : k ≡ 13 = omega (arith, a, b, d) in subst HasSectors (sym (is ∙ ap (λ (m : ℕ). 2 ^ m) e)) (refl, omega arith))
    (cases_eq k 12))
    (cases_eq k 11))
    (cases_eq k 10)

module _ (image : List ℕ) (valid : Valid image) where
  abbrev sup : Super
  sup = super_of image

  abbrev geo : Geometry
  geo = geometry_of (super_of image)

  abbrev sectors : ℕ
  sectors = block_sectors (super_of image)

  sizes : HasSectors sup.block_size
  sizes = four_sizes sup.block_shift sup.block_size valid.super.block_size.0 valid.super.block_size.1 valid.super.block_size.2

  pub sectors_two : 2 ≤ sectors
  sectors_two = sizes.1

  pub log_two : 2 ≤ geo.log.len
  log_two = valid.super.log.2

  pub log_volume : log_first geo + geo.log.len ≤ geo.blocks
  log_volume = valid.super.log.4

  pub from_low : log_from sup < geo.log.len
  from_low = natural_below sup.log_start sup.log_blocks.len (omega (arith, log_two)) valid.super.log_start.1

  pub to_low : log_to sup < geo.log.len
  to_low = natural_below sup.log_end sup.log_blocks.len (omega (arith, log_two)) valid.super.log_end.1

  pub blocks_fit : 512 * (sectors * geo.blocks) ≤ length image
  blocks_fit =
      let bytes : natural sup.num_blocks * sup.block_size ≡ natural sup.num_blocks * (512 * sectors) = ap (λ (k : ℕ). natural sup.num_blocks * k) sizes.0 in
      omega (arith, valid.blocks, bytes)

  pub all_inside : (entries : List (List Home)) → Logs geo (blocks_of image) (log_from sup) (log_to sup) entries → All (IsInside sectors (length image)) (homes_of entries)
  all_inside entries log = logs_inside geo sectors (length image) image log_two log_volume blocks_fit (log_from sup) (log_to sup) entries from_low to_low log

  pub empty_log : (entries : List (List Home)) → log_from sup ≡ log_to sup → Logs geo (blocks_of image) (log_from sup) (log_to sup) entries → entries ≡ []
  empty_log entries empty log = logs_one geo (blocks_of image) (log_from sup) (log_to sup) entries [] log empty

-- replay gives one image
pub replayed_one : (image a b : List ℕ) → Replayed image a → Replayed image b → a ≡ b
replayed_one image a b one two =
    let s = super_of image in
    let same : one.entries ≡ two.entries = logs_one (geometry_of s) (blocks_of image) (log_from s) (log_to s) one.entries two.entries one.log two.log in
    one.same
    ∙ ap (λ (es : List (List Home)). if log_from s == log_to s then image else overwritten 1 (sector_of (emptied s)) (with_homes (block_sectors s) (homes_of es) image)) same
    ∙ sym two.same

pub replayed_empty : (image : List ℕ) → Valid image → log_from (super_of image) ≡ log_to (super_of image) → Replayed image image
replayed_empty image valid empty =
    let s = super_of image in
    record {
      valid = valid;
      entries = [];
      log = empty;
      same = sym (cond-true (log_from s == log_to s) image (overwritten 1 (sector_of (emptied s)) (with_homes (block_sectors s) (homes_of []) image)) (eq-eqb (log_from s) (log_to s) empty));
    }

pub malformed_one : (image : List ℕ) (a b : EntryFault) → Malformed image a → Malformed image b → a ≡ b
malformed_one image a b one two =
    let s = super_of image in
    fails_one (geometry_of s) (blocks_of image) (log_from s) (log_to s) one.entries two.entries a b one.log two.log

pub replayed_sound : (image result : List ℕ) (fault : EntryFault) → Replayed image result → Malformed image fault → ⊥
replayed_sound image result fault one two =
    let s = super_of image in
    logs_sound (geometry_of s) (blocks_of image) (log_from s) (log_to s) one.entries two.entries fault one.log two.log

-- where a list has only homes, another number isn't in it
not_there : (g : Geometry) (k : ℕ) (xs : List ℕ) → All (IsHome g) xs → (IsHome g k → ⊥) → times k xs ≡ 0
not_there g k [] all none = refl
not_there g k (x ∷ xs) all none =
    let home = All-head (IsHome g) x xs all in
    let first : ◌≡◌ {A = ℕ} (if x == k then 1 else 0) 0 = cond-false {A = ℕ} (x == k) 1 0 (ne_eqb x k (λ e. none (subst (IsHome g) e home))) in
    omega (arith, first, not_there g k xs (All-tail (IsHome g) x xs all) none)

-- an image that differs only in blocks that entries name
module _ (image other result : List ℕ) (log : Replayed image result) (agree : AgreeBut (block_sectors (super_of image)) (homes_of log.entries) image other) where
  homes : All (IsHome (geometry_of (super_of image))) (home_places (homes_of log.entries))
  homes = logs_homes (geometry_of (super_of image)) (blocks_of image) (log_from (super_of image)) (log_to (super_of image)) log.entries log.log

  same_super : super_of other ≡ super_of image
  same_super =
      let r = block_sectors (super_of image) in
      let first : r * 0 + 1 ≡ 1 = omega arith in
      let sectors : sector (r * 0 + 1) other ≡ sector (r * 0 + 1) image =
      agree.each 0 1 (omega (arith, sectors_two image log.valid)) (not_there (geometry_of (super_of image)) 0 (home_places (homes_of log.entries)) homes (λ home. omega (arith, home.not_zero))) in
      ap super_at (subst (λ (k : ℕ). sector k other ≡ sector k image) first sectors)

  other_valid : Valid other
  other_valid = record {
    sectors = omega (arith, log.valid.sectors, agree.size);
    super = subst IsValid (sym same_super) log.valid.super;
    blocks = subst (λ (s : Super). natural s.num_blocks * s.block_size ≤ length other) (sym same_super) (omega (arith, log.valid.blocks, agree.size));
  }

  same_log : (p : ℕ) → p < (geometry_of (super_of image)).log.len
      → block (block_sectors (super_of image)) (log_first (geometry_of (super_of image)) + p) other ≡ blocks_of image (log_first (geometry_of (super_of image)) + p)
  same_log p low =
      let g = geometry_of (super_of image) in
      same_block (block_sectors (super_of image)) (log_first g + p) image other agree.size
      (λ j inside. agree.each (log_first g + p) j inside (not_there g (log_first g + p) (home_places (homes_of log.entries)) homes
      (λ home. ⊎_elim (λ before. omega (arith, before)) (λ behind. omega (arith, behind, low)) home.apart)))

  other_log : Logs (geometry_of (super_of other)) (blocks_of other) (log_from (super_of other)) (log_to (super_of other)) log.entries
  other_log =
      subst (λ (s : Super). Logs (geometry_of s) (λ b. block (block_sectors s) b other) (log_from s) (log_to s) log.entries) (sym same_super)
      (logs_moved (geometry_of (super_of image)) (blocks_of image) (λ b. block (block_sectors (super_of image)) b other) (log_two image log.valid) same_log
      (log_from (super_of image)) (log_to (super_of image)) log.entries (from_low image log.valid) (to_low image log.valid) log.log)

  same_written : with_homes (block_sectors (super_of image)) (homes_of log.entries) other ≡ with_homes (block_sectors (super_of image)) (homes_of log.entries) image
  same_written =
      with_same (block_sectors (super_of image)) (homes_of log.entries) image other (omega (arith, sectors_two image log.valid)) (all_inside image log.valid log.entries log.log) agree

  same_result : result ≡ (if log_from (super_of image) == log_to (super_of image) then other
      else overwritten 1 (sector_of (emptied (super_of image))) (with_homes (block_sectors (super_of image)) (homes_of log.entries) other))
  same_result =
      let s = super_of image in
      let r = block_sectors s in
      let test = log_from s == log_to s in
      let done : List ℕ → List ℕ = λ written. overwritten 1 (sector_of (emptied s)) written in
      ⊎_elim
      (λ empty.
      let none : log.entries ≡ [] = empty_log image log.valid log.entries empty log.log in
      let is : other ≡ image = subst (λ (es : List (List Home)). with_homes r (homes_of es) other ≡ with_homes r (homes_of es) image) none same_written in
      log.same
      ∙ cond-true test image (done (with_homes r (homes_of log.entries) image)) (eq-eqb (log_from s) (log_to s) empty)
      ∙ sym is
      ∙ sym (cond-true test other (done (with_homes r (homes_of log.entries) other)) (eq-eqb (log_from s) (log_to s) empty)))
      (λ full.
      log.same
      ∙ cond-false test image (done (with_homes r (homes_of log.entries) image)) (ne_eqb (log_from s) (log_to s) full)
      ∙ sym (ap done same_written)
      ∙ sym (cond-false test other (done (with_homes r (homes_of log.entries) other)) (ne_eqb (log_from s) (log_to s) full)))
      (cases_eq (log_from s) (log_to s))

  pub stopped : Replayed other result
  stopped = record {
    valid = other_valid;
    entries = log.entries;
    log = other_log;
    same = subst (λ (s : Super). result ≡ (if log_from s == log_to s then other else overwritten 1 (sector_of (emptied s)) (with_homes (block_sectors s) (homes_of log.entries) other))) (sym same_super) same_result;
  }

-- the sector of a superblock
long_sector : (s : Super) → length s.name ≡ 32 → length s.rest ≡ 380 → length (sector_of s) ≡ 512
long_sector s name rest =
    omega (
      arith,
      length-append (s.name ++ sizes_of s ++ groups_of s ++ places_of s) s.rest,
      length-append (s.name ++ sizes_of s ++ groups_of s) (places_of s),
      length-append (s.name ++ sizes_of s) (groups_of s),
      length-append s.name (sizes_of s),
      length-sizes_of s,
      length-groups_of s,
      length-places_of s,
      name,
      rest,
    )

module _ (image result : List ℕ) (log : Replayed image result) where
  abbrev written : List ℕ
  written = with_homes (block_sectors (super_of image)) (homes_of log.entries) image

  abbrev new_sector : List ℕ
  new_sector = sector_of (emptied (super_of image))

  old_long : length (sector 1 image) ≡ 512
  old_long = length-take-le 512 (drop (512 * 1) image) (omega (arith, log.valid.sectors, length-drop (512 * 1) image))

  new_long : length new_sector ≡ 512
  new_long = long_sector (emptied (super_of image)) (length-take-le 32 (sector 1 image) (omega (arith, old_long))) (length-take-le 380 (drop 132 (sector 1 image)) (omega (arith, old_long, length-drop 132 (sector 1 image))))

  long_written : length written ≡ length image
  long_written = length-with_homes (block_sectors (super_of image)) (homes_of log.entries) image (all_inside image log.valid log.entries log.log)

  new_fits : 512 * 1 + length new_sector ≤ length written
  new_fits = omega (arith, new_long, long_written, log.valid.sectors)

  new_whole : length new_sector ≡ 512 * 1
  new_whole = omega (arith, new_long)

  full : log_from (super_of image) ≢ log_to (super_of image) → result ≡ overwritten 1 new_sector written
  full other = log.same ∙ cond-false (log_from (super_of image) == log_to (super_of image)) image (overwritten 1 new_sector written) (ne_eqb (log_from (super_of image)) (log_to (super_of image)) other)

  pub replayed_same : log_from (super_of image) ≡ log_to (super_of image) → result ≡ image
  replayed_same same = log.same ∙ cond-true (log_from (super_of image) == log_to (super_of image)) image (overwritten 1 new_sector written) (eq-eqb (log_from (super_of image)) (log_to (super_of image)) same)

  pub replayed_size : length result ≡ length image
  replayed_size = ⊎_elim
      (λ same. ap length (replayed_same same))
      (λ other. ap length (full other) ∙ length-pasted 1 1 new_sector written new_fits new_whole ∙ long_written)
      (cases_eq (log_from (super_of image)) (log_to (super_of image)))

  pub replayed_super : log_from (super_of image) ≢ log_to (super_of image) → sector 1 result ≡ new_sector
  replayed_super other =
      ap (sector 1) (full other) ∙ sector_inside 1 1 new_sector written new_fits new_whole 1 (omega arith) (omega arith) ∙ take_all 512 new_sector (omega (arith, new_long))

  pub replayed_blocks : (b : ℕ) → 1 ≤ b → block (block_sectors (super_of image)) b result ≡ over (homes_of log.entries) (blocks_of image) b
  replayed_blocks b low =
      let r = block_sectors (super_of image) in
      let two = sectors_two image log.valid in
      ⊎_elim
      (λ same.
      let none : log.entries ≡ [] = empty_log image log.valid log.entries same log.log in
      ap (block r b) (replayed_same same) ∙ ap (λ (es : List (List Home)). over (homes_of es) (blocks_of image) b) (sym none))
      (λ other.
      ap (block r b) (full other)
      ∙ same_block r b written (overwritten 1 new_sector written) (length-pasted 1 1 new_sector written new_fits new_whole)
      (λ j inside. sector_after 1 1 new_sector written new_fits new_whole (r * b + j) (omega (arith, two, place_above r b 0 low)))
      ∙ block-with_homes r (homes_of log.entries) image (all_inside image log.valid log.entries log.log) b)
      (cases_eq (log_from (super_of image)) (log_to (super_of image)))

  pub replayed_rest : (b j : ℕ) → j < block_sectors (super_of image) → times b (home_places (homes_of log.entries)) ≡ 0
      → block_sectors (super_of image) * b + j ≢ 1 → sector (block_sectors (super_of image) * b + j) result ≡ sector (block_sectors (super_of image) * b + j) image
  replayed_rest b j low none ne =
      let r = block_sectors (super_of image) in
      ⊎_elim
      (λ same. ap (sector (r * b + j)) (replayed_same same))
      (λ other.
      ap (sector (r * b + j)) (full other)
      ∙ ⊎_elim
      (λ before. sector_before 1 1 new_sector written new_fits new_whole (r * b + j) before)
      (λ behind. sector_after 1 1 new_sector written new_fits new_whole (r * b + j) (omega (arith, behind, ne)))
      (cases_lt (r * b + j) 1)
      ∙ sector-with_homes r (homes_of log.entries) image (all_inside image log.valid log.entries log.log) b j low none)
      (cases_eq (log_from (super_of image)) (log_to (super_of image)))
