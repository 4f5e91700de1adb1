-- An array block that was written reads as its blocks.
use Rattle.std.proofs.Common.{◌≡◌, ⊎_elim, inl, inr, ℕ, ℤ, pos, ◌+◌, ◌-◌, ◌*◌, ◌/◌, ◌^◌, ◌<◌, ◌≤◌, ◌≤ℤ◌, List, [], ◌∷◌, ◌++◌, length, take, drop, get_or, replicate, map, refl, sym, ◌∙◌, ap, subst, arith, append_assoc, length-append}
use Rattle.std.specs.Prelude.{FitsSigned, All}
use Rattle.std.specs.Int.{w32, cast_signed, cast_unsigned}
use Rattle.std.specs.List.{flat_map}
use Rattle.std.proofs.lemmas.Int.{to_z-of_z}
use Rattle.std.proofs.lemmas.Nat.{div-add-mod'}
use Rattle.std.proofs.lemmas.List.{drop_at, take_at, length-take-le, length-map, append-nil, flat_map_more, map_more}
use Rattle.std.proofs.lemmas.List.Elements.{All-head, All-tail, All-map}
use Rattle.std.proofs.Math.Facts.{Fits-of_z}
use Rattle.byteorder.specs.Endian.{little_number, little_bytes}
use Rattle.byteorder.specs.Numbers.{little_number-reads_back}
use Rattle.bfs_bytes.specs.declared.Run.{Run}
use Rattle.bfs_bytes.specs.Fields.{Puts, unsigned_at, signed32_at, run_in, unsigned_bytes, signed32_bytes, run_bytes}
use Rattle.bfs_bytes.proofs.Puts.{puts_then}
use Rattle.bfs_bytes.proofs.Lengths.{length-unsigned_bytes, length-signed32_bytes, length-run_bytes}
use Rattle.bfs_super.specs.declared.geometry.Geometry.{Geometry}
use Rattle.bfs_super.specs.Conditions.{natural}
use Rattle.bfs_log.specs.declared.entry.Place.{Place}
use Rattle.bfs_log.specs.Ring.{in_use}
use Rattle.bfs_log.proofs.Bounds.{pos_low, pos_below, pos_fits, part_low, rest_low, group_low, some_size, size_low, blocks_low, groups_are}
use Rattle.bfs_log.specs.Entry.{IsOfSuper, IsEntry, IsHome, HasPlace, HasPlaces, first_of, count_in, max_in, runs_from, runs_of, blocks_in, run_at_block, entry_bytes}

-- numbers and runs that were written, behind and in front of anything
number_read : (n x at : ℕ) (front rest : List ℕ) → length front ≡ at → x < 256 ^ n → unsigned_at n (front ++ (unsigned_bytes n x ++ rest)) at ≡ x
unfolding unsigned_at unsigned_bytes
number_read n x at front rest long fits = ap (little_number n) (drop_at front (little_bytes n x ++ rest) at long) ∙ little_number-reads_back n x rest fits

pub signed_read : (z : ℤ) (at : ℕ) (front rest : List ℕ) → FitsSigned w32 z → length front ≡ at → signed32_at (front ++ (signed32_bytes z ++ rest)) at ≡ z
unfolding signed32_at signed32_bytes
signed_read z at front rest fits long =
    let below = Fits-of_z {w = w32} {z = z} fits in
    ap (cast_signed w32) (number_read 4 (cast_unsigned w32 z) at front rest long (omega (arith, below))) ∙ to_z-of_z w32 z fits

pub record Fits (run : Run) : Type 0 where
  pub group : FitsSigned w32 run.group
  pub start : run.start < 2 ^ 16
  pub len : run.len < 2 ^ 16

run_read : (run : Run) (at : ℕ) (front rest : List ℕ) → Fits run → length front ≡ at → run_in (front ++ (run_bytes run ++ rest)) at ≡ run
unfolding run_in run_bytes
run_read run at front rest fits long =
    let g = signed32_bytes run.group in
    let s = unsigned_bytes 2 run.start in
    let l = unsigned_bytes 2 run.len in
    let lg : length g ≡ 4 = length-signed32_bytes run.group in
    let ls : length s ≡ 2 = length-unsigned_bytes 2 run.start in
    let flat : front ++ ((g ++ s ++ l) ++ rest) ≡ front ++ (g ++ (s ++ (l ++ rest))) =
    ap (λ (xs : List ℕ). front ++ xs) (append_assoc (g ++ s) l rest ∙ append_assoc g s (l ++ rest)) in
    let group : signed32_at (front ++ ((g ++ s ++ l) ++ rest)) at ≡ run.group =
    ap (λ (xs : List ℕ). signed32_at xs at) flat ∙ signed_read run.group at front (s ++ (l ++ rest)) fits.group long in
    let start : unsigned_at 2 (front ++ ((g ++ s ++ l) ++ rest)) (at + 4) ≡ run.start =
    ap (λ (xs : List ℕ). unsigned_at 2 xs (at + 4)) (flat ∙ sym (append_assoc front g (s ++ (l ++ rest))))
    ∙ number_read 2 run.start (at + 4) (front ++ g) (l ++ rest) (omega (arith, length-append front g, lg, long)) (omega (arith, fits.start)) in
    let len : unsigned_at 2 (front ++ ((g ++ s ++ l) ++ rest)) (at + 6) ≡ run.len =
    ap (λ (xs : List ℕ). unsigned_at 2 xs (at + 6)) (flat ∙ sym (append_assoc front g (s ++ (l ++ rest))) ∙ sym (append_assoc (front ++ g) s (l ++ rest)))
    ∙ number_read 2 run.len (at + 6) (front ++ g ++ s) rest (omega (arith, length-append (front ++ g) s, length-append front g, lg, ls, long)) (omega (arith, fits.len)) in
    let groups : ℤ → Run = λ z. record { group = z; start = unsigned_at 2 (front ++ ((g ++ s ++ l) ++ rest)) (at + 4); len = unsigned_at 2 (front ++ ((g ++ s ++ l) ++ rest)) (at + 6) } in
    let starts : ℕ → Run = λ n. record { group = run.group; start = n; len = unsigned_at 2 (front ++ ((g ++ s ++ l) ++ rest)) (at + 6) } in
    let lens : ℕ → Run = λ n. record { group = run.group; start = run.start; len = n } in
    ap groups group ∙ ap starts start ∙ ap lens len

pub length-runs : (runs : List Run) → length (flat_map run_bytes runs) ≡ 8 * length runs
length-runs [] = refl
length-runs (x ∷ xs) = omega (arith, length-append (run_bytes x) (flat_map run_bytes xs), length-run_bytes x, length-runs xs)

runs_read : (runs : List Run) (at : ℕ) (front rest : List ℕ) → All Fits runs → length front ≡ at → runs_from (length runs) at (front ++ (flat_map run_bytes runs ++ rest)) ≡ runs
runs_read [] at front rest fits long = refl
runs_read (x ∷ xs) at front rest fits long =
    let more = flat_map run_bytes xs in
    let flat : front ++ ((run_bytes x ++ more) ++ rest) ≡ front ++ (run_bytes x ++ (more ++ rest)) = ap (λ (l : List ℕ). front ++ l) (append_assoc (run_bytes x) more rest) in
    let here : run_in (front ++ ((run_bytes x ++ more) ++ rest)) at ≡ x =
    ap (λ (l : List ℕ). run_in l at) flat ∙ run_read x at front (more ++ rest) (All-head Fits x xs fits) long in
    let behind : runs_from (length xs) (at + 8) (front ++ ((run_bytes x ++ more) ++ rest)) ≡ xs =
    ap (runs_from (length xs) (at + 8)) (flat ∙ sym (append_assoc front (run_bytes x) (more ++ rest)))
    ∙ runs_read xs (at + 8) (front ++ run_bytes x) rest (All-tail Fits x xs fits) (omega (arith, length-append front (run_bytes x), length-run_bytes x, long)) in
    ap (λ (r : Run). r ∷ runs_from (length xs) (at + 8) (front ++ ((run_bytes x ++ more) ++ rest))) here ∙ ap (λ (rs : List Run). x ∷ rs) behind

-- a block as a run of length 1
module _ (g : Geometry) (super : IsOfSuper g) where
  pub block_again : (b : ℕ) → first_of g (run_at_block g b) ≡ b
  block_again b = div-add-mod' b (2 ^ g.shift)

  pub blocks_again : (blocks : List ℕ) → blocks_in g (map (run_at_block g) blocks) ≡ blocks
  blocks_again [] = refl
  blocks_again (b ∷ blocks) = ap (λ (x : ℕ). x ∷ blocks_in g (map (run_at_block g) blocks)) (block_again b) ∙ ap (λ (xs : List ℕ). b ∷ xs) (blocks_again blocks)

  part_small : (b : ℕ) → b < g.blocks → b / 2 ^ g.shift < 2 ^ 31
  part_small b low = omega (arith, blocks_low g super, part_low b (2 ^ g.shift) g.blocks low)

  block_fits : (b : ℕ) → b < g.blocks → Fits (run_at_block g b)
  block_fits b low = record {
    group = pos_fits (b / 2 ^ g.shift) (part_small b low);
    start = omega (arith, rest_low b (2 ^ g.shift) (some_size g super), size_low g super);
    len = omega arith;
  }

  blocks_fit : (blocks : List ℕ) → All (λ b. b < g.blocks) blocks → All Fits (map (run_at_block g) blocks)
  blocks_fit blocks low = All-map Fits (run_at_block g) blocks (λ k d lt. block_fits (get_or blocks k d) (low k d lt))

  home_place : (b : ℕ) → IsHome g b → HasPlace g (run_at_block g b)
  home_place b home =
      let again = block_again b in
      record {
        some = omega arith;
        group_low = pos_low 0 (b / 2 ^ g.shift) (omega arith);
        group_high = pos_below (b / 2 ^ g.shift) g.groups (omega (arith, groups_are g super, group_low b g.blocks (2 ^ g.shift) (some_size g super) home.volume));
        inside = omega (arith, rest_low b (2 ^ g.shift) (some_size g super));
        volume = omega (arith, again, home.volume);
        not_zero = omega (arith, again, home.not_zero);
        apart = ⊎_elim (λ before. inl (omega (arith, again, before))) (λ behind. inr (omega (arith, again, behind))) home.apart;
      }

  -- the block that was written
  module _ (blocks : List ℕ) (size : ℕ) (low : All (λ b. b < g.blocks) blocks) (some : 1 ≤ length blocks) (few : length blocks ≤ 126) where
    counts : List ℕ
    counts = signed32_bytes (pos (length blocks)) ++ signed32_bytes (pos 127)

    fits_count : FitsSigned w32 (pos (length blocks))
    fits_count = pos_fits (length blocks) (omega arith)

    tail_of : List ℕ
    tail_of = flat_map run_bytes (map (run_at_block g) blocks) ++ replicate (size - (8 + 8 * length blocks)) 0

    whole : entry_bytes g blocks size ≡ signed32_bytes (pos (length blocks)) ++ (signed32_bytes (pos 127) ++ tail_of)
    unfolding tail_of
    whole =
        append_assoc (signed32_bytes (pos (length blocks)) ++ signed32_bytes (pos 127)) (flat_map run_bytes (map (run_at_block g) blocks)) (replicate (size - (8 + 8 * length blocks)) 0)
        ∙ append_assoc (signed32_bytes (pos (length blocks))) (signed32_bytes (pos 127)) tail_of

    pub count_again : count_in (entry_bytes g blocks size) ≡ pos (length blocks)
    count_again = ap (λ (l : List ℕ). signed32_at l 0) whole ∙ signed_read (pos (length blocks)) 0 [] (signed32_bytes (pos 127) ++ tail_of) fits_count refl

    pub max_again : max_in (entry_bytes g blocks size) ≡ pos 127
    max_again = ap (λ (l : List ℕ). signed32_at l 4) whole ∙ signed_read (pos 127) 4 (signed32_bytes (pos (length blocks))) tail_of (pos_fits 127 (omega arith)) (length-signed32_bytes (pos (length blocks)))

    pub runs_again : runs_of (entry_bytes g blocks size) ≡ map (run_at_block g) blocks
    unfolding tail_of
    runs_again =
        let head : length (signed32_bytes (pos (length blocks)) ++ signed32_bytes (pos 127)) ≡ 8 =
        length-append (signed32_bytes (pos (length blocks))) (signed32_bytes (pos 127)) ∙ omega (arith, length-signed32_bytes (pos (length blocks)), length-signed32_bytes (pos 127)) in
        let count : natural (count_in (entry_bytes g blocks size)) ≡ length (map (run_at_block g) blocks) = ap natural count_again ∙ sym (length-map blocks (run_at_block g)) in
        ap (λ (n : ℕ). runs_from n 8 (entry_bytes g blocks size)) count
        ∙ ap (runs_from (length (map (run_at_block g) blocks)) 8)
        (append_assoc (signed32_bytes (pos (length blocks)) ++ signed32_bytes (pos 127)) (flat_map run_bytes (map (run_at_block g) blocks)) (replicate (size - (8 + 8 * length blocks)) 0))
        ∙ runs_read (map (run_at_block g) blocks) 8 (signed32_bytes (pos (length blocks)) ++ signed32_bytes (pos 127)) (replicate (size - (8 + 8 * length blocks)) 0) (blocks_fit blocks low) head

    pub entry_again : (p : Place) → p.geometry ≡ g → All (IsHome g) blocks → 1 + length blocks ≤ in_use p.start p.end p.length → IsEntry p (entry_bytes g blocks size)
    entry_again p same homes room =
        let runs = map (run_at_block g) blocks in
        let places : All (HasPlace g) runs = All-map (HasPlace g) (run_at_block g) blocks (λ k d lt. home_place (get_or blocks k d) (homes k d lt)) in
        let named : length (blocks_in g (runs_of (entry_bytes g blocks size))) ≡ length blocks = ap (λ (rs : List Run). length (blocks_in g rs)) runs_again ∙ ap length (blocks_again blocks) in
        record {
          count = (
            subst (λ (z : ℤ). pos 1 ≤ℤ z) (sym count_again) (pos_low 1 (length blocks) some),
            subst (λ (z : ℤ). z ≤ℤ pos 127) (sym count_again) (pos_low (length blocks) 127 (omega arith)),
            subst (λ (z : ℤ). z ≤ℤ max_in (entry_bytes g blocks size)) (sym count_again) (subst (λ (z : ℤ). pos (length blocks) ≤ℤ z) (sym max_again) (pos_low (length blocks) 127 (omega arith))),
            subst (λ (z : ℤ). z ≤ℤ pos 127) (sym max_again) (pos_low 127 127 (omega arith)),
          );
          places = subst (λ (h : Geometry). HasPlaces h (entry_bytes g blocks size)) (sym same) (subst (λ (rs : List Run). All (HasPlace g) rs) (sym runs_again) places);
          end = subst (λ (h : Geometry). 1 + length (blocks_in h (runs_of (entry_bytes g blocks size))) ≤ in_use p.start p.end p.length) (sym same) (omega (arith, named, room));
        }

-- a block in the making
pub head_put : (n : ℕ) (old first second : List ℕ) → 8 ≤ length old → Puts 0 (signed32_bytes (pos n)) old first → Puts 4 (signed32_bytes (pos 127)) first second
    → take (8 + 8 * 0) second ≡ signed32_bytes (pos n) ++ signed32_bytes (pos 127) ++ []
head_put n old first second long one two =
    let ln = length-signed32_bytes (pos n) in
    let lm = length-signed32_bytes (pos 127) in
    let both = puts_then 0 4 (signed32_bytes (pos n)) (signed32_bytes (pos 127)) old first second (omega (arith, ln)) (omega (arith, lm)) one two in
    ap (take 8) both
    ∙ take_at (signed32_bytes (pos n) ++ signed32_bytes (pos 127)) (drop (0 + length (signed32_bytes (pos n) ++ signed32_bytes (pos 127))) old) 8 (length-append (signed32_bytes (pos n)) (signed32_bytes (pos 127)) ∙ omega (arith, ln, lm))
    ∙ sym (append-nil (signed32_bytes (pos n) ++ signed32_bytes (pos 127)))

pub more_put : (at n : ℕ) (part old new : List ℕ) → Puts at part old new → at + length part ≡ n → at ≤ length old → take n new ≡ take at old ++ part
more_put at n part old new puts place inside =
    ap (take n) puts ∙ take_at (take at old ++ part) (drop (at + length part) old) n (length-append (take at old) part ∙ omega (arith, length-take-le at old inside, place))

pub runs_grow : (g : Geometry) (blocks : List ℕ) (i : ℕ) (head : List ℕ) → i < length blocks
    → (head ++ flat_map run_bytes (map (run_at_block g) (take i blocks))) ++ run_bytes (run_at_block g (get_or blocks i 0)) ≡ head ++ flat_map run_bytes (map (run_at_block g) (take (i + 1) blocks))
runs_grow g blocks i head low =
    flat_map_more run_bytes head (map (run_at_block g) (take i blocks)) (run_at_block g (get_or blocks i 0))
    ∙ ap (λ (rs : List Run). head ++ flat_map run_bytes rs) (sym (map_more (run_at_block g) blocks i 0 low))
