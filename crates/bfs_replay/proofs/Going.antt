-- A walk over the log that writes the homes of each entry.
use Rattle.std.proofs.Common.{◌≡◌, ◌≢◌, ℕ, ◌+◌, ◌<◌, List, [], ◌∷◌, ◌++◌, length, take, refl, sym, ◌∙◌, ap, subst, arith, append_assoc, Bool}
use Rattle.std.specs.Prelude.{Option, Some}
use Rattle.std.specs.Option.{IfSome}
use Rattle.std.proofs.lemmas.List.{append-nil}
use Rattle.bfs_base.specs.Images.{block}
use Rattle.bfs_base.specs.Lists.{Has}
use Rattle.bfs_bytes.specs.declared.Run.{Run}
use Rattle.bfs_disk.specs.State.{State, Filled, Tells}
use Rattle.bfs_disk.specs.Disk.{HasSectors}
use Rattle.bfs_super.specs.declared.sup.Super.{Super}
use Rattle.bfs_super.specs.declared.geometry.Geometry.{Geometry}
use Rattle.bfs_super.specs.Conditions.{IsValid}
use Rattle.bfs_super.specs.Geometry.{geometry_of}
use Rattle.bfs_log.specs.declared.entry.Runs.{Runs}
use Rattle.bfs_log.specs.declared.entry.EntryFault.{EntryFault}
use Rattle.bfs_log.specs.Entry.{IsEntry, IsFault, runs_of, blocks_in, log_first}
use Rattle.bfs_log.specs.Found.{HasRuns}
use Rattle.bfs_log.specs.Ring.{next_place}
use Rattle.bfs_log.specs.Replay.{Home, Logs, block_sectors, blocks_of, home_places, homes_at, homes_from, homes_of, logged, log_from, log_to}
use Rattle.bfs_log.proofs.Logged.{entry_no_fault, logs_one, places_from}
use Rattle.bfs_replay.specs.Homing.{Homing, IsLogOf, Between}
use Rattle.bfs_replay.specs.Steps.{AreRead, HasEntriesIn, IsFaultAt, place_at, sectors_of}
use Rattle.bfs_replay.specs.declared.log.Halt.{Halt}
use Rattle.bfs_replay.specs.declared.log.Halt.TheVariants.{Failed, Malformed}
use Rattle.bfs_replay.proofs.Sizes.{fits_sectors, log_inside}
use Rattle.bfs_replay.proofs.Homes.{homing_block, not_home, told_size, told_read}
use Rattle.bfs_replay.proofs.Further.{has_left, has_right}
use Rattle.bfs_replay.proofs.Walking.{length-homes_from, named_is}

-- ---- homes of entries

places_joined : (xs ys : List Home) → home_places (xs ++ ys) ≡ home_places xs ++ home_places ys
places_joined [] ys = refl
places_joined (x ∷ xs) ys = ap (λ (l : List ℕ). x.place ∷ l) (places_joined xs ys)

homes_of_more : (front : List (List Home)) (homes : List Home) → homes_of (front ++ homes ∷ []) ≡ homes_of front ++ homes
homes_of_more [] homes = append-nil homes
homes_of_more (first ∷ front) homes = ap (λ (hs : List Home). first ++ hs) (homes_of_more front homes) ∙ sym (append_assoc first (homes_of front) homes)

has_home : (front rest : List (List Home)) (homes : List Home) (k : ℕ) → Has (home_places homes) k → Has (home_places (homes_of (front ++ homes ∷ rest))) k
has_home [] rest homes k has = subst (λ (l : List ℕ). Has l k) (sym (places_joined homes (homes_of rest))) (has_left k (home_places homes) (home_places (homes_of rest)) has)
has_home (first ∷ front) rest homes k has =
    subst (λ (l : List ℕ). Has l k) (sym (places_joined first (homes_of (front ++ homes ∷ rest)))) (has_right k (home_places first) (home_places (homes_of (front ++ homes ∷ rest))) (has_home front rest homes k has))

-- what stands at a place in front of the end
pub record Ahead (g : Geometry) (f : ℕ → List ℕ) (s : Super) (at : ℕ) (back : List (List Home)) : Type 0 where
  pub homes : List Home
  pub rest : List (List Home)
  pub parts : back ≡ homes ∷ rest
  pub entry : IsEntry (place_at s at) (logged g f at)
  pub are : homes ≡ homes_at g f at
  pub ahead : Logs g f (next_place at (1 + length homes) g.log.len) (log_to s) rest

next_ahead : (f : ℕ → List ℕ) (s : Super) (at : ℕ) (back : List (List Home)) → at ≢ log_to s → Logs (geometry_of s) f at (log_to s) back → Ahead (geometry_of s) f s at back
next_ahead f s at [] more logs = absurd (more logs)
next_ahead f s at (homes ∷ rest) more logs = record { homes = homes; rest = rest; parts = refl; entry = logs.0; are = logs.1; ahead = logs.2 }

-- ---- the walk

pub between_start : {quiet : Bool} (image : List ℕ) (s : Super) (at : ℕ) (told : Option State) (log : HasEntriesIn image s) → at ≡ log_from s → Tells told (Homing quiet (block_sectors s) (homes_of log.0) [] image) → Between quiet image s log.0 at told
between_start image s at told log is known = record {
  front = [];
  back = log.0;
  parts = refl;
  ahead = subst (λ (k : ℕ). Logs (geometry_of s) (blocks_of image) k (log_to s) log.0) (sym is) log.1;
  known = known;
}

pub between_end : {quiet : Bool} (image : List ℕ) (s : Super) (entries : List (List Home)) (at : ℕ) (told : Option State) → at ≡ log_to s → Between quiet image s entries at told → Tells told (Homing quiet (block_sectors s) (homes_of entries) (homes_of entries) image)
between_end {quiet} image s entries at told end b =
    let none : b.back ≡ [] = logs_one (geometry_of s) (blocks_of image) at (log_to s) b.back [] b.ahead end in
    let all : b.front ≡ entries = sym (append-nil b.front) ∙ ap (λ (es : List (List Home)). b.front ++ es) (sym none) ∙ b.parts in
    subst (λ (es : List (List Home)). Tells told (Homing quiet (block_sectors s) (homes_of entries) (homes_of es) image)) all b.known

module _ {quiet : Bool} (image : List ℕ) (s : Super) (entries : List (List Home)) (log : IsLogOf image s (homes_of entries)) (valid : IsValid s) (at : ℕ) (low : at < s.log_blocks.len) (more : at ≢ log_to s)
    (told : Option State) (size : Option ℕ) (filled : IfSome told Filled) (sized : IfSome told (λ t. size ≡ Some t.size)) (on_disk : HasSectors size (sectors_of s)) (b : Between quiet image s entries at told)
    (bytes : List ℕ) (read : AreRead told (block_sectors s) (log_first (geometry_of s) + at) bytes) where
  here : Ahead (geometry_of s) (blocks_of image) s at b.back
  here = next_ahead (blocks_of image) s at b.back more b.ahead

  -- the bytes that were read stand in the log
  bytes_are : bytes ≡ logged (geometry_of s) (blocks_of image) at
  bytes_are =
      let r = block_sectors s in
      let p = log_first (geometry_of s) + at in
      let room = told_size told size b.known.0 (sectors_of s) b.known.1 sized on_disk in
      homing_block r p (homes_of entries) (homes_of b.front) image bytes b.known.0 b.known.2 (not_home (geometry_of s) at (home_places (homes_of entries)) log.homes low)
      (omega (arith, room, fits_sectors s valid p (log_inside s valid at low))) (told_read told r p bytes b.known.0 b.known.1 read)
      ∙ sym (ap (λ (t : Super). block (block_sectors t) p image) log.super)

  no_fault_at : (fault : EntryFault) → IsFault (place_at s at) bytes fault → ⊥
  no_fault_at fault is = entry_no_fault (place_at s at) bytes fault (subst (IsEntry (place_at s at)) (sym bytes_are) here.entry) is

  module _ (entry : IsEntry (place_at s at) bytes) (found : Runs) (has : HasRuns (runs_of bytes) found) where
    abbrev named : List Run
    named = take found.count found.runs

    blocks_are : blocks_in (geometry_of s) named ≡ blocks_in (geometry_of s) (runs_of (logged (geometry_of s) (blocks_of image) at))
    blocks_are =
        ap (λ (rs : List Run). blocks_in (geometry_of s) rs) (named_is s valid at low bytes entry found has)
        ∙ ap (λ (l : List ℕ). blocks_in (geometry_of s) (runs_of l)) bytes_are

    homes_are : here.homes ≡ homes_from (geometry_of s) (blocks_of image) (next_place at 1 s.log_blocks.len) (blocks_in (geometry_of s) named)
    homes_are = here.are ∙ ap (λ (bs : List ℕ). homes_from (geometry_of s) (blocks_of image) (next_place at 1 s.log_blocks.len) bs) (sym blocks_are)

    all_parts : b.front ++ here.homes ∷ here.rest ≡ entries
    all_parts = ap (λ (es : List (List Home)). b.front ++ es) (sym here.parts) ∙ b.parts

    -- the blocks that it names are homes
    pub are_homes : (k : ℕ) → Has (blocks_in (geometry_of s) named) k → Has (home_places (homes_of entries)) k
    are_homes k has_block =
        let g = geometry_of s in
        let next = next_place at 1 s.log_blocks.len in
        let places : home_places here.homes ≡ blocks_in g named = ap home_places homes_are ∙ places_from g (blocks_of image) next (blocks_in g named) in
        subst (λ (es : List (List Home)). Has (home_places (homes_of es)) k) all_parts
        (has_home b.front here.rest here.homes k (subst (λ (l : List ℕ). Has l k) (sym places) has_block))

    -- and once they are written the walk comes to the next entry
    pub goes_on : (p q : ℕ) (new : Option State) → p ≡ next_place at 1 s.log_blocks.len → q ≡ next_place at (1 + length (blocks_in (geometry_of s) named)) s.log_blocks.len
        → Tells new (Homing quiet (block_sectors s) (homes_of entries) (homes_of b.front ++ homes_from (geometry_of s) (blocks_of image) p (blocks_in (geometry_of s) named)) image)
        → Between quiet image s entries q new
    goes_on p q new first behind known =
        let g = geometry_of s in
        let f = blocks_of image in
        let count : length here.homes ≡ length (blocks_in g named) = ap length homes_are ∙ length-homes_from g f (next_place at 1 s.log_blocks.len) (blocks_in g named) in
        let done : homes_of b.front ++ homes_from g f p (blocks_in g named) ≡ homes_of (b.front ++ here.homes ∷ []) =
        ap (λ (k : ℕ). homes_of b.front ++ homes_from g f k (blocks_in g named)) first ∙ ap (λ (hs : List Home). homes_of b.front ++ hs) (sym homes_are) ∙ sym (homes_of_more b.front here.homes) in
        record {
          front = b.front ++ here.homes ∷ [];
          back = here.rest;
          parts = append_assoc b.front (here.homes ∷ []) here.rest ∙ all_parts;
          ahead = subst (λ (k : ℕ). Logs g f k (log_to s) here.rest) (ap (λ (n : ℕ). next_place at (1 + n) s.log_blocks.len) count ∙ sym behind) here.ahead;
          known = subst (λ (hs : List Home). Tells new (Homing quiet (block_sectors s) (homes_of entries) hs image)) done known;
        }

-- no entry is malformed
pub no_fault : {quiet : Bool} (image : List ℕ) (s : Super) (entries : List (List Home)) (log : IsLogOf image s (homes_of entries)) (valid : IsValid s) (at : ℕ) (low : at < s.log_blocks.len) (more : at ≢ log_to s)
    (told : Option State) (size : Option ℕ) (filled : IfSome told Filled) (sized : IfSome told (λ t. size ≡ Some t.size)) (on_disk : HasSectors size (sectors_of s)) (b : Between quiet image s entries at told)
    (bytes : List ℕ) (halt : Halt) → IsFaultAt told (block_sectors s) (log_first (geometry_of s) + at) (place_at s at) bytes halt → halt ≡ Failed
no_fault image s entries log valid at low more told size filled sized on_disk b bytes Failed is = refl
no_fault image s entries log valid at low more told size filled sized on_disk b bytes (Malformed fault) is =
    absurd (no_fault_at image s entries log valid at low more told size filled sized on_disk b bytes is.1 fault is.0)
