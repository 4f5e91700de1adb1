-- A walk over the log by reads of its entries.
use Rattle.std.proofs.Common.{◌≡◌, ◌≢◌, ℕ, suc, ◌+◌, ◌<◌, ◌≤◌, List, [], ◌∷◌, ◌++◌, length, take, refl, sym, ◌∙◌, ap, subst, arith}
use Rattle.std.specs.Prelude.{Option, Some}
use Rattle.std.specs.Option.{IfSome}
use Rattle.std.proofs.lemmas.List.{take_at}
use Rattle.bfs_base.specs.Images.{block}
use Rattle.bfs_bytes.specs.declared.Run.{Run}
use Rattle.bfs_disk.specs.State.{State, ReadsAs, Tells}
use Rattle.bfs_disk.specs.Disk.{HasSectors}
use Rattle.bfs_super.specs.declared.sup.Super.{Super}
use Rattle.bfs_super.specs.declared.geometry.Geometry.{Geometry}
use Rattle.bfs_super.specs.Conditions.{IsValid}
use Rattle.bfs_super.specs.Geometry.{geometry_of}
use Rattle.bfs_log.specs.declared.entry.Runs.{Runs}
use Rattle.bfs_log.specs.declared.entry.EntryFault.{EntryFault}
use Rattle.bfs_log.specs.Entry.{IsEntry, IsFault, runs_of, blocks_in, log_first}
use Rattle.bfs_log.specs.Found.{HasRuns}
use Rattle.bfs_log.specs.Ring.{next_place, in_use}
use Rattle.bfs_log.specs.Replay.{Home, super_of, block_sectors, blocks_of, homes_at, homes_from, logged, log_from, log_to}
use Rattle.bfs_log.specs.Walk.{Reaches}
use Rattle.bfs_log.proofs.Logged.{used_low}
use Rattle.bfs_log.proofs.Walks.{used_after, reach_more, reach_end, reach_fault}
use Rattle.bfs_replay.specs.Steps.{AreRead, HasEntries, HasEntriesIn, HasFault, HasFaultIn, IsFaultAt, place_at, sectors_of}
use Rattle.bfs_replay.specs.declared.log.Halt.{Halt}
use Rattle.bfs_replay.specs.declared.log.Halt.TheVariants.{Failed, Malformed}
use Rattle.bfs_replay.proofs.Sizes.{fits_sectors, log_inside, to_low}
use Rattle.bfs_replay.proofs.Homes.{reads_block, told_size, told_read}

pub length-homes_from : (g : Geometry) (f : ℕ → List ℕ) (at : ℕ) (blocks : List ℕ) → length (homes_from g f at blocks) ≡ length blocks
length-homes_from g f at [] = refl
length-homes_from g f at (b ∷ blocks) = ap suc (length-homes_from g f (next_place at 1 g.log.len) blocks)

module _ (s : Super) (valid : IsValid s) (at : ℕ) (low : at < s.log_blocks.len) (bytes : List ℕ) (entry : IsEntry (place_at s at) bytes) (found : Runs) (has : HasRuns (runs_of bytes) found) where
  abbrev pub named : List Run
  named = take found.count found.runs

  -- the runs that were found are those of the entry
  pub named_is : named ≡ runs_of bytes
  named_is = ap (take found.count) has.runs_then_none ∙ take_at (runs_of bytes) _ found.count (sym has.count)

  size_is : length (blocks_in (geometry_of s) named) ≡ length (blocks_in (geometry_of s) (runs_of bytes))
  size_is = ap (λ (rs : List Run). length (blocks_in (geometry_of s) rs)) named_is

  pub named_low : 1 + length (blocks_in (geometry_of s) named) ≤ s.log_blocks.len
  named_low = omega (arith, size_is, entry.end, used_low at (log_to s) s.log_blocks.len low (to_low s valid))

  -- less is left behind it
  pub named_less : in_use (next_place at (1 + length (blocks_in (geometry_of s) named)) s.log_blocks.len) (log_to s) s.log_blocks.len < in_use at (log_to s) s.log_blocks.len
  named_less =
      let after = used_after at (log_to s) (1 + length (blocks_in (geometry_of s) named)) s.log_blocks.len low (to_low s valid) (omega (arith, size_is, entry.end)) in
      omega (arith, after)

module _ (s : Super) (valid : IsValid s) (at : ℕ) (low : at < s.log_blocks.len) (bytes image : List ℕ) (is : super_of image ≡ s) (told : Option State) (size : Option ℕ) (sized : IfSome told (λ t. size ≡ Some t.size))
    (on_disk : HasSectors size (sectors_of s)) (reads : Tells told (λ st. ReadsAs st image)) (read : AreRead told (block_sectors s) (log_first (geometry_of s) + at) bytes) where
  -- what was read stands in the log
  pub logged_is : bytes ≡ logged (geometry_of s) (blocks_of image) at
  logged_is =
      let r = block_sectors s in
      let p = log_first (geometry_of s) + at in
      let room = told_size told size reads.0 (sectors_of s) reads.1 sized on_disk in
      reads_block reads.0 r p image bytes reads.2 (omega (arith, room, fits_sectors s valid p (log_inside s valid at low))) (told_read told r p bytes reads.0 reads.1 read)
      ∙ sym (ap (λ (t : Super). block (block_sectors t) p image) is)

  -- one entry further
  pub walked : (entry : IsEntry (place_at s at) bytes) (found : Runs) (has : HasRuns (runs_of bytes) found)
      → ((entries : List (List Home)) × Reaches (geometry_of s) (blocks_of image) (log_to s) (log_from s) at entries)
      → (entries : List (List Home)) × Reaches (geometry_of s) (blocks_of image) (log_to s) (log_from s) (next_place at (1 + length (blocks_in (geometry_of s) (take found.count found.runs))) s.log_blocks.len) entries
  walked entry found has way =
      let g = geometry_of s in
      let f = blocks_of image in
      let count : length (homes_at g f at) ≡ length (blocks_in g (take found.count found.runs)) =
      length-homes_from g f (next_place at 1 g.log.len) (blocks_in g (runs_of (logged g f at))) ∙ ap (λ (l : List ℕ). length (blocks_in g (runs_of l))) (sym logged_is)
      ∙ ap (λ (rs : List Run). length (blocks_in g rs)) (sym (named_is s valid at low bytes entry found has)) in (
        way.0 ++ homes_at g f at ∷ [],
        subst (λ (n : ℕ). Reaches g f (log_to s) (log_from s) (next_place at (1 + n) s.log_blocks.len) (way.0 ++ homes_at g f at ∷ [])) count
            (reach_more g f (log_to s) (log_from s) at way.0 way.1 (subst (IsEntry (place_at s at)) logged_is entry)),
      )

  -- a malformed entry
  stopped_at : (fault : EntryFault) → at ≢ log_to s → ((entries : List (List Home)) × Reaches (geometry_of s) (blocks_of image) (log_to s) (log_from s) at entries)
      → IsFault (place_at s at) bytes fault → HasFaultIn image s fault
  stopped_at fault more way found =
      (way.0, reach_fault (geometry_of s) (blocks_of image) (log_to s) (log_from s) at way.0 fault way.1 more (subst (λ (l : List ℕ). IsFault (place_at s at) l fault) logged_is found))

pub stopped_by : (s : Super) (valid : IsValid s) (at : ℕ) (low : at < s.log_blocks.len) (bytes image : List ℕ) (is : super_of image ≡ s) (told : Option State) (size : Option ℕ) (sized : IfSome told (λ t. size ≡ Some t.size))
    (on_disk : HasSectors size (sectors_of s)) (reads : Tells told (λ st. ReadsAs st image)) (halt : Halt) → at ≢ log_to s
    → ((entries : List (List Home)) × Reaches (geometry_of s) (blocks_of image) (log_to s) (log_from s) at entries)
    → IsFaultAt told (block_sectors s) (log_first (geometry_of s) + at) (place_at s at) bytes halt → HasFault image halt
stopped_by s valid at low bytes image is told size sized on_disk reads Failed more way found = tt
stopped_by s valid at low bytes image is told size sized on_disk reads (Malformed fault) more way found =
    subst (λ (t : Super). HasFaultIn image t fault) (sym is) (stopped_at s valid at low bytes image is told size sized on_disk reads found.1 fault more way found.0)

-- the end of the log
pub all_walked : (s : Super) (image : List ℕ) (at : ℕ) → super_of image ≡ s → at ≡ log_to s → ((entries : List (List Home)) × Reaches (geometry_of s) (blocks_of image) (log_to s) (log_from s) at entries) → HasEntries image
all_walked s image at is end way =
    subst (λ (t : Super). HasEntriesIn image t) (sym is)
    (way.0, reach_end (geometry_of s) (blocks_of image) (log_to s) (log_from s) way.0 (subst (λ (k : ℕ). Reaches (geometry_of s) (blocks_of image) (log_to s) (log_from s) k way.0) end way.1))
