-- The entries of a log.
use Rattle.std.proofs.Common.{◌≡◌, ◌⊎◌, ⊎_elim, inl, inr, ℕ, zero, suc, ◌+◌, ◌-◌, ◌*◌, ◌<◌, ◌≤◌, nat_lt, nat_le, List, [], ◌∷◌, ◌++◌, length, drop, refl, sym, ◌∙◌, ap, subst, arith, length-drop}
use Rattle.std.specs.Prelude.{All}
use Rattle.std.proofs.lemmas.Bool.{cases_lt, cond-true, cond-false, lt-ltb, le-ltb, le-leb, lt-leb}
use Rattle.std.proofs.lemmas.List.{length-take-le, map-append}
use Rattle.std.proofs.lemmas.List.Elements.{All-nil, All-cons, All-head, All-tail, All-append}
use Rattle.std.proofs.Math.Nat.{mul-le-mul_left}
use Rattle.bfs_base.specs.Images.{block}
use Rattle.bfs_base.specs.Lists.{counted_from}
use Rattle.bfs_bytes.specs.declared.Run.{Run}
use Rattle.bfs_super.specs.declared.geometry.Geometry.{Geometry}
use Rattle.bfs_log.specs.declared.entry.Place.{Place}
use Rattle.bfs_log.specs.declared.entry.EntryFault.{EntryFault}
use Rattle.bfs_log.specs.declared.entry.EntryFault.TheVariants.{Count, RunPlace, PastEnd}
use Rattle.bfs_log.specs.Ring.{next_place, in_use}
use Rattle.bfs_log.specs.Entry.{IsEntry, IsFault, IsHome, HasPlace, first_of, log_first, runs_of, blocks_in}
use Rattle.bfs_log.specs.Replay.{Home, home_places, homes_from, homes_at, place_in, logged, Logs, Fails, homes_of}
use Rattle.bfs_log.proofs.Written.{IsInside}

-- the ring
pub next_inside : (at by length : ℕ) → at < length → by ≤ length → next_place at by length < length
next_inside at by length low few = ⊎_elim
    (λ lt. let is : next_place at by length ≡ at + by = cond-true (nat_lt (at + by) length) (at + by) (at + by - length) (lt-ltb (at + by) length lt) in omega (arith, is, lt))
    (λ ge. let is : next_place at by length ≡ at + by - length = cond-false (nat_lt (at + by) length) (at + by) (at + by - length) (le-ltb (at + by) length ge) in omega (arith, is, ge))
    (cases_lt (at + by) length)

pub used_low : (start end length : ℕ) → start < length → end < length → in_use start end length < length
used_low start end length s e = ⊎_elim
    (λ lt. let is : in_use start end length ≡ end + length - start = cond-false (nat_le start end) (end - start) (end + length - start) (lt-leb start end lt) in omega (arith, is, lt))
    (λ ge. let is : in_use start end length ≡ end - start = cond-true (nat_le start end) (end - start) (end + length - start) (le-leb start end ge) in omega (arith, is, ge))
    (cases_lt end start)

pub used_none : (at length : ℕ) → in_use at at length ≡ 0
used_none at length = let is : in_use at at length ≡ at - at = cond-true (nat_le at at) (at - at) (at + length - at) (le-leb at at (omega arith)) in omega (arith, is)

-- an entry has no fault
bad_inside : (g : Geometry) (front back : List Run) (run : Run) → All (HasPlace g) (front ++ run ∷ back) → HasPlace g run
bad_inside g [] back run all = All-head (HasPlace g) run back all
bad_inside g (x ∷ front) back run all = bad_inside g front back run (All-tail (HasPlace g) x (front ++ run ∷ back) all)

pub entry_no_fault : (p : Place) (block : List ℕ) (fault : EntryFault) → IsEntry p block → IsFault p block fault → ⊥
entry_no_fault p block (Count count max_runs) entry is = is.0 entry.count
entry_no_fault p block (RunPlace run) entry is =
    let bad = is.1 in
    bad.bad (bad_inside p.geometry bad.front bad.back run (subst (λ (rs : List Run). All (HasPlace p.geometry) rs) bad.parts entry.places))
entry_no_fault p block (PastEnd blocks room) entry is = omega (arith, entry.end, is.2, is.3, is.4)

-- what a first fault says is determined
first_bad_one : (g : Geometry) (xs ys back_x back_y : List Run) (x y : Run) → xs ++ x ∷ back_x ≡ ys ++ y ∷ back_y → All (HasPlace g) xs → All (HasPlace g) ys → (HasPlace g x → ⊥) → (HasPlace g y → ⊥) → x ≡ y
first_bad_one g [] [] back_x back_y x y same good_x good_y bad_x bad_y = cc
first_bad_one g [] (z ∷ ys) back_x back_y x y same good_x good_y bad_x bad_y =
    let first : x ≡ z = cc in absurd (bad_x (subst (HasPlace g) (sym first) (All-head (HasPlace g) z ys good_y)))
first_bad_one g (z ∷ xs) [] back_x back_y x y same good_x good_y bad_x bad_y =
    let first : z ≡ y = cc in absurd (bad_y (subst (HasPlace g) first (All-head (HasPlace g) z xs good_x)))
first_bad_one g (z ∷ xs) (w ∷ ys) back_x back_y x y same good_x good_y bad_x bad_y =
    let rest : xs ++ x ∷ back_x ≡ ys ++ y ∷ back_y = cc in
    first_bad_one g xs ys back_x back_y x y rest (All-tail (HasPlace g) z xs good_x) (All-tail (HasPlace g) w ys good_y) bad_x bad_y

pub fault_one : (p : Place) (block : List ℕ) (a b : EntryFault) → IsFault p block a → IsFault p block b → a ≡ b
fault_one p block (Count c m) (Count d n) one two = let e : c ≡ d = one.1 ∙ sym two.1 in let h : m ≡ n = one.2 ∙ sym two.2 in cc
fault_one p block (Count c m) (RunPlace run) one two = absurd (one.0 two.0)
fault_one p block (Count c m) (PastEnd blocks room) one two = absurd (one.0 two.0)
fault_one p block (RunPlace run) (Count c m) one two = absurd (two.0 one.0)
fault_one p block (RunPlace x) (RunPlace y) one two =
    let a = one.1 in
    let b = two.1 in
    let e : x ≡ y = first_bad_one p.geometry a.front b.front a.back b.back x y (sym a.parts ∙ b.parts) a.good b.good a.bad b.bad in
    cc
fault_one p block (RunPlace run) (PastEnd blocks room) one two =
    let bad = one.1 in
    absurd (bad.bad (bad_inside p.geometry bad.front bad.back run (subst (λ (rs : List Run). All (HasPlace p.geometry) rs) bad.parts two.1)))
fault_one p block (PastEnd blocks room) (Count c m) one two = absurd (two.0 one.0)
fault_one p block (PastEnd blocks room) (RunPlace run) one two =
    let bad = two.1 in
    absurd (bad.bad (bad_inside p.geometry bad.front bad.back run (subst (λ (rs : List Run). All (HasPlace p.geometry) rs) bad.parts one.1)))
fault_one p block (PastEnd b r) (PastEnd c s) one two = let e : b ≡ c = one.2 ∙ sym two.2 in let h : r ≡ s = one.3 ∙ sym two.3 in cc

-- a log has one list of entries, or one fault
module _ (g : Geometry) (f : ℕ → List ℕ) where
  not_at_end : (at end : ℕ) (block : List ℕ) → at ≡ end → IsEntry (place_in g f at end) block → ⊥
  not_at_end at end block same entry =
      let none : in_use at end g.log.len ≡ 0 = ap (λ (e : ℕ). in_use at e g.log.len) (sym same) ∙ used_none at g.log.len in
      omega (arith, entry.end, none)

  pub logs_one : (at end : ℕ) (xs ys : List (List Home)) → Logs g f at end xs → Logs g f at end ys → xs ≡ ys
  logs_one at end [] [] one two = refl
  logs_one at end [] (y ∷ ys) one two = absurd (not_at_end at end (logged g f at) one two.0)
  logs_one at end (x ∷ xs) [] one two = absurd (not_at_end at end (logged g f at) two one.0)
  logs_one at end (x ∷ xs) (y ∷ ys) one two =
      let first : x ≡ y = one.1 ∙ sym two.1 in
      let rest : xs ≡ ys = logs_one (next_place at (1 + length x) g.log.len) end xs ys one.2 (subst (λ (h : List Home). Logs g f (next_place at (1 + length h) g.log.len) end ys) (sym first) two.2) in
      ap (λ (h : List Home). h ∷ xs) first ∙ ap (λ (l : List (List Home)). y ∷ l) rest

  pub logs_sound : (at end : ℕ) (xs ys : List (List Home)) (fault : EntryFault) → Logs g f at end xs → Fails g f at end ys fault → ⊥
  logs_sound at end [] [] fault one two = two.0 one
  logs_sound at end [] (y ∷ ys) fault one two = not_at_end at end (logged g f at) one two.0
  logs_sound at end (x ∷ xs) [] fault one two = entry_no_fault (place_in g f at end) (logged g f at) fault one.0 two.1
  logs_sound at end (x ∷ xs) (y ∷ ys) fault one two =
      let first : x ≡ y = one.1 ∙ sym two.1 in
      logs_sound (next_place at (1 + length x) g.log.len) end xs ys fault one.2 (subst (λ (h : List Home). Fails g f (next_place at (1 + length h) g.log.len) end ys fault) (sym first) two.2)

  pub fails_one : (at end : ℕ) (xs ys : List (List Home)) (a b : EntryFault) → Fails g f at end xs a → Fails g f at end ys b → a ≡ b
  fails_one at end [] [] a b one two = fault_one (place_in g f at end) (logged g f at) a b one.1 two.1
  fails_one at end [] (y ∷ ys) a b one two = absurd (entry_no_fault (place_in g f at end) (logged g f at) a two.0 one.1)
  fails_one at end (x ∷ xs) [] a b one two = absurd (entry_no_fault (place_in g f at end) (logged g f at) b one.0 two.1)
  fails_one at end (x ∷ xs) (y ∷ ys) a b one two =
      let first : x ≡ y = one.1 ∙ sym two.1 in
      fails_one (next_place at (1 + length x) g.log.len) end xs ys a b one.2 (subst (λ (h : List Home). Fails g f (next_place at (1 + length h) g.log.len) end ys b) (sym first) two.2)

  length-homes_from : (at : ℕ) (blocks : List ℕ) → length (homes_from g f at blocks) ≡ length blocks
  length-homes_from at [] = refl
  length-homes_from at (b ∷ blocks) = ap suc (length-homes_from (next_place at 1 g.log.len) blocks)

  pub places_from : (at : ℕ) (blocks : List ℕ) → home_places (homes_from g f at blocks) ≡ blocks
  places_from at [] = refl
  places_from at (b ∷ blocks) = ap (λ (bs : List ℕ). b ∷ bs) (places_from (next_place at 1 g.log.len) blocks)

  -- an entry takes less than the log
  pub entry_low : (at end : ℕ) (homes : List Home) → at < g.log.len → end < g.log.len → IsEntry (place_in g f at end) (logged g f at) → homes ≡ homes_at g f at → 1 + length homes < g.log.len
  entry_low at end homes low high entry is =
      let n : length homes ≡ length (blocks_in g (runs_of (logged g f at))) = ap length is ∙ length-homes_from (next_place at 1 g.log.len) (blocks_in g (runs_of (logged g f at))) in
      omega (arith, entry.end, used_low at end g.log.len low high, n)

-- the blocks of runs that entries may name
counted_homes : (g : Geometry) (first n : ℕ) → 0 < first → first + n ≤ g.blocks → (first + n ≤ log_first g) ⊎ (log_first g + g.log.len ≤ first) → All (IsHome g) (counted_from first n)
counted_homes g first zero some fits apart = All-nil (IsHome g)
counted_homes g first (suc n) some fits apart =
    All-cons (IsHome g) first (counted_from (suc first) n)
    (record { not_zero = some; volume = omega arith; apart = ⊎_elim (λ before. inl (omega (arith, before))) (λ behind. inr behind) apart })
    (counted_homes g (suc first) n (omega arith) (omega arith) (⊎_elim (λ before. inl (omega (arith, before))) (λ behind. inr (omega (arith, behind))) apart))

pub blocks_homes : (g : Geometry) (runs : List Run) → All (HasPlace g) runs → All (IsHome g) (blocks_in g runs)
blocks_homes g [] all = All-nil (IsHome g)
blocks_homes g (run ∷ runs) all =
    let has = All-head (HasPlace g) run runs all in
    All-append (IsHome g) (counted_from (first_of g run) run.len) (blocks_in g runs) (counted_homes g (first_of g run) run.len has.not_zero has.volume has.apart) (blocks_homes g runs (All-tail (HasPlace g) run runs all))

-- the same log in another map of blocks
module _ (g : Geometry) (f h : ℕ → List ℕ) (two : 2 ≤ g.log.len) (same : (p : ℕ) → p < g.log.len → h (log_first g + p) ≡ f (log_first g + p)) where
  homes_same : (at : ℕ) (blocks : List ℕ) → at < g.log.len → homes_from g h at blocks ≡ homes_from g f at blocks
  homes_same at [] low = refl
  homes_same at (b ∷ blocks) low =
      let here : Home → List Home = λ home. home ∷ homes_from g h (next_place at 1 g.log.len) blocks in
      let with_bytes : List ℕ → Home = λ bytes. record { place = b; bytes = bytes } in
      ap (λ (bytes : List ℕ). here (with_bytes bytes)) (same at low)
      ∙ ap (λ (l : List Home). with_bytes (f (log_first g + at)) ∷ l) (homes_same (next_place at 1 g.log.len) blocks (next_inside at 1 g.log.len low (omega arith)))

  pub homes_at_same : (at : ℕ) → at < g.log.len → homes_at g h at ≡ homes_at g f at
  homes_at_same at low =
      ap (λ (l : List ℕ). homes_from g h (next_place at 1 g.log.len) (blocks_in g (runs_of l))) (same at low)
      ∙ homes_same (next_place at 1 g.log.len) (blocks_in g (runs_of (f (log_first g + at)))) (next_inside at 1 g.log.len low (omega arith))

  pub logs_moved : (at end : ℕ) (entries : List (List Home)) → at < g.log.len → end < g.log.len → Logs g f at end entries → Logs g h at end entries
  logs_moved at end [] low high log = log
  logs_moved at end (homes ∷ entries) low high log = (
    subst (IsEntry (place_in g h at end)) (sym (same at low)) log.0,
    log.1 ∙ sym (homes_at_same at low),
    logs_moved (next_place at (1 + length homes) g.log.len) end entries
        (next_inside at (1 + length homes) g.log.len low (let few = entry_low g f at end homes low high log.0 log.1 in omega (arith, few))) high log.2,
  )

-- the homes of a log
module _ (g : Geometry) (f : ℕ → List ℕ) (two : 2 ≤ g.log.len) where
  pub homes_at_home : (at end : ℕ) → IsEntry (place_in g f at end) (logged g f at) → All (IsHome g) (home_places (homes_at g f at))
  homes_at_home at end entry =
      subst (All (IsHome g)) (sym (places_from g f (next_place at 1 g.log.len) (blocks_in g (runs_of (logged g f at))))) (blocks_homes g (runs_of (logged g f at)) entry.places)

-- homes whose bytes are blocks of an image
module _ (g : Geometry) (r size : ℕ) (image : List ℕ) (two : 2 ≤ g.log.len) (volume : log_first g + g.log.len ≤ g.blocks) (fits : 512 * (r * g.blocks) ≤ length image) where
  abbrev read_block : ℕ → List ℕ
  read_block b = block r b image

  home_inside : (b at : ℕ) → IsHome g b → at < g.log.len → IsInside r (length image) (record { place = b; bytes = read_block (log_first g + at) })
  home_inside b at home low =
      let slot : r * (log_first g + at + 1) ≤ r * g.blocks = mul-le-mul_left r (omega arith) in
      let place : r * (b + 1) ≤ r * g.blocks = mul-le-mul_left r (omega (arith, home.volume)) in
      record {
        long = length-take-le (512 * r) (drop (512 * (r * (log_first g + at))) image) (omega (arith, slot, fits, length-drop (512 * (r * (log_first g + at))) image));
        fits = omega (arith, place, fits);
      }

  homes_inside : (at : ℕ) (blocks : List ℕ) → at < g.log.len → All (IsHome g) blocks → All (IsInside r (length image)) (homes_from g read_block at blocks)
  homes_inside at [] low all = All-nil (IsInside r (length image))
  homes_inside at (b ∷ blocks) low all =
      All-cons (IsInside r (length image)) (record { place = b; bytes = read_block (log_first g + at) }) (homes_from g read_block (next_place at 1 g.log.len) blocks)
      (home_inside b at (All-head (IsHome g) b blocks all) low)
      (homes_inside (next_place at 1 g.log.len) blocks (next_inside at 1 g.log.len low (omega arith)) (All-tail (IsHome g) b blocks all))

  pub logs_inside : (at end : ℕ) (entries : List (List Home)) → at < g.log.len → end < g.log.len → Logs g read_block at end entries → All (IsInside r (length image)) (homes_of entries)
  logs_inside at end [] low high log = All-nil (IsInside r (length image))
  logs_inside at end (homes ∷ entries) low high log =
      All-append (IsInside r (length image)) homes (homes_of entries)
      (subst (All (IsInside r (length image))) (sym log.1)
      (homes_inside (next_place at 1 g.log.len) (blocks_in g (runs_of (logged g read_block at))) (next_inside at 1 g.log.len low (omega arith)) (blocks_homes g (runs_of (logged g read_block at)) log.0.places)))
      (logs_inside (next_place at (1 + length homes) g.log.len) end entries
      (next_inside at (1 + length homes) g.log.len low (let few = entry_low g read_block at end homes low high log.0 log.1 in omega (arith, few))) high log.2)

-- the blocks that a log names are none of its own, and not block 0
pub logs_homes : (g : Geometry) (f : ℕ → List ℕ) (at end : ℕ) (entries : List (List Home)) → Logs g f at end entries → All (IsHome g) (home_places (homes_of entries))
logs_homes g f at end [] log = All-nil (IsHome g)
logs_homes g f at end (homes ∷ entries) log =
    let here : All (IsHome g) (home_places homes) =
    subst (λ (hs : List Home). All (IsHome g) (home_places hs)) (sym log.1)
    (subst (All (IsHome g)) (sym (places_from g f (next_place at 1 g.log.len) (blocks_in g (runs_of (logged g f at))))) (blocks_homes g (runs_of (logged g f at)) log.0.places)) in
    let rest = logs_homes g f (next_place at (1 + length homes) g.log.len) end entries log.2 in
    subst (All (IsHome g)) (sym (map-append (λ (home : Home). home.place) homes (homes_of entries)))
    (All-append (IsHome g) (home_places homes) (home_places (homes_of entries)) here rest)
