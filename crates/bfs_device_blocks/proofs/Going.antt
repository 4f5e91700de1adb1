-- A device over any number of reads.
use Rattle.std.proofs.Common.{◌≡◌, ⊎_elim, ◌<◌, ◌≤◌, ◌+◌, ◌-◌, ◌^◌, min, ℕ, List, Bool, Option, Some, None, IfSome, refl, sym, ◌∙◌, ap, subst, arith}
use Rattle.std.specs.Option.{option_map}
use Rattle.bfs_base.specs.Moments.{Passed}
use Rattle.bfs_base.proofs.Moments.{passed_none, passed_then}
use Rattle.bfs_disk.specs.State.{State, Tells, Filled}
use Rattle.bfs_disk.specs.Disk.{MayLeave}
use Rattle.bfs_txn.specs.Told.{AreSized}
use Rattle.bfs_device.specs.declared.journal.Stop.{Stop}
use Rattle.bfs_device.specs.Books.{Books, IsOnDisk, IsRight, IsRightAs, RecoversOne}
use Rattle.bfs_device.specs.Data.{IsRested}
use Rattle.bfs_device.specs.Steps.{HasMoved}
use Rattle.bfs_device.specs.Ahead.{IsSteady}
use Rattle.bfs_device.proofs.Stepping.{on_state}
use Rattle.bfs_core.specs.Cores.{newest_map}
use Rattle.bfs_core.proofs.Wholes.{newest_is_sized}
use Rattle.bfs_device_blocks.specs.Lent.{HasBeenRead}

-- ---- books of which only the count of calls is another

module _ (b : Books) (m : ℕ) where
  abbrev pub later : Books
  later = record b { moment = m }

  one_later : (t : ℕ → Bool) (st : State) (image : List ℕ) → RecoversOne b t st image → RecoversOne later t st image
  one_later t st image one = record { number = one.number; is_version = one.is_version; recovers = one.recovers }

  pub one_before : (t : ℕ → Bool) (st : State) (image : List ℕ) → RecoversOne later t st image → RecoversOne b t st image
  one_before t st image one = record { number = one.number; is_version = one.is_version; recovers = one.recovers }

  right_as : (o : Option Stop) (t : ℕ → Bool) (st : State) → IsRightAs o b t st → IsRightAs o later t st
  right_as None t st right = right
  right_as (Some stop) t st right = λ image is. one_later t st image (right image is)

  pub right_later : (t : ℕ → Bool) (st : State) → IsRight b t st → IsRight later t st
  right_later t st right = right_as b.stop t st right

  pub steady_later : IsSteady b → IsSteady later
  steady_later steady = record { valid = steady.valid; empty = steady.empty; follow = steady.follow; phase = steady.phase }

pub right_rested : (b new : Books) → IsRested b new → (t : ℕ → Bool) (st : State) → IsRight b t st → IsRight new t st
right_rested b new rests t st right = subst (λ (x : Books). IsRight x t st) (sym rests) (right_later b new.moment t st right)

pub steady_rested : (b new : Books) → IsRested b new → IsSteady b → IsSteady new
steady_rested b new rests steady = subst IsSteady (sym rests) (steady_later b new.moment steady)

pub rested_twice : (b mid new : Books) → IsRested b mid → IsRested mid new → IsRested b new
rested_twice b mid new one two = two ∙ ap (λ (x : Books). let y : Books = record x { moment = new.moment } in y) one

-- ---- what is told has a block's length

pub told_sized : (b : Books) (told : Option State) (size : Option ℕ) → IsSteady b → IsOnDisk size b.sup → IfSome told Filled → IfSome told (λ s. size ≡ Some s.size) → AreSized b.sup.block_size (option_map (newest_map b) told)
told_sized b None size steady on filled sized = tt
told_sized b (Some st) size steady on filled sized = newest_is_sized b st steady filled (on_state b.sup size (Some st) st sized on refl)

pub sized_rested : (b new : Books) (told told' : Option State) → IsRested b new → told' ≡ told → AreSized b.sup.block_size (option_map (newest_map b) told) → AreSized new.sup.block_size (option_map (newest_map new) told')
sized_rested b new told told' rests same sized =
    subst (λ (x : Option State). AreSized new.sup.block_size (option_map (newest_map new) x)) (sym same)
    (subst (λ (x : Books). AreSized x.sup.block_size (option_map (newest_map x) told)) (sym rests) sized)

-- ---- no read, and one more

pub read_none : (b : Books) (told : Option State) (clock : ℕ) (past : ℕ → List ℕ → Type 0) → ((t : ℕ → Bool) (right : Tells told (IsRight b t)) (image : List ℕ) → MayLeave told image → RecoversOne b t right.0 image)
    → HasBeenRead b b told told clock clock past past
read_none b told clock past recovers = record {
  rests = refl;
  same = refl;
  recovers = recovers;
  meanwhile = λ t right. passed_none clock past (λ c. Tells told (λ s. RecoversOne b t s c));
  slow = λ low. (omega arith, omega arith);
}

slow_more : (m m' m'' c c' c'' : ℕ) → (m' < 2 ^ 64 - 1 → (m ≤ m') × (c' + m ≤ c + m')) → HasMoved c' m' c'' m'' → m'' < 2 ^ 64 - 1 → (m ≤ m'') × (c'' + m ≤ c + m'')
slow_more m m' m'' c c' c'' slow moved low = ⊎_elim
    (λ stays.
    let e = stays.0 in
    let f = stays.1 in
    let le = slow (omega (arith, f, low)) in
    let l = le.0 in
    let n = le.1 in
    (omega (arith, f, l), omega (arith, e, f, n)))
    (λ goes.
    let e = goes.0 in
    let f : m'' ≡ min (m' + 1) (2 ^ 64 - 1) = goes.1 in
    let is : m'' ≡ m' + 1 = grind (arith, f, low) in
    let le = slow (omega (arith, is, low)) in
    let l = le.0 in
    let n = le.1 in
    (omega (arith, is, l), omega (arith, e, is, n)))
    moved

pub read_more : (b mid new : Books) (told told' told'' : Option State) (clock clock' clock'' : ℕ) (past since since' : ℕ → List ℕ → Type 0) → HasBeenRead b mid told told' clock clock' past since
    → IsRested mid new → told'' ≡ told' → ((t : ℕ → Bool) → Tells told' (IsRight mid t) → Passed clock' clock'' since since' (λ c. Tells told' (λ s. RecoversOne mid t s c)))
    → HasMoved clock' mid.moment clock'' new.moment → HasBeenRead b new told told'' clock clock'' past since'
read_more b mid new told told' told'' clock clock' clock'' past since since' read rests same time moved = record {
  rests = rested_twice b mid new read.rests rests;
  same = same ∙ read.same;
  recovers = read.recovers;
  meanwhile = λ t right. passed_then (λ c. Tells told (λ s. RecoversOne b t s c)) (read.meanwhile t right)
      (time t (right.0, read.same ∙ right.1, right_rested b mid read.rests t right.0 right.2))
      (λ c left. left)
      (λ c left. (left.0, sym read.same ∙ left.1, one_before b mid.moment t left.0 c (subst (λ (x : Books). RecoversOne x t left.0 c) read.rests left.2)));
  slow = slow_more b.moment mid.moment new.moment clock clock' clock'' read.slow moved;
}
