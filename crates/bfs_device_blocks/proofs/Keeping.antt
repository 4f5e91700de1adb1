-- Reads keep Core.
use Rattle.std.proofs.Common.{◌≡◌, ◌⊎◌, ⊎_elim, inl, ◌<◌, ◌≤◌, ◌+◌, ℕ, List, Bool, Option, Some, refl, sym, ◌∙◌, ap, subst, arith}
use Rattle.std.proofs.Props.{props}
use Rattle.std.proofs.Math.Logic.{∥∥₁_elim, ∥∥₁_map}
use Rattle.bfs_base.specs.Moments.{Passed}
use Rattle.bfs_disk.specs.State.{State, Tells}
use Rattle.bfs_disk.specs.Disk.{MayLeave}
use Rattle.bfs_super.specs.declared.sup.Super.{Super}
use Rattle.bfs_tree.specs.declared.reply.Entry.{Entry}
use Rattle.bfs_tree.specs.Histories.{Mounted}
use Rattle.bfs_device.specs.Books.{Books, AreSame, IsRight, RecoversOne, durable_of, sealed_of}
use Rattle.bfs_device.specs.Data.{IsRested}
use Rattle.bfs_core.specs.Spaces.{SpaceView}
use Rattle.bfs_core.specs.Cores.{Core, RecoversFrom}
use Rattle.bfs_core.specs.KnownBytes.{HasKnown}
use Rattle.bfs_core.specs.Settled.{HasSettled}
use Rattle.bfs_core.specs.Moments.{Adoption, Kept, KeptSince, IsCore, IsLessTouched}
use Rattle.bfs_core.specs.Stories.{Story, Words, IsStory, DeviceFits, FitsSince, with_numbers, end_of}
use Rattle.bfs_core.proofs.Calls.{read_ahead, read_stops}
use Rattle.bfs_core.proofs.Devices.{device_on}
use Rattle.bfs_core.proofs.Images.{from_within, recovers_from}
use Rattle.bfs_core.proofs.Onward.{core_ahead}
use Rattle.bfs_core.proofs.Times.{recovers_less}
use Rattle.bfs_core.proofs.Together.{device_recovers}
use Rattle.bfs_device_blocks.specs.Lent.{HasBeenRead, HasCore, HasImages}
use Rattle.bfs_device_blocks.proofs.Going.{right_rested, steady_rested}

-- ---- what a crash since each mark might have left

le_or : (m n : ℕ) → (m ≤ n) ⊎ (n < m)
le_or m n = grind arith

later_clock : (begun clock later m m' : ℕ) → clock ≤ begun + m → (m ≤ m') × (later + m ≤ clock + m') → later ≤ begun + m'
later_clock begun clock later m m' le both = let a = both.0 in let z = both.1 in omega (arith, le, a, z)

module _ (t0 : Mounted) (history : List Entry) (adopted : Adoption) (b new : Books) (told told' : Option State) (clock later : ℕ) (past since : ℕ → List ℕ → Type 0) (read : HasBeenRead b new told told' clock later past since)
    (only : (c : List ℕ) → past clock c → MayLeave told c) (fewer : (t u : ℕ) (c : List ℕ) → t ≤ u → since u c → since t c) (touched : ℕ → Bool) (right : Tells told (IsRight b touched))
    (within : (c : List ℕ) → RecoversOne b touched right.0 c → RecoversFrom t0 history (durable_of b) c) where
  time : Passed clock later past since (λ c. Tells told (λ s. RecoversOne b touched s c))
  time = read.meanwhile touched right

  in_time : (c : List ℕ) → Tells told (λ s. RecoversOne b touched s c) → RecoversFrom t0 history (durable_of b) c
  in_time c left =
      let e : Some left.0 ≡ Some right.0 = sym left.1 ∙ right.1 in
      let is : left.0 ≡ right.0 = cc in
      within c (subst (λ (s : State). RecoversOne b touched s c) is left.2)

  -- a moment behind the first is one since it
  behind : (t : ℕ) (c : List ℕ) → clock ≤ t → since t c → RecoversFrom t0 history (durable_of b) c
  behind t c le is = ⊎_elim
      (λ before. within c (read.recovers touched right c (only c before)))
      (λ now. in_time c now)
      (time.nothing_else clock c (omega arith) (fewer clock t c le is))

  still_since : (from n : ℕ) → n ≤ durable_of b → KeptSince t0 history clock past from n → KeptSince t0 history later since from n
  still_since from n le kept t c low high is = ⊎_elim
      (λ early. ⊎_elim (λ before. kept t c low early before) (λ now. recovers_less t0 history n (durable_of b) c le (in_time c now)) (time.nothing_else t c early is))
      (λ late. recovers_less t0 history n (durable_of b) c le (behind t c (omega (arith, late)) is))
      (le_or t clock)

  pub kept_read : Kept t0 history adopted b.marks (durable_of b) b.moment clock past → Kept t0 history adopted new.marks (durable_of new) new.moment later since
  kept_read kept = subst (λ (x : Books). Kept t0 history adopted x.marks (durable_of x) new.moment later since) (sym read.rests) (record {
    slow = λ low. later_clock adopted.moment clock later b.moment new.moment (kept.slow (let le = (read.slow low).0 in omega (arith, le, low))) (read.slow low);
    early = kept.early;
    low = (let le = kept.low in let more = time.later in omega (arith, le, more));
    first = still_since adopted.begun 0 (omega arith) kept.first;
    marked = λ k d lt early. still_since _ _ (kept.reached k d lt) (kept.marked k d lt early);
    reached = kept.reached;
  })

-- ---- Core

untouched : (b new : Books) (t : ℕ → Bool) → new.left ≡ b.left → IsLessTouched b new t t
untouched b new t same = record { fewer = λ k is. is; barrier = inl same }

same_versions : (b new : Books) (st : State) → IsRested b new → AreSame b st new st
same_versions b new st rests = subst (λ (x : Books). AreSame b st x st) (sym rests) (λ n is k d. refl)

pub core_rested : (t0 : Mounted) (sp : SpaceView) (b new : Books) (t : ℕ → Bool) (st : State) → IsRested b new → Core t0 sp b t st → Core t0 sp new t st
core_rested t0 sp b new t st rests core =
    core_ahead t0 sp b new t t st st core (steady_rested b new rests core.steady) (read_ahead b new rests) (right_rested b new rests t st core.right) (same_versions b new st rests)
    (untouched b new t (ap (λ (x : Books). x.left) rests)) (read_stops b new rests)

pub fit_rested : (y : Story) (w : Words) (s : Super) (b new : Books) (t : ℕ → Bool) (st : State) → w.sealed ≤ end_of y → IsRested b new → DeviceFits y w s b t st → DeviceFits y (with_numbers w new) s new t st
fit_rested y w s b new t st covered rests fits =
    device_on y w s b new t t st st covered fits (steady_rested b new rests fits.steady) (read_ahead b new rests) (right_rested b new rests t st fits.right) (same_versions b new st rests)
    (untouched b new t (ap (λ (x : Books). x.left) rests)) (read_stops b new rests)

pub core_half : (t0 : Mounted) (sp : SpaceView) (b new : Books) (told told' : Option State) → IsRested b new → told' ≡ told → Tells told (λ st. (t : ℕ → Bool) × Core t0 sp b t st) → Tells told' (λ st. (t : ℕ → Bool) × Core t0 sp new t st)
core_half t0 sp b new told told' rests same core = (core.0, same ∙ core.1, (core.2.0, core_rested t0 sp b new core.2.0 core.0 rests core.2.1))

-- known bytes, of which nothing is read but what stays
known_later : (t0 : Mounted) (sp : SpaceView) (b : Books) (m : ℕ) (st : State) → HasKnown t0 sp b st → (let new : Books = record b { moment = m } in HasKnown t0 sp new st)
known_later t0 sp b m st known = known

pub known_rested : (t0 : Mounted) (sp : SpaceView) (b new : Books) (st : State) → IsRested b new → HasKnown t0 sp b st → HasKnown t0 sp new st
known_rested t0 sp b new st rests known = subst (λ (x : Books). HasKnown t0 sp x st) (sym rests) (known_later t0 sp b new.moment st known)

-- Core without them
pub core_alone : (t0 : Mounted) (sp : SpaceView) (b : Books) (told : Option State) → Tells told (λ st. (t : ℕ → Bool) × Core t0 sp b t st × HasKnown t0 sp b st) → Tells told (λ st. (t : ℕ → Bool) × Core t0 sp b t st)
core_alone t0 sp b told core = (core.0, core.1, (core.2.0, core.2.1))

both_halves : (t0 : Mounted) (sp : SpaceView) (b new : Books) (told told' : Option State) → IsRested b new → told' ≡ told → Tells told (λ st. (t : ℕ → Bool) × Core t0 sp b t st × HasKnown t0 sp b st)
    → Tells told' (λ st. (t : ℕ → Bool) × Core t0 sp new t st × HasKnown t0 sp new st)
both_halves t0 sp b new told told' rests same core = (core.0, same ∙ core.1, (core.2.0, core_rested t0 sp b new core.2.0 core.0 rests core.2.1, known_rested t0 sp b new core.0 rests core.2.2))

-- and the chain of images and the settled bytes, of which nothing is read but what stays
settled_rested : (t0 : Mounted) (sp : SpaceView) (b : Books) (m : ℕ) (st : State) → HasSettled t0 sp b st → (let new : Books = record b { moment = m } in HasSettled t0 sp new st)
settled_rested t0 sp b m st settled = record { contents = settled.contents; versions = settled.versions }

images_later : (t0 : Mounted) (adopted : Adoption) (sp : SpaceView) (b : Books) (m : ℕ) (told : Option State) → HasImages t0 adopted sp b told → (let new : Books = record b { moment = m } in HasImages t0 adopted sp new told)
images_later t0 adopted sp b m told has = record { chain = has.chain; settled = λ first is st told_is. settled_rested t0 sp b m st (has.settled first is st told_is) }

images_rested : (t0 : Mounted) (adopted : Adoption) (sp : SpaceView) (b new : Books) (told told' : Option State) → IsRested b new → told' ≡ told → HasImages t0 adopted sp b told → HasImages t0 adopted sp new told'
images_rested t0 adopted sp b new told told' rests same has =
    subst (λ (o : Option State). HasImages t0 adopted sp new o) (sym same) (subst (λ (x : Books). HasImages t0 adopted sp x told) (sym rests) (images_later t0 adopted sp b new.moment told has))

module _ (t0 : Mounted) (adopted : Adoption) (sp : SpaceView) (b new : Books) (told told' : Option State) (clock later : ℕ) (past since : ℕ → List ℕ → Type 0)
    (only : (c : List ℕ) → past clock c → MayLeave told c) (fewer : (t u : ℕ) (c : List ℕ) → t ≤ u → since u c → since t c) where
  time_half : HasBeenRead b new told told' clock later past since → Tells told (λ st. (t : ℕ → Bool) × Core t0 sp b t st) → Kept t0 sp.history adopted b.marks (durable_of b) b.moment clock past
      → Kept t0 sp.history adopted new.marks (durable_of new) new.moment later since
  time_half read core kept =
      kept_read t0 sp.history adopted b new told told' clock later past since read only fewer core.2.0 (core.0, core.1, core.2.1.right) (λ c one. recovers_from t0 sp b core.2.0 core.0 c core.2.1 one) kept

  pub core_read : HasBeenRead b new told told' clock later past since → IsCore t0 adopted sp b told clock past → IsCore t0 adopted sp new told' later since
  core_read read core = (core_half t0 sp b new told told' read.rests read.same core.0, time_half read core.0 core.1)

  pub core_given_back : ∥ HasBeenRead b new told told' clock later past since ∥₁ → IsRested b new → told' ≡ told → HasCore t0 adopted sp b told clock past → HasCore t0 adopted sp new told' later since
  core_given_back reads rests same core = (
    both_halves t0 sp b new told told' rests same core.0,
    ∥∥₁_elim reads (Prim.hlevel props) (λ read. ∥∥₁_map core.1 (λ kept. time_half read (core_alone t0 sp b told core.0) kept)),
    images_rested t0 adopted sp b new told told' rests same core.2,
  )

-- ---- a device that fits a story

fit_recovers : (y : Story) (w : Words) (s : Super) (b : Books) (t : ℕ → Bool) (st : State) (image : List ℕ) → IsStory y w.left → w.sealed ≤ end_of y → DeviceFits y w s b t st → RecoversOne b t st image → RecoversFrom y.t0 y.history (durable_of b) image
fit_recovers y w s b t st image story covered fits one =
    from_within y.t0 y.history (durable_of b) (sealed_of b) image (let e = fits.sealed in omega (arith, e, covered)) (device_recovers y w s b t st story covered fits image one)

pub fit_read : (y : Story) (w : Words) (s : Super) (adopted : Adoption) (b new : Books) (told told' : Option State) (clock later : ℕ) (past since : ℕ → List ℕ → Type 0)
    → ((c : List ℕ) → past clock c → MayLeave told c) → ((t u : ℕ) (c : List ℕ) → t ≤ u → since u c → since t c) → IsStory y w.left → w.sealed ≤ end_of y → HasBeenRead b new told told' clock later past since
    → FitsSince y w s adopted b told clock past → FitsSince y (with_numbers w new) s adopted new told' later since
fit_read y w s adopted b new told told' clock later past since only fewer story covered read fits =
    let old : DeviceFits y w s b fits.0.2.0 fits.0.0 = fits.0.2.1 in (
      (fits.0.0, read.same ∙ fits.0.1, (fits.0.2.0, fit_rested y w s b new fits.0.2.0 fits.0.0 covered read.rests old)),
      kept_read y.t0 y.history adopted b new told told' clock later past since read only fewer fits.0.2.0 (fits.0.0, fits.0.1, old.right) (λ c one. fit_recovers y w s b fits.0.2.0 fits.0.0 c story covered old one) fits.1,
    )
