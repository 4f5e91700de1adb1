-- A device that fits a story from adoption on, over each event.
use Rattle.std.proofs.Common.{◌≡◌, ◌≤◌, ℕ, List, [], ◌∷◌, Bool, Option, sym, ap, subst, arith}
use Rattle.bfs_disk.specs.State.{State}
use Rattle.bfs_super.specs.declared.sup.Super.{Super}
use Rattle.bfs_txn.specs.declared.group.Group.{Group}
use Rattle.bfs_tree.specs.declared.reply.Entry.{Entry}
use Rattle.bfs_tree.specs.Histories.{Mounted}
use Rattle.bfs_sound.specs.Volumes.{IsMarked}
use Rattle.bfs_device.specs.Books.{Books, RecoversOne, durable_of, sealed_of}
use Rattle.bfs_device.specs.Data.{touching}
use Rattle.bfs_device.specs.Seals.{sealed_with}
use Rattle.bfs_device.proofs.Forward.{sealed_durable}
use Rattle.bfs_core.specs.Spaces.{SpaceView, IsGroupFor, sealed_space}
use Rattle.bfs_core.specs.Cores.{HasVersions, IsKnown, RecoversFrom}
use Rattle.bfs_core.specs.Moments.{Adoption, Kept, IsCore, DeviceMoves, DeviceWrites}
use Rattle.bfs_core.specs.Stories.{Words, Story, IsStory, SpaceFits, DeviceFits, FitsSince, IsMetadataIn, IsPair, Longer, with_numbers, end_of}
use Rattle.bfs_core.proofs.Devices.{device_longer, device_on, device_written, other_block}
use Rattle.bfs_core.proofs.Events.{passed_kept}
use Rattle.bfs_core.proofs.Images.{from_within, recovers_version}
use Rattle.bfs_core.proofs.Pieces.{not_touched}
use Rattle.bfs_core.proofs.Releases.{story_raised}
use Rattle.bfs_core.proofs.Sealing.{pair_is_sealed}
use Rattle.bfs_core.proofs.Times.{kept_more}
use Rattle.bfs_core.proofs.Together.{device_recovers, from_version, pair_is_core, versions_of}

-- what is one of the versions recovers to at least the durable entries
fit_recovers : (y : Story) (w : Words) (s : Super) (b : Books) (t : ℕ → Bool) (st : State) (image : List ℕ) → IsStory y w.left → w.sealed ≤ end_of y → DeviceFits y w s b t st → RecoversOne b t st image → RecoversFrom y.t0 y.history (durable_of b) image
fit_recovers y w s b t st image story covered fits one =
    from_within y.t0 y.history (durable_of b) (sealed_of b) image (let e = fits.sealed in omega (arith, e, covered)) (device_recovers y w s b t st story covered fits image one)

pub fit_moved : (y : Story) (w : Words) (s : Super) (adopted : Adoption) (b new : Books) (told told' : Option State) (clock clock' : ℕ) (past since : ℕ → List ℕ → Type 0) → IsStory y w.left → w.sealed ≤ end_of y
    → DeviceMoves b new told told' clock clock' past since → FitsSince y w s adopted b told clock past → FitsSince y (with_numbers w new) s adopted new told' clock' since
fit_moved y w s adopted b new told told' clock clock' past since story covered moves fits =
    let old : DeviceFits y w s b fits.0.2.0 fits.0.0 = fits.0.2.1 in
    let got = moves.right fits.0.2.0 (fits.0.0, fits.0.1, old.right) in
    let next : DeviceFits y (with_numbers w new) s new got.touched got.right.0 = device_on y w s b new fits.0.2.0 got.touched fits.0.0 got.right.0 covered old moves.steady moves.ahead got.right.2.0 got.right.2.1 got.less moves.stops in
    let later : IsStory y new.left = story_raised y w.left new.left (let e = old.left in let le = moves.ahead.left in omega (arith, e, le)) story in (
      (got.right.0, got.right.1, (got.touched, next)),
      passed_kept y.t0 y.history adopted b new fits.0.2.0 got.touched fits.0.0 told told' clock clock' past since (λ t. t) moves.time fits.0.1 old.right (got.right.0, got.right.1, got.right.2.0)
          (λ c one. fit_recovers y (with_numbers w new) s new got.touched got.right.0 c later covered next one)
          (λ c one. fit_recovers y w s b fits.0.2.0 fits.0.0 c story covered old one) moves.ahead.durable fits.1,
    )

pub fit_written : (y : Story) (w : Words) (s : Super) (adopted : Adoption) (block : ℕ) (b new : Books) (told told' : Option State) (clock clock' : ℕ) (past since : ℕ → List ℕ → Type 0) → IsStory y w.left → w.sealed ≤ end_of y
    → IsMarked (y.faces (end_of y)) block → ¬ IsMetadataIn y (end_of y) block → DeviceWrites block b new told told' clock clock' past since → FitsSince y w s adopted b told clock past → FitsSince y w s adopted new told' clock' since
fit_written y w s adopted block b new told told' clock clock' past since story covered marked apart writes fits =
    let t : ℕ → Bool = fits.0.2.0 in
    let old : DeviceFits y w s b fits.0.2.0 fits.0.0 = fits.0.2.1 in
    let got = writes.right fits.0.2.0 (fits.0.0, fits.0.1, old.right) in
    let next : DeviceFits y w s new (touching block fits.0.2.0) got.0 = device_written y w s b new fits.0.2.0 fits.0.0 got.0 block story covered old marked apart writes.rests writes.stops got.2.0 got.2.1 in
    let before : HasVersions y.t0 y.history b fits.0.2.0 fits.0.0 = versions_of y w s b fits.0.2.0 fits.0.0 story covered old in
    let still : HasVersions y.t0 y.history b (touching block fits.0.2.0) fits.0.0 = record {
      sound = before.sound;
      untouched = λ n k is meta. not_touched k block fits.0.2.0
          (other_block y w s b fits.0.2.0 fits.0.0 block story old marked apart covered n k is (from_version y w s b fits.0.2.0 fits.0.0 story covered old n is k meta))
          (before.untouched n k is meta);
    } in
    let same : durable_of new ≡ durable_of b = ap durable_of writes.rests in (
      (got.0, got.1, (touching block fits.0.2.0, next)),
      passed_kept y.t0 y.history adopted b new fits.0.2.0 (touching block fits.0.2.0) fits.0.0 told told' clock clock' past since (touching block) writes.time fits.0.1 old.right (got.0, got.1, got.2.0)
          (λ c one. fit_recovers y w s new (touching block fits.0.2.0) got.0 c story covered next one)
          (λ c one. from_within y.t0 y.history (durable_of b) (sealed_of b) c (let e = old.sealed in omega (arith, e, covered)) (recovers_version y.t0 y.history b (touching block fits.0.2.0) fits.0.0 c old.steady still one))
          (omega (arith, same)) fits.1,
    )

pub fit_longer : (y z : Story) (w : Words) (s : Super) (adopted : Adoption) (b : Books) (told : Option State) (clock : ℕ) (since : ℕ → List ℕ → Type 0) (e : Entry) → Longer y z e → IsKnown b e → w.sealed ≤ end_of y
    → FitsSince y w s adopted b told clock since → FitsSince z w s adopted b told clock since
fit_longer y z w s adopted b told clock since e longer known covered fits = (
  (fits.0.0, fits.0.1, (fits.0.2.0, device_longer y z w s b fits.0.2.0 fits.0.0 e longer known covered fits.0.2.1)),
  subst (λ (x : Mounted). Kept x z.history adopted b.marks (durable_of b) b.moment clock since) (sym longer.t0)
      (subst (λ (h : List Entry). Kept y.t0 h adopted b.marks (durable_of b) b.moment clock since) (sym longer.history) (kept_more y.t0 y.history (e ∷ []) adopted b.marks (durable_of b) b.moment clock since fits.1)),
)

pub fit_sealed : (y : Story) (w : Words) (sp : SpaceView) (adopted : Adoption) (b : Books) (g : Group) (told : Option State) (clock : ℕ) (since : ℕ → List ℕ → Type 0) → IsStory y w.left → SpaceFits y w sp → IsGroupFor sp g
    → FitsSince y w sp.sup adopted b told clock since → (let u : Words = record w { sealed = end_of y } in SpaceFits y u (sealed_space sp) × FitsSince y u sp.sup adopted (sealed_with b g) told clock since)
fit_sealed y w sp adopted b g told clock since story space group fits =
    let pair : IsPair y w sp b fits.0.2.0 fits.0.0 = record { story = story; space = space; device = fits.0.2.1 } in
    let next = pair_is_sealed y w sp b fits.0.2.0 fits.0.0 g pair group in (
      next.space,
      ((fits.0.0, fits.0.1, (fits.0.2.0, next.device)), subst (λ (n : ℕ). Kept y.t0 y.history adopted b.marks n b.moment clock since) (sym (sealed_durable b g)) fits.1),
    )

pub fit_core : (y : Story) (w : Words) (sp : SpaceView) (adopted : Adoption) (b : Books) (told : Option State) (clock : ℕ) (since : ℕ → List ℕ → Type 0) → IsStory y w.left → SpaceFits y w sp
    → FitsSince y w sp.sup adopted b told clock since → IsCore y.t0 adopted sp b told clock since
fit_core y w sp adopted b told clock since story space fits = (
  (fits.0.0, fits.0.1, (fits.0.2.0, pair_is_core y w sp b fits.0.2.0 fits.0.0 story space fits.0.2.1)),
  subst (λ (h : List Entry). Kept y.t0 h adopted b.marks (durable_of b) b.moment clock since) (sym space.history) fits.1,
)
