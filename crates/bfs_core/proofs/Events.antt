-- Each event keeps Core from adoption on.
use Rattle.std.proofs.Common.{◌≡◌, ◌≤◌, ℕ, List, [], ◌∷◌, Bool, Option, Some, sym, ◌∙◌, ap, subst, arith}
use Rattle.bfs_disk.specs.State.{State, Tells}
use Rattle.bfs_txn.specs.declared.group.Group.{Group}
use Rattle.bfs_tree.specs.declared.reply.Entry.{Entry}
use Rattle.bfs_tree.specs.Histories.{Mounted}
use Rattle.bfs_device.specs.Books.{Books, IsRight, RecoversOne, durable_of}
use Rattle.bfs_device.specs.Data.{touching}
use Rattle.bfs_device.specs.Seals.{sealed_with}
use Rattle.bfs_device.proofs.Forward.{sealed_durable}
use Rattle.bfs_core.specs.Spaces.{SpaceView, Entered, IsFaceData, IsGroupFor, sealed_space, released_space}
use Rattle.bfs_core.specs.Cores.{Core, IsKnown, RecoversFrom, newest_map}
use Rattle.bfs_core.specs.Moments.{Adoption, Kept, IsCore, DeviceMoves, DeviceWrites, Passes}
use Rattle.bfs_core.proofs.Onward.{core_ahead, core_entered, core_released}
use Rattle.bfs_core.proofs.Seals.{core_sealed}
use Rattle.bfs_core.proofs.Pieces.{piece_kept, piece_recovers}
use Rattle.bfs_core.proofs.Images.{recovers_from}
use Rattle.bfs_core.proofs.Times.{kept_on, kept_more}

-- one state is told
one_told : (told : Option State) (a b : State) → told ≡ Some a → told ≡ Some b → a ≡ b
one_told told a b is also = let e : Some a ≡ Some b = sym is ∙ also in cc

-- what was kept before a call is kept after it
pub passed_kept : (t0 : Mounted) (history : List Entry) (adopted : Adoption) (b new : Books) (t u : ℕ → Bool) (st : State) (told told' : Option State) (clock clock' : ℕ) (past since : ℕ → List ℕ → Type 0) (during : (ℕ → Bool) → ℕ → Bool)
    → Passes b new told told' clock clock' past since during → told ≡ Some st → IsRight b t st → (now : Tells told' (λ s. IsRight new u s)) → ((c : List ℕ) → RecoversOne new u now.0 c → RecoversFrom t0 history (durable_of new) c)
    → ((c : List ℕ) → RecoversOne b (during t) st c → RecoversFrom t0 history (durable_of b) c) → durable_of b ≤ durable_of new
    → Kept t0 history adopted b.marks (durable_of b) b.moment clock past → Kept t0 history adopted new.marks (durable_of new) new.moment clock' since
passed_kept t0 history adopted b new t u st told told' clock clock' past since during time is right now later_one meanwhile later kept =
    kept_on t0 history adopted (durable_of b) b.moment clock (durable_of new) new.moment clock' past since (λ c. Tells told (λ s. RecoversOne b (during t) s c))
    (time.meanwhile t (st, is, right))
    (λ c left. meanwhile c (subst (λ (s : State). RecoversOne b (during t) s c) (one_told told left.0 st left.1 is) left.2))
    (λ c left. later_one c (time.now u now c (time.only c left)))
    time.moved later b.marks new.marks kept time.marked

pub move_event : (t0 : Mounted) (adopted : Adoption) (sp : SpaceView) (b new : Books) (told told' : Option State) (clock clock' : ℕ) (past since : ℕ → List ℕ → Type 0)
    → DeviceMoves b new told told' clock clock' past since → IsCore t0 adopted sp b told clock past → IsCore t0 adopted sp new told' clock' since
move_event t0 adopted sp b new told told' clock clock' past since moves core =
    let old : Core t0 sp b core.0.2.0 core.0.0 = core.0.2.1 in
    let got = moves.right core.0.2.0 (core.0.0, core.0.1, old.right) in
    let next : Core t0 sp new got.touched got.right.0 = core_ahead t0 sp b new core.0.2.0 got.touched core.0.0 got.right.0 old moves.steady moves.ahead got.right.2.0 got.right.2.1 got.less moves.stops in (
      (got.right.0, got.right.1, (got.touched, next)),
      passed_kept t0 sp.history adopted b new core.0.2.0 got.touched core.0.0 told told' clock clock' past since (λ t. t) moves.time core.0.1 old.right (got.right.0, got.right.1, got.right.2.0) (λ c one. recovers_from t0 sp new got.touched got.right.0 c next one)
          (λ c one. recovers_from t0 sp b core.0.2.0 core.0.0 c old one) moves.ahead.durable core.1,
    )

pub write_event : (t0 : Mounted) (adopted : Adoption) (sp : SpaceView) (block : ℕ) (b new : Books) (told told' : Option State) (clock clock' : ℕ) (past since : ℕ → List ℕ → Type 0)
    → ((st : State) → told ≡ Some st → IsFaceData t0 sp (newest_map b st) block) → DeviceWrites block b new told told' clock clock' past since → IsCore t0 adopted sp b told clock past → IsCore t0 adopted sp new told' clock' since
write_event t0 adopted sp block b new told told' clock clock' past since file writes core =
    let old : Core t0 sp b core.0.2.0 core.0.0 = core.0.2.1 in
    let here : IsFaceData t0 sp (newest_map b core.0.0) block = file core.0.0 core.0.1 in
    let got = writes.right core.0.2.0 (core.0.0, core.0.1, old.right) in
    let next : Core t0 sp new (touching block core.0.2.0) got.0 = piece_kept t0 sp b new core.0.2.0 core.0.0 got.0 block old here writes.rests writes.stops got.2.0 got.2.1 in
    let same : durable_of new ≡ durable_of b = ap durable_of writes.rests in (
      (got.0, got.1, (touching block core.0.2.0, next)),
      passed_kept t0 sp.history adopted b new core.0.2.0 (touching block core.0.2.0) core.0.0 told told' clock clock' past since (touching block) writes.time core.0.1 old.right (got.0, got.1, got.2.0) (λ c one. recovers_from t0 sp new (touching block core.0.2.0) got.0 c next one)
          (λ c one. piece_recovers t0 sp b core.0.2.0 core.0.0 old block here c one) (omega (arith, same)) core.1,
    )

pub entry_event : (t0 : Mounted) (adopted : Adoption) (sp new : SpaceView) (b : Books) (told : Option State) (clock : ℕ) (since : ℕ → List ℕ → Type 0) (e : Entry)
    → ((st : State) → told ≡ Some st → Entered t0 sp new (newest_map b st) e) → IsKnown b e → IsCore t0 adopted sp b told clock since → IsCore t0 adopted new b told clock since
entry_event t0 adopted sp new b told clock since e entered known core =
    let is = entered core.0.0 core.0.1 in (
      (core.0.0, core.0.1, (core.0.2.0, core_entered t0 sp new b core.0.2.0 core.0.0 e core.0.2.1 is known)),
      subst (λ (h : List Entry). Kept t0 h adopted b.marks (durable_of b) b.moment clock since) (sym is.history) (kept_more t0 sp.history (e ∷ []) adopted b.marks (durable_of b) b.moment clock since core.1),
    )

pub release_event : (t0 : Mounted) (adopted : Adoption) (sp : SpaceView) (b : Books) (told : Option State) (clock : ℕ) (since : ℕ → List ℕ → Type 0)
    → IsCore t0 adopted sp b told clock since → IsCore t0 adopted (released_space b.left sp) b told clock since
release_event t0 adopted sp b told clock since core = (
  (core.0.0, core.0.1, (core.0.2.0, core_released t0 sp b core.0.2.0 core.0.0 core.0.2.1)),
  core.1,
)

pub seal_event : (t0 : Mounted) (adopted : Adoption) (sp : SpaceView) (b : Books) (g : Group) (told : Option State) (clock : ℕ) (since : ℕ → List ℕ → Type 0)
    → IsGroupFor sp g → IsCore t0 adopted sp b told clock since → IsCore t0 adopted (sealed_space sp) (sealed_with b g) told clock since
seal_event t0 adopted sp b g told clock since group core = (
  (core.0.0, core.0.1, (core.0.2.0, core_sealed t0 sp b core.0.2.0 core.0.0 g core.0.2.1 group)),
  subst (λ (n : ℕ). Kept t0 sp.history adopted b.marks n b.moment clock since) (sym (sealed_durable b g)) core.1,
)
