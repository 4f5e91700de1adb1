-- Each event keeps Core where its half on time is held as a proposition, and the known bytes of files with it.
use Rattle.std.proofs.Common.{◌≡◌, ⊎_elim, ◌<◌, ℕ, List, [], ◌∷◌, length, Option, Some, None, IfSome, sym, ◌∙◌, ap, subst, arith, length-append}
use Rattle.std.proofs.Math.Logic.{∥∥₁_map}
use Rattle.bfs_disk.specs.State.{State, Filled}
use Rattle.bfs_disk.specs.Blocks.{contents_of}
use Rattle.bfs_txn.specs.declared.group.Group.{Group}
use Rattle.bfs_tree.specs.declared.reply.Entry.{Entry}
use Rattle.bfs_tree.specs.Histories.{Mounted}
use Rattle.bfs_device.specs.Layouts.{layout_of}
use Rattle.bfs_device.specs.Books.{Books, IsOnDisk}
use Rattle.bfs_device.proofs.Stepping.{filled_state, on_state}
use Rattle.bfs_device.specs.Data.{touching}
use Rattle.bfs_device.specs.Seals.{sealed_with}
use Rattle.bfs_core.specs.Spaces.{SpaceView, Entered, IsFaceData, IsGroupFor, sealed_space, released_space}
use Rattle.bfs_core.specs.Cores.{Core, IsKnown, newest_map}
use Rattle.bfs_core.specs.KnownBytes.{HasKnown, HasKnownIn, KeepsFiles}
use Rattle.bfs_core.specs.Chains.{HasChain, IsLinked}
use Rattle.bfs_core.specs.Settled.{HasSettled}
use Rattle.bfs_core.proofs.Settling.{settled_ahead, settled_entered, settled_released, settled_sealed, settled_written}
use Rattle.bfs_core.proofs.Chains.{chain_ahead, chain_entered, chain_released, chain_sealed, chain_written}
use Rattle.bfs_core.specs.Moments.{Adoption, IsCore, DeviceMoves, DeviceWrites}
use Rattle.bfs_core.proofs.Events.{entry_event, move_event, seal_event, write_event}
use Rattle.bfs_core.proofs.Knowing.{known_ahead, known_entered, known_released, known_sealed, known_written}
use Rattle.bfs_core.proofs.Onward.{core_ahead, core_entered, core_released}
use Rattle.bfs_core.proofs.Pieces.{piece_kept}
use Rattle.bfs_core.proofs.Seals.{core_sealed}
use Rattle.bfs_device_blocks.specs.Lent.{AreSized, HasCore, HasImages, IsBehindEntry, IsWrittenOver}
use Rattle.bfs_device_blocks.proofs.Keeping.{core_alone}

same_state : (a b : State) → Some a ≡ Some b → a ≡ b
same_state a b e = cc

-- what a disk tells of its size and its sectors
pub sized_so : (b : Books) (size : Option ℕ) (told : Option State) → IfSome told Filled → IfSome told (λ (x : State). size ≡ Some x.size) → IsOnDisk size b.sup → AreSized b told
sized_so b size told filled sized on st is = (filled_state told st filled is, on_state b.sup size told st sized on is)

module _ (t0 : Mounted) (adopted : Adoption) (sp : SpaceView) (b : Books) (told : Option State) (clock : ℕ) (past : ℕ → List ℕ → Type 0) where
  pub hold : IsCore t0 adopted sp b told clock past → ((st : State) → told ≡ Some st → HasKnown t0 sp b st) → HasImages t0 adopted sp b told → HasCore t0 adopted sp b told clock past
  hold core known images = ((core.0.0, core.0.1, (core.0.2.0, core.0.2.1, known core.0.0 core.0.1)), ∣ core.1 ∣₁, images)

  pub hold_moved : (new : Books) (told' : Option State) (clock' : ℕ) (since : ℕ → List ℕ → Type 0) → DeviceMoves b new told told' clock clock' past since → AreSized new told' → HasCore t0 adopted sp b told clock past → HasCore t0 adopted sp new told' clock' since
  hold_moved new told' clock' since moves sized core =
      let old : Core t0 sp b core.0.2.0 core.0.0 = core.0.2.1 in
      let got = moves.right core.0.2.0 (core.0.0, core.0.1, old.right) in
      let next : Core t0 sp new got.touched got.right.0 = core_ahead t0 sp b new core.0.2.0 got.touched core.0.0 got.right.0 old moves.steady moves.ahead got.right.2.0 got.right.2.1 got.less moves.stops in (
        (got.right.0, got.right.1, (got.touched, next, known_ahead t0 sp b new core.0.2.0 core.0.0 got.right.0 old moves.steady moves.ahead got.right.2.1 core.0.2.2)),
        ∥∥₁_map core.1 (λ kept. (move_event t0 adopted sp b new told told' clock clock' past since moves (core_alone t0 sp b told core.0, kept)).1),
        record {
          chain = λ first is st now_is.
              subst (λ (x : State). HasChain t0 first sp (newest_map new x)) (same_state got.right.0 st (sym got.right.1 ∙ now_is))
              (chain_ahead t0 first sp b new core.0.0 got.right.0 old.steady moves.steady moves.ahead got.right.2.1 (core.2.chain first is core.0.0 core.0.1));
          settled = λ first is st now_is.
              let here = sized got.right.0 got.right.1 in
              let known = known_ahead t0 sp b new core.0.2.0 core.0.0 got.right.0 old moves.steady moves.ahead got.right.2.1 core.0.2.2 in
              subst (HasSettled t0 sp new) (same_state got.right.0 st (sym got.right.1 ∙ now_is))
              (settled_ahead t0 sp b new core.0.2.0 got.touched core.0.0 got.right.0 old core.0.2.2 next known here.0 here.1 moves.ahead got.right.2.1 (moves.contents core.0.0 got.right.0 core.0.1 got.right.1) (core.2.settled first is core.0.0 core.0.1));
        },
      )

  pub hold_written : (block : ℕ) (new : Books) (told' : Option State) (clock' : ℕ) (since : ℕ → List ℕ → Type 0) → ((st : State) → told ≡ Some st → IsFaceData t0 sp (newest_map b st) block)
      → ((st next : State) → told ≡ Some st → told' ≡ Some next → HasKnownIn t0 sp (newest_map b st) block (contents_of next (layout_of b.sup).sectors block))
      → (bytes : List ℕ) → IsWrittenOver t0 sp b told told' block bytes → AreSized new told' → IsBehindEntry adopted sp → DeviceWrites block b new told told' clock clock' past since → HasCore t0 adopted sp b told clock past → HasCore t0 adopted sp new told' clock' since
  hold_written block new told' clock' since file in_block bytes over sized behind writes core =
      let old : Core t0 sp b core.0.2.0 core.0.0 = core.0.2.1 in
      let got = writes.right core.0.2.0 (core.0.0, core.0.1, old.right) in
      let next : Core t0 sp new (touching block core.0.2.0) got.0 = piece_kept t0 sp b new core.0.2.0 core.0.0 got.0 block old (file core.0.0 core.0.1) writes.rests writes.stops got.2.0 got.2.1 in (
        (
          got.0,
          got.1,
          (
            touching block core.0.2.0,
            next,
            known_written t0 sp b new core.0.2.0 core.0.0 got.0 block old (file core.0.0 core.0.1) writes.rests got.2.1 (in_block core.0.0 got.0 core.0.1 got.1) core.0.2.2,
          ),
        ),
        ∥∥₁_map core.1 (λ kept. (write_event t0 adopted sp block b new told told' clock clock' past since file writes (core_alone t0 sp b told core.0, kept)).1),
        record {
          chain = λ first is st now_is.
              let here = sized got.0 got.1 in
              let some : 0 < length sp.history = ⊎_elim (λ none. absurd (let bad : None ≡ Some first = sym none ∙ is in cc)) (λ entries. entries) behind in
              subst (λ (x : State). HasChain t0 first sp (newest_map new x)) (same_state got.0 st (sym got.1 ∙ now_is))
              (chain_written t0 first sp b new core.0.2.0 core.0.0 got.0 block old (file core.0.0 core.0.1) here.0 here.1 writes.rests writes.stops got.2.0 got.2.1 some (core.2.chain first is core.0.0 core.0.1));
          settled = λ first is st now_is.
              subst (HasSettled t0 sp new) (same_state got.0 st (sym got.1 ∙ now_is))
              (settled_written t0 sp b new core.0.2.0 core.0.0 got.0 block bytes old core.0.2.2 (file core.0.0 core.0.1) writes.rests got.2.1 over.long (over.half core.0.0 got.0 core.0.1 got.1) (over.known core.0.0 core.0.1) (core.2.settled first is core.0.0 core.0.1));
        },
      )

  pub hold_entered : (new : SpaceView) (e : Entry) → ((st : State) → told ≡ Some st → Entered t0 sp new (newest_map b st) e) → IsKnown b e
      → ((st : State) → told ≡ Some st → KeepsFiles t0 sp new (newest_map b st) (contents_of st (layout_of b.sup).sectors)) → AreSized b told → ((st : State) → told ≡ Some st → IsLinked t0 sp new (newest_map b st) e)
      → HasCore t0 adopted sp b told clock past → HasCore t0 adopted new b told clock past
  hold_entered new e entered known keeps sized linked core = (
    (
      core.0.0,
      core.0.1,
      (
        core.0.2.0,
        core_entered t0 sp new b core.0.2.0 core.0.0 e core.0.2.1 (entered core.0.0 core.0.1) known,
        known_entered t0 sp new b core.0.0 e (entered core.0.0 core.0.1) (keeps core.0.0 core.0.1) core.0.2.2,
      ),
    ),
    ∥∥₁_map core.1 (λ kept. (entry_event t0 adopted sp new b told clock past e entered known (core_alone t0 sp b told core.0, kept)).1),
    record {
      chain = λ first is st now_is.
          let here = sized core.0.0 core.0.1 in
          subst (λ (x : State). HasChain t0 first new (newest_map b x)) (same_state core.0.0 st (sym core.0.1 ∙ now_is))
          (chain_entered t0 first sp new b core.0.2.0 core.0.0 e (core_entered t0 sp new b core.0.2.0 core.0.0 e core.0.2.1 (entered core.0.0 core.0.1) known) here.0 here.1 (entered core.0.0 core.0.1) (linked core.0.0 core.0.1) (core.2.chain first is core.0.0 core.0.1));
      settled = λ first is st now_is.
          let en = entered core.0.0 core.0.1 in
          let keep = keeps core.0.0 core.0.1 in
          subst (HasSettled t0 new b) (same_state core.0.0 st (sym core.0.1 ∙ now_is))
          (settled_entered t0 sp new b core.0.2.0 core.0.0 e core.0.2.1 en (λ id place byte before now. ⊎_elim (λ stays. stays.1.block) (λ there. there.1) (keep id place byte now))
          (let more = ap length en.history in let long = length-append sp.history (e ∷ []) in omega (arith, more, long)) (core.2.settled first is core.0.0 core.0.1));
    },
  )

  pub hold_released : HasCore t0 adopted sp b told clock past → HasCore t0 adopted (released_space b.left sp) b told clock past
  hold_released core = (
    (core.0.0, core.0.1, (core.0.2.0, core_released t0 sp b core.0.2.0 core.0.0 core.0.2.1, known_released t0 sp b core.0.0 b.left core.0.2.2)),
    core.1,
    record { chain = λ first is st now_is. chain_released t0 first sp (newest_map b st) b.left (core.2.chain first is st now_is); settled = λ first is st now_is. settled_released t0 sp b st b.left (core.2.settled first is st now_is) },
  )

  pub hold_sealed : (g : Group) → IsGroupFor sp g → HasCore t0 adopted sp b told clock past → HasCore t0 adopted (sealed_space sp) (sealed_with b g) told clock past
  hold_sealed g group core = (
    (core.0.0, core.0.1, (core.0.2.0, core_sealed t0 sp b core.0.2.0 core.0.0 g core.0.2.1 group, known_sealed t0 sp b core.0.2.0 core.0.0 g core.0.2.1 group core.0.2.2)),
    ∥∥₁_map core.1 (λ kept. (seal_event t0 adopted sp b g told clock past group (core_alone t0 sp b told core.0, kept)).1),
    record {
      chain = λ first is st now_is.
          subst (λ (x : State). HasChain t0 first (sealed_space sp) (newest_map (sealed_with b g) x)) (same_state core.0.0 st (sym core.0.1 ∙ now_is))
          (chain_sealed t0 first sp b core.0.2.0 core.0.0 g core.0.2.1 group (core.2.chain first is core.0.0 core.0.1));
      settled = λ first is st now_is.
          subst (HasSettled t0 (sealed_space sp) (sealed_with b g)) (same_state core.0.0 st (sym core.0.1 ∙ now_is))
          (settled_sealed t0 sp b core.0.2.0 core.0.0 g core.0.2.1 core.0.2.2 group (core.2.settled first is core.0.0 core.0.1));
    },
  )
