-- After a call that failed: what a read gives elsewhere, and what a crash leaves.
use Rattle.std.proofs.Common.{◌≡◌, ◌≢◌, ⊎_elim, ℕ, ◌+◌, ◌*◌, ◌<◌, ◌≤◌, List, [], ◌∷◌, length, sym, ◌∙◌, ap, subst, arith, Bool, true, false, Some, get_or}
use Rattle.std.proofs.lemmas.Bool.{cases_lt, cases_eq, cond-false, true≢false}
use Rattle.std.proofs.Math.Nat.{mul-le-mul_left}
use Rattle.bfs_disk.specs.State.{State, IsImage, IsHalfWritten, newest, written, names}
use Rattle.bfs_disk.specs.Blocks.{contents_of}
use Rattle.bfs_disk.proofs.Names.{names_before, names_after}
use Rattle.bfs_disk.proofs.Calls.{half_image}
use Rattle.bfs_disk.proofs.Joined.{joined_same}
use Rattle.bfs_super.specs.Conditions.{natural, IsValid}
use Rattle.bfs_log.specs.Replay.{Home, log_from, log_to}
use Rattle.bfs_txn.specs.Changed.{number_at, bytes_at}
use Rattle.bfs_txn.specs.declared.group.Group.{Group}
use Rattle.bfs_device.specs.declared.journal.Phase.{Phase}
use Rattle.bfs_device.specs.declared.journal.Phase.TheVariants.{Log, LogSafe, Open, OpenSafe, Home as GoHome, HomeSafe, Tail, TailSafe, Pass}
use Rattle.bfs_device.specs.Layouts.{Layout, IsData, layout_of, slot, homes_in, ring_count, log_block}
use Rattle.bfs_device.specs.Calls.{Call, Write, Barrier, IsFailed, LeftDuring}
use Rattle.bfs_device.specs.Phases.{IsHomeOf, Stands}
use Rattle.bfs_device.specs.Books.{Books, Follow, IsPhaseOf, RecoversOne, is_durable}
use Rattle.bfs_device.specs.Steps.{call_of, PrintsBack}
use Rattle.bfs_device.proofs.Homes.{over_in, over_same, is_home, home_at, length-homes}
use Rattle.bfs_device.proofs.Sizes.{good, from_low}
use Rattle.bfs_device.proofs.Going.{slot_inside, log_not_data}
use Rattle.bfs_device.proofs.Phasing.{during_image, long_block, long_home}
use Rattle.bfs_device.proofs.Right.{Reading, one_of, at, reading}

-- ---- blocks that a write doesn't name

pub block_others : (r a b j : ℕ) (bytes : List ℕ) → length bytes ≡ 512 * r → b ≢ a → j < r → names (r * a) bytes (r * b + j) ≡ false
block_others r a b j bytes long other lt =
    ⊎_elim (λ below. names_before (r * a) (r * b + j) bytes (let le : r * (b + 1) ≤ r * a = mul-le-mul_left r (let l : b + 1 ≤ a = omega (arith, below) in l) in omega (arith, le, lt)))
    (λ ge. names_after (r * a) (r * b + j) bytes (let le : r * (a + 1) ≤ r * b = mul-le-mul_left r (let l : a + 1 ≤ b = omega (arith, ge, other) in l) in omega (arith, le, long)))
    (cases_lt b a)

pub super_others : (r b j : ℕ) (bytes : List ℕ) → 2 ≤ r → 1 ≤ b → length bytes ≡ 512 → names 1 bytes (r * b + j) ≡ false
super_others r b j bytes two pos long = names_after 1 (r * b + j) bytes (let le : r * 1 ≤ r * b = mul-le-mul_left r pos in omega (arith, long, two, le))

pub half_others : (st new : State) (at r b : ℕ) (bytes : List ℕ) → IsHalfWritten st at bytes new → ((j : ℕ) → j < r → names at bytes (r * b + j) ≡ false) → contents_of new r b ≡ contents_of st r b
half_others st new at r b bytes half others = joined_same r (λ j. newest new (r * b + j)) (λ j. newest st (r * b + j))
    (λ j lt. ⊎_elim (λ kept. ap (λ cs. get_or cs 0 []) kept) (λ both. absurd (true≢false (sym both.0 ∙ others j lt))) (half.each (r * b + j)))

pub written_others : (st : State) (at r b : ℕ) (bytes : List ℕ) → ((j : ℕ) → j < r → names at bytes (r * b + j) ≡ false) → contents_of (written st at bytes) r b ≡ contents_of st r b
written_others st at r b bytes others = joined_same r (λ j. newest (written st at bytes) (r * b + j)) (λ j. newest st (r * b + j))
    (λ j lt. ap (λ cs. get_or cs 0 []) (cond-false (names at bytes (r * b + j)) _ (st.contents (r * b + j)) (others j lt)))

-- what a crash leaves after a failure, it might have left during the call
pub failed_image : (call : Call) (st new : State) (image : List ℕ) → IsFailed call (Some st) (Some new) → IsImage new image → LeftDuring call (Some st) image
failed_image (Write at bytes) st new image failed is =
    let same : new ≡ failed.0 = cc (failed.1) in
    half_image st failed.0 at bytes image failed.2 (subst (λ (s : State). IsImage s image) same is)
failed_image Barrier st new image failed is =
    let same : new ≡ st = cc failed in
    subst (λ (s : State). IsImage s image) same is

module _ (b : Books) (g : Group) (gs : List Group) (valid : IsValid b.sup) (empty : log_from b.sup ≡ log_to b.sup)
    (follow : Follow (layout_of b.sup) b.sup.block_size b.left (natural b.sup.used_blocks) (g ∷ gs)) (t : ℕ → Bool) (st new : State) where
  abbrev l : Layout
  l = layout_of b.sup

  abbrev r : ℕ
  r = (layout_of b.sup).sectors

  kept_all : (d : Bool) → ((k : ℕ) → IsData (layout_of b.sup) k → reading b g gs valid empty follow new k ≡ reading b g gs valid empty follow st k) → Reading b g gs valid empty follow (reading b g gs valid empty follow st) t new d
  kept_all d same = record {
    without = λ _ k is_data _. sym (same k is_data);
    with_it = λ k is_data _. over_same (homes_in g.blocks) (reading b g gs valid empty follow st) (reading b g gs valid empty follow new) k (sym (same k is_data));
  }

  by_write : (d : Bool) (at : ℕ) (bytes : List ℕ) → IsFailed (Write at bytes) (Some st) (Some new) → ((k j : ℕ) → IsData (layout_of b.sup) k → j < (layout_of b.sup).sectors → names at bytes ((layout_of b.sup).sectors * k + j) ≡ false)
      → Reading b g gs valid empty follow (reading b g gs valid empty follow st) t new d
  by_write d at bytes failed others =
      let same : new ≡ failed.0 = cc (failed.1) in
      kept_all d (λ k is_data. half_others st new at (layout_of b.sup).sectors k bytes (subst (IsHalfWritten st at bytes) (sym same) failed.2) (λ j lt. others k j is_data lt))

  by_barrier : (d : Bool) → IsFailed Barrier (Some st) (Some new) → Reading b g gs valid empty follow (reading b g gs valid empty follow st) t new d
  by_barrier d failed = kept_all d (λ k is_data. ap (λ (s : State). contents_of s (layout_of b.sup).sectors k) (let e : new ≡ st = cc failed in e))

  by_super : (d : Bool) (bytes : List ℕ) → length bytes ≡ 512 → IsFailed (Write 1 bytes) (Some st) (Some new) → Reading b g gs valid empty follow (reading b g gs valid empty follow st) t new d
  by_super d bytes long failed = by_write d 1 bytes failed (λ k j is_data lt. super_others (layout_of b.sup).sectors k j bytes (good b.sup valid).two is_data.0 long)

  by_log : (i : ℕ) → i < ring_count g.blocks → IsFailed (call_of b.sup g (Log i)) (Some st) (Some new) → Reading b g gs valid empty follow (reading b g gs valid empty follow st) t new false
  by_log i fits failed =
      let place : ℕ = slot l (log_from b.sup) i in
      let inside = slot_inside l (log_from b.sup) i (from_low b.sup valid) (omega (arith, fits, follow.0.sealed.room)) in
      by_write false (r * place) (log_block b.sup g.blocks i) failed
      (λ k j is_data lt. block_others r place k j (log_block b.sup g.blocks i) (long_block b.sup g valid follow.0.sealed empty i fits) (λ same. log_not_data l k (omega (arith, same, inside.0)) (omega (arith, same, inside.1)) is_data) lt)

  by_home : (i : ℕ) → i < length g.blocks → IsFailed (call_of b.sup g (GoHome i)) (Some st) (Some new) → Reading b g gs valid empty follow (reading b g gs valid empty follow st) t new true
  by_home i fits failed =
      let place : ℕ = number_at g.blocks i in
      let bytes : List ℕ = bytes_at g.blocks i in
      let d : Home = record { place = place; bytes = bytes } in
      let same : new ≡ failed.0 = cc (failed.1) in
      let one : IsHomeOf (homes_in g.blocks) place = subst (λ (h : Home). IsHomeOf (homes_in g.blocks) h.place) (home_at g.blocks i d fits) (is_home (homes_in g.blocks) i d (omega (arith, fits, length-homes g.blocks))) in
      record {
        without = λ early. absurd (true≢false early);
        with_it = λ k is_data _. ⊎_elim
            (λ here. over_in (homes_in g.blocks) (reading b g gs valid empty follow st) (reading b g gs valid empty follow new) k (subst (IsHomeOf (homes_in g.blocks)) (sym here) one))
            (λ other. over_same (homes_in g.blocks) (reading b g gs valid empty follow st) (reading b g gs valid empty follow new) k
            (sym (half_others st new (r * place) r k bytes (subst (IsHalfWritten st (r * place) bytes) (sym same) failed.2) (λ j lt. block_others r place k j bytes (long_home b.sup g valid follow.0.sealed empty i fits) other lt))))
            (cases_eq k place);
      }

  -- what a read gives after a failed call agrees with the versions
  pub failed_reading : (p : Phase) → IsPhaseOf g.blocks p → PrintsBack b.sup g p → IsFailed (call_of b.sup g p) (Some st) (Some new) → Reading b g gs valid empty follow (reading b g gs valid empty follow st) t new (is_durable p)
  failed_reading (Log i) fits read failed = by_log i fits failed
  failed_reading LogSafe fits read failed = by_barrier false failed
  failed_reading Open fits read failed = by_super false _ read.2 failed
  failed_reading OpenSafe fits read failed = by_barrier false failed
  failed_reading (GoHome i) fits read failed = by_home i fits failed
  failed_reading HomeSafe fits read failed = by_barrier true failed
  failed_reading Tail fits read failed = by_super true _ read.2 failed
  failed_reading TailSafe fits read failed = by_barrier true failed
  failed_reading Pass fits read failed = by_barrier false failed

  -- so each image still recovers to one of them
  pub failed_one : (p : Phase) → IsPhaseOf g.blocks p → PrintsBack b.sup g p → (layout_of b.sup).sectors * (layout_of b.sup).blocks ≤ st.size → Stands b.sup g (reading b g gs valid empty follow st) t st p
      → IsFailed (call_of b.sup g p) (Some st) (Some new) → (image : List ℕ) → IsImage new image → RecoversOne (at b g gs valid empty follow p) t new image
  failed_one p fits read sized known failed image is =
      one_of b g gs valid empty follow (reading b g gs valid empty follow st) t new image p (failed_reading p fits read failed)
      (during_image b.sup g valid follow.0.sealed empty (reading b g gs valid empty follow st) t st sized image p fits read known (failed_image (call_of b.sup g p) st new image failed is))
