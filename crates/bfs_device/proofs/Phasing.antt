-- A disk call of each phase: what stands behind it, and what replay gives of each image that it may leave.
use Rattle.std.proofs.Common.{◌≡◌, ◌⊎◌, inl, inr, ⊎_elim, ℕ, pos, ◌+◌, ◌-◌, ◌*◌, ◌/◌, ◌%◌, ◌<◌, ◌≤◌, List, [], ◌++◌, length, map, drop, refl, sym, ◌∙◌, ap, subst, arith, Bool, true, false, nat_lt, Some, replicate, length-append}
use Rattle.std.specs.List.{flat_map}
use Rattle.std.proofs.lemmas.Bool.{cases_lt, cases_eq, true≢false, cond-true, cond-false, lt-ltb, le-ltb, eq-eqb, ne_eqb}
use Rattle.std.proofs.lemmas.List.{length-map, length-replicate}
use Rattle.bfs_disk.specs.State.{State, IsImage, Filled}
use Rattle.bfs_disk.specs.Blocks.{Known, contents_of}
use Rattle.bfs_disk.proofs.Joined.{contents_read}
use Rattle.bfs_disk.proofs.Known.{known_less}
use Rattle.bfs_bytes.specs.Fields.{signed32_bytes, run_bytes}
use Rattle.bfs_bytes.proofs.Lengths.{length-signed32_bytes}
use Rattle.bfs_super.specs.declared.sup.Super.{Super}
use Rattle.bfs_super.specs.declared.geometry.Geometry.{Geometry}
use Rattle.bfs_super.specs.Conditions.{natural, IsValid}
use Rattle.bfs_super.specs.Geometry.{geometry_of}
use Rattle.bfs_log.specs.Entry.{entry_bytes, run_at_block}
use Rattle.bfs_log.specs.Replay.{Home, over, log_from, log_to}
use Rattle.bfs_log.proofs.Printed.{length-runs}
use Rattle.bfs_txn.specs.Changed.{bytes_at}
use Rattle.bfs_txn.specs.declared.group.Group.{Group}
use Rattle.bfs_device.specs.declared.journal.Phase.{Phase}
use Rattle.bfs_device.specs.declared.journal.Phase.TheVariants.{Log, LogSafe, Open, OpenSafe, Home as GoHome, HomeSafe, Tail, TailSafe, Pass}
use Rattle.bfs_device.specs.Layouts.{Layout, IsData, layout_of, homes_in, ring_count, named_in, log_block}
use Rattle.bfs_device.specs.Versions.{RecoversTo}
use Rattle.bfs_device.specs.Calls.{state_after, touched_after, LeftDuring}
use Rattle.bfs_device.specs.Phases.{IsHomeOf, none, Keeps, Plain, Rests, Stands, Follows, Logging, Homing}
use Rattle.bfs_device.specs.Books.{IsSealed, IsPhaseOf, is_durable}
use Rattle.bfs_device.specs.Steps.{call_of, PrintsBack, next_phase}
use Rattle.bfs_device.proofs.Homes.{over_in, over_same, over_again, home_drop}
use Rattle.bfs_device.proofs.Entries.{length-part_low}
use Rattle.bfs_device.proofs.Sizes.{sizes, fits_sectors}
use Rattle.bfs_device.proofs.Going as going

-- an array block has a block's length
length-entry : (g : Geometry) (blocks : List ℕ) (size : ℕ) → length blocks ≤ 126 → 1024 ≤ size → length (entry_bytes g blocks size) ≡ size
length-entry g blocks size few big =
    let a = signed32_bytes (pos (length blocks)) in
    let b = signed32_bytes (pos 127) in
    let c = flat_map run_bytes (map (run_at_block g) blocks) in
    let d : List ℕ = replicate (size - (8 + 8 * length blocks)) 0 in
    let la = length-signed32_bytes (pos (length blocks)) in
    let lb = length-signed32_bytes (pos 127) in
    let lc = length-runs (map (run_at_block g) blocks) in
    let lm = length-map blocks (run_at_block g) in
    let ld = length-replicate {A = ℕ} (size - (8 + 8 * length blocks)) 0 in
    omega (arith, length-append (a ++ b ++ c) d, length-append (a ++ b) c, length-append a b, la, lb, lc, lm, ld, few, big)

module _ (s : Super) (g : Group) (valid : IsValid s) (sealed : IsSealed (layout_of s) s.block_size g) (empty : log_from s ≡ log_to s) where
  abbrev l : Layout
  l = layout_of s

  abbrev r : ℕ
  r = (layout_of s).sectors

  abbrev homes : List Home
  homes = homes_in g.blocks

  some_ring : 0 < length g.blocks → 0 < ring_count g.blocks
  some_ring some = omega (arith, some)

  pub long_block : (i : ℕ) → i < ring_count g.blocks → length (log_block s g.blocks i) ≡ 512 * r
  long_block i lt =
      let size = sizes s valid in
      ⊎_elim
      (λ zero_rest. ap length (cond-true _ _ _ (eq-eqb (i % 127) 0 zero_rest)) ∙ length-entry (geometry_of s) (named_in g.blocks (i / 127)) s.block_size (length-part_low g.blocks (i / 127)) (omega (arith, size.0, size.1)) ∙ size.0)
      (λ other. ap length (cond-false _ _ _ (ne_eqb (i % 127) 0 other)) ∙ sealed.sized (126 * (i / 127) + (i % 127 - 1)) (omega (arith, lt, other)) ∙ size.0)
      (cases_eq (i % 127) 0)

  pub long_home : (i : ℕ) → i < length g.blocks → length (bytes_at g.blocks i) ≡ 512 * r
  long_home i lt = sealed.sized i lt ∙ (sizes s valid).0

  -- what stands behind the call of a phase
  pub follows : (v : ℕ → List ℕ) (t : ℕ → Bool) (st : State) (p : Phase) → IsPhaseOf g.blocks p → PrintsBack s g p → Stands s g v t st p
      → Follows s g v (touched_after (call_of s g p) t) (state_after (call_of s g p) st) p
  follows v t st (Log i) fits read known = going.log_step s g v t valid sealed empty st i (long_block i fits) fits known
  follows v t st LogSafe fits read known = going.log_barrier s g v t valid sealed empty st known
  follows v t st Open fits read known = going.gate_step s g v t valid sealed empty st _ read.2 (read.0, read.1) known
  follows v t st OpenSafe fits read known = going.gate_barrier s g v t valid sealed empty st known
  follows v t st (GoHome i) fits read known = going.home_step s g v t valid sealed empty st i (long_home i fits) fits known
  follows v t st HomeSafe fits read known = going.home_barrier s g v t valid sealed empty st known
  follows v t st Tail fits read known = going.tail_step s g v t valid sealed empty st _ read.2 read.0 known
  follows v t st TailSafe fits read known = going.tail_barrier s g v t valid sealed empty st known
  follows v t st Pass fits read known = going.rest_barrier s g v t valid sealed empty st known

  -- what replay may give of an image that a phase or its call leaves
  abbrev pub MayRecover : (ℕ → List ℕ) → (ℕ → Bool) → List ℕ → Phase → Type 0
  MayRecover v t image (Log i) = RecoversTo s (homes_in g.blocks) t v (natural s.used_blocks) image
  MayRecover v t image LogSafe = RecoversTo s (homes_in g.blocks) t v (natural s.used_blocks) image
  MayRecover v t image Open = RecoversTo s (homes_in g.blocks) t v (natural s.used_blocks) image ⊎ RecoversTo s (homes_in g.blocks) t (over (homes_in g.blocks) v) g.used image
  MayRecover v t image OpenSafe = RecoversTo s (homes_in g.blocks) t v (natural s.used_blocks) image ⊎ RecoversTo s (homes_in g.blocks) t (over (homes_in g.blocks) v) g.used image
  MayRecover v t image (GoHome i) = RecoversTo s (homes_in g.blocks) t (over (homes_in g.blocks) v) g.used image
  MayRecover v t image HomeSafe = RecoversTo s (homes_in g.blocks) t (over (homes_in g.blocks) v) g.used image
  MayRecover v t image Tail = RecoversTo s (homes_in g.blocks) t (over (homes_in g.blocks) v) g.used image
  MayRecover v t image TailSafe = RecoversTo s (homes_in g.blocks) t (over (homes_in g.blocks) v) g.used image
  MayRecover v t image Pass = RecoversTo s (homes_in g.blocks) t v (natural s.used_blocks) image

  module _ (v : ℕ → List ℕ) (t : ℕ → Bool) (st : State) (sized : r * l.blocks ≤ st.size) (image : List ℕ) where
    pub stands_image : (p : Phase) → IsPhaseOf g.blocks p → Stands s g v t st p → IsImage st image → MayRecover v t image p
    stands_image (Log i) fits known is = going.logging_image s g v t valid sealed empty st sized image is i known
    stands_image LogSafe fits known is = going.logging_image s g v t valid sealed empty st sized image is (ring_count g.blocks) known
    stands_image Open fits known is = inl (going.logged_image s g v t valid sealed empty st sized image is known)
    stands_image OpenSafe fits known is = going.opened_image s g v t valid sealed empty st sized image is (some_ring fits) known
    stands_image (GoHome i) fits known is = going.homing_image s g v t valid sealed empty st sized image is i (omega (arith, fits)) known
    stands_image HomeSafe fits known is = going.homing_image s g v t valid sealed empty st sized image is (length g.blocks) (some_ring fits) known
    stands_image Tail fits known is = going.at_home_image s g v t valid sealed empty st sized image is (some_ring fits) known
    stands_image TailSafe fits known is = going.moved_image s g v t valid sealed empty st sized image is (some_ring fits) known
    stands_image Pass fits known is = going.rest_image s g v t valid sealed empty st sized image is known

    pub during_image : (p : Phase) → IsPhaseOf g.blocks p → PrintsBack s g p → Stands s g v t st p → LeftDuring (call_of s g p) (Some st) image → MayRecover v t image p
    during_image (Log i) fits read known is = going.logging_image s g v t valid sealed empty (state_after (call_of s g (Log i)) st) sized image is (i + 1) (follows v t st (Log i) fits read known)
    during_image LogSafe fits read known is = stands_image LogSafe fits known is
    during_image Open fits read known is = going.opened_image s g v t valid sealed empty (state_after (call_of s g Open) st) sized image is (some_ring fits) (follows v t st Open fits read known)
    during_image OpenSafe fits read known is = stands_image OpenSafe fits known is
    during_image (GoHome i) fits read known is = going.homing_image s g v t valid sealed empty (state_after (call_of s g (GoHome i)) st) sized image is (i + 1) (omega (arith, fits)) (follows v t st (GoHome i) fits read known)
    during_image HomeSafe fits read known is = stands_image HomeSafe fits known is
    during_image Tail fits read known is = going.moved_image s g v t valid sealed empty (state_after (call_of s g Tail) st) sized image is (some_ring fits) (follows v t st Tail fits read known)
    during_image TailSafe fits read known is = stands_image TailSafe fits known is
    during_image Pass fits read known is = stands_image Pass fits known is

  -- the next phase stands
  pub next_stands : (v : ℕ → List ℕ) (t : ℕ → Bool) (st : State) (p : Phase) → (p ≡ TailSafe → ⊥) → (p ≡ Pass → ⊥) → IsPhaseOf g.blocks p → Follows s g v t st p → Stands s g v t st (next_phase g p)
  next_stands v t st (Log i) not_tail not_pass fits known = ⊎_elim
      (λ lt. subst (Stands s g v t st) (sym (cond-true (nat_lt (i + 1) (ring_count g.blocks)) (Log (i + 1)) LogSafe (lt-ltb (i + 1) (ring_count g.blocks) lt))) known)
      (λ ge. subst (Stands s g v t st) (sym (cond-false (nat_lt (i + 1) (ring_count g.blocks)) (Log (i + 1)) LogSafe (le-ltb (i + 1) (ring_count g.blocks) ge))) (subst (Logging s g v t st) (let e : i + 1 ≡ ring_count g.blocks = omega (arith, ge, fits) in e) known))
      (cases_lt (i + 1) (ring_count g.blocks))
  next_stands v t st LogSafe not_tail not_pass fits known = known
  next_stands v t st Open not_tail not_pass fits known = known
  next_stands v t st OpenSafe not_tail not_pass fits known = known
  next_stands v t st (GoHome i) not_tail not_pass fits known = ⊎_elim
      (λ lt. subst (Stands s g v t st) (sym (cond-true (nat_lt (i + 1) (length g.blocks)) (GoHome (i + 1)) HomeSafe (lt-ltb (i + 1) (length g.blocks) lt))) known)
      (λ ge. subst (Stands s g v t st) (sym (cond-false (nat_lt (i + 1) (length g.blocks)) (GoHome (i + 1)) HomeSafe (le-ltb (i + 1) (length g.blocks) ge))) (subst (Homing s g v t st) (let e : i + 1 ≡ length g.blocks = omega (arith, ge, fits) in e) known))
      (cases_lt (i + 1) (length g.blocks))
  next_stands v t st HomeSafe not_tail not_pass fits known = known
  next_stands v t st Tail not_tail not_pass fits known = known
  next_stands v t st TailSafe not_tail not_pass fits known = absurd (not_tail refl)
  next_stands v t st Pass not_tail not_pass fits known = absurd (not_pass refl)

-- what a disk reads is the version, with the group over it where that is durable
abbrev pub Agrees : Group → (ℕ → List ℕ) → (ℕ → List ℕ) → Bool → ℕ → Type 0
Agrees g v w true b = over (homes_in g.blocks) w b ≡ over (homes_in g.blocks) v b
Agrees g v w false b = w b ≡ v b

-- what a read gives, and versions under another name
module _ (s : Super) (st : State) (filled : Filled st) (valid : IsValid s) (sized : (layout_of s).sectors * (layout_of s).blocks ≤ st.size) where
  fits : (b : ℕ) → IsData (layout_of s) b → (layout_of s).sectors * b + (layout_of s).sectors ≤ st.size
  fits b is_data = omega (arith, fits_sectors s valid b is_data.1, sized)

  pub reads_plain : {S T : List ℕ → Type 0} {P : ℕ → List ℕ → Type 0} (w : ℕ → List ℕ) → Known st (layout_of s).sectors S T P (Plain (layout_of s) none w) → (b : ℕ) → IsData (layout_of s) b → contents_of st (layout_of s).sectors b ≡ w b
  reads_plain w known b is_data =
      ⊎_elim (λ dirty. absurd (true≢false (sym dirty))) (λ same. same)
      (known.reads b (contents_of st (layout_of s).sectors b) is_data.0 (fits b is_data) (contents_read st (layout_of s).sectors b filled (fits b is_data)) is_data)

  pub reads_held : {S T : List ℕ → Type 0} {P : ℕ → List ℕ → Type 0} (start : ℕ) (B : ℕ → List ℕ) (loose : List Home) (w : ℕ → List ℕ) (m : ℕ) → Known st (layout_of s).sectors S T P (Keeps (layout_of s) start B loose none w m)
      → (b : ℕ) → IsData (layout_of s) b → IsHomeOf loose b ⊎ (contents_of st (layout_of s).sectors b ≡ w b)
  reads_held start B loose w m known b is_data =
      ⊎_elim (λ home. inl home) (λ rest. ⊎_elim (λ dirty. absurd (true≢false (sym dirty))) (λ same. inr same) rest)
      ((known.reads b (contents_of st (layout_of s).sectors b) is_data.0 (fits b is_data) (contents_read st (layout_of s).sectors b filled (fits b is_data))).held is_data)

  renamed_plain : {S T : List ℕ → Type 0} (t : ℕ → Bool) (w w' : ℕ → List ℕ) → ((b : ℕ) → IsData (layout_of s) b → w b ≡ w' b) → Known st (layout_of s).sectors S T (Plain (layout_of s) t w) (Plain (layout_of s) none w)
      → Known st (layout_of s).sectors S T (Plain (layout_of s) t w') (Plain (layout_of s) none w')
  renamed_plain {S} {T} t w w' same known = known_less S T _ _ known (λ c x. x) (λ c x. x)
      (λ b c kept is_data. ⊎_elim (λ dirty. inl dirty) (λ e. inr (e ∙ same b is_data)) (kept is_data))
      (λ b c kept is_data. ⊎_elim (λ dirty. inl dirty) (λ e. inr (e ∙ same b is_data)) (kept is_data))

  renamed_held : {S T : List ℕ → Type 0} (start : ℕ) (B : ℕ → List ℕ) (loose loose' : List Home) (t : ℕ → Bool) (w w' : ℕ → List ℕ) (m m' : ℕ) → ((b : ℕ) → IsData (layout_of s) b → w b ≡ w' b)
      → Known st (layout_of s).sectors S T (Keeps (layout_of s) start B loose t w m) (Keeps (layout_of s) start B loose' none w m')
      → Known st (layout_of s).sectors S T (Keeps (layout_of s) start B loose t w' m) (Keeps (layout_of s) start B loose' none w' m')
  renamed_held {S} {T} start B loose loose' t w w' m m' same known = known_less S T _ _ known (λ c x. x) (λ c x. x)
      (λ b c kept. record { held = λ is_data. ⊎_elim (λ home. inl home) (λ rest. inr (⊎_elim (λ dirty. inl dirty) (λ e. inr (e ∙ same b is_data)) rest)) (kept.held is_data); ring = kept.ring })
      (λ b c kept. record { held = λ is_data. ⊎_elim (λ home. inl home) (λ rest. inr (⊎_elim (λ dirty. inl dirty) (λ e. inr (e ∙ same b is_data)) rest)) (kept.held is_data); ring = kept.ring })

  module _ (g : Group) (v : ℕ → List ℕ) (t : ℕ → Bool) where
    now_read : ℕ → List ℕ
    now_read = contents_of st (layout_of s).sectors

    before : {S T : List ℕ → Type 0} {P : ℕ → List ℕ → Type 0} (m : ℕ) → Known st (layout_of s).sectors S T P (Keeps (layout_of s) (log_from s) (log_block s g.blocks) [] none v m) → (b : ℕ) → IsData (layout_of s) b → contents_of st (layout_of s).sectors b ≡ v b
    before m known b is_data = ⊎_elim (λ nothing. absurd nothing) (λ same. same) (reads_held (log_from s) (log_block s g.blocks) [] v m known b is_data)

    after : {S T : List ℕ → Type 0} {P : ℕ → List ℕ → Type 0} (i m : ℕ) → Known st (layout_of s).sectors S T P (Keeps (layout_of s) (log_from s) (log_block s g.blocks) (drop i (homes_in g.blocks)) none (over (homes_in g.blocks) v) m)
        → (b : ℕ) → IsData (layout_of s) b → over (homes_in g.blocks) (contents_of st (layout_of s).sectors) b ≡ over (homes_in g.blocks) v b
    after i m known b is_data = ⊎_elim
        (λ one. over_in (homes_in g.blocks) (contents_of st (layout_of s).sectors) v b (home_drop i (homes_in g.blocks) b one))
        (λ same. over_same (homes_in g.blocks) (contents_of st (layout_of s).sectors) (over (homes_in g.blocks) v) b same ∙ over_again (homes_in g.blocks) v b)
        (reads_held (log_from s) (log_block s g.blocks) (drop i (homes_in g.blocks)) (over (homes_in g.blocks) v) m known b is_data)

    after_all : {S T : List ℕ → Type 0} {P : ℕ → List ℕ → Type 0} (m : ℕ) → Known st (layout_of s).sectors S T P (Keeps (layout_of s) (log_from s) (log_block s g.blocks) [] none (over (homes_in g.blocks) v) m)
        → (b : ℕ) → IsData (layout_of s) b → over (homes_in g.blocks) (contents_of st (layout_of s).sectors) b ≡ over (homes_in g.blocks) v b
    after_all m known b is_data = ⊎_elim (λ nothing. absurd nothing)
        (λ same. over_same (homes_in g.blocks) (contents_of st (layout_of s).sectors) (over (homes_in g.blocks) v) b same ∙ over_again (homes_in g.blocks) v b)
        (reads_held (log_from s) (log_block s g.blocks) [] (over (homes_in g.blocks) v) m known b is_data)

    pub stands_agrees : (p : Phase) → Stands s g v t st p → (b : ℕ) → IsData (layout_of s) b → Agrees g v (contents_of st (layout_of s).sectors) (is_durable p) b
    stands_agrees (Log i) known = before i known
    stands_agrees LogSafe known = before (ring_count g.blocks) known
    stands_agrees Open known = before (ring_count g.blocks) known
    stands_agrees OpenSafe known = before (ring_count g.blocks) known
    stands_agrees (GoHome i) known = after i (ring_count g.blocks) known
    stands_agrees HomeSafe known = after (length g.blocks) (ring_count g.blocks) known
    stands_agrees Tail known = after_all (ring_count g.blocks) known
    stands_agrees TailSafe known = after_all (ring_count g.blocks) known
    stands_agrees Pass known = reads_plain v known

    -- the version may be named by what the disk reads
    pub stands_read : (p : Phase) → Stands s g v t st p → Stands s g (contents_of st (layout_of s).sectors) t st p
    stands_read (Log i) known = renamed_held _ _ _ _ t v _ _ _ (λ b d. sym (before i known b d)) known
    stands_read LogSafe known = renamed_held _ _ _ _ t v _ _ _ (λ b d. sym (before (ring_count g.blocks) known b d)) known
    stands_read Open known = renamed_held _ _ _ _ t v _ _ _ (λ b d. sym (before (ring_count g.blocks) known b d)) known
    stands_read OpenSafe known = renamed_held _ _ _ _ t v _ _ _ (λ b d. sym (before (ring_count g.blocks) known b d)) known
    stands_read (GoHome i) known = renamed_held _ _ _ _ t (over (homes_in g.blocks) v) _ _ _ (λ b d. sym (after i (ring_count g.blocks) known b d)) known
    stands_read HomeSafe known = renamed_held _ _ _ _ t (over (homes_in g.blocks) v) _ _ _ (λ b d. sym (after (length g.blocks) (ring_count g.blocks) known b d)) known
    stands_read Tail known = renamed_held _ _ _ _ t (over (homes_in g.blocks) v) _ _ _ (λ b d. sym (after_all (ring_count g.blocks) known b d)) known
    stands_read TailSafe known = renamed_held _ _ _ _ t (over (homes_in g.blocks) v) _ _ _ (λ b d. sym (after_all (ring_count g.blocks) known b d)) known
    stands_read Pass known = renamed_plain t v _ (λ b d. sym (reads_plain v known b d)) known

  pub rests_read : (v : ℕ → List ℕ) (t : ℕ → Bool) → Rests s v t st → Rests s (contents_of st (layout_of s).sectors) t st
  rests_read v t known = renamed_plain t v _ (λ b d. sym (reads_plain v known b d)) known
