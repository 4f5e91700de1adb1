-- How a disk goes from phase to phase, and what replay gives of its images.
use Rattle.std.proofs.Common.{◌≡◌, ◌≢◌, ◌⊎◌, inl, inr, ⊎_elim, ℕ, suc, pos, ◌+◌, ◌-◌, ◌*◌, ◌<◌, ◌≤◌, ◌<ℤ◌, ◌≤ℤ◌, List, [], length, drop, refl, sym, ◌∙◌, ap, subst, arith, get_or, Bool, true}
use Rattle.std.proofs.lemmas.Bool.{cases_lt, true≢false}
use Rattle.bfs_base.specs.Images.{sector, block}
use Rattle.bfs_disk.specs.State.{State, IsImage, written, settled}
use Rattle.bfs_disk.specs.Blocks.{Known}
use Rattle.bfs_disk.proofs.Known.{known_image, known_super, known_settled, known_less, known_super_written, known_block_written}
use Rattle.bfs_super.specs.declared.sup.Super.{Super}
use Rattle.bfs_super.specs.Conditions.{natural, IsValid}
use Rattle.bfs_log.specs.Replay.{Home, over, log_from, log_to, blocks_of}
use Rattle.bfs_log.proofs.Logged.{next_inside}
use Rattle.bfs_log.proofs.Walks.{next_low, next_high}
use Rattle.bfs_log.proofs.Bounds.{pos_low, pos_below}
use Rattle.bfs_txn.specs.Changed.{number_at, bytes_at}
use Rattle.bfs_txn.specs.declared.group.Group.{Group}
use Rattle.bfs_device.specs.Layouts.{Layout, IsData, layout_of, slot, homes_in, ring_count, log_block, behind, opened_of, closed_of}
use Rattle.bfs_device.specs.Versions.{RecoversTo}
use Rattle.bfs_device.specs.Phases.{Says, Gate, Either, IsHomeOf, none, Keeps, Plain, Rests, Logging, Logged, Opened, Homing, AtHome, Moved}
use Rattle.bfs_device.specs.Books.{IsSealed}
use Rattle.bfs_device.proofs.Homes.{over_out, over_again, over_found, home_or, is_home, home_next, no_home, home_at, length-homes, data_homes}
use Rattle.bfs_device.proofs.Entries.{group_logs}
use Rattle.bfs_device.proofs.Sizes.{good, from_low, fits_sectors}
use Rattle.bfs_device.proofs.Images.{recovers_empty, recovers_full, IsOfVolume}

-- where a block of the log is
pub slot_cases : (l : Layout) (start j : ℕ) → ((slot l start j ≡ l.first + (start + j)) × (start + j < l.len)) ⊎ ((slot l start j ≡ l.first + (start + j - l.len)) × (l.len ≤ start + j))
slot_cases l start j = ⊎_elim (λ lt. inl (ap (λ (w : ℕ). l.first + w) (next_low start j l.len lt), lt)) (λ ge. inr (ap (λ (w : ℕ). l.first + w) (next_high start j l.len ge), ge)) (cases_lt (start + j) l.len)

pub slot_inside : (l : Layout) (start j : ℕ) → start < l.len → j < l.len → (l.first ≤ slot l start j) × (slot l start j < l.first + l.len)
slot_inside l start j low lt = ⊎_elim (λ a. (omega (arith, a.0), omega (arith, a.0, a.1))) (λ b. (omega (arith, b.0), omega (arith, b.0, b.1, low, lt))) (slot_cases l start j)

pub slot_once : (l : Layout) (start i j : ℕ) → start < l.len → i < l.len → j < l.len → slot l start i ≡ slot l start j → i ≡ j
slot_once l start i j s li lj e =
    ⊎_elim (λ a. ⊎_elim (λ b. omega (arith, a.0, a.1, b.0, b.1, e)) (λ b. omega (arith, a.0, a.1, b.0, b.1, e)) (slot_cases l start j))
    (λ a. ⊎_elim (λ b. omega (arith, a.0, a.1, b.0, b.1, e)) (λ b. omega (arith, a.0, a.1, b.0, b.1, e)) (slot_cases l start j))
    (slot_cases l start i)

pub log_not_data : (l : Layout) (b : ℕ) → l.first ≤ b → b < l.first + l.len → IsData l b → ⊥
log_not_data l b low high is = ⊎_elim (λ before. omega (arith, low, before)) (λ after. omega (arith, high, after)) is.2

module _ (s : Super) (g : Group) (v : ℕ → List ℕ) (t : ℕ → Bool) (valid : IsValid s) (sealed : IsSealed (layout_of s) s.block_size g) (empty : log_from s ≡ log_to s) where
  abbrev l : Layout
  l = layout_of s

  abbrev r : ℕ
  r = (layout_of s).sectors

  abbrev n : ℕ
  n = ring_count g.blocks

  abbrev B : ℕ → List ℕ
  B = log_block s g.blocks

  abbrev homes : List Home
  homes = homes_in g.blocks

  abbrev newest_of : ℕ → List ℕ
  newest_of = over (homes_in g.blocks) v

  slot_in : (j : ℕ) → j < n → (l.first ≤ slot l (log_from s) j) × (slot l (log_from s) j < l.first + l.len)
  slot_in j lt = slot_inside l (log_from s) j (from_low s valid) (omega (arith, lt, sealed.room))

  home_data : (b : ℕ) → IsHomeOf homes b → IsData l b
  home_data b one = data_homes l g.blocks b sealed.places one

  -- a block of the log has no other part
  in_slot : {loose : List Home} {w : ℕ → List ℕ} (t : ℕ → Bool) (m j : ℕ) (c : List ℕ) → j < n
      → ((i : ℕ) → i < m → slot l (log_from s) j ≡ slot l (log_from s) i → c ≡ B i)
      → Keeps l (log_from s) B loose t w m (slot l (log_from s) j) c
  in_slot t m j c lt there = record {
    held = λ is_data. absurd (log_not_data l (slot l (log_from s) j) (slot_in j lt).0 (slot_in j lt).1 is_data);
    ring = there;
  }

  -- a block outside the log has no other part
  in_data : {loose : List Home} {w : ℕ → List ℕ} (t : ℕ → Bool) (m b : ℕ) (c : List ℕ) → m ≤ n → IsData l b → IsHomeOf loose b ⊎ ((t b ≡ true) ⊎ (c ≡ w b)) → Keeps l (log_from s) B loose t w m b c
  in_data t m b c le is_data kept = record {
    held = λ _. kept;
    ring = λ j lt is. absurd (log_not_data l b (let low = (slot_in j (omega (arith, lt, le))).0 in omega (arith, is, low)) (let high = (slot_in j (omega (arith, lt, le))).1 in omega (arith, is, high)) is_data);
  }

  -- nothing is written yet
  pub begun : (st : State) → Rests s v t st → Logging s g v t st 0
  begun st known = known_less _ _ _ _ known (λ c says. says) (λ c says. says)
      (λ b c plain. record { held = λ is_data. inr (plain is_data); ring = λ j lt _. absurd (omega (arith, lt)) })
      (λ b c plain. record { held = λ is_data. inr (plain is_data); ring = λ j lt _. absurd (omega (arith, lt)) })

  -- a block into the log
  pub log_step : (st : State) (i : ℕ) → length (B i) ≡ 512 * r → i < n → Logging s g v t st i → Logging s g v t (written st (r * slot l (log_from s) i) (B i)) (i + 1)
  log_step st i long lt known = known_block_written (Keeps l (log_from s) B [] t v 0) (Keeps l (log_from s) B [] none v (i + 1)) (slot l (log_from s) i) (B i) (good s valid).two (let inside = slot_in i lt in omega (arith, inside.0, (good s valid).behind_zero)) long known
      (λ b c _ kept. kept)
      (λ b c other kept. record {
        held = kept.held;
        ring = λ j below here. ⊎_elim (λ lower. kept.ring j lower here) (λ ge. absurd (other (let e : j ≡ i = omega (arith, below, ge) in here ∙ ap (λ (m : ℕ). slot l (log_from s) m) e))) (cases_lt j i);
      })
      (λ c. in_slot t 0 i c lt (λ j below _. absurd (omega (arith, below))))
      (in_slot none (i + 1) i (B i) lt (λ j below here. let e : i ≡ j = slot_once l (log_from s) i j (from_low s valid) (omega (arith, lt, sealed.room)) (omega (arith, below, lt, sealed.room)) here in ap B e))

  pub log_barrier : (st : State) → Logging s g v t st n → Logged s g v none (settled st)
  log_barrier st known = known_settled known

  pub gate_step : (st : State) (bytes : List ℕ) → length bytes ≡ 512 → Gate (opened_of s g) bytes → Logged s g v t st → Opened s g v t (written st 1 bytes)
  gate_step st bytes long says known = known_super_written (Either (Says s) (Gate (opened_of s g))) (Gate (opened_of s g)) bytes (good s valid).two long known (λ c was. inl was) (inr says) says

  moved_on : (b : ℕ) (c : List ℕ) → Keeps l (log_from s) B [] none v n b c → Keeps l (log_from s) B homes none newest_of n b c
  moved_on b c kept = record {
    held = λ is_data. ⊎_elim (λ nothing. absurd nothing) (λ rest. ⊎_elim (λ dirty. absurd (true≢false (sym dirty))) (λ is. ⊎_elim (λ one. inl one) (λ out. inr (inr (is ∙ sym (over_out homes v b out)))) (home_or homes b)) rest) (kept.held is_data);
    ring = kept.ring;
  }

  pub gate_barrier : (st : State) → Opened s g v t st → Homing s g v none (settled st) 0
  gate_barrier st known = known_less _ _ _ _ (known_settled known) (λ c says. says) (λ c says. says) moved_on moved_on

  pub home_step : (st : State) (i : ℕ) → length (bytes_at g.blocks i) ≡ 512 * r → i < length g.blocks
      → Homing s g v t st i → Homing s g v t (written st (r * number_at g.blocks i) (bytes_at g.blocks i)) (i + 1)
  home_step st i long lt known =
      let d : Home = record { place = number_at g.blocks i; bytes = bytes_at g.blocks i } in
      let is : get_or homes i d ≡ d = home_at g.blocks i d lt in
      let inside : i < length homes = omega (arith, lt, length-homes g.blocks) in
      let one : IsHomeOf homes d.place = subst (λ (h : Home). IsHomeOf homes h.place) is (is_home homes i d inside) in
      let is_data = home_data d.place one in
      let next : suc i ≡ i + 1 = omega arith in
      let rest : IsHomeOf (drop (i + 1) homes) d.place ⊎ (newest_of d.place ≡ d.bytes) =
      ⊎_elim (λ later. inl later)
      (λ last. inr (subst (λ (h : Home). over homes v h.place ≡ h.bytes) is
      (over_found homes v i d inside (λ again. last (subst (λ (m : ℕ). IsHomeOf (drop m homes) d.place) next (subst (λ (h : Home). IsHomeOf (drop (suc i) homes) h.place) is again))))))
      (home_or (drop (i + 1) homes) d.place) in
      known_block_written (Keeps l (log_from s) B homes t newest_of n) (Keeps l (log_from s) B (drop (i + 1) homes) none newest_of n) d.place d.bytes (good s valid).two is_data.0 long known
      (λ b c _ kept. kept)
      (λ b c other kept. record {
        held = λ is_data. ⊎_elim (λ loose. ⊎_elim (λ here. absurd (other (here ∙ ap (λ (h : Home). h.place) is))) (λ later. inl (subst (λ (m : ℕ). IsHomeOf (drop m homes) b) next later)) (home_next homes i b d inside loose)) (λ kept. inr kept) (kept.held is_data);
        ring = kept.ring;
      })
      (λ c. in_data t n d.place c (omega arith) is_data (inl one))
      (in_data none n d.place d.bytes (omega arith) is_data (⊎_elim (λ later. inl later) (λ found. inr (inr (sym found))) rest))

  all_home : (b : ℕ) (c : List ℕ) → Keeps l (log_from s) B (drop (length g.blocks) homes) none newest_of n b c → Keeps l (log_from s) B [] none newest_of n b c
  all_home b c kept = record { held = λ is_data. ⊎_elim (λ loose. absurd (no_home homes (length g.blocks) b (omega (arith, length-homes g.blocks)) loose)) (λ rest. inr rest) (kept.held is_data); ring = kept.ring }

  pub home_barrier : (st : State) → Homing s g v t st (length g.blocks) → AtHome s g v none (settled st)
  home_barrier st known = known_less _ _ _ _ (known_settled known) (λ c says. says) (λ c says. says) all_home all_home

  pub tail_step : (st : State) (bytes : List ℕ) → length bytes ≡ 512 → Says (closed_of s g) bytes → AtHome s g v t st → Moved s g v t (written st 1 bytes)
  tail_step st bytes long says known = known_super_written (Either (Gate (opened_of s g)) (Says (closed_of s g))) (Says (closed_of s g)) bytes (good s valid).two long known (λ c was. inl was) (inr says) says

  no_ring : (b : ℕ) (c : List ℕ) → Keeps l (log_from s) B [] none newest_of n b c → Plain l none newest_of b c
  no_ring b c kept is_data = ⊎_elim (λ nothing. absurd nothing) (λ rest. rest) (kept.held is_data)

  pub tail_barrier : (st : State) → Moved s g v t st → Rests (closed_of s g) newest_of none (settled st)
  tail_barrier st known = known_less _ _ _ _ (known_settled known) (λ c says. says) (λ c says. says) no_ring no_ring

  pub rest_barrier : (st : State) → Rests s v t st → Rests s v none (settled st)
  rest_barrier st known = known_settled known

  -- the superblocks of the gate and behind it
  pub opened_valid : IsValid (opened_of s g)
  opened_valid = let inside = next_inside (log_from s) n s.log_blocks.len (from_low s valid) (omega (arith, sealed.room)) in record {
    magic1 = valid.magic1;
    magic2 = valid.magic2;
    magic3 = valid.magic3;
    order = valid.order;
    block_size = valid.block_size;
    inode_size = valid.inode_size;
    length = valid.length;
    groups = valid.groups;
    log = valid.log;
    log_start = valid.log_start;
    log_end = (pos_low 0 (behind s g.blocks) (omega arith), pos_below (behind s g.blocks) s.log_blocks.len inside);
    root = valid.root;
    indices = valid.indices;
  }

  pub closed_valid : IsValid (closed_of s g)
  closed_valid = let inside = next_inside (log_from s) n s.log_blocks.len (from_low s valid) (omega (arith, sealed.room)) in
      let place : (pos 0 ≤ℤ pos (behind s g.blocks)) × (pos (behind s g.blocks) <ℤ pos s.log_blocks.len) = (pos_low 0 (behind s g.blocks) (omega arith), pos_below (behind s g.blocks) s.log_blocks.len inside) in record {
        magic1 = valid.magic1;
        magic2 = valid.magic2;
        magic3 = valid.magic3;
        order = valid.order;
        block_size = valid.block_size;
        inode_size = valid.inode_size;
        length = valid.length;
        groups = valid.groups;
        log = valid.log;
        log_start = place;
        log_end = place;
        root = valid.root;
        indices = valid.indices;
      }

  opened_full : 0 < n → log_from (opened_of s g) ≢ log_to (opened_of s g)
  opened_full some same = ⊎_elim (λ lt. let e = next_low (log_from s) n s.log_blocks.len lt in omega (arith, same, e, some)) (λ ge. let e = next_high (log_from s) n s.log_blocks.len ge in omega (arith, same, e, some, sealed.room, ge, from_low s valid)) (cases_lt (log_from s + n) s.log_blocks.len)

  -- what replay gives of the images of each phase
  module _ (st : State) (sized : r * l.blocks ≤ st.size) (image : List ℕ) (leaves : IsImage st image) where
    fits : (b : ℕ) → b < l.blocks → r * b + r ≤ st.size
    fits b lt = omega (arith, fits_sectors s valid b lt, sized)

    some : 1 < st.size
    some = let f = fits 0 (omega (arith, (good s valid).inside, (good s valid).behind_zero)) in omega (arith, f, (good s valid).two)

    long_image : 512 * (r * l.blocks) ≤ length image
    long_image = omega (arith, leaves.size, sized)

    -- an image with the gate and the log's blocks behind it
    gate_image : {S T : List ℕ → Type 0} {Q : ℕ → List ℕ → Type 0} (loose : List Home) (w : ℕ → List ℕ) → 0 < n → ((b : ℕ) → IsHomeOf loose b → IsHomeOf homes b) → Gate (opened_of s g) (sector 1 image)
        → Known st r S T (Keeps l (log_from s) B loose t w n) Q → RecoversTo s homes t (over homes w) g.used image
    gate_image loose w more named gate known =
        let entry_read = group_logs (opened_of s g) opened_valid (blocks_of image) g.blocks (log_from s) sealed.places (from_low s valid) sealed.room
        (λ j lt. let inside = slot_in j lt in
        let at : ℕ = slot l (log_from s) j in
        ap (λ (x : Super). block ((layout_of x).sectors) at image) gate.0
        ∙ (known_image image known leaves at (omega (arith, inside.0, (good s valid).behind_zero)) (fits at (omega (arith, inside.1, (good s valid).inside)))).ring j lt refl) in
        recovers_full s (opened_of s g) g.used image refl opened_valid gate.0 long_image entry_read.0 entry_read.1 (opened_full more) gate.1 homes loose t w entry_read.2 named
        (λ b is_data. (known_image image known leaves b is_data.0 (fits b is_data.1)).held is_data)

    -- an image with an empty log
    empty_image : {S T : List ℕ → Type 0} {Q : ℕ → List ℕ → Type 0} (u : Super) (used m : ℕ) (w : ℕ → List ℕ) → IsOfVolume s used u → IsValid u → log_from u ≡ log_to u → Says u (sector 1 image)
        → Known st r S T (Keeps l (log_from s) B [] t w m) Q → RecoversTo s homes t w used image
    empty_image u used m w same ok none_left says known =
        recovers_empty s u used image same ok says long_image homes t w none_left
        (λ b is_data. ⊎_elim (λ nothing. absurd nothing) (λ rest. rest) ((known_image image known leaves b is_data.0 (fits b is_data.1)).held is_data))

    again : RecoversTo s homes t (over homes (over homes v)) g.used image → RecoversTo s homes t newest_of g.used image
    again twice = record { result = twice.result; replayed = twice.replayed; valid = twice.valid; emptied = twice.emptied; geometry = twice.geometry; agrees = λ b is_data clear. twice.agrees b is_data clear ∙ over_again homes v b; written = twice.written }

    pub logging_image : (i : ℕ) → Logging s g v t st i → RecoversTo s homes t v (natural s.used_blocks) image
    logging_image i known = empty_image s (natural s.used_blocks) 0 v refl valid empty (known_super image known leaves some) known

    pub logged_image : Logged s g v t st → RecoversTo s homes t v (natural s.used_blocks) image
    logged_image known = empty_image s (natural s.used_blocks) n v refl valid empty (known_super image known leaves some) known

    pub opened_image : 0 < n → Opened s g v t st → RecoversTo s homes t v (natural s.used_blocks) image ⊎ RecoversTo s homes t newest_of g.used image
    opened_image more known = ⊎_elim
        (λ before. inl (empty_image s (natural s.used_blocks) n v refl valid empty before known))
        (λ after. inr (gate_image [] v more (λ b nothing. absurd nothing) after known))
        (known_super image known leaves some)

    pub homing_image : (i : ℕ) → 0 < n → Homing s g v t st i → RecoversTo s homes t newest_of g.used image
    homing_image i more known = again (gate_image homes newest_of more (λ b one. one) (known_super image known leaves some) known)

    pub at_home_image : 0 < n → AtHome s g v t st → RecoversTo s homes t newest_of g.used image
    at_home_image more known = again (gate_image [] newest_of more (λ b nothing. absurd nothing) (known_super image known leaves some) known)

    pub moved_image : 0 < n → Moved s g v t st → RecoversTo s homes t newest_of g.used image
    moved_image more known = ⊎_elim
        (λ before. again (gate_image [] newest_of more (λ b nothing. absurd nothing) before known))
        (λ after. empty_image (closed_of s g) g.used n newest_of refl closed_valid refl after known)
        (known_super image known leaves some)

    -- an image of a disk on which no group is on its way
    pub rest_image : Rests s v t st → RecoversTo s homes t v (natural s.used_blocks) image
    rest_image known = recovers_empty s s (natural s.used_blocks) image refl valid (known_super image known leaves some) long_image homes t v empty
        (λ b is_data. known_image image known leaves b is_data.0 (fits b is_data.1) is_data)

-- an image of a disk on which no group is on its way
pub rested_image : (s : Super) (homes : List Home) (v : ℕ → List ℕ) (t : ℕ → Bool) → IsValid s → log_from s ≡ log_to s → (st : State) → (layout_of s).sectors * (layout_of s).blocks ≤ st.size → (image : List ℕ) → IsImage st image → Rests s v t st → RecoversTo s homes t v (natural s.used_blocks) image
rested_image s homes v t valid empty st sized image leaves known =
    let fits : (b : ℕ) → b < (layout_of s).blocks → (layout_of s).sectors * b + (layout_of s).sectors ≤ st.size = λ b lt. omega (arith, fits_sectors s valid b lt, sized) in
    let some : 1 < st.size = let f = fits 0 (omega (arith, (good s valid).inside, (good s valid).behind_zero)) in omega (arith, f, (good s valid).two) in
    recovers_empty s s (natural s.used_blocks) image refl valid (known_super image known leaves some) (omega (arith, leaves.size, sized)) homes t v empty
    (λ b is_data. known_image image known leaves b is_data.0 (fits b is_data.1) is_data)
