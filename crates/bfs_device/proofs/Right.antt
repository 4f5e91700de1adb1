-- A device stays right over its calls.
use Rattle.std.proofs.Common.{◌≡◌, ◌⊎◌, inl, inr, ⊎_elim, ℕ, ◌*◌, ◌<◌, ◌≤◌, List, [], ◌∷◌, ◌++◌, refl, sym, ◌∙◌, ap, subst, arith, Bool, true, false, cond, nat_le, Some}
use Rattle.std.proofs.lemmas.Bool.{cond-true, cond-false, le-leb, lt-leb}
use Rattle.std.proofs.lemmas.List.{append-nil}
use Rattle.bfs_disk.specs.State.{State, IsImage, Filled}
use Rattle.bfs_disk.specs.Blocks.{contents_of}
use Rattle.bfs_super.specs.declared.sup.Super.{Super}
use Rattle.bfs_super.specs.declared.geometry.Geometry.{Geometry}
use Rattle.bfs_super.specs.Conditions.{natural, IsValid}
use Rattle.bfs_super.specs.Geometry.{geometry_of}
use Rattle.bfs_log.specs.Replay.{Home, over, log_from, log_to}
use Rattle.bfs_txn.specs.declared.group.Group.{Group}
use Rattle.bfs_device.specs.declared.journal.Phase.{Phase}
use Rattle.bfs_device.specs.declared.journal.Phase.TheVariants.{Log, LogSafe, Open, OpenSafe, Home as GoHome, HomeSafe, Tail, TailSafe, Pass}
use Rattle.bfs_device.specs.Layouts.{Layout, IsData, layout_of, homes_in, closed_of}
use Rattle.bfs_device.specs.Versions.{RecoversTo, upto, used_upto}
use Rattle.bfs_device.specs.Calls.{Call, Write, Barrier, state_after, touched_after, LeftDuring}
use Rattle.bfs_device.specs.Phases.{IsHomeOf, Rests, Stands}
use Rattle.bfs_device.specs.Books.{Books, Follow, IsPhaseOf, IsLastOf, IsVersion, RecoversOne, Standing, is_durable, durable_in, version, used_of}
use Rattle.bfs_device.specs.Steps.{call_of, PrintsBack, next_phase, front_phase, first_phase, after_phase}
use Rattle.bfs_device.proofs.Homes.{over_same, over_joined}
use Rattle.bfs_device.proofs.Going as going
use Rattle.bfs_device.proofs.Phasing.{follows, MayRecover, stands_image, during_image, next_stands, stands_agrees, stands_read, rests_read, reads_plain, Agrees}
use Rattle.bfs_device.proofs.Fronts.{front_waiting}

-- ---- the groups up to a number

pub upto_low : (l : Layout) (size left used n : ℕ) (gs : List Group) → Follow l size left used gs → n ≤ left → upto n gs ≡ []
upto_low l size left used n [] follow le = refl
upto_low l size left used n (g ∷ gs) follow le =
    let lt : n < g.last = omega (arith, le, follow.0.follows, follow.0.sealed.order) in
    ap (λ (hs : List Home). hs ++ upto n gs) (cond-false (nat_le g.last n) (homes_in g.blocks) [] (lt-leb g.last n lt))
    ∙ upto_low l size g.last g.used n gs follow.1 (omega (arith, lt))

pub used_low : (l : Layout) (size left used n u : ℕ) (gs : List Group) → Follow l size left used gs → n ≤ left → used_upto n gs u ≡ u
used_low l size left used n u [] follow le = refl
used_low l size left used n u (g ∷ gs) follow le =
    let lt : n < g.last = omega (arith, le, follow.0.follows, follow.0.sealed.order) in
    ap (λ (k : ℕ). used_upto n gs k) (cond-false (nat_le g.last n) g.used u (lt-leb g.last n lt))
    ∙ used_low l size g.last g.used n u gs follow.1 (omega (arith, lt))

last_above : (l : Layout) (size left used n : ℕ) (gs : List Group) → Follow l size left used gs → IsLastOf n gs → left < n
last_above l size left used n [] follow one = absurd one
last_above l size left used n (g ∷ gs) follow one = ⊎_elim
    (λ here. omega (arith, here, follow.0.follows, follow.0.sealed.order))
    (λ later. let lt = last_above l size g.last g.used n gs follow.1 later in omega (arith, lt, follow.0.follows, follow.0.sealed.order)) one

module _ (l : Layout) (size left used n : ℕ) (g : Group) (gs : List Group) (follow : Follow l size left used (g ∷ gs)) where
  pub upto_with : g.last ≤ n → upto n (g ∷ gs) ≡ homes_in g.blocks ++ upto n gs
  upto_with le = ap (λ (hs : List Home). hs ++ upto n gs) (cond-true (nat_le g.last n) (homes_in g.blocks) [] (le-leb g.last n le))

  upto_first : upto g.last (g ∷ gs) ≡ homes_in g.blocks
  upto_first =
      ap (λ (hs : List Home). hs ++ upto g.last gs) (cond-true (nat_le g.last g.last) (homes_in g.blocks) [] (le-leb g.last g.last (omega arith)))
      ∙ ap (λ (hs : List Home). homes_in g.blocks ++ hs) (upto_low l size g.last g.used g.last gs follow.1 (omega arith))
      ∙ append-nil (homes_in g.blocks)

  used_first : (u : ℕ) → used_upto g.last (g ∷ gs) u ≡ g.used
  used_first u =
      ap (λ (k : ℕ). used_upto g.last gs k) (cond-true (nat_le g.last g.last) g.used u (le-leb g.last g.last (omega arith)))
      ∙ used_low l size g.last g.used g.last g.used gs follow.1 (omega arith)

-- the same version under another name
pub to_version : (s : Super) {hs hs' : List Home} (t : ℕ → Bool) (w w' : ℕ → List ℕ) (u u' : ℕ) (image : List ℕ) → ((b : ℕ) → IsData (layout_of s) b → t b ≡ false → w b ≡ w' b) → u ≡ u' → ((b : ℕ) → IsHomeOf hs b → IsHomeOf hs' b) → RecoversTo s hs t w u image → RecoversTo s hs' t w' u' image
to_version s t w w' u u' image same used widen recovers = record {
  result = recovers.result;
  replayed = recovers.replayed;
  valid = recovers.valid;
  emptied = recovers.emptied;
  geometry = recovers.geometry ∙ ap (λ (k : ℕ). let g : Geometry = record (geometry_of s) { used = k } in g) used;
  agrees = λ b is_data clear. recovers.agrees b is_data clear ∙ same b is_data clear;
  written = λ b some. ⊎_elim (λ one. inl (widen b one)) (λ same_block. inr same_block) (recovers.written b some);
}

-- the groups behind one that has left stand in the new version
front_stands : (v : ℕ → List ℕ) (t : ℕ → Bool) (st : State) (s : Super) (left : ℕ) (xs : List Group) → Follow (layout_of s) s.block_size left (natural s.used_blocks) xs → IsValid s → log_from s ≡ log_to s → Rests s v t st → Standing s xs (front_phase xs) v t st
front_stands v t st s left [] goes ok none_left known = known
front_stands v t st s left (x ∷ xs) goes ok none_left known = by_blocks x.blocks
  where
    by_blocks : (ps : List (ℕ × List ℕ)) → Stands s x v t st (first_phase ps)
    by_blocks [] = known
    by_blocks (p ∷ ps) = going.begun s x v t ok goes.0.sealed none_left st known

pub front_not_durable : (left : ℕ) (xs : List Group) → durable_in left xs (front_phase xs) ≡ left
front_not_durable left [] = refl
front_not_durable left (x ∷ xs) = by_blocks x.blocks
  where
    by_blocks : (ps : List (ℕ × List ℕ)) → cond (is_durable (first_phase ps)) x.last left ≡ left
    by_blocks [] = refl
    by_blocks (p ∷ ps) = refl

-- a device without a group
pub rest_one : (b : Books) → IsValid b.sup → log_from b.sup ≡ log_to b.sup → (t : ℕ → Bool) (st : State) → (layout_of b.sup).sectors * (layout_of b.sup).blocks ≤ st.size
    → Rests b.sup (contents_of st (layout_of b.sup).sectors) t st → (image : List ℕ) → IsImage st image → (let c : Books = record b { groups = [] } in RecoversOne c t st image)
rest_one b valid empty t st sized known image is = record {
  number = b.left;
  is_version = inl refl;
  recovers = going.rested_image b.sup [] (contents_of st (layout_of b.sup).sectors) t valid empty st sized image is known;
}

-- a call keeps the number of sectors
pub size_after : (call : Call) (st : State) → (state_after call st).size ≡ st.size
size_after (Write at bytes) st = refl
size_after Barrier st = refl

-- ---- a device whose first group is this

module _ (b : Books) (g : Group) (gs : List Group) (valid : IsValid b.sup) (empty : log_from b.sup ≡ log_to b.sup)
    (follow : Follow (layout_of b.sup) b.sup.block_size b.left (natural b.sup.used_blocks) (g ∷ gs)) where
  abbrev pub at : Phase → Books
  at p = record b { groups = g ∷ gs; phase = p }

  abbrev pub reading : State → ℕ → List ℕ
  reading st = contents_of st (layout_of b.sup).sectors

  -- an image that recovers to the version without the group
  before_one : (v : ℕ → List ℕ) (t : ℕ → Bool) (st : State) (p : Phase) (image : List ℕ) → is_durable p ≡ false → ((k : ℕ) → IsData (layout_of b.sup) k → t k ≡ false → v k ≡ reading st k)
      → RecoversTo b.sup (homes_in g.blocks) t v (natural b.sup.used_blocks) image → RecoversOne (at p) t st image
  before_one v t st p image early same recovers = record {
    number = b.left;
    is_version = inl (sym (cond-false (is_durable p) g.last b.left early));
    recovers = to_version b.sup t v (version (at p) st b.left) (natural b.sup.used_blocks) (used_of (at p) b.left) image
        (λ k is_data clear. same k is_data clear ∙ sym (ap (λ (hs : List Home). over hs (reading st) k) (upto_low (layout_of b.sup) b.sup.block_size b.left (natural b.sup.used_blocks) b.left (g ∷ gs) follow (omega arith))))
        (sym (used_low (layout_of b.sup) b.sup.block_size b.left (natural b.sup.used_blocks) b.left (natural b.sup.used_blocks) (g ∷ gs) follow (omega arith))) (λ i one. one) recovers;
  }

  -- and one that recovers to the version with it
  with_one : (v : ℕ → List ℕ) (t : ℕ → Bool) (st : State) (p : Phase) (image : List ℕ) → ((k : ℕ) → IsData (layout_of b.sup) k → t k ≡ false → over (homes_in g.blocks) v k ≡ over (homes_in g.blocks) (reading st) k)
      → RecoversTo b.sup (homes_in g.blocks) t (over (homes_in g.blocks) v) g.used image → RecoversOne (at p) t st image
  with_one v t st p image same recovers = record {
    number = g.last;
    is_version = by_phase (is_durable p);
    recovers = to_version b.sup t (over (homes_in g.blocks) v) (version (at p) st g.last) g.used (used_of (at p) g.last) image
        (λ k is_data clear. same k is_data clear ∙ sym (ap (λ (hs : List Home). over hs (reading st) k) (upto_first (layout_of b.sup) b.sup.block_size b.left (natural b.sup.used_blocks) g.last g gs follow)))
        (sym (used_first (layout_of b.sup) b.sup.block_size b.left (natural b.sup.used_blocks) g.last g gs follow (natural b.sup.used_blocks))) (λ i one. one) recovers;
  }
    where
      by_phase : (d : Bool) → (g.last ≡ cond d g.last b.left) ⊎ IsLastOf g.last (cond d gs (g ∷ gs))
      by_phase true = inl refl
      by_phase false = inr (inl refl)

  -- how what a disk reads agrees with the version: without the group where that isn't durable, with it in any case
  pub record Reading (v : ℕ → List ℕ) (t : ℕ → Bool) (st : State) (durable : Bool) : Type 0 where
    pub without : durable ≡ false → (k : ℕ) → IsData (layout_of b.sup) k → t k ≡ false → v k ≡ reading st k
    pub with_it : (k : ℕ) → IsData (layout_of b.sup) k → t k ≡ false → over (homes_in g.blocks) v k ≡ over (homes_in g.blocks) (reading st) k

  pub one_of : (v : ℕ → List ℕ) (t : ℕ → Bool) (st : State) (image : List ℕ) (p : Phase) → Reading v t st (is_durable p) → MayRecover b.sup g valid follow.0.sealed empty v t image p → RecoversOne (at p) t st image
  one_of v t st image (Log i) same may = before_one v t st (Log i) image refl (same.without refl) may
  one_of v t st image LogSafe same may = before_one v t st LogSafe image refl (same.without refl) may
  one_of v t st image Open same may = ⊎_elim (before_one v t st Open image refl (same.without refl)) (with_one v t st Open image same.with_it) may
  one_of v t st image OpenSafe same may = ⊎_elim (before_one v t st OpenSafe image refl (same.without refl)) (with_one v t st OpenSafe image same.with_it) may
  one_of v t st image (GoHome i) same may = with_one v t st (GoHome i) image same.with_it may
  one_of v t st image HomeSafe same may = with_one v t st HomeSafe image same.with_it may
  one_of v t st image Tail same may = with_one v t st Tail image same.with_it may
  one_of v t st image TailSafe same may = with_one v t st TailSafe image same.with_it may
  one_of v t st image Pass same may = before_one v t st Pass image refl (same.without refl) may

  same_reading : (t : ℕ → Bool) (st : State) (d : Bool) → Reading (reading st) t st d
  same_reading t st d = record { without = λ _ k _ _. refl; with_it = λ k _ _. refl }

  -- what a right device's disk leaves
  pub standing_one : (t : ℕ → Bool) (st : State) (p : Phase) → IsPhaseOf g.blocks p → (layout_of b.sup).sectors * (layout_of b.sup).blocks ≤ st.size → Stands b.sup g (reading st) t st p
      → (image : List ℕ) → IsImage st image → RecoversOne (at p) t st image
  standing_one t st p fits sized known image is = one_of (reading st) t st image p (same_reading t st (is_durable p)) (stands_image b.sup g valid follow.0.sealed empty (reading st) t st sized image p fits known is)

  -- and its call
  pub during_one : (t : ℕ → Bool) (st : State) (p : Phase) → IsPhaseOf g.blocks p → PrintsBack b.sup g p → (layout_of b.sup).sectors * (layout_of b.sup).blocks ≤ st.size → Stands b.sup g (reading st) t st p
      → (image : List ℕ) → LeftDuring (call_of b.sup g p) (Some st) image → RecoversOne (at p) t st image
  during_one t st p fits read sized known image is = one_of (reading st) t st image p (same_reading t st (is_durable p)) (during_image b.sup g valid follow.0.sealed empty (reading st) t st sized image p fits read known is)

  -- the versions' used blocks stay
  pub used_after : (p : Phase) → IsPhaseOf g.blocks p → (n : ℕ) → IsVersion (after_phase g gs (at p) p) n → used_of (after_phase g gs (at p) p) n ≡ used_of (at p) n
  used_after (Log i) fits n is = refl
  used_after LogSafe fits n is = refl
  used_after Open fits n is = refl
  used_after OpenSafe fits n is = refl
  used_after (GoHome i) fits n is = refl
  used_after HomeSafe fits n is = refl
  used_after Tail fits n is = refl
  used_after TailSafe fits n is =
      let later : g.last ≤ n = ⊎_elim
      (λ here. let e = here ∙ front_not_durable g.last gs in omega (arith, e))
      (λ one. let lt = last_above (layout_of b.sup) b.sup.block_size g.last g.used n gs follow.1 (subst (IsLastOf n) (front_waiting gs) one) in omega (arith, lt)) is in
      ap (λ (u : ℕ). used_upto n gs u) (sym (cond-true (nat_le g.last n) g.used (natural b.sup.used_blocks) (le-leb g.last n later)))
  used_after Pass fits n is = ap (λ (u : ℕ). used_upto n gs u) (either (nat_le g.last n))
    where
      either : (d : Bool) → natural b.sup.used_blocks ≡ cond d g.used (natural b.sup.used_blocks)
      either true = sym (follow.0.same_used fits)
      either false = refl

  -- ---- after the call has succeeded

  module _ (t : ℕ → Bool) (st : State) (sized : (layout_of b.sup).sectors * (layout_of b.sup).blocks ≤ st.size) where
    goes : (p : Phase) → (p ≡ TailSafe → ⊥) → (p ≡ Pass → ⊥) → IsPhaseOf g.blocks p → PrintsBack b.sup g p → Filled (state_after (call_of b.sup g p) st) → Stands b.sup g (reading st) t st p
        → Stands b.sup g (reading (state_after (call_of b.sup g p) st)) (touched_after (call_of b.sup g p) t) (state_after (call_of b.sup g p) st) (next_phase g p)
    goes p not_tail not_pass fits read filled known =
        stands_read b.sup (state_after (call_of b.sup g p) st) filled valid (omega (arith, size_after (call_of b.sup g p) st, sized)) g (reading st) (touched_after (call_of b.sup g p) t) (next_phase g p)
        (next_stands b.sup g valid follow.0.sealed empty (reading st) (touched_after (call_of b.sup g p) t) (state_after (call_of b.sup g p) st) p not_tail not_pass fits
        (follows b.sup g valid follow.0.sealed empty (reading st) t st p fits read known))

    abbrev pub IsRightAfter : Phase → Type 0
    IsRightAfter p = Standing (after_phase g gs (at p) p).sup (after_phase g gs (at p) p).groups (after_phase g gs (at p) p).phase
        (contents_of (state_after (call_of b.sup g p) st) (layout_of (after_phase g gs (at p) p).sup).sectors) (touched_after (call_of b.sup g p) t) (state_after (call_of b.sup g p) st)

    pub right_after : (p : Phase) → IsPhaseOf g.blocks p → PrintsBack b.sup g p → Filled (state_after (call_of b.sup g p) st) → Stands b.sup g (reading st) t st p → IsRightAfter p
    right_after (Log i) fits read filled known = goes (Log i) (λ e. absurd (cc)) (λ e. absurd (cc)) fits read filled known
    right_after LogSafe fits read filled known = goes LogSafe (λ e. absurd (cc)) (λ e. absurd (cc)) fits read filled known
    right_after Open fits read filled known = goes Open (λ e. absurd (cc)) (λ e. absurd (cc)) fits read filled known
    right_after OpenSafe fits read filled known = goes OpenSafe (λ e. absurd (cc)) (λ e. absurd (cc)) fits read filled known
    right_after (GoHome i) fits read filled known = goes (GoHome i) (λ e. absurd (cc)) (λ e. absurd (cc)) fits read filled known
    right_after HomeSafe fits read filled known = goes HomeSafe (λ e. absurd (cc)) (λ e. absurd (cc)) fits read filled known
    right_after Tail fits read filled known = goes Tail (λ e. absurd (cc)) (λ e. absurd (cc)) fits read filled known
    right_after TailSafe fits read filled known =
        let s : Super = closed_of b.sup g in
        let st' : State = state_after (call_of b.sup g TailSafe) st in
        let ok : IsValid s = going.closed_valid b.sup g (reading st) t valid follow.0.sealed empty in
        let rests = follows b.sup g valid follow.0.sealed empty (reading st) t st TailSafe fits read known in
        front_stands _ _ st' s g.last gs follow.1 ok refl (rests_read s st' filled ok sized (over (homes_in g.blocks) (reading st)) _ rests)
    right_after Pass fits read filled known =
        let st' : State = state_after (call_of b.sup g Pass) st in
        let rests = follows b.sup g valid follow.0.sealed empty (reading st) t st Pass fits read known in
        let same : g.used ≡ natural b.sup.used_blocks = follow.0.same_used fits in
        front_stands _ _ st' b.sup g.last gs (subst (λ (u : ℕ). Follow (layout_of b.sup) b.sup.block_size g.last u gs) same follow.1) valid empty (rests_read b.sup st' filled valid sized (reading st) _ rests)

    -- the versions stay: where what the disk reads agrees, without the group or with it
    pub kept_by : (d : Bool) (n : ℕ) (new : State) (k : ℕ) → Agrees g (reading st) (reading new) d k → (d ≡ true → g.last ≤ n) → over (upto n (g ∷ gs)) (reading new) k ≡ over (upto n (g ∷ gs)) (reading st) k
    kept_by true n new k agree later =
        let is = upto_with (layout_of b.sup) b.sup.block_size b.left (natural b.sup.used_blocks) n g gs follow (later refl) in
        ap (λ (hs : List Home). over hs (reading new) k) is ∙ over_joined (homes_in g.blocks) (upto n gs) (reading new) k
        ∙ over_same (upto n gs) (over (homes_in g.blocks) (reading new)) (over (homes_in g.blocks) (reading st)) k agree
        ∙ sym (over_joined (homes_in g.blocks) (upto n gs) (reading st) k) ∙ ap (λ (hs : List Home). over hs (reading st) k) (sym is)
    kept_by false n new k agree later = over_same (upto n (g ∷ gs)) (reading new) (reading st) k agree

    pub later_one : (n : ℕ) (p : Phase) → IsVersion (at p) n → is_durable p ≡ true → g.last ≤ n
    later_one n p is durable = ⊎_elim
        (λ here. let e = here ∙ cond-true (is_durable p) g.last b.left durable in omega (arith, e))
        (λ one. let lt = last_above (layout_of b.sup) b.sup.block_size g.last g.used n gs follow.1 (subst (IsLastOf n) (cond-true (is_durable p) gs (g ∷ gs) durable) one) in omega (arith, lt))
        is

    goes_kept : (p : Phase) → (p ≡ TailSafe → ⊥) → (p ≡ Pass → ⊥) → IsPhaseOf g.blocks p → PrintsBack b.sup g p → Filled (state_after (call_of b.sup g p) st) → Stands b.sup g (reading st) t st p
        → (n : ℕ) → IsVersion (at (next_phase g p)) n → (k : ℕ) → IsData (layout_of b.sup) k
        → over (upto n (g ∷ gs)) (reading (state_after (call_of b.sup g p) st)) k ≡ over (upto n (g ∷ gs)) (reading st) k
    goes_kept p not_tail not_pass fits read filled known n is k is_data =
        let st' : State = state_after (call_of b.sup g p) st in
        let next = next_stands b.sup g valid follow.0.sealed empty (reading st) (touched_after (call_of b.sup g p) t) st' p not_tail not_pass fits (follows b.sup g valid follow.0.sealed empty (reading st) t st p fits read known) in
        kept_by (is_durable (next_phase g p)) n st' k
        (stands_agrees b.sup st' filled valid (omega (arith, size_after (call_of b.sup g p) st, sized)) g (reading st) (touched_after (call_of b.sup g p) t) (next_phase g p) next k is_data)
        (later_one n (next_phase g p) is)

    abbrev pub AreKept : Phase → Type 0
    AreKept p = (n : ℕ) → IsVersion (after_phase g gs (at p) p) n → (k : ℕ) → IsData (layout_of b.sup) k
        → version (after_phase g gs (at p) p) (state_after (call_of b.sup g p) st) n k ≡ version (at p) st n k

    tail_kept : IsPhaseOf g.blocks TailSafe → PrintsBack b.sup g TailSafe → Filled (state_after (call_of b.sup g TailSafe) st) → Stands b.sup g (reading st) t st TailSafe → AreKept TailSafe
    tail_kept fits read filled known n is k is_data =
        let s : Super = closed_of b.sup g in
        let st' : State = state_after (call_of b.sup g TailSafe) st in
        let ok : IsValid s = going.closed_valid b.sup g (reading st) t valid follow.0.sealed empty in
        let rests = follows b.sup g valid follow.0.sealed empty (reading st) t st TailSafe fits read known in
        let later : g.last ≤ n = ⊎_elim
        (λ here. let e = here ∙ front_not_durable g.last gs in omega (arith, e))
        (λ one. let lt = last_above (layout_of b.sup) b.sup.block_size g.last g.used n gs follow.1 (subst (IsLastOf n) (front_waiting gs) one) in omega (arith, lt)) is in
        over_same (upto n gs) (reading st') (over (homes_in g.blocks) (reading st)) k (reads_plain s st' filled ok sized (over (homes_in g.blocks) (reading st)) rests k is_data)
        ∙ sym (over_joined (homes_in g.blocks) (upto n gs) (reading st) k)
        ∙ ap (λ (hs : List Home). over hs (reading st) k) (sym (upto_with (layout_of b.sup) b.sup.block_size b.left (natural b.sup.used_blocks) n g gs follow later))

    either_none : (d : Bool) → cond {A = List Home} d [] [] ≡ []
    either_none true = refl
    either_none false = refl

    pass_kept : IsPhaseOf g.blocks Pass → PrintsBack b.sup g Pass → Filled (state_after (call_of b.sup g Pass) st) → Stands b.sup g (reading st) t st Pass → AreKept Pass
    pass_kept fits read filled known n is k is_data =
        let st' : State = state_after (call_of b.sup g Pass) st in
        let rests = follows b.sup g valid follow.0.sealed empty (reading st) t st Pass fits read known in
        let same : upto n gs ≡ upto n (g ∷ gs) = sym (ap (λ (ps : List (ℕ × List ℕ)). cond (nat_le g.last n) (homes_in ps) [] ++ upto n gs) fits ∙ ap (λ (hs : List Home). hs ++ upto n gs) (either_none (nat_le g.last n))) in
        over_same (upto n gs) (reading st') (reading st) k (reads_plain b.sup st' filled valid sized (reading st) rests k is_data)
        ∙ ap (λ (hs : List Home). over hs (reading st) k) same

    pub versions_after : (p : Phase) → IsPhaseOf g.blocks p → PrintsBack b.sup g p → Filled (state_after (call_of b.sup g p) st) → Stands b.sup g (reading st) t st p → AreKept p
    versions_after (Log i) fits read filled known = goes_kept (Log i) (λ e. absurd (cc)) (λ e. absurd (cc)) fits read filled known
    versions_after LogSafe fits read filled known = goes_kept LogSafe (λ e. absurd (cc)) (λ e. absurd (cc)) fits read filled known
    versions_after Open fits read filled known = goes_kept Open (λ e. absurd (cc)) (λ e. absurd (cc)) fits read filled known
    versions_after OpenSafe fits read filled known = goes_kept OpenSafe (λ e. absurd (cc)) (λ e. absurd (cc)) fits read filled known
    versions_after (GoHome i) fits read filled known = goes_kept (GoHome i) (λ e. absurd (cc)) (λ e. absurd (cc)) fits read filled known
    versions_after HomeSafe fits read filled known = goes_kept HomeSafe (λ e. absurd (cc)) (λ e. absurd (cc)) fits read filled known
    versions_after Tail fits read filled known = goes_kept Tail (λ e. absurd (cc)) (λ e. absurd (cc)) fits read filled known
    versions_after TailSafe fits read filled known = tail_kept fits read filled known
    versions_after Pass fits read filled known = pass_kept fits read filled known
