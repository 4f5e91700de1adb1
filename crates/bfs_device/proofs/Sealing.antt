-- A group behind the others.
use Rattle.std.proofs.Common.{◌≡◌, inl, inr, ⊎_elim, ℕ, ◌+◌, ◌-◌, ◌*◌, ◌<◌, ◌≤◌, List, [], ◌∷◌, ◌++◌, length, refl, sym, ◌∙◌, ap, subst, arith, Bool, true, false, cond, nat_le, Option, Some, None, append_assoc, length-append}
use Rattle.std.specs.Vec.{vec_capacity}
use Rattle.std.proofs.lemmas.Bool.{cond-true, cond-false, le-leb, lt-leb}
use Rattle.std.proofs.lemmas.List.{append-nil}
use Rattle.bfs_disk.specs.State.{State, Filled, Holds}
use Rattle.bfs_disk.specs.Blocks.{contents_of}
use Rattle.bfs_disk.proofs.Joined.{known_quiet, contents_read}
use Rattle.bfs_disk.proofs.Known.{known_less}
use Rattle.bfs_base.specs.Images.{block}
use Rattle.bfs_super.specs.declared.sup.Super.{Super}
use Rattle.bfs_super.specs.Conditions.{natural, IsValid}
use Rattle.bfs_super.specs.Layout.{super_at}
use Rattle.bfs_log.specs.Replay.{Home, over, super_of}
use Rattle.bfs_txn.specs.declared.group.Group.{Group}
use Rattle.bfs_device.specs.declared.journal.Journal.{Journal}
use Rattle.bfs_device.specs.declared.journal.Phase.{Phase}
use Rattle.bfs_device.specs.declared.journal.Stop.{Stop}
use Rattle.bfs_txn.specs.Changed.{Ascends}
use Rattle.bfs_device.specs.Orders.{AllAscend}
use Rattle.bfs_device.proofs.Ordered.{ascend_more}
use Rattle.bfs_device.specs.Layouts.{Layout, IsData, layout_of, homes_in}
use Rattle.bfs_device.specs.Versions.{upto, used_upto, front_homes}
use Rattle.bfs_device.specs.Phases.{IsHomeOf, none, Plain, Rests, Stands}
use Rattle.bfs_device.specs.Books.{Books, Ready, Follow, IsNext, IsPhaseOf, IsPhaseFor, IsLastOf, IsVersion, IsRight, IsRightAs, RecoversOne, waiting, is_durable, durable_in, last_in, sealed_of, version, used_of}
use Rattle.bfs_device.specs.Steps.{first_phase, calls_left, calls_in, calls_of, calls_from}
use Rattle.bfs_device.specs.Seals.{used_behind, last_used, phase_with, sealed_with, calls_of_group}
use Rattle.bfs_device.proofs.Homes.{over_joined}
use Rattle.bfs_device.proofs.Sizes.{good, fits_sectors}
use Rattle.bfs_device.proofs.Going as going
use Rattle.bfs_device.proofs.Right.{to_version}
use Rattle.bfs_device.proofs.Stepping.{Known}

first_fits : (ps : List (ℕ × List ℕ)) → IsPhaseOf ps (first_phase ps)
first_fits [] = refl
first_fits (p ∷ ps) = omega arith

first_early : (ps : List (ℕ × List ℕ)) → is_durable (first_phase ps) ≡ false
first_early [] = refl
first_early (p ∷ ps) = refl

follow_more : (l : Layout) (size left used : ℕ) (gs : List Group) (g : Group) → Follow l size left used gs → IsNext l size (last_in left gs) (used_behind used gs) g → Follow l size left used (gs ++ g ∷ [])
follow_more l size left used [] g follow next = (next, tt)
follow_more l size left used (x ∷ gs) g follow next = (follow.0, follow_more l size x.last x.used gs g follow.1 next)

phase_more : (gs : List Group) (g : Group) (p : Phase) → IsPhaseFor gs p → IsPhaseFor (gs ++ g ∷ []) (phase_with g gs p)
phase_more [] g p fits = first_fits g.blocks
phase_more (x ∷ gs) g p fits = fits

length-more : (gs : List Group) (g : Group) → length (gs ++ g ∷ []) ≡ length gs + 1
length-more gs g = length-append gs (g ∷ [])

waiting_more : (gs : List Group) (g : Group) (p : Phase) → length (waiting (gs ++ g ∷ []) (phase_with g gs p)) ≡ length (waiting gs p) + 1
waiting_more [] g p = ap (λ (d : Bool). length (cond d [] (g ∷ []))) (first_early g.blocks)
waiting_more (x ∷ gs) g p = either (is_durable p)
  where
    either : (d : Bool) → length (cond d (gs ++ g ∷ []) (x ∷ (gs ++ g ∷ []))) ≡ length (cond d gs (x ∷ gs)) + 1
    either true = length-more gs g
    either false = omega (arith, length-more gs g)

pub sealed_ready : (j new : Journal) (g : Group) → Ready j → length j.groups.items < 16 → 1 ≤ j.spare → IsNext (layout_of j.sup) j.sup.block_size (last_in j.left j.groups.items) (used_behind (natural j.sup.used_blocks) j.groups.items) g
    → new.sup ≡ j.sup → (new.ordered ≡ true → (j.ordered ≡ true) × Ascends g.blocks) → new.groups.items ≡ j.groups.items ++ g ∷ [] → new.phase ≡ phase_with g j.groups.items j.phase → new.left ≡ j.left → vec_capacity j.groups ≤ vec_capacity new.groups → new.marks ≡ j.marks → new.spare ≡ j.spare - 1 → new.buffer ≡ j.buffer
    → Ready new
sealed_ready j new g ready may some next sup ordered items phase left room marks spare buffer =
    record {
      valid = subst IsValid (sym sup) ready.valid;
      empty = subst (λ (s : Super). s.log_start ≡ s.log_end) (sym sup) ready.empty;
      follow = subst (λ (s : Super). Follow (layout_of s) s.block_size new.left (natural s.used_blocks) new.groups.items) (sym sup)
          (subst (λ (n : ℕ). Follow (layout_of j.sup) j.sup.block_size n (natural j.sup.used_blocks) new.groups.items) (sym left)
          (subst (Follow (layout_of j.sup) j.sup.block_size j.left (natural j.sup.used_blocks)) (sym items) (follow_more (layout_of j.sup) j.sup.block_size j.left (natural j.sup.used_blocks) j.groups.items g ready.follow next)));
      phase = subst (λ (xs : List Group). IsPhaseFor xs new.phase) (sym items) (subst (IsPhaseFor (j.groups.items ++ g ∷ [])) (sym phase) (phase_more j.groups.items g j.phase ready.phase));
      ordered = λ is. subst AllAscend (sym items) (ascend_more j.groups.items g (ready.ordered (ordered is).0) (ordered is).1);
      few = let now = ap length items in omega (arith, may, now, length-more j.groups.items g);
      room = omega (arith, ready.room, room);
      marks =
          let wait : length (waiting new.groups.items new.phase) ≡ length (waiting j.groups.items j.phase) + 1 = ap (λ (xs : List Group). length (waiting xs new.phase)) items ∙ ap (λ (p : Phase). length (waiting (j.groups.items ++ g ∷ []) p)) phase ∙ waiting_more j.groups.items g j.phase in
          let stored : length new.marks.items ≡ length j.marks.items = ap (λ m. length m.items) marks in
          let has : vec_capacity new.marks ≡ vec_capacity j.marks = ap vec_capacity marks in
          omega (arith, ready.marks, wait, stored, has, spare, some);
      buffer = ap (λ b. length b.items) buffer ∙ ready.buffer ∙ sym (ap (λ (s : Super). s.block_size) sup);
    }

-- ---- versions

pub last_behind : (l : Layout) (size left used : ℕ) (gs : List Group) → Follow l size left used gs → left ≤ last_in left gs
last_behind l size left used [] follow = omega arith
last_behind l size left used (g ∷ gs) follow = let le = last_behind l size g.last g.used gs follow.1 in omega (arith, le, follow.0.follows, follow.0.sealed.order)

last_low : (l : Layout) (size left used n : ℕ) (gs : List Group) → Follow l size left used gs → IsLastOf n gs → n ≤ last_in left gs
last_low l size left used n [] follow one = absurd one
last_low l size left used n (g ∷ gs) follow one = ⊎_elim (λ here. let le = last_behind l size g.last g.used gs follow.1 in omega (arith, le, here)) (λ later. last_low l size g.last g.used n gs follow.1 later) one

upto_more : (n : ℕ) (gs : List Group) (g : Group) → upto n (gs ++ g ∷ []) ≡ upto n gs ++ (cond (nat_le g.last n) (homes_in g.blocks) [] ++ [])
upto_more n [] g = refl
upto_more n (x ∷ gs) g = ap (λ (hs : List Home). cond (nat_le x.last n) (homes_in x.blocks) [] ++ hs) (upto_more n gs g) ∙ sym (append_assoc (cond (nat_le x.last n) (homes_in x.blocks) []) (upto n gs) (cond (nat_le g.last n) (homes_in g.blocks) [] ++ []))

upto_earlier : (n : ℕ) (gs : List Group) (g : Group) → n < g.last → upto n (gs ++ g ∷ []) ≡ upto n gs
upto_earlier n gs g lt = upto_more n gs g ∙ ap (λ (hs : List Home). upto n gs ++ (hs ++ [])) (cond-false (nat_le g.last n) (homes_in g.blocks) [] (lt-leb g.last n lt)) ∙ append-nil (upto n gs)

used_earlier : (n u : ℕ) (gs : List Group) (g : Group) → n < g.last → used_upto n (gs ++ g ∷ []) u ≡ used_upto n gs u
used_earlier n u [] g lt = cond-false (nat_le g.last n) g.used u (lt-leb g.last n lt)
used_earlier n u (x ∷ gs) g lt = used_earlier n (cond (nat_le x.last n) x.used u) gs g lt

-- all groups, at any number from the last on
pub upto_all : (l : Layout) (size left used m n : ℕ) (gs : List Group) → Follow l size left used gs → last_in left gs ≤ m → last_in left gs ≤ n → upto m gs ≡ upto n gs
upto_all l size left used m n [] follow le_m le_n = refl
upto_all l size left used m n (g ∷ gs) follow le_m le_n =
    let low = last_behind l size g.last g.used gs follow.1 in
    let one : cond (nat_le g.last m) (homes_in g.blocks) [] ≡ cond (nat_le g.last n) (homes_in g.blocks) [] = cond-true (nat_le g.last m) (homes_in g.blocks) [] (le-leb g.last m (omega (arith, low, le_m))) ∙ sym (cond-true (nat_le g.last n) (homes_in g.blocks) [] (le-leb g.last n (omega (arith, low, le_n)))) in
    ap (λ (hs : List Home). hs ++ upto m gs) one ∙ ap (λ (hs : List Home). cond (nat_le g.last n) (homes_in g.blocks) [] ++ hs) (upto_all l size g.last g.used m n gs follow.1 le_m le_n)

module _ (b : Books) (g : Group) (know : Known b) (next : IsNext (layout_of b.sup) b.sup.block_size (sealed_of b) (last_used b) g) where
  durable_low : (gs : List Group) → Follow (layout_of b.sup) b.sup.block_size b.left (natural b.sup.used_blocks) gs → durable_in b.left gs b.phase ≤ last_in b.left gs
  durable_low [] follow = omega arith
  durable_low (x ∷ gs) follow = either (is_durable b.phase)
    where
      either : (d : Bool) → cond d x.last b.left ≤ last_in x.last gs
      either true = last_behind (layout_of b.sup) b.sup.block_size x.last x.used gs follow.1
      either false = let le = last_behind (layout_of b.sup) b.sup.block_size x.last x.used gs follow.1 in omega (arith, le, follow.0.follows, follow.0.sealed.order)

  waits_low : (n : ℕ) (gs : List Group) → Follow (layout_of b.sup) b.sup.block_size b.left (natural b.sup.used_blocks) gs → IsLastOf n (waiting gs b.phase) → n ≤ last_in b.left gs
  waits_low n [] follow one = absurd one
  waits_low n (x ∷ gs) follow one = either (is_durable b.phase) one
    where
      either : (d : Bool) → IsLastOf n (cond d gs (x ∷ gs)) → n ≤ last_in x.last gs
      either true later = last_low (layout_of b.sup) b.sup.block_size x.last x.used n gs follow.1 later
      either false any = last_low (layout_of b.sup) b.sup.block_size b.left (natural b.sup.used_blocks) n (x ∷ gs) follow any

  pub version_low : (n : ℕ) → IsVersion b n → n < g.last
  version_low n is =
      let le : n ≤ sealed_of b = ⊎_elim (λ here. let low = durable_low b.groups know.follow in omega (arith, here, low)) (λ one. waits_low n b.groups know.follow one) is in
      omega (arith, le, next.follows, next.sealed.order)

  pub older_version : (st : State) (n k : ℕ) → IsVersion b n → version (sealed_with b g) st n k ≡ version b st n k
  older_version st n k is = ap (λ (hs : List Home). over hs (contents_of st (layout_of b.sup).sectors) k) (upto_earlier n b.groups g (version_low n is))

  pub newest_version : (st : State) (k : ℕ) → version (sealed_with b g) st g.last k ≡ over (homes_in g.blocks) (version b st (sealed_of b)) k
  newest_version st k =
      let all : upto g.last b.groups ≡ upto (sealed_of b) b.groups = upto_all (layout_of b.sup) b.sup.block_size b.left (natural b.sup.used_blocks) g.last (sealed_of b) b.groups know.follow (omega (arith, next.follows, next.sealed.order)) (omega arith) in
      ap (λ (hs : List Home). over hs (contents_of st (layout_of b.sup).sectors) k)
      (upto_more g.last b.groups g ∙ ap (λ (hs : List Home). upto g.last b.groups ++ (hs ++ [])) (cond-true (nat_le g.last g.last) (homes_in g.blocks) [] (le-leb g.last g.last (omega arith))) ∙ ap (λ (hs : List Home). upto g.last b.groups ++ hs) (append-nil (homes_in g.blocks)) ∙ ap (λ (hs : List Home). hs ++ homes_in g.blocks) all)
      ∙ over_joined (upto (sealed_of b) b.groups) (homes_in g.blocks) (contents_of st (layout_of b.sup).sectors) k

  pub older_used : (n : ℕ) → IsVersion b n → used_of (sealed_with b g) n ≡ used_of b n
  older_used n is = used_earlier n (natural b.sup.used_blocks) b.groups g (version_low n is)

  used_last : (u : ℕ) (gs : List Group) → used_upto g.last (gs ++ g ∷ []) u ≡ g.used
  used_last u [] = cond-true (nat_le g.last g.last) g.used u (le-leb g.last g.last (omega arith))
  used_last u (x ∷ gs) = used_last (cond (nat_le x.last g.last) x.used u) gs

  pub newest_used : used_of (sealed_with b g) g.last ≡ g.used
  newest_used = used_last (natural b.sup.used_blocks) b.groups

  last_more : (n : ℕ) (gs : List Group) → IsLastOf n gs → IsLastOf n (gs ++ g ∷ [])
  last_more n [] one = absurd one
  last_more n (x ∷ gs) one = ⊎_elim (λ here. inl here) (λ later. inr (last_more n gs later)) one

  durable_more : (gs : List Group) → durable_in b.left (gs ++ g ∷ []) (phase_with g gs b.phase) ≡ durable_in b.left gs b.phase
  durable_more [] = ap (λ (d : Bool). cond d g.last b.left) (first_early g.blocks)
  durable_more (x ∷ gs) = refl

  waits_more : (n : ℕ) (gs : List Group) → IsLastOf n (waiting gs b.phase) → IsLastOf n (waiting (gs ++ g ∷ []) (phase_with g gs b.phase))
  waits_more n [] one = absurd one
  waits_more n (x ∷ gs) one = either (is_durable b.phase) one
    where
      either : (d : Bool) → IsLastOf n (cond d gs (x ∷ gs)) → IsLastOf n (cond d (gs ++ g ∷ []) (x ∷ (gs ++ g ∷ [])))
      either true later = last_more n gs later
      either false any = last_more n (x ∷ gs) any

  pub still_version : (n : ℕ) → IsVersion b n → IsVersion (sealed_with b g) n
  still_version n is = ⊎_elim (λ here. inl (here ∙ sym (durable_more b.groups))) (λ one. inr (waits_more n b.groups one)) is

  homes_more : (gs : List Group) (k : ℕ) → IsHomeOf (front_homes gs) k → IsHomeOf (front_homes (gs ++ g ∷ [])) k
  homes_more [] k one = absurd one
  homes_more (x ∷ xs) k one = one

  one_more : (t : ℕ → Bool) (st : State) (image : List ℕ) → RecoversOne b t st image → RecoversOne (sealed_with b g) t st image
  one_more t st image one = record {
    number = one.number;
    is_version = still_version one.number one.is_version;
    recovers = to_version b.sup t (version b st one.number) (version (sealed_with b g) st one.number) (used_of b one.number) (used_of (sealed_with b g) one.number) image
        (λ k is_data clear. sym (older_version st one.number k one.is_version)) (sym (used_earlier one.number (natural b.sup.used_blocks) b.groups g (version_low one.number one.is_version))) (homes_more b.groups) one.recovers;
  }

  stands_more : (gs : List Group) (t : ℕ → Bool) (st : State) → (let c : Books = record b { groups = gs } in IsRightAs None c t st) → (let c : Books = record b { groups = gs ++ g ∷ []; phase = phase_with g gs b.phase; spare = b.spare - 1 } in IsRightAs None c t st)
  stands_more [] t st rests = by_blocks g.blocks
    where
      by_blocks : (ps : List (ℕ × List ℕ)) → Stands b.sup g (contents_of st (layout_of b.sup).sectors) t st (first_phase ps)
      by_blocks [] = rests
      by_blocks (p ∷ ps) = going.begun b.sup g (contents_of st (layout_of b.sup).sectors) t know.valid next.sealed know.empty st rests
  stands_more (x ∷ gs) t st stands = stands

  as_more : (o : Option Stop) (t : ℕ → Bool) (st : State) → IsRightAs o b t st → IsRightAs o (sealed_with b g) t st
  as_more None t st right = stands_more b.groups t st right
  as_more (Some stop) t st right = λ image is. one_more t st image (right image is)

  pub sealed_right : (t : ℕ → Bool) (st : State) → IsRight b t st → IsRight (sealed_with b g) t st
  sealed_right t st right = as_more b.stop t st right

  calls_more : (gs : List Group) → calls_of (gs ++ g ∷ []) ≡ calls_of gs + calls_from g.blocks (first_phase g.blocks)
  calls_more [] = omega arith
  calls_more (x ∷ gs) = omega (arith, calls_more gs)

  calls_first : (ps : List (ℕ × List ℕ)) → calls_from ps (first_phase ps) ≤ calls_of_group (length ps)
  calls_first [] = omega arith
  calls_first (p ∷ ps) = omega arith

  calls_bound : (gs : List Group) → calls_in (gs ++ g ∷ []) (phase_with g gs b.phase) ≤ calls_in gs b.phase + calls_of_group (length g.blocks)
  calls_bound [] = omega (arith, calls_first g.blocks)
  calls_bound (x ∷ gs) = omega (arith, calls_more gs, calls_first g.blocks)

  pub sealed_calls : calls_left (sealed_with b g) ≤ calls_left b + calls_of_group (length g.blocks)
  sealed_calls = calls_bound b.groups

-- ---- a disk that was adopted

pub adopted_rests : (s : Super) (st : State) (image : List ℕ) → IsValid s → Filled st → (layout_of s).sectors * (layout_of s).blocks ≤ st.size → Holds image st → super_of image ≡ s → Rests s (contents_of st (layout_of s).sectors) none st
adopted_rests s st image valid filled sized holds is =
    let r : ℕ = (layout_of s).sectors in
    let fits : (b : ℕ) → IsData (layout_of s) b → r * b + r ≤ st.size = λ b d. omega (arith, fits_sectors s valid b d.1, sized) in
    let some : 1 < st.size = let f = fits_sectors s valid 0 (omega (arith, (good s valid).inside, (good s valid).behind_zero)) in omega (arith, f, sized, (good s valid).two) in
    let known = known_quiet st r image holds.quiet holds.reads some in
    let plain : (b : ℕ) (c : List ℕ) → c ≡ block r b image → Plain (layout_of s) none (contents_of st r) b c = λ b c e d. inr (e ∙ sym (known.reads b (contents_of st r b) d.0 (fits b d) (contents_read st r b filled (fits b d)))) in
    known_less _ _ _ _ known (λ c e. ap super_at e ∙ is) (λ c e. ap super_at e ∙ is) plain plain

-- ---- what the next group follows

end_more : (left : ℕ) (gs : List Group) (g : Group) → last_in left (gs ++ g ∷ []) ≡ g.last
end_more left [] g = refl
end_more left (x ∷ gs) g = end_more x.last gs g

used_more : (used : ℕ) (gs : List Group) (g : Group) → used_behind used (gs ++ g ∷ []) ≡ g.used
used_more used [] g = refl
used_more used (x ∷ gs) g = used_more x.used gs g

pub sealed_last : (b : Books) (g : Group) → sealed_of (sealed_with b g) ≡ g.last
sealed_last b g = end_more b.left b.groups g

pub sealed_used : (b : Books) (g : Group) → last_used (sealed_with b g) ≡ g.used
sealed_used b g = used_more (natural b.sup.used_blocks) b.groups g
