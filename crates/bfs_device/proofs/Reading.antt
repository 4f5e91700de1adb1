-- Blocks that are read, and one that is written.
use Rattle.std.proofs.Common.{◌≡◌, ◌≢◌, inl, inr, ⊎_elim, ℕ, ◌+◌, ◌-◌, ◌*◌, ◌<◌, ◌≤◌, ◌==◌, ◌||◌, List, [], ◌∷◌, ◌++◌, length, drop, get_or, refl, sym, ◌∙◌, ap, subst, arith, Bool, true, false, cond, nat_le, Option, Some, None, IfSome, Result, length-drop}
use Rattle.std.proofs.lemmas.Bool.{cond-true, eq-eqb, le-leb, true≢false}
use Rattle.std.proofs.lemmas.List.{length-take-le}
use Rattle.bfs_base.specs.Images.{sector, joined}
use Rattle.bfs_base.specs.Moments.{Elapses, Passed}
use Rattle.bfs_base.proofs.Moments.{passed_one}
use Rattle.bfs_base.proofs.Sectors.{same_sectors, length-joined, sector-joined}
use Rattle.bfs_disk.specs.State.{State, IsImage, IsHalfWritten, Filled, Tells, newest as newest_sector, written, names}
use Rattle.bfs_disk.specs.Disk.{MayLeave, ReadsSectors, told_written, HalfWritten}
use Rattle.bfs_disk.specs.Blocks.{AreRead, Known as Seen, contents_of}
use Rattle.bfs_disk.proofs.Names.{names_inside}
use Rattle.bfs_disk.proofs.Joined.{block_of_sectors}
use Rattle.bfs_disk.proofs.Known.{known_block_written}
use Rattle.bfs_disk.proofs.Calls.{half_image}
use Rattle.bfs_super.specs.declared.sup.Super.{Super}
use Rattle.bfs_super.specs.Conditions.{natural, IsValid}
use Rattle.bfs_log.specs.Replay.{Home, over, put, log_from}
use Rattle.bfs_txn.specs.Changed.{or_else, newest}
use Rattle.bfs_txn.specs.Laws.{newest_sized}
use Rattle.bfs_txn.specs.declared.group.Group.{Group}
use Rattle.bfs_device.specs.declared.journal.Phase.{Phase}
use Rattle.bfs_device.specs.declared.journal.Phase.TheVariants.{Log, LogSafe, Open, OpenSafe, Home as GoHome, HomeSafe, Tail, TailSafe, Pass}
use Rattle.bfs_device.specs.declared.journal.Stop.{Stop}
use Rattle.bfs_device.specs.Layouts.{Layout, IsData, layout_of, homes_in, ring_count, log_block, slot}
use Rattle.bfs_device.specs.Versions.{upto}
use Rattle.bfs_device.specs.Phases.{IsHomeOf, none, Keeps, Plain, Rests, Stands}
use Rattle.bfs_device.specs.Books.{Books, Follow, IsPhaseOf, IsSealed, IsOnDisk, IsRight, IsRightAs, RecoversOne, version, sealed_of, last_in}
use Rattle.bfs_device.specs.Data.{newest_in, touching, AreSameBut}
use Rattle.bfs_device.specs.Steps.{halted}
use Rattle.bfs_device.proofs.Homes.{over_same, over_out, over_joined, home_of}
use Rattle.bfs_device.proofs.Sizes.{good, sizes, from_low, in_range}
use Rattle.bfs_device.proofs.Going.{slot_inside, log_not_data}
use Rattle.bfs_device.proofs.Failing.{block_others, half_others, written_others}
use Rattle.bfs_device.proofs.Right.{to_version}
use Rattle.bfs_device.proofs.Sealing.{last_behind}
use Rattle.bfs_device.proofs.Stepping.{Known, on_state, filled_state, standing_of, now_as, now_right, again_one}

-- what was read is what the disk reads
pub reads_as : (s : Super) (told : Option State) (size : Option ℕ) (b : ℕ) (bytes : List ℕ) → IsValid s → IfSome told Filled → IfSome told (λ x. size ≡ Some x.size) → IsOnDisk size s → b < (layout_of s).blocks → length bytes ≡ s.block_size
    → ReadsSectors told ((layout_of s).sectors * b) bytes → AreRead told (layout_of s).sectors b bytes
reads_as s told size b bytes valid filled law on lt long each =
    block_of_sectors told size (layout_of s).sectors b bytes filled law (in_range s valid size b bytes on lt long) (long ∙ (sizes s valid).0) each

-- ---- the newest bytes

or_some : Option (List ℕ) → List ℕ → List ℕ
or_some None d = d
or_some (Some x) d = x

or_both : (a b : Option (List ℕ)) (d : List ℕ) → or_some (or_else a b) d ≡ or_some a (or_some b d)
unfolding or_some
or_both None b d = refl
or_both (Some x) b d = refl

over_pairs : (ps : List (ℕ × List ℕ)) (f : ℕ → List ℕ) (k : ℕ) → over (homes_in ps) f k ≡ or_some (newest ps k) (f k)
unfolding or_some
over_pairs [] f k = refl
over_pairs (p ∷ ps) f k = over_pairs ps (put (home_of p) f) k ∙ ap (or_some (newest ps k)) (one (k == p.0)) ∙ sym (or_both (newest ps k) (cond (k == p.0) (Some p.1) None) (f k))
  where
    one : (d : Bool) → cond d p.1 (f k) ≡ or_some (cond d (Some p.1) None) (f k)
    one true = refl
    one false = refl

over_groups : (l : Layout) (size left used n : ℕ) (gs : List Group) (f : ℕ → List ℕ) (k : ℕ) → Follow l size left used gs → last_in left gs ≤ n → over (upto n gs) f k ≡ or_some (newest_in gs k) (f k)
unfolding or_some
over_groups l size left used n [] f k follow le = refl
over_groups l size left used n (g ∷ gs) f k follow le =
    let low = last_behind l size g.last g.used gs follow.1 in
    ap (λ (hs : List Home). over (hs ++ upto n gs) f k) (cond-true (nat_le g.last n) (homes_in g.blocks) [] (le-leb g.last n (omega (arith, low, le))))
    ∙ over_joined (homes_in g.blocks) (upto n gs) f k
    ∙ over_groups l size g.last g.used n gs (over (homes_in g.blocks) f) k follow.1 le
    ∙ ap (or_some (newest_in gs k)) (over_pairs g.blocks f k)
    ∙ sym (or_both (newest_in gs k) (newest g.blocks k) (f k))

pub newest_sealed : (b : Books) (st : State) (k : ℕ) (bytes : List ℕ) → Known b → newest_in b.groups k ≡ Some bytes → bytes ≡ version b st (sealed_of b) k
unfolding or_some
newest_sealed b st k bytes know is = sym (over_groups (layout_of b.sup) b.sup.block_size b.left (natural b.sup.used_blocks) (sealed_of b) b.groups (contents_of st (layout_of b.sup).sectors) k know.follow (omega arith) ∙ ap (λ (o : Option (List ℕ)). or_some o (contents_of st (layout_of b.sup).sectors k)) is)

pub newest_read : (b : Books) (st : State) (k : ℕ) → Known b → newest_in b.groups k ≡ None → contents_of st (layout_of b.sup).sectors k ≡ version b st (sealed_of b) k
unfolding or_some
newest_read b st k know is = sym (over_groups (layout_of b.sup) b.sup.block_size b.left (natural b.sup.used_blocks) (sealed_of b) b.groups (contents_of st (layout_of b.sup).sectors) k know.follow (omega arith) ∙ ap (λ (o : Option (List ℕ)). or_some o (contents_of st (layout_of b.sup).sectors k)) is)

or_none : (a b : Option (List ℕ)) → or_else a b ≡ None → (a ≡ None) × (b ≡ None)
or_none None b is = (refl, is)
or_none (Some x) b is = absurd (cc)

not_home : (ps : List (ℕ × List ℕ)) (k : ℕ) → newest ps k ≡ None → IsHomeOf (homes_in ps) k → ⊥
not_home [] k is one = one
not_home (p ∷ ps) k is one =
    let parts = or_none (newest ps k) (cond (k == p.0) (Some p.1) None) is in
    ⊎_elim (λ here. none_some (sym (cond-true (k == p.0) (Some p.1) None (eq-eqb k p.0 here)) ∙ parts.1)) (λ later. not_home ps k parts.0 later) one
  where
    none_some : Some p.1 ≡ None → ⊥
    none_some e = absurd (cc)

-- ---- a block that is written

touched_here : (b : ℕ) (t : ℕ → Bool) → touching b t b ≡ true
touched_here b t = ap (λ (d : Bool). d || t b) (eq-eqb b b refl)

touched_else : (b : ℕ) (t : ℕ → Bool) (k : ℕ) → t k ≡ true → touching b t k ≡ true
touched_else b t k is = either (k == b)
  where
    either : (d : Bool) → (d || t k) ≡ true
    either true = refl
    either false = is

clear_other : (b : ℕ) (t : ℕ → Bool) (k : ℕ) → touching b t k ≡ false → k ≢ b
clear_other b t k clear same = true≢false (sym (ap (λ (d : Bool). d || t k) (eq-eqb k b same)) ∙ clear)

pub written_here : (st : State) (r b : ℕ) (bytes : List ℕ) → length bytes ≡ 512 * r → contents_of (written st (r * b) bytes) r b ≡ bytes
written_here st r b bytes long =
    let f : ℕ → List ℕ = λ j. newest_sector (written st (r * b) bytes) (r * b + j) in
    let here : (j : ℕ) → j < r → f j ≡ sector j bytes = λ j lt.
    ap (λ cs. get_or cs 0 []) (cond-true (names (r * b) bytes (r * b + j)) (sector (r * b + j - r * b) bytes ∷ st.contents (r * b + j)) (st.contents (r * b + j)) (names_inside (r * b) (r * b + j) bytes (omega arith) (omega (arith, long, lt))))
    ∙ ap (λ (i : ℕ). sector i bytes) (let e : r * b + j - r * b ≡ j = omega arith in e) in
    let each : (j : ℕ) → j < r → length (f j) ≡ 512 = λ j lt. ap length (here j lt) ∙ length-take-le 512 (drop (512 * j) bytes) (omega (arith, lt, long, length-drop (512 * j) bytes)) in
    same_sectors r (joined r f) bytes (length-joined r f each ∙ sym long) (omega (arith, length-joined r f each)) (λ j lt. sector-joined r f j each lt ∙ here j lt)

module _ (s : Super) (valid : IsValid s) (st : State) (b : ℕ) (bytes : List ℕ) (data_block : IsData (layout_of s) b) (long : length bytes ≡ 512 * (layout_of s).sectors) (t : ℕ → Bool) where
  abbrev r : ℕ
  r = (layout_of s).sectors

  abbrev after : State
  after = written st ((layout_of s).sectors * b) bytes

  others : (k : ℕ) → k ≢ b → contents_of after r k ≡ contents_of st r k
  others k other = written_others st (r * b) r k bytes (λ j lt. block_others r b k j bytes long other lt)

  held_written : {S T : List ℕ → Type 0} (B : ℕ → List ℕ) (loose loose' : List Home) (w w' : ℕ → List ℕ) (m m' : ℕ) → m ≤ s.log_blocks.len → m' ≤ s.log_blocks.len
      → ((k : ℕ) → k ≢ b → w k ≡ w' k) → bytes ≡ w' b
      → Seen st r S T (Keeps (layout_of s) (log_from s) B loose t w m) (Keeps (layout_of s) (log_from s) B loose' none w m')
      → Seen after r S T (Keeps (layout_of s) (log_from s) B loose (touching b t) w' m) (Keeps (layout_of s) (log_from s) B loose' none w' m')
  held_written B loose loose' w w' m m' low low' same here known =
      let no_slot : (j : ℕ) → j < s.log_blocks.len → b ≡ slot (layout_of s) (log_from s) j → ⊥ = λ j lt e.
      let inside = slot_inside (layout_of s) (log_from s) j (from_low s valid) lt in log_not_data (layout_of s) b (omega (arith, e, inside.0)) (omega (arith, e, inside.1)) data_block in
      known_block_written _ _ b bytes (good s valid).two data_block.0 long known
      (λ k c other kept. record { held = λ d. ⊎_elim (λ home. inl home) (λ rest. inr (⊎_elim (λ dirty. inl (touched_else b t k dirty)) (λ e. inr (e ∙ same k other)) rest)) (kept.held d); ring = kept.ring })
      (λ k c other kept. record { held = λ d. ⊎_elim (λ home. inl home) (λ rest. inr (⊎_elim (λ dirty. inl dirty) (λ e. inr (e ∙ same k other)) rest)) (kept.held d); ring = kept.ring })
      (λ c. record { held = λ _. inr (inl (touched_here b t)); ring = λ j lt e. absurd (no_slot j (omega (arith, lt, low)) e) })
      (record { held = λ _. inr (inr here); ring = λ j lt e. absurd (no_slot j (omega (arith, lt, low')) e) })

  plain_written : {S T : List ℕ → Type 0} (w w' : ℕ → List ℕ) → ((k : ℕ) → k ≢ b → w k ≡ w' k) → bytes ≡ w' b
      → Seen st r S T (Plain (layout_of s) t w) (Plain (layout_of s) none w) → Seen after r S T (Plain (layout_of s) (touching b t) w') (Plain (layout_of s) none w')
  plain_written w w' same here known =
      known_block_written _ _ b bytes (good s valid).two data_block.0 long known
      (λ k c other kept d. ⊎_elim (λ dirty. inl (touched_else b t k dirty)) (λ e. inr (e ∙ same k other)) (kept d))
      (λ k c other kept d. ⊎_elim (λ dirty. inl dirty) (λ e. inr (e ∙ same k other)) (kept d))
      (λ c d. inl (touched_here b t))
      (λ d. inr here)

  plain_same : (k : ℕ) → k ≢ b → contents_of st r k ≡ contents_of after r k
  plain_same k other = sym (others k other)

  plain_here : bytes ≡ contents_of after r b
  plain_here = sym (written_here st r b bytes long)

  rests_written : Rests s (contents_of st (layout_of s).sectors) t st → Rests s (contents_of after (layout_of s).sectors) (touching b t) after
  rests_written known = plain_written _ _ plain_same plain_here known

  module _ (g : Group) (sealed : IsSealed (layout_of s) s.block_size g) (apart : newest g.blocks b ≡ None) where
    home_same : (k : ℕ) → k ≢ b → over (homes_in g.blocks) (contents_of st r) k ≡ over (homes_in g.blocks) (contents_of after r) k
    home_same k other = over_same (homes_in g.blocks) (contents_of st r) (contents_of after r) k (plain_same k other)

    home_here : bytes ≡ over (homes_in g.blocks) (contents_of after r) b
    home_here = plain_here ∙ sym (over_out (homes_in g.blocks) (contents_of after r) b (not_home g.blocks b apart))

    all : ring_count g.blocks ≤ s.log_blocks.len
    all = omega (arith, sealed.room)

    stands_written : (p : Phase) → IsPhaseOf g.blocks p → Stands s g (contents_of st (layout_of s).sectors) t st p → Stands s g (contents_of after (layout_of s).sectors) (touching b t) after p
    stands_written (Log i) fits known = held_written (log_block s g.blocks) [] [] _ _ 0 i (omega arith) (omega (arith, fits, all)) plain_same plain_here known
    stands_written LogSafe fits known = held_written (log_block s g.blocks) [] [] _ _ 0 (ring_count g.blocks) (omega arith) all plain_same plain_here known
    stands_written Open fits known = held_written (log_block s g.blocks) [] [] _ _ (ring_count g.blocks) (ring_count g.blocks) all all plain_same plain_here known
    stands_written OpenSafe fits known = held_written (log_block s g.blocks) [] [] _ _ (ring_count g.blocks) (ring_count g.blocks) all all plain_same plain_here known
    stands_written (GoHome i) fits known = held_written (log_block s g.blocks) (homes_in g.blocks) (drop i (homes_in g.blocks)) _ _ (ring_count g.blocks) (ring_count g.blocks) all all home_same home_here known
    stands_written HomeSafe fits known = held_written (log_block s g.blocks) (homes_in g.blocks) (drop (length g.blocks) (homes_in g.blocks)) _ _ (ring_count g.blocks) (ring_count g.blocks) all all home_same home_here known
    stands_written Tail fits known = held_written (log_block s g.blocks) [] [] _ _ (ring_count g.blocks) (ring_count g.blocks) all all home_same home_here known
    stands_written TailSafe fits known = held_written (log_block s g.blocks) [] [] _ _ (ring_count g.blocks) (ring_count g.blocks) all all home_same home_here known
    stands_written Pass fits known = rests_written known

standing_written : (b : Books) (groups : List Group) → (let c : Books = record b { groups = groups } in Known c) → (t : ℕ → Bool) (st : State) (k : ℕ) (bytes : List ℕ) → IsData (layout_of b.sup) k → length bytes ≡ 512 * (layout_of b.sup).sectors → newest_in groups k ≡ None
    → (let c : Books = record b { groups = groups } in IsRightAs None c t st) → (let c : Books = record b { groups = groups } in IsRightAs None c (touching k t) (written st ((layout_of b.sup).sectors * k) bytes))
standing_written b [] know t st k bytes is_data long apart right = rests_written b.sup know.valid st k bytes is_data long t right
standing_written b (g ∷ gs) know t st k bytes is_data long apart right =
    stands_written b.sup know.valid st k bytes is_data long t g know.follow.0.sealed (or_none (newest_in gs k) (newest g.blocks k) apart).1 b.phase know.phase right

-- an image that recovers to a version that another state reads alike
read_one : (b : Books) (t : ℕ → Bool) (one other : State) (image : List ℕ) → ((k : ℕ) → IsData (layout_of b.sup) k → t k ≡ false → contents_of one (layout_of b.sup).sectors k ≡ contents_of other (layout_of b.sup).sectors k) → RecoversOne b t one image → RecoversOne b t other image
read_one b t one other image same recovers = record {
  number = recovers.number;
  is_version = recovers.is_version;
  recovers = to_version b.sup t (version b one recovers.number) (version b other recovers.number) _ _ image (λ k d clear. over_same (upto recovers.number b.groups) (contents_of one (layout_of b.sup).sectors) (contents_of other (layout_of b.sup).sectors) k (same k d clear)) refl (λ i one. one) recovers.recovers;
}

module _ (b : Books) (know : Known b) (none_yet : b.stop ≡ None) (t : ℕ → Bool) (st : State) (filled : Filled st) (sized : (layout_of b.sup).sectors * (layout_of b.sup).blocks ≤ st.size) (right : IsRight b t st)
    (k : ℕ) (bytes : List ℕ) (is_data : IsData (layout_of b.sup) k) (long : length bytes ≡ 512 * (layout_of b.sup).sectors) (apart : newest_in b.groups k ≡ None) where
  abbrev new : State
  new = written st ((layout_of b.sup).sectors * k) bytes

  right_now : IsRightAs None b (touching k t) new
  right_now = standing_written b b.groups know t st k bytes is_data long apart (standing_of b t st none_yet right)

  other_blocks : (i : ℕ) → i ≢ k → contents_of new (layout_of b.sup).sectors i ≡ contents_of st (layout_of b.sup).sectors i
  other_blocks i other = others b.sup know.valid st k bytes is_data long t i other

  pub data_during : (image : List ℕ) → IsImage new image → RecoversOne b (touching k t) st image
  data_during image is = read_one b (touching k t) new st image (λ i d clear. other_blocks i (clear_other k t i clear)) (now_as None b know (touching k t) new sized right_now image is)

  pub data_after : (m : ℕ) → (let c : Books = record b { moment = m } in IsRight c (touching k t) new × AreSameBut k b st c new)
  data_after m = (
    subst (λ (o : Option Stop). let c : Books = record b { moment = m } in IsRightAs o c (touching k t) new) (sym none_yet) right_now,
    λ n is i d other. over_same (upto n b.groups) (contents_of new (layout_of b.sup).sectors) (contents_of st (layout_of b.sup).sectors) i (other_blocks i other),
  )

  pub data_failed : (half : State) (count : ℕ) → IsHalfWritten st ((layout_of b.sup).sectors * k) bytes half → IsRight (halted b count) (touching k t) half × AreSameBut k b st (halted b count) half
  data_failed half count halves =
      let kept : (i : ℕ) → i ≢ k → contents_of half (layout_of b.sup).sectors i ≡ contents_of st (layout_of b.sup).sectors i = λ i other. half_others st half ((layout_of b.sup).sectors * k) (layout_of b.sup).sectors i bytes halves (λ j lt. block_others (layout_of b.sup).sectors k i j bytes long other lt) in (
        λ image is. again_one b _ _ (touching k t) half image
            (read_one b (touching k t) new half image (λ i d clear. other_blocks i (clear_other k t i clear) ∙ sym (kept i (clear_other k t i clear)))
            (now_as None b know (touching k t) new sized right_now image (half_image st half ((layout_of b.sup).sectors * k) bytes image halves is))),
        λ n is i d other. over_same (upto n b.groups) (contents_of half (layout_of b.sup).sectors) (contents_of st (layout_of b.sup).sectors) i (kept i other),
      )

-- ---- the same of a disk that tells, or not

half_of : (at : ℕ) (bytes : List ℕ) (old new : Option State) (st : State) → old ≡ Some st → HalfWritten old at bytes new → (half : State) × (new ≡ Some half) × IsHalfWritten st at bytes half
half_of at bytes None new st is half = absurd (cc)
half_of at bytes (Some x) new st is half = let e : x ≡ st = cc in (half.0, half.1, subst (λ (s : State). IsHalfWritten s at bytes half.0) e half.2)

module _ (b : Books) (know : Known b) (none_yet : b.stop ≡ None) (size : Option ℕ) (on : IsOnDisk size b.sup) (old : Option State) (filled : IfSome old Filled) (law : IfSome old (λ x. size ≡ Some x.size)) (t : ℕ → Bool) (right : Tells old (IsRight b t))
    (k : ℕ) (bytes : List ℕ) (is_data : IsData (layout_of b.sup) k) (long : length bytes ≡ b.sup.block_size) (apart : newest_in b.groups k ≡ None) where
  full : Filled right.0
  full = filled_state old right.0 filled right.1

  sized_here : (layout_of b.sup).sectors * (layout_of b.sup).blocks ≤ right.0.size
  sized_here = on_state b.sup size old right.0 law on right.1

  long_here : length bytes ≡ 512 * (layout_of b.sup).sectors
  long_here = long ∙ (sizes b.sup know.valid).0

  pub write_right : (m : ℕ) (told : Option State) → told ≡ told_written old ((layout_of b.sup).sectors * k) bytes → (let c : Books = record b { moment = m } in Tells told (λ s. IsRight c (touching k t) s × AreSameBut k b right.0 c s))
  write_right m told is = (
    written right.0 ((layout_of b.sup).sectors * k) bytes,
    is ∙ ap (λ (o : Option State). told_written o ((layout_of b.sup).sectors * k) bytes) right.1,
    data_after b know none_yet t right.0 full sized_here right.2 k bytes is_data long_here apart m,
  )

  pub write_failed : (count : ℕ) (told : Option State) → HalfWritten old ((layout_of b.sup).sectors * k) bytes told → Tells told (λ s. IsRight (halted b count) (touching k t) s × AreSameBut k b right.0 (halted b count) s)
  write_failed count told half =
      let h = half_of ((layout_of b.sup).sectors * k) bytes old told right.0 right.1 half in
      (h.0, h.1, data_failed b know none_yet t right.0 full sized_here right.2 k bytes is_data long_here apart h.0 count h.2)

  pub write_moments : {T E : Type 0} (result : Result T E) (before now : ℕ) (past since : ℕ → List ℕ → Type 0) → Elapses old result before now past since (MayLeave (told_written old ((layout_of b.sup).sectors * k) bytes))
      → Passed before now past since (λ c. Tells old (λ s. RecoversOne b (touching k t) s c))
  write_moments result before now past since time =
      passed_one _ time (λ c left. (right.0, right.1, data_during b know none_yet t right.0 full sized_here right.2 k bytes is_data long_here apart c (subst (λ (o : Option State). MayLeave (told_written o ((layout_of b.sup).sectors * k) bytes) c) right.1 left)))

-- a read leaves what it found
pub read_moments : {T E : Type 0} (b : Books) → Known b → (size : Option ℕ) → IsOnDisk size b.sup → (t : ℕ → Bool) (told : Option State) → IfSome told (λ x. size ≡ Some x.size) → Tells told (IsRight b t)
    → (result : Result T E) (before now : ℕ) (past since : ℕ → List ℕ → Type 0) → Elapses told result before now past since (MayLeave told) → Passed before now past since (λ c. Tells told (λ s. RecoversOne b t s c))
read_moments b know size on t told law right result before now past since time =
    passed_one _ time (λ c left. (right.0, right.1, now_right b know size on t told law right c left))

-- more is touched
more_touched : (b : Books) (t : ℕ → Bool) (st : State) (k : ℕ) (image : List ℕ) → RecoversOne b t st image → RecoversOne b (touching k t) st image
more_touched b t st k image one = record {
  number = one.number;
  is_version = one.is_version;
  recovers = record { result = one.recovers.result; replayed = one.recovers.replayed; valid = one.recovers.valid; emptied = one.recovers.emptied; geometry = one.recovers.geometry; agrees = λ i d clear. one.recovers.agrees i d (untouched (t i) (i == k) clear); written = one.recovers.written };
}
  where
    untouched : (d e : Bool) → (e || d) ≡ false → d ≡ false
    untouched d false is = is
    untouched d true is = absurd (true≢false is)

stopped_touched : (o : Option Stop) (b : Books) (stop : Stop) (t : ℕ → Bool) (st : State) (k : ℕ) → o ≡ Some stop → IsRightAs o b t st → IsRightAs o b (touching k t) st
stopped_touched None b stop t st k is right = absurd (cc)
stopped_touched (Some x) b stop t st k is right = λ image left. more_touched b t st k image (right image left)

-- a device that has stopped stays right
pub still_stopped : (b : Books) (stop : Stop) (t : ℕ → Bool) (k : ℕ) (told : Option State) → b.stop ≡ Some stop → (right : Tells told (IsRight b t)) → Tells told (λ s. IsRight b (touching k t) s × AreSameBut k b right.0 b s)
still_stopped b stop t k told is right = (right.0, right.1, (stopped_touched b.stop b stop t right.0 k is right.2, λ n v i d other. refl))

-- ---- the newest bytes, where told or not

sized_in : (l : Layout) (size left used k : ℕ) (gs : List Group) → Follow l size left used gs → IfSome (newest_in gs k) (λ bytes. length bytes ≡ size)
sized_in l size left used k [] follow = tt
sized_in l size left used k (g ∷ gs) follow = either (newest_in gs k) (newest g.blocks k) (sized_in l size g.last g.used k gs follow.1) (newest_sized size g.blocks k follow.0.sealed.sized)
  where
    either : (a b : Option (List ℕ)) → IfSome a (λ bytes. length bytes ≡ size) → IfSome b (λ bytes. length bytes ≡ size) → IfSome (or_else a b) (λ bytes. length bytes ≡ size)
    either None b one two = two
    either (Some x) b one two = one

pub newest_long : (b : Books) (k : ℕ) (bytes : List ℕ) → Known b → newest_in b.groups k ≡ Some bytes → length bytes ≡ b.sup.block_size
newest_long b k bytes know is = subst (λ (o : Option (List ℕ)). IfSome o (λ x. length x ≡ b.sup.block_size)) is (sized_in (layout_of b.sup) b.sup.block_size b.left (natural b.sup.used_blocks) k b.groups know.follow)

pub newest_told : (b : Books) (told : Option State) (k : ℕ) (bytes into : List ℕ) → Known b → newest_in b.groups k ≡ Some bytes → into ≡ bytes → IfSome told (λ s. into ≡ version b s (sealed_of b) k)
newest_told b None k bytes into know is same = tt
newest_told b (Some st) k bytes into know is same = same ∙ newest_sealed b st k bytes know is

pub read_told : (b : Books) (told : Option State) (k : ℕ) (into : List ℕ) → Known b → newest_in b.groups k ≡ None → AreRead told (layout_of b.sup).sectors k into → IfSome told (λ s. into ≡ version b s (sealed_of b) k)
read_told b None k into know is read = tt
read_told b (Some st) k into know is read = read ∙ newest_read b st k know is
