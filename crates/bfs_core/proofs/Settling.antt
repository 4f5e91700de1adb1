-- Each event keeps the bytes that no crash takes away any more, and what a crash leaves has them.
use Rattle.std.proofs.Common.{◌≡◌, ◌⊎◌, inl, inr, ⊎_elim, ◌<◌, ◌≤◌, ◌+◌, ◌-◌, ◌*◌, ◌/◌, ◌%◌, ℕ, List, [], ◌∷◌, ◌++◌, length, take, get_or, Bool, true, false, cond, ◌==◌, Option, Some, None, refl, sym, ◌∙◌, ap, subst, arith}
use Rattle.std.specs.Prelude.{slice_get}
use Rattle.std.specs.FinMap.{get}
use Rattle.std.proofs.Math.Nat.{div-add-mod, mod-lt}
use Rattle.std.proofs.lemmas.Bool.{true≢false, cases_eq, eqb-true}
use Rattle.std.proofs.lemmas.List.{take-append-le, take_all}
use Rattle.bfs_base.specs.Images.{IsBytes, block, sector}
use Rattle.bfs_super.specs.Geometry.{geometry_of}
use Rattle.bfs_base.proofs.Sectors.{sector_part}
use Rattle.bfs_disk.specs.State.{State, Holds, Filled, IsHalfWritten, IsImage, IsOneOf, names, newest as newest_in_sector}
use Rattle.bfs_disk.specs.StateLaws.{newest_long}
use Rattle.bfs_disk.specs.Blocks.{contents_of}
use Rattle.bfs_super.specs.declared.sup.Super.{Super}
use Rattle.bfs_super.specs.declared.geometry.Geometry.{Geometry}
use Rattle.bfs_log.specs.Replay.{Replayed, super_of, blocks_of, block_sectors, log_from, log_to}
use Rattle.bfs_log.proofs.Emptied.{superblock_is}
use Rattle.bfs_log.proofs.Replays.{replayed_same}
use Rattle.bfs_txn.specs.Changed.{newest, or_else}
use Rattle.bfs_txn.specs.declared.group.Group.{Group}
use Rattle.bfs_tree.specs.declared.reply.Entry.{Entry}
use Rattle.bfs_tree.specs.Histories.{Mounted, IsFilePlace, after, state_after}
use Rattle.bfs_sound.specs.Volumes.{Volume}
use Rattle.bfs_sound.specs.Whole.{IsWhole, volume_of}
use Rattle.bfs_device.specs.declared.journal.Stop.{Stop}
use Rattle.bfs_device.specs.Layouts.{Layout, IsData, homes_in, layout_of}
use Rattle.bfs_device.specs.Phases.{IsHomeOf}
use Rattle.bfs_device.specs.Versions.{front_homes}
use Rattle.bfs_device.specs.Books.{Books, AreSame, IsOnDisk, IsVersion, RecoversOne, durable_of, used_of, version}
use Rattle.bfs_device.specs.Contents.{KeepsContents}
use Rattle.bfs_device.specs.Seals.{adopted, sealed_with}
use Rattle.bfs_device.specs.Data.{newest_in, AreSameBut}
use Rattle.bfs_device.specs.Ahead.{GoesOn, geometry_with}
use Rattle.bfs_device.proofs.Failing.{block_others}
use Rattle.bfs_device.proofs.Forward.{order_of, sealed_durable, sealed_only}
use Rattle.bfs_device.proofs.Sizes.{fits_sectors, good, sizes}
use Rattle.bfs_core.specs.Spaces.{SpaceView, Entered, IsFaceData, IsGroupFor, face, face_over, opened, sealed_space, released_space}
use Rattle.bfs_core.specs.Cores.{Core, masked, newest_map, version_volume}
use Rattle.bfs_core.specs.KnownBytes.{HasByte, HasKnown, HasKnownIn, block_at}
use Rattle.bfs_core.specs.Settled.{AllHave, HasSettled, IsKeptIn, IsKnownSince, KeepsKnown}
use Rattle.bfs_core.proofs.Files.{stream_stays}
use Rattle.bfs_core.proofs.Halves.{get_joined, get_sector}
use Rattle.bfs_core.proofs.Images.{numbers_of, result_whole, same as same_in_result}
use Rattle.bfs_core.proofs.Knowing.{byte_file}
use Rattle.bfs_core.proofs.Onward.{same_layout, same_newest, same_size, same_volume}
use Rattle.bfs_core.proofs.Openings.{same_volume as first_volume}
use Rattle.bfs_core.proofs.Pieces.{face_same, piece_apart, piece_is_data, version_same}
use Rattle.bfs_core.proofs.Seals.{face_is, newest_is, older}
use Rattle.bfs_core.proofs.Steady.{adopted_steady}

-- ---- contents of sectors

first_content : (cs : List (List ℕ)) (c : List ℕ) → IsOneOf (take 1 cs) c → c ≡ get_or (take 1 cs) 0 []
first_content [] c is = absurd is
first_content (x ∷ xs) c (inl same) = same
first_content (x ∷ xs) c (inr bad) = absurd bad

sole_content : (now before : List (List ℕ)) (c : List ℕ) → now ≡ take 1 before → IsOneOf now c → c ≡ get_or now 0 []
sole_content now before c is one = first_content before c (subst (λ (cs : List (List ℕ)). IsOneOf cs c) is one) ∙ ap (λ (cs : List (List ℕ)). get_or cs 0 []) (sym is)

only_content : (cs : List (List ℕ)) (c : List ℕ) → length cs ≡ 1 → IsOneOf cs c → c ≡ get_or cs 0 []
only_content [] c one is = absurd is
only_content (x ∷ []) c one (inl same) = same
only_content (x ∷ []) c one (inr bad) = absurd bad
only_content (x ∷ y ∷ ys) c one is = absurd (omega (arith, one))

-- what a read of a block gives stands in the newest content of its sector
newest_byte : (st : State) (r k q byte : ℕ) → Filled st → r * k + r ≤ st.size → q < 512 * r → slice_get (contents_of st r k) q ≡ Some byte → slice_get (newest_in_sector st (r * k + q / 512)) (q % 512) ≡ Some byte
newest_byte st r k q byte filled fits low is =
    let e : 512 * (q / 512) + q % 512 ≡ q = div-add-mod q 512 in
    let inside : q / 512 < r = omega (arith, low, e) in
    sym (get_joined r (λ j. newest_in_sector st (r * k + j)) q (λ j lt. newest_long st (r * k + j) filled (omega (arith, lt, fits))) inside) ∙ is

lt_or : (m n : ℕ) → (m < n) ⊎ (n ≤ m)
lt_or m n = grind arith

eq_true : (a b : ℕ) → a ≡ b → (a == b) ≡ true
eq_true a b e = grind (arith, e)

-- ---- bytes that are known since

since_now : (t0 : Mounted) (history : List Entry) (n id place byte : ℕ) → n ≤ length history → IsKnownSince t0 history n id place byte → get (state_after t0 history).known (id, place) ≡ Some byte
since_now t0 history n id place byte le since =
    subst (λ (h : List Entry). get (state_after t0 h).known (id, place) ≡ Some byte) (take_all (length history) history (omega arith)) (since (length history) le (omega arith))

since_later : (t0 : Mounted) (history : List Entry) (n m id place byte : ℕ) → n ≤ m → IsKnownSince t0 history n id place byte → IsKnownSince t0 history m id place byte
since_later t0 history n m id place byte le since k low high = since k (omega (arith, le, low)) high

since_before : (t0 : Mounted) (history now : List Entry) (e : Entry) (n id place byte : ℕ) → now ≡ history ++ e ∷ [] → length history ≤ length now → IsKnownSince t0 now n id place byte → IsKnownSince t0 history n id place byte
since_before t0 history now e n id place byte is longer since k low high =
    subst (λ (h : List Entry). get (state_after t0 h).known (id, place) ≡ Some byte) (ap (take k) is ∙ take-append-le k history (e ∷ []) high) (since k low (omega (arith, high, longer)))

-- ---- a file's block

module _ (t0 : Mounted) (sp : SpaceView) (b : Books) (t : ℕ → Bool) (st : State) (core : Core t0 sp b t st) (known : HasKnown t0 sp b st) where
  size_is : sp.sup.block_size ≡ 512 * (layout_of b.sup).sectors
  size_is = sym (same_size sp.sup b.sup core.one.geometry) ∙ (sizes b.sup core.steady.valid).0

  some_size : 0 < sp.sup.block_size
  some_size = (let z = (sizes b.sup core.steady.valid).1 in let e = same_size sp.sup b.sup core.one.geometry in omega (arith, z, e))

  low_place : (place : ℕ) → place % sp.sup.block_size < 512 * (layout_of b.sup).sectors
  low_place place = let lt : place % sp.sup.block_size < sp.sup.block_size = mod-lt place some_size in omega (arith, lt, size_is)

  low_sector : (place : ℕ) → place % sp.sup.block_size / 512 < (layout_of b.sup).sectors
  low_sector place = let e : 512 * (place % sp.sup.block_size / 512) + place % sp.sup.block_size % 512 ≡ place % sp.sup.block_size = div-add-mod (place % sp.sup.block_size) 512 in let lt = low_place place in omega (arith, e, lt)

  module _ (id place byte k : ℕ) (now : get (state_after t0 sp.history).known (id, place) ≡ Some byte) (at : block_at (face sp (newest_map b st)) id place ≡ Some k) where
    has : HasByte (face sp (newest_map b st)) (after t0 sp.history) (contents_of st (layout_of b.sup).sectors) id place byte
    has = known id place byte now

    block_is : has.block ≡ k
    block_is = let e : Some has.block ≡ Some k = sym has.is ∙ at in cc

    file : IsFaceData t0 sp (newest_map b st) k
    file = subst (IsFaceData t0 sp (newest_map b st)) block_is (byte_file t0 sp b t st core (contents_of st (layout_of b.sup).sectors) id place byte has)

    apart : newest_in b.groups k ≡ None
    apart = piece_apart t0 sp b t st core k file

    as_data : IsData (layout_of b.sup) k
    as_data = piece_is_data t0 sp b t st core k file

    read : slice_get (contents_of st (layout_of b.sup).sectors k) (place % sp.sup.block_size) ≡ Some byte
    read = subst (λ (x : ℕ). slice_get (contents_of st (layout_of b.sup).sectors x) (place % sp.sup.block_size) ≡ Some byte) block_is has.byte_is

    fits : IsOnDisk (Some st.size) b.sup → (layout_of b.sup).sectors * k + (layout_of b.sup).sectors ≤ st.size
    fits on = let f = fits_sectors b.sup core.steady.valid k as_data.1 in omega (arith, f, on)

    newest_has : Filled st → IsOnDisk (Some st.size) b.sup → slice_get (newest_in_sector st ((layout_of b.sup).sectors * k + place % sp.sup.block_size / 512)) (place % sp.sup.block_size % 512) ≡ Some byte
    newest_has filled on = newest_byte st (layout_of b.sup).sectors k (place % sp.sup.block_size) byte filled (fits on) (low_place place) read

-- ---- calls of the device that go on

pub settled_ahead : (t0 : Mounted) (sp : SpaceView) (b new : Books) (t u : ℕ → Bool) (st st' : State) → Core t0 sp b t st → HasKnown t0 sp b st → Core t0 sp new u st' → HasKnown t0 sp new st' → Filled st' → IsOnDisk (Some st'.size) new.sup → GoesOn b new → AreSame b st new st' → KeepsContents b new st st'
    → HasSettled t0 sp b st → HasSettled t0 sp new st'
settled_ahead t0 sp b new t u st st' core known next known_next filled on later same keeps settled = record { contents = contents; versions = versions }
  where
    low : durable_of new ≤ length sp.history
    low = let o = numbers_of t0 sp new u st' next in let d = o.durable in let s = o.sealed in let h = o.history in omega (arith, d, s, h)

    map_is : newest_map new st' ≡ newest_map b st
    map_is = same_newest b new st st' next.steady later same

    sectors : (layout_of new.sup).sectors ≡ (layout_of b.sup).sectors
    sectors = ap (λ (l : Layout). l.sectors) (same_layout b.sup new.sup later.geometry)

    contents : (id place byte k : ℕ) → IsKnownSince t0 sp.history (durable_of new) id place byte → block_at (face sp (newest_map new st')) id place ≡ Some k
        → AllHave st' ((layout_of new.sup).sectors * k + place % sp.sup.block_size / 512) (place % sp.sup.block_size % 512) byte
    contents id place byte k since here =
        let at : block_at (face sp (newest_map b st)) id place ≡ Some k = subst (λ (m : ℕ → Option (List ℕ)). block_at (face sp m) id place ≡ Some k) map_is here in
        let now = since_now t0 sp.history (durable_of new) id place byte low since in
        let d = as_data t0 sp b t st core known id place byte k now at in
        let none = apart t0 sp b t st core known id place byte k now at in
        let inside = low_sector t0 sp b t st core known place in
        let last = newest_has t0 sp new u st' next known_next id place byte k now here filled on in
        subst (λ (r : ℕ). slice_get (newest_in_sector st' (r * k + place % sp.sup.block_size / 512)) (place % sp.sup.block_size % 512) ≡ Some byte → AllHave st' (r * k + place % sp.sup.block_size / 512) (place % sp.sup.block_size % 512) byte) (sym sectors)
        (λ newest_is_so. ⊎_elim
        (λ rises c is.
        let only : c ≡ newest_in_sector st' ((layout_of b.sup).sectors * k + place % sp.sup.block_size / 512) =
        sole_content (st'.contents ((layout_of b.sup).sectors * k + place % sp.sup.block_size / 512)) (st.contents ((layout_of b.sup).sectors * k + place % sp.sup.block_size / 512)) c (keeps.newest rises k (place % sp.sup.block_size / 512) d none inside) is in
        ap (λ (x : List ℕ). slice_get x (place % sp.sup.block_size % 512)) only ∙ newest_is_so)
        (λ stays c is.
        settled.contents id place byte k (since_later t0 sp.history (durable_of new) (durable_of b) id place byte stays since) at c (keeps.fewer k (place % sp.sup.block_size / 512) d none inside c is))
        (lt_or (durable_of b) (durable_of new))) last

    versions : (n : ℕ) → IsVersion new n → (id place byte : ℕ) → IsKnownSince t0 sp.history n id place byte → IsFilePlace (after t0 (take n sp.history)) id place × (block_at (version_volume new st' n) id place ≡ block_at (face sp (newest_map new st')) id place)
    versions n is id place byte since =
        let old = settled.versions n (later.versions n is) id place byte since in (
          old.0,
          ap (λ (v : Volume). block_at v id place) (same_volume b new st st' next.steady later same n is)
              ∙ old.1
              ∙ ap (λ (m : ℕ → Option (List ℕ)). block_at (face sp m) id place) (sym map_is),
        )

-- ---- an entry

pub settled_entered : (t0 : Mounted) (sp new : SpaceView) (b : Books) (t : ℕ → Bool) (st : State) (e : Entry) → Core t0 sp b t st → Entered t0 sp new (newest_map b st) e
    → ((id place byte : ℕ) → get (state_after t0 sp.history).known (id, place) ≡ Some byte → get (state_after t0 new.history).known (id, place) ≡ Some byte → block_at (face new (newest_map b st)) id place ≡ block_at (face sp (newest_map b st)) id place)
    → length sp.history ≤ length new.history → HasSettled t0 sp b st → HasSettled t0 new b st
settled_entered t0 sp new b t st e core entered stays longer settled = record {
  contents = λ id place byte k since at.
      let low : durable_of b ≤ length sp.history = (let o = numbers_of t0 sp b t st core in let d = o.durable in let s = o.sealed in let h = o.history in omega (arith, d, s, h)) in
      let old = since_before t0 sp.history new.history e (durable_of b) id place byte entered.history longer since in
      let before = since_now t0 sp.history (durable_of b) id place byte low old in
      let now = since_now t0 new.history (durable_of b) id place byte (omega (arith, low, longer)) since in
      subst (λ (s : Super). AllHave st ((layout_of b.sup).sectors * k + place % s.block_size / 512) (place % s.block_size % 512) byte) (sym entered.same.sup)
      (settled.contents id place byte k old (sym (stays id place byte before now) ∙ at));
  versions = λ n is id place byte since.
      let high : n ≤ length sp.history = (let o = numbers_of t0 sp b t st core in let s = o.sealed in let h = o.history in let up = (order_of b core.steady).high n is in omega (arith, up, s, h)) in
      let old = since_before t0 sp.history new.history e n id place byte entered.history longer since in
      let before = since_now t0 sp.history n id place byte high old in
      let now = since_now t0 new.history n id place byte (omega (arith, high, longer)) since in
      let was = settled.versions n is id place byte old in (
        subst (λ (h : List Entry). IsFilePlace (after t0 h) id place) (sym (ap (take n) entered.history ∙ take-append-le n sp.history (e ∷ []) high)) was.0,
        was.1 ∙ sym (stays id place byte before now),
      );
}

-- ---- a release, a seal

pub settled_released : (t0 : Mounted) (sp : SpaceView) (b : Books) (st : State) (n : ℕ) → HasSettled t0 sp b st → HasSettled t0 (released_space n sp) b st
settled_released t0 sp b st n settled = record { contents = settled.contents; versions = settled.versions }

pub settled_sealed : (t0 : Mounted) (sp : SpaceView) (b : Books) (t : ℕ → Bool) (st : State) (g : Group) → Core t0 sp b t st → HasKnown t0 sp b st → IsGroupFor sp g → HasSettled t0 sp b st → HasSettled t0 (sealed_space sp) (sealed_with b g) st
settled_sealed t0 sp b t st g core known group settled = record {
  contents = λ id place byte k since at.
      settled.contents id place byte k (subst (λ (n : ℕ). IsKnownSince t0 sp.history n id place byte) (sealed_durable b g) since) (subst (λ (v : Volume). block_at v id place ≡ Some k) (face_is t0 sp b t st g core group) at);
  versions = λ n is id place byte since. ⊎_elim
      (λ old.
      let was = settled.versions n old id place byte since in (
        was.0,
        ap (λ (v : Volume). block_at v id place) (older t0 sp b t st g core group n old) ∙ was.1 ∙ ap (λ (v : Volume). block_at v id place) (sym (face_is t0 sp b t st g core group)),
      ))
      (λ last.
      let all : n ≡ length sp.history = last ∙ group.last in
      let now = since_now t0 sp.history n id place byte (omega (arith, all)) since in
      let file = (known id place byte now).file in (
        subst (λ (h : List Entry). IsFilePlace (after t0 h) id place) (sym (take_all n sp.history (omega (arith, all)))) file,
        ap (λ (m : ℕ). block_at (version_volume (sealed_with b g) st m) id place) last
            ∙ ap (λ (v : Volume). block_at v id place) (newest_is t0 sp b t st g core group)
            ∙ ap (λ (v : Volume). block_at v id place) (sym (face_is t0 sp b t st g core group)),
      ))
      (sealed_only b g n is);
}

-- ---- a data write

module _ (t0 : Mounted) (sp : SpaceView) (b : Books) (t : ℕ → Bool) (st : State) (core : Core t0 sp b t st) (known : HasKnown t0 sp b st) (settled : HasSettled t0 sp b st) (place_of : ℕ) (written_file : IsFaceData t0 sp (newest_map b st) place_of) (bytes : List ℕ)
    (moment : ℕ) (stop : Option Stop) (st' : State) (same : (let new : Books = record b { moment = moment; stop = stop } in AreSameBut place_of b st new st')) (long : length bytes ≡ 512 * (layout_of b.sup).sectors) (half : IsHalfWritten st ((layout_of b.sup).sectors * place_of) bytes st')
    (in_bytes : HasKnownIn t0 sp (newest_map b st) place_of bytes) where
  abbrev later : Books
  later = record b { moment = moment; stop = stop }

  low : durable_of b ≤ length sp.history
  low = let o = numbers_of t0 sp b t st core in let d = o.durable in let s = o.sealed in let h = o.history in omega (arith, d, s, h)

  face_stays : (id place byte : ℕ) → get (state_after t0 sp.history).known (id, place) ≡ Some byte → block_at (face sp (newest_map later st')) id place ≡ block_at (face sp (newest_map b st)) id place
  face_stays id place byte now =
      let f = (known id place byte now).file in
      ap (λ (xs : List ℕ). slice_get xs (place / sp.sup.block_size))
      (stream_stays (face sp (newest_map b st)) (face_over sp.group (newest_map later st')) (after t0 sp.history) core.space.sound (face_same t0 sp b t st core place_of written_file moment stop st' same) id f.0 f.1 f.2)

  -- the sector as it was written has the byte
  written_byte : (id place byte k : ℕ) → get (state_after t0 sp.history).known (id, place) ≡ Some byte → block_at (face sp (newest_map b st)) id place ≡ Some k
      → names ((layout_of b.sup).sectors * place_of) bytes ((layout_of b.sup).sectors * k + place % sp.sup.block_size / 512) ≡ true
      → slice_get (sector ((layout_of b.sup).sectors * k + place % sp.sup.block_size / 512 - (layout_of b.sup).sectors * place_of) bytes) (place % sp.sup.block_size % 512) ≡ Some byte
  written_byte id place byte k now at named = by_test (k == place_of) refl
    where
      inside : place % sp.sup.block_size / 512 < (layout_of b.sup).sectors
      inside = low_sector t0 sp b t st core known place

      here : k ≡ place_of → slice_get (sector ((layout_of b.sup).sectors * k + place % sp.sup.block_size / 512 - (layout_of b.sup).sectors * place_of) bytes) (place % sp.sup.block_size % 512) ≡ Some byte
      here e =
          let at_it : block_at (face sp (newest_map b st)) id place ≡ Some place_of = at ∙ ap (λ (x : ℕ). Some x) e in
          let f : (layout_of b.sup).sectors * k ≡ (layout_of b.sup).sectors * place_of = ap (λ (x : ℕ). (layout_of b.sup).sectors * x) e in
          ap (λ (j : ℕ). slice_get (sector j bytes) (place % sp.sup.block_size % 512)) (let d : (layout_of b.sup).sectors * k + place % sp.sup.block_size / 512 - (layout_of b.sup).sectors * place_of ≡ place % sp.sup.block_size / 512 = omega (arith, f) in d)
          ∙ sym (get_sector bytes (place % sp.sup.block_size))
          ∙ in_bytes id place byte now at_it

      by_test : (d : Bool) → (k == place_of) ≡ d → slice_get (sector ((layout_of b.sup).sectors * k + place % sp.sup.block_size / 512 - (layout_of b.sup).sectors * place_of) bytes) (place % sp.sup.block_size % 512) ≡ Some byte
      by_test true e = here (eqb-true k place_of e)
      by_test false e = absurd (true≢false (sym named ∙ block_others (layout_of b.sup).sectors place_of k (place % sp.sup.block_size / 512) bytes long (λ one. true≢false (sym (eq_true k place_of one) ∙ e)) inside))

  settled_later : HasSettled t0 sp later st'
  settled_later = record {
    contents = λ id place byte k since here.
        let now = since_now t0 sp.history (durable_of b) id place byte low since in
        let at : block_at (face sp (newest_map b st)) id place ≡ Some k = sym (face_stays id place byte now) ∙ here in
        let was = settled.contents id place byte k since at in
        λ c is. ⊎_elim
        (λ kept. was c (subst (λ (cs : List (List ℕ)). IsOneOf cs c) kept is))
        (λ new. ⊎_elim
        (λ first. ap (λ (x : List ℕ). slice_get x (place % sp.sup.block_size % 512)) first ∙ written_byte id place byte k now at new.0)
        (λ old. was c old)
        (subst (λ (cs : List (List ℕ)). IsOneOf cs c) new.1 is))
        (half.each ((layout_of b.sup).sectors * k + place % sp.sup.block_size / 512));
    versions = λ n is id place byte since.
        let high : n ≤ length sp.history = (let o = numbers_of t0 sp b t st core in let s = o.sealed in let h = o.history in let up = (order_of b core.steady).high n is in omega (arith, up, s, h)) in
        let now = since_now t0 sp.history n id place byte high since in
        let was = settled.versions n is id place byte since in (
          was.0,
          ap (λ (xs : List ℕ). slice_get xs (place / b.sup.block_size))
              (stream_stays (version_volume b st n) (masked (layout_of b.sup) (version later st' n)) (after t0 (take n sp.history)) (core.versions.sound n is) (version_same t0 sp b t st core place_of written_file moment stop st' same n is) id was.0.0 was.0.1 was.0.2)
              ∙ was.1
              ∙ sym (face_stays id place byte now),
        );
  }

pub settled_written : (t0 : Mounted) (sp : SpaceView) (b new : Books) (t : ℕ → Bool) (st st' : State) (k : ℕ) (bytes : List ℕ) → Core t0 sp b t st → HasKnown t0 sp b st → IsFaceData t0 sp (newest_map b st) k → new ≡ record b { moment = new.moment; stop = new.stop } → AreSameBut k b st new st'
    → length bytes ≡ 512 * (layout_of b.sup).sectors → IsHalfWritten st ((layout_of b.sup).sectors * k) bytes st' → HasKnownIn t0 sp (newest_map b st) k bytes → HasSettled t0 sp b st → HasSettled t0 sp new st'
settled_written t0 sp b new t st st' k bytes core known file rested same long half in_bytes settled =
    subst (λ (x : Books). HasSettled t0 sp x st') (sym rested)
    (settled_later t0 sp b t st core known settled k file bytes new.moment new.stop st' (subst (λ (x : Books). AreSameBut k b st x st') rested same) long half in_bytes)

-- ---- a mount

pub settled_opened : (t0 : Mounted) (image : List ℕ) (st : State) (t : ℕ → Bool) → IsWhole image t0.tree → Holds image st → Filled st → IsOnDisk (Some st.size) (super_of image) → Core t0 (opened (super_of image)) (adopted (super_of image)) t st
    → HasKnown t0 (opened (super_of image)) (adopted (super_of image)) st → HasSettled t0 (opened (super_of image)) (adopted (super_of image)) st
settled_opened t0 image st t whole holds filled on core known = record {
  contents = λ id place byte k since at c is.
      let s : Super = super_of image in
      let now = since_now t0 [] 0 id place byte (omega arith) since in
      let inside = low_sector t0 (opened (super_of image)) (adopted (super_of image)) t st core known place in
      let fit = fits t0 (opened (super_of image)) (adopted (super_of image)) t st core known id place byte k now at on in
      let quiet = holds.quiet ((layout_of s).sectors * k + place % s.block_size / 512) (omega (arith, inside, fit)) in
      ap (λ (x : List ℕ). slice_get x (place % s.block_size % 512)) (only_content (st.contents ((layout_of s).sectors * k + place % s.block_size / 512)) c quiet is)
      ∙ newest_has t0 (opened (super_of image)) (adopted (super_of image)) t st core known id place byte k now at filled on;
  versions = λ n is id place byte since. ⊎_elim
      (λ zero.
      let now = since_now t0 [] n id place byte (omega (arith, zero)) since in (
        subst (λ (m : ℕ). IsFilePlace (after t0 (take m [])) id place) (sym zero) (known id place byte now).file,
        ap (λ (m : ℕ). block_at (version_volume (adopted (super_of image)) st m) id place) zero
            ∙ ap (λ (f : ℕ → List ℕ). block_at (let v : Volume = record { geometry = (volume_of (super_of image) (blocks_of image)).geometry; blocks = f } in v) id place)
            (λ i j. first_volume t0 (super_of image) st image whole refl holds filled on (adopted_steady (super_of image) whole.whole.valid.super whole.whole.emptied) j i),
      ))
      (λ nothing. absurd nothing)
      is;
}

-- ---- what a crash leaves

home_in_pairs : (ps : List (ℕ × List ℕ)) (k : ℕ) → IsHomeOf (homes_in ps) k → newest ps k ≡ None → ⊥
home_in_pairs [] k is none = is
home_in_pairs (p ∷ ps) k (inl here) none = last_none (newest ps k) (ap (λ (d : Bool). or_else (newest ps k) (cond d (Some p.1) None)) (sym (eq_true k p.0 here)) ∙ none)
  where
    last_none : (o : Option (List ℕ)) → or_else o (Some p.1) ≡ None → ⊥
    last_none None bad = absurd (cc)
    last_none (Some x) bad = absurd (cc)
home_in_pairs (p ∷ ps) k (inr later) none = home_in_pairs ps k later (first_none (newest ps k) (cond (k == p.0) (Some p.1) None) none)
  where
    first_none : (a o : Option (List ℕ)) → or_else a o ≡ None → a ≡ None
    first_none None o bad = refl
    first_none (Some x) o bad = absurd (cc)

home_in_front : (gs : List Group) (k : ℕ) → IsHomeOf (front_homes gs) k → newest_in gs k ≡ None → ⊥
home_in_front [] k is none = is
home_in_front (g ∷ gs) k is none = home_in_pairs g.blocks k is (last_none (newest_in gs k) (newest g.blocks k) none)
  where
    last_none : (a o : Option (List ℕ)) → or_else a o ≡ None → o ≡ None
    last_none None o bad = bad
    last_none (Some x) o bad = absurd (cc)

-- an image has blocks of the size that what replay gives has
same_blocks : (image result : List ℕ) → IsBytes (sector 1 image) → Replayed image result → (super_of image).block_size ≡ (super_of result).block_size
same_blocks image result bytes replayed = ⊎_elim
    (λ empty. ap (λ (i : List ℕ). (super_of i).block_size) (sym (replayed_same image result replayed empty)))
    (λ full. ap (λ (s : Super). s.block_size) (sym (superblock_is image result bytes replayed full)))
    (cases_eq (log_from (super_of image)) (log_to (super_of image)))

module _ (t0 : Mounted) (sp : SpaceView) (b : Books) (t : ℕ → Bool) (st : State) (image : List ℕ) (core : Core t0 sp b t st) (known : HasKnown t0 sp b st) (settled : HasSettled t0 sp b st) (filled : Filled st) (on : IsOnDisk (Some st.size) b.sup)
    (one : RecoversOne b t st image) (is : IsImage st image) where
  within : durable_of b ≤ length sp.history
  within = let o = numbers_of t0 sp b t st core in let d = o.durable in let s = o.sealed in let h = o.history in omega (arith, d, s, h)

  abbrev result : List ℕ
  result = one.recovers.result

  second : 1 < st.size
  second = let f = fits_sectors b.sup core.steady.valid 0 (omega (arith, (good b.sup core.steady.valid).inside, (good b.sup core.steady.valid).behind_zero)) in omega (arith, f, on, (good b.sup core.steady.valid).two)

  size_of : block_sectors (super_of image) ≡ (layout_of b.sup).sectors
  size_of =
      ap (λ (n : ℕ). n / 512)
      (same_blocks image one.recovers.result (filled.bytes 1 second (sector 1 image) (is.each 1 second)) one.recovers.replayed ∙ ap (λ (g : Geometry). g.block_size) one.recovers.geometry)

  module _ (id place byte : ℕ) (since : IsKnownSince t0 sp.history (durable_of b) id place byte) where
    now : get (state_after t0 sp.history).known (id, place) ≡ Some byte
    now = since_now t0 sp.history (durable_of b) id place byte within since

    here : HasByte (face sp (newest_map b st)) (after t0 sp.history) (contents_of st (layout_of b.sup).sectors) id place byte
    here = known id place byte now

    unwritten : blocks_of one.recovers.result here.block ≡ blocks_of image here.block
    unwritten = ⊎_elim
        (λ home. absurd (home_in_front b.groups here.block home (apart t0 sp b t st core known id place byte here.block now here.is)))
        (λ same. same)
        (one.recovers.written here.block (as_data t0 sp b t st core known id place byte here.block now here.is).0)

    -- the image has the byte
    in_image : slice_get (blocks_of image here.block) (place % sp.sup.block_size) ≡ Some byte
    in_image =
        let r = (layout_of b.sup).sectors in
        let q = place % sp.sup.block_size in
        let inside = low_sector t0 sp b t st core known place in
        let fit = fits t0 sp b t st core known id place byte here.block now here.is on in
        ap (λ (n : ℕ). slice_get (block n here.block image) q) size_of
        ∙ get_sector (block r here.block image) q
        ∙ ap (λ (x : List ℕ). slice_get x (q % 512)) (sector_part (r * here.block) (q / 512) (512 * r) image (omega (arith, inside)))
        ∙ settled.contents id place byte here.block since here.is (sector (r * here.block + q / 512) image) (is.each (r * here.block + q / 512) (omega (arith, inside, fit)))

    at_version : IsFilePlace (after t0 (take one.number sp.history)) id place × (block_at (version_volume b st one.number) id place ≡ block_at (face sp (newest_map b st)) id place)
    at_version = settled.versions one.number one.is_version id place byte (since_later t0 sp.history (durable_of b) one.number id place byte ((order_of b core.steady).low one.number one.is_version) since)

    geometry : geometry_of (super_of one.recovers.result) ≡ geometry_with b.sup (used_of b one.number)
    geometry = one.recovers.geometry

    in_result : (let v : Volume = record { geometry = geometry_with b.sup (used_of b one.number); blocks = blocks_of one.recovers.result } in block_at v id place ≡ Some here.block)
    in_result =
        ap (λ (xs : List ℕ). slice_get xs (place / b.sup.block_size))
        (stream_stays (version_volume b st one.number) (blocks_of one.recovers.result) (after t0 (take one.number sp.history)) (core.versions.sound one.number one.is_version)
        (same_in_result t0 sp.history b t st image core.steady core.versions one) id at_version.0.0 at_version.0.1 at_version.0.2)
        ∙ at_version.1
        ∙ here.is

    byte_there : slice_get (blocks_of one.recovers.result here.block) (place % b.sup.block_size) ≡ Some byte
    byte_there = ap (λ (n : ℕ). slice_get (blocks_of one.recovers.result here.block) (place % n)) (same_size sp.sup b.sup core.one.geometry) ∙ ap (λ (xs : List ℕ). slice_get xs (place % sp.sup.block_size)) unwritten ∙ in_image

    kept_in : IsKeptIn image t0 sp.history one.number (record { result = one.recovers.result; replayed = one.recovers.replayed; whole = result_whole t0 sp.history b t st image core.steady core.versions one }) id place byte
    kept_in = record {
      has = record {
        file = at_version.0;
        block = here.block;
        is = subst (λ (g : Geometry). let v : Volume = record { geometry = g; blocks = blocks_of one.recovers.result } in block_at v id place ≡ Some here.block) (sym geometry) in_result;
        byte_is = subst (λ (g : Geometry). slice_get (blocks_of one.recovers.result here.block) (place % g.block_size) ≡ Some byte) (sym geometry) byte_there;
      };
      unwritten = unwritten;
    }

  pub settled_recovers : KeepsKnown t0 sp.history (durable_of b) image
  settled_recovers = record {
    number = one.number;
    low = (order_of b core.steady).low one.number one.is_version;
    high = (let o = numbers_of t0 sp b t st core in let s = o.sealed in let h = o.history in let up = (order_of b core.steady).high one.number one.is_version in omega (arith, up, s, h));
    recovers = record { result = one.recovers.result; replayed = one.recovers.replayed; whole = result_whole t0 sp.history b t st image core.steady core.versions one };
    bytes = kept_in;
  }
