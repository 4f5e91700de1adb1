-- Each event keeps the chain of images.
use Rattle.std.proofs.Common.{◌≡◌, ◌≢◌, ◌⊎◌, ⊎_elim, ◌<◌, ◌≤◌, ◌+◌, ℕ, zero, suc, List, [], ◌∷◌, ◌++◌, length, take, Bool, true, false, cond, nat_lt, Option, Some, None, unwrap_or, refl, sym, ◌∙◌, ap, subst, arith}
use Rattle.std.specs.Prelude.{slice_get}
use Rattle.std.proofs.lemmas.Bool.{true≢false, cond-true, cond-false, lt-ltb, ltb-true}
use Rattle.std.proofs.lemmas.List.{length-append, take-append-le, take_all}
use Rattle.bfs_disk.specs.State.{State, Holds, Filled}
use Rattle.bfs_super.specs.declared.sup.Super.{Super}
use Rattle.bfs_super.specs.declared.geometry.Geometry.{Geometry}
use Rattle.bfs_super.specs.Geometry.{geometry_of}
use Rattle.bfs_log.specs.Replay.{super_of, blocks_of}
use Rattle.bfs_txn.specs.declared.group.Group.{Group}
use Rattle.bfs_txn.specs.Changed.{newest, or_else}
use Rattle.bfs_tree.specs.declared.call.Call.{Call}
use Rattle.bfs_tree.specs.declared.reply.Reply.{Reply}
use Rattle.bfs_tree.specs.declared.reply.Entry.{Entry}
use Rattle.bfs_tree.specs.Trees.{Tree}
use Rattle.bfs_tree.specs.Histories.{Mounted, after}
use Rattle.bfs_sound.specs.Volumes.{Volume}
use Rattle.bfs_sound.specs.Need.{need}
use Rattle.bfs_sound.specs.Whole.{Whole, IsWhole}
use Rattle.bfs_device.specs.Layouts.{Layout, IsData, is_data, layout_of}
use Rattle.bfs_device.specs.Books.{Books, IsOnDisk, AreSame, sealed_of, version}
use Rattle.bfs_device.specs.Seals.{adopted, sealed_with}
use Rattle.bfs_device.specs.Data.{touching, AreSameBut}
use Rattle.bfs_device.specs.Books.{IsRight}
use Rattle.bfs_device.specs.Ahead.{IsSteady, GoesOn}
use Rattle.bfs_core.specs.Spaces.{SpaceView, Entered, IsFaceData, IsGroupFor, face, face_over, opened, sealed_space, released_space}
use Rattle.bfs_core.specs.Cores.{Core, face_blocks, face_super, masked, newest_map}
use Rattle.bfs_core.specs.Caused.{IsCausedBy, IsFileData}
use Rattle.bfs_core.specs.Chains.{Image, IsChain, IsLinked, HasChain, bare, image_in}
use Rattle.bfs_core.proofs.Masks.{data_of, of_data}
use Rattle.bfs_core.proofs.Onward.{same_layout, same_newest}
use Rattle.bfs_core.proofs.Openings.{face_at}
use Rattle.bfs_core.proofs.Pieces.{file_still, map_at, piece_kept}
use Rattle.bfs_core.proofs.Seals.{face_is}
use Rattle.bfs_core.proofs.Steady.{adopted_steady}
use Rattle.bfs_core.proofs.Wholes.{face_whole}

-- ---- chains that grow

abbrev with_last : ℕ → (ℕ → Image) → Image → ℕ → Image
with_last n images last k = cond (nat_lt k n) (images k) last

kept : (n k : ℕ) (images : ℕ → Image) (last : Image) → k < n → with_last n images last k ≡ images k
kept n k images last lt = cond-true (nat_lt k n) (images k) last (lt-ltb k n lt)

is_last : (n k : ℕ) (images : ℕ → Image) (last : Image) → n ≤ k → with_last n images last k ≡ last
is_last n k images last le = by_test (nat_lt k n) refl
  where
    by_test : (d : Bool) → nat_lt k n ≡ d → with_last n images last k ≡ last
    by_test true is = absurd (let lt = ltb-true k n is in omega (arith, lt, le))
    by_test false is = cond-false (nat_lt k n) (images k) last is

-- what stands in a longer list
in_front : (h : List Entry) (e x : Entry) (n : ℕ) → n < length h → slice_get (h ++ e ∷ []) n ≡ Some x → slice_get h n ≡ Some x
in_front [] e x n lt is = absurd (omega (arith, lt))
in_front (y ∷ ys) e x zero lt is = is
in_front (y ∷ ys) e x (suc n) lt is = in_front ys e x n (omega (arith, lt)) is

at_end : (h : List Entry) (e x : Entry) (n : ℕ) → length h ≤ n → slice_get (h ++ e ∷ []) n ≡ Some x → (n ≡ length h) × (x ≡ e)
at_end [] e x zero le is = (refl, (let d : e ≡ x = cc in sym d))
at_end [] e x (suc n) le is = absurd (cc)
at_end (y ∷ ys) e x zero le is = absurd (omega (arith, le))
at_end (y ∷ ys) e x (suc n) le is = let rest = at_end ys e x n (omega (arith, le)) is in (ap suc rest.0, rest.1)

below_or : (k n : ℕ) → (k < n) ⊎ (n ≤ k)
below_or k n = grind arith

module _ (t0 : Mounted) (first : Image) (h : List Entry) (images : ℕ → Image) (chain : IsChain t0 first h images) (last : Image) where
  module _ (e : Entry) (whole : Whole last.sup last.blocks (after t0 (h ++ e ∷ []))) (caused : IsCausedBy (bare (images (length h))) (bare last) (after t0 h) (after t0 (h ++ e ∷ [])) e.call e.reply) where
    abbrev now : List Entry
    now = h ++ e ∷ []

    abbrev more : ℕ → Image
    more = with_last (1 + length h) images last

    front : (k : ℕ) → k ≤ length h → take k now ≡ take k h
    front k le = take-append-le k h (e ∷ []) le

    whole_at : (n : ℕ) → n ≤ length now → Whole (more n).sup (more n).blocks (after t0 (take n now))
    whole_at n le = ⊎_elim
        (λ lt.
        let below : n ≤ length h = omega (arith, lt) in
        subst (λ (i : Image). Whole i.sup i.blocks (after t0 (take n now))) (sym (kept (1 + length h) n images last lt))
        (subst (λ (xs : List Entry). Whole (images n).sup (images n).blocks (after t0 xs)) (sym (front n below)) (chain.whole n below)))
        (λ high.
        subst (λ (i : Image). Whole i.sup i.blocks (after t0 (take n now))) (sym (is_last (1 + length h) n images last high))
        (subst (λ (xs : List Entry). Whole last.sup last.blocks (after t0 xs)) (sym (take_all n now (let long = length-append h (e ∷ []) in omega (arith, long, high)))) whole))
        (below_or n (1 + length h))

    caused_at : (n : ℕ) (x : Entry) → slice_get now n ≡ Some x → IsCausedBy (bare (more n)) (bare (more (1 + n))) (after t0 (take n now)) (after t0 (take (1 + n) now)) x.call x.reply
    caused_at n x is = ⊎_elim
        (λ lt.
        let old = chain.caused n x (in_front h e x n lt is) in
        let left = kept (1 + length h) n images last (omega (arith, lt)) in
        let right = kept (1 + length h) (1 + n) images last (omega (arith, lt)) in
        subst (λ (i : Image). IsCausedBy (bare i) (bare (more (1 + n))) (after t0 (take n now)) (after t0 (take (1 + n) now)) x.call x.reply) (sym left)
        (subst (λ (i : Image). IsCausedBy (bare (images n)) (bare i) (after t0 (take n now)) (after t0 (take (1 + n) now)) x.call x.reply) (sym right)
        (subst (λ (xs : List Entry). IsCausedBy (bare (images n)) (bare (images (1 + n))) (after t0 xs) (after t0 (take (1 + n) now)) x.call x.reply) (sym (front n (omega (arith, lt))))
        (subst (λ (xs : List Entry). IsCausedBy (bare (images n)) (bare (images (1 + n))) (after t0 (take n h)) (after t0 xs) x.call x.reply) (sym (front (1 + n) (omega (arith, lt)))) old))))
        (λ high. let here = at_end h e x n high is in at_last n x here.0 here.1)
        (below_or n (length h))
      where
        at_last : (n : ℕ) (x : Entry) → n ≡ length h → x ≡ e → IsCausedBy (bare (more n)) (bare (more (1 + n))) (after t0 (take n now)) (after t0 (take (1 + n) now)) x.call x.reply
        at_last n x place same =
            let left = kept (1 + length h) n images last (omega (arith, place)) ∙ ap images place in
            let right = is_last (1 + length h) (1 + n) images last (omega (arith, place)) in
            let before : take n now ≡ h = front n (omega (arith, place)) ∙ take_all n h (omega (arith, place)) in
            let all : take (1 + n) now ≡ now = take_all (1 + n) now (let long = length-append h (e ∷ []) in omega (arith, long, place)) in
            subst (λ (i : Image). IsCausedBy (bare i) (bare (more (1 + n))) (after t0 (take n now)) (after t0 (take (1 + n) now)) x.call x.reply) (sym left)
            (subst (λ (i : Image). IsCausedBy (bare (images (length h))) (bare i) (after t0 (take n now)) (after t0 (take (1 + n) now)) x.call x.reply) (sym right)
            (subst (λ (xs : List Entry). IsCausedBy (bare (images (length h))) (bare last) (after t0 xs) (after t0 (take (1 + n) now)) x.call x.reply) (sym before)
            (subst (λ (xs : List Entry). IsCausedBy (bare (images (length h))) (bare last) (after t0 h) (after t0 xs) x.call x.reply) (sym all)
            (subst (λ (y : Entry). IsCausedBy (bare (images (length h))) (bare last) (after t0 h) (after t0 now) y.call y.reply) (sym same) caused))))

    longer : IsChain t0 first now more
    longer = record { first_is = kept (1 + length h) 0 images last (omega arith) ∙ chain.first_is; whole = whole_at; caused = caused_at }

    longer_now : more (length now) ≡ last
    longer_now = is_last (1 + length h) (length now) images last (let long = length-append h (e ∷ []) in omega (arith, long))

  -- another image behind the last entry
  module _ (some : 0 < length h) (whole : Whole last.sup last.blocks (after t0 h))
      (on : (old : Volume) (before : Tree) (call : Call) (reply : Reply) → IsCausedBy old (bare (images (length h))) before (after t0 h) call reply → IsCausedBy old (bare last) before (after t0 h) call reply) where
    abbrev others : ℕ → Image
    others = with_last (length h) images last

    whole_here : (n : ℕ) → n ≤ length h → Whole (others n).sup (others n).blocks (after t0 (take n h))
    whole_here n le = ⊎_elim
        (λ lt. subst (λ (i : Image). Whole i.sup i.blocks (after t0 (take n h))) (sym (kept (length h) n images last lt)) (chain.whole n le))
        (λ high.
        subst (λ (i : Image). Whole i.sup i.blocks (after t0 (take n h))) (sym (is_last (length h) n images last high))
        (subst (λ (xs : List Entry). Whole last.sup last.blocks (after t0 xs)) (sym (take_all n h high)) whole))
        (below_or n (length h))

    get_inside : (xs : List Entry) (x : Entry) (n : ℕ) → slice_get xs n ≡ Some x → n < length xs
    get_inside [] x n is = absurd (cc)
    get_inside (y ∷ ys) x zero is = omega arith
    get_inside (y ∷ ys) x (suc n) is = let lt = get_inside ys x n is in omega (arith, lt)

    caused_here : (n : ℕ) (x : Entry) → slice_get h n ≡ Some x → IsCausedBy (bare (others n)) (bare (others (1 + n))) (after t0 (take n h)) (after t0 (take (1 + n) h)) x.call x.reply
    caused_here n x is =
        let inside = get_inside h x n is in
        let old = chain.caused n x is in
        subst (λ (i : Image). IsCausedBy (bare i) (bare (others (1 + n))) (after t0 (take n h)) (after t0 (take (1 + n) h)) x.call x.reply) (sym (kept (length h) n images last inside))
        (⊎_elim
        (λ lt. subst (λ (i : Image). IsCausedBy (bare (images n)) (bare i) (after t0 (take n h)) (after t0 (take (1 + n) h)) x.call x.reply) (sym (kept (length h) (1 + n) images last lt)) old)
        (λ high.
        let all : take (1 + n) h ≡ h = take_all (1 + n) h high in
        let place : 1 + n ≡ length h = omega (arith, inside, high) in
        subst (λ (i : Image). IsCausedBy (bare (images n)) (bare i) (after t0 (take n h)) (after t0 (take (1 + n) h)) x.call x.reply) (sym (is_last (length h) (1 + n) images last high))
        (subst (λ (xs : List Entry). IsCausedBy (bare (images n)) (bare last) (after t0 (take n h)) (after t0 xs) x.call x.reply) (sym all)
        (on (bare (images n)) (after t0 (take n h)) x.call x.reply
        (subst (λ (m : ℕ). IsCausedBy (bare (images n)) (bare (images m)) (after t0 (take n h)) (after t0 h) x.call x.reply) place
        (subst (λ (xs : List Entry). IsCausedBy (bare (images n)) (bare (images (1 + n))) (after t0 (take n h)) (after t0 xs) x.call x.reply) all old)))))
        (below_or (1 + n) (length h)))

    renewed : IsChain t0 first h others
    renewed = record { first_is = kept (length h) 0 images last some ∙ chain.first_is; whole = whole_here; caused = caused_here }

    renewed_now : others (length h) ≡ last
    renewed_now = is_last (length h) (length h) images last (omega arith)

-- an entry is caused as before where the volume after it is another one with the same blocks but file data
caused_on : (old v w : Volume) (before tree : Tree) (call : Call) (reply : Reply) → w.geometry ≡ v.geometry → ((k : ℕ) → ¬ IsFileData w tree k → ¬ IsFileData v tree k × (w.blocks k ≡ v.blocks k))
    → IsCausedBy old v before tree call reply → IsCausedBy old w before tree call reply
caused_on old v w before tree call reply geometry same caused = record {
  changed = caused.changed;
  few = caused.few;
  are = λ k is other. let s = same k is.new_is in caused.are k (record { inside = is.inside; old_is = is.old_is; new_is = s.0 }) (λ e. other (s.1 ∙ e));
  used = subst (λ (g : Geometry). g.used ≤ old.geometry.used + need old before call) (sym geometry) caused.used;
  unchanged = λ refused.
      let u = caused.unchanged refused in
      record {
        blocks = λ k is. (let s = same k is.new_is in s.1 ∙ u.blocks k (record { inside = is.inside; old_is = is.old_is; new_is = s.0 }));
        used = ap (λ (g : Geometry). g.used) geometry ∙ u.used;
      };
  why = caused.why;
}

-- ---- Face as an image

module _ (t0 : Mounted) (sp : SpaceView) (b : Books) (t : ℕ → Bool) (st : State) (core : Core t0 sp b t st) (places : (k : ℕ) → newest sp.group k ≢ None → IsData (layout_of sp.sup) k) where
  abbrev face_image : Image
  face_image = record { sup = face_super sp b; blocks = face_blocks sp b st }

  bare_at : (k : ℕ) → masked (layout_of b.sup) (face_blocks sp b st) k ≡ face_over sp.group (newest_map b st) k
  bare_at k = by_test (is_data (layout_of b.sup) k) refl
    where
      bytes : List ℕ
      bytes = version b st (sealed_of b) k

      shown : (o : Option (List ℕ)) → unwrap_or o bytes ≡ unwrap_or (or_else o (Some bytes)) []
      shown (Some x) = refl
      shown None = refl

      hidden : (o : Option (List ℕ)) → newest sp.group k ≡ o → is_data (layout_of b.sup) k ≡ false → [] ≡ unwrap_or (or_else o None) []
      hidden None is none = refl
      hidden (Some x) is none =
          let d : IsData (layout_of b.sup) k = subst (λ (l : Layout). IsData l k) (sym (same_layout sp.sup b.sup core.one.geometry)) (places k (λ nothing. let bad : Some x ≡ None = sym is ∙ nothing in absurd (cc))) in
          absurd (true≢false (sym (of_data (layout_of b.sup) k d) ∙ none))

      by_test : (d : Bool) → is_data (layout_of b.sup) k ≡ d → cond d (face_blocks sp b st k) [] ≡ unwrap_or (or_else (newest sp.group k) (cond d (Some bytes) None)) []
      by_test true is = shown (newest sp.group k)
      by_test false is = hidden (newest sp.group k) refl is

  bare_is : bare face_image ≡ face sp (newest_map b st)
  bare_is = λ i. record { geometry = core.one.geometry sp.used i; blocks = λ k. bare_at k i }

-- ---- an entry

pub chain_entered : (t0 : Mounted) (first : Image) (sp new : SpaceView) (b : Books) (t : ℕ → Bool) (st : State) (e : Entry) → Core t0 new b t st → Filled st → IsOnDisk (Some st.size) b.sup → Entered t0 sp new (newest_map b st) e
    → IsLinked t0 sp new (newest_map b st) e
    → HasChain t0 first sp (newest_map b st) → HasChain t0 first new (newest_map b st)
chain_entered t0 first sp new b t st e core filled on entered linked has = record {
  images = with_last (1 + length sp.history) has.images last;
  chain = subst (λ (h : List Entry). IsChain t0 first h (with_last (1 + length sp.history) has.images last)) (sym entered.history) (longer t0 first sp.history has.images has.chain last e whole link);
  now = ap (λ (h : List Entry). bare (with_last (1 + length sp.history) has.images last (length h))) entered.history ∙ ap bare (longer_now t0 first sp.history has.images has.chain last e whole link) ∙ bare_is t0 new b t st core places;
  places = places;
}
  where
    places : (k : ℕ) → newest new.group k ≢ None → IsData (layout_of new.sup) k
    places k some = subst (λ (s : Super). IsData (layout_of s) k) (sym entered.same.sup) (⊎_elim (λ old. has.places k old) (λ now. now) (linked.places k some))

    last : Image
    last = record { sup = face_super new b; blocks = face_blocks new b st }

    whole : Whole last.sup last.blocks (after t0 (sp.history ++ e ∷ []))
    whole = subst (λ (h : List Entry). Whole last.sup last.blocks (after t0 h)) entered.history (face_whole t0 new b t st core filled on)

    link : IsCausedBy (bare (has.images (length sp.history))) (bare last) (after t0 sp.history) (after t0 (sp.history ++ e ∷ [])) e.call e.reply
    link =
        subst (λ (v : Volume). IsCausedBy v (bare last) (after t0 sp.history) (after t0 (sp.history ++ e ∷ [])) e.call e.reply) (sym has.now)
        (subst (λ (v : Volume). IsCausedBy (face sp (newest_map b st)) v (after t0 sp.history) (after t0 (sp.history ++ e ∷ [])) e.call e.reply) (sym (bare_is t0 new b t st core places))
        (subst (λ (h : List Entry). IsCausedBy (face sp (newest_map b st)) (face new (newest_map b st)) (after t0 sp.history) (after t0 h) e.call e.reply) entered.history linked.caused))

-- ---- calls of the device that go on, a release, a seal

pub chain_ahead : (t0 : Mounted) (first : Image) (sp : SpaceView) (b new : Books) (st st' : State) → IsSteady b → IsSteady new → GoesOn b new → AreSame b st new st' → HasChain t0 first sp (newest_map b st) → HasChain t0 first sp (newest_map new st')
chain_ahead t0 first sp b new st st' steady later on same has = subst (HasChain t0 first sp) (sym (same_newest b new st st' later on same)) has

pub chain_released : (t0 : Mounted) (first : Image) (sp : SpaceView) (m : ℕ → Option (List ℕ)) (n : ℕ) → HasChain t0 first sp m → HasChain t0 first (released_space n sp) m
chain_released t0 first sp m n has = record { images = has.images; chain = has.chain; now = has.now; places = has.places }

pub chain_sealed : (t0 : Mounted) (first : Image) (sp : SpaceView) (b : Books) (t : ℕ → Bool) (st : State) (g : Group) → Core t0 sp b t st → IsGroupFor sp g → HasChain t0 first sp (newest_map b st) → HasChain t0 first (sealed_space sp) (newest_map (sealed_with b g) st)
chain_sealed t0 first sp b t st g core group has = record {
  images = has.images;
  chain = has.chain;
  now = has.now ∙ sym (face_is t0 sp b t st g core group);
  places = λ k some. absurd (some refl);
}

-- ---- a data write, behind an entry

pub chain_written : (t0 : Mounted) (first : Image) (sp : SpaceView) (b new : Books) (t : ℕ → Bool) (st st' : State) (block : ℕ) → Core t0 sp b t st → IsFaceData t0 sp (newest_map b st) block → Filled st' → IsOnDisk (Some st'.size) new.sup
    → new ≡ record b { moment = new.moment; stop = new.stop } → (new.stop ≡ None → b.stop ≡ None) → IsRight new (touching block t) st' → AreSameBut block b st new st' → 0 < length sp.history
    → HasChain t0 first sp (newest_map b st) → HasChain t0 first sp (newest_map new st')
chain_written t0 first sp b new t st st' block core file filled on rested stops right same some has = record {
  images = with_last (length sp.history) has.images last;
  chain = renewed t0 first sp.history has.images has.chain last some whole link;
  now = ap bare (renewed_now t0 first sp.history has.images has.chain last some whole link) ∙ bare_is t0 sp new (touching block t) st' later has.places;
  places = has.places;
}
  where
    later : Core t0 sp new (touching block t) st'
    later = piece_kept t0 sp b new t st st' block core file rested stops right same

    last : Image
    last = record { sup = face_super sp new; blocks = face_blocks sp new st' }

    whole : Whole last.sup last.blocks (after t0 sp.history)
    whole = face_whole t0 sp new (touching block t) st' later filled on

    same_there : (let x : Books = record b { moment = new.moment; stop = new.stop } in AreSameBut block b st x st')
    same_there = subst (λ (x : Books). AreSameBut block b st x st') rested same

    map_there : (k : ℕ) → (k ≡ block → ⊥) → newest_map new st' k ≡ newest_map b st k
    map_there k other = subst (λ (x : Books). newest_map x st' k ≡ newest_map b st k) (sym rested) (map_at t0 sp b t st core block file new.moment new.stop st' same_there k other)

    still : (k : ℕ) → IsFaceData t0 sp (newest_map b st) k → IsFaceData t0 sp (newest_map new st') k
    still k is = subst (λ (x : Books). IsFaceData t0 sp (newest_map x st') k) (sym rested) (file_still t0 sp b t st core block file new.moment new.stop st' same_there k is)

    alike : (k : ℕ) → ¬ IsFileData (face sp (newest_map new st')) (after t0 sp.history) k → ¬ IsFileData (face sp (newest_map b st)) (after t0 sp.history) k × ((face sp (newest_map new st')).blocks k ≡ (face sp (newest_map b st)).blocks k)
    alike k none = (
      (λ was. none (still k was)),
      ap (λ (o : Option (List ℕ)). unwrap_or (or_else (newest sp.group k) o) []) (map_there k (λ here. none (still k (subst (IsFaceData t0 sp (newest_map b st)) (sym here) file)))),
    )

    link : (old : Volume) (before : Tree) (call : Call) (reply : Reply) → IsCausedBy old (bare (has.images (length sp.history))) before (after t0 sp.history) call reply → IsCausedBy old (bare last) before (after t0 sp.history) call reply
    link old before call reply caused =
        subst (λ (v : Volume). IsCausedBy old v before (after t0 sp.history) call reply) (sym (bare_is t0 sp new (touching block t) st' later has.places))
        (caused_on old (face sp (newest_map b st)) (face sp (newest_map new st')) before (after t0 sp.history) call reply refl alike
        (subst (λ (v : Volume). IsCausedBy old v before (after t0 sp.history) call reply) has.now caused))

-- ---- a mount

module _ (t0 : Mounted) (image : List ℕ) (st : State) (whole : IsWhole image t0.tree) (holds : Holds image st) (filled : Filled st) (on : IsOnDisk (Some st.size) (super_of image)) where
  steady : IsSteady (adopted (super_of image))
  steady = adopted_steady (super_of image) whole.whole.valid.super whole.whole.emptied

  first_at : (k : ℕ) → masked (layout_of (super_of image)) (blocks_of image) k ≡ face_over [] (newest_map (adopted (super_of image)) st) k
  first_at k = by_test (is_data (layout_of (super_of image)) k) refl
    where
      by_test : (d : Bool) → is_data (layout_of (super_of image)) k ≡ d → masked (layout_of (super_of image)) (blocks_of image) k ≡ face_over [] (newest_map (adopted (super_of image)) st) k
      by_test true is =
          cond-true (is_data (layout_of (super_of image)) k) (blocks_of image k) [] is
          ∙ sym (face_at t0 (super_of image) st image whole refl holds filled on steady k (data_of (layout_of (super_of image)) k is))
      by_test false is =
          cond-false (is_data (layout_of (super_of image)) k) (blocks_of image k) [] is
          ∙ sym (ap (λ (o : Option (List ℕ)). unwrap_or o []) (cond-false (is_data (layout_of (super_of image)) k) (Some (version (adopted (super_of image)) st (sealed_of (adopted (super_of image))) k)) None is))

  pub chain_opened : HasChain t0 (image_in image) (opened (super_of image)) (newest_map (adopted (super_of image)) st)
  chain_opened = record {
    images = λ n. image_in image;
    chain = record {
      first_is = refl;
      whole = λ n le. subst (λ (k : ℕ). Whole (super_of image) (blocks_of image) (after t0 (take k []))) (let z : 0 ≡ n = omega (arith, le) in z) whole.whole;
      caused = λ n e is. absurd (cc);
    };
    now = λ i. record { geometry = geometry_of (super_of image); blocks = λ k. first_at k i };
    places = λ k some. absurd (some refl);
  }
