-- Where there is room for a call, its entry isn't answered for want of room.
use Rattle.std.proofs.Common.{◌≡◌, ◌≢◌, ◌≤◌, ◌<◌, ◌+◌, ◌-◌, ◌*◌, ◌/◌, ◌%◌, ◌^◌, ◌⊎◌, ⊎_elim, inl, inr, max, ℕ, zero, suc, List, [], ◌∷◌, ◌++◌, length, length-append, Bool, true, false, cond, nat_lt, ◌==◌, Some, refl, sym, ap, ◌∙◌, subst, take, arith}
use Rattle.std.specs.Prelude.{slice_get}
use Rattle.std.specs.List.{AllByRecursion}
use Rattle.std.proofs.lemmas.Bool.{true≢false, cond-true, cond-false}
use Rattle.std.proofs.lemmas.List.Elements.{All-from_recursion}
use Rattle.std.proofs.Math.Nat.{div-add-mod, mul-le-mul_right, mul_comm}
use Rattle.std.proofs.Math.Pow.{pow_mono}
use Rattle.std.proofs.lemmas.Option.{slice_get_within}
use Rattle.bfs_base.specs.Lists.{times, Has, IsOnce, counted_from}
use Rattle.bfs_super.specs.Conditions.{natural, IsValid}
use Rattle.bfs_bitmap.specs.Bits.{in_run}
use Rattle.bfs_super.specs.declared.sup.Super.{Super}
use Rattle.bfs_bitmap.specs.Runs.{AreFrom}
use Rattle.bfs_bitmap.proofs.Looks.{remainder_is}
use Rattle.bfs_claims.proofs.Claiming.{times_append, times_run, length_run}
use Rattle.bfs_tree.specs.declared.call.Call.{Call}
use Rattle.bfs_tree.specs.declared.reply.Entry.{Entry}
use Rattle.bfs_tree.specs.declared.reply.Reply.{Reply}
use Rattle.bfs_tree.specs.declared.reply.Reply.TheVariants as replies
use Rattle.bfs_tree.specs.Histories.{Mounted, after}
use Rattle.bfs_tree.specs.Trees.{Tree}
use Rattle.bfs_sound.specs.Need.{logged_need, need}
use Rattle.bfs_sound.specs.Owners.{reach}
use Rattle.bfs_sound.specs.Volumes.{Volume, IsMarked}
use Rattle.bfs_sound.specs.Whole.{IsSound, Whole, volume_of}
use Rattle.bfs_sound.proofs.Carried.{sound_stays}
use Rattle.bfs_device.specs.Layouts.{layout_of}
use Rattle.bfs_core.specs.Caused.{AreFewIn, IsFreeIn, IsLogWanting, IsSpaceWanting, IsWanting, takes_out}
use Rattle.bfs_core.specs.Chains.{Image, IsChain, bare}
use Rattle.bfs_core.specs.Cores.{masked}
use Rattle.bfs_core.proofs.Images.{some_bytes}
use Rattle.bfs_core.proofs.Masks.{masked_at, metadata_data}
use Rattle.bfs_run.specs.Rooms.{HasRoomFor, HasLogRoomFor, LogRoomIsFound, RoomIsFound, TakingWantsNoSpace}

-- ---- numbers that stand once in a list, all below a bound

one_more : (x n : ℕ) → cond (x == n) 1 0 + cond (nat_lt x n) 1 0 ≡ cond (nat_lt x (suc n)) 1 0
one_more x n = grind arith

-- how many of a list stand below a number
below : ℕ → List ℕ → ℕ
below zero xs = 0
below (suc n) xs = times n xs + below n xs

below_none : (n : ℕ) → below n [] ≡ 0
unfolding below
below_none zero = refl
below_none (suc n) = let rest = below_none n in omega (arith, rest)

below_next : (n x : ℕ) (xs : List ℕ) → below n (x ∷ xs) ≡ cond (nat_lt x n) 1 0 + below n xs
unfolding below
below_next zero x xs = none_there x 0
  where
    none_there : (x n : ℕ) → n ≡ cond (nat_lt x 0) 1 0 + n
    none_there x n = grind arith
below_next (suc n) x xs =
    let rest = below_next n x xs in
    let one = one_more x n in
    omega (arith, rest, one)

below_few : (n : ℕ) (xs : List ℕ) → IsOnce xs → below n xs ≤ n
unfolding below
below_few zero xs once = omega arith
below_few (suc n) xs once = let rest = below_few n xs once in let one = once n in omega (arith, rest, one)

is_below : (x n : ℕ) → x < n → cond {A = ℕ} (nat_lt x n) 1 0 ≡ 1
is_below x n lt = grind (arith, lt)

has_first : (x : ℕ) (xs : List ℕ) → Has (x ∷ xs) x
has_first x xs = let one : cond {A = ℕ} (x == x) 1 0 ≡ 1 = grind arith in omega (arith, one)

has_rest : (x k : ℕ) (xs : List ℕ) → Has xs k → Has (x ∷ xs) k
has_rest x k xs has = omega (arith, has)

below_all : (n : ℕ) (xs : List ℕ) → ((k : ℕ) → Has xs k → k < n) → below n xs ≡ length xs
below_all n [] all = below_none n
below_all n (x ∷ xs) all =
    let next = below_next n x xs in
    let one = is_below x n (all x (has_first x xs)) in
    let rest = below_all n xs (λ k has. all k (has_rest x k xs has)) in
    omega (arith, next, one, rest)

-- so there are at most as many of them as the bound says
pub at_most : (n : ℕ) (xs : List ℕ) → IsOnce xs → ((k : ℕ) → Has xs k → k < n) → length xs ≤ n
at_most n xs once all = let few = below_few n xs once in let e = below_all n xs all in omega (arith, few, e)

-- ---- a run of free blocks

in_run_is : (first n k : ℕ) → in_run first n k ≡ true → (first ≤ k) × (k < first + n)
in_run_is first n k e = (grind (arith, e), grind (arith, e))

-- a place further on in the same group, or at the begin of the next
place_on : (g at d : ℕ) → at % g + d < g → (at + d) % g ≡ at % g + d
place_on g at d lt =
    let e : g * (at / g) + at % g ≡ at = div-add-mod at g in
    let f : at + d ≡ g * (at / g) + (at % g + d) = omega (arith, e) in
    ap (λ (n : ℕ). n % g) f ∙ remainder_is g (at / g) (at % g + d) lt

times_next : (a b : ℕ) → a * (b + 1) ≡ a * b + a
times_next a b = grind arith

place_next : (g at d : ℕ) → 0 < g → at % g + d ≡ g → (at + d) % g ≡ 0
place_next g at d some is =
    let e : g * (at / g) + at % g ≡ at = div-add-mod at g in
    let n : g * (at / g + 1) ≡ g * (at / g) + g = times_next g (at / g) in
    let f : at + d ≡ g * (at / g + 1) + 0 = omega (arith, e, n, is) in
    ap (λ (n : ℕ). n % g) f ∙ remainder_is g (at / g + 1) 0 some

in_one : (g at len more : ℕ) → 0 < g → at % g + (len + more) ≤ g → (at + len) % g + more ≤ g
in_one g at len more some fits = by_place (side (at % g + len) g)
  where
    side : (m n : ℕ) → (m < n) ⊎ (n ≤ m)
    side m n = grind arith

    by_place : (at % g + len < g) ⊎ (g ≤ at % g + len) → (at + len) % g + more ≤ g
    by_place (inl lt) = let e = place_on g at len lt in omega (arith, e, fits)
    by_place (inr le) = let e = place_next g at len some (omega (arith, le, fits)) in omega (arith, e, le, fits)

-- runs of a length, one behind the other
runs : ℕ → ℕ → ℕ → List ℕ
runs len zero first = []
runs len (suc n) first = first ∷ runs len n (first + len)

runs_many : (len n first : ℕ) → length (runs len n first) ≡ n
unfolding runs
runs_many len zero first = refl
runs_many len (suc n) first = ap suc (runs_many len n (first + len))

runs_apart : (len n first from : ℕ) → from ≤ first → AreFrom len from (runs len n first)
unfolding runs
runs_apart len zero first from le = tt
runs_apart len (suc n) first from le = (le, runs_apart len n (first + len) (first + len) (omega arith))

-- a free run is one of its first blocks and one of those behind them
front : (v : Volume) (len more first : ℕ) → IsFreeIn v (len + more) first → IsFreeIn v len first
front v len more first free = record {
  inside = (let le = free.inside in omega (arith, le));
  one_group = (let le = free.one_group in omega (arith, le));
  free = λ k low high. free.free k low (omega (arith, high));
}

behind : (v : Volume) (len more first : ℕ) → IsFreeIn v (len + more) first → IsFreeIn v more (first + len)
behind v len more first free = record {
  inside = (let le = free.inside in omega (arith, le));
  one_group = in_one (2 ^ v.geometry.shift) first len more (let e : 2 ^ 0 ≤ 2 ^ v.geometry.shift = pow_mono (let z : 0 ≤ v.geometry.shift = omega arith in z) in omega (arith, e)) free.one_group;
  free = λ k low high. free.free k (omega (arith, low)) (omega (arith, high));
}

next_times : (n len : ℕ) → suc n * len ≡ len + n * len
next_times n len = grind arith

-- of a free run of so many times the length, each of them is free
runs_each : (v : Volume) (len n first : ℕ) → IsFreeIn v (n * len) first → AllByRecursion (IsFreeIn v len) (runs len n first)
unfolding runs
runs_each v len zero first free = tt
runs_each v len (suc n) first free =
    let split = subst (λ (m : ℕ). IsFreeIn v m first) (next_times n len) free in
    (front v len (n * len) first split, runs_each v len n (first + len) (behind v len (n * len) first split))

shorter : (v : Volume) (less more first : ℕ) → less ≤ more → IsFreeIn v more first → IsFreeIn v less first
shorter v less more first low free = record {
  inside = (let le = free.inside in omega (arith, le, low));
  one_group = (let le = free.one_group in omega (arith, le, low));
  free = λ k from to. free.free k from (omega (arith, to, low));
}

few_times : (n len : ℕ) → len ≤ 4 → n * len ≤ 4 * n
few_times n len low = omega_times (mul-le-mul_right n low)
  where
    omega_times : len * n ≤ 4 * n → n * len ≤ 4 * n
    omega_times le = subst (λ (x : ℕ). x ≤ 4 * n) (mul_comm len n) le

-- so fewer of at most four blocks than needed aren't all that there are
pub enough_runs : (v : Volume) (len n needed first : ℕ) → len ≤ 4 → needed ≤ n → IsFreeIn v (4 * n) first → AreFewIn v len needed → ⊥
enough_runs v len n needed first low within free few =
    let many = runs_many len n first in
    let less = few (runs len n first) (runs_apart len n first 0 (omega arith)) (All-from_recursion (IsFreeIn v len) (runs len n first) (runs_each v len n first (shorter v (n * len) (4 * n) first (few_times n len low) free))) in
    omega (arith, many, less, within)

-- ---- as many blocks are free as a free run has

module _ (v : Volume) (tree : Tree) (sound : IsSound v tree) (n first : ℕ) (free : IsFreeIn v n first) where
  marked_at : (k : ℕ) → Has (reach v tree) k → IsMarked v k
  marked_at k has = (sound.bits k).1 has

  none_twice : (k : ℕ) → times k (reach v tree) + cond (in_run first n k) 1 0 ≤ 1
  none_twice k = by_place (in_run first n k) refl
    where
      by_place : (d : Bool) → in_run first n k ≡ d → times k (reach v tree) + cond (in_run first n k) 1 0 ≤ 1
      by_place false e = let z : cond {A = ℕ} (in_run first n k) 1 0 ≡ 0 = cond-false (in_run first n k) 1 0 e in let one = sound.nodes.once k in omega (arith, z, one)
      by_place true e =
          let z : cond {A = ℕ} (in_run first n k) 1 0 ≡ 1 = cond-true (in_run first n k) 1 0 e in
          let at = in_run_is first n k e in
          let none = not_there (times k (reach v tree)) (λ has. free.free k at.0 at.1 (marked_at k has)) in
          omega (arith, z, none)
        where
          not_there : (m : ℕ) → (0 < m → ⊥) → m ≡ 0
          not_there zero no_more = refl
          not_there (suc m) no_more = absurd (no_more (omega arith))

  together : List ℕ
  together = reach v tree ++ counted_from first n

  times_both : (k : ℕ) → times k together ≡ times k (reach v tree) + cond (in_run first n k) 1 0
  unfolding together
  times_both k = let a = times_append k (reach v tree) (counted_from first n) in let b = times_run k first n in omega (arith, a, b)

  all_inside : (k : ℕ) → Has together k → k < v.geometry.blocks
  all_inside k has = by_place (in_run first n k) refl
    where
      by_place : (d : Bool) → in_run first n k ≡ d → k < v.geometry.blocks
      by_place true e = let at = in_run_is first n k e in let high = at.1 in let inside = free.inside in omega (arith, high, inside)
      by_place false e =
          let z : cond {A = ℕ} (in_run first n k) 1 0 ≡ 0 = cond-false (in_run first n k) 1 0 e in
          let both = times_both k in
          (marked_at k (omega (arith, z, both, has))).0

  length_both : length together ≡ length (reach v tree) + length (counted_from first n)
  unfolding together
  length_both = length-append (reach v tree) (counted_from first n)

  pub enough_blocks : n ≤ v.geometry.blocks - v.geometry.used
  enough_blocks =
      let most = at_most v.geometry.blocks together (λ k. let both = times_both k in let one = none_twice k in omega (arith, both, one)) all_inside in
      let long : length together ≡ length (reach v tree) + length (counted_from first n) = length_both in
      let run = length_run first n in
      let used = sound.used in
      omega (arith, most, long, run, used)

-- ---- refusals for want of room

short_array : (n : ℕ) → 1024 ≤ n → max 1 (4096 / n) ≤ 4
short_array n low = grind (arith, low)

module _ (old new : Volume) (before now : Tree) (call : Call) (sound : IsSound old before) (low : 1024 ≤ old.geometry.block_size) where
  pub not_short : (free needed : ℕ) → IsSpaceWanting old before call free needed → HasRoomFor old (need old before call) → ⊥
  not_short free needed wants room = ⊎_elim
      (λ short. let many = enough_blocks old before sound (4 * need old before call) room.0 room.1 in let free_is = wants.free_is in let within = wants.within in omega (arith, short, many, free_is, within))
      (enough_runs old (max 1 (4096 / old.geometry.block_size)) (need old before call) needed room.0 (short_array old.geometry.block_size low) wants.within room.1)
      wants.why

pub not_crowded : (v : Volume) (tree : Tree) (call : Call) (blocks room : ℕ) → IsLogWanting v tree call blocks room → HasLogRoomFor v (logged_need v tree call) → ⊥
not_crowded v tree call blocks room wants fits =
    let is = wants.room_is in
    let within = wants.within in
    let why = wants.why in
    omega (arith, is, within, why, fits)

-- ---- the images of a chain

pub large_block : (s : Super) → IsValid s → 1024 ≤ s.block_size
large_block s valid = let p : 2 ^ 10 ≤ 2 ^ s.block_shift = pow_mono valid.block_size.0 in let e = valid.block_size.2 in omega (arith, e, p)

bare_sound : (i : Image) (tree : Tree) → Whole i.sup i.blocks tree → IsSound (bare i) tree
bare_sound i tree whole =
    sound_stays (volume_of i.sup i.blocks) (masked (layout_of i.sup) i.blocks) tree whole.sound (some_bytes i.sup whole.valid.super)
    (λ k meta apart. masked_at (layout_of i.sup) i.blocks k (metadata_data i.sup (natural i.sup.used_blocks) i.blocks tree whole.sound k meta apart))

-- the cause of a reply that is this one
cause_of : (v : Volume) (tree : Tree) (call : Call) (reply : Reply) (r : Reply) → reply ≡ r → IsWanting v tree call reply → IsWanting v tree call r
cause_of v tree call reply r is = subst (IsWanting v tree call) is

module _ (t0 : Mounted) (first : Image) (history : List Entry) (images : ℕ → Image) (chain : IsChain t0 first history images) (n : ℕ) (e : Entry) (at : slice_get history n ≡ Some e) where
  place_in : n ≤ length history
  place_in = let lt = slice_get_within history n e at in omega (arith, lt)

  why : IsWanting (bare (images n)) (after t0 (take n history)) e.call e.reply
  why = (chain.caused n e at).why

  sound_at : IsSound (bare (images n)) (after t0 (take n history))
  sound_at = bare_sound (images n) (after t0 (take n history)) (chain.whole n place_in)

  pub room_at : HasRoomFor (bare (images n)) (need (bare (images n)) (after t0 (take n history)) e.call) → (free needed : ℕ) → e.reply ≢ replies.NoSpace free needed
  room_at room free needed is =
      not_short (bare (images n)) (bare (images n)) (after t0 (take n history)) (after t0 (take n history)) e.call sound_at (large_block (images n).sup (chain.whole n place_in).valid.super)
      free needed (cause_of (bare (images n)) (after t0 (take n history)) e.call e.reply (replies.NoSpace free needed) is why) room

  pub taking_at : takes_out e.call ≡ true → (free needed : ℕ) → e.reply ≢ replies.NoSpace free needed
  taking_at takes free needed is =
      let wants : IsSpaceWanting (bare (images n)) (after t0 (take n history)) e.call free needed = cause_of (bare (images n)) (after t0 (take n history)) e.call e.reply (replies.NoSpace free needed) is why in
      true≢false (sym takes ∙ wants.takes)

  pub log_room_at : HasLogRoomFor (bare (images n)) (logged_need (bare (images n)) (after t0 (take n history)) e.call) → (blocks room : ℕ) → e.reply ≢ replies.NoLogRoom blocks room
  log_room_at fits blocks room is =
      not_crowded (bare (images n)) (after t0 (take n history)) e.call blocks room
      (cause_of (bare (images n)) (after t0 (take n history)) e.call e.reply (replies.NoLogRoom blocks room) is why) fits

pub room_is_found : RoomIsFound
room_is_found t0 first history images chain n e at = room_at t0 first history images chain n e at

pub taking_wants_no_space : TakingWantsNoSpace
taking_wants_no_space t0 first history images chain n e at = taking_at t0 first history images chain n e at

pub log_room_is_found : LogRoomIsFound
log_room_is_found t0 first history images chain n e at = log_room_at t0 first history images chain n e at
