-- The pieces that are held, once one more is, or once one was let go.
use Rattle.std.proofs.Common.{◌≡◌, ◌≢◌, ◌≤◌, ◌<◌, ◌⊎◌, ⊎_elim, inl, inr, ◌==◌, ◌+◌, ◌++◌, ℕ, zero, suc, List, [], ◌∷◌, length, map, remove, Bool, true, false, cond, not, Option, Some, None, refl, sym, ◌∙◌, ap, subst, append-nil, arith}
use Rattle.std.specs.Prelude.{slice_get, slice_set, ◌&&◌, ◌||◌}
use Rattle.std.specs.List.{list_any}
use Rattle.std.proofs.lemmas.Bool.{cases_lt, eqb-true, true≢false}
use Rattle.std.proofs.lemmas.List.{length-append, map-append}
use Rattle.bfs_base.specs.Lists.{Has, IsOnce, times}
use Rattle.bfs_stream.proofs.Doubles.{times-append}
use Rattle.bfs_disk.specs.State.{State}
use Rattle.bfs_tree.specs.declared.call.Call.{Call}
use Rattle.bfs_tree.specs.declared.call.Call.TheVariants as calls
use Rattle.bfs_tree.specs.declared.reply.Reply.TheVariants as replies
use Rattle.bfs_tree.specs.declared.reply.Entry.{Entry}
use Rattle.bfs_tree.specs.Steps.{is_done}
use Rattle.bfs_file_io.specs.Outcome.TheVariants.{Replied}
use Rattle.bfs_tree.specs.declared.state.Hold.{Hold}
use Rattle.bfs_tree.specs.States.{is_hold_of, last_hold, without_last}
use Rattle.bfs_device.specs.Books.{Books}
use Rattle.bfs_file_io.specs.Books.{SpaceBooks, without}
use Rattle.bfs_file_io.specs.Holds.{held_by, without_hold}
use Rattle.bfs_file_io.proofs.Held.{entry_is_held}
use Rattle.bfs_file_io.specs.Held.{HasTriedHold, TookOpen, taken_entry}
use Rattle.bfs_file_io.specs.Holding.{HasHeld}
use Rattle.bfs_file_io.specs.Entries.{HasEntryOf}
use Rattle.bfs_volume.specs.Events.{Opens}
use Rattle.bfs_file_io.specs.Open.{AreOpen, HoldsNone, IsOpen, OpenView, kept_if, sessions_of}
use Rattle.bfs_file_io.specs.Pieces.{HasUntaken}
use Rattle.bfs_volume.proofs.Others.{free_of, holds_untaken, kept_open, no_session}
use Rattle.bfs_file_io.proofs.Stays.{without_others}
use Rattle.bfs_core.proofs.Files.{get_has}

abbrev session_of : OpenView → ℕ
session_of p = p.hold.session

abbrev hold_in : OpenView → Hold
hold_in p = p.hold

-- ---- lists

eq_same : (a b : ℕ) → a ≡ b → (a == b) ≡ true
eq_same a b e = grind (arith, e)

get_last : {A : Type 0} (xs : List A) (x : A) → slice_get (xs ++ x ∷ []) (length xs) ≡ Some x
get_last [] x = refl
get_last (y ∷ ys) x = get_last ys x

-- what is in a list with one more is in the list, or is the one
get_more : {A : Type 0} (xs : List A) (x : A) (i : ℕ) (y : A) → slice_get (xs ++ x ∷ []) i ≡ Some y → (slice_get xs i ≡ Some y) ⊎ ((i ≡ length xs) × (y ≡ x))
get_more [] x zero y is = inr (refl, (let e : y ≡ x = cc in e))
get_more [] x (suc i) y is = absurd (let bad : None ≡ Some y = is in cc)
get_more (z ∷ zs) x zero y is = inl is
get_more (z ∷ zs) x (suc i) y is = ⊎_elim (λ low. inl low) (λ high. inr (ap suc high.0, high.1)) (get_more zs x i y is)

get_map : {A B : Type 0} (f : A → B) (xs : List A) (i : ℕ) (x : A) → slice_get xs i ≡ Some x → slice_get (map f xs) i ≡ Some (f x)
get_map f [] i x is = absurd (let bad : None ≡ Some x = is in cc)
get_map f (y ∷ ys) zero x is = let same : y ≡ x = cc in ap (λ z. Some (f z)) same
get_map f (y ∷ ys) (suc i) x is = get_map f ys i x is

-- ---- one piece more

once_more : (s : ℕ) (xs : List ℕ) → IsOnce xs → times s xs ≡ 0 → IsOnce (xs ++ s ∷ [])
once_more s xs once none k = by_test (s == k) refl
  where
    split : times k (xs ++ s ∷ []) ≡ times k xs + times k (s ∷ [])
    split = times-append k xs (s ∷ [])

    by_test : (d : Bool) → (s == k) ≡ d → times k (xs ++ s ∷ []) ≤ 1
    by_test true is =
        let e : s ≡ k = eqb-true s k is in
        let z : times k xs ≡ 0 = subst (λ (n : ℕ). times n xs ≡ 0) e none in
        let one : times k (s ∷ []) ≡ 1 = ap (λ (d : Bool). cond {A = ℕ} d 1 0 + 0) is in
        omega (arith, split, z, one)
    by_test false is =
        let one : times k (s ∷ []) ≡ 0 = ap (λ (d : Bool). cond {A = ℕ} d 1 0 + 0) is in
        let low = once k in
        omega (arith, split, low, one)

-- a hold that was taken is one piece more
module _ (pieces : List OpenView) (sp space : SpaceBooks) (b new : Books) (told told' : Option State) (session tag id at count : ℕ) (w : Bool) (places bytes : List ℕ) (are : AreOpen pieces sp b told) (other : session ≢ 0) (none : HoldsNone pieces session)
    (took : TookOpen sp space new told' session tag id at count w places) (long : length bytes ≡ count) (kept : (q : OpenView) → q.hold.session ≢ session → IsOpen q sp.view b told → IsOpen q space.view new told') where
  abbrev hold_now : Hold
  hold_now = record { session = session; id = id; at = at; length = count; write = w }

  abbrev pub piece_now : OpenView
  piece_now = record { hold = record { session = session; id = id; at = at; length = count; write = w }; places = places; bytes = bytes; done = 0; fault = None; loaded = [] }

  holds_now : held_by space.view.history ≡ map hold_in (pieces ++ piece_now ∷ [])
  holds_now =
      ap held_by took.appended
      ∙ entry_is_held sp.view.history (taken_entry session tag took.stamp id at count w)
      ∙ ap (λ (hs : List Hold). hs ++ hold_now ∷ []) are.holds
      ∙ sym (map-append hold_in pieces (piece_now ∷ []))

  pushed_one : IsOpen piece_now space.view new told'
  pushed_one = record {
    held = (length pieces, ap (λ (hs : List Hold). slice_get hs (length pieces)) holds_now ∙ get_map hold_in (pieces ++ piece_now ∷ []) (length pieces) piece_now (get_last pieces piece_now));
    has = took.has;
    blocks = took.blocks;
    long = long;
    even = inl refl;
    made = λ st is k lt. absurd (omega (arith, lt));
    kept = inl refl;
  }

  pub pushed : AreOpen (pieces ++ piece_now ∷ []) space new told'
  pushed = record {
    promised = took.promised ∙ ap (λ (xs : List ℕ). xs ++ session ∷ []) are.promised ∙ ap (λ (xs : List ℕ). 0 ∷ xs) (sym (map-append session_of pieces (piece_now ∷ [])));
    once = subst IsOnce (ap (λ (xs : List ℕ). 0 ∷ xs) (sym (map-append session_of pieces (piece_now ∷ [])))) (once_more session (sessions_of pieces) are.once (free_of pieces session none other));
    holds = holds_now;
    each = λ i q is. ⊎_elim (λ low. kept q (none i q low) (are.each i q low)) (λ high. subst (λ (x : OpenView). IsOpen x space.view new told') (sym high.1) pushed_one) (get_more pieces piece_now i q is);
  }

  -- what has become of the pieces: where the hold was taken one more is held
  module _ (pieces' : List OpenView) (after : (before : List Entry) (e : Entry) → space.view.history ≡ before ++ e ∷ [] → pieces' ≡ kept_if (is_done e.reply) pieces piece_now) where
    pub pushed_taken : AreOpen pieces' space new told'
    pushed_taken = subst (λ (ps : List OpenView). AreOpen ps space new told') (sym (after sp.view.history (taken_entry session tag took.stamp id at count w) took.appended)) pushed

-- a hold that wasn't taken leaves the pieces
untaken_open : (pieces : List OpenView) (sp space : SpaceBooks) (b new : Books) (told told' : Option State) (session tag : ℕ) (call : Call) → HasUntaken sp.view.history space.view.history session tag call → space.promised ≡ sp.promised → HoldsNone pieces session
    → ((q : OpenView) → q.hold.session ≢ session → IsOpen q sp.view b told → IsOpen q space.view new told') → AreOpen pieces sp b told → AreOpen pieces space new told'
untaken_open pieces sp space b new told told' session tag call un promised none kept are = kept_open pieces session sp space b new told told' none promised (holds_untaken sp.view.history space.view.history session tag call un) kept are

module _ (pieces : List OpenView) (sp space : SpaceBooks) (b new : Books) (told told' : Option State) (session tag id at count : ℕ) (w : Bool) (places bytes : List ℕ) (are : AreOpen pieces sp b told) (other : session ≢ 0) (none : HoldsNone pieces session) (long : length bytes ≡ count)
    (kept : (q : OpenView) → q.hold.session ≢ session → IsOpen q sp.view b told → IsOpen q space.view new told') (tried : HasTriedHold sp space new told' session tag id at count w places Replied) (pieces' : List OpenView)
    (after : (before : List Entry) (e : Entry) → space.view.history ≡ before ++ e ∷ [] → pieces' ≡ kept_if (is_done e.reply) pieces (record { hold = record { session = session; id = id; at = at; length = count; write = w }; places = places; bytes = bytes; done = 0; fault = None; loaded = [] })) where
  abbrev piece : OpenView
  piece = record { hold = record { session = session; id = id; at = at; length = count; write = w }; places = places; bytes = bytes; done = 0; fault = None; loaded = [] }

  after_untaken : HasUntaken sp.view.history space.view.history session tag (calls.Hold id at count w) → pieces' ≡ pieces
  after_untaken un = after sp.view.history (record { session = session; tag = tag; stamp = un.entry.stamp; call = calls.Hold id at count w; reply = un.reply }) un.entry.appended ∙ ap (λ (d : Bool). kept_if d pieces piece) un.refused

  pub after_reply : AreOpen pieces' space new told'
  after_reply = ⊎_elim
      (λ took. pushed_taken pieces sp space b new told told' session tag id at count w places bytes are other none took long kept pieces' after)
      (λ un. subst (λ (ps : List OpenView). AreOpen ps space new told') (sym (after_untaken un.0)) (untaken_open pieces sp space b new told told' session tag (calls.Hold id at count w) un.0 un.1 none kept are)) tried

  pub opened_by : Opens sp.view.history space.view.history pieces pieces' (record { session = session; id = id; at = at; length = count; write = w }) (λ given. given ≡ bytes)
  opened_by = (
    (λ e is done. (piece, after sp.view.history e is ∙ ap (λ (d : Bool). kept_if d pieces piece) done, refl, refl, refl, refl, refl)),
    (λ undone. ⊎_elim
        (λ took. absurd (true≢false (undone (taken_entry session tag took.stamp id at count w) took.appended)))
        (λ un. after_untaken un.0) tried),
  )

-- where no entry came no piece came
pub opened_none : (before now : List Entry) (pieces : List OpenView) (hold : Hold) (given : List ℕ → Type 0) → now ≡ before → Opens before now pieces pieces hold given
opened_none before now pieces hold given same = ((λ e is done. absurd (longer before e (sym same ∙ is))), λ undone. refl)
  where
    longer : (xs : List Entry) (e : Entry) → xs ≡ xs ++ e ∷ [] → ⊥
    longer xs e is = let long = ap length is in let more = length-append xs (e ∷ []) in omega (arith, long, more)

-- ---- one piece in its place

get_set : {A : Type 0} (xs : List A) (i : ℕ) (x v : A) → slice_get xs i ≡ Some x → slice_get (slice_set xs i v) i ≡ Some v
get_set [] i x v is = absurd (let bad : None ≡ Some x = is in cc)
get_set (y ∷ ys) zero x v is = refl
get_set (y ∷ ys) (suc i) x v is = get_set ys i x v is

-- what is in a list with one changed is that one, or stood at another place
set_cases : {A : Type 0} (xs : List A) (i : ℕ) (v : A) (j : ℕ) (y : A) → slice_get (slice_set xs i v) j ≡ Some y → (y ≡ v) ⊎ ((slice_get xs j ≡ Some y) × (j ≢ i))
set_cases [] i v j y is = inr (is, λ same. absurd (let bad : None ≡ Some y = is in cc))
set_cases (x ∷ xs) zero v zero y is = inl (let e : y ≡ v = cc in e)
set_cases (x ∷ xs) zero v (suc j) y is = inr (is, λ same. omega (arith, same))
set_cases (x ∷ xs) (suc i) v zero y is = inr (is, λ same. omega (arith, same))
set_cases (x ∷ xs) (suc i) v (suc j) y is = ⊎_elim (λ here. inl here) (λ there. inr (there.0, λ same. there.1 (omega (arith, same)))) (set_cases xs i v j y is)

map_set : {A B : Type 0} (f : A → B) (xs : List A) (i : ℕ) (x v : A) → slice_get xs i ≡ Some x → f v ≡ f x → map f (slice_set xs i v) ≡ map f xs
map_set f [] i x v is same = absurd (let bad : None ≡ Some x = is in cc)
map_set f (y ∷ ys) zero x v is same = let here : x ≡ y = cc in ap (λ z. z ∷ map f ys) (same ∙ ap f here)
map_set f (y ∷ ys) (suc i) x v is same = ap (λ zs. f y ∷ zs) (map_set f ys i x v is same)

-- what stands at two places of a list is in it twice
get_twice : (xs : List ℕ) (i j k : ℕ) → slice_get xs i ≡ Some k → slice_get xs j ≡ Some k → i < j → 2 ≤ times k xs
get_twice [] i j k is also lt = absurd (cc)
get_twice (x ∷ xs) zero zero k is also lt = absurd (omega (arith, lt))
get_twice (x ∷ xs) zero (suc j) k is also lt =
    let e : x ≡ k = cc in
    let one : cond {A = ℕ} (x == k) 1 0 ≡ 1 = ap (λ (d : Bool). cond {A = ℕ} d 1 0) (eq_same x k e) in
    let rest : 0 < times k xs = get_has xs j k also in
    omega (arith, one, rest)
get_twice (x ∷ xs) (suc i) zero k is also lt = absurd (omega (arith, lt))
get_twice (x ∷ xs) (suc i) (suc j) k is also lt = let rest : 2 ≤ times k xs = get_twice xs i j k is also (omega (arith, lt)) in omega (arith, rest)

-- no session has two pieces
other_sessions : (pieces : List OpenView) (i j : ℕ) (p q : OpenView) → IsOnce (sessions_of pieces) → slice_get pieces i ≡ Some p → slice_get pieces j ≡ Some q → j ≢ i → q.hold.session ≢ p.hold.session
other_sessions pieces i j p q once is also other same =
    let all : List ℕ = map session_of pieces in
    let here : slice_get all i ≡ Some p.hold.session = get_map session_of pieces i p is in
    let there : slice_get all j ≡ Some p.hold.session = get_map session_of pieces j q also ∙ ap (λ (n : ℕ). Some n) same in
    let most = once p.hold.session in
    let below : i < j → ⊥ = λ lt. (let two = get_twice all i j p.hold.session here there lt in omega (arith, two, most)) in
    let above : j < i → ⊥ = λ lt. (let two = get_twice all j i p.hold.session there here lt in omega (arith, two, most)) in
    ⊎_elim (λ (lt : i < j). below lt) (λ (le : j ≤ i). above (omega (arith, le, (λ (e : j ≡ i). other e)))) (cases_lt i j)

pub set_open : (pieces : List OpenView) (sp : SpaceBooks) (b new : Books) (told told' : Option State) (i : ℕ) (p now : OpenView) → slice_get pieces i ≡ Some p → now.hold ≡ p.hold → IsOpen now sp.view new told'
    → ((q : OpenView) → q.hold.session ≢ p.hold.session → IsOpen q sp.view b told → IsOpen q sp.view new told') → AreOpen pieces sp b told → AreOpen (slice_set pieces i now) sp new told'
set_open pieces sp b new told told' i p now is same one kept are = record {
  promised = are.promised ∙ ap (λ (xs : List ℕ). 0 ∷ xs) (sym (map_set session_of pieces i p now is (ap (λ (h : Hold). h.session) same)));
  once = subst IsOnce (ap (λ (xs : List ℕ). 0 ∷ xs) (sym (map_set session_of pieces i p now is (ap (λ (h : Hold). h.session) same)))) are.once;
  holds = are.holds ∙ sym (map_set hold_in pieces i p now is same);
  each = λ j q at. ⊎_elim (λ here. subst (λ (x : OpenView). IsOpen x sp.view new told') (sym here) one) (λ there. kept q (other_sessions pieces i j p q are.once is there.0 there.1) (are.each j q there.0)) (set_cases pieces i now j q at);
}

-- ---- one piece less

remove_cases : {A : Type 0} (xs : List A) (i j : ℕ) (y : A) → slice_get (remove xs i) j ≡ Some y → (k : ℕ) × (slice_get xs k ≡ Some y) × (k ≢ i)
remove_cases [] zero j y is = absurd (let bad : None ≡ Some y = is in cc)
remove_cases [] (suc i) j y is = absurd (let bad : None ≡ Some y = is in cc)
remove_cases (x ∷ xs) zero j y is = (suc j, is, λ same. omega (arith, same))
remove_cases (x ∷ xs) (suc i) zero y is = (zero, is, λ same. omega (arith, same))
remove_cases (x ∷ xs) (suc i) (suc j) y is = let r = remove_cases xs i j y is in (suc r.0, r.1, λ same. r.2 (omega (arith, same)))

-- numbers of a list without one
times_removed : (k : ℕ) (pieces : List OpenView) (i : ℕ) → times k (map session_of (remove pieces i)) ≤ times k (map session_of pieces)
times_removed k [] zero = omega arith
times_removed k [] (suc i) = omega arith
times_removed k (x ∷ xs) zero = omega arith
times_removed k (x ∷ xs) (suc i) = let low = times_removed k xs i in omega (arith, low)

has_times : (pieces : List OpenView) (i : ℕ) (p : OpenView) → slice_get pieces i ≡ Some p → 0 < times p.hold.session (map session_of pieces)
has_times pieces i p is = get_has (map session_of pieces) i p.hold.session (get_map session_of pieces i p is)

-- the promises of the others
without_removed : (pieces : List OpenView) (i : ℕ) (p : OpenView) → slice_get pieces i ≡ Some p → times p.hold.session (map session_of pieces) ≤ 1 → without p.hold.session (map session_of pieces) ≡ map session_of (remove pieces i)
without_removed [] i p is most = absurd (let bad : None ≡ Some p = is in cc)
without_removed (x ∷ xs) zero p is most =
    let same : x ≡ p = cc in
    let e : (session_of x == p.hold.session) ≡ true = eq_same (session_of x) p.hold.session (ap session_of same) in
    let count : cond {A = ℕ} (session_of x == p.hold.session) 1 0 ≡ 1 = ap (λ (d : Bool). cond {A = ℕ} d 1 0) e in
    let rest : times p.hold.session (map session_of xs) ≡ 0 = omega (arith, most, count) in
    ap (λ (d : Bool). cond (not d) (session_of x ∷ without p.hold.session (map session_of xs)) (without p.hold.session (map session_of xs))) e
    ∙ ap (without p.hold.session) (sym (append-nil (map session_of xs))) ∙ without_others p.hold.session (map session_of xs) [] rest ∙ append-nil (map session_of xs)
without_removed (x ∷ xs) (suc i) p is most =
    let some = has_times xs i p is in
    by_test (session_of x == p.hold.session) refl (without_removed xs i p is) some most
  where
    by_test : (d : Bool) → (session_of x == p.hold.session) ≡ d → (times p.hold.session (map session_of xs) ≤ 1 → without p.hold.session (map session_of xs) ≡ map session_of (remove xs i)) → 0 < times p.hold.session (map session_of xs)
        → cond {A = ℕ} (session_of x == p.hold.session) 1 0 + times p.hold.session (map session_of xs) ≤ 1
        → cond (not (session_of x == p.hold.session)) (session_of x ∷ without p.hold.session (map session_of xs)) (without p.hold.session (map session_of xs)) ≡ session_of x ∷ map session_of (remove xs i)
    by_test true e rest some most = let count : cond {A = ℕ} (session_of x == p.hold.session) 1 0 ≡ 1 = ap (λ (d : Bool). cond {A = ℕ} d 1 0) e in absurd (omega (arith, count, some, most))
    by_test false e rest some most =
        ap (λ (d : Bool). cond (not d) (session_of x ∷ without p.hold.session (map session_of xs)) (without p.hold.session (map session_of xs))) e
        ∙ ap (λ (ys : List ℕ). session_of x ∷ ys) (rest (omega (arith, most)))

-- none of the holds is the session's where none of the sessions is it
none_any : (session id : ℕ) (pieces : List OpenView) → times session (map session_of pieces) ≡ 0 → list_any (is_hold_of session id) (map hold_in pieces) ≡ false
none_any session id [] none = refl
none_any session id (x ∷ xs) none = by_test (session_of x == session) refl none (none_any session id xs)
  where
    by_test : (d : Bool) → (session_of x == session) ≡ d → cond {A = ℕ} d 1 0 + times session (map session_of xs) ≡ 0 → (times session (map session_of xs) ≡ 0 → list_any (is_hold_of session id) (map hold_in xs) ≡ false)
        → (((session_of x == session) && ((hold_in x).id == id)) || list_any (is_hold_of session id) (map hold_in xs)) ≡ false
    by_test true e none rest = absurd (omega (arith, none))
    by_test false e none rest = ap (λ (d : Bool). (d && ((hold_in x).id == id)) || list_any (is_hold_of session id) (map hold_in xs)) e ∙ rest (omega (arith, none))

own_is : (p : OpenView) → is_hold_of p.hold.session p.hold.id p.hold ≡ true
own_is p = ap (λ (d : Bool). d && (p.hold.id == p.hold.id)) (eq_same p.hold.session p.hold.session refl) ∙ eq_same p.hold.id p.hold.id refl

some_any : (pieces : List OpenView) (i : ℕ) (p : OpenView) → slice_get pieces i ≡ Some p → list_any (is_hold_of p.hold.session p.hold.id) (map hold_in pieces) ≡ true
some_any [] i p is = absurd (let bad : None ≡ Some p = is in cc)
some_any (x ∷ xs) zero p is = let same : x ≡ p = cc in ap (λ (y : OpenView). is_hold_of p.hold.session p.hold.id y.hold || list_any (is_hold_of p.hold.session p.hold.id) (map hold_in xs)) same ∙ ap (λ (d : Bool). d || list_any (is_hold_of p.hold.session p.hold.id) (map hold_in xs)) (own_is p)
some_any (x ∷ xs) (suc i) p is = or_true (is_hold_of p.hold.session p.hold.id x.hold) (list_any (is_hold_of p.hold.session p.hold.id) (map hold_in xs)) (some_any xs i p is)
  where
    or_true : (a b : Bool) → b ≡ true → (a || b) ≡ true
    or_true true b e = refl
    or_true false b e = e

-- the session's hold on its file is that of its piece, and the holds without it are those of the others
module _ (session id : ℕ) where
  last_found : (pieces : List OpenView) (i : ℕ) (p : OpenView) → slice_get pieces i ≡ Some p → p.hold.session ≡ session → p.hold.id ≡ id → times session (map session_of pieces) ≤ 1
      → (last_hold (map hold_in pieces) session id ≡ Some p.hold) × (without_last (map hold_in pieces) session id ≡ map hold_in (remove pieces i))
  last_found [] i p is own file most = absurd (let bad : None ≡ Some p = is in cc)
  last_found (x ∷ xs) zero p is own file most =
      let same : x ≡ p = cc in
      let mine : session_of x ≡ session = ap session_of same ∙ own in
      let count : cond {A = ℕ} (session_of x == session) 1 0 ≡ 1 = ap (λ (d : Bool). cond {A = ℕ} d 1 0) (eq_same (session_of x) session mine) in
      let none = none_any session id xs (omega (arith, most, count)) in
      let it : is_hold_of session id (hold_in x) ≡ true = ap (λ (d : Bool). d && ((hold_in x).id == id)) (eq_same (session_of x) session mine) ∙ eq_same (hold_in x).id id (ap (λ (y : OpenView). y.hold.id) same ∙ file) in (
        ap (λ (d : Bool). cond {A = Option Hold} d (last_hold (map hold_in xs) session id) (cond {A = Option Hold} (is_hold_of session id (hold_in x)) (Some (hold_in x)) None)) none ∙ ap (λ (d : Bool). cond {A = Option Hold} d (Some (hold_in x)) None) it ∙ ap (λ (y : OpenView). Some y.hold) same,
        ap (λ (d : Bool). cond {A = List Hold} d (hold_in x ∷ without_last (map hold_in xs) session id) (cond {A = List Hold} (is_hold_of session id (hold_in x)) (map hold_in xs) (hold_in x ∷ map hold_in xs))) none ∙ ap (λ (d : Bool). cond {A = List Hold} d (map hold_in xs) (hold_in x ∷ map hold_in xs)) it,
      )
  last_found (x ∷ xs) (suc i) p is own file most =
      let any : list_any (is_hold_of session id) (map hold_in xs) ≡ true = subst (λ (n : ℕ). list_any (is_hold_of n id) (map hold_in xs) ≡ true) own (subst (λ (n : ℕ). list_any (is_hold_of p.hold.session n) (map hold_in xs) ≡ true) file (some_any xs i p is)) in
      let rest = last_found xs i p is own file (omega (arith, most)) in (
        ap (λ (d : Bool). cond {A = Option Hold} d (last_hold (map hold_in xs) session id) (cond {A = Option Hold} (is_hold_of session id (hold_in x)) (Some (hold_in x)) None)) any ∙ rest.0,
        ap (λ (d : Bool). cond {A = List Hold} d (hold_in x ∷ without_last (map hold_in xs) session id) (cond {A = List Hold} (is_hold_of session id (hold_in x)) (map hold_in xs) (hold_in x ∷ map hold_in xs))) any ∙ ap (λ (hs : List Hold). hold_in x ∷ hs) rest.1,
      )

module _ (pieces : List OpenView) (sp : SpaceBooks) (b : Books) (told : Option State) (i : ℕ) (p : OpenView) (is : slice_get pieces i ≡ Some p) (are : AreOpen pieces sp b told) where
  most_one : times p.hold.session (map session_of pieces) ≤ 1
  most_one = let most = are.once p.hold.session in omega (arith, most)

  found_last : (last_hold (map hold_in pieces) p.hold.session p.hold.id ≡ Some p.hold) × (without_last (map hold_in pieces) p.hold.session p.hold.id ≡ map hold_in (remove pieces i))
  found_last = last_found p.hold.session p.hold.id pieces i p is refl refl most_one

  -- the session holds its piece
  pub piece_held : HasHeld sp.view.history p.hold.session p.hold.id p.hold.at p.hold.length p.hold.write
  piece_held = ap (λ (hs : List Hold). last_hold hs p.hold.session p.hold.id) are.holds ∙ found_last.0

  pub piece_promised : Has sp.promised p.hold.session
  piece_promised = subst (λ (xs : List ℕ). Has xs p.hold.session) (sym are.promised) (let some = has_times pieces i p is in omega (arith, some))

  -- no piece is session 0's
  pub piece_some : p.hold.session ≢ 0
  piece_some = no_session pieces are.once i p is

  -- without it the others are held
  pub removed_open : (space : SpaceBooks) (tag : ℕ) (bytes : List ℕ) (whole : Bool) (from upto : ℕ) → HasEntryOf sp.view.history space.view.history p.hold.session tag (calls.Release p.hold.id bytes whole from upto) replies.Done → space.promised ≡ without p.hold.session sp.promised
      → ((q : OpenView) → q.hold.session ≢ p.hold.session → IsOpen q sp.view b told → IsOpen q space.view b told) → AreOpen (remove pieces i) space b told
  removed_open space tag bytes whole from upto entry promised kept = record {
    promised = promised ∙ ap (without p.hold.session) are.promised ∙ ap (λ (d : Bool). cond (not d) (0 ∷ without p.hold.session (map session_of pieces)) (without p.hold.session (map session_of pieces))) (not_zero p.hold.session piece_some)
        ∙ ap (λ (xs : List ℕ). 0 ∷ xs) (without_removed pieces i p is most_one);
    once = λ k. (let low = times_removed k pieces i in let most = are.once k in omega (arith, low, most));
    holds = ap held_by entry.appended ∙ entry_is_held sp.view.history _ ∙ ap (λ (hs : List Hold). without_hold hs p.hold.session p.hold.id (last_hold hs p.hold.session p.hold.id)) are.holds
        ∙ ap (without_hold (map hold_in pieces) p.hold.session p.hold.id) found_last.0 ∙ found_last.1;
    each = λ j q at. (let r = remove_cases pieces i j q at in kept q (other_sessions pieces i r.0 p q are.once is r.1 r.2) (are.each r.0 q r.1));
  }
    where
      not_zero : (n : ℕ) → n ≢ 0 → (0 == n) ≡ false
      not_zero zero other = absurd (other refl)
      not_zero (suc n) other = grind arith
