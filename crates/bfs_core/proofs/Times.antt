-- What a crash at some moment might have left, over calls and entries.
use Rattle.std.proofs.Common.{◌≡◌, ◌⊎◌, inl, inr, ⊎_elim, ◌<◌, ◌≤◌, ◌+◌, ◌-◌, ◌^◌, min, ℕ, List, [], ◌∷◌, ◌++◌, Bool, true, false, refl, sym, subst, arith}
use Rattle.std.proofs.lemmas.Bool.{true≢false}
use Rattle.std.proofs.lemmas.List.{take-append-le, length-append}
use Rattle.std.proofs.lemmas.List.Elements.{All-push}
use Rattle.std.specs.List.{All}
use Rattle.bfs_base.specs.Moments.{Passed}
use Rattle.bfs_tree.specs.declared.reply.Entry.{Entry}
use Rattle.bfs_tree.specs.Histories.{Mounted, after}
use Rattle.bfs_sound.specs.Whole.{Recovers}
use Rattle.bfs_txn.specs.declared.group.Group.{Group}
use Rattle.bfs_device.specs.declared.journal.Mark.{Mark}
use Rattle.bfs_device.specs.declared.journal.Phase.{Phase}
use Rattle.bfs_device.specs.declared.journal.Phase.TheVariants.{Log, LogSafe, Open, OpenSafe, Home as GoHome, HomeSafe, Tail, TailSafe, Pass}
use Rattle.bfs_device.specs.Books.{Books}
use Rattle.bfs_device.specs.Steps.{HasMoved, still_touched, stepped, touched_front}
use Rattle.bfs_core.specs.Cores.{RecoversFrom}
use Rattle.bfs_core.specs.Moments.{Adoption, Kept, KeptSince, IsKept, IsLessTouched, Marked}

-- fewer entries
pub recovers_less : (t0 : Mounted) (history : List Entry) (m n : ℕ) (c : List ℕ) → m ≤ n → RecoversFrom t0 history n c → RecoversFrom t0 history m c
recovers_less t0 history m n c le from = (from.0, (let high = from.1 in omega (arith, le, high)), from.2, from.3)

-- a longer history
pub recovers_more : (t0 : Mounted) (history more : List Entry) (n : ℕ) (c : List ℕ) → RecoversFrom t0 history n c → RecoversFrom t0 (history ++ more) n c
recovers_more t0 history more n c from = (
  from.0,
  from.1,
  (let le = from.2 in omega (arith, le, length-append history more)),
  subst (λ (h : List Entry). Recovers c (after t0 h)) (sym (take-append-le from.0 history more from.2)) from.3,
)

pub kept_more : (t0 : Mounted) (history more : List Entry) (adopted : Adoption) (marks : List Mark) (durable moment clock : ℕ) (since : ℕ → List ℕ → Type 0) → Kept t0 history adopted marks durable moment clock since → Kept t0 (history ++ more) adopted marks durable moment clock since
kept_more t0 history more adopted marks durable moment clock since kept = record {
  slow = kept.slow;
  early = kept.early;
  low = kept.low;
  first = λ t c low high is. recovers_more t0 history more 0 c (kept.first t c low high is);
  marked = λ k d lt early t c low high is. recovers_more t0 history more _ c (kept.marked k d lt early t c low high is);
  reached = kept.reached;
}

module _ (t0 : Mounted) (history : List Entry) (adopted : Adoption) (durable moment clock durable' moment' clock' : ℕ) (past since : ℕ → List ℕ → Type 0) (during : List ℕ → Type 0)
    (time : Passed clock clock' past since during) (meanwhile : (c : List ℕ) → during c → RecoversFrom t0 history durable c) (now : (c : List ℕ) → since clock' c → RecoversFrom t0 history durable' c)
    (moved : HasMoved clock moment clock' moment') (later : durable ≤ durable') where
  one_more : clock' ≤ clock + 1
  one_more = ⊎_elim (λ stays. let e = stays.0 in omega (arith, e)) (λ goes. goes.0) moved

  le_or : (m n : ℕ) → (m ≤ n) ⊎ (n < m)
  le_or m n = grind arith

  pub still_since : (from n : ℕ) → n ≤ durable → KeptSince t0 history clock past from n → KeptSince t0 history clock' since from n
  still_since from n le kept t c low high is = ⊎_elim
      (λ early. ⊎_elim (λ before. kept t c low early before) (λ in_it. recovers_less t0 history n durable c le (meanwhile c in_it)) (time.nothing_else t c early is))
      (λ late.
      let at_end : t ≡ clock' = omega (arith, late, high, one_more) in
      recovers_less t0 history n durable' c (omega (arith, le, later)) (now c (subst (λ (x : ℕ). since x c) at_end is)))
      (le_or t clock)

  still_slow : (moment < 2 ^ 64 - 1 → clock ≤ adopted.moment + moment) → moment' < 2 ^ 64 - 1 → clock' ≤ adopted.moment + moment'
  still_slow slow early = ⊎_elim
      (λ stays. let e = stays.0 in let m = stays.1 in let le = slow (omega (arith, m, early)) in omega (arith, e, m, le))
      (λ goes.
      let m : moment' ≡ min (moment + 1) (2 ^ 64 - 1) = goes.1 in
      let is : moment' ≡ moment + 1 = grind (arith, m, early) in
      let le = slow (omega (arith, is, early)) in
      let c = goes.0 in omega (arith, is, le, c))
      moved

  -- a mark of this moment
  pub new_mark : (moment < 2 ^ 64 - 1 → clock ≤ adopted.moment + moment) → (m : Mark) → m.moment ≡ moment' → m.number ≤ durable' → IsKept t0 history adopted clock' since m
  new_mark slow m at low early t c from high is =
      let le = still_slow slow (omega (arith, at, early)) in
      let at_end : t ≡ clock' = omega (arith, at, from, high, le) in
      recovers_less t0 history m.number durable' c low (now c (subst (λ (x : ℕ). since x c) at_end is))

  pub kept_on : (marks marks' : List Mark) → Kept t0 history adopted marks durable moment clock past → Marked marks marks' durable' moment' → Kept t0 history adopted marks' durable' moment' clock' since
  kept_on marks marks' kept how = record {
    slow = still_slow kept.slow;
    early = kept.early;
    low = (let le = time.later in let low = kept.low in omega (arith, le, low));
    first = still_since adopted.begun 0 (omega arith) kept.first;
    marked = ⊎_elim
        (λ same. subst (All (IsKept t0 history adopted clock' since)) (sym same) old_marks)
        (λ more. subst (All (IsKept t0 history adopted clock' since)) (sym more.1) (All-push (IsKept t0 history adopted clock' since) marks more.0 old_marks (new_mark kept.slow more.0 more.2 more.3)))
        how;
    reached = ⊎_elim
        (λ same. subst (All (λ (m : Mark). m.number ≤ durable')) (sym same) old_low)
        (λ more. subst (All (λ (m : Mark). m.number ≤ durable')) (sym more.1) (All-push (λ (m : Mark). m.number ≤ durable') marks more.0 old_low more.3))
        how;
  }
    where
      old_marks : All (IsKept t0 history adopted clock' since) marks
      old_marks = λ k d lt early. still_since _ _ (kept.reached k d lt) (kept.marked k d lt early)

      old_low : All (λ (m : Mark). m.number ≤ durable') marks
      old_low = λ k d lt. let le = kept.reached k d lt in omega (arith, le, later)

-- ---- what a step touches

fewer_in : (b : Books) (gs : List Group) (p : Phase) (t : ℕ → Bool) (k : ℕ) → touched_front b.sup gs p t k ≡ true → t k ≡ true
fewer_in b [] p t k is = is
fewer_in b (g ∷ gs) (Log at) t k is = is
fewer_in b (g ∷ gs) LogSafe t k is = absurd (true≢false (sym is))
fewer_in b (g ∷ gs) Open t k is = is
fewer_in b (g ∷ gs) OpenSafe t k is = absurd (true≢false (sym is))
fewer_in b (g ∷ gs) (GoHome at) t k is = is
fewer_in b (g ∷ gs) HomeSafe t k is = absurd (true≢false (sym is))
fewer_in b (g ∷ gs) Tail t k is = is
fewer_in b (g ∷ gs) TailSafe t k is = absurd (true≢false (sym is))
fewer_in b (g ∷ gs) Pass t k is = absurd (true≢false (sym is))

step_fewer : (b : Books) (t : ℕ → Bool) (k : ℕ) → still_touched b t k ≡ true → t k ≡ true
step_fewer b t k is = fewer_in b b.groups b.phase t k is

barrier_in : (b : Books) (gs : List Group) (p : Phase) (t : ℕ → Bool) → (let c : Books = record b { groups = gs; phase = p } in ((stepped c).left ≡ b.left) ⊎ ((k : ℕ) → still_touched c t k ≡ false))
barrier_in b [] p t = inl refl
barrier_in b (g ∷ gs) (Log at) t = inl refl
barrier_in b (g ∷ gs) LogSafe t = inl refl
barrier_in b (g ∷ gs) Open t = inl refl
barrier_in b (g ∷ gs) OpenSafe t = inl refl
barrier_in b (g ∷ gs) (GoHome at) t = inl refl
barrier_in b (g ∷ gs) HomeSafe t = inl refl
barrier_in b (g ∷ gs) Tail t = inl refl
barrier_in b (g ∷ gs) TailSafe t = inr (λ k. refl)
barrier_in b (g ∷ gs) Pass t = inr (λ k. refl)

step_barrier : (b : Books) (t : ℕ → Bool) → ((stepped b).left ≡ b.left) ⊎ ((k : ℕ) → still_touched b t k ≡ false)
step_barrier b t = barrier_in b b.groups b.phase t

pub step_touches : (b : Books) (t : ℕ → Bool) → IsLessTouched b (stepped b) t (still_touched b t)
step_touches b t = record { fewer = step_fewer b t; barrier = step_barrier b t }
