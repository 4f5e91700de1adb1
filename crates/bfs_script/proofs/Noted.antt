-- The list of the sessions that read, after one is noted.
use Rattle.std.proofs.Common.{◌≡◌, ℕ, List, [], ◌∷◌, ◌++◌, ap, refl, ◌∙◌, Bool, true, false, ◌==◌, ◌||◌, if◌then◌else◌, arith}
use Rattle.std.proofs.lemmas.List.Folds.{list_any-append}
use Rattle.bfs_script.specs.Readers.{reads_in, without}

-- the session itself is gone
gone : (session : ℕ) (readers : List ℕ) → reads_in (without session readers) session ≡ false
gone session [] = refl
gone session (r ∷ rs) = by_test (r == session) refl (gone session rs)
  where
    by_test : (t : Bool) → (r == session) ≡ t → reads_in (without session rs) session ≡ false → reads_in (without session (r ∷ rs)) session ≡ false
    by_test true is more = rw is more
    by_test false is more = rw is (rw is more)

-- another stays
stays : (session s : ℕ) (readers : List ℕ) → ¬ (s ≡ session) → reads_in (without session readers) s ≡ reads_in readers s
stays session s [] other = refl
stays session s (r ∷ rs) other = by_test (r == session) refl (stays session s rs other)
  where
    apart : (r == session) ≡ true → (r == s) ≡ false
    apart is = grind (arith, is, other)

    by_test : (t : Bool) → (r == session) ≡ t → reads_in (without session rs) s ≡ reads_in rs s → reads_in (without session (r ∷ rs)) s ≡ reads_in (r ∷ rs) s
    by_test true is more = rw (is, apart is) more
    by_test false is more = rw is (ap (λ (b : Bool). (r == s) || b) more)

pub noted_gone : (session s : ℕ) (readers : List ℕ) → reads_in (without session readers) s ≡ (if s == session then false else reads_in readers s)
noted_gone session s readers = by_test (s == session) refl
  where
    same : (s == session) ≡ true → s ≡ session
    same is = grind (arith, is)

    differs : (s == session) ≡ false → ¬ (s ≡ session)
    differs is = λ e. grind (arith, is, e)

    by_test : (t : Bool) → (s == session) ≡ t → reads_in (without session readers) s ≡ (if s == session then false else reads_in readers s)
    by_test true is = rw is (ap (reads_in (without session readers)) (same is) ∙ gone session readers)
    by_test false is = rw is (stays session s readers (differs is))

pub noted_there : (session s : ℕ) (readers : List ℕ) → reads_in (without session readers ++ session ∷ []) s ≡ (if s == session then true else reads_in readers s)
noted_there session s readers = list_any-append (λ r. r == s) (without session readers) (session ∷ []) ∙ by_test (s == session) refl
  where
    turned : (t : Bool) → (s == session) ≡ t → (session == s) ≡ t
    turned true is = grind (arith, is)
    turned false is = grind (arith, is)

    or_true : (b : Bool) → (b || true) ≡ true
    or_true true = refl
    or_true false = refl

    or_false : (b : Bool) → (b || false) ≡ b
    or_false true = refl
    or_false false = refl

    by_test : (t : Bool) → (s == session) ≡ t → (reads_in (without session readers) s || ((session == s) || false)) ≡ (if s == session then true else reads_in readers s)
    by_test true is = rw (is, turned true is) (or_true (reads_in (without session readers) s))
    by_test false is = rw (is, turned false is) (or_false (reads_in (without session readers) s) ∙ noted_gone session s readers ∙ ap (λ (t : Bool). if t then false else reads_in readers s) is)
