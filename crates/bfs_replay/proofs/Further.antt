-- Homes one after the other in the log.
use Rattle.std.proofs.Common.{◌≡◌, ⊎_elim, ℕ, zero, suc, ◌+◌, ◌<◌, ◌≤◌, List, [], ◌∷◌, ◌++◌, length, take, get_or, refl, sym, ◌∙◌, ap, subst, arith, append_assoc, length-append}
use Rattle.std.specs.Prelude.{All, if◌then◌else◌, ◌==◌}
use Rattle.std.proofs.lemmas.Bool.{cases_eq, cond-true, cond-false, eq-eqb, ne_eqb}
use Rattle.std.proofs.lemmas.List.{take_more, append-nil}
use Rattle.std.proofs.lemmas.List.Elements.{All-head, All-tail}
use Rattle.bfs_base.specs.Lists.{Has, counted_from}
use Rattle.bfs_bytes.specs.declared.Run.{Run}
use Rattle.bfs_super.specs.declared.geometry.Geometry.{Geometry}
use Rattle.bfs_log.specs.Entry.{HasPlace, blocks_in, first_of}
use Rattle.bfs_log.specs.Ring.{next_place}
use Rattle.bfs_log.specs.Replay.{Home, home_places, homes_from, logged}
use Rattle.bfs_log.proofs.Logged.{next_inside}
use Rattle.bfs_log.proofs.Listed.{length-counted, blocks_joined}
use Rattle.bfs_log.proofs.Walks.{next_low, next_next}

pub next_zero : (at length : ℕ) → at < length → next_place at 0 length ≡ at
next_zero at length low = next_low at 0 length (omega arith) ∙ omega arith

pub counted_more : (first i n : ℕ) → n ≡ i + 1 → counted_from first n ≡ counted_from first i ++ (first + i) ∷ []
counted_more first zero n e = ap (λ (k : ℕ). counted_from first k) (let one : n ≡ 1 = omega (arith, e) in one) ∙ ap (λ (k : ℕ). k ∷ []) (let z : first ≡ first + 0 = omega arith in z)
counted_more first (suc i) n e =
    ap (λ (k : ℕ). counted_from first k) (let s : n ≡ suc (i + 1) = omega (arith, e) in s)
    ∙ ap (λ (l : List ℕ). first ∷ l) (counted_more (suc first) i (i + 1) refl)
    ∙ ap (λ (k : ℕ). first ∷ counted_from (suc first) i ++ k ∷ []) (let z : suc first + i ≡ first + suc i = omega arith in z)

module _ (g : Geometry) (f : ℕ → List ℕ) where
  pub homes_joined : (at : ℕ) (xs ys : List ℕ) → at < g.log.len → length xs + length ys ≤ g.log.len
      → homes_from g f at (xs ++ ys) ≡ homes_from g f at xs ++ homes_from g f (next_place at (length xs) g.log.len) ys
  homes_joined at [] ys low few = ap (λ (k : ℕ). homes_from g f k ys) (sym (next_zero at g.log.len low))
  homes_joined at (x ∷ xs) ys low few =
      let home : Home = record { place = x; bytes = logged g f at } in
      let next = next_place at 1 g.log.len in
      ap (λ (hs : List Home). home ∷ hs)
      (homes_joined next xs ys (next_inside at 1 g.log.len low (omega arith)) (omega arith)
      ∙ ap (λ (k : ℕ). homes_from g f next xs ++ homes_from g f k ys) (next_next at 1 (length xs) g.log.len low (omega arith) ∙ (let e : 1 + length xs ≡ suc (length xs) = omega arith in ap (λ (k : ℕ). next_place at k g.log.len) e)))

  -- the homes of more blocks, behind others
  pub homes_further : (done : List Home) (at n : ℕ) (xs ys : List ℕ) → at < g.log.len → n ≡ length xs → length xs + length ys ≤ g.log.len
      → (done ++ homes_from g f at xs) ++ homes_from g f (next_place at n g.log.len) ys ≡ done ++ homes_from g f at (xs ++ ys)
  homes_further done at n xs ys low is few =
      append_assoc done (homes_from g f at xs) (homes_from g f (next_place at n g.log.len) ys)
      ∙ ap (λ (hs : List Home). done ++ hs) (ap (λ (k : ℕ). homes_from g f at xs ++ homes_from g f (next_place at k g.log.len) ys) is ∙ sym (homes_joined at xs ys low few))

  -- one block of a run more
  pub run_further : (done : List Home) (at first i n : ℕ) → at < g.log.len → i < g.log.len → n ≡ i + 1
      → (done ++ homes_from g f at (counted_from first i)) ++ record { place = first + i; bytes = logged g f (next_place at i g.log.len) } ∷ [] ≡ done ++ homes_from g f at (counted_from first n)
  run_further done at first i n low few is =
      homes_further done at i (counted_from first i) ((first + i) ∷ []) low (sym (length-counted first i)) (omega (arith, length-counted first i, few))
      ∙ ap (λ (l : List ℕ). done ++ homes_from g f at l) (sym (counted_more first i n is))

-- one run more
pub blocks_more : (g : Geometry) (runs : List Run) (i n : ℕ) (d : Run) → i < length runs → n ≡ i + 1
    → blocks_in g (take n runs) ≡ blocks_in g (take i runs) ++ counted_from (first_of g (get_or runs i d)) (get_or runs i d).len
blocks_more g runs i n d low is =
    ap (λ (k : ℕ). blocks_in g (take k runs)) is
    ∙ ap (blocks_in g) (take_more runs i d low)
    ∙ blocks_joined g (take i runs) (get_or runs i d ∷ [])
    ∙ ap (λ (l : List ℕ). blocks_in g (take i runs) ++ l) (append-nil (counted_from (first_of g (get_or runs i d)) (get_or runs i d).len))

-- and they are no more than all
pub len_within : (g : Geometry) (runs : List Run) (i : ℕ) (d : Run) → i < length runs → length (blocks_in g (take i runs)) + (get_or runs i d).len ≤ length (blocks_in g runs)
len_within g [] i d low = absurd (omega arith)
len_within g (run ∷ runs) zero d low = omega (arith, length-append (counted_from (first_of g run) run.len) (blocks_in g runs), length-counted (first_of g run) run.len)
len_within g (run ∷ runs) (suc i) d low =
    omega (arith, length-append (counted_from (first_of g run) run.len) (blocks_in g runs), length-append (counted_from (first_of g run) run.len) (blocks_in g (take i runs)), len_within g runs i d (omega arith))

pub place_of_run : (g : Geometry) (runs : List Run) (i : ℕ) (d : Run) → All (HasPlace g) runs → i < length runs → HasPlace g (get_or runs i d)
place_of_run g [] i d all low = absurd (omega arith)
place_of_run g (run ∷ runs) zero d all low = All-head (HasPlace g) run runs all
place_of_run g (run ∷ runs) (suc i) d all low = place_of_run g runs i d (All-tail (HasPlace g) run runs all) (omega arith)

-- the blocks of a run are among those of all runs
pub has_left : (k : ℕ) (xs ys : List ℕ) → Has xs k → Has (xs ++ ys) k
has_left k [] ys has = absurd (omega (arith, has))
has_left k (x ∷ xs) ys has = ⊎_elim
    (λ same. let one : ◌≡◌ {A = ℕ} (if x == k then 1 else 0) 1 = cond-true {A = ℕ} (x == k) 1 0 (eq-eqb x k same) in omega (arith, one))
    (λ other. let none : ◌≡◌ {A = ℕ} (if x == k then 1 else 0) 0 = cond-false {A = ℕ} (x == k) 1 0 (ne_eqb x k other) in omega (arith, none, has_left k xs ys (omega (arith, none, has))))
    (cases_eq x k)

pub has_right : (k : ℕ) (xs ys : List ℕ) → Has ys k → Has (xs ++ ys) k
has_right k [] ys has = has
has_right k (x ∷ xs) ys has = let rest = has_right k xs ys has in omega (arith, rest)

pub has_counted : (k first n : ℕ) → first ≤ k → k < first + n → Has (counted_from first n) k
has_counted k first zero low high = absurd (omega arith)
has_counted k first (suc n) low high = ⊎_elim
    (λ same. let one : ◌≡◌ {A = ℕ} (if first == k then 1 else 0) 1 = cond-true {A = ℕ} (first == k) 1 0 (eq-eqb first k same) in omega (arith, one))
    (λ other. let rest = has_counted k (suc first) n (omega (arith, low, other)) (omega (arith, high)) in omega (arith, rest))
    (cases_eq first k)

pub has_blocks : (g : Geometry) (runs : List Run) (i : ℕ) (d : Run) (k : ℕ) → i < length runs → Has (counted_from (first_of g (get_or runs i d)) (get_or runs i d).len) k → Has (blocks_in g runs) k
has_blocks g [] i d k low has = absurd (omega arith)
has_blocks g (run ∷ runs) zero d k low has = has_left k (counted_from (first_of g run) run.len) (blocks_in g runs) has
has_blocks g (run ∷ runs) (suc i) d k low has = has_right k (counted_from (first_of g run) run.len) (blocks_in g runs) (has_blocks g runs i d k (omega arith) has)

pub homes_of_run : (g : Geometry) (runs : List Run) (i : ℕ) (d : Run) (all : List Home) (first len : ℕ) → i < length runs → first ≡ first_of g (get_or runs i d) → len ≡ (get_or runs i d).len
    → ((k : ℕ) → Has (blocks_in g runs) k → Has (home_places all) k) → (k : ℕ) → first ≤ k → k < first + len → Has (home_places all) k
homes_of_run g runs i d all first len low is long has k above below =
    has k (has_blocks g runs i d k low
    (has_counted k (first_of g (get_or runs i d)) (get_or runs i d).len (subst (λ (n : ℕ). n ≤ k) is above) (subst (λ (n : ℕ). k < n + (get_or runs i d).len) is (subst (λ (n : ℕ). k < first + n) long below))))
