-- How what is known of a disk goes on over writes, barriers and crashes.
use Rattle.std.proofs.Common.{◌≡◌, ◌≢◌, ◌⊎◌, inl, inr, ⊎_elim, ℕ, ◌+◌, ◌-◌, ◌*◌, ◌<◌, List, [], ◌∷◌, length, take, refl, sym, ◌∙◌, ap, subst, arith, get_or, true, false, Option, None, Some, Result, Ok, Err, OnOk, OnErr}
use Rattle.std.proofs.lemmas.Bool.{cases_lt, cond_both, cond-true, true≢false}
use Rattle.std.proofs.lemmas.List.{take_all}
use Rattle.bfs_disk.specs.State.{State, IsImage, IsOneOf, IsHalfWritten, written, settled, names}
use Rattle.bfs_disk.specs.Disk.{MayLeave, HalfWritten, told_written}
use Rattle.bfs_base.proofs.Moments.{passed_one}
use Rattle.std.specs.Option.{option_map, IfSome}
use Rattle.bfs_disk.specs.State.{Tells}
use Rattle.bfs_disk.specs.declared.disk.Failed.{Failed}
use Rattle.bfs_disk.proofs.Names.{names_before, names_inside, names_after}
use Rattle.bfs_base.specs.Moments.{Elapses, Passed}
use Rattle.bfs_base.specs.Images.{sector}

pub first_is : (xs : List (List ℕ)) (c : List ℕ) → IsOneOf (take 1 xs) c → c ≡ get_or xs 0 []
first_is [] c one = absurd one
first_is (x ∷ xs) c one = ⊎_elim (λ e. e) (λ none. absurd none) one

pub first_same : (xs : List (List ℕ)) → get_or xs 0 [] ≡ get_or (take 1 xs) 0 []
first_same [] = refl
first_same (x ∷ xs) = refl

pub one_sector : (bytes : List ℕ) (j : ℕ) → length bytes ≡ 512 → j ≡ 0 → sector j bytes ≡ bytes
one_sector bytes j long none = ap (λ (i : ℕ). sector i bytes) none ∙ take_all 512 bytes (omega (arith, long))

pub named_one : (at k : ℕ) (bytes : List ℕ) → length bytes ≡ 512 → names at bytes k ≡ true → k ≡ at
named_one at k bytes long named =
    ⊎_elim (λ lt. absurd (true≢false (sym named ∙ names_before at k bytes lt)))
    (λ ge. ⊎_elim (λ lt. omega (arith, ge, lt)) (λ past. absurd (true≢false (sym named ∙ names_after at k bytes (omega (arith, past, long))))) (cases_lt k (at + 1)))
    (cases_lt k at)

pub unnamed_one : (at k : ℕ) (bytes : List ℕ) → length bytes ≡ 512 → names at bytes k ≡ false → k ≢ at
unnamed_one at k bytes long unnamed same = true≢false (sym (names_inside at k bytes (omega (arith, same)) (omega (arith, same, long))) ∙ unnamed)

-- the images of a call's moments
pub since_call : {T : Type 0} {s : State} {result : Result T Failed} {before now : ℕ} {past since : ℕ → List ℕ → Type 0} {during : List ℕ → Type 0}
    → Elapses (Some s) result before now past since during → ((c : List ℕ) → past before c → IsImage s c)
    → (c : List ℕ) → since before c → IsImage s c ⊎ during c
since_call {before} time only c left = ⊎_elim (λ was. inl (only c was)) (λ now. inr now) (time.nothing_else before c (omega arith) left)

-- the images of the moments of a write
pub since_write : {T : Type 0} {result : Result T Failed} {before now : ℕ} {past since : ℕ → List ℕ → Type 0} (old : Option State) (at : ℕ) (bytes : List ℕ) (R : List ℕ → Type 0)
    → Elapses old result before now past since (MayLeave (told_written old at bytes)) → ((c : List ℕ) → past before c → MayLeave old c)
    → (s : State) → old ≡ Some s → ((c : List ℕ) → IsImage s c → R c) → ((c : List ℕ) → IsImage (written s at bytes) c → R c)
    → (c : List ℕ) → since before c → R c
since_write None at bytes R time only s told was now c left = absurd (cc)
since_write {before} (Some t) at bytes R time only s told was now c left =
    let e : t ≡ s = cc in
    ⊎_elim (λ p. was c (subst (λ u. IsImage u c) e (only c p))) (λ d. now c (subst (λ u. IsImage (written u at bytes) c) e d)) (time.nothing_else before c (omega arith) left)

-- and of a call that writes nothing
pub since_quiet : {T : Type 0} {result : Result T Failed} {before now : ℕ} {past since : ℕ → List ℕ → Type 0} (old : Option State) (R : List ℕ → Type 0)
    → Elapses old result before now past since (MayLeave old) → ((c : List ℕ) → past before c → MayLeave old c)
    → (s : State) → old ≡ Some s → ((c : List ℕ) → IsImage s c → R c)
    → (c : List ℕ) → since before c → R c
since_quiet None R time only s told was c left = absurd (cc)
since_quiet {before} (Some t) R time only s told was c left =
    let e : t ≡ s = cc in
    ⊎_elim (λ p. was c (subst (λ u. IsImage u c) e (only c p))) (λ d. was c (subst (λ u. IsImage u c) e d)) (time.nothing_else before c (omega arith) left)

-- the number of sectors of a disk that tells what it holds
pub told_sized : (told : Option State) (size : Option ℕ) (s : State) (n : ℕ) → IfSome told (λ t. size ≡ Some t.size) → told ≡ Some s → size ≡ Some n → s.size ≡ n
told_sized None size s n law is known = absurd (cc)
told_sized (Some t) size s n law is known = cc

-- a write that failed leaves no image that one that succeeded could not leave
pub half_image : (s new : State) (at : ℕ) (bytes c : List ℕ) → IsHalfWritten s at bytes new → IsImage new c → IsImage (written s at bytes) c
half_image s new at bytes c half image = record {
  size = image.size ∙ ap (λ (n : ℕ). 512 * n) half.size;
  each = λ k lt.
      let lt_new : k < new.size = omega (arith, lt, half.size) in
      ⊎_elim
      (λ kept. cond_both (names at bytes k) (sector (k - at) bytes ∷ s.contents k) (s.contents k) (λ cs. IsOneOf cs (sector k c)) (λ _. inr (subst (λ cs. IsOneOf cs (sector k c)) kept (image.each k lt_new))) (λ _. subst (λ cs. IsOneOf cs (sector k c)) kept (image.each k lt_new)))
      (λ both. subst (λ cs. IsOneOf cs (sector k c)) (sym (cond-true (names at bytes k) (sector (k - at) bytes ∷ s.contents k) (s.contents k) both.0)) (subst (λ cs. IsOneOf cs (sector k c)) both.1 (image.each k lt_new)))
      (half.each k);
}

-- the moments of one call
pub passed_write : {T : Type 0} {result : Result T Failed} {before now : ℕ} {past since : ℕ → List ℕ → Type 0} (old : Option State) (at : ℕ) (bytes : List ℕ) (R : List ℕ → Type 0)
    → Elapses old result before now past since (MayLeave (told_written old at bytes)) → (s : State) → old ≡ Some s → ((c : List ℕ) → IsImage (written s at bytes) c → R c)
    → Passed before now past since R
passed_write None at bytes R time s told here = absurd (cc)
passed_write (Some t) at bytes R time s told here = let e : t ≡ s = cc in passed_one R time (λ c image. here c (subst (λ u. IsImage (written u at bytes) c) e image))

pub passed_quiet : {T : Type 0} {result : Result T Failed} {before now : ℕ} {past since : ℕ → List ℕ → Type 0} (old : Option State) (R : List ℕ → Type 0)
    → Elapses old result before now past since (MayLeave old) → (s : State) → old ≡ Some s → ((c : List ℕ) → IsImage s c → R c)
    → Passed before now past since R
passed_quiet None R time s told here = absurd (cc)
passed_quiet (Some t) R time s told here = let e : t ≡ s = cc in passed_one R time (λ c image. here c (subst (λ u. IsImage u c) e image))

-- the same of a disk that tells what it holds
pub tells_write : (A B : State → Type 0) (old new : Option State) (at : ℕ) (bytes : List ℕ) → new ≡ told_written old at bytes → Tells old A → ((s : State) → A s → B (written s at bytes)) → Tells new B
tells_write A B old new at bytes is known step =
    (written known.0 at bytes, is ∙ ap (λ (o : Option State). told_written o at bytes) known.1, step known.0 known.2)

pub tells_barrier : (A B : State → Type 0) (old new : Option State) → new ≡ option_map settled old → Tells old A → ((s : State) → A s → B (settled s)) → Tells new B
tells_barrier A B old new is known step =
    (settled known.0, is ∙ ap (λ (o : Option State). option_map settled o) known.1, step known.0 known.2)

-- what a crash may leave after a write, whether it succeeded or failed
pub now_write : {R : List ℕ → Type 0} (A : State → Type 0) (result : Result (Unit {0}) Failed) (old new : Option State) (at : ℕ) (bytes : List ℕ)
    → OnOk result (new ≡ told_written old at bytes) → OnErr result (HalfWritten old at bytes new) → Tells old A
    → ((s : State) → A s → (c : List ℕ) → IsImage (written s at bytes) c → R c)
    → (c : List ℕ) → MayLeave new c → R c
now_write {R} A (Ok u) old new at bytes done half known here c left =
    let e : new ≡ Some (written known.0 at bytes) = done ∙ ap (λ (o : Option State). told_written o at bytes) known.1 in
    here known.0 known.2 c (subst (λ (o : Option State). MayLeave o c) e left)
now_write {R} A (Err f) old new at bytes done half known here c left =
    let halves = subst (λ (o : Option State). HalfWritten o at bytes new) known.1 half in
    here known.0 known.2 c (half_image known.0 halves.0 at bytes c halves.2 (subst (λ (o : Option State). MayLeave o c) halves.1 left))
