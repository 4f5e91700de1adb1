-- What is kept stays what the disk reads.
use Rattle.std.proofs.Common.{◌≡◌, ◌≢◌, ⊎_elim, ℕ, ◌+◌, ◌*◌, ◌/◌, ◌<◌, ◌≤◌, List, [], ◌∷◌, length, take, get_or, sym, ◌∙◌, ap, subst, arith, false, nat_eq, Option, Some, None}
use Rattle.std.proofs.lemmas.Bool.{cases_eq, cases_lt, cond-false, true≢false}
use Rattle.std.proofs.Math.Nat.{mul-le-mul_left}
use Rattle.std.specs.List.{IsDistinct}
use Rattle.std.specs.Map.{keys_of}
use Rattle.std.specs.Option.{IfSome}
use Rattle.bfs_disk.specs.State.{State, newest, written, settled, names, IsHalfWritten}
use Rattle.bfs_disk.specs.Blocks.{AreRead}
use Rattle.bfs_disk.specs.Disk.{HalfWritten, InRange, told_written}
use Rattle.bfs_disk.proofs.Names.{names_before, names_after}
use Rattle.bfs_disk.proofs.Calls.{first_same}
use Rattle.bfs_disk.proofs.Joined.{joined_same}
use Rattle.bfs_cache.specs.Kept.{kept_of, without}
use Rattle.bfs_cache.specs.Agreement.{AgreesAt, Agrees, IsInside, WriteKeeps, FailedWriteKeeps, BarrierKeeps}
use Rattle.bfs_cache.proofs.Entries.{first_at, others_stay, is_gone}

-- what agrees of a block's kept bytes
abbrev Good : Option State → ℕ → ℕ → Option (List ℕ) → Type 0
Good told r k o = IfSome o (λ bytes. (length bytes ≡ 512 * r) × AreRead told r k bytes)

pub agrees_with : (told : Option State) (r b : ℕ) (es : List (ℕ × List ℕ)) (bytes : List ℕ) → kept_of es b ≡ Some bytes → Agrees told r es → (length bytes ≡ 512 * r) × AreRead told r b bytes
agrees_with told r b es bytes is all = subst (Good told r b) is (all b)

pub agrees_first : (told : Option State) (r n b : ℕ) (bytes : List ℕ) (es : List (ℕ × List ℕ)) → length bytes ≡ 512 * r → AreRead told r b bytes → Agrees told r es → Agrees told r (take n ((b, bytes) ∷ without b es))
agrees_first told r n b bytes es long reads all = λ k. ⊎_elim
    (λ gone. subst (Good told r k) (sym gone) tt)
    (λ some. ⊎_elim
    (λ here. subst (Good told r k) (sym here.1) (long, subst (λ (i : ℕ). AreRead told r i bytes) (sym here.0) reads))
    (λ same. subst (Good told r k) (sym same) (all k))
    some)
    (first_at n b k bytes es)

pub agrees_without : (told : Option State) (r b : ℕ) (es : List (ℕ × List ℕ)) → IsDistinct nat_eq (keys_of es) → ((k : ℕ) → k ≢ b → AgreesAt told r es k) → Agrees told r (without b es)
agrees_without told r b es once others = λ k. ⊎_elim
    (λ here. subst (Good told r k) (sym (ap (kept_of (without b es)) here ∙ is_gone b es once)) tt)
    (λ other. subst (Good told r k) (sym (others_stay b k es other)) (others k other))
    (cases_eq k b)

-- other bytes, as many
pub range_of : (size : Option ℕ) (at : ℕ) (bytes other : List ℕ) → length other ≡ length bytes → InRange size at bytes → InRange size at other
range_of None at bytes other same range = range
range_of (Some n) at bytes other same range = omega (arith, range, ap (λ (m : ℕ). m / 512) same)

-- ---- calls of the disk

-- a write inside of a block names no sector of another
unnamed : (r b k at : ℕ) (bytes : List ℕ) (j : ℕ) → IsInside r b at bytes → k ≢ b → j < r → names at bytes (r * k + j) ≡ false
unnamed r b k at bytes j within other lt =
    ⊎_elim (λ below. names_before at (r * k + j) bytes (let le : r * (k + 1) ≤ r * b = mul-le-mul_left r (let l : k + 1 ≤ b = omega (arith, below) in l) in omega (arith, le, lt, within.0)))
    (λ ge. names_after at (r * k + j) bytes (let le : r * (b + 1) ≤ r * k = mul-le-mul_left r (let l : b + 1 ≤ k = omega (arith, ge, other) in l) in omega (arith, le, within.1)))
    (cases_lt k b)

reads_on : (r k : ℕ) (old new : State) (bytes : List ℕ) → ((j : ℕ) → j < r → newest new (r * k + j) ≡ newest old (r * k + j)) → AreRead (Some old) r k bytes → AreRead (Some new) r k bytes
reads_on r k old new bytes same read = read ∙ joined_same r (λ j. newest old (r * k + j)) (λ j. newest new (r * k + j)) (λ j lt. sym (same j lt))

good_on : (r k : ℕ) (old new : State) (o : Option (List ℕ)) → ((j : ℕ) → j < r → newest new (r * k + j) ≡ newest old (r * k + j)) → Good (Some old) r k o → Good (Some new) r k o
good_on r k old new None same good = tt
good_on r k old new (Some bytes) same good = (good.0, reads_on r k old new bytes same good.1)

-- a block that isn't kept, or another
by_block : (told new : Option State) (r b : ℕ) (kept : List (ℕ × List ℕ)) → kept_of kept b ≡ None → ((k : ℕ) → k ≢ b → Good told r k (kept_of kept k) → Good new r k (kept_of kept k)) → Agrees told r kept → Agrees new r kept
by_block told new r b kept none others all = λ k. ⊎_elim
    (λ here. subst (Good new r k) (sym (ap (kept_of kept) here ∙ none)) tt)
    (λ other. others k other (all k))
    (cases_eq k b)

pub write_keeps_all : WriteKeeps
write_keeps_all told r b at bytes kept none within all = by_block told (told_written told at bytes) r b kept none (λ k other good. by_told told k other good) all
  where
    by_told : (o : Option State) (k : ℕ) → k ≢ b → Good o r k (kept_of kept k) → Good (told_written o at bytes) r k (kept_of kept k)
    by_told None k other good = good
    by_told (Some st) k other good = good_on r k st (written st at bytes) (kept_of kept k)
        (λ j lt. ap (λ cs. get_or cs 0 []) (cond-false (names at bytes (r * k + j)) _ (st.contents (r * k + j)) (unnamed r b k at bytes j within other lt))) good

half_same : (st half : State) (at : ℕ) (bytes : List ℕ) (i : ℕ) → IsHalfWritten st at bytes half → names at bytes i ≡ false → newest half i ≡ newest st i
half_same st half at bytes i is un = ⊎_elim (λ kept. ap (λ cs. get_or cs 0 []) kept) (λ both. absurd (true≢false (sym both.0 ∙ un))) (is.each i)

pub failed_write_keeps_all : FailedWriteKeeps
failed_write_keeps_all told new r b at bytes kept none within half all = by_block told new r b kept none (λ k other good. by_told told half k other good) all
  where
    by_told : (o : Option State) → HalfWritten o at bytes new → (k : ℕ) → k ≢ b → Good o r k (kept_of kept k) → Good new r k (kept_of kept k)
    by_told None is k other good = subst (λ (o : Option State). Good o r k (kept_of kept k)) (sym is) good
    by_told (Some st) is k other good = subst (λ (o : Option State). Good o r k (kept_of kept k)) (sym is.1)
        (good_on r k st is.0 (kept_of kept k) (λ j lt. half_same st is.0 at bytes (r * k + j) is.2 (unnamed r b k at bytes j within other lt)) good)

pub barrier_keeps_all : BarrierKeeps
barrier_keeps_all None r kept all = all
barrier_keeps_all (Some st) r kept all = λ k. good_on r k st (settled st) (kept_of kept k) (λ j lt. sym (first_same (st.contents (r * k + j)))) (all k)
