-- The form of a value to which a number was added.
use Rattle.std.proofs.Common.{◌≡◌, ◌≢◌, ◌≤◌, ◌<◌, ◌+◌, ◌*◌, ℕ, ℤ, List, [], ◌∷◌, suc, length, Bool, true, false, cond, nat_lt, nat_le, inl, refl, ap, sym, ◌∙◌, subst, arith}
use Rattle.bfs_base.specs.Lists.{times}
use Rattle.bfs_pages.specs.Trees.{page_in}
use Rattle.bfs_values.specs.declared.link.Link.TheVariants.{Number, Fragment, Chain}
use Rattle.bfs_values.specs.Links.{link_in}
use Rattle.bfs_values.specs.Values.{fragment_count, fragment_numbers, placed, numbers_in, values_in}
use Rattle.bfs_values.specs.Formed.{IsFormed}
use Rattle.bfs_values.specs.Stored.{with_number}
use Rattle.bfs_dups_add.proofs.Answered.{with-old, with-new}
use Rattle.bfs_dups.proofs.Answered.{pair-new}
use Rattle.bfs_dups.proofs.Moved.{length-numbers}

pub length-placed : (x : ℕ) (ys : List ℕ) → length (placed x ys) ≡ suc (length ys)
length-placed x [] = refl
length-placed x (y ∷ ys) = by_test (nat_lt y x) (length-placed x ys)
  where
    by_test : (c : Bool) → length (placed x ys) ≡ suc (length ys) → length (cond c (y ∷ placed x ys) (x ∷ y ∷ ys)) ≡ suc (suc (length ys))
    by_test true e = ap suc e
    by_test false e = refl

-- a number that is there, or one more
length-with : (n : ℕ) (ns : List ℕ) → length ns ≤ length (with_number n ns)
length-with n ns = by_test (nat_le 1 (times n ns))
  where
    by_test : (c : Bool) → length ns ≤ length (cond c ns (placed n ns))
    by_test true = omega arith
    by_test false = omega (arith, length-placed n ns)

-- the value stays, and the number was there
pub formed-same : (b : List ℕ) (value now : ℤ) (n : ℕ) → now ≡ value → 1 ≤ times n (values_in b value) → IsFormed (link_in value) (values_in b value) → IsFormed (link_in now) (with_number n (values_in b value))
formed-same b value now n e h f =
    subst (λ v. IsFormed (link_in v) (with_number n (values_in b value))) (sym e) (subst (IsFormed (link_in value)) (sym (with-old n (values_in b value) h)) f)

-- a plain number is formed
pub formed-plain : (b : List ℕ) (value : ℤ) (old : ℕ) → link_in value ≡ Number old → IsFormed (link_in value) (values_in b value)
formed-plain b value old e = subst (λ l. IsFormed l (numbers_in b l)) (sym e) refl

-- two numbers in a fragment
pub formed-pair : (b : List ℕ) (value new : ℤ) (old n page i : ℕ) → link_in value ≡ Number old → link_in new ≡ Fragment page i → n ≢ old → IsFormed (link_in new) (with_number n (values_in b value))
formed-pair b value new old n page i e f apart =
    let is : with_number n (values_in b value) ≡ placed n (old ∷ []) = ap (λ l. with_number n (numbers_in b l)) e ∙ with-new n (old ∷ []) (pair-new n old apart) in
    let two : length (with_number n (values_in b value)) ≡ 2 = ap length is ∙ length-placed n (old ∷ []) in
    subst (λ l. IsFormed l (with_number n (values_in b value))) (sym f) (inl (omega (arith, two), omega (arith, two)))

-- how many numbers a fragment has with one more
more : (b : List ℕ) (value : ℤ) (n page i : ℕ) → link_in value ≡ Fragment page i → times n (fragment_numbers (page_in b page) i) ≡ 0 → length (with_number n (values_in b value)) ≡ suc (fragment_count (page_in b page) i)
more b value n page i e none =
    ap (λ l. length (with_number n (numbers_in b l))) e ∙ ap length (with-new n (fragment_numbers (page_in b page) i) none) ∙ length-placed n (fragment_numbers (page_in b page) i) ∙ ap suc (length-numbers (page_in b page) (64 * i + 8) (fragment_count (page_in b page) i))

-- a fragment with room has one more
pub formed-more : (b : List ℕ) (value new : ℤ) (n page i : ℕ) → link_in value ≡ Fragment page i → new ≡ value → times n (fragment_numbers (page_in b page) i) ≡ 0 → 1 ≤ fragment_count (page_in b page) i → fragment_count (page_in b page) i < 7
    → IsFormed (link_in new) (with_number n (values_in b value))
formed-more b value new n page i e same none some room =
    let m = more b value n page i e none in
    subst (λ l. IsFormed l (with_number n (values_in b value))) (sym (ap link_in same ∙ e)) (inl (omega (arith, m, some), omega (arith, m, room)))

-- a full fragment has become a chain
pub formed-eighth : (b : List ℕ) (value new : ℤ) (n page i q : ℕ) → link_in value ≡ Fragment page i → link_in new ≡ Chain q → times n (fragment_numbers (page_in b page) i) ≡ 0 → 7 ≤ fragment_count (page_in b page) i → IsFormed (link_in new) (with_number n (values_in b value))
formed-eighth b value new n page i q e f none full =
    let m = more b value n page i e none in
    subst (λ l. IsFormed l (with_number n (values_in b value))) (sym f) (omega (arith, m, full))

-- a chain has as many numbers as before, or one more
pub formed-chain : (value new : ℤ) (n first : ℕ) (ns : List ℕ) → link_in value ≡ Chain first → new ≡ value → IsFormed (link_in value) ns → IsFormed (link_in new) (with_number n ns)
formed-chain value new n first ns e same f =
    let many : 8 ≤ length ns = subst (λ l. IsFormed l ns) e f in
    subst (λ l. IsFormed l (with_number n ns)) (sym (ap link_in same ∙ e)) (omega (arith, many, length-with n ns))
