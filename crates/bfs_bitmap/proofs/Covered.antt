-- The bits that are kept for reserved blocks.
use Rattle.std.proofs.Common.{◌≡◌, ◌≢◌, ◌≤◌, ◌<◌, ◌+◌, ◌-◌, ◌*◌, ◌/◌, ◌%◌, ℕ, zero, suc, List, [], ◌∷◌, ◌++◌, length, drop, get_or, set, filter, replicate, max, min, Bool, true, false, not, cond, ◌&&◌, ◌||◌, ◌==◌, nat_lt, refl, sym, ap, ap₂, ◌∙◌, subst, arith, ◌⊎◌, inl, inr}
use Rattle.std.specs.Int.{bit_at}
use Rattle.std.specs.Int.RustNames.{bit_or}
use Rattle.std.proofs.lemmas.List.{drop_more, get_or-set_same, get_or-set_other, get_or-replicate, length-replicate}
use Rattle.std.proofs.lemmas.Nat.Bits.{bit_at_or, bit_at-zero}
use Rattle.bfs_bitmap.specs.declared.given.Given.{Given}
use Rattle.bfs_bitmap.specs.Bits.{bit_of, is_clear, in_run}
use Rattle.bfs_bitmap.specs.Runs.{is_reserved, none_given}
use Rattle.bfs_bitmap.specs.Reserved.{HasReserved}
use Rattle.bfs_bitmap.proofs.Back.{reserved-push, reserved_filter}

none_of_both : (x y : ℕ) → (max x y == 0) ≡ ((x == 0) && (y == 0))
none_of_both x y = here (x == 0) (y == 0) refl refl
  where
    here : (s t : Bool) → (x == 0) ≡ s → (y == 0) ≡ t → (max x y == 0) ≡ ((x == 0) && (y == 0))
    here true true e f = let test : (max x y == 0) ≡ true = grind (arith, e, f) in test ∙ ap₂ (λ (a b : Bool). a && b) (sym e) (sym f)
    here true false e f = let test : (max x y == 0) ≡ false = grind (arith, e, f) in test ∙ ap₂ (λ (a b : Bool). a && b) (sym e) (sym f)
    here false t e f = let test : (max x y == 0) ≡ false = grind (arith, e, f) in test ∙ ap (λ (a : Bool). a && (y == 0)) (sym e)

-- a bit of one byte or of another
pub clear_either : (a b j : ℕ) → (bit_at (bit_or a b) j == 0) ≡ ((bit_at a j == 0) && (bit_at b j == 0))
clear_either a b j = ap (λ (n : ℕ). n == 0) (bit_at_or a b j) ∙ none_of_both (bit_at a j) (bit_at b j)

split : (j m : ℕ) → (j ≡ m) ⊎ (j ≢ m)
split j m = grind arith

-- a byte more that has its own bits and those of another
pub covered_more : (at i b : ℕ) (old now over : List ℕ) → i < length now
    → ((j : ℕ) → j < 8 → (bit_at b j == 0) ≡ ((bit_at (get_or now i 0) j == 0) && (bit_at (get_or over (at + i) 0) j == 0)))
    → ((k : ℕ) → is_clear now k ≡ cond (nat_lt k (8 * i)) (is_clear old k && is_clear over (8 * at + k)) (is_clear old k))
    → (k : ℕ) → is_clear (set now i b) k ≡ cond (nat_lt k (8 * (i + 1))) (is_clear old k && is_clear over (8 * at + k)) (is_clear old k)
unfolding bit_of
covered_more at i b old now over inside is so_far k = here (split (k / 8) i)
  where
    here : (k / 8 ≡ i) ⊎ (k / 8 ≢ i) → (bit_at (get_or (set now i b) (k / 8) 0) (k % 8) == 0)
        ≡ cond (nat_lt k (8 * (i + 1))) ((bit_at (get_or old (k / 8) 0) (k % 8) == 0) && (bit_at (get_or over ((8 * at + k) / 8) 0) ((8 * at + k) % 8) == 0)) (bit_at (get_or old (k / 8) 0) (k % 8) == 0)
    here (inl e) =
        let before : nat_lt k (8 * i) ≡ false = grind (arith, e) in
        let after : nat_lt k (8 * (i + 1)) ≡ true = grind (arith, e) in
        let place : (8 * at + k) / 8 ≡ at + i = omega (arith, e) in
        let bit : (8 * at + k) % 8 ≡ k % 8 = omega arith in
        ap (λ (n : ℕ). bit_at (get_or (set now i b) n 0) (k % 8) == 0) e
        ∙ ap (λ (n : ℕ). bit_at n (k % 8) == 0) (get_or-set_same now i b 0 inside)
        ∙ is (k % 8) (omega arith)
        ∙ ap (λ (n : ℕ). (bit_at (get_or now n 0) (k % 8) == 0) && (bit_at (get_or over (at + i) 0) (k % 8) == 0)) (sym e)
        ∙ ap (λ (t : Bool). t && (bit_at (get_or over (at + i) 0) (k % 8) == 0)) (so_far k ∙ ap (λ (t : Bool). cond t ((bit_at (get_or old (k / 8) 0) (k % 8) == 0) && (bit_at (get_or over ((8 * at + k) / 8) 0) ((8 * at + k) % 8) == 0)) (bit_at (get_or old (k / 8) 0) (k % 8) == 0)) before)
        ∙ ap (λ (n : ℕ). (bit_at (get_or old (k / 8) 0) (k % 8) == 0) && (bit_at (get_or over n 0) (k % 8) == 0)) (sym place)
        ∙ ap (λ (n : ℕ). (bit_at (get_or old (k / 8) 0) (k % 8) == 0) && (bit_at (get_or over ((8 * at + k) / 8) 0) n == 0)) (sym bit)
        ∙ ap (λ (t : Bool). cond t ((bit_at (get_or old (k / 8) 0) (k % 8) == 0) && (bit_at (get_or over ((8 * at + k) / 8) 0) ((8 * at + k) % 8) == 0)) (bit_at (get_or old (k / 8) 0) (k % 8) == 0)) (sym after)
    here (inr ne) =
        let test : nat_lt k (8 * i) ≡ nat_lt k (8 * (i + 1)) = grind (arith, ne) in
        ap (λ (n : ℕ). bit_at n (k % 8) == 0) (get_or-set_other now i (k / 8) b 0 ne)
        ∙ so_far k
        ∙ ap (λ (t : Bool). cond t ((bit_at (get_or old (k / 8) 0) (k % 8) == 0) && (bit_at (get_or over ((8 * at + k) / 8) 0) ((8 * at + k) % 8) == 0)) (bit_at (get_or old (k / 8) 0) (k % 8) == 0)) test

get_past : (l : List ℕ) (n : ℕ) → length l ≤ n → get_or l n 0 ≡ 0
get_past [] n h = refl
get_past (x ∷ l) zero h = absurd (omega (arith, h))
get_past (x ∷ l) (suc n) h = get_past l n (omega (arith, h))

-- past the bytes each bit is clear
pub clear_past : (l : List ℕ) (k : ℕ) → 8 * length l ≤ k → is_clear l k ≡ true
unfolding bit_of
clear_past l k h = ap (λ (n : ℕ). bit_at n (k % 8) == 0) (get_past l (k / 8) (omega arith)) ∙ ap (λ (n : ℕ). n == 0) (bit_at-zero (k % 8))

pub place_of : (k m : ℕ) → (k < m) ⊎ (m ≤ k)
place_of k m = grind arith

and_true : (x : Bool) → x ≡ (x && true)
and_true true = refl
and_true false = refl

-- all the bytes that both have
pub covered_all : (at end : ℕ) (old now over : List ℕ) → end ≡ min (length old) (length over - at)
    → ((k : ℕ) → is_clear now k ≡ cond (nat_lt k (8 * end)) (is_clear old k && is_clear over (8 * at + k)) (is_clear old k))
    → (k : ℕ) → k < 8 * length old → is_clear now k ≡ (is_clear old k && is_clear over (8 * at + k))
covered_all at end old now over e so_far k h = here (place_of k (8 * end))
  where
    here : (k < 8 * end) ⊎ (8 * end ≤ k) → is_clear now k ≡ (is_clear old k && is_clear over (8 * at + k))
    here (inl low) =
        let test : nat_lt k (8 * end) ≡ true = grind (arith, low) in
        so_far k ∙ ap (λ (t : Bool). cond t (is_clear old k && is_clear over (8 * at + k)) (is_clear old k)) test
    here (inr high) =
        let test : nat_lt k (8 * end) ≡ false = grind (arith, high) in
        so_far k ∙ ap (λ (t : Bool). cond t (is_clear old k && is_clear over (8 * at + k)) (is_clear old k)) test
        ∙ and_true (is_clear old k) ∙ ap (λ (t : Bool). is_clear old k && t) (sym (clear_past over (8 * at + k) (omega (arith, high, e, h))))

or_or : (x a b : Bool) → ((a || x) || b) ≡ (x || (a || b))
or_or true true b = refl
or_or true false b = refl
or_or false true b = refl
or_or false false b = refl

-- a run more whose bits are cleared
pub cleared_more : (gs : List Given) (i : ℕ) (x y : Bool) (k : ℕ) (g : Given) → i < length gs → g ≡ get_or gs i none_given → x ≡ (in_run g.first g.len k || y) → (x || is_reserved (drop (i + 1) gs) k) ≡ (y || is_reserved (drop i gs) k)
cleared_more gs i x y k g h e is =
    ap (λ (t : Bool). t || is_reserved (drop (i + 1) gs) k) is
    ∙ or_or y (in_run g.first g.len k) (is_reserved (drop (i + 1) gs) k)
    ∙ ap (λ (r : Given). y || (in_run r.first r.len k || is_reserved (drop (i + 1) gs) k)) e
    ∙ ap (λ (l : List Given). y || is_reserved l k) (sym (drop_more gs i none_given h))

-- where the bits are those of reserved blocks, they are so for bits that are the same
pub reserved_as : (blocks : ℕ) (gs : List Given) (old new : List ℕ) → length new ≤ 524289 → (0 < length new → blocks ≤ 8 * length new) → ((k : ℕ) → is_clear new k ≡ is_clear old k) → HasReserved blocks gs old → HasReserved blocks gs new
reserved_as blocks gs old new few long same has = record { few = few; long = long; is = λ k. same k ∙ has.is k }

-- no run was given back, and there are no bytes yet
pub reserved_none : (blocks : ℕ) (gs : List Given) (bytes : List ℕ) → gs ≡ [] → bytes ≡ [] → HasReserved blocks gs bytes
reserved_none blocks gs bytes e f =
    let none : length bytes ≡ 0 = ap length f in
    record { few = omega (arith, none); long = λ h. absurd (omega (arith, none, h)); is = λ k. clear_past bytes k (omega (arith, none)) ∙ ap (λ (l : List Given). not (is_reserved l k)) (sym e) }

-- other runs of the same blocks
pub reserved_same : (blocks : ℕ) (gs hs : List Given) (bytes : List ℕ) → ((k : ℕ) → is_reserved hs k ≡ is_reserved gs k) → HasReserved blocks gs bytes → HasReserved blocks hs bytes
reserved_same blocks gs hs bytes same has = record { few = has.few; long = has.long; is = λ k. has.is k ∙ ap not (sym (same k)) }

-- bytes that are all 0 are as good as none
pub clear_zeros : (old new : List ℕ) (n k : ℕ) → length old ≡ 0 → new ≡ replicate n 0 → is_clear new k ≡ is_clear old k
unfolding bit_of
clear_zeros old new n k none e = ap (λ (l : List ℕ). is_clear l k) e ∙ zeros (place_of (k / 8) n) ∙ sym (clear_past old k (omega (arith, none)))
  where
    zeros : (k / 8 < n) ⊎ (n ≤ k / 8) → (bit_at (get_or (replicate n 0) (k / 8) 0) (k % 8) == 0) ≡ true
    zeros (inl low) = ap (λ (x : ℕ). bit_at x (k % 8) == 0) (get_or-replicate n (k / 8) 0 0 low) ∙ ap (λ (x : ℕ). x == 0) (bit_at-zero (k % 8))
    zeros (inr high) = clear_past (replicate n 0) k (let e : length (replicate {A = ℕ} n 0) ≡ n = length-replicate {A = ℕ} n 0 in omega (arith, high, e))

not_or_self : (r : Bool) → (not r || r) ≡ true
not_or_self true = refl
not_or_self false = refl

-- where one holds only if the other does, and that doesn't
not_more : (a b : Bool) → (a ≡ true → b ≡ true) → true ≡ not b → true ≡ not a
not_more true true f h = h
not_more true false f h = sym (ap not (sym (f refl)))
not_more false b f h = refl

-- the bits of all runs were cleared, and those of the runs that are left set
pub renewed : (blocks : ℕ) (gs hs : List Given) (old new : List ℕ) → HasReserved blocks gs old → length new ≡ length old → ((k : ℕ) → is_reserved hs k ≡ true → is_reserved gs k ≡ true)
    → ((k : ℕ) → k < 8 * length old → is_clear new k ≡ ((is_clear old k || is_reserved gs k) && not (is_reserved hs k))) → HasReserved blocks hs new
renewed blocks gs hs old new has same fewer are = record { few = let f = has.few in omega (arith, f, same); long = λ h. let l : blocks ≤ 8 * length old = has.long (omega (arith, h, same)) in omega (arith, l, same); is = λ k. by_place k (place_of k (8 * length old)) }
  where
    by_place : (k : ℕ) → (k < 8 * length old) ⊎ (8 * length old ≤ k) → is_clear new k ≡ not (is_reserved hs k)
    by_place k (inl low) = are k low ∙ ap (λ (t : Bool). (t || is_reserved gs k) && not (is_reserved hs k)) (has.is k) ∙ ap (λ (t : Bool). t && not (is_reserved hs k)) (not_or_self (is_reserved gs k))
    by_place k (inr high) = clear_past new k (omega (arith, high, same)) ∙ not_more (is_reserved hs k) (is_reserved gs k) (fewer k) (sym (clear_past old k high) ∙ has.is k)

-- the same of the bytes of a list that they stand in
pub reserved_in : (blocks : ℕ) (gs hs : List Given) (whole old new written : List ℕ) → HasReserved blocks gs whole → old ≡ whole → written ≡ new → (HasReserved blocks gs old → HasReserved blocks hs new) → HasReserved blocks hs written
reserved_in blocks gs hs whole old new written has is put step = subst (HasReserved blocks hs) (sym put) (step (subst (HasReserved blocks gs) (sym is) has))

not_or : (a b : Bool) → (not a && not b) ≡ not (a || b)
not_or true b = refl
not_or false b = refl

or_false : (t : Bool) → (t || false) ≡ t
or_false true = refl
or_false false = refl

-- the bits of a run more were set
pub reserved_with : (blocks first len : ℕ) (gs : List Given) (g : Given) (old new : List ℕ) → HasReserved blocks gs old → blocks ≤ 8 * length old → length new ≡ length old → first + len ≤ blocks → g.first ≡ first → g.len ≡ len
    → ((k : ℕ) → k < 8 * length old → is_clear new k ≡ (is_clear old k && not (in_run first len (0 + k)))) → HasReserved blocks (gs ++ g ∷ []) new
reserved_with blocks first len gs g old new has long same inside at many are = record { few = let f = has.few in omega (arith, f, same); long = λ h. omega (arith, long, same); is = λ k. by_place k (place_of k (8 * length old)) ∙ ap not (sym (reserved-push gs g k)) }
  where
    run_is : (k : ℕ) → in_run g.first g.len k ≡ in_run first len k
    run_is k = ap (λ (n : ℕ). in_run n g.len k) at ∙ ap (λ (n : ℕ). in_run first n k) many

    by_place : (k : ℕ) → (k < 8 * length old) ⊎ (8 * length old ≤ k) → is_clear new k ≡ not (is_reserved gs k || in_run g.first g.len k)
    by_place k (inl low) =
        let here : 0 + k ≡ k = omega arith in
        are k low
        ∙ ap (λ (n : ℕ). is_clear old k && not (in_run first len n)) here
        ∙ ap (λ (t : Bool). t && not (in_run first len k)) (has.is k)
        ∙ not_or (is_reserved gs k) (in_run first len k)
        ∙ ap (λ (t : Bool). not (is_reserved gs k || t)) (sym (run_is k))
    by_place k (inr high) =
        let out : in_run first len k ≡ false = grind (arith, high, long, inside) in
        clear_past new k (omega (arith, high, same)) ∙ sym (clear_past old k high) ∙ has.is k
        ∙ ap not (sym (or_false (is_reserved gs k)) ∙ ap (λ (t : Bool). is_reserved gs k || t) (sym (run_is k ∙ out)))

-- the same of the bytes of a list that they stand in
pub reserved_with_in : (blocks first len : ℕ) (gs hs : List Given) (g : Given) (whole old new written : List ℕ) → HasReserved blocks gs whole → blocks ≤ 8 * length whole → old ≡ whole → written ≡ new → hs ≡ gs ++ g ∷ [] → length new ≡ length old → first + len ≤ blocks → g.first ≡ first → g.len ≡ len
    → ((k : ℕ) → k < 8 * length old → is_clear new k ≡ (is_clear old k && not (in_run first len (0 + k)))) → HasReserved blocks hs written
reserved_with_in blocks first len gs hs g whole old new written has long is put more same inside at many are =
    subst (λ (l : List Given). HasReserved blocks l written) (sym more)
    (subst (HasReserved blocks (gs ++ g ∷ [])) (sym put)
    (reserved_with blocks first len gs g old new (subst (HasReserved blocks gs) (sym is) has) (subst (λ (l : List ℕ). blocks ≤ 8 * length l) (sym is) long) same inside at many are))

-- the bits of some runs were cleared, then some runs taken out, then the bits of the others set
pub renewed_by : (blocks : ℕ) (p : Given → Bool) (gs seen left hs : List Given) (old mid new : List ℕ) → HasReserved blocks gs old → seen ≡ gs → left ≡ filter p gs → hs ≡ left → length mid ≡ length old → length new ≡ length mid
    → ((k : ℕ) → k < 8 * length old → is_clear mid k ≡ (is_clear old k || is_reserved seen k)) → ((k : ℕ) → k < 8 * length mid → is_clear new k ≡ (is_clear mid k && not (is_reserved hs k))) → HasReserved blocks left new
renewed_by blocks p gs seen left hs old mid new has all these are first then cleared set_again =
    renewed blocks gs left old new has (then ∙ first) (λ k t. reserved_filter p gs k (subst (λ (l : List Given). is_reserved l k ≡ true) these t))
    (λ k low.
    set_again k (omega (arith, low, first))
    ∙ ap₂ (λ (t : Bool) (l : List Given). t && not (is_reserved l k)) (cleared k low ∙ ap (λ (l : List Given). is_clear old k || is_reserved l k) all) are)
