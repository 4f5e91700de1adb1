-- What looks through the bitmap show.
use Rattle.std.proofs.Common.{◌≡◌, ◌≤◌, ◌<◌, ◌+◌, ◌-◌, ◌*◌, ◌/◌, ◌%◌, ℕ, List, [], length, drop, get_or, Bool, true, false, not, ◌&&◌, ◌||◌, ◌==◌, nat_lt, Option, Some, unwrap_or, IfSome, refl, sym, ap, ◌∙◌, subst, arith, ◌⊎◌, inl, inr}
use Rattle.std.proofs.lemmas.List.{drop_more}
use Rattle.std.proofs.Math.Nat.{mul_comm, mul_assoc, mul-le-mul_right, div-add-mod, mod-lt}
use Rattle.std.proofs.lemmas.Nat.{div-mul-add, mod-mul-add}
use Rattle.bfs_bitmap.specs.declared.given.Given.{Given}
use Rattle.bfs_bitmap.specs.Bits.{bit_of, is_clear, in_run, IsFirst}
use Rattle.bfs_bitmap.specs.Runs.{Room, marked, is_reserved, is_free, HasBitmap, HasSizes, Shows, per_block, none_given}
use Rattle.bfs_txn.specs.Told.{AreOfBlock}
use Rattle.bfs_txn.specs.Faults.{Counts, AreLater}

and_not_or : (x a b : Bool) → ((x && not a) && not b) ≡ (x && not (a || b))
and_not_or true true b = refl
and_not_or true false b = refl
and_not_or false true b = refl
and_not_or false false b = refl

and_true : (x : Bool) → (x && not false) ≡ x
and_true true = refl
and_true false = refl

-- one run more
pub reserved_more : (gs : List Given) (i : ℕ) (x y : Bool) (k : ℕ) (g : Given) → i < length gs → g ≡ get_or gs i none_given → x ≡ (y && not (in_run g.first g.len k)) → (x && not (is_reserved (drop (i + 1) gs) k)) ≡ (y && not (is_reserved (drop i gs) k))
reserved_more gs i x y k g h e is =
    ap (λ t. t && not (is_reserved (drop (i + 1) gs) k)) is
    ∙ and_not_or y (in_run g.first g.len k) (is_reserved (drop (i + 1) gs) k)
    ∙ ap (λ (r : Given). y && not (in_run r.first r.len k || is_reserved (drop (i + 1) gs) k)) e
    ∙ ap (λ (l : List Given). y && not (is_reserved l k)) (sym (drop_more gs i none_given h))

pub quotient_is : (b j i : ℕ) → i < b → (b * j + i) / b ≡ j
quotient_is b j i h = ap (λ (n : ℕ). (n + i) / b) (mul_comm b j) ∙ div-mul-add j b i h

pub remainder_is : (b j i : ℕ) → i < b → (b * j + i) % b ≡ i
remainder_is b j i h = ap (λ (n : ℕ). (n + i) % b) (mul_comm b j) ∙ mod-mul-add j b i h

-- the bits that were read, without the reserved blocks and those past the end
pub shown : (v : Room) (m : ℕ → Option (List ℕ)) (j : ℕ) (told : Option (ℕ → Option (List ℕ))) (read now new : List ℕ) → HasSizes v → told ≡ Some m → HasBitmap v m → per_block v * j < v.blocks → length now ≡ v.block_size
    → AreOfBlock told (1 + j) read
    → ((i : ℕ) → i < per_block v → is_clear now i ≡ (is_clear read i && not (is_reserved v.given (per_block v * j + i))))
    → ((i : ℕ) → i < per_block v → is_clear new i ≡ (is_clear now i && not (in_run v.blocks (per_block v) (per_block v * j + i)))) → Shows v m j new
shown v m j told read now new sizes is has inside long of reserved past i h =
    past i h ∙ ap (λ t. t && not (in_run v.blocks (per_block v) (per_block v * j + i))) (reserved i h) ∙ whole
  where
    cell : (bytes : List ℕ) × (m (1 + j) ≡ Some bytes) × (length bytes ≡ v.block_size)
    cell = has.told j inside

    of_m : IfSome (m (1 + j)) (λ b. read ≡ b)
    of_m = let P : Option (ℕ → Option (List ℕ)) → Type 0 = λ t. AreOfBlock t (1 + j) read in subst P is of

    read_is : read ≡ unwrap_or (m (1 + j)) []
    read_is = let Q : Option (List ℕ) → Type 0 = λ o. IfSome o (λ b. read ≡ b) in subst Q cell.1 of_m ∙ ap (λ (o : Option (List ℕ)). unwrap_or o []) (sym cell.1)

    quotient : (per_block v * j + i) / per_block v ≡ j
    quotient = quotient_is (per_block v) j i h

    remainder : (per_block v * j + i) % per_block v ≡ i
    remainder = remainder_is (per_block v) j i h

    mark_is : (marked (per_block v) m (per_block v * j + i) == 0) ≡ is_clear read i
    mark_is =
        ap (λ (n : ℕ). bit_of (unwrap_or (m (1 + n)) []) ((per_block v * j + i) % per_block v) == 0) quotient
        ∙ ap (λ (n : ℕ). bit_of (unwrap_or (m (1 + j)) []) n == 0) remainder
        ∙ ap (λ (l : List ℕ). bit_of l i == 0) (sym read_is)

    past_end : not (in_run v.blocks (per_block v) (per_block v * j + i)) ≡ nat_lt (per_block v * j + i) v.blocks
    past_end = grind (arith, inside, h)

    turned : (a b c : Bool) → ((a && b) && c) ≡ (c && (a && b))
    turned true true true = refl
    turned true true false = refl
    turned true false true = refl
    turned true false false = refl
    turned false b true = refl
    turned false b false = refl

    whole : ((is_clear read i && not (is_reserved v.given (per_block v * j + i))) && not (in_run v.blocks (per_block v) (per_block v * j + i))) ≡ is_free v m (per_block v * j + i)
    whole =
        ap (λ t. (is_clear read i && not (is_reserved v.given (per_block v * j + i))) && t) past_end
        ∙ turned (is_clear read i) (not (is_reserved v.given (per_block v * j + i))) (nat_lt (per_block v * j + i) v.blocks)
        ∙ ap (λ t. nat_lt (per_block v * j + i) v.blocks && (t && not (is_reserved v.given (per_block v * j + i)))) (sym mark_is)

-- the first bit of a block is that of a whole byte
pub whole_bytes : (b s j : ℕ) → b ≡ 8 * s → 8 * (b * j / 8) ≡ b * j
whole_bytes b s j e = let whole : b * j ≡ 8 * (s * j) = ap (λ (n : ℕ). n * j) e ∙ mul_assoc 8 s j in omega (arith, whole)

pub times_le : (b j : ℕ) → 0 < b → j ≤ b * j
times_le b j h = let le : 1 * j ≤ b * j = mul-le-mul_right j h in omega (arith, le)

pub shown_at : (v : Room) (m : ℕ → Option (List ℕ)) (j b : ℕ) (told : Option (ℕ → Option (List ℕ))) (read now new : List ℕ) → HasSizes v → b ≡ per_block v → told ≡ Some m → HasBitmap v m → per_block v * j < v.blocks → length now ≡ v.block_size
    → AreOfBlock told (1 + j) read
    → ((i : ℕ) → i < per_block v → is_clear now i ≡ (is_clear read i && not (is_reserved v.given (b * j + i))))
    → ((i : ℕ) → i < per_block v → is_clear new i ≡ (is_clear now i && not (in_run v.blocks b (b * j + i)))) → Shows v m j new
shown_at v m j b told read now new sizes e is has inside long of reserved past =
    shown v m j told read now new sizes is has inside long of (λ i h. reserved i h ∙ ap (λ (n : ℕ). is_clear read i && not (is_reserved v.given (n * j + i))) e)
    (λ i h. past i h ∙ ap (λ (n : ℕ). is_clear now i && not (in_run v.blocks n (n * j + i))) e)

-- a look through what the window shows
pub next_part : (v : Room) (m : ℕ → Option (List ℕ)) (j base bit end found at : ℕ) (clear : Bool) (bytes : List ℕ) → base ≡ per_block v * j → base + bit ≡ at → end ≤ per_block v → Shows v m j bytes → IsFirst bytes bit end clear found
    → ((k : ℕ) → at ≤ k → k < base + found → is_free v m k ≡ not clear) × (found < end → is_free v m (base + found) ≡ clear)
next_part v m j base bit end found at clear bytes e place le shows first = (
  λ k a b.
      let here : base + (k - base) ≡ k = omega arith in
      let inside : k - base < per_block v = let up = first.up_to in omega arith in
      ap (is_free v m) (sym here ∙ ap (λ (n : ℕ). n + (k - base)) e) ∙ sym (shows (k - base) inside) ∙ first.before (k - base) (omega arith) (omega arith),
  λ h. ap (is_free v m) (ap (λ (n : ℕ). n + found) e) ∙ sym (shows found (omega arith)) ∙ first.here h,
)

pub at_base : (b at : ℕ) → 0 < b → (at - at % b ≡ b * (at / b)) × (at % b < b) × (at % b ≤ at)
at_base b at some = let e : b * (at / b) + at % b ≡ at = div-add-mod at b in (omega (arith, e), mod-lt at some, omega (arith, e))

-- some looks, and one more
pub look_on : (v : Room) (m : ℕ → Option (List ℕ)) (from at b end found : ℕ) (clear : Bool) (bytes shown_bytes : List ℕ) → b ≡ per_block v → 0 < b → end ≤ b → from ≤ at → bytes ≡ shown_bytes → Shows v m (at / b) shown_bytes → IsFirst bytes (at % b) end clear found
    → ((k : ℕ) → from ≤ k → k < at → is_free v m k ≡ not clear)
    → ((k : ℕ) → from ≤ k → k < at - at % b + found → is_free v m k ≡ not clear) × (found < end → is_free v m (at - at % b + found) ≡ clear)
look_on v m from at b end found clear bytes shown_bytes e some le order same shows first so_far = (λ k a c. by_place k a c (split k at), part.1)
  where
    split : (j n : ℕ) → (j < n) ⊎ (n ≤ j)
    split j n = grind arith

    base_of : (at - at % b ≡ b * (at / b)) × (at % b < b) × (at % b ≤ at)
    base_of = at_base b at some

    part : ((k : ℕ) → at ≤ k → k < at - at % b + found → is_free v m k ≡ not clear) × (found < end → is_free v m (at - at % b + found) ≡ clear)
    part =
        next_part v m (at / b) (at - at % b) (at % b) end found at clear bytes (base_of.0 ∙ ap (λ (n : ℕ). n * (at / b)) e) (let h = base_of.2 in omega arith) (subst (λ (n : ℕ). end ≤ n) e le) (subst (λ (l : List ℕ). Shows v m (at / b) l) (sym same) shows) first

    by_place : (k : ℕ) → from ≤ k → k < at - at % b + found → (k < at) ⊎ (at ≤ k) → is_free v m k ≡ not clear
    by_place k a c (inl h) = so_far k a h
    by_place k a c (inr h) = part.0 k h c

pub later_twice : (a b c : Counts) → AreLater a b → AreLater b c → AreLater a c
later_twice a b c p q = record { faults = let x = p.faults in let y = q.faults in omega arith; stops = q.stops ∙ p.stops; stop = q.stop ∙ p.stop }
