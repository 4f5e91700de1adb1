-- The line in which a script passes its bytes.
use Rattle.std.proofs.Common.{◌≡◌, ◌<◌, ◌≤◌, ◌+◌, ◌-◌, ℕ, zero, suc, List, [], ◌∷◌, length, length-drop, take, take_all, drop, drop-drop, get_or, slice_index, get_or-drop, take-take, Bool, true, false, ◌==◌, ◌&&◌, nat_lt, nat_le, if◌then◌else◌, refl, ap, sym, ◌∙◌, subst, arith}
use Rattle.std.specs.Prelude.{count_by}
use Rattle.std.proofs.lemmas.List.Sums.{count_by_more_yes, count_by_more_no, sum_by-take-le}
use Rattle.std.proofs.lemmas.List.{drop_all}
use Rattle.bfs_text.specs.Cutting.{lines_of}
use Rattle.bfs_text.proofs.Cuts.{line_here, line_nowhere}
use Rattle.bfs_script.specs.Scripts.{line_too_far}
use Rattle.bfs_script.specs.Places.{between, IsLineEnd, IsNumber}

-- a line feed
abbrev pub is_feed : ℕ → Bool
is_feed b = b == 10

-- how many line feeds the first bytes have
abbrev pub feeds : ℕ → List ℕ → ℕ
feeds n bytes = count_by (λ b. b == 10) (take n bytes)

byte_at : (bytes : List ℕ) (start i : ℕ) (t : Bool) → (slice_index (drop start bytes) i == 10) ≡ t → is_feed (get_or bytes (start + i) 0) ≡ t
byte_at bytes start i t is = ap is_feed (sym (get_or-drop start bytes i 0)) ∙ is

-- bytes that are no line feeds
stays : (bytes : List ℕ) (start n : ℕ) → start + n ≤ length bytes → ((i : ℕ) → i < n → (slice_index (drop start bytes) i == 10) ≡ false) → feeds (start + n) bytes ≡ feeds start bytes
stays bytes start zero inside none = let same : start + 0 ≡ start = omega arith in ap (λ (k : ℕ). feeds k bytes) same
stays bytes start (suc n) inside none =
    let next : start + suc n ≡ start + n + 1 = omega arith in
    ap (λ (k : ℕ). feeds k bytes) next
    ∙ count_by_more_no (λ b. b == 10) bytes (start + n) 0 (omega (arith, inside)) (byte_at bytes start n false (none n (omega arith)))
    ∙ stays bytes start n (omega (arith, inside)) (λ i lt. none i (omega (arith, lt)))

more_feeds : (bytes : List ℕ) (n m : ℕ) → n ≤ m → feeds n bytes ≤ feeds m bytes
more_feeds bytes n m le =
    subst (λ (k : ℕ). k ≤ feeds m bytes) (ap (count_by (λ b. b == 10)) (take-take n m bytes le)) (sum_by-take-le _ (take m bytes) n)

and_false : (t : Bool) → (t && false) ≡ false
and_false true = refl
and_false false = refl

not_zero : (n m : ℕ) → n ≡ m + 1 → (n == 0) ≡ false
not_zero n m is = grind (arith, is)

same_number : (n m : ℕ) → n ≡ m → (n == m) ≡ true
same_number n m is = grind (arith, is)

other_number : (n m : ℕ) → n < m → (n == m) ≡ false
other_number n m lt = grind (arith, lt)

le_of : (n m : ℕ) → nat_le n m ≡ true → n ≤ m
le_of n m test = grind (arith, test)

lt_of_not_le : (n m : ℕ) → nat_le n m ≡ false → m < n
lt_of_not_le n m test = grind (arith, test)

lt_of : (n m : ℕ) → nat_lt n m ≡ true → n < m
lt_of n m test = grind (arith, test)

end_is : (n m : ℕ) → nat_lt n m ≡ false → n ≤ m → n ≡ m
end_is n m test high = grind (arith, test, high)

module _ (bytes : List ℕ) (start end : ℕ) (at : IsLineEnd bytes start end) where
  length_is : start + (end - start) ≡ end
  length_is = let le = at.behind in omega (arith, le)

  up_to_end : feeds end bytes ≡ feeds start bytes
  up_to_end = let inside = at.inside in
      subst (λ (k : ℕ). feeds k bytes ≡ feeds start bytes) length_is (stays bytes start (end - start) (let le = length_is in omega (arith, inside, le)) at.none)

  pub next_number : end < length bytes → feeds (end + 1) bytes ≡ feeds start bytes + 1
  next_number lt =
      count_by_more_yes (λ b. b == 10) bytes end 0 lt (subst (λ (k : ℕ). is_feed (get_or bytes k 0) ≡ true) length_is (byte_at bytes start (end - start) true (at.feed lt)))
      ∙ ap (λ (n : ℕ). n + 1) up_to_end

  -- no line feed up to a place before the end
  up_to : (m : ℕ) → start ≤ m → m ≤ end → feeds m bytes ≡ feeds start bytes
  up_to m low high =
      let inside = at.inside in
      let is : start + (m - start) ≡ m = omega (arith, low) in
      subst (λ (k : ℕ). feeds k bytes ≡ feeds start bytes) is (stays bytes start (m - start) (omega (arith, inside, high, is)) (λ i lt. at.none i (omega (arith, lt, high))))

  pub far_is : (number : ℕ) → start < length bytes → start ≤ 268435456 → IsNumber bytes start number → (nat_le 268435456 end && nat_lt 268435456 (length bytes)) ≡ (number == line_too_far bytes)
  far_is number inside near is = by_length (nat_lt 268435456 (length bytes)) refl
    where
      by_length : (t : Bool) → nat_lt 268435456 (length bytes) ≡ t → (nat_le 268435456 end && t) ≡ (number == (if t then feeds 268435456 bytes + 1 else 0))
      by_length false short = and_false (nat_le 268435456 end) ∙ sym (not_zero number (feeds start bytes) is)
      by_length true long = by_end (nat_le 268435456 end) refl
        where
          by_end : (u : Bool) → nat_le 268435456 end ≡ u → (u && true) ≡ (number == feeds 268435456 bytes + 1)
          by_end true behind =
              let same = up_to 268435456 near (le_of 268435456 end behind) in
              sym (same_number number (feeds 268435456 bytes + 1) (is ∙ ap (λ (n : ℕ). n + 1) (sym same)))
          by_end false before =
              let less = lt_of_not_le 268435456 end before in
              let within = lt_of 268435456 (length bytes) long in
              let next = next_number (omega (arith, less, within)) in
              let more = more_feeds bytes (end + 1) 268435456 (omega (arith, less)) in
              sym (other_number number (feeds 268435456 bytes + 1) (omega (arith, is, next, more)))

-- a line is cut at its end
pub line_cut : (bytes : List ℕ) (start end : ℕ) → start < length bytes → IsLineEnd bytes start end → lines_of (drop start bytes) ≡ between start end bytes ∷ lines_of (drop (end + 1) bytes)
line_cut bytes start end inside at = by_feed (nat_lt end (length bytes)) refl
  where
    by_feed : (t : Bool) → nat_lt end (length bytes) ≡ t → lines_of (drop start bytes) ≡ between start end bytes ∷ lines_of (drop (end + 1) bytes)
    by_feed true test =
        let before = lt_of end (length bytes) test in
        let behind = at.behind in
        let long = length-drop start bytes in
        let next : start + (end - start + 1) ≡ end + 1 = omega (arith, behind) in
        line_here (end - start) (drop start bytes) (omega (arith, before, behind, long)) at.none (at.feed before)
        ∙ ap (λ (l : List ℕ). between start end bytes ∷ lines_of l) (drop-drop (end - start + 1) start bytes ∙ ap (λ (n : ℕ). drop n bytes) next)
    by_feed false test =
        let last = end_is end (length bytes) test at.inside in
        let long = length-drop start bytes in
        let size : length (drop start bytes) ≡ end - start = omega (arith, long, last) in
        line_nowhere (drop start bytes) (omega (arith, long, inside)) (λ k lt. at.none k (omega (arith, lt, size)))
        ∙ ap (λ (l : List ℕ). l ∷ []) (sym (take_all (end - start) (drop start bytes) (omega (arith, size))))
        ∙ ap (λ (l : List ℕ). between start end bytes ∷ lines_of l) (sym (drop_all (end + 1) bytes (omega (arith, last))))
