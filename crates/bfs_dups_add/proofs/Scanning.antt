-- A walk along the pages of a chain.
use Rattle.std.proofs.Common.{◌≡◌, ◌≢◌, ◌⊎◌, ◌≤◌, ◌<◌, ℕ, List, [], ◌∷◌, ◌++◌, length, inl, inr, refl, ap, sym, ◌∙◌, subst, arith, append_assoc}
use Rattle.bfs_base.specs.Lists.{times}
use Rattle.bfs_pages.specs.Answers.{IsChild, IsLink}
use Rattle.bfs_pages.specs.Trees.{page_in}
use Rattle.bfs_pages.proofs.Splice.{self, times-append}
use Rattle.bfs_values.specs.Values.{page_count, page_numbers, next_of, AreDuplicates, numbers_of_pages}
use Rattle.bfs_values.specs.Chained.{Chained}
use Rattle.bfs_dups.proofs.Scanning.{numbers-append}
use Rattle.bfs_dups_add.specs.Rooms.{IsRoom}

-- the pages in front of this one haven't the number, and this one and those behind it are the rest of the chain
pub record IsScanned (b xs : List ℕ) (number room at : ℕ) : Type 0 where
  pub front : List ℕ
  pub back : List ℕ
  pub parts : xs ≡ front ++ (at ∷ back)
  pub absent : times number (numbers_of_pages b front) ≡ 0
  pub chain : Chained b at (at ∷ back)
  pub good : AreDuplicates b (at ∷ back)
  pub room_is : (room ≡ 0) ⊎ ((1 ≤ times room front) × (page_count (page_in b room) < 125))

pub scanned-first : (b xs : List ℕ) (number first : ℕ) → 1 ≤ first → Chained b first xs → AreDuplicates b xs → IsScanned b xs number 0 first
scanned-first b [] number first some c d = absurd (omega (arith, some, c))
scanned-first b (x ∷ xs) number first some c d = record {
  front = [];
  back = xs;
  parts = ap (λ z. z ∷ xs) (sym c.0);
  absent = refl;
  chain = subst (λ z. Chained b z (z ∷ xs)) (sym c.0) (refl, c.1, c.2);
  good = subst (λ z. AreDuplicates b (z ∷ xs)) (sym c.0) d;
  room_is = inl refl;
}

-- the number is in this page
pub scanned-there : (b xs : List ℕ) (number room at : ℕ) → IsScanned b xs number room at → 1 ≤ times number (page_numbers (page_in b at)) → 1 ≤ times number (numbers_of_pages b xs)
scanned-there b xs number room at s i =
    let e : times number (numbers_of_pages b xs) ≡ times number (numbers_of_pages b s.front ++ numbers_of_pages b (at ∷ s.back)) = ap (λ z. times number (numbers_of_pages b z)) s.parts ∙ ap (times number) (numbers-append b s.front (at ∷ s.back)) in
    omega (arith, e, i, times-append number (numbers_of_pages b s.front) (numbers_of_pages b (at ∷ s.back)), times-append number (page_numbers (page_in b at)) (numbers_of_pages b s.back))

abbrev pub IsRoomIn : List ℕ → List ℕ → ℕ → Type 0
IsRoomIn b xs room = (room ≡ 0) ⊎ ((1 ≤ times room xs) × (page_count (page_in b room) < 125))

more : (b : List ℕ) (front : List ℕ) (x room : ℕ) → IsRoomIn b front room → IsRoomIn b (front ++ (x ∷ [])) room
more b front x room (inl e) = inl e
more b front x room (inr h) = inr (omega (arith, h.0, times-append room front (x ∷ [])), h.1)

here : (front : List ℕ) (x : ℕ) → 1 ≤ times x (front ++ (x ∷ []))
here front x = omega (arith, times-append x front (x ∷ []), self x [])

-- the room since this page: it is in this page, where there was none before
pub room-kept : (b xs : List ℕ) (number room at : ℕ) (s : IsScanned b xs number room at) → IsRoomIn b (s.front ++ (at ∷ [])) room
room-kept b xs number room at s = more b s.front at room s.room_is

pub room-here : (b xs : List ℕ) (number room at : ℕ) (s : IsScanned b xs number room at) → page_count (page_in b at) < 125 → IsRoomIn b (s.front ++ (at ∷ [])) at
room-here b xs number room at s l = inr (here s.front at, l)

-- the walk ends here
pub scanned-last : (b xs : List ℕ) (number room now at : ℕ) (s : IsScanned b xs number room at) → times number (page_numbers (page_in b at)) ≡ 0 → next_of b at ≡ 0 → IsRoomIn b (s.front ++ (at ∷ [])) now
    → (times number (numbers_of_pages b xs) ≡ 0) × IsRoom b xs (record { at = now; last = at })
scanned-last b xs number room now at s n e r = by_back s.back refl
  where
    by_back : (ys : List ℕ) → s.back ≡ ys → (times number (numbers_of_pages b xs) ≡ 0) × IsRoom b xs (record { at = now; last = at })
    by_back (y ∷ ys) is =
        let c : Chained b (next_of b at) (y ∷ ys) = subst (λ z. Chained b (next_of b at) z) is s.chain.2 in
        let z : y ≡ 0 = sym c.0 ∙ e in absurd (not_zero (subst (λ w. 1 ≤ w) z c.1.0))
      where
        not_zero : 1 ≤ 0 → ⊥
        not_zero h = omega (arith, h)
    by_back [] is =
        let whole : xs ≡ s.front ++ (at ∷ []) = s.parts ∙ ap (λ z. s.front ++ (at ∷ z)) is in
        let t : times number (numbers_of_pages b xs) ≡ times number (numbers_of_pages b s.front ++ numbers_of_pages b (at ∷ [])) = ap (λ z. times number (numbers_of_pages b z)) whole ∙ ap (times number) (numbers-append b s.front (at ∷ [])) in (
          omega (arith, t, n, s.absent, times-append number (numbers_of_pages b s.front) (numbers_of_pages b (at ∷ [])), times-append number (page_numbers (page_in b at)) []),
          record {
            at = subst (λ z. IsRoomIn b z now) (sym whole) r;
            last = subst (λ z. 1 ≤ times at z) (sym whole) (here s.front at);
            ends = e;
          },
        )

-- the walk goes on to the next page
pub scanned-next : (b xs : List ℕ) (number room now at next : ℕ) (s : IsScanned b xs number room at) → times number (page_numbers (page_in b at)) ≡ 0 → next ≡ next_of b at → next ≢ 0 → IsRoomIn b (s.front ++ (at ∷ [])) now
    → IsScanned b xs number now next
scanned-next b xs number room now at next s n e some r = by_back s.back refl
  where
    by_back : (ys : List ℕ) → s.back ≡ ys → IsScanned b xs number now next
    by_back [] is = absurd (some (e ∙ subst (λ z. Chained b (next_of b at) z) is s.chain.2))
    by_back (y ∷ ys) is =
        let c : Chained b (next_of b at) (y ∷ ys) = subst (λ z. Chained b (next_of b at) z) is s.chain.2 in
        let at_is : next ≡ y = e ∙ c.0 in record {
          front = s.front ++ (at ∷ []);
          back = ys;
          parts = s.parts ∙ ap (λ z. s.front ++ (at ∷ z)) is ∙ ap (λ w. s.front ++ (at ∷ (w ∷ ys))) (sym at_is) ∙ sym (append_assoc s.front (at ∷ []) (next ∷ ys));
          absent =
              let t : times number (numbers_of_pages b (s.front ++ (at ∷ []))) ≡ times number (numbers_of_pages b s.front ++ numbers_of_pages b (at ∷ [])) = ap (times number) (numbers-append b s.front (at ∷ [])) in
              omega (arith, t, n, s.absent, times-append number (numbers_of_pages b s.front) (numbers_of_pages b (at ∷ [])), times-append number (page_numbers (page_in b at)) []);
          chain = subst (λ z. Chained b z (z ∷ ys)) (sym at_is) (refl, c.1, c.2);
          good = subst (λ z. AreDuplicates b (z ∷ ys)) (sym at_is) (subst (λ z. AreDuplicates b z) is s.good.1);
          room_is = r;
        }

pub scanned-link : (b xs : List ℕ) (number room at : ℕ) (s : IsScanned b xs number room at) → IsLink (length b) (next_of b at)
scanned-link b xs number room at s = by_back s.back s.chain.2
  where
    by_back : (ys : List ℕ) → Chained b (next_of b at) ys → IsLink (length b) (next_of b at)
    by_back [] c = inl c
    by_back (y ∷ ys) c = inr (subst (λ z. IsChild (length b) z) (sym c.0) c.1)

-- what the room is since this page
pub noted-room : (b xs : List ℕ) (number room at now count : ℕ) (page old new : List ℕ) (s : IsScanned b xs number room at) → page ≡ page_in b at → count ≡ page_count page
    → ((now ≡ room) × (new ≡ old)) ⊎ ((now ≡ at) × (count < 125) × (new ≡ page)) → IsRoomIn b (s.front ++ (at ∷ [])) now
noted-room b xs number room at now count page old new s r c (inl h) = subst (IsRoomIn b (s.front ++ (at ∷ []))) (sym h.0) (room-kept b xs number room at s)
noted-room b xs number room at now count page old new s r c (inr h) =
    let m : page_count (page_in b at) < 125 = subst (λ p. page_count p < 125) r (subst (λ n. n < 125) c h.1) in
    subst (IsRoomIn b (s.front ++ (at ∷ []))) (sym h.0) (room-here b xs number room at s m)

pub roomy-next : (P : ℕ → List ℕ → Type 0) (room at now count : ℕ) (page old new : List ℕ) → ((now ≡ room) × (new ≡ old)) ⊎ ((now ≡ at) × (count < 125) × (new ≡ page)) → (room ≢ 0 → P room old) → (count < 125 → P at page) → now ≢ 0 → P now new
roomy-next P room at now count page old new (inl h) kept this n = subst (λ r. P r new) (sym h.0) (subst (P room) (sym h.1) (kept (λ z. n (h.0 ∙ z))))
roomy-next P room at now count page old new (inr h) kept this n = subst (λ r. P r new) (sym h.0) (subst (P at) (sym h.2) (this h.1))
