-- The bytes of an item, and an area in which items were put or taken.
use Rattle.std.proofs.Common.{◌≡◌, inr, ⊎_elim, ℕ, ◌+◌, ◌-◌, ◌<◌, ◌≤◌, ◌^◌, List, [], ◌∷◌, ◌++◌, length, take, drop, get_or, replicate, Option, Some, refl, sym, ◌∙◌, ap, subst, arith, append_assoc, length-drop, length-append}
use Rattle.std.specs.Prelude.{IfSome}
use Rattle.std.specs.Option.{option_map}
use Rattle.std.proofs.lemmas.List.{drop-drop, drop_at, take_at, take-append-le, length-take-le, take-take, drop-replicate, length-replicate, get_or-append_right, get_or-replicate, get_or_past}
use Rattle.std.proofs.lemmas.Bool.{cases_lt}
use Rattle.byteorder.specs.Endian.{little_number, little_bytes}
use Rattle.byteorder.specs.Numbers.{little_number-reads_back}
use Rattle.bfs_bytes.specs.Fields.{Puts, unsigned_at, unsigned_bytes}
use Rattle.bfs_bytes.proofs.Lengths.{length-unsigned_bytes}
use Rattle.bfs_smalldata.specs.Items.{Item, Begins, Stand, Ends, IsArea, name_size, data_size, size_of, sizes_of, item_in, items_of, bytes_of}
use Rattle.bfs_smalldata.specs.Edits.{before, without, with_item, IsClear, StandsAt}
use Rattle.bfs_smalldata.specs.Walk.{Spans}
use Rattle.bfs_smalldata.proofs.Standing.{sizes_joined, stand_left, stand_right, stand_taken, stand_before, stand_joined}
use Rattle.bfs_smalldata.proofs.Listing.{area_from, area_to}

-- a number that was written, in front of anything
number_first : (n x : ℕ) (rest : List ℕ) → x < 256 ^ n → unsigned_at n (unsigned_bytes n x ++ rest) 0 ≡ x
unfolding unsigned_at unsigned_bytes
number_first n x rest fits = little_number-reads_back n x rest fits

number_behind : (n x at : ℕ) (front rest : List ℕ) → length front ≡ at → x < 256 ^ n → unsigned_at n (front ++ (unsigned_bytes n x ++ rest)) at ≡ x
unfolding unsigned_at unsigned_bytes
number_behind n x at front rest long fits = ap (little_number n) (drop_at front (little_bytes n x ++ rest) at long) ∙ little_number-reads_back n x rest fits

part_behind : (at : ℕ) (front part rest : List ℕ) → length front ≡ at → take (length part) (drop at (front ++ (part ++ rest))) ≡ part
part_behind at front part rest long = ap (take (length part)) (drop_at front (part ++ rest) at long) ∙ take_at part rest (length part) refl

item_read : (raw : List ℕ) (item : Item) → unsigned_at 4 raw 0 ≡ item.kind → name_size raw ≡ length item.name → data_size raw ≡ length item.bytes
    → take (length item.name) (drop 8 raw) ≡ item.name → take (length item.bytes) (drop (8 + length item.name + 3) raw) ≡ item.bytes → item ≡ item_in raw
item_read raw item kind_is name_is data_is name_there bytes_there =
    let name_read : take (name_size raw) (drop 8 raw) ≡ item.name = ap (λ (m : ℕ). take m (drop 8 raw)) name_is ∙ name_there in
    let bytes_read : take (data_size raw) (drop (8 + name_size raw + 3) raw) ≡ item.bytes =
    ap (λ (m : ℕ). take (data_size raw) (drop (8 + m + 3) raw)) name_is ∙ ap (λ (m : ℕ). take m (drop (8 + length item.name + 3) raw)) data_is ∙ bytes_there in
    let kinds : ℕ → Item = λ k. record { kind = k; name = item.name; bytes = item.bytes } in
    let names : List ℕ → Item = λ n. record { kind = unsigned_at 4 raw 0; name = n; bytes = item.bytes } in
    let datas : List ℕ → Item = λ d. record { kind = unsigned_at 4 raw 0; name = take (name_size raw) (drop 8 raw); bytes = d } in
    ap kinds (sym kind_is) ∙ ap names (sym name_read) ∙ ap datas (sym bytes_read)

module _ (item : Item) where
  pub length-bytes_of : length (bytes_of item) ≡ size_of item
  unfolding bytes_of
  length-bytes_of =
      let k = unsigned_bytes 4 item.kind in
      let n = unsigned_bytes 2 (length item.name) in
      let d = unsigned_bytes 2 (length item.bytes) in
      omega (
        arith,
        length-unsigned_bytes 4 item.kind,
        length-unsigned_bytes 2 (length item.name),
        length-unsigned_bytes 2 (length item.bytes),
        length-append k n,
        length-append (k ++ n) d,
        length-append (k ++ n ++ d) item.name,
        length-append (k ++ n ++ d ++ item.name) (0 ∷ 0 ∷ 0 ∷ []),
        length-append (k ++ n ++ d ++ item.name ++ (0 ∷ 0 ∷ 0 ∷ [])) item.bytes,
        length-append (k ++ n ++ d ++ item.name ++ (0 ∷ 0 ∷ 0 ∷ []) ++ item.bytes) (0 ∷ []),
      )

  module _ (kind_fits : item.kind < 256 ^ 4) (name_fits : length item.name < 256 ^ 2) (bytes_fit : length item.bytes < 256 ^ 2) (some : 0 < length item.name) where
    pub bytes_begin : Begins (bytes_of item) item
    unfolding bytes_of
    bytes_begin =
        let k = unsigned_bytes 4 item.kind in
        let n = unsigned_bytes 2 (length item.name) in
        let d = unsigned_bytes 2 (length item.bytes) in
        let lk : length k ≡ 4 = length-unsigned_bytes 4 item.kind in
        let ln : length n ≡ 2 = length-unsigned_bytes 2 (length item.name) in
        let ld : length d ≡ 2 = length-unsigned_bytes 2 (length item.bytes) in
        let last : List ℕ = 0 ∷ [] in
        let gap : List ℕ = 0 ∷ 0 ∷ 0 ∷ [] in
        let raw = bytes_of item in
        let after_d : raw ≡ k ++ n ++ (d ++ (item.name ++ (gap ++ (item.bytes ++ last)))) =
        append_assoc (k ++ n ++ d ++ item.name ++ gap) item.bytes last
        ∙ append_assoc (k ++ n ++ d ++ item.name) gap (item.bytes ++ last)
        ∙ append_assoc (k ++ n ++ d) item.name (gap ++ (item.bytes ++ last))
        ∙ append_assoc (k ++ n) d (item.name ++ (gap ++ (item.bytes ++ last))) in
        let kind_is : unsigned_at 4 raw 0 ≡ item.kind =
        ap (λ (l : List ℕ). unsigned_at 4 l 0) (after_d ∙ append_assoc k n (d ++ (item.name ++ (gap ++ (item.bytes ++ last)))))
        ∙ number_first 4 item.kind (n ++ (d ++ (item.name ++ (gap ++ (item.bytes ++ last))))) kind_fits in
        let name_is : name_size raw ≡ length item.name =
        ap (λ (l : List ℕ). unsigned_at 2 l 4) (after_d ∙ append_assoc k n (d ++ (item.name ++ (gap ++ (item.bytes ++ last)))))
        ∙ number_behind 2 (length item.name) 4 k (d ++ (item.name ++ (gap ++ (item.bytes ++ last)))) lk name_fits in
        let data_is : data_size raw ≡ length item.bytes =
        ap (λ (l : List ℕ). unsigned_at 2 l 6) after_d
        ∙ number_behind 2 (length item.bytes) 6 (k ++ n) (item.name ++ (gap ++ (item.bytes ++ last))) (length-append k n ∙ omega (arith, lk, ln)) bytes_fit in
        let head : length (k ++ n ++ d) ≡ 8 = length-append (k ++ n) d ∙ omega (arith, length-append k n, lk, ln, ld) in
        let name_there : take (length item.name) (drop 8 raw) ≡ item.name =
        ap (λ (l : List ℕ). take (length item.name) (drop 8 l)) (append_assoc (k ++ n ++ d ++ item.name ++ gap) item.bytes last ∙ append_assoc (k ++ n ++ d ++ item.name) gap (item.bytes ++ last) ∙ append_assoc (k ++ n ++ d) item.name (gap ++ (item.bytes ++ last)))
        ∙ part_behind 8 (k ++ n ++ d) item.name (gap ++ (item.bytes ++ last)) head in
        let bytes_there : take (length item.bytes) (drop (8 + length item.name + 3) raw) ≡ item.bytes =
        ap (λ (l : List ℕ). take (length item.bytes) (drop (8 + length item.name + 3) l)) (append_assoc (k ++ n ++ d ++ item.name ++ gap) item.bytes last)
        ∙ part_behind (8 + length item.name + 3) (k ++ n ++ d ++ item.name ++ gap) item.bytes last
        (length-append (k ++ n ++ d ++ item.name) gap ∙ omega (arith, length-append (k ++ n ++ d) item.name, head)) in
        let long = length-bytes_of in
        record {
          goes_on = (omega (arith, long), omega (arith, name_is, some));
          inside = omega (arith, long, name_is, data_is);
          same = item_read raw item kind_is name_is data_is name_there bytes_there;
        }

-- zeros end a list
zero_at : (n i : ℕ) → ◌≡◌ {A = ℕ} (get_or (drop 4 (replicate n 0)) i 0) 0
zero_at n i =
    ap (λ (l : List ℕ). get_or l i 0) (drop-replicate 4 n 0)
    ∙ ⊎_elim (λ lt. get_or-replicate (n - 4) i 0 0 lt) (λ ge. get_or_past (replicate (n - 4) 0) i 0 (omega (arith, ge, length-replicate {A = ℕ} (n - 4) 0))) (cases_lt i (n - 4))

zero_size : (n : ℕ) → name_size (replicate n 0) ≡ 0
unfolding unsigned_at
zero_size n = omega (arith, zero_at n 0, zero_at n 1)

zeros_end : (n : ℕ) → Ends (replicate n 0)
zeros_end n = inr (zero_size n)

-- items and then zeros are an area
pub area_made : (items : List Item) (p : List ℕ) (n : ℕ) → Stand p items → length p ≡ sizes_of items → IsArea (p ++ replicate n 0) items
area_made items p n stand long =
    (stand_before items p (replicate n 0) stand, subst Ends (sym (drop_at p (replicate n 0) (sizes_of items) long)) (zeros_end n))

-- and clear behind the last
pub made_clear : (items : List Item) (p : List ℕ) (n : ℕ) → Stand p items → length p ≡ sizes_of items → IsClear (p ++ replicate n 0)
made_clear items p n stand long =
    subst (λ (o : Option (List Item)). IfSome o (λ xs. (k : ℕ) → sizes_of xs ≤ k → get_or (p ++ replicate n 0) k 0 ≡ 0)) (sym (area_to (p ++ replicate n 0) items (area_made items p n stand long)))
    (λ k low. get_or-append_right p (replicate n 0) (sizes_of items) k 0 long low
    ∙ ⊎_elim (λ lt. get_or-replicate n (k - sizes_of items) 0 0 lt) (λ ge. get_or_past (replicate n 0) (k - sizes_of items) 0 (omega (arith, ge, length-replicate {A = ℕ} n 0))) (cases_lt (k - sizes_of items) n))

-- a list in which a part was written
pub taken_put : (n at : ℕ) (part old new : List ℕ) → Puts at part old new → n ≤ at → at ≤ length old → take n new ≡ take n old
taken_put n at part old new puts low inside =
    ap (take n) (puts ∙ append_assoc (take at old) part (drop (at + length part) old))
    ∙ take-append-le n (take at old) (part ++ drop (at + length part) old) (omega (arith, length-take-le at old inside))
    ∙ take-take n at old low

pub dropped_put : (at : ℕ) (part old new : List ℕ) → Puts at part old new → at ≤ length old → drop at new ≡ part ++ drop (at + length part) old
dropped_put at part old new puts inside =
    ap (drop at) (puts ∙ append_assoc (take at old) part (drop (at + length part) old))
    ∙ drop_at (take at old) (part ++ drop (at + length part) old) at (length-take-le at old inside)

module _ (area name : List ℕ) (at next end : ℕ) (spans : Spans area name at next end) where
  stands : Stand area (spans.front ++ (spans.here ++ spans.back))
  stands = (area_from area (spans.front ++ (spans.here ++ spans.back)) spans.items).0

  pub front_there : Stand (take at area) spans.front
  front_there = stand_taken spans.front at area (stand_left spans.front (spans.here ++ spans.back) area stands) (omega (arith, spans.at_place))

  pub front_long : length (take at area) ≡ sizes_of spans.front
  front_long = length-take-le at area (omega (arith, spans.inside, spans.end_place, spans.next_place)) ∙ spans.at_place

  abbrev pub tail_of : List ℕ
  tail_of = take (end - next) (drop next area)

  pub tail_there : Stand tail_of spans.back
  tail_there =
      let behind : Stand (drop (sizes_of spans.front) area) (spans.here ++ spans.back) = stand_right spans.front (spans.here ++ spans.back) area stands in
      let back : Stand (drop (sizes_of spans.here) (drop (sizes_of spans.front) area)) spans.back = stand_right spans.here spans.back (drop (sizes_of spans.front) area) behind in
      let place : drop (sizes_of spans.here) (drop (sizes_of spans.front) area) ≡ drop next area =
      drop-drop (sizes_of spans.here) (sizes_of spans.front) area ∙ ap (λ (k : ℕ). drop k area) (omega (arith, spans.at_place, spans.next_place)) in
      stand_taken spans.back (end - next) (drop next area) (subst (λ (c : List ℕ). Stand c spans.back) place back) (omega (arith, spans.end_place))

  pub tail_cut : length tail_of ≡ end - next
  tail_cut = length-take-le (end - next) (drop next area) (omega (arith, spans.inside, length-drop next area))

  pub tail_long : length tail_of ≡ sizes_of spans.back
  tail_long = length-take-le (end - next) (drop next area) (omega (arith, spans.inside, length-drop next area)) ∙ omega (arith, spans.end_place)

  -- the item with the name was replaced
  module _ (item : Item) (same : item.name ≡ name) (raw : Begins (bytes_of item) item) (new : List ℕ) (n : ℕ)
      (is : new ≡ take at area ++ bytes_of item ++ tail_of ++ replicate n 0) where
    kept_stands : Stand (take at area ++ bytes_of item ++ tail_of) (spans.front ++ item ∷ spans.back)
    kept_stands =
        let head : Stand (take at area ++ bytes_of item) (spans.front ++ item ∷ []) = stand_joined spans.front (item ∷ []) (take at area) (bytes_of item) front_there front_long (raw, tt) in
        let head_long : length (take at area ++ bytes_of item) ≡ sizes_of (spans.front ++ item ∷ []) =
        omega (arith, length-append (take at area) (bytes_of item), length-bytes_of item, front_long, sizes_joined spans.front (item ∷ [])) in
        subst (Stand (take at area ++ bytes_of item ++ tail_of)) (append_assoc spans.front (item ∷ []) spans.back)
        (stand_joined (spans.front ++ item ∷ []) spans.back (take at area ++ bytes_of item) tail_of head head_long tail_there)

    kept_long : length (take at area ++ bytes_of item ++ tail_of) ≡ sizes_of (spans.front ++ item ∷ spans.back)
    kept_long =
        omega (arith, length-append (take at area ++ bytes_of item) tail_of, length-append (take at area) (bytes_of item), length-bytes_of item, front_long, tail_long, sizes_joined spans.front (item ∷ spans.back))

    pub put_items : items_of new ≡ option_map (with_item item) (items_of area)
    put_items =
        ap items_of is
        ∙ area_to (take at area ++ bytes_of item ++ tail_of ++ replicate n 0) (spans.front ++ item ∷ spans.back) (area_made (spans.front ++ item ∷ spans.back) (take at area ++ bytes_of item ++ tail_of) n kept_stands kept_long)
        ∙ ap (λ (xs : List Item). Some xs) (sym (spans.replaced item same))
        ∙ sym (ap (option_map (with_item item)) spans.items)

    pub put_clear : IsClear new
    put_clear = subst IsClear (sym is) (made_clear (spans.front ++ item ∷ spans.back) (take at area ++ bytes_of item ++ tail_of) n kept_stands kept_long)

    pub put_there : IfSome (items_of area) (λ items. StandsAt (sizes_of (before name items)) (bytes_of item) new)
    put_there =
        subst (λ (o : Option (List Item)). IfSome o (λ items. StandsAt (sizes_of (before name items)) (bytes_of item) new)) (sym spans.items)
        (subst (λ (items : List Item). StandsAt (sizes_of items) (bytes_of item) new) (sym spans.in_front)
        (ap (λ (l : List ℕ). take (length (bytes_of item)) (drop (sizes_of spans.front) l))
        (is ∙ append_assoc (take at area ++ bytes_of item) tail_of (replicate n 0) ∙ append_assoc (take at area) (bytes_of item) (tail_of ++ replicate n 0))
        ∙ part_behind (sizes_of spans.front) (take at area) (bytes_of item) (tail_of ++ replicate n 0) front_long))

  -- the item with the name was taken out
  module _ (new : List ℕ) (n : ℕ) (is : new ≡ take at area ++ tail_of ++ replicate n 0) where
    left_stands : Stand (take at area ++ tail_of) (spans.front ++ spans.back)
    left_stands = stand_joined spans.front spans.back (take at area) tail_of front_there front_long tail_there

    left_long : length (take at area ++ tail_of) ≡ sizes_of (spans.front ++ spans.back)
    left_long = omega (arith, length-append (take at area) tail_of, front_long, tail_long, sizes_joined spans.front spans.back)

    pub take_items : items_of new ≡ option_map (without name) (items_of area)
    take_items =
        ap items_of is
        ∙ area_to (take at area ++ tail_of ++ replicate n 0) (spans.front ++ spans.back) (area_made (spans.front ++ spans.back) (take at area ++ tail_of) n left_stands left_long)
        ∙ ap (λ (xs : List Item). Some xs) (sym spans.cut)
        ∙ sym (ap (option_map (without name)) spans.items)

    pub take_clear : IsClear new
    take_clear = subst IsClear (sym is) (made_clear (spans.front ++ spans.back) (take at area ++ tail_of) n left_stands left_long)

  -- there was none
  none_here : (xs : List Item) → sizes_of xs ≡ 0 → xs ≡ []
  none_here [] none = refl
  none_here (x ∷ xs) none = absurd (omega arith)

  pub kept_items : at ≡ next → items_of area ≡ option_map (without name) (items_of area)
  kept_items over =
      let empty : spans.here ≡ [] = none_here spans.here (omega (arith, over, spans.next_place)) in
      spans.items
      ∙ ap (λ (xs : List Item). Some (spans.front ++ (xs ++ spans.back))) empty
      ∙ ap (λ (xs : List Item). Some xs) (sym spans.cut)
      ∙ sym (ap (option_map (without name)) spans.items)

-- a part moved, and another written in front of it
pub rewritten : (at behind m : ℕ) (raw tail area moved written : List ℕ) → behind ≡ at + length raw → length tail ≡ m → behind + m ≤ length area
    → Puts behind tail area moved → Puts at raw moved written → take (behind + m) written ≡ take at area ++ raw ++ tail
rewritten at behind m raw tail area moved written place long_tail fits move write =
    let front : take at moved ≡ take at area = taken_put at behind tail area moved move (omega arith) (omega arith) in
    let back : drop (at + length raw) moved ≡ tail ++ drop (behind + length tail) area =
    ap (λ (k : ℕ). drop k moved) (sym place) ∙ dropped_put behind tail area moved move (omega arith) in
    let whole : written ≡ take at area ++ raw ++ tail ++ drop (behind + length tail) area =
    write ∙ ap (λ (l : List ℕ). l ++ raw ++ drop (at + length raw) moved) front ∙ ap (λ (l : List ℕ). take at area ++ raw ++ l) back
    ∙ sym (append_assoc (take at area ++ raw) tail (drop (behind + length tail) area)) in
    ap (take (behind + m)) whole
    ∙ take_at (take at area ++ raw ++ tail) (drop (behind + length tail) area) (behind + m)
    (length-append (take at area ++ raw) tail ∙ omega (arith, length-append (take at area) raw, length-take-le at area (omega arith), place, long_tail))

-- a part moved to the front
pub closed : (at m : ℕ) (tail area moved : List ℕ) → length tail ≡ m → at + m ≤ length area → Puts at tail area moved → take (at + m) moved ≡ take at area ++ tail
closed at m tail area moved long fits move =
    ap (take (at + m)) move
    ∙ take_at (take at area ++ tail) (drop (at + length tail) area) (at + m)
    (length-append (take at area) tail ∙ omega (arith, length-take-le at area (omega arith), long))
