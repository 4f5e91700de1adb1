-- A group that stands in the log is read there as its entries.
use Rattle.std.proofs.Common.{◌≡◌, ⊎_elim, ℕ, zero, suc, ◌+◌, ◌-◌, ◌*◌, ◌/◌, ◌%◌, ◌<◌, ◌≤◌, List, [], ◌∷◌, ◌++◌, length, map, take, drop, get_or, refl, sym, ◌∙◌, ap, subst, arith, length-drop, min}
use Rattle.std.specs.Prelude.{All}
use Rattle.std.proofs.lemmas.Bool.{cases_lt, cond-true, cond-false, eq-eqb, ne_eqb}
use Rattle.std.proofs.lemmas.List.{length-map, get_or-map, take-append-drop, drop-drop, drop_all, take_all, append-nil}
use Rattle.bfs_super.specs.declared.sup.Super.{Super}
use Rattle.bfs_super.specs.declared.geometry.Geometry.{Geometry}
use Rattle.bfs_super.specs.Conditions.{IsValid}
use Rattle.bfs_super.specs.Geometry.{geometry_of}
use Rattle.bfs_log.specs.Ring.{next_place, in_use}
use Rattle.bfs_log.specs.Entry.{IsOfSuper, IsEntry, IsHome, entry_bytes, blocks_in, runs_of}
use Rattle.bfs_log.specs.Replay.{Home, Logs, logged, homes_from, homes_at, homes_of, place_in}
use Rattle.bfs_log.specs.Walk.{homes_with}
use Rattle.bfs_log.proofs.Printed.{entry_again, runs_again, blocks_again}
use Rattle.bfs_log.proofs.Logged.{next_inside}
use Rattle.bfs_log.proofs.Walks.{homes_read, next_next, next_low, next_high, used_ahead, used_wrapped, used_after}
use Rattle.bfs_txn.specs.Changed.{number_at, bytes_at}
use Rattle.bfs_device.specs.Layouts.{IsData, layout_of, slot, homes_in, ring_count, named_in, log_block}
use Rattle.bfs_device.proofs.Homes.{length-homes}

abbrev Pairs : Type 0
Pairs = List (ℕ × List ℕ)

-- places ahead of a start are so many in use
pub ahead_used : (start n len : ℕ) → start < len → n < len → in_use start (next_place start n len) len ≡ n
ahead_used start n len low few = ⊎_elim
    (λ lt. ap (λ (e : ℕ). in_use start e len) (next_low start n len lt) ∙ used_ahead start (start + n) len (omega arith) ∙ omega arith)
    (λ ge. ap (λ (e : ℕ). in_use start e len) (next_high start n len ge) ∙ used_wrapped start (start + n - len) len (omega (arith, low, few, ge)) ∙ omega (arith, low, few, ge))
    (cases_lt (start + n) len)

pub rest_used : (start a n len : ℕ) → start < len → a ≤ n → n < len → in_use (next_place start a len) (next_place start n len) len ≡ n - a
rest_used start a n len low le few =
    let all = ahead_used start n len low few in
    let part = used_after start (next_place start n len) a len low (next_inside start n len low (omega (arith, few))) (omega (arith, all, le)) in
    omega (arith, all, part, le)

-- pairs of numbers and bytes
pairs_again : (ps : Pairs) → homes_with (map (λ p. p.0) ps) (map (λ p. p.1) ps) ≡ homes_in ps
pairs_again [] = refl
pairs_again (p ∷ ps) = ap (λ (hs : List Home). record { place = p.0; bytes = p.1 } ∷ hs) (pairs_again ps)

homes_append : (xs ys : Pairs) → homes_in (xs ++ ys) ≡ homes_in xs ++ homes_in ys
homes_append [] ys = refl
homes_append (x ∷ xs) ys = ap (λ (hs : List Home). record { place = x.0; bytes = x.1 } ∷ hs) (homes_append xs ys)

length-cut : (n : ℕ) (ps : Pairs) → length (take n ps) ≡ min n (length ps)
length-cut zero ps = omega arith
length-cut (suc n) [] = omega arith
length-cut (suc n) (p ∷ ps) = omega (arith, length-cut n ps)

get_cut : (n i : ℕ) (ps : Pairs) (d : ℕ × List ℕ) → i < n → get_or (take n ps) i d ≡ get_or ps i d
get_cut zero i ps d lt = absurd (omega arith)
get_cut (suc n) i [] d lt = refl
get_cut (suc n) zero (p ∷ ps) d lt = refl
get_cut (suc n) (suc i) (p ∷ ps) d lt = get_cut n i ps d (omega arith)

pub get_past : (n i : ℕ) (ps : Pairs) (d : ℕ × List ℕ) → get_or (drop n ps) i d ≡ get_or ps (n + i) d
get_past zero i ps d = ap (λ (k : ℕ). get_or ps k d) (omega arith)
get_past (suc n) i [] d = refl
get_past (suc n) i (p ∷ ps) d = get_past n i ps d ∙ ap (λ (k : ℕ). get_or (p ∷ ps) k d) (let e : suc (n + i) ≡ suc n + i = omega arith in e)

-- numbers of a part of the pairs
pub number_in : (m n k : ℕ) (ps : Pairs) (d : ℕ) → k < length (map (λ p. p.0) (take n (drop m ps))) → (get_or (map (λ p. p.0) (take n (drop m ps))) k d ≡ number_at ps (m + k)) × (m + k < length ps)
number_in m n k ps d lt =
    let short : k < length (take n (drop m ps)) = omega (arith, lt, length-map (take n (drop m ps)) (λ p. p.0)) in
    let within = length-cut n (drop m ps) in (
      get_or-map (λ p. p.0) (take n (drop m ps)) k (0, []) d short ∙ ap (λ p. p.0) (get_cut n k (drop m ps) (0, []) (omega (arith, short, within)) ∙ get_past m k ps (0, [])),
      omega (arith, short, within, length-drop m ps),
    )

pub length-part_low : (ps : Pairs) (e : ℕ) → length (named_in ps e) ≤ 126
length-part_low ps e = omega (arith, length-map (take 126 (drop (126 * e) ps)) (λ p. p.0), length-cut 126 (drop (126 * e) ps))

pub cut_min : (n : ℕ) (ps : Pairs) → take (min n (length ps)) ps ≡ take n ps
cut_min n ps = ⊎_elim
    (λ lt. let e : min n (length ps) ≡ n = omega (arith, lt) in ap (λ (k : ℕ). take k ps) e)
    (λ ge. take_all (min n (length ps)) ps (omega (arith, ge)) ∙ sym (take_all n ps (omega (arith, ge))))
    (cases_lt n (length ps))

-- what stands at a place of the group
array_at : (s : Super) (ps : Pairs) (e : ℕ) → log_block s ps (127 * e) ≡ entry_bytes (geometry_of s) (named_in ps e) s.block_size
array_at s ps e =
    let zero_rest : 127 * e % 127 ≡ 0 = omega arith in
    let same : 127 * e / 127 ≡ e = omega arith in
    cond-true _ _ _ (eq-eqb (127 * e % 127) 0 zero_rest) ∙ ap (λ (k : ℕ). entry_bytes (geometry_of s) (named_in ps k) s.block_size) same

bytes_behind : (s : Super) (ps : Pairs) (e i : ℕ) → i < 126 → log_block s ps (127 * e + 1 + i) ≡ bytes_at ps (126 * e + i)
bytes_behind s ps e i lt =
    let rest : (127 * e + 1 + i) % 127 ≡ 1 + i = omega (arith, lt) in
    let same : (127 * e + 1 + i) / 127 ≡ e = omega (arith, lt) in
    let other : (127 * e + 1 + i) % 127 ≡ 0 → ⊥ = λ z. omega (arith, z, rest) in
    let place : 126 * ((127 * e + 1 + i) / 127) + ((127 * e + 1 + i) % 127 - 1) ≡ 126 * e + i = omega (arith, rest, same) in
    cond-false _ _ _ (ne_eqb ((127 * e + 1 + i) % 127) 0 other) ∙ ap (bytes_at ps) place

module _ (s : Super) (valid : IsValid s) (f : ℕ → List ℕ) (ps : Pairs) (start : ℕ)
    (places : (i : ℕ) → i < length ps → IsData (layout_of s) (number_at ps i))
    (low : start < s.log_blocks.len) (room : ring_count ps < s.log_blocks.len)
    (there : (j : ℕ) → j < ring_count ps → f (slot (layout_of s) start j) ≡ log_block s ps j) where
  abbrev g : Geometry
  g = geometry_of s

  abbrev len : ℕ
  len = s.log_blocks.len

  super : IsOfSuper g
  super = (s, valid, refl)

  abbrev end : ℕ
  end = next_place start (ring_count ps) len

  abbrev part : ℕ → Pairs
  part e = take 126 (drop (126 * e) ps)

  length-part : (e : ℕ) → length (part e) ≡ min 126 (length ps - 126 * e)
  length-part e = omega (arith, length-cut 126 (drop (126 * e) ps), length-drop (126 * e) ps)

  data_of : (e : ℕ) → All (λ b. IsData (layout_of s) b) (named_in ps e)
  data_of e k d lt =
      let short : k < length (part e) = omega (arith, lt, length-map (part e) (λ p. p.0)) in
      let within = length-part e in
      let is : get_or (named_in ps e) k d ≡ number_at ps (126 * e + k) =
      get_or-map (λ p. p.0) (part e) k (0, []) d short ∙ ap (λ p. p.0) (get_cut 126 k (drop (126 * e) ps) (0, []) (omega (arith, short, within)) ∙ get_past (126 * e) k ps (0, [])) in
      subst (IsData (layout_of s)) (sym is) (places (126 * e + k) (omega (arith, short, within)))

  -- one entry
  module _ (e : ℕ) (more : 126 * e < length ps) where
    abbrev at : ℕ
    at = next_place start (127 * e) len

    count : length (named_in ps e) ≡ min 126 (length ps - 126 * e)
    count = length-map (part e) (λ p. p.0) ∙ length-part e

    within : 127 * e + 1 + length (named_in ps e) ≤ ring_count ps
    within = omega (arith, count, more)

    at_low : at < len
    at_low = next_inside start (127 * e) len low (omega (arith, within, room))

    array : logged g f at ≡ entry_bytes g (named_in ps e) s.block_size
    array = there (127 * e) (omega (arith, within)) ∙ array_at s ps e

    volume : All (λ b. b < g.blocks) (named_in ps e)
    volume k d lt = (data_of e k d lt).1

    homes : All (IsHome g) (named_in ps e)
    homes k d lt = let is = data_of e k d lt in record { not_zero = is.0; volume = is.1; apart = is.2 }

    entry : IsEntry (place_in g f at end) (logged g f at)
    entry = subst (IsEntry (place_in g f at end)) (sym array)
        (entry_again g super (named_in ps e) s.block_size volume (omega (arith, count, more)) (omega (arith, count)) (place_in g f at end) refl homes
        (omega (arith, rest_used start (127 * e) (ring_count ps) len low (omega (arith, within)) room, within)))

    blocks : blocks_in g (runs_of (logged g f at)) ≡ named_in ps e
    blocks = ap (λ (l : List ℕ). blocks_in g (runs_of l)) array
        ∙ ap (blocks_in g) (runs_again g super (named_in ps e) s.block_size volume (omega (arith, count, more)) (omega (arith, count)))
        ∙ blocks_again g super (named_in ps e)

    body : (i : ℕ) → i < length (named_in ps e) → logged g f (next_place (next_place at 1 len) i len) ≡ get_or (map (λ p. p.1) (part e)) i []
    body i lt =
        let short : i < length (part e) = omega (arith, lt, length-map (part e) (λ p. p.0)) in
        let i_low : i < 126 = omega (arith, short, length-part e) in
        ap (logged g f) (next_next at 1 i len at_low (omega (arith, lt, within, room)) ∙ next_next start (127 * e) (1 + i) len low (omega (arith, lt, within, room)) ∙ ap (λ (k : ℕ). next_place start k len) (let q : 127 * e + (1 + i) ≡ 127 * e + 1 + i = omega arith in q))
        ∙ there (127 * e + 1 + i) (omega (arith, lt, within))
        ∙ bytes_behind s ps e i i_low
        ∙ sym (get_or-map (λ p. p.1) (part e) i (0, []) [] short ∙ ap (λ p. p.1) (get_cut 126 i (drop (126 * e) ps) (0, []) i_low ∙ get_past (126 * e) i ps (0, [])))

    found : homes_in (part e) ≡ homes_at g f at
    found = sym (
        ap (homes_from g f (next_place at 1 len)) blocks
        ∙ homes_read g f (next_place at 1 len) (named_in ps e) (map (λ p. p.1) (part e)) (next_inside at 1 len at_low (omega (arith, within, room))) (omega (arith, length-map (part e) (λ p. p.0), length-map (part e) (λ p. p.1))) (omega (arith, within, room)) body
        ∙ pairs_again (part e))

    onward : next_place at (1 + length (homes_in (part e))) len ≡ next_place start (127 * e + 1 + length (named_in ps e)) len
    onward =
        let same : length (homes_in (part e)) ≡ length (named_in ps e) = length-homes (part e) ∙ sym (length-map (part e) (λ p. p.0)) in
        ap (λ (k : ℕ). next_place at (1 + k) len) same ∙ next_next start (127 * e) (1 + length (named_in ps e)) len low (omega (arith, within, room))
        ∙ ap (λ (k : ℕ). next_place start k len) (let q : 127 * e + (1 + length (named_in ps e)) ≡ 127 * e + 1 + length (named_in ps e) = omega arith in q)

  abbrev IsRead : ℕ → Type 0
  IsRead e = (entries : List (List Home)) × Logs g f (next_place start (127 * e) len) end entries × (homes_of entries ≡ homes_in (drop (126 * e) ps))

  none_left : (e : ℕ) → 126 * e ≡ length ps → IsRead e
  none_left e here =
      ([], ap (λ (k : ℕ). next_place start k len) (let q : 127 * e ≡ ring_count ps = omega (arith, here) in q), ap homes_in (sym (drop_all (126 * e) ps (omega (arith, here)))))

  one_left : (e : ℕ) → 126 * e < length ps → length ps < 126 * e + 126 → IsRead e
  one_left e more few =
      let all : homes_in (part e) ≡ homes_in (drop (126 * e) ps) = ap homes_in (take_all 126 (drop (126 * e) ps) (omega (arith, length-drop (126 * e) ps, few))) in (
        homes_in (part e) ∷ [],
        (entry e more, found e more, onward e more ∙ ap (λ (k : ℕ). next_place start k len) (let q : 127 * e + 1 + length (named_in ps e) ≡ ring_count ps = omega (arith, count e more, few, more) in q)),
        append-nil (homes_in (part e)) ∙ all,
      )

  more_left : (e : ℕ) → 126 * e + 126 ≤ length ps → IsRead (suc e) → IsRead e
  more_left e fits later =
      let more : 126 * e < length ps = omega (arith, fits) in
      let next : next_place start (127 * e + 1 + length (named_in ps e)) len ≡ next_place start (127 * suc e) len = ap (λ (k : ℕ). next_place start k len) (let q : 127 * e + 1 + length (named_in ps e) ≡ 127 * suc e = omega (arith, count e more, fits) in q) in
      let joined : homes_in (part e) ++ homes_in (drop (126 * suc e) ps) ≡ homes_in (drop (126 * e) ps) =
      ap (λ (xs : Pairs). homes_in (part e) ++ homes_in xs) (ap (λ (k : ℕ). drop k ps) (let q : 126 * suc e ≡ 126 * e + 126 = omega arith in q) ∙ sym (drop-drop 126 (126 * e) ps))
      ∙ sym (homes_append (part e) (drop 126 (drop (126 * e) ps)))
      ∙ ap homes_in (take-append-drop 126 (drop (126 * e) ps)) in (
        homes_in (part e) ∷ later.0,
        (entry e more, found e more, subst (λ (k : ℕ). Logs g f k end later.0) (sym (onward e more ∙ next)) later.1),
        ap (λ (hs : List Home). homes_in (part e) ++ hs) later.2 ∙ joined,
      )

  -- the entries from one on
  read_from : (n e : ℕ) → length ps ≤ 126 * e + 126 * n → 126 * e ≤ length ps → IsRead e
  read_from zero e fits le = none_left e (omega (arith, fits, le))
  read_from (suc n) e fits le = ⊎_elim
      (λ few. ⊎_elim (λ more. one_left e more few) (λ past. none_left e (omega (arith, past, le))) (cases_lt (126 * e) (length ps)))
      (λ full. more_left e full (read_from n (suc e) (omega (arith, fits)) (omega (arith, full))))
      (cases_lt (length ps) (126 * e + 126))

  -- the whole group
  pub group_logs : (entries : List (List Home)) × Logs g f start end entries × (homes_of entries ≡ homes_in ps)
  group_logs =
      let all = read_from (length ps) 0 (omega arith) (omega arith) in
      let first : next_place start (127 * 0) len ≡ start = next_low start (127 * 0) len (omega (arith, low)) ∙ omega arith in
      (all.0, subst (λ (k : ℕ). Logs g f k end all.0) first all.1, all.2)
