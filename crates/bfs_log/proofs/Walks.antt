-- Steps of a walk over a log, and of its ring.
use Rattle.std.proofs.Common.{◌≡◌, ◌≢◌, ⊎_elim, ℕ, suc, ◌+◌, ◌-◌, ◌<◌, ◌≤◌, nat_lt, nat_le, List, [], ◌∷◌, ◌++◌, length, get_or, refl, sym, ◌∙◌, ap, subst, arith}
use Rattle.std.proofs.lemmas.Bool.{cases_lt, cond-true, cond-false, lt-ltb, le-ltb, le-leb, lt-leb}
use Rattle.bfs_super.specs.declared.geometry.Geometry.{Geometry}
use Rattle.bfs_log.specs.declared.entry.EntryFault.{EntryFault}
use Rattle.bfs_log.specs.Ring.{next_place, in_use}
use Rattle.bfs_log.specs.Entry.{IsEntry, IsFault}
use Rattle.bfs_log.specs.Replay.{Home, homes_at, homes_from, place_in, logged, Logs, Fails}
use Rattle.bfs_log.specs.Walk.{Reaches, homes_with}
use Rattle.bfs_log.proofs.Logged.{next_inside}

-- a place in the ring, by cases
pub next_low : (at by length : ℕ) → at + by < length → next_place at by length ≡ at + by
next_low at by length lt = cond-true (nat_lt (at + by) length) (at + by) (at + by - length) (lt-ltb (at + by) length lt)

pub next_high : (at by length : ℕ) → length ≤ at + by → next_place at by length ≡ at + by - length
next_high at by length ge = cond-false (nat_lt (at + by) length) (at + by) (at + by - length) (le-ltb (at + by) length ge)

pub used_ahead : (start end length : ℕ) → start ≤ end → in_use start end length ≡ end - start
used_ahead start end length le = cond-true (nat_le start end) (end - start) (end + length - start) (le-leb start end le)

pub used_wrapped : (start end length : ℕ) → end < start → in_use start end length ≡ end + length - start
used_wrapped start end length lt = cond-false (nat_le start end) (end - start) (end + length - start) (lt-leb start end lt)

-- two steps are one
pub next_next : (at a b length : ℕ) → at < length → a + b ≤ length → next_place (next_place at a length) b length ≡ next_place at (a + b) length
next_next at a b length low few = ⊎_elim
    (λ first.
    let one = next_low at a length first in
    ap (λ (k : ℕ). next_place k b length) one
    ∙ ⊎_elim
    (λ second. next_low (at + a) b length second ∙ sym (next_low at (a + b) length (omega arith) ∙ omega arith))
    (λ second. next_high (at + a) b length second ∙ sym (next_high at (a + b) length (omega arith) ∙ omega arith))
    (cases_lt (at + a + b) length))
    (λ first.
    let one = next_high at a length first in
    ap (λ (k : ℕ). next_place k b length) one
    ∙ next_low (at + a - length) b length (omega arith) ∙ sym (next_high at (a + b) length (omega arith) ∙ omega arith))
    (cases_lt (at + a) length)

-- what is in use behind a step within it
pub used_after : (at end size length : ℕ) → at < length → end < length → size ≤ in_use at end length → in_use (next_place at size length) end length + size ≡ in_use at end length
used_after at end size length low high within = ⊎_elim
    (λ wrapped.
    let all = used_wrapped at end length wrapped in
    ⊎_elim
    (λ first.
    let one = next_low at size length first in
    let rest = used_wrapped (at + size) end length (omega arith) in
    omega (arith, all, ap (λ (k : ℕ). in_use k end length) one, rest, within))
    (λ first.
    let one = next_high at size length first in
    let rest = used_ahead (at + size - length) end length (omega (arith, all, within)) in
    omega (arith, all, ap (λ (k : ℕ). in_use k end length) one, rest, within))
    (cases_lt (at + size) length))
    (λ ahead.
    let all = used_ahead at end length ahead in
    let one = next_low at size length (omega (arith, all, within)) in
    let rest = used_ahead (at + size) end length (omega (arith, all, within)) in
    omega (arith, all, ap (λ (k : ℕ). in_use k end length) one, rest, within))
    (cases_lt end at)

module _ (g : Geometry) (f : ℕ → List ℕ) (end : ℕ) where
  -- one entry more
  pub reach_more : (at stop : ℕ) (entries : List (List Home)) → Reaches g f end at stop entries → IsEntry (place_in g f stop end) (logged g f stop)
      → Reaches g f end at (next_place stop (1 + length (homes_at g f stop)) g.log.len) (entries ++ homes_at g f stop ∷ [])
  reach_more at stop [] reached entry =
      subst (λ (k : ℕ). Reaches g f end k (next_place stop (1 + length (homes_at g f stop)) g.log.len) (homes_at g f stop ∷ [])) (sym reached) (entry, refl, refl)
  reach_more at stop (homes ∷ entries) reached entry = (reached.0, reached.1, reach_more (next_place at (1 + length homes) g.log.len) stop entries reached.2 entry)

  -- up to the end
  pub reach_end : (at : ℕ) (entries : List (List Home)) → Reaches g f end at end entries → Logs g f at end entries
  reach_end at [] reached = reached
  reach_end at (homes ∷ entries) reached = (reached.0, reached.1, reach_end (next_place at (1 + length homes) g.log.len) entries reached.2)

  -- up to a fault
  pub reach_fault : (at stop : ℕ) (entries : List (List Home)) (fault : EntryFault) → Reaches g f end at stop entries → stop ≢ end → IsFault (place_in g f stop end) (logged g f stop) fault → Fails g f at end entries fault
  reach_fault at stop [] fault reached more is = subst (λ (k : ℕ). Fails g f k end [] fault) (sym reached) (more, is)
  reach_fault at stop (homes ∷ entries) fault reached more is = (reached.0, reached.1, reach_fault (next_place at (1 + length homes) g.log.len) stop entries fault reached.2 more is)

module _ (g : Geometry) (f : ℕ → List ℕ) where
  -- the bytes that stand in the ring from a place on are those of the homes
  pub homes_read : (at : ℕ) (blocks : List ℕ) (bytes : List (List ℕ)) → at < g.log.len → length bytes ≡ length blocks → length blocks ≤ g.log.len
      → ((i : ℕ) → i < length blocks → logged g f (next_place at i g.log.len) ≡ get_or bytes i []) → homes_from g f at blocks ≡ homes_with blocks bytes
  homes_read at [] bytes low same few there = refl
  homes_read at (b ∷ blocks) [] low same few there = absurd (omega (arith, same))
  homes_read at (b ∷ blocks) (first ∷ more) low same few there =
      let one : next_place at 0 g.log.len ≡ at = next_low at 0 g.log.len (omega arith) ∙ omega arith in
      let here : logged g f at ≡ first = ap (logged g f) (sym one) ∙ there 0 (omega arith) in
      let home : List ℕ → Home = λ l. record { place = b; bytes = l } in
      ap (λ (l : List ℕ). home l ∷ homes_from g f (next_place at 1 g.log.len) blocks) here
      ∙ ap (λ (hs : List Home). home first ∷ hs)
      (homes_read (next_place at 1 g.log.len) blocks more (next_inside at 1 g.log.len low (omega arith)) (omega (arith, same)) (omega arith)
      (λ i lt. ap (logged g f) (next_next at 1 i g.log.len low (omega arith) ∙ ap (λ (k : ℕ). next_place at k g.log.len) (omega arith)) ∙ there (suc i) (omega arith)))
