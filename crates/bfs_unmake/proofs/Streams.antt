-- How many blocks the streams of inodes have.
use Rattle.std.proofs.Common.{◌≡◌, ◌≤◌, ◌+◌, ℕ, List, [], ◌∷◌, length, min, refl, sym, ap, ◌∙◌, arith, inl, inr, Bool, true, false, cond}
use Rattle.std.specs.List.{AllByRecursion}
use Rattle.std.proofs.lemmas.List.Sums.{sum_by-cons}
use Rattle.bfs_sound.specs.Inodes.{stream_blocks}
use Rattle.bfs_sound.specs.Need.{streams_length, stream_length}
use Rattle.bfs_sound.specs.Owners.{Owner, In, with_streams}
use Rattle.bfs_sound.specs.Volumes.{Volume}
use Rattle.bfs_calls.specs.Allowances.{left_alone}
use Rattle.bfs_unmake.specs.Counted.{streams_among}

-- one stream more, where no more than so many are counted
pub next_least : (a x rest most : ℕ) → min (min (a + min x most) most + rest) most ≡ min (a + (x + rest)) most
next_least a x rest most = grind arith

pub last_least : (a most : ℕ) → a ≤ most → a ≡ min (a + 0) most
last_least a most le = grind (arith, le)

-- each element of a list that has this property
pub all_from : {P : ℕ → Type 0} (ids : List ℕ) → ((id : ℕ) → In id ids → P id) → AllByRecursion P ids
all_from [] each = tt
all_from (id ∷ ids) each = (each id (inl refl), all_from ids (λ k i. each k (inr i)))

-- the streams of owners that have them are those of their inodes
pub with_all : (v : Volume) (ids : List ℕ) → left_alone v (with_streams ids) ≡ streams_among v ids
with_all v [] = refl
with_all v (id ∷ ids) =
    let one : left_alone v (with_streams (id ∷ ids)) ≡ length (stream_blocks v id) + left_alone v (with_streams ids) = sum_by-cons (λ (o : Owner). cond o.1 0 (length (stream_blocks v o.0))) (id, false) (with_streams ids) in
    let two : streams_among v (id ∷ ids) ≡ length (stream_blocks v id) + streams_among v ids = sum_by-cons (λ (k : ℕ). length (stream_blocks v k)) id ids in
    one ∙ ap (λ (n : ℕ). length (stream_blocks v id) + n) (with_all v ids) ∙ sym two

-- the blocks of streams alone are no more than with their array blocks
pub alone_few : (v : Volume) (os : List Owner) → left_alone v os ≤ streams_length v os
alone_few v [] = omega arith
alone_few v (o ∷ os) =
    let one : left_alone v (o ∷ os) ≡ cond o.1 0 (length (stream_blocks v o.0)) + left_alone v os = sum_by-cons (λ (x : Owner). cond x.1 0 (length (stream_blocks v x.0))) o os in
    let two : streams_length v (o ∷ os) ≡ cond o.1 0 (stream_length v o.0) + streams_length v os = sum_by-cons (λ (x : Owner). cond x.1 0 (stream_length v x.0)) o os in
    let rest : left_alone v os ≤ streams_length v os = alone_few v os in
    let here : cond o.1 0 (length (stream_blocks v o.0)) ≤ cond o.1 0 (stream_length v o.0) = by_kind o.1 in
    omega (arith, one, two, rest, here)
  where
    by_kind : (b : Bool) → cond b 0 (length (stream_blocks v o.0)) ≤ cond b 0 (stream_length v o.0)
    by_kind true = omega arith
    by_kind false = omega arith
