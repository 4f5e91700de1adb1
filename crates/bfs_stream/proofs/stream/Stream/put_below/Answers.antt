use Rattle.std.proofs.Common.{◌≡◌, ◌<◌, ◌≤◌, ◌*◌, ◌∙◌, ◌⊎◌, inl, inr, Bool, true, sym, ℕ, ap, arith}
use Rattle.std.specs.Prelude.{Result, Ok, Err, OnOk}
use Rattle.bfs_txn.specs.declared.fault.BlockFault.{BlockFault}
use Rattle.bfs_stream.specs.Sizes.{array_length, runs_per_block}
use Rattle.bfs_stream.proofs.Belows.{table_whole, table_in, put_in_table, table_told}
use Rattle.bfs_stream.proofs.stream.Stream.put_below.Goals as goal

per_is : (a b x y : ℕ) → a ≡ x → b ≡ y → a * b ≡ x * y
per_is a b x y e f = ap (λ (n : ℕ). n * b) e ∙ ap (λ (n : ℕ). x * n) f

some_of : (a b : ℕ) → 1 ≤ a → 128 ≤ b → 0 < a * b
some_of a b h g = grind (arith, h, g)

pub returns-in-Err-clause-sound : goal.returns-in-Err-clause-sound
returns-in-Err-clause-sound g c m is tables inside t =
    let s = c.args.self.now.sizes in
    let per = per_is c.array_length.result c.runs_per_block.result (array_length s) (runs_per_block s) c.array_length.ensures.value c.runs_per_block.ensures.value in
    let some = some_of c.array_length.result c.runs_per_block.result c.array_length.ensures.some c.runs_per_block.ensures.some in
    let bad = c.in-Err.ensures.none m is tables.first t in
    bad.2 (table_whole s c.args.array m c.args.place (c.array_length.result * c.runs_per_block.result) tables per some inside bad.0 bad.1)

pub returns-clause-written : goal.returns-clause-written
returns-clause-written g c m is tables inside k e =
    let s = c.args.self.now.sizes in
    let per = per_is c.array_length.result c.runs_per_block.result (array_length s) (runs_per_block s) c.array_length.ensures.value c.runs_per_block.ensures.value in
    let some = some_of c.array_length.result c.runs_per_block.result c.array_length.ensures.some c.runs_per_block.ensures.some in
    let at = c.in-Ok.ensures.found m is tables.first in
    by_side (λ (h : g.E.Blocks.changed c.whole_run.new.under k ≡ true). sym (ap (λ (f : ℕ → Bool). f k) c.in-Ok.ensures.changed) ∙ h) (table_in s c.args.array m c.args.place (c.array_length.result * c.runs_per_block.result) tables per some inside c.in-Ok.table at k) (c.put_in_array.ensures.written k e)
  where
    by_side : {A B C D : Type 0} → (B → A) → (C → D) → B ⊎ C → A ⊎ D
    by_side same more (inl before) = inl (same before)
    by_side same more (inr has) = inr (more has)

pub returns-clause-put : goal.returns-clause-put
returns-clause-put g c m is tables inside =
    let s = c.args.self.now.sizes in
    let per = per_is c.array_length.result c.runs_per_block.result (array_length s) (runs_per_block s) c.array_length.ensures.value c.runs_per_block.ensures.value in
    let some = some_of c.array_length.result c.runs_per_block.result c.array_length.ensures.some c.runs_per_block.ensures.some in
    let at = c.in-Ok.ensures.found m is tables.first in
    on_ok c.put_in_array.result
    (λ put. put_in_table s c.args.array m c.args.place (c.array_length.result * c.runs_per_block.result) tables per some inside c.in-Ok.table c.args.run (g.E.Blocks.told c.put_in_array.new.edits) at put)
    (c.put_in_array.ensures.put m (c.in-Ok.ensures.told ∙ is) (table_told s c.args.array m c.args.place (c.array_length.result * c.runs_per_block.result) tables per some inside c.in-Ok.table at))
  where
    on_ok : {P Q : Type 0} (r : Result (Unit {0}) BlockFault) → (P → Q) → OnOk r P → OnOk r Q
    on_ok (Ok x) f p = f p
    on_ok (Err x) f p = p
