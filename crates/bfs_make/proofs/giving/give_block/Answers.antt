use Rattle.std.proofs.Common.{◌≡◌, ◌∙◌, [], ◌∷◌, ℕ, List, None, false, refl, ap, subst}
use Rattle.std.specs.Prelude.{Result, Ok, Err, OnOk, OnErr}
use Rattle.bfs_base.specs.Lists.{counted_from}
use Rattle.bfs_bitmap.specs.Runs.{Room, first_of}
use Rattle.bfs_txn.specs.declared.fault.BlockFault.{BlockFault}
use Rattle.bfs_stream.specs.Sizes.{sizes_of, first_block}
use Rattle.bfs_stream.specs.Places.{run_blocks}
use Rattle.bfs_stream.specs.Standing.{standing}
use Rattle.bfs_stream.specs.Trimmed.{Gave}
use Rattle.bfs_stream.proofs.Giving.{gave_is}
use Rattle.bfs_stream.proofs.Standings.{stands_behind}
use Rattle.bfs_make.proofs.giving.give_block.Goals as goal

all : {P Q A B T S : Type 0} (r : Result (Unit {0}) BlockFault) → OnOk r P → OnOk r Q → (A → B → OnOk r T) → (P → Q → (A → B → T) → S) → OnOk r S
all (Ok x) p q t f = f p q t
all (Err x) p q t f = p

pub returns-clause-gave : goal.returns-clause-gave
returns-clause-gave g c m is fits =
    let s = sizes_of c.args.site.sup in
    let run = c.run_of.result in
    let blocks : run_blocks s run ≡ c.args.id ∷ [] = ap (counted_from (first_block s run)) c.run_of.ensures.one ∙ ap (λ (n : ℕ). n ∷ []) c.run_of.ensures.block in
    subst (λ (xs : List ℕ). OnOk c.give_back.result (Gave c.args.bitmap.now c.give_back.new.self xs m (g.E.Blocks.told c.give_back.new.edits))) blocks
    (all c.give_back.result c.give_back.ensures.given (c.give_back.ensures.marked m is fits) (c.give_back.ensures.counted m is fits.has)
    (λ given mark counted. gave_is s c.args.bitmap.now c.give_back.new.self run m (g.E.Blocks.told c.give_back.new.edits) c.requires.volume (ap (λ (v : Room). v.given) given) mark c.run_of.ensures.inside counted))

either : {A B S : Type 0} (r : Result (Unit {0}) BlockFault) → OnOk r A → OnErr r B → (A → S) → (B → S) → S
either (Ok x) a b f h = f a
either (Err x) a b f h = h b

pub returns-clause-standing : goal.returns-clause-standing
returns-clause-standing g c =
    let v = c.args.bitmap.now in
    let now = c.give_back.new.self in
    let run = c.run_of.result in
    either c.give_back.result c.give_back.ensures.given c.give_back.ensures.err
    (λ given. stands_behind v now (record { first = first_of v run; len = run.len; group = None; kept = false }) refl refl (ap (λ (x : Room). x.given) given))
    (λ same. ap standing same)
