use Rattle.std.specs.Prelude.{Result, Ok, Err, OnOk, OnErr}
use Rattle.std.proofs.Common.{None, false, refl, ap}
use Rattle.bfs_bitmap.specs.Runs.{Room, first_of}
use Rattle.bfs_txn.specs.declared.fault.BlockFault.{BlockFault}
use Rattle.bfs_stream.proofs.Giving.{gave_is}
use Rattle.bfs_stream.specs.Standing.{standing}
use Rattle.bfs_stream.proofs.Standings.{stands_behind}
use Rattle.bfs_stream.proofs.Writes.{bits_in_run}
use Rattle.bfs_cuts.proofs.cut.give.Goals as goal

all : {P Q A B T S : Type 0} (r : Result (Unit {0}) BlockFault) → OnOk r P → OnOk r Q → (A → B → OnOk r T) → (P → Q → (A → B → T) → S) → OnOk r S
all (Ok x) p q t f = f p q t
all (Err x) p q t f = p

pub returns-clause-gave : goal.returns-clause-gave
returns-clause-gave g c m is fits =
    all c.give_back.result c.give_back.ensures.given (c.give_back.ensures.marked m is fits) (c.give_back.ensures.counted m is fits.has)
    (λ given mark counted. gave_is c.args.stream.now.sizes c.args.bitmap.now c.give_back.new.self c.args.run m (g.E.Blocks.told c.give_back.new.edits) c.requires.volume (ap (λ (v : Room). v.given) given) mark c.requires.inside counted)

pub returns-clause-bits : goal.returns-clause-bits
returns-clause-bits g c = bits_in_run c.args.stream.now.sizes c.args.bitmap.now c.args.run (g.E.Blocks.changed c.args.edits.now) (g.E.Blocks.changed c.give_back.new.edits) c.requires.volume c.give_back.ensures.bits

either : {A B S : Type 0} (r : Result (Unit {0}) BlockFault) → OnOk r A → OnErr r B → (A → S) → (B → S) → S
either (Ok x) a b f h = f a
either (Err x) a b f h = h b

pub returns-clause-standing : goal.returns-clause-standing
returns-clause-standing g c =
    let v = c.args.bitmap.now in
    let now = c.give_back.new.self in
    either c.give_back.result c.give_back.ensures.given c.give_back.ensures.err
    (λ given. stands_behind v now (record { first = first_of v c.args.run; len = c.args.run.len; group = None; kept = false }) refl refl (ap (λ (x : Room). x.given) given))
    (λ same. ap standing same)
