use Rattle.std.proofs.Common.{◌≤◌, ◌<◌, ◌∙◌, ◌++◌, length, take, pos, refl, arith}
use Rattle.bfs_bytes.specs.declared.Run.{Run}
use Rattle.bfs_stream.specs.Sizes.{Sizes, sizes_of}
use Rattle.bfs_stream.specs.Places.{blocks_of}
use Rattle.bfs_inode_walk.proofs.Claiming.{claimed_none, claimed_next, claimed_all, twice_next}
use Rattle.bfs_inode_walk.proofs.runs.claim_runs.Goals as goal

pub loop-i-init : goal.loop-i-init
loop-i-init c = record { claimed = λ xs a. claimed_none (sizes_of c.args.sup) c.args.runs.now c.args.claims.now xs a; more = omega arith; blocks = refl }

pub returns-in-Err-clause-twice : goal.returns-in-Err-clause-twice
returns-in-Err-clause-twice c xs a =
    let s : Sizes = sizes_of c.args.sup in
    let none : Run = record { group = pos 0; start = 0; len = 0 } in
    let inside : c.loop-i.i < length c.args.runs.now = c.loop-i-test.true in
    let t = c.in-Err.ensures.twice (xs ++ blocks_of s (take c.loop-i.i c.args.runs.now)) (c.loop-i.invariant.claimed xs a) in
    twice_next s c.args.runs.now c.loop-i.i none inside c.in-Err.block xs t.0 t.1

pub loop-i-preserved : goal.loop-i-preserved
loop-i-preserved c =
    let s : Sizes = sizes_of c.args.sup in
    let none : Run = record { group = pos 0; start = 0; len = 0 } in
    let inside : c.loop-i.i < length c.args.runs.now = c.loop-i-test.true in record {
      claimed = λ xs a. claimed_next s c.args.runs.now c.loop-i.i none inside c.claim_run.new.claims xs (c.in-Ok.ensures.claimed (xs ++ blocks_of s (take c.loop-i.i c.args.runs.now)) (c.loop-i.invariant.claimed xs a));
      more = let now = c.in-Ok.ensures.more in let before = c.loop-i.invariant.more in omega (arith, now, before);
      blocks = c.in-Ok.ensures.blocks ∙ c.loop-i.invariant.blocks;
    }

pub returns-clause-claimed : goal.returns-clause-claimed
returns-clause-claimed c xs a =
    let past : length c.args.runs.now ≤ c.loop-i.i = omega arith in
    claimed_all (sizes_of c.args.sup) c.args.runs.now c.loop-i.i c.loop-i.claims xs past (c.loop-i.invariant.claimed xs a)
