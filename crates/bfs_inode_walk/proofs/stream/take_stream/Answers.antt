use Rattle.std.proofs.Common.{◌≡◌, ◌++◌, ◌∷◌, [], ◌∙◌, ℕ, List, ap, sym, subst}
use Rattle.bfs_stream.specs.Sizes.{Sizes, sizes_of}
use Rattle.bfs_stream.specs.Places.{blocks_of, arrays_at, places_at}
use Rattle.bfs_stream.specs.Told.{contents}
use Rattle.bfs_sound.specs.Whole.{volume_of}
use Rattle.bfs_claims.specs.Claims.{AreClaimed}
use Rattle.bfs_inode_walk.specs.Visited.{IsTaken}
use Rattle.bfs_inode_walk.proofs.Claiming.{untaken_taken}
use Rattle.bfs_inode_walk.proofs.stream.take_stream.Goals as goal

pub returns-in-Err-clause-taken : goal.returns-in-Err-clause-taken
returns-in-Err-clause-taken g c m xs told a =
    let s : Sizes = sizes_of c.args.sup.now in
    untaken_taken xs (c.args.id ∷ (arrays_at s (contents m) c.args.id ++ places_at s (contents m) c.args.id)) c.args.id c.in-Err.fault c.in-Err.ensures.untaken

pub returns-in-Ok-claim_both-clause-claimed : goal.returns-in-Ok-claim_both-clause-claimed
returns-in-Ok-claim_both-clause-claimed g c m xs told a =
    let s : Sizes = sizes_of c.args.sup.now in
    let one : blocks_of s c.deref-arrays.result.now ≡ arrays_at s (contents m) c.args.id = ap (blocks_of s) c.deref-arrays.ensures.value ∙ c.in-Ok.ensures.arrays m told in
    let two : blocks_of s c.deref-runs.result.now ≡ places_at s (contents m) c.args.id = ap (blocks_of s) c.deref-runs.ensures.value ∙ c.in-Ok.ensures.places m told in
    subst (λ (l : List ℕ). AreClaimed c.claim_both.new.claims (xs ++ l)) (λ i. one i ++ two i) (c.in-Ok-claim_both.ensures.claimed xs a)

pub returns-clause-taken : goal.returns-clause-taken
returns-clause-taken g c m xs told a =
    let s : Sizes = sizes_of c.args.sup.now in
    let one : blocks_of s c.deref-arrays.result.now ≡ arrays_at s (contents m) c.args.id = ap (blocks_of s) c.deref-arrays.ensures.value ∙ c.in-Ok.ensures.arrays m told in
    let two : blocks_of s c.deref-runs.result.now ≡ places_at s (contents m) c.args.id = ap (blocks_of s) c.deref-runs.ensures.value ∙ c.in-Ok.ensures.places m told in
    subst (λ (l : List ℕ). IsTaken xs (c.args.id ∷ l) c.args.id c.refusal.result) (λ i. one i ++ two i) (c.refusal.ensures.taken xs (c.in-Err-claim_both.ensures.twice (xs ++ c.args.id ∷ []) a))

pub returns-clause-wrong : goal.returns-clause-wrong
returns-clause-wrong g c m told streamed =
    let s : Sizes = sizes_of c.args.sup.now in
    let one : blocks_of s c.deref-arrays.result.now ≡ arrays_at s (contents m) c.args.id = ap (blocks_of s) c.deref-arrays.ensures.value ∙ c.in-Ok.ensures.arrays m told in
    let two : blocks_of s c.deref-runs.result.now ≡ places_at s (contents m) c.args.id = ap (blocks_of s) c.deref-runs.ensures.value ∙ c.in-Ok.ensures.places m told in
    c.refusal.ensures.wrong (volume_of c.args.sup.now (contents m)) streamed (λ i. c.args.id ∷ (sym one i ++ sym two i))

pub returns-clause-cause : goal.returns-clause-cause
returns-clause-cause g c = c.refusal.ensures.cause (g.B.Blocks.counts c.args.under.now) (g.B.Blocks.counts c.look_at_stream.new.under)
