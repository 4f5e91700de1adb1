use Rattle.std.proofs.Common.{◌≡◌, ◌++◌, ◌∷◌, [], ◌∙◌, true, false, sym}
use Rattle.bfs_stream.specs.Told.{contents}
use Rattle.bfs_sound.specs.Volumes.{Volume}
use Rattle.bfs_sound.specs.Whole.{volume_of}
use Rattle.bfs_inode_walk.specs.Visited.{is_alone}
use Rattle.bfs_inode_walk.proofs.Claiming.{untaken_taken}
use Rattle.bfs_inode_walk.proofs.Visits.{claimed_alone, claimed_whole, taken_first, taken_whole, sound_alone, sound_whole}
use Rattle.bfs_inode_walk.proofs.Ways.{streamed}
use Rattle.bfs_inode_walk.proofs.visit.visit_inode.Goals as goal

pub returns-in-Err-clause-taken : goal.returns-in-Err-clause-taken
returns-in-Err-clause-taken g c m xs told a = untaken_taken xs _ c.args.id c.in-Err.fault c.in-Err.ensures.untaken

pub returns-in-Err-claim_own-clause-taken : goal.returns-in-Err-claim_own-clause-taken
returns-in-Err-claim_own-clause-taken g c m xs told a =
    taken_first (volume_of c.args.sup.now (contents m)) c.args.role c.args.id xs c.in-Err-claim_own.fault (λ rest. c.in-Err-claim_own.ensures.taken xs rest a)

pub returns-then-alone-clause-sound : goal.returns-then-alone-clause-sound
returns-then-alone-clause-sound g c m told =
    let v : Volume = volume_of c.args.sup.now (contents m) in
    let bytes : contents m c.args.id ≡ c.deref.result.now = sym (c.deref.ensures.value ∙ c.in-Ok.ensures.read m told) in
    let alone : is_alone v c.args.role c.args.id ≡ true = sym (c.has_no_stream-alone.ensures v c.args.id bytes) ∙ c.if-alone.true in
    sound_alone v c.args.role c.args.id (c.in-Ok.ensures.inode m told) (c.in-Ok.ensures.mode m told) (λ node. c.in-Ok.ensures.node node m told) alone

pub returns-then-alone-clause-claimed : goal.returns-then-alone-clause-claimed
returns-then-alone-clause-claimed g c m xs told a =
    let v : Volume = volume_of c.args.sup.now (contents m) in
    let bytes : contents m c.args.id ≡ c.deref.result.now = sym (c.deref.ensures.value ∙ c.in-Ok.ensures.read m told) in
    let alone : is_alone v c.args.role c.args.id ≡ true = sym (c.has_no_stream-alone.ensures v c.args.id bytes) ∙ c.if-alone.true in
    claimed_alone v c.args.role c.args.id _ xs alone (c.in-Ok-claim_own.ensures.claimed xs a)

pub returns-in-Ok-take_stream-clause-sound : goal.returns-in-Ok-take_stream-clause-sound
returns-in-Ok-take_stream-clause-sound g c m told =
    let v : Volume = volume_of c.args.sup.now (contents m) in
    sound_whole v c.args.role c.args.id (c.in-Ok.ensures.inode m told) (c.in-Ok.ensures.mode m told) (λ node. c.in-Ok.ensures.node node m told) (c.in-Ok-take_stream.ensures.sound m (c.in-Ok.ensures.told ∙ told))

pub returns-in-Ok-take_stream-clause-claimed : goal.returns-in-Ok-take_stream-clause-claimed
returns-in-Ok-take_stream-clause-claimed g c m xs told a =
    let v : Volume = volume_of c.args.sup.now (contents m) in
    let bytes : contents m c.args.id ≡ c.deref.result.now = sym (c.deref.ensures.value ∙ c.in-Ok.ensures.read m told) in
    let other : is_alone v c.args.role c.args.id ≡ false = sym (c.has_no_stream-alone.ensures v c.args.id bytes) ∙ c.if-alone.false in
    claimed_whole v c.args.role c.args.id _ xs other (c.in-Ok-take_stream.ensures.claimed m (xs ++ c.args.id ∷ []) (c.in-Ok.ensures.told ∙ told) (c.in-Ok-claim_own.ensures.claimed xs a))

pub returns-in-Err-take_stream-clause-wrong : goal.returns-in-Err-take_stream-clause-wrong
returns-in-Err-take_stream-clause-wrong g c m way told is arrives =
    let v : Volume = volume_of c.args.sup.now (contents m) in
    let bytes : contents m c.args.id ≡ c.deref.result.now = sym (c.deref.ensures.value ∙ c.in-Ok.ensures.read m told) in
    let other : is_alone v c.args.role c.args.id ≡ false = sym (c.has_no_stream-alone.ensures v c.args.id bytes) ∙ c.if-alone.false in
    c.in-Err-take_stream.ensures.wrong m (c.in-Ok.ensures.told ∙ told) (streamed v way c.args.role c.args.id is arrives other)

pub returns-in-Err-take_stream-clause-taken : goal.returns-in-Err-take_stream-clause-taken
returns-in-Err-take_stream-clause-taken g c m xs told a =
    let v : Volume = volume_of c.args.sup.now (contents m) in
    let bytes : contents m c.args.id ≡ c.deref.result.now = sym (c.deref.ensures.value ∙ c.in-Ok.ensures.read m told) in
    let other : is_alone v c.args.role c.args.id ≡ false = sym (c.has_no_stream-alone.ensures v c.args.id bytes) ∙ c.if-alone.false in
    taken_whole v c.args.role c.args.id xs c.in-Err-take_stream.fault other (c.in-Err-take_stream.ensures.taken m xs (c.in-Ok.ensures.told ∙ told) (c.in-Ok-claim_own.ensures.claimed xs a))

pub returns-in-Err-claim_own-clause-wrong : goal.returns-in-Err-claim_own-clause-wrong
returns-in-Err-claim_own-clause-wrong g c m way told is arrives = c.in-Err-claim_own.ensures.wrong (volume_of c.args.sup.now (contents m))

pub returns-in-Err-claim_own-clause-cause : goal.returns-in-Err-claim_own-clause-cause
returns-in-Err-claim_own-clause-cause g c = c.in-Err-claim_own.ensures.cause (g.B.Blocks.counts c.args.under.now) (g.B.Blocks.counts c.look_at_inode.new.under)
