use Rattle.std.proofs.Common.{◌≡◌, ◌∙◌, true, false, sym, arith}
use Rattle.bfs_look.specs.Ready.{HasNodeAt}
use Rattle.bfs_look.proofs.Known.{node_low, not_there}
use Rattle.bfs_look.proofs.node.node_at.Goals as goal

pub returns-then-id-blocks_in-clause-found : goal.returns-then-id-blocks_in-clause-found
returns-then-id-blocks_in-clause-found g c m tree lists told ready = not_there tree c.args.id (λ h.
    let low = node_low c.args.sup.now c.args.bitmap.now m tree lists ready c.args.id h.0 h.1 in
    let high = c.if-id-blocks_in.true in
    let e = c.blocks_in.ensures in
    absurd (omega (arith, low, high, e)))

pub returns-then-not-there-clause-found : goal.returns-then-not-there-clause-found
returns-then-not-there-clause-found g c m tree lists told ready = not_there tree c.args.id (λ h.
    let yes' : c.in-Ok.there ≡ true = (c.in-Ok.ensures.found m tree lists told ready).1 h in
    let off : c.in-Ok.there ≡ false = c.if-not-there.true in
    let bad : true ≡ false = sym yes' ∙ off in
    cc)

pub returns-in-Ok-kind_at-clause-found : goal.returns-in-Ok-kind_at-clause-found
returns-in-Ok-kind_at-clause-found g c m tree lists told ready =
    let h : HasNodeAt tree c.args.id = (c.in-Ok.ensures.found m tree lists told ready).0 c.if-not-there.false in
    (h.0, h.1, sym (c.in-Ok-kind_at.ensures.kind c.args.bitmap.now m tree lists h.0 (c.in-Ok.ensures.told ∙ told) ready h.1))

pub returns-in-Err-kind_at-clause-found : goal.returns-in-Err-kind_at-clause-found
returns-in-Err-kind_at-clause-found g c m tree lists told ready =
    let h : HasNodeAt tree c.args.id = (c.in-Ok.ensures.found m tree lists told ready).0 c.if-not-there.false in
    c.in-Err-kind_at.ensures.kind c.args.bitmap.now m tree lists h.0 (c.in-Ok.ensures.told ∙ told) ready h.1
