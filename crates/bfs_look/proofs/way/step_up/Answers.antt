use Rattle.std.proofs.Common.{◌≡◌, ◌∙◌, ◌++◌, ◌∷◌, ℕ, List, [], Some, sym, ap, subst, arith}
use Rattle.bfs_stream.specs.Told.{contents}
use Rattle.bfs_look.proofs.Known.{node_told, node_low, node_has}
use Rattle.bfs_look.proofs.way.step_up.Goals as goal

pub returns-then-at-blocks_in-clause-parent : goal.returns-then-at-blocks_in-clause-parent
returns-then-at-blocks_in-clause-parent g c v m tree lists n told ready is apart =
    let low = node_low c.args.site.sup v m tree lists ready c.args.at n is in
    let high = c.if-at-blocks_in.true in
    let e = c.blocks_in.ensures in
    absurd (omega (arith, low, high, e))

pub returns-in-Nothing-clause-parent : goal.returns-in-Nothing-clause-parent
returns-in-Nothing-clause-parent g c v m tree lists n told ready is apart =
    let s = c.args.site.sup in
    let block = c.deref.ensures.value ∙ c.in-Ok.ensures.read m told (node_told s v m tree lists ready c.args.at n is) in
    let said = c.in-Nothing.ensures (contents m) n (sym block) (node_has s v m tree lists ready c.args.at n is) (λ e. apart (e ∙ sym ready.root)) in
    absurd said

pub returns-then-at-blocks_in-clause-name : goal.returns-then-at-blocks_in-clause-name
returns-then-at-blocks_in-clause-name g c v m tree lists n told ready is apart =
    let low = node_low c.args.site.sup v m tree lists ready c.args.at n is in
    let high = c.if-at-blocks_in.true in
    let e = c.blocks_in.ensures in
    absurd (omega (arith, low, high, e))

pub returns-in-Nothing-clause-name : goal.returns-in-Nothing-clause-name
returns-in-Nothing-clause-name g c v m tree lists n told ready is apart =
    let s = c.args.site.sup in
    let block = c.deref.ensures.value ∙ c.in-Ok.ensures.read m told (node_told s v m tree lists ready c.args.at n is) in
    let said = c.in-Nothing.ensures (contents m) n (sym block) (node_has s v m tree lists ready c.args.at n is) (λ e. apart (e ∙ sym ready.root)) in
    absurd said

pub returns-in-Ok-push-clause-parent : goal.returns-in-Ok-push-clause-parent
returns-in-Ok-push-clause-parent g c v m tree lists n told ready is apart =
    let s = c.args.site.sup in
    let block = c.deref.ensures.value ∙ c.in-Ok.ensures.read m told (node_told s v m tree lists ready c.args.at n is) in
    let said = c.in-Says.ensures (contents m) n (sym block) (node_has s v m tree lists ready c.args.at n is) (λ e. apart (e ∙ sym ready.root)) in
    ap (λ (k : ℕ). Some k) said.parent

pub returns-in-Ok-push-clause-name : goal.returns-in-Ok-push-clause-name
returns-in-Ok-push-clause-name g c v m tree lists n told ready is apart =
    let s = c.args.site.sup in
    let block = c.deref.ensures.value ∙ c.in-Ok.ensures.read m told (node_told s v m tree lists ready c.args.at n is) in
    let said = c.in-Says.ensures (contents m) n (sym block) (node_has s v m tree lists ready c.args.at n is) (λ e. apart (e ∙ sym ready.root)) in
    let pushed : c.push.new.self.items ≡ c.args.names.now.items ++ c.in-Says.claim.name ∷ [] = c.in-Ok-push.ensures.items in
    subst (λ (x : List ℕ). c.push.new.self.items ≡ c.args.names.now.items ++ x ∷ []) said.name pushed
