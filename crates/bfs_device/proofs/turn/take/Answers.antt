use Rattle.std.proofs.Common.{◌≡◌, ◌++◌, ◌∷◌, [], refl, rules}
use Rattle.bfs_device.proofs.Sealing.{sealed_ready}
use Rattle.bfs_device.proofs.turn.take.Goals as goal

pub returns-clause-ready : goal.returns-clause-ready
returns-clause-ready c =
    let j = c.args.journal.now in
    let items : c.push.new.self.items ≡ j.groups.items ++ c.args.group ∷ [] = search (rules, c.push.ensures.items, c.push.ensures.succeeds) in
    sealed_ready j _ c.args.group c.requires.ready c.requires.may c.requires.spare c.requires.next refl c.are_ordered-journal.ensures items c.phase_behind-journal.ensures refl c.push.ensures.capacity refl refl refl
