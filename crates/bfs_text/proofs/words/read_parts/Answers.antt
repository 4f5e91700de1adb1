use Rattle.std.proofs.Common.{rules, ◌≡◌, ◌++◌, ◌∷◌, [], Some}
use Rattle.bfs_text.specs.Words.{name_of}
use Rattle.bfs_text.proofs.Parts.{part_more}
use Rattle.bfs_text.proofs.words.read_parts.Goals as goal

pub loop-part-preserved : goal.loop-part-preserved
loop-part-preserved c =
    let named : name_of c.in-Some.part.now ≡ Some c.in-Some-2.name = search rules in
    let items : c.push.new.self.items ≡ c.loop-part.names.items ++ c.in-Some-2.name ∷ [] = search rules in
    part_more _ c.loop-part.names.items c.push.new.self.items c.loop-part.parts c.next.new.self c.in-Some.part.now c.in-Some-2.name c.loop-part.invariant (search rules) named items
