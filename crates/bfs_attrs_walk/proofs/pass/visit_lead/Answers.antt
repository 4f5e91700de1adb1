use Rattle.std.proofs.Common.{rules, ◌≡◌, ◌∙◌, ◌++◌, [], ℕ, List, ap, sym, subst, append-nil, w64, to_z, of_z}
use Rattle.bfs_super.specs.Conditions.{natural}
use Rattle.std.specs.List.{flat_map}
use Rattle.std.specs.Prelude.{Option, IfErr}
use Rattle.bfs_stream.specs.Told.{contents}
use Rattle.bfs_sound.specs.Volumes.{Volume}
use Rattle.bfs_sound.specs.Attributes.{attribute_directory, attribute_inodes}
use Rattle.bfs_sound.specs.Inodes.{inode_blocks}
use Rattle.bfs_sound.specs.Whole.{volume_of}
use Rattle.bfs_claims.specs.Claims.{AreClaimed}
use Rattle.bfs_attrs_walk.specs.Passes.{id_of, attribute_blocks, IsTakenIn}
use Rattle.bfs_attrs_walk.proofs.Passing.{named_id}
use Rattle.bfs_attrs_walk.proofs.pass.visit_lead.Goals as goal

pub visit_attributes-requires-clause-inside : goal.visit_attributes-requires-clause-inside
visit_attributes-requires-clause-inside g c =
    let signed : to_z w64 (of_z w64 c.args.lead.now.row.value) ≡ c.args.lead.now.row.value = search rules in
    named_id (natural c.args.sup.now.num_blocks) c.args.lead.now c.number_of-id.result (c.number_of-id.ensures ∙ ap natural signed) c.requires.lead

pub returns-then-facts-clause-right : goal.returns-then-facts-clause-right
returns-then-facts-clause-right g c m told = ((c.requires.facts m told).plain c.if-facts.true).0

pub returns-then-facts-clause-claimed : goal.returns-then-facts-clause-claimed
returns-then-facts-clause-claimed g c m xs told a =
    let v : Volume = volume_of c.args.sup.now (contents m) in
    let none : attribute_blocks v (id_of c.args.lead.now) ≡ [] = ap (λ (o : Option ℕ). flat_map (inode_blocks v) (attribute_inodes v o)) ((c.requires.facts m told).plain c.if-facts.true).1 in
    subst (AreClaimed c.args.claims.now) (sym (ap (λ (l : List ℕ). xs ++ l) none ∙ append-nil xs)) a

pub returns-clause-taken : goal.returns-clause-taken
returns-clause-taken g c m xs told a =
    let signed : to_z w64 (of_z w64 c.args.lead.now.row.value) ≡ c.args.lead.now.row.value = search rules in
    let same : c.number_of-id.result ≡ id_of c.args.lead.now = c.number_of-id.ensures ∙ ap natural signed in
    subst (λ (k : ℕ). IfErr c.visit_attributes.result (IsTakenIn (volume_of c.args.sup.now (contents m)) xs (attribute_directory (volume_of c.args.sup.now (contents m)) k))) same (c.visit_attributes.ensures.taken m xs told a)
