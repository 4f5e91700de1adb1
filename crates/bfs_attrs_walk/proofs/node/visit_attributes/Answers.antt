use Rattle.std.proofs.Common.{◌≡◌, ◌≤◌, ◌∙◌, ◌++◌, ℕ, List, Option, length, sym, subst}
use Rattle.std.specs.List.{flat_map}
use Rattle.bfs_stream.specs.Told.{contents}
use Rattle.bfs_sound.specs.Volumes.{Volume}
use Rattle.bfs_sound.specs.Attributes.{attribute_directory, attribute_inodes, HasDirectory}
use Rattle.bfs_sound.specs.Inodes.{inode_blocks}
use Rattle.bfs_sound.specs.Whole.{volume_of}
use Rattle.bfs_claims.specs.Claims.{AreClaimed}
use Rattle.bfs_names_walk.specs.declared.row.NameRow.{NameRow}
use Rattle.bfs_nodes_walk.specs.Attributes.{AreRowsIn}
use Rattle.bfs_attrs_walk.specs.Passes.{IsTakenIn}
use Rattle.bfs_nodes_walk.proofs.Kept.{most_bytes}
use Rattle.bfs_attrs_walk.proofs.Visiting.{never_taken}
use Rattle.bfs_attrs_walk.proofs.node.visit_attributes.Goals as goal

pub returns-in-Err-visit_found-clause-wrong : goal.returns-in-Err-visit_found-clause-wrong
returns-in-Err-visit_found-clause-wrong g c m told reached =
    let same : contents m c.args.id ≡ c.deref.result.now = sym (c.deref.ensures.value ∙ c.in-Ok.ensures.read m told) in
    c.in-Err-visit_found.ensures.wrong m c.args.id (c.in-Ok.ensures.told ∙ told) reached (c.in-Ok-directory_of.ensures.directory (contents m) same)

pub returns-in-Err-visit_found-clause-taken : goal.returns-in-Err-visit_found-clause-taken
returns-in-Err-visit_found-clause-taken g c m xs told a =
    let v : Volume = volume_of c.args.sup.now (contents m) in
    let same : contents m c.args.id ≡ c.deref.result.now = sym (c.deref.ensures.value ∙ c.in-Ok.ensures.read m told) in
    subst (λ (o : Option ℕ). IsTakenIn v xs o c.in-Err-visit_found.fault) (sym (c.in-Ok-directory_of.ensures.directory (contents m) same)) (c.in-Err-visit_found.ensures.taken m xs (c.in-Ok.ensures.told ∙ told) a)

pub check_names-requires-clause-few : goal.check_names-requires-clause-few
check_names-requires-clause-few g c =
    subst (λ (l : List ℕ). length l ≤ 8192) (sym c.deref-2.ensures.value) (subst (λ (n : ℕ). n ≤ 8192) (sym c.in-Ok.ensures.length) (most_bytes c.args.sup.now c.requires.valid))

pub returns-in-Ok-check_names-clause-right : goal.returns-in-Ok-check_names-clause-right
returns-in-Ok-check_names-clause-right g c m told =
    let v : Volume = volume_of c.args.sup.now (contents m) in
    let same : contents m c.args.id ≡ c.deref.result.now = sym (c.deref.ensures.value ∙ c.in-Ok.ensures.read m told) in
    let again : contents m c.args.id ≡ c.deref-2.result.now = sym (c.deref-2.ensures.value ∙ c.in-Ok.ensures.read m told) in
    let directory : attribute_directory v c.args.id ≡ c.in-Ok-directory_of.found = c.in-Ok-directory_of.ensures.directory (contents m) same in
    let stands : HasDirectory v c.args.id c.in-Ok-directory_of.found = c.in-Ok-visit_found.ensures.stands m c.args.id (c.in-Ok.ensures.told ∙ told) (c.in-Ok-directory_of.ensures.address (contents m) same) in
    let rows : AreRowsIn v c.in-Ok-directory_of.found c.deref-3.result.now = subst (λ (l : List NameRow). AreRowsIn v c.in-Ok-directory_of.found l) (sym c.deref-3.ensures.value) (c.in-Ok-visit_found.ensures.rows m (c.in-Ok.ensures.told ∙ told)) in
    c.in-Ok-check_names.ensures.right v again (subst (HasDirectory v c.args.id) (sym directory) stands) (subst (λ (o : Option ℕ). AreRowsIn v o c.deref-3.result.now) (sym directory) rows)

pub returns-in-Ok-check_names-clause-claimed : goal.returns-in-Ok-check_names-clause-claimed
returns-in-Ok-check_names-clause-claimed g c m xs told a =
    let v : Volume = volume_of c.args.sup.now (contents m) in
    let same : contents m c.args.id ≡ c.deref.result.now = sym (c.deref.ensures.value ∙ c.in-Ok.ensures.read m told) in
    subst (λ (o : Option ℕ). AreClaimed c.visit_found.new.claims (xs ++ flat_map (inode_blocks v) (attribute_inodes v o))) (sym (c.in-Ok-directory_of.ensures.directory (contents m) same))
    (c.in-Ok-visit_found.ensures.claimed m xs (c.in-Ok.ensures.told ∙ told) a)

pub returns-clause-wrong : goal.returns-clause-wrong
returns-clause-wrong g c m told reached =
    let v : Volume = volume_of c.args.sup.now (contents m) in
    let same : contents m c.args.id ≡ c.deref.result.now = sym (c.deref.ensures.value ∙ c.in-Ok.ensures.read m told) in
    let again : contents m c.args.id ≡ c.deref-2.result.now = sym (c.deref-2.ensures.value ∙ c.in-Ok.ensures.read m told) in
    let directory : attribute_directory v c.args.id ≡ c.in-Ok-directory_of.found = c.in-Ok-directory_of.ensures.directory (contents m) same in
    let rows : AreRowsIn v c.in-Ok-directory_of.found c.deref-3.result.now = subst (λ (l : List NameRow). AreRowsIn v c.in-Ok-directory_of.found l) (sym c.deref-3.ensures.value) (c.in-Ok-visit_found.ensures.rows m (c.in-Ok.ensures.told ∙ told)) in
    c.name_fault.ensures.wrong v (c.in-Err-check_names.ensures.wrong v again reached (subst (λ (o : Option ℕ). AreRowsIn v o c.deref-3.result.now) (sym directory) rows))

pub returns-clause-taken : goal.returns-clause-taken
returns-clause-taken g c m xs told a =
    let v : Volume = volume_of c.args.sup.now (contents m) in
    never_taken v xs (attribute_directory v c.args.id) c.name_fault.result c.name_fault.ensures.untaken

pub returns-clause-cause : goal.returns-clause-cause
returns-clause-cause g c = c.name_fault.ensures.cause (g.B.Blocks.counts c.args.under.now) (g.B.Blocks.counts c.visit_found.new.under)
