use Rattle.std.proofs.Common.{◌<◌, ◌∙◌, sym, ap, subst, Option}
use Rattle.std.specs.Prelude.{IfSome}
use Rattle.bfs_super.specs.Conditions.{natural}
use Rattle.bfs_tree.specs.declared.call.Kind.{Kind}
use Rattle.bfs_super.specs.Geometry.{geometry_of}
use Rattle.bfs_tree.specs.Trees.{is_dir}
use Rattle.bfs_shift.specs.Work.{HasDirectoryAt}
use Rattle.bfs_look.specs.Ready.{IsKindOf, IsReady}
use Rattle.bfs_look.proofs.Known.{dir_is, has_directory}
use Rattle.bfs_look.proofs.Looked.{list_nothing, list_no_dir}
use Rattle.bfs_look.proofs.listing.list.Goals as goal

pub returns-in-None-clause-reads : goal.returns-in-None-clause-reads
returns-in-None-clause-reads g c m tree lists st told ready same = list_nothing st tree same c.args.dir (subst (IsKindOf tree c.args.dir) c.in-None.is (c.in-Ok.ensures.found m tree lists told ready))

pub returns-then-not-is_dir-clause-reads : goal.returns-then-not-is_dir-clause-reads
returns-then-not-is_dir-clause-reads g c m tree lists st told ready same =
    let n = subst (IsKindOf tree c.args.dir) c.in-Some.is (c.in-Ok.ensures.found m tree lists told ready) in
    list_no_dir st tree same c.args.dir n.0 n.1 (ap is_dir n.2 ∙ sym c.is_dir.ensures ∙ c.if-not-is_dir.true)

pub names_at-requires-clause-directory : goal.names_at-requires-clause-directory
names_at-requires-clause-directory g c m told =
    let h = c.requires.ready m (sym c.in-Ok.ensures.told ∙ told) in
    let n = subst (IsKindOf h.tree c.args.dir) c.in-Some.is (c.in-Ok.ensures.found m h.tree h.lists (sym c.in-Ok.ensures.told ∙ told) h.ready) in
    subst (λ v. HasDirectoryAt (geometry_of c.args.sup.now) v m c.args.dir) (sym c.in-Ok.ensures.bitmap)
    (has_directory c.args.sup.now c.args.bitmap.now m h.tree h.lists h.ready c.args.dir n.0 n.1 (dir_is n.0.kind (ap is_dir n.2 ∙ sym c.is_dir.ensures ∙ c.if-not-is_dir.false)))

pub returns-in-Ok-names_at-clause-reads : goal.returns-in-Ok-names_at-clause-reads
returns-in-Ok-names_at-clause-reads g c m tree lists st told ready same =
    let n = subst (IsKindOf tree c.args.dir) c.in-Some.is (c.in-Ok.ensures.found m tree lists told ready) in
    let r = subst (λ v. IsReady (geometry_of c.args.sup.now) v m tree lists) (sym c.in-Ok.ensures.bitmap) ready in
    c.in-Ok-names_at.ensures.reads m tree lists st n.0 (c.in-Ok.ensures.told ∙ told) r same n.1 (ap is_dir n.2 ∙ sym c.is_dir.ensures ∙ c.if-not-is_dir.false)

pub returns-in-Err-names_at-clause-reads : goal.returns-in-Err-names_at-clause-reads
returns-in-Err-names_at-clause-reads g c m tree lists st told ready same =
    let n = subst (IsKindOf tree c.args.dir) c.in-Some.is (c.in-Ok.ensures.found m tree lists told ready) in
    let r = subst (λ v. IsReady (geometry_of c.args.sup.now) v m tree lists) (sym c.in-Ok.ensures.bitmap) ready in
    c.in-Err-names_at.ensures.reads m tree lists st n.0 (c.in-Ok.ensures.told ∙ told) r same n.1 (ap is_dir n.2 ∙ sym c.is_dir.ensures ∙ c.if-not-is_dir.false)

pub names_at-requires-clause-inside : goal.names_at-requires-clause-inside
names_at-requires-clause-inside g c = subst (λ (o : Option Kind). IfSome o (λ kind. c.args.dir < natural c.args.sup.now.num_blocks)) c.in-Some.is c.in-Ok.ensures.inside

pub returns-in-Err-clause-reads : goal.returns-in-Err-clause-reads
returns-in-Err-clause-reads g c m tree lists st told ready same = c.in-Err.ensures.found m tree lists told ready
