use Rattle.std.proofs.Common.{◌∙◌, sym, subst}
use Rattle.bfs_base.specs.declared.kind.KeyKind.TheVariants.{Text}
use Rattle.bfs_make.specs.NumberTrees.{IsNumberAt}
use Rattle.bfs_look.proofs.Looked.{bad_reads, none_reads, row_in, found_reads}
use Rattle.bfs_look.proofs.Known.{dir_is}
use Rattle.bfs_look.proofs.looking.child_of.Goals as goal

pub returns-then-is_bad_name-clause-reads : goal.returns-then-is_bad_name-clause-reads
returns-then-is_bad_name-clause-reads g c m tree lists st d told ready same is isdir =
    bad_reads c.args.site.sup c.args.bitmap.now m tree lists ready st same c.args.dir d is isdir c.args.name.now (sym c.is_bad_name.ensures ∙ c.if-is_bad_name.true)

pub returns-in-None-clause-reads : goal.returns-in-None-clause-reads
returns-in-None-clause-reads g c m tree lists st d told ready same is isdir =
    none_reads c.args.site.sup c.args.bitmap.now m tree lists ready st same c.args.dir d is isdir c.args.name.now (subst (IsNumberAt Text (lists.rows c.args.dir) c.args.name.now) c.in-None.is (c.in-Ok.ensures.found m tree lists d told ready is (dir_is d.kind isdir)))

pub returns-in-Ok-kind_at-clause-reads : goal.returns-in-Ok-kind_at-clause-reads
returns-in-Ok-kind_at-clause-reads g c m tree lists st d told ready same is isdir =
    let s = c.args.site.sup in
    let v = c.args.bitmap.now in
    let there = row_in s v m tree lists ready st same c.args.dir d is isdir c.args.name.now c.in-Some.id (sym c.is_bad_name.ensures ∙ c.if-is_bad_name.false) (subst (IsNumberAt Text (lists.rows c.args.dir) c.args.name.now) c.in-Some.is (c.in-Ok.ensures.found m tree lists d told ready is (dir_is d.kind isdir))) in
    found_reads s v m tree lists ready st same c.args.dir d is isdir c.args.name.now c.in-Some.id c.in-Ok-kind_at.kind there
    (c.in-Ok-kind_at.ensures.kind v m tree lists there.node (c.in-Ok.ensures.told ∙ told) ready there.there)

pub returns-in-Err-kind_at-clause-reads : goal.returns-in-Err-kind_at-clause-reads
returns-in-Err-kind_at-clause-reads g c m tree lists st d told ready same is isdir =
    let s = c.args.site.sup in
    let v = c.args.bitmap.now in
    let there = row_in s v m tree lists ready st same c.args.dir d is isdir c.args.name.now c.in-Some.id (sym c.is_bad_name.ensures ∙ c.if-is_bad_name.false) (subst (IsNumberAt Text (lists.rows c.args.dir) c.args.name.now) c.in-Some.is (c.in-Ok.ensures.found m tree lists d told ready is (dir_is d.kind isdir))) in
    c.in-Err-kind_at.ensures.kind v m tree lists there.node (c.in-Ok.ensures.told ∙ told) ready there.there

pub returns-in-Err-clause-reads : goal.returns-in-Err-clause-reads
returns-in-Err-clause-reads g c m tree lists st d told ready same is isdir = c.in-Err.ensures.found m tree lists d told ready is (dir_is d.kind isdir)
