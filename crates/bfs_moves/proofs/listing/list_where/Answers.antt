use Rattle.std.proofs.Common.{◌≡◌, ℕ, pos, Option, Some, None, sym, subst}
use Rattle.std.specs.Prelude.{IfSome}
use Rattle.bfs_base.specs.declared.kind.KeyKind.TheVariants.{Text}
use Rattle.bfs_super.specs.Geometry.{geometry_of}
use Rattle.bfs_pages.specs.Maps.{assoc}
use Rattle.bfs_stream.specs.Sizes.{sizes_of}
use Rattle.bfs_make.specs.NumberTrees.{IsNumberAt}
use Rattle.bfs_moves.specs.Written.{HasIndexAt, IsListFault}
use Rattle.bfs_moves.proofs.Ends.{goes_on_same}
use Rattle.bfs_moves.proofs.Keys.{work_free}
use Rattle.bfs_moves.proofs.listing.list_where.Goals as goal

pub list_pair-requires-clause-index : goal.list_pair-requires-clause-index
list_pair-requires-clause-index g c m told =
    subst (λ (o : Option ℕ). IfSome o (λ inode. HasIndexAt (geometry_of c.args.sup.now) c.args.bitmap.now m inode c.args.kind)) c.in-Some.is (c.requires.index m told)

pub returns-in-None-clause-listed : goal.returns-in-None-clause-listed
returns-in-None-clause-listed g c m tree lists loose name pairs told work at more =
    let none : assoc Text lists.names name ≡ None = subst (λ (o : Option ℕ). IsNumberAt Text lists.names name o) c.in-None.is at in
    let room = geometry_of c.args.sup.now in
    record {
      map = m;
      is = told;
      work = work_free room c.args.bitmap.now m tree lists loose name pairs none work;
      goes_on = goes_on_same room c.args.bitmap.now m tree (g.E.Blocks.changed c.args.edits.now);
    }

pub returns-in-Ok-clause-listed : goal.returns-in-Ok-clause-listed
returns-in-Ok-clause-listed g c m tree lists loose name pairs told work at more =
    let row : assoc Text lists.names name ≡ Some (pos c.in-Some.inode) = subst (λ (o : Option ℕ). IsNumberAt Text lists.names name o) c.in-Some.is at in
    let each = more (pos c.in-Some.inode) row in
    c.in-Ok.ensures.listed m tree lists loose name pairs told work row each.0 each.1 each.2

pub returns-in-Err-clause-refused : goal.returns-in-Err-clause-refused
returns-in-Err-clause-refused g c m tree lists loose name told work at kinds =
    let row : assoc Text lists.names name ≡ Some (pos c.in-Some.inode) = subst (λ (o : Option ℕ). IsNumberAt Text lists.names name o) c.in-Some.is at in
    subst (λ (o : Option ℕ). IsListFault (sizes_of c.args.sup.now) c.args.bitmap.now m o c.in-Err.fault) (sym c.in-Some.is) (c.in-Err.ensures.refused m tree lists loose name told work row (kinds (pos c.in-Some.inode) row))
