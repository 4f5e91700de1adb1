use Rattle.std.proofs.Common.{◌≡◌, ◌∙◌, sym, ap, subst, ℕ, pos, Ok, Err, Some}
use Rattle.bfs_base.specs.declared.kind.KeyKind.TheVariants.{Text}
use Rattle.bfs_pages.specs.Maps.{assoc}
use Rattle.bfs_values.specs.Reached.{IsWholeTree}
use Rattle.bfs_maps.specs.NumberTrees.{IsNumberAt}
use Rattle.bfs_query.proofs.Indexed.{improper_none, index_tree, index_inside}
use Rattle.bfs_query.proofs.Resting.{index_read, index_stream, named}
use Rattle.bfs_query.proofs.kind.index_named.Goals as goal

pub returns-then-not-proper-clause-found : goal.returns-then-not-proper-clause-found
returns-then-not-proper-clause-found g c v m w tree lists told ready says =
    improper_none c.args.sup.now v w tree lists c.requires.valid ready c.args.name.now (sym c.is_proper_name-proper.ensures ∙ c.if-not-proper.true)

pub returns-in-Err-clause-found : goal.returns-in-Err-clause-found
returns-in-Err-clause-found g c v m w tree lists told ready says =
    named c.args.sup.now v m w tree lists c.requires.valid ready c.args.name.now says (sym c.is_proper_name-proper.ensures ∙ c.if-not-proper.false)
    (Err c.in-Err.fault) (c.in-Err.ensures.names m told) c.in-Err.ensures.none

pub returns-in_default-clause-found : goal.returns-in_default-clause-found
returns-in_default-clause-found g c v m w tree lists told ready says =
    subst (IsNumberAt Text lists.names c.args.name.now) c.in_default.is
    (named c.args.sup.now v m w tree lists c.requires.valid ready c.args.name.now says (sym c.is_proper_name-proper.ensures ∙ c.if-not-proper.false)
    (Ok c.in-Ok.found) (c.in-Ok.ensures.names m told) c.in-Ok.ensures.none)

pub returns-in-Ok-index_of-clause-found : goal.returns-in-Ok-index_of-clause-found
returns-in-Ok-index_of-clause-found g c v m w tree lists told ready says =
    let s = c.args.sup.now in
    let name = c.args.name.now in
    let row : assoc Text lists.names name ≡ Some (pos c.in-Some.inode) =
    subst (IsNumberAt Text lists.names name) c.in-Some.is
    (named s v m w tree lists c.requires.valid ready name says (sym c.is_proper_name-proper.ensures ∙ c.if-not-proper.false) (Ok c.in-Ok.found) (c.in-Ok.ensures.names m told) c.in-Ok.ensures.none) in (
      row ∙ ap (λ (i : ℕ). Some (pos i)) (sym c.in-Ok-index_of.ensures.inode),
      c.in-Ok-index_of.ensures.kind m (lists.kinds name) (c.in-Ok.ensures.told ∙ told) (index_inside s v w tree lists c.requires.valid ready name c.in-Some.inode row)
          (index_read s v m w tree lists c.requires.valid ready name says c.in-Some.inode row)
          (subst (IsWholeTree (lists.kinds name)) (sym (index_stream s v m w tree lists c.requires.valid ready name says c.in-Some.inode row)) (index_tree s v w tree lists c.requires.valid ready name c.in-Some.inode row)),
    )

pub returns-in-Err-index_of-clause-found : goal.returns-in-Err-index_of-clause-found
returns-in-Err-index_of-clause-found g c v m w tree lists told ready says =
    let s = c.args.sup.now in
    let name = c.args.name.now in
    let row : assoc Text lists.names name ≡ Some (pos c.in-Some.inode) =
    subst (IsNumberAt Text lists.names name) c.in-Some.is
    (named s v m w tree lists c.requires.valid ready name says (sym c.is_proper_name-proper.ensures ∙ c.if-not-proper.false) (Ok c.in-Ok.found) (c.in-Ok.ensures.names m told) c.in-Ok.ensures.none) in
    c.in-Err-index_of.ensures.kind m (lists.kinds name) (c.in-Ok.ensures.told ∙ told) (index_inside s v w tree lists c.requires.valid ready name c.in-Some.inode row)
    (index_read s v m w tree lists c.requires.valid ready name says c.in-Some.inode row)
    (subst (IsWholeTree (lists.kinds name)) (sym (index_stream s v m w tree lists c.requires.valid ready name says c.in-Some.inode row)) (index_tree s v w tree lists c.requires.valid ready name c.in-Some.inode row))
