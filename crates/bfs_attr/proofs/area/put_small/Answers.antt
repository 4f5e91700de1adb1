use Rattle.std.proofs.Common.{◌∙◌, ◌-◌, ℕ, List, length, refl, sym, ap, subst}
use Rattle.std.specs.Prelude.{IsSome}
use Rattle.std.specs.Option.{option_map}
use Rattle.std.proofs.lemmas.Bool.{true≢false}
use borrow.Rule.Slice.PartMut.{take_put}
use Rattle.bfs_smalldata.specs.Items.{items_of}
use Rattle.bfs_smalldata.specs.Edits.{with_item, IsFitting}
use Rattle.bfs_attr.proofs.Changes.{drop_written}
use Rattle.bfs_attr.proofs.Tops.{area_is}
use Rattle.bfs_attr.proofs.area.put_small.Goals as goal

pub fits-requires : goal.fits-requires
fits-requires c = subst (λ (l : List ℕ). IsSome (items_of l)) (sym (area_is c.args.block.now c.args.block.now refl)) c.requires.area

pub returns-then-not-fits-clause-fits : goal.returns-then-not-fits-clause-fits
returns-then-not-fits-clause-fits c = (
  λ bad. absurd (true≢false (sym bad)),
  λ fit. absurd (true≢false (sym (c.fits.ensures.1 (subst (λ (l : List ℕ). IsFitting l c.args.name.now (length c.args.bytes.now)) (sym (area_is c.args.block.now c.args.block.now refl)) fit)) ∙ c.if-not-fits.true)),
)

pub put-requires-clause-area : goal.put-requires-clause-area
put-requires-clause-area c = subst (λ (l : List ℕ). IsSome (items_of l)) (sym (area_is c.args.block.now c.args.block.now refl)) c.requires.area

pub returns-clause-fits : goal.returns-clause-fits
returns-clause-fits c = (
  λ t. subst (λ (l : List ℕ). IsFitting l c.args.name.now (length c.args.bytes.now)) (area_is c.args.block.now c.args.block.now refl) (c.fits.ensures.0 c.if-not-fits.false),
  λ fit. refl,
)

pub returns-clause-put : goal.returns-clause-put
returns-clause-put c t =
    ap items_of (drop_written c.args.block.now c.put.new.area c.requires.long) ∙ c.put.ensures.items
    ∙ ap (λ (l : List ℕ). option_map (with_item (record { kind = c.args.kind; name = c.args.name.now; bytes = c.args.bytes.now })) (items_of l)) (area_is c.args.block.now c.args.block.now refl)

pub returns-clause-before : goal.returns-clause-before
returns-clause-before c = take_put 232 (length c.args.block.now - 232) c.args.block.now c.put.new.area c.requires.long
