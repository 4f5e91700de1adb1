use Rattle.std.proofs.Common.{◌∙◌, ◌-◌, ℕ, List, length, refl, sym, ap, subst}
use Rattle.std.specs.Prelude.{IsSome}
use Rattle.std.specs.Option.{option_map}
use Rattle.std.proofs.lemmas.Bool.{true≢false}
use borrow.Rule.Slice.PartMut.{take_put}
use Rattle.bfs_smalldata.specs.Items.{items_of}
use Rattle.bfs_smalldata.specs.Edits.{without}
use Rattle.bfs_attr.specs.SmallData.{HasSmall}
use Rattle.bfs_attr.proofs.Changes.{drop_written}
use Rattle.bfs_attr.proofs.Tops.{area_is}
use Rattle.bfs_attr.proofs.area.take_small.Goals as goal

pub has_attribute-requires : goal.has_attribute-requires
has_attribute-requires c = subst (λ (l : List ℕ). IsSome (items_of l)) (sym (area_is c.args.block.now c.args.block.now refl)) c.requires.area

pub returns-then-not-has_attribute-clause-there : goal.returns-then-not-has_attribute-clause-there
returns-then-not-has_attribute-clause-there c = (
  λ bad. absurd (true≢false (sym bad)),
  λ has. absurd (true≢false (sym (c.has_attribute.ensures.1 (subst (λ (l : List ℕ). HasSmall l c.args.name.now) (sym (area_is c.args.block.now c.args.block.now refl)) has)) ∙ c.if-not-has_attribute.true)),
)

pub take-requires : goal.take-requires
take-requires c = subst (λ (l : List ℕ). IsSome (items_of l)) (sym (area_is c.args.block.now c.args.block.now refl)) c.requires.area

pub returns-clause-there : goal.returns-clause-there
returns-clause-there c = (
  λ t. subst (λ (l : List ℕ). HasSmall l c.args.name.now) (area_is c.args.block.now c.args.block.now refl) (c.has_attribute.ensures.0 c.if-not-has_attribute.false),
  λ has. refl,
)

pub returns-clause-taken : goal.returns-clause-taken
returns-clause-taken c t =
    ap items_of (drop_written c.args.block.now c.take.new.area c.requires.long) ∙ c.take.ensures.items
    ∙ ap (λ (l : List ℕ). option_map (without c.args.name.now) (items_of l)) (area_is c.args.block.now c.args.block.now refl)

pub returns-clause-before : goal.returns-clause-before
returns-clause-before c = take_put 232 (length c.args.block.now - 232) c.args.block.now c.take.new.area c.requires.long
