use Rattle.std.proofs.Common.{◌≡◌, ◌∙◌, ℕ, [], Option, None, refl, sym, subst}
use Rattle.bfs_sound.specs.Volumes.{Volume}
use Rattle.bfs_sound.specs.Attributes.{attribute_directory, HasDirectory}
use Rattle.bfs_sound.specs.Whole.{volume_of}
use Rattle.bfs_nodes_walk.specs.Attributes.{AreRowsIn}
use Rattle.bfs_nodes_walk.proofs.Kept.{none_of}
use Rattle.bfs_nodes_walk.proofs.facts.is_plain.Goals as goal

pub returns : goal.returns
returns c = record {
  plain = λ blocks same is.
      let v : Volume = volume_of c.args.sup blocks in
      let none : attribute_directory v c.args.id ≡ None = c.in-Ok.ensures.directory blocks same ∙ none_of c.in-Ok.found (sym c.if-is_some.false ∙ c.is_some.ensures) in
      (c.in-Ok-check_names.ensures.right v same (subst (HasDirectory v c.args.id) (sym none) tt) (subst (λ (o : Option ℕ). AreRowsIn v o []) (sym none) refl), none);
}
