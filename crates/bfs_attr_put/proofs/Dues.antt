-- The index that is to list a node under an attribute, by what was found of it.
use Rattle.std.proofs.Common.{◌≡◌, ◌∙◌, ℕ, List, false, Option, Some, None, sym, ap, subst}
use Rattle.bfs_base.specs.declared.kind.KeyKind.{KeyKind}
use Rattle.bfs_base.specs.declared.kind.KeyKind.TheVariants.{Text}
use Rattle.bfs_pages.specs.Maps.{assoc}
use Rattle.bfs_tree.specs.Listings.{key_of_attribute}
use Rattle.bfs_tree.specs.Refusals.{is_built_in}
use Rattle.bfs_tree.specs.Trees.{Attribute}
use Rattle.bfs_shift.specs.Lists.{Lists}
use Rattle.bfs_attr_calls.specs.Indices.{IsIndexFound}
use Rattle.bfs_attr_calls.specs.IndexAt.{IndexAt}
use Rattle.bfs_attr_put.specs.Listed.{IsDue}

module _ (lists : Lists) (name : List ℕ) (attribute : Attribute) (o : Option IndexAt) where
  pub none_due : o ≡ None → IsIndexFound lists name o → IsDue lists name attribute None
  none_due none found free value row =
      let gone : assoc Text lists.names name ≡ None = subst (IsIndexFound lists name) none found in
      absurd (let bad : None ≡ Some value = sym gone ∙ row in cc)

  module _ (at : IndexAt) (is : o ≡ Some at) (found : IsIndexFound lists name o) where
    here : IsIndexFound lists name (Some at)
    here = subst (IsIndexFound lists name) is found

    pub no_key_due : key_of_attribute at.kind attribute ≡ None → IsDue lists name attribute None
    no_key_due none free value row = ap (λ (k : KeyKind). key_of_attribute k attribute) (sym here.1) ∙ none

    pub some_due : (key : List ℕ) → key_of_attribute at.kind attribute ≡ Some key → is_built_in name ≡ false → IsDue lists name attribute (Some (record { inode = at.inode; kind = at.kind; key = key }))
    some_due key has free = (free, here.0, here.1, ap (λ (k : KeyKind). key_of_attribute k attribute) (sym here.1) ∙ has)
