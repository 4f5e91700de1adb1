-- The lists, where an index that lists a node under an attribute lists it no more.
use Rattle.std.proofs.Common.{◌≡◌, inl, inr, ℕ, ℤ, List, true, false, Some, None, refl, sym, ◌∙◌}
use Rattle.bfs_base.specs.declared.kind.KeyKind.TheVariants.{Text}
use Rattle.bfs_pages.specs.Maps.{assoc}
use Rattle.bfs_tree.specs.Listings.{key_in, without_id}
use Rattle.bfs_tree.specs.Refusals.{is_built_in}
use Rattle.bfs_tree.specs.Trees.{Node, Tree}
use Rattle.bfs_shift.specs.Lists.{Lists, with_pairs}
use Rattle.bfs_shift.proofs.Parts.{lists_at}
use Rattle.bfs_attr_calls.specs.Removed.{UnlistsUnder}

module _ (tree : Tree) (lists : Lists) (id : ℕ) (n : Node) (name : List ℕ) where
  -- nothing was taken out, where there was nothing to take out
  none_out : ((value : ℤ) → assoc Text lists.names name ≡ Some value → is_built_in name ≡ false → key_in tree.root name (lists.kinds name) id n ≡ None) → UnlistsUnder tree lists lists id n name
  none_out none = record {
    rows = λ d. refl;
    names = refl;
    kinds = λ index. refl;
    others = λ index apart. refl;
    built_in = λ e. refl;
    own = λ value row e. inr (none value row e, refl);
  }

  pub built_out : is_built_in name ≡ true → UnlistsUnder tree lists lists id n name
  built_out built = none_out (λ value row e. absurd (let bad : true ≡ false = sym built ∙ e in cc))

  pub rowless_out : assoc Text lists.names name ≡ None → UnlistsUnder tree lists lists id n name
  rowless_out no_row = none_out (λ value row e. absurd (let bad : None ≡ Some value = sym no_row ∙ row in cc))

  pub keyless_out : key_in tree.root name (lists.kinds name) id n ≡ None → UnlistsUnder tree lists lists id n name
  keyless_out no_key = none_out (λ value row e. no_key)

  abbrev left : List (List ℕ × ℕ)
  left = without_id id (lists.pairs name)

  pub taken_out : is_built_in name ≡ false → UnlistsUnder tree lists (with_pairs lists name left) id n name
  taken_out not_built = record {
    rows = λ d. refl;
    names = refl;
    kinds = λ index. refl;
    others = λ index apart. (lists_at lists).pairs_elsewhere name index left apart;
    built_in = λ e. absurd (let bad : true ≡ false = sym e ∙ not_built in cc);
    own = λ value row e. inl ((lists_at lists).pairs_here name left);
  }
