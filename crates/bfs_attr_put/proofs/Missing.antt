-- A node that has no attribute of a name, and the index that doesn't list it so.
use Rattle.std.proofs.Common.{◌≡◌, inr, ℕ, List, [], ◌∷◌, Bool, false, Option, Some, None, refl, ap, ◌∙◌}
use Rattle.std.specs.Prelude.{is_none, IsSome}
use Rattle.std.specs.Option.{option_and_then}
use Rattle.std.specs.FinMap.{get, empty}
use Rattle.bfs_super.specs.declared.geometry.Geometry.{Geometry}
use Rattle.bfs_base.specs.declared.kind.KeyKind.{KeyKind}
use Rattle.bfs_bitmap.specs.Runs.{Room}
use Rattle.bfs_tree.specs.declared.call.Call.TheVariants.{AttrRemove}
use Rattle.bfs_tree.specs.declared.reply.Reply.{Reply}
use Rattle.bfs_tree.specs.declared.reply.Reply.TheVariants as replies
use Rattle.bfs_tree.specs.Listings.{key_in, key_of_attribute}
use Rattle.bfs_tree.specs.Refusals.{own_refusal, first, at_node, is_built_in}
use Rattle.bfs_tree.specs.States.{State}
use Rattle.bfs_tree.specs.Trees.{Attribute, Node, Tree, IsNode}
use Rattle.bfs_shift.specs.Lists.{Lists}
use Rattle.bfs_shift.specs.Work.{GoesOn}
use Rattle.bfs_look.specs.Ready.{IsReady}
use Rattle.bfs_attr_calls.specs.Removed.{HasAttributeAt, HasUnlistedUnder}
use Rattle.bfs_attr_calls.proofs.Keys.{attribute_key}

-- a state with this tree
abbrev pub state_of : Tree → State
state_of tree = record { tree = tree; holds = []; known = empty }

module _ (tree : Tree) (id : ℕ) (n : Node) (name : List ℕ) (is : IsNode tree id n) where
  abbrev by_there : Option Attribute → Option Reply
  by_there o = first ((is_none o, replies.NoAttr) ∷ [])

  refusal_is : own_refusal (AttrRemove id name) (state_of tree) ≡ by_there (get n.attributes name)
  refusal_is = ap (λ (o : Option Node). first (at_node o (λ node. (is_none (get node.attributes name), replies.NoAttr) ∷ []))) is

  -- a removal that isn't refused has its attribute, and one that is has none
  pub unrefused : None ≡ own_refusal (AttrRemove id name) (state_of tree) → HasAttributeAt tree id name
  unrefused none = record { node = n; there = is; bears = by_attribute (get n.attributes name) (none ∙ refusal_is) }
    where
      by_attribute : (o : Option Attribute) → None ≡ by_there o → IsSome o
      by_attribute None e = absurd (let bad : None ≡ Some replies.NoAttr = e in cc)
      by_attribute (Some a) e = refl

  pub refused : (reply : Reply) → Some reply ≡ own_refusal (AttrRemove id name) (state_of tree) → get n.attributes name ≡ None
  refused reply some = by_attribute (get n.attributes name) (some ∙ refusal_is)
    where
      by_attribute : (o : Option Attribute) → Some reply ≡ by_there o → o ≡ None
      by_attribute None e = refl
      by_attribute (Some a) e = absurd (let bad : Some reply ≡ None = e in cc)

  module _ (missing : get n.attributes name ≡ None) where
    no_key : (kind : KeyKind) → is_built_in name ≡ false → key_in tree.root name kind id n ≡ None
    no_key kind free = attribute_key tree.root name kind id n free ∙ ap (option_and_then (key_of_attribute kind)) missing

    pub none_unlisted : (g : Geometry) (v : Room) (m : ℕ → Option (List ℕ)) (lists : Lists) (told : Option (ℕ → Option (List ℕ))) (old new : ℕ → Bool) → IsReady g v m tree lists → told ≡ Some m → GoesOn g v v m m tree tree old new → HasUnlistedUnder g v v m tree lists id n name told old new
    none_unlisted g v m lists told old new ready is_told goes = record {
      last = lists;
      step = record { map = m; is = is_told; work = ready.work; goes_on = goes };
      unlists = record {
        rows = λ d. refl;
        names = refl;
        kinds = λ index. refl;
        others = λ index apart. refl;
        built_in = λ built. refl;
        own = λ value row free. inr (no_key (lists.kinds name) free, refl);
      };
    }
