-- Lists of those that move out, as they are told in two parts.
use Rattle.std.proofs.Common.{◌≡◌, ◌<◌, ◌∙◌, suc, ℕ, List, [], ◌∷◌, ◌++◌, length, sym, ap, arith, append_assoc}
use Rattle.std.proofs.lemmas.List.{append-nil}
use Rattle.bfs_smalldata.specs.Items.{Item}

module _ (all moved now : List Item) (order : all ≡ moved ++ now) where
  pub order_next : (x : Item) (more : List Item) → now ≡ x ∷ more → all ≡ moved ++ (x ∷ more)
  order_next x more first = order ∙ ap (λ (l : List Item). moved ++ l) first

  pub order_more : (x : Item) (more later : List Item) → now ≡ x ∷ more → later ≡ more → all ≡ (moved ++ (x ∷ [])) ++ later
  order_more x more later first rest = order_next x more first ∙ sym (append_assoc moved (x ∷ []) more) ∙ ap (λ (l : List Item). (moved ++ (x ∷ [])) ++ l) (sym rest)

  pub all_moved : now ≡ [] → moved ≡ all
  all_moved none = sym (order ∙ ap (λ (l : List Item). moved ++ l) none ∙ append-nil moved)

pub few_less : (now later more : List Item) (x : Item) (left less : ℕ) → length now < left → now ≡ x ∷ more → later ≡ more → suc less ≡ left → length later < less
few_less now later more x left less few first rest is =
    let a = ap length first in let b = ap length rest in omega (arith, few, a, b, is)
