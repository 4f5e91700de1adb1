-- A tree was looked at from the root down to its leaves.
use Rattle.std.proofs.Common.{◌≡◌, ◌<◌, ℕ, List, [], ◌∷◌, sym, subst, ◌∙◌, arith, append-nil}
use Rattle.std.specs.List.{AllByRecursion, flat_map}
use Rattle.bfs_base.specs.Lists.{times, Has}
use Rattle.bfs_base.specs.declared.kind.KeyKind.{KeyKind}
use Rattle.bfs_pages.specs.Answers.{IsChild}
use Rattle.bfs_pages.specs.Trees.{state_of}
use Rattle.bfs_pages.proofs.Splice.{self}
use Rattle.bfs_finding.specs.Walks.{leaves_in}
use Rattle.bfs_tree_check.specs.Levels.{places, met_in, IsHalf, IsLooking, AreThere}
use Rattle.bfs_tree_check.specs.Ordered.{IsKnown}
use Rattle.bfs_tree_check.specs.Surveyed.{IsSurveyed}
use Rattle.bfs_tree_check.specs.declared.item.Item.{Item}
use Rattle.bfs_tree_check.specs.declared.item.Item.TheVariants as item
use Rattle.bfs_tree_check.proofs.Looking.{looking_ends}
use Rattle.bfs_tree_check.proofs.Marking.{place_low}

-- each thing on the lowest level is one of the tree
pub all_known : (kind : KeyKind) (b : List ℕ) (level : List Item) → AreThere kind b level → ((x : ℕ) → Has (places level) x → Has (leaves_in kind b) x) → AllByRecursion (IsKnown kind b) level
all_known kind b [] t f = tt
all_known kind b (item.Page at ∷ rest) t f =
    (f at (self at (places rest)), all_known kind b rest t.1 (λ x h. f x (let m : 0 < times x (places rest) = h in omega (arith, m))))
all_known kind b (item.Key page index ∷ rest) t f = (t.0, all_known kind b rest t.1 f)

pub surveyed : (kind : KeyKind) (b : List ℕ) (level : List Item) (leaves : List ℕ) (seen more : ℕ → ℕ) → leaves ≡ places level → IsHalf kind b 0 level [] seen → IsLooking kind b (places level) [] more → IsSurveyed kind b level leaves more
surveyed kind b level leaves seen more are h l =
    let all : leaves_in kind b ≡ places level = l.all ∙ append-nil (places level) in
    record {
      met = h.met ∙ append-nil (flat_map (met_in (state_of kind b).bodies 0) level);
      known = all_known kind b level h.there.0 (λ x i. subst (λ xs. Has xs x) (sym all) i);
      leaves_are = all ∙ sym are;
      good = looking_ends kind b level seen more h l;
      count = λ x. let e = l.count x in omega (arith, e);
    }

pub smalls : (size : ℕ) (xs : List ℕ) → size < 9223372036854775808 → AllByRecursion (IsChild size) xs → AllByRecursion (λ x. x < 9223372036854775808) xs
smalls size [] h a = tt
smalls size (x ∷ xs) h a = (let low = place_low size x a.0.1 in omega (arith, low, h), smalls size xs h a.1)
