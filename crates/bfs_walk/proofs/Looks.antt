-- What is found on one page of a tree.
use Rattle.std.proofs.Common.{Option, Some, None, IfSome, ◌≡◌, ◌≢◌, ◌<◌, ℕ, zero, suc, negsuc, List, [], ◌∷◌, length, Bool, true, false, inl, inr, refl, sym, ap, ◌∙◌, subst, arith}
use Rattle.bfs_base.specs.Lists.{Has}
use Rattle.bfs_base.specs.declared.kind.KeyKind.{KeyKind}
use Rattle.bfs_node.specs.Page.{Row, rows_of, row_in, value_of, overflow_of}
use Rattle.bfs_txn.specs.Pages.{IsPageAt, HasLength}
use Rattle.bfs_pages.proofs.Reading.{page-there}
use Rattle.bfs_pages.specs.Answers.{IsChild}
use Rattle.bfs_pages.specs.Trees.{page_in, place_of, is_page}
use Rattle.bfs_finding.specs.Owners.{In}
use Rattle.bfs_finding.specs.Walks.{inners_in}
use Rattle.bfs_finding.specs.TreeFaults.{IsInTree, IsLinkFault, no_page, to_child, to_last, wanted_link}
use Rattle.bfs_walk.specs.Wrong.{pages_at}

pub in_tree : (kind : KeyKind) (b : List ℕ) (leaf : Bool) (at : ℕ) → Has (pages_at kind b leaf) at → IsInTree kind b at
in_tree kind b true at h = inr h
in_tree kind b false at h = inl h

pub row_there : (rows : List Row) (i : ℕ) → i < length rows → In (row_in rows i) rows
row_there [] i h = absurd (omega (arith, h))
row_there (r ∷ rs) zero h = inl refl
row_there (r ∷ rs) (suc i) h = inr (row_there rs i (omega (arith, h)))

module _ (kind : KeyKind) (b : List ℕ) (at size : ℕ) (page : List ℕ) (is : page ≡ page_in b at) (long : size ≡ length b) (there : Has (inners_in kind b) at) (good : is_page kind page ≡ true) where
  pub child_wrong : (i : ℕ) → overflow_of page ≢ negsuc 0 → i < length (rows_of page) → ¬ IsChild size (place_of (value_of (row_in (rows_of page) i)))
      → IsLinkFault kind b at (value_of (row_in (rows_of page) i)) (wanted_link (value_of (row_in (rows_of page) i)))
  child_wrong i interior inside other =
      let r : Row = row_in (rows_of page) i in
      no_page (place_of (value_of r))
      (to_child r.0 there (subst (λ (p : List ℕ). is_page kind p ≡ true) is good) (subst (λ (p : List ℕ). overflow_of p ≢ negsuc 0) is interior)
      (subst (λ (p : List ℕ). In r (rows_of p)) is (row_there (rows_of page) i inside)) refl)
      (subst (λ (n : ℕ). ¬ IsChild n (place_of (value_of r))) long other) refl

  pub last_wrong : overflow_of page ≢ negsuc 0 → ¬ IsChild size (place_of (overflow_of page)) → IsLinkFault kind b at (overflow_of page) (wanted_link (overflow_of page))
  last_wrong interior other =
      no_page (place_of (overflow_of page))
      (to_last there (subst (λ (p : List ℕ). is_page kind p ≡ true) is good) (ap overflow_of is) interior refl)
      (subst (λ (n : ℕ). ¬ IsChild n (place_of (overflow_of page))) long other) refl

-- the page that was read is the one told
pub page_read : (told : Option (List ℕ)) (size at : ℕ) (page : List ℕ) → HasLength told size → IsPageAt told at page → IsChild size at → IfSome told (λ b. page ≡ page_in b at)
page_read None size at page long read child = tt
page_read (Some b) size at page long read child = read ∙ sym (page-there b at size long child)
