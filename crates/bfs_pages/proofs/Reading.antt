-- What was read is what is told.
use Rattle.std.proofs.Common.{◌≡◌, ◌≤◌, ℕ, List, [], length, Option, Some, None, IfSome, IsTrue, Bool, true, false, cond, ◌&&◌, nat_le, ap, sym, ◌∙◌, subst, arith}
use Rattle.bfs_txn.specs.Pages.{page_at, IsPageAt, HasLength}
use Rattle.bfs_pages.specs.Answers.{IsChild}
use Rattle.bfs_pages.specs.Trees.{is_place, page_in}

pub not_true : (b : Bool) → IsTrue b → b ≡ false → ⊥
not_true true t e = no e
  where
    no : true ≡ false → ⊥
    no e = cc
not_true false t e = no t
  where
    no : false ≡ true → ⊥
    no e = cc

pub page-there : (bytes : List ℕ) (at size : ℕ) → length bytes ≡ size → IsChild size at → page_in bytes at ≡ page_at bytes at
page-there bytes at size l p = ap (λ c. cond (c && is_place (length bytes) at) (page_at bytes at) []) (le_true at p.0) ∙ ap (λ c. cond c (page_at bytes at) []) (ap (λ n. is_place n at) l ∙ p.1)
  where
    le_true : (n : ℕ) → 1 ≤ n → nat_le 1 n ≡ true
    le_true n h = grind (arith, h)

-- the page that was read isn't so
pub unread : (P : ℕ → List ℕ → Type 0) (told : Option (List ℕ)) (size at : ℕ) (page : List ℕ) → HasLength told size → IsPageAt told at page → IsChild size at → (P size page → ⊥)
    → IfSome told (λ bytes. P (length bytes) (page_in bytes at) → ⊥)
unread P None size at page l r p n = tt
unread P (Some bytes) size at page l r p n = λ h. n (subst (λ z. P size z) (page-there bytes at size l p ∙ sym r) (subst (λ z. P z (page_in bytes at)) l h))
