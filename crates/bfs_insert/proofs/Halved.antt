-- A leaf is split in the bytes of a stream.
use Rattle.std.proofs.Common.{◌≡◌, ◌≢◌, ◌≤◌, ℕ, zero, suc, List, true, false, cond, ◌==◌, refl, ap, ◌∙◌, arith}
use Rattle.bfs_pages.specs.Trees.{page_in}
use Rattle.bfs_insert.specs.Puts.{HalvesSet}

eq_no : (a b : ℕ) → a ≢ b → (a == b) ≡ false
eq_no a b e = grind (arith, e)

eq_same : (a : ℕ) → (a == a) ≡ true
eq_same a = grind arith

-- the pages of a stream where four are written
module _ {b c : List ℕ} {at child right next : ℕ} {above below half beside : List ℕ} (s : HalvesSet b c at child right next above below half beside) where
  pub set-above : 1 ≤ at → page_in c at ≡ above
  set-above h = s.pages at h ∙ ap (λ t. cond t above (cond (at == next) beside (cond (at == right) half (cond (at == child) below (page_in b at))))) (eq_same at)

  pub set-next : 1 ≤ next → next ≢ at → page_in c next ≡ beside
  set-next h n =
      s.pages next h ∙ ap (λ t. cond t above (cond (next == next) beside (cond (next == right) half (cond (next == child) below (page_in b next))))) (eq_no next at n)
      ∙ ap (λ t. cond t beside (cond (next == right) half (cond (next == child) below (page_in b next)))) (eq_same next)

  pub set-right : 1 ≤ right → right ≢ at → right ≢ next → page_in c right ≡ half
  set-right h n m =
      s.pages right h ∙ ap (λ t. cond t above (cond (right == next) beside (cond (right == right) half (cond (right == child) below (page_in b right))))) (eq_no right at n)
      ∙ ap (λ t. cond t beside (cond (right == right) half (cond (right == child) below (page_in b right)))) (eq_no right next m)
      ∙ ap (λ t. cond t half (cond (right == child) below (page_in b right))) (eq_same right)

  pub set-below : 1 ≤ child → child ≢ at → child ≢ next → child ≢ right → page_in c child ≡ below
  set-below h n m o =
      s.pages child h ∙ ap (λ t. cond t above (cond (child == next) beside (cond (child == right) half (cond (child == child) below (page_in b child))))) (eq_no child at n)
      ∙ ap (λ t. cond t beside (cond (child == right) half (cond (child == child) below (page_in b child)))) (eq_no child next m)
      ∙ ap (λ t. cond t half (cond (child == child) below (page_in b child))) (eq_no child right o)
      ∙ ap (λ t. cond t below (page_in b child)) (eq_same child)

  pub set-others : (x : ℕ) → x ≢ at → x ≢ next → x ≢ right → x ≢ child → page_in c x ≡ page_in b x
  set-others zero n m o p = refl
  set-others (suc x) n m o p =
      s.pages (suc x) (omega arith) ∙ ap (λ t. cond t above (cond (suc x == next) beside (cond (suc x == right) half (cond (suc x == child) below (page_in b (suc x)))))) (eq_no (suc x) at n)
      ∙ ap (λ t. cond t beside (cond (suc x == right) half (cond (suc x == child) below (page_in b (suc x))))) (eq_no (suc x) next m)
      ∙ ap (λ t. cond t half (cond (suc x == child) below (page_in b (suc x)))) (eq_no (suc x) right o)
      ∙ ap (λ t. cond t below (page_in b (suc x))) (eq_no (suc x) child p)
