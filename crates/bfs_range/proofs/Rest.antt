-- Calls that read, one after the other, and rows that are left.
use Rattle.std.proofs.Common.{◌≡◌, ◌≤◌, ◌<◌, ◌+◌, ◌-◌, ℕ, zero, suc, List, [], ◌∷◌, ◌++◌, length, take, drop, Option, Some, None, IfSome, ap, sym, ◌∙◌, subst, arith, append_assoc}
use Rattle.bfs_base.specs.declared.kind.KeyKind.{KeyKind}
use Rattle.bfs_node.specs.Page.{Row, row_in}
use Rattle.bfs_node.specs.declared.fault.PageKind.{PageKind}
use Rattle.bfs_node.specs.declared.fault.PageKind.TheVariants.{Header, Interior, Leaf, Fragment, Duplicates}
use Rattle.bfs_node.specs.declared.fault.TreeFault.{TreeFault}
use Rattle.bfs_node.specs.declared.fault.TreeFault.TheVariants.{Exists, Absent, Damaged, Pages, NoMemory}
use Rattle.bfs_pages.specs.Answers.{IsOfKind, IsUnread}
use Rattle.bfs_range.specs.declared.ranged.RangedRow.{RangedRow}
use Rattle.bfs_range.specs.Answers.{answer_row, answer_of}
use Rattle.bfs_values.specs.Kinds.{IsWanted, IsCut}
use Rattle.bfs_values.specs.Values.{HasValues, pages_for}
use Rattle.bfs_values.specs.Reached.{AllMean}
use Rattle.bfs_range.specs.Meant.{pages_of}

wanted-kind : (kind : KeyKind) (bytes : List ℕ) (at : ℕ) (sort : PageKind) → IsWanted kind bytes at sort → IsOfKind kind bytes at sort
wanted-kind kind bytes at Header w = w
wanted-kind kind bytes at Interior w = w
wanted-kind kind bytes at Leaf w = w.0
wanted-kind kind bytes at Fragment w = tt
wanted-kind kind bytes at Duplicates w = tt

unwanted : (kind : KeyKind) (told : Option (List ℕ)) (at : ℕ) (sort : PageKind) → IfSome told (λ bytes. IsOfKind kind bytes at sort → ⊥) → IfSome told (λ bytes. IsWanted kind bytes at sort → ⊥)
unwanted kind None at sort u = tt
unwanted kind (Some bytes) at sort u = λ w. u (wanted-kind kind bytes at sort w)

-- a page that isn't of its kind isn't as a range wants it
pub unread-cut : {F : Type 0} (kind : KeyKind) (told : Option (List ℕ)) (cause before : F → Type 0) (fault : TreeFault F) → ((f : F) → cause f → before f) → IsUnread kind told cause fault → IsCut kind told before fault
unread-cut kind told cause before Exists m u = u
unread-cut kind told cause before Absent m u = u
unread-cut kind told cause before (Damaged page sort) m u = unwanted kind told page sort u
unread-cut kind told cause before (Pages fault) m u = m fault u
unread-cut kind told cause before NoMemory m u = absurd u

-- the rows between two places are the first and the others
pub rest-first : (rows : List Row) (i j : ℕ) → i < j → j ≤ length rows → take (j - i) (drop i rows) ≡ row_in rows i ∷ take (j - (i + 1)) (drop (i + 1) rows)
rest-first [] i j l m = absurd (omega (arith, l, m))
rest-first (r ∷ rs) zero (suc j) l m =
    let e : j ≡ suc j - 1 = omega arith in
    let n : suc j ≡ suc j - 0 = omega arith in
    sym (ap (λ n. take n (r ∷ rs)) n) ∙ ap (λ n. r ∷ take n rs) e
rest-first (r ∷ rs) zero zero l m = absurd (omega (arith, l))
rest-first (r ∷ rs) (suc i) zero l m = absurd (omega (arith, l))
rest-first (r ∷ rs) (suc i) (suc j) l m =
    let a : suc j - suc i ≡ j - i = omega arith in
    let b : j - (i + 1) ≡ suc j - (suc i + 1) = omega arith in
    let c : suc (i + 1) ≡ suc i + 1 = omega arith in
    ap (λ n. take n (drop i rs)) a ∙ rest-first rs i j (omega (arith, l)) (omega (arith, m)) ∙ ap (λ n. row_in rs i ∷ take n (drop (i + 1) rs)) b
    ∙ ap (λ n. row_in rs i ∷ take (suc j - (suc i + 1)) (drop n (r ∷ rs))) c

pub rest-none : {A : Type 0} (xs : List A) (i j : ℕ) → j ≤ i → take (j - i) (drop i xs) ≡ []
rest-none xs i j l = let e : j - i ≡ 0 = omega (arith, l) in ap (λ n. take n (drop i xs)) e

-- of the first row and the others, those that are left behind it
pub mean-first : (b : List ℕ) (rows : List Row) (r : Row) (rest : List Row) → rows ≡ r ∷ rest → AllMean b rows → HasValues b r.1 × AllMean b rest
mean-first b rows r rest e a = subst (λ z. AllMean b z) e a

pub answer-first : (b : List ℕ) (old now whole : List RangedRow) (rows : List Row) (r : Row) (rest : List Row) → rows ≡ r ∷ rest → old ++ answer_of b rows ≡ whole → now ≡ old ++ (answer_row b r ∷ []) → now ++ answer_of b rest ≡ whole
answer-first b old now whole rows r rest e h n =
    ap (λ z. z ++ answer_of b rest) n ∙ append_assoc old (answer_row b r ∷ []) (answer_of b rest) ∙ sym (ap (λ z. old ++ answer_of b z) e) ∙ h

pub pages-first : (b : List ℕ) (rows : List Row) (r : Row) (rest : List Row) → rows ≡ r ∷ rest → pages_of b rows ≡ pages_for b r.1 + pages_of b rest
pages-first b rows r rest e = ap (λ z. pages_of b z) e
