-- The last stamp of a legal history is its greatest, and the next one is above it.
use Rattle.std.proofs.Common.{◌≡◌, ℕ, ℤ, pos, List, [], ◌∷◌, ◌++◌, sym, subst, append_assoc, append-nil, arith}
use Rattle.std.specs.Prelude.{◌≤ℤ◌, ◌<ℤ◌, ◌+ℤ◌, ◌*◌}
use Rattle.std.specs.List.{All}
use Rattle.std.specs.Int.{int_max}
use Rattle.std.proofs.lemmas.Grind.{fold-append}
use Rattle.std.proofs.lemmas.Int.{ints, int_max_is}
use Rattle.std.proofs.lemmas.List.Elements.{All-nil, All-cons, All-append}
use Rattle.bfs_tree.specs.declared.reply.Entry.{Entry}
use Rattle.bfs_tree.specs.Histories.{Mounted, LegalFrom, Legal, drawn, last_stamp}

abbrev UpTo : ℤ → List Entry → Type 0
UpTo stamp es = All (λ (e : Entry). e.stamp ≤ℤ stamp) es

weaker : (es : List Entry) (stamp : ℤ) → All (λ (e : Entry). e.stamp <ℤ stamp) es → UpTo stamp es
weaker es stamp h k d short = let less = h k d short in omega (arith, ints, less)

from-last : (t0 : Mounted) (before es : List Entry) → UpTo (last_stamp before) before → LegalFrom t0 before es → UpTo (last_stamp (before ++ es)) (before ++ es)
from-last t0 before [] upto legal = subst (λ h. UpTo (last_stamp h) h) (sym (append-nil before)) upto
from-last t0 before (e ∷ es) upto legal =
    let last : last_stamp (before ++ e ∷ []) ≡ e.stamp = fold-append (λ (s : ℤ) (e : Entry). e.stamp) (pos 0) before (e ∷ []) in
    let one : UpTo (last_stamp (before ++ e ∷ [])) (before ++ e ∷ []) =
    subst (λ s. UpTo s (before ++ e ∷ [])) (sym last) (All-append (λ (x : Entry). x.stamp ≤ℤ e.stamp) before (e ∷ []) (weaker before e.stamp legal.0.later) (All-cons (λ (x : Entry). x.stamp ≤ℤ e.stamp) e [] (itself e.stamp) (All-nil (λ (x : Entry). x.stamp ≤ℤ e.stamp)))) in
    subst (λ h. UpTo (last_stamp h) h) (append_assoc before (e ∷ []) es) (from-last t0 (before ++ e ∷ []) es one legal.1)
  where
    itself : (z : ℤ) → z ≤ℤ z
    itself z = omega (arith, ints)

above : (stamp last other : ℤ) → stamp ≤ℤ last → stamp <ℤ int_max (last +ℤ pos 1) other
above stamp last other h = let greater = int_max_is (last +ℤ pos 1) other in omega (arith, ints, h, greater)

pub drawn-later : (t0 : Mounted) (history : List Entry) (now : ℕ) → Legal t0 history → All (λ e. e.stamp <ℤ drawn (last_stamp history) now) history
drawn-later t0 history now legal k d short = above _ (last_stamp history) (pos (now * 65536)) (from-last t0 [] history (All-nil (λ (e : Entry). e.stamp ≤ℤ pos 0)) legal k d short)
