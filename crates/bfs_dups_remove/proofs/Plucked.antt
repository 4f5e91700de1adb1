-- Fragments without one of their numbers, and plain numbers that go.
use Rattle.std.proofs.Common.{◌≡◌, ◌≤◌, ◌+◌, ◌*◌, ◌%◌, ℕ, ℤ, List, [], ◌∷◌, ◌++◌, length, Some, None, refl, ap, sym, ◌∙◌, arith}
use Rattle.bfs_base.specs.Lists.{times}
use Rattle.bfs_base.specs.declared.kind.KeyKind.{KeyKind}
use Rattle.bfs_bytes.specs.Fields.{unsigned_at}
use Rattle.bfs_node.specs.Page.{Row}
use Rattle.bfs_pages.specs.Order.{Key}
use Rattle.bfs_pages.specs.Shapes.{Shape}
use Rattle.bfs_pages.specs.Trees.{page_in}
use Rattle.bfs_values.specs.declared.link.Link.TheVariants.{Number, Fragment}
use Rattle.bfs_values.specs.Links.{link_in}
use Rattle.bfs_values.specs.Values.{fragment_numbers, numbers_in, values_in}
use Rattle.bfs_values.specs.Stored.{Stored, IsRevalued}
use Rattle.bfs_dups.specs.Written.{IsVacated, IsFilled}
use Rattle.bfs_dups.proofs.Answered.{revalued, linked-open}
use Rattle.bfs_dups.proofs.Composed.{vacated}
use Rattle.bfs_dups.proofs.Slotted.{refilled}
use Rattle.bfs_dups_remove.specs.Lessened.{without_number, IsLessened}
use Rattle.bfs_dups_remove.proofs.Folded.{unchanged-row}
use Rattle.bfs_dups_remove.proofs.Lesser.{find-in, lessened-none, lessened-some, means-also}
use Rattle.bfs_dups_remove.proofs.Without.{without-none, without-amid}

pub only-one : (ns : List ℕ) (x : ℕ) → length ns ≡ 1 → 1 ≤ times x ns → ns ≡ x ∷ []
only-one [] x l h = absurd (omega (arith, l))
only-one (y ∷ (z ∷ zs)) x l h = absurd (omega (arith, l))
only-one (y ∷ []) x l h = by_place (find-in x (y ∷ []) h)
  where
    by_place : (us : List ℕ) × (vs : List ℕ) × (y ∷ [] ≡ us ++ (x ∷ vs)) → y ∷ [] ≡ x ∷ []
    by_place ([], [], e) = e
    by_place ([], v ∷ vs, e) = absurd (omega (arith, ap length e))
    by_place (u ∷ [], vs, e) = absurd (omega (arith, ap length e))
    by_place (u ∷ (w ∷ us), vs, e) = absurd (omega (arith, ap length e))

-- the number isn't there
pub untouched : (kind : KeyKind) (b : List ℕ) (t : Shape) (front : List Row) (key : Key) (back : List Row) (value : ℤ) (x : ℕ) → Stored kind b t (front ++ ((key, value) ∷ back)) → length b % 1024 ≡ 0 → times x (values_in b value) ≡ 0
    → IsLessened kind b b t front key back (without_number x (values_in b value)) (Some value)
untouched kind b t front key back value x s w n =
    lessened-some kind b b t front key back (without_number x (values_in b value)) value w (means-also kind b b t front key back value (values_in b value) (without_number x (values_in b value)) (sym (without-none x (values_in b value) n)) (unchanged-row kind b t front key back value s))

-- the only number of a fragment goes
pub plucked-none : (kind : KeyKind) (b m : List ℕ) (t : Shape) (front : List Row) (key : Key) (back : List Row) (value : ℤ) (p i x : ℕ) → Stored kind b t (front ++ ((key, value) ∷ back)) → link_in value ≡ Fragment p i → length b % 1024 ≡ 0 → IsVacated b m p i → fragment_numbers (page_in b p) i ≡ x ∷ []
    → IsLessened kind b m t front key back (without_number x (values_in b value)) None
plucked-none kind b m t front key back value p i x s link wb v only =
    lessened-none kind b m t front key back (without_number x (values_in b value)) (ap (without_number x) (ap (numbers_in b) link ∙ only) ∙ without-amid x [] [] refl refl)
    (λ n. (vacated kind b m t front (key, value) back p i n s link wb v).0) (vacated kind b m t front (key, value) back p i 0 s link wb v).1

-- one number is left of a fragment, and it is plain
pub plucked-plain : (kind : KeyKind) (b m : List ℕ) (t : Shape) (front : List Row) (key : Key) (back : List Row) (value new : ℤ) (p i x n : ℕ) → Stored kind b t (front ++ ((key, value) ∷ back)) → link_in value ≡ Fragment p i → link_in new ≡ Number n → length b % 1024 ≡ 0 → IsVacated b m p i
    → without_number x (fragment_numbers (page_in b p) i) ≡ n ∷ [] → IsRevalued kind b m t front key back new (without_number x (values_in b value))
plucked-plain kind b m t front key back value new p i x n s link now wb v only =
    let o = vacated kind b m t front (key, value) back p i n s link wb v in
    revalued kind b m t front key back new (Number n) (n ∷ []) (without_number x (values_in b value)) now o.0 o.1 refl (sym only ∙ ap (λ l. without_number x (numbers_in b l)) (sym link))

-- more are left
pub plucked-kept : (kind : KeyKind) (b c : List ℕ) (t : Shape) (front : List Row) (key : Key) (back : List Row) (value : ℤ) (p i x : ℕ) → Stored kind b t (front ++ ((key, value) ∷ back)) → link_in value ≡ Fragment p i → length b % 1024 ≡ 0 → IsFilled b c p i (without_number x (fragment_numbers (page_in b p) i))
    → IsRevalued kind b c t front key back value (without_number x (values_in b value))
plucked-kept kind b c t front key back value p i x s link wb f =
    let o = linked-open kind b t front key back value (Fragment p i) s link in
    let r = refilled kind b c t (front ++ back) p i (without_number x (fragment_numbers (page_in b p) i)) o wb f in
    revalued kind b c t front key back value (Fragment p i) (without_number x (fragment_numbers (page_in b p) i)) (without_number x (values_in b value)) link r.0 r.1 r.2 (ap (λ l. without_number x (numbers_in b l)) (sym link))

-- the numbers of a fragment without the one at a place
pub plucked-numbers : (copy page less there : List ℕ) (i k x : ℕ) → copy ≡ page → page ≡ there → unsigned_at 8 page (64 * i + 8 + 8 * k) ≡ x → fragment_numbers less i ≡ without_number (unsigned_at 8 copy (64 * i + 8 + 8 * k)) (fragment_numbers copy i)
    → fragment_numbers less i ≡ without_number x (fragment_numbers there i)
plucked-numbers copy page less there i k x same read place is =
    is ∙ ap (λ p. without_number (unsigned_at 8 p (64 * i + 8 + 8 * k)) (fragment_numbers p i)) same ∙ ap (λ z. without_number z (fragment_numbers page i)) place ∙ ap (λ p. without_number x (fragment_numbers p i)) read

-- a plain number goes
pub plain-gone : (kind : KeyKind) (b : List ℕ) (t : Shape) (front : List Row) (key : Key) (back : List Row) (value : ℤ) (n x : ℕ) → Stored kind b t (front ++ ((key, value) ∷ back)) → link_in value ≡ Number n → n ≡ x → IsLessened kind b b t front key back (without_number x (values_in b value)) None
plain-gone kind b t front key back value n x s link is =
    let o = linked-open kind b t front key back value (Number n) s link in
    lessened-none kind b b t front key back (without_number x (values_in b value)) (ap (without_number x) (ap (numbers_in b) link ∙ ap (λ z. z ∷ []) is) ∙ without-amid x [] [] refl refl)
    (λ m. record { fragments = o.fragments; free = o.free; tree = o.tree; mean = o.mean; mine = tt; named = o.named; there = o.there; each = o.each }) (unchanged-row kind b t front key back value s).others
