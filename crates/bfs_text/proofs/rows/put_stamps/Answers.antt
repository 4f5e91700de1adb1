use Rattle.std.proofs.Common.{◌≡◌, ◌++◌, ◌∙◌, List, ℕ, ap, append_assoc, ℤ, to_z, of_z, w64, rules}
use Rattle.bfs_text.specs.Printed.{and_number, and_stamp}
use Rattle.bfs_text.proofs.rows.put_stamps.Goals as goal

joined : (old a b c first second third : List ℕ) → first ≡ old ++ a → second ≡ first ++ b → third ≡ second ++ c → third ≡ old ++ (a ++ (b ++ c))
joined old a b c first second third p q r =
    r ∙ ap (λ (l : List ℕ). l ++ c) (q ∙ ap (λ (l : List ℕ). l ++ b) p) ∙ append_assoc (old ++ a) b c ∙ append_assoc old a (b ++ c)

pub returns : goal.returns
returns c =
    let i = c.args.info.now in
    let created : to_z w64 (of_z w64 i.created) ≡ i.created = search rules in
    let modified : to_z w64 (of_z w64 i.modified) ≡ i.modified = search rules in
    let changed : to_z w64 (of_z w64 i.changed) ≡ i.changed = search rules in
    joined c.args.out.now.items (and_number i.size) (and_stamp i.created) (and_stamp i.modified ++ and_stamp i.changed) _ _ _
    c.in_ok-put_and_number.ensures
    (c.in_ok-put_and_signed.ensures ∙ ap (λ (z : ℤ). c.put_and_number.new.out.items ++ and_stamp z) created)
    (c.in_ok-put_two.ensures ∙ ap (λ (z : ℤ). c.put_and_signed.new.out.items ++ (and_stamp z ++ and_stamp (to_z w64 (of_z w64 i.changed)))) modified
    ∙ ap (λ (z : ℤ). c.put_and_signed.new.out.items ++ (and_stamp i.modified ++ and_stamp z)) changed)
