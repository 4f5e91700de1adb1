use Rattle.std.proofs.Common.{rules, ◌≡◌, ◌≤◌, ◌+◌, ◌∙◌, ◌++◌, ℕ, List, length, subst, sym, ap, arith, true}
use Rattle.std.proofs.lemmas.List.{with_items_is}
use Rattle.bfs_base.specs.Lists.{counted_from}
use Rattle.bfs_bitmap.specs.Bits.{is_clear, Fills}
use Rattle.bfs_claims.specs.Claims.{Claimed, is_claimed, IsKept, AreClaimed}
use Rattle.bfs_claims.proofs.Claiming.{below_few, claimed_has, run_has, kept_now, members_now}
use Rattle.bfs_claims.proofs.claims.Claims.claim.Goals as goal

pub overflow_add-count : goal.overflow_add-count
overflow_add-count c =
    let a = c.self.invariant.counted in
    let b = below_few c.self.inside.bits.items c.self.inside.blocks in
    let d = c.self.invariant.few in
    let e : c.args.len ≤ c.self.inside.blocks = subst (λ (v : Claimed). c.args.len ≤ v.blocks) (sym c.self.view_is) (omega arith) in
    omega (arith, a, b, d, e)

pub returns-then-at-to-clause-twice : goal.returns-then-at-to-clause-twice
returns-then-at-to-clause-twice c xs are =
    let here : is_claimed c.args.self.now c.first_set-at.result ≡ true = search rules in
    let low = c.first_set-at.ensures.from_on in
    (claimed_has c.args.self.now xs c.first_set-at.result are here, run_has c.args.first c.args.len c.first_set-at.result low c.if-at-to.true)

pub invariant_of-self : goal.invariant_of-self
invariant_of-self c =
    let held : Claimed = record { bits = c.self.inside.bits.items; blocks = c.self.inside.blocks; count = c.self.inside.count } in
    let now : List ℕ = c.set_bits.new.bytes in
    let first : ℕ = c.args.first in
    let len : ℕ = c.args.len in
    let long : length now ≡ c.self.inside.bits.len = (let a = c.set_bits.auto.bytes in let b = c.deref_mut.ensures.len in omega (arith, a, b)) in
    subst (λ (l : List ℕ). IsKept (record { bits = l; blocks = c.self.inside.blocks; count = c.self.inside.count + len })) (sym (with_items_is c.self.inside.bits now long))
    (kept_now held first len now
    (subst (λ (l : List ℕ). Fills first (first + len) 1 l now) c.deref_mut.ensures.value c.set_bits.ensures)
    (λ k low high. subst (λ (l : List ℕ). is_clear l k ≡ true) c.deref.ensures.value (c.first_set-at.ensures.before k low (omega arith)))
    c.self.invariant
    (subst (λ (v : Claimed). first + len ≤ v.blocks) (sym c.self.view_is) c.requires.inside)
    (c.set_bits.auto.bytes ∙ ap (λ (l : List ℕ). length l) c.deref_mut.ensures.value))

pub returns-clause-claimed : goal.returns-clause-claimed
returns-clause-claimed c xs are =
    let held : Claimed = record { bits = c.self.inside.bits.items; blocks = c.self.inside.blocks; count = c.self.inside.count } in
    let now : List ℕ = c.set_bits.new.bytes in
    let first : ℕ = c.args.first in
    let len : ℕ = c.args.len in
    let long : length now ≡ c.self.inside.bits.len = (let a = c.set_bits.auto.bytes in let b = c.deref_mut.ensures.len in omega (arith, a, b)) in
    subst (λ (l : List ℕ). AreClaimed (record { bits = l; blocks = c.self.inside.blocks; count = c.self.inside.count + len }) (xs ++ counted_from first len)) (sym (with_items_is c.self.inside.bits now long))
    (members_now held first len now
    (subst (λ (l : List ℕ). Fills first (first + len) 1 l now) c.deref_mut.ensures.value c.set_bits.ensures)
    (λ k low high. subst (λ (l : List ℕ). is_clear l k ≡ true) c.deref.ensures.value (c.first_set-at.ensures.before k low (omega arith)))
    xs (subst (λ (v : Claimed). AreClaimed v xs) (sym c.self.view_is) are))
