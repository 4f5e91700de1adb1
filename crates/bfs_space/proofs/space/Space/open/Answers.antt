use Rattle.std.proofs.Common.{◌≡◌, ◌∙◌, pos, ℕ, [], List, length, refl, sym, ap, subst, rules, arith}
use Rattle.std.proofs.lemmas.Int.{ints}
use Rattle.bfs_bitmap.specs.Runs.{Room}
use Rattle.std.specs.List.{list_any}
use Rattle.bfs_tree.specs.Histories.{is_stop}
use Rattle.bfs_tree.specs.declared.reply.Entry.{Entry}
use Rattle.bfs_replies.specs.Books.{HasParts, IsLastStamp}
use Rattle.bfs_space.specs.Holds.{held_by}
use Rattle.bfs_space.proofs.Groups.{parts_opened}
use Rattle.bfs_space.proofs.space.Space.open.Goals as goal

pub invariant_of-result : goal.invariant_of-result
invariant_of-result c =
    let none = c.in_ok-history.ensures.items in
    let unheld = c.in_ok-holds.ensures.items in
    let long : length c.in_ok-history.history.items ≡ 0 = ap length none in
    let one : length c.push.new.self.items ≡ 1 = search rules in
    let capacity = c.in_ok-history.ensures.capacity in
    let empty = ap length unheld in
    let places = c.in_ok-holds.ensures.capacity in
    let first = subst (λ (v : Room). HasParts c.args.sup v [] 0 0) (sym c.of-bitmap.ensures) (parts_opened c.args.sup c.requires.valid c.requires.emptied) in
    let second = subst (λ (l : List (ℕ × List ℕ)). HasParts c.args.sup c.of-bitmap.result l 0 0) (sym c.new.ensures) first in (
      subst (λ (n : ℕ). HasParts c.args.sup c.of-bitmap.result c.new.result 0 n) (sym long) second,
      subst (λ (h : List Entry). IsLastStamp h (pos 0)) (sym none) (record { last_is = refl; low = omega (arith, ints); high = omega (arith, ints) }),
      omega (arith, long, one, capacity),
      omega (arith, long, one),
      ap (list_any (λ (e : Entry). is_stop e.reply)) none,
      unheld ∙ sym (ap held_by none),
      omega (arith, empty, one, places),
    )
