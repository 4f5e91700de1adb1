use Rattle.std.proofs.Common.{◌≡◌, ◌<◌, ◌≤◌, ◌∙◌, ℕ, ◌+◌, ◌-◌, ◌*◌, length, drop, get_or, arith, rules, refl, ap, subst}
use Rattle.std.specs.List.{All}
use Rattle.std.proofs.lemmas.List.{take_all}
use Rattle.std.proofs.lemmas.List.Elements.{All-more}
use Rattle.bfs_words.specs.Numbers.{spelled}
use Rattle.bfs_words.proofs.Digits.{too_large, spelled_on, all_read}
use Rattle.bfs_words.proofs.number.read_number.Goals as goal

pub returns-in_default : goal.returns-in_default
returns-in_default c = λ n number few.
    let lt : c.digits.at < length c.args.word.now = search rules in
    let not_less : ¬ (c.digits.value * 10 < 18446744073709551616) = c.in_default.ensures in
    let most : c.args.most < 18446744073709551616 = search rules in
    too_large c.digits.value c.digits.at c.args.most c.args.word.now (get_or c.args.word.now c.digits.at 0 - 48) 0 n lt refl c.digits.invariant.value (omega (arith, not_less, most)) number few

pub returns-in_default-checked_add : goal.returns-in_default-checked_add
returns-in_default-checked_add c = λ n number few.
    let lt : c.digits.at < length c.args.word.now = search rules in
    let is : c.from.result ≡ get_or c.args.word.now c.digits.at 0 - 48 = search rules in
    let tens : c.in-Some.tens ≡ c.digits.value * 10 = search rules in
    let not_less : ¬ (c.in-Some.tens + c.from.result < 18446744073709551616) = c.in_default-checked_add.ensures in
    let most : c.args.most < 18446744073709551616 = search rules in
    too_large c.digits.value c.digits.at c.args.most c.args.word.now c.from.result 0 n lt is c.digits.invariant.value (omega (arith, not_less, tens, most)) number few

pub returns-then-more-most : goal.returns-then-more-most
returns-then-more-most c = λ n number few.
    let lt : c.digits.at < length c.args.word.now = search rules in
    let is : c.from.result ≡ get_or c.args.word.now c.digits.at 0 - 48 = search rules in
    let tens : c.in-Some.tens ≡ c.digits.value * 10 = search rules in
    let more : c.in-Some-checked_add.more ≡ c.in-Some.tens + c.from.result = search rules in
    too_large c.digits.value c.digits.at c.args.most c.args.word.now c.from.result 0 n lt is c.digits.invariant.value (omega (arith, tens, more, c.if-more-most.true)) number few

pub digits-preserved : goal.digits-preserved
digits-preserved c =
    let lt : c.digits.at < length c.args.word.now = search rules in
    let is : c.from.result ≡ get_or c.args.word.now c.digits.at 0 - 48 = search rules in
    let tens : c.in-Some.tens ≡ c.digits.value * 10 = search rules in
    let more : c.in-Some-checked_add.more ≡ c.in-Some.tens + c.from.result = search rules in
    let sum : c.in-Some-checked_add.more ≡ 10 * c.digits.value + c.from.result = omega (arith, tens, more) in
    let low : 48 ≤ get_or c.args.word.now c.digits.at 0 = search rules in
    let high : get_or c.args.word.now c.digits.at 0 ≤ 57 = search rules in
    record {
      value = ap (λ (k : ℕ). spelled k (drop (c.digits.at + 1) c.args.word.now)) sum ∙ spelled_on c.digits.value c.digits.at c.args.word.now c.from.result 0 lt is c.digits.invariant.value;
      digits = All-more (λ d. (48 ≤ d) × (d ≤ 57)) c.args.word.now c.digits.at 0 lt c.digits.invariant.digits (low, high);
      low = omega (arith, c.if-more-most.false);
    }

pub returns : goal.returns
returns c =
    let word = c.args.word.now in
    let end : ¬ (c.digits.at < length word) = search rules in (
      record {
        some = search rules;
        short = search rules;
        digits = subst (All (λ d. (48 ≤ d) × (d ≤ 57))) (take_all c.digits.at word (omega (arith, end))) c.digits.invariant.digits;
        value = all_read c.digits.value c.digits.at word end c.digits.invariant.value;
      },
      c.digits.invariant.low,
    )
