-- The part of a list before the first element that passes a test.
use Rattle.std.proofs.Common.{◌≡◌, ℕ, List, Bool, length, take, Some, None, arith}
use Rattle.std.specs.Prelude.{position}
use Rattle.std.specs.List.{before_first, position_or_len}
use Rattle.std.proofs.lemmas.Bool.{cases_lt, lt-ltb, le-ltb}
use Rattle.std.proofs.lemmas.List.{take_all}

pub cut_at : (p : ℕ → Bool) (xs : List ℕ) (end : ℕ) → position p xs ≡ Some end → take end xs ≡ before_first p xs
cut_at p xs end is = grind (arith, lt-ltb, le-ltb, cases_lt (position_or_len p xs) (length xs))

pub not_cut : (p : ℕ → Bool) (xs : List ℕ) → position p xs ≡ None → xs ≡ before_first p xs
not_cut p xs is = grind (arith, lt-ltb, le-ltb, cases_lt (position_or_len p xs) (length xs), take_all)
