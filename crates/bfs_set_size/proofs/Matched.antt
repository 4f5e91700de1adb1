-- What holds of a result, both ways.
use Rattle.std.specs.Prelude.{Result, Ok, Err, IfOk, IfErr, MatchResult}

pub both_ways : {T E : Type 0} (P : T → Type 0) (Q : E → Type 0) (r : Result T E) → IfOk r P → IfErr r Q → MatchResult r P Q
both_ways P Q (Ok x) fine bad = fine
both_ways P Q (Err e) fine bad = bad
