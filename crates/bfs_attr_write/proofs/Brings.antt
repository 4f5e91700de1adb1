-- What brings exchanges of blocks about: a stream that is new, one that moved, and an inode that was given back.
use Rattle.std.proofs.Common.{◌≡◌, ◌<◌, ◌+◌, ◌∙◌, ℕ, zero, suc, List, [], ◌++◌, Bool, true, false, cond, not, ◌&&◌, Option, refl, sym, ap, arith}
use Rattle.std.specs.Prelude.{◌==◌}
use Rattle.bfs_base.specs.Lists.{times}
use Rattle.bfs_bitmap.specs.declared.given.Given.{Given}
use Rattle.bfs_bitmap.specs.Runs.{Room, per_block, is_free, marked}
use Rattle.bfs_stream.specs.Sizes.{Origin}
use Rattle.bfs_stream.specs.Places.{arrays_at, places_at, whole_at}
use Rattle.bfs_stream.specs.Told.{contents}
use Rattle.bfs_stream.proofs.Doubles.{times-append}
use Rattle.bfs_stream.proofs.Taking.{some_test}
use Rattle.bfs_stream_pages.specs.Moves.{Moved}
use Rattle.bfs_stream_pages.specs.MovesLaws.{whole_moves}
use Rattle.bfs_make.specs.Made.{IsNewStream}
use Rattle.bfs_make.specs.Given.{HasGivenBack}
use Rattle.bfs_attr_write.specs.Exchanged.{Exchanged}

-- where nothing was given back
pub rest_given : (v now : Room) → now ≡ record v { tally = now.tally } → now ≡ record v { given = now.given; tally = now.tally }
rest_given v now rest = rest ∙ ap (λ (g : List Given). let r : Room = record v { given = g; tally = now.tally } in r) (sym (ap (λ (x : Room). x.given) rest))

new_marks : (b : Bool) (x y : ℕ) → y ≡ cond b x 1 → y ≡ cond (true && not b) 1 (cond (b && not true) 0 x)
new_marks true x y e = e
new_marks false x y e = e

pub new_exchange : (o : Origin) (v now : Room) (m map : ℕ → Option (List ℕ)) → IsNewStream o v now m map → Exchanged v now m map [] (whole_at o.sizes (contents map) o.id)
new_exchange o v now m map s = record {
  rest = rest_given v now s.rest;
  fits = s.owns.fits;
  were_free = λ k has none. s.were_free k has;
  free = s.free;
  marks = λ k low. new_marks (times k (whole_at o.sizes (contents map) o.id) == 0) (marked (per_block v) m k) (marked (per_block v) map k) (s.marks k low);
  counted = λ used. s.counted;
  others = s.others;
  first = λ none. s.first;
}

moved_marks : (a b : Bool) (x y : ℕ) → (a ≡ false → b ≡ false) → y ≡ cond (a && not b) 1 x → y ≡ cond (a && not b) 1 (cond (b && not a) 0 x)
moved_marks true true x y keeps e = e
moved_marks true false x y keeps e = e
moved_marks false true x y keeps e = let bad : true ≡ false = keeps refl in cc
moved_marks false false x y keeps e = e

keeps_test : (a b : ℕ) → (0 < a → 0 < b) → (a == 0) ≡ false → (b == 0) ≡ false
keeps_test zero b more e = let bad : true ≡ false = e in cc
keeps_test (suc a) b more e = some_test b (more (omega arith))

pub moved_exchange : (o : Origin) (v now : Room) (m map : ℕ → Option (List ℕ)) → Moved o v now m map → Exchanged v now m map (whole_at o.sizes (contents m) o.id) (whole_at o.sizes (contents map) o.id)
moved_exchange o v now m map s =
    let before : List ℕ = whole_at o.sizes (contents m) o.id in
    let after : List ℕ = whole_at o.sizes (contents map) o.id in record {
      rest = rest_given v now s.rest;
      fits = s.owns.fits;
      were_free = s.were_free;
      free = s.free;
      marks = λ k low. moved_marks (times k before == 0) (times k after == 0) (marked (per_block v) m k) (marked (per_block v) map k) (keeps_test (times k before) (times k after) (whole_moves o v now m map s k)) (s.marks k low);
      counted = λ used. s.counted;
      others = λ k out none. let parts = times-append k before after in s.others k out (omega (arith, parts, none));
      first = λ none. let parts = times-append 0 before after in s.first (omega (arith, parts, none));
    }

gone_marks : (b : Bool) (x y : ℕ) → y ≡ cond b x 0 → y ≡ cond (b && not true) 1 (cond (true && not b) 0 x)
gone_marks true x y e = e
gone_marks false x y e = e

and_true : (b : Bool) → b ≡ (b && true)
and_true true = refl
and_true false = refl

pub gone_exchange : (o : Origin) (v now : Room) (m : ℕ → Option (List ℕ)) (told : Option (ℕ → Option (List ℕ))) (old new : ℕ → Bool) → (g : HasGivenBack o v now m told old new) → now ≡ record v { given = now.given; tally = now.tally }
    → Exchanged v now m g.map (whole_at o.sizes (contents m) o.id) []
gone_exchange o v now m told old new g rest =
    let whole : List ℕ = whole_at o.sizes (contents m) o.id in
    let behind : List ℕ = arrays_at o.sizes (contents m) o.id ++ (places_at o.sizes (contents m) o.id) in record {
      rest = rest;
      fits = g.fits;
      were_free = λ k has none. let bad : 0 < 0 = has in absurd (omega (arith, bad));
      free = λ k. g.free k ∙ and_true (is_free v m k);
      marks = λ k low. gone_marks (times k whole == 0) (marked (per_block v) m k) (marked (per_block v) g.map k) (g.marks k low);
      counted = g.counted;
      others = λ k out none. g.others k out (first_none k (times k behind) (let parts : times k (whole ++ []) ≡ times k whole + 0 = times-append k whole [] in let h : cond (o.id == k) 1 0 + times k behind ≡ 0 = (let w : times k whole ≡ 0 = omega (arith, parts, none) in w) in h));
      first = λ none. g.first (first_none 0 (times 0 behind) (let parts : times 0 (whole ++ []) ≡ times 0 whole + 0 = times-append 0 whole [] in let h : cond (o.id == 0) 1 0 + times 0 behind ≡ 0 = (let w : times 0 whole ≡ 0 = omega (arith, parts, none) in w) in h));
    }
  where
    first_none : (k rest : ℕ) → cond (o.id == k) 1 0 + rest ≡ 0 → cond (o.id == k) 1 0 + 0 ≡ 0
    first_none k rest none = let n : ℕ = cond (o.id == k) 1 0 in omega (arith, none)
