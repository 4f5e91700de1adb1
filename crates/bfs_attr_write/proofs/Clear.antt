-- What was given back and isn't free yet, through steps that take blocks or give some back.
use Rattle.std.proofs.Common.{◌≡◌, ◌<◌, ◌∙◌, ℕ, zero, suc, List, Bool, true, false, Option, Some, cond, not, refl, sym, ap, subst, arith}
use Rattle.std.specs.Prelude.{◌==◌, ◌&&◌, ◌||◌, nat_lt, IfSome}
use Rattle.bfs_base.specs.Lists.{times}
use Rattle.bfs_bitmap.specs.Runs.{Room, per_block, is_reserved, marked}
use Rattle.bfs_bitmap.specs.declared.given.Given.{Given}
use Rattle.bfs_stream.specs.Places.{whole_at}
use Rattle.bfs_stream.specs.Sizes.{Origin}
use Rattle.bfs_stream.specs.Standing.{kept_first, kept_not, with_number, standing}
use Rattle.bfs_stream.specs.Told.{contents}
use Rattle.bfs_stream.proofs.Taking.{some_test}
use Rattle.bfs_make.specs.Given.{HasGivenBack}
use Rattle.bfs_attr_write.specs.Exchanged.{Exchanged}
use Rattle.bfs_attr_write.specs.Removal.{KeepsClear}

-- where nothing is given back, what stands stays
pub tally_standing : (v now : Room) → now ≡ record v { tally = now.tally } → standing now ≡ standing v
unfolding standing
tally_standing v now same = ap (λ (r : Room). (kept_first r.given, with_number (kept_not r.given))) same

free_none : (low : Bool) (n : ℕ) (r : Bool) → (low && ((n == 0) && not r)) ≡ true → r ≡ true → ⊥
free_none false n r e t = let bad : false ≡ true = e in cc
free_none true zero true e t = let bad : false ≡ true = e in cc
free_none true zero false e t = let bad : false ≡ true = t in cc
free_none true (suc n) r e t = let bad : false ≡ true = sym (ap (λ (t : Bool). t && not r) (some_test (suc n) (omega arith))) ∙ e in cc

both_tests : (s t : Bool) (x : ℕ) → cond (s && not t) 1 (cond (t && not s) 0 x) ≡ 1 → ((s ≡ true) × (t ≡ false) → ⊥) → x ≡ 1
both_tests true true x e new = e
both_tests true false x e new = absurd (new (refl, refl))
both_tests false true x e new = absurd (let bad : 0 ≡ 1 = e in omega (arith, bad))
both_tests false false x e new = e

zero_of : (n : ℕ) → (n == 0) ≡ true → n ≡ 0
zero_of zero e = refl
zero_of (suc n) e = absurd (let bad : false ≡ true = sym (some_test (suc n) (omega arith)) ∙ e in cc)

some_of : (n : ℕ) → (n == 0) ≡ false → 0 < n
some_of zero e = absurd (let bad : true ≡ false = e in cc)
some_of (suc n) e = omega arith

-- an exchange that gives nothing back
pub exchange_clear : (v now : Room) (m map : ℕ → Option (List ℕ)) (before after : List ℕ) → Exchanged v now m map before after → now.given ≡ v.given → KeepsClear v now m map
exchange_clear v now m map before after e same = record {
  holds = λ k r. ap (λ (gs : List Given). is_reserved gs k) same ∙ r;
  clear = λ was k low r one.
      let reserved : is_reserved v.given k ≡ true = sym (ap (λ (gs : List Given). is_reserved gs k) same) ∙ r in
      was k low reserved (both_tests (times k before == 0) (times k after == 0) (marked (per_block v) m k) (sym (e.marks k low) ∙ one) (λ t.
      free_none (nat_lt k v.blocks) (marked (per_block v) m k) (is_reserved v.given k) (e.were_free k (some_of (times k after) t.1) (zero_of (times k before) t.0)) reserved));
}

-- an inode that was given back
pub given_clear : (o : Origin) (v now : Room) (m : ℕ → Option (List ℕ)) (told : Option (ℕ → Option (List ℕ))) (old new : ℕ → Bool) → (gone : HasGivenBack o v now m told old new) → KeepsClear v now m gone.map
given_clear o v now m told old new gone = record {
  holds = λ k r. gone.reserved k ∙ ap (λ (t : Bool). t || not (times k whole == 0)) r;
  clear = λ was k low r one. by_test was k low r one (times k whole == 0) refl;
}
  where
    whole : List ℕ
    whole = whole_at o.sizes (contents m) o.id

    or_false : (b : Bool) → (b || false) ≡ true → b ≡ true
    or_false true e = refl
    or_false false e = e

    by_test : ((k : ℕ) → k < v.blocks → is_reserved v.given k ≡ true → ¬ (marked (per_block v) m k ≡ 1)) → (k : ℕ) → k < v.blocks → is_reserved now.given k ≡ true → marked (per_block v) gone.map k ≡ 1 → (t : Bool) → (times k whole == 0) ≡ t → ⊥
    by_test was k low r one true e =
        was k low (or_false (is_reserved v.given k) (ap (λ (t : Bool). is_reserved v.given k || not t) (sym e) ∙ sym (gone.reserved k) ∙ r))
        (ap (λ (t : Bool). cond t (marked (per_block v) m k) 0) (sym e) ∙ sym (gone.marks k low) ∙ one)
    by_test was k low r one false e = let bad : 0 ≡ 1 = ap (λ (t : Bool). cond t (marked (per_block v) m k) 0) (sym e) ∙ sym (gone.marks k low) ∙ one in omega (arith, bad)

-- two such steps
pub clear_twice : (v mid now : Room) (m half map : ℕ → Option (List ℕ)) → mid ≡ record v { given = mid.given; tally = mid.tally } → KeepsClear v mid m half → KeepsClear mid now half map → KeepsClear v now m map
clear_twice v mid now m half map rest one two =
    let then : KeepsClear (record v { given = mid.given; tally = mid.tally }) now half map = subst (λ (x : Room). KeepsClear x now half map) rest two in record {
      holds = λ k r. two.holds k (one.holds k r);
      clear = λ was. then.clear (one.clear was);
    }

-- said of what is told
pub clear_told : (v now : Room) (m map : ℕ → Option (List ℕ)) (told : Option (ℕ → Option (List ℕ))) → told ≡ Some map → KeepsClear v now m map → IfSome told (KeepsClear v now m)
clear_told v now m map told is h = subst (λ (o : Option (ℕ → Option (List ℕ))). IfSome o (KeepsClear v now m)) (sym is) h
