-- What a call makes of a cache.
use Rattle.std.proofs.Common.{◌≡◌, ◌⊎◌, inl, inr, ⊎_elim, ℕ, ◌*◌, ◌≤◌, max, nat_eq, List, ◌∷◌, length, take, sym, ◌∙◌, ap, subst, arith, Option, Some, None, Result, Ok, Err, OnOk, OnErr}
use Rattle.std.proofs.lemmas.List.{length-take}
use Rattle.lru.specs.LruCache.{LruCache, lru_cache, promoted, put_entries}
use Rattle.bfs_disk.specs.State.{State}
use Rattle.bfs_disk.specs.Blocks.{AreRead}
use Rattle.bfs_cache.specs.Kept.{View, kept_of, without, with_first, counted}
use Rattle.bfs_cache.specs.Agreement.{Agrees}
use Rattle.bfs_cache.proofs.Entries.{promoted_is, promoted_none, put_is, fewer}
use Rattle.bfs_cache.proofs.Agreeing.{agrees_first, agrees_with}

-- a view by its parts
abbrev pub view : ℕ → List (ℕ × List ℕ) → ℕ → View
view n es u = record { bound = n; kept = es; unkept = u }

with_kept : (n u b : ℕ) (bytes : List ℕ) (old new : List (ℕ × List ℕ)) (v : View) → view n old u ≡ v → new ≡ take n ((b, bytes) ∷ without b old) → view n new u ≡ with_first b bytes v
with_kept n u b bytes old new v is same = ap (λ (es : List (ℕ × List ℕ)). view n es u) same ∙ ap (with_first b bytes) is

length-first : (n : ℕ) (xs : List (ℕ × List ℕ)) → length (take n xs) ≤ n
length-first n xs = omega (arith, length-take n xs)

-- a block was put
pub put_view : (n u b : ℕ) (bytes val : List ℕ) (old new : LruCache ℕ (List ℕ)) (v : View) → view n old.entries u ≡ v → val ≡ bytes → new ≡ lru_cache (put_entries nat_eq old b val) old.cap
    → old.cap ≡ max n 1 → (n ≡ 0 → ⊥) → kept_of v.kept b ≡ None → view n new.entries u ≡ with_first b bytes v
put_view n u b bytes val old new v is same put cap some none =
    with_kept n u b bytes old.entries new.entries v is
    (ap (λ (c : LruCache ℕ (List ℕ)). c.entries) put
    ∙ put_is n b val old (ap (λ (w : View). kept_of w.kept b) is ∙ none) cap some
    ∙ ap (λ (x : List ℕ). take n ((b, x) ∷ without b old.entries)) same)

pub put_invariant : (n b : ℕ) (val : List ℕ) (old new : LruCache ℕ (List ℕ)) → new ≡ lru_cache (put_entries nat_eq old b val) old.cap → old.cap ≡ max n 1 → (n ≡ 0 → ⊥) → kept_of old.entries b ≡ None
    → (new.cap ≡ max n 1) × (length new.entries ≤ n)
put_invariant n b val old new put cap some none = (
  ap (λ (c : LruCache ℕ (List ℕ)). c.cap) put ∙ cap,
  subst (λ (es : List (ℕ × List ℕ)). length es ≤ n) (sym (ap (λ (c : LruCache ℕ (List ℕ)). c.entries) put ∙ put_is n b val old none cap some)) (length-first n _),
)

-- a block that is there went first
pub hit_view : (n u b : ℕ) (bytes : List ℕ) (old new : LruCache ℕ (List ℕ)) (v : View) → view n old.entries u ≡ v → new ≡ lru_cache (promoted (nat_eq b) old.entries) old.cap → kept_of old.entries b ≡ Some bytes
    → length old.entries ≤ n → view n new.entries u ≡ with_first b bytes v
hit_view n u b bytes old new v is moved found fits =
    with_kept n u b bytes old.entries new.entries v is (ap (λ (c : LruCache ℕ (List ℕ)). c.entries) moved ∙ promoted_is n b old.entries bytes found fits)

pub hit_invariant : (n b : ℕ) (bytes : List ℕ) (old new : LruCache ℕ (List ℕ)) → new ≡ lru_cache (promoted (nat_eq b) old.entries) old.cap → kept_of old.entries b ≡ Some bytes
    → old.cap ≡ max n 1 → length old.entries ≤ n → (new.cap ≡ max n 1) × (length new.entries ≤ n)
hit_invariant n b bytes old new moved found cap fits = (
  ap (λ (c : LruCache ℕ (List ℕ)). c.cap) moved ∙ cap,
  subst (λ (es : List (ℕ × List ℕ)). length es ≤ n) (sym (ap (λ (c : LruCache ℕ (List ℕ)). c.entries) moved ∙ promoted_is n b old.entries bytes found fits)) (length-first n _),
)

-- one that isn't there changed nothing
pub miss_same : (b : ℕ) (old new : LruCache ℕ (List ℕ)) → new ≡ lru_cache (promoted (nat_eq b) old.entries) old.cap → kept_of old.entries b ≡ None → new ≡ old
miss_same b old new moved none = moved ∙ ap (λ (es : List (ℕ × List ℕ)). lru_cache es old.cap) (promoted_none b old.entries none)

pub miss_view : (n u b : ℕ) (old new : LruCache ℕ (List ℕ)) (v : View) → view n old.entries u ≡ v → new ≡ lru_cache (promoted (nat_eq b) old.entries) old.cap → kept_of old.entries b ≡ None → view n new.entries u ≡ v
miss_view n u b old new v is moved none = ap (λ (c : LruCache ℕ (List ℕ)). view n c.entries u) (miss_same b old new moved none) ∙ is

pub miss_invariant : (n b : ℕ) (old new : LruCache ℕ (List ℕ)) → new ≡ lru_cache (promoted (nat_eq b) old.entries) old.cap → kept_of old.entries b ≡ None → old.cap ≡ max n 1 → length old.entries ≤ n → (new.cap ≡ max n 1) × (length new.entries ≤ n)
miss_invariant n b old new moved none cap fits =
    let same = miss_same b old new moved none in
    (ap (λ (c : LruCache ℕ (List ℕ)). c.cap) same ∙ cap, subst (λ (c : LruCache ℕ (List ℕ)). length c.entries ≤ n) (sym same) fits)

-- what is kept after a read agrees with the disk
pub agrees_after : {E : Type 0} (result : Result (Unit {0}) E) (told : Option State) (r b : ℕ) (bytes : List ℕ) (old new : View) → length bytes ≡ 512 * r
    → OnOk result (AreRead told r b bytes) → OnOk result ((new ≡ with_first b bytes old) ⊎ (new ≡ counted old)) → OnErr result (new ≡ old) → Agrees told r old.kept → Agrees told r new.kept
agrees_after (Ok x) told r b bytes old new long reads first failed all = ⊎_elim
    (λ is. subst (λ (w : View). Agrees told r w.kept) (sym is) (agrees_first told r old.bound b bytes old.kept long reads all))
    (λ is. subst (λ (w : View). Agrees told r w.kept) (sym is) all)
    first
agrees_after (Err e) told r b bytes old new long reads first failed all = subst (λ (w : View). Agrees told r w.kept) (sym failed) all

-- a block was taken out
pub forget_invariant : (n b : ℕ) (old new : LruCache ℕ (List ℕ)) → new ≡ lru_cache (without b old.entries) old.cap → old.cap ≡ max n 1 → length old.entries ≤ n → (new.cap ≡ max n 1) × (length new.entries ≤ n)
forget_invariant n b old new gone cap fits = (
  ap (λ (c : LruCache ℕ (List ℕ)). c.cap) gone ∙ cap,
  subst (λ (es : List (ℕ × List ℕ)). length es ≤ n) (sym (ap (λ (c : LruCache ℕ (List ℕ)). c.entries) gone)) (let le = fewer b old.entries in omega (arith, le, fits)),
)

-- what is kept after a look-up agrees with the disk
pub hit_agrees : (told : Option State) (r n u b : ℕ) (bytes : List ℕ) (old new : LruCache ℕ (List ℕ)) (v : View) → view n old.entries u ≡ v → new ≡ lru_cache (promoted (nat_eq b) old.entries) old.cap → kept_of old.entries b ≡ Some bytes
    → length old.entries ≤ n → Agrees told r v.kept → Agrees told r new.entries
hit_agrees told r n u b bytes old new v is moved found fits all =
    let good = agrees_with told r b v.kept bytes (ap (λ (w : View). kept_of w.kept b) (sym is) ∙ found) all in
    subst (λ (w : View). Agrees told r w.kept) (sym (hit_view n u b bytes old new v is moved found fits)) (agrees_first told r v.bound b bytes v.kept good.0 good.1 all)

-- what was read is first, or there was no memory for it
pub miss_first : {E : Type 0} (result : Result (Unit {0}) E) (b : ℕ) (bytes : List ℕ) (before v new : View) → before ≡ v → kept_of v.kept b ≡ None → OnOk result ((new ≡ with_first b bytes before) ⊎ (new ≡ counted before))
    → OnOk result ((new ≡ with_first b bytes v) ⊎ ((kept_of v.kept b ≡ None) × (new ≡ counted v)))
miss_first (Ok x) b bytes before v new same none first = ⊎_elim (λ is. inl (is ∙ ap (with_first b bytes) same)) (λ is. inr (none, is ∙ ap counted same)) first
miss_first (Err e) b bytes before v new same none first = first
