-- Homes, and blocks with homes written over them.
use Rattle.std.proofs.Common.{◌≡◌, ◌⊎◌, inl, inr, ⊎_elim, ℕ, zero, suc, ◌<◌, ◌≤◌, List, [], ◌∷◌, ◌++◌, length, drop, get_or, refl, sym, ◌∙◌, subst, arith, drop-cons}
use Rattle.std.proofs.lemmas.Bool.{cases_eq, cond-true, cond-false, eq-eqb, ne_eqb}
use Rattle.std.proofs.lemmas.List.{length-map, get_or-map, drop_all}
use Rattle.bfs_log.specs.Replay.{Home, over, put}
use Rattle.bfs_txn.specs.Changed.{number_at, bytes_at}
use Rattle.bfs_device.specs.Layouts.{Layout, IsData, homes_in}
use Rattle.bfs_device.specs.Phases.{IsHomeOf}

-- one home
pub put_here : (h : Home) (f : ℕ → List ℕ) (k : ℕ) → k ≡ h.place → put h f k ≡ h.bytes
put_here h f k e = cond-true _ _ _ (eq-eqb k h.place e)

pub put_other : (h : Home) (f : ℕ → List ℕ) (k : ℕ) → (k ≡ h.place → ⊥) → put h f k ≡ f k
put_other h f k ne = cond-false _ _ _ (ne_eqb k h.place ne)

put_same : (h : Home) (f g : ℕ → List ℕ) (k : ℕ) → f k ≡ g k → put h f k ≡ put h g k
put_same h f g k e = ⊎_elim (λ here. put_here h f k here ∙ sym (put_here h g k here)) (λ other. put_other h f k other ∙ e ∙ sym (put_other h g k other)) (cases_eq k h.place)

pub over_same : (hs : List Home) (f g : ℕ → List ℕ) (k : ℕ) → f k ≡ g k → over hs f k ≡ over hs g k
over_same [] f g k e = e
over_same (h ∷ hs) f g k e = over_same hs (put h f) (put h g) k (put_same h f g k e)

-- a home's bytes don't depend on what was there
pub over_in : (hs : List Home) (f g : ℕ → List ℕ) (k : ℕ) → IsHomeOf hs k → over hs f k ≡ over hs g k
over_in [] f g k one = absurd one
over_in (h ∷ hs) f g k one = ⊎_elim (λ here. over_same hs (put h f) (put h g) k (put_here h f k here ∙ sym (put_here h g k here))) (over_in hs (put h f) (put h g) k) one

pub over_out : (hs : List Home) (f : ℕ → List ℕ) (k : ℕ) → (IsHomeOf hs k → ⊥) → over hs f k ≡ f k
over_out [] f k none = refl
over_out (h ∷ hs) f k none = over_out hs (put h f) k (λ one. none (inr one)) ∙ put_other h f k (λ here. none (inl here))

pub home_or : (hs : List Home) (k : ℕ) → IsHomeOf hs k ⊎ (IsHomeOf hs k → ⊥)
home_or [] k = inr (λ one. one)
home_or (h ∷ hs) k = ⊎_elim (λ here. inl (inl here)) (λ other. ⊎_elim (λ one. inl (inr one)) (λ none. inr (λ either. ⊎_elim other none either)) (home_or hs k)) (cases_eq k h.place)

-- homes written twice
pub over_again : (hs : List Home) (f : ℕ → List ℕ) (k : ℕ) → over hs (over hs f) k ≡ over hs f k
over_again hs f k = ⊎_elim (λ one. over_in hs (over hs f) f k one) (λ none. over_out hs (over hs f) k none) (home_or hs k)

pub over_joined : (xs ys : List Home) (f : ℕ → List ℕ) (k : ℕ) → over (xs ++ ys) f k ≡ over ys (over xs f) k
over_joined [] ys f k = refl
over_joined (x ∷ xs) ys f k = over_joined xs ys (put x f) k

pub is_home : (hs : List Home) (j : ℕ) (d : Home) → j < length hs → IsHomeOf hs (get_or hs j d).place
is_home [] j d lt = absurd (omega arith)
is_home (h ∷ hs) zero d lt = inl refl
is_home (h ∷ hs) (suc j) d lt = inr (is_home hs j d (omega arith))

-- the last of a place's homes is the one that counts
pub over_found : (hs : List Home) (f : ℕ → List ℕ) (j : ℕ) (d : Home) → j < length hs → (IsHomeOf (drop (suc j) hs) (get_or hs j d).place → ⊥) → over hs f (get_or hs j d).place ≡ (get_or hs j d).bytes
over_found [] f j d lt last = absurd (omega arith)
over_found (h ∷ hs) f zero d lt last = over_out hs (put h f) h.place last ∙ put_here h f h.place refl
over_found (h ∷ hs) f (suc j) d lt last = over_found hs (put h f) j d (omega arith) last

pub home_next : (hs : List Home) (i k : ℕ) (d : Home) → i < length hs → IsHomeOf (drop i hs) k → (k ≡ (get_or hs i d).place) ⊎ IsHomeOf (drop (suc i) hs) k
home_next hs i k d lt one = subst (λ (xs : List Home). IsHomeOf xs k) (drop-cons hs i d lt) one

pub no_home : (hs : List Home) (n k : ℕ) → length hs ≤ n → IsHomeOf (drop n hs) k → ⊥
no_home hs n k past one = subst (λ (xs : List Home). IsHomeOf xs k) (drop_all n hs past) one

pub home_drop : (i : ℕ) (hs : List Home) (k : ℕ) → IsHomeOf (drop i hs) k → IsHomeOf hs k
home_drop zero hs k one = one
home_drop (suc i) [] k one = absurd one
home_drop (suc i) (h ∷ hs) k one = inr (home_drop i hs k one)

-- changed blocks as homes
abbrev pub home_of : ℕ × List ℕ → Home
home_of p = record { place = p.0; bytes = p.1 }

pub length-homes : (ps : List (ℕ × List ℕ)) → length (homes_in ps) ≡ length ps
length-homes ps = length-map ps home_of

pub home_at : (ps : List (ℕ × List ℕ)) (i : ℕ) (d : Home) → i < length ps → get_or (homes_in ps) i d ≡ record { place = number_at ps i; bytes = bytes_at ps i }
home_at ps i d lt = get_or-map home_of ps i (0, []) d lt

pub data_homes : (l : Layout) (ps : List (ℕ × List ℕ)) (b : ℕ) → ((i : ℕ) → i < length ps → IsData l (number_at ps i)) → IsHomeOf (homes_in ps) b → IsData l b
data_homes l [] b all one = absurd one
data_homes l (p ∷ ps) b all one = ⊎_elim (λ here. subst (IsData l) (sym here) (all 0 (omega arith))) (λ later. data_homes l ps b (λ i lt. all (suc i) (omega arith)) later) one
