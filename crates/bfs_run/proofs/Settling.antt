-- A disk after a barrier: it is quiet, and reads as before.
use Rattle.std.proofs.Common.{◌≡◌, ◌∙◌, ◌<◌, ◌≤◌, ⊎_elim, ℕ, List, [], ◌∷◌, length, take, get_or, Option, Some, None, Result, refl, sym, ap, subst, arith, IfSome}
use Rattle.std.specs.Prelude.{is_some}
use Rattle.std.specs.Option.{option_map}
use Rattle.std.proofs.lemmas.Bool.{true≢false}
use Rattle.bfs_base.specs.Images.{joined}
use Rattle.bfs_base.specs.Moments.{Elapses}
use Rattle.bfs_base.proofs.Sectors.{length-joined, sector-joined}
use Rattle.bfs_disk.specs.State.{State, Filled, Holds, ReadsAs, Tells, newest, settled}
use Rattle.bfs_disk.specs.StateLaws.{newest_long}
use Rattle.bfs_disk.specs.Disk.{MayLeave}
use Rattle.bfs_replay.proofs.Recovering.{held_image}
use Rattle.bfs_volume.specs.Mounts.{IsHeld}

first_left : (xs : List (List ℕ)) → get_or (take 1 xs) 0 [] ≡ get_or xs 0 []
first_left [] = refl
first_left (x ∷ xs) = refl

one_of_some : (xs : List (List ℕ)) → 0 < length xs → length (take 1 xs) ≡ 1
one_of_some [] some = absurd (omega (arith, some))
one_of_some (x ∷ xs) some = refl

pub settled_holds : (st : State) (image : List ℕ) → ((k : ℕ) → k < st.size → 0 < length (st.contents k)) → ReadsAs st image → Holds image (settled st)
settled_holds st image some reads = record {
  quiet = λ k lt. one_of_some (st.contents k) (some k lt);
  reads = record { size = reads.size; each = λ k lt. reads.each k lt ∙ sym (first_left (st.contents k)) };
}

read_image : (st : State) → Filled st → ReadsAs st (joined st.size (newest st))
read_image st filled =
    let long : (k : ℕ) → k < st.size → length (newest st k) ≡ 512 = λ k lt. newest_long st k filled lt in
    record { size = length-joined st.size (newest st) long; each = λ k lt. sector-joined st.size (newest st) k long lt }

one_state : (a b : State) → Some a ≡ Some b → a ≡ b
one_state a b e = cc

pub settled_held : (old new : Option State) → IfSome old Filled → new ≡ option_map settled old → IsHeld new
settled_held None new filled is st told = absurd (true≢false (ap is_some (sym told ∙ is)))
settled_held (Some was) new filled is st told =
    let same : settled was ≡ st = one_state (settled was) st (sym is ∙ told) in
    (joined was.size (newest was), subst (Holds (joined was.size (newest was))) same (settled_holds was (joined was.size (newest was)) filled.some (read_image was filled)))

pub settled_same : (old new : Option State) (image : List ℕ) → new ≡ option_map settled old → Tells old (Holds image) → Tells new (Holds image)
settled_same old new image is held =
    (settled held.0, is ∙ ap (option_map settled) held.1, settled_holds held.0 image (λ k lt. (let one = held.2.quiet k lt in omega (arith, one))) held.2.reads)

-- a call that leaves what a quiet disk holds
pub quiet_call : {T E : Type 0} (told : Option State) (image : List ℕ) (result : Result T E) (begun start now : ℕ) (past since : ℕ → List ℕ → Type 0) → begun ≤ start → Tells told (Holds image) → Elapses told result start now past since (MayLeave told) → ((c : List ℕ) → past begun c → c ≡ image)
    → (c : List ℕ) → since begun c → c ≡ image
quiet_call told image result begun start now past since early held time here c left =
    ⊎_elim (λ was. here c was) (λ may. held_image told image c held may) (time.nothing_else begun c early left)
