-- How what is known of a disk goes on over writes and barriers, sector by sector.
use Rattle.std.proofs.Common.{◌≡◌, ◌⊎◌, inl, inr, ⊎_elim, ℕ, ◌+◌, ◌-◌, ◌/◌, ◌<◌, ◌≤◌, List, [], ◌∷◌, length, take, refl, sym, ◌∙◌, ap, subst, arith, get_or, true, false, Option, None, Some, Result, Ok, Err, OnOk, OnErr}
use Rattle.std.specs.Option.{option_map, IfSome}
use Rattle.std.proofs.lemmas.Bool.{cond_both, true≢false}
use Rattle.bfs_base.specs.Images.{sector}
use Rattle.bfs_base.proofs.Sectors.{sector_inside}
use Rattle.bfs_disk.specs.State.{State, IsImage, IsOneOf, IsQuiet, Tells, Holds, newest, written, settled, names}
use Rattle.bfs_disk.specs.State.{Filled as Holding}
use Rattle.bfs_disk.specs.Disk.{MayLeave, InRange, HasSectors}
use Rattle.bfs_disk.proofs.Names.{names_before, names_inside}
use Rattle.bfs_disk.proofs.Calls.{first_is, first_same, one_sector, named_one, unnamed_one}
use Rattle.bfs_disk.proofs.Images.{quiet_image, written_image}
use Rattle.bfs_disk.specs.declared.disk.Failed.{Failed}
use Rattle.bfs_mkfs.specs.Written.{Meets, IsBlank, Cleared, HalfFilled, Filled, Opening, Opened, Area, AreBehind, end_of, Fits, IsWritten, blank_sector}

-- a crash leaves of each sector what it may
pub meets_image : {P Q : ℕ → List ℕ → Type 0} {s : State} {c : List ℕ} → Meets P Q s → IsImage s c → (k : ℕ) → k < s.size → P k (sector k c)
meets_image {c} known image k lt = known.leaves k lt (sector k c) (image.each k lt)

-- a barrier leaves what a read gives
pub meets_settled : {P Q : ℕ → List ℕ → Type 0} {s : State} → Meets P Q s → Meets Q Q (settled s)
meets_settled {Q} {s} known = record {
  leaves = λ k lt c one. subst (Q k) (sym (first_is (s.contents k) c one)) (known.reads k lt);
  reads = λ k lt. subst (Q k) (first_same (s.contents k)) (known.reads k lt);
}

-- a write, where what was left before may still be left
pub meets_written : {P Q R S : ℕ → List ℕ → Type 0} {s : State} (at : ℕ) (bytes : List ℕ) → Meets P Q s
    → ((k : ℕ) (c : List ℕ) → P k c → R k c)
    → ((k : ℕ) (c : List ℕ) → names at bytes k ≡ false → Q k c → S k c)
    → ((k : ℕ) → names at bytes k ≡ true → R k (sector (k - at) bytes) × S k (sector (k - at) bytes))
    → Meets R S (written s at bytes)
meets_written {R} {S} {s} at bytes known may reads new = record {
  leaves = λ k lt. cond_both (names at bytes k) (sector (k - at) bytes ∷ s.contents k) (s.contents k) (λ cs. (c : List ℕ) → IsOneOf cs c → R k c)
      (λ named c one. ⊎_elim (λ e. subst (R k) (sym e) (new k named).0) (λ was. may k c (known.leaves k lt c was)) one)
      (λ unnamed c was. may k c (known.leaves k lt c was));
  reads = λ k lt. cond_both (names at bytes k) (sector (k - at) bytes ∷ s.contents k) (s.contents k) (λ cs. S k (get_or cs 0 []))
      (λ named. (new k named).1)
      (λ unnamed. reads k (newest s k) unnamed (known.reads k lt));
}

-- a barrier takes contents away and adds none
first_of : {X : Type 0} (xs : List X) (x : X) → IsOneOf (take 1 xs) x → IsOneOf xs x
first_of [] x one = one
first_of (y ∷ xs) x one = ⊎_elim (λ e. inl e) (λ none. absurd none) one

pub image_settled : (s : State) (c : List ℕ) → IsImage (settled s) c → IsImage s c
image_settled s c image = record { size = image.size; each = λ k lt. first_of (s.contents k) (sector k c) (image.each k lt) }

pub in_range : (size : Option ℕ) (n at : ℕ) (bytes : List ℕ) → HasSectors size n → at + length bytes / 512 ≤ n → InRange size at bytes
in_range None n at bytes has fits = absurd has
in_range (Some size) n at bytes has fits = omega (arith, has, fits)

pub has_fewer : (size : Option ℕ) (n m : ℕ) → HasSectors size n → m ≤ n → HasSectors size m
has_fewer None n m has le = absurd has
has_fewer (Some size) n m has le = omega (arith, has, le)

-- the number of sectors of a disk that tells
pub told_size : (told : Option State) (size : Option ℕ) (s : State) (n : ℕ) → told ≡ Some s → IfSome told (λ t. size ≡ Some t.size) → HasSectors size n → n ≤ s.size
told_size told size s n is sized has =
    let known : size ≡ Some s.size = subst (λ st. IfSome st (λ t. size ≡ Some t.size)) is sized in
    subst (λ z. HasSectors z n) known has

-- a crash of a quiet disk leaves its image
pub held_image : (told : Option State) (image c : List ℕ) → Tells told (Holds image) → MayLeave told c → c ≡ image
held_image told image c held left = quiet_image held.0 image c held.2.quiet held.2.reads (subst (λ s. MayLeave s c) held.1 left)

-- during the clearing of the superblock's sector
pub clearing : (s : State) (image zeros c : List ℕ) → Holds image s → zeros ≡ blank_sector → 1 < s.size → IsImage (written s 1 zeros) c → (c ≡ image) ⊎ IsBlank c
clearing s image zeros c held is some left =
    let long : length zeros ≡ 512 = ap length is in
    ⊎_elim (λ old. inl old)
    (λ new. inr (ap (sector 1) new ∙ sector_inside 1 1 zeros image (omega (arith, long, held.reads.size, some)) (omega (arith, long)) 1 (omega arith) (omega arith) ∙ one_sector zeros (1 - 1) long refl ∙ is))
    (written_image s 1 zeros image held.quiet held.reads long some c left)

-- what a crash may leave after a barrier, whether it succeeded or failed
pub now_barrier : {R : List ℕ → Type 0} (A : State → Type 0) (result : Result (Unit {0}) Failed) (old new : Option State)
    → OnOk result (new ≡ option_map settled old) → OnErr result (new ≡ old) → Tells old A
    → ((s : State) → A s → (c : List ℕ) → IsImage s c → R c) → (c : List ℕ) → MayLeave new c → R c
now_barrier A (Ok u) old new done kept known here c left =
    let is : new ≡ Some (settled known.0) = done ∙ ap (option_map settled) known.1 in
    here known.0 known.2 c (image_settled known.0 c (subst (λ o. MayLeave o c) is left))
now_barrier A (Err f) old new done kept known here c left =
    let is : new ≡ Some known.0 = kept ∙ known.1 in
    here known.0 known.2 c (subst (λ o. MayLeave o c) is left)

pub ok_then : {T E : Type 0} {P Q : Type 0} (r : Result T E) → OnOk r P → (P → Q) → OnOk r Q
ok_then (Ok x) p f = f p
ok_then (Err e) p f = tt

abbrev pub Any : ℕ → List ℕ → Type 0
Any k c = Unit {0}

pub any_meets : (s : State) → Meets Any Any s
any_meets s = record { leaves = λ k lt c one. tt; reads = λ k lt. tt }

-- after the clearing of the superblock's sector
pub record Clearing (image : List ℕ) (s : State) : Type 0 where
  pub images : (c : List ℕ) → IsImage s c → (c ≡ image) ⊎ IsBlank c
  pub meets : Meets Any Cleared s

pub cleared : (s : State) (image zeros : List ℕ) → Holds image s → zeros ≡ blank_sector → 1 < s.size → Clearing image (written s 1 zeros)
cleared s image zeros held is some =
    let long : length zeros ≡ 512 = ap length is in
    record {
      images = λ c left. clearing s image zeros c held is some left;
      meets = meets_written 1 zeros (any_meets s) (λ k c any. tt) (λ k c unnamed any here. absurd (unnamed_one 1 k zeros long unnamed here))
          (λ k named. (tt, λ here. ap (λ (j : ℕ). sector (j - 1) zeros) here ∙ one_sector zeros (1 - 1) long refl ∙ is));
    }

-- ---- filling the areas

fits_part : (a : Area) (k : ℕ) → names a.at a.bytes k ≡ true → Fits a k (sector (k - a.at) a.bytes)
fits_part a k named low high = refl

fits_out : (a : Area) (at : ℕ) (bytes : List ℕ) (k : ℕ) (c : List ℕ) → names at bytes k ≡ false → (at ≤ k → k < at + length bytes / 512 → ⊥)
fits_out a at bytes k c unnamed low high = true≢false (sym (names_inside at k bytes low high) ∙ unnamed)

behind_super : (at k : ℕ) (bytes : List ℕ) → 2 ≤ at → names at bytes k ≡ true → k ≡ 1 → ⊥
behind_super at k bytes low named here = true≢false (sym named ∙ names_before at k bytes (omega (arith, low, here)))

-- after the first write
pub first_filled : (a : Area) (s : State) → 2 ≤ a.at → Meets Cleared Cleared s → Meets Cleared (HalfFilled a) (written s a.at a.bytes)
first_filled a s low known = meets_written a.at a.bytes known (λ k c was. was)
    (λ k c unnamed was. (was, λ inside below. absurd (fits_out a a.at a.bytes k c unnamed inside below)))
    (λ k named. ((λ here. absurd (behind_super a.at k a.bytes low named here)), ((λ here. absurd (behind_super a.at k a.bytes low named here)), fits_part a k named)))

pub second_filled : (a b : Area) (s : State) → 2 ≤ a.at → a.at + length a.bytes / 512 ≤ b.at → Meets Cleared (HalfFilled a) s → Meets Cleared (Filled a b) (written s b.at b.bytes)
second_filled a b s low order known = meets_written b.at b.bytes known (λ k c was. was)
    (λ k c unnamed was. record { super = was.0; first = was.1; second = λ inside below. absurd (fits_out b b.at b.bytes k c unnamed inside below) })
    (λ k named.
    let two : 2 ≤ b.at = omega (arith, low, order) in (
      (λ here. absurd (behind_super b.at k b.bytes two named here)),
      record {
        super = λ here. absurd (behind_super b.at k b.bytes two named here);
        first = λ inside below. absurd (true≢false (sym named ∙ names_before b.at k b.bytes (omega (arith, below, order))));
        second = fits_part b k named;
      },
    ))

-- images of a disk whose superblock is blank
pub blank_image : {Q : ℕ → List ℕ → Type 0} (s : State) (c : List ℕ) → 1 < s.size → Meets Cleared Q s → IsImage s c → IsBlank c
blank_image s c some known image = meets_image known image 1 some refl

-- ---- writing the superblock

pub opened : (block : List ℕ) (a b : Area) (s : State) → length block ≡ 512 → AreBehind a b → Meets (Filled a b) (Filled a b) s → Meets (Opening block a b) (Opened block a b) (written s 1 block)
opened block a b s long behind known = meets_written 1 block known
    (λ k c was. record { super = λ here. inl (was.super here); first = was.first; second = was.second })
    (λ k c unnamed was. record { super = λ here. absurd (unnamed_one 1 k block long unnamed here); first = was.first; second = was.second })
    (λ k named.
    let at_one : k ≡ 1 = named_one 1 k block long named in
    let is : k ≡ 1 → sector (k - 1) block ≡ block = λ here. ap (λ (j : ℕ). sector (j - 1) block) here ∙ one_sector block (1 - 1) long refl in (
      record { super = λ here. inr (is here); first = λ inside below. absurd (omega (arith, inside, at_one, behind.0)); second = λ inside below. absurd (omega (arith, inside, at_one, behind.1)) },
      record { super = is; first = λ inside below. absurd (omega (arith, inside, at_one, behind.0)); second = λ inside below. absurd (omega (arith, inside, at_one, behind.1)) },
    ))

pub opening_image : {Q : ℕ → List ℕ → Type 0} (block : List ℕ) (a b : Area) (n : ℕ) (s : State) (c : List ℕ) → AreBehind a b → end_of b ≤ n → n ≤ s.size → Meets (Opening block a b) Q s → IsImage s c → IsBlank c ⊎ IsWritten block a b n c
opening_image block a b n s c behind fits room known image =
    let at = meets_image known image in
    let inside : (k : ℕ) → k < length c / 512 → k < s.size = λ k lt. omega (arith, image.size, lt) in
    let some : 1 < s.size = omega (arith, behind.1, fits, room) in
    ⊎_elim (λ blank. inl blank)
    (λ new. inr (record { inside = fits; long = omega (arith, image.size, room); super = new; first = λ k lt. (at k (inside k lt)).first; second = λ k lt. (at k (inside k lt)).second }))
    ((at 1 some).super refl)

-- a property, and that there is a superblock's sector
abbrev pub With : (State → Type 0) → State → Type 0
With P s = P s × (1 < s.size)

pub started : (P : State → Type 0) (told : Option State) (size : Option ℕ) (n : ℕ) → IfSome told (λ t. size ≡ Some t.size) → HasSectors size n → 2 ≤ n → Tells told P → Tells told (With P)
started P told size n sized has two known =
    let some : 2 ≤ known.0.size = told_size told size known.0 2 known.1 sized (has_fewer size n 2 has two) in
    (known.0, known.1, (known.2, some))

-- a property, and that there are so many sectors
abbrev pub Having : ℕ → (State → Type 0) → State → Type 0
Having n P s = P s × (n ≤ s.size)

pub having : (P : State → Type 0) (told : Option State) (size : Option ℕ) (n : ℕ) → IfSome told (λ t. size ≡ Some t.size) → HasSectors size n → Tells told P → Tells told (Having n P)
having P told size n sized has known = (known.0, known.1, (known.2, told_size told size known.0 n known.1 sized has))

-- after a barrier a disk whose sectors have contents is quiet
pub quiet_settled : (s : State) → Holding s → IsQuiet (settled s)
quiet_settled s filled k lt = one_left (s.contents k) (filled.some k lt)
  where
    one_left : (xs : List (List ℕ)) → 0 < length xs → length (take 1 xs) ≡ 1
    one_left [] some = absurd (omega arith)
    one_left (x ∷ xs) some = refl

pub told_filled : (told : Option State) (s : State) → told ≡ Some s → IfSome told Holding → Holding s
told_filled told s is filled = subst (λ o. IfSome o Holding) is filled
