-- How what is known of a volume's disk goes on over writes, barriers and crashes.
use Rattle.std.proofs.Common.{◌≡◌, ◌≢◌, ⊎_elim, ℕ, ◌+◌, ◌-◌, ◌*◌, ◌<◌, ◌≤◌, List, [], ◌∷◌, length, drop, sym, ◌∙◌, ap, subst, arith, get_or, false, length-drop}
use Rattle.std.proofs.lemmas.Bool.{cases_lt, cases_eq, cond-true, cond-false}
use Rattle.std.proofs.lemmas.List.{length-take-le}
use Rattle.std.proofs.Math.Nat.{mul-le-mul_left}
use Rattle.bfs_disk.specs.State.{State, IsImage, IsOneOf, newest, written, settled, names}
use Rattle.bfs_disk.specs.Blocks.{MayBe, IsRead, Known}
use Rattle.bfs_disk.proofs.Names.{names_before, names_inside, names_after}
use Rattle.bfs_disk.proofs.Calls.{first_is, first_same, one_sector}
use Rattle.bfs_base.specs.Images.{block, sector}
use Rattle.bfs_base.proofs.Sectors.{sector_part, same_sectors}

-- a block of an image is one that a crash may leave
pub may_be_block : (s : State) (r b : ℕ) (image : List ℕ) → IsImage s image → r * b + r ≤ s.size → MayBe s r b (block r b image)
may_be_block s r b image is fits = record {
  long = length-take-le (512 * r) (drop (512 * (r * b)) image) (omega (arith, is.size, length-drop (512 * (r * b)) image));
  each = λ j lt. subst (IsOneOf (s.contents (r * b + j))) (sym (sector_part (r * b) j (512 * r) image (omega arith))) (is.each (r * b + j) (omega (arith, lt, fits)));
}

pub known_image : {s : State} {r : ℕ} {S T : List ℕ → Type 0} {P Q : ℕ → List ℕ → Type 0} (image : List ℕ) → Known s r S T P Q → IsImage s image
    → (b : ℕ) → 1 ≤ b → r * b + r ≤ s.size → P b (block r b image)
known_image {s} {r} image known is b pos fits = known.leaves b (block r b image) pos fits (may_be_block s r b image is fits)

pub known_super : {s : State} {r : ℕ} {S T : List ℕ → Type 0} {P Q : ℕ → List ℕ → Type 0} (image : List ℕ) → Known s r S T P Q → IsImage s image → 1 < s.size → S (sector 1 image)
known_super image known is lt = known.super_leaves (sector 1 image) (is.each 1 lt)

settled_may_be : (s : State) (r b : ℕ) (c : List ℕ) → MayBe (settled s) r b c → IsRead s r b c
settled_may_be s r b c may = record { long = may.long; each = λ j lt. first_is (s.contents (r * b + j)) (sector j c) (may.each j lt) }

settled_is_read : (s : State) (r b : ℕ) (c : List ℕ) → IsRead (settled s) r b c → IsRead s r b c
settled_is_read s r b c read = record { long = read.long; each = λ j lt. read.each j lt ∙ sym (first_same (s.contents (r * b + j))) }

-- a barrier leaves what a read gives
pub known_settled : {s : State} {r : ℕ} {S T : List ℕ → Type 0} {P Q : ℕ → List ℕ → Type 0} → Known s r S T P Q → Known (settled s) r T T Q Q
known_settled {s} {r} {T} known = record {
  super_leaves = λ c one. subst T (sym (first_is (s.contents 1) c one)) known.super_reads;
  super_reads = subst T (first_same (s.contents 1)) known.super_reads;
  leaves = λ b c pos fits may. known.reads b c pos fits (settled_may_be s r b c may);
  reads = λ b c pos fits read. known.reads b c pos fits (settled_is_read s r b c read);
}

-- less is known
pub known_less : {s : State} {r : ℕ} {S T : List ℕ → Type 0} {P Q : ℕ → List ℕ → Type 0} (S' T' : List ℕ → Type 0) (P' Q' : ℕ → List ℕ → Type 0) → Known s r S T P Q
    → ((c : List ℕ) → S c → S' c) → ((c : List ℕ) → T c → T' c) → ((b : ℕ) (c : List ℕ) → P b c → P' b c) → ((b : ℕ) (c : List ℕ) → Q b c → Q' b c)
    → Known s r S' T' P' Q'
known_less {s} S' T' P' Q' known fs ft fp fq = record {
  super_leaves = λ c one. fs c (known.super_leaves c one);
  super_reads = ft (newest s 1) known.super_reads;
  leaves = λ b c pos fits may. fp b c (known.leaves b c pos fits may);
  reads = λ b c pos fits read. fq b c (known.reads b c pos fits read);
}

-- sectors that a write doesn't name
kept_contents : (s : State) (at k : ℕ) (bytes : List ℕ) → names at bytes k ≡ false → (written s at bytes).contents k ≡ s.contents k
kept_contents s at k bytes off = cond-false (names at bytes k) (sector (k - at) bytes ∷ s.contents k) (s.contents k) off

module _ (s : State) (r b at : ℕ) (bytes : List ℕ) (others : (j : ℕ) → j < r → names at bytes (r * b + j) ≡ false) where
  kept_may_be : (c : List ℕ) → MayBe (written s at bytes) r b c → MayBe s r b c
  kept_may_be c may = record { long = may.long; each = λ j lt. subst (λ cs. IsOneOf cs (sector j c)) (kept_contents s at (r * b + j) bytes (others j lt)) (may.each j lt) }

  kept_is_read : (c : List ℕ) → IsRead (written s at bytes) r b c → IsRead s r b c
  kept_is_read c read = record { long = read.long; each = λ j lt. read.each j lt ∙ ap (λ cs. get_or cs 0 []) (kept_contents s at (r * b + j) bytes (others j lt)) }

-- a write of the superblock's sector
super_others : (r b j : ℕ) (bytes : List ℕ) → 2 ≤ r → 1 ≤ b → length bytes ≡ 512 → names 1 bytes (r * b + j) ≡ false
super_others r b j bytes two pos long = names_after 1 (r * b + j) bytes (let le : r * 1 ≤ r * b = mul-le-mul_left r pos in omega (arith, long, two, le))

pub known_super_written : {s : State} {r : ℕ} {S T : List ℕ → Type 0} {P Q : ℕ → List ℕ → Type 0} (S' T' : List ℕ → Type 0) (bytes : List ℕ) → 2 ≤ r → length bytes ≡ 512 → Known s r S T P Q
    → ((c : List ℕ) → S c → S' c) → S' bytes → T' bytes → Known (written s 1 bytes) r S' T' P Q
known_super_written {s} {r} S' T' bytes two long known fs left read =
    let named = names_inside 1 1 bytes (omega arith) (omega (arith, long)) in
    let is : (written s 1 bytes).contents 1 ≡ sector (1 - 1) bytes ∷ s.contents 1 = cond-true (names 1 bytes 1) (sector (1 - 1) bytes ∷ s.contents 1) (s.contents 1) named in
    let here : sector (1 - 1) bytes ≡ bytes = one_sector bytes (1 - 1) long (omega arith) in
    record {
      super_leaves = subst (λ cs. (c : List ℕ) → IsOneOf cs c → S' c) (sym is) (λ c one. ⊎_elim (λ e. subst S' (sym (e ∙ here)) left) (λ was. fs c (known.super_leaves c was)) one);
      super_reads = subst (λ cs. T' (get_or cs 0 [])) (sym is) (subst T' (sym here) read);
      leaves = λ b c pos fits may. known.leaves b c pos fits (kept_may_be s r b 1 bytes (λ j lt. super_others r b j bytes two pos long) c may);
      reads = λ b c pos fits read. known.reads b c pos fits (kept_is_read s r b 1 bytes (λ j lt. super_others r b j bytes two pos long) c read);
    }

-- a write of one block
block_others : (r a b j : ℕ) (bytes : List ℕ) → length bytes ≡ 512 * r → b ≢ a → j < r → names (r * a) bytes (r * b + j) ≡ false
block_others r a b j bytes long other lt =
    ⊎_elim (λ below. names_before (r * a) (r * b + j) bytes (let le : r * (b + 1) ≤ r * a = mul-le-mul_left r (let l : b + 1 ≤ a = omega (arith, below) in l) in omega (arith, le, lt)))
    (λ ge. names_after (r * a) (r * b + j) bytes (let le : r * (a + 1) ≤ r * b = mul-le-mul_left r (let l : a + 1 ≤ b = omega (arith, ge, other) in l) in omega (arith, le, long)))
    (cases_lt b a)

pub known_block_written : {s : State} {r : ℕ} {S T : List ℕ → Type 0} {P Q : ℕ → List ℕ → Type 0} (P' Q' : ℕ → List ℕ → Type 0) (a : ℕ) (bytes : List ℕ) → 2 ≤ r → 1 ≤ a → length bytes ≡ 512 * r → Known s r S T P Q
    → ((b : ℕ) (c : List ℕ) → b ≢ a → P b c → P' b c) → ((b : ℕ) (c : List ℕ) → b ≢ a → Q b c → Q' b c) → ((c : List ℕ) → P' a c) → Q' a bytes
    → Known (written s (r * a) bytes) r S T P' Q'
known_block_written {s} {r} {S} {T} P' Q' a bytes two pos_a long known fp fq free read =
    let out : names (r * a) bytes 1 ≡ false = names_before (r * a) 1 bytes (let le : r * 1 ≤ r * a = mul-le-mul_left r pos_a in omega (arith, le, two)) in
    let is = kept_contents s (r * a) 1 bytes out in
    record {
      super_leaves = subst (λ cs. (c : List ℕ) → IsOneOf cs c → S c) (sym is) known.super_leaves;
      super_reads = subst (λ cs. T (get_or cs 0 [])) (sym is) known.super_reads;
      leaves = λ b c pos fits may. ⊎_elim (λ here. subst (λ (n : ℕ). P' n c) (sym here) (free c))
          (λ other. fp b c other (known.leaves b c pos fits (kept_may_be s r b (r * a) bytes (λ j lt. block_others r a b j bytes long other lt) c may)))
          (cases_eq b a);
      reads = λ b c pos fits is_read. ⊎_elim
          (λ here.
          let at_a : IsRead (written s (r * a) bytes) r a c = subst (λ (n : ℕ). IsRead (written s (r * a) bytes) r n c) here is_read in
          let same : bytes ≡ c = same_sectors r bytes c (long ∙ sym at_a.long) (omega (arith, long))
          (λ j lt.
          let named = names_inside (r * a) (r * a + j) bytes (omega arith) (omega (arith, long, lt)) in
          let e : j ≡ r * a + j - r * a = omega arith in
          ap (λ (i : ℕ). sector i bytes) e ∙ sym (ap (λ cs. get_or cs 0 []) (cond-true (names (r * a) bytes (r * a + j)) (sector (r * a + j - r * a) bytes ∷ s.contents (r * a + j)) (s.contents (r * a + j)) named)) ∙ sym (at_a.each j lt)) in
          subst (λ (n : ℕ). Q' n c) (sym here) (subst (Q' a) same read))
          (λ other. fq b c other (known.reads b c pos fits (kept_is_read s r b (r * a) bytes (λ j lt. block_others r a b j bytes long other lt) c is_read)))
          (cases_eq b a);
    }
