-- What a name is that isn't bad, and a key that an attribute gives.
use Rattle.std.proofs.Common.{◌≡◌, ◌≤◌, ℕ, List, [], ◌∷◌, length, length-take, take, Bool, true, false, cond, Option, Some, None, refl, sym, subst, arith}
use Rattle.std.specs.Prelude.{◌==◌, ◌||◌, not, IfSome, IfOk, Result, Ok, Err}
use Rattle.std.specs.List.{take_while}
use Rattle.std.specs.Str.{bytes_eq}
use Rattle.bfs_base.specs.Keys.{IsKey}
use Rattle.bfs_base.specs.declared.kind.KeyKind.{KeyKind}
use Rattle.bfs_base.specs.declared.kind.KeyKind.TheVariants.{Text, I32, U32, I64, U64, F32, F64}
use Rattle.bfs_tree.specs.Listings.{key_of_bytes, of_length, unless_empty}
use Rattle.bfs_tree.specs.Names.{is_bad_name, is_bad_attribute_name}
use Rattle.bfs_sound.specs.Attributes.{own_name}

neither : (a b : Bool) → (a || b) ≡ false → (a ≡ false) × (b ≡ false)
neither true b h = absurd (let bad : true ≡ false = h in cc)
neither false b h = (refl, h)

-- an attribute's name that isn't bad is a good name, and not that of a node's own name
pub good_name : (name : List ℕ) → is_bad_attribute_name name ≡ false → is_bad_name name ≡ false
good_name name good = (neither (is_bad_name name) (bytes_eq name own_name) good).0

pub other_name : (name : List ℕ) → is_bad_attribute_name name ≡ false → bytes_eq name own_name ≡ false
other_name name good = (neither (is_bad_name name) (bytes_eq name own_name) good).1

pub good_some : (name : List ℕ) → is_bad_name name ≡ false → 1 ≤ length name
good_some [] good = absurd (let bad : true ≡ false = good in cc)
good_some (b ∷ bs) good = omega arith

-- a text that isn't empty
some_text : (xs key : List ℕ) → unless_empty xs ≡ Some key → length xs ≤ 255 → IsKey Text key
some_text [] key is few = absurd (let bad : None ≡ Some key = is in cc)
some_text (b ∷ bs) key is few =
    let both : Some (b ∷ bs) ≡ Some key = is in
    let same : b ∷ bs ≡ key = cc in
    subst (λ (k : List ℕ). IsKey Text k) same (omega arith, few)

text_fits : (bytes key : List ℕ) → key_of_bytes Text bytes ≡ Some key → IsKey Text key
text_fits bytes key is =
    let all = take_while (λ b. not (b == 0)) bytes in
    let long = length-take 255 all in
    some_text (take 255 all) key is (omega (arith, long))

-- so many bytes are a number's
number_fits : (n : ℕ) (bytes key : List ℕ) → of_length n bytes ≡ Some key → length key ≡ n
number_fits n bytes key is = by_test (length bytes == n) refl is
  where
    by_test : (t : Bool) → (length bytes == n) ≡ t → cond t (Some bytes) None ≡ Some key → length key ≡ n
    by_test true e is = let same : bytes ≡ key = (let both : Some bytes ≡ Some key = is in cc) in subst (λ (k : List ℕ). length k ≡ n) same (grind (arith, e))
    by_test false e is = absurd (let bad : None ≡ Some key = is in cc)

key_fits : (kind : KeyKind) (bytes key : List ℕ) → key_of_bytes kind bytes ≡ Some key → IsKey kind key
key_fits Text bytes key is = text_fits bytes key is
key_fits I32 bytes key is = number_fits 4 bytes key is
key_fits U32 bytes key is = number_fits 4 bytes key is
key_fits I64 bytes key is = number_fits 8 bytes key is
key_fits U64 bytes key is = number_fits 8 bytes key is
key_fits F32 bytes key is = absurd (let bad : None ≡ Some key = is in cc)
key_fits F64 bytes key is = absurd (let bad : None ≡ Some key = is in cc)

-- a key that bytes give is one of the index's kind
pub bytes_fit : {F : Type 0} (kind : KeyKind) (bytes : List ℕ) (r : Result (Option (List ℕ)) F) → IfOk r (λ o. o ≡ key_of_bytes kind bytes) → IfOk r (λ o. IfSome o (IsKey kind))
bytes_fit kind bytes (Ok None) is = tt
bytes_fit kind bytes (Ok (Some key)) is = key_fits kind bytes key (sym is)
bytes_fit kind bytes (Err e) is = tt
