-- Words skipped byte by byte.
use Rattle.std.proofs.Common.{◌≡◌, ◌<◌, ◌≤◌, ℕ, zero, suc, ◌+◌, ◌-◌, ◌*◌, List, [], ◌∷◌, ◌++◌, length, length-drop, drop, get_or, ap, refl, sym, ◌∙◌, arith, Bool, true, false, ◌==◌, ◌&&◌, not, nat_le, Option, Some, None, if◌then◌else◌, nat_lt}
use Rattle.std.specs.Option.{is_some, option_map}
use Rattle.std.proofs.lemmas.List.{drop_more, drop_all}
use Rattle.bfs_tree.specs.Listings.{code_of, bytes_of_key}
use Rattle.bfs_tree.specs.declared.rows.Key.{Key}
use Rattle.bfs_tree.specs.declared.rows.Key.TheVariants as keys
use Rattle.bfs_base.specs.declared.kind.KeyKind.TheVariants as kinds
use Rattle.bfs_text.specs.Cutting.{joined, cut_at}
use Rattle.bfs_text.specs.Words.{both, where_, hex_of, byte_of, put_first, unescaped, escaped, hex_bytes, name_of, part_before, before, parts_of, names_of, path_of, not_root, node_of, keyed, text_bytes, is_number_code}
use Rattle.bfs_text.specs.Skips.{behind_digits, behind_byte, are_more, is_path_left}

-- ---- one byte

module _ (word : List ℕ) (at : ℕ) (inside : at < length word) where
  opened_skip : (get_or word at 0 == 37) ≡ true → behind_byte (drop at word) ≡ behind_digits (drop (at + 1) word)
  opened_skip test = ap behind_byte (drop_more word at 0 inside) ∙ rw test refl

  digits_short : (bs : List ℕ) → length bs < 2 → behind_digits bs ≡ None
  digits_short [] few = refl
  digits_short (b ∷ []) few = refl
  digits_short (b ∷ c ∷ bs) few = absurd (omega (arith, few))

  pub short_skip : (get_or word at 0 == 37) ≡ true → length word - at < 3 → behind_byte (drop at word) ≡ None
  short_skip test few = opened_skip test ∙ digits_short (drop (at + 1) word) (let l = length-drop (at + 1) word in omega (arith, l, few, inside))

-- ---- words

put_some : (b : Option ℕ) (more : Option (List ℕ)) → is_some (put_first b more) ≡ (is_some b && is_some more)
put_some None more = refl
put_some (Some b) None = refl
put_some (Some b) (Some bs) = refl

-- a test of what stands behind a byte
abbrev pub passes : (List ℕ → Bool) → Option (List ℕ) → Bool
passes test None = false
passes test (Some bs) = test bs

passes_where : (test : List ℕ → Bool) (t : Bool) (bs : List ℕ) → passes test (where_ t bs) ≡ (t && test bs)
passes_where test true bs = refl
passes_where test false bs = refl

escaped_skip : (bs : List ℕ) → is_some (escaped bs) ≡ passes (λ (l : List ℕ). is_some (unescaped l)) (behind_digits bs)
escaped_skip [] = refl
escaped_skip (c ∷ []) = refl
escaped_skip (c ∷ d ∷ bs) = put_some (byte_of false c d) (unescaped bs) ∙ sym (passes_where (λ (l : List ℕ). is_some (unescaped l)) (is_some (byte_of false c d)) bs)

unescaped_skip : (b : ℕ) (bs : List ℕ) → is_some (unescaped (b ∷ bs)) ≡ passes (λ (l : List ℕ). is_some (unescaped l)) (behind_byte (b ∷ bs))
unescaped_skip b bs = by_test (b == 37) refl
  where
    by_test : (t : Bool) → (b == 37) ≡ t → is_some (unescaped (b ∷ bs)) ≡ passes (λ (l : List ℕ). is_some (unescaped l)) (behind_byte (b ∷ bs))
    by_test true test = rw test (escaped_skip bs)
    by_test false test = rw test (put_some (Some b) (unescaped bs))

-- a byte more of a word
pub word_step : (word : List ℕ) (at : ℕ) → at < length word → is_some (unescaped (drop at word)) ≡ passes (λ (l : List ℕ). is_some (unescaped l)) (behind_byte (drop at word))
word_step word at inside = rw (drop_more word at 0 inside) (unescaped_skip (get_or word at 0) (drop (at + 1) word))

-- ---- pairs

pub pairs_step : (word : List ℕ) (at : ℕ) → at < length word → 2 ≤ length word - at
    → is_some (hex_bytes (drop at word)) ≡ (is_some (byte_of true (get_or word at 0) (get_or word (at + 1) 0)) && is_some (hex_bytes (drop (at + 2) word)))
pairs_step word at inside enough =
    let second : at + 1 < length word = omega (arith, enough) in
    let two : at + 1 + 1 ≡ at + 2 = omega arith in
    ap (λ (l : List ℕ). is_some (hex_bytes l)) (drop_more word at 0 inside ∙ ap (λ (l : List ℕ). get_or word at 0 ∷ l) (drop_more word (at + 1) 0 second))
    ∙ put_some (byte_of true (get_or word at 0) (get_or word (at + 1) 0)) (hex_bytes (drop (at + 1 + 1) word))
    ∙ ap (λ (n : ℕ). is_some (byte_of true (get_or word at 0) (get_or word (at + 1) 0)) && is_some (hex_bytes (drop n word))) two

-- ---- paths

part_some : (name : Option (List ℕ)) (more : Option (List (List ℕ))) → is_some (part_before name more) ≡ (is_some name && is_some more)
part_some None more = refl
part_some (Some name) None = refl
part_some (Some name) (Some names) = refl

-- a part that has begun is a name where its bytes are
begun : (b : ℕ) (pieces : List (List ℕ)) → is_some (parts_of (joined b pieces)) ≡ are_more (joined b pieces)
begun b [] = part_some (unescaped (b ∷ [])) (Some [])
begun b (piece ∷ pieces) = part_some (unescaped (b ∷ piece)) (parts_of pieces)

-- a byte that isn't a slash begins a part, or goes on with it
either_way : (fresh : Bool) (b : ℕ) (bs : List ℕ) → (b == 47) ≡ false → is_path_left fresh (b ∷ bs) ≡ are_more (joined b (cut_at 47 bs))
either_way true b bs other = rw other (begun b (cut_at 47 bs))
either_way false b bs other = rw other refl

no_byte : (c d : ℕ) → hex_of false c ≡ None → is_some (byte_of false c d) ≡ false
no_byte c d none = ap (λ (o : Option ℕ). is_some (option_map (λ (p : ℕ × ℕ). 16 * p.0 + p.1) (both o (hex_of false d)))) none

no_byte_low : (c d : ℕ) → hex_of false d ≡ None → is_some (byte_of false c d) ≡ false
no_byte_low c d none = by_high (hex_of false c) refl
  where
    by_high : (o : Option ℕ) → hex_of false c ≡ o → is_some (byte_of false c d) ≡ false
    by_high None is = no_byte c d is
    by_high (Some h) is = ap (λ (o : Option ℕ). is_some (option_map (λ (p : ℕ × ℕ). 16 * p.0 + p.1) (both o (hex_of false d)))) is ∙ ap (λ (o : Option ℕ). is_some (option_map (λ (p : ℕ × ℕ). 16 * p.0 + p.1) (both (Some h) o))) none

slash_hex : (d : ℕ) → (d == 47) ≡ true → hex_of false d ≡ None
slash_hex d is = let e : d ≡ 47 = grind (arith, is) in ap (hex_of false) e

more_escape : (c d : ℕ) (pieces : List (List ℕ)) → are_more (joined 37 (joined c (joined d pieces))) ≡ (is_some (byte_of false c d) && are_more pieces)
more_escape c d [] = ap (λ (t : Bool). t && true) (put_some (byte_of false c d) (Some [])) ∙ and_true (is_some (byte_of false c d))
  where
    and_true : (t : Bool) → ((t && true) && true) ≡ (t && true)
    and_true true = refl
    and_true false = refl
more_escape c d (piece ∷ pieces) =
    ap (λ (t : Bool). t && is_some (parts_of pieces)) (put_some (byte_of false c d) (unescaped piece)) ∙ and_assoc (is_some (byte_of false c d)) (is_some (unescaped piece)) (is_some (parts_of pieces))
  where
    and_assoc : (t u v : Bool) → ((t && u) && v) ≡ (t && (u && v))
    and_assoc true u v = refl
    and_assoc false u v = refl

-- an escape in a part
escape_step : (bs : List ℕ) → are_more (joined 37 (cut_at 47 bs)) ≡ passes (is_path_left false) (behind_digits bs)
escape_step [] = refl
escape_step (c ∷ []) = by_test (c == 47) refl
  where
    by_test : (t : Bool) → (c == 47) ≡ t → are_more (joined 37 (cut_at 47 (c ∷ []))) ≡ false
    by_test true test = rw test refl
    by_test false test = rw test refl
escape_step (c ∷ d ∷ bs) = by_first (c == 47) refl ∙ sym (passes_where (is_path_left false) (is_some (byte_of false c d)) bs)
  where
    none : is_some (byte_of false c d) ≡ false → false ≡ (is_some (byte_of false c d) && is_path_left false bs)
    none is = ap (λ (t : Bool). t && is_path_left false bs) (sym is)

    by_second : (u : Bool) → (c == 47) ≡ false → (d == 47) ≡ u → are_more (joined 37 (cut_at 47 (c ∷ d ∷ bs))) ≡ (is_some (byte_of false c d) && is_path_left false bs)
    by_second true other test = rw (other, test) (none (no_byte_low c d (slash_hex d test)))
    by_second false other test = rw (other, test) (more_escape c d (cut_at 47 bs))

    by_first : (t : Bool) → (c == 47) ≡ t → are_more (joined 37 (cut_at 47 (c ∷ d ∷ bs))) ≡ (is_some (byte_of false c d) && is_path_left false bs)
    by_first true test = rw test (none (no_byte c d (slash_hex c test)))
    by_first false test = by_second (d == 47) test refl

-- any other byte in a part
plain_more : (b : ℕ) (pieces : List (List ℕ)) → (b == 37) ≡ false → are_more (joined b pieces) ≡ are_more pieces
plain_more b [] other = rw other refl
plain_more b (piece ∷ pieces) other = rw other (ap (λ (t : Bool). t && is_some (parts_of pieces)) (put_some (Some b) (unescaped piece)))

part_step : (fresh : Bool) (b : ℕ) (bs : List ℕ) → (b == 47) ≡ false → is_path_left fresh (b ∷ bs) ≡ passes (is_path_left false) (behind_byte (b ∷ bs))
part_step fresh b bs other = either_way fresh b bs other ∙ by_escape (b == 37) refl
  where
    by_escape : (t : Bool) → (b == 37) ≡ t → are_more (joined b (cut_at 47 bs)) ≡ passes (is_path_left false) (behind_byte (b ∷ bs))
    by_escape true test = let e : b ≡ 37 = grind (arith, test) in rw test (ap (λ (n : ℕ). are_more (joined n (cut_at 47 bs))) e ∙ escape_step bs)
    by_escape false test = rw test (plain_more b (cut_at 47 bs) test)

-- a byte more of a path
pub path_step : (fresh : Bool) (word : List ℕ) (at : ℕ) → at < length word → (get_or word at 0 == 47) ≡ false → is_path_left fresh (drop at word) ≡ passes (is_path_left false) (behind_byte (drop at word))
path_step fresh word at inside other = rw (drop_more word at 0 inside) (part_step fresh (get_or word at 0) (drop (at + 1) word) other)

-- ---- nodes

root_less : (name : Option (List ℕ)) (more : Option (List (List ℕ))) → is_some (not_root (part_before name more)) ≡ is_some (part_before name more)
root_less None more = refl
root_less (Some name) None = refl
root_less (Some name) (Some names) = refl

joined_some : (b : ℕ) (pieces : List (List ℕ)) → is_some (not_root (parts_of (joined b pieces))) ≡ is_some (parts_of (joined b pieces))
joined_some b [] = root_less (unescaped (b ∷ [])) (Some [])
joined_some b (piece ∷ pieces) = root_less (unescaped (b ∷ piece)) (parts_of pieces)

cut_some : (b : ℕ) (bs : List ℕ) → is_some (not_root (parts_of (cut_at 47 (b ∷ bs)))) ≡ is_some (parts_of (cut_at 47 (b ∷ bs)))
cut_some b bs = by_test (b == 47) refl
  where
    by_test : (t : Bool) → (b == 47) ≡ t → is_some (not_root (parts_of (cut_at 47 (b ∷ bs)))) ≡ is_some (parts_of (cut_at 47 (b ∷ bs)))
    by_test true test = rw test refl
    by_test false test = rw test (joined_some b (cut_at 47 bs))

pub short_node : (word : List ℕ) → length word < 2 → is_some (node_of word) ≡ false
short_node [] short = refl
short_node (b ∷ []) short = by_test (b == 47) refl
  where
    by_test : (t : Bool) → (b == 47) ≡ t → is_some (node_of (b ∷ [])) ≡ false
    by_test true test = rw test refl
    by_test false test = rw test refl
short_node (b ∷ c ∷ bs) short = absurd (omega (arith, short))

pub long_node : (word : List ℕ) → 2 ≤ length word → is_some (node_of word) ≡ is_some (path_of word)
long_node [] long = absurd (omega (arith, long))
long_node (b ∷ []) long = absurd (omega (arith, long))
long_node (b ∷ c ∷ bs) long = by_test (b == 47) refl
  where
    by_test : (t : Bool) → (b == 47) ≡ t → is_some (node_of (b ∷ c ∷ bs)) ≡ is_some (path_of (b ∷ c ∷ bs))
    by_test true test = rw test (cut_some c bs)
    by_test false test = rw test refl

-- ---- keys and values

pub map_some : {A B : Type 0} (f : A → B) (o : Option A) → is_some (option_map f o) ≡ is_some o
map_some f None = refl
map_some f (Some a) = refl

pub text_other : (code : ℕ) (text : List ℕ) → is_number_code code ≡ false → is_some (text_bytes code text) ≡ is_some (unescaped text)
text_other code text other = by_text (code == code_of kinds.Text) refl
  where
    by_text : (t : Bool) → (code == code_of kinds.Text) ≡ t → is_some (text_bytes code text) ≡ is_some (unescaped text)
    by_text true test = rw (other, test) (map_some (λ (bytes : List ℕ). bytes ++ (0 ∷ [])) (unescaped text))
    by_text false test = rw (other, test) refl
